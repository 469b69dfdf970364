use Rattle.std.proofs.Common.{inr}
use Rattle.std.proofs.lemmas.Result.{IfErr-weaker}
use Rattle.cue_program.specs.Stops.{IsFileFault, IsReadFault}
use Rattle.cue_program.proofs.run.read_file.Goals as goal

pub returns-clause-fault : goal.returns-clause-fault
returns-clause-fault g c =
    let shelf = g.H.FileSystem in
    let source = g.H.Opened.Source in
    let file = c.in_ok-file.file in
    let after = c.read_all.new.input in
    IfErr-weaker c.read_all.result (IsReadFault (source.to_come file) (source.called file) (source.failed file) (source.called after) (source.failed after))
    (IsFileFault (shelf.has_opened c.args.rt.now c.args.name.now) (shelf.could_not_open c.args.rt.now c.args.name.now) source.to_come source.called source.failed)
    (λ stop fault. inr (file, after, c.in_ok-file.ensures.opened, fault)) c.read_all.ensures.fault
