use Rattle.std.proofs.Common.{inl, refl, subst, sym}
use Rattle.cue_program.specs.Outlets.{passage_of}
use Rattle.cue_layers_command.specs.declared.fault.LayersCommandError.{LayersCommandError}
use Rattle.cue_layers_command.specs.declared.reply.LayersReply.{LayersReply}
use Rattle.cue_layers_command.specs.Faults.{EndsByLayersFault}
use Rattle.cue_layers_command.specs.inner.Replies.{EndsByLayersReply}
use Rattle.cue_layers_command.proofs.Replies.{answer_not_told}
use Rattle.cue_layers_command.proofs.acting.show.Goals as goal

pub returns-in-Err : goal.returns-in-Err
returns-in-Err g c =
    let contents = g.W.Write.contents in
    let complaints = passage_of g.F.Write.contents c.args.faults.now c.report.new.faults in
    let status = c.report.result in
    subst (λ (reply : LayersReply). EndsByLayersReply reply (passage_of contents c.args.out.now c.report.new.out) complaints status) (sym c.in-Site.is)
    (answer_not_told contents c.args.out.now c.write_out.new.out c.report.new.out c.in-Site.question c.in-Site.site c.in-Err.stop status
    complaints c.in-Err.ensures.cut
    (subst (λ (fault : LayersCommandError). EndsByLayersFault fault status (passage_of contents c.write_out.new.out c.report.new.out) complaints) c.from.ensures (c.report.ensures (inl refl))))
