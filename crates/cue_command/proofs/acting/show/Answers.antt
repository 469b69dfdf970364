use Rattle.std.proofs.Common.{subst, sym}
use Rattle.cue_program.specs.Outlets.{passage_of}
use Rattle.cue_command.specs.declared.acting.Reply.{Reply}
use Rattle.cue_command.specs.declared.fault.CommandError.{CommandError}
use Rattle.cue_command.specs.Faults.{EndsByFault}
use Rattle.cue_command.specs.inner.Replies.{EndsByReply}
use Rattle.cue_command.proofs.Replies.{answer_not_told}
use Rattle.cue_command.proofs.acting.show.Goals as goal

pub returns-in-Err-write_out : goal.returns-in-Err-write_out
returns-in-Err-write_out g c =
    let contents = g.W.Write.contents in
    let complaints = passage_of g.F.Write.contents c.args.faults.now c.report-in-Err-write_out.new.faults in
    let status = c.report-in-Err-write_out.result in
    subst (λ (reply : Reply). EndsByReply reply (passage_of contents c.args.out.now c.report-in-Err-write_out.new.out) complaints status) (sym c.in-Site.is)
    (answer_not_told contents c.args.out.now c.write_out-in-Site.new.out c.report-in-Err-write_out.new.out c.in-Site.question c.in-Site.site c.in-Err-write_out.stop status
    complaints c.in-Err-write_out.ensures.cut
    (subst (λ (fault : CommandError). EndsByFault fault status (passage_of contents c.write_out-in-Site.new.out c.report-in-Err-write_out.new.out) complaints) c.from.ensures c.report-in-Err-write_out.ensures))
