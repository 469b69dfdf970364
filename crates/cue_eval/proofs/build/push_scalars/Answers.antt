use Rattle.std.proofs.Common.{sym, subst, ◌∙◌}
use Rattle.cue_eval.specs.Inner.Parts.{AreJoined}
use Rattle.cue_eval.proofs.Joined.{some_there, joined_all}
use Rattle.cue_eval.proofs.build.push_scalars.Goals as goal

pub returns : goal.returns
returns c =
    subst (λ xs. AreJoined c.args.tables.now.items c.args.scalars.items xs) (sym c.in_ok-push.ensures.items)
    (joined_all c.args.tables.now.items c.args.scalars.items c.in_ok-joined.joined c.in_ok-scalar_table.field-0 (some_there c.args.scalars (sym c.is_empty.ensures ∙ c.if-is_empty.false)) c.in_ok-joined.ensures c.in_ok-scalar_table.ensures.answers)
