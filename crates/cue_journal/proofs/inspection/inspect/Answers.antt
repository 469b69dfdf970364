use Rattle.std.proofs.Common.{ℕ, List, All, map, IfSome, subst, ◌∙◌}
use Rattle.cue_journal.specs.Found.{IsInFrame}
use Rattle.cue_journal.specs.Frames.{IsSound}
use Rattle.cue_journal.proofs.Found.{if_ok_more}
use Rattle.cue_journal.proofs.inspection.inspect.Goals as goal

pub returns-clause-damaged : goal.returns-clause-damaged
returns-clause-damaged g c = if_ok_more c.inspect_bytes.result c.inspect_bytes.ensures.damaged
    (λ found there clean. subst (λ (f : List ℕ). IfSome found.damage (λ _. ¬ IsSound f)) (c.deref.ensures.value ∙ c.in_ok-bytes.ensures.bytes clean) there)

pub returns-clause-behind : goal.returns-clause-behind
returns-clause-behind g c = if_ok_more c.inspect_bytes.result c.inspect_bytes.ensures.behind
    (λ found there clean. subst (λ (f : List ℕ). All (IsInFrame f) (map (λ v. v.items) found.behind.items)) (c.deref.ensures.value ∙ c.in_ok-bytes.ensures.bytes clean) there)
