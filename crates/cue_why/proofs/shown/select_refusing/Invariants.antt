use Rattle.std.proofs.Common.{◌≡◌}
use Rattle.std.specs.Vec.Iter.{into_iter_items}
use Rattle.cue_lattice.specs.OneOf.{OneOf}
use Rattle.cue_policies.proofs.Gains.{Left}
use Rattle.cue_why.specs.Inner.Parts.{IsIn}
use Rattle.cue_why.specs.Inner.Saying.{RefusesAny}
use Rattle.cue_why.specs.declared.part.WrittenPart.{WrittenPart}
use Rattle.cue_why.proofs.shown.select_refusing.Given as goal

-- what was kept, and what is kept of those that are left, is all
abbrev pub invariant-loop-part : goal.invariant-loop-part
invariant-loop-part l =
    (one : WrittenPart)
    → Left (IsIn one l.kept.items) (λ part. (part ≡ one) × RefusesAny l.kind part) (into_iter_items l.part-iterator) (OneOf (λ part. (part ≡ one) × RefusesAny l.kind part) l.fn.parts.items)
