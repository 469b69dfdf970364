use Rattle.std.proofs.Common.{ℤ, pos, of_z, w64, sym, ap, ◌∙◌, subst}
use Rattle.cue_sets.specs.Pieces.{least, IsCanonical, IsOnlyMember}
use Rattle.cue_sets.specs.PieceLaws.{several_in_one, several_pieces}
use Rattle.cue_sets.proofs.int_set.IntSet.single.Goals as goal

pub returns-in_default-2-clause-none : goal.returns-in_default-2-clause-none
returns-in_default-2-clause-none c =
    subst (λ xs. (n : ℤ) → IsOnlyMember xs n → ⊥) (c.as_slice.ensures ∙ c.self.view_is)
    (several_in_one least c.as_slice.result.now (pos 0, pos 0) (subst IsCanonical (sym c.as_slice.ensures) c.self.invariant) c.in-len1.len_at_least (λ e. c.if-first-last.false (ap (of_z w64) e)))

pub returns-in_default-3-clause-none : goal.returns-in_default-3-clause-none
returns-in_default-3-clause-none c =
    subst (λ xs. (n : ℤ) → IsOnlyMember xs n → ⊥) (c.as_slice.ensures ∙ c.self.view_is)
    (several_pieces least c.as_slice.result.now (subst IsCanonical (sym c.as_slice.ensures) c.self.invariant) c.in_default.len_at_least)
