use Rattle.std.proofs.Common.{pos, w64, sym, subst, ◌∙◌, rules}
use Rattle.std.specs.Prelude.{FitsSigned, slice_index_or}
use Rattle.std.proofs.lemmas.Int.{to_z-of_z}
use Rattle.cue_sets.specs.Pieces.{least, IsCanonical, IsFirstMember}
use Rattle.cue_sets.specs.PieceLaws.{first_is_least}
use Rattle.cue_sets.proofs.int_set.IntSet.first.Goals as goal

pub returns-in-len1-up-clause-some : goal.returns-in-len1-up-clause-some
returns-in-len1-up-clause-some c =
    let pieces = c.as_slice.result.now in
    let fits : FitsSigned w64 (slice_index_or pieces 0 (pos 0, pos 0)).0 = search rules in
    rw (to_z-of_z w64 _ fits)
    (subst (λ xs. IsFirstMember xs (slice_index_or pieces 0 (pos 0, pos 0)).0) (c.as_slice.ensures ∙ c.self.view_is)
    (first_is_least least pieces (pos 0, pos 0) (subst IsCanonical (sym c.as_slice.ensures) c.self.invariant) c.in-len1-up.len_at_least))
