use Rattle.std.proofs.Common.{ap, sym, ◌∙◌, subst, All, rules}
use Rattle.std.specs.List.Sorted.{IsSortedByKey}
use Rattle.std.specs.Ordering.{int_cmp}
use Rattle.std.proofs.lemmas.Fn.{always_returns_same}
use Rattle.std.proofs.lemmas.List.Sorted.{All-permutation}
use Rattle.cue_sets.specs.Pieces.{is_member}
use Rattle.cue_sets.specs.Inner.Sorted.{IsPiece}
use Rattle.cue_sets.proofs.United.{is_member-permutation}
use Rattle.cue_sets.proofs.int_set.IntSet.unite_pieces.Goals as goal

pub unite-requires-clause-sorted : goal.unite-requires-clause-sorted
unite-requires-clause-sorted c =
    subst (IsSortedByKey (λ piece. piece.0) int_cmp) (sym c.as_slice.ensures.value)
    (c.sort_unstable_by_key.ensures.sorted (λ piece. piece.0) (always_returns_same _ _ _ (λ a r f k. search rules)))

pub unite-requires-clause-pieces : goal.unite-requires-clause-pieces
unite-requires-clause-pieces c =
    subst (All IsPiece) (sym c.as_slice.ensures.value)
    (All-permutation IsPiece c.args.pieces.items c.sort_unstable_by_key.new.self.items c.sort_unstable_by_key.ensures.permutation c.requires)

pub returns : goal.returns
returns c = λ n.
    ap (λ pieces. is_member pieces n) c.of.ensures
    ∙ c.in_ok-unite.ensures.members n
    ∙ ap (λ pieces. is_member pieces n) c.as_slice.ensures.value
    ∙ is_member-permutation c.args.pieces.items c.sort_unstable_by_key.new.self.items n c.sort_unstable_by_key.ensures.permutation
