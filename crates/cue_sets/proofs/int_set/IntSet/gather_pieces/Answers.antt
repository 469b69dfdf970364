use Rattle.std.proofs.Common.{◌++◌, ◌≡◌, ap, ◌∙◌, rules}
use Rattle.std.proofs.lemmas.List.Elements.{All-append}
use Rattle.cue_sets.specs.Pieces.{least, IsCanonical}
use Rattle.cue_sets.specs.Inner.Sorted.{IsPiece}
use Rattle.cue_sets.proofs.United.{pieces_of_set, members_more}
use Rattle.cue_sets.proofs.int_set.IntSet.gather_pieces.Goals as goal

pub loop-set-preserved : goal.loop-set-preserved
loop-set-preserved c =
    let made = c.loop-set.pieces.items in
    let set = c.set-item.result in
    let is : c.extend_from_slice.new.self.items ≡ made ++ set = c.in_ok-extend_from_slice.ensures.items ∙ ap (λ xs. made ++ xs) c.pieces.ensures.list in
    let canonical : IsCanonical set = c.pieces.ensures.canonical in
    rw is record {
      pieces = All-append IsPiece made set c.loop-set.invariant.pieces (pieces_of_set least set (search rules) canonical);
      members = λ n. members_more made set c.args.sets.now c.loop-set.set-index n (search rules) c.set-item.is (c.loop-set.invariant.members n);
    }
