-- Walks over the fields below a place, which write one after the other.
use Rattle.std.proofs.Common.{◌≡◌, ℕ, ◌<◌, List, ◌∷◌, Option, sym, subst}
use Rattle.cue_device.proofs.Telling.{IsTelling}
use Rattle.cue_row.specs.declared.parts.RowParts.{RowParts as Row}
use Rattle.cue_table.specs.Tree.{Tree, below, labels_of}
use Rattle.cue_table.specs.Size.{tree_size}
use Rattle.cue_table.specs.Inner.Walks.{AreSmaller, labels_smaller}

-- What is written, with the text of what is left, is the whole; and what is left is smaller than the place.
pub record IsWriting (tree : Tree Row) (items : List (List ℕ × Tree Row)) (old now : Option (List ℕ)) (left whole : List ℕ) : Type 0 where
  pub small : AreSmaller (tree_size tree) items
  pub telling : IsTelling old now left whole

pub all_small : (tree : Tree Row) (items : List (List ℕ × Tree Row)) → items ≡ labels_of (below tree) → AreSmaller (tree_size tree) items
all_small tree items e = subst (AreSmaller (tree_size tree)) (sym e) (labels_smaller tree)

pub first_small : (n : ℕ) (items others : List (List ℕ × Tree Row)) (item : List ℕ × Tree Row) → items ≡ item ∷ others → AreSmaller n items → tree_size item.1 < n
first_small n items others item e h = (subst (AreSmaller n) e h).0

pub others_small : (n : ℕ) (items others : List (List ℕ × Tree Row)) (item : List ℕ × Tree Row) → items ≡ item ∷ others → AreSmaller n items → AreSmaller n others
others_small n items others item e h = (subst (AreSmaller n) e h).1
