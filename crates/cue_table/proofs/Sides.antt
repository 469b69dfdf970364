-- Places on the way along their elements.
use Rattle.std.proofs.Common.{◌≡◌, ◌<◌, ◌≤◌, ℕ, sym, subst, ◌∙◌, arith}
use Rattle.cue_lattice.specs.Path.{index}
use Rattle.cue_table.specs.Tree.{Tree, step_into}
use Rattle.cue_table.specs.Inner.Alike.{AreAlike}
use Rattle.cue_table.specs.Inner.Sides.{AreFound, IsAt, found_by}
use Rattle.cue_table.specs.declared.lists.ListSide.{ListSide}

module _ {R Q : Type 0} where
  -- each element from an index up to another one is what the side has found last
  pub record HasFound (tree : Tree R) (first end : ℕ) (side : ListSide R Q) : Type 0 where
    pub place : side.place.now ≡ tree
    pub behind : first < end
    pub reaches : end ≤ side.found.end
    pub same : AreFound tree first side

  -- what stands at the index of a side is what it has found
  pub at_found : (tree : Tree R) (number : ℕ) (side : ListSide R Q) → IsAt tree number side → found_by side ≡ step_into tree (index number)
  at_found tree number side at = sym (at.same number (omega arith) at.behind)

  -- what was found at an index, and is alike up to another one
  pub is_at : (tree : Tree R) (number : ℕ) (side : ListSide R Q) → side.place.now ≡ tree → found_by side ≡ step_into tree (index number) → AreAlike number side.found.end (λ i. step_into tree (index i)) → IsAt tree number side
  is_at tree number side e found h = record { place = e; behind = h.behind; same = λ i low high. h.same i low high ∙ sym found }

  -- a side stays at its index
  pub at_own : (tree : Tree R) (number first : ℕ) (side : ListSide R Q) → IsAt tree number side → first ≡ number → IsAt side.place.now first side
  at_own tree number first side at e = subst (λ t. IsAt t first side) (sym at.place) (subst (λ n. IsAt tree n side) (sym e) at)

  -- it goes on where another index follows
  pub at_next : (tree : Tree R) (number next fixed : ℕ) (side after : ListSide R Q) → IsAt tree number side → (next < fixed → IsAt side.place.now next after) → next < fixed → IsAt tree next after
  at_next tree number next fixed side after at on low = subst (λ t. IsAt t next after) at.place (on low)
