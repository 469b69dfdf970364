-- The nodes of a draft where a row comes, by what the steps of it tell.
use Rattle.std.proofs.Common.{◌≡◌, ◌+◌, ◌≤◌, ℕ, List, [], ◌∷◌, ◌++◌, length, take, drop, Some, false, true, refl, sym, subst, inl, inr, ⊎_elim}
use Rattle.std.specs.Prelude.{◌⊎◌}
use Rattle.std.specs.List.{AllByRecursion}
use Rattle.cue_lattice.specs.Limits.{step_limit}
use Rattle.cue_table.specs.Form.{IsTreeTaken, IsTree}
use Rattle.cue_table.specs.Slots.{Slot, Place}
use Rattle.cue_table.specs.Tree.{Tree, node, none, no_rest, empty}
use Rattle.cue_table.specs.Inner.Drafts.{opened_along, staying_count, IsClosedInto, IsExtendedBy, LeadsOn}
use Rattle.cue_table.specs.Inner.Opened.{close_trees, IsDraft, IsOpen}
use Rattle.cue_table.proofs.Beyond.{unclosed}
use Rattle.cue_table.proofs.Drafting.{appended, appended_first, led_up, left_few, left_opened, left_taken, one_less_form, opened_further}

module _ {R : Type 0} (P : R → Type 0) (above : List (Tree R × Slot)) (last : Tree R) (place : Place) (row : R) (n : ℕ) (d : IsDraft P above last) (stay : staying_count above place ≡ Some n) where
  -- all that does not stay open is in no form
  pub goes_none : (left : List (Tree R × Slot)) (tree end : Tree R) → IsClosedInto P above last (n + 1) left tree false → IsExtendedBy P above last place row left end false
  goes_none left tree end not = unclosed P above last place row n d stay (λ h. not (one_less_form P n above last h))

  -- ---- all but one of these nodes were closed
  module _ (left : List (Tree R × Slot)) (tree : Tree R) (closes : IsClosedInto P above last (n + 1) left tree true) where
    pub goes_opened : AllByRecursion (IsOpen P) left
    goes_opened = left_opened P (n + 1) above left closes.0 d.opened

    pub goes_form : IsTree P tree
    goes_form = let c = closes.1 in subst (IsTree P) (sym c.0) c.1

    pub goes_taken : (left ≡ []) ⊎ IsTreeTaken tree
    goes_taken = let c = closes.1 in left_taken (n + 1) above left last tree closes.0 c.0 (⊎_elim (λ none. inl none.0) (λ t. inr t) d.taken)

    pub goes_few : length left ≤ n + 1
    goes_few = left_few (n + 1) above left closes.0

    -- that one is in no form
    pub goes_no_further : (new : List (Tree R × Slot)) (slot : Slot) (end : Tree R) → LeadsOn P (take n left) (close_trees (drop n left) tree) slot new false → IsExtendedBy P above last place row new end false
    goes_no_further new slot end h = unclosed P above last place row n d stay (let c = closes.1 in led_up P n above left new last tree slot false closes.0 c.0 h)

    module _ (end : Tree R) (end_is : end ≡ node (Some row) none no_rest) (not : drop n place ≡ [] → IsTreeTaken last → ⊥) (few : length place ≤ step_limit) (kept : P row) where
      -- no node is open
      pub goes_first : drop n place ≡ [] → IsExtendedBy P above last place row left end true
      goes_first e = appended_first P above left last place row n end d stay closes.0 e not end_is few kept

      -- one goes on, and others are opened below it
      pub goes_further :
          (mid all : List (Tree R × Slot)) (slot : Slot) (further : Place) → slot ∷ further ≡ drop n place → LeadsOn P (take n left) (close_trees (drop n left) tree) slot mid true → all ≡ mid ++ opened_along empty further → IsExtendedBy P above last place row all end true
      goes_further mid all slot further way h e =
          let c = closes.1 in
          let led = led_up P n above left mid last tree slot true closes.0 c.0 h in
          appended P above last place row n (take n above) all (close_trees (drop n above) last) end (slot ∷ further) d stay refl refl way (opened_further (take n above) mid all (close_trees (drop n above) last) slot further led.0 e) end_is led.1 not few kept
