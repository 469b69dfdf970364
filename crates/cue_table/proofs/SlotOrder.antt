-- The order of slots and of places.
use Rattle.std.proofs.Common.{◌≡◌, ◌∷◌, rules, refl, ap, ◌∙◌}
use Rattle.std.specs.Ordering.{ordering_reverse, ordering_then}
use Rattle.std.proofs.lemmas.Cmp.{nat_cmp_total}
use Rattle.std.specs.declared.cmp.Ordering.{Ordering}
use Rattle.std.specs.declared.cmp.Ordering.TheVariants.{Less, Equal}
use Rattle.cue_table.specs.Slots.{Slot, at, from, slot_cmp, Place, place_cmp}
use Rattle.cue_table.proofs.Order.{step_total, equal_steps}
use Rattle.cue_table.proofs.Finding.{same_step}

-- a slot compares as equal with itself
pub same_slot : (x : Slot) → slot_cmp x x ≡ Equal
same_slot (at step) = same_step step
same_slot (from n) = search rules

-- slots that compare as equal are one
pub equal_slots : (x y : Slot) → slot_cmp x y ≡ Equal → x ≡ y
equal_slots (at s) (at t) h = ap at (equal_steps s t h)
equal_slots (from m) (from n) h = ap from (search rules)
equal_slots (at s) (from n) h = cc
equal_slots (from m) (at t) h = cc

-- two slots compare the other way round when they are exchanged
pub reverse_slots : (x y : Slot) (o : Ordering) → slot_cmp x y ≡ o → slot_cmp y x ≡ ordering_reverse o
reverse_slots (at s) (at t) o h = step_total.antisymm t s ∙ ap ordering_reverse h
reverse_slots (from m) (from n) o h = nat_cmp_total.antisymm n m ∙ ap ordering_reverse h
reverse_slots (at s) (from n) o h = ap ordering_reverse h
reverse_slots (from m) (at t) o h = ap ordering_reverse h

pub slots_trans : (x y z : Slot) → slot_cmp x y ≡ Less → slot_cmp y z ≡ Less → slot_cmp x z ≡ Less
slots_trans (at s) (at t) (at u) h k = step_total.trans s t u h k
slots_trans (at s) (at t) (from n) h k = refl
slots_trans (at s) (from m) (from n) h k = refl
slots_trans (from l) (from m) (from n) h k = nat_cmp_total.trans l m n h k
slots_trans (at s) (from m) (at u) h k = cc
slots_trans (from l) (at t) z h k = cc
slots_trans (from l) (from m) (at u) h k = cc

-- a place that begins with a later slot is later
pub later_slot : (x y : Slot) (p q : Place) → slot_cmp x y ≡ Less → place_cmp (x ∷ p) (y ∷ q) ≡ Less
later_slot x y p q h = ap (λ o. ordering_then o (place_cmp p q)) h

-- behind one slot the order is that of what follows
pub same_behind : (x : Slot) (p q : Place) → place_cmp (x ∷ p) (x ∷ q) ≡ place_cmp p q
same_behind x p q = ap (λ o. ordering_then o (place_cmp p q)) (same_slot x)
