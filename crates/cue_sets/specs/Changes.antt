-- What becomes of a set of texts into which another one is unified.
use Rattle.std.specs.Prelude.{◌≡◌, ◌↔◌, ◌⊎◌, ◌+◌, ◌≤◌, ◌&&◌, ◌||◌, ℕ, Bool, true, List, [], length}
use Rattle.std.specs.Prelude.{Vec}
use Rattle.std.specs.Global.{Global}
use Rattle.std.specs.Vec.{vec_capacity}
use Rattle.cue_sets.specs.Texts.{is_listed, is_text_member, RefusesText}
use Rattle.cue_sets.specs.declared.text_change.TextChange.{TextChange}
use Rattle.cue_sets.specs.declared.text_change.TextChange.TheVariants.{Stay, Become, Keep, Lack}

-- The set is all texts but some, and so many more than these fit into the room, which is empty.
abbrev pub CanLack : Bool × List (List ℕ) → ℕ → Vec (List ℕ) Global → Type 0
CanLack before count room =
    (before.0 ≡ true) × (room.items ≡ []) × (length before.1 + count ≤ vec_capacity room)

-- a change makes one set of another; where texts cannot be lacked too, the set stays as it is
abbrev pub IsChanged : TextChange → Bool × List (List ℕ) → Bool × List (List ℕ) → Type 0
IsChanged Stay before after = after ≡ before
IsChanged (Become set) before after = after ≡ set
IsChanged (Keep set) before after =
    (after.0 ≡ before.0)
    × ((text : List ℕ)
    → is_listed after.1 text ≡ (is_listed before.1 text && is_text_member set text))
IsChanged (Lack texts room) before after =
    (CanLack before (length texts.items) room
    → (after.0 ≡ true)
    × ((text : List ℕ)
    → is_listed after.1 text ≡ (is_listed before.1 text || is_listed texts.items text)))
    × (¬ CanLack before (length texts.items) room → after ≡ before)

-- the set that a change makes refuses exactly what one of two sets does
abbrev pub Unifies : TextChange → Bool × List (List ℕ) → Bool × List (List ℕ) → Type 0
Unifies change before other =
    (after : Bool × List (List ℕ)) → IsChanged change before after
    → (text : List ℕ) → RefusesText after text ↔ (RefusesText before text ⊎ RefusesText other text)
