-- Sets of texts: a finite set lists its members, and a set of all but finitely many texts lists
-- those that it lacks. A text is the list of its bytes.
use Rattle.std.specs.Prelude.{◌≡◌, ℕ, Bool, true, false, not, ◌||◌, List, [], ◌∷◌}
use Rattle.std.specs.Str.{bytes_eq}
use Rattle.std.specs.Ordering.{nat_cmp}
use Rattle.std.specs.Cmp.Lexicographic.{slice_cmp}
use Rattle.std.specs.declared.cmp.Ordering.{Ordering}
use Rattle.std.specs.declared.cmp.Ordering.TheVariants.{Less}

-- whether the text is one of the list
abbrev pub is_listed : List (List ℕ) → List ℕ → Bool
is_listed [] text = false
is_listed (first ∷ texts) text = bytes_eq first text || is_listed texts text

-- whether a text is a member, by whether it is listed; `all_but` says that all texts are members
-- but the listed ones
abbrev pub is_member_if : Bool → Bool → Bool
is_member_if false listed = listed
is_member_if true listed = not listed

-- whether the text is a member of the set
abbrev pub is_text_member : Bool × List (List ℕ) → List ℕ → Bool
is_text_member set text = is_member_if set.0 (is_listed set.1 text)

-- the order of texts, by their bytes
abbrev pub text_cmp : List ℕ → List ℕ → Ordering
text_cmp = slice_cmp nat_cmp

-- the text is below each of the list
abbrev pub IsTextBelowAll : List ℕ → List (List ℕ) → Type 0
IsTextBelowAll text [] = Unit {0}
IsTextBelowAll text (next ∷ texts) = (text_cmp text next ≡ Less) × IsTextBelowAll text texts

-- each text is below all later ones
abbrev pub IsAscending : List (List ℕ) → Type 0
IsAscending [] = Unit {0}
IsAscending (text ∷ texts) = IsTextBelowAll text texts × IsAscending texts

-- the one form in which a set of texts is kept
abbrev pub IsTextSet : Bool × List (List ℕ) → Type 0
IsTextSet set = IsAscending set.1

-- A set of texts refuses the texts that are no members.
abbrev pub RefusesText : Bool × List (List ℕ) → List ℕ → Type 0
RefusesText set text = is_text_member set text ≡ false

-- the text is in the set, and no other is
pub record IsOnlyText (set : Bool × List (List ℕ)) (text : List ℕ) : Type 0 where
  pub member : is_text_member set text ≡ true
  pub only : (other : List ℕ) → is_text_member set other ≡ true → other ≡ text

-- the text is in the set, and no member is below it
pub record IsFirstText (set : Bool × List (List ℕ)) (text : List ℕ) : Type 0 where
  pub member : is_text_member set text ≡ true
  pub first : (other : List ℕ) → is_text_member set other ≡ true → ¬ (text_cmp other text ≡ Less)
