-- Texts that are written with separators.
use Rattle.std.proofs.Common.{◌≡◌, ℕ, ◌+◌, ◌<◌, Bool, true, false, List, [], ◌∷◌, ◌++◌, Option, length, get_or, drop, nat_eq, refl, sym, ap, subst, ◌∙◌, arith}
use Rattle.std.specs.List.{flat_map}
use Rattle.std.specs.Io.KnownBytes.{Appends}
use Rattle.std.proofs.lemmas.List.{append_assoc, append-nil, flat_map_more, drop_more, drop_all}
use Rattle.cue_lattice.specs.Bools.{is_nil}
use Rattle.cue_device.specs.Texts.{WritesPrefix}
use Rattle.cue_device.proofs.Telling.{IsTelling, tells_next, tells_part}
use Rattle.cue_print.specs.Spelled.{join_texts}
use Rattle.cue_print.specs.Inner.Writing.{separator_before}

-- one text more
pub joined_more : (sep : List ℕ) (xs : List (List ℕ)) (x : List ℕ) → join_texts sep (xs ++ x ∷ []) ≡ join_texts sep xs ++ (separator_before sep (is_nil xs) ++ x)
joined_more sep [] x = append-nil x
joined_more sep (first ∷ others) x = sym (flat_map_more (λ other. sep ++ other) first others x)

-- ---- texts that are left, where others stand before or not
abbrev pub left_joined : List ℕ → Bool → List (List ℕ) → List ℕ
left_joined sep true texts = join_texts sep texts
left_joined sep false texts = flat_map (λ other. sep ++ other) texts

first_left : (sep : List ℕ) (is_first : Bool) (x : List ℕ) (xs : List (List ℕ)) → left_joined sep is_first (x ∷ xs) ≡ separator_before sep is_first ++ (x ++ left_joined sep false xs)
first_left sep true x xs = refl
first_left sep false x xs = append_assoc sep x (left_joined sep false xs)

-- no text is left
pub none_joined : (sep : List ℕ) (is_first : Bool) (texts : List (List ℕ)) → texts ≡ [] → left_joined sep is_first texts ≡ []
none_joined sep true texts e = ap (join_texts sep) e
none_joined sep false texts e = ap (flat_map (λ other. sep ++ other)) e

-- the separator is written, and maybe not whole
pub separated :
    (u v w : Option (List ℕ)) (sep : List ℕ) (is_first : Bool) (x : List ℕ) (xs texts : List (List ℕ)) (whole : List ℕ) → texts ≡ x ∷ xs
    → IsTelling u v (left_joined sep is_first texts) whole → Appends v w (separator_before sep is_first) → IsTelling u w (x ++ left_joined sep false xs) whole
separated u v w sep is_first x xs texts whole e t a =
    tells_next u v w (separator_before sep is_first) (x ++ left_joined sep false xs) (left_joined sep is_first texts) whole (ap (left_joined sep is_first) e ∙ first_left sep is_first x xs) t a

pub part_separated :
    (u v w : Option (List ℕ)) (sep : List ℕ) (is_first : Bool) (x : List ℕ) (xs texts : List (List ℕ)) (whole : List ℕ) → texts ≡ x ∷ xs
    → IsTelling u v (left_joined sep is_first texts) whole → WritesPrefix v w (separator_before sep is_first) → WritesPrefix u w whole
part_separated u v w sep is_first x xs texts whole e t b =
    tells_part u v w (separator_before sep is_first) (x ++ left_joined sep false xs) (left_joined sep is_first texts) whole (ap (left_joined sep is_first) e ∙ first_left sep is_first x xs) t b

-- so is the text behind it
pub text_told :
    (u v w z : Option (List ℕ)) (sep : List ℕ) (is_first : Bool) (x : List ℕ) (xs texts : List (List ℕ)) (whole : List ℕ) → texts ≡ x ∷ xs
    → IsTelling u v (left_joined sep is_first texts) whole → Appends v w (separator_before sep is_first) → Appends w z x → IsTelling u z (left_joined sep false xs) whole
text_told u v w z sep is_first x xs texts whole e t a b =
    tells_next u w z x (left_joined sep false xs) (x ++ left_joined sep false xs) whole refl (separated u v w sep is_first x xs texts whole e t a) b

pub part_told :
    (u v w z : Option (List ℕ)) (sep : List ℕ) (is_first : Bool) (x : List ℕ) (xs texts : List (List ℕ)) (whole : List ℕ) → texts ≡ x ∷ xs
    → IsTelling u v (left_joined sep is_first texts) whole → Appends v w (separator_before sep is_first) → WritesPrefix w z x → WritesPrefix u z whole
part_told u v w z sep is_first x xs texts whole e t a b =
    tells_part u w z x (left_joined sep false xs) (x ++ left_joined sep false xs) whole refl (separated u v w sep is_first x xs texts whole e t a) b

-- ---- by the number of an element
-- no later element is the first
pub later : (u v : Option (List ℕ)) (sep : List ℕ) (i : ℕ) (texts : List (List ℕ)) (whole : List ℕ) → IsTelling u v (left_joined sep false texts) whole → IsTelling u v (left_joined sep (nat_eq (i + 1) 0) texts) whole
later u v sep i texts whole t = subst (λ (b : Bool). IsTelling u v (left_joined sep b texts) whole) (sym (not_first i)) t where
  not_first : (n : ℕ) → nat_eq (n + 1) 0 ≡ false
  not_first n = grind arith

pub from_here : {X : Type 0} (xs : List X) (i : ℕ) (x : X) → i < length xs → x ≡ get_or xs i x → drop i xs ≡ x ∷ drop (i + 1) xs
from_here xs i x h is = drop_more xs i x h ∙ ap (λ y. y ∷ drop (i + 1) xs) (sym is)
