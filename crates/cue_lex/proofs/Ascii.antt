-- The letters and digits of ASCII are those that the tables of Unicode have there.
use Rattle.std.proofs.Common.{◌≡◌, ℕ, ◌<◌, ◌||◌, Bool, true, false, refl, sym, arith, ⊎_elim}
use Rattle.std.specs.Prelude.{not, ◌==◌}
use Rattle.std.specs.Char.{is_ascii_alphabetic, is_ascii_alphanumeric}
use Rattle.std.proofs.lemmas.Bool.{eqb-true, or_cases, or_left}
use Rattle.unicode.proofs.Facts.{Stepped-below}
use Rattle.unicode.specs.GeneralCategory.{general_category, general_category_eq}
use Rattle.unicode.specs.GeneralCategoryGroup.{in_group}
use Rattle.unicode.specs.declared.properties.GeneralCategory.TheVariants.{DecimalNumber}
use Rattle.unicode.specs.declared.properties.GeneralCategoryGroup.TheVariants.{Letter}
use Rattle.unicode.proofs.CategoryComputing.{ucd_category}
use Rattle.unicode.proofs.GeneralCategoryLemmas.{general_category_stepped}
use Rattle.cue_lex.specs.Characters.{is_letter, is_name_part, is_ascii_part}
use Rattle.cue_lex.proofs.Fronts.{literal_ascii}

abbrev same : Bool → Bool → Bool
same true b = b
same false b = not b

same-true : (a b : Bool) → same a b ≡ true → a ≡ b
same-true true true is = refl
same-true false false is = refl
same-true true false is = sym is
same-true false true is = is

-- a letter of ASCII
pub letter_ascii : (c : ℕ) → c < 128 → is_letter c ≡ (is_ascii_alphabetic c || (c == 95)) || (c == 36)
unfolding is_letter ucd_category
letter_ascii c below =
    same-true _ _
    (Stepped-below general_category general_category_stepped
    (λ x v. same (((x == 95) || (x == 36)) || in_group Letter v) ((is_ascii_alphabetic x || (x == 95)) || (x == 36))) 128 refl c below)

-- a letter or digit of ASCII
pub part_ascii : (c : ℕ) → c < 128 → is_name_part c ≡ is_ascii_part c
unfolding is_name_part is_letter ucd_category
part_ascii c below =
    same-true _ _
    (Stepped-below general_category general_category_stepped
    (λ x v. same ((((x == 95) || (x == 36)) || in_group Letter v) || general_category_eq v DecimalNumber) (is_ascii_part x)) 128 refl c below)

-- letters and digits of ASCII are below 128
pub part_below : (c : ℕ) → is_ascii_part c ≡ true → c < 128
part_below c is =
    ⊎_elim
    (λ more.
    ⊎_elim
    (λ alphanumeric. literal_ascii c (or_left (is_ascii_alphanumeric c) _ alphanumeric))
    (λ underscore. let e = eqb-true c 95 underscore in omega arith)
    (or_cases (is_ascii_alphanumeric c) (c == 95) more))
    (λ dollar. let e = eqb-true c 36 dollar in omega arith)
    (or_cases (is_ascii_alphanumeric c || (c == 95)) (c == 36) is)
