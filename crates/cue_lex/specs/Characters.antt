-- The characters that names are made of, by their general category in Unicode.
use Rattle.std.specs.Prelude.{ℕ, Bool, ◌==◌, ◌||◌}
use Rattle.std.specs.Char.{is_ascii_alphanumeric}
use Rattle.unicode.specs.GeneralCategory.{general_category, general_category_eq}
use Rattle.unicode.specs.GeneralCategoryGroup.{in_group}
use Rattle.unicode.specs.declared.properties.GeneralCategory.TheVariants.{DecimalNumber}
use Rattle.unicode.specs.declared.properties.GeneralCategoryGroup.TheVariants.{Letter}

-- a letter (general category Lu, Ll, Lt, Lm or Lo), or _ or $
unfoldable pub is_letter : ℕ → Bool
is_letter c = ((c == 95) || (c == 36)) || in_group Letter (general_category c)

-- a letter or a digit (general category Nd)
unfoldable pub is_name_part : ℕ → Bool
is_name_part c = is_letter c || general_category_eq (general_category c) DecimalNumber

-- the same for the characters of ASCII, and false for all others
abbrev pub is_ascii_part : ℕ → Bool
is_ascii_part c = (is_ascii_alphanumeric c || (c == 95)) || (c == 36)
