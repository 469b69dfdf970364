-- Letters and digits of names.
use Rattle.std.proofs.Common.{◌≡◌, true, false, refl}
use Rattle.cue_lex.specs.Characters.{is_letter, is_name_part}
use Rattle.text_facts.proofs.OnLiterals.{lexed}

-- a Z é А 中 _ $, and ʰ, a modifier letter
letters : (is_letter 97 ≡ true) × (is_letter 90 ≡ true) × (is_letter 0xE9 ≡ true) × (is_letter 0x410 ≡ true) × (is_letter 0x4E2D ≡ true) × (is_letter 95 ≡ true) × (is_letter 36 ≡ true) × (is_letter 0x2B0 ≡ true)
unfolding lexed
letters = (refl, refl, refl, refl, refl, refl, refl, refl)

-- 0 # - . @ a space, an Arabic 3, an accent that combines, Ⅰ, ‿ and a smiling face
no_letters : (is_letter 48 ≡ false) × (is_letter 35 ≡ false) × (is_letter 45 ≡ false) × (is_letter 46 ≡ false) × (is_letter 64 ≡ false) × (is_letter 32 ≡ false) × (is_letter 0x663 ≡ false) × (is_letter 0x301 ≡ false) × (is_letter 0x2160 ≡ false) × (is_letter 0x203F ≡ false) × (is_letter 0x1F600 ≡ false)
unfolding lexed
no_letters = (refl, refl, refl, refl, refl, refl, refl, refl, refl, refl, refl)

-- 0 9, an Arabic 3, ５, and letters
name_parts : (is_name_part 48 ≡ true) × (is_name_part 57 ≡ true) × (is_name_part 0x663 ≡ true) × (is_name_part 0xFF15 ≡ true) × (is_name_part 97 ≡ true) × (is_name_part 95 ≡ true) × (is_name_part 0x3BB ≡ true)
unfolding lexed
name_parts = (refl, refl, refl, refl, refl, refl, refl)

-- # - . : an accent that combines, ² ½ 〇
no_name_parts : (is_name_part 35 ≡ false) × (is_name_part 45 ≡ false) × (is_name_part 46 ≡ false) × (is_name_part 58 ≡ false) × (is_name_part 0x301 ≡ false) × (is_name_part 0xB2 ≡ false) × (is_name_part 0xBD ≡ false) × (is_name_part 0x3007 ≡ false)
unfolding lexed
no_name_parts = (refl, refl, refl, refl, refl, refl, refl, refl)
