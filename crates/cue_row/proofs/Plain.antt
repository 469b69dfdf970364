-- Texts that stand for themselves between quotation marks.
use Rattle.std.proofs.Common.{◌≡◌, ◌<◌, ℕ, true, List, [], ◌∷◌, ◌++◌, refl, ap, ◌∙◌, rules, tests}
use Rattle.std.specs.List.{flat_map, list_all}
use Rattle.std.specs.Str.{IsAscii, chars}
use Rattle.std.proofs.lemmas.Bool.{and_parts}
use Rattle.std.proofs.lemmas.Str.{chars-IsAscii}
use Rattle.std.proofs.lemmas.Str.Ascii.{IsAscii-nil, IsAscii-cons}
use Rattle.cue_row.specs.Quoted.{char_text}
use Rattle.cue_row.specs.Inner.Quoted.{is_plain_byte}

plain_char : (b : ℕ) → is_plain_byte b ≡ true → char_text b ≡ b ∷ []
unfolding lib.Utf8.encode
plain_char b h = search (rules, tests)

plain_is_ascii : (b : ℕ) → is_plain_byte b ≡ true → b < 128
plain_is_ascii b h = search (rules, tests)

are_ascii : (bs : List ℕ) → list_all is_plain_byte bs ≡ true → IsAscii bs
are_ascii [] h = IsAscii-nil
are_ascii (b ∷ bs) h =
    let first = and_parts (is_plain_byte b) (list_all is_plain_byte bs) h in
    IsAscii-cons b bs (plain_is_ascii b first.0) (are_ascii bs first.1)

stand_alone : (bs : List ℕ) → list_all is_plain_byte bs ≡ true → flat_map char_text bs ≡ bs
stand_alone [] h = refl
stand_alone (b ∷ bs) h =
    let first = and_parts (is_plain_byte b) (list_all is_plain_byte bs) h in
    ap (λ t. t ++ flat_map char_text bs) (plain_char b first.0) ∙ ap (λ t. b ∷ t) (stand_alone bs first.1)

-- such a text is written as it is
pub plain_text : (text : List ℕ) → list_all is_plain_byte text ≡ true → flat_map char_text (chars text) ≡ text
plain_text text h = ap (λ cs. flat_map char_text cs) (chars-IsAscii text (are_ascii text h)) ∙ stand_alone text h
