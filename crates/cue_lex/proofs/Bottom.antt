-- Where _|_ stands, each identifier is shorter.
use Rattle.std.proofs.Common.{◌≡◌, ℕ, ◌<◌, ◌∙◌, Bool, true, false, List, [], ◌∷◌, ◌++◌, length, drop, get_or, lit<, refl, ap, subst, arith, append_assoc, ⊎_elim, rules, codes}
use Rattle.std.specs.Prelude.{encode_utf8, encode_utf8_all}
use Rattle.std.specs.List.{list_all}
use Rattle.std.proofs.lemmas.Bool.{and_parts}
use Rattle.std.proofs.lemmas.List.{append-nil}
use Rattle.std.proofs.lemmas.Str.{char_from_byte, encode_ascii}
use Rattle.unicode.proofs.CategoryComputing.{ucd_category}
use Rattle.cue_lex.specs.declared.token.TokenKind.TheVariants as kinds
use Rattle.cue_lex.specs.declared.lexeme.Lexeme.TheVariants.{Word}
use Rattle.cue_lex.specs.Characters.{is_letter, is_name_part}
use Rattle.cue_lex.specs.Lexemes.{lexeme}
use Rattle.cue_lex.specs.Names.{IsIdentifierText}
use Rattle.cue_lex.specs.Longest.{TakesBottomBeforeNames}
use Rattle.std.specs.Prelude.{Ok}

no_bar : is_name_part 124 ≡ false
unfolding is_name_part is_letter ucd_category
no_bar = refl

false_true : {b : Bool} → b ≡ false → b ≡ true → ⊥
false_true is_no is_yes = search rules

-- a character of a text is the byte that it begins with, where that byte is ASCII
first_char : (b c : ℕ) (bytes rest : List ℕ) → b ∷ bytes ≡ encode_utf8 c ++ rest → b < 128 → (c ≡ b) × (bytes ≡ rest)
first_char b c bytes rest split below =
    let same : c ≡ b = char_from_byte (b ∷ bytes) rest c split below (omega arith) in
    let ascii : c < 128 = omega arith in
    (same, ap (drop 1) (split ∙ ap (λ xs. xs ++ rest) (encode_ascii c ascii)))

-- no letter or digit stands after the _
no_part : (bytes parts more : List ℕ) → 124 ∷ bytes ≡ encode_utf8_all parts ++ more → list_all is_name_part parts ≡ true → parts ≡ []
no_part bytes [] more split all = refl
no_part bytes (p ∷ parts) more split all =
    let is = first_char 124 p bytes (encode_utf8_all parts ++ more) (split ∙ append_assoc (encode_utf8 p) (encode_utf8_all parts) more) (lit< tt) in
    absurd (false_true no_bar (subst (λ c. is_name_part c ≡ true) is.0 (and_parts (is_name_part p) (list_all is_name_part parts) all).0))

-- an identifier with no sign is the _ alone
short_word : (bytes front more : List ℕ) (letter : ℕ) (parts : List ℕ) → 95 ∷ 124 ∷ bytes ≡ front ++ more → front ≡ encode_utf8_all (letter ∷ parts) → list_all is_name_part parts ≡ true → length front < 3
short_word bytes front more letter parts split spells all =
    let is = first_char 95 letter (124 ∷ bytes) (encode_utf8_all parts ++ more)
    (split ∙ ap (λ xs. xs ++ more) spells ∙ append_assoc (encode_utf8 letter) (encode_utf8_all parts) more) (lit< tt) in
    let none = no_part bytes parts more is.1 all in
    let ascii : letter < 128 = omega (arith, is.0) in
    let whole : front ≡ letter ∷ [] = spells ∙ ap (λ xs. encode_utf8 letter ++ encode_utf8_all xs) none ∙ append-nil (encode_utf8 letter) ∙ encode_ascii letter ascii in
    let size = ap length whole in
    omega arith

short_identifier : (bytes front more : List ℕ) → IsIdentifierText front → 95 ∷ 124 ∷ bytes ≡ front ++ more → length front < 3
short_identifier bytes front more is split =
    let word = encode_utf8_all (is.letter ∷ is.parts) in
    ⊎_elim
    (λ none. short_word bytes front more is.letter is.parts split (is.spells ∙ ap (λ sign. sign ++ word) none) is.parts_after)
    (λ signed.
    ⊎_elim
    (λ one. let e : 95 ≡ 35 = ap (λ xs. get_or xs 0 0) (split ∙ ap (λ xs. xs ++ more) (is.spells ∙ ap (λ sign. sign ++ word) one)) in absurd (omega arith))
    (λ two. let e : 124 ≡ 35 = ap (λ xs. get_or xs 1 0) (split ∙ ap (λ xs. xs ++ more) (is.spells ∙ ap (λ sign. sign ++ word) two)) in absurd (omega arith))
    signed)
    is.one_sign

taken_bottom : (rest : List ℕ) (after_minus : Bool) (place : ℕ) → lexeme after_minus place (codes "_|_" ++ rest) ≡ Ok (Word kinds.Bottom 3)
unfolding lexeme
taken_bottom rest after_minus place = refl

-- where _|_ stands it is the longest token
pub takes_bottom_before_names : TakesBottomBeforeNames
takes_bottom_before_names rest = record { taken = taken_bottom rest; shorter = λ front more is split. short_identifier (95 ∷ rest) front more is split }
