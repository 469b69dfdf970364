-- Identifiers at the front of a text, and of which kind they are.
use Rattle.std.proofs.Common.{◌≡◌, inl, inr, ◌++◌, [], ◌∷◌, Ok, refl}
use Rattle.std.specs.Prelude.{codes}
use Rattle.cue_lattice.specs.declared.refusal.Kind.TheVariants.{BadCharacter}
use Rattle.cue_lex.specs.declared.token.TokenKind.TheVariants.{Name, Definition, Hidden}
use Rattle.cue_lex.specs.declared.punctuation.Punctuation.TheVariants.{Minus}
use Rattle.cue_lex.specs.Names.{run_len, word_len, signed_len, identifier_len, IsIdentifierText}
use Rattle.cue_lex.specs.Lexemes.{name_kind}
use Rattle.cue_lex.specs.Tokens.{tokens}
use Rattle.text_facts.proofs.OnLiterals.{lexed}
use Rattle.text_facts.proofs.Spelt.{at, mark_at, name_at, fault}

-- all letters and digits that follow
a_name_is_as_long_as_it_can_be : (identifier_len (codes "a1_b: 2") ≡ 4) × (identifier_len (codes "a.b") ≡ 1) × (identifier_len (codes "my-label") ≡ 2) × (identifier_len (codes "$a") ≡ 2) × (identifier_len (codes "_") ≡ 1) × (identifier_len (codes "_x|") ≡ 2)
unfolding lexed
a_name_is_as_long_as_it_can_be = (refl, refl, refl, refl, refl, refl)

-- é is a letter of two bytes, an Arabic 3 a digit of two
a_name_is_measured_in_bytes : (identifier_len (97 ∷ 0xC3 ∷ 0xA9 ∷ []) ≡ 3) × (identifier_len (97 ∷ 0xD9 ∷ 0xA3 ∷ []) ≡ 3)
unfolding lexed
a_name_is_measured_in_bytes = (refl, refl)

a_sign_belongs_to_a_name : (identifier_len (codes "#A") ≡ 2) × (identifier_len (codes "_#A") ≡ 3) × (identifier_len (codes "#_") ≡ 2) × (identifier_len (codes "#a#") ≡ 2)
unfolding lexed
a_sign_belongs_to_a_name = (refl, refl, refl, refl)

-- _# has the name _ at its front alone
no_name_is_a_sign_alone : (identifier_len (codes "#") ≡ 0) × (identifier_len (codes "#1") ≡ 0) × (identifier_len (codes "##a") ≡ 0) × (identifier_len (codes "_#") ≡ 1) × (identifier_len (codes "_#1") ≡ 1)
unfolding lexed
no_name_is_a_sign_alone = (refl, refl, refl, refl, refl)

no_name_begins_so : (identifier_len (codes "1a") ≡ 0) × (identifier_len (codes "-a") ≡ 0) × (identifier_len (codes " a") ≡ 0) × (identifier_len (0xD9 ∷ 0xA3 ∷ []) ≡ 0) × (identifier_len [] ≡ 0)
unfolding lexed
no_name_begins_so = (refl, refl, refl, refl, refl)

-- letters and digits, with a letter first, and after a sign
parts_of_a_name : (run_len (codes "1a:") ≡ 2) × (word_len (codes "1a:") ≡ 0) × (word_len (codes "a1:") ≡ 2) × (signed_len (codes "#") (codes "#a") ≡ 2) × (signed_len (codes "#") (codes "a") ≡ 0)
unfolding lexed
parts_of_a_name = (refl, refl, refl, refl, refl)

kinds_of_names : (name_kind (codes "a") ≡ Name (codes "a")) × (name_kind (codes "$a") ≡ Name (codes "$a")) × (name_kind (codes "#A") ≡ Definition (codes "#A")) × (name_kind (codes "_x") ≡ Hidden (codes "_x")) × (name_kind (codes "_#x") ≡ Hidden (codes "_#x")) × (name_kind (codes "_") ≡ Hidden (codes "_"))
unfolding lexed
kinds_of_names = (refl, refl, refl, refl, refl, refl)

an_identifier : IsIdentifierText (codes "_#a1")
unfolding lexed
an_identifier = record { sign = codes "_#"; letter = 97; parts = 49 ∷ []; one_sign = inr (inr refl); characters = refl; letter_first = refl; parts_after = refl; spells = refl }

-- é
an_identifier_of_two_bytes : IsIdentifierText (0xC3 ∷ 0xA9 ∷ [])
unfolding lexed
an_identifier_of_two_bytes = record { sign = []; letter = 0xE9; parts = []; one_sign = inl refl; characters = refl; letter_first = refl; parts_after = refl; spells = refl }

a_name_of_each_kind : tokens (codes "a #A _x $a _ _#A") ≡ Ok (name_at 0 (codes "a") ∷ at 2 4 (Definition (codes "#A")) ∷ at 5 7 (Hidden (codes "_x")) ∷ at 8 10 (Name (codes "$a")) ∷ at 11 12 (Hidden (codes "_")) ∷ at 13 16 (Hidden (codes "_#A")) ∷ [])
unfolding lexed
a_name_of_each_kind = refl

-- a name ends before a dash
a_dash_is_a_token : tokens (codes "a-b") ≡ Ok (name_at 0 (codes "a") ∷ mark_at 1 Minus ∷ name_at 2 (codes "b") ∷ [])
unfolding lexed
a_dash_is_a_token = refl

a_sign_without_a_name : (tokens (codes "a: #") ≡ fault BadCharacter 3) × (tokens (codes "_#1") ≡ fault BadCharacter 1) × (tokens (codes "a#: 1") ≡ fault BadCharacter 1)
unfolding lexed
a_sign_without_a_name = (refl, refl, refl)

-- an Arabic 3, a digit of a name, begins none
a_digit_begins_no_name : tokens (codes "a: " ++ 0xD9 ∷ 0xA3 ∷ []) ≡ fault BadCharacter 3
unfolding lexed
a_digit_begins_no_name = refl
