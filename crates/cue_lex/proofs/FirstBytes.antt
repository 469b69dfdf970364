-- What stands at the front of a text by its first byte, where that is a letter of ASCII or begins a mark.
use Rattle.std.proofs.Common.{◌≡◌, ℕ, zero, suc, ⊎_elim, ◌<◌, ◌∙◌, ◌||◌, ◌&&◌, Bool, true, false, List, [], ◌∷◌, ◌++◌, length, get_or, refl, sym, ap, subst, arith, rules, codes, cond, IsUtf8}
use Rattle.std.specs.Prelude.{not, ◌==◌, Option, Some, None, Result, Ok, Err, IfOk, nat_eq, nat_le, nat_lt, encode_utf8, if◌then◌else◌}
use Rattle.std.specs.Char.{is_ascii_alphabetic, is_ascii_alphanumeric}
use Rattle.std.specs.List.{starts_with, AllByRecursion}
use Rattle.std.specs.Option.{option_map}
use Rattle.std.proofs.lemmas.Bool.{eqb-true, and_parts, lt-ltb, leb-false, or_left, or_right, or_cases}
use Rattle.std.proofs.lemmas.Str.{chars_past_char, encode_ascii, length-encode, len_utf8_ascii}
use Rattle.unicode.proofs.Facts.{Stepped-below}
use Rattle.unicode.specs.GeneralCategory.{general_category}
use Rattle.unicode.proofs.CategoryComputing.{ucd_category}
use Rattle.unicode.proofs.GeneralCategoryLemmas.{general_category_stepped}
use Rattle.cue_lex.specs.declared.punctuation.Punctuation.{Punctuation}
use Rattle.cue_lex.specs.declared.punctuation.Punctuation.TheVariants as points
use Rattle.cue_lex.specs.declared.token.TokenKind.TheVariants as kinds
use Rattle.cue_lattice.specs.declared.refusal.Refusal.{Refusal}
use Rattle.cue_lex.specs.declared.lexeme.Lexeme.{Lexeme}
use Rattle.cue_lex.specs.declared.lexeme.Lexeme.TheVariants.{Word}
use Rattle.cue_lex.specs.Characters.{is_letter, is_name_part}
use Rattle.cue_lex.specs.Names.{run_len, word_len, signed_len, identifier_len}
use Rattle.cue_lex.specs.Marks.{single_marks, first_mark_of, single_mark, first_mark, mark_in_front}
use Rattle.cue_lex.specs.Lexemes.{LexesTo, lexeme, len_of, lex_name, punctuation, is_space}
use Rattle.cue_lex.proofs.Ascii.{letter_ascii}
use Rattle.cue_lex.proofs.Fronts.{literal_ascii}
use Rattle.cue_lex.proofs.Longest.{part-letter}
use Rattle.cue_lex.proofs.Words.{run_len-part}

-- none of the tests holds
abbrev none : List Bool → Bool
none [] = true
none (test ∷ tests) = not test && none tests

none-at : (tests : List Bool) (i : ℕ) → none tests ≡ true → get_or tests i false ≡ false
none-at [] i is = refl
none-at (true ∷ tests) i is = search rules
none-at (false ∷ tests) zero is = refl
none-at (false ∷ tests) (suc i) is = none-at tests i is

-- no white space, string, integer, comment or _|_ begins with the byte, and no sign of a name
abbrev other_fronts : ℕ → List Bool
other_fronts b = is_space b ∷ (b == 10) ∷ (b == 34) ∷ (nat_le 48 b && nat_le b 57) ∷ nat_eq 47 b ∷ nat_eq 95 b ∷ nat_eq 35 b ∷ []

abbrev is_plain_front : ℕ → Bool
is_plain_front b = none (other_fronts b)

-- no letter of ASCII, and no byte of another character
abbrev name_fronts : ℕ → List Bool
name_fronts b = nat_le 128 b ∷ ((is_ascii_alphabetic b || (b == 95)) || (b == 36)) ∷ []

abbrev is_mark_front : ℕ → Bool
is_mark_front b = is_plain_front b && none (name_fronts b)

pub record Plain (b : ℕ) : Type 0 where
  pub space : is_space b ≡ false
  pub break : (b == 10) ≡ false
  pub quote : (b == 34) ≡ false
  pub digit : (nat_le 48 b && nat_le b 57) ≡ false
  pub slash : nat_eq 47 b ≡ false
  pub underscore : nat_eq 95 b ≡ false
  pub sign : nat_eq 35 b ≡ false

plain : (b : ℕ) → is_plain_front b ≡ true → Plain b
plain b is =
    record {
      space = none-at (other_fronts b) 0 is;
      break = none-at (other_fronts b) 1 is;
      quote = none-at (other_fronts b) 2 is;
      digit = none-at (other_fronts b) 3 is;
      slash = none-at (other_fronts b) 4 is;
      underscore = none-at (other_fronts b) 5 is;
      sign = none-at (other_fronts b) 6 is;
    }

module _ (b : ℕ) (bytes : List ℕ) (utf8 : IsUtf8 (b ∷ bytes)) (below : b < 128) where
  one : b ∷ bytes ≡ encode_utf8 b ++ bytes
  one = ap (λ xs. xs ++ bytes) (sym (encode_ascii b below))

  word_len-is : (letter : Bool) → is_letter b ≡ letter → word_len (b ∷ bytes) ≡ cond letter (run_len (b ∷ bytes)) 0
  unfolding word_len
  word_len-is letter is = rw (chars_past_char (b ∷ bytes) bytes b utf8 one, is) refl

  identifier_len-is : Plain b → identifier_len (b ∷ bytes) ≡ word_len (b ∷ bytes)
  unfolding identifier_len signed_len
  identifier_len-is front = rw (front.sign, front.underscore) (omega arith)

  run_len-some : is_name_part b ≡ true → 0 < run_len (b ∷ bytes)
  run_len-some part = let run = run_len-part (b ∷ bytes) bytes b utf8 one part in let size = length-encode b in let width = len_utf8_ascii b below in omega arith

  pub lexeme-is : (minus : Bool) (place : ℕ) → Plain b → lexeme minus place (b ∷ bytes)
      ≡ (if nat_lt 0 (identifier_len (b ∷ bytes)) then lex_name place (identifier_len (b ∷ bytes)) (b ∷ bytes) else punctuation place (mark_in_front (b ∷ bytes)))
  unfolding lexeme
  lexeme-is minus place front = rw (front.space, front.break, front.quote, front.digit, front.slash, front.underscore) refl

-- letters of ASCII begin nothing but names
letter_front : (b : ℕ) → b < 128 → (not (is_ascii_alphabetic b) || is_plain_front b) ≡ true
unfolding ucd_category
letter_front b below = Stepped-below general_category general_category_stepped (λ x v. not (is_ascii_alphabetic x) || is_plain_front x) 128 refl b below

alphanumeric : (b : ℕ) → is_ascii_alphabetic b ≡ true → is_ascii_alphanumeric b ≡ true
alphanumeric b is = ⊎_elim
    (λ upper. or_left _ _ (or_right _ _ upper))
    (λ lower. or_right _ _ lower)
    (or_cases (nat_le 65 b && nat_le b 90) (nat_le 97 b && nat_le b 122) is)

letter_plain : (b : ℕ) → b < 128 → is_ascii_alphabetic b ≡ true → is_plain_front b ≡ true
letter_plain b below is = let all = letter_front b below in rw is at all

module _ (b : ℕ) (bytes : List ℕ) (utf8 : IsUtf8 (b ∷ bytes)) (is : is_ascii_alphabetic b ≡ true) where
  below : b < 128
  below = literal_ascii b (or_left _ _ (alphanumeric b is))

  letter : is_letter b ≡ true
  letter = letter_ascii b below ∙ or_left _ (b == 36) (or_left _ (b == 95) is)

  letter_run : 0 < run_len (b ∷ bytes)
  letter_run = run_len-some b bytes utf8 below (part-letter b letter)

  letter_lexeme : (minus : Bool) (place : ℕ) → lexeme minus place (b ∷ bytes) ≡ lex_name place (run_len (b ∷ bytes)) (b ∷ bytes)
  letter_lexeme minus place =
      let front = plain b (letter_plain b below is) in
      let len : identifier_len (b ∷ bytes) ≡ run_len (b ∷ bytes) = identifier_len-is b bytes utf8 below front ∙ word_len-is b bytes utf8 below true letter in
      let some : nat_lt 0 (run_len (b ∷ bytes)) ≡ true = lt-ltb 0 _ letter_run in
      lexeme-is b bytes utf8 below minus place front ∙ rw (len, some) refl

-- a letter of ASCII and what belongs to its name
pub run_letter : (bytes : List ℕ) → IsUtf8 bytes → 0 < length bytes → is_ascii_alphabetic (get_or bytes 0 0) ≡ true → 0 < run_len bytes
run_letter [] utf8 some is = absurd (omega arith)
run_letter (b ∷ bytes) utf8 some is = letter_run b bytes utf8 is

-- where a letter of ASCII stands a name does
pub lexeme_letter : (minus : Bool) (place : ℕ) (bytes : List ℕ) → IsUtf8 bytes → 0 < length bytes → is_ascii_alphabetic (get_or bytes 0 0) ≡ true
    → lexeme minus place bytes ≡ lex_name place (run_len bytes) bytes
lexeme_letter minus place [] utf8 some is = absurd (omega arith)
lexeme_letter minus place (b ∷ bytes) utf8 some is = letter_lexeme b bytes utf8 is minus place

-- what begins a mark begins nothing else
mark_fronts : AllByRecursion (λ m. is_mark_front m.0 ≡ true) single_marks
mark_fronts = (refl, (refl, (refl, (refl, (refl, (refl, (refl, (refl, (refl, (refl, (refl, (refl, (refl, (refl, (refl, (refl, (refl, tt)))))))))))))))))

first_step : (b : ℕ) (m : ℕ × Punctuation) (ms : List (ℕ × Punctuation)) (kind : Punctuation) (equal : Bool) → nat_eq b m.0 ≡ equal
    → is_mark_front m.0 ≡ true → (first_mark_of b ms ≡ Some kind → is_mark_front b ≡ true)
    → (if equal then Some m.1 else first_mark_of b ms) ≡ Some kind → is_mark_front b ≡ true
first_step b m ms kind true is here more found = subst (λ n. is_mark_front n ≡ true) (sym (eqb-true b m.0 is)) here
first_step b m ms kind false is here more found = more found

first_front : (b : ℕ) (ms : List (ℕ × Punctuation)) (kind : Punctuation) → AllByRecursion (λ m. is_mark_front m.0 ≡ true) ms → first_mark_of b ms ≡ Some kind → is_mark_front b ≡ true
first_front b [] kind all found = search rules
first_front b (m ∷ ms) kind all found = first_step b m ms kind (nat_eq b m.0) refl all.0 (first_front b ms kind all.1) found

-- a byte that begins a longer mark
longer_front : (first b : ℕ) (more bytes : List ℕ) → is_mark_front first ≡ true → starts_with nat_eq (b ∷ bytes) (first ∷ more) ≡ true → is_mark_front b ≡ true
longer_front first b more bytes here starts = subst (λ n. is_mark_front n ≡ true) (eqb-true first b (and_parts (nat_eq first b) _ starts).0) here

single_front : (b : ℕ) (kind : Option Punctuation) (found : Punctuation × ℕ) → first_mark_of b single_marks ≡ kind → option_map (λ k. (k, 1)) kind ≡ Some found → is_mark_front b ≡ true
single_front b None found is none = search rules
single_front b (Some kind) found is some = first_front b single_marks kind mark_fronts is

mark_front : (b : ℕ) (bytes : List ℕ) (found : Punctuation × ℕ) (three less greater other : Bool)
    → starts_with nat_eq (b ∷ bytes) (codes "...") ≡ three → starts_with nat_eq (b ∷ bytes) (codes "<=") ≡ less
    → starts_with nat_eq (b ∷ bytes) (codes ">=") ≡ greater → starts_with nat_eq (b ∷ bytes) (codes "!=") ≡ other
    → (if three then Some (points.Ellipsis, 3)
    else (if less then Some (points.AtMost, 2)
    else (if greater then Some (points.AtLeast, 2)
    else (if other then Some (points.NotEqual, 2)
    else first_mark (b ∷ bytes))))) ≡ Some found
    → is_mark_front b ≡ true
unfolding single_mark
mark_front b bytes found true less greater other i3 il ig io is = longer_front 46 b (codes "..") bytes refl i3
mark_front b bytes found false true greater other i3 il ig io is = longer_front 60 b (codes "=") bytes refl il
mark_front b bytes found false false true other i3 il ig io is = longer_front 62 b (codes "=") bytes refl ig
mark_front b bytes found false false false true i3 il ig io is = longer_front 33 b (codes "=") bytes refl io
mark_front b bytes found false false false false i3 il ig io is = single_front b (first_mark_of b single_marks) found refl is

found_front : (b : ℕ) (bytes : List ℕ) (found : Punctuation × ℕ) → mark_in_front (b ∷ bytes) ≡ Some found → is_mark_front b ≡ true
unfolding mark_in_front
found_front b bytes found is =
    mark_front b bytes found (starts_with nat_eq (b ∷ bytes) (codes "...")) (starts_with nat_eq (b ∷ bytes) (codes "<="))
    (starts_with nat_eq (b ∷ bytes) (codes ">=")) (starts_with nat_eq (b ∷ bytes) (codes "!=")) refl refl refl refl is

no_mark : (found : Punctuation × ℕ) → mark_in_front [] ≡ Some found → ⊥
unfolding mark_in_front
no_mark found is = search rules

-- where a mark stands nothing else does
pub lexeme_mark : (minus : Bool) (place : ℕ) (bytes : List ℕ) (kind : Punctuation) (len : ℕ) → IsUtf8 bytes → mark_in_front bytes ≡ Some (kind, len)
    → lexeme minus place bytes ≡ Ok (Word (kinds.Mark kind) len)
lexeme_mark minus place [] kind len utf8 is = absurd (no_mark (kind, len) is)
lexeme_mark minus place (b ∷ bytes) kind len utf8 is =
    let fronts = and_parts (is_plain_front b) (none (name_fronts b)) (found_front b bytes (kind, len) is) in
    let front = plain b fronts.0 in
    let ascii : b < 128 = leb-false 128 b (none-at (name_fronts b) 0 fronts.1) in
    let other : is_letter b ≡ false = letter_ascii b ascii ∙ none-at (name_fronts b) 1 fronts.1 in
    let none_there : identifier_len (b ∷ bytes) ≡ 0 = identifier_len-is b bytes utf8 ascii front ∙ word_len-is b bytes utf8 ascii false other in
    lexeme-is b bytes utf8 ascii minus place front ∙ rw (none_there, is) refl

-- a result that is the defined one is what the definition gives
pub gives_same : (result defined : Result Lexeme Refusal) → defined ≡ result → LexesTo result defined
gives_same (Ok found) defined is = is
gives_same (Err refusal) defined is = λ _. is

-- a lexeme of some bytes is not empty
pub some_of : (result : Result Lexeme Refusal) (len : ℕ) → 0 < len → IfOk result (λ found. len_of found ≡ len) → IfOk result (λ found. 0 < len_of found)
some_of (Ok found) len some is = omega arith
some_of (Err refusal) len some is = tt
