-- Names at the front of a text.
use Rattle.std.proofs.Common.{◌≡◌, ℕ, suc, ◌<◌, ◌≤◌, ◌∙◌, ◌⊎◌, inl, inr, Bool, true, false, List, [], ◌∷◌, ◌++◌, length, get_or, nat_eq, nat_lt, Ok, refl, sym, ap, arith, lit<, codes, IsUtf8, take_at}
use Rattle.std.specs.List.{list_all, prefix_len, starts_with}
use Rattle.std.specs.Prelude.{encode_utf8}
use Rattle.std.specs.Char.{is_ascii_alphabetic}
use Rattle.std.proofs.lemmas.Bool.{and_parts, le-leb}
use Rattle.std.proofs.lemmas.Str.{IsUtf8-append, chars_past_char, encode_ascii}
use Rattle.cue_lattice.specs.Limits.{word_limit}
use Rattle.cue_lex.specs.declared.token.TokenKind.{TokenKind}
use Rattle.cue_lex.specs.declared.token.TokenKind.TheVariants as kinds
use Rattle.cue_lex.specs.declared.punctuation.Punctuation.TheVariants as points
use Rattle.cue_lex.specs.declared.lexeme.Lexeme.TheVariants.{Word}
use Rattle.cue_lex.specs.Characters.{is_ascii_part, is_letter}
use Rattle.cue_lex.specs.Lexemes.{lexeme, lex_name, name_kind}
use Rattle.cue_lex.specs.Names.{run_len, word_len, signed_len, identifier_len}
use Rattle.cue_lex.proofs.FirstBytes.{lexeme_letter}
use Rattle.cue_lex.proofs.Words.{ascii_stops}
use Rattle.print_laws.specs.Kinds.{HasKinds, IsTokenEnd, IsKindRead}
use Rattle.print_laws.specs.Inner.Joining.{Leads}
use Rattle.print_laws.proofs.Fronts.{one_kind}
use Rattle.print_laws.proofs.Marks.{ascii_text, stop_open, parenthesis_leads}
use Rattle.print_laws.proofs.Joins.{read_then}

-- the rest does not begin with what passes a test
abbrev pub StopsAt : (ℕ → Bool) → List ℕ → Type 0
StopsAt p [] = Unit {0}
StopsAt p (b ∷ bytes) = p b ≡ false

-- the bytes that pass a test at the front are those of a text that all pass, where the rest does not go on
pub prefix_all : (p : ℕ → Bool) (text rest : List ℕ) → list_all p text ≡ true → StopsAt p rest → prefix_len p (text ++ rest) ≡ length text
prefix_all p [] [] all stops = refl
prefix_all p [] (b ∷ rest) all stops = rw stops refl
prefix_all p (b ∷ text) rest all stops =
    let parts = and_parts (p b) (list_all p text) all in
    let more = prefix_all p text rest parts.1 stops in
    rw parts.0 (omega arith)

pub stops_part : (rest : List ℕ) → IsTokenEnd rest → StopsAt is_ascii_part rest
stops_part [] stops = tt
stops_part (b ∷ rest) stops = stops.part

-- what stands behind a text, where the text is all or ASCII goes on
goes_on : (text rest : List ℕ) → IsTokenEnd rest → (length text ≡ length (text ++ rest)) ⊎ (get_or (text ++ rest) (length text) 0 < 128)
goes_on [] [] stops = inl refl
goes_on [] (b ∷ rest) stops = inr stops.ascii
goes_on (t ∷ text) rest stops = elim (goes_on text rest stops) [ inl same ↦ inl (ap suc same) | inr below ↦ inr below ]

-- letters and digits of ASCII are a run that ends where the rest does not go on
pub run_all : (text rest : List ℕ) → IsUtf8 (text ++ rest) → list_all is_ascii_part text ≡ true → IsTokenEnd rest → run_len (text ++ rest) ≡ length text
run_all text rest utf8 all stops = sym (ascii_stops (text ++ rest) (length text) utf8 (sym (prefix_all is_ascii_part text rest all (stops_part rest stops))) (goes_on text rest stops))

-- a name of so many bytes
name_at : (place : ℕ) (text rest : List ℕ) → length text ≤ word_limit → lex_name place (length text) (text ++ rest) ≡ Ok (Word (name_kind text) (length text))
unfolding lex_name
name_at place text rest short =
    let fits = le-leb (length text) word_limit short in
    let front = take_at text rest (length text) refl in
    rw (fits, front) refl

-- A name of ASCII that begins with a letter.
pub record IsName (first : ℕ) (others : List ℕ) : Type 0 where
  pub letter : is_ascii_alphabetic first ≡ true
  pub parts : list_all is_ascii_part (first ∷ others) ≡ true
  pub ascii : list_all (λ b. nat_lt b 128) (first ∷ others) ≡ true
  pub short : length (first ∷ others) ≤ word_limit
  pub kind : name_kind (first ∷ others) ≡ kinds.Name (first ∷ others)

-- A name is one token in front of any rest that cannot go on.
pub name_read : (first : ℕ) (others : List ℕ) → IsName first others → IsKindRead (first ∷ others) (kinds.Name (first ∷ others) ∷ [])
name_read first others is = record { reads = λ ended rest more stops after. by ended rest more stops after }
  where
    text : List ℕ
    text = first ∷ others

    by : (ended : Bool) (rest : List ℕ) (more : List TokenKind) → IsTokenEnd rest → HasKinds false true rest more → HasKinds false ended (first ∷ (others ++ rest)) (kinds.Name (first ∷ others) ∷ more)
    by ended rest more stops after =
        let utf8 = ascii_text (first ∷ others) is.ascii in
        let all : IsUtf8 ((first ∷ others) ++ rest) = IsUtf8-append (first ∷ others) rest utf8 after.utf8 in
        one_kind {text = first ∷ others} {rest = rest} (omega arith) utf8
        (λ place.
        lexeme_letter false place ((first ∷ others) ++ rest) all (omega arith) is.letter
        ∙ ap (λ n. lex_name place n ((first ∷ others) ++ rest)) (run_all (first ∷ others) rest all is.parts stops)
        ∙ name_at place (first ∷ others) rest is.short
        ∙ ap (λ kind. Ok (Word kind (length (first ∷ others)))) is.kind)
        after

pub null_read : IsKindRead (codes "null") (kinds.Name (codes "null") ∷ [])
unfolding name_kind
null_read = name_read 110 (codes "ull") (record { letter = refl; parts = refl; ascii = refl; short = omega arith; kind = refl })

pub bool_read : IsKindRead (codes "bool") (kinds.Name (codes "bool") ∷ [])
unfolding name_kind
bool_read = name_read 98 (codes "ool") (record { letter = refl; parts = refl; ascii = refl; short = omega arith; kind = refl })

pub false_read : IsKindRead (codes "false") (kinds.Name (codes "false") ∷ [])
unfolding name_kind
false_read = name_read 102 (codes "alse") (record { letter = refl; parts = refl; ascii = refl; short = omega arith; kind = refl })

pub true_read : IsKindRead (codes "true") (kinds.Name (codes "true") ∷ [])
unfolding name_kind
true_read = name_read 116 (codes "rue") (record { letter = refl; parts = refl; ascii = refl; short = omega arith; kind = refl })

pub int_read : IsKindRead (codes "int") (kinds.Name (codes "int") ∷ [])
unfolding name_kind
int_read = name_read 105 (codes "nt") (record { letter = refl; parts = refl; ascii = refl; short = omega arith; kind = refl })

pub string_read : IsKindRead (codes "string") (kinds.Name (codes "string") ∷ [])
unfolding name_kind
string_read = name_read 115 (codes "tring") (record { letter = refl; parts = refl; ascii = refl; short = omega arith; kind = refl })

close_read : IsKindRead (codes "close") (kinds.Name (codes "close") ∷ [])
unfolding name_kind
close_read = name_read 99 (codes "lose") (record { letter = refl; parts = refl; ascii = refl; short = omega arith; kind = refl })

pub close_leads : Leads (codes "close(") (kinds.Name (codes "close") ∷ kinds.Mark points.OpenParenthesis ∷ [])
close_leads = read_then (λ rest. stop_open) close_read parenthesis_leads

-- ---- `_`
not_started : (c : ℕ) (more rest : List ℕ) → StopsAt (nat_eq c) rest → starts_with nat_eq rest (c ∷ more) ≡ false
not_started c more [] stops = refl
not_started c more (b ∷ rest) stops = rw stops refl

stops_bar : (rest : List ℕ) → IsTokenEnd rest → StopsAt (nat_eq 124) rest
stops_bar [] stops = tt
stops_bar (b ∷ rest) stops = stops.bar

stops_sign : (rest : List ℕ) → IsTokenEnd rest → StopsAt (nat_eq 35) rest
stops_sign [] stops = tt
stops_sign (b ∷ rest) stops = stops.number_sign

-- `_` with no letter behind it is a whole name
top_len : (rest : List ℕ) → IsUtf8 (95 ∷ rest) → IsTokenEnd rest → identifier_len (95 ∷ rest) ≡ 1
unfolding identifier_len word_len signed_len is_letter
top_len rest utf8 stops =
    let one : 95 ∷ rest ≡ encode_utf8 95 ++ rest = ap (λ xs. xs ++ rest) (sym (encode_ascii 95 (lit< tt))) in
    let first = chars_past_char (95 ∷ rest) rest 95 utf8 one in
    let run = run_all (codes "_") rest utf8 refl stops in
    let sign = not_started 35 [] rest (stops_sign rest stops) in
    rw (first, run, sign) refl

top_lexeme : (minus : Bool) (place : ℕ) (rest : List ℕ) → IsUtf8 (95 ∷ rest) → IsTokenEnd rest → lexeme minus place (95 ∷ rest) ≡ Ok (Word (kinds.Hidden (codes "_")) 1)
unfolding lexeme name_kind
top_lexeme minus place rest utf8 stops =
    let bar = not_started 124 (codes "_") rest (stops_bar rest stops) in
    let len = top_len rest utf8 stops in
    rw (bar, len) (name_at place (codes "_") rest (omega arith))

-- `_` is one token in front of any rest that cannot go on
pub top_read : IsKindRead (codes "_") (kinds.Hidden (codes "_") ∷ [])
top_read = record {
  reads = λ ended rest more stops after.
      one_kind {text = codes "_"} {rest = rest} (omega arith) (ascii_text (codes "_") refl) (λ place. top_lexeme false place rest (IsUtf8-append (codes "_") rest (ascii_text (codes "_") refl) after.utf8) stops) after;
}
