-- The kinds of the tokens of a text, one step further to its front.
use Rattle.std.proofs.Common.{◌≡◌, ℕ, zero, suc, get_or, lit<, ◌+◌, ◌-◌, ◌<◌, ◌∙◌, Bool, true, false, List, [], ◌∷◌, ◌++◌, length, drop, Option, None, Some, is_some, Ok, Err, refl, ap, arith, length-append, drop_at, IsUtf8}
use Rattle.std.specs.Prelude.{Result}
use Rattle.std.proofs.lemmas.Str.{IsUtf8-nil, IsUtf8-append, IsUtf8-from_ascii}
use Rattle.cue_lattice.specs.declared.refusal.Refusal.{Refusal}
use Rattle.cue_lex.specs.declared.token.Token.{Token}
use Rattle.cue_lex.specs.declared.token.TokenKind.{TokenKind}
use Rattle.cue_lex.specs.declared.token.TokenKind.TheVariants as kinds
use Rattle.cue_lex.specs.declared.punctuation.Punctuation.TheVariants as points
use Rattle.cue_lex.specs.declared.lexeme.Lexeme.TheVariants.{Word}
use Rattle.cue_lex.specs.Kinds.{is_minus, ends_line}
use Rattle.cue_lex.specs.Lexemes.{lexeme}
use Rattle.cue_lex.specs.Tokens.{LexedPiece, Written, Break, pieces, at_place, in_front, commas, with_commas, line_end_of_text, inserted_comma}
use Rattle.cue_lex.proofs.Lexing.{pieces-inside}
use Rattle.print_laws.specs.Kinds.{Lexed, HasKinds}

-- no bytes have no tokens
pub no_kinds : (minus ended : Bool) → HasKinds minus ended [] []
no_kinds minus ended = record {
  utf8 = IsUtf8-nil;
  lexed = λ place last is. record { found = []; are = refl; same = refl };
}

-- the tokens with one more in front
written : (token : Token) (last : Option ℕ) (r : Result (List LexedPiece) Refusal) (found : List Token) → commas (line_end_of_text token) r ≡ Ok found → commas last (in_front (Written token) r) ≡ Ok (token ∷ found)
written token last (Ok more) found are = let same : with_commas (line_end_of_text token) more ≡ found = cc in ap (λ all. Ok (token ∷ all)) same
written token last (Err refusal) found are = cc

-- and with the comma of a line break in front
broken : (end : ℕ) (r : Result (List LexedPiece) Refusal) (found : List Token) → commas None r ≡ Ok found → commas (Some end) (in_front Break r) ≡ Ok (inserted_comma end ∷ found)
broken end (Ok more) found are = let same : with_commas None more ≡ found = cc in ap (λ all. Ok (inserted_comma end ∷ all)) same
broken end (Err refusal) found are = cc

-- what stands at the front of some bytes, and the pieces after it
pieces_first : (minus : Bool) (place : ℕ) (text rest : List ℕ) (kind : TokenKind) → 0 < length text → lexeme minus place (text ++ rest) ≡ Ok (Word kind (length text))
    → pieces minus 0 place (text ++ rest) ≡ in_front (Written (record { kind = kind; from = place; to = place + length text })) (pieces (is_minus kind) 0 (place + length text) rest)
pieces_first minus place [] rest kind some is = absurd (omega arith)
pieces_first minus place (b ∷ text) rest kind some is =
    let one : suc (length text) - 1 ≡ length text = omega arith in
    let at : place + 1 + length text ≡ place + suc (length text) = omega arith in
    let front = λ (r : Result (List LexedPiece) Refusal). in_front (Written (record { kind = kind; from = place; to = place + suc (length text) })) r in
    ap (λ r. at_place minus place r (λ after inside. pieces after inside (place + 1) (text ++ rest))) is
    ∙ ap front
    (ap (λ n. pieces (is_minus kind) n (place + 1) (text ++ rest)) one
    ∙ pieces-inside (is_minus kind) (length text) (place + 1) (text ++ rest) (omega (arith, length-append text rest))
    ∙ ap (λ n. pieces (is_minus kind) 0 n (drop (length text) (text ++ rest))) at
    ∙ ap (pieces (is_minus kind) 0 (place + suc (length text))) (drop_at text rest (length text) refl))

-- a line break after a token inserts a comma where its kind says so
ends : (token : Token) (ended : Bool) → ends_line token.kind ≡ ended → is_some (line_end_of_text token) ≡ ended
ends token true is = rw is refl
ends token false is = rw is refl

-- One token more: it stands at the front, and what follows is told of what it is.
pub one_kind : {minus ended : Bool} {text rest : List ℕ} {kind : TokenKind} {more : List TokenKind} → 0 < length text → IsUtf8 text → ((place : ℕ) → lexeme minus place (text ++ rest) ≡ Ok (Word kind (length text)))
    → HasKinds (is_minus kind) (ends_line kind) rest more → HasKinds minus ended (text ++ rest) (kind ∷ more)
one_kind {minus} {ended} {text} {rest} {kind} {more} some utf8 is after = record {
  utf8 = IsUtf8-append text rest utf8 after.utf8;
  lexed = λ place last _.
      let token : Token = record { kind = kind; from = place; to = place + length text } in
      let left = after.lexed (place + length text) (line_end_of_text token) (ends token (ends_line kind) refl) in
      record {
        found = token ∷ left.found;
        are = ap (commas last) (pieces_first minus place text rest kind some (is place)) ∙ written token last (pieces (is_minus kind) 0 (place + length text) rest) left.found left.are;
        same = ap (λ ks. kind ∷ ks) left.same;
      };
}

-- a byte of ASCII is text
pub ascii_byte : (b : ℕ) → b < 128 → IsUtf8 (b ∷ [])
ascii_byte b below = IsUtf8-from_ascii (b ∷ []) (λ i. at i)
  where
    at : (i : ℕ) → get_or (b ∷ []) i 0 < 128
    at zero = below
    at (suc i) = lit< tt

-- white space is passed
pub after_space : {minus ended : Bool} {rest : List ℕ} {more : List TokenKind} → HasKinds minus ended rest more → HasKinds minus ended (32 ∷ rest) more
unfolding lexeme
after_space {minus} {ended} {rest} {more} after = record {
  utf8 = IsUtf8-append (32 ∷ []) rest (ascii_byte 32 (lit< tt)) after.utf8;
  lexed = λ place last is. let left = after.lexed (place + 1) last is in record { found = left.found; are = left.are; same = left.same };
}

-- a line break after a token that ends a line inserts a comma
pub after_break : {minus : Bool} {rest : List ℕ} {more : List TokenKind} → HasKinds minus false rest more → HasKinds minus true (10 ∷ rest) (kinds.Mark points.Comma ∷ more)
unfolding lexeme
after_break {minus} {rest} {more} after = record {
  utf8 = IsUtf8-append (10 ∷ []) rest (ascii_byte 10 (lit< tt)) after.utf8;
  lexed = λ place last is. go place last is;
}
  where
    go : (place : ℕ) (last : Option ℕ) → is_some last ≡ true → Lexed minus place last (10 ∷ rest) (kinds.Mark points.Comma ∷ more)
    go place None is = cc
    go place (Some end) is =
        let left = after.lexed (place + 1) None refl in
        record {
          found = inserted_comma end ∷ left.found;
          are = broken end (pieces minus 0 (place + 1) rest) left.found left.are;
          same = ap (λ ks. kinds.Mark points.Comma ∷ ks) left.same;
        }
