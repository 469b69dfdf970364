-- One step of the lexer, over the pieces of the text.
use Rattle.std.proofs.Common.{◌≡◌, ℕ, zero, suc, ◌+◌, ◌-◌, ◌<◌, ◌≤◌, ◌∙◌, Bool, false, List, [], ◌∷◌, length, drop, drop-drop, Option, None, Ok, Err, refl, sym, ap, arith, add-zero, length-drop}
use Rattle.std.specs.Prelude.{Result}
use Rattle.std.proofs.lemmas.List.{append-nil}
use Rattle.std.proofs.lemmas.Bool.{le-leb}
use Rattle.cue_lattice.specs.declared.refusal.Refusal.{Refusal}
use Rattle.cue_lex.specs.declared.token.Token.{Token}
use Rattle.cue_lex.specs.declared.lexeme.Lexeme.{Lexeme}
use Rattle.cue_lex.specs.Lexemes.{lexeme, len_of}
use Rattle.cue_lattice.specs.Limits.{text_limit}
use Rattle.cue_lex.specs.Tokens.{LexedPiece, pieces, at_place, commas, tokens}
use Rattle.cue_lex.specs.Inner.Tokens.{prepend_tokens}

-- bytes that still belong to a lexeme are passed
pub pieces-inside : (minus : Bool) (inside place : ℕ) (bytes : List ℕ) → inside ≤ length bytes → pieces minus inside place bytes ≡ pieces minus 0 (place + inside) (drop inside bytes)
pieces-inside minus zero place bytes within = ap (λ n. pieces minus 0 n bytes) (sym (add-zero place))
pieces-inside minus (suc inside) place [] within = absurd (omega arith)
pieces-inside minus (suc inside) place (b ∷ bytes) within =
    let e : place + 1 + inside ≡ place + suc inside = omega arith in
    pieces-inside minus inside (place + 1) bytes (omega arith) ∙ ap (λ n. pieces minus 0 n (drop inside bytes)) e

-- what stands at the front, and the pieces after it
pieces-some : (minus : Bool) (place : ℕ) (bytes : List ℕ) → 0 < length bytes → pieces minus 0 place bytes ≡ at_place minus place (lexeme minus place bytes) (λ after inside. pieces after inside (place + 1) (drop 1 bytes))
pieces-some minus place [] some = absurd (omega arith)
pieces-some minus place (b ∷ bytes) some = refl

pieces-none : (minus : Bool) (place : ℕ) (bytes : List ℕ) → length bytes ≡ 0 → pieces minus 0 place bytes ≡ Ok []
pieces-none minus place [] none = refl
pieces-none minus place (b ∷ bytes) none = absurd (omega arith)

-- Tokens were found up to a place: with those of the rest they are the tokens of the text.
pub record LexedSoFar (text : List ℕ) (found : List Token) (line_end : Option ℕ) (minus : Bool) (place : ℕ) (rest : List ℕ) : Type 0 where
  pub size : place + length rest ≡ length text
  pub total : prepend_tokens found (commas line_end (pieces minus 0 place rest)) ≡ commas None (pieces false 0 0 text)

-- before the first byte no token was found
pub lexing_begins : (text : List ℕ) → LexedSoFar text [] None false 0 text
lexing_begins text = record { size = omega arith; total = prepended-nil _ }
  where
    prepended-nil : (r : Result (List Token) Refusal) → prepend_tokens [] r ≡ r
    prepended-nil (Ok found) = refl
    prepended-nil (Err refusal) = refl

module _ {text : List ℕ} {found : List Token} {line_end : Option ℕ} {minus : Bool} {place : ℕ} {rest : List ℕ} (so_far : LexedSoFar text found line_end minus place rest) where
  pub lexing_next : (next : List Token) (next_end : Option ℕ) (next_minus : Bool) (here : Lexeme) →
      0 < length rest → 0 < len_of here → len_of here ≤ length rest → lexeme minus place rest ≡ Ok here →
      ((more : Bool → ℕ → Result (List LexedPiece) Refusal) → prepend_tokens found (commas line_end (at_place minus place (Ok here) more)) ≡ prepend_tokens next (commas next_end (more next_minus (len_of here - 1)))) →
      LexedSoFar text next next_end next_minus (place + len_of here) (drop (len_of here) rest)
  lexing_next next next_end next_minus here nonempty some within gives adds =
      let size = so_far.size in
      let all : 1 + (len_of here - 1) ≡ len_of here = omega arith in
      let at : place + 1 + (len_of here - 1) ≡ place + len_of here = omega arith in
      let left = length-drop 1 rest in
      let more = λ (after : Bool) (inside : ℕ). pieces after inside (place + 1) (drop 1 rest) in
      let stepped : pieces minus 0 place rest ≡ at_place minus place (Ok here) more = pieces-some minus place rest nonempty ∙ ap (λ r. at_place minus place r more) gives in
      let passed : pieces next_minus (len_of here - 1) (place + 1) (drop 1 rest) ≡ pieces next_minus 0 (place + len_of here) (drop (len_of here) rest) =
      pieces-inside next_minus (len_of here - 1) (place + 1) (drop 1 rest) (omega arith)
      ∙ ap (λ n. pieces next_minus 0 n (drop (len_of here - 1) (drop 1 rest))) at
      ∙ ap (pieces next_minus 0 (place + len_of here)) (drop-drop (len_of here - 1) 1 rest ∙ ap (λ n. drop n rest) all) in
      record {
        size = omega (arith, length-drop (len_of here) rest);
        total = ap (λ r. prepend_tokens next (commas next_end r)) (sym passed) ∙ sym (adds more) ∙ ap (λ r. prepend_tokens found (commas line_end r)) (sym stepped) ∙ so_far.total;
      }

  pub lexing_fails : (refusal : Refusal) → 0 < length rest → lexeme minus place rest ≡ Err refusal → commas None (pieces false 0 0 text) ≡ Err refusal
  lexing_fails refusal nonempty fault =
      sym so_far.total
      ∙ ap (λ r. prepend_tokens found (commas line_end r)) (pieces-some minus place rest nonempty ∙ ap (λ r. at_place minus place r (λ after inside. pieces after inside (place + 1) (drop 1 rest))) fault)

  pub lexing_ends : length rest ≡ 0 → commas None (pieces false 0 0 text) ≡ Ok found
  lexing_ends none =
      sym so_far.total
      ∙ ap (λ r. prepend_tokens found (commas line_end r)) (pieces-none minus place rest none)
      ∙ ap Ok (append-nil found)

-- a text that is not too long has the tokens of its pieces
pub tokens-short : (text : List ℕ) → length text ≤ text_limit → tokens text ≡ commas None (pieces false 0 0 text)
unfolding tokens
tokens-short text short = let fits = le-leb (length text) text_limit short in rw fits refl
