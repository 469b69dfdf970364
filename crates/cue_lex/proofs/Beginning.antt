-- Before the first token or string of a text nothing is kept.
use Rattle.std.proofs.Common.{◌≡◌, ℕ, zero, suc, ◌+◌, ◌-◌, ◌<◌, ◌≤◌, ◌∙◌, ◌⊎◌, inl, inr, Bool, true, false, List, [], ◌∷◌, length, take, drop, drop-drop, Option, None, Some, Ok, Err, refl, sym, ap, subst, arith, add-zero, length-drop, get_or}
use Rattle.std.specs.Prelude.{Result, IfErr, ◌==◌, nat_le, slice_index, if◌then◌else◌}
use Rattle.cue_lattice.specs.declared.refusal.Kind.{Kind}
use Rattle.cue_lattice.specs.declared.refusal.Kind.TheVariants as refusals
use Rattle.cue_lattice.specs.declared.refusal.Refusal.{Refusal}
use Rattle.cue_lattice.specs.Refusal.{memory, refusal_at}
use Rattle.cue_lattice.specs.Limits.{word_limit}
use Rattle.cue_lex.specs.declared.lexeme.Lexeme.{Lexeme}
use Rattle.cue_lex.specs.declared.lexeme.Lexeme.TheVariants.{Blank, LineBreak, Word}
use Rattle.cue_lex.specs.declared.token.TokenKind.TheVariants as kinds
use Rattle.cue_lex.specs.Lexemes.{lexeme, len_of, string, within_text_limit, lex_refusal, integer, number, is_in_range, lex_name, name_kind, literal_len}
use Rattle.cue_lex.specs.Strings.{string_text}
use Rattle.cue_lex.specs.Integers.{literal_number}
use Rattle.cue_lex.specs.First.{is_first, begins_from, begins_some}
use Rattle.cue_lex.specs.Inner.First.{IsBlank}

-- a fault that is told of a place is no want of memory
abbrev TellsNoMemory : Type 0 → Result Lexeme Refusal → Type 0
TellsNoMemory P r = IfErr r (λ e. e ≡ memory → P)

number_told : (P : Type 0) (minus : Bool) (place len : ℕ) (o : Option ℕ) → TellsNoMemory P (number minus place len o)
number_told P minus place len None = λ is. absurd (let e : refusals.BadNumber ≡ refusals.Memory = ap (λ r. r.kind) is in cc)
number_told P minus place len (Some n) = by (is_in_range minus n)
  where
    by : (b : Bool) → TellsNoMemory P (if b then Ok (Word (kinds.Integer n) len) else lex_refusal refusals.IntRange place)
    by true = tt
    by false = λ is. absurd (let e : refusals.IntRange ≡ refusals.Memory = ap (λ r. r.kind) is in cc)

pub integer_told : (P : Type 0) (minus : Bool) (place : ℕ) (bytes : List ℕ) (r : Result Lexeme Refusal) → r ≡ integer minus place bytes → IfErr r (λ e. e ≡ memory → P)
unfolding integer
integer_told P minus place bytes r is = subst (TellsNoMemory P) (sym is) (number_told P minus place (literal_len bytes) (literal_number (take (literal_len bytes) bytes)))

name_by : (P : Type 0) (place : ℕ) (l : Lexeme) (b : Bool) → TellsNoMemory P (if b then Ok l else lex_refusal refusals.TextTooLong place)
name_by P place l true = tt
name_by P place l false = λ is. absurd (let e : refusals.TextTooLong ≡ refusals.Memory = ap (λ r. r.kind) is in cc)

pub name_told : (P : Type 0) (place len : ℕ) (bytes : List ℕ) (r : Result Lexeme Refusal) → r ≡ lex_name place len bytes → IfErr r (λ e. e ≡ memory → P)
unfolding lex_name
name_told P place len bytes r is = subst (TellsNoMemory P) (sym is) (name_by P place (Word (name_kind (take len bytes)) len) (nat_le len word_limit))

-- bytes that still belong to a lexeme are passed
begins_inside : (inside place : ℕ) (bytes : List ℕ) → inside ≤ length bytes → begins_from inside place bytes ≡ begins_from 0 (place + inside) (drop inside bytes)
begins_inside zero place bytes within = ap (λ n. begins_from 0 n bytes) (sym (add-zero place))
begins_inside (suc inside) place [] within = absurd (omega arith)
begins_inside (suc inside) place (b ∷ bytes) within =
    let e : place + 1 + inside ≡ place + suc inside = omega arith in
    begins_inside inside (place + 1) bytes (omega arith) ∙ ap (λ n. begins_from 0 n (drop inside bytes)) e

begins_at : (place : ℕ) (bytes : List ℕ) → 0 < length bytes → begins_from 0 place bytes ≡ is_first (slice_index bytes 0) (lexeme false place bytes) (λ inside. begins_from inside (place + 1) (drop 1 bytes))
begins_at place [] some = absurd (omega arith)
begins_at place (b ∷ bytes) some = refl

-- a quote begins a string, or what is refused as one
kept_first : (place : ℕ) (rest : ℕ → Bool) (r : Result (List ℕ × ℕ) Refusal) → is_first 34 (within_text_limit place r) rest ≡ true
kept_first place rest (Err e) = refl
kept_first place rest (Ok (t, end)) = fits (nat_le (length t) word_limit)
  where
    fits : (b : Bool) → is_first 34 (if b then Ok (Word (kinds.Text t) (end - place)) else lex_refusal refusals.TextTooLong place) rest ≡ true
    fits true = refl
    fits false = refl

string_first : (place : ℕ) (bytes : List ℕ) (rest : ℕ → Bool) → is_first 34 (string place bytes) rest ≡ true
unfolding string
string_first place bytes rest = kept_first place rest (string_text place (drop 1 bytes))

quote_first : (place : ℕ) (bytes : List ℕ) (rest : ℕ → Bool) → slice_index bytes 0 ≡ 34 → is_first (slice_index bytes 0) (lexeme false place bytes) rest ≡ true
unfolding lexeme
quote_first place bytes rest is = rw is (string_first place bytes rest)

-- Up to a place nothing is kept, or the text begins with something before.
pub record KeptSoFar (text : List ℕ) (line_end : Option ℕ) (minus : Bool) (place : ℕ) (rest : List ℕ) : Type 0 where
  pub why : (begins_some text ≡ true) ⊎ ((begins_some text ≡ begins_from 0 place rest) × (line_end ≡ None) × (minus ≡ false))

pub keeping_begins : (text : List ℕ) → KeptSoFar text None false 0 text
unfolding begins_some
keeping_begins text = record { why = inr (refl, refl, refl) }

module _ {text : List ℕ} {line_end : Option ℕ} {minus : Bool} {place : ℕ} {rest : List ℕ} (so_far : KeptSoFar text line_end minus place rest) where
  pub keeping_next : (next_end : Option ℕ) (next_minus : Bool) (here : Lexeme) → 0 < length rest → 0 < len_of here → len_of here ≤ length rest → lexeme minus place rest ≡ Ok here
      → (IsBlank here → line_end ≡ None → (next_end ≡ None) × (next_minus ≡ minus)) → KeptSoFar text next_end next_minus (place + len_of here) (drop (len_of here) rest)
  keeping_next next_end next_minus here nonempty some within gives stays = elim (so_far.why) [
    | inl is ↦ record { why = inl is }
    | inr is ↦ by here some within (is.0 ∙ begins_at place rest nonempty ∙ ap (λ r. is_first (slice_index rest 0) r (λ inside. begins_from inside (place + 1) (drop 1 rest))) (subst (λ m. lexeme m place rest ≡ Ok here) is.2 gives)) (λ blank. let s = stays blank is.1 in (s.0, s.1 ∙ is.2))
  ]
    where
      blank : (len : ℕ) → 0 < len → len ≤ length rest → begins_from (len - 1) (place + 1) (drop 1 rest) ≡ begins_from 0 (place + len) (drop len rest)
      blank len some within =
          let all : 1 + (len - 1) ≡ len = omega arith in
          let at : place + 1 + (len - 1) ≡ place + len = omega arith in
          begins_inside (len - 1) (place + 1) (drop 1 rest) (omega (arith, length-drop 1 rest))
          ∙ ap (λ n. begins_from 0 n (drop (len - 1) (drop 1 rest))) at
          ∙ ap (begins_from 0 (place + len)) (drop-drop (len - 1) 1 rest ∙ ap (λ n. drop n rest) all)

      by : (here : Lexeme) → 0 < len_of here → len_of here ≤ length rest → begins_some text ≡ is_first (slice_index rest 0) (Ok here) (λ inside. begins_from inside (place + 1) (drop 1 rest))
          → (IsBlank here → (next_end ≡ None) × (next_minus ≡ false)) → KeptSoFar text next_end next_minus (place + len_of here) (drop (len_of here) rest)
      by (Blank len) some within is stays = let s = stays tt in record { why = inr (is ∙ blank len some within, s.0, s.1) }
      by LineBreak some within is stays = let s = stays tt in record { why = inr (is ∙ blank 1 some within, s.0, s.1) }
      by (Word kind len) some within is stays = record { why = inl is }

  -- a token or a line break finds no memory only where something begins the text
  pub keeping_fails : (here : Lexeme) → 0 < length rest → lexeme minus place rest ≡ Ok here → (IsBlank here → line_end ≡ None → ⊥) → begins_some text ≡ true
  keeping_fails here nonempty gives wants = elim (so_far.why) [
    | inl is ↦ is
    | inr is ↦ by here (is.0 ∙ begins_at place rest nonempty ∙ ap (λ r. is_first (slice_index rest 0) r (λ inside. begins_from inside (place + 1) (drop 1 rest))) (subst (λ m. lexeme m place rest ≡ Ok here) is.2 gives)) (λ blank. wants blank is.1)
  ]
    where
      by : (here : Lexeme) → begins_some text ≡ is_first (slice_index rest 0) (Ok here) (λ inside. begins_from inside (place + 1) (drop 1 rest)) → (IsBlank here → ⊥) → begins_some text ≡ true
      by (Blank len) is wants = absurd (wants tt)
      by LineBreak is wants = absurd (wants tt)
      by (Word kind len) is wants = is

  -- a string finds no memory where it begins the text, or something before it does
  pub keeping_quote : 0 < length rest → slice_index rest 0 ≡ 34 → begins_some text ≡ true
  keeping_quote nonempty quote = elim (so_far.why) [ inl is ↦ is | inr is ↦ is.0 ∙ begins_at place rest nonempty ∙ quote_first place rest _ quote ]
