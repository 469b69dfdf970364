-- What a refusal of the parser says of the tokens, and of its place.
use Rattle.std.specs.Prelude.{◌≡◌, ◌⊎◌, ◌-◌, ℕ, zero, suc, List, take, drop, length, codes}
use Rattle.cue_lattice.specs.declared.refusal.Form.{Form}
use Rattle.cue_lattice.specs.declared.refusal.Kind.{Kind}
use Rattle.cue_lattice.specs.declared.refusal.Kind.TheVariants as refusals
use Rattle.cue_lattice.specs.declared.refusal.Refusal.{Refusal}
use Rattle.cue_lattice.specs.Refusal.{memory, refusal_at}
use Rattle.cue_lex.specs.declared.token.Token.{Token}
use Rattle.cue_lex.specs.declared.token.TokenKind.TheVariants as kinds
use Rattle.cue_syntax.specs.declared.spot.Position.TheVariants as spots
use Rattle.cue_syntax.specs.declared.stop.Why.{Why}
use Rattle.cue_syntax.specs.declared.stop.Why.TheVariants as reasons
use Rattle.cue_syntax.specs.declared.stop.ParserStop.{ParserStop}
use Rattle.cue_syntax.specs.Grammar.{unlimited, at_most}
use Rattle.cue_syntax.specs.Viability.{BeginsText, Leaves, place_of_symbol, IsTokenAt, Next, IsSignAt, IsMark}
use Rattle.cue_syntax.specs.Viability.{IsCallOfClose, IsKeywordName}
use Rattle.cue_syntax.specs.Spots.{spot_of}
use Rattle.cue_syntax.specs.Forms.{IsFormAt}

-- the symbol after so many tokens is the parenthesis of a `close(`
pub record IsCallBehind (n : ℕ) (tokens : List Token) : Type 0 where
  pub from : ℕ
  pub next : suc from ≡ n
  pub call : IsCallOfClose (drop from tokens)

-- The last of n symbols opens no level too many, but only a symbol that does may follow: the mark
-- of a label after a keyword as a value, or the brace of a `close({` after its parenthesis.
pub record OwesLevel (levels n : ℕ) (tokens : List Token) : Type 0 where
  pub earlier : ℕ
  pub next : suc earlier ≡ n
  pub begins : BeginsText (at_most levels) earlier tokens
  pub one_more : BeginsText (at_most (suc levels)) n tokens
  pub why : IsTokenAt IsKeywordName (drop earlier tokens) ⊎ IsCallBehind earlier tokens

-- The first n symbols begin a text, as far as they open levels within so many.
abbrev pub BeginsWithin : ℕ → ℕ → List Token → Type 0
BeginsWithin levels n tokens = BeginsText (at_most levels) n tokens ⊎ OwesLevel levels n tokens

-- The symbol after k tokens is the first that opens a level too many, and trees of more levels go
-- on with it. It is named itself, unless it is the mark of a label, which is named before it.
pub record NestsAt (levels : ℕ) (tokens : List Token) (j : ℕ) : Type 0 where
  pub k : ℕ
  pub within : BeginsWithin levels k tokens
  pub beyond : ¬ BeginsWithin levels (suc k) tokens
  pub deeper : BeginsText unlimited (suc k) tokens
  pub named : ((j ≡ k) × ¬ IsTokenAt IsMark (drop k tokens))
      ⊎ ((suc j ≡ k) × IsTokenAt IsMark (drop k tokens))

-- a first name `package` begins the clause of a package, where no mark makes it a label
abbrev pub BeginsPackage : ℕ → List Token → Type 0
BeginsPackage zero tokens =
    IsSignAt (kinds.Name (codes "package")) tokens × ¬ Next IsMark tokens
BeginsPackage (suc j) tokens = ⊥

-- the form stands after so many of the tokens
abbrev pub FormIsAfter : ℕ → List Token → Form → Type 0
FormIsAfter j tokens form =
    IsFormAt form (spot_of (take j tokens)) (drop j tokens) × ¬ BeginsPackage j tokens

-- a keyword stands there as a value
abbrev pub IsValueKeyword : ℕ → List Token → Type 0
IsValueKeyword j tokens =
    (spot_of (take j tokens) ≡ spots.Value) × IsTokenAt IsKeywordName (drop j tokens)

-- Such a symbol is named, though the grammar has it, where the next symbol leaves the grammar: that
-- one makes it a form that the profile leaves out, or lacks the mark of a label after a keyword.
abbrev pub IsNamedEarly : ℕ → List Token → Type 0
IsNamedEarly j tokens = ((form : Form) × FormIsAfter j tokens form) ⊎ IsValueKeyword j tokens

-- Where tokens leave the grammar after k of them, the symbol after j of them is named.
abbrev pub IsSymbolNamed : List Token → ℕ → ℕ → Type 0
IsSymbolNamed tokens k j =
    ((suc j ≡ k) × IsNamedEarly j tokens)
    ⊎ ((j ≡ k) × ((i : ℕ) → suc i ≡ k → ¬ IsNamedEarly i tokens))

-- what is said of a symbol that is named: the form that stands there, or Syntax where none does
abbrev pub IsKindAfter : ℕ → List Token → Kind → Type 0
IsKindAfter j tokens refusals.Syntax = (form : Form) → ¬ FormIsAfter j tokens form
IsKindAfter j tokens (refusals.LeftOut form) = FormIsAfter j tokens form
IsKindAfter j tokens _ = ⊥

-- The tokens leave the grammar of any number of levels, before any symbol opens a level too many,
-- and this is said of the symbol after j of them.
pub record LeavesAt (levels : ℕ) (tokens : List Token) (kind : Kind) (j : ℕ) : Type 0 where
  pub k : ℕ
  pub within : BeginsWithin levels k tokens
  pub leaves : Leaves unlimited tokens k
  pub named : IsSymbolNamed tokens k j
  pub told : IsKindAfter j tokens kind

-- why the parser may refuse the tokens, at the symbol after j of them
abbrev pub FitsRefusalAt : ℕ → List Token → Kind → ℕ → Type 0
FitsRefusalAt levels tokens refusals.Nesting j = NestsAt levels tokens j
FitsRefusalAt levels tokens kind j = LeavesAt levels tokens kind j

-- The refusal says why the tokens are no text within so many levels, and where.
pub record FitsRefusal (levels end : ℕ) (tokens : List Token) (refusal : Refusal) : Type 0 where
  pub j : ℕ
  pub place : refusal.place ≡ place_of_symbol end (drop j tokens)
  pub fits : FitsRefusalAt levels tokens refusal.kind j

-- What is told where tokens leave the grammar after k of them.
pub record RefusalSaysOf (end : ℕ) (tokens : List Token) (k : ℕ) (refusal : Refusal) : Type 0 where
  pub j : ℕ
  pub place : refusal.place ≡ place_of_symbol end (drop j tokens)
  pub named : IsSymbolNamed tokens k j
  pub kind : IsKindAfter j tokens refusal.kind

-- what is told of a stop after k tokens
abbrev pub RefusalSaysAt : ℕ → List Token → ℕ → Why → Refusal → Type 0
RefusalSaysAt end tokens k (reasons.Memory m) refusal = refusal ≡ memory
RefusalSaysAt end tokens k reasons.Nesting refusal =
    refusal ≡ refusal_at refusals.Nesting (place_of_symbol end (drop k tokens))
RefusalSaysAt end tokens k reasons.Syntax refusal = RefusalSaysOf end tokens k refusal

-- The refusal tells of the stop.
abbrev pub RefusalSays : ℕ → List Token → ParserStop → Refusal → Type 0
RefusalSays end tokens stop refusal = RefusalSaysAt end tokens (length tokens - stop.left) stop.why refusal
