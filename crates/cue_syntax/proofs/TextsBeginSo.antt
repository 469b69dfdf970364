-- With which tokens a declaration begins that the parser goes on to read.
use Rattle.std.proofs.Common.{◌≡◌, ◌⊎◌, ℕ, inl, inr, subst, ap, Ok, Err, List, [], ◌∷◌}
use Rattle.std.specs.Prelude.{Result, MatchResult, IsErr, IfErr}
use Rattle.cue_lex.specs.declared.token.Token.{Token}
use Rattle.cue_lex.specs.declared.token.TokenKind.{TokenKind}
use Rattle.cue_syntax.specs.declared.stop.ParserStop.{ParserStop}
use Rattle.cue_syntax.specs.declared.stop.Why.TheVariants as reasons
use Rattle.cue_syntax.specs.Spelling.{SpellsTree, one}
use Rattle.cue_syntax.specs.Stops.{IsWant, IsMemoryParserStop, at_hand}
use Rattle.cue_syntax.specs.Viability.{IsSignAt}
use Rattle.cue_syntax.specs.Begun.{MayBeginEntry}

-- What is said of the tokens at hand is said of the first ones.
pub begun : (a b : List Token) → (a ≡ b) ⊎ MayBeginEntry b → MayBeginEntry a → MayBeginEntry b
begun a b (inl e) is = subst MayBeginEntry e is
begun a b (inr is) other = is

-- What holds whatever was answered.
pub begins_always : {A : Type 0} (r : Result A ParserStop) (P : Type 0) → P → MatchResult r (λ x. P) (λ e. IsMemoryParserStop e → P)
begins_always (Ok x) P is = is
begins_always (Err e) P is = λ m. is

-- A stop at a token is no want of memory.
pub no_memory : {P : Type 0} {stop : ParserStop} (end : ℕ) (tokens : List Token) → stop ≡ at_hand reasons.Syntax end tokens → IsMemoryParserStop stop → P
no_memory end tokens is lacks = absurd (subst IsWant (ap (λ s. s.why) is) lacks.0)

-- A token that was read stands at hand.
pub read_stands : (k : TokenKind) (a b : List Token) → SpellsTree a (one k) b → IsSignAt k a
read_stands k [] b reads = absurd reads.follows
read_stands k (t ∷ a) b reads = reads.follows.0

-- What is said of a refusal is said of an answer that is one.
pub refused_so : {A : Type 0} (P : A → Type 0) (Q : ParserStop → Type 0) (r : Result A ParserStop) → IsErr r → IfErr r Q → MatchResult r P Q
refused_so P Q (Ok x) is said = cc
refused_so P Q (Err e) is said = said
