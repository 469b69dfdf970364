-- What the parser tells of the symbol at which it stopped.
use Rattle.std.specs.Prelude.{◌≡◌, ℕ, List, length, ⊤}
use Rattle.cue_lex.specs.declared.token.Token.{Token}
use Rattle.cue_syntax.specs.declared.stop.Why.{Why}
use Rattle.cue_syntax.specs.declared.stop.Why.TheVariants as reasons
use Rattle.cue_syntax.specs.declared.stop.ParserStop.{ParserStop}

abbrev pub IsWant : Why → Type 0
IsWant (reasons.Memory memory) = ⊤
IsWant _ = ⊥

-- want of memory, which is at no symbol
abbrev pub IsMemoryParserStop : ParserStop → Type 0
IsMemoryParserStop stop = IsWant stop.why × (stop.left ≡ 0)

-- a stop at the first of the tokens that are left
abbrev pub at_hand : Why → ℕ → List Token → ParserStop
at_hand why end tokens = record { why = why; left = length tokens }
