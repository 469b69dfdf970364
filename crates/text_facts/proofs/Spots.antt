-- Where a symbol stands in a text, by the tokens before it.
use Rattle.std.proofs.Common.{◌≡◌, ℕ, List, [], refl}
use Rattle.std.specs.Prelude.{codes}
use Rattle.cue_lex.specs.Tokens.{tokens}
use Rattle.cue_syntax.specs.declared.spot.Position.{Position}
use Rattle.cue_syntax.specs.declared.spot.Position.TheVariants.{Top, Inner, Value, Operand, Bound, NotEqual, Ellipsis, CloseName, CloseArgument, Other}
use Rattle.cue_syntax.specs.Spots.{spot_of}
use Rattle.text_facts.proofs.OnLiterals.{lexed}
use Rattle.text_facts.proofs.Trees.{words_of}

-- the spot behind all tokens of a text
abbrev behind : List ℕ → Position
behind text = spot_of (words_of (tokens text))

declarations : (behind [] ≡ Top) × (behind (codes "a: 1,") ≡ Top) × (behind (codes "a: {}\n") ≡ Top) × (behind (codes "a: {") ≡ Inner) × (behind (codes "a: {b: 1,") ≡ Inner)
unfolding lexed
declarations = (refl, refl, refl, refl, refl)

values_and_operands : (behind (codes "a:") ≡ Value) × (behind (codes "a: b:") ≡ Value) × (behind (codes "a: 1 &") ≡ Operand) × (behind (codes "a: *") ≡ Operand) × (behind (codes "a: (") ≡ Operand) × (behind (codes "a: [") ≡ Operand) × (behind (codes "a: [1,") ≡ Operand) × (behind (codes "a: [...") ≡ Operand)
unfolding lexed
values_and_operands = (refl, refl, refl, refl, refl, refl, refl, refl)

bounds_and_dots : (behind (codes "a: <") ≡ Bound) × (behind (codes "a: >=") ≡ Bound) × (behind (codes "a: !=") ≡ NotEqual) × (behind (codes "...") ≡ Ellipsis) × (behind (codes "a: {...") ≡ Ellipsis)
unfolding lexed
bounds_and_dots = (refl, refl, refl, refl, refl)

calls : (behind (codes "a: close") ≡ CloseName) × (behind (codes "a: close(") ≡ CloseArgument) × (behind (codes "a: b(") ≡ Operand)
unfolding lexed
calls = (refl, refl, refl)

-- a value has begun, and a list takes nothing behind its rest
no_other_spots : (behind (codes "a") ≡ Other) × (behind (codes "a: 1") ≡ Other) × (behind (codes "a: {}") ≡ Other) × (behind (codes "a: (1,") ≡ Other) × (behind (codes "a: [...,") ≡ Other)
unfolding lexed
no_other_spots = (refl, refl, refl, refl, refl)
