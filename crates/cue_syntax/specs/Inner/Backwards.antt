-- Which bracket is open at a symbol, told on the way back from it.
use Rattle.std.specs.Prelude.{◌≡◌, ◌≤◌, ℕ, suc, List, [], ◌∷◌, drop, Option, Some, if◌then◌else◌}
use Rattle.cue_lex.specs.declared.token.Token.{Token}
use Rattle.cue_syntax.specs.declared.spot.Inside.{Inside}
use Rattle.cue_syntax.specs.declared.spot.Back.{Back}
use Rattle.cue_syntax.specs.declared.spot.BackStep.{BackStep}
use Rattle.cue_syntax.specs.declared.spot.BackStep.TheVariants.{Open, Further}
use Rattle.cue_syntax.specs.declared.spot.Position.{Position}
use Rattle.cue_syntax.specs.declared.spot.Position.TheVariants as spots
use Rattle.cue_syntax.specs.Spots.{innermost_open, open_after, after_ellipsis}

-- what is open after tokens
abbrev pub open_from : List Inside → List Token → List Inside
open_from opened [] = opened
open_from opened (token ∷ tokens) = open_from (open_after opened token.kind) tokens

-- what is open at the symbol, by what was open where the way back has come to
abbrev pub open_at_symbol : Back → List Inside → Option Inside
open_at_symbol back opened =
    innermost_open
    (if back.has_rest then after_ellipsis (drop back.closed opened)
    else drop back.closed opened)

-- a step back tells this of the symbol, where so much is open before the token
abbrev pub KnowsOpen : BackStep → List Inside → Option Inside → Type 0
KnowsOpen (Open inside) opened symbol = symbol ≡ Some inside
KnowsOpen (Further back) opened symbol = symbol ≡ open_at_symbol back opened

-- a step back meets at most one bracket that closes
abbrev pub ClosesFew : BackStep → ℕ → Type 0
ClosesFew (Open inside) closed = Unit {0}
ClosesFew (Further back) closed = back.closed ≤ suc closed

abbrev pub IsCloseName : Position → Type 0
IsCloseName spots.CloseName = Unit {0}
IsCloseName _ = ⊥
