-- What a part refuses is refused by the whole, which answers the same stop.
use Rattle.std.proofs.Common.{◌≡◌, ℕ, ◌+◌, Bool, List, [], ◌∷◌, Result, IfErr}
use Rattle.std.specs.Prelude.{IsErrAnd}
use Rattle.cue_lex.specs.declared.token.Token.{Token}
use Rattle.cue_syntax.specs.declared.stop.ParserStop.{ParserStop}
use Rattle.cue_syntax.specs.Stops.{IsMemoryParserStop}
use Rattle.cue_syntax.specs.Recogniser.{Stack, ParserRefusesAt, entries, levels_of}
use Rattle.cue_syntax.proofs.MovesAndStops.{err_from}

-- a stop at which the goals are refused is one where it is passed on
pub passed_on : {A : Type 0} {room end : ℕ} {goals : Stack} {a : List Token} {stop : ParserStop} (r : Result A ParserStop) → IsErrAnd r (λ e. e ≡ stop) → ParserRefusesAt room end goals a stop
    → IfErr r (λ e. ParserRefusesAt room end goals a e)
passed_on {room = room} {end = end} {goals = goals} {a = a} {stop = stop} r is refused = err_from (λ e. ParserRefusesAt room end goals a e) r stop is refused

-- the same of a declaration, at the top and below it
pub passed_on_each : {A : Type 0} {end : ℕ} {a : List Token} {stop : ParserStop} (room : ℕ) (r : Result A ParserStop) → IsErrAnd r (λ e. e ≡ stop)
    → ((top : Bool) → ParserRefusesAt (levels_of (entries top) + room) end (entries top ∷ []) a stop)
    → IfErr r (λ e. (top : Bool) → ParserRefusesAt (levels_of (entries top) + room) end (entries top ∷ []) a e)
passed_on_each {end = end} {a = a} {stop = stop} room r is refused = err_from (λ e. (top : Bool) → ParserRefusesAt (levels_of (entries top) + room) end (entries top ∷ []) a e) r stop is refused

-- what would follow from want of memory follows of the stop that is passed on
pub memory_passed_on : {A P : Type 0} (stop : ParserStop) (r : Result A ParserStop) → IsErrAnd r (λ e. e ≡ stop) → (IsMemoryParserStop stop → P) → IfErr r (λ e. IsMemoryParserStop e → P)
memory_passed_on {P = P} stop r is lacks = err_from (λ e. IsMemoryParserStop e → P) r stop is lacks
