-- How moves and stops of the recogniser are put together.
use Rattle.std.proofs.Common.{◌≡◌, ◌∙◌, ap, sym, subst, refl, ℕ, ◌+◌, ◌≤◌, ◌⊎◌, inl, inr, true, false, List, [], ◌∷◌, ◌++◌, drop, append_assoc, arith, Some, None, Result, Ok, Err, IfOk, IfErr}
use Rattle.std.specs.Prelude.{if◌then◌else◌, IsErrAnd}
use Rattle.std.proofs.lemmas.Bool.{le-leb}
use Rattle.cue_lex.specs.declared.token.Token.{Token}
use Rattle.cue_lex.specs.declared.token.TokenKind.{TokenKind}
use Rattle.cue_syntax.specs.declared.stop.Why.{Why}
use Rattle.cue_syntax.specs.declared.stop.Why.TheVariants as reasons
use Rattle.cue_syntax.specs.declared.stop.ParserStop.{ParserStop}
use Rattle.cue_syntax.specs.Grammar.{Limit, unlimited, at_most, Within}
use Rattle.cue_syntax.specs.Spelling.{SpellsTree, SpelledPiece}
use Rattle.cue_syntax.specs.Stops.{IsMemoryParserStop, at_hand}
use Rattle.cue_syntax.specs.Viability.{IsTokenAt, IsSignAt, IsKeywordName}
use Rattle.cue_syntax.specs.Recogniser.{Stack, depth, fits_limit, step_stack, is_over, rest_where_stuck, rest_where_stuck_behind, EndsExpression, IsGoalEnd, StopsBefore, ReadsUpTo, IsCallHere, StaysWithin, TakesOperand, FollowsMark, IsOperandHere, OpensItself, StopsBeforeBy, ParserStops, ParserRefusesAt, MovesStack}

-- tokens are the last of themselves
pub end_self : {a : List Token} → IsGoalEnd a a
end_self = record { read = []; is = refl }

-- the tokens after the first one are the last of the tokens
pub end_next : {a b : List Token} (t : Token) → a ≡ t ∷ b → IsGoalEnd a b
end_next t is = record { read = t ∷ []; is = is }

-- the last of what is the last of the tokens is the last of them too
pub end_then : {a b c : List Token} → IsGoalEnd a b → IsGoalEnd b c → IsGoalEnd a c
end_then {c = c} x y = record { read = x.read ++ y.read; is = x.is ∙ ap (λ z. x.read ++ z) y.is ∙ sym (append_assoc x.read y.read c) }

-- two stacks, one upon the other, have the levels of both
pub depth_append : (a b : Stack) → depth (a ++ b) ≡ depth a + depth b
depth_append [] b = omega arith
depth_append (g ∷ a) b = omega (arith, depth_append a b)

within_le : (limit : Limit) (m n : ℕ) → m ≤ n → Within limit n → Within limit m
within_le unlimited m n le within = tt
within_le (at_most k) m n le within = omega arith

fits_within : (limit : Limit) (n : ℕ) → Within limit n → fits_limit limit n ≡ true
fits_within unlimited n within = refl
fits_within (at_most m) n within = le-leb n m within

-- moves
-- two moves, one after the other, are a move
pub moves_then : {n : ℕ} {g h k : Stack} {a b c : List Token} → MovesStack n g a h b → MovesStack n h b k c → MovesStack n g a k c
moves_then x y = record { inside = end_then x.inside y.inside; moves = λ limit below within. x.moves limit below within ∙ y.moves limit below within }

-- goals that read no token stay as they are
pub moves_none : {n : ℕ} {g : Stack} {a : List Token} → MovesStack n g a g a
moves_none = record { inside = end_self; moves = λ limit below within. refl }

-- goals that come to the same goals at the same place may stand for each other
pub moves_meet : {n : ℕ} {g k : Stack} {a b : List Token} (h : Stack) → MovesStack n g a h b → MovesStack n k a h b → MovesStack n g a k a
moves_meet h x y = record { inside = record { read = []; is = refl }; moves = λ limit below within. x.moves limit below within ∙ sym (y.moves limit below within) }

-- goals read on in the same way where further goals lie below them
pub moves_under : {n left : ℕ} {g h : Stack} {a b : List Token} (under : Stack) → depth under + left ≡ n → MovesStack left g a h b → MovesStack n (g ++ under) a (h ++ under) b
moves_under {n = n} {left = left} {g = g} {h = h} {a = a} {b = b} under is m = record {
  inside = m.inside;
  moves = λ limit below within.
      let w : Within limit (depth (under ++ below) + left) = within_le limit _ _ (omega (arith, is, depth_append under below)) within in
      subst (λ z. rest_where_stuck limit z a ≡ rest_where_stuck limit ((h ++ under) ++ below) b) (sym (append_assoc g under below))
      (subst (λ z. rest_where_stuck limit (g ++ (under ++ below)) a ≡ rest_where_stuck limit z b) (sym (append_assoc h under below)) (m.moves limit (under ++ below) w));
}

-- what is read within some levels is read within more
pub moves_more : {n left : ℕ} {g h : Stack} {a b : List Token} → left ≤ n → MovesStack left g a h b → MovesStack n g a h b
moves_more le m = record { inside = m.inside; moves = λ limit below within. m.moves limit below (within_le limit _ _ (omega (arith, le)) within) }

step_taken : (limit : Limit) (goals next : Stack) (t : Token) (b : List Token) → step_stack goals t.kind ≡ Some next → Within limit (depth next)
    → rest_where_stuck limit goals (t ∷ b) ≡ rest_where_stuck limit next b
step_taken limit goals next t b is within =
    ap (λ z. rest_where_stuck_behind limit z (t ∷ b) (λ g. rest_where_stuck limit g b)) is
    ∙ ap (λ z. if z then rest_where_stuck limit next b else Some (t ∷ b)) (fits_within limit (depth next) within)

-- a token is taken
-- a token at hand moves the goals that take it
pub takes : {n : ℕ} {g next : Stack} {a b : List Token} (t : Token) → a ≡ t ∷ b → ((below : Stack) → step_stack (g ++ below) t.kind ≡ Some (next ++ below)) → depth next ≤ n
    → MovesStack n g a next b
takes {n = n} {g = g} {next = next} {a = a} {b = b} t is taken le = record {
  inside = end_next t is;
  moves = λ limit below within.
      ap (rest_where_stuck limit (g ++ below)) is
      ∙ step_taken limit (g ++ below) (next ++ below) t b (taken below) (within_le limit _ _ (omega (arith, le, depth_append next below)) within);
}

-- a token that is read moves the goals that take its kind
pub takes_read : {n : ℕ} {g next : Stack} {a b : List Token} {piece : SpelledPiece} → SpellsTree a (piece ∷ []) b → ((below : Stack) → step_stack (g ++ below) piece.kind ≡ Some (next ++ below)) → depth next ≤ n
    → MovesStack n g a next b
takes_read {a = []} reads taken le = absurd reads.follows
takes_read {g = g} {next = next} {a = t ∷ ts} reads taken le =
    takes t (ap (λ z. t ∷ z) reads.follows.2) (λ below. ap (step_stack (g ++ below)) reads.follows.0 ∙ taken below) le

-- the first of several tokens
pub takes_first : {n : ℕ} {g next : Stack} {a b : List Token} {piece : SpelledPiece} {pieces : List SpelledPiece} → SpellsTree a (piece ∷ pieces) b → ((below : Stack) → step_stack (g ++ below) piece.kind ≡ Some (next ++ below))
    → depth next ≤ n → (c : List Token) × MovesStack n g a next c × SpellsTree c pieces b
takes_first {a = []} reads taken le = absurd reads.follows
takes_first {g = g} {a = t ∷ ts} reads taken le =
    (ts, takes t refl (λ below. ap (step_stack (g ++ below)) reads.follows.0 ∙ taken below) le, record { follows = reads.follows.2 })

-- the goals do the same with the symbol at hand
abbrev pub Alike : Stack → Stack → List Token → Type 0
Alike g h [] = (below : Stack) → is_over (g ++ below) ≡ is_over (h ++ below)
Alike g h (t ∷ ts) = (below : Stack) → step_stack (g ++ below) t.kind ≡ step_stack (h ++ below) t.kind

-- goals that do the same with the symbol at hand may stand for each other there
pub alike_moves : {n : ℕ} {g h : Stack} (a : List Token) → Alike g h a → MovesStack n g a h a
alike_moves [] alike = record { inside = end_self; moves = λ limit below within. ap (λ z. if z then None else Some []) (alike below) }
alike_moves (t ∷ ts) alike = record { inside = end_self; moves = λ limit below within. ap (λ z. rest_where_stuck_behind limit z (t ∷ ts) (λ g. rest_where_stuck limit g ts)) (alike below) }

-- the goals take no symbol at hand
abbrev pub HaltsAt : Stack → List Token → Type 0
HaltsAt g [] = (below : Stack) → is_over (g ++ below) ≡ false
HaltsAt g (t ∷ ts) = (below : Stack) → EndsExpression below → step_stack (g ++ below) t.kind ≡ None

-- goals that take no symbol at hand halt there
pub record Halts (g : Stack) (a : List Token) : Type 0 where
  pub at : HaltsAt g a

sticks_at : (g : Stack) (limit : Limit) (a : List Token) → HaltsAt g a → (below : Stack) → EndsExpression below → rest_where_stuck limit (g ++ below) a ≡ Some a
sticks_at g limit [] halts below closes = ap (λ z. if z then None else Some []) (halts below)
sticks_at g limit (t ∷ ts) halts below closes = ap (λ z. rest_where_stuck_behind limit z (t ∷ ts) (λ g. rest_where_stuck limit g ts)) (halts below closes)

-- where goals halt, tokens leave the grammar at once, on whatever may come after an expression
pub halts_sticks : (g : Stack) (limit : Limit) (a : List Token) → Halts g a → (below : Stack) → EndsExpression below → rest_where_stuck limit (g ++ below) a ≡ Some a
halts_sticks g limit a halts below closes = sticks_at g limit a halts.at below closes

-- goals that don't take the first token halt there
pub halts_at : {g : Stack} {a b : List Token} (t : Token) → a ≡ t ∷ b → ((below : Stack) → EndsExpression below → step_stack (g ++ below) t.kind ≡ None) → Halts g a
halts_at {g = g} t is halts = record { at = subst (λ z. HaltsAt g z) (sym is) halts }

-- goals that do the same with the first token may stand for each other there
pub alike_at : {n : ℕ} {g h : Stack} {a b : List Token} (t : Token) → a ≡ t ∷ b → ((below : Stack) → step_stack (g ++ below) t.kind ≡ step_stack (h ++ below) t.kind) → MovesStack n g a h a
alike_at {g = g} {h = h} {a = a} t is alike = alike_moves a (subst (λ z. Alike g h z) (sym is) alike)

unless_at : (g : Stack) (k : TokenKind) (a : List Token) → ((below : Stack) → is_over (g ++ below) ≡ false)
    → ((j : TokenKind) → (j ≡ k → ⊥) → (below : Stack) → step_stack (g ++ below) j ≡ None) → ¬ IsSignAt k a → HaltsAt g a
unless_at g k [] over none lacks = over
unless_at g k (t ∷ ts) over none lacks = λ below closes. none t.kind lacks below

-- no symbol but this one is taken
pub halts_unless : {g : Stack} {a : List Token} (k : TokenKind) → ((below : Stack) → is_over (g ++ below) ≡ false)
    → ((j : TokenKind) → (j ≡ k → ⊥) → (below : Stack) → step_stack (g ++ below) j ≡ None) → ¬ IsSignAt k a → Halts g a
halts_unless {g = g} {a = a} k over none lacks = record { at = unless_at g k a over none lacks }

-- the results of a call
-- what follows from what is said of an answer is said of it
pub if_ok : {A E : Type 0} {P Q : A → Type 0} (r : Result A E) → ((x : A) → P x → Q x) → IfOk r P → IfOk r Q
if_ok (Ok x) f p = f x p
if_ok (Err e) f p = tt

-- what follows from what is said of an error is said of it
pub if_err : {A E : Type 0} {P Q : E → Type 0} (r : Result A E) → ((x : E) → P x → Q x) → IfErr r P → IfErr r Q
if_err (Ok x) f p = tt
if_err (Err e) f p = f e p

-- what is so of an error is said of a result that is that error
pub err_from : {A E : Type 0} (P : E → Type 0) (r : Result A E) (x : E) → IsErrAnd r (λ e. e ≡ x) → P x → IfErr r P
err_from P (Ok a) x is p = absurd is
err_from P (Err e) x is p = subst P (sym is) p

-- stops
-- what is stuck within more room after a move is so from its start
pub sticks_behind : {n l : ℕ} {g h : Stack} {a b here : List Token} → n ≤ l → MovesStack n g a h b → StopsBefore (at_most l) h b here → StopsBefore (at_most l) g a here
sticks_behind {n = n} {l = l} le m s = λ below closes. m.moves (at_most (depth below + l)) below (let e : depth below + n ≤ depth below + l = omega (arith, le) in e) ∙ s below closes

-- where goals halt, the tokens leave the grammar within each room for the move there
halts_within : {n l : ℕ} {g h : Stack} {a b : List Token} → n ≤ l → MovesStack n g a h b → Halts h b → StopsBefore (at_most l) g a b
halts_within {l = l} {h = h} {b = b} le m halts = sticks_behind le m (λ below closes. halts_sticks h (at_most (depth below + l)) b halts below closes)

halts_ever : {n : ℕ} {g h : Stack} {a b : List Token} → MovesStack n g a h b → Halts h b → StopsBefore unlimited g a b
halts_ever {h = h} {b = b} m halts = λ below closes. m.moves unlimited below tt ∙ halts_sticks h unlimited b halts below closes

-- refused at a later symbol, to which there is room
pub stops_there : {n end free : ℕ} {g h : Stack} {a b : List Token} {r : ParserStop} → free ≤ n → r ≡ at_hand reasons.Syntax end b → MovesStack free g a h b → Halts h b → ParserStops n end g a r
stops_there {n = n} {end = end} {g = g} {a = a} {b = b} le is m halts = subst (λ z. ParserStops n end g a z) (sym is) (record {
  at = b;
  inside = m.inside;
  left = refl;
  by = (halts_ever m halts, inl (halts_within le m halts));
})

-- goals stop where they halt
pub stops_here : {n end : ℕ} {g : Stack} {a : List Token} {r : ParserStop} → r ≡ at_hand reasons.Syntax end a → Halts g a → ParserStops n end g a r
stops_here is halts = stops_there {free = 0} (omega arith) is moves_none halts

-- refused at a symbol before which a level is owed
pub stops_owing : {n end : ℕ} {g h : Stack} {a b : List Token} {r : ParserStop} (before : List Token) → r ≡ at_hand reasons.Syntax end b → MovesStack (1 + n) g a h b → Halts h b
    → drop 1 before ≡ b → StopsBefore (at_most n) g a before → IsTokenAt IsKeywordName before ⊎ IsCallHere a before → ParserStops n end g a r
stops_owing {n = n} {end = end} {g = g} {h = h} {a = a} {b = b} before is m halts next sticks why = subst (λ z. ParserStops n end g a z) (sym is) (record {
  at = b;
  inside = m.inside;
  left = refl;
  by = (halts_ever m halts, inr (record { before = before; next = next; sticks = sticks; goes_on = record { next = h; moves = m }; why = why }));
})

-- what a move leads to
pub goes_behind : {n l : ℕ} {g h : Stack} {a b rest : List Token} → n ≤ l → MovesStack n g a h b → ReadsUpTo l h b rest → ReadsUpTo l g a rest
goes_behind le m s = record { next = s.next; moves = moves_then (moves_more le m) s.moves }

call_behind : {a b here : List Token} → IsGoalEnd a b → IsCallHere b here → IsCallHere a here
call_behind inside s = record { name = s.name; inside = end_then inside s.inside; call = s.call; behind = s.behind }

why_behind : {a b before : List Token} → IsGoalEnd a b → IsTokenAt IsKeywordName before ⊎ IsCallHere b before → IsTokenAt IsKeywordName before ⊎ IsCallHere a before
why_behind inside (inl e) = inl e
why_behind inside (inr c) = inr (call_behind inside c)

within_behind : {n : ℕ} {g h : Stack} {a b here : List Token} → MovesStack n g a h b → StaysWithin n h b here → StaysWithin n g a here
within_behind m (inl s) = inl (sticks_behind (omega arith) m s)
within_behind m (inr o) = inr (record { before = o.before; next = o.next; sticks = sticks_behind (omega arith) m o.sticks; goes_on = goes_behind (omega arith) m o.goes_on; why = why_behind m.inside o.why })

-- Where an operand may begin after a move, a mark was read last, or none was and an operand may begin at the start.
abbrev pub Leads : Stack → List Token → Stack → List Token → Type 0
Leads g a h b = TakesOperand h → IsOperandHere g a b

-- a mark that stands before a place in what is left stands before it in the tokens
pub follows_behind : {a b here : List Token} → IsGoalEnd a b → FollowsMark b here → FollowsMark a here
follows_behind inside f = record { token = f.token; mark = f.mark; kind = f.kind; inside = end_then inside f.inside }

operand_behind : {a b here : List Token} (g h : Stack) → IsGoalEnd a b → Leads g a h b → IsOperandHere h b here → IsOperandHere g a here
operand_behind {a = a} g h inside leads (inl e) = subst (λ z. IsOperandHere g a z) e.0 (leads e.1)
operand_behind g h inside leads (inr f) = inr (follows_behind inside f)

opens_after : {n : ℕ} {g h : Stack} {a b here : List Token} → MovesStack n g a h b → Leads g a h b → OpensItself n h b here → OpensItself n g a here
opens_after m leads (inl e) = inl e
opens_after {g = g} {h = h} m leads (inr (e, inl f)) = inr (e, inl (operand_behind g h m.inside leads f))
opens_after m leads (inr (e, inr s)) = inr (e, inr (sticks_behind (omega arith) m s))

by_behind : {n : ℕ} {g h : Stack} {a b : List Token} (at : List Token) (kind : Why) → MovesStack n g a h b → Leads g a h b → StopsBeforeBy n h b kind at → StopsBeforeBy n g a kind at
by_behind at reasons.Syntax m leads by = (λ below closes. m.moves unlimited below tt ∙ by.0 below closes, within_behind m by.1)
by_behind at reasons.Nesting m leads by =
    record { here = by.here; within = within_behind m by.within; goes_on = goes_behind (omega arith) m by.goes_on; opens = opens_after m leads by.opens; near = by.near }
by_behind at (reasons.Memory memory) m leads by = by

-- a stop at what is left after a move is a stop from its start
pub stops_behind : {n end : ℕ} {g h : Stack} {a b : List Token} {r : ParserStop} → MovesStack n g a h b → Leads g a h b → ParserStops n end h b r → ParserStops n end g a r
stops_behind {r = r} m leads s = record { at = s.at; inside = end_then m.inside s.inside; left = s.left; by = by_behind s.at r.why m leads s.by }

-- the same where further goals lie below
abbrev Passes : Stack → Type 0
Passes under = (below : Stack) → EndsExpression below → EndsExpression (under ++ below)

sticks_ever_under : (g : Stack) (a here : List Token) (under : Stack) → Passes under → StopsBefore unlimited g a here → StopsBefore unlimited (g ++ under) a here
sticks_ever_under g a here under close s =
    λ below closes. subst (λ z. rest_where_stuck unlimited z a ≡ Some here) (sym (append_assoc g under below)) (s (under ++ below) (close below closes))

sticks_under : {n : ℕ} (left : ℕ) (g : Stack) (a here : List Token) (under : Stack) → depth under + left ≡ n → Passes under → StopsBefore (at_most left) g a here → StopsBefore (at_most n) (g ++ under) a here
sticks_under {n = n} left g a here under is close s = λ below closes.
    let e : depth (under ++ below) + left ≡ depth below + n = omega (arith, is, depth_append under below) in
    subst (λ z. rest_where_stuck (at_most (depth below + n)) z a ≡ Some here) (sym (append_assoc g under below))
    (subst (λ z. rest_where_stuck (at_most z) (g ++ (under ++ below)) a ≡ Some here) e (s (under ++ below) (close below closes)))

goes_under : {n left : ℕ} {g : Stack} {a rest : List Token} (under : Stack) → depth under + left ≡ n → ReadsUpTo left g a rest → ReadsUpTo n (g ++ under) a rest
goes_under under is s = record { next = s.next ++ under; moves = moves_under under is s.moves }

within_under : {n left : ℕ} {g : Stack} {a here : List Token} (under : Stack) → depth under + left ≡ n → Passes under → StaysWithin left g a here → StaysWithin n (g ++ under) a here
within_under {left = left} {g = g} {a = a} {here = here} under is close (inl s) = inl (sticks_under left g a here under is close s)
within_under {left = left} {g = g} {a = a} under is close (inr o) = inr (record { before = o.before; next = o.next; sticks = sticks_under left g a o.before under is close o.sticks; goes_on = goes_under under (omega (arith, is)) o.goes_on; why = o.why })

operand_under : {a here : List Token} (g under : Stack) → IsOperandHere g a here → IsOperandHere (g ++ under) a here
operand_under [] under (inl e) = absurd e.1
operand_under (goal ∷ g) under (inl e) = inl e
operand_under g under (inr f) = inr f

opens_under : {n : ℕ} (left : ℕ) (g : Stack) (a here : List Token) (under : Stack) → depth under + left ≡ n → Passes under → OpensItself left g a here → OpensItself n (g ++ under) a here
opens_under left g a here under is close (inl e) = inl e
opens_under left g a here under is close (inr (e, inl f)) = inr (e, inl (operand_under g under f))
opens_under left g a here under is close (inr (e, inr s)) = inr (e, inr (sticks_under (1 + left) g a here under (omega (arith, is)) close s))

by_under : {n : ℕ} (left : ℕ) (g : Stack) (a at : List Token) (kind : Why) (under : Stack) → depth under + left ≡ n → Passes under → StopsBeforeBy left g a kind at → StopsBeforeBy n (g ++ under) a kind at
by_under left g a at reasons.Syntax under is close by = (sticks_ever_under g a at under close by.0, within_under under is close by.1)
by_under left g a at reasons.Nesting under is close by =
    record { here = by.here; within = within_under under is close by.within; goes_on = goes_under under (omega (arith, is)) by.goes_on; opens = opens_under left g a by.here under is close by.opens; near = by.near }
by_under left g a at (reasons.Memory memory) under is close by = by

-- goals stop in the same way where further goals lie below them
pub stops_under : {n left end : ℕ} {g : Stack} {a : List Token} {r : ParserStop} (under : Stack) → depth under + left ≡ n → ((below : Stack) → EndsExpression below → EndsExpression (under ++ below))
    → ParserStops left end g a r → ParserStops n end (g ++ under) a r
stops_under {left = left} {g = g} {a = a} {r = r} under is close s = record { at = s.at; inside = s.inside; left = s.left; by = by_under left g a s.at r.why under is close s.by }

-- refusals
-- want of memory is a refusal
pub lacks_memory : {n end : ℕ} {g : Stack} {a : List Token} {r : ParserStop} → IsMemoryParserStop r → ParserRefusesAt n end g a r
lacks_memory is = record { why = inl is }

-- a stop is a refusal
pub stopped : {n end : ℕ} {g : Stack} {a : List Token} {r : ParserStop} → ParserStops n end g a r → ParserRefusesAt n end g a r
stopped s = record { why = inr s }

-- what is refused after a move is refused from its start
pub refused_behind : {n end : ℕ} {g h : Stack} {a b : List Token} {r : ParserStop} → MovesStack n g a h b → Leads g a h b → ParserRefusesAt n end h b r → ParserRefusesAt n end g a r
refused_behind m leads s = elim (s.why) [ inl e ↦ record { why = inl e } | inr e ↦ record { why = inr (stops_behind m leads e) } ]

-- what goals refuse they refuse where further goals lie below them
pub refused_under : {n left end : ℕ} {g : Stack} {a : List Token} {r : ParserStop} (under : Stack) → depth under + left ≡ n → ((below : Stack) → EndsExpression below → EndsExpression (under ++ below))
    → ParserRefusesAt left end g a r → ParserRefusesAt n end (g ++ under) a r
refused_under under is close s = elim (s.why) [ inl e ↦ record { why = inl e } | inr e ↦ record { why = inr (stops_under under is close e) } ]

-- another name of the same end
pub refused_end : {n end other : ℕ} {g : Stack} {a : List Token} {r : ParserStop} → end ≡ other → ParserRefusesAt n end g a r → ParserRefusesAt n other g a r
refused_end {n = n} {g = g} {a = a} {r = r} is s = subst (λ z. ParserRefusesAt n z g a r) is s

-- where goals halt after a move, the tokens are refused from its start
pub halted_behind : {n end other : ℕ} {g h : Stack} {a b : List Token} {r : ParserStop} → MovesStack n g a h b → other ≡ end → r ≡ at_hand reasons.Syntax other b → Halts h b → ParserRefusesAt n end g a r
halted_behind m same is halts = refused_end same (stopped (stops_there (omega arith) is m halts))
