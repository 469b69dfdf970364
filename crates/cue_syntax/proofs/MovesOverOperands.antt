-- How the recogniser goes through operands and terms: parentheses, structs, `close`, conjunctions and disjunctions.
use Rattle.std.proofs.Common.{◌≡◌, ◌∙◌, ap, sym, subst, refl, ℕ, zero, suc, ◌+◌, ◌≤◌, ◌<◌, inl, inr, Bool, true, false, List, [], ◌∷◌, ◌++◌, drop, codes, arith, Some, None}
use Rattle.cue_lex.specs.declared.token.Token.{Token}
use Rattle.cue_lex.specs.declared.token.TokenKind.{TokenKind}
use Rattle.cue_lex.specs.declared.token.TokenKind.TheVariants as kinds
use Rattle.cue_lex.specs.declared.punctuation.Punctuation.TheVariants as points
use Rattle.cue_syntax.specs.declared.stop.Why.TheVariants as reasons
use Rattle.cue_syntax.specs.declared.stop.ParserStop.{ParserStop}
use Rattle.cue_syntax.specs.Spelling.{SpellsTree, one, one_at, comma_if}
use Rattle.cue_syntax.specs.Operands.{EndsOperand}
use Rattle.cue_syntax.specs.Stops.{at_hand}
use Rattle.cue_syntax.specs.Viability.{IsSignAt, IsMark, IsCallOfClose}
use Rattle.cue_syntax.specs.Recogniser.{Goal, Stack, depth, step_stack, EndsExpression, MovesStack, Owes, OpensAlone, OpensItself, ParserStops, ParserRefusesAt, entries, more_parts, more_terms, bar, term, unary, expression, parenthesis, parenthesis_end, behind_close, closed}
use Rattle.cue_syntax.proofs.MovesAndStops.{takes_read, moves_none, moves_then, moves_more, moves_under, alike_moves, Halts, HaltsAt, halts_unless, sticks_behind, goes_behind, stops_there, stops_owing, stopped, end_self, refused_behind, refused_under, refused_end}
use Rattle.cue_syntax.proofs.OpensLevels.{sticks_sign, goes_sign, sign_stands, sign_no, opens_sign, follows_mark}
use Rattle.cue_syntax.proofs.TextsBeginSo.{read_stands}

-- a sign that opens a level is refused where no level is left
pub no_room : {n end : ℕ} {g : Stack} {a : List Token} {r : ParserStop} (k : TokenKind) (next : Stack) → IsSignAt k a → ¬ IsMark k → ((below : Stack) → step_stack (g ++ below) k ≡ Some (next ++ below)) → 0 < depth next → depth next ≤ 2
    → OpensItself n g a a → n ≡ 0 → r ≡ at_hand reasons.Nesting end a → ParserRefusesAt n end g a r
no_room k next stands other taken more few opens spent is = stopped (opens_sign k next stands other taken (omega (arith, more, spent)) (omega (arith, few)) opens is)

-- a brace or a bracket opens a level by itself
pub sign_alone : {a : List Token} (n : ℕ) (g : Stack) (k : TokenKind) → IsSignAt k a → OpensAlone k → OpensItself n g a a
sign_alone {a = a} n g k stands alone = inl (sign_stands OpensAlone a k stands alone)

-- the end of a parenthesis
-- what is to come, by whether a comma was read
abbrev pub behind_inner : Bool → Goal
behind_inner true = parenthesis_end
behind_inner false = parenthesis

-- the goal of the end of a parenthesis goes through a comma, or through none
pub inner_comma : {n : ℕ} {a b : List Token} (comma : Bool) → 1 ≤ n → SpellsTree a (comma_if comma) b → MovesStack n (parenthesis ∷ []) a (behind_inner comma ∷ []) b
inner_comma true le reads = takes_read reads (λ below. refl) (omega arith)
inner_comma {n = n} {a = a} false le reads = subst (λ z. MovesStack n (parenthesis ∷ []) a (parenthesis ∷ []) z) reads.follows moves_none

-- the goal of the end of a parenthesis goes through the closing one
pub inner_closes : {n : ℕ} {a b : List Token} (comma : Bool) → SpellsTree a (one (kinds.Mark points.CloseParenthesis)) b → MovesStack n (behind_inner comma ∷ []) a [] b
inner_closes true reads = takes_read reads (λ below. refl) (omega arith)
inner_closes false reads = takes_read reads (λ below. refl) (omega arith)

inner_none : (k : TokenKind) → (k ≡ (kinds.Mark points.CloseParenthesis) → ⊥) → (k ≡ (kinds.Mark points.Comma) → ⊥) → (below : Stack) → step_stack (parenthesis ∷ below) k ≡ None
inner_none (kinds.Mark points.CloseParenthesis) a b below = absurd (a refl)
inner_none (kinds.Mark points.Comma) a b below = absurd (b refl)
inner_none _ a b below = refl

inner_end_none : (k : TokenKind) → (k ≡ (kinds.Mark points.CloseParenthesis) → ⊥) → (below : Stack) → step_stack (parenthesis_end ∷ below) k ≡ None
inner_end_none (kinds.Mark points.CloseParenthesis) a below = absurd (a refl)
inner_end_none _ a below = refl

inner_at : (comma : Bool) (a : List Token) → ¬ IsSignAt (kinds.Mark points.CloseParenthesis) a → (comma ≡ false → ¬ IsSignAt (kinds.Mark points.Comma) a) → HaltsAt (behind_inner comma ∷ []) a
inner_at true [] close more = λ below. refl
inner_at false [] close more = λ below. refl
inner_at true (t ∷ ts) close more = λ below closes. inner_end_none t.kind close below
inner_at false (t ∷ ts) close more = λ below closes. inner_none t.kind close (more refl) below

-- after a comma that was looked for: where none was, none stands
pub no_comma : {a b : List Token} (comma : Bool) → SpellsTree a (comma_if comma) b → (comma ≡ false → ¬ IsSignAt (kinds.Mark points.Comma) a) → comma ≡ false → ¬ IsSignAt (kinds.Mark points.Comma) b
no_comma true reads lacks is = absurd (let e : true ≡ false = is in cc)
no_comma false reads lacks is = subst (λ z. ¬ IsSignAt (kinds.Mark points.Comma) z) reads.follows (lacks refl)

-- the goal of the end of a parenthesis halts where no closing one stands
pub inner_halts : {a b : List Token} (comma : Bool) → SpellsTree a (comma_if comma) b → (comma ≡ false → ¬ IsSignAt (kinds.Mark points.Comma) a) → ¬ IsSignAt (kinds.Mark points.CloseParenthesis) b → Halts (behind_inner comma ∷ []) b
inner_halts {b = b} comma reads lacks close = record { at = inner_at comma b close (no_comma comma reads lacks) }

-- goals that come after an expression still do so with the end of a parenthesis on top
pub parenthesis_close : (below : Stack) → EndsExpression below → EndsExpression (parenthesis ∷ below)
parenthesis_close below closes = record { call = refl; colon = refl; question = refl; exclamation = refl }

-- a parenthesis, up to its expression
pub parenthesis_opens : {room left : ℕ} {a b c : List Token} → left + 1 ≡ room → SpellsTree a (one (kinds.Mark points.OpenParenthesis)) b → MovesStack left (expression ∷ []) b [] c → MovesStack room (unary ∷ []) a (parenthesis ∷ []) c
parenthesis_opens is reads inner = moves_then {h = expression ∷ parenthesis ∷ []} (takes_read reads (λ below. refl) (omega (arith, is))) (moves_under (parenthesis ∷ []) (omega (arith, is)) inner)

-- what is refused of the expression in a parenthesis is refused of the operand
pub parenthesis_refused : {room left end other : ℕ} {a b : List Token} {r : ParserStop} → left + 1 ≡ room → other ≡ end → SpellsTree a (one (kinds.Mark points.OpenParenthesis)) b → ParserRefusesAt left other (expression ∷ []) b r → ParserRefusesAt room end (unary ∷ []) a r
parenthesis_refused is same reads inner =
    refused_behind {h = expression ∷ parenthesis ∷ []} (takes_read reads (λ below. refl) (omega (arith, is))) (λ begins. inr (follows_mark points.OpenParenthesis reads)) (refused_end same (refused_under (parenthesis ∷ []) (omega (arith, is)) parenthesis_close inner))

-- a struct
-- the goal of an operand goes through a brace, and then through the declarations after it
pub struct_moves : {room : ℕ} {a b c : List Token} (left : ℕ) → left + 1 ≡ room → SpellsTree a (one (kinds.Mark points.OpenBrace)) b → MovesStack (1 + left) (entries false ∷ []) b [] c → MovesStack room (unary ∷ []) a [] c
struct_moves left is reads inner = moves_then {h = entries false ∷ []} (takes_read reads (λ below. refl) (omega (arith, is))) (moves_more (omega (arith, is)) inner)

-- what is refused of the declarations in braces is refused of the operand
pub struct_refused : {room end other : ℕ} {a b : List Token} {r : ParserStop} (left : ℕ) → left + 1 ≡ room → other ≡ end → SpellsTree a (one (kinds.Mark points.OpenBrace)) b → ParserRefusesAt (1 + left) other (entries false ∷ []) b r → ParserRefusesAt room end (unary ∷ []) a r
struct_refused {room = room} {end = end} {other = other} {b = b} {r = r} left is same reads inner =
    let e : 1 + left ≡ room = omega (arith, is) in
    refused_behind {h = entries false ∷ []} (takes_read reads (λ below. refl) (omega (arith, is))) (λ none. absurd none) (refused_end same (subst (λ z. ParserRefusesAt z other (entries false ∷ []) b r) e inner))

-- `close`
-- the goal of an operand goes through `close(`, where two levels are left
pub call_opens : {n from : ℕ} {a b c : List Token} → 2 ≤ n → SpellsTree a (one_at from (kinds.Name (codes "close"))) b → SpellsTree b (one (kinds.Mark points.OpenParenthesis)) c → MovesStack n (unary ∷ []) a (closed ∷ []) c
call_opens le first second = moves_then {h = behind_close ∷ []} (takes_read first (λ below. refl) (omega arith)) (takes_read second (λ below. refl) (omega (arith, le)))

call_at : {from : ℕ} (a b : List Token) → IsCallOfClose a → SpellsTree a (one_at from (kinds.Name (codes "close"))) b → IsSignAt (kinds.Mark points.OpenParenthesis) b
call_at [] b call reads = absurd call.0
call_at (t ∷ ts) b call reads = subst (λ z. IsSignAt (kinds.Mark points.OpenParenthesis) z) reads.follows.2 call.1

-- in a call of `close` a parenthesis stands after the name
pub call_paren : {from : ℕ} {a b : List Token} → IsCallOfClose a → SpellsTree a (one_at from (kinds.Name (codes "close"))) b → IsSignAt (kinds.Mark points.OpenParenthesis) b
call_paren {a = a} {b = b} call reads = call_at a b call reads

call_by : {from : ℕ} (a b c : List Token) → SpellsTree a (one_at from (kinds.Name (codes "close"))) b → SpellsTree b (one (kinds.Mark points.OpenParenthesis)) c → IsCallOfClose a × (drop 1 a ≡ b)
call_by [] b c first second = absurd first.follows
call_by (s ∷ a) [] c first second = absurd second.follows
call_by (s ∷ a) (t ∷ b) c first second = ((first.follows.0, subst (λ z. IsSignAt (kinds.Mark points.OpenParenthesis) z) (sym first.follows.2) second.follows.0), first.follows.2)

-- a call of `close` is refused where no level is left for its parenthesis
pub call_no_room : {room end other from : ℕ} {a b : List Token} {r : ParserStop} → room ≡ 0 → other ≡ end → IsCallOfClose a → SpellsTree a (one_at from (kinds.Name (codes "close"))) b → r ≡ at_hand reasons.Nesting other b
    → ParserRefusesAt room end (unary ∷ []) a r
call_no_room {b = b} spent same call first is =
    let paren : IsSignAt (kinds.Mark points.OpenParenthesis) b = call_paren call first in
    refused_behind {h = behind_close ∷ []} (takes_read first (λ below. refl) (omega arith)) (λ none. absurd none) (refused_end same
    (no_room (kinds.Mark points.OpenParenthesis) (closed ∷ []) paren (λ m. m) (λ below. refl) (omega arith) (omega arith)
    (inr (paren, inr (sticks_sign (behind_close ∷ []) b (kinds.Mark points.OpenParenthesis) (closed ∷ []) paren (λ below. refl) (omega (arith, spent))))) spent is))

closed_none : (k : TokenKind) → (k ≡ (kinds.Mark points.OpenBrace) → ⊥) → (below : Stack) → step_stack (closed ∷ below) k ≡ None
closed_none (kinds.Mark points.OpenBrace) other below = absurd (other refl)
closed_none _ other below = refl

-- the goal after `close(` halts where no brace stands
pub closed_halts : {a : List Token} → ¬ IsSignAt (kinds.Mark points.OpenBrace) a → Halts (closed ∷ []) a
closed_halts lacks = halts_unless (kinds.Mark points.OpenBrace) (λ below. refl) closed_none lacks

-- after `close(` with one level left another one is owed
call_owes : {room from : ℕ} {a b c : List Token} → room ≡ 1 → SpellsTree a (one_at from (kinds.Name (codes "close"))) b → SpellsTree b (one (kinds.Mark points.OpenParenthesis)) c → Owes room (unary ∷ []) a c
call_owes {a = a} {b = b} {c = c} single first second =
    let call = call_by a b c first second in
    let paren = read_stands (kinds.Mark points.OpenParenthesis) b c second in record {
      before = b;
      next = read_drop second;
      sticks = sticks_behind {n = 0} {g = unary ∷ []} {h = behind_close ∷ []} (omega arith) (takes_read first (λ below. refl) (omega arith)) (sticks_sign (behind_close ∷ []) b (kinds.Mark points.OpenParenthesis) (closed ∷ []) paren (λ below. refl) (omega (arith, single)));
      goes_on = record { next = closed ∷ []; moves = call_opens (omega (arith, single)) first second };
      why = inr (record { name = a; inside = end_self; call = call.0; behind = call.1 });
    }
  where
    read_drop : {k : TokenKind} {b c : List Token} → SpellsTree b (one k) c → drop 1 b ≡ c
    read_drop {b = []} reads = absurd reads.follows
    read_drop {b = t ∷ ts} reads = reads.follows.2

-- `close({` is refused where no level is left for its brace
pub brace_no_room : {room left end other from : ℕ} {a b c d : List Token} {r : ParserStop} → left + 1 ≡ room → left ≡ 0 → other ≡ end → SpellsTree a (one_at from (kinds.Name (codes "close"))) b → SpellsTree b (one (kinds.Mark points.OpenParenthesis)) c
    → SpellsTree c (one (kinds.Mark points.OpenBrace)) d → r ≡ at_hand reasons.Nesting other c → ParserRefusesAt room end (unary ∷ []) a r
brace_no_room {room = room} {other = other} {a = a} {c = c} {d = d} is spent same first second third refused =
    let brace : IsSignAt (kinds.Mark points.OpenBrace) c = read_stands (kinds.Mark points.OpenBrace) c d third in
    let opened : MovesStack (2 + room) (unary ∷ []) a (closed ∷ []) c = call_opens (omega arith) first second in
    refused_end same (stopped (subst (λ z. ParserStops room other (unary ∷ []) a z) (sym refused) (record {
      at = c;
      inside = opened.inside;
      left = refl;
      by = record {
        here = c;
        within = inr (call_owes (omega (arith, is, spent)) first second);
        goes_on = goes_behind (omega arith) opened (goes_sign {g = closed ∷ []} c (kinds.Mark points.OpenBrace) (entries false ∷ parenthesis ∷ []) brace (λ below. refl) (omega arith));
        opens = inl (sign_stands OpensAlone c (kinds.Mark points.OpenBrace) brace tt);
        near = inl (refl, sign_no IsMark c (kinds.Mark points.OpenBrace) brace (λ m. m));
      };
    })))

-- `close(` is refused where no brace stands after it
pub close_misses : {room end other from : ℕ} {a b c : List Token} {r : ParserStop} (left : ℕ) → left + 1 ≡ room → other ≡ end → SpellsTree a (one_at from (kinds.Name (codes "close"))) b → SpellsTree b (one (kinds.Mark points.OpenParenthesis)) c
    → ¬ IsSignAt (kinds.Mark points.OpenBrace) c → r ≡ at_hand reasons.Syntax other c → ParserRefusesAt room end (unary ∷ []) a r
close_misses {room = room} zero is same first second lacks refused =
    let single : room ≡ 1 = omega (arith, is) in
    let o = call_owes single first second in
    refused_end same (stopped (stops_owing o.before refused (call_opens (omega (arith, single)) first second) (closed_halts lacks) o.next o.sticks o.why))
close_misses (suc left) is same first second lacks refused =
    refused_end same (stopped (stops_there {free = 2} (omega (arith, is)) refused (call_opens (omega arith) first second) (closed_halts lacks)))

-- the goal of an operand goes through `close({` to its declarations
pub close_opens : {room left from : ℕ} {a b c d : List Token} (last : ℕ) → left + 1 ≡ room → last + 1 ≡ left → SpellsTree a (one_at from (kinds.Name (codes "close"))) b → SpellsTree b (one (kinds.Mark points.OpenParenthesis)) c
    → SpellsTree c (one (kinds.Mark points.OpenBrace)) d → MovesStack room (unary ∷ []) a (entries false ∷ parenthesis ∷ []) d
close_opens last is more first second third = moves_then {h = closed ∷ []} (call_opens (omega (arith, is, more)) first second) (takes_read third (λ below. refl) (omega (arith, is, more)))

-- the goal of an operand goes through `close({` and its declarations to the closing parenthesis
pub close_moves : {room left from : ℕ} {a b c d f : List Token} (last : ℕ) → left + 1 ≡ room → last + 1 ≡ left → SpellsTree a (one_at from (kinds.Name (codes "close"))) b → SpellsTree b (one (kinds.Mark points.OpenParenthesis)) c
    → SpellsTree c (one (kinds.Mark points.OpenBrace)) d → MovesStack (1 + last) (entries false ∷ []) d [] f → MovesStack room (unary ∷ []) a (parenthesis ∷ []) f
close_moves last is more first second third inner = moves_then (close_opens last is more first second third) (moves_under (parenthesis ∷ []) (omega (arith, is, more)) inner)

-- what is refused of the declarations in `close({` is refused of the operand
pub close_refused : {room left end other from : ℕ} {a b c d : List Token} {r : ParserStop} (last : ℕ) → left + 1 ≡ room → last + 1 ≡ left → other ≡ end → SpellsTree a (one_at from (kinds.Name (codes "close"))) b → SpellsTree b (one (kinds.Mark points.OpenParenthesis)) c
    → SpellsTree c (one (kinds.Mark points.OpenBrace)) d → ParserRefusesAt (1 + last) other (entries false ∷ []) d r → ParserRefusesAt room end (unary ∷ []) a r
close_refused last is more same first second third inner = refused_behind (close_opens last is more first second third) (λ none. absurd none) (refused_end same (refused_under (parenthesis ∷ []) (omega (arith, is, more)) parenthesis_close inner))

-- terms
not_star : (k : TokenKind) → (k ≡ (kinds.Mark points.Star) → ⊥) → (below : Stack) → step_stack (term ∷ below) k ≡ step_stack (unary ∷ more_parts ∷ below) k
not_star (kinds.Mark points.Star) other below = absurd (other refl)
not_star _ other below = refl

term_at : {n : ℕ} (a : List Token) → ¬ IsSignAt (kinds.Mark points.Star) a → MovesStack n (term ∷ []) a (unary ∷ more_parts ∷ []) a
term_at [] lacks = alike_moves [] (λ below. refl)
term_at (t ∷ ts) lacks = alike_moves (t ∷ ts) (λ below. not_star t.kind lacks below)

-- where no star stands, a term is an operand or a bound, and further parts or none
pub unmarked_moves : {n : ℕ} {a : List Token} → ¬ IsSignAt (kinds.Mark points.Star) a → MovesStack n (term ∷ []) a (unary ∷ more_parts ∷ []) a
unmarked_moves {a = a} lacks = term_at a lacks

-- the goal of a term goes through a star to an operand or a bound
pub marked_moves : {n : ℕ} {a b : List Token} → SpellsTree a (one (kinds.Mark points.Star)) b → MovesStack n (term ∷ []) a (unary ∷ []) b
marked_moves reads = takes_read reads (λ below. refl) (omega arith)

parts_over : (k : TokenKind) → (k ≡ (kinds.Mark points.Ampersand) → ⊥) → (below : Stack) → step_stack (more_parts ∷ below) k ≡ step_stack below k
parts_over (kinds.Mark points.Ampersand) other below = absurd (other refl)
parts_over _ other below = refl

parts_at : {n : ℕ} (a : List Token) → ¬ IsSignAt (kinds.Mark points.Ampersand) a → MovesStack n (more_parts ∷ []) a [] a
parts_at [] lacks = alike_moves [] (λ below. refl)
parts_at (t ∷ ts) lacks = alike_moves (t ∷ ts) (λ below. parts_over t.kind lacks below)

-- where no `&` stands, no further part comes
pub parts_end : {n : ℕ} {a : List Token} → ¬ IsSignAt (kinds.Mark points.Ampersand) a → MovesStack n (more_parts ∷ []) a [] a
parts_end {a = a} lacks = parts_at a lacks

-- the goal of further parts goes through `&` to the next one
pub parts_go : {n : ℕ} {a b : List Token} → SpellsTree a (one (kinds.Mark points.Ampersand)) b → MovesStack n (more_parts ∷ []) a (unary ∷ more_parts ∷ []) b
parts_go reads = takes_read reads (λ below. refl) (omega arith)

-- a part that is read leaves the goal of further parts
pub part_moves : {n : ℕ} {a b : List Token} → MovesStack n (unary ∷ []) a [] b → MovesStack n (unary ∷ more_parts ∷ []) a (more_parts ∷ []) b
part_moves m = moves_under (more_parts ∷ []) (omega arith) m

-- what is refused of a part is refused with further parts to come
pub part_refused : {n end : ℕ} {a : List Token} {r : ParserStop} → ParserRefusesAt n end (unary ∷ []) a r → ParserRefusesAt n end (unary ∷ more_parts ∷ []) a r
part_refused s = refused_under (more_parts ∷ []) (omega arith) (λ below closes. record { call = closes.call; colon = closes.colon; question = closes.question; exclamation = closes.exclamation }) s

terms_over : (k : TokenKind) → (k ≡ (kinds.Mark points.Bar) → ⊥) → (below : Stack) → step_stack (more_terms ∷ below) k ≡ step_stack below k
terms_over (kinds.Mark points.Bar) other below = absurd (other refl)
terms_over _ other below = refl

terms_at : {n : ℕ} (a : List Token) → ¬ IsSignAt (kinds.Mark points.Bar) a → MovesStack n (more_terms ∷ []) a [] a
terms_at [] lacks = alike_moves [] (λ below. refl)
terms_at (t ∷ ts) lacks = alike_moves (t ∷ ts) (λ below. terms_over t.kind lacks below)

-- where no `|` stands, no further term comes
pub terms_end : {n : ℕ} {a : List Token} → ¬ IsSignAt (kinds.Mark points.Bar) a → MovesStack n (more_terms ∷ []) a [] a
terms_end {a = a} lacks = terms_at a lacks

-- the goal of further terms goes through `|` to the next one
pub terms_go : {n : ℕ} {a b : List Token} → SpellsTree a (one (kinds.Mark points.Bar)) b → MovesStack n (more_terms ∷ []) a (term ∷ more_terms ∷ []) b
terms_go reads = takes_read reads (λ below. refl) (omega arith)

-- a term that is read leaves the goal of further terms
pub term_moves : {n : ℕ} {a b : List Token} → MovesStack n (term ∷ []) a [] b → MovesStack n (term ∷ more_terms ∷ []) a (more_terms ∷ []) b
term_moves m = moves_under (more_terms ∷ []) (omega arith) m

-- what is refused of a term is refused with further terms to come
pub term_refused : {n end : ℕ} {a : List Token} {r : ParserStop} → ParserRefusesAt n end (term ∷ []) a r → ParserRefusesAt n end (term ∷ more_terms ∷ []) a r
term_refused s = refused_under (more_terms ∷ []) (omega arith) (λ below closes. record { call = closes.call; colon = closes.colon; question = closes.question; exclamation = closes.exclamation }) s

-- what may follow the first term: another one has to, where it is marked
abbrev pub behind_first : Bool → Goal
behind_first true = bar
behind_first false = more_terms

first_step : (k : TokenKind) → (k ≡ (kinds.Mark points.Star) → ⊥) → (below : Stack) → step_stack (expression ∷ below) k ≡ step_stack (term ∷ more_terms ∷ below) k
first_step (kinds.Mark points.Star) other below = absurd (other refl)
first_step _ other below = refl

first_at : {n : ℕ} (a : List Token) → ¬ IsSignAt (kinds.Mark points.Star) a → MovesStack n (expression ∷ []) a (term ∷ more_terms ∷ []) a
first_at [] lacks = alike_moves [] (λ below. refl)
first_at (t ∷ ts) lacks = alike_moves (t ∷ ts) (λ below. first_step t.kind lacks below)

first_marked : {n : ℕ} (a : List Token) → IsSignAt (kinds.Mark points.Star) a → MovesStack n (expression ∷ []) a (term ∷ bar ∷ []) a
first_marked [] stands = absurd stands
first_marked (t ∷ ts) stands = alike_moves (t ∷ ts) (λ below. ap (step_stack (expression ∷ below)) stands ∙ sym (ap (step_stack (term ∷ bar ∷ below)) stands))

-- an expression is a first term, and what may follow it by whether it is marked
pub first_opens : {n : ℕ} {a : List Token} (marked : Bool) → (marked ≡ true → IsSignAt (kinds.Mark points.Star) a) → (IsSignAt (kinds.Mark points.Star) a → marked ≡ true) → MovesStack n (expression ∷ []) a (term ∷ behind_first marked ∷ []) a
first_opens {a = a} true is si = first_marked a (is refl)
first_opens {a = a} false is si = first_at a (λ s. let e : false ≡ true = si s in cc)

-- a first term that is read leaves what may follow it
pub first_moves : {n : ℕ} {a b : List Token} (marked : Bool) → (marked ≡ true → IsSignAt (kinds.Mark points.Star) a) → (IsSignAt (kinds.Mark points.Star) a → marked ≡ true) → MovesStack n (term ∷ []) a [] b → MovesStack n (expression ∷ []) a (behind_first marked ∷ []) b
first_moves marked is si m = moves_then (first_opens marked is si) (moves_under (behind_first marked ∷ []) (level marked) m)
  where
    level : {n : ℕ} (marked : Bool) → depth (behind_first marked ∷ []) + n ≡ n
    level true = omega arith
    level false = omega arith

-- after a first term, marked or not, the goal goes through `|` to the next one
pub first_go : {n : ℕ} {a b : List Token} (marked : Bool) → SpellsTree a (one (kinds.Mark points.Bar)) b → MovesStack n (behind_first marked ∷ []) a (term ∷ more_terms ∷ []) b
first_go true reads = takes_read reads (λ below. refl) (omega arith)
first_go false reads = takes_read reads (λ below. refl) (omega arith)

-- after a first term without a mark, where no `|` stands, the expression ends
pub first_end : {n : ℕ} {a : List Token} (marked : Bool) → marked ≡ false → ¬ IsSignAt (kinds.Mark points.Bar) a → MovesStack n (behind_first marked ∷ []) a [] a
first_end {a = a} true is lacks = absurd (let e : true ≡ false = is in cc)
first_end {a = a} false is lacks = terms_at a lacks

bar_none : (k : TokenKind) → (k ≡ (kinds.Mark points.Bar) → ⊥) → (below : Stack) → step_stack (bar ∷ below) k ≡ None
bar_none (kinds.Mark points.Bar) other below = absurd (other refl)
bar_none _ other below = refl

-- after a marked first term the goal halts where no `|` stands
pub first_halts : {a : List Token} (marked : Bool) → marked ≡ true → ¬ IsSignAt (kinds.Mark points.Bar) a → Halts (behind_first marked ∷ []) a
first_halts true is lacks = halts_unless (kinds.Mark points.Bar) (λ below. refl) bar_none lacks
first_halts false is lacks = absurd (let e : false ≡ true = is in cc)

first_of : (k : TokenKind) → (marked : Bool) × (marked ≡ true → k ≡ (kinds.Mark points.Star)) × (k ≡ (kinds.Mark points.Star) → marked ≡ true)
first_of (kinds.Mark points.Star) = (true, λ e. refl, λ e. refl)
first_of k = (false, λ e. let f : false ≡ true = e in cc, λ e. let f : k ≡ (kinds.Mark points.Star) = e in cc)

first_here : (a : List Token) → (marked : Bool) × (marked ≡ true → IsSignAt (kinds.Mark points.Star) a) × (IsSignAt (kinds.Mark points.Star) a → marked ≡ true)
first_here [] = (false, λ e. (let f : false ≡ true = e in cc), λ e. absurd e)
first_here (t ∷ ts) = first_of t.kind

first_closes : (marked : Bool) (below : Stack) → EndsExpression below → EndsExpression (behind_first marked ∷ below)
first_closes true below closes = record { call = refl; colon = refl; question = refl; exclamation = refl }
first_closes false below closes = record { call = closes.call; colon = closes.colon; question = closes.question; exclamation = closes.exclamation }

first_level : (n : ℕ) (marked : Bool) → depth (behind_first marked ∷ []) + n ≡ n
first_level n true = omega arith
first_level n false = omega arith

-- what is refused of the first term is refused of the expression
pub first_refused : {n end : ℕ} {a : List Token} {r : ParserStop} → ParserRefusesAt n end (term ∷ []) a r → ParserRefusesAt n end (expression ∷ []) a r
first_refused {n = n} {a = a} s =
    let f = first_here a in
    refused_behind (first_opens f.0 f.1 f.2) (λ begins. inl (refl, tt)) (refused_under (behind_first f.0 ∷ []) (first_level n f.0) (first_closes f.0) s)

-- an operand or a bound that no mark joins to another one is an expression
pub alone_moves : {n : ℕ} {a b : List Token} → ¬ IsSignAt (kinds.Mark points.Star) a → EndsOperand b → MovesStack n (unary ∷ []) a [] b → MovesStack n (expression ∷ []) a [] b
alone_moves {a = a} lacks ends m = moves_then (first_at a lacks) (moves_then (term_moves (moves_then (unmarked_moves lacks) (moves_then (part_moves m) (parts_end ends.0)))) (terms_end ends.1))

-- what is refused of a first operand or bound without a mark is refused of the expression
pub alone_refused : {n end : ℕ} {a : List Token} {r : ParserStop} → ¬ IsSignAt (kinds.Mark points.Star) a → ParserRefusesAt n end (unary ∷ []) a r → ParserRefusesAt n end (expression ∷ []) a r
alone_refused lacks s = first_refused (refused_behind (unmarked_moves lacks) (λ begins. inl (refl, tt)) (part_refused s))
