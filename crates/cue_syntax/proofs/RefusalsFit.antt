-- What a stop of the recogniser says of the grammar.
use Rattle.std.proofs.Common.{◌≡◌, ◌∙◌, ap, sym, subst, refl, ℕ, zero, suc, ◌+◌, ◌-◌, ◌≤◌, ◌⊎◌, inl, inr, List, [], ◌∷◌, ◌++◌, length, drop, codes, arith, Option, Some, None, length-append}
use Rattle.cue_lex.specs.declared.token.Token.{Token}
use Rattle.cue_lex.specs.declared.token.TokenKind.{TokenKind}
use Rattle.cue_lex.specs.declared.token.TokenKind.TheVariants as kinds
use Rattle.cue_lex.specs.declared.punctuation.Punctuation.TheVariants as points
use Rattle.cue_lattice.specs.declared.refusal.Kind.{Kind}
use Rattle.cue_lattice.specs.declared.refusal.Kind.TheVariants as refusals
use Rattle.cue_lattice.specs.declared.refusal.Refusal.{Refusal}
use Rattle.cue_lattice.specs.Refusal.{memory}
use Rattle.cue_syntax.specs.declared.stop.Why.{Why}
use Rattle.cue_syntax.specs.declared.stop.Why.TheVariants as reasons
use Rattle.cue_syntax.specs.declared.stop.ParserStop.{ParserStop}
use Rattle.cue_syntax.specs.declared.tree.File.{File}
use Rattle.cue_syntax.specs.Stops.{IsWant, IsMemoryParserStop}
use Rattle.cue_syntax.specs.Files.{file_tree}
use Rattle.cue_syntax.specs.Syntax.{FileTree}
use Rattle.cue_syntax.specs.Grammar.{Limit, unlimited, at_most, Within, IsFileTree}
use Rattle.cue_syntax.specs.Viability.{BeginsText, Leaves, IsTokenAt, IsSignAt, IsMark, IsKeywordName, IsCallOfClose}
use Rattle.cue_syntax.specs.Inner.Viability.{HasNoTree}
use Rattle.cue_syntax.specs.Refusals.{IsCallBehind, OwesLevel, BeginsWithin, NestsAt, LeavesAt, FitsRefusalAt, FitsRefusal, RefusalSaysAt, RefusalSays}
use Rattle.cue_syntax.specs.Recogniser.{Stack, depth, rest_where_stuck, EndsExpression, IsGoalEnd, StopsBefore, ReadsUpTo, IsCallHere, Owes, StaysWithin, FollowsMark, OpensAlone, OpensItself, OpensNear, StopsBeforeBy, ParserStops, ParserRefusesAt, text}
use Rattle.cue_syntax.proofs.NoTextWhereStuck.{stuck_inside, stuck_at_end, stuck_begins_none}
use Rattle.cue_syntax.proofs.TakenBeginsAText.{begins, taken, fewer}
use Rattle.cue_syntax.proofs.OneTree.{one_tree}

nothing_closes : EndsExpression []
nothing_closes = record { call = refl; colon = refl; question = refl; exclamation = refl }

leaves_at : (limit : Limit) (tokens here : List Token) → rest_where_stuck limit (text ∷ []) tokens ≡ Some here → Leaves limit tokens (length tokens - length here)
leaves_at limit tokens here is = record { inside = omega arith; before = begins limit tokens here is; behind = stuck_begins_none limit tokens here is }

drop_read : (read at : List Token) → drop (length read) (read ++ at) ≡ at
drop_read [] at = refl
drop_read (t ∷ read) at = drop_read read at

-- without the tokens before a place, those from the place on are left
pub at_drop : {tokens at : List Token} (inside : IsGoalEnd tokens at) → drop (length inside.read) tokens ≡ at
at_drop {at = at} inside = ap (drop (length inside.read)) inside.is ∙ drop_read inside.read at

end_count : {tokens here : List Token} (end : IsGoalEnd tokens here) → length end.read ≡ length tokens - length here
end_count {here = here} end = omega (arith, ap length end.is, length-append end.read here)

sticks_text : (levels : ℕ) (tokens here : List Token) → StopsBefore (at_most levels) (text ∷ []) tokens here → rest_where_stuck (at_most levels) (text ∷ []) tokens ≡ Some here
sticks_text levels tokens here s =
    let level : depth [] + levels ≡ levels = omega arith in
    subst (λ n. rest_where_stuck (at_most n) (text ∷ []) tokens ≡ Some here) level (s [] nothing_closes)

leaves_end : {tokens at : List Token} (inside : IsGoalEnd tokens at) → StopsBefore unlimited (text ∷ []) tokens at → Leaves unlimited tokens (length inside.read)
leaves_end {tokens = tokens} {at = at} inside sticks = subst (Leaves unlimited tokens) (sym (end_count inside)) (leaves_at unlimited tokens at (sticks [] nothing_closes))

-- within fewer levels the tokens leave the grammar there
leaves_within : {levels : ℕ} {tokens at : List Token} (inside : IsGoalEnd tokens at) → StopsBefore (at_most levels) (text ∷ []) tokens at → Leaves (at_most levels) tokens (length inside.read)
leaves_within {levels = levels} {tokens = tokens} {at = at} inside sticks = subst (Leaves (at_most levels) tokens) (sym (end_count inside)) (leaves_at (at_most levels) tokens at (sticks_text levels tokens at sticks))

-- what goes on begins a text
goes_by : (limit : Limit) (tokens behind : List Token) (next : Stack) (k : ℕ) → k + length behind ≡ length tokens → rest_where_stuck limit (text ∷ []) tokens ≡ rest_where_stuck limit next behind → (o : Option (List Token)) → rest_where_stuck limit next behind ≡ o
    → BeginsText limit k tokens
goes_by limit tokens behind next k count same None is = let t = taken limit tokens (same ∙ is) in record { whole = tokens; tree = t.0; alike = refl; is = t.1 }
goes_by limit tokens behind next k count same (Some here) is =
    fewer limit k (length tokens - length here) tokens (begins limit tokens here (same ∙ is)) (omega (arith, count, stuck_inside limit next behind here is))

goes_begins : {room : ℕ} {tokens at : List Token} (limit : Limit) → ReadsUpTo room (text ∷ []) tokens at → Within limit (depth [] + room) → BeginsText limit (length tokens - length at) tokens
goes_begins {tokens = tokens} {at = at} limit goes within =
    let inside = goes.moves.inside in
    goes_by limit tokens at (goes.next ++ []) (length tokens - length at) (omega (arith, ap length inside.is, length-append inside.read at)) (goes.moves.moves limit [] within) (rest_where_stuck limit (goes.next ++ []) at) refl

-- a place and the one after its first token
some_first : (P : TokenKind → Type 0) (a : List Token) → IsTokenAt P a → length a ≡ suc (length (drop 1 a))
some_first P [] stands = absurd stands
some_first P (t ∷ a) stands = omega arith

next_count : {tokens before at : List Token} (first : IsGoalEnd tokens before) (inside : IsGoalEnd tokens at) → drop 1 before ≡ at → length before ≡ suc (length (drop 1 before)) → suc (length first.read) ≡ length inside.read
next_count {before = before} {at = at} first inside same some = omega (arith, ap length same, some, ap length first.is, ap length inside.is, length-append first.read before, length-append inside.read at)

-- the name and the parenthesis of a call
call_first : (name : List Token) → IsCallOfClose name → (length name ≡ suc (length (drop 1 name))) × IsSignAt (kinds.Mark points.OpenParenthesis) (drop 1 name)
call_first [] call = absurd call.0
call_first (t ∷ []) call = absurd call.1
call_first (t ∷ u ∷ name) call = (omega arith, call.1)

call_begins : (name : List Token) → IsCallOfClose name → IsSignAt (kinds.Name (codes "close")) name
call_begins name call = call.0

call_behind : {tokens before : List Token} (first : IsGoalEnd tokens before) → IsCallHere tokens before → IsCallBehind (length first.read) tokens
call_behind first call = record {
  from = length call.inside.read;
  next = next_count call.inside first call.behind (call_first call.name call.call).0;
  call = subst IsCallOfClose (sym (at_drop call.inside)) call.call;
}

why_some : (tokens before : List Token) → IsTokenAt IsKeywordName before ⊎ IsCallHere tokens before → length before ≡ suc (length (drop 1 before))
why_some tokens before (inl keyword) = some_first IsKeywordName before keyword
why_some tokens before (inr call) = some_first (λ k. k ≡ kinds.Mark points.OpenParenthesis) before (subst (IsSignAt (kinds.Mark points.OpenParenthesis)) call.behind (call_first call.name call.call).1)

why_behind : {tokens before : List Token} (first : IsGoalEnd tokens before) → IsTokenAt IsKeywordName before ⊎ IsCallHere tokens before → IsTokenAt IsKeywordName (drop (length first.read) tokens) ⊎ IsCallBehind (length first.read) tokens
why_behind first (inl keyword) = inl (subst (IsTokenAt IsKeywordName) (sym (at_drop first)) keyword)
why_behind first (inr call) = inr (call_behind first call)

owed_first : {levels : ℕ} {tokens at : List Token} (o : Owes levels (text ∷ []) tokens at) → IsGoalEnd tokens o.before
owed_first {levels = levels} {tokens = tokens} o = stuck_at_end (at_most levels) (text ∷ []) tokens o.before (sticks_text levels tokens o.before o.sticks)

owed_count : {levels : ℕ} {tokens at : List Token} (inside : IsGoalEnd tokens at) (o : Owes levels (text ∷ []) tokens at) → suc (length (owed_first o).read) ≡ length inside.read
owed_count {tokens = tokens} inside o = next_count (owed_first o) inside o.next (why_some tokens o.before o.why)

-- before a place no symbol opens a level too many
begins_within : {levels : ℕ} {tokens at : List Token} (inside : IsGoalEnd tokens at) → StaysWithin levels (text ∷ []) tokens at → BeginsWithin levels (length inside.read) tokens
begins_within inside (inl sticks) = let l = leaves_within inside sticks in inl l.before
begins_within {levels = levels} {tokens = tokens} {at = at} inside (inr o) =
    let first = owed_first o in
    let l = leaves_within first o.sticks in
    let room : depth [] + (1 + levels) ≤ suc levels = omega arith in
    inr (record {
      earlier = length first.read;
      next = owed_count inside o;
      begins = l.before;
      one_more = subst (λ n. BeginsText (at_most (suc levels)) n tokens) (sym (end_count inside)) (goes_begins (at_most (suc levels)) o.goes_on room);
      why = why_behind first o.why;
    })

-- with the symbol at a place the tokens begin no text within the levels
begins_none : {levels : ℕ} {tokens at : List Token} (inside : IsGoalEnd tokens at) → StaysWithin levels (text ∷ []) tokens at → ¬ BeginsText (at_most levels) (suc (length inside.read)) tokens
begins_none inside (inl sticks) = let l = leaves_within inside sticks in l.behind
begins_none {levels = levels} {tokens = tokens} inside (inr o) = λ more.
    let l = leaves_within (owed_first o) o.sticks in
    l.behind (fewer (at_most levels) _ _ tokens more (omega (arith, owed_count inside o)))

-- the symbol at a place is none that owes a level
no_keyword : (k : TokenKind) → OpensAlone k ⊎ (k ≡ kinds.Mark points.OpenParenthesis) → ¬ IsKeywordName k
no_keyword (kinds.Name n) (inl alone) keyword = alone
no_keyword (kinds.Name n) (inr paren) keyword = let wrong : kinds.Name n ≡ kinds.Mark points.OpenParenthesis = paren in cc
no_keyword _ opens keyword = keyword

alone_no_paren : (k : TokenKind) → OpensAlone k → k ≡ kinds.Mark points.OpenParenthesis → ⊥
alone_no_paren k alone paren = subst OpensAlone paren alone

both_stand : (P Q : TokenKind → Type 0) (a : List Token) → ((k : TokenKind) → P k → Q k → ⊥) → IsTokenAt P a → IsTokenAt Q a → ⊥
both_stand P Q [] never p q = p
both_stand P Q (t ∷ a) never p q = never t.kind p q

opens_no_keyword : {tokens at : List Token} (levels : ℕ) → OpensItself levels (text ∷ []) tokens at → ¬ IsTokenAt IsKeywordName at
opens_no_keyword {at = at} levels (inl alone) keyword = both_stand OpensAlone IsKeywordName at (λ k p q. no_keyword k (inl p) q) alone keyword
opens_no_keyword {at = at} levels (inr paren) keyword = both_stand (λ k. k ≡ kinds.Mark points.OpenParenthesis) IsKeywordName at (λ k p q. no_keyword k (inr p) q) paren.0 keyword

drop_one : (n : ℕ) (a : List Token) → drop 1 (drop n a) ≡ drop (suc n) a
drop_one zero a = refl
drop_one (suc n) [] = refl
drop_one (suc n) (t ∷ a) = drop_one n a

call_paren : {tokens at : List Token} (inside : IsGoalEnd tokens at) → IsCallBehind (length inside.read) tokens → IsSignAt (kinds.Mark points.OpenParenthesis) at
call_paren {tokens = tokens} inside call =
    subst (IsSignAt (kinds.Mark points.OpenParenthesis)) (drop_one call.from tokens ∙ ap (λ n. drop n tokens) call.next ∙ at_drop inside) (call_first (drop call.from tokens) call.call).1

-- where a mark stands before a place, no name of a call does
mark_no_call : {tokens at : List Token} (inside : IsGoalEnd tokens at) → FollowsMark tokens at → ¬ IsCallBehind (length inside.read) tokens
mark_no_call {tokens = tokens} {at = at} inside f call =
    let count : suc (length f.inside.read) ≡ length inside.read = next_count f.inside inside refl (omega arith) in
    let same : drop call.from tokens ≡ f.token ∷ at = ap (λ n. drop n tokens) (omega (arith, count, call.next)) ∙ at_drop f.inside in
    let name : f.token.kind ≡ kinds.Name (codes "close") = subst (IsSignAt (kinds.Name (codes "close"))) same (call_begins (drop call.from tokens) call.call) in
    let wrong : kinds.Mark f.mark ≡ kinds.Name (codes "close") = sym f.kind ∙ name in
    cc

opens_no_call : {levels : ℕ} {tokens at : List Token} (inside : IsGoalEnd tokens at) → OpensItself levels (text ∷ []) tokens at → BeginsText (at_most (suc levels)) (suc (length inside.read)) tokens → ¬ IsCallBehind (length inside.read) tokens
opens_no_call {at = at} inside (inl alone) more call = both_stand OpensAlone (λ k. k ≡ kinds.Mark points.OpenParenthesis) at alone_no_paren alone (call_paren inside call)
opens_no_call inside (inr (paren, inl (inl first))) more call = absurd first.1
opens_no_call inside (inr (paren, inl (inr f))) more call = mark_no_call inside f call
opens_no_call {levels = levels} {tokens = tokens} inside (inr (paren, inr sticks)) more call =
    let same : suc levels ≡ 1 + levels = omega arith in
    let l = leaves_within inside sticks in
    l.behind (subst (λ n. BeginsText (at_most n) (suc (length inside.read)) tokens) same more)

owes_none : {levels : ℕ} {tokens at : List Token} (inside : IsGoalEnd tokens at) → OpensItself levels (text ∷ []) tokens at → ¬ OwesLevel levels (suc (length inside.read)) tokens
owes_none {levels = levels} {tokens = tokens} inside opens o =
    let same : o.earlier ≡ length inside.read = omega (arith, o.next) in
    elim (o.why) [
      | inl keyword ↦ opens_no_keyword levels opens (subst (IsTokenAt IsKeywordName) (ap (λ n. drop n tokens) same ∙ at_drop inside) keyword)
      | inr call ↦ opens_no_call inside opens o.one_more (subst (λ n. IsCallBehind n tokens) same call)
    ]

-- the first symbol that opens a level too many
opened_first : {levels : ℕ} {tokens at : List Token} (by : OpensNear levels (text ∷ []) tokens at) → length by.here ≡ suc (length (drop 1 by.here))
opened_first by = elim (by.opens) [ inl alone ↦ some_first OpensAlone by.here alone | inr paren ↦ some_first (λ k. k ≡ kinds.Mark points.OpenParenthesis) by.here paren.0 ]

within_end : {levels : ℕ} {tokens at : List Token} → StaysWithin levels (text ∷ []) tokens at → IsGoalEnd tokens at
within_end {levels = levels} {tokens = tokens} {at = at} (inl sticks) = stuck_at_end (at_most levels) (text ∷ []) tokens at (sticks_text levels tokens at sticks)
within_end (inr o) = o.goes_on.moves.inside

before_some : (a b : List Token) → drop 1 a ≡ b → length b ≡ suc (length (drop 1 b)) → length a ≡ suc (length (drop 1 a))
before_some [] b same some = absurd (let e : [] ≡ b = same in omega (arith, some, ap length e))
before_some (t ∷ a) b same some = omega arith

nests_at : {levels : ℕ} {tokens at : List Token} (inside : IsGoalEnd tokens at) → OpensNear levels (text ∷ []) tokens at → NestsAt levels tokens (length inside.read)
nests_at {levels = levels} {tokens = tokens} {at = at} inside by =
    let end = within_end by.within in
    let some = opened_first by in
    let rest = by.goes_on.moves.inside in
    let count : suc (length end.read) ≡ length tokens - length (drop 1 by.here) = next_count end rest refl some ∙ end_count rest in
    let here : by.here ≡ drop (length end.read) tokens = sym (at_drop end) in
    record {
      k = length end.read;
      within = begins_within end by.within;
      beyond = λ more. elim more [ inl b ↦ begins_none end by.within b | inr o ↦ owes_none end by.opens o ];
      deeper = subst (λ n. BeginsText unlimited n tokens) (sym count) (goes_begins unlimited by.goes_on tt);
      named = elim by.near [
        | inl e ↦ inl (same_count at by.here inside e.0 ∙ sym (end_count end), subst (λ z. ¬ IsTokenAt IsMark z) here e.1)
        | inr e ↦ inr (next_count inside end e.0 (before_some at by.here e.0 some), subst (IsTokenAt IsMark) here e.1)
      ];
    }
  where
    same_count : {tokens : List Token} (at here : List Token) (inside : IsGoalEnd tokens at) → at ≡ here → length inside.read ≡ length tokens - length here
    same_count at here inside same = omega (arith, ap length same, ap length inside.is, length-append inside.read at)

-- what is told of a stop
fits_kind : (levels : ℕ) (tokens : List Token) (kind : Kind) (j : ℕ) → LeavesAt levels tokens kind j → FitsRefusalAt levels tokens kind j
fits_kind levels tokens refusals.Nesting j leaves = absurd leaves.told
fits_kind levels tokens _ j leaves = leaves

told_fits : {levels end : ℕ} {tokens at : List Token} {r : Refusal} (inside : IsGoalEnd tokens at) (why : Why) → StopsBeforeBy levels (text ∷ []) tokens why at → RefusalSaysAt end tokens (length inside.read) why r
    → (r ≡ memory) ⊎ FitsRefusal levels end tokens r
told_fits inside (reasons.Memory lack) by told = absurd by
told_fits {levels = levels} {end = end} {tokens = tokens} inside reasons.Nesting by told =
    inr (subst (λ z. FitsRefusal levels end tokens z) (sym told) (record { j = length inside.read; place = refl; fits = nests_at inside by }))
told_fits {levels = levels} {tokens = tokens} {r = r} inside reasons.Syntax by told =
    let leaves : LeavesAt levels tokens r.kind told.j = record { k = length inside.read; within = begins_within inside by.1; leaves = leaves_end inside by.0; named = told.named; told = told.kind } in
    inr (record { j = told.j; place = told.place; fits = fits_kind levels tokens r.kind told.j leaves })

stop_fits : {levels end : ℕ} {tokens : List Token} {stop : ParserStop} {r : Refusal} → ParserStops levels end (text ∷ []) tokens stop → RefusalSays end tokens stop r → (r ≡ memory) ⊎ FitsRefusal levels end tokens r
stop_fits {end = end} {tokens = tokens} {stop = stop} {r = r} s told =
    told_fits s.inside stop.why s.by (subst (λ n. RefusalSaysAt end tokens n stop.why r) (ap (λ n. length tokens - n) s.left ∙ sym (end_count s.inside)) told)

want_told : (end : ℕ) (tokens : List Token) (k : ℕ) (why : Why) {r : Refusal} → IsWant why → RefusalSaysAt end tokens k why r → r ≡ memory
want_told end tokens k (reasons.Memory lack) is told = told
want_told end tokens k _ is told = absurd is

memory_told : {r : Refusal} (end : ℕ) (tokens : List Token) (stop : ParserStop) → IsMemoryParserStop stop → RefusalSays end tokens stop r → r ≡ memory
memory_told end tokens stop is told = want_told end tokens (length tokens - stop.left) stop.why is.0 told

-- A stop of the parser is told as a refusal that fits.
pub refused_fits : {levels end : ℕ} {tokens : List Token} {stop : ParserStop} {r : Refusal} → ParserRefusesAt levels end (text ∷ []) tokens stop → RefusalSays end tokens stop r → (r ≡ memory) ⊎ FitsRefusal levels end tokens r
refused_fits {end = end} {tokens = tokens} {stop = stop} s told = elim (s.why) [ inl e ↦ inl (memory_told end tokens stop e told) | inr e ↦ stop_fits e told ]

-- A stop leaves no more tokens than there are.
pub refused_left : {levels end : ℕ} {goals : Stack} {tokens : List Token} {stop : ParserStop} → ParserRefusesAt levels end goals tokens stop → stop.left ≤ length tokens
refused_left {tokens = tokens} s = elim (s.why) [
  | inl e ↦ omega (arith, e.1)
  | inr e ↦ omega (arith, e.left, ap length e.inside.is, length-append e.inside.read e.at)
]

-- no tree where the tokens leave the grammar
leaves_none : {limit : Limit} {tokens : List Token} {k : ℕ} → Leaves limit tokens k → HasNoTree limit tokens
leaves_none {tokens = tokens} leaves tree is = leaves.behind (record { whole = tokens; tree = tree; alike = refl; is = is })

all_none : {levels : ℕ} {tokens : List Token} {k : ℕ} → Leaves unlimited tokens k → HasNoTree (at_most levels) tokens
all_none leaves tree is = leaves_none leaves tree (record { reads = is.reads; clause = is.clause; right = is.right; ends = is.ends; levels = tt })

stop_none : {levels : ℕ} {tokens at : List Token} (inside : IsGoalEnd tokens at) (why : Why) → StopsBeforeBy levels (text ∷ []) tokens why at → HasNoTree (at_most levels) tokens
stop_none inside (reasons.Memory lack) by = absurd by
stop_none inside reasons.Syntax by = all_none (leaves_end inside by.0)
stop_none {tokens = tokens} inside reasons.Nesting by = λ tree is. let nests = nests_at inside by in nests.beyond (inl (record { whole = tokens; tree = tree; alike = refl; is = is }))

refused_none : {levels end : ℕ} {tokens : List Token} {stop : ParserStop} → ParserRefusesAt levels end (text ∷ []) tokens stop → IsMemoryParserStop stop ⊎ HasNoTree (at_most levels) tokens
refused_none {stop = stop} s = elim (s.why) [ inl e ↦ inl e | inr e ↦ inr (stop_none e.inside stop.why e.by) ]

-- A tree that the tokens have is the one answered.
pub tree_answered : {levels : ℕ} {tokens : List Token} (file : File) → IsFileTree (at_most levels) tokens (file_tree file) → (tree : FileTree) → IsFileTree (at_most levels) tokens tree → file_tree file ≡ tree
tree_answered {levels = levels} {tokens = tokens} file found tree is = one_tree (at_most levels) (at_most levels) tokens (file_tree file) tree found is

-- Where the tokens have a tree, the parser stops for want of memory alone.
pub tree_refused : {levels end : ℕ} {tokens : List Token} {stop : ParserStop} {r : Refusal} → ParserRefusesAt levels end (text ∷ []) tokens stop → RefusalSays end tokens stop r → (tree : FileTree) → IsFileTree (at_most levels) tokens tree → r ≡ memory
tree_refused {end = end} {tokens = tokens} {stop = stop} s told tree is = elim (refused_none s) [ inl e ↦ memory_told end tokens stop e told | inr none ↦ absurd (none tree is) ]
