-- How the recogniser goes through labels.
use Rattle.std.proofs.Common.{◌≡◌, ◌∙◌, ap, sym, subst, refl, ℕ, ◌+◌, ◌≤◌, ◌<◌, ◌⊎◌, inl, inr, Bool, true, false, List, [], ◌∷◌, ◌++◌, length, drop, arith, Some, None}
use Rattle.std.specs.Prelude.{if◌then◌else◌}
use Rattle.cue_lex.specs.declared.token.Token.{Token}
use Rattle.cue_lex.specs.declared.token.TokenKind.{TokenKind}
use Rattle.cue_lex.specs.declared.token.TokenKind.TheVariants as kinds
use Rattle.cue_lex.specs.declared.punctuation.Punctuation.TheVariants as points
use Rattle.cue_syntax.specs.declared.stop.Why.TheVariants as reasons
use Rattle.cue_syntax.specs.declared.stop.ParserStop.{ParserStop}
use Rattle.cue_syntax.specs.declared.tree.Label.{Label}
use Rattle.cue_syntax.specs.declared.tree.LabelName.{LabelName}
use Rattle.cue_syntax.specs.declared.tree.LabelName.TheVariants as names
use Rattle.cue_syntax.specs.declared.tree.Mark.{Mark}
use Rattle.cue_syntax.specs.declared.tree.Mark.TheVariants as marks
use Rattle.cue_syntax.specs.Spelling.{SpellsTree, one, label_kind, spell_mark, spell_label}
use Rattle.cue_syntax.specs.Stops.{IsMemoryParserStop, at_hand}
use Rattle.cue_syntax.specs.Viability.{IsSignAt, IsMark, IsLabelName, IsKeywordName, BeginsLabel, LacksColon, MissesColon}
use Rattle.cue_syntax.specs.Recogniser.{Goal, Stack, depth, levels_of, step_stack, is_keyword, EndsExpression, MovesStack, Owes, IsOperandHere, ParserStops, ParserRefusesAt, chains, value, value_name, value_text, chained, mark, colon, entries, more_entries}
use Rattle.cue_syntax.proofs.MovesAndStops.{end_self, takes, moves_then, moves_more, moves_under, Halts, halts_unless, sticks_behind, goes_behind, stopped, stops_there, refused_behind, refused_under, refused_end, takes_first, takes_read, alike_moves, moves_none}
use Rattle.cue_syntax.proofs.MovesOverLiterals.{keyword_of}
use Rattle.cue_syntax.proofs.OpensLevels.{sticks_level, mark_alone}

colon_only : (g : Stack) (j : TokenKind) → (j ≡ (kinds.Mark points.Colon) → ⊥) → (below : Stack) → step_stack ((colon ∷ g) ++ below) j ≡ None
colon_only g (kinds.Mark points.Colon) other below = absurd (other refl)
colon_only g _ other below = refl

-- the goal of a colon halts where none stands
pub colon_halts : {g : Stack} {a : List Token} → ¬ IsSignAt (kinds.Mark points.Colon) a → Halts (colon ∷ g) a
colon_halts {g = g} lacks = halts_unless (kinds.Mark points.Colon) (λ below. refl) (colon_only g) lacks

-- a mark with no colon after it
lacks_by : {end : ℕ} {a b c : List Token} {r : ParserStop} (n : LabelName) (m : Mark) → BeginsLabel a → SpellsTree a (one (label_kind n)) b → SpellsTree b (spell_mark m) c
    → (m ≡ marks.Regular → ¬ IsSignAt (kinds.Mark points.Question) b) → (m ≡ marks.Regular → ¬ IsSignAt (kinds.Mark points.Exclamation) b)
    → ¬ IsSignAt (kinds.Mark points.Colon) c → r ≡ at_hand reasons.Syntax end c → MissesColon end a r
lacks_by {a = []} n m begins name sign question exclamation lacks is = absurd begins.0
lacks_by {a = t ∷ []} n m begins name sign question exclamation lacks is = absurd begins.1
lacks_by {a = t ∷ u ∷ ts} {c = c} n marks.Regular begins name sign question exclamation lacks is =
    let same : u ∷ ts ≡ c = name.follows.2 ∙ sign.follows in
    absurd (no_mark u.kind begins.1 (λ e. subst (λ z. ¬ IsSignAt (kinds.Mark points.Colon) z) (sym same) lacks e)
    (λ e. subst (λ z. ¬ IsSignAt (kinds.Mark points.Question) z) (sym name.follows.2) (question refl) e)
    (λ e. subst (λ z. ¬ IsSignAt (kinds.Mark points.Exclamation) z) (sym name.follows.2) (exclamation refl) e))
  where
    no_mark : (k : TokenKind) → IsMark k → (k ≡ (kinds.Mark points.Colon) → ⊥) → (k ≡ (kinds.Mark points.Question) → ⊥) → (k ≡ (kinds.Mark points.Exclamation) → ⊥) → ⊥
    no_mark (kinds.Mark points.Colon) is a b c = a refl
    no_mark (kinds.Mark points.Question) is a b c = b refl
    no_mark (kinds.Mark points.Exclamation) is a b c = c refl
    no_mark _ is a b c = is
lacks_by {end = end} {a = t ∷ u ∷ ts} {c = c} {r = r} n marks.Optional begins name sign question exclamation lacks is =
    let second = subst (λ z. SpellsTree z (one (kinds.Mark points.Question)) c) (sym name.follows.2) sign in
    record { is = subst (λ z. r ≡ at_hand reasons.Syntax end z) (sym second.follows.2) is; lacks = (begins.0, inl second.follows.0, subst (λ z. ¬ IsSignAt (kinds.Mark points.Colon) z) (sym second.follows.2) lacks) }
lacks_by {end = end} {a = t ∷ u ∷ ts} {c = c} {r = r} n marks.Required begins name sign question exclamation lacks is =
    let second = subst (λ z. SpellsTree z (one (kinds.Mark points.Exclamation)) c) (sym name.follows.2) sign in
    record { is = subst (λ z. r ≡ at_hand reasons.Syntax end z) (sym second.follows.2) is; lacks = (begins.0, inr second.follows.0, subst (λ z. ¬ IsSignAt (kinds.Mark points.Colon) z) (sym second.follows.2) lacks) }

-- a stop after a label and its mark, where no colon stands, is one for want of the colon
pub label_lacks : {end : ℕ} {a b c : List Token} {r : ParserStop} (n : LabelName) (m : Mark) → BeginsLabel a → SpellsTree a (one (label_kind n)) b → SpellsTree b (spell_mark m) c
    → (m ≡ marks.Regular → ¬ IsSignAt (kinds.Mark points.Question) b) → (m ≡ marks.Regular → ¬ IsSignAt (kinds.Mark points.Exclamation) b)
    → ¬ IsSignAt (kinds.Mark points.Colon) c → r ≡ at_hand reasons.Syntax end c → MissesColon end a r
label_lacks n m begins name sign question exclamation lacks is = lacks_by n m begins name sign question exclamation lacks is

-- a label before a value
level_of_name : (t : List ℕ) (keyword : Bool) → is_keyword t ≡ keyword → levels_of (value_name t) ≤ 1
level_of_name t true is = let e : levels_of (value_name t) ≡ 1 = ap (λ z. if z then 1 else 0) is in omega arith
level_of_name t false is = let e : levels_of (value_name t) ≡ 0 = ap (λ z. if z then 1 else 0) is in omega arith

-- what follows the name of a label that begins a value
abbrev behind_name : LabelName → Goal
behind_name (names.Plain t) = value_name t
behind_name (names.Quoted t) = value_text

name_level : (n : LabelName) → levels_of (behind_name n) ≤ 1
name_level (names.Plain t) = level_of_name t (is_keyword t) refl
name_level (names.Quoted t) = omega arith

value_step : (n : LabelName) (below : Stack) → step_stack (value ∷ below) (label_kind n) ≡ Some (behind_name n ∷ below)
value_step (names.Plain t) below = refl
value_step (names.Quoted t) below = refl

abbrev behind_mark : Mark → Stack → Stack
behind_mark marks.Regular goals = goals
behind_mark marks.Optional goals = colon ∷ goals
behind_mark marks.Required goals = colon ∷ goals

value_mark : {a b : List Token} (n : LabelName) (m : Mark) → SpellsTree a (spell_mark m ++ one (kinds.Mark points.Colon)) b → MovesStack 1 (behind_name n ∷ []) a (value ∷ chained ∷ []) b
value_mark (names.Plain t) marks.Regular reads = takes_read reads (λ below. refl) (omega arith)
value_mark (names.Quoted t) marks.Regular reads = takes_read reads (λ below. refl) (omega arith)
value_mark (names.Plain t) marks.Optional reads = let s = takes_first {n = 1} {g = value_name t ∷ []} {next = colon ∷ value ∷ chained ∷ []} reads (λ below. refl) (omega arith) in moves_then s.1 (takes_read s.2 (λ below. refl) (omega arith))
value_mark (names.Quoted t) marks.Optional reads = let s = takes_first {n = 1} {g = value_text ∷ []} {next = colon ∷ value ∷ chained ∷ []} reads (λ below. refl) (omega arith) in moves_then s.1 (takes_read s.2 (λ below. refl) (omega arith))
value_mark (names.Plain t) marks.Required reads = let s = takes_first {n = 1} {g = value_name t ∷ []} {next = colon ∷ value ∷ chained ∷ []} reads (λ below. refl) (omega arith) in moves_then s.1 (takes_read s.2 (λ below. refl) (omega arith))
value_mark (names.Quoted t) marks.Required reads = let s = takes_first {n = 1} {g = value_text ∷ []} {next = colon ∷ value ∷ chained ∷ []} reads (λ below. refl) (omega arith) in moves_then s.1 (takes_read s.2 (λ below. refl) (omega arith))

-- the goal of a value goes through a label to the goal of the value after it, which is one level deeper
pub label_value : {a b : List Token} (l : Label) → SpellsTree a (spell_label l) b → MovesStack 1 (value ∷ []) a (value ∷ chained ∷ []) b
label_value l reads =
    let s = takes_first {n = 1} {g = value ∷ []} {next = behind_name l.name ∷ []} reads (λ below. value_step l.name below) (omega (arith, name_level l.name)) in
    moves_then s.1 (value_mark l.name l.mark s.2)

-- a label before a declaration's value
entry_mark : {n : ℕ} {a b : List Token} (top : Bool) (m : Mark) → depth (more_entries top ∷ []) ≤ n → SpellsTree a (spell_mark m ++ one (kinds.Mark points.Colon)) b → MovesStack n (mark ∷ value ∷ more_entries top ∷ []) a (value ∷ more_entries top ∷ []) b
entry_mark top marks.Regular le reads = takes_read reads (λ below. refl) (omega (arith, le))
entry_mark {n = n} top marks.Optional le reads = let s = takes_first {n = n} {g = mark ∷ value ∷ more_entries top ∷ []} {next = colon ∷ value ∷ more_entries top ∷ []} reads (λ below. refl) (omega (arith, le)) in moves_then s.1 (takes_read s.2 (λ below. refl) (omega (arith, le)))
entry_mark {n = n} top marks.Required le reads = let s = takes_first {n = n} {g = mark ∷ value ∷ more_entries top ∷ []} {next = colon ∷ value ∷ more_entries top ∷ []} reads (λ below. refl) (omega (arith, le)) in moves_then s.1 (takes_read s.2 (λ below. refl) (omega (arith, le)))

entry_step : (top : Bool) (n : LabelName) (below : Stack) → step_stack (entries top ∷ below) (label_kind n) ≡ Some (mark ∷ value ∷ more_entries top ∷ below)
entry_step true (names.Plain t) below = refl
entry_step true (names.Quoted t) below = refl
entry_step false (names.Plain t) below = refl
entry_step false (names.Quoted t) below = refl

-- the goal of declarations goes through a label to the goal of the field's value
pub label_entry : {n : ℕ} {a b : List Token} (top : Bool) (l : Label) → depth (more_entries top ∷ []) ≤ n → SpellsTree a (spell_label l) b → MovesStack n (entries top ∷ []) a (value ∷ more_entries top ∷ []) b
label_entry {n = n} top l le reads =
    let s = takes_first {n = n} {g = entries top ∷ []} {next = mark ∷ value ∷ more_entries top ∷ []} reads (λ below. entry_step top l.name below) (omega (arith, le)) in
    moves_then s.1 (entry_mark top l.mark le s.2)

-- chains
-- one label more at the end of a chain is one goal more on top
pub chains_pushed : (ls : List Label) (l : Label) → chains (ls ++ l ∷ []) ≡ chained ∷ chains ls
chains_pushed [] l = refl
chains_pushed (k ∷ ls) l = ap (λ z. chained ∷ z) (chains_pushed ls l)

-- a chain opens as many levels as it has labels
pub chains_depth : (ls : List Label) → depth (chains ls) ≡ length ls
chains_depth [] = refl
chains_depth (k ∷ ls) = omega (arith, chains_depth ls)

-- goals that come after an expression still do so with the goals of a chain on top
pub chains_close : (ls : List Label) (below : Stack) → EndsExpression below → EndsExpression (chains ls ++ below)
chains_close [] below closes = closes
chains_close (k ∷ ls) below closes =
    let inner = chains_close ls below closes in record { call = inner.call; colon = inner.colon; question = inner.question; exclamation = inner.exclamation }

-- the goals of a chain are over without a token
pub chains_over : {n : ℕ} (ls : List Label) (a : List Token) → MovesStack n (chains ls) a [] a
chains_over [] a = moves_none
chains_over (k ∷ ls) a = moves_then (pop a) (chains_over ls a)
  where
    pop : {n : ℕ} {g : Stack} (a : List Token) → MovesStack n (chained ∷ g) a g a
    pop [] = alike_moves [] (λ below. refl)
    pop (t ∷ ts) = alike_moves (t ∷ ts) (λ below. refl)

-- where a value has gone through labels and has room, it goes through one more
pub chain_next : {room : ℕ} {a b c : List Token} (left : ℕ) (ls : List Label) (l : Label) → left + 1 + length ls ≡ room → MovesStack room (value ∷ []) a (value ∷ chains ls) b → SpellsTree b (spell_label l) c
    → MovesStack room (value ∷ []) a (value ∷ chains (ls ++ l ∷ [])) c
chain_next {room = room} {a = a} {b = b} {c = c} left ls l is first second =
    subst (λ z. MovesStack room (value ∷ []) a (value ∷ z) c) (sym (chains_pushed ls l))
    (moves_then first (moves_under {left = left + 1} (chains ls) (omega (arith, is, chains_depth ls)) (moves_more (omega arith) (label_value l second))))

-- a label that has no room
name_kind : (k : TokenKind) → IsLabelName k → (n : LabelName) × (k ≡ label_kind n)
name_kind (kinds.Name t) is = (names.Plain t, refl)
name_kind (kinds.Text t) is = (names.Quoted t, refl)
name_kind _ is = absurd is

name_levels : (n : LabelName) → (levels_of (behind_name n) ≡ 0) ⊎ (levels_of (behind_name n) ≡ 1) × IsKeywordName (label_kind n)
name_levels (names.Plain t) = by (is_keyword t) refl
  where
    by : (keyword : Bool) → is_keyword t ≡ keyword → (levels_of (value_name t) ≡ 0) ⊎ (levels_of (value_name t) ≡ 1) × IsKeywordName (kinds.Name t)
    by true is = inr (ap (λ z. if z then 1 else 0) is, keyword_of t is)
    by false is = inl (ap (λ z. if z then 1 else 0) is)
name_levels (names.Quoted t) = inl refl

mark_opens : (n : LabelName) (k : TokenKind) → IsMark k → (next : Stack) × ((below : Stack) → step_stack (behind_name n ∷ below) k ≡ Some (next ++ below)) × (0 < depth next) × (depth next ≤ 2)
mark_opens (names.Plain t) (kinds.Mark points.Colon) is = (value ∷ chained ∷ [], λ below. refl, omega arith, omega arith)
mark_opens (names.Plain t) (kinds.Mark points.Question) is = (colon ∷ value ∷ chained ∷ [], λ below. refl, omega arith, omega arith)
mark_opens (names.Plain t) (kinds.Mark points.Exclamation) is = (colon ∷ value ∷ chained ∷ [], λ below. refl, omega arith, omega arith)
mark_opens (names.Quoted t) (kinds.Mark points.Colon) is = (value ∷ chained ∷ [], λ below. refl, omega arith, omega arith)
mark_opens (names.Quoted t) (kinds.Mark points.Question) is = (colon ∷ value ∷ chained ∷ [], λ below. refl, omega arith, omega arith)
mark_opens (names.Quoted t) (kinds.Mark points.Exclamation) is = (colon ∷ value ∷ chained ∷ [], λ below. refl, omega arith, omega arith)
mark_opens n _ is = absurd is

opens_at : {end : ℕ} {r : ParserStop} (t u : Token) (ts : List Token) (n : LabelName) → t.kind ≡ label_kind n → IsMark u.kind → r ≡ at_hand reasons.Nesting end (t ∷ u ∷ ts)
    → (levels_of (behind_name n) ≡ 0) ⊎ (levels_of (behind_name n) ≡ 1) × IsKeywordName (label_kind n) → ParserStops 0 end (value ∷ []) (t ∷ u ∷ ts) r
opens_at {end = end} t u ts n kind sign is level = subst (λ z. ParserStops 0 end (value ∷ []) (t ∷ u ∷ ts) z) (sym is) (record {
  at = t ∷ u ∷ ts;
  inside = end_self;
  left = refl;
  by = record {
    here = u ∷ ts;
    within = elim level [ inl none ↦ inl (sticks_behind (omega arith) (name none) (sticks_level (behind_name n ∷ []) m.0 u m.1 m.2)) | inr one ↦ inr (owes one.0 one.1) ];
    goes_on = goes_behind (omega arith) (named 2 (omega (arith, name_level n))) (record { next = m.0; moves = takes u refl m.1 (omega (arith, m.3)) });
    opens = inl (mark_alone u.kind sign);
    near = inr (refl, sign);
  };
})
  where
    m : (next : Stack) × ((below : Stack) → step_stack (behind_name n ∷ below) u.kind ≡ Some (next ++ below)) × (0 < depth next) × (depth next ≤ 2)
    m = mark_opens n u.kind sign

    steps : (below : Stack) → step_stack (value ∷ below) t.kind ≡ Some (behind_name n ∷ below)
    steps below = ap (step_stack (value ∷ below)) kind ∙ value_step n below

    named : (room : ℕ) → levels_of (behind_name n) ≤ room → MovesStack room (value ∷ []) (t ∷ u ∷ ts) (behind_name n ∷ []) (u ∷ ts)
    named room le = takes t refl steps (omega (arith, le))

    name : levels_of (behind_name n) ≡ 0 → MovesStack 0 (value ∷ []) (t ∷ u ∷ ts) (behind_name n ∷ []) (u ∷ ts)
    name none = named 0 (omega (arith, none))

    -- a keyword opens its level before its mark does
    owes : levels_of (behind_name n) ≡ 1 → IsKeywordName (label_kind n) → Owes 0 (value ∷ []) (t ∷ u ∷ ts) (u ∷ ts)
    owes one keyword = record {
      before = t ∷ u ∷ ts;
      next = refl;
      sticks = sticks_level (value ∷ []) (behind_name n ∷ []) t steps (omega (arith, one));
      goes_on = record { next = behind_name n ∷ []; moves = named 1 (omega (arith, one)) };
      why = inl (subst IsKeywordName (sym kind) keyword);
    }

opens_by : {end : ℕ} {r : ParserStop} (a : List Token) → BeginsLabel a → r ≡ at_hand reasons.Nesting end a → ParserStops 0 end (value ∷ []) a r
opens_by [] begins is = absurd begins.0
opens_by (t ∷ []) begins is = absurd begins.1
opens_by (t ∷ u ∷ ts) begins is = let n = name_kind t.kind begins.0 in opens_at t u ts n.0 n.1 begins.1 is (name_levels n.0)

-- where no level is left, a label stops the goal of a value for nesting
pub opens_label : {end : ℕ} {a : List Token} {r : ParserStop} → BeginsLabel a → r ≡ at_hand reasons.Nesting end a → ParserStops 0 end (value ∷ []) a r
opens_label {a = a} begins is = opens_by a begins is

-- a mark that has no colon
marked_value : (n : LabelName) (k : TokenKind) → (k ≡ (kinds.Mark points.Question)) ⊎ (k ≡ (kinds.Mark points.Exclamation)) → (below : Stack) → step_stack (behind_name n ∷ below) k ≡ Some (colon ∷ value ∷ chained ∷ below)
marked_value (names.Plain t) k (inl e) below = ap (step_stack (value_name t ∷ below)) e
marked_value (names.Plain t) k (inr e) below = ap (step_stack (value_name t ∷ below)) e
marked_value (names.Quoted t) k (inl e) below = ap (step_stack (value_text ∷ below)) e
marked_value (names.Quoted t) k (inr e) below = ap (step_stack (value_text ∷ below)) e

marked_entry : (g : Stack) (k : TokenKind) → (k ≡ (kinds.Mark points.Question)) ⊎ (k ≡ (kinds.Mark points.Exclamation)) → (below : Stack) → step_stack ((mark ∷ g) ++ below) k ≡ Some ((colon ∷ g) ++ below)
marked_entry g k (inl e) below = ap (step_stack ((mark ∷ g) ++ below)) e
marked_entry g k (inr e) below = ap (step_stack ((mark ∷ g) ++ below)) e

value_misses : {n end : ℕ} {r : ParserStop} (a : List Token) → 1 ≤ n → r ≡ at_hand reasons.Syntax end (drop 2 a) → LacksColon a → ParserStops n end (value ∷ []) a r
value_misses [] le is lacks = absurd lacks.0
value_misses (t ∷ []) le is lacks = absurd (elim lacks.1 [ inl e ↦ e | inr e ↦ e ])
value_misses (t ∷ u ∷ ts) le is lacks =
    let n = name_kind t.kind lacks.0 in
    stops_there {free = 1} le is (moves_then {h = behind_name n.0 ∷ []} (takes t refl (λ below. ap (step_stack (value ∷ below)) n.1 ∙ value_step n.0 below) (omega (arith, name_level n.0)))
    (takes {next = colon ∷ value ∷ chained ∷ []} u refl (λ below. marked_value n.0 u.kind lacks.1 below) (omega arith))) (colon_halts lacks.2)

-- the goal of a value refuses a label whose mark has no colon after it
pub misses_value : {n end : ℕ} {a : List Token} {r : ParserStop} → 1 ≤ n → IsMemoryParserStop r ⊎ MissesColon end a r → ParserRefusesAt n end (value ∷ []) a r
misses_value le (inl e) = record { why = inl e }
misses_value {a = a} le (inr misses) = stopped (value_misses a le misses.is misses.lacks)

entry_misses : {n end : ℕ} {r : ParserStop} (top : Bool) (a : List Token) → depth (more_entries top ∷ []) ≤ n → r ≡ at_hand reasons.Syntax end (drop 2 a) → LacksColon a → ParserStops n end (entries top ∷ []) a r
entry_misses top [] le is lacks = absurd lacks.0
entry_misses top (t ∷ []) le is lacks = absurd (elim lacks.1 [ inl e ↦ e | inr e ↦ e ])
entry_misses top (t ∷ u ∷ ts) le is lacks =
    let n = name_kind t.kind lacks.0 in
    stops_there {free = depth (more_entries top ∷ [])} le is (moves_then {h = mark ∷ value ∷ more_entries top ∷ []} (takes t refl (λ below. ap (step_stack (entries top ∷ below)) n.1 ∙ entry_step top n.0 below) (omega arith))
    (takes {next = colon ∷ value ∷ more_entries top ∷ []} u refl (λ below. marked_entry (value ∷ more_entries top ∷ []) u.kind lacks.1 below) (omega arith))) (colon_halts lacks.2)

-- declarations take as many levels between them as at their start
pub same_level : (top : Bool) → levels_of (more_entries top) ≡ levels_of (entries top)
same_level true = refl
same_level false = refl

-- the goal of declarations refuses a label whose mark has no colon after it
pub misses_entry : {end : ℕ} {a : List Token} {r : ParserStop} (room : ℕ) (top : Bool) → IsMemoryParserStop r ⊎ MissesColon end a r → ParserRefusesAt (levels_of (entries top) + room) end (entries top ∷ []) a r
misses_entry room top (inl e) = record { why = inl e }
misses_entry {a = a} room top (inr misses) = stopped (entry_misses top a (omega (arith, same_level top)) misses.is misses.lacks)

-- what is refused after the labels of a chain is refused from its start
pub chain_refused : {room end other : ℕ} {a b : List Token} {r : ParserStop} (left : ℕ) (ls : List Label) → left + length ls ≡ room → other ≡ end → MovesStack room (value ∷ []) a (value ∷ chains ls) b
    → IsOperandHere (value ∷ []) a b → ParserRefusesAt left other (value ∷ []) b r → ParserRefusesAt room end (value ∷ []) a r
chain_refused left ls is same first leads inner = refused_behind first (λ begins. leads) (refused_end same (refused_under (chains ls) (omega (arith, is, chains_depth ls)) (chains_close ls) inner))
