-- How the recogniser goes through lists and declarations.
use Rattle.std.proofs.Common.{◌≡◌, ◌∙◌, ap, sym, subst, refl, ℕ, ◌+◌, ◌≤◌, ◌⊎◌, inl, inr, Bool, true, false, List, [], ◌∷◌, ◌++◌, length, arith, None}
use Rattle.std.specs.Prelude.{if◌then◌else◌}
use Rattle.cue_lex.specs.declared.token.Token.{Token}
use Rattle.cue_lex.specs.declared.token.TokenKind.{TokenKind}
use Rattle.cue_lex.specs.declared.token.TokenKind.TheVariants as kinds
use Rattle.cue_lex.specs.declared.punctuation.Punctuation.TheVariants as points
use Rattle.cue_syntax.specs.declared.stop.Why.TheVariants as reasons
use Rattle.cue_syntax.specs.declared.stop.ParserStop.{ParserStop}
use Rattle.cue_syntax.specs.declared.tree.Label.{Label}
use Rattle.cue_syntax.specs.Spelling.{SpellsTree, one, one_at, comma_if, spell_label}
use Rattle.cue_syntax.specs.Stops.{at_hand}
use Rattle.cue_syntax.specs.Viability.{IsTokenAt, IsSignAt, IsMark, IsLabelName, IsKeywordName, BeginsLabel, BeginsDefinition, IsDefinition, EndsHere}
use Rattle.cue_syntax.specs.Inner.Viability.{can_begin, behind_begun}
use Rattle.cue_syntax.specs.Recogniser.{Goal, Stack, levels_of, depth, step_stack, EndsExpression, MovesStack, IsOperandHere, ParserRefusesAt, chains, row_goal, value, mark, colon, entries, more_entries, unary, expression, elements, more_elements, dots, bracket, bracket_end}
use Rattle.cue_syntax.proofs.MovesAndStops.{takes, takes_read, moves_none, moves_then, moves_more, moves_under, alike_moves, Halts, HaltsAt, halts_at, follows_behind, stopped, stops_there, refused_behind, refused_under, refused_end}
use Rattle.cue_syntax.proofs.OpensLevels.{end_read, follows_mark, follows_label}
use Rattle.cue_syntax.proofs.MovesOverLabels.{label_entry, same_level, chains_depth, chains_close, chains_over, colon_halts}
use Rattle.cue_syntax.proofs.ValuesAreExpressions.{value_moves, value_refused}
use Rattle.cue_syntax.proofs.MovesOverOperands.{no_comma}

-- lists
-- what is to come after `...`, by whether a comma was read
abbrev pub behind_ellipsis : Bool → Goal
behind_ellipsis true = bracket_end
behind_ellipsis false = bracket

-- the goal after `...` in a list goes through a comma, or through none
pub ellipsis_comma : {n : ℕ} {a b : List Token} (comma : Bool) → 1 ≤ n → SpellsTree a (comma_if comma) b → MovesStack n (bracket ∷ []) a (behind_ellipsis comma ∷ []) b
ellipsis_comma true le reads = takes_read reads (λ below. refl) (omega arith)
ellipsis_comma {n = n} {a = a} false le reads = subst (λ z. MovesStack n (bracket ∷ []) a (bracket ∷ []) z) reads.follows moves_none

-- the goal after `...` in a list goes through the bracket
pub ellipsis_closes : {n : ℕ} {a b : List Token} (comma : Bool) → SpellsTree a (one (kinds.Mark points.CloseBracket)) b → MovesStack n (behind_ellipsis comma ∷ []) a [] b
ellipsis_closes true reads = takes_read reads (λ below. refl) (omega arith)
ellipsis_closes false reads = takes_read reads (λ below. refl) (omega arith)

bracket_none : (k : TokenKind) → (k ≡ (kinds.Mark points.CloseBracket) → ⊥) → (k ≡ (kinds.Mark points.Comma) → ⊥) → (below : Stack) → step_stack (bracket ∷ below) k ≡ None
bracket_none (kinds.Mark points.CloseBracket) a b below = absurd (a refl)
bracket_none (kinds.Mark points.Comma) a b below = absurd (b refl)
bracket_none _ a b below = refl

bracket_end_none : (k : TokenKind) → (k ≡ (kinds.Mark points.CloseBracket) → ⊥) → (below : Stack) → step_stack (bracket_end ∷ below) k ≡ None
bracket_end_none (kinds.Mark points.CloseBracket) a below = absurd (a refl)
bracket_end_none _ a below = refl

ellipsis_at : (comma : Bool) (a : List Token) → ¬ IsSignAt (kinds.Mark points.CloseBracket) a → (comma ≡ false → ¬ IsSignAt (kinds.Mark points.Comma) a) → HaltsAt (behind_ellipsis comma ∷ []) a
ellipsis_at true [] close more = λ below. refl
ellipsis_at false [] close more = λ below. refl
ellipsis_at true (t ∷ ts) close more = λ below closes. bracket_end_none t.kind close below
ellipsis_at false (t ∷ ts) close more = λ below closes. bracket_none t.kind close (more refl) below

-- the goal after `...` in a list halts where no bracket stands
pub ellipsis_halts : {a b : List Token} (comma : Bool) → SpellsTree a (comma_if comma) b → (comma ≡ false → ¬ IsSignAt (kinds.Mark points.Comma) a) → ¬ IsSignAt (kinds.Mark points.CloseBracket) b → Halts (behind_ellipsis comma ∷ []) b
ellipsis_halts {b = b} comma reads lacks close = record { at = ellipsis_at comma b close (no_comma comma reads lacks) }

-- the goal of an operand goes through a bracket, and then as far as the goal of elements does
pub list_opens : {room : ℕ} {a b c : List Token} {next : Stack} (left : ℕ) → left + 1 ≡ room → SpellsTree a (one (kinds.Mark points.OpenBracket)) b → MovesStack (1 + left) (elements ∷ []) b next c → MovesStack room (unary ∷ []) a next c
list_opens left is reads inner = moves_then {h = elements ∷ []} (takes_read reads (λ below. refl) (omega (arith, is))) (moves_more (omega (arith, is)) inner)

-- the room in brackets and the level of the brackets are the room around them
pub refused_inside : {room end : ℕ} {g : Stack} {a : List Token} {r : ParserStop} (left : ℕ) → left + 1 ≡ room → ParserRefusesAt (1 + left) end g a r → ParserRefusesAt room end g a r
refused_inside {room = room} {end = end} {g = g} {a = a} {r = r} left is inner =
    let e : 1 + left ≡ room = omega (arith, is) in
    subst (λ z. ParserRefusesAt z end g a r) e inner

-- what is refused of the elements in brackets is refused of the operand
pub list_refused : {room end other : ℕ} {a b : List Token} {r : ParserStop} (left : ℕ) → left + 1 ≡ room → other ≡ end → SpellsTree a (one (kinds.Mark points.OpenBracket)) b → ParserRefusesAt (1 + left) other (elements ∷ []) b r → ParserRefusesAt room end (unary ∷ []) a r
list_refused left is same reads inner =
    refused_behind {h = elements ∷ []} (takes_read reads (λ below. refl) (omega (arith, is))) (λ begins. inr (follows_mark points.OpenBracket reads)) (refused_end same (refused_inside left is inner))

-- the goal after a row
-- at the start and after a comma it is that of the row's items
pub row_first : {A : Type 0} (first more : Goal) (comma : Bool) (xs : List A) → (comma ≡ true) ⊎ (xs ≡ []) → row_goal first more comma xs ≡ first
row_first first more true xs free = refl
row_first first more false [] free = refl
row_first first more false (x ∷ xs) free = absurd (elim free [ inl e ↦ (let f : false ≡ true = e in cc) | inr e ↦ (let f : x ∷ xs ≡ [] = e in cc) ])

-- after an item with no comma the goal is that of more items
pub row_more : {A : Type 0} (first more : Goal) (comma : Bool) (xs : List A) (x : A) → comma ≡ false → row_goal first more comma (xs ++ x ∷ []) ≡ more
row_more first more true xs x is = absurd (let e : true ≡ false = is in cc)
row_more first more false [] x is = refl
row_more first more false (y ∷ ys) x is = refl

row_or : {A : Type 0} (first more : Goal) (comma : Bool) (xs : List A) → (row_goal first more comma xs ≡ first) × ((comma ≡ true) ⊎ (xs ≡ [])) ⊎ (row_goal first more comma xs ≡ more) × (comma ≡ false)
row_or first more true xs = inl (refl, inl refl)
row_or first more false [] = inl (refl, inr refl)
row_or first more false (x ∷ xs) = inr (refl, refl)

element_step : (k : TokenKind) → (k ≡ (kinds.Mark points.CloseBracket) → ⊥) → (k ≡ (kinds.Mark points.Ellipsis) → ⊥) → (below : Stack) → step_stack (elements ∷ below) k ≡ step_stack (expression ∷ more_elements ∷ below) k
element_step (kinds.Mark points.CloseBracket) a b below = absurd (a refl)
element_step (kinds.Mark points.Ellipsis) a b below = absurd (b refl)
element_step _ a b below = refl

element_at : {n : ℕ} (a : List Token) → ¬ IsSignAt (kinds.Mark points.CloseBracket) a → ¬ IsSignAt (kinds.Mark points.Ellipsis) a → MovesStack n (elements ∷ []) a (expression ∷ more_elements ∷ []) a
element_at [] close more = alike_moves [] (λ below. refl)
element_at (t ∷ ts) close more = alike_moves (t ∷ ts) (λ below. element_step t.kind close more below)

-- an element that is read leaves the goal of more elements
pub element_moves : {room : ℕ} {a b : List Token} → ¬ IsSignAt (kinds.Mark points.CloseBracket) a → ¬ IsSignAt (kinds.Mark points.Ellipsis) a → MovesStack room (expression ∷ []) a [] b → MovesStack (1 + room) (elements ∷ []) a (more_elements ∷ []) b
element_moves {a = a} close more inner = moves_then (element_at a close more) (moves_under (more_elements ∷ []) (omega arith) inner)

-- what is refused of an element is refused of the elements
pub element_refused : {room end : ℕ} {a : List Token} {r : ParserStop} → ¬ IsSignAt (kinds.Mark points.CloseBracket) a → ¬ IsSignAt (kinds.Mark points.Ellipsis) a → ParserRefusesAt room end (expression ∷ []) a r → ParserRefusesAt (1 + room) end (elements ∷ []) a r
element_refused {a = a} close more inner =
    refused_behind (element_at a close more) (λ begins. inl (refl, tt)) (refused_under (more_elements ∷ []) (omega arith) (λ below closes. record { call = refl; colon = refl; question = refl; exclamation = refl }) inner)

-- the goal of more elements goes through a comma to the next one
pub element_next : {n : ℕ} {a b : List Token} (comma : Bool) → comma ≡ true → 1 ≤ n → SpellsTree a (comma_if comma) b → MovesStack n (more_elements ∷ []) a (elements ∷ []) b
element_next true is le reads = takes_read reads (λ below. refl) (omega arith)
element_next false is le reads = absurd (let e : false ≡ true = is in cc)

-- a row that ends where no comma stands
pub same_tokens : {a b : List Token} (comma : Bool) → comma ≡ false → SpellsTree a (comma_if comma) b → a ≡ b
same_tokens false is reads = reads.follows
same_tokens true is reads = absurd (let e : true ≡ false = is in cc)

-- what was read up to an item with no comma after it is a row
pub row_ends : {A : Type 0} {n : ℕ} {g : Stack} {a b c : List Token} {comma : Bool} {ys : List A} (first more : Goal) (xs : List A) (x : A) → comma ≡ false → ys ≡ xs ++ x ∷ []
    → SpellsTree b (comma_if comma) c → MovesStack n g a (more ∷ []) b → MovesStack n g a (row_goal first more comma ys ∷ []) c
row_ends {n = n} {g = g} {a = a} {c = c} {comma = comma} first more xs x none pushed reads moves =
    subst (λ z. MovesStack n g a (z ∷ []) c) (sym (ap (row_goal first more comma) pushed ∙ row_more first more comma xs x none))
    (subst (λ z. MovesStack n g a (more ∷ []) z) (same_tokens comma none reads) moves)

more_elements_none : (k : TokenKind) → (k ≡ (kinds.Mark points.CloseBracket) → ⊥) → (k ≡ (kinds.Mark points.Comma) → ⊥) → (below : Stack) → step_stack (more_elements ∷ below) k ≡ None
more_elements_none (kinds.Mark points.CloseBracket) a b below = absurd (a refl)
more_elements_none (kinds.Mark points.Comma) a b below = absurd (b refl)
more_elements_none _ a b below = refl

more_elements_at : (a : List Token) → ¬ IsSignAt (kinds.Mark points.CloseBracket) a → ¬ IsSignAt (kinds.Mark points.Comma) a → HaltsAt (more_elements ∷ []) a
more_elements_at [] close more = λ below. refl
more_elements_at (t ∷ ts) close more = λ below closes. more_elements_none t.kind close more below

-- after each row of elements, with a comma or without, the goal goes through the bracket
pub row_closes : {n : ℕ} {A : Type 0} {a b : List Token} (comma : Bool) (xs : List A) → SpellsTree a (one (kinds.Mark points.CloseBracket)) b → MovesStack n (row_goal elements more_elements comma xs ∷ []) a [] b
row_closes true xs reads = takes_read reads (λ below. refl) (omega arith)
row_closes false [] reads = takes_read reads (λ below. refl) (omega arith)
row_closes false (x ∷ xs) reads = takes_read reads (λ below. refl) (omega arith)

-- after an element with no comma the goal halts where no bracket stands
pub row_halts : {A : Type 0} {a : List Token} (comma : Bool) (xs : List A) → (comma ≡ false → ¬ IsSignAt (kinds.Mark points.Comma) a) → ((comma ≡ true) ⊎ (xs ≡ []) → ⊥) → ¬ IsSignAt (kinds.Mark points.CloseBracket) a
    → Halts (row_goal elements more_elements comma xs ∷ []) a
row_halts {a = a} true xs lacks free close = absurd (free (inl refl))
row_halts {a = a} false [] lacks free close = absurd (free (inr refl))
row_halts {a = a} false (x ∷ xs) lacks free close = record { at = more_elements_at a close (lacks refl) }

-- where the elements are none or end with a comma, the goal goes through `...`
pub open_ellipsis : {n : ℕ} {A : Type 0} {a b : List Token} (comma : Bool) (xs : List A) → 1 ≤ n → (comma ≡ true) ⊎ (xs ≡ []) → SpellsTree a (one (kinds.Mark points.Ellipsis)) b → MovesStack n (row_goal elements more_elements comma xs ∷ []) a (dots ∷ []) b
open_ellipsis true xs le free reads = takes_read reads (λ below. refl) (omega (arith, le))
open_ellipsis false [] le free reads = takes_read reads (λ below. refl) (omega (arith, le))
open_ellipsis false (x ∷ xs) le free reads = absurd (elim free [ inl e ↦ (let f : false ≡ true = e in cc) | inr e ↦ (let f : x ∷ xs ≡ [] = e in cc) ])

-- what follows the `...` of a list
shut_step : (k : TokenKind) → (k ≡ (kinds.Mark points.Comma)) ⊎ (k ≡ (kinds.Mark points.CloseBracket)) → (below : Stack) → step_stack (dots ∷ below) k ≡ step_stack (bracket ∷ below) k
shut_step k (inl e) below = ap (step_stack (dots ∷ below)) e ∙ sym (ap (step_stack (bracket ∷ below)) e)
shut_step k (inr e) below = ap (step_stack (dots ∷ below)) e ∙ sym (ap (step_stack (bracket ∷ below)) e)

-- where a comma or a bracket stands, the goal after `...` is that of the end of the list
pub dots_shut : {n : ℕ} {a : List Token} → IsSignAt (kinds.Mark points.Comma) a ⊎ IsSignAt (kinds.Mark points.CloseBracket) a → MovesStack n (dots ∷ []) a (bracket ∷ []) a
dots_shut {a = []} stands = absurd (elim stands [ inl e ↦ e | inr e ↦ e ])
dots_shut {a = t ∷ ts} stands = alike_moves (t ∷ ts) (λ below. shut_step t.kind stands below)

dots_step : (k : TokenKind) → (k ≡ (kinds.Mark points.Comma) → ⊥) → (k ≡ (kinds.Mark points.CloseBracket) → ⊥) → (below : Stack) → step_stack (dots ∷ below) k ≡ step_stack (expression ∷ bracket ∷ below) k
dots_step (kinds.Mark points.Comma) a b below = absurd (a refl)
dots_step (kinds.Mark points.CloseBracket) a b below = absurd (b refl)
dots_step _ a b below = refl

dots_at : {n : ℕ} (a : List Token) → ¬ IsSignAt (kinds.Mark points.Comma) a → ¬ IsSignAt (kinds.Mark points.CloseBracket) a → MovesStack n (dots ∷ []) a (expression ∷ bracket ∷ []) a
dots_at [] comma close = alike_moves [] (λ below. refl)
dots_at (t ∷ ts) comma close = alike_moves (t ∷ ts) (λ below. dots_step t.kind comma close below)

-- an expression that is read after `...` leaves the end of the list
pub dots_moves : {room : ℕ} {a b : List Token} → ¬ IsSignAt (kinds.Mark points.Comma) a → ¬ IsSignAt (kinds.Mark points.CloseBracket) a → MovesStack room (expression ∷ []) a [] b → MovesStack (1 + room) (dots ∷ []) a (bracket ∷ []) b
dots_moves {a = a} comma close inner = moves_then (dots_at a comma close) (moves_under (bracket ∷ []) (omega arith) inner)

-- what is refused of an expression after `...` is refused there
pub dots_refused : {room end : ℕ} {a : List Token} {r : ParserStop} → ¬ IsSignAt (kinds.Mark points.Comma) a → ¬ IsSignAt (kinds.Mark points.CloseBracket) a → ParserRefusesAt room end (expression ∷ []) a r
    → ParserRefusesAt (1 + room) end (dots ∷ []) a r
dots_refused {a = a} comma close inner =
    refused_behind (dots_at a comma close) (λ begins. inl (refl, tt)) (refused_under (bracket ∷ []) (omega arith) (λ below closes. record { call = refl; colon = refl; question = refl; exclamation = refl }) inner)

-- declarations
-- the goal of more declarations goes through a comma to the next one
pub entry_next : {n : ℕ} {a b : List Token} (top comma : Bool) → comma ≡ true → levels_of (entries top) ≤ n → SpellsTree a (comma_if comma) b → MovesStack n (more_entries top ∷ []) a (entries top ∷ []) b
entry_next true true is le reads = takes_read reads (λ below. refl) (omega (arith, le))
entry_next false true is le reads = takes_read reads (λ below. refl) (omega (arith, le))
entry_next top false is le reads = absurd (let e : false ≡ true = is in cc)

-- after each row of declarations, with a comma or without, the goal goes through the closing brace
pub braces_close : {n : ℕ} {A : Type 0} {a b : List Token} (comma : Bool) (xs : List A) → SpellsTree a (one (kinds.Mark points.CloseBrace)) b → MovesStack n (row_goal (entries false) (more_entries false) comma xs ∷ []) a [] b
braces_close true xs reads = takes_read reads (λ below. refl) (omega arith)
braces_close false [] reads = takes_read reads (λ below. refl) (omega arith)
braces_close false (x ∷ xs) reads = takes_read reads (λ below. refl) (omega arith)

more_entries_none : (k : TokenKind) → (k ≡ (kinds.Mark points.CloseBrace) → ⊥) → (k ≡ (kinds.Mark points.Comma) → ⊥) → (below : Stack) → step_stack (more_entries false ∷ below) k ≡ None
more_entries_none (kinds.Mark points.CloseBrace) a b below = absurd (a refl)
more_entries_none (kinds.Mark points.Comma) a b below = absurd (b refl)
more_entries_none _ a b below = refl

more_entries_at : (a : List Token) → ¬ IsSignAt (kinds.Mark points.CloseBrace) a → ¬ IsSignAt (kinds.Mark points.Comma) a → HaltsAt (more_entries false ∷ []) a
more_entries_at [] close more = λ below. refl
more_entries_at (t ∷ ts) close more = λ below closes. more_entries_none t.kind close more below

-- after a declaration in braces with no comma the goal halts where no brace stands
pub braces_halt : {A : Type 0} {a : List Token} (comma : Bool) (xs : List A) → (comma ≡ false → ¬ IsSignAt (kinds.Mark points.Comma) a) → ((comma ≡ true) ⊎ (xs ≡ []) → EndsHere false a) → ¬ IsSignAt (kinds.Mark points.CloseBrace) a
    → Halts (row_goal (entries false) (more_entries false) comma xs ∷ []) a
braces_halt {a = a} true xs lacks free close = absurd (close (free (inl refl)))
braces_halt {a = a} false [] lacks free close = absurd (close (free (inr refl)))
braces_halt {a = a} false (x ∷ xs) lacks free close = record { at = more_entries_at a close (lacks refl) }

top_none : (k : TokenKind) → (k ≡ (kinds.Mark points.Comma) → ⊥) → (below : Stack) → step_stack (more_entries true ∷ below) k ≡ None
top_none (kinds.Mark points.Comma) a below = absurd (a refl)
top_none _ a below = refl

top_at : (a : List Token) → (a ≡ [] → ⊥) → ¬ IsSignAt (kinds.Mark points.Comma) a → HaltsAt (more_entries true ∷ []) a
top_at [] some more = absurd (some refl)
top_at (t ∷ ts) some more = λ below closes. top_none t.kind more below

-- after a declaration of the top with no comma the goal halts where the text goes on
pub top_halts : {A : Type 0} {a : List Token} (comma : Bool) (xs : List A) → (comma ≡ false → ¬ IsSignAt (kinds.Mark points.Comma) a) → ((comma ≡ true) ⊎ (xs ≡ []) → EndsHere true a) → (a ≡ [] → ⊥)
    → Halts (row_goal (entries true) (more_entries true) comma xs ∷ []) a
top_halts {a = a} true xs lacks free some = absurd (some (free (inl refl)))
top_halts {a = a} false [] lacks free some = absurd (some (free (inr refl)))
top_halts {a = a} false (x ∷ xs) lacks free some = record { at = top_at a some (lacks refl) }

-- the goal of declarations goes through `...`
pub entry_ellipsis : {n : ℕ} {a b : List Token} (top : Bool) → levels_of (entries top) ≤ n → SpellsTree a (one (kinds.Mark points.Ellipsis)) b → MovesStack n (entries top ∷ []) a (more_entries top ∷ []) b
entry_ellipsis true le reads = takes_read reads (λ below. refl) (omega (arith, le))
entry_ellipsis false le reads = takes_read reads (λ below. refl) (omega (arith, le))

-- a value after the labels of a chain
more_entries_close : (top : Bool) (below : Stack) → EndsExpression below → EndsExpression (more_entries top ∷ below)
more_entries_close true below closes = record { call = refl; colon = refl; question = refl; exclamation = refl }
more_entries_close false below closes = record { call = refl; colon = refl; question = refl; exclamation = refl }

-- the goal of a value goes through labels and then the expression after them
pub chain_value : {room : ℕ} {b c d : List Token} (left : ℕ) (ls : List Label) → left + length ls ≡ room → MovesStack room (value ∷ []) b (value ∷ chains ls) c → ¬ BeginsLabel c → ¬ IsTokenAt IsKeywordName c
    → MovesStack left (expression ∷ []) c [] d → MovesStack room (value ∷ []) b [] d
chain_value {d = d} left ls is first label keyword inner =
    moves_then first (moves_then (moves_under (chains ls) (omega (arith, is, chains_depth ls)) (value_moves label keyword inner)) (chains_over ls d))

-- what is refused of the expression after labels is refused of the value
pub chain_value_refused : {room end other : ℕ} {b c : List Token} {r : ParserStop} (left : ℕ) (ls : List Label) → left + length ls ≡ room → other ≡ end → MovesStack room (value ∷ []) b (value ∷ chains ls) c
    → IsOperandHere (value ∷ []) b c → ¬ BeginsLabel c → ¬ IsTokenAt IsKeywordName c → ParserRefusesAt left other (expression ∷ []) c r → ParserRefusesAt room end (value ∷ []) b r
chain_value_refused left ls is same first leads label keyword inner =
    refused_behind first (λ begins. leads) (refused_end same (refused_under (chains ls) (omega (arith, is, chains_depth ls)) (chains_close ls) (value_refused label keyword inner)))

-- the goal of declarations goes through a label and its value
pub field_moves : {room : ℕ} {a b d : List Token} (top : Bool) (l : Label) → SpellsTree a (spell_label l) b → MovesStack room (value ∷ []) b [] d → MovesStack (levels_of (entries top) + room) (entries top ∷ []) a (more_entries top ∷ []) d
field_moves top l reads inner =
    moves_then (label_entry top l (omega (arith, same_level top)) reads) (moves_under (more_entries top ∷ []) (omega (arith, same_level top)) inner)

-- what is refused of the value after a label is refused of the declarations
pub field_refused : {room end other : ℕ} {a b : List Token} {r : ParserStop} (top : Bool) (l : Label) → SpellsTree a (spell_label l) b → other ≡ end → ParserRefusesAt room other (value ∷ []) b r → ParserRefusesAt (levels_of (entries top) + room) end (entries top ∷ []) a r
field_refused top l reads same inner =
    refused_behind (label_entry top l (omega (arith, same_level top)) reads) (λ begins. inr (follows_label l reads)) (refused_end same (refused_under (more_entries top ∷ []) (omega (arith, same_level top)) (more_entries_close top) inner))

-- the goal of declarations of the top goes through a definition's name and its colon
pub definition_opens : {n from : ℕ} {t : List ℕ} {a b c : List Token} → SpellsTree a (one_at from (kinds.Definition t)) b → SpellsTree b (one (kinds.Mark points.Colon)) c → MovesStack n (entries true ∷ []) a (value ∷ more_entries true ∷ []) c
definition_opens first second = moves_then {h = colon ∷ value ∷ more_entries true ∷ []} (takes_read first (λ below. refl) (omega arith)) (takes_read second (λ below. refl) (omega arith))

-- the goal of declarations of the top goes through a definition and its value
pub definition_moves : {room from : ℕ} {t : List ℕ} {a b c d : List Token} → SpellsTree a (one_at from (kinds.Definition t)) b → SpellsTree b (one (kinds.Mark points.Colon)) c → MovesStack room (value ∷ []) c [] d → MovesStack room (entries true ∷ []) a (more_entries true ∷ []) d
definition_moves first second inner = moves_then (definition_opens first second) (moves_under (more_entries true ∷ []) (omega arith) inner)

-- what is refused of a definition's value is refused of the declarations
pub definition_refused : {room end other from : ℕ} {t : List ℕ} {a b c : List Token} {r : ParserStop} → SpellsTree a (one_at from (kinds.Definition t)) b → SpellsTree b (one (kinds.Mark points.Colon)) c → other ≡ end → ParserRefusesAt room other (value ∷ []) c r
    → ParserRefusesAt room end (entries true ∷ []) a r
definition_refused first second same inner =
    refused_behind (definition_opens first second) (λ begins. inr (follows_behind (end_read _ first) (follows_mark points.Colon second))) (refused_end same (refused_under (more_entries true ∷ []) (omega arith) (more_entries_close true) inner))

-- where no declaration begins
-- the goals come to a place and halt there
record HaltsBehind (g : Stack) (a b : List Token) : Type 0 where
  pub next : Stack
  pub room : ℕ
  pub few : room ≤ depth g
  pub moves : MovesStack room g a next b
  pub halts : Halts next b

halts_here : {g : Stack} {a : List Token} → Halts g a → HaltsBehind g a a
halts_here {g = g} halts = record { next = g; room = 0; few = omega arith; moves = moves_none; halts = halts }

mark_none : (g : Stack) (k : TokenKind) → ¬ IsMark k → (below : Stack) → step_stack ((mark ∷ g) ++ below) k ≡ None
mark_none g (kinds.Mark points.Colon) other below = absurd (other tt)
mark_none g (kinds.Mark points.Question) other below = absurd (other tt)
mark_none g (kinds.Mark points.Exclamation) other below = absurd (other tt)
mark_none g _ other below = refl

mark_at : (g : Stack) (a : List Token) → ¬ IsTokenAt IsMark a → HaltsAt (mark ∷ g) a
mark_at g [] other = λ below. refl
mark_at g (t ∷ ts) other = λ below closes. mark_none g t.kind other below

no_entry : (top : Bool) (t : Token) (ts : List Token) (k : TokenKind) → t.kind ≡ k → (k ≡ (kinds.Mark points.Ellipsis) → ⊥) → ¬ (IsLabelName k × IsTokenAt IsMark ts) → (top ≡ true → ¬ (IsDefinition k × IsSignAt (kinds.Mark points.Colon) ts))
    → (top ≡ false → k ≡ (kinds.Mark points.CloseBrace) → ⊥) → HaltsBehind (entries top ∷ []) (t ∷ ts) (if can_begin top k then ts else t ∷ ts)
no_entry true t ts (kinds.Name n) is no_dots label other close = record { next = mark ∷ value ∷ more_entries true ∷ []; room = 0; few = omega arith; moves = takes t refl (λ below. ap (step_stack (entries true ∷ below)) is) (omega arith); halts = record { at = mark_at (value ∷ more_entries true ∷ []) ts (λ m. label (tt, m)) } }
no_entry true t ts (kinds.Text n) is no_dots label other close = record { next = mark ∷ value ∷ more_entries true ∷ []; room = 0; few = omega arith; moves = takes t refl (λ below. ap (step_stack (entries true ∷ below)) is) (omega arith); halts = record { at = mark_at (value ∷ more_entries true ∷ []) ts (λ m. label (tt, m)) } }
no_entry true t ts (kinds.Definition n) is no_dots label other close = record { next = colon ∷ value ∷ more_entries true ∷ []; room = 0; few = omega arith; moves = takes t refl (λ below. ap (step_stack (entries true ∷ below)) is) (omega arith); halts = colon_halts (λ m. other refl (tt, m)) }
no_entry true t ts (kinds.Mark points.Ellipsis) is no_dots label other close = absurd (no_dots refl)
no_entry true t ts k is no_dots label other close = halts_here (halts_at t refl (λ below closes. ap (step_stack (entries true ∷ below)) is))
no_entry false t ts (kinds.Name n) is no_dots label other close = record { next = mark ∷ value ∷ more_entries false ∷ []; room = 1; few = omega arith; moves = takes t refl (λ below. ap (step_stack (entries false ∷ below)) is) (omega arith); halts = record { at = mark_at (value ∷ more_entries false ∷ []) ts (λ m. label (tt, m)) } }
no_entry false t ts (kinds.Text n) is no_dots label other close = record { next = mark ∷ value ∷ more_entries false ∷ []; room = 1; few = omega arith; moves = takes t refl (λ below. ap (step_stack (entries false ∷ below)) is) (omega arith); halts = record { at = mark_at (value ∷ more_entries false ∷ []) ts (λ m. label (tt, m)) } }
no_entry false t ts (kinds.Mark points.Ellipsis) is no_dots label other close = absurd (no_dots refl)
no_entry false t ts (kinds.Mark points.CloseBrace) is no_dots label other close = absurd (close refl refl)
no_entry false t ts k is no_dots label other close = halts_here (halts_at t refl (λ below closes. ap (step_stack (entries false ∷ below)) is))

no_entry_at : (top : Bool) (a : List Token) → ¬ IsSignAt (kinds.Mark points.Ellipsis) a → ¬ BeginsLabel a → (top ≡ true → ¬ BeginsDefinition a) → ¬ EndsHere top a → HaltsBehind (entries top ∷ []) a (behind_begun top a)
no_entry_at true [] no_dots label other ends = absurd (ends refl)
no_entry_at false [] no_dots label other ends = halts_here (record { at = λ below. refl })
no_entry_at true (t ∷ ts) no_dots label other ends = no_entry true t ts t.kind refl no_dots label other (λ e. let f : true ≡ false = e in cc)
no_entry_at false (t ∷ ts) no_dots label other ends = no_entry false t ts t.kind refl no_dots label other (λ e. ends)

-- the goal of declarations refuses tokens with which none begins and where they don't end
pub no_entry_refused : {end : ℕ} {a : List Token} {r : ParserStop} (room : ℕ) (top : Bool) → ¬ IsSignAt (kinds.Mark points.Ellipsis) a → ¬ BeginsLabel a → (top ≡ true → ¬ BeginsDefinition a) → ¬ EndsHere top a
    → r ≡ at_hand reasons.Syntax end (behind_begun top a) → ParserRefusesAt (levels_of (entries top) + room) end (entries top ∷ []) a r
no_entry_refused {a = a} room top no_dots label other ends is = let w = no_entry_at top a no_dots label other ends in stopped (stops_there (omega (arith, w.few)) is w.moves w.halts)
