-- How expressions, terms and declarations are read.
use Rattle.std.proofs.Common.{◌≡◌, ◌∙◌, ap, sym, refl, ℕ, zero, suc, ◌+◌, ◌≤◌, Bool, true, false, ◌&&◌, not, List, [], ◌∷◌, ◌++◌, length, flat_map, arith}
use Rattle.cue_lex.specs.declared.token.Token.{Token}
use Rattle.cue_lex.specs.declared.token.TokenKind.{TokenKind}
use Rattle.cue_lex.specs.declared.token.TokenKind.TheVariants as kinds
use Rattle.cue_lex.specs.declared.punctuation.Punctuation.TheVariants as points
use Rattle.cue_syntax.specs.declared.tree.Label.{Label}
use Rattle.cue_syntax.specs.declared.tree.LabelName.{LabelName}
use Rattle.cue_syntax.specs.declared.tree.LabelName.TheVariants as names
use Rattle.cue_syntax.specs.declared.tree.Mark.{Mark}
use Rattle.cue_syntax.specs.declared.tree.Mark.TheVariants as marks
use Rattle.cue_syntax.specs.Spelling.{SpellsTree, one, place_first, label_kind, spell_mark, spell_label, spell, spell_more_elements, spell_branch, spell_more_branches, spell_entry}
use Rattle.cue_syntax.specs.Grammar.{IsUnary, IsConjunct, IsTerm, AreUnary, TwoElements, TwoBranches}
use Rattle.cue_syntax.specs.Syntax.{Expression, conjunction, disjunction, Elements, no_elements, element, branch, Branches, no_branches, next_branch, ellipsis, field, definition}
use Rattle.cue_syntax.proofs.PartsByTheirTokens.{is_mark, is_name, is_comma, is_entry, is_clause, first, behind, place, look, look_at, other, begins, is_starred, label_name_of, label_name_at, mark_of, mark_at, behind_mark, behind_mark_at, label_of, behind_label}
use Rattle.cue_syntax.proofs.ReaderOfTrees.{Reader, reader, read_conjunct, read_term, as_branch, read_expression, read_value, no_labels, put_label, put_part, put_term, read_entry, entry_at, as_field, as_definition, size, size_of_entry}
use Rattle.cue_syntax.proofs.ReadingsJoin.{reads_then}
use Rattle.cue_syntax.proofs.ReadingsCut.{cut, Head, Headed, headed, lone, place_is, unplaced, placed_place, placed_reads, head_first, head_behind, head_look, EndsUnary, EndsConjunct, EndsExpression, unary_ends}
use Rattle.cue_syntax.proofs.ReadsRows.{found, ReadsUnary, ReadsConjunct, ReadsWhole, LooksPlain, Knows, KnowsBranch, KnowsEntry, AreKnown, AreKnownBranches, no_more_parts, ends_parts, more_parts, no_more_terms, ends_terms, more_terms}
use Rattle.cue_syntax.proofs.ReadsOperands.{Answers}

-- an operand or a bound by itself

operand_unary : (e : Expression) → 1 ≤ size e → Answers e → ReadsUnary e
operand_unary e some answers zero a b h k s = absurd (omega (arith, s, some))
operand_unary e some answers (suc n) a b h k s = (answers n a b h k s).0

operand_conjunct : (e : Expression) → 1 ≤ size e → ReadsUnary e → ReadsConjunct e
operand_conjunct e some unary zero a b h k s = absurd (omega (arith, s))
operand_conjunct e some unary (suc n) a b h k s =
    ap (read_conjunct (reader n)) (unary n a b h k.unary (omega (arith, s)))
    ∙ ap (put_part e) (no_more_parts n b (omega (arith, s, some)) k.no_and)

conjunct_whole : (e : Expression) → ReadsConjunct e → LooksPlain e → ReadsWhole e
conjunct_whole e conjunct looks zero a b h k s = absurd (omega (arith, s))
conjunct_whole e conjunct looks (suc zero) a b h k s = absurd (omega (arith, s))
conjunct_whole e conjunct looks (suc (suc n)) a b h k s =
    ap
    (λ (z : Bool). read_expression (reader (suc n)) (read_term (reader n) z a))
    (ap is_starred (looks a b h k.conjunct.unary))
    ∙ ap (λ (p : Expression × List Token). read_expression (reader (suc n)) (as_branch false (place a) p)) (conjunct n a b h k.conjunct (omega (arith, s)))
    ∙ ap (put_term (branch false (place a) e)) (no_more_terms (suc n) b (omega arith) k.no_or)

operand_looks : (e : Expression) → Answers e → LooksPlain e
operand_looks e answers a b h k = (answers (size e) a b h k (omega arith)).1

-- an operand or a bound that the reader finds is found wherever an expression stands
pub operand_knows : (e : Expression) → 1 ≤ size e → Answers e → Knows e
operand_knows e some answers =
    let unary = operand_unary e some answers in
    let conjunct = operand_conjunct e some unary in
    let looks = operand_looks e answers in
    record {
      unary = λ u. unary;
      conjunct = λ u. conjunct;
      whole = conjunct_whole e conjunct looks;
      plain = λ u. looks;
      begins = λ a b h k. ap begins (looks a b h k);
    }

-- parts joined by `&`

unary_conjunct : (e : Expression) → IsUnary e → IsConjunct e
unary_conjunct (disjunction bs) u = u
unary_conjunct _ u = tt

parts_conjunct : (d e : Expression) (es : Elements) → IsUnary d → Knows d → AreUnary (element e es) → AreKnown (element e es)
    → ReadsConjunct (conjunction (element d (element e es)))
parts_conjunct d e es first_unary first_known unary known zero a b h k s = absurd (omega (arith, s))
parts_conjunct d e es first_unary first_known unary known (suc n) a b h k s =
    let u = cut (spell d) (spell_more_elements (kinds.Mark points.Ampersand) (element e es)) h in
    ap (read_conjunct (reader n)) (first_known.unary first_unary n a u.middle u.left (ends_parts (element e es) u.middle b u.right k.unary) (omega (arith, s)))
    ∙ ap (put_part d) (more_parts (element e es) known unary n u.middle b u.right k (omega (arith, s)))

parts_look : (d e : Expression) (es : Elements) → IsUnary d → Knows d → LooksPlain (conjunction (element d (element e es)))
parts_look d e es first_unary first_known a b h k =
    let u = cut (spell d) (spell_more_elements (kinds.Mark points.Ampersand) (element e es)) h in
    first_known.plain (unary_conjunct d first_unary) a u.middle u.left (ends_parts (element e es) u.middle b u.right k)

-- where the reader finds each part of a conjunction, it finds the conjunction
pub conjunction_knows : (es : Elements) → AreKnown es → AreUnary es → TwoElements es → Knows (conjunction es)
conjunction_knows no_elements known unary two = absurd two
conjunction_knows (element d no_elements) known unary two = absurd two
conjunction_knows (element d (element e es)) known unary two =
    let conjunct = parts_conjunct d e es unary.0 known.0 unary.1 known.1 in
    let looks = parts_look d e es unary.0 known.0 in
    record {
      unary = λ u. absurd u;
      conjunct = λ u. conjunct;
      whole = conjunct_whole (conjunction (element d (element e es))) conjunct looks;
      plain = λ u. looks;
      begins = λ a b h k. ap begins (looks a b h k);
    }

-- terms joined by `|`

some_pieces : (e : Expression) → Knows e → spell e ≡ [] → ⊥
some_pieces e known none =
    let here : SpellsTree [] (spell e) [] = rw none (record { follows = refl }) in
    let open_end : EndsUnary [] = record { no_open = refl; no_mark = refl } in
    let wrong : false ≡ true = known.begins [] [] here open_end in
    cc

branch_reads : (marked : Bool) (from : ℕ) (e : Expression) → Knows e → IsTerm marked e → (n : ℕ) (a c : List Token)
    → SpellsTree a (spell_branch (branch marked from e)) c → EndsConjunct c → 3 + size e ≤ n → (reader n).term a ≡ (branch marked from e, c)
branch_reads marked from e known fits zero a c h k s = absurd (omega (arith, s))
branch_reads true from e known fits (suc n) a c h k s =
    let t = headed (kinds.Mark points.Star) (place_first from (spell e)) h in
    let inner = placed_reads from (spell e) (some_pieces e known) t.right in
    ap (λ (z : Bool). read_term (reader n) z a) (ap is_starred (head_look t.head))
    ∙ ap (λ (z : List Token). as_branch true (place z) ((reader n).unary z)) (head_behind t.head)
    ∙ ap (as_branch true (place t.middle)) (known.unary fits n t.middle c inner k.unary (omega (arith, s)))
    ∙ ap (λ (p : ℕ). found (branch true p e) c) (placed_place from (spell e) (some_pieces e known) t.right)
branch_reads false from e known fits (suc n) a c h k s =
    let inner = placed_reads from (spell e) (some_pieces e known) h in
    ap (λ (z : Bool). read_term (reader n) z a) (ap is_starred (known.plain fits a c inner k.unary))
    ∙ ap (as_branch false (place a)) (known.conjunct fits n a c inner k (omega (arith, s)))
    ∙ ap (λ (p : ℕ). found (branch false p e) c) (placed_place from (spell e) (some_pieces e known) h)

branch_begins : (marked : Bool) (from : ℕ) (e : Expression) → Knows e → (a c : List Token) → SpellsTree a (spell_branch (branch marked from e)) c
    → EndsUnary c → begins (look a) ≡ true
branch_begins true from e known a c h k = ap begins (head_look (headed (kinds.Mark points.Star) (place_first from (spell e)) h).head)
branch_begins false from e known a c h k = known.begins a c (placed_reads from (spell e) (some_pieces e known) h) k

-- where the reader finds an expression, it finds the term with it
pub branch_knows : (marked : Bool) (from : ℕ) (e : Expression) → Knows e → IsTerm marked e → KnowsBranch (branch marked from e)
branch_knows marked from e known fits = record { reads = branch_reads marked from e known fits; begins = branch_begins marked from e known }

terms_whole : (bs : Branches) → AreKnownBranches bs → TwoBranches bs → ReadsWhole (disjunction bs)
terms_whole no_branches known two n a b h k s = absurd two
terms_whole (next_branch x no_branches) known two n a b h k s = absurd two
terms_whole (next_branch x (next_branch y bs)) known two zero a b h k s = absurd (omega (arith, s))
terms_whole (next_branch x (next_branch y bs)) known two (suc n) a b h k s =
    let u = cut (spell_branch x) (spell_more_branches (next_branch y bs)) h in
    ap (read_expression (reader n)) (known.0.reads n a u.middle u.left (ends_terms (next_branch y bs) u.middle b u.right k.conjunct) (omega (arith, s)))
    ∙ ap (put_term x) (more_terms (next_branch y bs) known.1 n u.middle b u.right k (omega (arith, s)))

terms_begin : (bs : Branches) → AreKnownBranches bs → TwoBranches bs → (a b : List Token) → SpellsTree a (spell (disjunction bs)) b → EndsUnary b
    → begins (look a) ≡ true
terms_begin no_branches known two a b h k = absurd two
terms_begin (next_branch x no_branches) known two a b h k = absurd two
terms_begin (next_branch x (next_branch y bs)) known two a b h k =
    let u = cut (spell_branch x) (spell_more_branches (next_branch y bs)) h in
    let v = headed (kinds.Mark points.Bar) (spell_branch y ++ spell_more_branches bs) u.right in
    known.0.begins a u.middle u.left (unary_ends v.head refl refl)

-- where the reader finds each term of a disjunction, it finds the disjunction
pub disjunction_knows : (bs : Branches) → AreKnownBranches bs → TwoBranches bs → Knows (disjunction bs)
disjunction_knows bs known two = record {
  unary = λ u. absurd u;
  conjunct = λ u. absurd u;
  whole = terms_whole bs known two;
  plain = λ u. absurd u;
  begins = terms_begin bs known two;
}

-- labels

name_known : (i : LabelName) → label_name_at (label_kind i) ≡ i
name_known (names.Plain t) = refl
name_known (names.Quoted t) = refl

name_look : (i : LabelName) → look_at (label_kind i) true ≡ other
name_look (names.Plain t) = refl
name_look (names.Quoted t) = refl

-- the mark of a label is seen, and so are the tokens after its colon
pub record MarkSeen (m : Mark) (a b : List Token) : Type 0 where
  pub mark : mark_of a ≡ m
  pub behind_it : behind_mark_at m a ≡ b
  pub marked : first is_mark a ≡ true

mark_step : {a c : List Token} {kind : TokenKind} → Head a kind c → mark_of a ≡ mark_at kind
mark_step h = ap mark_of h.is ∙ ap mark_at h.kind_is

mark_seen : (m : Mark) (a b : List Token) → SpellsTree a (spell_mark m ++ one (kinds.Mark points.Colon)) b → MarkSeen m a b
mark_seen marks.Regular a b h =
    let t : Head a (kinds.Mark points.Colon) b = lone (kinds.Mark points.Colon) h in
    record { mark = mark_step t; behind_it = head_behind t; marked = head_first is_mark t }
mark_seen marks.Optional a b h =
    let t = headed (kinds.Mark points.Question) (one (kinds.Mark points.Colon)) h in
    record { mark = mark_step t.head; behind_it = ap behind (head_behind t.head) ∙ head_behind (lone (kinds.Mark points.Colon) t.right); marked = head_first is_mark t.head }
mark_seen marks.Required a b h =
    let t = headed (kinds.Mark points.Exclamation) (one (kinds.Mark points.Colon)) h in
    record { mark = mark_step t.head; behind_it = ap behind (head_behind t.head) ∙ head_behind (lone (kinds.Mark points.Colon) t.right); marked = head_first is_mark t.head }

-- a label is seen, and so are the tokens after it
pub record LabelSeen (l : Label) (a b : List Token) : Type 0 where
  pub middle : List Token
  pub head : Head a (label_kind l.name) middle
  pub marked : first is_mark middle ≡ true
  pub label : label_of a ≡ l
  pub behind_it : behind_label a ≡ b
  pub look : look a ≡ other

abbrev labelled : LabelName → Mark → Label
labelled i m = record { name = i; mark = m }

label_seen : (l : Label) (a b : List Token) → SpellsTree a (spell_label l) b → LabelSeen l a b
label_seen l a b h =
    let t = headed (label_kind l.name) (spell_mark l.mark ++ one (kinds.Mark points.Colon)) h in
    let m = mark_seen l.mark t.middle b t.right in
    let past = head_behind t.head in
    let its_name : label_name_of a ≡ l.name = ap label_name_of t.head.is ∙ ap label_name_at t.head.kind_is ∙ name_known l.name in
    let its_mark : mark_of (behind a) ≡ l.mark = ap mark_of past ∙ m.mark in
    record {
      middle = t.middle;
      head = t.head;
      marked = m.marked;
      label = λ i. labelled (its_name i) (its_mark i);
      behind_it = ap behind_mark past ∙ ap (λ (z : Mark). behind_mark_at z t.middle) m.mark ∙ m.behind_it;
      look = head_look t.head ∙ ap (look_at (label_kind l.name)) m.marked ∙ name_look l.name;
    }

-- a value after labels
value_known : (chain : List Label) (e : Expression) → Knows e → (n : ℕ) (a b : List Token) → SpellsTree a (flat_map spell_label chain ++ spell e) b
    → EndsExpression b → length chain + 4 + size e ≤ n → (reader n).value a ≡ (chain, e, b)
value_known chain e known zero a b h k s = absurd (omega (arith, s))
value_known [] e known (suc n) a b h k s =
    ap (λ (z : Bool). read_value (reader n) z a) (known.begins a b h k.conjunct.unary)
    ∙ ap no_labels (known.whole n a b h k (omega (arith, s)))
value_known (l ∷ chain) e known (suc n) a b h k s =
    let u = cut (spell_label l ++ flat_map spell_label chain) (spell e) h in
    let v = cut (spell_label l) (flat_map spell_label chain) u.left in
    let seen = label_seen l a v.middle v.left in
    let rest = value_known chain e known n v.middle b (reads_then v.right u.right) k (omega (arith, s)) in
    ap (λ (z : Bool). read_value (reader n) z a) (ap begins seen.look)
    ∙ ap (λ (z : Label). put_label z ((reader n).value (behind_label a))) seen.label
    ∙ ap (λ (z : List Token). put_label l ((reader n).value z)) seen.behind_it
    ∙ ap (put_label l) rest

-- declarations

entry_step : {a c : List Token} {kind : TokenKind} (n : ℕ) → Head a kind c → (reader (suc n)).entry a ≡ entry_at (reader n) kind a
entry_step {a = a} {c = c} n h =
    ap (read_entry (reader n)) h.is
    ∙ ap (λ (k : TokenKind). entry_at (reader n) k (h.token ∷ c)) h.kind_is
    ∙ ap (entry_at (reader n) _) (sym h.is)

ellipsis_reads : (n : ℕ) (a b : List Token) → SpellsTree a (one (kinds.Mark points.Ellipsis)) b → EndsExpression b → 1 ≤ n → (reader n).entry a ≡ (ellipsis, b)
ellipsis_reads zero a b h k s = absurd (omega (arith, s))
ellipsis_reads (suc n) a b h k s =
    let head : Head a (kinds.Mark points.Ellipsis) b = lone (kinds.Mark points.Ellipsis) h in entry_step n head ∙ ap (found ellipsis) (head_behind head)

-- the reader finds `...` as a declaration
pub ellipsis_knows : KnowsEntry ellipsis
ellipsis_knows = record {
  reads = ellipsis_reads;
  begins = λ a b h. head_first is_entry (lone (kinds.Mark points.Ellipsis) h);
  no_comma = λ a b h. head_first is_comma (lone (kinds.Mark points.Ellipsis) h);
  no_clause = λ a b h. ap (λ (z : Bool). z && not (first is_mark (behind a))) (head_first is_name (lone (kinds.Mark points.Ellipsis) h));
}

field_at : (i : LabelName) (r : Reader) (ts : List Token) → entry_at r (label_kind i) ts ≡ as_field (label_of ts) (r.value (behind_label ts))
field_at (names.Plain t) r ts = refl
field_at (names.Quoted t) r ts = refl

field_reads : (l : Label) (chain : List Label) (e : Expression) → Knows e → (n : ℕ) (a b : List Token) → SpellsTree a (spell_entry (field l chain e)) b
    → EndsExpression b → size_of_entry (field l chain e) ≤ n → (reader n).entry a ≡ (field l chain e, b)
field_reads l chain e known zero a b h k s = absurd (omega (arith, s))
field_reads l chain e known (suc n) a b h k s =
    let u = cut (spell_label l ++ flat_map spell_label chain) (spell e) h in
    let v = cut (spell_label l) (flat_map spell_label chain) u.left in
    let seen = label_seen l a v.middle v.left in
    let rest = value_known chain e known n v.middle b (reads_then v.right u.right) k (omega (arith, s)) in
    entry_step n seen.head ∙ field_at l.name (reader n) a
    ∙ ap (λ (z : Label). as_field z ((reader n).value (behind_label a))) seen.label
    ∙ ap (λ (z : List Token). as_field l ((reader n).value z)) seen.behind_it
    ∙ ap (as_field l) rest

field_label : (l : Label) (chain : List Label) (e : Expression) (a b : List Token) → SpellsTree a (spell_entry (field l chain e)) b
    → (c : List Token) × LabelSeen l a c
field_label l chain e a b h =
    let u = cut (spell_label l ++ flat_map spell_label chain) (spell e) h in
    let v = cut (spell_label l) (flat_map spell_label chain) u.left in
    (v.middle, label_seen l a v.middle v.left)

name_entry : (i : LabelName) → is_entry (label_kind i) ≡ true
name_entry (names.Plain t) = refl
name_entry (names.Quoted t) = refl

name_no_comma : (i : LabelName) → is_comma (label_kind i) ≡ false
name_no_comma (names.Plain t) = refl
name_no_comma (names.Quoted t) = refl

name_no_clause : (i : LabelName) → (is_name (label_kind i) && false) ≡ false
name_no_clause (names.Plain t) = refl
name_no_clause (names.Quoted t) = refl

label_no_clause : (l : Label) (a b : List Token) → LabelSeen l a b → is_clause a ≡ false
label_no_clause l a b seen =
    ap (λ (z : Bool). z && not (first is_mark (behind a))) (head_first is_name seen.head)
    ∙ ap (λ (z : Bool). is_name (label_kind l.name) && not z) (ap (first is_mark) (head_behind seen.head) ∙ seen.marked)
    ∙ name_no_clause l.name

-- where the reader finds an expression, it finds a field with it
pub field_knows : (l : Label) (chain : List Label) (e : Expression) → Knows e → KnowsEntry (field l chain e)
field_knows l chain e known = record {
  reads = field_reads l chain e known;
  begins = λ a b h. head_first is_entry (field_label l chain e a b h).1.head ∙ name_entry l.name;
  no_comma = λ a b h. head_first is_comma (field_label l chain e a b h).1.head ∙ name_no_comma l.name;
  no_clause = λ a b h. label_no_clause l a _ (field_label l chain e a b h).1;
}

definition_head : (t : List ℕ) (from : ℕ) (chain : List Label) (e : Expression) (a b : List Token) → SpellsTree a (spell_entry (definition t from chain e)) b
    → Headed a (kinds.Definition t) (one (kinds.Mark points.Colon) ++ (flat_map spell_label chain ++ spell e)) b
definition_head t from chain e a b h =
    let pieces = one (kinds.Mark points.Colon) ++ (flat_map spell_label chain ++ spell e) in
    headed (kinds.Definition t) pieces (unplaced from (kinds.Definition t) pieces h)

definition_reads : (t : List ℕ) (from : ℕ) (chain : List Label) (e : Expression) → Knows e → (n : ℕ) (a b : List Token)
    → SpellsTree a (spell_entry (definition t from chain e)) b → EndsExpression b → size_of_entry (definition t from chain e) ≤ n
    → (reader n).entry a ≡ (definition t from chain e, b)
definition_reads t from chain e known zero a b h k s = absurd (omega (arith, s))
definition_reads t from chain e known (suc n) a b h k s =
    let pieces = one (kinds.Mark points.Colon) ++ (flat_map spell_label chain ++ spell e) in
    let u = definition_head t from chain e a b h in
    let v = headed (kinds.Mark points.Colon) (flat_map spell_label chain ++ spell e) u.right in
    let past : behind (behind a) ≡ v.middle = ap behind (head_behind u.head) ∙ head_behind v.head in
    let rest = value_known chain e known n v.middle b v.right k (omega (arith, s)) in
    entry_step n u.head
    ∙ ap (λ (z : ℕ). as_definition t z ((reader n).value (behind (behind a)))) (place_is from (kinds.Definition t) pieces h)
    ∙ ap (λ (z : List Token). as_definition t from ((reader n).value z)) past
    ∙ ap (as_definition t from) rest

-- where the reader finds an expression, it finds a definition with it
pub definition_knows : (t : List ℕ) (from : ℕ) (chain : List Label) (e : Expression) → Knows e → KnowsEntry (definition t from chain e)
definition_knows t from chain e known = record {
  reads = definition_reads t from chain e known;
  begins = λ a b h. head_first is_entry (definition_head t from chain e a b h).head;
  no_comma = λ a b h. head_first is_comma (definition_head t from chain e a b h).head;
  no_clause = λ a b h. ap (λ (z : Bool). z && not (first is_mark (behind a))) (head_first is_name (definition_head t from chain e a b h).head);
}
