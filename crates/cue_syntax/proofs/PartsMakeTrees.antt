-- What is read by the parts of a tree is read by the tree.
use Rattle.std.proofs.Common.{◌≡◌, ap, sym, subst, ℕ, ◌+◌, ◌≤◌, ◌<◌, ◌⊎◌, ⊎_elim, Bool, true, false, List, [], ◌∷◌, ◌++◌, length, flat_map, append_assoc, append-nil, arith, codes}
use Rattle.std.proofs.lemmas.List.{length_push}
use Rattle.cue_lex.specs.declared.token.Token.{Token}
use Rattle.cue_lex.specs.declared.token.TokenKind.TheVariants as kinds
use Rattle.cue_lex.specs.declared.punctuation.Punctuation.TheVariants as points
use Rattle.cue_syntax.specs.declared.tree.Label.{Label}
use Rattle.cue_syntax.specs.declared.tree.Expr.{Expr}
use Rattle.cue_syntax.specs.declared.tree.Term.{Term}
use Rattle.cue_syntax.specs.declared.tree.Declaration.{Declaration}
use Rattle.cue_syntax.specs.Spelling.{SpelledPiece, SpellsTree, Follows, IsTokenPlace, one, one_at, place_first, comma_if, star_if, spell, spell_label, spell_elements, spell_dots, spell_rest, spell_branch, spell_branches, spell_entry, spell_entries}
use Rattle.cue_syntax.specs.Grammar.{IsRightRest, AreRight, IsUnary, IsTerm, AreUnary, TwoElements, TwoBranches, AreRightBranches, AreNested, EndsEntries, EndsElements, levels_of_elements, levels_of_rest, levels_of_branches, IsExpression, IsLiteral, AreEntries}
use Rattle.cue_syntax.specs.Inner.Grammar.{IsTermOf, IsEntry, AreElementTokens, AreBraced}
use Rattle.cue_syntax.specs.Inner.Grammar.{IsRestOf}
use Rattle.cue_syntax.specs.Syntax.{Expression, Elements, no_elements, element, Entries, parenthesis, struct, close, list, conjunction, disjunction, branch, field, definition, expression, branch_tree, entry_tree, elements_of_list, branches_of_list, entries, Rest, no_rest, any_rest, each_rest}
use Rattle.cue_syntax.proofs.ReadingsJoin.{reads_then, reads_none, reads_placed}
use Rattle.cue_syntax.proofs.RowsGrow.{reads_same, elements_pushed, right_pushed, unary_pushed, levels_pushed, branches_pushed, right_branches_pushed, levels_branches_pushed, entries_pushed, right_entries_pushed, levels_entries_pushed}

-- an expression that holds no other is one within any number of levels
pub literal_is : {room : ℕ} {a b : List Token} {e : Expression} → IsLiteral a e b → IsExpression room a e b
literal_is l = record { reads = l.reads; right = l.right; levels = omega (arith, l.levels) }

-- an expression in parentheses is one, and opens one level more
pub parenthesis_is : {room left : ℕ} {a b c d f : List Token} {e : Expression} {comma : Bool} → left + 1 ≡ room
    → SpellsTree a (one (kinds.Mark points.OpenParenthesis)) b → IsExpression left b e c → SpellsTree c (comma_if comma) d → SpellsTree d (one (kinds.Mark points.CloseParenthesis)) f
    → IsExpression room a (parenthesis e comma) f
parenthesis_is is first inner third fourth = record {
  reads = reads_then (reads_then (reads_then first inner.reads) third) fourth;
  right = inner.right;
  levels = omega (arith, is, inner.levels);
}

-- declarations that may stand in braces, and the closing brace, are braced ones
pub braced_is : {room : ℕ} {b c d : List Token} {es : Entries} {comma : Bool}
    → AreEntries room b es comma c → AreNested es → SpellsTree c (one (kinds.Mark points.CloseBrace)) d
    → AreBraced room b es comma d
braced_is inner nested third = record {
  reads = reads_then inner.reads third;
  right = inner.right;
  nested = nested;
  ends = inner.ends;
  levels = inner.levels;
}

-- a brace and then braced declarations are an expression, which opens one level more
pub struct_is : {room left : ℕ} {a b c : List Token} {es : Entries} {comma : Bool} → left + 1 ≡ room → SpellsTree a (one (kinds.Mark points.OpenBrace)) b → AreBraced left b es comma c
    → IsExpression room a (struct es comma) c
struct_is is first inner = record {
  reads = reads_then first inner.reads;
  right = (inner.right, inner.nested, inner.ends);
  levels = omega (arith, is, inner.levels);
}

-- braced declarations in `close(..)` are an expression, which opens two levels more
pub close_is : {room left last from : ℕ} {a b c d f g h : List Token} {es : Entries} {inner comma : Bool} → left + 1 ≡ room → last + 1 ≡ left
    → SpellsTree a (one_at from (kinds.Name (codes "close"))) b → SpellsTree b (one (kinds.Mark points.OpenParenthesis)) c → SpellsTree c (one (kinds.Mark points.OpenBrace)) d → AreBraced last d es inner f
    → SpellsTree f (comma_if comma) g → SpellsTree g (one (kinds.Mark points.CloseParenthesis)) h
    → IsExpression room a (close from es inner comma) h
close_is is more first second brace third fourth fifth = record {
  reads = reads_then (reads_then (reads_then (reads_then first second) (reads_then brace third.reads)) fourth) fifth;
  right = (third.right, third.nested, third.ends);
  levels = omega (arith, is, more, third.levels);
}

-- elements in brackets are an expression, which opens one level more
pub list_is : {room left : ℕ} {a b c d : List Token} {es : Elements} {comma : Bool} → left + 1 ≡ room
    → SpellsTree a (one (kinds.Mark points.OpenBracket)) b → AreElementTokens left b es comma c → SpellsTree c (one (kinds.Mark points.CloseBracket)) d
    → IsExpression room a (list es no_rest comma) d
list_is {a = a} {d = d} {es = es} {comma = comma} is first second third = record {
  reads = reads_same
      (ap (λ z. ((one (kinds.Mark points.OpenBracket) ++ z) ++ comma_if comma) ++ one (kinds.Mark points.CloseBracket)) (sym (append-nil (spell_elements (kinds.Mark points.Comma) es))))
      (reads_then (reads_then first second.reads) third);
  right = (second.right, tt, second.ends);
  levels = omega (arith, is, second.levels);
}

-- elements after which `...` may stand
dots_read : {left : ℕ} {b c d : List Token} (es : Elements) (comma : Bool) → AreElementTokens left b es comma c → (comma ≡ true) ⊎ (es ≡ no_elements)
    → SpellsTree c (one (kinds.Mark points.Ellipsis)) d → SpellsTree b (spell_elements (kinds.Mark points.Comma) es ++ spell_dots es) d
dots_read no_elements false inner which second = reads_then inner.reads second
dots_read no_elements true inner which second = absurd inner.ends
dots_read (element e es) true inner which second =
    reads_same (append_assoc (spell_elements (kinds.Mark points.Comma) (element e es)) (one (kinds.Mark points.Comma)) (one (kinds.Mark points.Ellipsis))) (reads_then inner.reads second)
dots_read (element e es) false inner which second = absurd (⊎_elim (λ (w : false ≡ true). cc) (λ (w : element e es ≡ no_elements). cc) which)

-- elements and their rest, after which a comma may stand
record HasRest (room : ℕ) (b : List Token) (es : Elements) (tail : Rest) (d : List Token) : Type 0 where
  pub reads : SpellsTree b (spell_elements (kinds.Mark points.Comma) es ++ spell_rest es tail) d
  pub right : IsRightRest tail
  pub ends : (comma : Bool) → EndsElements comma tail es
  pub levels : levels_of_rest tail ≤ room

ends_any : (es : Elements) (comma : Bool) → EndsElements comma any_rest es
ends_any no_elements true = tt
ends_any (element e es) true = tt
ends_any es false = tt

ends_each : (e : Expression) (es : Elements) (comma : Bool) → EndsElements comma (each_rest e) es
ends_each e no_elements true = tt
ends_each e (element f es) true = tt
ends_each e es false = tt

has_rest : {room : ℕ} {b c d : List Token} (es : Elements) (tail : Rest) → SpellsTree b (spell_elements (kinds.Mark points.Comma) es ++ spell_dots es) c → IsRestOf room c tail d → HasRest room b es tail d
has_rest es no_rest first second = absurd second
has_rest {b = b} es any_rest first second = record {
  reads = subst (λ z. SpellsTree b (spell_elements (kinds.Mark points.Comma) es ++ spell_dots es) z) second first;
  right = tt;
  ends = ends_any es;
  levels = omega arith;
}
has_rest es (each_rest e) first second = record {
  reads = reads_same (append_assoc (spell_elements (kinds.Mark points.Comma) es) (spell_dots es) (spell e)) (reads_then first second.reads);
  right = second.right;
  ends = ends_each e es;
  levels = second.levels;
}

-- elements, `...` and what follows it, in brackets, are an expression, which opens one level more
pub open_list_is : {room left : ℕ} {a b c d e f g : List Token} {es : Elements} {comma last : Bool} (tail : Rest) → left + 1 ≡ room
    → SpellsTree a (one (kinds.Mark points.OpenBracket)) b → AreElementTokens left b es comma c → (comma ≡ true) ⊎ (es ≡ no_elements)
    → SpellsTree c (one (kinds.Mark points.Ellipsis)) d → IsRestOf left d tail e → SpellsTree e (comma_if last) f → SpellsTree f (one (kinds.Mark points.CloseBracket)) g
    → IsExpression room a (list es tail last) g
open_list_is {es = es} {comma = comma} {last = last} tail is first second which third fourth fifth sixth =
    let row = has_rest es tail (dots_read es comma second which third) fourth in
    record {
      reads = reads_same
          (ap (λ z. (z ++ comma_if last) ++ one (kinds.Mark points.CloseBracket)) (sym (append_assoc (one (kinds.Mark points.OpenBracket)) (spell_elements (kinds.Mark points.Comma) es) (spell_rest es tail))))
          (reads_then (reads_then (reads_then first row.reads) fifth) sixth);
      right = (second.right, row.right, row.ends last);
      levels = omega (arith, is, second.levels, row.levels);
    }

-- a label, further labels and an expression are a field, which opens a level for each further label
pub field_is : {room left : ℕ} {a b c d : List Token} {l : Label} {chain : List Label} {e : Expression} → left + length chain ≡ room
    → SpellsTree a (spell_label l) b → SpellsTree b (flat_map spell_label chain) c → IsExpression left c e d
    → IsEntry room a (field l chain e) d
field_is is first second third = record {
  reads = reads_then (reads_then first second) third.reads;
  right = third.right;
  levels = omega (arith, is, third.levels);
}

-- a definition's name, a colon, labels and an expression are a declaration, with a level for each label
pub definition_is : {room left from : ℕ} {a b c d f : List Token} {t : List ℕ} {chain : List Label} {e : Expression} → left + length chain ≡ room
    → SpellsTree a (one_at from (kinds.Definition t)) b → SpellsTree b (one (kinds.Mark points.Colon)) c → SpellsTree c (flat_map spell_label chain) d → IsExpression left d e f
    → IsEntry room a (definition t from chain e) f
definition_is is first second third fourth = record {
  reads = reads_then (reads_then (reads_then first second) third) fourth.reads;
  right = fourth.right;
  levels = omega (arith, is, fourth.levels);
}

-- what a row of terms keeps while it grows: a sign stands after its last
pub record AreTerms (room : ℕ) (a : List Token) (ts : List Term) (b : List Token) : Type 0 where
  pub reads : SpellsTree a (spell_branches (branches_of_list ts) ++ one (kinds.Mark points.Bar)) b
  pub right : AreRightBranches (branches_of_list ts)
  pub levels : levels_of_branches (branches_of_list ts) ≤ room
  pub some : 0 < length ts

-- two terms or more, with no sign after the last
pub record AreAllTerms (room : ℕ) (a : List Token) (ts : List Term) (b : List Token) : Type 0 where
  pub reads : SpellsTree a (spell_branches (branches_of_list ts)) b
  pub right : AreRightBranches (branches_of_list ts)
  pub levels : levels_of_branches (branches_of_list ts) ≤ room
  pub some : 0 < length ts
  pub two : TwoBranches (branches_of_list ts)

two_branches : (y : Term) (ys : List Term) (x : Term) → TwoBranches (branches_of_list ((y ∷ ys) ++ x ∷ []))
two_branches y [] x = tt
two_branches y (z ∷ zs) x = tt

-- a term with `|` after it is a row of one term
pub terms_first : {room : ℕ} {a b c : List Token} (t : Term) → IsTermOf room a (branch_tree t) b → SpellsTree b (one (kinds.Mark points.Bar)) c → AreTerms room a (t ∷ []) c
terms_first t first second = record {
  reads = reads_then (reads_same (sym (append-nil (spell_branch (branch_tree t)))) first.reads) second;
  right = (first.right, tt);
  levels = omega (arith, first.levels);
  some = omega arith;
}

-- a row of terms and one more are two terms or more
pub terms_next : {room : ℕ} {a b c : List Token} (ts : List Term) (t : Term) → AreTerms room a ts b → IsTermOf room b (branch_tree t) c → AreAllTerms room a (ts ++ t ∷ []) c
terms_next [] t first second = absurd (let h : 0 < 0 = first.some in omega arith)
terms_next (y ∷ ys) t first second = record {
  reads = reads_same (branches_pushed y ys t) (reads_then first.reads second.reads);
  right = right_branches_pushed (y ∷ ys) t first.right second.right;
  levels = levels_branches_pushed _ (y ∷ ys) t first.levels second.levels;
  some = omega arith;
  two = two_branches y ys t;
}

-- two terms or more with `|` after them are a row of terms
pub terms_more : {room : ℕ} {a b c : List Token} {ts : List Term} → AreAllTerms room a ts b → SpellsTree b (one (kinds.Mark points.Bar)) c → AreTerms room a ts c
terms_more first second = record { reads = reads_then first.reads second; right = first.right; levels = first.levels; some = first.some }

-- two terms or more are a disjunction
pub disjunction_is : {room : ℕ} {a b : List Token} {ts : List Term} → AreAllTerms room a ts b → IsExpression room a (disjunction (branches_of_list ts)) b
disjunction_is all = record { reads = all.reads; right = (all.right, all.two); levels = all.levels }

-- the parts of a conjunction likewise
pub record AreParts (room : ℕ) (a : List Token) (es : List Expr) (b : List Token) : Type 0 where
  pub reads : SpellsTree a (spell_elements (kinds.Mark points.Ampersand) (elements_of_list es) ++ one (kinds.Mark points.Ampersand)) b
  pub right : AreRight (elements_of_list es)
  pub unary : AreUnary (elements_of_list es)
  pub levels : levels_of_elements (elements_of_list es) ≤ room
  pub some : 0 < length es

-- two parts or more, with no sign after the last
pub record AreAllParts (room : ℕ) (a : List Token) (es : List Expr) (b : List Token) : Type 0 where
  pub reads : SpellsTree a (spell_elements (kinds.Mark points.Ampersand) (elements_of_list es)) b
  pub right : AreRight (elements_of_list es)
  pub unary : AreUnary (elements_of_list es)
  pub levels : levels_of_elements (elements_of_list es) ≤ room
  pub some : 0 < length es
  pub two : TwoElements (elements_of_list es)

two_elements : (y : Expr) (ys : List Expr) (x : Expr) → TwoElements (elements_of_list ((y ∷ ys) ++ x ∷ []))
two_elements y [] x = tt
two_elements y (z ∷ zs) x = tt

-- an operand or a bound with `&` after it is a row of one part
pub parts_first : {room : ℕ} {a b c : List Token} (e : Expr) → IsExpression room a (expression e) b → IsUnary (expression e) → SpellsTree b (one (kinds.Mark points.Ampersand)) c
    → AreParts room a (e ∷ []) c
parts_first e first unary second = record {
  reads = reads_then (reads_same (sym (append-nil (spell (expression e)))) first.reads) second;
  right = (first.right, tt);
  unary = (unary, tt);
  levels = omega (arith, first.levels);
  some = omega arith;
}

-- a row of parts and one more are two parts or more
pub parts_next : {room : ℕ} {a b c : List Token} (es : List Expr) (e : Expr) → AreParts room a es b → IsExpression room b (expression e) c → IsUnary (expression e)
    → AreAllParts room a (es ++ e ∷ []) c
parts_next [] e first second unary = absurd (let h : 0 < 0 = first.some in omega arith)
parts_next (y ∷ ys) e first second unary = record {
  reads = reads_same (elements_pushed (kinds.Mark points.Ampersand) y ys e) (reads_then first.reads second.reads);
  right = right_pushed (y ∷ ys) e first.right second.right;
  unary = unary_pushed (y ∷ ys) e first.unary unary;
  levels = levels_pushed _ (y ∷ ys) e first.levels second.levels;
  some = omega arith;
  two = two_elements y ys e;
}

-- two parts or more with `&` after them are a row of parts
pub parts_more : {room : ℕ} {a b c : List Token} {es : List Expr} → AreAllParts room a es b → SpellsTree b (one (kinds.Mark points.Ampersand)) c → AreParts room a es c
parts_more first second = record { reads = reads_then first.reads second; right = first.right; unary = first.unary; levels = first.levels; some = first.some }

-- two parts or more are a conjunction
pub conjunction_is : {room : ℕ} {a b : List Token} {es : List Expr} → AreAllParts room a es b → IsExpression room a (conjunction (elements_of_list es)) b
conjunction_is all = record { reads = all.reads; right = (all.right, all.unary, all.two); levels = all.levels }

-- a comma stands exactly after something
abbrev pub Between : {A : Type 0} → Bool → List A → Type 0
Between true xs = 0 < length xs
Between false xs = xs ≡ []

-- after one item more a comma stands after something
pub between_pushed : {A : Type 0} (comma : Bool) (xs : List A) (x : A) → comma ≡ true → Between comma (xs ++ x ∷ [])
between_pushed comma xs x is = subst (λ b. Between b (xs ++ x ∷ [])) (sym is) (let h : 0 < length (xs ++ x ∷ []) = omega (arith, length_push xs x) in h)

ends_after : (comma : Bool) (xs : List Expr) (x : Expr) → EndsElements comma no_rest (elements_of_list (xs ++ x ∷ []))
ends_after true [] x = tt
ends_after true (y ∷ ys) x = tt
ends_after false [] x = tt
ends_after false (y ∷ ys) x = tt

element_reads : {room : ℕ} {a b c : List Token} (xs : List Expr) (comma : Bool) (x : Expr) → AreElementTokens room a (elements_of_list xs) comma b → Between comma xs
    → IsExpression room b (expression x) c → SpellsTree a (spell_elements (kinds.Mark points.Comma) (elements_of_list (xs ++ x ∷ []))) c
element_reads [] true x first between second = absurd (let h : 0 < 0 = between in omega arith)
element_reads [] false x first between second = reads_same (sym (append-nil (spell (expression x)))) (reads_then first.reads second.reads)
element_reads (y ∷ ys) true x first between second = reads_same (elements_pushed (kinds.Mark points.Comma) y ys x) (reads_then first.reads second.reads)
element_reads (y ∷ ys) false x first between second = absurd (let e : (y ∷ ys) ≡ [] = between in cc)

-- elements grow by one, where a comma stands after those before it
pub elements_next : {room : ℕ} {a b c d : List Token} (xs : List Expr) (comma : Bool) (x : Expr) (then : Bool) → AreElementTokens room a (elements_of_list xs) comma b
    → Between comma xs → IsExpression room b (expression x) c → SpellsTree c (comma_if then) d → AreElementTokens room a (elements_of_list (xs ++ x ∷ [])) then d
elements_next xs comma x then first between second third = record {
  reads = reads_then (element_reads xs comma x first between second) third;
  right = right_pushed xs x first.right second.right;
  ends = ends_after then xs x;
  levels = levels_pushed _ xs x first.levels second.levels;
}

-- no tokens are no elements
pub elements_none : {room : ℕ} {a : List Token} → AreElementTokens room a (elements_of_list []) false a
elements_none = record { reads = reads_none; right = tt; ends = tt; levels = omega arith }

ends_entries_after : (comma : Bool) (xs : List Declaration) (x : Declaration) → EndsEntries comma (entries (xs ++ x ∷ []))
ends_entries_after true [] x = tt
ends_entries_after true (y ∷ ys) x = tt
ends_entries_after false [] x = tt
ends_entries_after false (y ∷ ys) x = tt

entry_reads : {room : ℕ} {a b c : List Token} (xs : List Declaration) (comma : Bool) (x : Declaration) → AreEntries room a (entries xs) comma b → Between comma xs
    → IsEntry room b (entry_tree x) c → SpellsTree a (spell_entries (entries (xs ++ x ∷ []))) c
entry_reads [] true x first between second = absurd (let h : 0 < 0 = between in omega arith)
entry_reads [] false x first between second = reads_same (sym (append-nil (spell_entry (entry_tree x)))) (reads_then first.reads second.reads)
entry_reads (y ∷ ys) true x first between second = reads_same (entries_pushed y ys x) (reads_then first.reads second.reads)
entry_reads (y ∷ ys) false x first between second = absurd (let e : (y ∷ ys) ≡ [] = between in cc)

-- declarations grow by one, where a comma stands after those before it
pub entries_next : {room : ℕ} {a b c d : List Token} (xs : List Declaration) (comma : Bool) (x : Declaration) (then : Bool) → AreEntries room a (entries xs) comma b
    → Between comma xs → IsEntry room b (entry_tree x) c → SpellsTree c (comma_if then) d → AreEntries room a (entries (xs ++ x ∷ [])) then d
entries_next xs comma x then first between second third = record {
  reads = reads_then (entry_reads xs comma x first between second) third;
  right = right_entries_pushed xs x first.right second.right;
  ends = ends_entries_after then xs x;
  levels = levels_entries_pushed _ xs x first.levels second.levels;
}

-- no tokens are no declarations
pub entries_none : {room : ℕ} {a : List Token} → AreEntries room a (entries []) false a
entries_none = record { reads = reads_none; right = tt; ends = tt; levels = omega arith }

follows_unplaced : (a b : List Token) (p : List SpelledPiece) (from : ℕ) → Follows a (place_first from p) b → Follows a p b
follows_unplaced a b [] from follows = follows
follows_unplaced [] b (x ∷ p) from follows = follows
follows_unplaced (t ∷ a) b (x ∷ p) from follows = (follows.0, follows.1.1, follows.2)

-- a term without a mark is an expression
pub unmarked_is : {room from : ℕ} {a b : List Token} {e : Expression} → IsTermOf room a (branch false from e) b → IsExpression room a e b
unmarked_is {from = from} t = record {
  reads = record { follows = follows_unplaced _ _ _ from t.reads.follows };
  right = t.right.0;
  levels = t.levels;
}

-- an expression, with a star before it where it is marked, is a term
pub term_is : {room : ℕ} {a b c : List Token} {e : Expression} (marked : Bool) (from : ℕ) → SpellsTree a (star_if marked) b → IsTokenPlace b from → IsExpression room b e c → IsTerm marked e
    → IsTermOf room a (branch marked from e) c
term_is marked from first place second fits = record {
  reads = reads_then first (reads_placed from place second.reads);
  right = (second.right, fits);
  levels = second.levels;
}
