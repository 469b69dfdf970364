-- Rows that grow at their end.
use Rattle.std.proofs.Common.{◌≡◌, ◌∙◌, ap, sym, subst, ℕ, ◌≤◌, List, [], ◌∷◌, ◌++◌, flat_map, append_assoc, append-nil, arith}
use Rattle.cue_lex.specs.declared.token.Token.{Token}
use Rattle.cue_lex.specs.declared.token.TokenKind.{TokenKind}
use Rattle.cue_lex.specs.declared.token.TokenKind.TheVariants as kinds
use Rattle.cue_lex.specs.declared.punctuation.Punctuation.TheVariants as points
use Rattle.cue_syntax.specs.declared.tree.Label.{Label}
use Rattle.cue_syntax.specs.declared.tree.Expr.{Expr}
use Rattle.cue_syntax.specs.declared.tree.Term.{Term}
use Rattle.cue_syntax.specs.declared.tree.Declaration.{Declaration}
use Rattle.cue_syntax.specs.Spelling.{SpelledPiece, SpellsTree, one, spell, spell_label, spell_elements, spell_more_elements, spell_branch, spell_branches, spell_more_branches, spell_entry, spell_entries, spell_more_entries}
use Rattle.cue_syntax.specs.Grammar.{IsRight, AreRight, IsUnary, AreUnary, IsRightBranch, AreRightBranches, IsRightEntry, AreRightEntries, IsNested, AreNested, levels, levels_of_elements, levels_of_branch, levels_of_branches, levels_of_entry, levels_of_entries}
use Rattle.cue_syntax.specs.Syntax.{expression, branch_tree, entry_tree, elements_of_list, branches_of_list, entries}
use Rattle.cue_syntax.proofs.ReadingsJoin.{reads_then}

-- equal pieces are read from the same tokens
pub reads_same : {a b : List Token} {p q : List SpelledPiece} → p ≡ q → SpellsTree a p b → SpellsTree a q b
reads_same {a = a} {b = b} is reads = subst (λ z. SpellsTree a z b) is reads

-- labels
labels_pushed : (xs : List Label) (x : Label) → flat_map spell_label xs ++ spell_label x ≡ flat_map spell_label (xs ++ x ∷ [])
labels_pushed [] x = sym (append-nil (spell_label x))
labels_pushed (y ∷ ys) x = append_assoc (spell_label y) (flat_map spell_label ys) (spell_label x) ∙ ap (λ z. spell_label y ++ z) (labels_pushed ys x)

-- labels and then one more are read as a chain that is longer by one
pub labels_push : {a b c : List Token} (xs : List Label) (x : Label) → SpellsTree a (flat_map spell_label xs) b → SpellsTree b (spell_label x) c → SpellsTree a (flat_map spell_label (xs ++ x ∷ [])) c
labels_push xs x first second = reads_same (labels_pushed xs x) (reads_then first second)

-- elements
more_elements_pushed : (sign : TokenKind) (xs : List Expr) (x : Expr)
    → spell_more_elements sign (elements_of_list xs) ++ (one sign ++ spell (expression x)) ≡ spell_more_elements sign (elements_of_list (xs ++ x ∷ []))
more_elements_pushed sign [] x = sym (append-nil (one sign ++ spell (expression x)))
more_elements_pushed sign (y ∷ ys) x =
    append_assoc (one sign ++ spell (expression y)) (spell_more_elements sign (elements_of_list ys)) (one sign ++ spell (expression x))
    ∙ ap (λ z. (one sign ++ spell (expression y)) ++ z) (more_elements_pushed sign ys x)

-- elements, a sign and one more are spelled as the row that is longer by one
pub elements_pushed : (sign : TokenKind) (y : Expr) (ys : List Expr) (x : Expr)
    → (spell_elements sign (elements_of_list (y ∷ ys)) ++ one sign) ++ spell (expression x) ≡ spell_elements sign (elements_of_list ((y ∷ ys) ++ x ∷ []))
elements_pushed sign y ys x =
    append_assoc (spell_elements sign (elements_of_list (y ∷ ys))) (one sign) (spell (expression x))
    ∙ append_assoc (spell (expression y)) (spell_more_elements sign (elements_of_list ys)) (one sign ++ spell (expression x))
    ∙ ap (λ z. spell (expression y) ++ z) (more_elements_pushed sign ys x)

-- elements that follow the grammar do so with one more that does
pub right_pushed : (xs : List Expr) (x : Expr) → AreRight (elements_of_list xs) → IsRight (expression x) → AreRight (elements_of_list (xs ++ x ∷ []))
right_pushed [] x all last = (last, tt)
right_pushed (y ∷ ys) x all last = (all.0, right_pushed ys x all.1 last)

-- where no element is a conjunction or a disjunction, none is with one more that isn't
pub unary_pushed : (xs : List Expr) (x : Expr) → AreUnary (elements_of_list xs) → IsUnary (expression x) → AreUnary (elements_of_list (xs ++ x ∷ []))
unary_pushed [] x all last = (last, tt)
unary_pushed (y ∷ ys) x all last = (all.0, unary_pushed ys x all.1 last)

-- elements that keep within some levels do so with one more that does
pub levels_pushed : (room : ℕ) (xs : List Expr) (x : Expr) → levels_of_elements (elements_of_list xs) ≤ room → levels (expression x) ≤ room → levels_of_elements (elements_of_list (xs ++ x ∷ [])) ≤ room
levels_pushed room [] x all last = omega arith
levels_pushed room (y ∷ ys) x all last = let inner : levels_of_elements (elements_of_list (ys ++ x ∷ [])) ≤ room = levels_pushed room ys x (omega arith) last in omega arith

-- terms
more_branches_pushed : (xs : List Term) (x : Term)
    → spell_more_branches (branches_of_list xs) ++ (one (kinds.Mark points.Bar) ++ spell_branch (branch_tree x)) ≡ spell_more_branches (branches_of_list (xs ++ x ∷ []))
more_branches_pushed [] x = sym (append-nil (one (kinds.Mark points.Bar) ++ spell_branch (branch_tree x)))
more_branches_pushed (y ∷ ys) x =
    append_assoc (one (kinds.Mark points.Bar) ++ spell_branch (branch_tree y)) (spell_more_branches (branches_of_list ys)) (one (kinds.Mark points.Bar) ++ spell_branch (branch_tree x))
    ∙ ap (λ z. (one (kinds.Mark points.Bar) ++ spell_branch (branch_tree y)) ++ z) (more_branches_pushed ys x)

-- terms, `|` and one more are spelled as the row that is longer by one
pub branches_pushed : (y : Term) (ys : List Term) (x : Term)
    → (spell_branches (branches_of_list (y ∷ ys)) ++ one (kinds.Mark points.Bar)) ++ spell_branch (branch_tree x) ≡ spell_branches (branches_of_list ((y ∷ ys) ++ x ∷ []))
branches_pushed y ys x =
    append_assoc (spell_branches (branches_of_list (y ∷ ys))) (one (kinds.Mark points.Bar)) (spell_branch (branch_tree x))
    ∙ append_assoc (spell_branch (branch_tree y)) (spell_more_branches (branches_of_list ys)) (one (kinds.Mark points.Bar) ++ spell_branch (branch_tree x))
    ∙ ap (λ z. spell_branch (branch_tree y) ++ z) (more_branches_pushed ys x)

-- terms that follow the grammar do so with one more that does
pub right_branches_pushed : (xs : List Term) (x : Term) → AreRightBranches (branches_of_list xs) → IsRightBranch (branch_tree x) → AreRightBranches (branches_of_list (xs ++ x ∷ []))
right_branches_pushed [] x all last = (last, tt)
right_branches_pushed (y ∷ ys) x all last = (all.0, right_branches_pushed ys x all.1 last)

-- terms that keep within some levels do so with one more that does
pub levels_branches_pushed : (room : ℕ) (xs : List Term) (x : Term) → levels_of_branches (branches_of_list xs) ≤ room → levels_of_branch (branch_tree x) ≤ room
    → levels_of_branches (branches_of_list (xs ++ x ∷ [])) ≤ room
levels_branches_pushed room [] x all last = omega arith
levels_branches_pushed room (y ∷ ys) x all last = let inner : levels_of_branches (branches_of_list (ys ++ x ∷ [])) ≤ room = levels_branches_pushed room ys x (omega arith) last in omega arith

-- declarations
more_entries_pushed : (xs : List Declaration) (x : Declaration)
    → spell_more_entries (entries xs) ++ (one (kinds.Mark points.Comma) ++ spell_entry (entry_tree x)) ≡ spell_more_entries (entries (xs ++ x ∷ []))
more_entries_pushed [] x = sym (append-nil (one (kinds.Mark points.Comma) ++ spell_entry (entry_tree x)))
more_entries_pushed (y ∷ ys) x =
    append_assoc (one (kinds.Mark points.Comma) ++ spell_entry (entry_tree y)) (spell_more_entries (entries ys)) (one (kinds.Mark points.Comma) ++ spell_entry (entry_tree x))
    ∙ ap (λ z. (one (kinds.Mark points.Comma) ++ spell_entry (entry_tree y)) ++ z) (more_entries_pushed ys x)

-- declarations, a comma and one more are spelled as the row that is longer by one
pub entries_pushed : (y : Declaration) (ys : List Declaration) (x : Declaration)
    → (spell_entries (entries (y ∷ ys)) ++ one (kinds.Mark points.Comma)) ++ spell_entry (entry_tree x) ≡ spell_entries (entries ((y ∷ ys) ++ x ∷ []))
entries_pushed y ys x =
    append_assoc (spell_entries (entries (y ∷ ys))) (one (kinds.Mark points.Comma)) (spell_entry (entry_tree x))
    ∙ append_assoc (spell_entry (entry_tree y)) (spell_more_entries (entries ys)) (one (kinds.Mark points.Comma) ++ spell_entry (entry_tree x))
    ∙ ap (λ z. spell_entry (entry_tree y) ++ z) (more_entries_pushed ys x)

-- declarations that follow the grammar do so with one more that does
pub right_entries_pushed : (xs : List Declaration) (x : Declaration) → AreRightEntries (entries xs) → IsRightEntry (entry_tree x) → AreRightEntries (entries (xs ++ x ∷ []))
right_entries_pushed [] x all last = (last, tt)
right_entries_pushed (y ∷ ys) x all last = (all.0, right_entries_pushed ys x all.1 last)

-- declarations that may stand in braces may do so with one more that may
pub nested_pushed : (xs : List Declaration) (x : Declaration) → AreNested (entries xs) → IsNested (entry_tree x) → AreNested (entries (xs ++ x ∷ []))
nested_pushed [] x all last = (last, tt)
nested_pushed (y ∷ ys) x all last = (all.0, nested_pushed ys x all.1 last)

-- declarations that keep within some levels do so with one more that does
pub levels_entries_pushed : (room : ℕ) (xs : List Declaration) (x : Declaration) → levels_of_entries (entries xs) ≤ room → levels_of_entry (entry_tree x) ≤ room
    → levels_of_entries (entries (xs ++ x ∷ [])) ≤ room
levels_entries_pushed room [] x all last = omega arith
levels_entries_pushed room (y ∷ ys) x all last = let inner : levels_of_entries (entries (ys ++ x ∷ [])) ≤ room = levels_entries_pushed room ys x (omega arith) last in omega arith
