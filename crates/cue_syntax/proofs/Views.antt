-- The trees of the program's values, level by level.
use Rattle.std.proofs.Common.{◌≡◌, ◌∙◌, ap, sym, ℕ, Bool, List, Vec, Box, Global}
use Rattle.cue_syntax.specs.declared.tree.Identifier.{Identifier}
use Rattle.cue_syntax.specs.declared.tree.Label.{Label}
use Rattle.cue_syntax.specs.declared.tree.Signed.{Signed}
use Rattle.cue_syntax.specs.declared.tree.Comparison.{Comparison}
use Rattle.cue_syntax.specs.declared.tree.Expr.{Expr}
use Rattle.cue_syntax.specs.declared.tree.Expr.TheVariants as exprs
use Rattle.cue_syntax.specs.declared.tree.Rest as code
use Rattle.cue_syntax.specs.declared.tree.Rest.TheVariants as rests
use Rattle.cue_syntax.specs.declared.tree.Term.{Term}
use Rattle.cue_syntax.specs.declared.tree.Declaration.{Declaration}
use Rattle.cue_syntax.specs.declared.tree.Declaration.TheVariants as declarations
use Rattle.cue_syntax.specs.declared.tree.Declaration.TheOpen.{Expr-F, Rest-F, Declaration-F}
use Rattle.cue_syntax.specs.declared.tree.Declaration.TheFolds.{fold-roll-Expr, fold-roll-Rest, fold-roll-Declaration, fold_out-Term}
use Rattle.cue_syntax.specs.Syntax.{Entry, Expression, Branch, entry_step, expression_step, rest_step, branch_step, expression, entry_tree, rest_of_tree, branch_tree, elements_of_list, branches_of_list, entries, name, integer, text, bottom, bound, other_integer, other_text, parenthesis, struct, close, list, conjunction, disjunction, branch, ellipsis, field, definition, Rest, no_rest, any_rest, each_rest}

-- the tree of an identifier is that of its name and its place
pub view-Name : (n : Identifier) (from : ℕ) → expression (exprs.Name n from) ≡ name n from
view-Name n from = ap expression (sym (exprs.rolls-Name n from)) ∙ fold-roll-Expr Entry Expression Rest Branch entry_step expression_step rest_step branch_step (Expr-F.Name n from)

-- the tree of an integer is that of the integer
pub view-Integer : (n : Signed) → expression (exprs.Integer n) ≡ integer n
view-Integer n = ap expression (sym (exprs.rolls-Integer n)) ∙ fold-roll-Expr Entry Expression Rest Branch entry_step expression_step rest_step branch_step (Expr-F.Integer n)

-- the tree of a string is that of its bytes
pub view-Text : (t : List ℕ) → expression (exprs.Text t) ≡ text t
view-Text t = ap expression (sym (exprs.rolls-Text t)) ∙ fold-roll-Expr Entry Expression Rest Branch entry_step expression_step rest_step branch_step (Expr-F.Text t)

-- the tree of `_|_` is that of `_|_`
pub view-Bottom : expression exprs.Bottom ≡ bottom
view-Bottom = ap expression (sym (exprs.rolls-Bottom)) ∙ fold-roll-Expr Entry Expression Rest Branch entry_step expression_step rest_step branch_step Expr-F.Bottom

-- the tree of a bound is that of its comparison and its integer
pub view-Bound : (c : Comparison) (n : Signed) → expression (exprs.Bound c n) ≡ bound c n
view-Bound c n = ap expression (sym (exprs.rolls-Bound c n)) ∙ fold-roll-Expr Entry Expression Rest Branch entry_step expression_step rest_step branch_step (Expr-F.Bound c n)

-- the tree of `!=` with an integer is that of the integer
pub view-OtherInteger : (n : Signed) → expression (exprs.OtherInteger n) ≡ other_integer n
view-OtherInteger n = ap expression (sym (exprs.rolls-OtherInteger n)) ∙ fold-roll-Expr Entry Expression Rest Branch entry_step expression_step rest_step branch_step (Expr-F.OtherInteger n)

-- the tree of `!=` with a string is that of its bytes
pub view-OtherText : (t : List ℕ) → expression (exprs.OtherText t) ≡ other_text t
view-OtherText t = ap expression (sym (exprs.rolls-OtherText t)) ∙ fold-roll-Expr Entry Expression Rest Branch entry_step expression_step rest_step branch_step (Expr-F.OtherText t)

-- the tree of a parenthesis is that of the tree in it and of its comma
pub view-Parenthesis : (inner : Box Expr Global) (comma : Bool) → expression (exprs.Parenthesis inner comma) ≡ parenthesis (expression inner.value) comma
view-Parenthesis inner comma = ap expression (sym (exprs.rolls-Parenthesis inner comma)) ∙ fold-roll-Expr Entry Expression Rest Branch entry_step expression_step rest_step branch_step (Expr-F.Parenthesis inner comma)

-- the tree of a struct is that of its declarations' trees and of its comma
pub view-Struct : (ds : Vec Declaration Global) (comma : Bool) → expression (exprs.Struct ds comma) ≡ struct (entries ds.items) comma
view-Struct ds comma = ap expression (sym (exprs.rolls-Struct ds comma)) ∙ fold-roll-Expr Entry Expression Rest Branch entry_step expression_step rest_step branch_step (Expr-F.Struct ds comma)

-- the tree of a `close({..})` is that of its place, its declarations' trees and its commas
pub view-Close : (from : ℕ) (ds : Vec Declaration Global) (inner : Bool) (comma : Bool) → expression (exprs.Close from ds inner comma) ≡ close from (entries ds.items) inner comma
view-Close from ds inner comma = ap expression (sym (exprs.rolls-Close from ds inner comma)) ∙ fold-roll-Expr Entry Expression Rest Branch entry_step expression_step rest_step branch_step (Expr-F.Close from ds inner comma)

-- the tree of a list is that of its elements' trees, its `...` and its comma
pub view-List : (es : Vec Expr Global) (tail : code.Rest) (comma : Bool) → expression (exprs.List es tail comma) ≡ list (elements_of_list es.items) (rest_of_tree tail) comma
view-List es tail comma = ap expression (sym (exprs.rolls-List es tail comma)) ∙ fold-roll-Expr Entry Expression Rest Branch entry_step expression_step rest_step branch_step (Expr-F.List es tail comma)

-- no rest is no rest
pub view-Ends : rest_of_tree rests.Ends ≡ no_rest
view-Ends = ap rest_of_tree (sym rests.rolls-Ends) ∙ fold-roll-Rest Entry Expression Rest Branch entry_step expression_step rest_step branch_step Rest-F.Ends

-- the tree of the `...` of a list is that of `...`
pub view-GoesOn : rest_of_tree rests.GoesOn ≡ any_rest
view-GoesOn = ap rest_of_tree (sym rests.rolls-GoesOn) ∙ fold-roll-Rest Entry Expression Rest Branch entry_step expression_step rest_step branch_step Rest-F.GoesOn

-- the tree of `...` and an expression is that of the expression's tree
pub view-Each : (e : Box Expr Global) → rest_of_tree (rests.Each e) ≡ each_rest (expression e.value)
view-Each e = ap rest_of_tree (sym (rests.rolls-Each e)) ∙ fold-roll-Rest Entry Expression Rest Branch entry_step expression_step rest_step branch_step (Rest-F.Each e)

-- the tree of a conjunction is that of its parts' trees
pub view-Conjunction : (es : Vec Expr Global) → expression (exprs.Conjunction es) ≡ conjunction (elements_of_list es.items)
view-Conjunction es = ap expression (sym (exprs.rolls-Conjunction es)) ∙ fold-roll-Expr Entry Expression Rest Branch entry_step expression_step rest_step branch_step (Expr-F.Conjunction es)

-- the tree of a disjunction is that of its terms' trees
pub view-Disjunction : (ts : Vec Term Global) → expression (exprs.Disjunction ts) ≡ disjunction (branches_of_list ts.items)
view-Disjunction ts = ap expression (sym (exprs.rolls-Disjunction ts)) ∙ fold-roll-Expr Entry Expression Rest Branch entry_step expression_step rest_step branch_step (Expr-F.Disjunction ts)

-- the tree of `...` is that of `...`
pub view-Ellipsis : entry_tree declarations.Ellipsis ≡ ellipsis
view-Ellipsis = ap entry_tree (sym declarations.rolls-Ellipsis) ∙ fold-roll-Declaration Entry Expression Rest Branch entry_step expression_step rest_step branch_step Declaration-F.Ellipsis

-- the tree of a field is that of its labels and its expression's tree
pub view-Field : (l : Label) (chain : Vec Label Global) (e : Expr) → entry_tree (declarations.Field l chain e) ≡ field l chain.items (expression e)
view-Field l chain e = ap entry_tree (sym (declarations.rolls-Field l chain e)) ∙ fold-roll-Declaration Entry Expression Rest Branch entry_step expression_step rest_step branch_step (Declaration-F.Field l chain e)

-- the tree of a definition is that of its name, its place, its labels and its expression's tree
pub view-Definition : (t : List ℕ) (from : ℕ) (chain : Vec Label Global) (e : Expr) → entry_tree (declarations.Definition t from chain e) ≡ definition t from chain.items (expression e)
view-Definition t from chain e = ap entry_tree (sym (declarations.rolls-Definition t from chain e)) ∙ fold-roll-Declaration Entry Expression Rest Branch entry_step expression_step rest_step branch_step (Declaration-F.Definition t from chain e)

-- the tree of a term is that of its mark, its place and its expression's tree
pub view-term : (t : Term) → branch_tree t ≡ branch t.marked t.from (expression t.value)
view-term t = fold_out-Term Entry Expression Rest Branch entry_step expression_step rest_step branch_step t
