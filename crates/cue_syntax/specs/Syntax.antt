-- Syntax trees, as the grammar speaks of them, and the tree that a value of the program is.
use Rattle.std.specs.Prelude.{ℕ, Bool, List, [], ◌∷◌, map, Option}
use Rattle.cue_syntax.specs.declared.tree.Identifier.{Identifier}
use Rattle.cue_syntax.specs.declared.tree.Label.{Label}
use Rattle.cue_syntax.specs.declared.tree.Signed.{Signed}
use Rattle.cue_syntax.specs.declared.tree.Comparison.{Comparison}
use Rattle.cue_syntax.specs.declared.tree.Package.{Package}
use Rattle.cue_syntax.specs.declared.tree.Rest as code
use Rattle.cue_syntax.specs.declared.tree.Expr.{Expr, fold-Expr}
use Rattle.cue_syntax.specs.declared.tree.Rest.{fold-Rest}
use Rattle.cue_syntax.specs.declared.tree.Term.{Term, fold-Term}
use Rattle.cue_syntax.specs.declared.tree.Declaration.{Declaration, fold-Declaration}
use Rattle.cue_syntax.specs.declared.tree.Declaration.TheOpen.{Expr-F, Rest-F, Term-F}
use Rattle.cue_syntax.specs.declared.tree.Declaration.TheOpen.{Declaration-F}

-- A number beside a part is the place at which that part begins. The last truth values say whether
-- a comma stands before the closing sign.
mutual
  pub data Expression : Type 0 where
    name : Identifier → ℕ → Expression
    integer : Signed → Expression
    text : List ℕ → Expression
    bottom : Expression
    bound : Comparison → Signed → Expression
    other_integer : Signed → Expression
    other_text : List ℕ → Expression
    parenthesis : Expression → Bool → Expression
    struct : Entries → Bool → Expression
    close : ℕ → Entries → Bool → Bool → Expression
    list : Elements → Rest → Bool → Expression
    conjunction : Elements → Expression
    disjunction : Branches → Expression

  pub data Elements : Type 0 where
    no_elements : Elements
    element : Expression → Elements → Elements

  -- what stands behind the last element of a list: nothing, `...`, or `...` and an expression
  pub data Rest : Type 0 where
    no_rest : Rest
    any_rest : Rest
    each_rest : Expression → Rest

  -- a term of a disjunction: whether it is marked, and where it begins after its mark
  pub data Branch : Type 0 where
    branch : Bool → ℕ → Expression → Branch

  pub data Branches : Type 0 where
    no_branches : Branches
    next_branch : Branch → Branches → Branches

  -- a declaration
  pub data Entry : Type 0 where
    ellipsis : Entry
    field : Label → List Label → Expression → Entry
    definition : List ℕ → ℕ → List Label → Expression → Entry

  pub data Entries : Type 0 where
    no_entries : Entries
    entry : Entry → Entries → Entries

abbrev pub elements_of : List Expression → Elements
elements_of [] = no_elements
elements_of (e ∷ es) = element e (elements_of es)

abbrev pub branches_in : List Branch → Branches
branches_in [] = no_branches
branches_in (b ∷ bs) = next_branch b (branches_in bs)

abbrev pub entries_in : List Entry → Entries
entries_in [] = no_entries
entries_in (e ∷ es) = entry e (entries_in es)

-- one level, with the trees of what stands inside
abbrev pub entry_step : Declaration-F Entry Expression Rest Branch → Entry
entry_step Declaration-F.Ellipsis = ellipsis
entry_step (Declaration-F.Field label chain value) = field label chain.items value
entry_step (Declaration-F.Definition t from chain value) = definition t from chain.items value

abbrev pub expression_step : Expr-F Entry Expression Rest Branch → Expression
expression_step (Expr-F.Name n from) = name n from
expression_step (Expr-F.Integer n) = integer n
expression_step (Expr-F.Text t) = text t
expression_step Expr-F.Bottom = bottom
expression_step (Expr-F.Bound c n) = bound c n
expression_step (Expr-F.OtherInteger n) = other_integer n
expression_step (Expr-F.OtherText t) = other_text t
expression_step (Expr-F.Parenthesis inner comma) = parenthesis inner.value comma
expression_step (Expr-F.Struct es comma) = struct (entries_in es.items) comma
expression_step (Expr-F.Close from es inner comma) = close from (entries_in es.items) inner comma
expression_step (Expr-F.List es rest comma) = list (elements_of es.items) rest comma
expression_step (Expr-F.Conjunction es) = conjunction (elements_of es.items)
expression_step (Expr-F.Disjunction bs) = disjunction (branches_in bs.items)

abbrev pub rest_step : Rest-F Entry Expression Rest Branch → Rest
rest_step Rest-F.Ends = no_rest
rest_step Rest-F.GoesOn = any_rest
rest_step (Rest-F.Each e) = each_rest e.value

abbrev pub branch_step : Term-F Entry Expression Rest Branch → Branch
branch_step t = branch t.marked t.from t.value

-- the trees of the program's values
abbrev pub expression : Expr → Expression
expression =
    fold-Expr Entry Expression Rest Branch entry_step expression_step rest_step branch_step

abbrev pub rest_of_tree : code.Rest → Rest
rest_of_tree =
    fold-Rest Entry Expression Rest Branch entry_step expression_step rest_step branch_step

abbrev pub branch_tree : Term → Branch
branch_tree =
    fold-Term Entry Expression Rest Branch entry_step expression_step rest_step branch_step

abbrev pub entry_tree : Declaration → Entry
entry_tree =
    fold-Declaration Entry Expression Rest Branch entry_step expression_step rest_step branch_step

abbrev pub elements_of_list : List Expr → Elements
elements_of_list es = elements_of (map expression es)

abbrev pub branches_of_list : List Term → Branches
branches_of_list ts = branches_in (map branch_tree ts)

abbrev pub entries : List Declaration → Entries
entries ds = entries_in (map entry_tree ds)

-- a whole text: its package clause, if any, its declarations, and whether a comma stands after the
-- last one
pub record FileTree : Type 0 where
  pub package_clause : Option Package
  pub declarations : Entries
  pub comma : Bool
