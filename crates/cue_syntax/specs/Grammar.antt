-- Which trees the grammar has, and how many levels they open.
use Rattle.std.specs.Prelude.{◌≡◌, ◌+◌, ◌≤◌, ◌⊎◌, ℕ, max, Bool, true, false, List, [], length, ◌++◌}
use Rattle.std.specs.Prelude.{codes, ⊤, Option, None, Some, slice_index}
use Rattle.cue_lattice.specs.Limits.{level_limit}
use Rattle.cue_lex.specs.declared.token.Token.{Token}
use Rattle.cue_syntax.specs.declared.tree.Identifier.{Identifier}
use Rattle.cue_syntax.specs.declared.tree.Identifier.TheVariants as identifiers
use Rattle.cue_lex.specs.declared.token.TokenKind.TheVariants as kinds
use Rattle.cue_lex.specs.declared.punctuation.Punctuation.TheVariants as points
use Rattle.cue_syntax.specs.Spelling.{SpellsTree, one, comma_if, spell, spell_elements, spell_branch}
use Rattle.cue_syntax.specs.Spelling.{spell_entry, spell_entries, spell_file}
use Rattle.cue_syntax.specs.declared.tree.Package.{Package}
use Rattle.cue_syntax.specs.declared.tree.Sign.{Sign}
use Rattle.cue_syntax.specs.declared.tree.Sign.TheVariants as signs
use Rattle.cue_syntax.specs.declared.tree.Signed.{Signed}
use Rattle.cue_syntax.specs.Syntax.{FileTree, Expression, name, integer, text, bottom, bound}
use Rattle.cue_syntax.specs.Syntax.{other_integer, other_text, parenthesis, struct, close, list}
use Rattle.cue_syntax.specs.Syntax.{conjunction, disjunction, Elements, no_elements, element}
use Rattle.cue_syntax.specs.Syntax.{Rest, no_rest, any_rest, each_rest, Branch, branch, Branches}
use Rattle.cue_syntax.specs.Syntax.{no_branches, next_branch, Entry, ellipsis, field, definition}
use Rattle.cue_syntax.specs.Syntax.{Entries, no_entries, entry}
use Rattle.cue_syntax.specs.Words.{HaveWordsEntries}

-- names that begin a clause, which is left out
abbrev pub IsClause : List ℕ → Type 0
IsClause t = (t ≡ codes "let") ⊎ (t ≡ codes "for") ⊎ (t ≡ codes "if") ⊎ (t ≡ codes "import")

-- names that are no operands
abbrev pub IsKeyword : List ℕ → Type 0
IsKeyword t = IsClause t ⊎ (t ≡ codes "in") ⊎ (t ≡ codes "package")

abbrev pub IsOperand : Identifier → Type 0
IsOperand (identifiers.Plain t) = ¬ IsKeyword t
IsOperand (identifiers.Definition t) = ⊤
IsOperand (identifiers.Hidden t) = ⊤

-- the greatest magnitude of an integer with this sign, which has 64 bits
abbrev pub greatest_magnitude : Sign → ℕ
greatest_magnitude signs.Minus = 9223372036854775808
greatest_magnitude _ = 9223372036854775807

abbrev pub IsInRange : Signed → Type 0
IsInRange n = n.magnitude ≤ greatest_magnitude n.sign

-- neither a conjunction nor a disjunction
abbrev pub IsUnary : Expression → Type 0
IsUnary (conjunction es) = ⊥
IsUnary (disjunction bs) = ⊥
IsUnary _ = ⊤

-- no disjunction
abbrev pub IsConjunct : Expression → Type 0
IsConjunct (disjunction bs) = ⊥
IsConjunct _ = ⊤

-- a definition stands at the top alone
abbrev pub IsNested : Entry → Type 0
IsNested (definition t from chain e) = ⊥
IsNested _ = ⊤

abbrev pub AreUnary : Elements → Type 0
AreUnary no_elements = ⊤
AreUnary (element e es) = IsUnary e × AreUnary es

abbrev pub AreNested : Entries → Type 0
AreNested no_entries = ⊤
AreNested (entry e es) = IsNested e × AreNested es

abbrev pub TwoElements : Elements → Type 0
TwoElements (element d (element e es)) = ⊤
TwoElements _ = ⊥

abbrev pub TwoBranches : Branches → Type 0
TwoBranches (next_branch a (next_branch b bs)) = ⊤
TwoBranches _ = ⊥

-- a marked term is an operand or a bound, an unmarked one no disjunction
abbrev pub IsTerm : Bool → Expression → Type 0
IsTerm true e = IsUnary e
IsTerm false e = IsConjunct e

-- a comma stands after something
abbrev pub EndsEntries : Bool → Entries → Type 0
EndsEntries true no_entries = ⊥
EndsEntries _ _ = ⊤

abbrev pub EndsElements : Bool → Rest → Elements → Type 0
EndsElements true no_rest no_elements = ⊥
EndsElements _ _ _ = ⊤

-- the tree follows the grammar
abbrev mutual
  pub IsRight : Expression → Type 0
  IsRight (name n from) = IsOperand n
  IsRight (integer n) = IsInRange n
  IsRight (text t) = ⊤
  IsRight bottom = ⊤
  IsRight (bound c n) = IsInRange n
  IsRight (other_integer n) = IsInRange n
  IsRight (other_text t) = ⊤
  IsRight (parenthesis e comma) = IsRight e
  IsRight (struct es comma) = AreRightEntries es × AreNested es × EndsEntries comma es
  IsRight (close from es inner comma) = AreRightEntries es × AreNested es × EndsEntries inner es
  IsRight (list es rest comma) = AreRight es × IsRightRest rest × EndsElements comma rest es
  IsRight (conjunction es) = AreRight es × AreUnary es × TwoElements es
  IsRight (disjunction bs) = AreRightBranches bs × TwoBranches bs

  pub AreRight : Elements → Type 0
  AreRight no_elements = ⊤
  AreRight (element e es) = IsRight e × AreRight es

  pub IsRightRest : Rest → Type 0
  IsRightRest no_rest = ⊤
  IsRightRest any_rest = ⊤
  IsRightRest (each_rest e) = IsRight e

  pub IsRightBranch : Branch → Type 0
  IsRightBranch (branch marked from e) = IsRight e × IsTerm marked e

  pub AreRightBranches : Branches → Type 0
  AreRightBranches no_branches = ⊤
  AreRightBranches (next_branch b bs) = IsRightBranch b × AreRightBranches bs

  pub IsRightEntry : Entry → Type 0
  IsRightEntry ellipsis = ⊤
  IsRightEntry (field label chain e) = IsRight e
  IsRightEntry (definition t from chain e) = IsRight e

  pub AreRightEntries : Entries → Type 0
  AreRightEntries no_entries = ⊤
  AreRightEntries (entry e es) = IsRightEntry e × AreRightEntries es

-- how many levels a tree opens at its deepest place: one for each parenthesis, brace and bracket,
-- and one for each label of a chain after the first
abbrev mutual
  pub levels : Expression → ℕ
  levels (name n from) = 0
  levels (integer n) = 0
  levels (text t) = 0
  levels bottom = 0
  levels (bound c n) = 0
  levels (other_integer n) = 0
  levels (other_text t) = 0
  levels (parenthesis e comma) = 1 + levels e
  levels (struct es comma) = 1 + levels_of_entries es
  levels (close from es inner comma) = 2 + levels_of_entries es
  levels (list es rest comma) = 1 + max (levels_of_elements es) (levels_of_rest rest)
  levels (conjunction es) = levels_of_elements es
  levels (disjunction bs) = levels_of_branches bs

  pub levels_of_elements : Elements → ℕ
  levels_of_elements no_elements = 0
  levels_of_elements (element e es) = max (levels e) (levels_of_elements es)

  pub levels_of_rest : Rest → ℕ
  levels_of_rest no_rest = 0
  levels_of_rest any_rest = 0
  levels_of_rest (each_rest e) = levels e

  pub levels_of_branch : Branch → ℕ
  levels_of_branch (branch marked from e) = levels e

  pub levels_of_branches : Branches → ℕ
  levels_of_branches no_branches = 0
  levels_of_branches (next_branch b bs) = max (levels_of_branch b) (levels_of_branches bs)

  pub levels_of_entry : Entry → ℕ
  levels_of_entry ellipsis = 0
  levels_of_entry (field label chain e) = length chain + levels e
  levels_of_entry (definition t from chain e) = length chain + levels e

  pub levels_of_entries : Entries → ℕ
  levels_of_entries no_entries = 0
  levels_of_entries (entry e es) = max (levels_of_entry e) (levels_of_entries es)

-- The tokens up to the rest are a tree of the grammar, which opens at most so many levels.
pub record IsExpression (room : ℕ) (tokens : List Token) (e : Expression)
    (rest : List Token) : Type 0 where
  pub reads : SpellsTree tokens (spell e) rest
  pub right : IsRight e
  pub levels : levels e ≤ room

-- an expression that holds no other
pub record IsLiteral (tokens : List Token) (e : Expression) (rest : List Token) : Type 0 where
  pub reads : SpellsTree tokens (spell e) rest
  pub right : IsRight e
  pub unary : IsUnary e
  pub levels : levels e ≡ 0

pub record AreEntries (room : ℕ) (tokens : List Token) (es : Entries) (comma : Bool)
    (rest : List Token) : Type 0 where
  pub reads : SpellsTree tokens (spell_entries es ++ comma_if comma) rest
  pub right : AreRightEntries es
  pub ends : EndsEntries comma es
  pub levels : levels_of_entries es ≤ room

-- it begins with `_#`
abbrev pub HidesDefinition : List ℕ → Type 0
HidesDefinition t = (slice_index t 0 ≡ 0x5f) × (slice_index t 1 ≡ 0x23)

-- an identifier that begins with neither `#` nor `_#`
abbrev pub IsPackageName : Identifier → Type 0
IsPackageName (identifiers.Plain t) = ⊤
IsPackageName (identifiers.Definition t) = ⊥
IsPackageName (identifiers.Hidden t) = ¬ HidesDefinition t

-- where no comma stands after the name of a package, no declaration does
abbrev pub IsRightPackage : Option Package → Entries → Type 0
IsRightPackage None es = ⊤
IsRightPackage (Some clause) no_entries = IsPackageName clause.name
IsRightPackage (Some clause) (entry e es) = IsPackageName clause.name × (clause.comma ≡ true)

-- These are the parts of a well-formed fragment: it follows the grammar, opens no more levels than
-- a text may, and its names, labels and strings are words.
pub record IsFragment (clause : Option Package) (declarations : Entries)
    (comma : Bool) : Type 0 where
  pub package_clause : IsRightPackage clause declarations
  pub right : AreRightEntries declarations
  pub ends : EndsEntries comma declarations
  pub levels : levels_of_entries declarations ≤ level_limit
  pub words : HaveWordsEntries declarations

-- a bound on levels
pub data Limit : Type 0 where
  unlimited : Limit
  at_most : ℕ → Limit

abbrev pub Within : Limit → ℕ → Type 0
Within unlimited n = ⊤
Within (at_most m) n = n ≤ m

-- the tokens are a text of the grammar that keeps within the limit, with this tree
pub record IsFileTree (limit : Limit) (tokens : List Token) (file : FileTree) : Type 0 where
  pub reads : SpellsTree tokens (spell_file file) []
  pub clause : IsRightPackage file.package_clause file.declarations
  pub right : AreRightEntries file.declarations
  pub ends : EndsEntries file.comma file.declarations
  pub levels : Within limit (levels_of_entries file.declarations)
