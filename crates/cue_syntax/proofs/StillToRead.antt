-- What the goals of the recogniser have still to read.
use Rattle.std.proofs.Common.{◌≡◌, ℕ, ◌+◌, ◌≤◌, max, ◌⊎◌, Bool, true, false, List, [], ◌∷◌, ◌++◌, length, flat_map, codes}
use Rattle.std.specs.Prelude.{⊤, if◌then◌else◌}
use Rattle.cue_lex.specs.declared.token.Token.{Token}
use Rattle.cue_lex.specs.declared.token.TokenKind.{TokenKind}
use Rattle.cue_lex.specs.declared.token.TokenKind.TheVariants as kinds
use Rattle.cue_lex.specs.declared.punctuation.Punctuation.TheVariants as points
use Rattle.cue_syntax.specs.declared.tree.Label.{Label}
use Rattle.cue_syntax.specs.declared.tree.Mark.{Mark}
use Rattle.cue_syntax.specs.declared.tree.Sign.{Sign}
use Rattle.cue_syntax.specs.declared.tree.Signed.{Signed}
use Rattle.cue_syntax.specs.Syntax.{FileTree, Expression, Elements, Branch, Branches, next_branch, no_branches, Entry, Entries, no_entries, Rest, no_rest, any_rest, each_rest}
use Rattle.cue_syntax.specs.Spelling.{SpelledPiece, SpellsTree, one, comma_if, spell_mark, spell_signed, spell_label, spell_rest, spell, spell_elements, spell_more_elements, spell_branch, spell_more_branches, spell_entry, spell_entries, spell_more_entries, spell_file}
use Rattle.cue_syntax.specs.Grammar.{IsRight, IsUnary, IsConjunct, AreRight, IsRightRest, AreUnary, IsRightBranch, AreRightBranches, IsRightEntry, AreRightEntries, IsNested, AreNested, EndsEntries, EndsElements, IsRightPackage, levels, levels_of_elements, levels_of_rest, levels_of_branch, levels_of_branches, levels_of_entry, levels_of_entries, Limit, Within, IsInRange, greatest_magnitude}
use Rattle.cue_syntax.specs.Recogniser.{Goal, Stack, is_keyword}

-- the levels at declarations: as many as below them at the top, one more in braces
abbrev pub inside : Bool → ℕ → ℕ
inside true n = n
inside false n = 1 + n

-- the levels that are open at a goal, where so many are open below it
abbrev pub under : Goal → ℕ → ℕ
under (Goal.entries top) n = inside top n
under (Goal.more_entries top) n = inside top n
under (Goal.value_name t) n = if is_keyword t then 1 + n else n
under Goal.chained n = 1 + n
under Goal.closed n = 2 + n
under Goal.parenthesis n = 1 + n
under Goal.parenthesis_end n = 1 + n
under Goal.elements n = 1 + n
under Goal.more_elements n = 1 + n
under Goal.dots n = 1 + n
under Goal.bracket n = 1 + n
under Goal.bracket_end n = 1 + n
under _ n = n

-- the levels that a stack opens
abbrev pub beneath : Stack → ℕ
beneath [] = 0
beneath (goal ∷ goals) = under goal (beneath goals)

-- so many levels keep within the limit
pub record Keeps (limit : Limit) (n : ℕ) : Type 0 where
  pub within : Within limit n

-- a part of the text that is spelled so
pub record Spelt (A : Type 0) (spelled : A → List SpelledPiece) (a b : List Token) : Type 0 where
  pub part : A
  pub reads : SpellsTree a (spelled part) b

-- a part of the grammar, which keeps within the limit where so many levels are open
pub record Parsed (A : Type 0) (spelled : A → List SpelledPiece) (Good : A → Type 0) (opens : A → ℕ) (limit : Limit) (room : ℕ) (a b : List Token) : Type 0 where
  pub part : A
  pub reads : SpellsTree a (spelled part) b
  pub good : Good part
  pub within : Keeps limit (opens part + room)

-- an expression
abbrev pub AnExpression : Limit → ℕ → List Token → List Token → Type 0
AnExpression = Parsed Expression spell IsRight levels

-- an operand or a bound
abbrev pub AUnary : Limit → ℕ → List Token → List Token → Type 0
AUnary = Parsed Expression spell (λ e. IsRight e × IsUnary e) levels

-- a part of a disjunction
abbrev pub AConjunct : Limit → ℕ → List Token → List Token → Type 0
AConjunct = Parsed Expression spell (λ e. IsRight e × IsConjunct e) levels

-- a term of a disjunction
abbrev pub ATerm : Limit → ℕ → List Token → List Token → Type 0
ATerm = Parsed Branch spell_branch IsRightBranch levels_of_branch

-- the parts of a conjunction after the first one, or none
abbrev pub MoreParts : Limit → ℕ → List Token → List Token → Type 0
MoreParts = Parsed Elements (spell_more_elements (kinds.Mark points.Ampersand)) (λ es. AreRight es × AreUnary es) levels_of_elements

-- there is a term
abbrev pub SomeBranches : Branches → Type 0
SomeBranches no_branches = ⊥
SomeBranches (next_branch b bs) = ⊤

-- the terms of a disjunction after the first one, or none
abbrev pub MoreTerms : Limit → ℕ → List Token → List Token → Type 0
MoreTerms = Parsed Branches spell_more_branches AreRightBranches levels_of_branches

-- the terms of a disjunction after the first one, and not none
abbrev pub FurtherTerms : Limit → ℕ → List Token → List Token → Type 0
FurtherTerms = Parsed Branches spell_more_branches (λ bs. AreRightBranches bs × SomeBranches bs) levels_of_branches

-- labels, and then an expression
pub record Valued (limit : Limit) (room : ℕ) (a b : List Token) : Type 0 where
  pub chain : List Label
  pub tree : Expression
  pub reads : SpellsTree a (flat_map spell_label chain ++ spell tree) b
  pub right : IsRight tree
  pub within : Keeps limit (length chain + levels tree + room)

-- a declaration, at the top or inside
abbrev pub IsAllowed : Bool → Entry → Type 0
IsAllowed true e = ⊤
IsAllowed false e = IsNested e

-- a declaration that may stand there
abbrev pub AnEntry : Bool → Limit → ℕ → List Token → List Token → Type 0
AnEntry top = Parsed Entry spell_entry (λ e. IsRightEntry e × IsAllowed top e) levels_of_entry

-- declarations at the top end with the text, others with a brace
abbrev pub closing : Bool → List SpelledPiece
closing true = []
closing false = one (kinds.Mark points.CloseBrace)

-- declarations that may stand there: definitions at the top alone
abbrev pub NestedIn : Bool → Entries → Type 0
NestedIn true es = ⊤
NestedIn false es = AreNested es

-- declarations, up to the end of the text at the top and up to a brace elsewhere
pub record Declared (top : Bool) (limit : Limit) (room : ℕ) (a b : List Token) : Type 0 where
  pub tree : Entries
  pub comma : Bool
  pub reads : SpellsTree a (spell_entries tree ++ (comma_if comma ++ closing top)) b
  pub right : AreRightEntries tree
  pub nested : NestedIn top tree
  pub ends : EndsEntries comma tree
  pub within : Keeps limit (levels_of_entries tree + room)

-- after a declaration
pub record MoreDeclared (top : Bool) (limit : Limit) (room : ℕ) (a b : List Token) : Type 0 where
  pub tree : Entries
  pub comma : Bool
  pub reads : SpellsTree a (spell_more_entries tree ++ (comma_if comma ++ closing top)) b
  pub right : AreRightEntries tree
  pub nested : NestedIn top tree
  pub within : Keeps limit (levels_of_entries tree + room)

-- elements up to the bracket
pub record Listed (limit : Limit) (room : ℕ) (a b : List Token) : Type 0 where
  pub tree : Elements
  pub tail : Rest
  pub comma : Bool
  pub reads : SpellsTree a (spell_elements (kinds.Mark points.Comma) tree ++ (spell_rest tree tail ++ (comma_if comma ++ one (kinds.Mark points.CloseBracket)))) b
  pub right : AreRight tree
  pub rest_right : IsRightRest tail
  pub ends : EndsElements comma tail tree
  pub within : Keeps limit (max (levels_of_elements tree) (levels_of_rest tail) + room)

-- `...` after an element, with the comma before it and what follows it
abbrev pub rest_behind : Rest → List SpelledPiece
rest_behind any_rest = one (kinds.Mark points.Comma) ++ one (kinds.Mark points.Ellipsis)
rest_behind (each_rest e) = one (kinds.Mark points.Comma) ++ one (kinds.Mark points.Ellipsis) ++ spell e
rest_behind no_rest = []

-- after an element
pub record MoreListed (limit : Limit) (room : ℕ) (a b : List Token) : Type 0 where
  pub tree : Elements
  pub tail : Rest
  pub comma : Bool
  pub reads : SpellsTree a (spell_more_elements (kinds.Mark points.Comma) tree ++ (rest_behind tail ++ (comma_if comma ++ one (kinds.Mark points.CloseBracket)))) b
  pub right : AreRight tree
  pub rest_right : IsRightRest tail
  pub within : Keeps limit (max (levels_of_elements tree) (levels_of_rest tail) + room)

-- what the rest of a list has after its `...`
abbrev pub spell_further : Rest → List SpelledPiece
spell_further (each_rest e) = spell e
spell_further _ = []

-- the rest has a `...`
abbrev pub HasDots : Rest → Type 0
HasDots no_rest = ⊥
HasDots _ = ⊤

-- after the `...` of a list
pub record Dotted (limit : Limit) (room : ℕ) (a b : List Token) : Type 0 where
  pub tail : Rest
  pub comma : Bool
  pub reads : SpellsTree a (spell_further tail ++ (comma_if comma ++ one (kinds.Mark points.CloseBracket))) b
  pub dots : HasDots tail
  pub right : IsRightRest tail
  pub within : Keeps limit (levels_of_rest tail + room)

-- after `close(`
pub record Closed (limit : Limit) (room : ℕ) (a b : List Token) : Type 0 where
  pub tree : Entries
  pub inner : Bool
  pub comma : Bool
  pub reads : SpellsTree a (one (kinds.Mark points.OpenBrace) ++ (spell_entries tree ++ (comma_if inner ++ (one (kinds.Mark points.CloseBrace) ++ (comma_if comma ++ one (kinds.Mark points.CloseParenthesis)))))) b
  pub right : AreRightEntries tree
  pub nested : AreNested tree
  pub ends : EndsEntries inner tree
  pub within : Keeps limit (levels_of_entries tree + room)

-- a whole text
pub record Whole (limit : Limit) (room : ℕ) (a b : List Token) : Type 0 where
  pub tree : FileTree
  pub reads : SpellsTree a (spell_file tree) b
  pub clause : IsRightPackage tree.package_clause tree.declarations
  pub right : AreRightEntries tree.declarations
  pub ends : EndsEntries tree.comma tree.declarations
  pub within : Keeps limit (levels_of_entries tree.declarations + room)

-- after the name of a package
pub record Packaged (limit : Limit) (room : ℕ) (a b : List Token) : Type 0 where
  pub comma : Bool
  pub tree : Entries
  pub last : Bool
  pub reads : SpellsTree a (comma_if comma ++ (spell_entries tree ++ comma_if last)) b
  pub parted : comma ≡ false → tree ≡ no_entries
  pub right : AreRightEntries tree
  pub ends : EndsEntries last tree
  pub within : Keeps limit (levels_of_entries tree + room)

-- the end of a parenthesis or a list
abbrev pub Shuts : TokenKind → List Token → List Token → Type 0
Shuts kind = Spelt Bool (λ comma. comma_if comma ++ one kind)

-- the mark of a label, and its colon
abbrev pub Marked : List Token → List Token → Type 0
Marked = Spelt Mark (λ mark. spell_mark mark ++ one (kinds.Mark points.Colon))

-- the magnitude after a sign
pub record Magnitude (sign : Sign) (a b : List Token) : Type 0 where
  pub part : ℕ
  pub reads : SpellsTree a (one (kinds.Integer part)) b
  pub range : part ≤ greatest_magnitude sign

-- an integer with its sign
pub record IsSigned (a b : List Token) : Type 0 where
  pub part : Signed
  pub reads : SpellsTree a (spell_signed part) b
  pub range : IsInRange part

-- The tokens up to the rest are what the goal has still to read, where so many levels are open below it. What follows a
-- first token that decides little is what makes a whole with any such token.
abbrev pub Remains : Limit → ℕ → Goal → List Token → List Token → Type 0
Remains limit n Goal.text a b = Whole limit n a b
Remains limit n Goal.package_word a b = (first : Token) → first.kind ≡ kinds.Name (codes "package") → Whole limit n (first ∷ a) b
Remains limit n Goal.package_end a b = Packaged limit n a b
Remains limit n (Goal.entries top) a b = Declared top limit (inside top n) a b
Remains limit n (Goal.more_entries top) a b = MoreDeclared top limit (inside top n) a b
Remains limit n Goal.mark a b = Marked a b
Remains limit n Goal.colon a b = SpellsTree a (one (kinds.Mark points.Colon)) b
Remains limit n Goal.value a b = Valued limit n a b
Remains limit n (Goal.value_name t) a b = (first : Token) → first.kind ≡ kinds.Name t → Valued limit n (first ∷ a) b
Remains limit n Goal.value_text a b = (first : Token) (t : List ℕ) → first.kind ≡ kinds.Text t → Valued limit n (first ∷ a) b
Remains limit n Goal.chained a b = a ≡ b
Remains limit n Goal.expression a b = AnExpression limit n a b
Remains limit n Goal.term a b = ATerm limit n a b
Remains limit n Goal.unary a b = AUnary limit n a b
Remains limit n Goal.more_parts a b = MoreParts limit n a b
Remains limit n Goal.bar a b = FurtherTerms limit n a b
Remains limit n Goal.more_terms a b = MoreTerms limit n a b
Remains limit n Goal.signed a b = IsSigned a b
Remains limit n Goal.signed_or_text a b = IsSigned a b ⊎ Spelt (List ℕ) (λ t. one (kinds.Text t)) a b
Remains limit n (Goal.magnitude sign) a b = Magnitude sign a b
Remains limit n Goal.behind_close a b = (first : Token) → first.kind ≡ kinds.Name (codes "close") → AUnary limit n (first ∷ a) b
Remains limit n Goal.closed a b = Closed limit (2 + n) a b
Remains limit n Goal.parenthesis a b = Shuts (kinds.Mark points.CloseParenthesis) a b
Remains limit n Goal.parenthesis_end a b = SpellsTree a (one (kinds.Mark points.CloseParenthesis)) b
Remains limit n Goal.elements a b = Listed limit (1 + n) a b
Remains limit n Goal.more_elements a b = MoreListed limit (1 + n) a b
Remains limit n Goal.dots a b = Dotted limit (1 + n) a b
Remains limit n Goal.bracket a b = Shuts (kinds.Mark points.CloseBracket) a b
Remains limit n Goal.bracket_end a b = SpellsTree a (one (kinds.Mark points.CloseBracket)) b

-- what comes after declarations: nothing at the top, the rest elsewhere
abbrev pub Behind : Bool → (List Token → Type 0) → List Token → Type 0
Behind true Rest b = b ≡ []
Behind false Rest b = Rest b

-- the goals of the top end with the text; after the others come the goals below
abbrev pub Below : Goal → (List Token → Type 0) → List Token → Type 0
Below Goal.text Rest b = b ≡ []
Below Goal.package_word Rest b = b ≡ []
Below Goal.package_end Rest b = b ≡ []
Below (Goal.entries top) Rest b = Behind top Rest b
Below (Goal.more_entries top) Rest b = Behind top Rest b
Below _ Rest b = Rest b

-- the tokens are all that the goals have still to read
abbrev pub Ahead : Limit → Stack → List Token → Type 0
Ahead limit [] a = a ≡ []
Ahead limit (goal ∷ goals) a = (b : List Token) × Remains limit (beneath goals) goal a b × Below goal (Ahead limit goals) b
