-- A recogniser of the grammar: it takes the tokens of a text one by one, and keeps on a stack what
-- has still to come. It tells at which symbol tokens leave the grammar. It defines nothing and no
-- public contract speaks of it: the grammar is that of `Grammar`, and two laws say that the
-- recogniser takes just what the grammar spells (proofs/NoTextWhereStuck: where it is stuck no text
-- begins so; proofs/TakenBeginsAText: what it takes begins a text).
use Rattle.std.specs.Prelude.{◌≡◌, ◌+◌, ◌⊎◌, drop, length, ℕ, Bool, true, false, List, [], ◌∷◌}
use Rattle.std.specs.Prelude.{◌++◌, codes, Option, None, Some, nat_eq, nat_le, if◌then◌else◌, ◌||◌}
use Rattle.std.specs.Prelude.{⊤}
use Rattle.std.specs.Cmp.Lexicographic.{pointwise}
use Rattle.std.specs.List.{starts_with}
use Rattle.cue_lex.specs.declared.token.Token.{Token}
use Rattle.cue_lex.specs.declared.token.TokenKind.{TokenKind}
use Rattle.cue_lex.specs.declared.token.TokenKind.TheVariants as kinds
use Rattle.cue_lex.specs.declared.punctuation.Punctuation.{Punctuation}
use Rattle.cue_lex.specs.declared.punctuation.Punctuation.TheVariants as points
use Rattle.cue_syntax.specs.declared.stop.Why.{Why}
use Rattle.cue_syntax.specs.declared.stop.Why.TheVariants as reasons
use Rattle.cue_syntax.specs.declared.stop.ParserStop.{ParserStop}
use Rattle.cue_syntax.specs.declared.tree.Label.{Label}
use Rattle.cue_syntax.specs.declared.tree.Sign.{Sign}
use Rattle.cue_syntax.specs.declared.tree.Sign.TheVariants as signs
use Rattle.cue_syntax.specs.Stops.{IsMemoryParserStop}
use Rattle.cue_syntax.specs.Grammar.{Limit, unlimited, at_most, Within, greatest_magnitude}
use Rattle.cue_syntax.specs.Viability.{IsTokenAt, IsSignAt, IsMark, IsCallOfClose, IsKeywordName}

-- what has still to come
pub data Goal : Type 0 where
  text : Goal  -- a whole text
  package_word : Goal  -- what follows a first word `package`: a name, or the mark of a label
  package_end : Goal  -- a comma, or the end
  entries : Bool → Goal  -- a declaration, or the end of the declarations: at the top, or in braces
  more_entries : Bool → Goal  -- a comma, or the end of the declarations
  mark : Goal  -- a colon, with `?` or `!` before it or not
  colon : Goal
  value : Goal  -- a label with its value, or an expression
  value_name : List ℕ → Goal  -- what follows a name that begins a value
  value_text : Goal  -- what follows a string that begins a value
  chained : Goal  -- the end of a level that a label opened
  expression : Goal
  term : Goal
  unary : Goal
  more_parts : Goal  -- `&` and a part, any number of them
  bar : Goal  -- `|` and a term, and any number of further ones
  more_terms : Goal  -- `|` and a term, any number of them
  signed : Goal
  signed_or_text : Goal
  magnitude : Sign → Goal  -- what follows a sign
  behind_close : Goal  -- what follows the name `close`: a parenthesis, or nothing of it
  closed : Goal  -- the brace of `close({`
  parenthesis : Goal  -- the end of a parenthesis, with a comma or not
  parenthesis_end : Goal
  elements : Goal  -- an element, `...`, or the end of a list
  more_elements : Goal  -- a comma, or the end of a list
  dots : Goal  -- what follows the `...` of a list: an expression, or the end of the list
  bracket : Goal  -- the end of a list, with a comma or not
  bracket_end : Goal

abbrev pub Stack : Type 0
Stack = List Goal

-- the bytes are those of the word
abbrev pub is_word : List ℕ → List ℕ → Bool
is_word word t = pointwise nat_eq t word

abbrev pub is_keyword : List ℕ → Bool
is_keyword t =
    is_word (codes "let") t || is_word (codes "for") t || is_word (codes "if") t
    || is_word (codes "import") t
    || is_word (codes "in") t || is_word (codes "package") t

-- how many levels are open
abbrev pub levels_of : Goal → ℕ
levels_of (entries false) = 1
levels_of (more_entries false) = 1
levels_of chained = 1
-- a keyword goes on as a label alone, which opens a level
levels_of (value_name t) = if is_keyword t then 1 else 0
levels_of closed = 2
levels_of parenthesis = 1
levels_of parenthesis_end = 1
levels_of elements = 1
levels_of more_elements = 1
levels_of dots = 1
levels_of bracket = 1
levels_of bracket_end = 1
levels_of _ = 0

abbrev pub depth : Stack → ℕ
depth [] = 0
depth (goal ∷ goals) = levels_of goal + depth goals

abbrev pub fits_limit : Limit → ℕ → Bool
fits_limit unlimited n = true
fits_limit (at_most m) n = nat_le n m

-- after a label: its mark, and then what follows the colon
abbrev pub take_mark : Stack → TokenKind → Option Stack
take_mark goals (kinds.Mark points.Colon) = Some goals
take_mark goals (kinds.Mark points.Question) = Some (colon ∷ goals)
take_mark goals (kinds.Mark points.Exclamation) = Some (colon ∷ goals)
take_mark goals _ = None

-- a name as an operand
abbrev pub take_name : Stack → List ℕ → Option Stack
take_name goals t =
    if is_keyword t then None
    else (if is_word (codes "close") t then Some (behind_close ∷ goals) else Some goals)

-- an integer with this sign, where it is in range
abbrev pub take_integer : Sign → Stack → ℕ → Option Stack
take_integer sign goals n = if nat_le n (greatest_magnitude sign) then Some goals else None

abbrev pub take_unary : Stack → TokenKind → Option Stack
take_unary goals (kinds.Name t) = take_name goals t
take_unary goals (kinds.Definition t) = Some goals
take_unary goals (kinds.Hidden t) = Some goals
take_unary goals (kinds.Text t) = Some goals
take_unary goals (kinds.Integer n) = take_integer signs.Absent goals n
take_unary goals kinds.Bottom = Some goals
take_unary goals (kinds.Mark points.Minus) = Some (magnitude signs.Minus ∷ goals)
take_unary goals (kinds.Mark points.Plus) = Some (magnitude signs.Plus ∷ goals)
take_unary goals (kinds.Mark points.Less) = Some (signed ∷ goals)
take_unary goals (kinds.Mark points.AtMost) = Some (signed ∷ goals)
take_unary goals (kinds.Mark points.Greater) = Some (signed ∷ goals)
take_unary goals (kinds.Mark points.AtLeast) = Some (signed ∷ goals)
take_unary goals (kinds.Mark points.NotEqual) = Some (signed_or_text ∷ goals)
take_unary goals (kinds.Mark points.OpenParenthesis) = Some (expression ∷ parenthesis ∷ goals)
take_unary goals (kinds.Mark points.OpenBrace) = Some (entries false ∷ goals)
take_unary goals (kinds.Mark points.OpenBracket) = Some (elements ∷ goals)
take_unary goals _ = None

abbrev pub take_term : Stack → TokenKind → Option Stack
take_term goals (kinds.Mark points.Star) = Some (unary ∷ goals)
take_term goals kind = take_unary (more_parts ∷ goals) kind

abbrev pub take_expression : Stack → TokenKind → Option Stack
take_expression goals (kinds.Mark points.Star) = Some (unary ∷ bar ∷ goals)
take_expression goals kind = take_unary (more_parts ∷ more_terms ∷ goals) kind

abbrev pub take_value : Stack → TokenKind → Option Stack
take_value goals (kinds.Name t) = Some (value_name t ∷ goals)
take_value goals (kinds.Text t) = Some (value_text ∷ goals)
take_value goals kind = take_expression goals kind

abbrev pub take_signed : Stack → TokenKind → Option Stack
take_signed goals (kinds.Integer n) = take_integer signs.Absent goals n
take_signed goals (kinds.Mark points.Minus) = Some (magnitude signs.Minus ∷ goals)
take_signed goals (kinds.Mark points.Plus) = Some (magnitude signs.Plus ∷ goals)
take_signed goals _ = None

-- a declaration; the goals are those after it
abbrev pub take_entry : Bool → Stack → TokenKind → Option Stack
take_entry top goals (kinds.Mark points.Ellipsis) = Some goals
take_entry top goals (kinds.Name t) = Some (mark ∷ value ∷ goals)
take_entry top goals (kinds.Text t) = Some (mark ∷ value ∷ goals)
take_entry true goals (kinds.Definition t) = Some (colon ∷ value ∷ goals)
take_entry top goals _ = None

-- after an operand that begins a value
abbrev pub take_behind_operand : Stack → Option Stack → TokenKind → Option Stack
take_behind_operand goals behind (kinds.Mark points.Ampersand) =
    Some (unary ∷ more_parts ∷ more_terms ∷ goals)
take_behind_operand goals behind (kinds.Mark points.Bar) = Some (term ∷ more_terms ∷ goals)
take_behind_operand goals behind _ = behind

-- after a name that begins a value and is no label
abbrev pub take_behind_name : List ℕ → Stack → Option Stack → TokenKind → Option Stack
take_behind_name t goals behind (kinds.Mark points.OpenParenthesis) =
    if is_keyword t then None
    else (if is_word (codes "close") t then Some (closed ∷ more_parts ∷ more_terms ∷ goals)
    else behind)
take_behind_name t goals behind kind =
    if is_keyword t then None else take_behind_operand goals behind kind

abbrev pub take_value_name : List ℕ → Stack → Option Stack → TokenKind → Option Stack
take_value_name t goals behind (kinds.Mark points.Colon) =
    take_mark (value ∷ chained ∷ goals) (kinds.Mark points.Colon)
take_value_name t goals behind (kinds.Mark points.Question) =
    take_mark (value ∷ chained ∷ goals) (kinds.Mark points.Question)
take_value_name t goals behind (kinds.Mark points.Exclamation) =
    take_mark (value ∷ chained ∷ goals) (kinds.Mark points.Exclamation)
take_value_name t goals behind kind = take_behind_name t goals behind kind

abbrev pub take_value_text : Stack → Option Stack → TokenKind → Option Stack
take_value_text goals behind (kinds.Mark points.Colon) =
    take_mark (value ∷ chained ∷ goals) (kinds.Mark points.Colon)
take_value_text goals behind (kinds.Mark points.Question) =
    take_mark (value ∷ chained ∷ goals) (kinds.Mark points.Question)
take_value_text goals behind (kinds.Mark points.Exclamation) =
    take_mark (value ∷ chained ∷ goals) (kinds.Mark points.Exclamation)
take_value_text goals behind kind = take_behind_operand goals behind kind

-- it begins with `_#`
abbrev pub hides_definition : List ℕ → Bool
hides_definition t = starts_with nat_eq t (codes "_#")

abbrev pub take_package : Stack → TokenKind → Option Stack
take_package goals (kinds.Name t) = Some (package_end ∷ goals)
take_package goals (kinds.Hidden t) =
    if hides_definition t then None else Some (package_end ∷ goals)
take_package goals kind = take_mark (value ∷ more_entries true ∷ goals) kind

abbrev pub take_text : Stack → TokenKind → Option Stack
take_text goals (kinds.Name t) =
    if is_word (codes "package") t then Some (package_word ∷ goals)
    else Some (mark ∷ value ∷ more_entries true ∷ goals)
take_text goals kind = take_entry true (more_entries true ∷ goals) kind

abbrev pub take_element : Stack → TokenKind → Option Stack
take_element goals (kinds.Mark points.CloseBracket) = Some goals
take_element goals (kinds.Mark points.Ellipsis) = Some (dots ∷ goals)
take_element goals kind = take_expression (more_elements ∷ goals) kind

-- after the `...` of a list
abbrev pub take_dots : Stack → TokenKind → Option Stack
take_dots goals (kinds.Mark points.Comma) = Some (bracket_end ∷ goals)
take_dots goals (kinds.Mark points.CloseBracket) = Some goals
take_dots goals kind = take_expression (bracket ∷ goals) kind

-- One token. behind is what the goals below make of it, where the goal is over before it.
abbrev pub take_token : Goal → Stack → Option Stack → TokenKind → Option Stack
take_token text goals behind kind = take_text goals kind
take_token package_word goals behind kind = take_package goals kind
take_token package_end goals behind (kinds.Mark points.Comma) = Some (entries true ∷ goals)
take_token package_end goals behind _ = None
take_token (entries false) goals behind (kinds.Mark points.CloseBrace) = Some goals
take_token (entries top) goals behind kind = take_entry top (more_entries top ∷ goals) kind
take_token (more_entries top) goals behind (kinds.Mark points.Comma) = Some (entries top ∷ goals)
take_token (more_entries false) goals behind (kinds.Mark points.CloseBrace) = Some goals
take_token (more_entries top) goals behind _ = None
take_token mark goals behind kind = take_mark goals kind
take_token colon goals behind (kinds.Mark points.Colon) = Some goals
take_token colon goals behind _ = None
take_token value goals behind kind = take_value goals kind
take_token (value_name t) goals behind kind = take_value_name t goals behind kind
take_token value_text goals behind kind = take_value_text goals behind kind
take_token chained goals behind kind = behind
take_token expression goals behind kind = take_expression goals kind
take_token term goals behind kind = take_term goals kind
take_token unary goals behind kind = take_unary goals kind
take_token more_parts goals behind (kinds.Mark points.Ampersand) = Some (unary ∷ more_parts ∷ goals)
take_token more_parts goals behind _ = behind
take_token bar goals behind (kinds.Mark points.Bar) = Some (term ∷ more_terms ∷ goals)
take_token bar goals behind _ = None
take_token more_terms goals behind (kinds.Mark points.Bar) = Some (term ∷ more_terms ∷ goals)
take_token more_terms goals behind _ = behind
take_token signed goals behind kind = take_signed goals kind
take_token signed_or_text goals behind (kinds.Text t) = Some goals
take_token signed_or_text goals behind kind = take_signed goals kind
take_token (magnitude sign) goals behind (kinds.Integer n) = take_integer sign goals n
take_token (magnitude sign) goals behind _ = None
take_token behind_close goals behind (kinds.Mark points.OpenParenthesis) = Some (closed ∷ goals)
take_token behind_close goals behind _ = behind
take_token closed goals behind (kinds.Mark points.OpenBrace) = Some (entries false ∷ parenthesis ∷ goals)
take_token closed goals behind _ = None
take_token parenthesis goals behind (kinds.Mark points.Comma) = Some (parenthesis_end ∷ goals)
take_token parenthesis goals behind (kinds.Mark points.CloseParenthesis) = Some goals
take_token parenthesis goals behind _ = None
take_token parenthesis_end goals behind (kinds.Mark points.CloseParenthesis) = Some goals
take_token parenthesis_end goals behind _ = None
take_token elements goals behind kind = take_element goals kind
take_token more_elements goals behind (kinds.Mark points.Comma) = Some (elements ∷ goals)
take_token more_elements goals behind (kinds.Mark points.CloseBracket) = Some goals
take_token more_elements goals behind _ = None
take_token dots goals behind kind = take_dots goals kind
take_token bracket goals behind (kinds.Mark points.Comma) = Some (bracket_end ∷ goals)
take_token bracket goals behind (kinds.Mark points.CloseBracket) = Some goals
take_token bracket goals behind _ = None
take_token bracket_end goals behind (kinds.Mark points.CloseBracket) = Some goals
take_token bracket_end goals behind _ = None

-- The end of the text. behind says whether the goals below are over there.
abbrev pub goal_is_over : Goal → Bool → Bool
goal_is_over text behind = true
goal_is_over package_end behind = true
goal_is_over (entries true) behind = true
goal_is_over (more_entries true) behind = true
goal_is_over (value_name t) behind = if is_keyword t then false else behind
goal_is_over value_text behind = behind
goal_is_over chained behind = behind
goal_is_over more_parts behind = behind
goal_is_over more_terms behind = behind
goal_is_over behind_close behind = behind
goal_is_over _ behind = false

-- the stack after a token, if one of the grammar can follow
abbrev pub step_stack : Stack → TokenKind → Option Stack
step_stack [] kind = None
step_stack (goal ∷ goals) kind = take_token goal goals (step_stack goals kind) kind

abbrev pub is_over : Stack → Bool
is_over [] = false
is_over (goal ∷ goals) = goal_is_over goal (is_over goals)

-- Where the tokens leave the grammar, and the tokens from there on: none of them where the end of
-- the text can't stand after the last one. None where they are a whole text.
abbrev pub rest_where_stuck_behind : Limit → Option Stack → List Token → (Stack → Option (List Token))
    → Option (List Token)
rest_where_stuck_behind limit None here further = Some here
rest_where_stuck_behind limit (Some goals) here further =
    if fits_limit limit (depth goals) then further goals else Some here

abbrev pub rest_where_stuck : Limit → Stack → List Token → Option (List Token)
rest_where_stuck limit goals [] = if is_over goals then None else Some []
rest_where_stuck limit goals (token ∷ tokens) =
    rest_where_stuck_behind limit (step_stack goals token.kind) (token ∷ tokens) (λ next. rest_where_stuck limit next tokens)

-- the levels below count too
abbrev pub raise_limit : ℕ → Limit → Limit
raise_limit n unlimited = unlimited
raise_limit n (at_most m) = at_most (n + m)

-- what comes after an expression takes neither a parenthesis nor the mark of a label
pub record EndsExpression (below : Stack) : Type 0 where
  pub call : step_stack below (kinds.Mark points.OpenParenthesis) ≡ None
  pub colon : step_stack below (kinds.Mark points.Colon) ≡ None
  pub question : step_stack below (kinds.Mark points.Question) ≡ None
  pub exclamation : step_stack below (kinds.Mark points.Exclamation) ≡ None

-- the levels that the labels of a chain open
abbrev pub chains : List Label → Stack
chains [] = []
chains (label ∷ labels) = chained ∷ chains labels

-- what follows a row: its first goal at the start and after a comma, else the goal after an item
abbrev pub row_goal : {A : Type 0} → Goal → Goal → Bool → List A → Goal
row_goal first more true items = first
row_goal first more false [] = first
row_goal first more false (item ∷ items) = more

-- whatever has to come after the goals, the tokens leave the grammar here
abbrev pub StopsBefore : Limit → Stack → List Token → List Token → Type 0
StopsBefore limit goals tokens here =
    (below : Stack) → EndsExpression below
    → rest_where_stuck (raise_limit (depth below) limit) (goals ++ below) tokens ≡ Some here

-- the tokens from a place on are the last of the tokens
pub record IsGoalEnd (tokens at : List Token) : Type 0 where
  pub read : List Token
  pub is : tokens ≡ read ++ at

-- Up to b the goals have been read as far as the next ones, within so many levels.
pub record MovesStack (room : ℕ) (goals : Stack) (a : List Token) (next : Stack)
    (b : List Token) : Type 0 where
  pub inside : IsGoalEnd a b
  pub moves : (limit : Limit) (below : Stack) → Within limit (depth below + room)
      → rest_where_stuck limit (goals ++ below) a ≡ rest_where_stuck limit (next ++ below) b

-- within so many levels the tokens are read up to a place
pub record ReadsUpTo (room : ℕ) (goals : Stack) (tokens at : List Token) : Type 0 where
  pub next : Stack
  pub moves : MovesStack room goals tokens next at

-- the parenthesis of a `close(` is here
pub record IsCallHere (tokens here : List Token) : Type 0 where
  pub name : List Token
  pub inside : IsGoalEnd tokens name
  pub call : IsCallOfClose name
  pub behind : drop 1 name ≡ here

-- The symbol before a place has no room, but is read with one level more, which only the symbol at
-- the place can open.
pub record Owes (room : ℕ) (goals : Stack) (tokens at : List Token) : Type 0 where
  pub before : List Token
  pub next : drop 1 before ≡ at
  pub sticks : StopsBefore (at_most room) goals tokens before
  pub goes_on : ReadsUpTo (1 + room) goals tokens at
  pub why : IsTokenAt IsKeywordName before ⊎ IsCallHere tokens before

-- before a place no symbol opens a level too many
abbrev pub StaysWithin : ℕ → Stack → List Token → List Token → Type 0
StaysWithin room goals tokens at =
    StopsBefore (at_most room) goals tokens at ⊎ Owes room goals tokens at

-- an expression can begin with the goal
abbrev pub BeginsOperand : Goal → Type 0
BeginsOperand value = ⊤
BeginsOperand expression = ⊤
BeginsOperand term = ⊤
BeginsOperand unary = ⊤
BeginsOperand elements = ⊤
BeginsOperand dots = ⊤
BeginsOperand _ = ⊥

abbrev pub TakesOperand : Stack → Type 0
TakesOperand [] = ⊥
TakesOperand (goal ∷ goals) = BeginsOperand goal

-- a mark, and no name, stands before a place
pub record FollowsMark (tokens at : List Token) : Type 0 where
  pub token : Token
  pub mark : Punctuation
  pub kind : token.kind ≡ kinds.Mark mark
  pub inside : IsGoalEnd tokens (token ∷ at)

-- an operand begins at a place: the goals do so there, or a mark stands before it
abbrev pub IsOperandHere : Stack → List Token → List Token → Type 0
IsOperandHere goals tokens at = ((tokens ≡ at) × TakesOperand goals) ⊎ FollowsMark tokens at

-- a brace, a bracket or the mark of a label
abbrev pub OpensAlone : TokenKind → Type 0
OpensAlone (kinds.Mark points.OpenBrace) = ⊤
OpensAlone (kinds.Mark points.OpenBracket) = ⊤
OpensAlone (kinds.Mark points.Colon) = ⊤
OpensAlone (kinds.Mark points.Question) = ⊤
OpensAlone (kinds.Mark points.Exclamation) = ⊤
OpensAlone _ = ⊥

-- The symbol opens the level itself, and a parenthesis is that of an operand, or one level more is
-- too few for it.
abbrev pub OpensItself : ℕ → Stack → List Token → List Token → Type 0
OpensItself room goals tokens here =
    IsTokenAt OpensAlone here
    ⊎ (IsSignAt (kinds.Mark points.OpenParenthesis) here
    × (IsOperandHere goals tokens here ⊎ StopsBefore (at_most (1 + room)) goals tokens here))

-- The first symbol that opens a level too many is here. A place names it, or the label before it,
-- where it is a mark.
pub record OpensNear (room : ℕ) (goals : Stack) (tokens at : List Token) : Type 0 where
  pub here : List Token
  pub within : StaysWithin room goals tokens here
  pub goes_on : ReadsUpTo (2 + room) goals tokens (drop 1 here)
  pub opens : OpensItself room goals tokens here
  pub near : ((at ≡ here) × ¬ IsTokenAt IsMark here) ⊎ ((drop 1 at ≡ here) × IsTokenAt IsMark here)

abbrev pub StopsBeforeBy : ℕ → Stack → List Token → Why → List Token → Type 0
StopsBeforeBy room goals tokens (reasons.Memory memory) at = ⊥
StopsBeforeBy room goals tokens reasons.Syntax at =
    StopsBefore unlimited goals tokens at × StaysWithin room goals tokens at
StopsBeforeBy room goals tokens reasons.Nesting at = OpensNear room goals tokens at

-- Why and where the parser stops at tokens that the goals have to read.
pub record ParserStops (room end : ℕ) (goals : Stack) (tokens : List Token) (stop : ParserStop) : Type 0 where
  pub at : List Token
  pub inside : IsGoalEnd tokens at
  pub left : stop.left ≡ length at
  pub by : StopsBeforeBy room goals tokens stop.why at

-- The parser stops for want of memory, or because the goals can't read the tokens.
pub record ParserRefusesAt (room end : ℕ) (goals : Stack) (tokens : List Token) (stop : ParserStop) : Type 0 where
  pub why : IsMemoryParserStop stop ⊎ ParserStops room end goals tokens stop
