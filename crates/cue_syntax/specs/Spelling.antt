-- How a tree is spelled: the grammar as a writer of tokens.
use Rattle.std.specs.Prelude.{◌≡◌, ℕ, Bool, true, false, List, [], ◌∷◌, ◌++◌, flat_map, codes}
use Rattle.std.specs.Prelude.{Option, None, Some}
use Rattle.cue_lex.specs.declared.token.Token.{Token}
use Rattle.cue_lex.specs.declared.token.TokenKind.{TokenKind}
use Rattle.cue_lex.specs.declared.token.TokenKind.TheVariants as kinds
use Rattle.cue_lex.specs.declared.punctuation.Punctuation.TheVariants as points
use Rattle.cue_syntax.specs.declared.tree.Identifier.{Identifier}
use Rattle.cue_syntax.specs.declared.tree.Identifier.TheVariants as identifiers
use Rattle.cue_syntax.specs.declared.tree.Label.{Label}
use Rattle.cue_syntax.specs.declared.tree.LabelName.{LabelName}
use Rattle.cue_syntax.specs.declared.tree.LabelName.TheVariants as names
use Rattle.cue_syntax.specs.declared.tree.Mark.{Mark}
use Rattle.cue_syntax.specs.declared.tree.Mark.TheVariants as marks
use Rattle.cue_syntax.specs.declared.tree.Sign.{Sign}
use Rattle.cue_syntax.specs.declared.tree.Sign.TheVariants as signs
use Rattle.cue_syntax.specs.declared.tree.Signed.{Signed}
use Rattle.cue_syntax.specs.declared.tree.Comparison.{Comparison}
use Rattle.cue_syntax.specs.declared.tree.Comparison.TheVariants as comparisons
use Rattle.cue_syntax.specs.declared.tree.Package.{Package}
use Rattle.cue_syntax.specs.Syntax.{FileTree, Expression, name, integer, text, bottom, bound}
use Rattle.cue_syntax.specs.Syntax.{other_integer, other_text, parenthesis, struct, close, list}
use Rattle.cue_syntax.specs.Syntax.{conjunction, disjunction, Elements, no_elements, element}
use Rattle.cue_syntax.specs.Syntax.{Rest, no_rest, any_rest, each_rest, Branch, branch}
use Rattle.cue_syntax.specs.Syntax.{Branches, no_branches, next_branch, Entry, ellipsis, field}
use Rattle.cue_syntax.specs.Syntax.{definition, Entries, no_entries, entry}

-- a token as far as a tree knows it: its kind, and the places that the tree keeps of it
pub record SpelledPiece : Type 0 where
  pub kind : TokenKind
  pub places : List ℕ

abbrev pub one : TokenKind → List SpelledPiece
one kind = record { kind = kind; places = [] } ∷ []

abbrev pub one_at : ℕ → TokenKind → List SpelledPiece
one_at from kind = record { kind = kind; places = from ∷ [] } ∷ []

-- the first token stands at this place too
abbrev pub place_first : ℕ → List SpelledPiece → List SpelledPiece
place_first from [] = []
place_first from (piece ∷ pieces) = record { kind = piece.kind; places = from ∷ piece.places } ∷ pieces

abbrev pub comma_if : Bool → List SpelledPiece
comma_if true = one (kinds.Mark points.Comma)
comma_if false = []

abbrev pub star_if : Bool → List SpelledPiece
star_if true = one (kinds.Mark points.Star)
star_if false = []

abbrev pub identifier_kind : Identifier → TokenKind
identifier_kind (identifiers.Plain t) = kinds.Name t
identifier_kind (identifiers.Definition t) = kinds.Definition t
identifier_kind (identifiers.Hidden t) = kinds.Hidden t

abbrev pub comparison_kind : Comparison → TokenKind
comparison_kind comparisons.Less = (kinds.Mark points.Less)
comparison_kind comparisons.AtMost = (kinds.Mark points.AtMost)
comparison_kind comparisons.Greater = (kinds.Mark points.Greater)
comparison_kind comparisons.AtLeast = (kinds.Mark points.AtLeast)

abbrev pub spell_sign : Sign → List SpelledPiece
spell_sign signs.Absent = []
spell_sign signs.Minus = one (kinds.Mark points.Minus)
spell_sign signs.Plus = one (kinds.Mark points.Plus)

abbrev pub spell_signed : Signed → List SpelledPiece
spell_signed n = spell_sign n.sign ++ one (kinds.Integer n.magnitude)

abbrev pub label_kind : LabelName → TokenKind
label_kind (names.Plain t) = kinds.Name t
label_kind (names.Quoted t) = kinds.Text t

abbrev pub spell_mark : Mark → List SpelledPiece
spell_mark marks.Regular = []
spell_mark marks.Optional = one (kinds.Mark points.Question)
spell_mark marks.Required = one (kinds.Mark points.Exclamation)

abbrev pub spell_label : Label → List SpelledPiece
spell_label label =
    one (label_kind label.name) ++ spell_mark label.mark ++ one (kinds.Mark points.Colon)

-- the `...` of a list, after a comma where elements stand before it
abbrev pub spell_dots : Elements → List SpelledPiece
spell_dots no_elements = one (kinds.Mark points.Ellipsis)
spell_dots (element e es) = one (kinds.Mark points.Comma) ++ one (kinds.Mark points.Ellipsis)

abbrev mutual
  pub spell : Expression → List SpelledPiece
  spell (name n from) = one_at from (identifier_kind n)
  spell (integer n) = spell_signed n
  spell (text t) = one (kinds.Text t)
  spell bottom = one kinds.Bottom
  spell (bound c n) = one (comparison_kind c) ++ spell_signed n
  spell (other_integer n) = one (kinds.Mark points.NotEqual) ++ spell_signed n
  spell (other_text t) = one (kinds.Mark points.NotEqual) ++ one (kinds.Text t)
  spell (parenthesis e comma) =
      one (kinds.Mark points.OpenParenthesis) ++ spell e ++ comma_if comma
      ++ one (kinds.Mark points.CloseParenthesis)
  spell (struct es comma) =
      one (kinds.Mark points.OpenBrace) ++ spell_entries es ++ comma_if comma
      ++ one (kinds.Mark points.CloseBrace)
  spell (close from es inner comma) =
      one_at from (kinds.Name (codes "close")) ++ one (kinds.Mark points.OpenParenthesis)
      ++ (one (kinds.Mark points.OpenBrace) ++ spell_entries es ++ comma_if inner
      ++ one (kinds.Mark points.CloseBrace))
      ++ comma_if comma ++ one (kinds.Mark points.CloseParenthesis)
  spell (list es rest comma) =
      one (kinds.Mark points.OpenBracket) ++ spell_elements (kinds.Mark points.Comma) es
      ++ spell_rest es rest ++ comma_if comma ++ one (kinds.Mark points.CloseBracket)
  spell (conjunction es) = spell_elements (kinds.Mark points.Ampersand) es
  spell (disjunction bs) = spell_branches bs

  -- the rest of a list, behind these elements
  pub spell_rest : Elements → Rest → List SpelledPiece
  spell_rest es no_rest = []
  spell_rest es any_rest = spell_dots es
  spell_rest es (each_rest e) = spell_dots es ++ spell e

  -- expressions with a sign between them
  pub spell_elements : TokenKind → Elements → List SpelledPiece
  spell_elements sign no_elements = []
  spell_elements sign (element e es) = spell e ++ spell_more_elements sign es

  pub spell_more_elements : TokenKind → Elements → List SpelledPiece
  spell_more_elements sign no_elements = []
  spell_more_elements sign (element e es) = one sign ++ spell e ++ spell_more_elements sign es

  pub spell_branch : Branch → List SpelledPiece
  spell_branch (branch marked from e) = star_if marked ++ place_first from (spell e)

  pub spell_branches : Branches → List SpelledPiece
  spell_branches no_branches = []
  spell_branches (next_branch b bs) = spell_branch b ++ spell_more_branches bs

  pub spell_more_branches : Branches → List SpelledPiece
  spell_more_branches no_branches = []
  spell_more_branches (next_branch b bs) =
      one (kinds.Mark points.Bar) ++ spell_branch b ++ spell_more_branches bs

  pub spell_entry : Entry → List SpelledPiece
  spell_entry ellipsis = one (kinds.Mark points.Ellipsis)
  spell_entry (field label chain e) = spell_label label ++ flat_map spell_label chain ++ spell e
  spell_entry (definition t from chain e) =
      one_at from (kinds.Definition t) ++ one (kinds.Mark points.Colon)
      ++ flat_map spell_label chain ++ spell e

  pub spell_entries : Entries → List SpelledPiece
  spell_entries no_entries = []
  spell_entries (entry e es) = spell_entry e ++ spell_more_entries es

  pub spell_more_entries : Entries → List SpelledPiece
  spell_more_entries no_entries = []
  spell_more_entries (entry e es) =
      one (kinds.Mark points.Comma) ++ spell_entry e ++ spell_more_entries es

abbrev pub spell_package : Option Package → List SpelledPiece
spell_package None = []
spell_package (Some clause) =
    one (kinds.Name (codes "package")) ++ one (identifier_kind clause.name) ++ comma_if clause.comma

abbrev pub spell_file : FileTree → List SpelledPiece
spell_file file =
    spell_package file.package_clause ++ spell_entries file.declarations ++ comma_if file.comma

-- the token begins at each of the places
abbrev pub BeginsAtEach : Token → List ℕ → Type 0
BeginsAtEach token [] = Unit {0}
BeginsAtEach token (place ∷ places) = (token.from ≡ place) × BeginsAtEach token places

-- the tokens are these pieces, and then the rest
abbrev pub Follows : List Token → List SpelledPiece → List Token → Type 0
Follows tokens [] rest = tokens ≡ rest
Follows [] (piece ∷ pieces) rest = ⊥
Follows (token ∷ tokens) (piece ∷ pieces) rest =
    (token.kind ≡ piece.kind) × BeginsAtEach token piece.places × Follows tokens pieces rest

pub record SpellsTree (tokens : List Token) (pieces : List SpelledPiece) (rest : List Token) : Type 0 where
  pub follows : Follows tokens pieces rest

-- the place is that of the first token, where one is left
abbrev pub IsTokenPlace : List Token → ℕ → Type 0
IsTokenPlace [] from = Unit {0}
IsTokenPlace (token ∷ tokens) from = token.from ≡ from
