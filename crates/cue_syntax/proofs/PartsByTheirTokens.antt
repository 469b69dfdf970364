-- What tokens begin with, and the parts of a tree that hold no expression, as a reader of trees sees them. What is said
-- where no such part stands means nothing.
use Rattle.std.proofs.Common.{ℕ, Bool, true, false, ◌&&◌, not, List, [], ◌∷◌}
use Rattle.cue_lex.specs.declared.token.Token.{Token}
use Rattle.cue_lex.specs.declared.token.TokenKind.{TokenKind}
use Rattle.cue_lex.specs.declared.token.TokenKind.TheVariants as kinds
use Rattle.cue_lex.specs.declared.punctuation.Punctuation.TheVariants as points
use Rattle.cue_syntax.specs.declared.tree.Identifier.{Identifier}
use Rattle.cue_syntax.specs.declared.tree.Identifier.TheVariants as identifiers
use Rattle.cue_syntax.specs.declared.tree.Label.{Label}
use Rattle.cue_syntax.specs.declared.tree.LabelName.{LabelName}
use Rattle.cue_syntax.specs.declared.tree.LabelName.TheVariants as names
use Rattle.cue_syntax.specs.declared.tree.Mark.{Mark}
use Rattle.cue_syntax.specs.declared.tree.Mark.TheVariants as marks
use Rattle.cue_syntax.specs.declared.tree.Sign.TheVariants as signs
use Rattle.cue_syntax.specs.declared.tree.Signed.{Signed}

-- what the first token is

-- it opens a parenthesis
abbrev pub is_open : TokenKind → Bool
is_open (kinds.Mark points.OpenParenthesis) = true
is_open _ = false

-- it is the colon of a label, or the `?` or `!` before one
abbrev pub is_mark : TokenKind → Bool
is_mark (kinds.Mark points.Colon) = true
is_mark (kinds.Mark points.Question) = true
is_mark (kinds.Mark points.Exclamation) = true
is_mark _ = false

-- it is `&`
abbrev pub is_and : TokenKind → Bool
is_and (kinds.Mark points.Ampersand) = true
is_and _ = false

-- it is `|`
abbrev pub is_or : TokenKind → Bool
is_or (kinds.Mark points.Bar) = true
is_or _ = false

-- it is a comma
abbrev pub is_comma : TokenKind → Bool
is_comma (kinds.Mark points.Comma) = true
is_comma _ = false

-- it is `...`
abbrev pub is_ellipsis : TokenKind → Bool
is_ellipsis (kinds.Mark points.Ellipsis) = true
is_ellipsis _ = false

-- it is a string
abbrev pub is_text : TokenKind → Bool
is_text (kinds.Text t) = true
is_text _ = false

-- it is a plain name
abbrev pub is_name : TokenKind → Bool
is_name (kinds.Name t) = true
is_name _ = false

-- a declaration begins so
abbrev pub is_entry : TokenKind → Bool
is_entry (kinds.Name t) = true
is_entry (kinds.Text t) = true
is_entry (kinds.Definition t) = true
is_entry (kinds.Mark points.Ellipsis) = true
is_entry _ = false

-- there is a first token, and it passes this test
abbrev pub first : (TokenKind → Bool) → List Token → Bool
first test [] = false
first test (t ∷ ts) = test t.kind

-- the tokens after the first one
abbrev pub behind : List Token → List Token
behind [] = []
behind (t ∷ ts) = ts

-- the place of the first token
abbrev pub place : List Token → ℕ
place [] = 0
place (t ∷ ts) = t.from

-- what the tokens begin with: an expression, a marked term, or something else, as a label
pub data Look : Type 0 where
  plain : Look
  starred : Look
  other : Look

-- what a name or a string begins, by whether the mark of a label stands after it
abbrev pub look_marked : Bool → Look
look_marked true = other
look_marked false = plain

-- what a token of this kind begins, by whether the mark of a label stands after it
abbrev pub look_at : TokenKind → Bool → Look
look_at (kinds.Name t) marked = look_marked marked
look_at (kinds.Text t) marked = look_marked marked
look_at (kinds.Mark points.Star) marked = starred
look_at (kinds.Mark points.Comma) marked = other
look_at (kinds.Mark points.Ellipsis) marked = other
look_at (kinds.Mark points.CloseBracket) marked = other
look_at _ marked = plain

-- what the tokens begin with, by the first two of them
abbrev pub look : List Token → Look
look [] = other
look (t ∷ ts) = look_at t.kind (first is_mark ts)

-- an expression or a marked term begins there
abbrev pub begins : Look → Bool
begins plain = true
begins starred = true
begins other = false

-- a marked term begins there
abbrev pub is_starred : Look → Bool
is_starred plain = false
is_starred starred = true
is_starred other = false

-- a comma stands first, and then an element begins
abbrev pub goes_on_elements : List Token → Bool
goes_on_elements ts = first is_comma ts && begins (look (behind ts))

-- a comma stands first, and then a declaration begins
abbrev pub goes_on_entries : List Token → Bool
goes_on_entries ts = first is_comma ts && first is_entry (behind ts)

-- the clause of a package stands first: a plain name with no mark of a label after it
abbrev pub is_clause : List Token → Bool
is_clause ts = first is_name ts && not (first is_mark (behind ts))

-- the tokens without the first one, or all of them
abbrev pub behind_if : Bool → List Token → List Token
behind_if true ts = behind ts
behind_if false ts = ts

-- the tokens without a comma that stands first
abbrev pub behind_comma : List Token → List Token
behind_comma ts = behind_if (first is_comma ts) ts

-- parts that hold no expression

-- the magnitude of a token that is an integer
abbrev pub magnitude_at : TokenKind → ℕ
magnitude_at (kinds.Integer m) = m
magnitude_at _ = 0

-- the magnitude of the integer that stands first
abbrev pub magnitude : List Token → ℕ
magnitude [] = 0
magnitude (t ∷ ts) = magnitude_at t.kind

-- the integer that begins with a token of this kind, and the tokens after it
abbrev pub signed_at : TokenKind → List Token → Signed × List Token
signed_at (kinds.Integer m) ts = (record { sign = signs.Absent; magnitude = m }, ts)
signed_at (kinds.Mark points.Minus) ts = (record { sign = signs.Minus; magnitude = magnitude ts }, behind ts)
signed_at _ ts = (record { sign = signs.Plus; magnitude = magnitude ts }, behind ts)

-- the integer with its sign that stands first, and the tokens after it
abbrev pub signed : List Token → Signed × List Token
signed [] = (record { sign = signs.Plus; magnitude = 0 }, [])
signed (t ∷ ts) = signed_at t.kind ts

-- the bytes of a token that is a string
abbrev pub text_at : TokenKind → List ℕ
text_at (kinds.Text t) = t
text_at _ = []

-- the bytes of the string that stands first
abbrev pub text_of : List Token → List ℕ
text_of [] = []
text_of (t ∷ ts) = text_at t.kind

-- the identifier that a token of this kind is
abbrev pub identifier_at : TokenKind → Identifier
identifier_at (kinds.Definition t) = identifiers.Definition t
identifier_at (kinds.Hidden t) = identifiers.Hidden t
identifier_at (kinds.Name t) = identifiers.Plain t
identifier_at _ = identifiers.Plain []

-- the identifier that stands first
abbrev pub identifier_of : List Token → Identifier
identifier_of [] = identifiers.Plain []
identifier_of (t ∷ ts) = identifier_at t.kind

-- the name of a label that a token of this kind is
abbrev pub label_name_at : TokenKind → LabelName
label_name_at (kinds.Name t) = names.Plain t
label_name_at (kinds.Text t) = names.Quoted t
label_name_at _ = names.Plain []

-- the name of the label that stands first
abbrev pub label_name_of : List Token → LabelName
label_name_of [] = names.Plain []
label_name_of (t ∷ ts) = label_name_at t.kind

-- the mark of a label, by the kind of the token after its name
abbrev pub mark_at : TokenKind → Mark
mark_at (kinds.Mark points.Question) = marks.Optional
mark_at (kinds.Mark points.Exclamation) = marks.Required
mark_at _ = marks.Regular

-- the mark of a label that stands first
abbrev pub mark_of : List Token → Mark
mark_of [] = marks.Regular
mark_of (t ∷ ts) = mark_at t.kind

-- the tokens after the colon of a label, which has this mark
abbrev pub behind_mark_at : Mark → List Token → List Token
behind_mark_at marks.Regular ts = behind ts
behind_mark_at _ ts = behind (behind ts)

-- the tokens after the mark and the colon of a label that stand first
abbrev pub behind_mark : List Token → List Token
behind_mark ts = behind_mark_at (mark_of ts) ts

-- the label that stands first
abbrev pub label_of : List Token → Label
label_of ts = record { name = label_name_of ts; mark = mark_of (behind ts) }

-- the tokens after the label that stands first
abbrev pub behind_label : List Token → List Token
behind_label ts = behind_mark (behind ts)
