-- What the places in a tree tell of it: where its tokens stand, and nothing else.
use Rattle.std.specs.Prelude.{◌≡◌, ◌↔◌, Bool, List, map, Option}
use Rattle.cue_lex.specs.declared.token.Token.{Token}
use Rattle.cue_lex.specs.declared.token.TokenKind.{TokenKind}
use Rattle.cue_syntax.specs.declared.tree.Package.{Package}
use Rattle.cue_syntax.specs.Syntax.{FileTree, Entries}
use Rattle.cue_syntax.specs.Spelling.{SpelledPiece, spell_file}
use Rattle.cue_syntax.specs.Grammar.{Limit, IsFileTree, IsFragment, levels_of_entries}
use Rattle.cue_syntax.specs.Unplaced.{unplaced_entries, unplaced_file}

-- being well formed does not depend on places
abbrev pub KeepsForm : Type 0
KeepsForm =
    (clause : Option Package) (es : Entries) (comma : Bool) → IsFragment clause es comma
    ↔ IsFragment clause (unplaced_entries es) comma

-- the levels do not depend on places
abbrev pub KeepsLevels : Type 0
KeepsLevels = (es : Entries) → levels_of_entries (unplaced_entries es) ≡ levels_of_entries es

abbrev pub kinds_spelled : FileTree → List TokenKind
kinds_spelled file = map (λ (piece : SpelledPiece). piece.kind) (spell_file file)

abbrev pub kinds_of : List Token → List TokenKind
kinds_of tokens = map (λ (token : Token). token.kind) tokens

-- the tokens are a text of the grammar, whose tree is this one but for places
pub record IsFileAnywhere (limit : Limit) (tokens : List Token) (file : FileTree) : Type 0 where
  pub tree : FileTree
  pub is : IsFileTree limit tokens tree
  pub same : unplaced_file tree ≡ unplaced_file file

-- where some tokens are spelled as a tree of the grammar, all tokens of the same kinds are spelled
-- as that tree with other places
abbrev pub IsSpelledAnywhere : Type 0
IsSpelledAnywhere =
    (limit : Limit) (tokens others : List Token) (file : FileTree) → IsFileTree limit others file
    → kinds_of tokens ≡ kinds_of others → IsFileAnywhere limit tokens file
