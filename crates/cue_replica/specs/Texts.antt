-- What texts mean, and why a text is refused: the definitions of the crates below, put together.
use Rattle.std.specs.Prelude.{◌≡◌, ◌≢◌, ◌⊎◌, ◌<◌, ℕ, false, List, length, Ok, Err}
use Rattle.std.specs.Str.{IsUtf8}
use Rattle.cue_lattice.specs.Limits.{level_limit, text_limit}
use Rattle.cue_lattice.specs.Document.{Document}
use Rattle.cue_lattice.specs.Question.{Refusals}
use Rattle.cue_lattice.specs.Refusal.{memory}
use Rattle.cue_lattice.specs.declared.refusal.Refusal.{Refusal}
use Rattle.cue_lex.specs.First.{begins_some}
use Rattle.cue_lex.specs.Tokens.{tokens}
use Rattle.cue_lex.specs.declared.token.Token.{Token}
use Rattle.cue_syntax.specs.Grammar.{at_most, IsFileTree}
use Rattle.cue_syntax.specs.Refusals.{FitsRefusal}
use Rattle.cue_syntax.specs.Syntax.{FileTree}
use Rattle.cue_scope.specs.Refusing as checks
use Rattle.cue_eval.specs.Texts as meaning
use Rattle.document_laws.specs.Admits as documents

-- the text is one of the grammar, and this is its tree
pub record IsTreeOf (text : List ℕ) (tree : FileTree) : Type 0 where
  pub words : List Token
  pub lexed : tokens text ≡ Ok words
  pub spelled : IsFileTree (at_most level_limit) words tree

-- A text is legal that has no fault among its tokens, is one of the grammar, and passes each check
-- of names, definitions and limits. It is UTF-8, in its comments too.
abbrev pub IsLegalText : List ℕ → Type 0
IsLegalText text =
    (tree : FileTree) × IsTreeOf text tree × checks.IsLegalTree tree.declarations × IsUtf8 text

-- what a text refuses
abbrev pub text_refuses : List ℕ → Refusals
text_refuses text path question =
    (tree : FileTree) × IsTreeOf text tree × meaning.meaning_refuses tree.declarations path question

-- which documents a text admits: those that the declarations of its one tree admit
abbrev pub text_admits : List ℕ → Document → Type 0
text_admits text d =
    (tree : FileTree) → IsTreeOf text tree → documents.table_admits tree.declarations d

-- it is the first fault among the tokens
abbrev pub IsTokenFault : List ℕ → Refusal → Type 0
IsTokenFault text why = (why ≢ memory) × (tokens text ≡ Err why)

-- the tokens are those of no tree, and the refusal fits them
pub record IsUnspelled (end : ℕ) (words : List Token) (why : Refusal) : Type 0 where
  pub none : (tree : FileTree) → ¬ IsFileTree (at_most level_limit) words tree
  pub fits : FitsRefusal level_limit end words why

-- Why a text is refused: the first fault among its tokens; else, where no tree spells these, a
-- refusal that fits them; else the first check that fails. Want of memory is none of these.
abbrev pub IsTextFault : List ℕ → Refusal → Type 0
IsTextFault text why =
    IsTokenFault text why
    ⊎ (((words : List Token) × (tokens text ≡ Ok words) × IsUnspelled (length text) words why)
    ⊎ ((tree : FileTree) × IsTreeOf text tree × checks.TextRefuses tree.declarations why))

-- A text whose fault is found with no memory: it is too long; or it has a fault among its tokens,
-- and begins, white space and comments apart, with neither a token nor a string.
abbrev pub IsTextRefusedAtOnce : List ℕ → Type 0
IsTextRefusedAtOnce text =
    (text_limit < length text)
    ⊎ ((begins_some text ≡ false) × ((why : Refusal) × IsTokenFault text why))
