-- The table of a legal text is valid.
use Rattle.std.specs.Prelude.{◌≡◌, ◌<◌, ℕ, false, List}
use Rattle.std.specs.List.{AllByRecursion}
use Rattle.cue_lattice.specs.declared.scalar.Scalar.TheVariants.{Text}
use Rattle.cue_lattice.specs.Path.{Path}
use Rattle.cue_lattice.specs.Question.{Question, may_be, usual, allows, length_at_most}
use Rattle.cue_sets.specs.Texts.{is_listed}
use Rattle.cue_row.specs.declared.parts.RowParts.{RowParts as Row}
use Rattle.cue_row.specs.Row as rows
use Rattle.cue_row.specs.ValidRow.{IsWordStep}
use Rattle.cue_table.specs.Tree.{Tree}
use Rattle.cue_table.specs.Form.{IsTable}
use Rattle.cue_table.specs.Valid.{IsValidTable}
use Rattle.cue_syntax.specs.Syntax.{Entries}
use Rattle.cue_syntax.specs.Words.{HaveWordsEntries}
use Rattle.cue_scope.specs.Core.{Core}
use Rattle.cue_scope.specs.Limits.{size}
use Rattle.cue_scope.specs.Meaning.{meant_text}
use Rattle.cue_scope.specs.Refusing.{IsLegalTree}
use Rattle.cue_eval.specs.Refuses.{Refuses}
use Rattle.cue_eval.specs.Evaluated.{HasAnswersOf}
use Rattle.cue_eval.specs.Words.{words, WritesWords}

-- no text of these
abbrev pub IsUnwrittenLabel : Core → List ℕ → Type 0
IsUnwrittenLabel c t = is_listed (words c) t ≡ false

-- the labels on the paths of what is refused are written
abbrev pub PathsAreWritten : Type 0
PathsAreWritten =
    (c : Core) → WritesWords c → (path : Path) (question : Question) → Refuses c path question
    → AllByRecursion IsWordStep path

-- where one label is left out, each one is that isn't written
abbrev pub UnwrittenLabelsAreAlike : Type 0
UnwrittenLabelsAreAlike =
    (c : Core) (path : Path) (k l : List ℕ) → IsUnwrittenLabel c l → Refuses c path (allows k)
    → Refuses c path (allows l)

-- of the texts that aren't written, all may stand or none may, and all are usual or none is
abbrev pub UnwrittenTextsAreAlike : Type 0
UnwrittenTextsAreAlike =
    (c : Core) (path : Path) (t u : List ℕ) → IsUnwrittenLabel c t → IsUnwrittenLabel c u →
    (Refuses c path (may_be (Text t)) → Refuses c path (may_be (Text u)))
    × (Refuses c path (usual (Text t)) → Refuses c path (usual (Text u)))

-- a length that is refused as too small is below the size
abbrev pub LengthsAreWithinSize : Type 0
LengthsAreWithinSize =
    (c : Core) (path : Path) (n : ℕ) → Refuses c path (length_at_most n) → n < size c

-- A table in its one form, with the answers of a legal text that writes words, is valid.
abbrev pub TextsAreValid : Type 0
TextsAreValid =
    (es : Entries) (table : Tree Row) → IsLegalTree es → WritesWords (meant_text es)
    → IsTable rows.RefusesAsked rows.IsRow table →
    HasAnswersOf (meant_text es) table → IsValidTable table

-- A text whose names, labels and strings are words means what writes words.
abbrev pub TextsWriteWords : Type 0
TextsWriteWords = (es : Entries) → HaveWordsEntries es → WritesWords (meant_text es)
