-- What the view of layers and policies is not changed by, what it is without patterns, and which
-- documents it admits.
use Rattle.std.specs.Prelude.{◌≡◌, ◌↔◌, ℕ, List, ◌∷◌, ◌++◌}
use Rattle.std.specs.List.{AllByRecursion}
use Rattle.cue_lattice.specs.Document.{Document, IsDocument}
use Rattle.cue_lattice.specs.Meets.{Meets}
use Rattle.cue_lattice.specs.OneOf.{OneOf}
use Rattle.cue_lattice.specs.Path.{label, Path}
use Rattle.cue_lattice.specs.Question.{Question, OneRefuses, SameAnswers, IsAsNarrowAs}
use Rattle.cue_row.specs.Row.{RowRefusesQuestion}
use Rattle.cue_row.specs.declared.parts.RowParts.{RowParts as Row}
use Rattle.cue_table.specs.Refuses.{TableRefuses}
use Rattle.cue_table.specs.Tree.{Tree}
use Rattle.cue_table.specs.Valid.{IsValidTable}
use Rattle.cue_policies.specs.Documents.{Admits, IsDeclaredIn}
use Rattle.cue_policies.specs.Patterns.{IsPattern, IsPatternOf}
use Rattle.cue_policies.specs.Tables.{table_part, TablesRefuse, ViewOfTwo}
use Rattle.cue_policies.specs.View.{DeclaresAt}
use Rattle.cue_policies.specs.declared.kind.LayerKind.{LayerKind}
use Rattle.cue_policies.specs.declared.kind.LayerKind.TheVariants.{Layer, Policy}

-- layers and policies, each with its table
abbrev pub LawParts : Type 0
LawParts = List (LayerKind × Tree Row)

-- each of the one list is in the other, in any order and however often
abbrev pub AreAmong : LawParts → LawParts → Type 0
AreAmong some all =
    (part : LayerKind × Tree Row) → OneOf (λ other. other ≡ part) some
    → OneOf (λ other. other ≡ part) all

-- more parts refuse more
abbrev pub MoreRefuseMore : Type 0
MoreRefuseMore =
    (some all : LawParts) → AreAmong some all → IsAsNarrowAs (TablesRefuse all) (TablesRefuse some)

-- the order of the parts makes no difference, nor does how often each comes
abbrev pub OrderIsNothing : Type 0
OrderIsNothing =
    (a b : LawParts) → AreAmong a b → AreAmong b a → SameAnswers (TablesRefuse a) (TablesRefuse b)

-- the table refuses exactly what one of the parts of a kind refuses
abbrev pub IsUnifiedOf : LayerKind → LawParts → Tree Row → Type 0
IsUnifiedOf kind parts table =
    (path : Path) (question : Question) → TableRefuses RowRefusesQuestion table path question
    ↔ OneOf (λ part. (part.0 ≡ kind) × TableRefuses RowRefusesQuestion part.1 path question) parts

-- the unified layers and the unified policies have the view of all parts
abbrev pub TwoAreAll : Type 0
TwoAreAll =
    (parts : LawParts) (layers policies : Tree Row) → IsUnifiedOf Layer parts layers
    → IsUnifiedOf Policy parts policies → SameAnswers (ViewOfTwo layers policies) (TablesRefuse parts)

-- nothing is refused at a path with a pattern
abbrev pub PartsHaveNoPattern : LayerKind × Tree Row → Type 0
PartsHaveNoPattern part =
    (path : Path) (question : Question) → TableRefuses RowRefusesQuestion part.1 path question
    → (place : Path) (l : List ℕ) (further : Path) → path ≡ place ++ label l ∷ further
    → ¬ IsPatternOf part.0 l

-- without patterns the view is the unification
abbrev pub PlainIsUnified : Type 0
PlainIsUnified =
    (parts : LawParts) → AllByRecursion PartsHaveNoPattern parts
    → SameAnswers (TablesRefuse parts) (OneRefuses (λ part. TableRefuses RowRefusesQuestion part.1) parts)

-- a label of the view that ends in a star is one that a layer proper declares
abbrev pub PatternsAreNoLabels : Type 0
PatternsAreNoLabels =
    (parts : LawParts) (path : Path) (question : Question) → TablesRefuse parts path question
    → (place : Path) (l : List ℕ) (further : Path) → path ≡ place ++ label l ∷ further → IsPattern l
    → OneOf (λ part. (part.0 ≡ Layer) × DeclaresAt (table_part part) place l) parts

-- the part admits the document
abbrev pub PartAdmits : Document → LayerKind × Tree Row → Type 0
PartAdmits document part = Admits part.0 (TableRefuses RowRefusesQuestion part.1) document

-- a layer proper admits the documents that meet what it refuses
abbrev pub LayersAdmit : Type 0
LayersAdmit =
    (table : Tree Row) (document : Document)
    → PartAdmits document (Layer, table) ↔ Meets (TableRefuses RowRefusesQuestion table) document

-- a document that all parts admit meets their view
abbrev pub AdmittedMeet : Type 0
AdmittedMeet =
    (parts : LawParts) (document : Document) → AllByRecursion (PartAdmits document) parts
    → Meets (TablesRefuse parts) document

-- and one that meets the view, each label of which is declared there, is admitted by all parts
abbrev pub MeetingAreAdmitted : Type 0
MeetingAreAdmitted =
    (parts : LawParts) (document : Document) → Meets (TablesRefuse parts) document
    → IsDeclaredIn (TablesRefuse parts) document → AllByRecursion (PartAdmits document) parts

-- So some document meets the view exactly where all parts admit some document together.
abbrev pub SomeAreAdmitted : Type 0
SomeAreAdmitted =
    (parts : LawParts) (view : Tree Row) → IsValidTable view
    → SameAnswers (TableRefuses RowRefusesQuestion view) (TablesRefuse parts)
    → ((document : Document) × IsDocument document × Meets (TableRefuses RowRefusesQuestion view) document)
    ↔ ((document : Document) × IsDocument document × AllByRecursion (PartAdmits document) parts)
