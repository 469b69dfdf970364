-- What is printed of a place of a view.
use Rattle.std.specs.Prelude.{◌≡◌, ◌⊎◌, ◌<◌, ℕ, List, [], ◌++◌, Option, codes}
use Rattle.cue_replica.specs.Answers.{IsShown, code_of}
use Rattle.cue_lattice.specs.Limits.{step_limit}
use Rattle.cue_lattice.specs.Path.{Path}
use Rattle.cue_layers.specs.declared.layer.Layer.{Layer}
use Rattle.cue_layers_program.specs.Answers.{IsJoinedView}
use Rattle.cue_layers_program.specs.Joined.{IsJoined}
use Rattle.cue_places.specs.Places.{IsFoundPlace}
use Rattle.cue_places.specs.Values.{IsFileValue}
use Rattle.cue_places.specs.declared.lookup.Lookup.{Lookup}
use Rattle.cue_places.specs.declared.lookup.Lookup.TheVariants.{Absent, Barred, Root}
use Rattle.cue_print.specs.Printed.{value_of}
use Rattle.cue_print.specs.Spelled.{line, value_text}
use Rattle.cue_program.specs.declared.SiteQuestion.{SiteQuestion}
use Rattle.cue_program.specs.declared.SiteQuestion.TheVariants as questions
use Rattle.cue_program.specs.declared.Status.{Status}
use Rattle.cue_replica.specs.Language.{Table, language}
use Rattle.cue_replica.specs.Reports.{conflict_line, printed_text}
use Rattle.cue_row.specs.PathText.{path_text}
use Rattle.cue_table.specs.Depth.{tree_depth}

-- the line of what is not there
abbrev pub absent_line : List ℕ → List ℕ
absent_line name = codes "absent " ++ name ++ codes "\n"

-- A table as text, where it may be any: as a file where it is one, and else as a value. No place of
-- a view is as deep as the limit.
abbrev pub IsPrintedAt : Table → List ℕ → Type 0
IsPrintedAt table bytes =
    (IsFileValue table × (bytes ≡ printed_text table))
    ⊎ ((IsFileValue table → ⊥)
    × (tree_depth table < step_limit → bytes ≡ line (value_text (value_of table))))

-- The answer to a question about a table, which may be any, as a run prints it. Nobody asks for the
-- state bytes of a place.
abbrev pub IsShownAt : SiteQuestion → Table → List ℕ → ℕ → Type 0
IsShownAt questions.Export table bytes code =
    (status : Status) × IsShown questions.Export table bytes status × (code ≡ code_of status)
IsShownAt questions.Report table bytes code =
    (status : Status) × IsShown questions.Report table bytes status × (code ≡ code_of status)
IsShownAt _ table bytes code = IsPrintedAt table bytes × (code ≡ 0)

-- What is printed of what is found at a path: that nothing is declared there; the line of the place
-- that bars the path; or the answer about the place as a root of its own.
abbrev pub IsFoundText : SiteQuestion → List ℕ → Lookup → List ℕ → ℕ → Type 0
IsFoundText question path Absent bytes code = (bytes ≡ absent_line path) × (code ≡ 1)
IsFoundText question path (Barred conflict) bytes code =
    (bytes ≡ conflict_line conflict) × (code ≡ 2)
IsFoundText question path (Root table) bytes code = IsShownAt question table bytes code

-- what is printed of the place of a path in the view of files
abbrev pub IsPlaceText : SiteQuestion → List ℕ → List (Option (List ℕ)) → ℕ → List ℕ → ℕ → Type 0
IsPlaceText question path files limit bytes code =
    (steps : Path) × (path_text steps ≡ path) × (view : Table) × IsJoinedView limit files view
    × (found : Lookup) × IsFoundPlace (language.table_refuses view) steps found
    × IsFoundText question path found bytes code

-- Files were joined, for which layers make what is reported at a path. What is written of the layers
-- that are named is not said here.
abbrev pub IsWhyOf : List ℕ → List (Option (List ℕ)) → Type 0
IsWhyOf path files =
    (steps : Path) × (path_text steps ≡ path) × (layers : List Layer) × IsJoined files layers
