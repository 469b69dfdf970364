-- What is written while the places of a table are walked.
use Rattle.std.specs.Prelude.{◌≡◌, ◌⊎◌, ℕ, List, [], false, Option}
use Rattle.std.specs.Io.KnownBytes.{Appends}
use Rattle.json.specs.Tree.{json_tokens}
use Rattle.serde_json.specs.Data.{Data, array, object, Items, Members}
use Rattle.serde_json.specs.Written.{compact_text, has_float, items_have_float, members_have_float}
use Rattle.serde_json.specs.Written.{outline}
use Rattle.cue_device.specs.Texts.{WritesPrefix}
use Rattle.cue_lattice.specs.Path.{Path}
use Rattle.cue_lattice.specs.Question.{Refusals, struct, list}
use Rattle.cue_lattice.specs.declared.scalar.Scalar.{Scalar}
use Rattle.cue_report.specs.Answers.{HasNoScalar, IsDemanded}
use Rattle.cue_report.specs.Inner.Clear.{IsClear}
use Rattle.cue_report.specs.Export.{IsShape, AreKeys, AreMembers, AreElements, keys, count_elements, data_of}
use Rattle.cue_report.specs.Gaps.{IsChosenScalar}
use Rattle.cue_report.specs.Picks.{IsPicked}
use Rattle.cue_report.specs.Stream.{Flow, WritesTokens, WritesTokensPrefix}

-- this JSON is told
abbrev pub WritesJson : Flow → Flow → Data → Type 0
WritesJson old new json = WritesTokens old new (json_tokens (outline json))

-- the document of what is refused so, where nothing conflicts; it has no fractions
abbrev pub IsDocumentOf : Refusals → Data → Type 0
IsDocumentOf refuses json =
    (IsClear refuses → IsShape IsPicked refuses json) × (has_float json ≡ false)

-- it is told
abbrev pub WritesDocument : Refusals → Flow → Flow → Type 0
WritesDocument refuses old new = (json : Data) × WritesJson old new json × IsDocumentOf refuses json

-- so is the object of what is demanded below a struct
pub record WritesMembers (refuses : Refusals) (old new : Flow) : Type 0 where
  pub members : Members
  pub adds : WritesJson old new (object members)
  pub keys_are : AreKeys refuses (keys members)
  pub documents : IsClear refuses → AreMembers IsPicked refuses members
  pub no_float : members_have_float members ≡ false

-- so is the list of so many elements
pub record WritesElements (refuses : Refusals) (least : ℕ) (old new : Flow) : Type 0 where
  pub items : Items
  pub adds : WritesJson old new (array items)
  pub length : count_elements items ≡ least
  pub documents : IsClear refuses → AreElements IsPicked refuses 0 items
  pub no_float : items_have_float items ≡ false

-- so is the scalar that is picked, or null where there is none
pub record WritesScalar (refuses : Refusals) (old new : Flow) : Type 0 where
  pub json : Data
  pub adds : WritesJson old new json
  pub picked : ((scalar : Scalar) × IsPicked refuses [] scalar × (json ≡ data_of scalar))
      ⊎ HasNoScalar refuses []
  pub no_float : has_float json ≡ false

-- at no demanded place may only scalars stand of which none is chosen
abbrev pub IsSettled : Refusals → Type 0
IsSettled refuses =
    (path : Path) → IsDemanded refuses path → refuses path struct → refuses path list
    → ((scalar : Scalar) → ¬ IsChosenScalar refuses path scalar) → ⊥

-- The sink took the front of what was told with the document behind it, where that is an export.
abbrev pub BreaksInDocument : Refusals → Flow → Option (List ℕ) → Type 0
BreaksInDocument refuses old known =
    IsClear refuses → IsSettled refuses → (json : Data) → IsShape IsChosenScalar refuses json
    → WritesTokensPrefix old known (json_tokens (outline json))

-- so with an object
abbrev pub BreaksInMembers : Refusals → Flow → Option (List ℕ) → Type 0
BreaksInMembers refuses old known =
    IsClear refuses → IsSettled refuses → (members : Members) → AreKeys refuses (keys members)
    → AreMembers IsChosenScalar refuses members
    → WritesTokensPrefix old known (json_tokens (outline (object members)))

-- and with a list
abbrev pub BreaksInElements : Refusals → ℕ → Flow → Option (List ℕ) → Type 0
BreaksInElements refuses least old known =
    IsClear refuses → IsSettled refuses → (items : Items) → count_elements items ≡ least
    → AreElements IsChosenScalar refuses 0 items → WritesTokensPrefix old known (json_tokens (outline (array items)))

-- the text of the document is put behind known bytes
abbrev pub PutsDocument : Refusals → Option (List ℕ) → Option (List ℕ) → Type 0
PutsDocument refuses old new =
    (json : Data) × Appends old new (compact_text json) × IsDocumentOf refuses json

-- its front is, where it is an export
abbrev pub WritesDocumentPrefix : Refusals → Option (List ℕ) → Option (List ℕ) → Type 0
WritesDocumentPrefix refuses old new =
    IsClear refuses → IsSettled refuses → (json : Data) → IsShape IsChosenScalar refuses json
    → WritesPrefix old new (compact_text json)
