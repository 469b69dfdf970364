-- Documents, and reports that are exact against them.
use Rattle.std.specs.Prelude.{◌≡◌, string_bytes}
use Rattle.cue_lattice.specs.Document as documents
use Rattle.cue_lattice.specs.Document.{Document, Items, Members, IsDocument}
use Rattle.cue_lattice.specs.Meets.{Meets}
use Rattle.cue_lattice.specs.Question.{Refusals}
use Rattle.serde_json.specs.Data as json
use Rattle.serde_json.specs.Data.{Data, array, object}
use Rattle.serde_json.specs.Written.{compact_text}
use Rattle.cue_report.specs.Export.{data_of, IsShape}
use Rattle.cue_report.specs.Gaps.{IsChosenScalar}
use Rattle.cue_report.specs.Picks.{Pick}
use Rattle.cue_report.specs.declared.outcome.Export.{Export}
use Rattle.cue_report.specs.declared.outcome.Export.TheVariants.{Json, Conflicts, Incomplete}

-- a document in JSON
abbrev mutual
  pub json_of : Document → Data
  json_of (documents.scalar x) = data_of x
  json_of (documents.list items) = array (items_json items)
  json_of (documents.map members) = object (members_json members)

  pub items_json : Items → json.Items
  items_json documents.no_items = json.no_items
  items_json (documents.item d items) = json.item (json_of d) (items_json items)

  pub members_json : Members → json.Members
  members_json documents.no_members = json.no_members
  members_json (documents.member l d members) =
      json.member l (json_of d) (members_json members)

-- some document meets all that is refused
abbrev pub SomeMeets : Refusals → Type 0
SomeMeets refuses = (d : Document) × IsDocument d × Meets refuses d

-- The JSON tells a document that meets all that is refused, in the shape of an export, where the
-- scalars are picked in this way.
pub record IsDocumentOf (pick : Pick) (refuses : Refusals) (told : Data) : Type 0 where
  pub document : Document
  pub is : IsDocument document
  pub meets : Meets refuses document
  pub json : told ≡ json_of document
  pub shape : IsShape pick refuses told

-- An export is exact: with conflicts no document meets what is refused, and what is told in JSON is
-- one that does, with the chosen scalars.
abbrev pub IsExactExport : Refusals → Export → Type 0
IsExactExport refuses (Conflicts found) = ¬ SomeMeets refuses
IsExactExport refuses (Incomplete gaps) = SomeMeets refuses
IsExactExport refuses (Json text) =
    (told : Data) × IsDocumentOf IsChosenScalar refuses told × (string_bytes text ≡ compact_text told)
