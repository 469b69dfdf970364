-- What is told of a site, against the documents that its pieces admit.
use Rattle.std.specs.Prelude.{◌≡◌, ◌↔◌, List, [], String, string_bytes}
use Rattle.std.specs.Global.{Global}
use Rattle.cue_lattice.specs.Document.{Document, IsDocument}
use Rattle.cue_lattice.specs.Meets.{Meets}
use Rattle.cue_lattice.specs.World.{Piece, IsAdmitted}
use Rattle.serde_json.specs.Data.{Data}
use Rattle.serde_json.specs.Written.{compact_text}
use Rattle.cue_report.specs.Documents.{json_of, IsDocumentOf}
use Rattle.cue_report.specs.Export.{IsShape}
use Rattle.cue_report.specs.Gaps.{IsChosenScalar}
use Rattle.cue_report.specs.Picks.{IsPicked}
use Rattle.cue_report.specs.declared.outcome.Export.TheVariants.{Json}
use Rattle.cue_replica.specs.Language.{Table, language}
use Rattle.cue_replica.specs.Reports.{IsExportOfTable, AreConflictsOf, AreGapsOf}

-- The JSON tells a document that each piece admits.
pub record IsAdmittedDocument (pieces : List Piece) (told : Data) : Type 0 where
  pub document : Document
  pub admitted : IsAdmitted language pieces document
  pub json : told ≡ json_of document

-- Each of its scalars is the chosen one: it has the shape of an export, and as nothing is
-- incomplete there is no place where anything may stand, and null in its stead.
pub record IsOfChosen (table : Table) (told : Data) : Type 0 where
  pub shape : IsShape IsChosenScalar (language.table_refuses table) told
  pub full : AreGapsOf table []

-- A site's reports are exact: its table is met by just the documents that each piece admits; there
-- is no conflict exactly where there is such a document; and what `document` tells is one, and what
-- an export tells, with the chosen scalars.
pub record IsExactSite (table : Table) (pieces : List Piece) : Type 0 where
  pub documents : (d : Document) → IsDocument d
      → IsAdmitted language pieces d ↔ Meets (language.table_refuses table) d
  pub conflicts : AreConflictsOf table [] ↔ ((d : Document) × IsAdmitted language pieces d)
  pub tells : (told : Data) → IsDocumentOf IsPicked (language.table_refuses table) told
      → IsAdmittedDocument pieces told
  pub exports : (text : String Global) → IsExportOfTable table (Json text)
      → (told : Data) × IsAdmittedDocument pieces told × IsOfChosen table told
      × (string_bytes text ≡ compact_text told)
