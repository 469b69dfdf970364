-- The language is exact against documents, and so are the reports of sites.
use Rattle.std.proofs.Common.{◌≡◌, ◌↔◌, List, [], ◌∷◌, ℕ, String, Global}
use Rattle.std.specs.Prelude.{string_bytes}
use Rattle.cue_lattice.specs.Document.{Document, IsDocument}
use Rattle.cue_lattice.specs.Meets.{Meets}
use Rattle.cue_lattice.specs.Question.{Refusals}
use Rattle.cue_lattice.specs.World.{Piece, AllAlong, IsUnified, IsAdmitted, IsExactOnDocuments, pieces_refuse}
use Rattle.cue_lattice.proofs.Meeting.{each, less, same, admitted_meets, meeting_is_admitted}
use Rattle.cue_row.specs.Row.{RowRefusesQuestion}
use Rattle.cue_table.specs.Refuses.{TableRefuses}
use Rattle.cue_syntax.specs.Syntax.{FileTree}
use Rattle.cue_scope.specs.Meaning.{meant_text}
use Rattle.cue_eval.specs.Texts as meaning
use Rattle.document_laws.proofs.Exact.{exact}
use Rattle.serde_json.specs.Data.{Data}
use Rattle.serde_json.specs.Written.{compact_text}
use Rattle.cue_report.specs.declared.outcome.Export.TheVariants.{Json}
use Rattle.cue_report.specs.Documents.{IsDocumentOf}
use Rattle.cue_report.specs.Picks.{IsPicked}
use Rattle.cue_report.proofs.Exact.{tells_export}
use Rattle.cue_report.proofs.Existing.{exists, free_of_conflicts}
use Rattle.cue_replica.specs.Documents.{IsAdmittedDocument, IsOfChosen, IsExactSite}
use Rattle.cue_replica.specs.Language.{Table, language}
use Rattle.cue_replica.specs.Reports.{IsExportOfTable}
use Rattle.cue_replica.specs.States.{IsTableOf, state_refuses, state_admits}
use Rattle.cue_replica.specs.Texts.{IsTreeOf, text_refuses, text_admits}

abbrev tree_refuses : FileTree → Refusals
tree_refuses tree = meaning.meaning_refuses tree.declarations

texts : (text : List ℕ) (d : Document) → IsDocument d → text_admits text d ↔ Meets (text_refuses text) d
texts text d is = (
  λ h. each (IsTreeOf text) tree_refuses d (λ tree of. (exact (meant_text tree.declarations) d is).0 (h tree of)),
  λ m tree of. (exact (meant_text tree.declarations) d is).1
      (less (text_refuses text) (tree_refuses tree) (λ path question g. (tree, of, g)) d m),
)

states : (bytes : List ℕ) (d : Document) → IsDocument d → state_admits bytes d ↔ Meets (state_refuses bytes) d
states bytes d is = (
  λ h. each (IsTableOf bytes) (TableRefuses RowRefusesQuestion) d h,
  λ m table of. less (state_refuses bytes) (TableRefuses RowRefusesQuestion table) (λ path question g. (table, of, g)) d m,
)

pub exact_language : IsExactOnDocuments Table language
exact_language = record { of_texts = texts; of_states = states }

-- ---- a site
admitted_is : (table : Table) (pieces : List Piece) → IsUnified language table pieces → (d : Document) → IsDocument d → IsAdmitted language pieces d ↔ Meets (language.table_refuses table) d
admitted_is table pieces unified d is =
    let answers = same (language.table_refuses table) (pieces_refuse language pieces) unified.1 d in (
      λ h. answers.1 (admitted_meets Table language exact_language pieces d h),
      λ m. meeting_is_admitted Table language exact_language pieces d is (answers.0 m),
    )

tells : (table : Table) (pieces : List Piece) → IsUnified language table pieces → (told : Data) → IsDocumentOf IsPicked (language.table_refuses table) told → IsAdmittedDocument pieces told
tells table pieces unified told h = record { document = h.document; admitted = (admitted_is table pieces unified h.document h.is).1 h.meets; json = h.json }

exports : (table : Table) (pieces : List Piece) → IsUnified language table pieces → (text : String Global) → IsExportOfTable table (Json text)
    → (told : Data) × IsAdmittedDocument pieces told × IsOfChosen table told × (string_bytes text ≡ compact_text told)
exports table pieces unified text (free, gaps, (told, shape, e)) =
    let h = tells_export table told unified.0 free shape in (
      told,
      record { document = h.document; admitted = (admitted_is table pieces unified h.document h.is).1 h.meets; json = h.json },
      record { shape = shape; full = gaps },
      e,
    )

pub exact_site : (table : Table) (pieces : List Piece) → IsUnified language table pieces → IsExactSite table pieces
exact_site table pieces unified = record {
  documents = admitted_is table pieces unified;
  conflicts = (
    λ free. let found = exists table unified.0 free in (found.0, (admitted_is table pieces unified found.0 found.1).1 found.2),
    λ (d, h). free_of_conflicts table unified.0 (d, h.is, (admitted_is table pieces unified d h.is).0 h),
  );
  tells = tells table pieces unified;
  exports = exports table pieces unified;
}

-- sites are exact that are unified along sets of pieces
pub exact_sites : (tables : List Table) (sets : List (List Piece)) → AllAlong (IsUnified language) tables sets → AllAlong IsExactSite tables sets
exact_sites [] [] h = tt
exact_sites [] (pieces ∷ sets) h = absurd h
exact_sites (table ∷ tables) [] h = absurd h
exact_sites (table ∷ tables) (pieces ∷ sets) h = (exact_site table pieces h.0, exact_sites tables sets h.1)
