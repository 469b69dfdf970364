-- Reports are exact against documents.
use Rattle.std.proofs.Common.{◌≡◌, ◌↔◌, ℕ, false, nat_eq, List, [], ◌∷◌, length, refl, sym, subst}
use Rattle.cue_lattice.specs.Question.{Refusals}
use Rattle.cue_row.specs.declared.parts.RowParts.{RowParts as Row}
use Rattle.cue_table.specs.Tree.{Tree}
use Rattle.cue_table.specs.Valid.{IsValidTable}
use Rattle.serde_json.specs.Data.{Data}
use Rattle.cue_report.specs.Inner.Clear.{IsClear}
use Rattle.cue_report.specs.Documents.{SomeMeets, IsDocumentOf}
use Rattle.cue_report.specs.Export.{IsShape}
use Rattle.cue_report.specs.Gaps.{IsChosenScalar, AreGaps}
use Rattle.cue_report.specs.Listing.{AreConflicts}
use Rattle.cue_report.specs.Picks.{IsPicked}
use Rattle.cue_report.specs.declared.conflict.Conflict.{Conflict}
use Rattle.cue_report.specs.declared.gap.Gap.{Gap}
use Rattle.cue_report.proofs.Built.{tells}
use Rattle.cue_report.proofs.Clear.{clear_from}
use Rattle.cue_report.proofs.Descent.{Told}
use Rattle.cue_report.proofs.Existing.{exists, free_of_conflicts}
use Rattle.cue_report.proofs.Settled.{settled, chosen_shape, picked_shape}

-- a list of conflicts that has some, where there are none
one_too_many : (refuses : Refusals) (found : List Conflict) → AreConflicts refuses found → AreConflicts refuses [] → found ≡ []
one_too_many refuses [] h none = refl
one_too_many refuses (conflict ∷ found) h none = absurd (none.complete conflict h.sound.0)

-- There are no conflicts exactly where some document meets the table.
pub exact_conflicts : (tree : Tree Row) (found : List Conflict) → AreConflicts (Told tree) found → IsValidTable tree → (found ≡ []) ↔ SomeMeets (Told tree)
exact_conflicts tree found h valid = (
  λ e. exists tree valid (subst (AreConflicts (Told tree)) e h),
  λ some. one_too_many (Told tree) found h (free_of_conflicts tree valid some),
)

pub none_meets : (tree : Tree Row) (found : List Conflict) → AreConflicts (Told tree) found → (found ≡ [] → ⊥) → IsValidTable tree → ¬ SomeMeets (Told tree)
none_meets tree found h some valid m = some ((exact_conflicts tree found h valid).1 m)

-- an export tells a document that meets the table
pub tells_export : (tree : Tree Row) (told : Data) → IsValidTable tree → AreConflicts (Told tree) [] → IsShape IsChosenScalar (Told tree) told → IsDocumentOf IsChosenScalar (Told tree) told
tells_export tree told valid none shape =
    let t = tells tree told valid none (picked_shape told (Told tree) shape) in
    record { document = t.document; is = t.is; meets = t.meets; json = t.json; shape = shape }

-- ---- the calls
-- a list is empty where its length is zero
pub some_items : {X : Type 0} (xs : List X) (len : ℕ) → len ≡ length xs → false ≡ nat_eq len 0 → xs ≡ [] → ⊥
some_items [] len e h n = let no : nat_eq 0 0 ≡ false = subst (λ n. nat_eq n 0 ≡ false) e (sym h) in cc
some_items (x ∷ xs) len e h n = cc

-- what is told of the root
at_table : (branch tree : Tree Row) (told : Data) → branch ≡ tree → (IsClear (Told branch) → IsShape IsPicked (Told branch) told) → AreConflicts (Told tree) [] → IsShape IsPicked (Told tree) told
at_table branch tree told e h none = subst (λ t. IsClear (Told t) → IsShape IsPicked (Told t) told) e h (clear_from (Told tree) none)

pub tells_document : (branch tree : Tree Row) (found : List Conflict) (told : Data) → branch ≡ tree → AreConflicts (Told tree) found → found ≡ []
    → (IsClear (Told branch) → IsShape IsPicked (Told branch) told) → IsValidTable tree → IsDocumentOf IsPicked (Told tree) told
tells_document branch tree found told e h n shape valid =
    let none = subst (AreConflicts (Told tree)) n h in
    tells tree told valid none (at_table branch tree told e shape none)

pub export_shape : (branch tree : Tree Row) (found : List Conflict) (gaps : List Gap) (told : Data) → branch ≡ tree → AreConflicts (Told tree) found → found ≡ [] → AreGaps (Told tree) gaps → gaps ≡ []
    → (IsClear (Told branch) → IsShape IsPicked (Told branch) told) → AreConflicts (Told tree) [] × AreGaps (Told tree) [] × IsShape IsChosenScalar (Told tree) told
export_shape branch tree found gaps told e h n g m shape =
    let none = subst (AreConflicts (Told tree)) n h in
    let full = subst (AreGaps (Told tree)) m g in
    (none, full, chosen_shape told (Told tree) (settled (Told tree) none full) (at_table branch tree told e shape none))

pub some_meets : (tree : Tree Row) (found : List Conflict) → AreConflicts (Told tree) found → found ≡ [] → IsValidTable tree → SomeMeets (Told tree)
some_meets tree found h n valid = (exact_conflicts tree found h valid).0 n
