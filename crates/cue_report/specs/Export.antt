-- The document that is exported, told by what is refused at each path, and what an export comes to.
use Rattle.std.specs.Prelude.{◌≡◌, ◌≢◌, ◌↔◌, ◌⊎◌, ◌<◌, ℕ, zero, suc, List, [], ◌∷◌, string_bytes}
use Rattle.cue_lattice.specs.declared.scalar.Scalar.{Scalar}
use Rattle.cue_lattice.specs.declared.scalar.Scalar.TheVariants as scalars
use Rattle.cue_lattice.specs.Path as paths
use Rattle.cue_lattice.specs.Path.{label, index}
use Rattle.cue_lattice.specs.Question.{Refusals, struct, list}
use Rattle.serde_json.specs.Data.{Data, null, boolean, number, string, array, object, Items}
use Rattle.serde_json.specs.Data.{no_items, item, Members, no_members, member}
use Rattle.serde_json.specs.Find.{of_integer}
use Rattle.serde_json.specs.Written.{compact_text}
use Rattle.cue_report.specs.Answers.{IsStepDemanded}
use Rattle.cue_report.specs.Gaps.{IsChosenScalar, IsFreeRow, AreGaps}
use Rattle.cue_report.specs.Listing.{Lists, AreConflicts}
use Rattle.cue_report.specs.Picks.{Pick}
use Rattle.cue_report.specs.declared.outcome.Export.{Export}
use Rattle.cue_report.specs.declared.outcome.Export.TheVariants.{Json, Conflicts, Incomplete}

-- what is refused below a step, the step left out of each path
abbrev pub refused_below : Refusals → paths.Step → Refusals
refused_below refuses step path question = refuses (step ∷ path) question

-- a scalar in JSON
abbrev pub data_of : Scalar → Data
data_of scalars.Null = null
data_of (scalars.Bool b) = boolean b
data_of (scalars.Int n) = number (of_integer n)
data_of (scalars.Text t) = string t

-- the keys of an object, in their order
abbrev pub keys : Members → List (List ℕ)
keys no_members = []
keys (member key json members) = key ∷ keys members

-- how many elements a list has
abbrev pub count_elements : Items → ℕ
count_elements no_items = zero
count_elements (item json items) = suc (count_elements items)

-- The keys are the demanded labels, each once, in the order of their bytes.
abbrev pub AreKeys : Refusals → List (List ℕ) → Type 0
AreKeys refuses = Lists (λ key. label key ∷ []) (λ key. IsStepDemanded refuses [] (label key))

-- The number is the least length: the indexes below it are the demanded ones.
abbrev pub IsLeastLength : Refusals → ℕ → Type 0
IsLeastLength refuses length = (n : ℕ) → IsStepDemanded refuses [] (index n) ↔ (n < length)

-- Neither a struct nor a list may stand; a scalar is picked, and it is this one.
pub record IsScalarOf (pick : Pick) (refuses : Refusals) (json : Data) : Type 0 where
  pub no_struct : refuses [] struct
  pub no_list : refuses [] list
  pub picked : (scalar : Scalar) × pick refuses [] scalar × (json ≡ data_of scalar)

-- null where anything may stand, and elsewhere the scalar that is picked
abbrev pub IsAtom : Pick → Refusals → Data → Type 0
IsAtom pick refuses json = (IsFreeRow refuses [] × (json ≡ null)) ⊎ IsScalarOf pick refuses json

-- The document: null where anything may stand, an object of the demanded labels where a struct may,
-- a list of the least length where a list may and no struct, and the scalar that is picked
-- elsewhere.
abbrev mutual
  pub IsShape : Pick → Refusals → Data → Type 0
  IsShape pick refuses null = IsAtom pick refuses null
  IsShape pick refuses (boolean b) = IsAtom pick refuses (boolean b)
  IsShape pick refuses (number n) = IsAtom pick refuses (number n)
  IsShape pick refuses (string s) = IsAtom pick refuses (string s)
  IsShape pick refuses (array items) =
      refuses [] struct × (¬ refuses [] list) × IsLeastLength refuses (count_elements items)
      × AreElements pick refuses 0 items
  IsShape pick refuses (object members) =
      (¬ refuses [] struct) × (¬ IsFreeRow refuses []) × AreKeys refuses (keys members)
      × AreMembers pick refuses members

  -- each element from the first on is the document of its place
  pub AreElements : Pick → Refusals → ℕ → Items → Type 0
  AreElements pick refuses first no_items = Unit {0}
  AreElements pick refuses first (item json items) =
      IsShape pick (refused_below refuses (index first)) json × AreElements pick refuses (suc first) items

  -- so is each member
  pub AreMembers : Pick → Refusals → Members → Type 0
  AreMembers pick refuses no_members = Unit {0}
  AreMembers pick refuses (member key json members) =
      IsShape pick (refused_below refuses (label key)) json × AreMembers pick refuses members

-- The conflicts, where there are any; otherwise the gaps, where there are any; otherwise the
-- document in JSON without a space, with the chosen scalars.
abbrev pub IsExport : Refusals → Export → Type 0
IsExport refuses (Conflicts found) = (found.items ≢ []) × AreConflicts refuses found.items
IsExport refuses (Incomplete gaps) =
    AreConflicts refuses [] × (gaps.items ≢ []) × AreGaps refuses gaps.items
IsExport refuses (Json text) =
    AreConflicts refuses [] × AreGaps refuses []
    × ((json : Data) × IsShape IsChosenScalar refuses json × (string_bytes text ≡ compact_text json))
