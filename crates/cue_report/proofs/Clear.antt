-- Places that are demanded, and documents that meet what is refused there: where one does, nothing
-- conflicts.
use Rattle.std.proofs.Common.{◌≡◌, ◌⊎◌, ◌<◌, ◌≤◌, inl, inr, ⊎_elim, ℕ, zero, suc, Bool, true, false, ◌||◌, List, [], ◌∷◌, ◌++◌, refl, ap, subst, arith}
use Rattle.std.proofs.lemmas.Bool.{cases_lt, false≢true}
use Rattle.cue_lattice.specs.Path as paths
use Rattle.cue_lattice.specs.Path.{label, index, Path}
use Rattle.cue_lattice.specs.Question.{Question, Refusals, struct, list, allows, length_at_most, length_at_least}
use Rattle.cue_lattice.specs.Document as documents
use Rattle.cue_lattice.specs.Document.{Document, Items, Members, IsDocument, AreItems, AreMembers, length_of, HasMember}
use Rattle.cue_lattice.specs.Meets.{Meets, ItemsMeet, MembersMeet, at_label, at_index}
use Rattle.cue_report.specs.Answers.{path_below, IsStepDemanded, IsDemanded, HasNoScalar, HasNoValue, IsNotAllowed}
use Rattle.cue_report.specs.Inner.Clear.{IsClear, IsClearAt}
use Rattle.cue_report.specs.Export.{refused_below}
use Rattle.cue_report.specs.Listing.{IsConflict, AreConflicts}

-- ---- demanded paths, step by step
not_nil : (before : Path) (step : paths.Step) (after : Path) → [] ≡ before ++ step ∷ after → ⊥
not_nil [] step after e = cc
not_nil (x ∷ before) step after e = cc

first_step : (refused : Refusals) (step : paths.Step) (path : Path) → IsDemanded refused (step ∷ path) → IsStepDemanded refused [] step
first_step refused step path h = h [] path step refl

deeper : (refused : Refusals) (step : paths.Step) (before : Path) (next : paths.Step) → IsStepDemanded refused (step ∷ before) next → IsStepDemanded (refused_below refused step) before next
deeper refused step before (label text) h = h
deeper refused step before (index n) h = h

higher : (refused : Refusals) (step : paths.Step) (before : Path) (next : paths.Step) → IsStepDemanded (refused_below refused step) before next → IsStepDemanded refused (step ∷ before) next
higher refused step before (label text) h = h
higher refused step before (index n) h = h

later_steps : (refused : Refusals) (step : paths.Step) (path : Path) → IsDemanded refused (step ∷ path) → IsDemanded (refused_below refused step) path
later_steps refused step path h before after next e = deeper refused step before next (h (step ∷ before) after next (ap (λ p. step ∷ p) e))

pub all_steps : (refused : Refusals) (step : paths.Step) (path : Path) → IsStepDemanded refused [] step → IsDemanded (refused_below refused step) path → IsDemanded refused (step ∷ path)
all_steps refused step path first h [] after next e =
    let same : step ≡ next = cc in
    subst (IsStepDemanded refused []) same first
all_steps refused step path first h (x ∷ before) after next e =
    let same : step ≡ x = cc in
    let rest : path ≡ before ++ next ∷ after = cc in
    subst (λ s. IsStepDemanded refused (s ∷ before) next) same (higher refused step before next (h before after next rest))

pub root_demanded : (refused : Refusals) → IsDemanded refused []
root_demanded refused before after step e = absurd (not_nil before step after e)

-- one step more at the end
one_further : (path : Path) (refused : Refusals) (step : paths.Step) → IsDemanded refused path → IsStepDemanded refused path step → IsDemanded refused (path_below path step)
one_further [] refused step h d = all_steps refused step [] d (root_demanded (refused_below refused step))
one_further (x ∷ path) refused step h d =
    all_steps refused x (path_below path step) (first_step refused x path h)
    (one_further path (refused_below refused x) step (later_steps refused x path h) (deeper refused x path step d))

-- ---- where nothing conflicts
pub clear_here : (refused : Refusals) → IsClear refused → IsClearAt refused []
clear_here refused clear = clear [] (root_demanded refused)

pub clear_below : (refused : Refusals) (step : paths.Step) → IsClear refused → IsStepDemanded refused [] step → IsClear (refused_below refused step)
clear_below refused step clear first path h = clear (step ∷ path) (all_steps refused step path first h)

-- what would be refuted whether P holds or not is refuted
pub either_way : (P : Type 0) → (P → ⊥) → ((P → ⊥) → ⊥) → ⊥
either_way P f g = g f

none_there : (refused : Refusals) (path : Path) (no_value not_allowed : Bool) → AreConflicts refused [] → IsConflict refused (record { path = path; no_value = no_value; not_allowed = not_allowed }) → ⊥
none_there refused path no_value not_allowed h c = h.complete (record { path = path; no_value = no_value; not_allowed = not_allowed }) c

pub value_there : (refused : Refusals) (path : Path) → AreConflicts refused [] → IsDemanded refused path → HasNoValue refused path → ⊥
value_there refused path h d n = either_way (IsNotAllowed refused path)
    (λ a. none_there refused path true true h (record { demanded = d; no_value = (λ t. n, λ v. refl); not_allowed = (λ t. a, λ v. refl); cause = refl }))
    (λ a. none_there refused path true false h (record { demanded = d; no_value = (λ t. n, λ v. refl); not_allowed = (λ t. absurd (false≢true t), λ v. absurd (a v)); cause = refl }))

pub allowed_there : (refused : Refusals) (path : Path) → AreConflicts refused [] → IsDemanded refused path → IsNotAllowed refused path → ⊥
allowed_there refused path h d a =
    none_there refused path false true h
    (record { demanded = d; no_value = (λ t. absurd (false≢true t), λ v. absurd (value_there refused path h d v)); not_allowed = (λ t. a, λ v. refl); cause = refl })

pub clear_from : (refused : Refusals) → AreConflicts refused [] → IsClear refused
clear_from refused h path d = (
  value_there refused path h d,
  λ l wanted r. allowed_there refused (path_below path (label l)) h (one_further path refused (label l) d wanted) (path, l, refl, r),
)

-- ---- places of one kind
-- where fields or lengths are spoken of, only a struct or only a list may stand
abbrev pub OfLabels : Refusals → Path → Type 0
OfLabels refused path = (l : List ℕ) → IsStepDemanded refused path (label l) → HasNoScalar refused path × refused path list

abbrev pub OfLengths : Refusals → Path → (ℕ → Question) → Type 0
OfLengths refused path asked = (n : ℕ) → refused path (asked n) → HasNoScalar refused path × refused path struct

abbrev pub IsDownwardClosed : Refusals → Path → Type 0
IsDownwardClosed refused path = (n m : ℕ) → m ≤ n → refused path (length_at_most n) → refused path (length_at_most m)

abbrev pub Rises : Refusals → Path → Type 0
Rises refused path = (n m : ℕ) → n ≤ m → refused path (length_at_least n) → refused path (length_at_least m)

abbrev pub IsPlaced : Refusals → Type 0
IsPlaced refused =
    (path : Path) → OfLabels refused path × OfLengths refused path length_at_most × OfLengths refused path length_at_least × IsDownwardClosed refused path × Rises refused path

pub placed_below : (refused : Refusals) (step : paths.Step) → IsPlaced refused → IsPlaced (refused_below refused step)
placed_below refused step placed path = placed (step ∷ path)

-- ---- where a document meets all that is refused
-- what stands at a label that a map has, or at an index within a list, meets what is refused there
at_member : (members : Members) (refused : Refusals) (l : List ℕ) → AreMembers members → MembersMeet refused members → HasMember l members → (¬ refused [] (allows l)) × ((d : Document) × IsDocument d × Meets (at_label refused l) d)
at_member documents.no_members refused l is m h = absurd h
at_member (documents.member k d members) refused l is m (inl e) =
    (subst (λ x. refused [] (allows x) → ⊥) e m.0, (d, is.2, subst (λ x. Meets (at_label refused x) d) e m.1))
at_member (documents.member k d members) refused l is m (inr h) = at_member members refused l is.3 m.2 h

at_item : (items : Items) (refused : ℕ → Refusals) (i : ℕ) → AreItems items → ItemsMeet refused items → i < length_of items → (d : Document) × IsDocument d × Meets (refused i) d
at_item documents.no_items refused i is m h = absurd (omega (arith, h))
at_item (documents.item d items) refused zero is m h = (d, is.0, m.0)
at_item (documents.item d items) refused (suc i) is m h = at_item items (λ j. refused (suc j)) i is.1 m.1 (omega (arith, h))

-- a value stands at the place
has_value : (d : Document) (refused : Refusals) → IsDocument d → IsPlaced refused → Meets refused d → ¬ HasNoValue refused []
has_value (documents.scalar x) refused is placed m (inl h) = m (h.0 x is.0)
has_value (documents.scalar x) refused is placed m (inr h) = ⊎_elim (λ g. m (((placed []).1 0 g).0 x is.0)) (λ g. m (((placed []).2 0 g).0 x is.0)) (h.1 0)
has_value (documents.list items) refused is placed m (inl h) = m.0 h.2
has_value (documents.list items) refused is placed m (inr h) = ⊎_elim m.1 m.2 (h.1 (length_of items))
has_value (documents.map members) refused is placed m (inl h) = m.0 h.1
has_value (documents.map members) refused is placed m (inr h) = ⊎_elim (λ g. m.0 ((placed []).1 0 g).1) (λ g. m.0 ((placed []).2 0 g).1) (h.1 0)

-- what a demanded step leads to: the label is allowed, and a document stands there
step_label : (d : Document) (refused : Refusals) (l : List ℕ) → IsDocument d → IsPlaced refused → Meets refused d → IsStepDemanded refused [] (label l) → (¬ refused [] (allows l)) × ((e : Document) × IsDocument e × Meets (refused_below refused (label l)) e)
step_label (documents.scalar x) refused l is placed m h = absurd (m (((placed []).0 l h).0 x is.0))
step_label (documents.list items) refused l is placed m h = absurd (m.0 ((placed []).0 l h).1)
step_label (documents.map members) refused l is placed m h = at_member members refused l is m.2 (m.1 l h)

step_index : (d : Document) (refused : Refusals) (n : ℕ) → IsDocument d → IsPlaced refused → Meets refused d → IsStepDemanded refused [] (index n) → (e : Document) × IsDocument e × Meets (refused_below refused (index n)) e
step_index (documents.scalar x) refused n is placed m h = absurd (m (((placed []).1 n h).0 x is.0))
step_index (documents.map members) refused n is placed m h = absurd (m.0 ((placed []).1 n h).1)
step_index (documents.list items) refused n is placed m h = elim (cases_lt n (length_of items)) [
  | inl low ↦ at_item items (at_index refused) n is m.3 low
  | inr high ↦ absurd (m.1 ((placed []).3 n (length_of items) high h))
]

one_step : (step : paths.Step) (d : Document) (refused : Refusals) → IsDocument d → IsPlaced refused → Meets refused d → IsStepDemanded refused [] step → (e : Document) × IsDocument e × Meets (refused_below refused step) e
one_step (label l) d refused is placed m h = (step_label d refused l is placed m h).1
one_step (index n) d refused is placed m h = step_index d refused n is placed m h

meets_value : (path : Path) (d : Document) (refused : Refusals) → IsDocument d → IsPlaced refused → Meets refused d → IsDemanded refused path → HasNoValue refused path → ⊥
meets_value [] d refused is placed m h n = has_value d refused is placed m n
meets_value (step ∷ path) d refused is placed m h n =
    let next = one_step step d refused is placed m (first_step refused step path h) in
    meets_value path next.0 (refused_below refused step) next.1 (placed_below refused step placed) next.2 (later_steps refused step path h) n

meets_labels : (above : Path) (l : List ℕ) (d : Document) (refused : Refusals) → IsDocument d → IsPlaced refused → Meets refused d → IsDemanded refused (path_below above (label l)) → refused above (allows l) → ⊥
meets_labels [] l d refused is placed m h r = (step_label d refused l is placed m (first_step refused (label l) [] h)).0 r
meets_labels (step ∷ above) l d refused is placed m h r =
    let next = one_step step d refused is placed m (first_step refused step (path_below above (label l)) h) in
    meets_labels above l next.0 (refused_below refused step) next.1 (placed_below refused step placed) next.2 (later_steps refused step (path_below above (label l)) h) r

meets_allowed : (path : Path) (d : Document) (refused : Refusals) → IsDocument d → IsPlaced refused → Meets refused d → IsDemanded refused path → IsNotAllowed refused path → ⊥
meets_allowed path d refused is placed m h (above, l, e, r) = meets_labels above l d refused is placed m (subst (IsDemanded refused) e h) r

one_cause : (a b : Bool) → (a || b) ≡ true → (a ≡ true) ⊎ (b ≡ true)
one_cause true b e = inl refl
one_cause false b e = inr e

-- Where a document meets all that is refused, nothing conflicts.
pub no_conflicts : (d : Document) (refused : Refusals) → IsDocument d → IsPlaced refused → Meets refused d → AreConflicts refused []
no_conflicts d refused is placed m = record {
  sound = tt;
  complete = λ conflict c. ⊎_elim
      (λ (v : conflict.no_value ≡ true). meets_value conflict.path d refused is placed m c.demanded (c.no_value.0 v))
      (λ (a : conflict.not_allowed ≡ true). meets_allowed conflict.path d refused is placed m c.demanded (c.not_allowed.0 a))
      (one_cause conflict.no_value conflict.not_allowed c.cause);
  rising = tt;
}
