-- The laws of the view, for layers and policies with tables.
use Rattle.std.proofs.Common.{◌≡◌, inl, inr, ⊎_elim, ℕ, suc, List, [], ◌∷◌, ◌++◌, refl, sym, ap, subst}
use Rattle.std.proofs.Common.{◌≤◌, ◌↔◌, Some}
use Rattle.std.specs.List.{AllByRecursion}
use Rattle.cue_lattice.specs.Limits.{step_limit}
use Rattle.cue_lattice.proofs.Meeting.{same}
use Rattle.cue_row.specs.Row.{RefusesAsked, IsRow}
use Rattle.cue_table.specs.Depth.{tree_depth}
use Rattle.cue_table.specs.Form.{IsRowKept, IsTable}
use Rattle.cue_table.specs.Valid.{IsValidTable}
use Rattle.cue_table.proofs.Depth.{depth_rows}
use Rattle.cue_policies.specs.Inner.Parts.{IsSoundTree}
use Rattle.cue_policies.proofs.Pruned.{pruned, pruned_meets, pruned_declared, pruned_is}
use Rattle.cue_policies.proofs.Soundness.{valid_is_root}
use Rattle.cue_lattice.specs.Document.{Document, scalar, list, map, Items, no_items, item, Members, no_members, member}
use Rattle.cue_lattice.specs.Meets.{at_label, at_index, Meets, ItemsMeet, MembersMeet}
use Rattle.cue_lattice.specs.Path.{label, index, Path}
use Rattle.cue_lattice.specs.Question.{Question, Refusals}
use Rattle.cue_row.specs.declared.parts.RowParts.{RowParts as Row}
use Rattle.cue_table.specs.Tree.{Tree}
use Rattle.cue_policies.specs.Documents.{Admits, ItemsAdmitted, MembersAdmitted}
use Rattle.cue_policies.specs.Laws.{LawParts, MoreRefuseMore, OrderIsNothing, IsUnifiedOf, TwoAreAll, PartsHaveNoPattern, PlainIsUnified, PatternsAreNoLabels, PartAdmits, LayersAdmit, AdmittedMeet, MeetingAreAdmitted, SomeAreAdmitted}
use Rattle.cue_policies.specs.Patterns.{IsPattern, IsPatternOf}
use Rattle.cue_policies.specs.Tables.{table_part, TablesRefuse}
use Rattle.cue_policies.specs.View.{DeclaresAt}
use Rattle.cue_policies.specs.Inner.Answers.{PolicyTreeRefusals}
use Rattle.cue_policies.specs.Inner.Below.{HasPatternOf}
use Rattle.cue_policies.specs.declared.kind.LayerKind.{LayerKind}
use Rattle.cue_policies.specs.declared.kind.LayerKind.TheVariants.{Layer, Policy}
use Rattle.cue_policies.proofs.Admitted.{admitted_meets, meeting_is_admitted}
use Rattle.cue_policies.proofs.Views.{IsIn, pick, put, view_as, more_refuse_more, view_of_wholes, plain_view}

pub more : MoreRefuseMore
more some all among path question h = more_refuse_more table_part some all among path question h

pub order : OrderIsNothing
order a b there back path question = (more_refuse_more table_part a b there path question, more_refuse_more table_part b a back path question)

-- ---- two tables for all
table_of : Tree Row → Tree Row → LayerKind → Tree Row
table_of layers policies Layer = layers
table_of layers policies Policy = policies

unified_kind : (parts : LawParts) (layers policies : Tree Row) → IsUnifiedOf Layer parts layers → IsUnifiedOf Policy parts policies → (kind : LayerKind) → IsUnifiedOf kind parts (table_of layers policies kind)
unfolding table_of
unified_kind parts layers policies h k Layer = h
unified_kind parts layers policies h k Policy = k

pub two : TwoAreAll
unfolding table_of
two parts layers policies h k path question =
    let unified : LayerKind → Refusals = λ kind. PolicyTreeRefusals (table_of layers policies kind) in
    let whole = view_of_wholes table_part parts unified (λ kind p q. unified_kind parts layers policies h k kind p q) path question in
    let to = view_as table_part ((Layer, layers) ∷ (Policy, policies) ∷ []) (λ kind. record { kind = kind; refuses = unified kind }) (Layer ∷ Policy ∷ []) (λ p q r. r) (λ p l r. r) path question in
    let from = view_as (λ kind. record { kind = kind; refuses = unified kind }) (Layer ∷ Policy ∷ []) table_part ((Layer, layers) ∷ (Policy, policies) ∷ []) (λ p q r. r) (λ p l r. r) path question in
    (λ r. whole.0 (to r), λ r. from (whole.1 r))

-- ---- without patterns
-- a pattern on a path is one of its labels
pattern_at : (kind : LayerKind) (path : Path) → HasPatternOf kind path → (place : Path) × (l : List ℕ) × (further : Path) × (path ≡ place ++ label l ∷ further) × IsPatternOf kind l
pattern_at kind [] h = absurd h
pattern_at kind (label l ∷ path) h = ⊎_elim
    (λ is. ([], l, path, refl, is))
    (λ r. let at = pattern_at kind path r in (label l ∷ at.0, at.1, at.2, ap (λ p. label l ∷ p) at.3, at.4))
    h
pattern_at kind (index n ∷ path) h = let at = pattern_at kind path h in (index n ∷ at.0, at.1, at.2, ap (λ p. index n ∷ p) at.3, at.4)

all_in : {X : Type 0} (P : X → Type 0) (xs : List X) → AllByRecursion P xs → (x : X) → IsIn x xs → P x
all_in P [] all x is = absurd is
all_in P (y ∷ ys) all x is = ⊎_elim (λ e. subst P e all.0) (λ r. all_in P ys all.1 x r) is

in_all : {X : Type 0} (P : X → Type 0) (xs : List X) → ((x : X) → IsIn x xs → P x) → AllByRecursion P xs
in_all P [] h = tt
in_all P (x ∷ xs) h = (h x (inl refl), in_all P xs (λ y is. h y (inr is)))

pub plain_unified : PlainIsUnified
plain_unified parts all path question =
    plain_view table_part parts
    (λ part is p q r has. let at = pattern_at part.0 p has in all_in PartsHaveNoPattern parts all part is p q r at.0 at.1 at.2 at.3 at.4) path question

-- ---- patterns are no labels
is_layer : (kind : LayerKind) (l : List ℕ) → IsPattern l → ¬ IsPatternOf kind l → kind ≡ Layer
is_layer Layer l is plain = refl
is_layer Policy l is plain = absurd (plain is)

pub no_labels : PatternsAreNoLabels
no_labels parts path question h place l further e is =
    let one = pick (λ part. DeclaresAt (table_part part) place l) parts (h.0 place l further e) in
    put (λ part. (part.0 ≡ Layer) × DeclaresAt (table_part part) place l) parts one.0 one.1 (is_layer one.0.0 l is one.2.4, one.2)

-- ---- documents
mutual
  admits_meets : (r : Refusals) (d : Document) → Admits Layer r d → Meets r d
  admits_meets r (scalar x) h = h
  admits_meets r (list items) h = (h.0, h.1, h.2, items_meet (at_index r) items h.3)
  admits_meets r (map members) h = (h.0, λ l q. h.1 l (λ n. n) q, members_meet r members h.2)

  items_meet : (r : ℕ → Refusals) (items : Items) → ItemsAdmitted Layer r items → ItemsMeet r items
  items_meet r no_items h = tt
  items_meet r (item d items) h = (admits_meets (r 0) d h.0, items_meet (λ i. r (suc i)) items h.1)

  members_meet : (r : Refusals) (members : Members) → MembersAdmitted Layer r members → MembersMeet r members
  members_meet r no_members h = tt
  members_meet r (member l d members) h = (h.0, admits_meets (at_label r l) d (h.1 l (inl (refl, λ n. n))), members_meet r members h.2)

mutual
  meets_admits : (r : Refusals) (d : Document) → Meets r d → Admits Layer r d
  meets_admits r (scalar x) h = h
  meets_admits r (list items) h = (h.0, h.1, h.2, items_admitted (at_index r) items h.3)
  meets_admits r (map members) h = (h.0, λ l plain q. h.1 l q, members_admitted r members h.2)

  items_admitted : (r : ℕ → Refusals) (items : Items) → ItemsMeet r items → ItemsAdmitted Layer r items
  items_admitted r no_items h = tt
  items_admitted r (item d items) h = (meets_admits (r 0) d h.0, items_admitted (λ i. r (suc i)) items h.1)

  members_admitted : (r : Refusals) (members : Members) → MembersMeet r members → MembersAdmitted Layer r members
  members_admitted r no_members h = tt
  members_admitted r (member l d members) h = (
    h.0,
    λ own c. ⊎_elim
        (λ named. subst (λ m. Admits Layer (at_label r m) d) (sym named.0) (meets_admits (at_label r l) d h.1))
        (λ bound. absurd bound.0)
        c,
    members_admitted r members h.2,
  )

pub layers_admit : LayersAdmit
layers_admit table document = (admits_meets (PolicyTreeRefusals table) document, meets_admits (PolicyTreeRefusals table) document)

pub admitted_meet : AdmittedMeet
admitted_meet parts document all = admitted_meets table_part parts document (λ part is. all_in (PartAdmits document) parts all part is)

pub meeting_are_admitted : MeetingAreAdmitted
meeting_are_admitted parts document meets known = in_all (PartAdmits document) parts (λ part is. meeting_is_admitted table_part parts document meets known part is)

-- a valid table without the labels that it does not declare
valid_depth : (view : Tree Row) → IsValidTable view → tree_depth view ≤ step_limit
valid_depth view valid = depth_rows (IsRowKept RefusesAsked IsRow) step_limit view valid.form (λ path row e. valid.paths path row e)

valid_good : (view : Tree Row) → IsValidTable view → (tree : Tree Row) → Some view ≡ Some tree → IsTable RefusesAsked IsRow tree × IsSoundTree tree
valid_good view valid tree e =
    let same : view ≡ tree = cc in
    subst (λ t. IsTable RefusesAsked IsRow t × IsSoundTree t) same (valid.form, (valid_is_root view valid (valid_depth view valid)).0)

pub some_admitted : SomeAreAdmitted
some_admitted parts view valid answers = (
  λ h.
      let r : Refusals = TablesRefuse parts in
      let meets = (same (PolicyTreeRefusals view) r answers h.0).0 h.2 in
      let found : (path : Path) (question : Question) → r path question ↔ PolicyTreeRefusals view path question = λ path question. ((answers path question).1, (answers path question).0) in
      let d : Document = pruned (Some view) h.0 in (
        d,
        pruned_is (Some view) h.0 h.1,
        meeting_are_admitted parts d (pruned_meets r (Some view) h.0 found meets) (pruned_declared r (Some view) h.0 found (valid_good view valid)),
      ),
  λ h. (h.0, h.1, (same (PolicyTreeRefusals view) (TablesRefuse parts) answers h.0).1 (admitted_meet parts h.0 h.2)),
)
