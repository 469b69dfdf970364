-- A document without the labels that a table does not declare.
use Rattle.std.proofs.Common.{◌≡◌, ◌↔◌, inl, inr, ⊎_elim, ◌+◌, ℕ, suc, List, [], ◌∷◌, Option, Some, None, refl, sym, ap, subst}
use Rattle.std.specs.Option.{option_and_then}
use Rattle.std.specs.Ordering.{nat_cmp}
use Rattle.std.specs.Cmp.Lexicographic.{slice_cmp}
use Rattle.std.specs.declared.cmp.Ordering.TheVariants.{Less}
use Rattle.std.proofs.lemmas.Cmp.{nat_list_cmp_total}
use Rattle.cue_lattice.specs.Document.{Document, scalar, list, map, Items, no_items, item, Members, no_members, member, length_of, HasMember, IsPathBefore, IsDocument, AreItems, AreMembers}
use Rattle.cue_lattice.specs.Meets.{at_label, at_index, Meets, ItemsMeet, MembersMeet}
use Rattle.cue_lattice.specs.Path as paths
use Rattle.cue_lattice.specs.Path.{label, index, Path}
use Rattle.cue_lattice.specs.Question as questions
use Rattle.cue_lattice.specs.Question.{Question, Refusals, level_at_most, length_at_most, length_at_least}
use Rattle.cue_row.specs.Row as rows
use Rattle.cue_row.specs.Row.{RefusesAsked, IsRow}
use Rattle.cue_row.specs.declared.parts.RowParts.{RowParts as Row}
use Rattle.cue_table.specs.Form.{IsRowKept, IsTable}
use Rattle.cue_table.specs.Refuses.{RowRefuses}
use Rattle.cue_table.specs.Tree.{Tree, node, step_into}
use Rattle.cue_table.proofs.Depth.{found_row}
use Rattle.cue_table.proofs.Finding.{found_form}
use Rattle.cue_policies.specs.Documents.{IsDeclaredIn, AreItemsDeclared, AreMembersDeclared}
use Rattle.cue_policies.specs.Inner.Parts.{IsSoundTree}
use Rattle.cue_policies.proofs.Soundness.{tree_into, tree_rows}
use Rattle.cue_policies.proofs.ValidRows.{something}
use Rattle.cue_policies.proofs.Walking.{some_refused}

-- ---- a branch that may be there
abbrev into : Option (Tree Row) → paths.Step → Option (Tree Row)
into found step = option_and_then (λ tree. step_into tree step) found

abbrev FoundRefuses : Option (Tree Row) → Refusals
FoundRefuses found path question = RowRefuses rows.RowRefusesQuestion (found_row found path) question

one_step : (found : Option (Tree Row)) (step : paths.Step) (path : Path) → found_row found (step ∷ path) ≡ found_row (into found step) path
one_step None step path = refl
one_step (Some (node row children rest)) step path = refl

abbrev Same : Refusals → Option (Tree Row) → Type 0
Same r found = (path : Path) (question : Question) → r path question ↔ FoundRefuses found path question

same_below : (r : Refusals) (found : Option (Tree Row)) (step : paths.Step) → Same r found → Same (λ path. r (step ∷ path)) (into found step)
same_below r found step same path question =
    subst (λ row. r (step ∷ path) question ↔ RowRefuses rows.RowRefusesQuestion row question) (one_step found step path) (same (step ∷ path) question)

found_there : (found : Option (Tree Row)) (path : Path) (question : Question) → FoundRefuses found path question → (tree : Tree Row) × (found ≡ Some tree)
found_there None path question h = absurd h
found_there (Some tree) path question h = (tree, refl)

-- a place of a valid table, or nothing
abbrev IsGood : Option (Tree Row) → Type 0
IsGood found = (tree : Tree Row) → found ≡ Some tree → IsTable RefusesAsked IsRow tree × IsSoundTree tree

good_into : (found : Option (Tree Row)) (step : paths.Step) → IsGood found → IsGood (into found step)
good_into None step good tree e = let non : None ≡ Some tree = e in cc
good_into (Some here) step good tree e =
    let is = good here refl in
    ((found_form (IsRowKept RefusesAsked IsRow) step here tree is.0 e).1, inr (tree_into here tree step is.1 e).3)

-- ---- the document
keep : Option (Tree Row) → List ℕ → Document → Members → Members
keep None l d members = members
keep (Some tree) l d members = member l d members

mutual
  pub pruned : Option (Tree Row) → Document → Document
  pruned found (scalar x) = scalar x
  pruned found (list items) = list (pruned_items (λ i. into found (index i)) items)
  pruned found (map members) = map (pruned_members found members)

  pruned_items : (ℕ → Option (Tree Row)) → Items → Items
  pruned_items found no_items = no_items
  pruned_items found (item d items) = item (pruned (found 0) d) (pruned_items (λ i. found (suc i)) items)

  pruned_members : Option (Tree Row) → Members → Members
  pruned_members found no_members = no_members
  pruned_members found (member l d members) = keep (into found (label l)) l (pruned (into found (label l)) d) (pruned_members found members)

same_length : (found : ℕ → Option (Tree Row)) (items : Items) → length_of (pruned_items found items) ≡ length_of items
unfolding pruned
same_length found no_items = refl
same_length found (item d items) = ap (λ n. n + 1) (same_length (λ i. found (suc i)) items)

kept : (o : Option (Tree Row)) (tree : Tree Row) (l : List ℕ) (d : Document) (members : Members) → o ≡ Some tree → keep o l d members ≡ member l d members
unfolding keep
kept None tree l d members e = cc
kept (Some here) tree l d members e = refl

has_keep : (o : Option (Tree Row)) (l m : List ℕ) (d : Document) (members : Members) → HasMember m members → HasMember m (keep o l d members)
unfolding keep
has_keep None l m d members h = h
has_keep (Some tree) l m d members h = inr h

has_pruned : (found : Option (Tree Row)) (members : Members) (l : List ℕ) (tree : Tree Row) → into found (label l) ≡ Some tree → HasMember l members → HasMember l (pruned_members found members)
unfolding pruned
has_pruned found no_members l tree e h = absurd h
has_pruned found (member m d members) l tree e h = ⊎_elim
    (λ (same : m ≡ l).
    let there : into found (label m) ≡ Some tree = subst (λ k. into found (label k) ≡ Some tree) (sym same) e in
    subst (HasMember l) (sym (kept (into found (label m)) tree m (pruned (into found (label m)) d) (pruned_members found members) there)) (inl same))
    (λ rest. has_keep (into found (label m)) m l (pruned (into found (label m)) d) (pruned_members found members) (has_pruned found members l tree e rest))
    h

keep_meets : (r : Refusals) (o : Option (Tree Row)) (l : List ℕ) (d : Document) (members : Members) → MembersMeet r members → (¬ r [] (questions.allows l)) → Meets (at_label r l) d → MembersMeet r (keep o l d members)
unfolding keep
keep_meets r None l d members h allowed meets = h
keep_meets r (Some tree) l d members h allowed meets = (allowed, meets, h)

mutual
  unfolding pruned

  pub pruned_meets : (r : Refusals) (found : Option (Tree Row)) (d : Document) → Same r found → Meets r d → Meets r (pruned found d)
  pruned_meets r found (scalar x) same h = h
  pruned_meets r found (list items) same h = (
    h.0,
    subst (λ n. ¬ r [] (length_at_most n)) (sym (same_length (λ i. into found (index i)) items)) h.1,
    subst (λ n. ¬ r [] (length_at_least n)) (sym (same_length (λ i. into found (index i)) items)) h.2,
    items_meet (at_index r) (λ i. into found (index i)) items (λ i. same_below r found (index i) same) h.3,
  )
  pruned_meets r found (map members) same h = (
    h.0,
    λ l q.
        let there = found_there (into found (label l)) [] (level_at_most 0) ((same_below r found (label l) same [] (level_at_most 0)).0 q) in
        has_pruned found members l there.0 there.1 (h.1 l q),
    members_meet r found members same h.2,
  )

  items_meet : (r : ℕ → Refusals) (found : ℕ → Option (Tree Row)) (items : Items) → ((i : ℕ) → Same (r i) (found i)) → ItemsMeet r items → ItemsMeet r (pruned_items found items)
  items_meet r found no_items same h = tt
  items_meet r found (item d items) same h = (pruned_meets (r 0) (found 0) d (same 0) h.0, items_meet (λ i. r (suc i)) (λ i. found (suc i)) items (λ i. same (suc i)) h.1)

  members_meet : (r : Refusals) (found : Option (Tree Row)) (members : Members) → Same r found → MembersMeet r members → MembersMeet r (pruned_members found members)
  members_meet r found no_members same h = tt
  members_meet r found (member l d members) same h =
      keep_meets r (into found (label l)) l (pruned (into found (label l)) d) (pruned_members found members) (members_meet r found members same h.2) h.0
      (pruned_meets (at_label r l) (into found (label l)) d (same_below r found (label l) same) h.1)

-- ---- each label that is kept is declared
some_there : (found : Option (Tree Row)) (l : List ℕ) (tree : Tree Row) → IsGood found → into found (label l) ≡ Some tree → (below : Path) × (question : Question) × FoundRefuses found (label l ∷ below) question
some_there None l tree good e = let non : None ≡ Some tree = e in cc
some_there (Some here) l tree good e =
    let is = good here refl in
    some_refused here is.0 (λ path row f. something row (tree_rows here path row is.1 f)) (label l) tree e

keep_declared : (r : Refusals) (o : Option (Tree Row)) (l : List ℕ) (d : Document) (members : Members) → AreMembersDeclared r members
    → ((tree : Tree Row) → o ≡ Some tree → (below : Path) × (question : Question) × r (label l ∷ below) question) → IsDeclaredIn (at_label r l) d → AreMembersDeclared r (keep o l d members)
unfolding keep
keep_declared r None l d members h some below = h
keep_declared r (Some tree) l d members h some below = (some tree refl, below, h)

mutual
  unfolding pruned

  pub pruned_declared : (r : Refusals) (found : Option (Tree Row)) (d : Document) → Same r found → IsGood found → IsDeclaredIn r (pruned found d)
  pruned_declared r found (scalar x) same good = tt
  pruned_declared r found (list items) same good = items_declared (at_index r) (λ i. into found (index i)) items (λ i. same_below r found (index i) same) (λ i. good_into found (index i) good)
  pruned_declared r found (map members) same good = members_declared r found members same good

  items_declared : (r : ℕ → Refusals) (found : ℕ → Option (Tree Row)) (items : Items) → ((i : ℕ) → Same (r i) (found i)) → ((i : ℕ) → IsGood (found i)) → AreItemsDeclared r (pruned_items found items)
  items_declared r found no_items same good = tt
  items_declared r found (item d items) same good =
      (pruned_declared (r 0) (found 0) d (same 0) (good 0), items_declared (λ i. r (suc i)) (λ i. found (suc i)) items (λ i. same (suc i)) (λ i. good (suc i)))

  members_declared : (r : Refusals) (found : Option (Tree Row)) (members : Members) → Same r found → IsGood found → AreMembersDeclared r (pruned_members found members)
  members_declared r found no_members same good = tt
  members_declared r found (member l d members) same good =
      keep_declared r (into found (label l)) l (pruned (into found (label l)) d) (pruned_members found members) (members_declared r found members same good)
      (λ tree e. let some = some_there found l tree good e in (some.0, some.1, (same (label l ∷ some.0) some.1).1 some.2))
      (pruned_declared (at_label r l) (into found (label l)) d (same_below r found (label l) same) (good_into found (label l) good))

-- ---- it is a document
keep_before : (o : Option (Tree Row)) (k l : List ℕ) (d : Document) (members : Members) → slice_cmp nat_cmp k l ≡ Less → IsPathBefore k members → IsPathBefore k (keep o l d members)
unfolding keep
keep_before None k l d members less h = h
keep_before (Some tree) k l d members less h = less

before_all : (k l : List ℕ) (members : Members) → slice_cmp nat_cmp k l ≡ Less → IsPathBefore l members → IsPathBefore k members
before_all k l no_members less h = tt
before_all k l (member m d members) less h = nat_list_cmp_total.trans k l m less h

pruned_before : (found : Option (Tree Row)) (k : List ℕ) (members : Members) → AreMembers members → IsPathBefore k members → IsPathBefore k (pruned_members found members)
unfolding pruned
pruned_before found k no_members are h = tt
pruned_before found k (member l d members) are h =
    keep_before (into found (label l)) k l (pruned (into found (label l)) d) (pruned_members found members) h (pruned_before found k members are.3 (before_all k l members h are.1))

keep_members : (o : Option (Tree Row)) (l : List ℕ) (d : Document) (members : Members) → AreMembers members → AreMembers (member l d members) → AreMembers (keep o l d members)
unfolding keep
keep_members None l d members h k = h
keep_members (Some tree) l d members h k = k

mutual
  unfolding pruned

  pub pruned_is : (found : Option (Tree Row)) (d : Document) → IsDocument d → IsDocument (pruned found d)
  pruned_is found (scalar x) h = h
  pruned_is found (list items) h = items_are (λ i. into found (index i)) items h
  pruned_is found (map members) h = members_are found members h

  items_are : (found : ℕ → Option (Tree Row)) (items : Items) → AreItems items → AreItems (pruned_items found items)
  items_are found no_items h = tt
  items_are found (item d items) h = (pruned_is (found 0) d h.0, items_are (λ i. found (suc i)) items h.1)

  members_are : (found : Option (Tree Row)) (members : Members) → AreMembers members → AreMembers (pruned_members found members)
  members_are found no_members h = tt
  members_are found (member l d members) h =
      let rest = members_are found members h.3 in
      keep_members (into found (label l)) l (pruned (into found (label l)) d) (pruned_members found members) rest
      (h.0, pruned_before found l members h.3 h.1, pruned_is (into found (label l)) d h.2, rest)
