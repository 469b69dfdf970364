-- A document that all parts admit meets their view; and one that meets the view, whose labels are declared there, is admitted by each part.
use Rattle.std.proofs.Common.{◌≡◌, ◌↔◌, inl, inr, ⊎_elim, ℕ, suc, List, [], ◌∷◌, ◌++◌, refl, ap, subst}
use Rattle.cue_lattice.specs.Document.{Document, scalar, list, map, Items, no_items, item, Members, no_members, member, length_of, HasMember}
use Rattle.cue_lattice.specs.Meets.{at_label, at_index, Meets, ItemsMeet, MembersMeet}
use Rattle.cue_lattice.specs.Path.{label, index, Path}
use Rattle.cue_lattice.specs.Question as questions
use Rattle.cue_lattice.specs.Question.{Question, Refusals, may_be, struct, allows, level_at_most, length_at_most, length_at_least}
use Rattle.cue_policies.specs.Documents.{Admits, ItemsAdmitted, MembersAdmitted, IsDeclaredIn, AreItemsDeclared, AreMembersDeclared}
use Rattle.cue_policies.specs.Patterns.{IsPatternOf, Concerns}
use Rattle.cue_policies.specs.View.{ViewedPart, IsAlong, IsLevelInView, EndsInPattern, PartRefuses, DeclaresAt, ViewRefuses}
use Rattle.cue_policies.specs.Inner.Below.{Loose, below_name, below_pattern, below_index}
use Rattle.cue_policies.specs.declared.kind.LayerKind.{LayerKind}
use Rattle.cue_policies.proofs.Steps.{refused_below, declared_below, refused_at_index, declared_at_index, refused_at_root}
use Rattle.cue_policies.proofs.Views.{IsIn, pick, put}

-- ---- what refuses less admits more
mutual
  admits_less : (kind : LayerKind) (r s : Refusals) (d : Document) → ((path : Path) (question : Question) → s path question → r path question) → Admits kind r d → Admits kind s d
  admits_less kind r s (scalar x) f h = λ q. h (f [] (may_be x) q)
  admits_less kind r s (list items) f h = (
    λ q. h.0 (f [] questions.list q),
    λ q. h.1 (f [] (length_at_most (length_of items)) q),
    λ q. h.2 (f [] (length_at_least (length_of items)) q),
    items_less kind (at_index r) (at_index s) items (λ i path question q. f (index i ∷ path) question q) h.3,
  )
  admits_less kind r s (map members) f h = (
    λ q. h.0 (f [] struct q),
    λ l plain q. h.1 l plain (f (label l ∷ []) (level_at_most 0) q),
    members_less kind r s members f h.2,
  )

  items_less : (kind : LayerKind) (r s : ℕ → Refusals) (items : Items) → ((i : ℕ) (path : Path) (question : Question) → s i path question → r i path question) → ItemsAdmitted kind r items → ItemsAdmitted kind s items
  items_less kind r s no_items f h = tt
  items_less kind r s (item d items) f h =
      (admits_less kind (r 0) (s 0) d (f 0) h.0, items_less kind (λ i. r (suc i)) (λ i. s (suc i)) items (λ i. f (suc i)) h.1)

  members_less : (kind : LayerKind) (r s : Refusals) (members : Members) → ((path : Path) (question : Question) → s path question → r path question) → MembersAdmitted kind r members → MembersAdmitted kind s members
  members_less kind r s no_members f h = tt
  members_less kind r s (member l d members) f h = (
    λ q. h.0 (f [] (allows l) q),
    λ own c. admits_less kind (at_label r own) (at_label s own) d (λ path question q. f (label own ∷ path) question q) (h.1 own c),
    members_less kind r s members f h.2,
  )

loose_less : (r : Refusals) (path : Path) (question : Question) → Loose r path question → r path question
loose_less r [] question h = h.0
loose_less r (step ∷ path) question h = h

members_loose : (kind : LayerKind) (r : Refusals) (members : Members) → MembersAdmitted kind (Loose r) members → MembersAdmitted kind r members
members_loose kind r no_members h = tt
members_loose kind r (member l d members) h = (λ q. h.0 (q, λ n. n), h.1, members_loose kind r members h.2)

-- a level of the root plays no part
admits_loose : (kind : LayerKind) (r : Refusals) (d : Document) → Admits kind (Loose r) d → Admits kind r d
admits_loose kind r (scalar x) h = λ q. h (q, λ n. n)
admits_loose kind r (list items) h = (λ q. h.0 (q, λ n. n), λ q. h.1 (q, λ n. n), λ q. h.2 (q, λ n. n), h.3)
admits_loose kind r (map members) h = (λ q. h.0 (q, λ n. n), h.1, members_loose kind r members h.2)

-- ---- families of parts
-- what a family of parts has one step further, at a label
abbrev Behind : {X : Type 0} → (X → ViewedPart) → List ℕ → Type 0
Behind {X} part l = (x : X) × (own : List ℕ) × Concerns (part x).kind own l

abbrev behind : {X : Type 0} (part : X → ViewedPart) (l : List ℕ) → Behind part l → ViewedPart
behind part l y = ⊎_elim (λ named. below_name (part y.0) y.1) (λ bound. below_pattern (part y.0) y.1) y.2

abbrev SomeRefuses : {X : Type 0} → (X → ViewedPart) → Path → Question → Type 0
SomeRefuses {X} part path question = (x : X) × PartRefuses (part x) path question

abbrev SomeDeclares : {X : Type 0} → (X → ViewedPart) → Path → List ℕ → Type 0
SomeDeclares {X} part place l = (x : X) × DeclaresAt (part x) place l

abbrev item_of : {X : Type 0} → (X → ViewedPart) → ℕ → X → ViewedPart
item_of part i x = below_index (part x) i

refuses_behind : {X : Type 0} (part : X → ViewedPart) (l : List ℕ) (path : Path) (question : Question) → SomeRefuses part (label l ∷ path) question ↔ SomeRefuses (behind part l) path question
refuses_behind {X} part l path question = (
  λ h.
      let below = (refused_below (part h.0) l path question).0 h.1 in
      ⊎_elim (λ n. ((h.0, below.0, inl n.0), n.1)) (λ b. ((h.0, below.0, inr b.0), b.1)) below.1,
  λ h. back h.0.0 h.0.1 h.0.2 h.1,
)
  where
    back : (x : X) (own : List ℕ) (c : Concerns (part x).kind own l) → PartRefuses (behind part l (x, own, c)) path question → (x : X) × PartRefuses (part x) (label l ∷ path) question
    back x own (inl n) h = (x, (refused_below (part x) l path question).1 (own, inl (n, h)))
    back x own (inr b) h = (x, (refused_below (part x) l path question).1 (own, inr (b, h)))

declares_behind : {X : Type 0} (part : X → ViewedPart) (k : List ℕ) (place : Path) (l : List ℕ) → SomeDeclares part (label k ∷ place) l ↔ SomeDeclares (behind part k) place l
declares_behind {X} part k place l = (
  λ h.
      let below = (declared_below (part h.0) k place l).0 h.1 in
      ⊎_elim (λ n. ((h.0, below.0, inl n.0), n.1)) (λ b. ((h.0, below.0, inr b.0), b.1)) below.1,
  λ h. back h.0.0 h.0.1 h.0.2 h.1,
)
  where
    back : (x : X) (own : List ℕ) (c : Concerns (part x).kind own k) → DeclaresAt (behind part k (x, own, c)) place l → (x : X) × DeclaresAt (part x) (label k ∷ place) l
    back x own (inl n) h = (x, (declared_below (part x) k place l).1 (own, inl (n, h)))
    back x own (inr b) h = (x, (declared_below (part x) k place l).1 (own, inr (b, h)))

required : {X : Type 0} (part : X → ViewedPart) (members : Members) → ((x : X) → Admits (part x).kind (part x).refuses (map members)) → (l : List ℕ) (x : X) → PartRefuses (part x) (label l ∷ []) (level_at_most 0) → HasMember l members
required part members h l x p = by p.0 p.1 p.2 p.3
  where
    by : (written : Path) → IsAlong (part x).kind written (label l ∷ []) → (part x).refuses written (level_at_most 0) → ¬ (EndsInPattern (part x).kind written × IsLevelInView (level_at_most 0)) → HasMember l members
    by [] along r non = absurd along
    by (index n ∷ written) along r non = absurd along
    by (label own ∷ label m ∷ written) along r non = absurd along.1
    by (label own ∷ index n ∷ written) along r non = absurd along.1
    by (label own ∷ []) along r non = ⊎_elim
        (λ named. subst (λ m. HasMember m members) named.0 ((h x).1 own named.1 r))
        (λ bound. absurd (non (bound.0, tt)))
        along.0

below_admits :
    {X : Type 0} (part : X → ViewedPart) (l : List ℕ) (d : Document) (x : X) (own : List ℕ) (c : Concerns (part x).kind own l)
    → Admits (part x).kind (at_label (part x).refuses own) d → Admits (behind part l (x, own, c)).kind (behind part l (x, own, c)).refuses d
below_admits part l d x own (inl named) h = h
below_admits part l d x own (inr bound) h = admits_less (part x).kind (at_label (part x).refuses own) (Loose (at_label (part x).refuses own)) d (loose_less (at_label (part x).refuses own)) h

-- ---- what all parts admit meets what some of them refuse
mutual
  pub all_admit :
      {X : Type 0} (part : X → ViewedPart) (r : Refusals) (d : Document) → ((path : Path) (question : Question) → r path question → SomeRefuses part path question)
      → ((x : X) → Admits (part x).kind (part x).refuses d) → Meets r d
  all_admit part r (scalar x) f h = λ q. let one = f [] (may_be x) q in h one.0 ((refused_at_root (part one.0) (may_be x)).0 one.1)
  all_admit part r (list items) f h = (
    λ q. let one = f [] questions.list q in (h one.0).0 ((refused_at_root (part one.0) questions.list).0 one.1),
    λ q. let one = f [] (length_at_most (length_of items)) q in (h one.0).1 ((refused_at_root (part one.0) (length_at_most (length_of items))).0 one.1),
    λ q. let one = f [] (length_at_least (length_of items)) q in (h one.0).2 ((refused_at_root (part one.0) (length_at_least (length_of items))).0 one.1),
    all_items (λ i x. at_index (part x).refuses i) (λ x. (part x).kind) (at_index r) items
        (λ i path question q. let one = f (index i ∷ path) question q in (one.0, (refused_at_index (part one.0) i path question).0 one.1))
        (λ x. (h x).3),
  )
  all_admit part r (map members) f h = (
    λ q. let one = f [] struct q in (h one.0).0 ((refused_at_root (part one.0) struct).0 one.1),
    λ l q. let one = f (label l ∷ []) (level_at_most 0) q in required part members h l one.0 one.1,
    all_members part r members f (λ x. (h x).2),
  )

  all_items :
      {X : Type 0} (refused : ℕ → X → Refusals) (kind : X → LayerKind) (r : ℕ → Refusals) (items : Items)
      → ((i : ℕ) (path : Path) (question : Question) → r i path question → (x : X) × PartRefuses (record { kind = kind x; refuses = refused i x }) path question)
      → ((x : X) → ItemsAdmitted (kind x) (λ i. refused i x) items) → ItemsMeet r items
  all_items refused kind r no_items f h = tt
  all_items refused kind r (item d items) f h = (
    all_admit (λ x. record { kind = kind x; refuses = refused 0 x }) (r 0) d (f 0) (λ x. (h x).0),
    all_items (λ i x. refused (suc i) x) kind (λ i. r (suc i)) items (λ i. f (suc i)) (λ x. (h x).1),
  )

  all_members :
      {X : Type 0} (part : X → ViewedPart) (r : Refusals) (members : Members) → ((path : Path) (question : Question) → r path question → SomeRefuses part path question)
      → ((x : X) → MembersAdmitted (part x).kind (part x).refuses members) → MembersMeet r members
  all_members part r no_members f h = tt
  all_members part r (member l d members) f h = (
    λ q. let one = f [] (allows l) q in (h one.0).0 ((refused_at_root (part one.0) (allows l)).0 one.1),
    all_admit (behind part l) (at_label r l) d (λ path question q. (refuses_behind part l path question).0 (f (label l ∷ path) question q)) (λ y. below_admits part l d y.0 y.1 y.2 ((h y.0).1 y.1 y.2)),
    all_members part r members f (λ x. (h x).2),
  )

-- ---- what meets all that some parts refuse, each of them admits
nowhere : (place : Path) (l : List ℕ) (further : Path) → [] ≡ place ++ label l ∷ further → ⊥
nowhere [] l further e = cc
nowhere (step ∷ place) l further e = cc

abbrev AreDeclared : {X : Type 0} → (X → ViewedPart) → Path → Type 0
AreDeclared part path = (place : Path) (l : List ℕ) (further : Path) → path ≡ place ++ label l ∷ further → SomeDeclares part place l

at_root : {X : Type 0} (part : X → ViewedPart) → AreDeclared part []
at_root part place l further e = absurd (nowhere place l further e)

index_out : {X : Type 0} (part : X → ViewedPart) (i : ℕ) (path : Path) → AreDeclared (item_of part i) path → AreDeclared part (index i ∷ path)
index_out part i path h [] l further e = cc
index_out part i path h (label m ∷ place) l further e = cc
index_out part i path h (index n ∷ place) l further e =
    let same : i ≡ n = cc in let more : path ≡ place ++ label l ∷ further = cc in
    let one = h place l further more in
    subst (λ m. SomeDeclares part (index m ∷ place) l) same (one.0, (declared_at_index (part one.0) i place l).1 one.1)

index_in : {X : Type 0} (part : X → ViewedPart) (i : ℕ) (path : Path) → AreDeclared part (index i ∷ path) → AreDeclared (item_of part i) path
index_in part i path h place l further e =
    let one = h (index i ∷ place) l further (ap (λ p. index i ∷ p) e) in
    (one.0, (declared_at_index (part one.0) i place l).0 one.1)

label_out : {X : Type 0} (part : X → ViewedPart) (k : List ℕ) (path : Path) → SomeDeclares part [] k → AreDeclared (behind part k) path → AreDeclared part (label k ∷ path)
label_out part k path here h [] l further e = let same : k ≡ l = cc in subst (λ m. SomeDeclares part [] m) same here
label_out part k path here h (index n ∷ place) l further e = cc
label_out part k path here h (label m ∷ place) l further e =
    let same : k ≡ m = cc in let more : path ≡ place ++ label l ∷ further = cc in
    subst (λ n. SomeDeclares part (label n ∷ place) l) same ((declares_behind part k place l).1 (h place l further more))

label_in : {X : Type 0} (part : X → ViewedPart) (k : List ℕ) (path : Path) → AreDeclared part (label k ∷ path) → AreDeclared (behind part k) path
label_in part k path h place l further e = (declares_behind part k place l).0 (h (label k ∷ place) l further (ap (λ p. label k ∷ p) e))

-- a field of a part declares itself
own_field : {X : Type 0} (part : X → ViewedPart) (x : X) (l : List ℕ) (question : Question) → ¬ IsPatternOf (part x).kind l → (part x).refuses (label l ∷ []) question → AreDeclared part (label l ∷ [])
own_field part x l question plain r [] k further e = let same : l ≡ k = cc in subst (λ m. SomeDeclares part [] m) same (x, ([], [], question, tt, plain, r))
own_field part x l question plain r (index n ∷ place) k further e = cc
own_field part x l question plain r (label m ∷ place) k further e = let more : [] ≡ place ++ label k ∷ further = cc in absurd (nowhere place k further more)

admits_behind :
    {X : Type 0} (part : X → ViewedPart) (l : List ℕ) (d : Document) (x : X) (own : List ℕ) (c : Concerns (part x).kind own l)
    → Admits (behind part l (x, own, c)).kind (behind part l (x, own, c)).refuses d → Admits (part x).kind (at_label (part x).refuses own) d
admits_behind part l d x own (inl named) h = h
admits_behind part l d x own (inr bound) h = admits_loose (part x).kind (at_label (part x).refuses own) d h

mutual
  pub each_admits :
      {X : Type 0} (part : X → ViewedPart) (r : Refusals) (d : Document)
      → ((path : Path) (question : Question) → AreDeclared part path → SomeRefuses part path question → r path question)
      → ((path : Path) (question : Question) → r path question → AreDeclared part path)
      → Meets r d → IsDeclaredIn r d → (x : X) → Admits (part x).kind (part x).refuses d
  each_admits part r (scalar s) f g m known x = λ q. m (f [] (may_be s) (at_root part) (x, (refused_at_root (part x) (may_be s)).1 q))
  each_admits part r (list items) f g m known x = (
    λ q. m.0 (f [] questions.list (at_root part) (x, (refused_at_root (part x) questions.list).1 q)),
    λ q. m.1 (f [] (length_at_most (length_of items)) (at_root part) (x, (refused_at_root (part x) (length_at_most (length_of items))).1 q)),
    λ q. m.2 (f [] (length_at_least (length_of items)) (at_root part) (x, (refused_at_root (part x) (length_at_least (length_of items))).1 q)),
    each_items (λ i x. at_index (part x).refuses i) (λ x. (part x).kind) (at_index r) items
        (λ i path question h q. f (index i ∷ path) question (index_out part i path h) (q.0, (refused_at_index (part q.0) i path question).1 q.1))
        (λ i path question q. index_in part i path (g (index i ∷ path) question q))
        m.3 known x,
  )
  each_admits part r (map members) f g m known x = (
    λ q. m.0 (f [] struct (at_root part) (x, (refused_at_root (part x) struct).1 q)),
    λ l plain q. m.1 l (f (label l ∷ []) (level_at_most 0) (own_field part x l (level_at_most 0) plain q)
        (x, (refused_below (part x) l [] (level_at_most 0)).1 (l, inl ((refl, plain), (refused_at_root (below_name (part x) l) (level_at_most 0)).1 q)))),
    each_members part r members f g m.2 known x,
  )

  each_items :
      {X : Type 0} (refused : ℕ → X → Refusals) (kind : X → LayerKind) (r : ℕ → Refusals) (items : Items)
      → ((i : ℕ) (path : Path) (question : Question) → AreDeclared (λ (x : X). record { kind = kind x; refuses = refused i x }) path
      → ((x : X) × PartRefuses (record { kind = kind x; refuses = refused i x }) path question) → r i path question)
      → ((i : ℕ) (path : Path) (question : Question) → r i path question → AreDeclared (λ (x : X). record { kind = kind x; refuses = refused i x }) path)
      → ItemsMeet r items → AreItemsDeclared r items → (x : X) → ItemsAdmitted (kind x) (λ i. refused i x) items
  each_items refused kind r no_items f g m known x = tt
  each_items refused kind r (item d items) f g m known x = (
    each_admits (λ x. record { kind = kind x; refuses = refused 0 x }) (r 0) d (f 0) (g 0) m.0 known.0 x,
    each_items (λ i x. refused (suc i) x) kind (λ i. r (suc i)) items (λ i. f (suc i)) (λ i. g (suc i)) m.1 known.1 x,
  )

  each_members :
      {X : Type 0} (part : X → ViewedPart) (r : Refusals) (members : Members)
      → ((path : Path) (question : Question) → AreDeclared part path → SomeRefuses part path question → r path question)
      → ((path : Path) (question : Question) → r path question → AreDeclared part path)
      → MembersMeet r members → AreMembersDeclared r members → (x : X) → MembersAdmitted (part x).kind (part x).refuses members
  each_members part r no_members f g m known x = tt
  each_members part r (member l d members) f g m known x =
      let here = g (label l ∷ known.0.0) known.0.1 known.0.2 [] l known.0.0 refl in (
        λ q. m.0 (f [] (allows l) (at_root part) (x, (refused_at_root (part x) (allows l)).1 q)),
        λ own c. admits_behind part l d x own c (each_admits (behind part l) (at_label r l) d
            (λ path question h q. f (label l ∷ path) question (label_out part l path here h) ((refuses_behind part l path question).1 q))
            (λ path question q. label_in part l path (g (label l ∷ path) question q))
            m.1 known.1 (x, own, c)),
        each_members part r members f g m.2 known.2 x,
      )

-- ---- parts of a list
module _ {X : Type 0} (part : X → ViewedPart) (members : List X) where
  abbrev Member : Type 0
  Member = (x : X) × IsIn x members

  of_member : Member → ViewedPart
  of_member m = part m.0

  -- a document that all parts admit meets the view
  pub admitted_meets : (d : Document) → ((x : X) → IsIn x members → Admits (part x).kind (part x).refuses d) → Meets (ViewRefuses part members) d
  unfolding of_member
  admitted_meets d h =
      all_admit of_member (ViewRefuses part members) d
      (λ path question q. let one = pick (λ x. PartRefuses (part x) path question) members q.1 in ((one.0, one.1), one.2))
      (λ m. h m.0 m.1)

  -- and one that meets the view, and whose labels are declared there, is admitted by each part
  pub meeting_is_admitted :
      (d : Document) → Meets (ViewRefuses part members) d → IsDeclaredIn (ViewRefuses part members) d → (x : X) → IsIn x members → Admits (part x).kind (part x).refuses d
  unfolding of_member
  meeting_is_admitted d meets known x is =
      each_admits of_member (ViewRefuses part members) d
      (λ path question h q. (
        λ place l further e. let one = h place l further e in put (λ x. DeclaresAt (part x) place l) members one.0.0 one.0.1 one.1,
        put (λ x. PartRefuses (part x) path question) members q.0.0 q.0.1 q.1,
      ))
      (λ path question q place l further e. let one = pick (λ x. DeclaresAt (part x) place l) members (q.0 place l further e) in ((one.0, one.1), one.2))
      meets known (x, is)
