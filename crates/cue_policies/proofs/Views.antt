-- What the view of parts is not changed by, and what it is without patterns.
use Rattle.std.proofs.Common.{◌≡◌, ◌↔◌, inl, inr, ⊎_elim, ℕ, List, [], ◌∷◌, ◌++◌, refl, sym, subst}
use Rattle.cue_lattice.specs.OneOf.{OneOf}
use Rattle.cue_lattice.specs.Path.{label, index, Path}
use Rattle.cue_lattice.specs.Question.{Question, Refusals}
use Rattle.cue_policies.specs.Patterns.{IsPatternOf}
use Rattle.cue_policies.specs.View.{ViewedPart, IsAlong, EndsInPattern, PartRefuses, DeclaresAt, ViewRefuses}
use Rattle.cue_policies.specs.Inner.Below.{HasPatternOf}
use Rattle.cue_policies.specs.declared.kind.LayerKind.{LayerKind}
use Rattle.cue_policies.specs.declared.kind.LayerKind.TheVariants.{Layer, Policy}
use Rattle.cue_policies.proofs.Steps.{refuses_as, declares_as}

-- ---- one of a list
module _ {X : Type 0} where
  abbrev pub IsIn : X → List X → Type 0
  IsIn x xs = OneOf (λ y. y ≡ x) xs

  pub pick : (P : X → Type 0) (xs : List X) → OneOf P xs → (x : X) × IsIn x xs × P x
  pick P [] h = absurd h
  pick P (x ∷ xs) h = ⊎_elim (λ p. (x, inl refl, p)) (λ r. let more = pick P xs r in (more.0, inr more.1, more.2)) h

  pub put : (P : X → Type 0) (xs : List X) (x : X) → IsIn x xs → P x → OneOf P xs
  put P [] x h p = absurd h
  put P (y ∷ ys) x h p = ⊎_elim (λ (e : y ≡ x). inl (subst P (sym e) p)) (λ r. inr (put P ys x r p)) h

-- what one of the one parts refuses and declares one of the others does
pub view_as :
    {X Y : Type 0} (part : X → ViewedPart) (members : List X) (other : Y → ViewedPart) (others : List Y)
    → ((path : Path) (question : Question) → OneOf (λ x. PartRefuses (part x) path question) members → OneOf (λ y. PartRefuses (other y) path question) others)
    → ((place : Path) (l : List ℕ) → OneOf (λ x. DeclaresAt (part x) place l) members → OneOf (λ y. DeclaresAt (other y) place l) others)
    → (path : Path) (question : Question) → ViewRefuses part members path question → ViewRefuses other others path question
view_as part members other others refused declared path question h = (λ place l further e. declared place l (h.0 place l further e), refused path question h.1)

-- more parts refuse more; so their order makes no difference, nor how often each comes
pub more_refuse_more :
    {X : Type 0} (part : X → ViewedPart) (some all : List X) → ((x : X) → IsIn x some → IsIn x all)
    → (path : Path) (question : Question) → ViewRefuses part some path question → ViewRefuses part all path question
more_refuse_more part some all among = view_as part some part all
    (λ path question h. let one = pick (λ x. PartRefuses (part x) path question) some h in put (λ x. PartRefuses (part x) path question) all one.0 (among one.0 one.1) one.2)
    (λ place l h. let one = pick (λ x. DeclaresAt (part x) place l) some h in put (λ x. DeclaresAt (part x) place l) all one.0 (among one.0 one.1) one.2)

-- ---- the layers as one part, and the policies as one
module _ {X : Type 0} (part : X → ViewedPart) (members : List X) (unified : LayerKind → Refusals) where
  abbrev pub AreUnified : Type 0
  AreUnified = (kind : LayerKind) (path : Path) (question : Question)
      → unified kind path question ↔ OneOf (λ x. ((part x).kind ≡ kind) × (part x).refuses path question) members

  abbrev pub whole : LayerKind → ViewedPart
  whole kind = record { kind = kind; refuses = unified kind }

  kinds : List LayerKind
  kinds = Layer ∷ Policy ∷ []

  of_kind : (P : LayerKind → Type 0) (kind : LayerKind) → P kind → OneOf P (Layer ∷ Policy ∷ [])
  of_kind P Layer p = inl p
  of_kind P Policy p = inr (inl p)

  from_kind : (P : LayerKind → Type 0) {A : Type 0} → ((kind : LayerKind) → P kind → A) → OneOf P (Layer ∷ Policy ∷ []) → A
  from_kind P f h = ⊎_elim (λ p. f Layer p) (λ r. ⊎_elim (λ p. f Policy p) (λ e. absurd e) r) h

  refused_of_whole : AreUnified → (kind : LayerKind) (path : Path) (question : Question) → PartRefuses (whole kind) path question → OneOf (λ x. PartRefuses (part x) path question) members
  refused_of_whole same kind path question h =
      let P : X → Type 0 = λ x. ((part x).kind ≡ kind) × (part x).refuses h.0 question in
      let one = pick P members ((same kind h.0 question).0 h.2) in
      put (λ x. PartRefuses (part x) path question) members one.0 one.1 (
        h.0,
        subst (λ k. IsAlong k h.0 path) (sym one.2.0) h.1,
        one.2.1,
        λ g. h.3 (subst (λ k. EndsInPattern k h.0) one.2.0 g.0, g.1),
      )

  declared_of_whole : AreUnified → (kind : LayerKind) (place : Path) (l : List ℕ) → DeclaresAt (whole kind) place l → OneOf (λ x. DeclaresAt (part x) place l) members
  declared_of_whole same kind place l h =
      let P : X → Type 0 = λ x. ((part x).kind ≡ kind) × (part x).refuses (h.0 ++ label l ∷ h.1) h.2 in
      let one = pick P members ((same kind (h.0 ++ label l ∷ h.1) h.2).0 h.5) in
      put (λ x. DeclaresAt (part x) place l) members one.0 one.1 (
        h.0,
        h.1,
        h.2,
        subst (λ k. IsAlong k h.0 place) (sym one.2.0) h.3,
        λ p. h.4 (subst (λ k. IsPatternOf k l) one.2.0 p),
        one.2.1,
      )

  -- what one member refuses its whole does
  in_whole : AreUnified → (x : X) → IsIn x members → (path : Path) (question : Question) → (part x).refuses path question → unified (part x).kind path question
  in_whole same x is path question r =
      (same (part x).kind path question).1 (put (λ y. ((part y).kind ≡ (part x).kind) × (part y).refuses path question) members x is (refl, r))

  -- the view of the unified layers and the unified policies is that of all parts
  pub view_of_wholes : AreUnified → (path : Path) (question : Question) → ViewRefuses whole (Layer ∷ Policy ∷ []) path question ↔ ViewRefuses part members path question
  view_of_wholes same path question = (
    view_as whole (Layer ∷ Policy ∷ []) part members
        (λ path question h. from_kind (λ kind. PartRefuses (whole kind) path question) (λ kind p. refused_of_whole same kind path question p) h)
        (λ place l h. from_kind (λ kind. DeclaresAt (whole kind) place l) (λ kind p. declared_of_whole same kind place l p) h)
        path question,
    view_as part members whole (Layer ∷ Policy ∷ [])
        (λ path question h.
        let one = pick (λ x. PartRefuses (part x) path question) members h in
        of_kind (λ kind. PartRefuses (whole kind) path question) (part one.0).kind (refuses_as (part one.0) (whole (part one.0).kind) refl (in_whole same one.0 one.1) path question one.2))
        (λ place l h.
        let one = pick (λ x. DeclaresAt (part x) place l) members h in
        of_kind (λ kind. DeclaresAt (whole kind) place l) (part one.0).kind (declares_as (part one.0) (whole (part one.0).kind) refl (in_whole same one.0 one.1) place l one.2))
        path question,
  )

-- ---- without patterns
-- a path without patterns concerns itself alone
plain_along : (kind : LayerKind) (path : Path) → ¬ HasPatternOf kind path → IsAlong kind path path
plain_along kind [] plain = tt
plain_along kind (label l ∷ path) plain = (inl (refl, λ p. plain (inl p)), plain_along kind path (λ p. plain (inr p)))
plain_along kind (index n ∷ path) plain = (refl, plain_along kind path plain)

along_plain : (kind : LayerKind) (written path : Path) → ¬ HasPatternOf kind written → IsAlong kind written path → written ≡ path
along_plain kind [] [] plain along = refl
along_plain kind [] (label l ∷ path) plain along = absurd along
along_plain kind [] (index n ∷ path) plain along = absurd along
along_plain kind (label own ∷ written) [] plain along = absurd along
along_plain kind (label own ∷ written) (index n ∷ path) plain along = absurd along
along_plain kind (index m ∷ written) [] plain along = absurd along
along_plain kind (index m ∷ written) (label l ∷ path) plain along = absurd along
along_plain kind (label own ∷ written) (label l ∷ path) plain along =
    let more : written ≡ path = along_plain kind written path (λ p. plain (inr p)) along.1 in
    let same : own ≡ l = ⊎_elim (λ named. named.0) (λ bound. absurd (plain (inl bound.0))) along.0 in
    λ i. label (same i) ∷ more i
along_plain kind (index m ∷ written) (index n ∷ path) plain along =
    let more : written ≡ path = along_plain kind written path plain along.1 in
    let same : m ≡ n = along.0 in
    λ i. index (same i) ∷ more i

plain_ends : (kind : LayerKind) (path : Path) → ¬ HasPatternOf kind path → ¬ EndsInPattern kind path
plain_ends kind [] plain h = h
plain_ends kind (label l ∷ []) plain h = plain (inl h)
plain_ends kind (index n ∷ []) plain h = h
plain_ends kind (label l ∷ next ∷ path) plain h = plain_ends kind (next ∷ path) (λ p. plain (inr p)) h
plain_ends kind (index n ∷ next ∷ path) plain h = plain_ends kind (next ∷ path) plain h

-- the beginnings of a path without patterns have none
plain_front : (kind : LayerKind) (place : Path) (l : List ℕ) (further : Path) → ¬ HasPatternOf kind (place ++ label l ∷ further) → (¬ HasPatternOf kind place) × (¬ IsPatternOf kind l)
plain_front kind [] l further plain = (λ p. p, λ p. plain (inl p))
plain_front kind (label k ∷ place) l further plain =
    let more = plain_front kind place l further (λ p. plain (inr p)) in
    (λ p. ⊎_elim (λ here. plain (inl here)) more.0 p, more.1)
plain_front kind (index n ∷ place) l further plain = plain_front kind place l further plain

-- nothing is refused at a path with a pattern
abbrev pub IsPlainPart : ViewedPart → Type 0
IsPlainPart part = (path : Path) (question : Question) → part.refuses path question → ¬ HasPatternOf part.kind path

pub plain_refuses : (part : ViewedPart) → IsPlainPart part → (path : Path) (question : Question) → PartRefuses part path question ↔ part.refuses path question
plain_refuses part plain path question = (
  λ h. subst (λ p. part.refuses p question) (along_plain part.kind h.0 path (plain h.0 question h.2) h.1) h.2,
  λ r. let free = plain path question r in (path, plain_along part.kind path free, r, λ h. plain_ends part.kind path free h.0),
)

-- what a part without patterns refuses it declares
pub plain_declares :
    (part : ViewedPart) → IsPlainPart part → (path : Path) (question : Question) → part.refuses path question
    → (place : Path) (l : List ℕ) (further : Path) → path ≡ place ++ label l ∷ further → DeclaresAt part place l
plain_declares part plain path question r place l further e =
    let here : part.refuses (place ++ label l ∷ further) question = subst (λ p. part.refuses p question) e r in
    let front = plain_front part.kind place l further (plain (place ++ label l ∷ further) question here) in
    (place, further, question, plain_along part.kind place front.0, front.1, here)

-- the view of parts without patterns is their unification
pub plain_view :
    {X : Type 0} (part : X → ViewedPart) (members : List X) → ((x : X) → IsIn x members → IsPlainPart (part x))
    → (path : Path) (question : Question) → ViewRefuses part members path question ↔ OneOf (λ x. (part x).refuses path question) members
plain_view part members plain path question = (
  λ h. let one = pick (λ x. PartRefuses (part x) path question) members h.1 in
      put (λ x. (part x).refuses path question) members one.0 one.1 ((plain_refuses (part one.0) (plain one.0 one.1) path question).0 one.2),
  λ h. let one = pick (λ x. (part x).refuses path question) members h in (
    λ place l further e. put (λ x. DeclaresAt (part x) place l) members one.0 one.1 (plain_declares (part one.0) (plain one.0 one.1) path question one.2 place l further e),
    put (λ x. PartRefuses (part x) path question) members one.0 one.1 ((plain_refuses (part one.0) (plain one.0 one.1) path question).1 one.2),
  ),
)

-- a layer proper has no patterns
no_patterns : (path : Path) → ¬ HasPatternOf Layer path
no_patterns [] h = h
no_patterns (label l ∷ path) h = ⊎_elim (λ p. p) (no_patterns path) h
no_patterns (index n ∷ path) h = no_patterns path h

pub layers_are_plain : (part : ViewedPart) → part.kind ≡ Layer → IsPlainPart part
layers_are_plain part e path question r h = no_patterns path (subst (λ kind. HasPatternOf kind path) e h)
