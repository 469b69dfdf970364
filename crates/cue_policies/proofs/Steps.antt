-- The view one step further: what the parts refuse and declare there.
use Rattle.std.proofs.Common.{◌≡◌, ◌↔◌, ◌⊎◌, inl, inr, ⊎_elim, ℕ, List, [], ◌∷◌, ◌++◌, refl, sym, ap, subst}
use Rattle.cue_lattice.specs.OneOf.{OneOf}
use Rattle.cue_lattice.specs.Path.{Step, label, index, Path}
use Rattle.cue_lattice.specs.Question.{Question, Refusals}
use Rattle.cue_policies.specs.Patterns.{IsPatternOf, IsNamedLabel, IsPatternBound}
use Rattle.cue_policies.specs.View.{ViewedPart, IsAlong, IsLevelInView, EndsInPattern, PartRefuses, DeclaresAt, IsDeclaredInView, ViewRefuses}
use Rattle.cue_policies.specs.Inner.Below.{Loose, below_name, below_pattern, below_index}
use Rattle.cue_policies.specs.declared.kind.LayerKind.{LayerKind}

-- ---- one part
-- a path ends in a pattern where it does so without its first step, or is a pattern alone
ends_behind : (kind : LayerKind) (step : Step) (path : Path) → EndsInPattern kind path → EndsInPattern kind (step ∷ path)
ends_behind kind step [] h = absurd h
ends_behind kind step (next ∷ path) h = h

-- P holds of what the part has one step further, at the label
abbrev pub SomeBelow : (ViewedPart → Type 0) → ViewedPart → List ℕ → Type 0
SomeBelow P part l =
    (own : List ℕ) × ((IsNamedLabel part.kind own l × P (below_name part own)) ⊎ (IsPatternBound part.kind own l × P (below_pattern part own)))

refused_into : (part : ViewedPart) (own : List ℕ) (written path : Path) (question : Question) → IsAlong part.kind written path → part.refuses (label own ∷ written) question
    → ¬ (EndsInPattern part.kind (label own ∷ written) × IsLevelInView question) → PartRefuses (below_name part own) path question
refused_into part own written path question along r non = (written, along, r, λ h. non (ends_behind part.kind (label own) written h.0, h.1))

bound_into : (part : ViewedPart) (own : List ℕ) (written path : Path) (question : Question) → IsPatternOf part.kind own → IsAlong part.kind written path
    → part.refuses (label own ∷ written) question → ¬ (EndsInPattern part.kind (label own ∷ written) × IsLevelInView question) → PartRefuses (below_pattern part own) path question
bound_into part own [] path question pattern along r non = ([], along, (r, λ level. non (pattern, level)), λ h. h.0)
bound_into part own (step ∷ written) path question pattern along r non = (step ∷ written, along, r, non)

named_out : (part : ViewedPart) (own : List ℕ) (written : Path) (question : Question) → ¬ IsPatternOf part.kind own
    → ¬ (EndsInPattern part.kind written × IsLevelInView question) → ¬ (EndsInPattern part.kind (label own ∷ written) × IsLevelInView question)
named_out part own [] question plain non h = plain h.0
named_out part own (step ∷ written) question plain non h = non h

bound_out : (part : ViewedPart) (own : List ℕ) (written : Path) (question : Question) → Loose (λ path. part.refuses (label own ∷ path)) written question
    → ¬ (EndsInPattern part.kind written × IsLevelInView question) → part.refuses (label own ∷ written) question × ¬ (EndsInPattern part.kind (label own ∷ written) × IsLevelInView question)
bound_out part own [] question r non = (r.0, λ h. r.1 h.1)
bound_out part own (step ∷ written) question r non = (r, non)

-- what a part refuses at a label and then a path, what it has at the label refuses at the path
pub refused_below : (part : ViewedPart) (l : List ℕ) (path : Path) (question : Question) → PartRefuses part (label l ∷ path) question ↔ SomeBelow (λ next. PartRefuses next path question) part l
refused_below part l path question = (λ h. into h.0 h.1 h.2 h.3, out)
  where
    into : (written : Path) → IsAlong part.kind written (label l ∷ path) → part.refuses written question → ¬ (EndsInPattern part.kind written × IsLevelInView question)
        → SomeBelow (λ next. PartRefuses next path question) part l
    into [] along r non = absurd along
    into (index n ∷ written) along r non = absurd along
    into (label own ∷ written) along r non = (
      own,
      ⊎_elim
          (λ named. inl (named, refused_into part own written path question along.1 r non))
          (λ bound. inr (bound, bound_into part own written path question bound.0 along.1 r non))
          along.0,
    )

    out : SomeBelow (λ next. PartRefuses next path question) part l → PartRefuses part (label l ∷ path) question
    out h = ⊎_elim
        (λ named. let below = named.1 in (label h.0 ∷ below.0, (inl named.0, below.1), below.2, named_out part h.0 below.0 question named.0.1 below.3))
        (λ bound. let below = bound.1 in let both = bound_out part h.0 below.0 question below.2 below.3 in (label h.0 ∷ below.0, (inr bound.0, below.1), both.0, both.1))
        h.1

loose_far : (refuses : Refusals) (place : Path) (l : List ℕ) (below : Path) (question : Question) → refuses (place ++ label l ∷ below) question → Loose refuses (place ++ label l ∷ below) question
loose_far refuses [] l below question r = r
loose_far refuses (step ∷ place) l below question r = r

loose_near : (refuses : Refusals) (path : Path) (question : Question) → Loose refuses path question → refuses path question
loose_near refuses [] question r = r.0
loose_near refuses (step ∷ path) question r = r

-- and so for what it declares
pub declared_below : (part : ViewedPart) (k : List ℕ) (place : Path) (l : List ℕ) → DeclaresAt part (label k ∷ place) l ↔ SomeBelow (λ next. DeclaresAt next place l) part k
declared_below part k place l = (λ h. into h.0 h.1 h.2 h.3 h.4 h.5, out)
  where
    into : (written below : Path) (question : Question) → IsAlong part.kind written (label k ∷ place) → ¬ IsPatternOf part.kind l → part.refuses (written ++ label l ∷ below) question
        → SomeBelow (λ next. DeclaresAt next place l) part k
    into [] below question along plain r = absurd along
    into (index n ∷ written) below question along plain r = absurd along
    into (label own ∷ written) below question along plain r = (
      own,
      ⊎_elim
          (λ named. inl (named, (written, below, question, along.1, plain, r)))
          (λ bound. inr (bound, (written, below, question, along.1, plain, loose_far (λ path. part.refuses (label own ∷ path)) written l below question r)))
          along.0,
    )

    out : SomeBelow (λ next. DeclaresAt next place l) part k → DeclaresAt part (label k ∷ place) l
    out h = ⊎_elim
        (λ named. let d = named.1 in (label h.0 ∷ d.0, d.1, d.2, (inl named.0, d.3), d.4, d.5))
        (λ bound. let d = bound.1 in (label h.0 ∷ d.0, d.1, d.2, (inr bound.0, d.3), d.4, loose_near (λ path. part.refuses (label h.0 ∷ path)) (d.0 ++ label l ∷ d.1) d.2 d.5))
        h.1

-- what it refuses at an index and then a path
pub refused_at_index : (part : ViewedPart) (i : ℕ) (path : Path) (question : Question) → PartRefuses part (index i ∷ path) question ↔ PartRefuses (below_index part i) path question
refused_at_index part i path question = (λ h. into h.0 h.1 h.2 h.3, λ h. (index i ∷ h.0, (refl, h.1), h.2, out h.0 h.3))
  where
    into : (written : Path) → IsAlong part.kind written (index i ∷ path) → part.refuses written question → ¬ (EndsInPattern part.kind written × IsLevelInView question)
        → PartRefuses (below_index part i) path question
    into [] along r non = absurd along
    into (label own ∷ written) along r non = absurd along
    into (index n ∷ written) along r non =
        (written, along.1, subst (λ m. part.refuses (index m ∷ written) question) along.0 r, λ h. non (ends_behind part.kind (index n) written h.0, h.1))

    out : (written : Path) → ¬ (EndsInPattern part.kind written × IsLevelInView question) → ¬ (EndsInPattern part.kind (index i ∷ written) × IsLevelInView question)
    out [] non h = h.0
    out (step ∷ written) non h = non h

pub declared_at_index : (part : ViewedPart) (i : ℕ) (place : Path) (l : List ℕ) → DeclaresAt part (index i ∷ place) l ↔ DeclaresAt (below_index part i) place l
declared_at_index part i place l = (λ h. into h.0 h.1 h.2 h.3 h.4 h.5, λ h. (index i ∷ h.0, h.1, h.2, (refl, h.3), h.4, h.5))
  where
    into : (written below : Path) (question : Question) → IsAlong part.kind written (index i ∷ place) → ¬ IsPatternOf part.kind l → part.refuses (written ++ label l ∷ below) question
        → DeclaresAt (below_index part i) place l
    into [] below question along plain r = absurd along
    into (label own ∷ written) below question along plain r = absurd along
    into (index n ∷ written) below question along plain r =
        (written, below, question, along.1, plain, subst (λ m. part.refuses (index m ∷ (written ++ label l ∷ below)) question) along.0 r)

-- at the root it refuses what it refuses
pub refused_at_root : (part : ViewedPart) (question : Question) → PartRefuses part [] question ↔ part.refuses [] question
refused_at_root part question = (λ h. into h.0 h.1 h.2, λ r. ([], tt, r, λ h. h.0))
  where
    into : (written : Path) → IsAlong part.kind written [] → part.refuses written question → part.refuses [] question
    into [] along r = r
    into (label own ∷ written) along r = absurd along
    into (index n ∷ written) along r = absurd along

-- parts of one kind, of which one refuses what the other does
pub refuses_as : (part other : ViewedPart) → part.kind ≡ other.kind → ((path : Path) (question : Question) → part.refuses path question → other.refuses path question)
    → (path : Path) (question : Question) → PartRefuses part path question → PartRefuses other path question
refuses_as part other e f path question h = (
  h.0,
  subst (λ kind. IsAlong kind h.0 path) e h.1,
  f h.0 question h.2,
  λ g. h.3 (subst (λ kind. EndsInPattern kind h.0) (sym e) g.0, g.1),
)

pub declares_as : (part other : ViewedPart) → part.kind ≡ other.kind → ((path : Path) (question : Question) → part.refuses path question → other.refuses path question)
    → (place : Path) (l : List ℕ) → DeclaresAt part place l → DeclaresAt other place l
declares_as part other e f place l h = (
  h.0,
  h.1,
  h.2,
  subst (λ kind. IsAlong kind h.0 place) e h.3,
  λ p. h.4 (subst (λ kind. IsPatternOf kind l) (sym e) p),
  f (h.0 ++ label l ∷ h.1) h.2 h.5,
)

-- ---- all parts
module _ {X Y : Type 0} (part : X → ViewedPart) (members : List X) (next : Y → ViewedPart) (found : List Y) where
  -- what the parts refuse and declare behind a step is what others refuse and declare
  pub record IsBehind (step : Step) : Type 0 where
    pub refused : (path : Path) (question : Question)
        → OneOf (λ x. PartRefuses (part x) (step ∷ path) question) members ↔ OneOf (λ y. PartRefuses (next y) path question) found
    pub declared : (place : Path) (l : List ℕ)
        → OneOf (λ x. DeclaresAt (part x) (step ∷ place) l) members ↔ OneOf (λ y. DeclaresAt (next y) place l) found

  behind : (step : Step) (path : Path) → IsBehind step → IsDeclaredInView part members (step ∷ path) → IsDeclaredInView next found path
  behind step path is h place l further e = (is.declared place l).0 (h (step ∷ place) l further (ap (λ p. step ∷ p) e))

  -- the view at a label and then a path
  pub view_below : (l : List ℕ) → IsBehind (label l) → (path : Path) (question : Question)
      → ViewRefuses part members (label l ∷ path) question ↔ (OneOf (λ x. DeclaresAt (part x) [] l) members × ViewRefuses next found path question)
  view_below l is path question = (
    λ h. (h.0 [] l path refl, (behind (label l) path is h.0, (is.refused path question).0 h.1)),
    λ h. (declared h.0 h.1.0, (is.refused path question).1 h.1.1),
  )
    where
      declared : OneOf (λ x. DeclaresAt (part x) [] l) members → IsDeclaredInView next found path → IsDeclaredInView part members (label l ∷ path)
      declared here h [] k further e = let same : l ≡ k = cc in subst (λ m. OneOf (λ x. DeclaresAt (part x) [] m) members) same here
      declared here h (label m ∷ place) k further e =
          let same : l ≡ m = cc in let more : path ≡ place ++ label k ∷ further = cc in
          subst (λ n. OneOf (λ x. DeclaresAt (part x) (label n ∷ place) k) members) same ((is.declared place k).1 (h place k further more))
      declared here h (index n ∷ place) k further e = cc

  -- and at an index and then a path
  pub view_at_index : (i : ℕ) → IsBehind (index i) → (path : Path) (question : Question) → ViewRefuses part members (index i ∷ path) question ↔ ViewRefuses next found path question
  view_at_index i is path question = (
    λ h. (behind (index i) path is h.0, (is.refused path question).0 h.1),
    λ h. (declared h.0, (is.refused path question).1 h.1),
  )
    where
      declared : IsDeclaredInView next found path → IsDeclaredInView part members (index i ∷ path)
      declared h [] k further e = cc
      declared h (label m ∷ place) k further e = cc
      declared h (index n ∷ place) k further e =
          let same : i ≡ n = cc in let more : path ≡ place ++ label k ∷ further = cc in
          subst (λ m. OneOf (λ x. DeclaresAt (part x) (index m ∷ place) k) members) same ((is.declared place k).1 (h place k further more))
