-- Lists in the order of paths.
use Rattle.std.proofs.Common.{◌≡◌, inl, inr, List, [], ◌∷◌, ◌++◌, map, refl, sym, ap, subst, ◌∙◌, rules}
use Rattle.std.specs.Ordering.{ordering_reverse, ordering_then}
use Rattle.std.specs.List.{AllByRecursion}
use Rattle.std.proofs.lemmas.Cmp.{nat_list_cmp_total, nat_cmp_total}
use Rattle.std.proofs.lemmas.Map.Lookups.{exact_bytes}
use Rattle.std.specs.declared.cmp.Ordering.{Ordering}
use Rattle.std.specs.declared.cmp.Ordering.TheVariants.{Less, Equal, Greater}
use Rattle.cue_lattice.specs.OneOf.{OneOf}
use Rattle.cue_lattice.specs.Path.{Step, label, index, step_cmp, Path, path_cmp}
use Rattle.cue_report.specs.Listing.{IsRising}

antisymm : (x y : Step) → step_cmp x y ≡ ordering_reverse (step_cmp y x)
antisymm (label l) (label m) = nat_list_cmp_total.antisymm l m
antisymm (label l) (index n) = refl
antisymm (index n) (label l) = refl
antisymm (index m) (index n) = nat_cmp_total.antisymm m n

-- the other way round steps compare in reverse
pub reverse_cmp : (x y : Step) (o : Ordering) → step_cmp x y ≡ o → step_cmp y x ≡ ordering_reverse o
reverse_cmp x y o h = antisymm y x ∙ ap ordering_reverse h

-- a step compares as equal with itself
pub same_step : (x : Step) → step_cmp x x ≡ Equal
same_step x = by (step_cmp x x) refl
  where
    by : (o : Ordering) → step_cmp x x ≡ o → step_cmp x x ≡ Equal
    by Less e = let other = reverse_cmp x x Less e in cc
    by Equal e = e
    by Greater e = let other = reverse_cmp x x Greater e in cc

-- steps that compare as equal are one
pub equal_steps : (x y : Step) → step_cmp x y ≡ Equal → x ≡ y
equal_steps (label l) (label m) h = ap label (exact_bytes l m h)
equal_steps (index m) (index n) h = ap index (search rules)
equal_steps (label l) (index n) h = cc
equal_steps (index m) (label l) h = cc

pub all_append : {X : Type 0} (P : X → Type 0) (xs ys : List X) → AllByRecursion P xs → AllByRecursion P ys → AllByRecursion P (xs ++ ys)
all_append P [] ys h k = k
all_append P (x ∷ xs) ys h k = (h.0, all_append P xs ys h.1 k)

pub all_map : {X Y : Type 0} (P : X → Type 0) (Q : Y → Type 0) (f : X → Y) (xs : List X) → ((x : X) → P x → Q (f x)) → AllByRecursion P xs → AllByRecursion Q (map f xs)
all_map P Q f [] g h = tt
all_map P Q f (x ∷ xs) g h = (g x h.0, all_map P Q f xs g h.1)

pub all_from : {X : Type 0} (P Q : X → Type 0) (xs : List X) → ((x : X) → P x → Q x) → AllByRecursion P xs → AllByRecursion Q xs
all_from P Q [] g h = tt
all_from P Q (x ∷ xs) g h = (g x h.0, all_from P Q xs g h.1)

pub all_of : {X : Type 0} (P : X → Type 0) (xs : List X) → ((x : X) → P x) → AllByRecursion P xs
all_of P [] g = tt
all_of P (x ∷ xs) g = (g x, all_of P xs g)

pub one_left : {X : Type 0} (P : X → Type 0) (xs ys : List X) → OneOf P xs → OneOf P (xs ++ ys)
one_left P [] ys h = absurd h
one_left P (x ∷ xs) ys h = elim h as (λ _. OneOf P (x ∷ xs ++ ys)) [ inl here ↦ inl here | inr more ↦ inr (one_left P xs ys more) ]

pub one_right : {X : Type 0} (P : X → Type 0) (xs ys : List X) → OneOf P ys → OneOf P (xs ++ ys)
one_right P [] ys h = h
one_right P (x ∷ xs) ys h = inr (one_right P xs ys h)

pub one_map : {X Y : Type 0} (P : X → Type 0) (Q : Y → Type 0) (f : X → Y) (xs : List X) → ((x : X) → P x → Q (f x)) → OneOf P xs → OneOf Q (map f xs)
one_map P Q f [] g h = absurd h
one_map P Q f (x ∷ xs) g h = elim h as (λ _. OneOf Q (map f (x ∷ xs))) [ inl here ↦ inl (g x here) | inr more ↦ inr (one_map P Q f xs g more) ]

module _ {X : Type 0} (path : X → Path) where
  -- each of the first list is before each of the second
  abbrev pub AreBefore : List X → List X → Type 0
  AreBefore xs ys = AllByRecursion (λ x. AllByRecursion (λ y. path_cmp (path x) (path y) ≡ Less) ys) xs

  pub rising_append : (xs ys : List X) → IsRising path xs → IsRising path ys → AreBefore xs ys → IsRising path (xs ++ ys)
  rising_append [] ys h k b = k
  rising_append (x ∷ xs) ys h k b = (all_append (λ y. path_cmp (path x) (path y) ≡ Less) xs ys h.0 b.0, rising_append xs ys h.1 k b.1)

  -- the paths begin behind the step
  abbrev pub StartsBehind : Step → Path → Type 0
  StartsBehind step [] = ⊥
  StartsBehind step (next ∷ path) = step_cmp step next ≡ Less

  abbrev pub AreBehind : Step → List X → Type 0
  AreBehind step = AllByRecursion (λ x. StartsBehind step (path x))

  behind_cmp : (step : Step) (p q : Path) → StartsBehind step q → path_cmp (step ∷ p) q ≡ Less
  behind_cmp step p [] h = absurd h
  behind_cmp step p (next ∷ q) h = ap (λ o. ordering_then o (path_cmp p q)) h

  module _ (lift : X → X) (step : Step) (lifts : (x : X) → path (lift x) ≡ step ∷ path x) where
    lifted_cmp : (x y : X) → path_cmp (path x) (path y) ≡ Less → path_cmp (path (lift x)) (path (lift y)) ≡ Less
    lifted_cmp x y h =
        ap (λ p. path_cmp p (path (lift y))) (lifts x) ∙ ap (λ q. path_cmp (step ∷ path x) q) (lifts y)
        ∙ ap (λ o. ordering_then o (path_cmp (path x) (path y))) (same_step step) ∙ h

    pub rising_lifted : (xs : List X) → IsRising path xs → IsRising path (map lift xs)
    rising_lifted [] h = tt
    rising_lifted (x ∷ xs) h =
        (all_map (λ y. path_cmp (path x) (path y) ≡ Less) (λ y. path_cmp (path (lift x)) (path y) ≡ Less) lift xs (lifted_cmp x) h.0, rising_lifted xs h.1)

    pub lifted_before : (xs ys : List X) → AreBehind step ys → AreBefore (map lift xs) ys
    lifted_before [] ys h = tt
    lifted_before (x ∷ xs) ys h = (
      all_from (λ y. StartsBehind step (path y)) (λ y. path_cmp (path (lift x)) (path y) ≡ Less) ys
          (λ y b. ap (λ p. path_cmp p (path y)) (lifts x) ∙ behind_cmp step (path x) (path y) b) h,
      lifted_before xs ys h,
    )

    pub lifted_behind : (low : Step) (xs : List X) → step_cmp low step ≡ Less → AreBehind low (map lift xs)
    lifted_behind low [] h = tt
    lifted_behind low (x ∷ xs) h = (subst (StartsBehind low) (sym (lifts x)) h, lifted_behind low xs h)
