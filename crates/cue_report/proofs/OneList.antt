-- A list in the order of its paths is told by its members.
use Rattle.std.proofs.Common.{◌≡◌, ◌⊎◌, inl, inr, ⊎_elim, List, [], ◌∷◌, ◌++◌, refl, sym, ap, subst, ◌∙◌}
use Rattle.std.specs.Ordering.{ordering_then}
use Rattle.std.specs.List.{AllByRecursion}
use Rattle.std.specs.declared.cmp.Ordering.{Ordering}
use Rattle.std.specs.declared.cmp.Ordering.TheVariants.{Less, Equal, Greater}
use Rattle.cue_lattice.specs.OneOf.{OneOf}
use Rattle.cue_lattice.specs.Path.{Path, step_cmp, path_cmp}
use Rattle.cue_report.specs.Listing.{IsRising, Lists}
use Rattle.cue_report.proofs.Order.{reverse_cmp}

-- of two paths not each is before the other
asymmetric : (p q : Path) → path_cmp p q ≡ Less → path_cmp q p ≡ Less → ⊥
asymmetric [] [] h k = cc
asymmetric [] (y ∷ q) h k = cc
asymmetric (x ∷ p) [] h k = cc
asymmetric (x ∷ p) (y ∷ q) h k = by (asymmetric p q) (step_cmp x y) refl h where
  behind : (o : Ordering) → step_cmp y x ≡ o → ordering_then o (path_cmp q p) ≡ Less
  behind o e = sym (ap (λ r. ordering_then r (path_cmp q p)) e) ∙ k

  by : (path_cmp p q ≡ Less → path_cmp q p ≡ Less → ⊥) → (o : Ordering) → step_cmp x y ≡ o → ordering_then o (path_cmp p q) ≡ Less → ⊥
  by rest Less e g = let no : Greater ≡ Less = behind Greater (reverse_cmp x y Less e) in cc
  by rest Equal e g = rest g (behind Equal (reverse_cmp x y Equal e))
  by rest Greater e g = let no : Greater ≡ Less = g in cc

pub has_of : {X : Type 0} (P : X → Type 0) (xs : List X) (x : X) → AllByRecursion P xs → OneOf (λ y. y ≡ x) xs → P x
has_of P [] x h o = absurd o
has_of P (y ∷ ys) x h (inl e) = subst P e h.0
has_of P (y ∷ ys) x h (inr o) = has_of P ys x h.1 o

module _ {X : Type 0} (path : X → Path) where
  -- the members of the one are members of the other
  abbrev Within : List X → List X → Type 0
  Within xs ys = (x : X) → OneOf (λ y. y ≡ x) xs → OneOf (λ y. y ≡ x) ys

  before : (x z : X) (xs : List X) → IsRising path (x ∷ xs) → OneOf (λ y. y ≡ z) xs → path_cmp (path x) (path z) ≡ Less
  before x z xs h o = has_of (λ y. path_cmp (path x) (path y) ≡ Less) xs z h.0 o

  same_first : (x y : X) (xs ys : List X) → IsRising path (x ∷ xs) → IsRising path (y ∷ ys) → Within (x ∷ xs) (y ∷ ys) → Within (y ∷ ys) (x ∷ xs) → y ≡ x
  same_first x y xs ys h k w v =
      ⊎_elim (λ e. e) (λ o. ⊎_elim (λ e. sym e) (λ l. absurd (asymmetric (path x) (path y) (before x y xs h l) (before y x ys k o))) (v y (inl refl))) (w x (inl refl))

  -- without the first of each
  within_rest : (x y : X) (xs ys : List X) → IsRising path (x ∷ xs) → y ≡ x → Within (x ∷ xs) (y ∷ ys) → Within xs ys
  within_rest x y xs ys h e w z o =
      ⊎_elim
      (λ f. absurd (let low : path_cmp (path x) (path x) ≡ Less = before x x xs h (subst (λ u. OneOf (λ v. v ≡ u) xs) (sym f ∙ e) o) in asymmetric (path x) (path x) low low))
      (λ l. l) (w z (inr o))

  same_members : (xs ys : List X) → IsRising path xs → IsRising path ys → Within xs ys → Within ys xs → xs ≡ ys
  same_members [] [] h k w v = refl
  same_members [] (y ∷ ys) h k w v = absurd (v y (inl refl))
  same_members (x ∷ xs) [] h k w v = absurd (w x (inl refl))
  same_members (x ∷ xs) (y ∷ ys) h k w v =
      let e : y ≡ x = same_first x y xs ys h k w v in
      let rest : xs ≡ ys = same_members xs ys h.1 k.1 (within_rest x y xs ys h e w) (within_rest y x ys xs k (sym e) v) in
      λ i. sym e i ∷ rest i

  listed : (P : X → Type 0) (xs : List X) (x : X) → Lists path P xs → OneOf (λ y. y ≡ x) xs → P x
  listed P xs x h o = has_of P xs x h.sound o

  -- two lists of the same, each in the order of the paths, are equal
  pub one_list : (P Q : X → Type 0) (xs ys : List X) → ((x : X) → P x → Q x) → ((x : X) → Q x → P x) → Lists path P xs → Lists path Q ys → xs ≡ ys
  one_list P Q xs ys f g h k =
      same_members xs ys h.rising k.rising (λ x o. k.complete x (f x (listed P xs x h o))) (λ x o. h.complete x (g x (listed Q ys x k o)))

  -- a list in that order begins with another one, where each of its members is one of that or behind all of that
  pub splits :
      (xs all : List X) → IsRising path xs → IsRising path all → Within xs all → ((x : X) → OneOf (λ y. y ≡ x) all → OneOf (λ y. y ≡ x) xs ⊎ AllByRecursion (λ y. path_cmp (path y) (path x) ≡ Less) xs)
      → (more : List X) × (all ≡ xs ++ more)
  splits [] all h k w v = (all, refl)
  splits (x ∷ xs) [] h k w v = absurd (w x (inl refl))
  splits (x ∷ xs) (a ∷ all) h k w v =
      let e : a ≡ x = first in
      let rest = splits xs all h.1 k.1 (λ y o. ⊎_elim (λ f. absurd (twice y (sym e ∙ f) o)) (λ l. l) (w y (inr o))) (λ y o. ⊎_elim (λ l. ⊎_elim (λ f. absurd (again y (e ∙ f) o)) (λ m. inl m) l) (λ b. inr b.1) (v y (inr o))) in
      (rest.0, λ i. e i ∷ rest.1 i)
    where
      twice : (y : X) → x ≡ y → OneOf (λ z. z ≡ y) xs → ⊥
      twice y f o = let low : path_cmp (path x) (path y) ≡ Less = before x y xs h o in let same : path_cmp (path y) (path y) ≡ Less = subst (λ z. path_cmp (path z) (path y) ≡ Less) f low in asymmetric (path y) (path y) same same

      again : (y : X) → a ≡ y → OneOf (λ z. z ≡ y) all → ⊥
      again y f o = let low : path_cmp (path a) (path y) ≡ Less = before a y all k o in let same : path_cmp (path y) (path y) ≡ Less = subst (λ z. path_cmp (path z) (path y) ≡ Less) f low in asymmetric (path y) (path y) same same

      later : path_cmp (path x) (path a) ≡ Less → OneOf (λ z. z ≡ x) all → ⊥
      later low o = asymmetric (path x) (path a) low (before a x all k o)

      first : a ≡ x
      first = ⊎_elim (λ e. e)
          (λ l. ⊎_elim (λ o. ⊎_elim (λ f. sym f) (λ m. absurd (later (before x a xs h m) l)) o) (λ b. absurd (later b.0 l)) (v a (inl refl)))
          (w x (inl refl))
