-- The struct literals that an expression writes itself, and those in definitions that it names.
use Rattle.std.proofs.Common.{◌≡◌, ◌↔◌, ◌⊎◌, inl, inr, ⊎_elim, ℕ, zero, suc, Bool, true, false, ◌||◌, cond, List, [], ◌∷◌, ◌++◌, refl, sym, ap, subst, ◌∙◌}
use Rattle.std.specs.List.{list_any}
use Rattle.std.specs.Str.{bytes_eq}
use Rattle.std.proofs.lemmas.Bool.{false≢true}
use Rattle.std.proofs.lemmas.List.Folds.{list_any-append}
use Rattle.std.proofs.lemmas.Slice.Eq.{bytes_eq-Decides}
use Rattle.cue_lattice.specs.Path.{Path, label, index}
use Rattle.cue_scope.specs.Core.{Core, conjunction, struct, close, list, closed, Cores, no_cores, core, Members, no_members, member, dots, Elements, ends, goes_on, each, element}
use Rattle.cue_eval.specs.Literals.{literals, literals_of_parts, literals_of_field, literals_of_element}
use Rattle.cue_eval.specs.Closing.{OneDoes, OneOfParts, OneOfFields, OneOfElements, AreOwnOrUsed}

-- one of two, where each is one of two
either_of : (a b : Bool) (A B C D : Type 0) → (a ≡ true) ↔ (A ⊎ B) → (b ≡ true) ↔ (C ⊎ D) → ((a || b) ≡ true) ↔ ((A ⊎ C) ⊎ (B ⊎ D))
either_of true b A B C D p q = (
  λ h. ⊎_elim (λ x. inl (inl x)) (λ x. inr (inl x)) (p.0 refl),
  λ h. refl,
)
either_of false b A B C D p q = (
  λ h. ⊎_elim (λ x. inl (inr x)) (λ x. inr (inr x)) (q.0 h),
  λ h. ⊎_elim (⊎_elim (λ x. absurd (false≢true (p.1 (inl x)))) (λ x. q.1 (inl x))) (⊎_elim (λ x. absurd (false≢true (p.1 (inr x)))) (λ x. q.1 (inr x))) h,
)

-- what passes a test in two lists
in_both : (test : Members → Bool) (xs ys : List Members) (A B C D : Type 0) → (list_any test xs ≡ true) ↔ (A ⊎ B) → (list_any test ys ≡ true) ↔ (C ⊎ D)
    → (list_any test (xs ++ ys) ≡ true) ↔ ((A ⊎ C) ⊎ (B ⊎ D))
in_both test xs ys A B C D p q =
    subst (λ b. (b ≡ true) ↔ ((A ⊎ C) ⊎ (B ⊎ D))) (sym (list_any-append test xs ys)) (either_of (list_any test xs) (list_any test ys) A B C D p q)

-- and in the literals of a declaration that may have another label
at_label : (test : Members → Bool) (k l : List ℕ) (xs : List Members) (A B : Type 0) → (list_any test xs ≡ true) ↔ (A ⊎ B)
    → (list_any test (cond (bytes_eq k l) xs []) ≡ true) ↔ (((k ≡ l) × A) ⊎ ((k ≡ l) × B))
at_label test k l xs A B p = by (bytes_eq k l) refl where
  by : (b : Bool) → bytes_eq k l ≡ b → (list_any test (cond b xs []) ≡ true) ↔ (((k ≡ l) × A) ⊎ ((k ≡ l) × B))
  by true e =
      let same = (bytes_eq-Decides k l).0 e in (
        λ h. ⊎_elim (λ x. inl (same, x)) (λ x. inr (same, x)) (p.0 h),
        λ h. ⊎_elim (λ x. p.1 (inl x.1)) (λ x. p.1 (inr x.1)) h,
      )
  by false e = (
    λ h. absurd (false≢true h),
    λ h. absurd (false≢true (sym e ∙ (bytes_eq-Decides k l).1 (⊎_elim (λ x. x.0) (λ x. x.0) h))),
  )

neither : {A B : Type 0} → ¬ A → ¬ B → (false ≡ true) ↔ (A ⊎ B)
neither a b = (λ h. absurd (false≢true h), λ h. absurd (⊎_elim a b h))

or_false : (b : Bool) → (b || false) ≡ true → b ≡ true
or_false true h = refl
or_false false h = h

alone : (b : Bool) → ((b || false) ≡ true) ↔ ((b ≡ true) ⊎ ⊥)
alone b = (λ h. inl (or_false b h), λ h. ⊎_elim (λ g. ap (λ x. x || false) g) (λ n. absurd n) h)

mutual
  pub own_or_used : AreOwnOrUsed
  own_or_used test (conjunction cs) path = own_or_used_parts test cs path
  own_or_used test (struct ms) [] = alone (test ms)
  own_or_used test (struct ms) (label l ∷ path) = own_or_used_field test ms l path
  own_or_used test (struct ms) (index i ∷ path) = neither (λ h. h) (λ h. h)
  own_or_used test (close ms) [] = alone (test ms)
  own_or_used test (close ms) (label l ∷ path) = own_or_used_field test ms l path
  own_or_used test (close ms) (index i ∷ path) = neither (λ h. h) (λ h. h)
  own_or_used test (list es) [] = neither (λ h. h) (λ h. h)
  own_or_used test (list es) (label l ∷ path) = neither (λ h. h) (λ h. h)
  own_or_used test (list es) (index i ∷ path) = own_or_used_element test es i path
  own_or_used test (closed c) path = (inr, λ h. ⊎_elim (λ n. absurd n) (λ g. g) h)
  own_or_used test _ path = neither (λ h. h) (λ h. h)

  own_or_used_parts : (test : Members → Bool) (cs : Cores) (path : Path) → (list_any test (literals_of_parts cs path) ≡ true)
      ↔ (OneOfParts (λ ms. test ms ≡ true) (λ c path. ⊥) cs path ⊎ OneOfParts (λ ms. ⊥) (λ c path. list_any test (literals c path) ≡ true) cs path)
  own_or_used_parts test no_cores path = neither (λ h. h) (λ h. h)
  own_or_used_parts test (core c cs) path =
      in_both test (literals c path) (literals_of_parts cs path) _ _ _ _ (own_or_used test c path) (own_or_used_parts test cs path)

  own_or_used_field : (test : Members → Bool) (ms : Members) (l : List ℕ) (path : Path) → (list_any test (literals_of_field ms l path) ≡ true)
      ↔ (OneOfFields (λ ms. test ms ≡ true) (λ c path. ⊥) ms l path ⊎ OneOfFields (λ ms. ⊥) (λ c path. list_any test (literals c path) ≡ true) ms l path)
  own_or_used_field test no_members l path = neither (λ h. h) (λ h. h)
  own_or_used_field test (dots ms) l path = own_or_used_field test ms l path
  own_or_used_field test (member k mark c ms) l path =
      in_both test (cond (bytes_eq k l) (literals c path) []) (literals_of_field ms l path) _ _ _ _
      (at_label test k l (literals c path) _ _ (own_or_used test c path)) (own_or_used_field test ms l path)

  own_or_used_element : (test : Members → Bool) (es : Elements) (i : ℕ) (path : Path) → (list_any test (literals_of_element es i path) ≡ true)
      ↔ (OneOfElements (λ ms. test ms ≡ true) (λ c path. ⊥) es i path ⊎ OneOfElements (λ ms. ⊥) (λ c path. list_any test (literals c path) ≡ true) es i path)
  own_or_used_element test ends i path = neither (λ h. h) (λ h. h)
  own_or_used_element test goes_on i path = neither (λ h. h) (λ h. h)
  own_or_used_element test (each c) i path = own_or_used test c path
  own_or_used_element test (element c es) zero path = own_or_used test c path
  own_or_used_element test (element c es) (suc i) path = own_or_used_element test es i path

-- what one literal does, it does too by what follows from it
mutual
  pub does_more : (A B : Members → Type 0) (U V : Core → Path → Type 0) → ((ms : Members) → A ms → B ms) → ((c : Core) (path : Path) → U c path → V c path)
      → (c : Core) (path : Path) → OneDoes A U c path → OneDoes B V c path
  does_more A B U V f g (conjunction cs) path h = parts_do_more A B U V f g cs path h
  does_more A B U V f g (struct ms) [] h = f ms h
  does_more A B U V f g (struct ms) (label l ∷ path) h = fields_do_more A B U V f g ms l path h
  does_more A B U V f g (struct ms) (index i ∷ path) h = absurd h
  does_more A B U V f g (close ms) [] h = f ms h
  does_more A B U V f g (close ms) (label l ∷ path) h = fields_do_more A B U V f g ms l path h
  does_more A B U V f g (close ms) (index i ∷ path) h = absurd h
  does_more A B U V f g (list es) [] h = absurd h
  does_more A B U V f g (list es) (label l ∷ path) h = absurd h
  does_more A B U V f g (list es) (index i ∷ path) h = elements_do_more A B U V f g es i path h
  does_more A B U V f g (closed c) path h = g c path h
  does_more A B U V f g _ path h = absurd h

  parts_do_more : (A B : Members → Type 0) (U V : Core → Path → Type 0) → ((ms : Members) → A ms → B ms) → ((c : Core) (path : Path) → U c path → V c path)
      → (cs : Cores) (path : Path) → OneOfParts A U cs path → OneOfParts B V cs path
  parts_do_more A B U V f g no_cores path h = absurd h
  parts_do_more A B U V f g (core c cs) path (inl h) = inl (does_more A B U V f g c path h)
  parts_do_more A B U V f g (core c cs) path (inr h) = inr (parts_do_more A B U V f g cs path h)

  fields_do_more : (A B : Members → Type 0) (U V : Core → Path → Type 0) → ((ms : Members) → A ms → B ms) → ((c : Core) (path : Path) → U c path → V c path)
      → (ms : Members) (l : List ℕ) (path : Path) → OneOfFields A U ms l path → OneOfFields B V ms l path
  fields_do_more A B U V f g no_members l path h = absurd h
  fields_do_more A B U V f g (dots ms) l path h = fields_do_more A B U V f g ms l path h
  fields_do_more A B U V f g (member k mark c ms) l path (inl h) = inl (h.0, does_more A B U V f g c path h.1)
  fields_do_more A B U V f g (member k mark c ms) l path (inr h) = inr (fields_do_more A B U V f g ms l path h)

  elements_do_more : (A B : Members → Type 0) (U V : Core → Path → Type 0) → ((ms : Members) → A ms → B ms) → ((c : Core) (path : Path) → U c path → V c path)
      → (es : Elements) (i : ℕ) (path : Path) → OneOfElements A U es i path → OneOfElements B V es i path
  elements_do_more A B U V f g ends i path h = absurd h
  elements_do_more A B U V f g goes_on i path h = absurd h
  elements_do_more A B U V f g (each c) i path h = does_more A B U V f g c path h
  elements_do_more A B U V f g (element c es) zero path h = does_more A B U V f g c path h
  elements_do_more A B U V f g (element c es) (suc i) path h = elements_do_more A B U V f g es i path h
