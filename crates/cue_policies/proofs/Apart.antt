-- Branches of a tree at steps that differ have no more rows together than the tree.
use Rattle.std.proofs.Common.{◌≡◌, ◌⊎◌, ◌+◌, ◌≤◌, ℕ, inl, inr, ⊎_elim, List, [], ◌∷◌, ◌++◌, Option, Some, None, refl, sym, ap, subst, ◌∙◌, arith}
use Rattle.std.specs.declared.cmp.Ordering.{Ordering}
use Rattle.std.specs.declared.cmp.Ordering.TheVariants.{Less, Equal, Greater}
use Rattle.cue_lattice.specs.OneOf.{OneOf}
use Rattle.cue_lattice.specs.Path.{Step, step_cmp}
use Rattle.cue_table.specs.Tree.{Tree, node, Children, none, child, Rest, if_equal, find}
use Rattle.cue_policies.specs.Inner.Rows.{own_rows, tree_rows, children_rows, rest_rows}
use Rattle.cue_table.proofs.Finding.{same_step}
use Rattle.cue_table.proofs.Order.{equal_steps}

module _ {R X : Type 0} (step : X → Step) (tree : X → Tree R) where
  abbrev pub IsAt : Step → X → Type 0
  IsAt s x = step x ≡ s

  -- no step comes twice
  abbrev pub AreOnce : List X → Type 0
  AreOnce [] = Unit {0}
  AreOnce (x ∷ xs) = (¬ OneOf (IsAt (step x)) xs) × AreOnce xs

  -- the rows of all
  abbrev pub rows_of_all : List X → ℕ
  rows_of_all [] = 0
  rows_of_all (x ∷ xs) = tree_rows (tree x) + rows_of_all xs

  pub rows_push : (xs : List X) (x : X) → rows_of_all (xs ++ x ∷ []) ≡ rows_of_all xs + tree_rows (tree x)
  rows_push [] x = omega arith
  rows_push (y ∷ ys) x = omega (arith, rows_push ys x)

  not_pushed : (s : Step) (xs : List X) (x : X) → ¬ OneOf (IsAt s) xs → ¬ (step x ≡ s) → ¬ OneOf (IsAt s) (xs ++ x ∷ [])
  not_pushed s [] x non differs h = ⊎_elim differs (λ n. n) h
  not_pushed s (y ∷ ys) x non differs h = ⊎_elim (λ e. non (inl e)) (λ o. not_pushed s ys x (λ i. non (inr i)) differs o) h

  pub once_push : (xs : List X) (x : X) → AreOnce xs → ¬ OneOf (IsAt (step x)) xs → AreOnce (xs ++ x ∷ [])
  once_push [] x once non = (λ h. h, tt)
  once_push (y ∷ ys) x once non = (
    not_pushed (step y) ys x once.0 (λ e. non (inl (sym e))),
    once_push ys x once.1 (λ h. non (inr h)),
  )

  decided : (s : Step) (xs : List X) → OneOf (IsAt s) xs ⊎ (¬ OneOf (IsAt s) xs)
  decided s [] = inr (λ h. h)
  decided s (x ∷ xs) = ⊎_elim (λ h. inl (inr h)) (λ non. by (step_cmp (step x) s) refl non) (decided s xs)
    where
      differs : (o : Ordering) → step_cmp (step x) s ≡ o → (o ≡ Equal → ⊥) → ¬ (step x ≡ s)
      differs o e non same = non (sym e ∙ subst (λ t. step_cmp (step x) t ≡ Equal) same (same_step (step x)))

      by : (o : Ordering) → step_cmp (step x) s ≡ o → ¬ OneOf (IsAt s) xs → OneOf (IsAt s) (x ∷ xs) ⊎ (¬ OneOf (IsAt s) (x ∷ xs))
      by Equal e non = inl (inl (equal_steps (step x) s e))
      by Less e non = inr (λ h. ⊎_elim (differs Less e (λ f. cc)) non h)
      by Greater e non = inr (λ h. ⊎_elim (differs Greater e (λ f. cc)) non h)

  -- one at a step, and the others
  pub record IsTakenOut (s : Step) (xs : List X) : Type 0 where
    pub one : X
    pub is_in : OneOf (λ x. x ≡ one) xs
    pub at : step one ≡ s
    pub others : List X
    pub rows : rows_of_all xs ≡ tree_rows (tree one) + rows_of_all others
    pub among : (x : X) → OneOf (λ y. y ≡ x) others → OneOf (λ y. y ≡ x) xs
    pub gone : ¬ OneOf (IsAt s) others
    pub once : AreOnce others

  taken_out : (s : Step) (xs : List X) → AreOnce xs → OneOf (IsAt s) xs → IsTakenOut s xs
  taken_out s [] once h = absurd h
  taken_out s (x ∷ xs) once h = ⊎_elim first (λ o. later o (taken_out s xs once.1 o)) h
    where
      first : step x ≡ s → IsTakenOut s (x ∷ xs)
      first e = record {
        one = x;
        is_in = inl refl;
        at = e;
        others = xs;
        rows = refl;
        among = λ y is. inr is;
        gone = subst (λ t. ¬ OneOf (IsAt t) xs) e once.0;
        once = once.1;
      }

      kept_apart : (out : IsTakenOut s xs) → ¬ OneOf (IsAt (step x)) out.others
      kept_apart out o = once.0 (moved out.others out.among o)
        where
          moved : (ys : List X) → ((y : X) → OneOf (λ z. z ≡ y) ys → OneOf (λ z. z ≡ y) xs) → OneOf (IsAt (step x)) ys → OneOf (IsAt (step x)) xs
          moved [] f o = absurd o
          moved (y ∷ ys) f o = ⊎_elim (λ e. there xs (f y (inl refl)) e) (λ p. moved ys (λ z is. f z (inr is)) p) o
            where
              there : (zs : List X) → OneOf (λ z. z ≡ y) zs → step y ≡ step x → OneOf (IsAt (step x)) zs
              there [] is e = absurd is
              there (z ∷ zs) is e = ⊎_elim (λ same. inl (ap step same ∙ e)) (λ more. inr (there zs more e)) is

      later : OneOf (IsAt s) xs → IsTakenOut s xs → IsTakenOut s (x ∷ xs)
      later o out = record {
        one = out.one;
        is_in = inr out.is_in;
        at = out.at;
        others = x ∷ out.others;
        rows = omega (arith, out.rows);
        among = λ y is. ⊎_elim (λ e. inl e) (λ more. inr (out.among y more)) is;
        gone = λ g. ⊎_elim (λ e. once.0 (subst (λ t. OneOf (IsAt t) xs) (sym e) o)) (λ more. out.gone more) g;
        once = (kept_apart out, out.once);
      }

  -- each is the branch that is found at its step
  abbrev pub AreFoundIn : Children R → List X → Type 0
  AreFoundIn children xs = (x : X) → OneOf (λ y. y ≡ x) xs → (tree_rows (tree x) ≡ 0) ⊎ (find (step x) children ≡ Some (tree x))

  find_other : (s next : Step) (branch : Tree R) (children : Children R) → ¬ (s ≡ next) → find s (child next branch children) ≡ find s children
  find_other s next branch children differs = by (step_cmp s next) refl
    where
      by : (o : Ordering) → step_cmp s next ≡ o → find s (child next branch children) ≡ find s children
      by Less e = ap (λ o. if_equal o branch (find s children)) e
      by Greater e = ap (λ o. if_equal o branch (find s children)) e
      by Equal e = absurd (differs (equal_steps s next e))

  at_of : (s : Step) (xs : List X) (x : X) → OneOf (λ y. y ≡ x) xs → step x ≡ s → OneOf (IsAt s) xs
  at_of s [] x is e = absurd is
  at_of s (y ∷ ys) x is e = ⊎_elim (λ same. inl (ap step same ∙ e)) (λ more. inr (at_of s ys x more e)) is

  found_other : (s : Step) (branch : Tree R) (children : Children R) (xs : List X) → ¬ OneOf (IsAt s) xs → AreFoundIn (child s branch children) xs → AreFoundIn children xs
  found_other s branch children xs non found x is =
      ⊎_elim (λ e. inl e) (λ e. inr (sym (find_other (step x) s branch children (λ same. non (at_of s xs x is same))) ∙ e)) (found x is)

  nothing_there : (xs : List X) → AreFoundIn none xs → rows_of_all xs ≡ 0
  nothing_there [] found = refl
  nothing_there (x ∷ xs) found =
      let others = nothing_there xs (λ y is. found y (inr is)) in
      ⊎_elim (λ e. omega (arith, e, others)) (λ e. absurd (let no : None ≡ Some (tree x) = e in cc)) (found x (inl refl))

  -- so together they have no more rows
  pub rows_apart : (children : Children R) (xs : List X) → AreOnce xs → AreFoundIn children xs → rows_of_all xs ≤ children_rows children
  rows_apart none xs once found = omega (arith, nothing_there xs found)
  rows_apart (child s branch children) xs once found = ⊎_elim
      (λ o. here (taken_out s xs once o) (λ ys again f. rows_apart children ys again f))
      (λ non. elsewhere non (rows_apart children xs once (found_other s branch children xs non found)))
      (decided s xs)
    where
      here : IsTakenOut s xs → ((ys : List X) → AreOnce ys → AreFoundIn children ys → rows_of_all ys ≤ children_rows children) → rows_of_all xs ≤ tree_rows branch + children_rows children
      here out go =
          let more = go out.others out.once (found_other s branch children out.others out.gone (λ x is. found x (out.among x is))) in
          let one : tree_rows (tree out.one) ≤ tree_rows branch = ⊎_elim
          (λ e. omega (arith, e))
          (λ e.
          let first : find (step out.one) (child s branch children) ≡ Some branch = ap (λ o. if_equal o branch (find (step out.one) children)) (ap (λ t. step_cmp t s) out.at ∙ same_step s) in
          let both : Some (tree out.one) ≡ Some branch = sym e ∙ first in
          let same : tree out.one ≡ branch = cc in
          omega (arith, ap (λ t. tree_rows t) same))
          (found out.one out.is_in) in
          omega (arith, out.rows, more, one)

      elsewhere : ¬ OneOf (IsAt s) xs → rows_of_all xs ≤ children_rows children → rows_of_all xs ≤ tree_rows branch + children_rows children
      elsewhere non more = omega (arith, more)
