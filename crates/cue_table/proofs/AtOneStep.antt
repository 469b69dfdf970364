-- Branches that all stand at one step, and the branches below them put together.
use Rattle.std.proofs.Common.{◌≡◌, ◌↔◌, ◌⊎◌, ◌≤◌, ◌<◌, ◌+◌, ℕ, false, Option, None, List, [], ◌∷◌, ◌++◌, map, length, take, get_or, All, refl, sym, ap, subst, ◌∙◌, inl, inr, ⊎_elim, arith}
use Rattle.std.specs.Option.{is_some}
use Rattle.std.specs.List.{AllByRecursion}
use Rattle.std.proofs.lemmas.List.{map-append, take_more}
use Rattle.std.proofs.lemmas.List.Elements.{All-from_recursion, All-push, All-same, recursion_from_All}
use Rattle.cue_lattice.proofs.OneOf.{one_of-append, one_of-push}
use Rattle.cue_lattice.specs.Limits.{step_limit}
use Rattle.cue_lattice.specs.OneOf.{OneOf}
use Rattle.cue_lattice.specs.Path.{Step, step_cmp, Path}
use Rattle.cue_row.specs.Steps.{step_of}
use Rattle.cue_row.specs.declared.step.Step as program
use Rattle.cue_table.specs.Depth.{tree_depth, children_depth}
use Rattle.cue_table.specs.Form.{AreBranches, IsRowKept, IsTable}
use Rattle.cue_table.specs.Inner.Child.{Child}
use Rattle.cue_table.specs.Inner.Given.{given_of, tree_of_branch, IsBranch, RefusesAtRoot}
use Rattle.cue_table.specs.Inner.View.{branches}
use Rattle.cue_table.specs.Many.{IsOfBranches, AreUnified}
use Rattle.cue_table.specs.Meet.{IsMet}
use Rattle.cue_table.specs.Refuses.{RowRefuses, TableRefuses}
use Rattle.cue_table.specs.Tree.{Tree, node, no_rest, row_of, below, rest_below, if_not_empty}
use Rattle.cue_table.proofs.ByHalves.{At, none_at_root, one_below, one_branch, rowless}
use Rattle.cue_table.proofs.Depth.{refusals_depth, refused_depth}
use Rattle.cue_table.proofs.Finding.{branches_rise}
use Rattle.cue_table.proofs.Rising.{rising_given}

-- ---- branches at one step
module _ {R Q : Type 0} (refuses : R → Q → Type 0) where
  -- what one of the branches refuses below the step at which all of them stand
  at_one_step :
      (step : program.Step) (cs : List (Child R)) (at : Step) (path : Path) (question : Q) → AllByRecursion (λ c. c.step ≡ step) cs
      → ((step_of step ≡ at) × OneOf (λ table. TableRefuses refuses table path question) (map (λ (c : Child R). c.node) cs)) ↔ OneOf (At refuses at path question) (map given_of cs)
  at_one_step step [] at path question all = (λ h. h.1, λ h. absurd h)
  at_one_step step (c ∷ cs) at path question all =
      let rest = at_one_step step cs at path question all.1 in
      let same : step_of c.step ≡ step_of step = ap step_of all.0 in (
        λ h. ⊎_elim (λ x. inl (same ∙ h.0, x)) (λ x. inr (rest.0 (h.0, x))) h.1,
        ⊎_elim (λ x. (sym same ∙ x.0, inl x.1)) (λ x. let k = rest.1 x in (k.0, inr k.1)),
      )

  -- the places of branches at one step, unified, are the one branch of the table
  pub one_step_given :
      (step : program.Step) (cs : List (Child R)) (one : Child R) (met table : Tree R) → All (λ c. c.step ≡ step) cs
      → AreUnified refuses (map (λ (c : Child R). c.node) cs) met → one.step ≡ step → one.node ≡ met → table ≡ tree_of_branch one → IsOfBranches refuses (map given_of cs) table
  one_step_given step cs one met table all unified is_step is_node is =
      subst (IsOfBranches refuses (map given_of cs)) (sym is) (record {
        root = λ question h. h;
        below = λ at path question.
            let here = one_branch refuses (step_of one.step) one.node at path question (step_cmp at (step_of one.step)) refl in
            let given = at_one_step step cs at path question (recursion_from_All (λ c. c.step ≡ step) cs all) in
            let tables = unified path question in (
              λ r. let k = here.0 r in given.0 (sym (ap step_of is_step) ∙ k.0, tables.0 (subst (λ t. TableRefuses refuses t path question) is_node k.1)),
              λ h. let k = given.1 h in here.1 (ap step_of is_step ∙ k.0, subst (λ t. TableRefuses refuses t path question) (sym is_node) (tables.1 k.1)),
            );
      })

  given_place : (cs : List (Child R)) (at : Step) (path : Path) (question : Q) → OneOf (At refuses at path question) (map given_of cs) → OneOf (λ table. TableRefuses refuses table path question) (map (λ (c : Child R). c.node) cs)
  given_place [] at path question h = h
  given_place (c ∷ cs) at path question h = ⊎_elim (λ x. inl x.1) (λ x. inr (given_place cs at path question x)) h

  -- where they know nothing, nothing is given
  pub nothing_given :
      (cs : List (Child R)) (met : Tree R) → is_some (if_not_empty met) ≡ false → AreUnified refuses (map (λ (c : Child R). c.node) cs) met → IsOfBranches refuses (map given_of cs) met
  nothing_given cs met few unified = record {
    root = λ question. rowless refuses met [] question few;
    below = λ at path question. (
      λ r. absurd (rowless refuses met (at ∷ path) question few r),
      λ h. absurd (rowless refuses met path question few ((unified path question).1 (given_place cs at path question h))),
    );
  }

  -- the deepest of some tables is as deep as all of them together
  one_deep : (cs : List (Child R)) (path : Path) (question : Q) → AllByRecursion (λ c. tree_depth c.node < step_limit) cs → OneOf (λ table. TableRefuses refuses table path question) (map (λ (c : Child R). c.node) cs) → length path < step_limit
  one_deep [] path question all h = absurd h
  one_deep (c ∷ cs) path question all h = ⊎_elim (λ x. let d = refused_depth refuses c.node path question x in omega (arith, all.0)) (one_deep cs path question all.1) h

  low_ones : (is_value : R → Type 0) (cs : List (Child R)) → AllByRecursion (IsBranch refuses is_value) cs → AllByRecursion (λ c. tree_depth c.node < step_limit) cs
  low_ones is_value [] all = tt
  low_ones is_value (c ∷ cs) all = (all.0.2, low_ones is_value cs all.1)

  pub unified_depth :
      (is_value : R → Type 0) (cs : List (Child R)) (met : Tree R) → All (IsBranch refuses is_value) cs → IsTable refuses is_value met
      → AreUnified refuses (map (λ (c : Child R). c.node) cs) met → tree_depth met < step_limit
  unified_depth is_value cs met all form unified =
      let low = low_ones is_value cs (recursion_from_All (IsBranch refuses is_value) cs all) in
      let deep = refusals_depth refuses is_value met 63 form (λ path question r. let d = one_deep cs path question low ((unified path question).0 r) in omega arith) in
      omega (arith, deep)

-- ---- a list so far
module _ {X : Type 0} (P : X → Type 0) where
  pub all_more : (xs : List X) (i : ℕ) (x : X) → i < length xs → x ≡ get_or xs i x → P x → All P (take i xs) → All P (take (i + 1) xs)
  all_more xs i x less at here so_far =
      All-same P (take (i + 1) xs) (take i xs ++ x ∷ []) (take_more xs i x less ∙ ap (λ (y : X). take i xs ++ y ∷ []) (sym at)) (All-push P (take i xs) x so_far here)

-- ---- a place taken apart
module _ {R : Type 0} where
  -- a place with a row and no rest
  pub plain_place : (row : Option R) (own : List (Child R)) (place : Tree R) → row_of place ≡ row → rest_below place ≡ no_rest → branches own ≡ below place → place ≡ node row (branches own) no_rest
  plain_place row own (node here children rest) e f h = λ i. node (e i) (sym h i) (f i)

module _ {R Q : Type 0} (refuses : R → Q → Type 0) where
  -- what a place without a rest refuses: what its row refuses, and what the branches below it do
  place_apart :
      (P : R → Type 0) (row : Option R) (own : List (Child R)) → AreBranches P (branches own) → (path : Path) (question : Q)
      → TableRefuses refuses (node row (branches own) no_rest) path question ↔ (RefusesAtRoot refuses row path question ⊎ OneOf (λ table. TableRefuses refuses table path question) (map tree_of_branch own))
  place_apart P row own form [] question = (λ h. inl (refl, h), ⊎_elim (λ r. r.1) (λ k. absurd (none_at_root refuses own question k)))
  place_apart P row own form (at ∷ path) question =
      let given = rising_given refuses own (node None (branches own) no_rest) (branches_rise P (branches own) form) refl in
      let one = one_below refuses own at path question in
      let below = given.below at path question in
      (λ h. inr (one.1 (below.0 h)), ⊎_elim (λ r. let e = r.0 in absurd (cc)) (λ k. below.1 (one.0 k)))

  own_ones : (is_value : R → Type 0) (cs : List (Child R)) → AreBranches (IsRowKept refuses is_value) (branches cs) → children_depth (branches cs) ≤ step_limit → AllByRecursion (IsBranch refuses is_value) cs
  own_ones is_value [] form low = tt
  own_ones is_value (c ∷ cs) form low = ((form.1, form.2, omega (arith, low)), own_ones is_value cs form.3 (omega (arith, low)))

  -- what is known of the branches below a plain place
  pub plain_form :
      (is_value : R → Type 0) (row : Option R) (own : List (Child R)) (place : Tree R) → place ≡ node row (branches own) no_rest → IsTable refuses is_value place → tree_depth place < step_limit
      → AreBranches (IsRowKept refuses is_value) (branches own) × (children_depth (branches own) ≤ step_limit)
  plain_form is_value row own place is form low =
      let f : IsTable refuses is_value (node row (branches own) no_rest) = subst (IsTable refuses is_value) is form in
      let d : tree_depth (node row (branches own) no_rest) < step_limit = subst (λ (t : Tree R). tree_depth t < step_limit) is low in
      (f.1, omega (arith, d))

  -- the branches below a place may be those of a table
  pub own_branches : (is_value : R → Type 0) (cs : List (Child R)) → AreBranches (IsRowKept refuses is_value) (branches cs) → children_depth (branches cs) ≤ step_limit → All (IsBranch refuses is_value) cs
  own_branches is_value cs form low = All-from_recursion (IsBranch refuses is_value) cs (own_ones is_value cs form low)

  -- The row, the branches so far, the places beside and those that are left refuse together what all
  -- places do.
  abbrev pub PutTogether : Option R → List (Child R) → List (Tree R) → List (Child R) → List (Child R) → Type 0
  PutTogether row below others left all =
      (path : Path) (question : Q)
      → (RefusesAtRoot refuses row path question
      ⊎ (OneOf (λ table. TableRefuses refuses table path question) (map tree_of_branch below)
      ⊎ (OneOf (λ table. TableRefuses refuses table path question) others
      ⊎ OneOf (λ (c : Child R). TableRefuses refuses c.node path question) left)))
      ↔ OneOf (λ (c : Child R). TableRefuses refuses c.node path question) all

  -- nothing is put yet
  pub put_none :
      (row : Option R) (below : List (Child R)) (others : List (Tree R)) (left all : List (Child R)) → below ≡ [] → others ≡ [] → left ≡ all
      → ((question : Q) → RowRefuses refuses row question → OneOf (λ (c : Child R). TableRefuses refuses c.node [] question) all) → PutTogether row below others left all
  put_none row below others left all e f g first path question =
      let P : Tree R → Type 0 = λ table. TableRefuses refuses table path question in
      let N : Child R → Type 0 = λ c. TableRefuses refuses c.node path question in (
        ⊎_elim
            (λ h. subst (λ (at : Path). OneOf (λ (c : Child R). TableRefuses refuses c.node at question) all) (sym h.0) (first question h.1))
            (⊎_elim
            (λ h. absurd (subst (λ (xs : List (Child R)). OneOf P (map tree_of_branch xs)) e h))
            (⊎_elim (λ h. absurd (subst (OneOf P) f h)) (λ h. subst (OneOf N) g h))),
        λ h. inr (inr (inr (subst (OneOf N) (sym g) h))),
      )

  -- the branches below the next place are put to the others
  pub put_below :
      (P : R → Type 0) (row : Option R) (below more own : List (Child R)) (others : List (Tree R)) (left rest all : List (Child R)) (one : Child R)
      → left ≡ one ∷ rest → one.node ≡ node row (branches own) no_rest → AreBranches P (branches own) → more ≡ below ++ own
      → PutTogether row below others left all → PutTogether row more others rest all
  put_below P row below more own others left rest all one e is form f so_far path question =
      let T : Tree R → Type 0 = λ table. TableRefuses refuses table path question in
      let N : Child R → Type 0 = λ c. TableRefuses refuses c.node path question in
      let was = so_far path question in
      let apart = place_apart P row own form path question in
      let both = one_of-append T (map tree_of_branch below) (map tree_of_branch own) in
      let all_below : map tree_of_branch more ≡ map tree_of_branch below ++ map tree_of_branch own = ap (map tree_of_branch) f ∙ map-append tree_of_branch below own in (
        ⊎_elim
            (λ h. was.0 (inl h))
            (⊎_elim
            (λ h. ⊎_elim
            (λ b. was.0 (inr (inl b)))
            (λ o. was.0 (inr (inr (inr (subst (OneOf N) (sym e) (inl (subst T (sym is) (apart.1 (inr o))))))))) (both.0 (subst (OneOf T) all_below h)))
            (⊎_elim (λ h. was.0 (inr (inr (inl h)))) (λ h. was.0 (inr (inr (inr (subst (OneOf N) (sym e) (inr h)))))))),
        λ h. ⊎_elim
            (λ a. inl a)
            (⊎_elim
            (λ b. inr (inl (subst (OneOf T) (sym all_below) (both.1 (inl b)))))
            (⊎_elim
            (λ o. inr (inr (inl o)))
            (λ l. ⊎_elim
            (λ n. ⊎_elim (λ a. inl a) (λ k. inr (inl (subst (OneOf T) (sym all_below) (both.1 (inr k))))) (apart.0 (subst T is n)))
            (λ k. inr (inr (inr k))) (subst (OneOf N) e l)))) (was.1 h),
      )

  -- the next place is kept beside
  pub put_beside :
      (row : Option R) (below : List (Child R)) (others more : List (Tree R)) (place : Tree R) (left rest all : List (Child R)) (one : Child R)
      → left ≡ one ∷ rest → one.node ≡ place → more ≡ others ++ place ∷ []
      → PutTogether row below others left all → PutTogether row below more rest all
  put_beside row below others more place left rest all one e is f so_far path question =
      let T : Tree R → Type 0 = λ table. TableRefuses refuses table path question in
      let N : Child R → Type 0 = λ c. TableRefuses refuses c.node path question in
      let was = so_far path question in
      let both = one_of-push T others place in (
        ⊎_elim
            (λ h. was.0 (inl h))
            (⊎_elim
            (λ h. was.0 (inr (inl h)))
            (⊎_elim
            (λ h. ⊎_elim (λ o. was.0 (inr (inr (inl o)))) (λ p. was.0 (inr (inr (inr (subst (OneOf N) (sym e) (inl (subst T (sym is) p))))))) (both.0 (subst (OneOf T) f h)))
            (λ h. was.0 (inr (inr (inr (subst (OneOf N) (sym e) (inr h)))))))),
        λ h. ⊎_elim
            (λ a. inl a)
            (⊎_elim
            (λ b. inr (inl b))
            (⊎_elim
            (λ o. inr (inr (inl (subst (OneOf T) (sym f) (both.1 (inl o))))))
            (λ l. ⊎_elim (λ n. inr (inr (inl (subst (OneOf T) (sym f) (both.1 (inr (subst T is n))))))) (λ k. inr (inr (inr k))) (subst (OneOf N) e l)))) (was.1 h),
      )

  nodes_of : (cs : List (Child R)) (path : Path) (question : Q) → OneOf (λ (c : Child R). TableRefuses refuses c.node path question) cs ↔ OneOf (λ table. TableRefuses refuses table path question) (map (λ (c : Child R). c.node) cs)
  nodes_of [] path question = (λ h. h, λ h. h)
  nodes_of (c ∷ cs) path question =
      let rest = nodes_of cs path question in
      (⊎_elim (λ h. inl h) (λ h. inr (rest.0 h)), ⊎_elim (λ h. inl h) (λ h. inr (rest.1 h)))

  given_below : (below : List (Child R)) (table : Tree R) → IsOfBranches refuses (map given_of below) table → (path : Path) (question : Q) → TableRefuses refuses table path question ↔ OneOf (λ t. TableRefuses refuses t path question) (map tree_of_branch below)
  given_below below table given [] question = (λ h. absurd (given.root question h), λ h. absurd (none_at_root refuses below question h))
  given_below below table given (at ∷ path) question =
      let one = one_below refuses below at path question in
      let here = given.below at path question in
      (λ h. one.1 (here.0 h), λ h. here.1 (one.0 h))

  -- where no place is left, the table of the branches is met with the other places and then with the row
  pub put_all :
      (row : Option R) (below : List (Child R)) (others : List (Tree R)) (left all : List (Child R)) (table beside both met : Tree R) → length left ≡ 0
      → IsOfBranches refuses (map given_of below) table → AreUnified refuses others beside → IsMet refuses table beside both
      → ((path : Path) (question : Q) → TableRefuses refuses met path question ↔ (TableRefuses refuses both path question ⊎ RefusesAtRoot refuses row path question))
      → PutTogether row below others left all → AreUnified refuses (map (λ (c : Child R). c.node) all) met
  put_all row below others (one ∷ left) all table beside both met ended given unified union last so_far = absurd (omega (arith, ended))
  put_all row below others [] all table beside both met ended given unified union last so_far = λ path question.
      let was = so_far path question in
      let nodes = nodes_of all path question in
      let own = given_below below table given path question in
      let one = unified path question in
      let two = union path question in
      let end = last path question in (
        λ h. nodes.0 (was.0 (⊎_elim (λ x. ⊎_elim (λ t. inr (inl (own.0 t))) (λ b. inr (inr (inl (one.0 b)))) (two.0 x)) (λ x. inl x) (end.0 h))),
        λ h. ⊎_elim
            (λ a. end.1 (inr a))
            (⊎_elim
            (λ b. end.1 (inl (two.1 (inl (own.1 b)))))
            (⊎_elim (λ o. end.1 (inl (two.1 (inr (one.1 o))))) (λ k. absurd k))) (was.1 (nodes.1 h)),
      )
