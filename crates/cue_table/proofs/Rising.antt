-- Branches whose steps rise are those of a table.
use Rattle.std.proofs.Common.{◌≡◌, ◌↔◌, ◌<◌, ◌≤◌, ◌+◌, ℕ, zero, suc, Bool, true, false, Some, None, List, [], ◌∷◌, ◌++◌, All, append_assoc, length, map, get_or, refl, sym, ap, subst, ◌∙◌, inl, inr, ⊎_elim, arith}
use Rattle.std.specs.List.{AllByRecursion, AllAdjacentBelow, IsAllAdjacentAnswer}
use Rattle.std.specs.Ordering.{is_lt}
use Rattle.std.specs.Option.{is_some}
use Rattle.std.specs.Prelude.{IsTrue, cond, filter}
use Rattle.std.proofs.lemmas.List.{map-append}
use Rattle.std.proofs.lemmas.List.Elements.{recursion_from_All}
use Rattle.std.specs.declared.cmp.Ordering.{Ordering}
use Rattle.std.specs.declared.cmp.Ordering.TheVariants.{Less, Equal, Greater}
use Rattle.cue_lattice.specs.Limits.{step_limit}
use Rattle.cue_lattice.specs.OneOf.{OneOf}
use Rattle.cue_lattice.specs.Path.{Step, step_cmp, Path}
use Rattle.cue_row.specs.Steps.{step_of}
use Rattle.cue_row.specs.declared.step.Step as program
use Rattle.cue_table.specs.Depth.{tree_depth, children_depth}
use Rattle.cue_table.specs.Form.{IsStepBelowAll, IsRowKept, IsTable, IsTreeTaken, AreBranches}
use Rattle.cue_table.specs.Inner.Form.{StepsRise}
use Rattle.cue_table.specs.Inner.Child.{Child}
use Rattle.cue_table.specs.Inner.Given.{given_of, has_rows, IsBranch}
use Rattle.cue_table.specs.Inner.View.{branches}
use Rattle.cue_table.specs.Many.{IsOfBranches}
use Rattle.cue_table.specs.Tree.{Tree, node, none, child, no_rest, onward, if_not_empty, find}
use Rattle.cue_table.proofs.ByHalves.{At}
use Rattle.cue_table.proofs.Branches.{FoundRefuses, find_first, find_before, find_past, find_below, found_refuses, below_all}
use Rattle.cue_table.proofs.Finding.{same_step}
use Rattle.cue_table.proofs.Order.{equal_steps}

is_before : (o : Ordering) → true ≡ is_lt o → o ≡ Less
is_before Less e = refl
is_before Equal e = absurd (cc)
is_before Greater e = absurd (cc)

module _ {R : Type 0} where
  -- the step of a branch is before that of another
  abbrev pub stands_before : Child R → Child R → Bool
  stands_before x y = is_lt (step_cmp (step_of x.step) (step_of y.step))

  -- what follows in a list with one more in front
  later : (x : Child R) (cs : List (Child R)) (k : ℕ) (d : Child R) → get_or (x ∷ cs) (suc k + 1) d ≡ get_or cs (k + 1) d
  later x cs k d = let next : suc k + 1 ≡ suc (k + 1) = omega arith in ap (λ n. get_or (x ∷ cs) n d) next

  -- the steps of neighbours rise, so all do
  rise_all : (cs : List (Child R)) → AllAdjacentBelow (λ x y. true ≡ stands_before x y) cs (length cs) → StepsRise (branches cs)
  rise_all [] h = tt
  rise_all (x ∷ []) h = (tt, tt)
  rise_all (x ∷ y ∷ cs) h =
      let rest = rise_all (y ∷ cs) (λ k d less. h (suc k) d (omega arith) ∙ ap (stands_before (get_or (y ∷ cs) k d)) (later x (y ∷ cs) k d)) in
      let low : step_cmp (step_of x.step) (step_of y.step) ≡ Less = is_before _ (h 0 x (omega arith)) in
      ((low, below_all (step_of x.step) (step_of y.step) (branches cs) low rest.0), rest)

  rise_next : (cs : List (Child R)) (k : ℕ) (d : Child R) → StepsRise (branches cs) → k + 1 < length cs → stands_before (get_or cs k d) (get_or cs (k + 1) d) ≡ true
  rise_next [] k d h less = absurd (omega arith)
  rise_next (x ∷ []) k d h less = absurd (omega arith)
  rise_next (x ∷ y ∷ cs) zero d h less = ap is_lt h.0.0
  rise_next (x ∷ y ∷ cs) (suc k) d h less = ap (stands_before (get_or (y ∷ cs) k d)) (later x (y ∷ cs) k d) ∙ rise_next (y ∷ cs) k d h.1 (omega arith)

  pub rise_answer : (cs : List (Child R)) (r : Bool) → IsAllAdjacentAnswer (λ x y b. b ≡ stands_before x y) cs r → IsTrue r ↔ StepsRise (branches cs)
  rise_answer cs true h = (λ t. rise_all cs h, λ t. refl)
  rise_answer [] false (k, less, apart) = absurd (omega arith)
  rise_answer (x ∷ cs) false (k, less, apart) = (λ t. absurd (cc), λ rise. let never = apart x in let yes = rise_next (x ∷ cs) k x rise less in absurd (cc))

module _ {R Q : Type 0} (refuses : R → Q → Type 0) where
  formed : (is_value : R → Type 0) (cs : List (Child R)) → AllByRecursion (IsBranch refuses is_value) cs → StepsRise (branches cs) → AreBranches (IsRowKept refuses is_value) (branches cs) × (children_depth (branches cs) ≤ step_limit)
  formed is_value [] all rise = (tt, omega arith)
  formed is_value (x ∷ cs) all rise =
      let rest = formed is_value cs all.1 rise.1 in
      ((rise.0, all.0.0, all.0.1, rest.0), omega (arith, rest.1, all.0.2))

  -- a table that has them is in form
  pub rising_form : (is_value : R → Type 0) (cs : List (Child R)) → All (IsBranch refuses is_value) cs → StepsRise (branches cs) → AreBranches (IsRowKept refuses is_value) (branches cs)
  rising_form is_value cs all rise = (formed is_value cs (recursion_from_All (IsBranch refuses is_value) cs all) rise).0

  pub rising_depth : (is_value : R → Type 0) (cs : List (Child R)) → All (IsBranch refuses is_value) cs → StepsRise (branches cs) → children_depth (branches cs) ≤ step_limit
  rising_depth is_value cs all rise = (formed is_value cs (recursion_from_All (IsBranch refuses is_value) cs all) rise).1

  -- what is found at a step, by how it compares with the first one
  found_by :
      (x : Child R) (cs : List (Child R)) (at : Step) (path : Path) (question : Q) → IsStepBelowAll (step_of x.step) (branches cs)
      → FoundRefuses refuses (find at (branches cs)) path question ↔ OneOf (At refuses at path question) (map given_of cs)
      → (o : Ordering) → step_cmp at (step_of x.step) ≡ o
      → FoundRefuses refuses (find at (branches (x ∷ cs))) path question ↔ OneOf (At refuses at path question) (map given_of (x ∷ cs))
  found_by x cs at path question low rest Less e =
      let on = find_before at (step_of x.step) x.node (branches cs) e in (
        λ h. inr (rest.0 (found_refuses refuses _ _ on path question h)),
        ⊎_elim
            (λ h. let no : step_cmp at at ≡ Less = subst (λ s. step_cmp at s ≡ Less) h.0 e in let yes = same_step at in absurd (cc))
            (λ h. found_refuses refuses _ _ (sym on) path question (rest.1 h)),
      )
  found_by x cs at path question low rest Greater e =
      let on = find_past at (step_of x.step) x.node (branches cs) e in (
        λ h. inr (rest.0 (found_refuses refuses _ _ on path question h)),
        ⊎_elim
            (λ h. let no : step_cmp at at ≡ Greater = subst (λ s. step_cmp at s ≡ Greater) h.0 e in let yes = same_step at in absurd (cc))
            (λ h. found_refuses refuses _ _ (sym on) path question (rest.1 h)),
      )
  found_by x cs at path question low rest Equal e =
      let same : at ≡ step_of x.step = equal_steps at (step_of x.step) e in
      let here : find at (branches (x ∷ cs)) ≡ Some x.node = ap (λ s. find s (branches (x ∷ cs))) same ∙ find_first (step_of x.step) x.node (branches cs) in
      let none : find at (branches cs) ≡ None = ap (λ s. find s (branches cs)) same ∙ find_below (step_of x.step) (branches cs) low in (
        λ h. inl (sym same, found_refuses refuses _ _ here path question h),
        ⊎_elim
            (λ h. found_refuses refuses _ _ (sym here) path question h.1)
            (λ h. absurd (found_refuses refuses _ _ none path question (rest.1 h))),
      )

  found : (cs : List (Child R)) (at : Step) (path : Path) (question : Q) → StepsRise (branches cs) → FoundRefuses refuses (find at (branches cs)) path question ↔ OneOf (At refuses at path question) (map given_of cs)
  found [] at path question rise = (λ h. h, λ h. h)
  found (x ∷ cs) at path question rise = found_by x cs at path question rise.0 (found cs at path question rise.1) (step_cmp at (step_of x.step)) refl

  -- it refuses what they are given for
  pub rising_given : (cs : List (Child R)) (table : Tree R) → StepsRise (branches cs) → table ≡ node None (branches cs) no_rest → IsOfBranches refuses (map given_of cs) table
  rising_given cs table rise e = subst (IsOfBranches refuses (map given_of cs)) (sym e) (record {
    root = λ question h. h;
    below = λ at path question. found cs at path question rise;
  })

-- ---- the branches of what is given
module _ {R : Type 0} where
  rows_taken : (tree : Tree R) → is_some (if_not_empty tree) ≡ true → IsTreeTaken tree
  rows_taken (node (Some row) children rest) e = tt
  rows_taken (node None (child next tree children) rest) e = tt
  rows_taken (node None none (onward n tree)) e = tt
  rows_taken (node None none no_rest) e = absurd (cc)

  -- one more branch is made
  pub made_more :
      (cs more : List (Child R)) (c : Child R) (given left all : List (program.Step × Tree R)) (one : program.Step × Tree R) → given ≡ one ∷ left → has_rows one ≡ true → given_of c ≡ one → more ≡ cs ++ c ∷ []
      → map given_of cs ++ filter has_rows given ≡ filter has_rows all → map given_of more ++ filter has_rows left ≡ filter has_rows all
  made_more cs more c given left all one e some is pushed so_far =
      let kept : filter has_rows given ≡ one ∷ filter has_rows left = ap (filter has_rows) e ∙ ap (λ b. cond b (one ∷ filter has_rows left) (filter has_rows left)) some in
      ap (λ xs. map given_of xs ++ filter has_rows left) pushed ∙ ap (λ xs. xs ++ filter has_rows left) (map-append given_of cs (c ∷ []))
      ∙ append_assoc (map given_of cs) (given_of c ∷ []) (filter has_rows left) ∙ ap (λ x. map given_of cs ++ x ∷ filter has_rows left) is ∙ ap (λ xs. map given_of cs ++ xs) (sym kept) ∙ so_far

  -- a table without rows makes none
  pub made_none :
      (cs : List (Child R)) (given left all : List (program.Step × Tree R)) (one : program.Step × Tree R) → given ≡ one ∷ left → has_rows one ≡ false
      → map given_of cs ++ filter has_rows given ≡ filter has_rows all → map given_of cs ++ filter has_rows left ≡ filter has_rows all
  made_none cs given left all one e few so_far =
      let kept : filter has_rows given ≡ filter has_rows left = ap (filter has_rows) e ∙ ap (λ b. cond b (one ∷ filter has_rows left) (filter has_rows left)) few in
      ap (λ xs. map given_of cs ++ xs) (sym kept) ∙ so_far

  pub made_branch :
      {Q : Type 0} (refuses : R → Q → Type 0) (is_value : R → Type 0) (c : Child R) (tree table : Tree R) → c.node ≡ tree → tree ≡ table → IsTable refuses is_value tree → is_some (if_not_empty table) ≡ true → tree_depth table < step_limit
      → IsBranch refuses is_value c
  made_branch refuses is_value c tree table e same form some low =
      let is : table ≡ c.node = sym same ∙ sym e in
      (subst IsTreeTaken is (rows_taken table some), subst (IsTable refuses is_value) (sym e) form, subst (λ t. tree_depth t < step_limit) is low)

-- an order is less where it is told so
pub is_last : (o : Ordering) (less : Bool) → less ≡ is_lt o → less ≡ true → o ≡ Less
is_last o less e h = is_before o (sym h ∙ e)
