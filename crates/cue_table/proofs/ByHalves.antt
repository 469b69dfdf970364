-- Many tables as one: by halves, and each at its step.
use Rattle.std.specs.Prelude.{cond, filter}
use Rattle.std.specs.Option.{is_some, option_map}
use Rattle.std.proofs.Common.{◌≡◌, ◌↔◌, ℕ, zero, suc, ◌-◌, ◌+◌, ◌≤◌, Bool, true, false, not, Option, Some, None, refl, take-add, List, [], ◌∷◌, ◌++◌, map, length, take, drop, subst, sym, ap, ◌∙◌, inl, inr, ⊎_elim, arith}
use Rattle.cue_lattice.proofs.OneOf.{one_of-append}
use Rattle.std.specs.List.{Contains}
use Rattle.std.specs.List.Sorted.{IsPermutation}
use Rattle.std.proofs.lemmas.List.Elements.{Contains-append_right}
use Rattle.std.proofs.lemmas.List.Sorted.{IsPermutation-sym, Contains-permutation}
use Rattle.std.specs.declared.cmp.Ordering.{Ordering}
use Rattle.std.specs.declared.cmp.Ordering.TheVariants.{Less, Equal, Greater}
use Rattle.cue_lattice.specs.OneOf.{OneOf}
use Rattle.cue_lattice.specs.Path.{Step, step_cmp, Path}
use Rattle.cue_row.specs.Steps.{step_of}
use Rattle.cue_row.specs.declared.step.Step as program
use Rattle.cue_table.specs.Tree.{Tree, node, none, child, no_rest, onward, empty, if_not_empty, find}
use Rattle.cue_table.specs.Inner.Child.{Child}
use Rattle.cue_table.specs.Inner.Given.{given_of, has_rows, tree_of_branch}
use Rattle.cue_table.specs.Refuses.{TableRefuses}
use Rattle.cue_table.specs.Meet.{IsMet}
use Rattle.cue_table.specs.Many.{IsOfBranches, AreUnified}
use Rattle.cue_table.proofs.Order.{equal_steps}
use Rattle.cue_table.proofs.Finding.{same_step}
use Rattle.cue_table.proofs.Branches.{find_first, find_before, find_past, found_refuses}

-- what is seen of something is something
pub is_there : {T U : Type 0} (f : T → U) (seen : Option T) (tree : Option U) (is_none : Bool) → is_none ≡ false → is_some seen ≡ not is_none → option_map f seen ≡ tree → tree ≡ None → ⊥
is_there f None tree is_none e h k n = cc
is_there f (Some x) tree is_none e h k n = cc

module _ {R Q : Type 0} (refuses : R → Q → Type 0) where
  -- the table without rows refuses nothing
  pub free : (path : Path) (question : Q) → ¬ TableRefuses refuses empty path question
  free [] question h = h
  free (step ∷ path) question h = h

  pub unified_none : AreUnified refuses [] empty
  unified_none path question = (free path question, λ h. absurd h)

  -- the first of no tables
  pub unified_end : (tables : List (Tree R)) → length tables ≡ 0 → AreUnified refuses (take 1 tables) empty
  unified_end [] e = unified_none
  unified_end (table ∷ tables) e = cc

  pub unified_one : (table : Tree R) → AreUnified refuses (table ∷ []) table
  unified_one table path question = (λ h. inl h, ⊎_elim (λ h. h) (λ h. absurd h))

  -- the front of a list and then the other tables
  pub unified_both :
      (front back : List (Tree R)) (left right met : Tree R) → AreUnified refuses front left → AreUnified refuses back right → IsMet refuses left right met
      → AreUnified refuses (front ++ back) met
  unified_both front back left right met h k both path question =
      let parts = one_of-append (λ table. TableRefuses refuses table path question) front back in (
        λ r. parts.1 (⊎_elim (λ x. inl ((h path question).0 x)) (λ x. inr ((k path question).0 x)) ((both path question).0 r)),
        λ r. (both path question).1 (⊎_elim (λ x. inl ((h path question).1 x)) (λ x. inr ((k path question).1 x)) (parts.0 r)),
      )

  -- the first tables of a list, and then more
  pub unified_more :
      (tables rest : List (Tree R)) (half count : ℕ) (left right met : Tree R) → half ≤ count → rest ≡ drop half tables
      → AreUnified refuses (take half tables) left → AreUnified refuses (take (count - half) rest) right → IsMet refuses left right met
      → AreUnified refuses (take count tables) met
  unified_more tables rest half count left right met few is h k both =
      let sum : half + (count - half) ≡ count = omega (arith, few) in
      let whole : take half tables ++ take (count - half) rest ≡ take count tables =
      ap (λ ts. take half tables ++ take (count - half) ts) is ∙ sym (take-add half (count - half) tables) ∙ ap (λ n. take n tables) sum in
      subst (λ ts. AreUnified refuses ts met) whole (unified_both (take half tables) (take (count - half) rest) left right met h k both)

  -- one branch alone refuses at its step what the branch does
  pub one_branch :
      (step : Step) (tree : Tree R) (at : Step) (path : Path) (question : Q) → (o : Ordering) → step_cmp at step ≡ o
      → TableRefuses refuses (node None (child step tree none) no_rest) (at ∷ path) question ↔ ((step ≡ at) × TableRefuses refuses tree path question)
  one_branch step tree at path question Less e = (
    λ h. absurd (found_refuses refuses (find at (child step tree none)) None (find_before at step tree none e) path question h),
    λ h. let no : step_cmp at at ≡ Less = subst (λ s. step_cmp at s ≡ Less) h.0 e in let yes = same_step at in cc,
  )
  one_branch step tree at path question Greater e = (
    λ h. absurd (found_refuses refuses (find at (child step tree none)) None (find_past at step tree none e) path question h),
    λ h. let no : step_cmp at at ≡ Greater = subst (λ s. step_cmp at s ≡ Greater) h.0 e in let yes = same_step at in cc,
  )
  one_branch step tree at path question Equal e =
      let same : at ≡ step = equal_steps at step e in
      let found : find at (child step tree none) ≡ Some tree = ap (λ s. find s (child step tree none)) same ∙ find_first step tree none in (
        λ h. (sym same, found_refuses refuses (find at (child step tree none)) (Some tree) found path question h),
        λ h. found_refuses refuses (Some tree) (find at (child step tree none)) (sym found) path question h.1,
      )

  pub none_at_root : (given : List (Child R)) (question : Q) → ¬ OneOf (λ table. TableRefuses refuses table [] question) (map tree_of_branch given)
  none_at_root [] question h = h
  none_at_root (c ∷ given) question h = ⊎_elim (λ r. r) (none_at_root given question) h

  pub one_below :
      (given : List (Child R)) (at : Step) (path : Path) (question : Q)
      → OneOf (λ table. TableRefuses refuses table (at ∷ path) question) (map tree_of_branch given)
      ↔ OneOf (λ one. (step_of one.0 ≡ at) × TableRefuses refuses one.1 path question) (map given_of given)
  one_below [] at path question = (λ h. h, λ h. h)
  one_below (c ∷ given) at path question =
      let here = one_branch (step_of c.step) c.node at path question (step_cmp at (step_of c.step)) refl in
      let rest = one_below given at path question in (
        ⊎_elim (λ h. inl (here.0 h)) (λ h. inr (rest.0 h)),
        ⊎_elim (λ h. inl (here.1 h)) (λ h. inr (rest.1 h)),
      )

  -- what is given, each below its step and then unified
  pub branches_given : (given : List (Child R)) (met : Tree R) → AreUnified refuses (map tree_of_branch given) met → IsOfBranches refuses (map given_of given) met
  branches_given given met all = record {
    root = λ question r. none_at_root given question ((all [] question).0 r);
    below = λ at path question.
        let one = one_below given at path question in
        (λ r. one.0 ((all (at ∷ path) question).0 r), λ r. (all (at ∷ path) question).1 (one.1 r));
  }

  -- a table without rows refuses nothing
  pub rowless : (tree : Tree R) (path : Path) (question : Q) → is_some (if_not_empty tree) ≡ false → ¬ TableRefuses refuses tree path question
  rowless (node (Some row) children rest) path question e = absurd (cc)
  rowless (node None (child next tree children) rest) path question e = absurd (cc)
  rowless (node None none (onward n tree)) path question e = absurd (cc)
  rowless (node None none no_rest) path question e = free path question

  -- what is given for a step refuses it
  abbrev pub At : Step → Path → Q → program.Step × Tree R → Type 0
  At at path question one = (step_of one.0 ≡ at) × TableRefuses refuses one.1 path question

  one_more :
      (one : program.Step × Tree R) (given : List (program.Step × Tree R)) (at : Step) (path : Path) (question : Q) → OneOf (At at path question) (filter has_rows given) ↔ OneOf (At at path question) given
      → (b : Bool) → has_rows one ≡ b → OneOf (At at path question) (cond b (one ∷ filter has_rows given) (filter has_rows given)) ↔ OneOf (At at path question) (one ∷ given)
  one_more one given at path question rest true e = (⊎_elim (λ h. inl h) (λ h. inr (rest.0 h)), ⊎_elim (λ h. inl h) (λ h. inr (rest.1 h)))
  one_more one given at path question rest false e = (λ h. inr (rest.0 h), ⊎_elim (λ h. absurd (rowless one.1 path question e h.1)) (λ h. rest.1 h))

  with_rows : (given : List (program.Step × Tree R)) (at : Step) (path : Path) (question : Q) → OneOf (At at path question) (filter has_rows given) ↔ OneOf (At at path question) given
  with_rows [] at path question = (λ h. h, λ h. h)
  with_rows (one ∷ given) at path question = one_more one given at path question (with_rows given at path question) (has_rows one) refl

  -- the tables without rows add nothing
  pub rows_given : (given : List (program.Step × Tree R)) (table : Tree R) → IsOfBranches refuses (filter has_rows given) table → IsOfBranches refuses given table
  rows_given given table h = record {
    root = h.root;
    below = λ at path question.
        let same = with_rows given at path question in
        (λ r. same.0 ((h.below at path question).0 r), λ r. (h.below at path question).1 (same.1 r));
  }

-- ---- in another order
-- an element of which P holds
pub one_of_member : {X : Type 0} (P : X → Type 0) (xs : List X) → OneOf P xs → (x : X) × Contains xs x × P x
one_of_member P [] h = absurd h
one_of_member P (x ∷ xs) (inl h) = (x, (0, omega arith, refl), h)
one_of_member P (x ∷ xs) (inr h) = let found = one_of_member P xs h in (found.0, Contains-append_right (x ∷ []) xs found.0 found.1, found.2)

-- where P holds of an element of a list, it holds of one of the list's elements
pub member_one_of : {X : Type 0} (P : X → Type 0) (xs : List X) (x : X) → Contains xs x → P x → OneOf P xs
member_one_of P [] x (k, less, e) h = absurd (omega arith)
member_one_of P (y ∷ ys) x (zero, less, e) h = inl (subst P (sym e) h)
member_one_of P (y ∷ ys) x (suc k, less, e) h = inr (member_one_of P ys x (k, omega arith, e) h)

-- where P holds of one element of a list, it holds of one in any other order of the list
pub one_of_permutation : {X : Type 0} (P : X → Type 0) (xs ys : List X) → IsPermutation xs ys → OneOf P xs → OneOf P ys
one_of_permutation P xs ys moved h =
    let found = one_of_member P xs h in member_one_of P ys found.0 (Contains-permutation xs ys found.0 moved found.1) found.2

-- branches in another order give the same table
pub branches_permuted :
    {R Q : Type 0} (refuses : R → Q → Type 0) (table : Tree R) (given sorted : List (program.Step × Tree R)) → IsPermutation given sorted
    → IsOfBranches refuses sorted table → IsOfBranches refuses given table
branches_permuted refuses table given sorted moved h = record {
  root = h.root;
  below = λ step path question. (
    λ refused. one_of_permutation (At refuses step path question) sorted given (IsPermutation-sym given sorted moved) ((h.below step path question).0 refused),
    λ one. (h.below step path question).1 (one_of_permutation (At refuses step path question) given sorted moved one),
  );
}
