-- Whether a rest begins where it does in the form of a table.
use Rattle.std.proofs.Common.{◌≡◌, ◌↔◌, ◌<◌, ◌≤◌, ◌+◌, ◌++◌, ℕ, zero, suc, List, [], ◌∷◌, Some, None, refl, sym, ap, subst, ◌∙◌, arith}
use Rattle.std.specs.Prelude.{IsTrue, Bool, true, false, not}
use Rattle.cue_lattice.specs.Path.{label, index}
use Rattle.cue_row.specs.Steps.{step_of}
use Rattle.cue_table.specs.Inner.Child.{Child}
use Rattle.cue_table.specs.Form.{AreWithinDepth, DiffersFromRest}
use Rattle.cue_table.specs.Inner.Form.{StepsRise}
use Rattle.cue_table.specs.Spans.{alike_elements}
use Rattle.cue_table.specs.Tree.{Tree, Children, none, child, find, behind_last}
use Rattle.cue_table.specs.Inner.Join.{join_children}
use Rattle.cue_table.specs.Inner.Loose.{IsLastElement}
use Rattle.cue_table.specs.Inner.View.{branches}
use Rattle.cue_table.proofs.Branches.{find_first, find_past}
use Rattle.cue_table.proofs.Exact.{none_within, within_last}
use Rattle.cue_table.proofs.Joined.{below_front, greater_number, number_less}
use Rattle.cue_table.proofs.Nodes.{behind_label}

pub not_true : (b : Bool) → IsTrue (not b) → IsTrue b → ⊥
not_true true h k = cc
not_true false h k = cc

pub true_not : (b : Bool) → (IsTrue b → ⊥) → IsTrue (not b)
true_not true h = absurd (h refl)
true_not false h = refl

module _ {R : Type 0} where
  differs_past : (n : ℕ) (rest : Tree R) (children : Children R) → (0 < n → behind_last children < n) → DiffersFromRest n rest children
  differs_past zero rest children h = tt
  differs_past (suc i) rest children h = λ e.
      let less = h (omega arith) in
      let no : find (index i) children ≡ None = none_within i i children (within_last i children (omega arith)) (omega arith) in
      let both : Some rest ≡ None = sym e ∙ no in
      cc

  -- where there is no element, the rest may begin anywhere
  pub begins_anywhere : (n : ℕ) (rest : Tree R) (children : Children R) → behind_last children ≡ 0 → AreWithinDepth n children × DiffersFromRest n rest children
  begins_anywhere n rest children e = (within_last n children (omega arith), differs_past n rest children (λ h. omega arith))

  -- it may begin further behind the last element
  pub begins_later : (n : ℕ) (rest : Tree R) (children : Children R) → behind_last children < n → AreWithinDepth n children × DiffersFromRest n rest children
  begins_later n rest children l = (within_last n children (omega arith), differs_past n rest children (λ h. l))

  -- or just behind it, where that differs
  pub begins_behind :
      (n k : ℕ) (rest last : Tree R) (children : Children R) → behind_last children ≡ k + 1 → find (index k) children ≡ Some last → k + 1 ≡ n
      → (last ≡ rest → ⊥) ↔ (AreWithinDepth n children × DiffersFromRest n rest children)
  begins_behind zero k rest last children b f e = absurd (omega arith)
  begins_behind (suc i) k rest last children b f e =
      let number : k ≡ i = omega arith in
      let there : find (index i) children ≡ Some last = ap (λ m. find (index m) children) (sym number) ∙ f in (
        λ d. (within_last (suc i) children (omega arith), λ same. let both : Some last ≡ Some rest = sym there ∙ same in d (cc)),
        λ h same. h.1 (there ∙ ap Some same),
      )

  -- and not before an element
  pub begins_early : (n k : ℕ) (last : Tree R) (children : Children R) → find (index k) children ≡ Some last → n ≤ k → AreWithinDepth n children → ⊥
  begins_early n k last children f l h = let no : Some last ≡ None = sym f ∙ none_within n k children h l in cc

-- ---- the last element
module _ {R : Type 0} where
  last_joined : (a : Children R) (n : ℕ) (tree : Tree R) → StepsRise (join_children a (child (index n) tree none)) → IsLastElement n tree (join_children a (child (index n) tree none))
  last_joined none n tree h = record { last = omega arith; found = find_first (index n) tree none }
  last_joined (child (label text) here a) n tree h =
      let more = last_joined a n tree h.1 in
      record { last = more.last; found = find_past (index n) (label text) here (join_children a (child (index n) tree none)) refl ∙ more.found }
  last_joined (child (index i) here a) n tree h =
      let more = last_joined a n tree h.1 in
      let after = (below_front (index i) a (child (index n) tree none) h.0).1 in
      let less = number_less i n after.0 in
      record { last = omega (arith, more.last, less); found = find_past (index n) (index i) here (join_children a (child (index n) tree none)) (greater_number n i less) ∙ more.found }

  abbrev pub all_but : ℕ → ℕ → Tree R → Children R
  all_but i zero tree = none
  all_but i (suc m) tree = child (index i) tree (all_but (suc i) m tree)

  pub alike_last : (i m : ℕ) (tree : Tree R) → alike_elements i m tree none ≡ join_children (all_but i m tree) (child (index (i + m)) tree none)
  alike_last i zero tree = let same : i ≡ i + zero = omega arith in ap (λ n. child (index n) tree none) same
  alike_last i (suc m) tree =
      let same : suc i + m ≡ i + suc m = omega arith in
      ap (child (index i) tree) (alike_last (suc i) m tree) ∙ ap (λ n. child (index i) tree (join_children (all_but (suc i) m tree) (child (index n) tree none))) same

last_is : {R : Type 0} (a : Children R) (n : ℕ) (tree : Tree R) (all : Children R) → all ≡ join_children a (child (index n) tree none) → StepsRise all → IsLastElement n tree all
last_is a n tree all e h = subst (IsLastElement n tree) (sym e) (last_joined a n tree (subst StepsRise e h))

module _ {R : Type 0} where
  pub branches_end : (front : List (Child R)) (c : Child R) → branches (front ++ c ∷ []) ≡ join_children (branches front) (child (step_of c.step) c.node none)
  branches_end [] c = refl
  branches_end (d ∷ front) c = ap (child (step_of d.step) d.node) (branches_end front c)

  -- that of the last branch
  pub last_branch : (cs front : List (Child R)) (c : Child R) (n : ℕ) → cs ≡ front ++ c ∷ [] → step_of c.step ≡ index n → StepsRise (branches cs) → IsLastElement n c.node (branches cs)
  last_branch cs front c n e f h = last_is (branches front) n c.node (branches cs) (ap branches e ∙ branches_end front c ∙ ap (λ s. join_children (branches front) (child s c.node none)) f) h

  pub no_element_last : (cs front : List (Child R)) (c : Child R) (text : List ℕ) → cs ≡ front ++ c ∷ [] → step_of c.step ≡ label text → StepsRise (branches cs) → behind_last (branches cs) ≡ 0
  no_element_last cs front c text e f h = ap (λ all. behind_last (branches all)) e ∙ behind_label front c text (subst (λ all. StepsRise (branches all)) e h) f
