-- What changes in a list of branches that takes others over.
use Rattle.std.proofs.Common.{◌≡◌, ℕ, zero, suc, ◌≤◌, ◌<◌, List, [], ◌∷◌, ◌++◌, append_assoc, length, take, drop, get_or, slice_set, Option, Some, None, true, false, inl, ⊎_elim, refl, sym, ap, subst, ◌∙◌, arith}
use Rattle.std.specs.List.{insert as inserted}
use Rattle.std.specs.Option.{option_to_list}
use Rattle.cue_row.specs.Steps.{step_of}
use Rattle.cue_table.specs.Tree.{Tree, none, child}
use Rattle.cue_table.specs.Depth.{tree_depth, children_depth}
use Rattle.cue_table.specs.Form.{AreBranches, IsStepBelowAll, IsRowKept, IsTable}
use Rattle.cue_table.specs.Meet.{IsMet}
use Rattle.cue_table.specs.Inner.Meet.{IsMerge}
use Rattle.cue_table.specs.Inner.Changes.{ChangesFit, IsChange, IsFound, branches_behind, behind_found, carry_out_changes}
use Rattle.cue_table.specs.Inner.Child.{Child}
use Rattle.cue_table.specs.Inner.Join.{join_children}
use Rattle.cue_table.specs.Inner.Place.{AreBefore, ArePassed, IsPlace, IsGap}
use Rattle.cue_table.specs.Inner.Parts.{front_branches, branches_past}
use Rattle.cue_table.specs.Inner.View.{branches}
use Rattle.cue_table.specs.declared.changes.Change.{Change}
use Rattle.cue_table.specs.declared.changes.FoundChange.{FoundChange}
use Rattle.cue_table.specs.declared.changes.FoundChange.TheVariants.{Same, New}
use Rattle.cue_table.proofs.Merging.{merge_stay, merge_insert, merge_alter, merge_same}
use Rattle.cue_table.proofs.Nodes.{form_from}
use Rattle.cue_table.proofs.Owned.{past_at, past_drop}

append_none : {X : Type 0} (xs : List X) → xs ++ [] ≡ xs
append_none [] = refl
append_none (x ∷ xs) = ap (λ ys. x ∷ ys) (append_none xs)

module _ {R : Type 0} where
  pub branches_join : (xs ys : List (Child R)) → branches (xs ++ ys) ≡ join_children (branches xs) (branches ys)
  branches_join [] ys = refl
  branches_join (x ∷ xs) ys = ap (child (step_of x.step) x.node) (branches_join xs ys)

  pub branches_take : (n : ℕ) (xs : List (Child R)) → branches (take n xs) ≡ front_branches n (branches xs)
  branches_take zero xs = refl
  branches_take (suc n) [] = refl
  branches_take (suc n) (x ∷ xs) = ap (child (step_of x.step) x.node) (branches_take n xs)

  -- a branch behind the first ones, and then others
  put : (n : ℕ) (xs ys : List (Child R)) (c : Child R) → branches (take n xs ++ c ∷ ys) ≡ join_children (front_branches n (branches xs)) (child (step_of c.step) c.node (branches ys))
  put n xs ys c = branches_join (take n xs) (c ∷ ys) ∙ ap (λ x. join_children x (child (step_of c.step) c.node (branches ys))) (branches_take n xs)

  drop_one : (n : ℕ) (xs : List (Child R)) → drop 1 (drop n xs) ≡ drop (suc n) xs
  drop_one zero xs = refl
  drop_one (suc n) [] = refl
  drop_one (suc n) (x ∷ xs) = drop_one n xs

  -- in place of the branch at a place
  set_at : (n : ℕ) (xs : List (Child R)) (c : Child R) → n < length xs → take n xs ++ c ∷ drop 1 (drop n xs) ≡ slice_set xs n c
  set_at n [] c l = absurd (omega arith)
  set_at zero (x ∷ xs) c l = refl
  set_at (suc n) (x ∷ xs) c l = ap (λ ys. x ∷ ys) (set_at n xs c (omega arith))

-- a place that takes the same one over stays as it is
pub met_same : {R Q : Type 0} (refuses : R → Q → Type 0) (a b : Tree R) → a ≡ b → IsMet refuses a b a
met_same refuses a b same = subst (λ t. IsMet refuses a t a) same (λ path question. (λ h. inl h, λ h. ⊎_elim (λ g. g) (λ g. g) h))

module _ {R Q : Type 0} (refuses : R → Q → Type 0) (is_value : R → Type 0) where
  abbrev Kept : R → Type 0
  Kept = IsRowKept refuses is_value

  -- a new branch
  pub adds :
      (left : List (Child R)) (c : Child R) (at : ℕ) → AreBranches Kept (branches left) → IsGap left (step_of c.step) at
      → IsChange refuses Kept left c (Some (record { kept = at; replaces = false; child = c }))
  adds left c at h gap =
      let bound = gap.in_range in
      record {
        fit = λ tail f. (omega arith, f);
        union = λ others tail k m.
            subst (IsMerge refuses Kept (branches left) (child (step_of c.step) c.node others)) (sym (put at left (carry_out_changes tail (drop at left)) c))
            (merge_insert refuses Kept at (step_of c.step) c.node (branches left) others (branches (carry_out_changes tail (drop at left))) h k gap.before gap.after
            (subst (λ x. IsMerge refuses Kept x others (branches (carry_out_changes tail (drop at left)))) (sym (past_drop at left)) m));
      }

  -- the next branch changes
  pub alters :
      (left : List (Child R)) (c d e : Child R) (at : ℕ) → AreBranches Kept (branches left) → IsPlace left (step_of c.step) at → d ≡ get_or left at d
      → e.step ≡ d.step → IsTable refuses is_value e.node → IsMet refuses d.node c.node e.node → IsChange refuses Kept left c (Some (record { kept = at; replaces = true; child = e }))
  alters left c d e at h place is same form met =
      let bound = place.in_range in
      let step : step_of d.step ≡ step_of c.step = ap (λ x. step_of x.step) is ∙ place.at_step d in
      let here : branches_past at (branches left) ≡ child (step_of c.step) d.node (branches (drop 1 (drop at left))) =
      past_at at left d bound ∙ ap (λ x. child (step_of x.step) x.node (branches (drop (suc at) left))) (sym is)
      ∙ ap (λ s. child s d.node (branches (drop (suc at) left))) step ∙ ap (λ xs. child (step_of c.step) d.node (branches xs)) (sym (drop_one at left)) in
      record {
        fit = λ tail f. (omega arith, f);
        union = λ others tail k m.
            let rest = carry_out_changes tail (drop 1 (drop at left)) in
            subst (IsMerge refuses Kept (branches left) (child (step_of c.step) c.node others))
            (sym (put at left rest e ∙ ap (λ s. join_children (front_branches at (branches left)) (child s e.node (branches rest))) (ap step_of same ∙ step)))
            (merge_alter refuses is_value at (step_of c.step) d.node c.node e.node (branches left) (branches (drop 1 (drop at left))) others (branches rest) h k place.before here form met m);
      }

  -- the branch at the step stays as it is
  pub stays :
      (left : List (Child R)) (c d : Child R) (at : ℕ) → IsPlace left (step_of c.step) at → d ≡ get_or left at d → IsMet refuses d.node c.node d.node
      → IsChange refuses Kept left c None
  stays left c d at place is met = record {
    fit = λ tail f. f;
    union = λ others tail k m.
        merge_same refuses Kept (step_of c.step) d.node c.node (branches left) others (branches (carry_out_changes tail left)) k (place.is_there d ∙ ap (λ x. Some x.node) (sym is)) met m;
  }

  -- one branch alone: put in where it would stand
  pub put_in :
      (left after : List (Child R)) (c : Child R) (at : ℕ) → AreBranches Kept (branches left) → AreBranches Kept (child (step_of c.step) c.node none) → IsGap left (step_of c.step) at
      → after ≡ inserted left at c → IsMerge refuses Kept (branches left) (child (step_of c.step) c.node none) (branches after)
  put_in left after c at h k gap is =
      let change = adds left c at h gap in
      subst (λ x. IsMerge refuses Kept (branches left) (child (step_of c.step) c.node none) (branches x)) (sym is)
      (change.union none [] k (merge_stay refuses Kept (branches (drop at left)) (form_from Kept left at h)))

  -- and met where it stands
  pub met_at :
      (left : List (Child R)) (c d e : Child R) (at : ℕ) → AreBranches Kept (branches left) → AreBranches Kept (child (step_of c.step) c.node none)
      → IsPlace left (step_of c.step) at → d ≡ get_or left at d → e.step ≡ d.step → IsTable refuses is_value e.node → IsMet refuses d.node c.node e.node
      → IsMerge refuses Kept (branches left) (child (step_of c.step) c.node none) (branches (slice_set left at e))
  met_at left c d e at h k place is same form met =
      let change = alters left c d e at h place is same form met in
      subst (λ x. IsMerge refuses Kept (branches left) (child (step_of c.step) c.node none) (branches x)) (set_at at left e place.in_range)
      (change.union none [] k (merge_stay refuses Kept (branches (drop 1 (drop at left))) (form_from Kept (drop at left) 1 (form_from Kept left at h))))

  -- Whatever makes the union of what is left of both lists makes that of the lists, behind the changes so far; and the first branches of the rest, so many as are past, stand before the next of the others.
  pub record GoesOn (left right rest others : List (Child R)) (branches_past : ℕ) (changes : List (Change R Q)) : Type 0 where
    pub rest_form : AreBranches Kept (branches rest)
    pub others_form : AreBranches Kept (branches others)
    pub ahead : (c : Child R) (later : List (Child R)) → others ≡ c ∷ later → AreBefore branches_past (step_of c.step) (branches rest)
    pub smaller : children_depth (branches others) ≤ children_depth (branches right)
    pub fit : (tail : List (Change R Q)) → ChangesFit tail rest → ChangesFit (changes ++ tail) left
    pub union : (tail : List (Change R Q)) → IsMerge refuses Kept (branches rest) (branches others) (branches (carry_out_changes tail rest))
        → IsMerge refuses Kept (branches left) (branches right) (branches (carry_out_changes (changes ++ tail) left))

  pub goes_start :
      (left right others : List (Child R)) (changes : List (Change R Q)) → AreBranches Kept (branches left) → AreBranches Kept (branches right) → others ≡ right → changes ≡ []
      → GoesOn left right left others 0 changes
  goes_start left right others changes h k e f =
      subst (λ xs. GoesOn left right left xs 0 changes) (sym e)
      (subst (GoesOn left right left right 0) (sym f) (record { rest_form = h; others_form = k; ahead = λ c later e. tt; smaller = omega arith; fit = λ tail m. m; union = λ tail m. m }))

  behind_form : (found : Option (Change R Q)) (rest : List (Child R)) → AreBranches Kept (branches rest) → AreBranches Kept (branches (behind_found found rest))
  behind_form None rest h = h
  behind_form (Some change) rest h = let n = change.kept in form_from Kept (drop n rest) _ (form_from Kept rest n h)

  -- the first of the other branches as the code has it
  pub first_form : (left right rest all others : List (Child R)) (branches_past : ℕ) (changes : List (Change R Q)) (c : Child R) → GoesOn left right rest all branches_past changes → all ≡ c ∷ others → IsTable refuses is_value c.node
  first_form left right rest all others branches_past changes c g e = let h : AreBranches Kept (branches (c ∷ others)) = subst (λ xs. AreBranches Kept (branches xs)) e g.others_form in h.2

  pub first_smaller : (left right rest all others : List (Child R)) (branches_past : ℕ) (changes : List (Change R Q)) (c : Child R) → GoesOn left right rest all branches_past changes → all ≡ c ∷ others → tree_depth c.node < children_depth (branches right)
  first_smaller left right rest all others branches_past changes c g e =
      let h : children_depth (branches (c ∷ others)) ≤ children_depth (branches right) = subst (λ xs. children_depth (branches xs) ≤ children_depth (branches right)) e g.smaller in
      omega arith

  -- the next of the others stands behind this one
  next_ahead : (rest others later : List (Child R)) (c d : Child R) (branches_past : ℕ) → AreBranches Kept (branches (c ∷ others)) → ArePassed branches_past (step_of c.step) (branches rest) → others ≡ d ∷ later → AreBefore branches_past (step_of d.step) (branches rest)
  next_ahead rest others later c d branches_past k passed e =
      let all : IsStepBelowAll (step_of c.step) (branches (d ∷ later)) = subst (λ xs. IsStepBelowAll (step_of c.step) (branches xs)) e k.0 in
      passed (step_of d.step) all.0

  goes_more :
      (left right rest all others : List (Child R)) (branches_past after : ℕ) (changes : List (Change R Q)) (c : Child R) (found : Option (Change R Q)) → GoesOn left right rest all branches_past changes → all ≡ c ∷ others
      → IsChange refuses Kept rest c found → ArePassed after (step_of c.step) (branches (behind_found found rest)) → GoesOn left right (behind_found found rest) others after (changes ++ option_to_list found)
  goes_more left right rest all others branches_past after changes c found begun e change passed =
      let g : GoesOn left right rest (c ∷ others) branches_past changes = subst (λ xs. GoesOn left right rest xs branches_past changes) e begun in
      let k = g.others_form in
      let small = g.smaller in
      record {
        rest_form = behind_form found rest g.rest_form;
        others_form = k.3;
        ahead = λ d later f. next_ahead (behind_found found rest) others later c d after k passed f;
        smaller = omega arith;
        fit = λ tail f. rw append_assoc (g.fit (option_to_list found ++ tail) (change.fit tail f));
        union = λ tail m. rw append_assoc (g.union (option_to_list found ++ tail) (change.union (branches others) tail k m));
      }

  -- one branch more that changes something
  pub goes_on :
      (left right rest all others after : List (Child R)) (branches_past : ℕ) (changes more : List (Change R Q)) (c : Child R) (change : Change R Q) (found : FoundChange R Q) → GoesOn left right rest all branches_past changes → all ≡ c ∷ others
      → IsFound refuses Kept rest c found → found ≡ New change → after ≡ branches_behind change rest → more ≡ changes ++ change ∷ [] → GoesOn left right after others 0 more
  goes_on left right rest all others after branches_past changes more c change found g e h is f n =
      let here = goes_more left right rest all others branches_past 0 changes c (Some change) g e (subst (IsFound refuses Kept rest c) is h) (λ later less. tt) in
      subst (λ xs. GoesOn left right xs others 0 more) (sym f) (subst (GoesOn left right (branches_behind change rest) others 0) (sym n) here)

  -- and one more that changes nothing
  pub goes_past :
      (left right rest all others : List (Child R)) (branches_past count : ℕ) (changes : List (Change R Q)) (c : Child R) (found : FoundChange R Q) → GoesOn left right rest all branches_past changes → all ≡ c ∷ others
      → IsFound refuses Kept rest c found → found ≡ Same count → GoesOn left right rest others count changes
  goes_past left right rest all others branches_past count changes c found g e h is =
      let same : IsFound refuses Kept rest c (Same count) = subst (IsFound refuses Kept rest c) is h in
      subst (GoesOn left right rest others count) (append_none changes) (goes_more left right rest all others branches_past count changes c None g e same.0 same.1)

  -- no branch is left
  pub goes_end :
      (left right rest others : List (Child R)) (branches_past : ℕ) (changes : List (Change R Q)) → GoesOn left right rest others branches_past changes → length others ≡ 0
      → ChangesFit changes left × IsMerge refuses Kept (branches left) (branches right) (branches (carry_out_changes changes left))
  goes_end left right rest [] branches_past changes g n =
      subst (λ xs. ChangesFit xs left × IsMerge refuses Kept (branches left) (branches right) (branches (carry_out_changes xs left))) (append_none changes)
      (g.fit [] tt, g.union [] (merge_stay refuses Kept (branches rest) g.rest_form))
  goes_end left right rest (c ∷ others) branches_past changes g n = absurd (omega arith)

-- the branch at a place is in form
pub at_form : {R Q : Type 0} (refuses : R → Q → Type 0) (is_value : R → Type 0) (cs : List (Child R)) (at : ℕ) (d : Child R) → AreBranches (IsRowKept refuses is_value) (branches cs) → at < length cs → d ≡ get_or cs at d → IsTable refuses is_value d.node
at_form refuses is_value [] at d h l is = absurd (omega arith)
at_form refuses is_value (c ∷ cs) zero d h l is = subst (λ x. IsTable refuses is_value x.node) (sym is) h.2
at_form refuses is_value (c ∷ cs) (suc at) d h l is = at_form refuses is_value cs at d h.3 (omega arith) is
