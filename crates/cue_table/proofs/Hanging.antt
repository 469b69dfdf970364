-- Branches that are hung in behind all others.
use Rattle.std.proofs.Common.{◌≡◌, ◌↔◌, ◌⊎◌, Option, Some, None, Bool, true, not, List, [], ◌∷◌, ◌++◌, append_assoc, append-nil, map, length, refl, sym, ap, subst, ◌∙◌, inl, inr, ⊎_elim, arith}
use Rattle.std.specs.Option.{is_some, option_map}
use Rattle.std.specs.declared.cmp.Ordering.{Ordering}
use Rattle.std.specs.declared.cmp.Ordering.TheVariants.{Less, Equal, Greater}
use Rattle.cue_lattice.proofs.OneOf.{one_of-append}
use Rattle.cue_lattice.specs.OneOf.{OneOf}
use Rattle.cue_lattice.specs.Path.{Step, step_cmp, Path}
use Rattle.cue_row.specs.Steps.{step_of}
use Rattle.cue_table.specs.Inner.Child.{Child}
use Rattle.cue_table.specs.Inner.Given.{given_of, tree_of_branch}
use Rattle.cue_table.specs.Tree.{Tree, node, Children, Rest, no_rest, empty, find}
use Rattle.cue_table.specs.Form.{IsStepBelowAll, AreBranches}
use Rattle.cue_table.specs.Many.{IsOfBranches, AreUnified}
use Rattle.cue_table.specs.Meet.{IsMet, IsAdded}
use Rattle.cue_table.specs.Refuses.{RowRefuses, TableRefuses}
use Rattle.cue_table.specs.Inner.View.{branches}
use Rattle.cue_table.proofs.ByHalves.{free, one_branch, branches_given}
use Rattle.cue_table.proofs.Branches.{FoundRefuses, find_first, find_before, find_past, found_refuses}
use Rattle.cue_table.proofs.Finding.{same_step}
use Rattle.cue_table.proofs.Order.{equal_steps}

module _ {R : Type 0} where
  -- a step before all branches is before the last
  before_last : (step : Step) (cs : List (Child R)) (c : Child R) → IsStepBelowAll step (branches (cs ++ c ∷ [])) → step_cmp step (step_of c.step) ≡ Less
  before_last step [] c h = h.0
  before_last step (x ∷ cs) c h = before_last step cs c h.1

module _ {R S : Type 0} (refuses : R → S → Type 0) where
  -- the branch at a step of the list with one more, by how the step compares with the first one's
  found_behind :
      (x : Child R) (cs : List (Child R)) (c : Child R) (at : Step) (path : Path) (question : S) → step_cmp (step_of x.step) (step_of c.step) ≡ Less
      → (FoundRefuses refuses (find at (branches (cs ++ c ∷ []))) path question ↔ (FoundRefuses refuses (find at (branches cs)) path question ⊎ ((step_of c.step ≡ at) × TableRefuses refuses c.node path question)))
      → (o : Ordering) → step_cmp at (step_of x.step) ≡ o
      → FoundRefuses refuses (find at (branches (x ∷ cs ++ c ∷ []))) path question ↔ (FoundRefuses refuses (find at (branches (x ∷ cs))) path question ⊎ ((step_of c.step ≡ at) × TableRefuses refuses c.node path question))
  found_behind x cs c at path question low rest Less e =
      let more = find_before at (step_of x.step) x.node (branches (cs ++ c ∷ [])) e in
      let few = find_before at (step_of x.step) x.node (branches cs) e in (
        λ h. ⊎_elim (λ g. inl (found_refuses refuses _ _ (sym few) path question g)) (λ g. inr g) (rest.0 (found_refuses refuses _ _ more path question h)),
        λ h. found_refuses refuses _ _ (sym more) path question (rest.1 (⊎_elim (λ g. inl (found_refuses refuses _ _ few path question g)) (λ g. inr g) h)),
      )
  found_behind x cs c at path question low rest Greater e =
      let more = find_past at (step_of x.step) x.node (branches (cs ++ c ∷ [])) e in
      let few = find_past at (step_of x.step) x.node (branches cs) e in (
        λ h. ⊎_elim (λ g. inl (found_refuses refuses _ _ (sym few) path question g)) (λ g. inr g) (rest.0 (found_refuses refuses _ _ more path question h)),
        λ h. found_refuses refuses _ _ (sym more) path question (rest.1 (⊎_elim (λ g. inl (found_refuses refuses _ _ few path question g)) (λ g. inr g) h)),
      )
  found_behind x cs c at path question low rest Equal e =
      let same : at ≡ step_of x.step = equal_steps at (step_of x.step) e in
      let more : find at (branches (x ∷ cs ++ c ∷ [])) ≡ Some x.node = ap (λ s. find s (branches (x ∷ cs ++ c ∷ []))) same ∙ find_first (step_of x.step) x.node (branches (cs ++ c ∷ [])) in
      let few : find at (branches (x ∷ cs)) ≡ Some x.node = ap (λ s. find s (branches (x ∷ cs))) same ∙ find_first (step_of x.step) x.node (branches cs) in (
        λ h. inl (found_refuses refuses _ _ (more ∙ sym few) path question h),
        λ h. ⊎_elim
            (λ g. found_refuses refuses _ _ (few ∙ sym more) path question g)
            (λ g. let no : step_cmp (step_of x.step) (step_of x.step) ≡ Less = subst (λ s. step_cmp (step_of x.step) s ≡ Less) (g.0 ∙ same) low in let yes = same_step (step_of x.step) in absurd (cc)) h,
      )

  -- what a list of branches with one more behind refuses
  found_more :
      (P : R → Type 0) (cs : List (Child R)) (c : Child R) (at : Step) (path : Path) (question : S) → AreBranches P (branches (cs ++ c ∷ []))
      → FoundRefuses refuses (find at (branches (cs ++ c ∷ []))) path question ↔ (FoundRefuses refuses (find at (branches cs)) path question ⊎ ((step_of c.step ≡ at) × TableRefuses refuses c.node path question))
  found_more P [] c at path question h =
      let one = one_branch refuses (step_of c.step) c.node at path question (step_cmp at (step_of c.step)) refl in
      (λ g. inr (one.0 g), ⊎_elim (λ g. absurd g) (λ g. one.1 g))
  found_more P (x ∷ cs) c at path question h =
      found_behind x cs c at path question (before_last (step_of x.step) cs c h.0) (found_more P cs c at path question h.3) (step_cmp at (step_of x.step)) refl

  -- branches with one more behind are met with that one
  pub hung_met : (P : R → Type 0) (cs all : List (Child R)) (c : Child R) → all ≡ cs ++ c ∷ [] → AreBranches P (branches all) → IsMet refuses (node None (branches cs) no_rest) (tree_of_branch c) (node None (branches all) no_rest)
  hung_met P cs all c e h [] question = (λ g. inl g, ⊎_elim (λ g. g) (λ g. g))
  hung_met P cs all c e h (at ∷ path) question =
      let more = found_more P cs c at path question (subst (λ xs. AreBranches P (branches xs)) e h) in
      let here = one_branch refuses (step_of c.step) c.node at path question (step_cmp at (step_of c.step)) refl in
      let same = ap (λ xs. find at (branches xs)) e in (
        λ g. ⊎_elim (λ k. inl k) (λ k. inr (here.1 k)) (more.0 (found_refuses refuses _ _ same path question g)),
        λ g. found_refuses refuses _ _ (sym same) path question (more.1 (⊎_elim (λ k. inl k) (λ k. inr (here.0 k)) g)),
      )

-- nothing is seen of what isn't there
pub is_absent : {T U : Type 0} (f : T → U) (seen : Option T) (tree : Option U) (is_none : Bool) → is_none ≡ true → is_some seen ≡ not is_none → option_map f seen ≡ tree → tree ≡ None
is_absent f None tree is_none e h k = sym k
is_absent f (Some x) tree is_none e h k = cc

-- ---- a list of branches, of which some hang already
module _ {R Q : Type 0} (refuses : R → Q → Type 0) where
  -- what hangs already, what is kept beside, and what is left refuse together what all do
  abbrev pub RefuseTogether : Tree R → List (Tree R) → List (Child R) → List (Child R) → Type 0
  RefuseTogether front others rest all =
      (path : Path) (question : Q) → (TableRefuses refuses front path question ⊎ OneOf (λ table. TableRefuses refuses table path question) (others ++ map tree_of_branch rest))
      ↔ OneOf (λ table. TableRefuses refuses table path question) (map tree_of_branch all)

  pub hangs_none : (front : Tree R) (others : List (Tree R)) (rest all : List (Child R)) → front ≡ empty → others ≡ [] → rest ≡ all → RefuseTogether front others rest all
  hangs_none front others rest all e f g path question =
      let P : Tree R → Type 0 = λ table. TableRefuses refuses table path question in
      let same : others ++ map tree_of_branch rest ≡ map tree_of_branch all = ap (λ ts. ts ++ map tree_of_branch rest) f ∙ ap (map tree_of_branch) g in (
        ⊎_elim (λ h. absurd (free refuses path question (subst P e h))) (λ h. subst (OneOf P) same h),
        λ h. inr (subst (OneOf P) (sym same) h),
      )

  -- one more hangs
  pub hangs_last :
      (front next : Tree R) (others : List (Tree R)) (rest left all : List (Child R)) (one : Child R) → rest ≡ one ∷ left
      → IsMet refuses front (tree_of_branch one) next → RefuseTogether front others rest all → RefuseTogether next others left all
  hangs_last front next others rest left all one e met so_far path question =
      let P : Tree R → Type 0 = λ table. TableRefuses refuses table path question in
      let was = so_far path question in
      let both = met path question in
      let before = one_of-append P others (map tree_of_branch rest) in
      let after = one_of-append P others (map tree_of_branch left) in
      let first : map tree_of_branch rest ≡ tree_of_branch one ∷ map tree_of_branch left = ap (map tree_of_branch) e in (
        ⊎_elim
            (λ h. was.0 (⊎_elim (λ g. inl g) (λ g. inr (before.1 (inr (subst (OneOf P) (sym first) (inl g))))) (both.0 h)))
            (λ h. was.0 (inr (before.1 (⊎_elim (λ g. inl g) (λ g. inr (subst (OneOf P) (sym first) (inr g))) (after.0 h))))),
        λ h. ⊎_elim
            (λ g. inl (both.1 (inl g)))
            (λ g. ⊎_elim
            (λ k. inr (after.1 (inl k)))
            (λ k. ⊎_elim (λ m. inl (both.1 (inr m))) (λ m. inr (after.1 (inr m))) (subst (OneOf P) first k)) (before.0 g)) (was.1 h),
      )

  -- one more is kept beside
  pub hangs_beside :
      (front below : Tree R) (others more : List (Tree R)) (rest left all : List (Child R)) (one : Child R) → rest ≡ one ∷ left
      → below ≡ tree_of_branch one → more ≡ others ++ below ∷ [] → RefuseTogether front others rest all → RefuseTogether front more left all
  hangs_beside front below others more rest left all one e f g so_far =
      let same : others ++ map tree_of_branch rest ≡ more ++ map tree_of_branch left =
      ap (λ ts. others ++ map tree_of_branch ts) e ∙ (λ i. others ++ sym f i ∷ map tree_of_branch left) ∙ sym (append_assoc others (below ∷ []) (map tree_of_branch left)) ∙ ap (λ ts. ts ++ map tree_of_branch left) (sym g) in
      λ path question. subst (λ ts. (TableRefuses refuses front path question ⊎ OneOf (λ table. TableRefuses refuses table path question) ts) ↔ OneOf (λ table. TableRefuses refuses table path question) (map tree_of_branch all)) same (so_far path question)

  -- where nothing is left, what hangs is met with what is kept beside
  pub hangs_all :
      (front beside met : Tree R) (others : List (Tree R)) (rest all : List (Child R)) → length rest ≡ 0 → AreUnified refuses others beside → IsMet refuses front beside met
      → RefuseTogether front others rest all → IsOfBranches refuses (map given_of all) met
  hangs_all front beside met others (one ∷ rest) all ended unified both so_far = absurd (omega (arith, ended))
  hangs_all front beside met others [] all ended unified both so_far =
      branches_given refuses all met (λ path question.
      let P : Tree R → Type 0 = λ table. TableRefuses refuses table path question in
      let was = so_far path question in
      let one = unified path question in
      let two = both path question in
      let same = append-nil others in (
        λ h. was.0 (⊎_elim (λ g. inl g) (λ g. inr (subst (OneOf P) (sym same) (one.0 g))) (two.0 h)),
        λ h. two.1 (⊎_elim (λ g. inl g) (λ g. inr (one.1 (subst (OneOf P) same g))) (was.1 h)),
      ))

-- ---- a row at the root
module _ {R Q : Type 0} (refuses : R → Q → Type 0) where
  abbrev pub AddsHere : Option R → R → Option R → Type 0
  AddsHere before row after = (question : Q) → RowRefuses refuses after question ↔ (RowRefuses refuses before question ⊎ RowRefuses refuses (Some row) question)

  -- a row that is met with that at the root is added there
  added_here : (before after : Option R) (row : R) (children : Children R) (rest : Rest R) → AddsHere before row after → IsAdded refuses (node before children rest) [] row (node after children rest)
  added_here before after row children rest h [] question =
      let all = h question in
      (λ k. ⊎_elim (λ x. inl x) (λ x. inr (refl, x)) (all.0 k), λ k. all.1 (⊎_elim (λ x. inl x) (λ x. inr x.1) k))
  added_here before after row children rest h (step ∷ path) question = (λ k. inl k, ⊎_elim (λ k. k) (λ k. let e = k.0 in absurd (cc)))

  -- the same of a tree that was given
  pub added_row : (before after : Option R) (row : R) (children : Children R) (rest : Rest R) (old : Tree R) → node before children rest ≡ old → AddsHere before row after → IsAdded refuses old [] row (node after children rest)
  added_row before after row children rest old is h =
      subst (λ t. IsAdded refuses t [] row (node after children rest)) is (added_here before after row children rest h)
