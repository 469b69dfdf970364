-- The branch that stands behind all others.
use Rattle.std.proofs.Common.{◌≡◌, ◌+◌, max, refl, List, [], ◌∷◌, ◌++◌, arith}
use Rattle.std.specs.declared.cmp.Ordering.TheVariants.{Less}
use Rattle.cue_lattice.specs.Path.{Step, step_cmp}
use Rattle.cue_row.specs.Steps.{step_of}
use Rattle.cue_table.specs.Inner.Child.{Child}
use Rattle.cue_table.specs.Depth.{tree_depth, children_depth}
use Rattle.cue_table.specs.Form.{IsTreeTaken, IsTree, AreBranches}
use Rattle.cue_table.specs.Inner.RowList.{last_cmp}
use Rattle.cue_table.specs.Inner.View.{branches}
use Rattle.cue_table.proofs.Branches.{below_all}

module _ {R : Type 0} where
  -- how the last branch compares with a step
  pub last_is : (front : List (Child R)) (c : Child R) (step : Step) → last_cmp step (branches (front ++ c ∷ [])) ≡ step_cmp (step_of c.step) step
  last_is [] c step = refl
  last_is (x ∷ []) c step = refl
  last_is (x ∷ y ∷ front) c step = last_is (y ∷ front) c step

  pub depth_last : (front : List (Child R)) (c : Child R) → children_depth (branches (front ++ c ∷ [])) ≡ max (children_depth (branches front)) (tree_depth c.node + 1)
  depth_last [] c = omega arith
  depth_last (x ∷ front) c = omega (arith, depth_last front c)

  -- one more branch behind all others
  pub form_more : (P : R → Type 0) (cs : List (Child R)) (c : Child R) → last_cmp (step_of c.step) (branches cs) ≡ Less → AreBranches P (branches cs) → IsTreeTaken c.node → IsTree P c.node → AreBranches P (branches (cs ++ c ∷ []))
  form_more P [] c l h t k = (tt, t, k, tt)
  form_more P (x ∷ []) c l h t k = ((l, tt), h.1, h.2, (tt, t, k, tt))
  form_more P (x ∷ y ∷ cs) c l h t k =
      let more = form_more P (y ∷ cs) c l h.3 t k in
      ((h.0.0, below_all (step_of x.step) (step_of y.step) (branches (cs ++ c ∷ [])) h.0.0 more.0), h.1, h.2, more)
