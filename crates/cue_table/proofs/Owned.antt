-- Parts of lists of branches, and places without a rest.
use Rattle.std.proofs.Common.{◌≡◌, ℕ, zero, suc, ◌<◌, List, [], ◌∷◌, drop, length, get_or, Option, Some, None, refl, sym, ap, subst, ◌∙◌, arith}
use Rattle.cue_row.specs.Steps.{step_of}
use Rattle.cue_table.specs.Inner.Child.{Child}
use Rattle.std.specs.Prelude.{Box}
use Rattle.std.specs.Global.{Global}
use Rattle.cue_table.specs.declared.node.Onward.{Onward}
use Rattle.cue_table.specs.Tree.{Tree, Children, node, child, no_rest, below}
use Rattle.cue_table.specs.declared.node.Node.TheInside.{Inside}
use Rattle.cue_table.specs.Form.{AreBranches, IsTree}
use Rattle.cue_table.specs.Inner.Join.{join_children}
use Rattle.cue_table.specs.Inner.Parts.{branches_past}
use Rattle.cue_table.specs.Inner.View.{below_in, branches, rest_in, run_branches, tree_of}
use Rattle.cue_table.proofs.Joined.{join_none}

module _ {R : Type 0} where
  pub past_drop : (n : ℕ) (cs : List (Child R)) → branches_past n (branches cs) ≡ branches (drop n cs)
  past_drop zero cs = refl
  past_drop (suc n) [] = refl
  past_drop (suc n) (c ∷ cs) = past_drop n cs

  pub past_at : (n : ℕ) (cs : List (Child R)) (d : Child R) → n < length cs → branches_past n (branches cs) ≡ child (step_of (get_or cs n d).step) (get_or cs n d).node (branches (drop (suc n) cs))
  past_at zero (c ∷ cs) d l = refl
  past_at (suc n) (c ∷ cs) d l = past_at n cs d (omega arith)
  past_at zero [] d l = absurd (omega arith)
  past_at (suc n) [] d l = absurd (omega arith)

-- a place without a rest has its own branches alone
pub own_only : {R Q : Type 0} (own : Children R) (rest : Option (Box (Onward R Q) Global)) → rest_in rest ≡ no_rest → below_in own rest ≡ own
own_only own None e = refl
own_only own (Some b) e = cc

-- behind no runs it has just these, too
pub no_runs : {R Q : Type 0} (own : Children R) (b : Box (Onward R Q) Global) → b.value.runs.items ≡ [] → below_in own (Some b) ≡ own
no_runs own b e = ap (λ rs. join_children own (run_branches rs)) e ∙ join_none own

-- a place without a rest as its own branches tell it
pub own_view : {R Q : Type 0} (a : Inside R Q) (s : Tree R) → tree_of a ≡ s → rest_in a.rest ≡ no_rest → node a.row (branches a.children.items) (rest_in a.rest) ≡ s
own_view a s e x = ap (λ cs. node a.row cs (rest_in a.rest)) (sym (own_only (branches a.children.items) a.rest x)) ∙ e

module _ {R Q : Type 0} where
  pub own_below : (a : Inside R Q) (s : Tree R) → tree_of a ≡ s → rest_in a.rest ≡ no_rest → below s ≡ branches a.children.items
  own_below a s e x = ap below (sym e) ∙ own_only (branches a.children.items) a.rest x

  -- the branches of a place in form are in form where it has no rest
  pub own_form : (P : R → Type 0) (a : Inside R Q) (s : Tree R) → tree_of a ≡ s → rest_in a.rest ≡ no_rest → IsTree P s → AreBranches P (branches a.children.items)
  own_form P a s e x h =
      let here : IsTree P (tree_of a) = subst (IsTree P) (sym e) h in
      subst (AreBranches P) (own_only (branches a.children.items) a.rest x) here.1
