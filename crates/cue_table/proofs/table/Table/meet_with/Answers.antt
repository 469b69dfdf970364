use Rattle.std.proofs.Common.{◌≡◌, ◌≤◌, ◌∙◌, Some, None, sym, refl, subst, inl, inr, ⊎_elim}
use Rattle.cue_lattice.specs.Limits.{step_limit}
use Rattle.cue_table.specs.Depth.{tree_depth}
use Rattle.cue_table.specs.Meet.{IsMet}
use Rattle.cue_table.specs.Tree.{Tree, node, none, child, no_rest, onward, empty, if_not_empty}
use Rattle.cue_table.proofs.ByHalves.{free}
use Rattle.cue_table.proofs.Depth.{met_depth}
use Rattle.cue_table.proofs.Hanging.{is_absent}
use Rattle.cue_table.proofs.table.Table.meet_with.Goals as goal

-- no row stands in a tree that is not taken
taken_none : {R : Type 0} (tree : Tree R) → if_not_empty tree ≡ None → tree ≡ empty
taken_none (node (Some row) children rest) e = cc
taken_none (node None none no_rest) e = refl
taken_none (node None none (onward n tree)) e = cc
taken_none (node None (child step tree children) rest) e = cc

module _ {R Q : Type 0} (refuses : R → Q → Type 0) where
  met_nothing : (a b : Tree R) → b ≡ empty → IsMet refuses a b a
  met_nothing a b e = subst (λ t. IsMet refuses a t a) (sym e) (λ path question. (λ h. inl h, ⊎_elim (λ h. h) (λ h. absurd (free refuses path question h))))

  nothing_met : (a b : Tree R) → a ≡ empty → IsMet refuses a b b
  nothing_met a b e = subst (λ t. IsMet refuses t b b) (sym e) (λ path question. (λ h. inr h, ⊎_elim (λ h. absurd (free refuses path question h)) (λ h. h)))

pub returns-then-is_none-clause-ok : goal.returns-then-is_none-clause-ok
returns-then-is_none-clause-ok g c =
    let gone = taken_none c.other.inside.root (is_absent (λ node. node.now) c.non_empty.result (if_not_empty c.other.inside.root) c.is_none.result c.if-is_none.true c.is_none.ensures c.non_empty.ensures) in
    met_nothing g.R.Narrow.refuses c.args.self.now c.args.other (sym c.other.view_is ∙ gone)

pub same-self : goal.same-self
same-self g c = refl

pub same-root : goal.same-root
same-root g c = refl

pub invariant_of-self : goal.invariant_of-self
invariant_of-self g c = c.other.invariant

pub returns-then-is_none-2-clause-ok : goal.returns-then-is_none-2-clause-ok
returns-then-is_none-2-clause-ok g c =
    let gone = taken_none c.self.inside.root (is_absent (λ node. node.now) c.non_empty-2.result (if_not_empty c.self.inside.root) c.is_none-2.result c.if-is_none-2.true c.is_none-2.ensures c.non_empty-2.ensures) in
    subst (IsMet g.R.Narrow.refuses c.args.self.now c.args.other) (sym c.other.view_is) (nothing_met g.R.Narrow.refuses c.args.self.now c.args.other (sym c.self.view_is ∙ gone))

pub same-root-2 : goal.same-root-2
same-root-2 g c = refl

pub meet_into-requires-clause-left : goal.meet_into-requires-clause-left
meet_into-requires-clause-left g c = c.self.invariant.0

pub meet_into-requires-clause-right : goal.meet_into-requires-clause-right
meet_into-requires-clause-right g c = c.other.invariant.0

pub invariant_of-self-in_err-meet_into : goal.invariant_of-self-in_err-meet_into
invariant_of-self-in_err-meet_into g c = (c.meet_into.ensures.form, subst (λ t. tree_depth t ≤ step_limit) (sym c.in_err-meet_into.ensures.err) c.self.invariant.1)

pub invariant_of-self-2 : goal.invariant_of-self-2
invariant_of-self-2 g c =
    let form = c.meet_into.ensures.form in
    (form, met_depth g.R.Narrow.refuses g.R.Narrow.is_value c.self.inside.root c.other.inside.root c.meet_into.new.left step_limit form c.in_ok-meet_into.ensures.ok c.self.invariant.1 c.other.invariant.1)

pub returns-clause-ok : goal.returns-clause-ok
returns-clause-ok g c =
    let met : IsMet g.R.Narrow.refuses c.self.inside.root c.other.inside.root c.meet_into.new.left = c.in_ok-meet_into.ensures.ok in
    rw (← c.self.view_is, ← c.other.view_is) met
