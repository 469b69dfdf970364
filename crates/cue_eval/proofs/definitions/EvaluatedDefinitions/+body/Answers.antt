use Rattle.std.proofs.Common.{◌≡◌, ◌≤◌, ◌+◌, ◌++◌, drop, [], ◌∷◌, inl, refl, sym, ap, subst, ◌∙◌, arith}
use denote.Param.Weighed.{most, at_most}
use Rattle.cue_syntax.specs.declared.tree.Expr.{size-Expr}
use Rattle.cue_syntax.specs.Syntax.{expression}
use Rattle.cue_syntax.proofs.Views.{view-Name}
use Rattle.cue_scope.specs.Graph.{IsNodeIn}
use Rattle.cue_scope.specs.Kept.{nodes_kept}
use Rattle.cue_scope.specs.Meaning.{meaning_of_number, meant}
use Rattle.cue_scope.specs.Uses.{uses}
use Rattle.cue_scalars.specs.Values.{pair_of_value}
use Rattle.cue_eval.specs.Inner.Finding.{IsFindable}
use Rattle.cue_eval.specs.Pairs.{pair}
use Rattle.cue_eval.proofs.Joined.{part_pairable}
use Rattle.cue_eval.proofs.Taking.{Taking, taking_next, taking_part, taking_more, taking_scalar, all_taken, taken_body, findable_ready}
use Rattle.cue_eval.proofs.definitions.EvaluatedDefinitions.+body.Goals as goal
use Rattle.cue_eval.proofs.definitions.EvaluatedDefinitions.+body.Goals.{parts-then-is_scalar_part+in_ok-pair+in_ok-push, parts-else-is_scalar_part+in_ok-rows+in_ok-push-2+in_ok-push-3}

pub body-returns-in-Some-clause-body : goal.body-returns-in-Some-clause-body
body-returns-in-Some-clause-body t c =
    let ds = nodes_kept c.args.definitions.now in
    let view = ap expression c.in-Name.is ∙ view-Name c.in-Name.name c.in-Name.from in
    let i = c.in-Some.number in
    let us = ap (uses ds) view ∙ c.in-Some.ensures.named in
    let there : IsNodeIn i (uses ds (expression c.args.expression.now)) = subst (λ js. IsNodeIn i js) (sym us) (inl refl) in
    taken_body ds (meant ds (meaning_of_number ds) (expression c.args.expression.now)) i c.args.self.now c.take.result (c.requires.used i there)
    (ap (meant ds (meaning_of_number ds)) view ∙ c.in-Some.ensures.means) c.take.ensures.rows c.take.ensures.marks

pub parts-pair-requires : goal.parts-pair-requires
parts-pair-requires t c =
    let next = taking_next _ _ _ _ _ c.loop-part.part-index c.part-item.result _ _ c.loop-part.invariant c.loop-part-test.true c.part-item.is in
    let known = c.tables-tables.result in
    let e = expression c.part-item.result in
    part_pairable known e (c.is_scalar_part.ensures c.if-is_scalar_part.true)
    (findable_ready c.loop-part.self known e c.tables-tables.ensures.pairs c.tables-tables.ensures.tables
    (subst (λ ds. IsFindable ds e c.loop-part.self) (sym (ap nodes_kept c.tables-tables.ensures.definitions)) (taking_part _ _ _ _ _ _ _ _ _ next)))

pub parts-body-requires : goal.parts-body-requires
parts-body-requires t c =
    let next = taking_next _ _ _ _ _ c.loop-part.part-index c.part-item.result _ _ c.loop-part.invariant c.loop-part-test.true c.part-item.is in (
      let among : size-Expr c.part-item.result ≤ most (λ e. size-Expr e) c.args.parts.now =
          subst (λ e. size-Expr e ≤ most (λ x. size-Expr x) c.args.parts.now) (sym c.part-item.is) (at_most (λ e. size-Expr e) c.args.parts.now c.loop-part.part-index c.part-item.result c.loop-part-test.true) in
          omega (arith, c.decreases, among),
      taking_part _ _ _ _ _ _ _ _ _ next,
    )

pub parts-loop-part-preserved : goal.parts-loop-part-preserved
parts-loop-part-preserved t c =
    let ds = nodes_kept c.args.definitions.now in
    let all = c.args.parts.now in
    let rest = drop (c.loop-part.part-index + 1) all in
    let rows = c.loop-part.all_rows.items in
    let dots = c.loop-part.all_dots.items in
    let scalars = c.loop-part.scalars.items in
    let next = taking_next _ _ _ _ _ c.loop-part.part-index c.part-item.result _ _ c.loop-part.invariant c.loop-part-test.true c.part-item.is in
    elim c.if-is_scalar_part.branch [
      | parts-then-is_scalar_part+in_ok-pair+in_ok-push w ↦
          let v = w.in_ok-pair.field-0 in
          let is = subst (λ zs. pair_of_value v ≡ pair (meant zs (meaning_of_number zs) (expression c.part-item.result))) (ap nodes_kept w.tables-tables.ensures.definitions) w.in_ok-pair.ensures in
          rw (w.self-is, w.all_rows-is, w.all_dots-is, w.scalars-is) (subst (λ vs. Taking ds rows dots vs all rest c.args.self.now c.loop-part.self) (sym w.in_ok-push.ensures.items)
          (taking_scalar _ _ _ _ _ _ _ _ _ v next (c.is_scalar_part.ensures w.if-is_scalar_part.true) is))
      | parts-else-is_scalar_part+in_ok-rows+in_ok-push-2+in_ok-push-3 w ↦
          let more = taking_more _ _ _ _ _ _ _ _ _ _ w.in_ok-rows.field-0 next w.in_ok-rows.ensures.body w.in_ok-rows.ensures.kept in
          let one = subst (λ xs. Taking ds xs (dots ++ w.in_ok-rows.field-0.dots ∷ []) scalars all rest c.args.self.now w.body.new.self) (sym w.in_ok-push-2.ensures.items) more in
          rw (w.self-is, w.all_rows-is, w.all_dots-is, w.scalars-is)
          (subst (λ xs. Taking ds w.push-else-is_scalar_part.new.self.items xs scalars all rest c.args.self.now w.body.new.self) (sym w.in_ok-push-3.ensures.items) one)
    ]

pub parts-returns-clause-body : goal.parts-returns-clause-body
parts-returns-clause-body t c =
    all_taken _ _ _ _ _ _ c.loop-part.part-index _ _ c.in_ok-rows-2.rows c.in_ok-dots.dots c.loop-part.invariant (let end = c.loop-part-test.false in omega arith) c.in_ok-push_scalars.ensures
    c.in_ok-rows-2.ensures.form c.in_ok-rows-2.ensures.refused c.in_ok-dots.ensures.form c.in_ok-dots.ensures.refused
