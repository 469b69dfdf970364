use Rattle.std.proofs.Common.{rules, ◌≡◌, ◌<◌, Some, length, get_or, sym, ap, subst, ◌∙◌, arith}
use Rattle.std.specs.Prelude.{IfOk, slice_get}
use Rattle.cue_syntax.specs.Syntax.{entries}
use Rattle.cue_scope.specs.Core.{is_scalar, struct}
use Rattle.cue_scope.specs.Definitions.{definitions}
use Rattle.cue_scope.specs.Files.{entries_of}
use Rattle.cue_scope.specs.Kept.{nodes_kept}
use Rattle.cue_scope.specs.Listed.{definition_of}
use Rattle.cue_scope.specs.Uses.{uses, uses_of_fields}
use Rattle.cue_scope.proofs.Numbers.{listed_at, length_listed}
use Rattle.cue_eval.specs.Evaluated.{HasAnswersOf}
use Rattle.cue_eval.specs.Inner.Finding.{body_of, IsDefinable, IsDefined, IsKept}
use Rattle.cue_eval.specs.Inner.Ready.{AreReadyFields, members_of}
use Rattle.cue_eval.proofs.Finding.{next_below, next_means, next_definable, found_more, text_ready, evaluated_result}
use Rattle.cue_eval.proofs.evaluation.evaluate.Goals as goal

pub offset_bounds-all-number : goal.offset_bounds-all-number
offset_bounds-all-number c =
    let es = entries_of c.args.resolved.now in
    let below : get_or c.order-order.result.now c.loop-number.number-index 0 < length (definitions es) = next_below es c.order-order.result.now c.loop-number.number-index c.order-order.ensures c.loop-number-test.true in
    let a = length_listed c.all.result.now in
    let b = ap length (c.all.ensures ∙ c.definitions-definitions.ensures.all) in
    let bound : get_or c.order-order.result.now c.loop-number.number-index 0 < length c.all.result.now = omega arith in
    search rules

pub bounds-all-number : goal.bounds-all-number
bounds-all-number c =
    let es = entries_of c.args.resolved.now in
    let below : get_or c.order-order.result.now c.loop-number.number-index 0 < length (definitions es) = next_below es c.order-order.result.now c.loop-number.number-index c.order-order.ensures c.loop-number-test.true in
    let a = length_listed c.all.result.now in
    let b = ap length (c.all.ensures ∙ c.definitions-definitions.ensures.all) in
    omega arith

pub is_scalar-is_scalar-requires : goal.is_scalar-is_scalar-requires
is_scalar-is_scalar-requires c = next_below (entries_of c.args.resolved.now) c.order-order.result.now c.loop-number.number-index c.order-order.ensures c.loop-number-test.true

pub define-requires-clause-definable : goal.define-requires-clause-definable
define-requires-clause-definable c =
    let es = entries_of c.args.resolved.now in
    let all = c.definitions-definitions.ensures.all in
    let order = c.order-order.result.now in
    let k = c.loop-number.number-index in
    let d = definition_of c.index-all-number.result in
    let below = next_below es order k c.order-order.ensures c.loop-number-test.true in
    let a = length_listed c.all.result.now in
    let b = ap length (c.all.ensures ∙ all) in
    let is : slice_get (definitions es) (get_or order k 0) ≡ Some d =
    subst (λ z. slice_get z (get_or order k 0) ≡ Some d) (c.all.ensures ∙ all) (listed_at c.all.result.now (get_or order k 0) c.index-all-number.result (omega arith) c.index-all-number.is) in
    subst (λ ds. IsDefinable ds d c.loop-number.found) (sym all)
    (next_definable es order k c.loop-number.found d c.declarations-declarations.ensures.legal c.args.resolved.now.well_formed.right c.definitions-definitions.ensures.uses c.order-order.ensures c.loop-number-test.true is
    c.loop-number.invariant)

pub define-requires-clause-is_scalar : goal.define-requires-clause-is_scalar
define-requires-clause-is_scalar c =
    let es = entries_of c.args.resolved.now in
    let all = c.definitions-definitions.ensures.all in
    let order = c.order-order.result.now in
    let k = c.loop-number.number-index in
    let d = definition_of c.index-all-number.result in
    let below = next_below es order k c.order-order.ensures c.loop-number-test.true in
    let a = length_listed c.all.result.now in
    let b = ap length (c.all.ensures ∙ all) in
    let is : slice_get (definitions es) (get_or order k 0) ≡ Some d =
    subst (λ z. slice_get z (get_or order k 0) ≡ Some d) (c.all.ensures ∙ all) (listed_at c.all.result.now (get_or order k 0) c.index-all-number.result (omega arith) c.index-all-number.is) in
    let means = next_means es order k d c.definitions-definitions.ensures.uses c.order-order.ensures c.loop-number-test.true is in
    c.is_scalar-is_scalar.ensures ∙ ap is_scalar means ∙ ap (λ ds. is_scalar (body_of ds d)) (sym all)

pub keep-requires-clause-pairs : goal.keep-requires-clause-pairs
keep-requires-clause-pairs c =
    let below = next_below (entries_of c.args.resolved.now) c.order-order.result.now c.loop-number.number-index c.order-order.ensures c.loop-number-test.true in
    let room = c.loop-number.invariant.room.pairs in
    let same = ap length c.in_ok-defined.ensures.kept.pairs in
    omega arith

pub keep-requires-clause-tables : goal.keep-requires-clause-tables
keep-requires-clause-tables c =
    let below = next_below (entries_of c.args.resolved.now) c.order-order.result.now c.loop-number.number-index c.order-order.ensures c.loop-number-test.true in
    let room = c.loop-number.invariant.room.tables in
    let same = c.in_ok-defined.ensures.kept.count_tables in
    omega arith

pub keep-requires-clause-dots : goal.keep-requires-clause-dots
keep-requires-clause-dots c =
    let below = next_below (entries_of c.args.resolved.now) c.order-order.result.now c.loop-number.number-index c.order-order.ensures c.loop-number-test.true in
    let room = c.loop-number.invariant.room.dots in
    let same = c.in_ok-defined.ensures.kept.count_dots in
    omega arith

pub loop-number-preserved : goal.loop-number-preserved
loop-number-preserved c =
    let es = entries_of c.args.resolved.now in
    let all = c.definitions-definitions.ensures.all in
    let order = c.order-order.result.now in
    let k = c.loop-number.number-index in
    let d = definition_of c.index-all-number.result in
    let below = next_below es order k c.order-order.ensures c.loop-number-test.true in
    let a = length_listed c.all.result.now in
    let b = ap length (c.all.ensures ∙ all) in
    let is : slice_get (definitions es) (get_or order k 0) ≡ Some d =
    subst (λ z. slice_get z (get_or order k 0) ≡ Some d) (c.all.ensures ∙ all) (listed_at c.all.result.now (get_or order k 0) c.index-all-number.result (omega arith) c.index-all-number.is) in
    let means = next_means es order k d c.definitions-definitions.ensures.uses c.order-order.ensures c.loop-number-test.true is in
    let known = subst (λ m. IsDefined m c.in_ok-defined.defined) (ap (λ ds. body_of ds d) all ∙ sym means) c.in_ok-defined.ensures.defined in
    let kept = subst (λ ds. IsKept (uses ds d.value) c.loop-number.found c.define.new.self) all c.in_ok-defined.ensures.kept in
    found_more (definitions es) (uses_of_fields (definitions es) es) order k d c.loop-number.found c.define.new.self c.keep.new.self c.in_ok-defined.defined c.order-order.ensures c.loop-number-test.true below is
    c.loop-number.invariant kept known c.keep.ensures.pairs c.keep.ensures.tables c.keep.ensures.dots c.keep.ensures.once

pub literal-requires : goal.literal-requires
literal-requires c =
    let es = entries_of c.args.resolved.now in
    let all = c.definitions-definitions.ensures.all in
    let order = c.order-order.result.now in
    subst (λ xs. AreReadyFields c.tables-tables.result (entries xs)) (sym c.declarations-declarations.ensures.declarations)
    (text_ready es order c.loop-number.number-index c.loop-number.found c.tables-tables.result c.declarations-declarations.ensures.legal c.args.resolved.now.well_formed.right c.order-order.ensures
    (let end = c.loop-number-test.false in omega arith) c.loop-number.invariant
    (ap nodes_kept c.tables-tables.ensures.definitions ∙ all) c.tables-tables.ensures.pairs c.tables-tables.ensures.tables)

pub returns : goal.returns
returns c =
    let es = entries_of c.args.resolved.now in
    let all = c.definitions-definitions.ensures.all in
    evaluated_result c.literal.result es c.tables-tables.result c.declarations-declarations.ensures.legal c.args.resolved.now.well_formed.words
    (ap nodes_kept c.tables-tables.ensures.definitions ∙ all) c.literal.ensures.form
    (subst (λ xs. IfOk c.literal.result (HasAnswersOf (struct (members_of c.tables-tables.result (entries xs))))) c.declarations-declarations.ensures.declarations c.literal.ensures.answers)
