use Rattle.std.proofs.Common.{◌-◌, length, map, take, drop, sym, subst, ◌∙◌, add-one, arith}
use Rattle.std.proofs.lemmas.Bool.{false≢true}
use Rattle.cue_row.specs.Row.{RowRefusesQuestion}
use Rattle.cue_row.specs.Steps.{step_of}
use Rattle.cue_table.specs.Refuses.{TableRefuses}
use Rattle.cue_places.specs.Inner.Bars.{IsBarOf}
use Rattle.cue_places.specs.Places.{IsFreePlace}
use Rattle.cue_places.proofs.Barring.{bar_here, bar_next, bar_found, free_found, free_none}
use Rattle.cue_places.proofs.Lists.{cut_path, any_none}
use Rattle.cue_places.proofs.bars.+first_bar.Goals as goal

pub returns-then-has_no_kind-clause-some : goal.returns-then-has_no_kind-clause-some
returns-then-has_no_kind-clause-some t c =
    let steps = c.args.steps.now in
    let step = c.step-item.result in
    let rest = take (length steps - 1) (drop 1 steps) in
    bar_here (TableRefuses RowRefusesQuestion c.args.branch.now) (map step_of steps) (step_of step) (map step_of rest) (cut_path steps step (omega arith) c.step-item.is) (c.has_no_kind.ensures.0 c.if-has_no_kind.true)

pub returns-then-is_refused-clause-some : goal.returns-then-is_refused-clause-some
returns-then-is_refused-clause-some t c =
    let steps = c.args.steps.now in
    let step = c.step-item.result in
    let rest = take (length steps - 1) (drop 1 steps) in
    bar_next (TableRefuses RowRefusesQuestion c.args.branch.now) (map step_of steps) (step_of step) (map step_of rest) c.has_no_value_at.result (cut_path steps step (omega arith) c.step-item.is)
    (λ h. false≢true (sym c.if-has_no_kind.false ∙ c.has_no_kind.ensures.1 h)) (c.is_refused.ensures.0 c.if-is_refused.true) c.has_no_value_at.ensures

pub returns-in_err-next-in-len1-up-clause-none : goal.returns-in_err-next-in-len1-up-clause-none
returns-in_err-next-in-len1-up-clause-none t c =
    let steps = c.args.steps.now in
    let step = c.step-item.result in
    let rest = take (length steps - 1) (drop 1 steps) in
    let tree = c.args.branch.now in
    any_none c.from_residual.result (IsFreePlace (TableRefuses RowRefusesQuestion tree) (map step_of steps))
    (free_none tree (map step_of steps) (step_of step) (map step_of rest) (cut_path steps step (omega arith) c.step-item.is) (sym c.find.ensures.branch ∙ c.in_err-next-in-len1-up.was)
    (λ h. false≢true (sym c.if-has_no_kind.false ∙ c.has_no_kind.ensures.1 h)) (λ h. false≢true (sym c.if-is_refused.false ∙ c.is_refused.ensures.1 h)))

pub returns-in_err-bar-in-len1-up-clause-none : goal.returns-in_err-bar-in-len1-up-clause-none
returns-in_err-bar-in-len1-up-clause-none t c =
    let steps = c.args.steps.now in
    let step = c.step-item.result in
    let rest = take (length steps - 1) (drop 1 steps) in
    let tree = c.args.branch.now in
    any_none c.from_residual-in_err-bar-in-len1-up.result (IsFreePlace (TableRefuses RowRefusesQuestion tree) (map step_of steps))
    (free_found tree c.in_ok-next-in-len1-up.next (map step_of steps) (step_of step) (map step_of rest) (cut_path steps step (omega arith) c.step-item.is) (sym c.find.ensures.branch ∙ c.in_ok-next-in-len1-up.was)
    (λ h. false≢true (sym c.if-has_no_kind.false ∙ c.has_no_kind.ensures.1 h)) (λ h. false≢true (sym c.if-is_refused.false ∙ c.is_refused.ensures.1 h)) c.in_err-bar-in-len1-up.ensures.none)

pub returns-in_ok-bar-in-len1-up-clause-some : goal.returns-in_ok-bar-in-len1-up-clause-some
returns-in_ok-bar-in-len1-up-clause-some t c =
    let steps = c.args.steps.now in
    let step = c.step-item.result in
    let rest = take (length steps - 1) (drop 1 steps) in
    let tree = c.args.branch.now in
    let bar = c.in_ok-bar-in-len1-up.bar in
    subst (λ n. IsBarOf (TableRefuses RowRefusesQuestion tree) (map step_of steps) (record { depth = n; no_value = bar.no_value; not_allowed = bar.not_allowed })) (sym (add-one bar.depth))
    (bar_found tree c.in_ok-next-in-len1-up.next (map step_of steps) (step_of step) (map step_of rest) bar (cut_path steps step (omega arith) c.step-item.is) (sym c.find.ensures.branch ∙ c.in_ok-next-in-len1-up.was)
    (λ h. false≢true (sym c.if-has_no_kind.false ∙ c.has_no_kind.ensures.1 h)) (λ h. false≢true (sym c.if-is_refused.false ∙ c.is_refused.ensures.1 h)) c.in_ok-bar-in-len1-up.ensures.some)
