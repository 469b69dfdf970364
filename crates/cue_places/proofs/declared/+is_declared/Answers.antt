use Rattle.std.proofs.Common.{◌≡◌, ◌-◌, [], length, map, take, drop, sym, ap, ◌∙◌, arith, rules}
use Rattle.std.specs.Prelude.{IsTrue}
use Rattle.std.proofs.lemmas.Bool.{false≢true}
use Rattle.cue_row.specs.Row.{RowRefusesQuestion}
use Rattle.cue_row.specs.Steps.{step_of}
use Rattle.cue_table.specs.Refuses.{TableRefuses}
use Rattle.cue_places.proofs.Declaring.{not_declared, declared_none, declared_found}
use Rattle.cue_places.proofs.Lists.{cut_path, unmapped}
use Rattle.cue_places.proofs.declared.+is_declared.Goals as goal

pub returns-then-not-is_step_declared : goal.returns-then-not-is_step_declared
returns-then-not-is_step_declared t c =
    let steps = c.args.steps.now in
    let step = c.step-item.result in
    let rest = take (length steps - 1) (drop 1 steps) in (
      λ b. absurd (false≢true b),
      λ h. absurd (not_declared (TableRefuses RowRefusesQuestion c.args.branch.now) (map step_of steps) (step_of step) (map step_of rest) (cut_path steps step (omega arith) c.step-item.is)
          (λ d. false≢true (sym c.if-not-is_step_declared.true ∙ c.is_step_declared.ensures.1 d)) h),
    )

pub returns-in-None : goal.returns-in-None
returns-in-None t c =
    let steps = c.args.steps.now in
    let step = c.step-item.result in
    let rest = take (length steps - 1) (drop 1 steps) in
    let all = declared_none c.args.branch.now (map step_of steps) (step_of step) (map step_of rest) (cut_path steps step (omega arith) c.step-item.is) (sym c.find.ensures.branch ∙ c.in-None.is)
    (c.is_step_declared.ensures.0 c.if-not-is_step_declared.false) in (
      λ b. all.1 (ap (map step_of) (let none : rest ≡ [] = search rules in none)),
      λ h. let none : rest ≡ [] = unmapped rest (all.0 h) in let is : IsTrue c.is_empty.result = search rules in is,
    )

pub returns-in-Some : goal.returns-in-Some
returns-in-Some t c =
    let steps = c.args.steps.now in
    let step = c.step-item.result in
    let rest = take (length steps - 1) (drop 1 steps) in
    let all = declared_found c.args.branch.now c.in-Some.next (map step_of steps) (step_of step) (map step_of rest) (cut_path steps step (omega arith) c.step-item.is) (sym c.find.ensures.branch ∙ c.in-Some.is)
    (c.is_step_declared.ensures.0 c.if-not-is_step_declared.false) in
    (λ b. all.1 (c.is_declared.ensures.0 b), λ h. c.is_declared.ensures.1 (all.0 h))
