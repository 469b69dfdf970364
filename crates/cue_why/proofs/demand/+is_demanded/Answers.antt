use Rattle.std.proofs.Common.{◌-◌, length, take, drop, sym, ◌∙◌, arith}
use Rattle.std.proofs.lemmas.Bool.{false≢true}
use Rattle.cue_why.proofs.Demands.{are_cut, demanded_cut}
use Rattle.cue_why.proofs.demand.+is_demanded.Goals as goal

pub returns-then-is_step_demanded : goal.returns-then-is_step_demanded
returns-then-is_step_demanded t c =
    let path = c.args.path.now in
    let rows = c.args.rows.now in
    let cut = are_cut path rows c.step-item.result c.above-item.result (omega arith) c.step-item.is (omega arith) c.above-item.is in
    let all = demanded_cut path rows c.step-item.result c.above-item.result (take (length path - 1) (drop 1 path)) (take (length rows - 1) (drop 1 rows)) cut in
    let here = c.is_step_demanded.ensures.0 c.if-is_step_demanded.true in
    (λ d. all.1 (here, c.is_demanded.ensures.0 d), λ d. c.is_demanded.ensures.1 (all.0 d).1)

pub returns-else-is_step_demanded : goal.returns-else-is_step_demanded
returns-else-is_step_demanded t c =
    let path = c.args.path.now in
    let rows = c.args.rows.now in
    let cut = are_cut path rows c.step-item.result c.above-item.result (omega arith) c.step-item.is (omega arith) c.above-item.is in
    let all = demanded_cut path rows c.step-item.result c.above-item.result (take (length path - 1) (drop 1 path)) (take (length rows - 1) (drop 1 rows)) cut in
    (λ d. absurd (false≢true (sym c.if-is_step_demanded.false ∙ d)), λ d. c.is_step_demanded.ensures.1 (all.0 d).0)
