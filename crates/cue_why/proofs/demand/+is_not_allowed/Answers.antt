use Rattle.std.proofs.Common.{◌≡◌, ◌<◌, ◌-◌, [], length, take, drop, arith, rules}
use Rattle.cue_why.proofs.Demands.{are_cut, not_allowed_cut_last, not_allowed_cut_more}
use Rattle.cue_why.proofs.demand.+is_not_allowed.Goals as goal

pub returns-then-is_empty : goal.returns-then-is_empty
returns-then-is_empty t c =
    let path = c.args.path.now in
    let rows = c.args.rows.now in
    let cut = are_cut path rows c.step-item.result c.above-item.result (omega arith) c.step-item.is (omega arith) c.above-item.is in
    let none : take (length path - 1) (drop 1 path) ≡ [] = search rules in
    let all = not_allowed_cut_last path rows c.step-item.result c.above-item.result (take (length path - 1) (drop 1 path)) (take (length rows - 1) (drop 1 rows)) cut none in
    (λ d. all.1 (c.is_refused.ensures.0 d), λ d. c.is_refused.ensures.1 (all.0 d))

pub returns-else-is_empty : goal.returns-else-is_empty
returns-else-is_empty t c =
    let path = c.args.path.now in
    let rows = c.args.rows.now in
    let cut = are_cut path rows c.step-item.result c.above-item.result (omega arith) c.step-item.is (omega arith) c.above-item.is in
    let some : 0 < length (take (length path - 1) (drop 1 path)) = search rules in
    let all = not_allowed_cut_more path rows c.step-item.result c.above-item.result (take (length path - 1) (drop 1 path)) (take (length rows - 1) (drop 1 rows)) cut some in
    (λ d. all.1 (c.is_not_allowed.ensures.0 d), λ d. c.is_not_allowed.ensures.1 (all.0 d))
