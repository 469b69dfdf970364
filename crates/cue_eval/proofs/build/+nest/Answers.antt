use Rattle.std.proofs.Common.{◌≤◌, ◌<◌, ◌+◌, ◌⊎◌, ◌∷◌, ◌++◌, [], length, take, drop, ◌-◌, ap, ◌∙◌, arith}
use Rattle.cue_lattice.specs.Limits.{step_limit}
use Rattle.cue_table.specs.Depth.{tree_depth}
use Rattle.cue_eval.specs.Inner.Gathered.{LabelsRefuse}
use Rattle.cue_eval.specs.Places.{StructRefuses}
use Rattle.cue_eval.proofs.Gathering.{marked_depth}
use Rattle.cue_eval.proofs.Chains.{one_deep, first_rest, behind_depth, behind_first}
use Rattle.cue_eval.proofs.build.+nest.Goals as goal

pub struct_of-requires : goal.struct_of-requires
struct_of-requires t c =
    let inner = c.nest.new.table in
    let made = c.mark.new.table in
    let depth : tree_depth inner ≤ tree_depth c.args.table.now + length (take (length c.args.chain.now - 1) (drop 1 c.args.chain.now)) = c.in_ok-nest-in-len1-up.ensures.depth in
    let no_deeper = marked_depth inner made c.first-item.result.mark c.mark.ensures.form c.in_ok-mark-in-len1-up.ensures.answers in
    let whole = ap length (first_rest c.args.chain.now c.first-item.result c.in-len1-up.len_at_least c.first-item.is) in
    let room = c.requires.depth in
    let less : tree_depth made < step_limit = omega arith in
    one_deep c.push.new.self.items c.in_ok-step_to-in-len1-up.field-0 made (c.in_ok-push-in-len1-up.ensures.items ∙ ap (λ xs. xs ++ (c.in_ok-step_to-in-len1-up.field-0, c.replace-inner.result) ∷ []) c.in_ok-fields-in-len1-up.ensures.items
    ∙ ap (λ t. (c.in_ok-step_to-in-len1-up.field-0, t) ∷ []) c.replace-inner.ensures.value) less

pub returns-in_ok-table-in-len1-up-clause-depth : goal.returns-in_ok-table-in-len1-up-clause-depth
returns-in_ok-table-in-len1-up-clause-depth t c =
    let inner = c.nest.new.table in
    let made = c.mark.new.table in
    let n = tree_depth c.args.table.now + length c.args.chain.now in
    let depth : tree_depth inner ≤ tree_depth c.args.table.now + length (take (length c.args.chain.now - 1) (drop 1 c.args.chain.now)) = c.in_ok-nest-in-len1-up.ensures.depth in
    let no_deeper = marked_depth inner made c.first-item.result.mark c.mark.ensures.form c.in_ok-mark-in-len1-up.ensures.answers in
    let whole = ap length (first_rest c.args.chain.now c.first-item.result c.in-len1-up.len_at_least c.first-item.is) in
    let less : tree_depth made < n = omega arith in
    let given = c.in_ok-push-in-len1-up.ensures.items ∙ ap (λ xs. xs ++ (c.in_ok-step_to-in-len1-up.field-0, c.replace-inner.result) ∷ []) c.in_ok-fields-in-len1-up.ensures.items
    ∙ ap (λ t. (c.in_ok-step_to-in-len1-up.field-0, t) ∷ []) c.replace-inner.ensures.value in
    behind_depth c.in_ok-table-in-len1-up.field-0 (λ question. StructRefuses question ⊎ LabelsRefuse c.all.result question) c.in_ok-step_to-in-len1-up.field-0 made c.push.new.self.items n given less
    c.in_ok-table-in-len1-up.ensures.form c.in_ok-table-in-len1-up.ensures.answers

pub returns-in_ok-table-in-len1-up-clause-answers : goal.returns-in_ok-table-in-len1-up-clause-answers
returns-in_ok-table-in-len1-up-clause-answers t c =
    let inner = c.nest.new.table in
    let made = c.mark.new.table in
    let depth : tree_depth inner ≤ tree_depth c.args.table.now + length (take (length c.args.chain.now - 1) (drop 1 c.args.chain.now)) = c.in_ok-nest-in-len1-up.ensures.depth in
    let no_deeper = marked_depth inner made c.first-item.result.mark c.mark.ensures.form c.in_ok-mark-in-len1-up.ensures.answers in
    let whole = first_rest c.args.chain.now c.first-item.result c.in-len1-up.len_at_least c.first-item.is in
    let lengths = ap length whole in
    let room = c.requires.depth in
    let less : tree_depth made < step_limit = omega arith in
    let given = c.in_ok-push-in-len1-up.ensures.items ∙ ap (λ xs. xs ++ (c.in_ok-step_to-in-len1-up.field-0, c.replace-inner.result) ∷ []) c.in_ok-fields-in-len1-up.ensures.items
    ∙ ap (λ t. (c.in_ok-step_to-in-len1-up.field-0, t) ∷ []) c.replace-inner.ensures.value in
    behind_first c.in_ok-table-in-len1-up.field-0 c.args.chain.now (take (length c.args.chain.now - 1) (drop 1 c.args.chain.now)) c.first-item.result c.in_ok-step_to-in-len1-up.field-0 c.args.table.now inner made c.push.new.self.items
    c.all.result whole c.in_ok-step_to-in-len1-up.ensures less c.in_ok-mark-in-len1-up.ensures.answers c.in_ok-nest-in-len1-up.ensures.answers c.all.ensures given c.in_ok-table-in-len1-up.ensures.answers
