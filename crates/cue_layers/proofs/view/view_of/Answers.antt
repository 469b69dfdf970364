use Rattle.std.proofs.Common.{sym, subst, ◌≤◌}
use Rattle.std.proofs.lemmas.Result.{err_from_is_err_and}
use Rattle.cue_lattice.specs.Question.{SameAnswers}
use Rattle.cue_policies.specs.Rows.{row_count, HasMoreRows}
use Rattle.cue_policies.specs.Tables.{ViewOfTwo}
use Rattle.cue_policies.specs.WellFormed.{IsPlain}
use Rattle.cue_policies.proofs.Sizes.{view_error}
use Rattle.cue_replica.specs.Language.{Table, language}
use Rattle.cue_layers.specs.View.{IsViewOf}
use Rattle.cue_layers.proofs.TooLarge.{not_too_large, too_large}
use Rattle.cue_layers.proofs.Viewing.{whole}
use Rattle.cue_layers.proofs.view.view_of.Goals as goal

pub returns-clause-view : goal.returns-clause-view
returns-clause-view c =
    let all = c.args.layers.now in
    let proper = c.in_ok-proper.proper in
    let policies = c.in_ok-policies.policies in
    let view = c.in_ok-table.table in
    let first = subst (λ (t : Table). SameAnswers (language.table_refuses view) (ViewOfTwo t c.table-2.result.now)) c.table.ensures c.in_ok-table.ensures.refused in
    let same = subst (λ (t : Table). SameAnswers (language.table_refuses view) (ViewOfTwo proper t)) c.table-2.ensures first in
    subst (IsViewOf all) (sym c.of_table.ensures) (whole all proper policies view c.in_ok-proper.ensures.unified c.in_ok-policies.ensures.unified c.in_ok-table.ensures.valid same)

pub returns-clause-few : goal.returns-clause-few
returns-clause-few c =
    let all = c.args.layers.now in
    let proper = c.in_ok-proper.proper in
    let policies = c.in_ok-policies.policies in
    let view = c.in_ok-table.table in
    let first = subst (λ (t : Table). SameAnswers (language.table_refuses view) (ViewOfTwo t c.table-2.result.now)) c.table.ensures c.in_ok-table.ensures.refused in
    let same = subst (λ (t : Table). SameAnswers (language.table_refuses view) (ViewOfTwo proper t)) c.table-2.ensures first in
    let is_view = whole all proper policies view c.in_ok-proper.ensures.unified c.in_ok-policies.ensures.unified c.in_ok-table.ensures.valid same in
    let few = subst (λ (t : Table). ¬ IsPlain (language.table_refuses t) → row_count view ≤ c.args.limit) c.table-2.ensures c.in_ok-table.ensures.few in
    not_too_large all policies c.in_ok-policies.ensures.unified proper c.in_ok-proper.ensures.unified c.args.limit view is_view few

pub returns-in_err-table-clause-large : goal.returns-in_err-table-clause-large
returns-in_err-table-clause-large c =
    let all = c.args.layers.now in
    let proper = c.in_ok-proper.proper in
    let policies = c.in_ok-policies.policies in
    let p = err_from_is_err_and c.from_residual-in_err-table.result c.from_residual-in_err-table.ensures.1 in
    let to = too_large all policies c.in_ok-policies.ensures.unified proper c.in_ok-proper.ensures.unified c.args.limit in
    let P : Table → Table → Type 0 = λ l p. (¬ IsPlain (language.table_refuses p)) × HasMoreRows c.args.limit (ViewOfTwo l p) in
    rw (p.1, p.2)
    (view_error _ (λ more. to (subst (λ (l : Table). P l policies) c.table.ensures (subst (λ (q : Table). P c.table.result.now q) c.table-2.ensures more))) c.in_err-table.ensures.large)
