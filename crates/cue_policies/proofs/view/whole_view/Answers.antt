use Rattle.std.proofs.Common.{true, sym, subst, ◌∙◌}
use Rattle.std.proofs.lemmas.Result.{err_from_is_err_and}
use Rattle.cue_lattice.specs.Question.{SameAnswers}
use Rattle.cue_row.specs.declared.parts.RowParts.{RowParts as Row}
use Rattle.cue_table.specs.Tree.{Tree}
use Rattle.cue_table.specs.Valid.{IsValidTable}
use Rattle.cue_table.proofs.MetTables.{met_tables}
use Rattle.cue_policies.specs.Inner.Answers.{PolicyTreeRefusals}
use Rattle.cue_policies.specs.Inner.Parts.{AreLimited, AreSoundParts, PartsRefuse, two_parts}
use Rattle.cue_policies.specs.Rows.{HasMoreRows}
use Rattle.cue_policies.specs.Tables.{ViewOfTwo}
use Rattle.cue_policies.specs.WellFormed.{IsPlain}
use Rattle.cue_policies.proofs.Calls.{plain_two, two_sound, two_limited, two_refuse}
use Rattle.cue_policies.proofs.Sizes.{more_as, more_rows, view_error}
use Rattle.cue_policies.proofs.Soundness.{root_is_valid}
use Rattle.cue_policies.proofs.view.whole_view.Goals as goal

pub view_of-requires-clause-sound : goal.view_of-requires-clause-sound
view_of-requires-clause-sound c =
    let are = c.deref.ensures.value ∙ c.in_ok-parts.ensures.parts in
    subst AreSoundParts (sym are) (two_sound c.args.layers.now c.args.policies.now c.requires.layers c.requires.policies c.in_ok-parts.ensures.depth.0 c.in_ok-parts.ensures.depth.1 c.requires.formed)

pub returns-clause-valid : goal.returns-clause-valid
returns-clause-valid c =
    let are = c.deref.ensures.value ∙ c.in_ok-parts.ensures.parts in
    let limited = subst (AreLimited true) (sym are) (two_limited c.args.layers.now c.args.policies.now c.requires.layers c.requires.policies c.in_ok-parts.ensures.depth.0 c.in_ok-parts.ensures.depth.1) in
    subst IsValidTable (sym c.in_ok-count_rows.ensures.table) (root_is_valid c.in_ok-view.view.table c.in_ok-view.ensures.form (c.in_ok-view.ensures.fit true limited))

pub returns-clause-refused : goal.returns-clause-refused
returns-clause-refused c = λ path question.
    let are = c.deref.ensures.value ∙ c.in_ok-parts.ensures.parts in
    let same = subst (λ (t : Tree Row). SameAnswers (PolicyTreeRefusals t) (PartsRefuse c.deref.result.now)) (sym c.in_ok-count_rows.ensures.table) c.in_ok-view.ensures.refused in
    let here = same path question in
    let two = two_refuse c.args.layers.now c.args.policies.now path question in (
      λ h. two.0 (subst (λ parts. PartsRefuse parts path question) are (here.0 h)),
      λ h. here.1 (subst (λ parts. PartsRefuse parts path question) (sym are) (two.1 h)),
    )

pub returns-in_err-view-clause-large : goal.returns-in_err-view-clause-large
returns-in_err-view-clause-large c =
    let are = c.deref.ensures.value ∙ c.in_ok-parts.ensures.parts in
    let not_plain : ¬ IsPlain (PolicyTreeRefusals c.args.policies.now) = λ plain. let yes = c.is_plain.ensures.1 plain in let no = c.if-is_plain.false in cc in
    let p = err_from_is_err_and c.from_residual-in_err-view.result c.from_residual-in_err-view.ensures.1 in
    rw (p.1, p.2)
    (view_error {B = (¬ IsPlain (PolicyTreeRefusals c.args.policies.now)) × HasMoreRows c.args.limit (ViewOfTwo c.args.layers.now c.args.policies.now)} _ (λ more. (not_plain, more_as c.args.limit (PartsRefuse (two_parts c.args.layers.now c.args.policies.now)) (ViewOfTwo c.args.layers.now c.args.policies.now) (two_refuse c.args.layers.now c.args.policies.now) (subst (λ parts. HasMoreRows c.args.limit (PartsRefuse parts)) are more))) c.in_err-view.ensures.large)

pub returns-in_err-count_rows-clause-large : goal.returns-in_err-count_rows-clause-large
returns-in_err-count_rows-clause-large c =
    let are = c.deref.ensures.value ∙ c.in_ok-parts.ensures.parts in
    let not_plain : ¬ IsPlain (PolicyTreeRefusals c.args.policies.now) = λ plain. let yes = c.is_plain.ensures.1 plain in let no = c.if-is_plain.false in cc in
    let same : SameAnswers (PolicyTreeRefusals c.in_ok-view.view.table) (ViewOfTwo c.args.layers.now c.args.policies.now) = λ path question.
    let here = c.in_ok-view.ensures.refused path question in
    let two = two_refuse c.args.layers.now c.args.policies.now path question in (
      λ h. two.0 (subst (λ parts. PartsRefuse parts path question) are (here.0 h)),
      λ h. here.1 (subst (λ parts. PartsRefuse parts path question) (sym are) (two.1 h)),
    ) in
    let p = err_from_is_err_and c.from_residual-in_err-count_rows.result c.from_residual-in_err-count_rows.ensures.1 in
    rw (p.1, p.2)
    (view_error {B = (¬ IsPlain (PolicyTreeRefusals c.args.policies.now)) × HasMoreRows c.args.limit (ViewOfTwo c.args.layers.now c.args.policies.now)} _ (λ more. (not_plain, more_rows c.args.limit c.in_ok-view.view.table (ViewOfTwo c.args.layers.now c.args.policies.now) more.0 same more.1)) c.in_err-count_rows.ensures.large)

pub returns-then-is_plain-clause-valid : goal.returns-then-is_plain-clause-valid
returns-then-is_plain-clause-valid c =
    met_tables c.args.layers.now c.args.policies.now c.in_ok-meet.field-0 c.in_ok-meet.ensures.form c.in_ok-meet.ensures.refused c.requires.layers c.requires.policies

pub returns-then-is_plain-clause-refused : goal.returns-then-is_plain-clause-refused
returns-then-is_plain-clause-refused c =
    plain_two c.args.layers.now c.args.policies.now c.in_ok-meet.field-0 c.in_ok-meet.ensures.refused (c.is_plain.ensures.0 c.if-is_plain.true)
