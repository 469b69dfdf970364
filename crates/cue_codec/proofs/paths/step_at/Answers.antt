use Rattle.std.proofs.Common.{◌++◌, List, ℕ, arith, sym, subst}
use Rattle.std.proofs.lemmas.Result.{err_from_is_err_and}
use Rattle.cue_codec.specs.declared.version.Version.{Version}
use Rattle.cue_codec.specs.Entry.{to_rest}
use Rattle.cue_codec.specs.Parts.{step_bytes}
use Rattle.cue_codec.specs.Reading.{ReadsItem, ReadsNoItem}
use Rattle.cue_codec.specs.StateRow.{IsStateStep}
use Rattle.cue_codec.proofs.Codes.{tag_more, unread_so}
use Rattle.cue_codec.proofs.Numbers.{IsBytes, IsBytes-rest}
use Rattle.cue_codec.proofs.StatePaths.{step_empty, step_tag, step_text, step_number, step_untold, label_found, index_found, rest_found}
use Rattle.cue_codec.proofs.paths.step_at.Goals as goal

pub returns-in_default-clause-refused : goal.returns-in_default-clause-refused
returns-in_default-clause-refused c = step_empty c.args.version c.args.bytes.now c.in_default.ensures.cases

pub returns-in_err-text-in-0-clause-refused : goal.returns-in_err-text-in-0-clause-refused
returns-in_err-text-in-0-clause-refused c =
    let p = err_from_is_err_and c.from_residual.result c.from_residual.ensures.1 in
    rw (p.1, p.2) (unread_so c.in_err-text-in-0.field-0.0 _ _ c.in-Some.rest.now c.args.bytes.now (λ more. step_text c.args.version (c.args.bytes.now ++ more) (c.in-Some.rest.now ++ more) c.in-Some.tag.now (tag_more c.args.bytes.now c.in-Some.rest.now c.in-Some.tag.now more c.in-Some.ensures.cases.0) c.in-0.is) c.in_err-text-in-0.ensures.refused)

pub returns-in_default-u32_at-clause-refused : goal.returns-in_default-u32_at-clause-refused
returns-in_default-u32_at-clause-refused c =
    step_number c.args.version c.args.bytes.now c.in-Some.rest.now c.in-Some.tag.now c.in-Some.ensures.cases.0 c.in-1.is c.in_default-u32_at.ensures

pub returns-in_ok-text-in-0-clause-ok : goal.returns-in_ok-text-in-0-clause-ok
returns-in_ok-text-in-0-clause-ok c =
    label_found c.args.version c.args.bytes.now c.in-Some.rest.now c.in_ok-text-in-0.rest.now c.in_ok-text-in-0.text c.in-Some.tag.now c.in-Some.ensures.cases.0 c.in-0.is c.in_ok-text-in-0.ensures.ok

pub returns-in-Some-u32_at-clause-ok : goal.returns-in-Some-u32_at-clause-ok
returns-in-Some-u32_at-clause-ok c =
    let fits : IsBytes c.args.bytes.now = λ i. omega (arith, c.type_inv.bytes i) in
    index_found c.args.version c.args.bytes.now c.in-Some.rest.now c.in-Some-u32_at.rest.now c.in-Some.tag.now c.in-Some-u32_at.number (IsBytes-rest c.in-Some.tag.now c.args.bytes.now c.in-Some.rest.now c.in-Some.ensures.cases.0 fits) c.in-Some.ensures.cases.0 c.in-1.is c.in-Some-u32_at.ensures

pub returns-in-3-to-255-clause-refused : goal.returns-in-3-to-255-clause-refused
returns-in-3-to-255-clause-refused c = λ more.
    step_tag c.args.version (c.args.bytes.now ++ more) (c.in-Some.rest.now ++ more) c.in-Some.tag.now (tag_more c.args.bytes.now c.in-Some.rest.now c.in-Some.tag.now more c.in-Some.ensures.cases.0) (omega (arith, c.in-3-to-255))

pub returns-in-First-clause-refused : goal.returns-in-First-clause-refused
returns-in-First-clause-refused c = λ more.
    subst (λ (v : Version). ReadsNoItem (IsStateStep v) (step_bytes v) (c.args.bytes.now ++ more)) (sym c.in-First.is) (step_untold (c.args.bytes.now ++ more) (c.in-Some.rest.now ++ more) c.in-Some.tag.now (tag_more c.args.bytes.now c.in-Some.rest.now c.in-Some.tag.now more c.in-Some.ensures.cases.0) c.in-2.is)

pub returns-in-Second-clause-ok : goal.returns-in-Second-clause-ok
returns-in-Second-clause-ok c =
    subst (λ (v : Version). ReadsItem (IsStateStep v) (step_bytes v) to_rest c.args.bytes.now c.in-Some.rest.now) (sym c.in-Second.is) (rest_found c.args.bytes.now c.in-Some.rest.now c.in-Some.tag.now c.in-Some.ensures.cases.0 c.in-2.is)
