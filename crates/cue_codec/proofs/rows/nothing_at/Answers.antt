use Rattle.std.proofs.Common.{◌++◌, refl}
use Rattle.std.proofs.lemmas.Result.{err_from_is_err_and}
use Rattle.cue_codec.specs.Parts.{labels_bytes}
use Rattle.cue_codec.specs.StateRow.{AreStateLabels}
use Rattle.cue_codec.proofs.Codes.{begins_more, unread_so}
use Rattle.cue_codec.proofs.RowParts.{left_out_first, left_out_second, left_out_found}
use Rattle.cue_codec.proofs.rows.nothing_at.Goals as goal

pub returns-in_err-labels-clause-refused : goal.returns-in_err-labels-clause-refused
returns-in_err-labels-clause-refused c =
    let p = err_from_is_err_and c.from_residual.result c.from_residual.ensures.1 in
    rw (p.1, p.2) (unread_so c.in_err-labels.field-0.0 _ _ c.args.bytes.now c.args.bytes.now (λ more. left_out_first c.args.version (c.args.bytes.now ++ more)) c.in_err-labels.ensures.refused)

pub returns-in_err-least-clause-refused : goal.returns-in_err-least-clause-refused
returns-in_err-least-clause-refused c =
    let p = err_from_is_err_and c.from_residual-in_err-least.result c.from_residual-in_err-least.ensures.1 in
    rw (p.1, p.2)
    (unread_so c.in_err-least.field-0.0 _ _ c.in_ok-labels.middle.now c.args.bytes.now
    (λ more. left_out_second c.args.version (c.args.bytes.now ++ more) (c.in_ok-labels.middle.now ++ more) c.in_ok-labels.labels (begins_more AreStateLabels labels_bytes c.in_ok-labels.labels c.args.bytes.now c.in_ok-labels.middle.now more c.in_ok-labels.ensures.ok)) c.in_err-least.ensures.refused)

pub returns-clause-ok : goal.returns-clause-ok
returns-clause-ok c = record {
  item = (c.in_ok-labels.labels, (c.in_ok-least.least, c.in_ok-least.most, c.in_ok-least.fixed));
  says = c.in-Ok.ensures;
  fixed_is = refl;
  begins = left_out_found c.args.version c.args.bytes.now c.in_ok-labels.middle.now c.in_ok-least.rest.now c.in_ok-labels.labels (c.in_ok-least.least, c.in_ok-least.most, c.in_ok-least.fixed) c.in_ok-labels.ensures.ok c.in_ok-least.ensures.ok;
}
