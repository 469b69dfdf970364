use Rattle.std.proofs.Common.{◌++◌, refl, sym, ap, ◌∙◌}
use Rattle.std.proofs.lemmas.Result.{err_from_is_err_and}
use Rattle.cue_codec.specs.Parts.{set_bytes}
use Rattle.cue_codec.specs.StateRow.{IsStateSet}
use Rattle.cue_codec.specs.RowBytes.{is_no_scalar}
use Rattle.cue_codec.proofs.Codes.{begins_more, unread_so}
use Rattle.cue_codec.proofs.RowParts.{scalars_first, scalars_none, scalars_second, scalars_found}
use Rattle.cue_codec.proofs.rows.scalar_at.Goals as goal

pub returns-in_err-value-clause-refused : goal.returns-in_err-value-clause-refused
returns-in_err-value-clause-refused c =
    let p = err_from_is_err_and c.from_residual.result c.from_residual.ensures.1 in
    rw (p.1, p.2) (unread_so c.in_err-value.field-0.0 _ _ c.args.bytes.now c.args.bytes.now (λ more. scalars_first (c.args.bytes.now ++ more)) c.in_err-value.ensures.refused)

pub returns-then-is_empty-clause-refused : goal.returns-then-is_empty-clause-refused
returns-then-is_empty-clause-refused c = λ more.
    scalars_none (c.args.bytes.now ++ more) (c.in_ok-value.middle.now ++ more) c.in_ok-value.value (begins_more IsStateSet set_bytes c.in_ok-value.value c.args.bytes.now c.in_ok-value.middle.now more c.in_ok-value.ensures.ok) (ap is_no_scalar (sym c.of.ensures) ∙ sym c.is_empty.ensures ∙ c.if-is_empty.true)

pub returns-in_err-usual-clause-refused : goal.returns-in_err-usual-clause-refused
returns-in_err-usual-clause-refused c =
    let p = err_from_is_err_and c.from_residual-in_err-usual.result c.from_residual-in_err-usual.ensures.1 in
    rw (p.1, p.2) (unread_so c.in_err-usual.field-0.0 _ _ c.in_ok-value.middle.now c.args.bytes.now
    (λ more. scalars_second (c.args.bytes.now ++ more) (c.in_ok-value.middle.now ++ more) c.in_ok-value.value (begins_more IsStateSet set_bytes c.in_ok-value.value c.args.bytes.now c.in_ok-value.middle.now more c.in_ok-value.ensures.ok)) c.in_err-usual.ensures.refused)

pub returns-clause-ok : goal.returns-clause-ok
returns-clause-ok c = record {
  item = (c.in_ok-value.value, c.in_ok-usual.usual);
  says = c.in-Ok-of_scalars.ensures;
  fixed_is = refl;
  begins = scalars_found c.args.bytes.now c.in_ok-value.middle.now c.in_ok-usual.rest.now c.in_ok-value.value c.in_ok-usual.usual c.in_ok-value.ensures.ok (ap is_no_scalar (sym c.of.ensures) ∙ sym c.is_empty.ensures ∙ c.if-is_empty.false) c.in_ok-usual.ensures.ok;
}

pub returns-in-Some-after_again-clause-ok : goal.returns-in-Some-after_again-clause-ok
returns-in-Some-after_again-clause-ok c = record {
  item = (c.in_ok-value.value, c.in_ok-value.value);
  says = c.in-Ok-of_all_usual.ensures;
  fixed_is = refl;
  begins = scalars_found c.args.bytes.now c.in_ok-value.middle.now c.in-Some-after_again.rest.now c.in_ok-value.value c.in_ok-value.value c.in_ok-value.ensures.ok (ap is_no_scalar (sym c.of.ensures) ∙ sym c.is_empty.ensures ∙ c.if-is_empty.false) (c.in-Some-after_again.ensures c.in_ok-value.value c.in_ok-value.ensures.ok);
}
