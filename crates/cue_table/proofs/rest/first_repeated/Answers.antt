use Rattle.std.proofs.Common.{refl, arith}
use Rattle.cue_table.specs.Form.{IsRowKept}
use Rattle.cue_table.proofs.Settling.{last_repeats}
use Rattle.cue_table.proofs.rest.first_repeated.Goals.{else-from-via-then-from+else-same, else-from-via-else-from}
use Rattle.cue_table.proofs.rest.first_repeated.Goals as goal

pub returns-then-same-clause-some : goal.returns-then-same-clause-some
returns-then-same-clause-some g c = record {
  others = c.in_ok-last.field-0-1.now;
  last = c.in_ok-last.last.now;
  is = c.in_ok-last.ensures.cases.0;
  begins = refl;
  ends = omega (arith, c.if-from.true, c.from.ensures, c.last.ensures);
  repeats = c.if-same.ensures.0 refl;
}

pub returns-else-from-clause-none : goal.returns-else-from-clause-none
returns-else-from-clause-none g c = λ k.
    let both =
    last_repeats c.args.runs.now c.in_ok-last.field-0-1.now c.in_ok-last.last.now c.args.from c.args.rest.now (IsRowKept g.R.Narrow.refuses g.R.Narrow.is_value)
    c.in_ok-last.ensures.cases.0 c.requires k in
    elim c.else-from.branch [
      | else-from-via-then-from+else-same w ↦ let yes = w.same.ensures.1 both.1 in let no = w.if-same.false in cc
      | else-from-via-else-from w ↦ w.if-from.false (omega (arith, c.from.ensures, c.last.ensures, both.0))
    ]
