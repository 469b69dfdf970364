use Rattle.std.proofs.Common.{length, sym, subst, ap, ◌∙◌, ⊎_elim, arith}
use Rattle.std.proofs.lemmas.List.{length-map}
use Rattle.cue_row.specs.Steps.{step_of}
use Rattle.cue_table.specs.Refuses.{TableRefuses}
use Rattle.cue_table.proofs.ByHalves.{free}
use Rattle.cue_table.proofs.Depth.{refusals_depth}
use Rattle.language_tests.proofs.tables.many.shallow.Goals.{then-steps-lt-STEP_LIMIT+in_ok-add, else-steps-lt-STEP_LIMIT}
use Rattle.language_tests.proofs.tables.many.shallow.Goals as goal

pub loop-entry-init : goal.loop-entry-init
loop-entry-init g c = record {
  form = rw c.new-made.ensures (tt, tt, tt);
  short = λ path question r. absurd (free g.R.Narrow.refuses path question (subst (λ t. TableRefuses g.R.Narrow.refuses t path question) c.new-made.ensures r));
}

pub loop-entry-preserved : goal.loop-entry-preserved
loop-entry-preserved g c = elim c.if-steps-lt-STEP_LIMIT.branch [
  | then-steps-lt-STEP_LIMIT+in_ok-add w ↦ record {
    form = rw w.made-is w.in_ok-add.ensures.form;
    short = λ path question r. ⊎_elim
        (λ old. c.loop-entry.invariant.short path question old)
        (λ new.
        let long = ap length (new.0 ∙ sym c.steps.ensures.list) ∙ length-map c.steps.result.now step_of in
        let few = w.if-steps-lt-STEP_LIMIT.true in
        omega arith)
        ((w.in_ok-add.ensures.ok path question).0 (rw w.made-is at r));
  }
  | else-steps-lt-STEP_LIMIT w ↦ rw w.made-is c.loop-entry.invariant
]

pub returns : goal.returns
returns g c =
    let short = c.loop-entry.invariant.short in
    let few = refusals_depth g.R.Narrow.refuses g.R.Narrow.is_value c.loop-entry.made 63 c.loop-entry.invariant.form (λ path question r. let near = short path question r in omega arith) in
    omega arith
