use Rattle.std.proofs.Common.{◌++◌, ap, sym, ◌∙◌, arith}
use Rattle.cue_row.specs.Steps.{step_of}
use Rattle.cue_codec.specs.Entry.{at}
use Rattle.cue_codec.specs.Parts.{step_bytes}
use Rattle.cue_codec.proofs.Numbers.{IsBytes, IsBytes-rest}
use Rattle.cue_codec.proofs.StatePaths.{index_again}
use Rattle.cue_codec.proofs.paths.after_step.Goals as goal

pub returns-else-found-number : goal.returns-else-found-number
returns-else-found-number c = λ version.
    let fits : IsBytes c.args.bytes.now = λ i. omega (arith, c.type_inv.bytes i) in
    index_again version c.args.bytes.now c.in_ok-tag.rest.now c.in_ok-found-in-Index.rest.now c.in_ok-tag.tag.now c.in_ok-found-in-Index.found _ (IsBytes-rest c.in_ok-tag.tag.now c.args.bytes.now c.in_ok-tag.rest.now c.in_ok-tag.ensures.cases.0 fits) c.in_ok-tag.ensures.cases.0 (omega (arith, c.if-tag-ne1.false)) c.in_ok-found-in-Index.ensures (omega (arith, c.if-found-number.false))
    ∙ ap (λ s. step_bytes version (at (step_of s)) ++ c.in_ok-found-in-Index.rest.now) (sym c.in-Index.is)
