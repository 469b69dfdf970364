use Rattle.std.proofs.lemmas.Bool.{false≢true}
use Rattle.cue_why.proofs.Along.{ends_label, ends_index}
use Rattle.cue_why.proofs.part.ends_in_pattern.Goals as goal

pub returns-in-Label : goal.returns-in-Label
returns-in-Label c =
    let is = ends_label c.args.kind c.args.path.now c.in-Some._front.now c.in-Some.step.now c.in-Label.label c.as_str.result.now c.in-Some.ensures.cases.0 c.in-Label.is c.as_str.ensures in
    (λ t. is.1 (c.is_pattern_of.ensures.0 t), λ h. c.is_pattern_of.ensures.1 (is.0 h))

pub returns-in-Index : goal.returns-in-Index
returns-in-Index c = (
  λ t. absurd (false≢true t),
  λ h. absurd (ends_index c.args.kind c.args.path.now c.in-Some._front.now c.in-Some.step.now c.in-Index.field-0 c.in-Some.ensures.cases.0 c.in-Index.is h),
)
