-- The steps and spans of the branches of a table.
use Rattle.cue_lattice.specs.Path as paths
use Rattle.cue_table.specs.Spans as spans
use Rattle.cue_table.specs.declared.step_ref.StepRef.{StepRef}
use Rattle.cue_table.specs.declared.step_ref.StepRef.TheVariants as refs
use Rattle.cue_table.specs.declared.step_ref.Span.{Span}
use Rattle.cue_table.specs.declared.step_ref.Span.TheVariants as code

-- the step that a step of the program stands for
abbrev pub step_at : StepRef → paths.Step
step_at (refs.Label text) = paths.label text.now
step_at (refs.Index number) = paths.index number

-- the branches that a span of the program stands for
abbrev pub span_of : Span → spans.Span
span_of (code.Label text) = spans.field text.now
span_of (code.Elements first more) = spans.elements first more
