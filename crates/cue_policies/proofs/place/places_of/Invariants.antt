use Rattle.std.proofs.Common.{Bool}
use Rattle.cue_lattice.specs.OneOf.{OneOf}
use Rattle.cue_lattice.specs.Path.{Path}
use Rattle.cue_lattice.specs.Question.{Question}
use Rattle.cue_row.specs.Row.{RefusesAsked, IsRow}
use Rattle.cue_table.specs.Form.{IsTable}
use Rattle.cue_policies.specs.Inner.Answers.{PolicyTreeRefusals}
use Rattle.cue_policies.specs.Inner.Parts.{AreLimited, IsFit, PlaceRefuses}
use Rattle.cue_policies.proofs.Gains.{Gains}
use Rattle.cue_policies.proofs.place.places_of.Given as goal

-- what the table refuses, and what the parts that are left do, is all
abbrev pub invariant-loop-part : goal.invariant-loop-part
invariant-loop-part l = record {
  form : IsTable RefusesAsked IsRow l.table;
  gains : (path : Path) (question : Question)
      → Gains (PolicyTreeRefusals l.table path question) (λ part. PlaceRefuses part path question) l.parts l.part-index (OneOf (λ part. PlaceRefuses part path question) l.parts);
  fit : (top : Bool) → AreLimited top l.parts → IsFit top l.table;
}
