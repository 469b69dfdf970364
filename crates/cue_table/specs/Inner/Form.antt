-- Beside `specs/Form.antt`: what private clauses and proofs alone cite.
use Rattle.cue_table.specs.Tree.{Children, none, child}
use Rattle.cue_table.specs.Form.{IsStepBelowAll}

-- the steps rise
abbrev pub StepsRise : {R : Type 0} → Children R → Type 0
StepsRise none = Unit {0}
StepsRise (child step tree children) = IsStepBelowAll step children × StepsRise children
