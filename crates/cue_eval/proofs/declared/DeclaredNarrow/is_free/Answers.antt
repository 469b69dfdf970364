use Rattle.cue_eval.specs.declared.declared.DeclaredQuestion.TheVariants.{Stands, Declares}
use Rattle.cue_eval.specs.Inner.TellingLaws.{free_declares_nothing, none_stands}
use Rattle.cue_eval.proofs.declared.DeclaredNarrow.is_free.Goals as goal

pub returns-then-not-self : goal.returns-then-not-self
returns-then-not-self c = (
  λ yes. free_declares_nothing c.args.self.now c.if-not-self.true (c.is_free.ensures.0 yes),
  λ free. c.is_free.ensures.1 (λ l. free (Declares l)),
)

pub returns-else-not-self : goal.returns-else-not-self
returns-else-not-self c = (
  λ yes. let no : ⊥ = cc in absurd no,
  λ free. none_stands c.args.self.now.stands (free Stands),
)
