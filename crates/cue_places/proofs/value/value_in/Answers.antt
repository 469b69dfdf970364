use Rattle.std.proofs.Common.{◌++◌, ap, ◌∙◌}
use Rattle.cue_print.specs.Spelled.{mark_text}
use Rattle.cue_row.specs.Quoted.{quote_text}
use Rattle.cue_places.specs.Inner.Fields.{name}
use Rattle.cue_places.proofs.Values.{front_optional, front_required, front_given}
use Rattle.cue_places.proofs.value.value_in.Goals as goal

pub returns-in-Optional : goal.returns-in-Optional
returns-in-Optional c = λ value e. c.text_behind.ensures value (e ∙ ap (λ f. f ++ value) (ap (λ l. quote_text name ++ mark_text l) c.in-Optional.is ∙ front_optional))

pub returns-in-Required : goal.returns-in-Required
returns-in-Required c = λ value e. c.text_behind-in-Required.ensures value (e ∙ ap (λ f. f ++ value) (ap (λ l. quote_text name ++ mark_text l) c.in-Required.is ∙ front_required))

pub returns-in-Given : goal.returns-in-Given
returns-in-Given c = λ value e. c.text_behind-in-Given.ensures value (e ∙ ap (λ f. f ++ value) (ap (λ l. quote_text name ++ mark_text l) c.in-Given.is ∙ front_given))
