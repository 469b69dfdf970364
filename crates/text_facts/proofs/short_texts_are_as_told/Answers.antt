use Rattle.std.proofs.Common.{refl}
use Rattle.text_facts.proofs.OnLiterals.{lexed}
use Rattle.text_facts.proofs.short_texts_are_as_told.Goals as goal

pub returns-clause-bad_number : goal.returns-clause-bad_number
unfolding lexed
returns-clause-bad_number c = refl

pub returns-clause-hexadecimal : goal.returns-clause-hexadecimal
unfolding lexed
returns-clause-hexadecimal c = refl
