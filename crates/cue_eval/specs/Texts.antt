-- What a text refuses.
use Rattle.cue_lattice.specs.Question.{Refusals}
use Rattle.cue_syntax.specs.Syntax.{Entries}
use Rattle.cue_scope.specs.Meaning.{meant_text}
use Rattle.cue_eval.specs.Refuses.{Refuses}

-- what the struct of its regular declarations refuses
abbrev pub meaning_refuses : Entries → Refusals
meaning_refuses es = Refuses (meant_text es)
