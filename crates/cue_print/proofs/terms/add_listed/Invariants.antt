use Rattle.std.proofs.Common.{◌≡◌, ◌++◌, map, take}
use Rattle.cue_print.specs.Expressions.{text}
use Rattle.cue_print.specs.Inner.TermOf.{term_of}
use Rattle.cue_print.proofs.terms.add_listed.Given as goal

abbrev pub invariant-loop-text : goal.invariant-loop-text
invariant-loop-text l = map term_of l.terms.items ≡ map term_of l.initial.terms.items ++ map text (take l.text-index l.texts)
