use Rattle.std.proofs.Common.{drop, map, nat_eq}
use Rattle.std.specs.Prelude.{codes}
use Rattle.cue_device.proofs.Telling.{IsTelling}
use Rattle.cue_print.specs.Spelled.{join_texts, spell_unequal}
use Rattle.cue_print.proofs.Joined.{left_joined}
use Rattle.cue_print.proofs.term.push_others.Given as goal

abbrev pub invariant-loop-i : goal.invariant-loop-i
invariant-loop-i g l =
    IsTelling (g.S.TextSink.taken l.initial.out) (g.S.TextSink.taken l.out) (left_joined (codes " & ") (nat_eq l.i 0) (map spell_unequal (drop l.i l.texts)))
    (join_texts (codes " & ") (map spell_unequal l.texts))
