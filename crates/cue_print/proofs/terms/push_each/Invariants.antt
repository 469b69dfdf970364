use Rattle.std.proofs.Common.{drop, map, nat_eq}
use Rattle.std.specs.Prelude.{codes}
use Rattle.cue_device.proofs.Telling.{IsTelling}
use Rattle.cue_print.specs.Spelled.{join_texts, term_text}
use Rattle.cue_print.specs.Inner.TermOf.{term_of}
use Rattle.cue_print.proofs.Joined.{left_joined}
use Rattle.cue_print.proofs.terms.push_each.Given as goal

abbrev pub invariant-loop-i : goal.invariant-loop-i
invariant-loop-i g l =
    IsTelling (g.S.TextSink.taken l.initial.out) (g.S.TextSink.taken l.out) (left_joined (codes " | ") (nat_eq l.i 0) (map term_text (map term_of (drop l.i l.terms))))
    (join_texts (codes " | ") (map term_text (map term_of l.terms)))
