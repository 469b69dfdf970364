use Rattle.std.proofs.Common.{nat_eq}
use Rattle.std.specs.Prelude.{codes}
use Rattle.cue_device.proofs.Telling.{IsTelling}
use Rattle.cue_print.specs.Expressions.{top}
use Rattle.cue_print.specs.Printed.{elements}
use Rattle.cue_print.specs.Spelled.{join_texts, element_texts}
use Rattle.cue_print.proofs.Joined.{left_joined}
use Rattle.cue_print.proofs.ListTexts.{elements_left}
use Rattle.cue_print.proofs.free.push_free_elements.Given as goal

abbrev pub invariant-loop-number : goal.invariant-loop-number
invariant-loop-number g l =
    IsTelling (g.S.TextSink.taken l.initial.out) (g.S.TextSink.taken l.out) (left_joined (codes ", ") (nat_eq l.number 0) (elements_left l.number l.count (λ n. top)))
    (join_texts (codes ", ") (element_texts (elements l.count (λ n. top))))
