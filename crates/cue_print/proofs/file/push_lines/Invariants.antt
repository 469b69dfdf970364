use Rattle.std.specs.List.{flat_map}
use Rattle.cue_table.specs.Tree.{below}
use Rattle.cue_print.specs.Printed.{fields_below}
use Rattle.cue_print.specs.Spelled.{line, field_texts}
use Rattle.cue_print.proofs.Fields.{fields_of}
use Rattle.cue_print.proofs.Walk.{IsWriting}
use Rattle.cue_print.proofs.file.push_lines.Given as goal

abbrev pub invariant-loop-label : goal.invariant-loop-label
invariant-loop-label g l =
    IsWriting l.branch l.label-iterator (g.S.TextSink.taken l.initial.out) (g.S.TextSink.taken l.out) (flat_map line (field_texts (fields_of l.label-iterator)))
    (flat_map line (field_texts (fields_below (below l.branch))))
