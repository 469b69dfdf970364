use Rattle.std.proofs.Common.{sym, ◌∙◌, arith}
use Rattle.std.proofs.lemmas.List.{nil_from_length}
use Rattle.serde_json.specs.View.{view}
use Rattle.cue_report.proofs.Exact.{none_meets, some_items, tells_document}
use Rattle.cue_report.proofs.exporting.document.Goals as goal

pub returns-then-not-is_empty-clause-none : goal.returns-then-not-is_empty-clause-none
returns-then-not-is_empty-clause-none c =
    none_meets c.args.table.now c.in_ok-clashes.clashes.items c.in_ok-clashes.ensures.conflicts
    (some_items c.in_ok-clashes.clashes.items c.in_ok-clashes.clashes.len c.in_ok-clashes.clashes.ok.0 (sym c.if-not-is_empty.true ∙ c.is_empty.ensures))

pub returns-clause-some : goal.returns-clause-some
returns-clause-some c =
    tells_document c.root.result c.args.table.now c.in_ok-clashes.clashes.items (view c.in_ok-document.document) c.root.ensures.branch c.in_ok-clashes.ensures.conflicts
    (nil_from_length c.in_ok-clashes.clashes.items (grind (arith, c.is_empty.ensures, c.if-not-is_empty.false, c.in_ok-clashes.clashes.ok.0))) c.in_ok-document.ensures.document
