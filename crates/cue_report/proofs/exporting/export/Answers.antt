use Rattle.std.proofs.Common.{refl, sym, ◌∙◌, arith}
use Rattle.std.proofs.lemmas.List.{nil_from_length}
use Rattle.cue_report.proofs.Exact.{none_meets, some_meets, some_items, tells_export, export_shape}
use Rattle.cue_report.proofs.exporting.export.Goals as goal

pub returns-then-not-is_empty-clause-exact : goal.returns-then-not-is_empty-clause-exact
returns-then-not-is_empty-clause-exact c =
    none_meets c.args.table.now c.in_ok-found.found.items c.in_ok-found.ensures.conflicts
    (some_items c.in_ok-found.found.items c.in_ok-found.found.len c.in_ok-found.found.ok.0 (sym c.if-not-is_empty.true ∙ c.is_empty.ensures))

pub returns-then-not-is_empty-2-clause-exact : goal.returns-then-not-is_empty-2-clause-exact
returns-then-not-is_empty-2-clause-exact c =
    some_meets c.args.table.now c.in_ok-found.found.items c.in_ok-found.ensures.conflicts
    (nil_from_length c.in_ok-found.found.items (grind (arith, c.is_empty.ensures, c.if-not-is_empty.false, c.in_ok-found.found.ok.0)))

pub returns-clause-export : goal.returns-clause-export
returns-clause-export c =
    let told = c.in_ok-text.ensures in
    let shape = export_shape c.args.table.now c.args.table.now c.in_ok-found.found.items c.in_ok-gaps.gaps.items told.0 refl
    c.in_ok-found.ensures.conflicts (nil_from_length c.in_ok-found.found.items (grind (arith, c.is_empty.ensures, c.if-not-is_empty.false, c.in_ok-found.found.ok.0)))
    c.in_ok-gaps.ensures (nil_from_length c.in_ok-gaps.gaps.items (grind (arith, c.is_empty-2.ensures, c.if-not-is_empty-2.false, c.in_ok-gaps.gaps.ok.0))) told.2.0 in
    (shape.0, shape.1, (told.0, shape.2, told.1))

pub returns-clause-exact : goal.returns-clause-exact
returns-clause-exact c valid =
    let told = returns-clause-export c in
    (told.2.0, tells_export c.args.table.now told.2.0 valid told.0 told.2.1, told.2.2)
