use Rattle.std.proofs.Common.{refl}
use Rattle.cue_report.proofs.Descent.{Told}
use Rattle.cue_report.proofs.Exact.{export_shape}
use Rattle.cue_report.proofs.Exported.{conflicts_told, conflicts_begun, no_conflicts, gaps_told, gaps_begun, no_gaps, json_told, json_begun}
use Rattle.cue_report.proofs.Writing.{on_any}
use Rattle.serde_json.specs.Written.{compact_text}
use Rattle.cue_report.proofs.exporting.write_export.Goals as goal

pub returns-in_err-conflicting-clause-begun : goal.returns-in_err-conflicting-clause-begun
returns-in_err-conflicting-clause-begun g c = on_any _ (conflicts_begun (Told c.args.table.now) _ _ c.in_err-conflicting.ensures.begun)

pub returns-then-conflicting-clause-export : goal.returns-then-conflicting-clause-export
returns-then-conflicting-clause-export g c = conflicts_told (Told c.args.table.now) c.in_ok-conflicting.conflicting _ _ c.if-conflicting.true c.in_ok-conflicting.ensures.lines

pub returns-in_err-lacking-clause-begun : goal.returns-in_err-lacking-clause-begun
returns-in_err-lacking-clause-begun g c =
    let clean = no_conflicts (Told c.args.table.now) c.in_ok-conflicting.conflicting _ _ c.if-conflicting.false c.in_ok-conflicting.ensures.lines in
    on_any _ (gaps_begun (Told c.args.table.now) _ _ _ clean c.in_err-lacking.ensures.begun)

pub returns-then-lacking-clause-export : goal.returns-then-lacking-clause-export
returns-then-lacking-clause-export g c =
    let clean = no_conflicts (Told c.args.table.now) c.in_ok-conflicting.conflicting _ _ c.if-conflicting.false c.in_ok-conflicting.ensures.lines in
    gaps_told (Told c.args.table.now) c.in_ok-lacking.lacking _ _ _ clean c.if-lacking.true c.in_ok-lacking.ensures.lines

pub returns-in_err-write_table_document-clause-begun : goal.returns-in_err-write_table_document-clause-begun
returns-in_err-write_table_document-clause-begun g c =
    let clean = no_conflicts (Told c.args.table.now) c.in_ok-conflicting.conflicting _ _ c.if-conflicting.false c.in_ok-conflicting.ensures.lines in
    let full = no_gaps (Told c.args.table.now) c.in_ok-lacking.lacking _ _ _ clean c.if-lacking.false c.in_ok-lacking.ensures.lines in
    on_any _ (json_begun (Told c.args.table.now) _ _ _ full c.in_err-write_table_document.ensures.begun)

pub returns-clause-export : goal.returns-clause-export
returns-clause-export g c =
    let clean = no_conflicts (Told c.args.table.now) c.in_ok-conflicting.conflicting _ _ c.if-conflicting.false c.in_ok-conflicting.ensures.lines in
    let full = no_gaps (Told c.args.table.now) c.in_ok-lacking.lacking _ _ _ clean c.if-lacking.false c.in_ok-lacking.ensures.lines in
    let told = c.in_ok-write_table_document.ensures.told in
    let shape = export_shape c.args.table.now c.args.table.now _ _ told.0 refl full.none refl full.full refl told.2.0 in
    json_told (Told c.args.table.now) _ _ _ (compact_text told.0) full (shape.0, shape.1, (told.0, shape.2, refl)) told.1
