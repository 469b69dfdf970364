use Rattle.std.proofs.Common.{[], ◌++◌, sym, ap, ◌∙◌}
use Rattle.cue_codec.specs.RowBytes.{row_bytes_from}
use Rattle.cue_codec.specs.Version.{written_version}
use Rattle.cue_codec.proofs.WalkBytes.{on_ok, place_written, place_longer}
use Rattle.cue_codec.proofs.branches.put_place.Goals as goal

pub returns-in-Some-clause-rows : goal.returns-in-Some-clause-rows
returns-in-Some-clause-rows c =
    let row = c.in-Some.row.now in
    on_ok c.put_own_row.result (λ e. place_written c.args.depth c.args.steps.now c.args.branch.now row c.args.out.now.items c.put_own_row.new.out.items (sym c.in-Some.ensures.row)
    (e ∙ ap (λ n. c.args.out.now.items ++ row_bytes_from written_version c.args.depth c.args.steps.now (record { path = []; fixed = n; row = row })) c.fixed.ensures.fixed)) c.put_own_row.ensures.written

pub returns-in-Some-clause-longer : goal.returns-in-Some-clause-longer
returns-in-Some-clause-longer c = on_ok c.put_own_row.result (λ e. place_longer c.args.depth c.args.steps.now _ c.args.out.now.items c.put_own_row.new.out.items e) c.put_own_row.ensures.written
