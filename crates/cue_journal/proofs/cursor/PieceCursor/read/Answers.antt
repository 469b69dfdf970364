use Rattle.std.proofs.Common.{Some, None, sym, ◌∙◌, arith}
use Rattle.std.specs.Fmt.{decimal}
use Rattle.std.proofs.lemmas.Str.Pattern.{split_parts, split_after}
use Rattle.cue_journal.proofs.Telling.{tells, no_dash_in, has_dash, read_as, not_none, same_cursor}
use Rattle.cue_journal.proofs.cursor.PieceCursor.read.Goals as goal

pub returns-in_err-run-clause-written : goal.returns-in_err-run-clause-written
returns-in_err-run-clause-written c = λ cursor small less is.
    absurd (has_dash c.args.text.now cursor.run cursor.count (split_parts 45 c.args.text.now None c.in_err-run.ensures.cases (omega arith)) is)

pub returns-in_err-run-2-clause-written : goal.returns-in_err-run-2-clause-written
returns-in_err-run-2-clause-written c = λ cursor small less is.
    let parts = split_after 45 c.args.text.now (decimal cursor.run) (decimal cursor.count) (Some (c.in_ok-run.run', c.in_ok-run.count)) c.in_ok-run.ensures.cases (omega arith) is (no_dash_in cursor.run small) in
    absurd (not_none cursor.run (sym (read_as c.in_ok-run.run'.now c.parse.result cursor.run small parts.0 c.parse.ensures.value.0) ∙ sym c.in_err-run-2.ensures.value))

pub returns-in_err-count-clause-written : goal.returns-in_err-count-clause-written
returns-in_err-count-clause-written c = λ cursor small less is.
    let parts = split_after 45 c.args.text.now (decimal cursor.run) (decimal cursor.count) (Some (c.in_ok-run.run', c.in_ok-run.count)) c.in_ok-run.ensures.cases (omega arith) is (no_dash_in cursor.run small) in
    absurd (not_none cursor.count (sym (read_as c.in_ok-run.count.now c.parse-2.result cursor.count less parts.1 c.parse-2.ensures.value.0) ∙ sym c.in_err-count.ensures.value))

pub returns-clause-some : goal.returns-clause-some
returns-clause-some c =
    let parts = split_parts 45 c.args.text.now (Some (c.in_ok-run.run', c.in_ok-run.count)) c.in_ok-run.ensures.cases (omega arith) in (
      c.in_ok-run.run'.now,
      c.in_ok-run.count.now,
      parts.0,
      tells c.in_ok-run.run'.now c.parse.result c.in_ok-run-2.run' c.parse.ensures.value.0 c.in_ok-run-2.ensures.value,
      tells c.in_ok-run.count.now c.parse-2.result c.in_ok-count.count c.parse-2.ensures.value.0 c.in_ok-count.ensures.value,
    )

pub returns-clause-written : goal.returns-clause-written
returns-clause-written c = λ cursor small less is.
    let parts = split_after 45 c.args.text.now (decimal cursor.run) (decimal cursor.count) (Some (c.in_ok-run.run', c.in_ok-run.count)) c.in_ok-run.ensures.cases (omega arith) is (no_dash_in cursor.run small) in
    let run_is = c.in_ok-run-2.ensures.value ∙ read_as c.in_ok-run.run'.now c.parse.result cursor.run small parts.0 c.parse.ensures.value.0 in
    let count_is = c.in_ok-count.ensures.value ∙ read_as c.in_ok-run.count.now c.parse-2.result cursor.count less parts.1 c.parse-2.ensures.value.0 in
    same_cursor c.in_ok-run-2.run' c.in_ok-count.count cursor run_is count_is
