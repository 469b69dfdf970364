use Rattle.std.proofs.Common.{ap, ◌∙◌}
use Rattle.cue_journal.specs.Frames.{scan, file_entries}
use Rattle.cue_journal.proofs.Found.{in_file}
use Rattle.cue_journal.proofs.inspection.inspect_bytes.Goals as goal

pub returns-clause-entries : goal.returns-clause-entries
unfolding file_entries
returns-clause-entries c = c.in_ok-entries.ensures.entries ∙ ap (λ l. (scan l).0) c.frames_in.ensures

pub returns-clause-behind : goal.returns-clause-behind
returns-clause-behind c = in_file c.args.bytes.now c.frames_in.result.now c.in_ok-entries.rest.now _ c.frames_in.ensures c.in_ok-entries.ensures.rest c.in_ok-behind.ensures.each
