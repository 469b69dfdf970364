use Rattle.std.proofs.Common.{◌∙◌}
use Rattle.clap.specs.Matches.{found_of}
use Rattle.cue_layers_command.proofs.Found.{first_by_rows}
use Rattle.cue_layers_command.proofs.command.text.Goals as goal

pub returns : goal.returns
returns c = c.get_str.ensures ∙ first_by_rows (found_of c.args.found.now) c.args.id.now
