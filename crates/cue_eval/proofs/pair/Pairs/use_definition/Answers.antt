use Rattle.std.proofs.Common.{ap, ◌∙◌}
use Rattle.std.specs.Option.{option_map_or}
use Rattle.cue_scope.specs.Core.{bottom}
use Rattle.cue_scope.specs.Meaning.{meaning_of_number}
use Rattle.cue_eval.specs.Inner.Known.{definitions_of}
use Rattle.cue_eval.specs.Pairs.{pair}
use Rattle.cue_eval.proofs.pair.Pairs.use_definition.Goals as goal

pub returns-in-None : goal.returns-in-None
returns-in-None c = c.bottom_value.ensures ∙ ap (λ n. pair (option_map_or (meaning_of_number (definitions_of c.args.self.now)) n bottom)) c.in-None.ensures
