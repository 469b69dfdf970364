use Rattle.std.proofs.Common.{ap, refl, ◌∙◌}
use Rattle.std.specs.List.{prefix_len}
use Rattle.cue_lex.specs.Integers.{is_literal_byte}
use Rattle.cue_lex.proofs.Bodies.{behind_first}
use Rattle.cue_lex.proofs.Fronts.{literal_ends_more}
use Rattle.cue_lex.proofs.integer.literal_len.Goals as goal

pub returns-clause-ends : goal.returns-clause-ends
returns-clause-ends c =
    literal_ends_more c.args.bytes.now c.more_len.result c.requires.nonempty c.requires.at_least c.requires.at_most
    (c.more_len.ensures.value ∙ ap (prefix_len is_literal_byte) (behind_first c.args.bytes.now c.args.bytes.now refl))
