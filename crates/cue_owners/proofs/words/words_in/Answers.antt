use Rattle.std.proofs.Common.{rules, ap, ◌∙◌}
use Rattle.std.specs.Char.{is_ascii_whitespace}
use Rattle.std.specs.Slice.Iter.{split_rest, split_done, split_callee}
use Rattle.std.proofs.lemmas.Iterator.Consumers.{map_from_collect, YieldsList-from_filter}
use Rattle.std.proofs.lemmas.Iterator.Splits.{YieldsList-from_slice_split}
use Rattle.cue_owners.specs.Files.{is_full}
use Rattle.cue_owners.proofs.words.words_in.Goals as goal

pub returns : goal.returns
returns c =
    map_from_collect _ c.collect.ensures.ran
    (YieldsList-from_filter {s = c.filter.result} _ is_full
    (YieldsList-from_slice_split _ is_ascii_whitespace c.args.line.now (ap split_rest c.filter.ensures.source ∙ c.split.ensures.rest) (ap split_done c.filter.ensures.source ∙ c.split.ensures.done) (ap split_callee c.filter.ensures.source ∙ c.split.ensures.closure) (λ x b q k. search rules))
    c.filter.ensures.closure (λ x b q k. search rules))
