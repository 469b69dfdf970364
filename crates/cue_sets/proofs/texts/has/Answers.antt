use Rattle.std.proofs.Common.{rules, ◌∙◌}
use Rattle.std.proofs.lemmas.Fn.{always_returns_same}
use Rattle.cue_sets.specs.Texts.{text_cmp}
use Rattle.cue_sets.proofs.TextSearch.{is_listed-searched}
use Rattle.cue_sets.proofs.texts.has.Goals as goal

pub returns : goal.returns
returns c =
    c.is_ok.ensures.value ∙
    is_listed-searched c.args.texts.now c.args.text.now c.binary_search_by.result c.requires c.binary_search_by.ensures.bound
    (c.binary_search_by.ensures.position (λ listed. text_cmp listed c.args.text.now) (always_returns_same _ _ _ (λ a r f k. search rules)))
