use Rattle.std.proofs.Common.{◌≡◌, rules, tests, sym, arith}
use Rattle.std.specs.List.{list_all}
use Rattle.std.proofs.lemmas.Iterator.{YieldsList-from_slice}
use Rattle.std.proofs.lemmas.Iterator.Search.{all_from_yields_List}
use Rattle.cue_row.specs.PathText.{is_word_byte}
use Rattle.cue_row.proofs.Texts.{bare_by_bytes}
use Rattle.cue_row.proofs.spelling.is_bare.Goals as goal

pub returns-then-not-is_ascii_digit : goal.returns-then-not-is_ascii_digit
returns-then-not-is_ascii_digit c =
    let each : c.all.result ≡ list_all is_word_byte c.args.label.now = all_from_yields_List is_word_byte _ _ c.all.result c.all.ensures.ran (YieldsList-from_slice c.args.label.now cc) (λ x b q k. search (rules, tests)) in
    bare_by_bytes c.args.label.now c.all.result (omega arith) (sym c.if-not-is_ascii_digit.ensures.value) each
