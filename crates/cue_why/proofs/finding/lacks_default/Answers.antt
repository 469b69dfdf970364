use Rattle.std.proofs.Common.{◌≡◌, sym, ap, ◌∙◌}
use Rattle.cue_report.specs.Inner.Search.{is_empty_set}
use Rattle.cue_why.proofs.RowFacts.{default_is}
use Rattle.cue_why.proofs.finding.lacks_default.Goals as goal

pub returns : goal.returns
returns c =
    let row = c.args.row.now in
    let e : c.is_empty.result ≡ is_empty_set row.usual = c.is_empty.ensures ∙ ap is_empty_set c.usual.ensures in
    let is = default_is row c.requires in
    (λ t. is.0 (sym e ∙ t), λ h. e ∙ is.1 h)
