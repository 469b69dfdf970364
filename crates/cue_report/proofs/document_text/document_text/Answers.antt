use Rattle.std.proofs.Common.{◌++◌, ap, ◌∙◌}
use Rattle.serde_json.specs.Written.{compact_text}
use Rattle.cue_report.proofs.document_text.document_text.Goals as goal

pub returns : goal.returns
returns c =
    let told = c.in_ok-write_table_document.ensures.told in
    (told.0, told.1 ∙ ap (λ front. front ++ compact_text told.0) c.new-text.ensures.bytes, told.2)
