use Rattle.std.proofs.Common.{sym, ◌∙◌}
use Rattle.std.proofs.lemmas.Bool.{false≢true}
use Rattle.cue_report.proofs.exporting.is_free.Goals as goal

pub returns-then-not-struct_ok : goal.returns-then-not-struct_ok
returns-then-not-struct_ok c = (λ h. absurd (false≢true h), λ free. absurd (free.1 (sym c.struct_ok.ensures ∙ c.if-not-struct_ok.true)))

pub returns-then-not-list_ok : goal.returns-then-not-list_ok
returns-then-not-list_ok c = (λ h. absurd (false≢true h), λ free. absurd (free.2 (sym c.list_ok.ensures ∙ c.if-not-list_ok.true)))

pub returns : goal.returns
returns c = (
  λ h. (
    c.has_all_scalars.ensures.0 h,
    λ r. false≢true (sym r ∙ (sym c.struct_ok.ensures ∙ c.if-not-struct_ok.false)),
    λ r. false≢true (sym r ∙ (sym c.list_ok.ensures ∙ c.if-not-list_ok.false)),
  ),
  λ free. c.has_all_scalars.ensures.1 free.0,
)
