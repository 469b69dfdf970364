use Rattle.std.proofs.Common.{◌≡◌, false, sym, ◌∙◌}
use Rattle.std.proofs.lemmas.Bool.{false≢true}
use Rattle.cue_why.proofs.RowFacts.{values_within, values_all}
use Rattle.cue_why.proofs.finding.refuses_values.Goals as goal

pub returns-then-list_ok : goal.returns-then-list_ok
returns-then-list_ok c =
    let within = values_within c.args.row.now c.requires (λ e. false≢true (sym c.if-lacks_length.false ∙ c.lacks_length.ensures ∙ e)) in
    (λ t. absurd (false≢true t), λ h. absurd (false≢true (sym (within h).0 ∙ sym c.list_ok.ensures ∙ c.if-list_ok.true)))

pub returns-then-struct_ok : goal.returns-then-struct_ok
returns-then-struct_ok c =
    let within = values_within c.args.row.now c.requires (λ e. false≢true (sym c.if-lacks_length.false ∙ c.lacks_length.ensures ∙ e)) in
    (λ t. absurd (false≢true t), λ h. absurd (false≢true (sym (within h).1 ∙ sym c.struct_ok.ensures ∙ c.if-struct_ok.true)))

pub returns : goal.returns
returns c =
    let row = c.args.row.now in
    let within = values_within row c.requires (λ e. false≢true (sym c.if-lacks_length.false ∙ c.lacks_length.ensures ∙ e)) in
    let l : row.list_ok ≡ false = sym c.list_ok.ensures ∙ c.if-list_ok.false in
    let s : row.struct_ok ≡ false = sym c.struct_ok.ensures ∙ c.if-struct_ok.false in
    (λ t. values_all row l s (c.has_no_scalar.ensures.0 t), λ h. c.has_no_scalar.ensures.1 (within h).2)
