use Rattle.std.proofs.Common.{refl, inl, subst}
use Rattle.std.proofs.lemmas.Result.{err_from_is_err_and}
use Rattle.cue_table.proofs.MetTables.{met_tables}
use Rattle.cue_replica.specs.Language.{Table}
use Rattle.cue_replica.specs.Replica.{AddsRefusals}
use Rattle.cue_replica.specs.Texts.{text_refuses}
use Rattle.cue_replica.proofs.Adding.{adds_met}
use Rattle.cue_replica.proofs.Texts.{legal_not_at_once}
use Rattle.cue_replica.proofs.replica.Replica.submit.Goals as goal

pub returns-clause-ok : goal.returns-clause-ok
returns-clause-ok c =
    let added = text_refuses c.args.text.now in
    let P : Table → Type 0 = λ old. AddsRefusals old added c.meet_with.new.self in
    subst P c.self.view_is (adds_met c.self.inside.table c.in_ok-table.table c.meet_with.new.self added c.in_ok-meet_with.ensures.ok c.in_ok-table.ensures.answers)

pub invariant_of-self-2 : goal.invariant_of-self-2
invariant_of-self-2 c =
    met_tables c.self.inside.table c.in_ok-table.table c.meet_with.new.self c.in_ok-meet_with.ensures.form c.in_ok-meet_with.ensures.ok
    c.self.invariant c.in_ok-table.ensures.valid

pub returns-clause-valid : goal.returns-clause-valid
returns-clause-valid c =
    met_tables c.self.inside.table c.in_ok-table.table c.meet_with.new.self c.in_ok-meet_with.ensures.form c.in_ok-meet_with.ensures.ok
    c.self.invariant c.in_ok-table.ensures.valid

pub returns-in_err-meet_with-clause-refused : goal.returns-in_err-meet_with-clause-refused
returns-in_err-meet_with-clause-refused c =
    let p = err_from_is_err_and c.from_residual-in_err-meet_with.result c.from_residual-in_err-meet_with.ensures.1 in
    rw (p.1, p.2) (inl (refl, legal_not_at_once c.args.text.now c.in_ok-table.ensures.legal))
