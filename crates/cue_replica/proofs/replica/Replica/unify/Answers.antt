use Rattle.std.proofs.Common.{◌≡◌, ◌⊎◌, ◌∙◌, inl, inr, ⊎_elim, sym, subst}
use Rattle.std.proofs.lemmas.Bool.{false≢true}
use Rattle.cue_table.proofs.MetTables.{met_tables}
use Rattle.cue_replica.specs.Language.{Table, language}
use Rattle.cue_replica.specs.Replica.{AddsRefusals}
use Rattle.cue_replica.proofs.Adding.{adds_met}
use Rattle.cue_replica.proofs.replica.Replica.unify.Goals as goal

pub returns-clause-ok : goal.returns-clause-ok
returns-clause-ok c =
    let P : Table → Type 0 = λ old. AddsRefusals old (language.table_refuses c.args.other) c.meet_with.new.self in
    let Q : Table → Type 0 = λ other. AddsRefusals c.self.inside.table (language.table_refuses other) c.meet_with.new.self in
    subst P c.self.view_is (subst Q c.other.view_is (adds_met c.self.inside.table c.other.inside.table c.meet_with.new.self (language.table_refuses c.other.inside.table) c.in_ok-meet_with.ensures.ok
    (λ path question. (λ h. h, λ h. h))))

pub invariant_of-self-2 : goal.invariant_of-self-2
invariant_of-self-2 c =
    met_tables c.self.inside.table c.other.inside.table c.meet_with.new.self c.in_ok-meet_with.ensures.form c.in_ok-meet_with.ensures.ok
    c.self.invariant c.other.invariant

pub returns-clause-valid : goal.returns-clause-valid
returns-clause-valid c =
    met_tables c.self.inside.table c.other.inside.table c.meet_with.new.self c.in_ok-meet_with.ensures.form c.in_ok-meet_with.ensures.ok
    c.self.invariant c.other.invariant

pub returns-in_err-meet_with-clause-opening : goal.returns-in_err-meet_with-clause-opening
returns-in_err-meet_with-clause-opening c none =
    absurd (false≢true (c.in_err-meet_with.ensures.free (⊎_elim (λ mine. inl (c.self.view_is ∙ mine)) (λ theirs. inr (c.other.view_is ∙ theirs)) none)))
