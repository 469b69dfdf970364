use Rattle.std.proofs.Common.{◌≡◌, ◌⊎◌, inl, refl, sym, ap, ◌∙◌, subst, Result, Ok, Err, IfOk, is_ok, inr}
use Rattle.std.proofs.lemmas.Bool.{false≢true}
use Rattle.std.proofs.lemmas.Result.{err_from_is_err_and}
use Rattle.cue_lattice.specs.Refusal.{memory, refusal_at}
use Rattle.cue_lattice.specs.declared.refusal.Kind.{Kind}
use Rattle.cue_lattice.specs.declared.refusal.Refusal.{Refusal}
use Rattle.cue_table.specs.Tree.{empty}
use Rattle.cue_table.specs.Valid.{IsValidTable}
use Rattle.cue_table.proofs.MetTables.{met_tables}
use Rattle.cue_codec.specs.Decoding.{IsUndecoded}
use Rattle.cue_replica.specs.Inner.Reads.{ReadsTable}
use Rattle.cue_replica.specs.Language.{Table}
use Rattle.cue_replica.specs.Replica.{AddsRefusals}
use Rattle.cue_replica.specs.States.{IsTableOf, state_refuses, IsStateFault, IsStateRefusedAtOnce}
use Rattle.cue_replica.proofs.Adding.{adds_met}
use Rattle.cue_replica.proofs.Sound.{state_answers, known_version, decoder_refuses, decoder_version, state_not_at_once}
use Rattle.cue_replica.proofs.replica.Replica.take_table.Goals as goal

pub returns-in_ok-meet_with-in-Ok-clause-ok : goal.returns-in_ok-meet_with-in-Ok-clause-ok
returns-in_ok-meet_with-in-Ok-clause-ok c bytes reads held =
    let is : IsTableOf bytes c.in-Ok.taken = subst (ReadsTable bytes) c.in-Ok.is reads in
    let added = state_refuses bytes in
    let answers = state_answers c.in-Ok.taken bytes held is in
    let P : Table → Type 0 = λ old. AddsRefusals old added c.meet_with.new.self in
    subst P c.self.view_is (adds_met c.self.inside.table c.in-Ok.taken c.meet_with.new.self added c.in_ok-meet_with-in-Ok.ensures.ok answers)

pub invariant_of-self-in-Ok : goal.invariant_of-self-in-Ok
invariant_of-self-in-Ok c =
    met_tables c.self.inside.table c.in-Ok.taken c.meet_with.new.self c.in_ok-meet_with-in-Ok.ensures.form c.in_ok-meet_with-in-Ok.ensures.ok
    c.self.invariant (subst (λ r. IfOk r IsValidTable) c.in-Ok.is c.requires)

pub returns-in_ok-meet_with-in-Ok-clause-valid : goal.returns-in_ok-meet_with-in-Ok-clause-valid
returns-in_ok-meet_with-in-Ok-clause-valid c =
    met_tables c.self.inside.table c.in-Ok.taken c.meet_with.new.self c.in_ok-meet_with-in-Ok.ensures.form c.in_ok-meet_with-in-Ok.ensures.ok
    c.self.invariant (subst (λ r. IfOk r IsValidTable) c.in-Ok.is c.requires)

pub returns-in_ok-meet_with-in-Ok-clause-version : goal.returns-in_ok-meet_with-in-Ok-clause-version
returns-in_ok-meet_with-in-Ok-clause-version c bytes reads other =
    let is : IsTableOf bytes c.in-Ok.taken = subst (ReadsTable bytes) c.in-Ok.is reads in
    absurd (known_version c.in-Ok.taken bytes is.spelled other)

pub returns-in_err-meet_with-in-Ok-clause-version : goal.returns-in_err-meet_with-in-Ok-clause-version
returns-in_err-meet_with-in-Ok-clause-version c bytes reads other =
    let is : IsTableOf bytes c.in-Ok.taken = subst (ReadsTable bytes) c.in-Ok.is reads in
    absurd (known_version c.in-Ok.taken bytes is.spelled other)

pub returns-in_err-meet_with-in-Ok-clause-refused : goal.returns-in_err-meet_with-in-Ok-clause-refused
returns-in_err-meet_with-in-Ok-clause-refused c bytes reads =
    let is : IsTableOf bytes c.in-Ok.taken = subst (ReadsTable bytes) c.in-Ok.is reads in
    let p = err_from_is_err_and c.from_residual.result c.from_residual.ensures.1 in
    rw (p.1, p.2) (inl (refl, state_not_at_once bytes (c.in-Ok.taken, is)))

pub returns-in-Err-clause-refused : goal.returns-in-Err-clause-refused
returns-in-Err-clause-refused c bytes reads =
    let is : IsUndecoded bytes c.in-Err.kind = subst (ReadsTable bytes) c.in-Err.is reads in
    subst (λ (why : Refusal). ((why ≡ memory) × ¬ IsStateRefusedAtOnce bytes) ⊎ IsStateFault bytes why) (sym c.at.ensures)
    (decoder_refuses bytes c.in-Err.kind is)

pub returns-in-Err-clause-version : goal.returns-in-Err-clause-version
returns-in-Err-clause-version c bytes reads other =
    let is : IsUndecoded bytes c.in-Err.kind = subst (ReadsTable bytes) c.in-Err.is reads in
    ap (λ (why : Refusal). Err why) (c.at.ensures ∙ ap (λ kind. refusal_at kind 0) (decoder_version bytes c.in-Err.kind is other))

-- the table that was read
abbrev table_in : Result Table Kind → Table
table_in (Ok table) = table
table_in (Err kind) = empty

pub returns-in_err-meet_with-in-Ok-clause-opening : goal.returns-in_err-meet_with-in-Ok-clause-opening
returns-in_err-meet_with-in-Ok-clause-opening c is =
    absurd (false≢true (c.in_err-meet_with-in-Ok.ensures.free (inr (ap table_in (sym c.in-Ok.is ∙ is)))))

pub returns-in-Err-clause-opening : goal.returns-in-Err-clause-opening
returns-in-Err-clause-opening c is = absurd (false≢true (ap is_ok (sym c.in-Err.is ∙ is)))
