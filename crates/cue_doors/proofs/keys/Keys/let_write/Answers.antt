use Rattle.std.proofs.Common.{◌↔◌, ℕ, List, Option, IsTrue, subst, sym, ◌∙◌}
use Rattle.cue_owners.specs.declared.owners.Owners.{Owners}
use Rattle.cue_owners.specs.Access.{MayWriteTo}
use Rattle.cue_doors.specs.Tokens.{LetsWrite, credentials_of, target_of}
use Rattle.cue_doors.proofs.keys.Keys.let_write.Goals as goal

pub returns-in_ok-target-in-Some : goal.returns-in_ok-target-in-Some
returns-in_ok-target-in-Some c =
    let request = c.args.request.now in
    let may = c.lets_write.result in
    let by_target : IsTrue may ↔ MayWriteTo c.in-Some.writers c.credentials_in.result.now (target_of request) =
    subst (λ (t : List ℕ). IsTrue may ↔ MayWriteTo c.in-Some.writers c.credentials_in.result.now t)
    (c.deref.ensures.value ∙ c.in_ok-target-in-Some.ensures) c.lets_write.ensures in
    let by_field : IsTrue may ↔ MayWriteTo c.in-Some.writers (credentials_of request) (target_of request) =
    subst (λ (f : List ℕ). IsTrue may ↔ MayWriteTo c.in-Some.writers f (target_of request)) c.credentials_in.ensures by_target in
    subst (λ (o : Option Owners). IsTrue may ↔ LetsWrite o (credentials_of request) (target_of request)) (sym c.in-Some.is) by_field
