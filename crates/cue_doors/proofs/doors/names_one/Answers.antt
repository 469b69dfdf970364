use Rattle.std.proofs.Common.{List, ℕ, String, Global, string_bytes, All, refl, subst, sym, ◌∙◌, arith}
use Rattle.std.proofs.lemmas.Bool.{false≢true}
use Rattle.std.proofs.lemmas.List.{take_all}
use Rattle.std.proofs.lemmas.List.Elements.{All-more}
use Rattle.cue_doors.specs.Hosts.{Names}
use Rattle.cue_doors.proofs.Hosts.{none_of_all}
use Rattle.cue_doors.proofs.doors.names_one.Goals as goal

pub returns-then-names : goal.returns-then-names
returns-then-names c =
    let host = c.host-item.result in
    let named : Names (string_bytes host) c.args.field.now = subst (λ (t : List ℕ). Names t c.args.field.now) c.as_str.ensures.value (c.names.ensures.0 c.if-names.true) in
    (λ _. (c.loop-host.host-index, host, omega (arith, c.loop-host-test.true, c.loop-host.auto.host-index-end), sym c.host-item.is, named), λ _. refl)

pub loop-host-preserved : goal.loop-host-preserved
loop-host-preserved c =
    let P : String Global → Type 0 = λ host. ¬ Names (string_bytes host) c.args.field.now in
    let host = c.host-item.result in
    let not_named : P host = λ n. false≢true (sym c.if-names.false ∙ c.names.ensures.1 (subst (λ (t : List ℕ). Names t c.args.field.now) (sym c.as_str.ensures.value) n)) in
    All-more P c.args.hosts.now c.loop-host.host-index host (omega (arith, c.loop-host-test.true)) c.loop-host.invariant (subst P c.host-item.is not_named)

pub returns : goal.returns
returns c =
    let P : String Global → Type 0 = λ host. Names (string_bytes host) c.args.field.now in
    let all = subst (All (λ host. ¬ P host)) (take_all c.loop-host.host-index c.args.hosts.now (omega (arith, c.loop-host-test.false))) c.loop-host.invariant in
    (λ t. absurd (false≢true t), λ a. absurd (none_of_all P c.args.hosts.now all a))
