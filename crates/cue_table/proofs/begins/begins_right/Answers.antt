use Rattle.std.proofs.Common.{rules, refl, arith}
use Rattle.std.proofs.lemmas.Bool.{lt-ltb}
use Rattle.cue_table.specs.Inner.View.{branches}
use Rattle.cue_table.proofs.RestBegins.{begins_anywhere, begins_later, begins_behind, begins_early, not_true, true_not}
use Rattle.cue_table.proofs.begins.begins_right.Goals as goal

pub returns-in_default : goal.returns-in_default
returns-in_default g c =
    (λ yes. begins_anywhere c.args.from c.args.rest.now (branches c.args.children.now) c.in_default.ensures.none, λ h. refl)

pub returns-then-behind-from : goal.returns-then-behind-from
returns-then-behind-from g c =
    let children = branches c.args.children.now in
    let last = c.in-Some.ensures.some in
    (λ yes. begins_later c.args.from c.args.rest.now children (omega (arith, last.last, c.from-behind.ensures, c.if-behind-from.true)), λ h. lt-ltb _ _ c.if-behind-from.true)

pub returns-then-behind-from-2 : goal.returns-then-behind-from-2
returns-then-behind-from-2 g c =
    let children = branches c.args.children.now in
    let last = c.in-Some.ensures.some in
    let both = begins_behind c.args.from c.in-Some.last c.args.rest.now c.in-Some.node.now children last.last last.found (omega (arith, c.from-behind.ensures, c.if-behind-from-2.true)) in
    (λ yes. both.0 (λ s. not_true c.same.result yes (c.same.ensures.1 s)), λ h. true_not c.same.result (λ yes. both.1 h (c.same.ensures.0 yes)))

pub returns-else-behind-from-2 : goal.returns-else-behind-from-2
returns-else-behind-from-2 g c =
    let children = branches c.args.children.now in
    let last = c.in-Some.ensures.some in
    (λ yes. absurd (search rules), λ h. absurd (begins_early c.args.from c.in-Some.last c.in-Some.node.now children last.found (omega (arith, c.from-behind.ensures, c.if-behind-from.false, c.if-behind-from-2.false)) h.0))
