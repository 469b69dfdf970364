use Rattle.std.proofs.Common.{ℕ, List, ◌∷◌, ◌++◌, inl, inr, sym, ap, subst, ◌∙◌, arith}
use Rattle.std.specs.Int.{w16, to_be_bytes}
use Rattle.cue_codec.specs.Reading.{ReadsNoItem}
use Rattle.cue_layers.specs.Bytes.{layer_bytes}
use Rattle.cue_layers.specs.Inner.Reading.{IsHeld}
use Rattle.cue_layers.proofs.Heads.{start_parts, start_missing}
use Rattle.cue_layers.proofs.Steps.{no_start}
use Rattle.cue_layers.proofs.stage.start_of.Goals as goal

pub returns-in_err-len-clause-none : goal.returns-in_err-len-clause-none
returns-in_err-len-clause-none c = absurd (start_missing c.args.bytes.now c.in_ok-kind.rest.now c.in_ok-kind.kind.now c.requires c.in_ok-kind.ensures.cases.0 c.in_err-len.ensures)

pub returns-then-len-gt-NAME_LIMIT-clause-none : goal.returns-then-len-gt-NAME_LIMIT-clause-none
returns-then-len-gt-NAME_LIMIT-clause-none c = λ more.
    let parts = start_parts c.args.bytes.now c.in_ok-kind.rest.now c.in_ok-len.field-0-1.now c.in_ok-kind.kind.now c.in_ok-len.len (λ i. omega (arith, c.type_inv.bytes i)) c.requires c.in_ok-kind.ensures.cases.0 c.in_ok-len.ensures in
    subst (λ (b : List ℕ). ReadsNoItem IsHeld layer_bytes (b ++ more)) (sym parts.0) (no_start c.in_ok-kind.kind.now c.in_ok-len.len more parts.1 (inr c.if-len-gt-NAME_LIMIT.true))

pub returns-in-0-clause-some : goal.returns-in-0-clause-some
returns-in-0-clause-some c =
    let parts = start_parts c.args.bytes.now c.in_ok-kind.rest.now c.in_ok-len.field-0-1.now c.in_ok-kind.kind.now c.in_ok-len.len (λ i. omega (arith, c.type_inv.bytes i)) c.requires c.in_ok-kind.ensures.cases.0 c.in_ok-len.ensures in
    (parts.0 ∙ ap (λ (k : ℕ). k ∷ to_be_bytes w16 c.in_ok-len.len) c.in-0.is, c.if-len-gt-NAME_LIMIT.false)

pub returns-in-1-clause-some : goal.returns-in-1-clause-some
returns-in-1-clause-some c =
    let parts = start_parts c.args.bytes.now c.in_ok-kind.rest.now c.in_ok-len.field-0-1.now c.in_ok-kind.kind.now c.in_ok-len.len (λ i. omega (arith, c.type_inv.bytes i)) c.requires c.in_ok-kind.ensures.cases.0 c.in_ok-len.ensures in
    (parts.0 ∙ ap (λ (k : ℕ). k ∷ to_be_bytes w16 c.in_ok-len.len) c.in-1.is, c.if-len-gt-NAME_LIMIT.false)

pub returns-in_default-clause-none : goal.returns-in_default-clause-none
returns-in_default-clause-none c = λ more.
    let parts = start_parts c.args.bytes.now c.in_ok-kind.rest.now c.in_ok-len.field-0-1.now c.in_ok-kind.kind.now c.in_ok-len.len (λ i. omega (arith, c.type_inv.bytes i)) c.requires c.in_ok-kind.ensures.cases.0 c.in_ok-len.ensures in
    subst (λ (b : List ℕ). ReadsNoItem IsHeld layer_bytes (b ++ more)) (sym parts.0) (no_start c.in_ok-kind.kind.now c.in_ok-len.len more parts.1 (inl (omega (arith, c.in_default))))
