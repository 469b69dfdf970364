use Rattle.std.proofs.Common.{◌≡◌, [], false, sym, subst, ◌∙◌}
use Rattle.std.specs.Prelude.{IfNone}
use Rattle.cue_lattice.specs.declared.scalar.Scalar.{Scalar}
use Rattle.cue_scalars.specs.Scalars.{IsOnlyScalar}
use Rattle.cue_scalars.proofs.ByKind.{has_plain, clash, plain_and_int, plain_and_text, int_and_text, only_text, only_int, no_only_plain}
use Rattle.cue_scalars.proofs.scalar_set.ScalarSet.single.Goals as goal

pub returns-then-has_plain-clause-none : goal.returns-then-has_plain-clause-none
returns-then-has_plain-clause-none c =
    plain_and_text c.args.self.now (sym c.has_plain.ensures ∙ c.if-has_plain.true) (λ e. clash _ (c.is_empty.ensures.1 e) c.if-not-is_empty.true)

pub returns-then-not-is_empty-2-clause-none : goal.returns-then-not-is_empty-2-clause-none
returns-then-not-is_empty-2-clause-none c =
    int_and_text c.args.self.now c.known.ensures (λ e. clash _ (c.is_empty-then-not-is_empty.ensures.1 e) c.if-not-is_empty-2.true) (λ e. clash _ (c.is_empty.ensures.1 e) c.if-not-is_empty.true)

pub returns-in-None-clause-none : goal.returns-in-None-clause-none
returns-in-None-clause-none c =
    let set = c.args.self.now in
    let plain : has_plain set ≡ false = sym c.has_plain.ensures ∙ c.if-has_plain.false in
    let ints : set.ints ≡ [] = c.is_empty-then-not-is_empty.ensures.0 c.if-not-is_empty-2.false in
    only_text set plain ints c.in-None.ensures.none

pub returns-then-has_plain-2-clause-none : goal.returns-then-has_plain-2-clause-none
returns-then-has_plain-2-clause-none c =
    plain_and_int c.args.self.now c.known.ensures (sym c.has_plain-then-not-is_empty-3.ensures ∙ c.if-has_plain-2.true) (λ e. clash _ (c.is_empty-2.ensures.1 e) c.if-not-is_empty-3.true)

pub returns-in-None-single-clause-none : goal.returns-in-None-single-clause-none
returns-in-None-single-clause-none c =
    let set = c.args.self.now in
    let plain : has_plain set ≡ false = sym c.has_plain-then-not-is_empty-3.ensures ∙ c.if-has_plain-2.false in
    only_int set plain (c.is_empty.ensures.0 c.if-not-is_empty.false) c.in-None-single.ensures.none

pub returns-clause-none : goal.returns-clause-none
returns-clause-none c =
    let set = c.args.self.now in
    subst (λ o. IfNone o ((s : Scalar) → IsOnlyScalar set s → ⊥)) (sym c.only_plain.ensures)
    (no_only_plain set (c.is_empty-2.ensures.0 c.if-not-is_empty-3.false) (c.is_empty.ensures.0 c.if-not-is_empty.false))
