use Rattle.std.proofs.Common.{◌≡◌, [], false, sym, ◌∙◌}
use Rattle.std.proofs.lemmas.Bool.{false≢true}
use Rattle.cue_lattice.specs.declared.scalar.Scalar.TheVariants as scalars
use Rattle.cue_sets.specs.PieceLaws.{some_member}
use Rattle.cue_scalars.proofs.ByKind.{has_plain, no_plain_member, no_member, no_text_at_all}
use Rattle.cue_scalars.proofs.scalar_set.ScalarSet.is_empty.Goals as goal

pub returns-then-has_plain : goal.returns-then-has_plain
returns-then-has_plain c =
    let set = c.args.self.now in
    (λ e. absurd (false≢true e), λ h. absurd (no_plain_member set h (sym c.has_plain.ensures ∙ c.if-has_plain.true)))

pub returns-then-not-is_empty : goal.returns-then-not-is_empty
returns-then-not-is_empty c =
    let set = c.args.self.now in (
      λ e. absurd (false≢true e),
      λ h. absurd
          (let w = some_member set.ints c.known.ensures (λ e. let t = c.is_empty.ensures.1 e in cc (t, c.if-not-is_empty.true)) in
          false≢true (sym (h (scalars.Int w.0)) ∙ w.1)),
    )

pub returns : goal.returns
returns c =
    let set = c.args.self.now in
    let plain : has_plain set ≡ false = sym c.has_plain.ensures ∙ c.if-has_plain.false in
    let ints : set.ints ≡ [] = c.is_empty.ensures.0 c.if-not-is_empty.false in
    (λ e. no_member set plain ints (c.is_empty-2.ensures.0 e), λ h. c.is_empty-2.ensures.1 (no_text_at_all set h))
