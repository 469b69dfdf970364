use Rattle.std.proofs.Common.{◌≡◌, ◌&&◌, true, sym, ◌∙◌}
use Rattle.std.proofs.lemmas.Bool.{false≢true}
use Rattle.cue_lattice.specs.declared.scalar.Scalar.TheVariants as scalars
use Rattle.cue_scalars.proofs.ByKind.{refuses_none, all_plain}
use Rattle.cue_scalars.proofs.scalar_set.ScalarSetNarrow.is_free.Goals as goal

pub returns-then-not-has_all_plain : goal.returns-then-not-has_all_plain
returns-then-not-has_all_plain c =
    let set = c.args.self.now in
    (λ e. absurd (false≢true e), λ h. let t = c.has_all_plain.ensures ∙ all_plain set h in cc (t, c.if-not-has_all_plain.true))

pub returns-then-not-is_free : goal.returns-then-not-is_free
returns-then-not-is_free c =
    (λ e. absurd (false≢true e), λ h. let t = c.is_free.ensures.1 (λ n. h (scalars.Int n)) in cc (t, c.if-not-is_free.true))

pub returns : goal.returns
returns c =
    let set = c.args.self.now in
    let plain : (set.null && set.no && set.yes) ≡ true = sym c.has_all_plain.ensures ∙ c.if-not-has_all_plain.false in
    (λ e. refuses_none set plain (c.is_free.ensures.0 c.if-not-is_free.false) (c.is_free-2.ensures.0 e), λ h. c.is_free-2.ensures.1 (λ t. h (scalars.Text t)))
