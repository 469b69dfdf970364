use Rattle.std.proofs.Common.{◌∙◌, sym, subst, arith, refl}
use Rattle.std.proofs.lemmas.Bool.{false≢true}
use Rattle.std.proofs.lemmas.List.{take_all}
use Rattle.cue_layers_site.proofs.Listed.{AreOthers, bytes_of, none_is, one_is, one_more}
use Rattle.cue_layers_site.proofs.conditions.has_tag.Goals as goal

pub loop-other-preserved : goal.loop-other-preserved
loop-other-preserved c =
    one_more c.args.tags.now c.loop-other.other-index _ c.args.tag.now c.loop-other-test.true c.loop-other.invariant
    (λ e. false≢true (sym c.if-is_same.false ∙ c.is_same.ensures.1 e))

pub returns-then-is_same : goal.returns-then-is_same
returns-then-is_same c = (
  λ t. one_is c.args.tags.now c.loop-other.other-index _ c.args.tag.now c.loop-other-test.true (c.is_same.ensures.0 c.if-is_same.true),
  λ h. refl,
)

pub returns : goal.returns
returns c = (
  λ t. absurd (false≢true t),
  λ h. absurd (none_is (bytes_of c.args.tags.now) c.args.tag.now
      (subst (λ ts. AreOthers (bytes_of ts) c.args.tag.now) (take_all c.loop-other.other-index c.args.tags.now (omega arith)) c.loop-other.invariant) h),
)
