use Rattle.std.proofs.Common.{List, ℕ, Vec, Global, subst, sym, ◌∙◌}
use Rattle.std.proofs.lemmas.Bool.{false≢true}
use Rattle.cue_owners.specs.Patterns.{Fits}
use Rattle.cue_owners.proofs.Rows.{found, not_found, one_more}
use Rattle.cue_owners.proofs.grant.any_fits.Goals as goal

pub returns-then-fits : goal.returns-then-fits
returns-then-fits c =
    let P : Vec ℕ Global → Type 0 = λ pattern. Fits pattern.items c.args.target.now in
    found P c.args.patterns.now c.loop-pattern.pattern-index c.pattern-item.result c.loop-pattern-test.true c.pattern-item.is
    (subst (λ (t : List ℕ). Fits t c.args.target.now) c.deref.ensures.value (c.fits.ensures.0 c.if-fits.true))

pub loop-pattern-preserved : goal.loop-pattern-preserved
loop-pattern-preserved c =
    let P : Vec ℕ Global → Type 0 = λ pattern. Fits pattern.items c.args.target.now in
    one_more P c.args.patterns.now c.loop-pattern.pattern-index c.pattern-item.result c.loop-pattern-test.true c.loop-pattern.invariant c.pattern-item.is
    (λ n. false≢true (sym c.if-fits.false ∙ c.fits.ensures.1 (subst (λ (t : List ℕ). Fits t c.args.target.now) (sym c.deref.ensures.value) n)))

pub returns : goal.returns
returns c =
    let P : Vec ℕ Global → Type 0 = λ pattern. Fits pattern.items c.args.target.now in
    not_found P c.args.patterns.now c.loop-pattern.pattern-index c.loop-pattern-test.false c.loop-pattern.invariant
