use Rattle.cue_lattice.specs.declared.pair.Side.TheVariants.{Left, Right}
use Rattle.cue_lattice.specs.Inner.Pair.{sides_free}
use Rattle.cue_lattice.proofs.pair.PairNarrow.is_free.Goals as goal

pub returns-then-is_free : goal.returns-then-is_free
returns-then-is_free g c = (
  λ yes. sides_free g.A.Narrow.refuses g.B.Narrow.refuses c.args.self.now (c.is_free.ensures.0 c.if-is_free.true) (c.is_free-then-is_free.ensures.0 yes),
  λ free. c.is_free-then-is_free.ensures.1 (λ question. free (Right question)),
)

pub returns-else-is_free : goal.returns-else-is_free
returns-else-is_free g c = (λ yes. let no : ⊥ = cc in absurd no, λ free. c.is_free.ensures.1 (λ question. free (Left question)))
