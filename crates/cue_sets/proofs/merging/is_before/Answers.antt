use Rattle.std.proofs.Common.{◌≡◌, ◌<◌, length, true, is_lt, refl, sym, ◌∙◌, arith}
use Rattle.std.specs.declared.cmp.Ordering.{Ordering}
use Rattle.std.specs.declared.cmp.Ordering.TheVariants.{Less, Equal, Greater}
use Rattle.std.proofs.lemmas.Bool.{false≢true}
use Rattle.std.proofs.lemmas.Grind.{common_steps}
use Rattle.cue_sets.proofs.Apart.{apart_by_ends}
use Rattle.cue_sets.proofs.merging.is_before.Goals as goal

is_less : (order : Ordering) → is_lt order ≡ true → order ≡ Less
is_less Less e = refl
is_less Equal e = absurd (false≢true e)
is_less Greater e = absurd (false≢true e)

pub returns : goal.returns
returns c = λ yes.
    let some : 0 < length c.args.left.now = grind (arith, common_steps) in
    let less = sym c.compare.ensures ∙ is_less c.compare.result (sym c.is_lt.ensures ∙ yes) in
    apart_by_ends c.args.left.now c.args.right.now c.index-left-left.result c.index-right-0.result c.requires some c.index-left-left.is c.index-right-0.is less
