use Rattle.std.proofs.Common.{List, Vec, Global, subst, sym}
use Rattle.cue_lattice.specs.World.{AllAlong}
use Rattle.cue_layers.specs.declared.layer.Layer.{Layer}
use Rattle.cue_layers.specs.Maps.{IsJoin}
use Rattle.cue_layers.specs.Inner.Merging.{IsTied, HaveTies, IsMerged}
use Rattle.cue_layers.proofs.Joined.{tied_order, tied_ties, merged_join}
use Rattle.cue_layers.proofs.layers.Layers.join.Goals as goal

pub merge-requires-clause-others : goal.merge-requires-clause-others
merge-requires-clause-others c =
    let others = c.other.inside.entries.items in
    tied_order c.as_slice.result.now others c.in_ok-others.others.items c.in_ok-others.ensures c.other.invariant.in_order

pub merge-requires-clause-ties : goal.merge-requires-clause-ties
merge-requires-clause-ties c =
    let others = c.other.inside.entries.items in
    let tied = c.in_ok-others.others.items in
    let P : List Layer → Type 0 = λ ls. HaveTies ls tied in
    let Q : Vec Layer Global → Type 0 = λ v. HaveTies v.items tied in
    subst Q (sym c.replace-own.ensures.value) (subst P c.as_slice.ensures.value (tied_ties c.as_slice.result.now others tied c.in_ok-others.ensures))

pub returns-clause-ok : goal.returns-clause-ok
returns-clause-ok c =
    let own = c.self.inside.entries.items in
    let others = c.other.inside.entries.items in
    let tied = c.in_ok-others.others.items in
    let merged = c.merge.new.merged.items in
    let A : List Layer → Type 0 = λ ls. AllAlong (IsTied ls) others tied in
    let along = subst A c.as_slice.ensures.value c.in_ok-others.ensures in
    let M : Vec Layer Global → Type 0 = λ v. IsMerged v.items tied merged in
    let is = subst M c.replace-own.ensures.value c.merge.ensures in
    let P : List Layer → Type 0 = λ ls. IsJoin ls others merged in
    let Q : List Layer → Type 0 = λ ls. IsJoin c.args.self.now ls merged in
    subst Q c.other.view_is (subst P c.self.view_is (merged_join own others tied merged c.self.invariant c.other.invariant along is))

pub invariant_of-self : goal.invariant_of-self
invariant_of-self c =
    let own = c.self.inside.entries.items in
    let others = c.other.inside.entries.items in
    let tied = c.in_ok-others.others.items in
    let merged = c.merge.new.merged.items in
    let A : List Layer → Type 0 = λ ls. AllAlong (IsTied ls) others tied in
    let along = subst A c.as_slice.ensures.value c.in_ok-others.ensures in
    let M : Vec Layer Global → Type 0 = λ v. IsMerged v.items tied merged in
    let is = subst M c.replace-own.ensures.value c.merge.ensures in
    (merged_join own others tied merged c.self.invariant c.other.invariant along is).is_map
