use Rattle.std.proofs.Common.{◌≡◌, List, subst, ap, arith, vec_len, length}
use Rattle.std.specs.declared.cmp.Ordering.TheVariants.{Less, Equal, Greater}
use Rattle.cue_layers.specs.declared.layer.Layer.{Layer}
use Rattle.cue_layers.specs.Inner.Merging.{IsLastOrder}
use Rattle.cue_layers.proofs.Merging.{takes_less, takes_greater, takes_equal, empty_of, none_left}
use Rattle.cue_layers.proofs.joining.take_last.Goals as goal

pub returns-in-Less : goal.returns-in-Less
returns-in-Less c =
    let own = c.args.own.now.items in
    let others = c.args.others.now.items in
    let P : List Layer → Type 0 = λ ls. IsLastOrder ls c.as_slice-2.result.now Less in
    let Q : List Layer → Type 0 = λ ls. IsLastOrder own ls Less in
    let last = subst Q c.as_slice-2.ensures.value (subst P c.as_slice.ensures.value c.in-Less.ensures) in
    takes_less own others c.pop.new.self.items c.pop.result c.requires.own c.requires.others last c.pop.ensures.items
    (λ is. empty_of others (let n : vec_len c.args.others.now ≡ 0 = none_left (vec_len c.args.others.now) (vec_len c.pop.new.self) _ c.pop.result c.pop.ensures.cases is in
    omega (arith, ap length c.as_slice-2.ensures.value, c.as_slice-2.ensures.len)))

pub returns-in-Greater : goal.returns-in-Greater
returns-in-Greater c =
    let own = c.args.own.now.items in
    let others = c.args.others.now.items in
    let P : List Layer → Type 0 = λ ls. IsLastOrder ls c.as_slice-2.result.now Greater in
    let Q : List Layer → Type 0 = λ ls. IsLastOrder own ls Greater in
    let last = subst Q c.as_slice-2.ensures.value (subst P c.as_slice.ensures.value c.in-Greater.ensures) in
    let pop = c.pop-in-Greater in
    takes_greater own others pop.new.self.items pop.result c.requires.own c.requires.others last pop.ensures.items
    (λ is. empty_of own (let n : vec_len c.args.own.now ≡ 0 = none_left (vec_len c.args.own.now) (vec_len pop.new.self) _ pop.result pop.ensures.cases is in
    omega (arith, ap length c.as_slice.ensures.value, c.as_slice.ensures.len)))

pub returns-in_ok-pop-in-Equal-2 : goal.returns-in_ok-pop-in-Equal-2
returns-in_ok-pop-in-Equal-2 c =
    let own = c.args.own.now.items in
    let others = c.args.others.now.items in
    let P : List Layer → Type 0 = λ ls. IsLastOrder ls c.as_slice-2.result.now Equal in
    let Q : List Layer → Type 0 = λ ls. IsLastOrder own ls Equal in
    let last = subst Q c.as_slice-2.ensures.value (subst P c.as_slice.ensures.value c.in-Equal.ensures) in
    takes_equal own others c.pop-in-Equal.new.self.items c.pop-in-Equal-2.new.self.items c.in_ok-pop-in-Equal.field-0 c.in_ok-pop-in-Equal-2.field-0 c.later_revision.result
    c.requires.own c.requires.others c.requires.ties last c.in_ok-pop-in-Equal.ensures.items c.in_ok-pop-in-Equal-2.ensures.items c.later_revision.ensures
