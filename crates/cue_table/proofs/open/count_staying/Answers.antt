use Rattle.std.proofs.Common.{◌≡◌, ◌+◌, drop, get_or, map, sym, ap, subst, ◌∙◌}
use Rattle.std.specs.Option.{option_map}
use Rattle.cue_table.specs.SlotsOfCode.{slot_of}
use Rattle.cue_table.specs.Inner.Drafts.{staying_count}
use Rattle.cue_table.proofs.Drafting.{beyond_it, staying_on}
use Rattle.cue_table.proofs.open.count_staying.Goals as goal

pub loop-count-preserved : goal.loop-count-preserved
loop-count-preserved g c =
    let above = c.args.above.now in
    let slots = c.args.slots.now in
    let i = c.loop-count.count in
    let next = slot_of c.in_ok-next.next.now in
    let beyond = map slot_of c.in_ok-next.beyond.now in
    let left = ap (map slot_of) c.in_ok-next.ensures.cases.0 in
    record {
      same = staying_on above i (c.node.inside.node, slot_of c.node.inside.slot) next beyond (staying_count above (map slot_of slots)) c.loop-count-test.true
          (subst (λ o. o ≡ get_or above i o) (sym c.node.view_is) c.index-above-count.is) (sym c.compare.ensures ∙ c.in-Equal-default.is-0)
          (c.loop-count.invariant.same ∙ ap (λ place. option_map (λ n. i + n) (staying_count (drop i above) place)) left);
      beyond = beyond_it (map slot_of slots) i next beyond (sym left ∙ c.loop-count.invariant.beyond);
    }
