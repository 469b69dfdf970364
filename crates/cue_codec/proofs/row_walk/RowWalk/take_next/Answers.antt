use Rattle.std.proofs.Common.{refl, sym, ap, ◌∙◌, ◌-◌, take, arith}
use Rattle.cue_codec.specs.Inner.Ways.{step_of_way}
use Rattle.cue_codec.proofs.Walking.{walk_next, walk_up}
use Rattle.cue_codec.proofs.row_walk.RowWalk.take_next.Goals as goal

pub returns-in-Some-next-clause-walk : goal.returns-in-Some-next-clause-walk
returns-in-Some-next-clause-walk c =
    (walk_next c.loop-place.self (record { steps = c.loop-place.self.steps; stack = c.push_reserved.new.self; next = c.loop-place.self.next }) c.pop.new.self.items c.in-Some-pop.place
    (record { below = c.next.new.self; size = c.in-Some-pop.place.size }) (step_of_way c.in-Some-next.next.0, c.in-Some-next.next.1)
    c.loop-place.invariant.walk c.loop-place.invariant.none c.in-Some-pop.ensures.items refl c.push_reserved.ensures.items c.loop-place.invariant.none refl c.in-Some-next.ensures.steps).0

pub returns-in-Some-next-clause-bytes : goal.returns-in-Some-next-clause-bytes
returns-in-Some-next-clause-bytes c =
    sym c.loop-place.invariant.bytes
    ∙ (walk_next c.loop-place.self (record { steps = c.loop-place.self.steps; stack = c.push_reserved.new.self; next = c.loop-place.self.next }) c.pop.new.self.items c.in-Some-pop.place
    (record { below = c.next.new.self; size = c.in-Some-pop.place.size }) (step_of_way c.in-Some-next.next.0, c.in-Some-next.next.1)
    c.loop-place.invariant.walk c.loop-place.invariant.none c.in-Some-pop.ensures.items refl c.push_reserved.ensures.items c.loop-place.invariant.none refl c.in-Some-next.ensures.steps).1.0

pub returns-in-Some-next-clause-branch : goal.returns-in-Some-next-clause-branch
returns-in-Some-next-clause-branch c =
    (walk_next c.loop-place.self (record { steps = c.loop-place.self.steps; stack = c.push_reserved.new.self; next = c.loop-place.self.next }) c.pop.new.self.items c.in-Some-pop.place
    (record { below = c.next.new.self; size = c.in-Some-pop.place.size }) (step_of_way c.in-Some-next.next.0, c.in-Some-next.next.1)
    c.loop-place.invariant.walk c.loop-place.invariant.none c.in-Some-pop.ensures.items refl c.push_reserved.ensures.items c.loop-place.invariant.none refl c.in-Some-next.ensures.steps).1.1

pub loop-place-preserved : goal.loop-place-preserved
loop-place-preserved c =
    let up = walk_up c.loop-place.self (record { steps = c.truncate.new.self; stack = c.pop.new.self; next = c.loop-place.self.next }) c.pop.new.self.items c.in-Some-pop.place
    c.loop-place.invariant.walk c.loop-place.invariant.none c.in-Some-pop.ensures.items
    (c.truncate.ensures.items ∙ ap (λ n. take (n - c.in-Some-pop.place.size) c.loop-place.self.steps.items) (c.len.ensures ∙ c.loop-place.self.steps.ok.0)) refl c.loop-place.invariant.none c.in_default-next.ensures.steps.0 in
    record {
      walk = up.0;
      bytes = up.1 ∙ c.loop-place.invariant.bytes;
      none = c.loop-place.invariant.none;
      no_more = omega (arith, c.loop-place.invariant.no_more, c.in-Some-pop.ensures.len);
      capacity = c.pop.ensures.capacity ∙ c.loop-place.invariant.capacity;
    }
