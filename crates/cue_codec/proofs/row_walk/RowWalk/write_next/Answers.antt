use Rattle.std.proofs.Common.{◌≡◌, ◌-◌, ◌++◌, refl, sym, ap, subst, ◌∙◌, arith}
use Rattle.cue_codec.specs.Inner.Ways.{step_of_way, tree_bytes, branches_bytes, branches_of}
use Rattle.cue_codec.specs.declared.row_walk.WalkPlace.{WalkPlace}
use Rattle.cue_codec.specs.declared.row_walk.RowWalk.{RowWalk}
use Rattle.cue_codec.proofs.Walking.{same_bytes, walk_down}
use Rattle.cue_codec.proofs.row_walk.RowWalk.write_next.Goals as goal

pub returns-in_default-clause-same : goal.returns-in_default-clause-same
returns-in_default-clause-same c =
    ap (λ t. c.args.out.now.items ++ t) (c.in_default.ensures.bytes.1 ∙ sym c.in_default.ensures.bytes.0
    ∙ same_bytes c.args.self.now (record { steps = c.args.self.now.steps; stack = c.reserve.new.self; next = c.args.self.now.next }) refl c.reserve.ensures.items refl)

pub returns-in_default-clause-end : goal.returns-in_default-clause-end
returns-in_default-clause-end c e = c.in_default.ensures.bytes.1

pub push_reserved-requires : goal.push_reserved-requires
push_reserved-requires c = omega (arith, c.in_ok-reserve.ensures.ok, c.in_ok-reserve.ensures.len, c.in-Some.ensures.no_more, c.in-Some.ensures.capacity)

pub returns-clause-walk : goal.returns-clause-walk
returns-clause-walk c =
    let walk : RowWalk = record { steps = c.put_row.new.steps; stack = c.push_reserved.new.self; next = c.take_next.new.self.next } in
    let place : WalkPlace = record { below = c.of.result; size = c.len.result - c.len-above.result } in
    let branch = c.in-Some.branch in
    let put = subst (λ d. c.put_row.new.out.items ++ branches_bytes d c.put_row.new.steps.items (branches_of branch) ≡ c.args.out.now.items ++ tree_bytes d c.put_row.new.steps.items branch) (c.len-depth.ensures ∙ c.take_next.new.self.stack.ok.0) c.in_default-put_row.ensures.rows in
    (walk_down c.take_next.new.self walk place (step_of_way c.in-Some.way, branch) c.args.out.now.items c.put_row.new.out.items c.in-Some.ensures.walk c.in-Some.ensures.none c.in-Some.ensures.branch
    c.in_default-put_row.ensures.steps c.push_reserved.ensures.items c.in-Some.ensures.none
    (omega (arith, c.len.ensures, c.put_row.new.steps.ok.0, c.len-above.ensures, c.take_next.new.self.steps.ok.0)) c.of.ensures put).0

pub returns-clause-same : goal.returns-clause-same
returns-clause-same c =
    let walk : RowWalk = record { steps = c.put_row.new.steps; stack = c.push_reserved.new.self; next = c.take_next.new.self.next } in
    let place : WalkPlace = record { below = c.of.result; size = c.len.result - c.len-above.result } in
    let branch = c.in-Some.branch in
    let put = subst (λ d. c.put_row.new.out.items ++ branches_bytes d c.put_row.new.steps.items (branches_of branch) ≡ c.args.out.now.items ++ tree_bytes d c.put_row.new.steps.items branch) (c.len-depth.ensures ∙ c.take_next.new.self.stack.ok.0) c.in_default-put_row.ensures.rows in
    (walk_down c.take_next.new.self walk place (step_of_way c.in-Some.way, branch) c.args.out.now.items c.put_row.new.out.items c.in-Some.ensures.walk c.in-Some.ensures.none c.in-Some.ensures.branch
    c.in_default-put_row.ensures.steps c.push_reserved.ensures.items c.in-Some.ensures.none
    (omega (arith, c.len.ensures, c.put_row.new.steps.ok.0, c.len-above.ensures, c.take_next.new.self.steps.ok.0)) c.of.ensures put).1
    ∙ ap (λ t. c.args.out.now.items ++ t) (sym c.in-Some.ensures.bytes ∙ same_bytes c.args.self.now (record { steps = c.args.self.now.steps; stack = c.reserve.new.self; next = c.args.self.now.next }) refl c.reserve.ensures.items refl)
