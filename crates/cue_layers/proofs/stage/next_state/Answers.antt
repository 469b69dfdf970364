use Rattle.std.proofs.Common.{ℕ, List, [], ◌-◌, append-nil, subst, ◌∙◌, arith}
use Rattle.std.proofs.lemmas.Result.{err_from_is_err_and}
use Rattle.cue_layers.specs.Pieces.{IsTakenIn}
use Rattle.cue_layers.specs.Inner.Stages.{before_state, intake_of, intake_behind}
use Rattle.cue_layers.proofs.Fed.{fed_more, behind_more, not_behind, not_ended}
use Rattle.cue_layers.proofs.Taking.{taken_twice}
use Rattle.cue_layers.proofs.stage.next_state.Goals as goal

pub returns-in_err-feed-clause-memory : goal.returns-in_err-feed-clause-memory
returns-in_err-feed-clause-memory c =
    let state = c.args.state in
    let p = err_from_is_err_and c.from_residual.result c.from_residual.ensures.1 in
    rw (p.1, p.2) (not_behind (before_state c.args.read state) state.size state.missing state.reader c.feed.new.self c.in_err-feed.field-0.0 c.requires.state.fed c.in_err-feed.ensures.err)

pub returns-then-state-gt0-clause-sound : goal.returns-then-state-gt0-clause-sound
returns-then-state-gt0-clause-sound c =
    let state = c.args.state in
    let is = c.requires.state in
    let front = c.split_at.result.0.now in
    let few = c.split_at.ensures.front_len in
    let least = c.min-len.ensures in
    (c.requires.read, record { may = is.may; behind = is.behind; revision_small = is.revision_small; size_small = is.size_small; fed = fed_more state.size state.missing (state.missing - c.min-len.result) front state.reader c.feed.new.self is.fed c.in_ok-feed.ensures.ok (omega (arith, few, least)) }, c.if-state-gt0.true)

pub returns-then-state-gt0-clause-ok : goal.returns-then-state-gt0-clause-ok
returns-then-state-gt0-clause-ok c =
    let state = c.args.state in
    let is = c.requires.state in
    let front = c.split_at.result.0.now in
    let few = c.split_at.ensures.front_len in
    let least = c.min-len.ensures in
    let before = before_state c.args.read state in
    let more = behind_more c.args.read state.kind state.name state.revision state.size state.missing front state.reader c.feed.new.self c.requires.read is.may is.revision_small is.size_small is.fed c.in_ok-feed.ensures.ok (omega (arith, few, least)) in
    subst (λ (p : List ℕ). IsTakenIn (intake_behind before state.reader) p (intake_behind before c.feed.new.self)) c.split_at.ensures.front more

pub end_state-requires-clause-state : goal.end_state-requires-clause-state
end_state-requires-clause-state c =
    let state = c.args.state in
    let is = c.requires.state in
    let front = c.split_at.result.0.now in
    let few = c.split_at.ensures.front_len in
    let least = c.min-len.ensures in
    record { may = is.may; behind = is.behind; revision_small = is.revision_small; size_small = is.size_small; fed = fed_more state.size state.missing (state.missing - c.min-len.result) front state.reader c.feed.new.self is.fed c.in_ok-feed.ensures.ok (omega (arith, few, least)) }

pub returns-in_err-stage-clause-memory : goal.returns-in_err-stage-clause-memory
returns-in_err-stage-clause-memory c =
    let state = c.args.state in
    let is = c.requires.state in
    let front = c.split_at.result.0.now in
    let few = c.split_at.ensures.front_len in
    let least = c.min-len.ensures in
    let memory = c.in_err-stage.ensures.memory in
    let p = err_from_is_err_and c.from_residual-in_err-stage.result c.from_residual-in_err-stage.ensures.1 in
    rw (p.1, p.2) (not_ended (before_state c.args.read state) state.size state.missing front state.reader c.feed.new.self c.in_err-stage.field-0.0 is.fed c.in_ok-feed.ensures.ok memory.1 memory.0)

pub returns-clause-ok : goal.returns-clause-ok
returns-clause-ok c =
    let state = c.args.state in
    let is = c.requires.state in
    let front = c.split_at.result.0.now in
    let few = c.split_at.ensures.front_len in
    let least = c.min-len.ensures in
    let before = before_state c.args.read state in
    let more = behind_more c.args.read state.kind state.name state.revision state.size state.missing front state.reader c.feed.new.self c.requires.read is.may is.revision_small is.size_small is.fed c.in_ok-feed.ensures.ok (omega (arith, few, least)) in
    let all = taken_twice (intake_behind before state.reader) (intake_behind before c.feed.new.self) (intake_of c.in_ok-stage.stage) front [] more c.in_ok-stage.ensures.ok in
    subst (λ (p : List ℕ). IsTakenIn (intake_behind before state.reader) p (intake_of c.in_ok-stage.stage)) (append-nil front ∙ c.split_at.ensures.front) all
