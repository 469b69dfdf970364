use Rattle.std.proofs.Common.{ℕ, List, ◌++◌, ◌-◌, length, sym, ap, subst}
use Rattle.cue_codec.specs.Pieces as states
use Rattle.cue_layers.specs.declared.stage.StateRead.{StateRead}
use Rattle.cue_layers.specs.declared.stage.Stage.TheVariants as stages
use Rattle.cue_layers.specs.Inner.Stages.{CanBegin, HasTaken, read_bytes}
use Rattle.cue_layers.specs.Inner.Walks.{head_bytes}
use Rattle.cue_layers.proofs.Heads.{begun_state}
use Rattle.cue_layers.proofs.stage.begin_state.Goals as goal

pub returns-clause-ok : goal.returns-clause-ok
returns-clause-ok c =
    let head = c.args.head in
    let front = head.state.now in
    let state : StateRead = record { kind = c.args.kind; name = c.in-Ok.name; revision = head.revision; size = head.size; missing = head.size - length front; reader = c.feed.new.self } in
    let text = c.in-Ok.ensures.text in
    let can = subst (λ (n : List ℕ). CanBegin c.args.read.layers.items c.args.kind n head.revision head.size front) (sym text) c.requires.can in
    let fed = subst (λ (i : states.Intake). states.IsTakenIn i front c.feed.new.self) c.new-reader.ensures c.in_ok-feed.ensures.ok in
    let begun = begun_state c.args.read state front c.requires.read can c.requires.len c.requires.revision c.requires.size (ap (λ (n : ℕ). head.size - n) c.requires.len) fed in
    subst (λ (n : List ℕ). HasTaken (read_bytes c.args.read ++ (head_bytes c.args.kind n head.revision head.size ++ front)) (stages.State c.args.read state)) text begun
