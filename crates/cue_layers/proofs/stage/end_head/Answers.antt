use Rattle.std.proofs.Common.{ℕ, List, ◌++◌, sym, ap, subst, ◌∙◌}
use Rattle.std.specs.Result.{IfOk}
use Rattle.cue_layers.specs.Pieces.{IsNoLayersPrefix}
use Rattle.cue_layers.specs.declared.layer.Layer.{Layer}
use Rattle.cue_layers.specs.Inner.Stages.{CanBegin, HasTaken, read_bytes}
use Rattle.cue_layers.specs.Inner.Walks.{head_bytes}
use Rattle.cue_layers.proofs.Heads.{head_whole}
use Rattle.cue_layers.proofs.Steps.{cant_begin}
use Rattle.cue_layers.proofs.stage.end_head.Goals as goal

pub returns-in-None-clause-ok : goal.returns-in-None-clause-ok
returns-in-None-clause-ok c =
    let head = c.in-Some.head in
    let is = c.in-Some.ensures.some in
    let read = c.args.read in
    let cant = subst (λ (ls : List Layer). ¬ CanBegin ls c.args.start.kind head.name.now head.revision head.size head.state.now) c.as_slice.ensures.value c.in-None.ensures.none in
    let none = cant_begin read.count read.layers.items c.args.start.kind head.name.now head.revision head.size head.state.now c.requires.read.front c.requires.read.more c.requires.read.small is.short is.revision_small is.size_small is.state_len cant in
    (tt, subst (λ (b : List ℕ). IsNoLayersPrefix (read_bytes read ++ b)) (sym (head_whole c.args.start head.name.now head.revision head.size head.state.now c.args.bytes.now is)) none)

pub returns-in-Some-name_in-clause-ok : goal.returns-in-Some-name_in-clause-ok
returns-in-Some-name_in-clause-ok c =
    let head = c.in-Some.head in
    let is = c.in-Some.ensures.some in
    let front = read_bytes c.args.read in
    let whole = ap (λ (n : List ℕ). front ++ (head_bytes c.args.start.kind n head.revision head.size ++ head.state.now)) c.in-Some-name_in.ensures.some.0
    ∙ ap (λ (b : List ℕ). front ++ b) (sym (head_whole c.args.start head.name.now head.revision head.size head.state.now c.args.bytes.now is)) in
    subst (λ (b : List ℕ). IfOk c.begin_state.result (HasTaken b)) whole c.begin_state.ensures.ok
