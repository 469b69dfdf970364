use Rattle.std.proofs.Common.{refl, sym, subst}
use Rattle.cue_layers.specs.declared.layer.Layer.{Layer}
use Rattle.cue_layers.specs.Inner.Reading.{AreFront}
use Rattle.cue_layers.specs.Inner.Stages.{IsContentRead, IsNoContentRead}
use Rattle.cue_layers.proofs.Fed.{some_is, none_is, ended_none, ended_bad, ended_front, ended_read}
use Rattle.cue_layers.proofs.stage.end_state.Goals as goal

pub returns-in_default-clause-ok : goal.returns-in_default-clause-ok
returns-in_default-clause-ok c =
    ended_none c.args.read c.args.state c.requires.read c.requires.state c.requires.whole (none_is c.in_ok-content.field-0 (IsNoContentRead c.args.state.reader) c.in_default.is c.in_ok-content.ensures.none)

pub returns-then-not-may_put-clause-ok : goal.returns-then-not-may_put-clause-ok
returns-then-not-may_put-clause-ok c =
    let read = some_is c.in_ok-content.field-0 c.in-Some.content (IsContentRead c.args.state.reader) c.in-Some.is c.in_ok-content.ensures.some in
    ended_bad c.args.read c.args.state c.requires.read c.requires.state c.requires.whole c.in-Some.content read (λ formed. let yes = c.may_put.ensures.1 formed in let wrong = c.if-not-may_put.true in cc)

pub after_layer-requires-clause-front : goal.after_layer-requires-clause-front
after_layer-requires-clause-front c =
    let read = some_is c.in_ok-content.field-0 c.in-Some.content (IsContentRead c.args.state.reader) c.in-Some.is c.in_ok-content.ensures.some in
    let layer : Layer = record { kind = c.args.state.kind; name = c.args.state.name; revision = c.args.state.revision; content = c.in-Some.content } in
    subst AreFront (sym c.in_ok-read.ensures.ok.1) (ended_front c.args.read c.args.state c.requires.read c.requires.state c.requires.whole layer refl refl refl read (c.may_put.ensures.0 c.if-not-may_put.false))

pub returns-clause-ok : goal.returns-clause-ok
returns-clause-ok c =
    let read = some_is c.in_ok-content.field-0 c.in-Some.content (IsContentRead c.args.state.reader) c.in-Some.is c.in_ok-content.ensures.some in
    let layer : Layer = record { kind = c.args.state.kind; name = c.args.state.name; revision = c.args.state.revision; content = c.in-Some.content } in
    ended_read c.args.read c.args.state c.requires.read c.requires.state c.requires.whole layer refl refl refl read (c.may_put.ensures.0 c.if-not-may_put.false) c.in_ok-read.read c.after_layer.result c.in_ok-read.ensures.ok.0 c.in_ok-read.ensures.ok.1 c.after_layer.ensures
