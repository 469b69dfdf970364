use Rattle.std.proofs.Common.{inl, subst}
use Rattle.cue_replica.specs.World.{SubmitsText, TakesState}
use Rattle.cue_wire.specs.Requests.{text, state, IsRequest}
use Rattle.cue_wire.specs.Inner.Calls.{request_of}
use Rattle.cue_wire.specs.Serving.{Serves}
use Rattle.cue_wire.proofs.Answered.{submitted, took, served}
use Rattle.cue_wire.proofs.answer.answer.Goals as goal

pub returns-in_ok-make_room-in-Some-Text-clause-ok : goal.returns-in_ok-make_room-in-Some-Text-clause-ok
returns-in_ok-make_room-in-Some-Text-clause-ok c =
    let t = c.in-Some-Text.text.now in
    let e = c.submit.ensures in
    served (SubmitsText t) (Serves c.args.body.now c.args.site.now c.submit.new.self) c.args.site.now c.submit.new.self c.submit.result c.reply_to.result
    c.args.out.now.items c.make_room.new.out.items c.reply_to.new.out.items c.make_room.ensures.items
    (λ reply h. inl (text t, subst (λ call. IsRequest c.args.body.now (request_of call)) c.in-Some-Text.field-0-is c.in-Some-Text.ensures.some, h))
    (submitted t c.args.site.now c.submit.new.self c.submit.result e.legal e.ok e.valid e.err e.refused)
    c.reply_to.ensures.accepted c.reply_to.ensures.refused

pub returns-in_ok-make_room-in-Some-State-clause-ok : goal.returns-in_ok-make_room-in-Some-State-clause-ok
returns-in_ok-make_room-in-Some-State-clause-ok c =
    let bytes = c.in-Some-State.bytes.now in
    let e = c.take.ensures in
    served (TakesState bytes) (Serves c.args.body.now c.args.site.now c.take.new.self) c.args.site.now c.take.new.self c.take.result c.reply_to-in-Some-State.result
    c.args.out.now.items c.make_room-in-Some-State.new.out.items c.reply_to-in-Some-State.new.out.items c.make_room-in-Some-State.ensures.items
    (λ reply h. inl (state bytes, subst (λ call. IsRequest c.args.body.now (request_of call)) c.in-Some-State.field-0-is c.in-Some-State.ensures.some, h))
    (took bytes c.args.site.now c.take.new.self c.take.result e.state e.ok e.valid e.err e.refused)
    c.reply_to-in-Some-State.ensures.accepted c.reply_to-in-Some-State.ensures.refused
