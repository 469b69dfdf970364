use Rattle.std.proofs.Common.{subst, sym}
use Rattle.cue_wire.specs.Connections.{moment_of}
use Rattle.cue_command.specs.declared.command.Command.{Command}
use Rattle.cue_command.specs.Networks.{reach_of}
use Rattle.cue_command.specs.Runs.{RunWorld, run_world, IsAnswerTo}
use Rattle.cue_command.specs.Words.{asked_by_words}
use Rattle.cue_command.proofs.acting.reply_for.Goals as goal

pub returns-in_ok-serve_port-in-Serve-clause-reply : goal.returns-in_ok-serve_port-in-Serve-clause-reply
returns-in_ok-serve_port-in-Serve-clause-reply g c =
    let rt = c.args.rt.now in
    let known = g.R.Read.remaining c.args.input.now in
    let n = g.H.Network in
    let source = g.H.Input.Source in
    let sink = g.H.Output.Sink in
    let at : RunWorld = run_world g.H.FileSystem.held g.H.FileSystem.makes (reach_of (n.opens rt) (n.lets_in rt) (n.reaches rt) (n.joins rt) (n.fails rt) (moment_of source.given source.to_come
    sink.taken source.called sink.called source.failed sink.failed)) rt rt known in
    subst (λ (command : Command). IsAnswerTo (asked_by_words command) at c.in_ok-serve_port-in-Serve.field-0) (sym c.in-Serve.is) (c.in_ok-serve_port-in-Serve.ensures.answer known)
