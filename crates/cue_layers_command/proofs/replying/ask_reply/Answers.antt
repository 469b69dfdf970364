use Rattle.std.proofs.Common.{List, Option, ℕ, Bor, IfOk, option_map, subst, sym}
use Rattle.cue_program.specs.Files.{texts_of_files}
use Rattle.cue_layers_command.specs.Runs.{layers_run_world}
use Rattle.cue_layers_command.specs.Words.{asking}
use Rattle.cue_layers_command.specs.inner.Replies.{IsReplyTo}
use Rattle.cue_layers_command.proofs.replying.ask_reply.Goals as goal

pub returns-in-Some-clause-reply : goal.returns-in-Some-clause-reply
returns-in-Some-clause-reply g c =
    subst (λ (place : Option (Bor (List ℕ))). (known : Option (List ℕ)) → IfOk c.place_reply.result
    (IsReplyTo (asking c.args.question (option_map (λ p. p.now) place) (texts_of_files c.args.files.now) c.args.limit)
    (layers_run_world g.H.FileSystem.held g.H.FileSystem.makes c.args.rt.now c.args.rt.now known)))
    (sym c.in-Some.is) c.place_reply.ensures.reply
