use Rattle.std.proofs.Common.{List, Bor, ℕ, IfOk, option_map, subst, sym}
use Rattle.cue_program.specs.Files.{texts_of_files}
use Rattle.cue_layers_command.specs.declared.command.LayersCommand.{LayersCommand}
use Rattle.cue_layers_command.specs.Runs.{LayersRunWorld, layers_run_world}
use Rattle.cue_layers_command.specs.Words.{asked_by_arguments, asking, listing, merging, tracing}
use Rattle.cue_layers_command.specs.inner.Replies.{IsReplyTo}
use Rattle.cue_layers_command.proofs.replying.reply_for.Goals as goal

pub returns-in-Remove-clause-reply : goal.returns-in-Remove-clause-reply
returns-in-Remove-clause-reply g c =
    let known = g.R.Read.remaining c.args.input.now in
    let at : LayersRunWorld = layers_run_world g.H.FileSystem.held g.H.FileSystem.makes c.args.rt.now c.remove_reply.new.rt known in
    subst (λ (command : LayersCommand). IfOk c.remove_reply.result (IsReplyTo (asked_by_arguments command) at)) (sym c.in-Remove.is) (c.remove_reply.ensures.reply known)

pub returns-in-Merge-clause-reply : goal.returns-in-Merge-clause-reply
returns-in-Merge-clause-reply g c =
    let known = g.R.Read.remaining c.args.input.now in
    let at : LayersRunWorld = layers_run_world g.H.FileSystem.held g.H.FileSystem.makes c.args.rt.now c.merge_reply.new.rt known in
    subst (λ (command : LayersCommand). IfOk c.merge_reply.result (IsReplyTo (asked_by_arguments command) at)) (sym c.in-Merge.is)
    (subst (λ (files : List (Bor (List ℕ))). IfOk c.merge_reply.result (IsReplyTo (merging c.in-Merge.out.now (texts_of_files files)) at)) c.deref-in-Merge.ensures.value (c.merge_reply.ensures.reply known))

pub returns-in-Ask-clause-reply : goal.returns-in-Ask-clause-reply
returns-in-Ask-clause-reply g c =
    let known = g.R.Read.remaining c.args.input.now in
    let at : LayersRunWorld = layers_run_world g.H.FileSystem.held g.H.FileSystem.makes c.args.rt.now c.args.rt.now known in
    subst (λ (command : LayersCommand). IfOk c.ask_reply.result (IsReplyTo (asked_by_arguments command) at)) (sym c.in-Ask.is)
    (subst (λ (files : List (Bor (List ℕ))). IfOk c.ask_reply.result (IsReplyTo (asking c.in-Ask.question (option_map (λ p. p.now) c.in-Ask.place) (texts_of_files files) c.in-Ask.limit) at)) c.deref-in-Ask.ensures.value (c.ask_reply.ensures.reply known))

pub returns-in-List-clause-reply : goal.returns-in-List-clause-reply
returns-in-List-clause-reply g c =
    let known = g.R.Read.remaining c.args.input.now in
    let at : LayersRunWorld = layers_run_world g.H.FileSystem.held g.H.FileSystem.makes c.args.rt.now c.args.rt.now known in
    subst (λ (command : LayersCommand). IfOk c.list_reply.result (IsReplyTo (asked_by_arguments command) at)) (sym c.in-List.is)
    (subst (λ (files : List (Bor (List ℕ))). IfOk c.list_reply.result (IsReplyTo (listing (texts_of_files files)) at)) c.deref-in-List.ensures.value (c.list_reply.ensures.reply known))

pub returns-in-Show-clause-reply : goal.returns-in-Show-clause-reply
returns-in-Show-clause-reply g c =
    let known = g.R.Read.remaining c.args.input.now in
    let at : LayersRunWorld = layers_run_world g.H.FileSystem.held g.H.FileSystem.makes c.args.rt.now c.args.rt.now known in
    subst (λ (command : LayersCommand). IfOk c.show_reply.result (IsReplyTo (asked_by_arguments command) at)) (sym c.in-Show.is) (c.show_reply.ensures.reply known)

pub returns-in-Why-clause-reply : goal.returns-in-Why-clause-reply
returns-in-Why-clause-reply g c =
    let known = g.R.Read.remaining c.args.input.now in
    let at : LayersRunWorld = layers_run_world g.H.FileSystem.held g.H.FileSystem.makes c.args.rt.now c.args.rt.now known in
    subst (λ (command : LayersCommand). IfOk c.why_reply.result (IsReplyTo (asked_by_arguments command) at)) (sym c.in-Why.is)
    (subst (λ (files : List (Bor (List ℕ))). IfOk c.why_reply.result (IsReplyTo (tracing c.in-Why.path.now (texts_of_files files)) at)) c.deref-in-Why.ensures.value (c.why_reply.ensures.reply known))
