use Rattle.std.proofs.Common.{◌∙◌, ap, ap₂, ◌||◌, Bool}
use Rattle.std.proofs.lemmas.Result.{IfOk-weaker}
use Rattle.clap.specs.Built.{AddsSubcommand}
use Rattle.clap.specs.Simple.{App, with_subcommand}
use Rattle.clap.specs.declared.builder.command.Command.{Command}
use Rattle.cue_command.specs.inner.Apps.{IsApp}
use Rattle.cue_command.proofs.app.store.Goals as goal

added : (old sub new : Command) (a b : App) → IsApp a old → IsApp b sub → AddsSubcommand old sub new → IsApp (with_subcommand a b.top) new
added old sub new a b o s h = (h.shape s.1 ∙ ap₂ with_subcommand o.0 (ap (λ (x : App). x.top) s.0), h.globals ∙ ap₂ (λ (p q : Bool). p || q) o.1 s.1)

pub returns : goal.returns
returns c =
    let one = added c.base_app.result c.in_ok-export.export c.in_ok-subcommand.field-0 _ _ c.base_app.ensures c.in_ok-export.ensures c.in_ok-subcommand.ensures in
    let two = added _ c.in_ok-print.print c.in_ok-subcommand-2.field-0 _ _ one c.in_ok-print.ensures c.in_ok-subcommand-2.ensures in
    let three = added _ c.in_ok-report.report c.in_ok-subcommand-3.field-0 _ _ two c.in_ok-report.ensures c.in_ok-subcommand-3.ensures in
    let four = added _ c.in_ok-state.state c.in_ok-asking.asking _ _ three c.in_ok-state.ensures c.in_ok-asking.ensures in
    let five = added _ c.in_ok-merge.merge c.in_ok-subcommand-4.field-0 _ _ four c.in_ok-merge.ensures c.in_ok-subcommand-4.ensures in
    let six = added _ c.in_ok-serve.serve c.in_ok-subcommand-5.field-0 _ _ five c.in_ok-serve.ensures c.in_ok-subcommand-5.ensures in
    let seven = added _ c.in_ok-push.push c.in_ok-subcommand-6.field-0 _ _ six c.in_ok-push.ensures c.in_ok-subcommand-6.ensures in
    IfOk-weaker c.subcommand-8.result _ _ (λ r h. added _ c.in_ok-both.both r _ _ seven c.in_ok-both.ensures h) c.subcommand-8.ensures
