-- Commands that are added to the program.
use Rattle.std.proofs.Common.{◌≡◌, ◌∙◌, ap, ap₂, ◌||◌, Bool}
use Rattle.clap.specs.Built.{AddsSubcommand}
use Rattle.clap.specs.Simple.{App, with_subcommand}
use Rattle.clap.specs.declared.builder.command.Command.{Command}
use Rattle.cue_layers_command.specs.Apps.{IsApp}

pub added : (old sub new : Command) (a b : App) → IsApp a old → IsApp b sub → AddsSubcommand old sub new → IsApp (with_subcommand a b.top) new
added old sub new a b o s h = (h.shape s.1 ∙ ap₂ with_subcommand o.0 (ap (λ (x : App). x.top) s.0), h.globals ∙ ap₂ (λ (p q : Bool). p || q) o.1 s.1)
