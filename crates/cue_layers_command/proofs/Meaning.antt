-- What `clap`'s answers say of what is asked for.
use Rattle.std.proofs.Common.{◌≡◌, ◌∙◌, true, inl, inr, List, [], ◌∷◌, Option, None, refl, sym, ap, subst}
use Rattle.std.specs.Prelude.{option_and_then}
use Rattle.clap.specs.Faults.{fault_of, is_simple_and_free}
use Rattle.clap.specs.Kinds.{HasKind, IsAmong, Kinds}
use Rattle.clap.specs.Simple.{App, HasMatchesOf, is_simple, subcommand_of, subcommand_rows_of}
use Rattle.clap.specs.Values.{kind_of}
use Rattle.clap.specs.Walk.{Row, Text}
use Rattle.clap.specs.declared.error.Error.{Error}
use Rattle.clap.specs.declared.error.kind.ErrorKind.TheVariants.{OutOfMemory}
use Rattle.clap.specs.declared.parser.matches.ArgMatches.{ArgMatches}
use Rattle.cue_layers_command.specs.Apps.{layers}
use Rattle.cue_layers_command.specs.Words.{meaning_of_arguments, asked_where, meaning_of_argument_rows}

layers_are_simple : is_simple layers ≡ true
layers_are_simple = refl

layers_are_free : is_simple_and_free layers ≡ true
layers_are_free = refl

-- where `clap` finds matches
pub found_is : (app : App) (words : List Text) (m : ArgMatches) → app ≡ layers → (is_simple_and_free app ≡ true → fault_of app words ≡ []) → HasMatchesOf app words m
    → meaning_of_arguments words ≡ option_and_then (λ p. meaning_of_argument_rows p.0 p.1) (subcommand_rows_of m)
found_is app words m is passes has =
    ap (λ (faults : Kinds). asked_where faults (subcommand_of layers words))
    (ap (λ (x : App). fault_of x words) (sym is) ∙ passes (ap is_simple_and_free is ∙ layers_are_free))
    ∙ sym (ap (λ o. option_and_then (λ (p : Text × List Row). meaning_of_argument_rows p.0 p.1) o) ((has (ap is_simple is ∙ layers_are_simple)).1 ∙ ap (λ (x : App). subcommand_of x words) is))

none_asked : (e : Error) (faults : Kinds) (found : Option (Text × List Row)) → IsAmong (kind_of e) faults → asked_where faults found ≡ None
none_asked e [] found among = absurd among
none_asked e (k ∷ ks) found among = refl

-- where it refuses the words
pub refused_is : (app : App) (words : List Text) (e : Error) → app ≡ layers → (is_simple_and_free app ≡ true → HasKind (fault_of app words) e) → (kind_of e ≡ OutOfMemory → ⊥)
    → meaning_of_arguments words ≡ None
refused_is app words e is has not_memory = elim (has (ap is_simple_and_free is ∙ layers_are_free)) [
  | inl m ↦ absurd (not_memory m)
  | inr among ↦ none_asked e (fault_of layers words) (subcommand_of layers words) (subst (IsAmong (kind_of e)) (ap (λ (x : App). fault_of x words) is) among)
]
