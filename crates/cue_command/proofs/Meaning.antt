-- What `clap`'s answers say of what is asked for.
use Rattle.std.proofs.Common.{◌≡◌, ◌∙◌, true, inl, inr, List, [], ◌∷◌, map, None, refl, sym, ap, subst, String, Global, string_bytes}
use Rattle.std.specs.Prelude.{option_and_then}
use Rattle.std.proofs.lemmas.Str.{IsUtf8-string_bytes}
use Rattle.clap.specs.Faults.{fault_of, is_simple_and_free}
use Rattle.clap.specs.Kinds.{HasKind, IsAmong, Kinds}
use Rattle.clap.specs.Simple.{App, HasMatchesOf, is_simple, subcommand_of, subcommand_rows_of}
use Rattle.clap.specs.Values.{kind_of}
use Rattle.clap.specs.Walk.{Row, Text}
use Rattle.clap.specs.declared.error.Error.{Error}
use Rattle.clap.specs.declared.error.kind.ErrorKind.TheVariants.{OutOfMemory}
use Rattle.clap.specs.declared.parser.matches.ArgMatches.{ArgMatches}
use Rattle.cue_command.specs.inner.Apps.{store}
use Rattle.cue_command.specs.inner.Rows.{meaning_of_rows}
use Rattle.cue_command.specs.Words.{meaning_of_words}
use Rattle.cue_command.proofs.Machines.{AllText}
use Rattle.cue_command.proofs.Tops.{agrees}
use Rattle.cue_command.proofs.Walking.{IsFault}

pub all_text : (words : List (String Global)) → AllText (map string_bytes words)
all_text [] = tt
all_text (word ∷ words) = (IsUtf8-string_bytes word, all_text words)

store_is_simple : is_simple store ≡ true
store_is_simple = refl

store_is_free : is_simple_and_free store ≡ true
store_is_free = refl

no_fault : (a : Kinds) → a ≡ [] → IsFault a → ⊥
no_fault a e f = subst IsFault e f

-- where `clap` finds matches
pub found_is : (app : App) (words : List Text) (m : ArgMatches) → app ≡ store → AllText words → (is_simple_and_free app ≡ true → fault_of app words ≡ []) → HasMatchesOf app words m
    → meaning_of_words words ≡ option_and_then (λ p. meaning_of_rows p.0 p.1) (subcommand_rows_of m)
found_is app words m is text passes has = elim (agrees words text) [
  | inl a ↦ a.1 ∙ sym (ap (λ o. option_and_then (λ (p : Text × List Row). meaning_of_rows p.0 p.1) o) ((has (ap is_simple is ∙ store_is_simple)).1 ∙ ap (λ (x : App). subcommand_of x words) is))
  | inr b ↦ absurd (no_fault (fault_of store words) (ap (λ (x : App). fault_of x words) (sym is) ∙ passes (ap is_simple_and_free is ∙ store_is_free)) b.0)
]

none_among : (e : Error) (a : Kinds) → a ≡ [] → IsAmong (kind_of e) a → ⊥
none_among e a is among = subst (IsAmong (kind_of e)) is among

-- where it refuses the words
pub refused_is : (app : App) (words : List Text) (e : Error) → app ≡ store → AllText words → (is_simple_and_free app ≡ true → HasKind (fault_of app words) e) → (kind_of e ≡ OutOfMemory → ⊥)
    → meaning_of_words words ≡ None
refused_is app words e is text has not_memory = elim (agrees words text) [
  | inl a ↦ absurd (elim (has (ap is_simple_and_free is ∙ store_is_free)) [
    | inl m ↦ not_memory m
    | inr among ↦ none_among e (fault_of app words) (ap (λ (x : App). fault_of x words) is ∙ a.0) among
  ])
  | inr b ↦ b.1
]
