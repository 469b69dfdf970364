use Rattle.std.proofs.Common.{◌≡◌, Bool, true, false, cond, List, ℕ, None, refl, sym, ap, ◌∙◌}
use Rattle.std.specs.Option.{option_map_or}
use Rattle.std.specs.Prelude.{codes}
use Rattle.std.specs.Str.{bytes_eq}
use Rattle.std.proofs.lemmas.Slice.Eq.{bytes_eq-Decides}
use Rattle.cue_scope.specs.Core.{truth, null, named, bottom}
use Rattle.cue_scope.specs.Meaning.{meant_word}
use Rattle.cue_scope.specs.Named.{named_of}
use Rattle.cue_eval.specs.Sets as sets
use Rattle.cue_eval.specs.Pairs.{pair, plain_pair}
use Rattle.cue_eval.proofs.pair.value_of_word.Goals as goal

apart : (t u : List ℕ) → ¬ (t ≡ u) → bytes_eq t u ≡ false
apart t u other = by (bytes_eq t u) refl where
  by : (b : Bool) → bytes_eq t u ≡ b → b ≡ false
  by true e = absurd (other ((bytes_eq-Decides t u).0 e))
  by false e = refl

-- a word that names neither a scalar nor a set means nothing
unnamed : (t : List ℕ) → ¬ (t ≡ codes "true") → ¬ (t ≡ codes "false") → ¬ (t ≡ codes "null") → named_of t ≡ None → pair (meant_word t) ≡ plain_pair sets.no_scalars
unnamed t no_true no_false no_null none =
    ap (λ b. pair (cond b (truth true) (cond (bytes_eq t (codes "false")) (truth false) (cond (bytes_eq t (codes "null")) null (option_map_or named (named_of t) bottom))))) (apart t (codes "true") no_true)
    ∙ ap (λ b. pair (cond b (truth false) (cond (bytes_eq t (codes "null")) null (option_map_or named (named_of t) bottom)))) (apart t (codes "false") no_false)
    ∙ ap (λ b. pair (cond b null (option_map_or named (named_of t) bottom))) (apart t (codes "null") no_null)
    ∙ ap (λ n. pair (option_map_or named n bottom)) none

pub returns-in-true : goal.returns-in-true
returns-in-true c = c.truth_alone.ensures ∙ ap (λ t. pair (meant_word t)) (sym c.in-true.is)

pub returns-in-false : goal.returns-in-false
returns-in-false c = c.truth_alone-in-false.ensures ∙ ap (λ t. pair (meant_word t)) (sym c.in-false.is)

pub returns-in-null : goal.returns-in-null
returns-in-null c = c.null_alone.ensures ∙ ap (λ t. pair (meant_word t)) (sym c.in-null.is)

pub returns-in-None : goal.returns-in-None
returns-in-None c =
    c.bottom_value.ensures ∙ sym (unnamed c.args.name.now c.in_default.not-true c.in_default.not-false c.in_default.not-null (sym c.in-None.ensures))
