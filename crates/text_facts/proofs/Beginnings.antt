-- What a text begins with, white space and comments apart.
use Rattle.std.proofs.Common.{◌≡◌, true, false, [], refl}
use Rattle.std.specs.Prelude.{codes}
use Rattle.cue_lex.specs.First.{begins_some}
use Rattle.text_facts.proofs.OnLiterals.{lexed}

-- a quote counts, whether or not its string ends
begins_with_a_token_or_a_quote : (begins_some (codes "a;") ≡ true) × (begins_some (codes " \n// b\n1") ≡ true) × (begins_some (codes "\"") ≡ true) × (begins_some (codes "//\n,") ≡ true)
unfolding lexed begins_some
begins_with_a_token_or_a_quote = (refl, refl, refl, refl)

begins_with_neither : (begins_some [] ≡ false) × (begins_some (codes " // a") ≡ false) × (begins_some (codes "; a") ≡ false) × (begins_some (codes "\n01 a") ≡ false) × (begins_some (codes "#1 a") ≡ false)
unfolding lexed begins_some
begins_with_neither = (refl, refl, refl, refl, refl)
