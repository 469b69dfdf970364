use Rattle.std.proofs.Common.{Bool, List, ℕ, ap, ◌∙◌}
use Rattle.std.specs.Str.{bytes_eq}
use Rattle.cue_sets.specs.Texts.{is_text_member}
use Rattle.cue_eval.proofs.Integers.{or_none}
use Rattle.cue_eval.proofs.scalars.text_alone.Goals as goal

pub returns : goal.returns
returns c =
    c.of_texts.ensures (λ t. bytes_eq c.args.text.now t) (λ t. ap (λ (s : Bool × List (List ℕ)). is_text_member s t) c.in_ok-one.ensures ∙ or_none (bytes_eq c.args.text.now t))
