use Rattle.std.proofs.Common.{Bool, not, List, ℕ, ap, ◌∙◌}
use Rattle.std.specs.Str.{bytes_eq}
use Rattle.cue_sets.specs.Texts.{is_text_member}
use Rattle.cue_eval.proofs.Integers.{or_none}
use Rattle.cue_eval.proofs.scalars.other_texts.Goals as goal

pub returns : goal.returns
returns c =
    c.of_texts.ensures (λ t. not (bytes_eq c.args.text.now t))
    (λ t. ap (λ (s : Bool × List (List ℕ)). is_text_member s t) c.in_ok-but.ensures ∙ ap not (or_none (bytes_eq c.args.text.now t)))
