use Rattle.std.proofs.Common.{◌≡◌, Bool, true, false, cond, refl, sym, ap, ◌∙◌}
use Rattle.std.specs.Prelude.{codes}
use Rattle.std.specs.Str.{bytes_eq}
use Rattle.cue_scope.specs.Core.{top, bottom}
use Rattle.cue_eval.specs.Inner.Known.{named_core}
use Rattle.cue_eval.specs.Sets as sets
use Rattle.cue_eval.specs.Pairs.{pair, plain_pair}
use Rattle.cue_eval.proofs.pair.Pairs.name.Goals as goal

hidden : (b : Bool) → plain_pair sets.no_scalars ≡ pair (cond b top bottom)
hidden true = refl
hidden false = refl

pub returns-in-Hidden : goal.returns-in-Hidden
returns-in-Hidden c =
    c.bottom_value.ensures ∙ hidden (bytes_eq c.in-Hidden.field-0 (codes "_")) ∙ ap (λ n. pair (named_core c.args.self.now n)) (sym c.in-Hidden.is)
