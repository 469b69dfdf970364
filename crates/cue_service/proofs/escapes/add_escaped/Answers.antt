use Rattle.std.proofs.Common.{◌++◌, ℕ, List, string_bytes, sym, ap, ◌∙◌}
use Rattle.std.specs.List.{flat_map}
use Rattle.std.proofs.lemmas.Iterator.{YieldsList-from_chars}
use Rattle.std.proofs.lemmas.Iterator.Consumers.{YieldsList-end}
use Rattle.cue_service.specs.Escapes.{escaped_char}
use Rattle.cue_service.proofs.Parts.{map_same}
use Rattle.cue_service.proofs.escapes.add_escaped.Goals as goal

pub returns : goal.returns
returns c =
    let t = YieldsList-end (YieldsList-from_chars c.args.text.now c.utf8.text cc) c.loop-c.yielded _ c.loop-c.yielded_by _ _ c.in-None.is c.next.ensures.steps in
    c.loop-c.invariant ∙ ap (λ (l : List ℕ). string_bytes c.args.page.now ++ flat_map escaped_char l) (sym (map_same c.loop-c.yielded) ∙ t.0)
