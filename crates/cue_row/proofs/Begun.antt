-- Texts that are written to.
use Rattle.std.proofs.Common.{◌≡◌, Result, Ok, Err, ℕ, List, ◌++◌, append_assoc, ap, ◌∙◌}
use Rattle.std.specs.Prelude.{OnErr}
use Rattle.cue_row.specs.Begun.{StillBegins}

-- this was written
pub begins_more : (before after more : List ℕ) → after ≡ before ++ more → StillBegins before after
begins_more before after more e = (more, e)

-- one after the other
pub begins_on : (before between after : List ℕ) → StillBegins before between → StillBegins between after → StillBegins before after
begins_on before between after h k = (h.0 ++ k.0, k.1 ∙ ap (λ (t : List ℕ). t ++ k.0) h.1 ∙ append_assoc before h.0 k.0)

-- what holds anyhow holds after a refusal
pub on_err : {T E : Type 0} (r : Result T E) {P : Type 0} → P → OnErr r P
on_err (Ok x) p = tt
on_err (Err e) p = p
