use Rattle.std.proofs.Common.{◌≡◌, ℕ, List, [], ◌∷◌, length, sym, ap, ◌∙◌, refl, arith}
use Rattle.cue_service.specs.Entries.{piece_of_entry}
use Rattle.cue_service.proofs.entries.parts_of.Goals as goal

no_bytes : (l : List ℕ) → length l ≡ 0 → l ≡ []
no_bytes [] none = refl
no_bytes (x ∷ l) none = absurd (omega (arith, none))

pub returns-in-Some : goal.returns-in-Some
returns-in-Some c = c.piece_kind.ensures c.in-Some.rest.now ∙ ap piece_of_entry (sym c.in-Some.ensures.cases.0)

pub returns-in-None : goal.returns-in-None
returns-in-None c = ap piece_of_entry (sym (no_bytes c.args.entry.now c.in-None.ensures.cases))
