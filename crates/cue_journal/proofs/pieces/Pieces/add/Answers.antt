use Rattle.std.proofs.Common.{◌∷◌, ◌++◌, [], ℕ, List, ap, ◌∙◌, arith}
use Rattle.cue_journal.proofs.Sound.{sound_more}
use Rattle.cue_journal.proofs.pieces.Pieces.add.Goals as goal

pub invariant_of-self-2 : goal.invariant_of-self-2
invariant_of-self-2 c =
    sound_more c.self.inside.given_up c.self.inside.size c.in-Some.size c.self.inside.kept.items c.push_back.new.self.items (c.args.first ∷ c.args.rest.now) c.self.invariant
    (omega arith) (omega arith) (omega arith)
    (c.in_ok-push_back.ensures.items ∙ ap (λ (e : List ℕ). c.self.inside.kept.items ++ e ∷ []) c.in_ok-entry.ensures)
