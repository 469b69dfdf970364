use Rattle.std.proofs.Common.{◌≡◌, ◌&&◌, not, ℕ, List}
use Rattle.std.specs.List.{list_all}
use Rattle.std.specs.Vec.Iter.{into_iter_items}
use Rattle.cue_sets.specs.Texts.{is_listed, is_text_member}
use Rattle.cue_sets.proofs.text_set.TextSet.gather_lacked.Given as goal

-- what is found and what is left have in common what all have
abbrev pub invariant-loop-set : goal.invariant-loop-set
invariant-loop-set l =
    (text : List ℕ) → ((not (is_listed l.texts.items text) && is_text_member l.others text) && list_all (λ set. is_text_member set text) (into_iter_items l.set-iterator))
    ≡ list_all (λ set. is_text_member set text) l.fn.sets.items
