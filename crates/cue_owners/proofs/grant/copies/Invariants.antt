use Rattle.std.proofs.Common.{◌≡◌, map, take}
use Rattle.cue_owners.proofs.grant.copies.Given as goal

-- the words so far are copied
abbrev pub invariant-loop-word : goal.invariant-loop-word
invariant-loop-word l = map (λ one. one.items) l.all.items ≡ map (λ word. word.now) (take l.word-index l.words)
