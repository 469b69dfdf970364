use Rattle.cue_table.proofs.many.+unify_next.Given as goal

-- proposed from what the function passes where it calls itself
abbrev pub decreases-unify_next : goal.decreases-unify_next
decreases-unify_next g l = l.count
