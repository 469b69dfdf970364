use Rattle.std.proofs.Common.{◌≡◌, map, take}
use Rattle.cue_owners.specs.Files.{AreRows, rows_of}
use Rattle.cue_owners.specs.Grants.{row_of}
use Rattle.cue_owners.proofs.read.read_lines.Given as goal

-- the lines so far are right, and their grants are read
abbrev pub invariant-loop-i : goal.invariant-loop-i
invariant-loop-i l =
    (map row_of l.grants.items ≡ rows_of (take l.i (map (λ line. line.now) l.lines))) × AreRows (map row_of l.grants.items)
