use Rattle.std.proofs.Common.{All, string_bytes, take}
use Rattle.cue_doors.specs.Hosts.{Names}
use Rattle.cue_doors.proofs.doors.names_one.Given as goal

-- none of the hosts so far is named
abbrev pub invariant-loop-host : goal.invariant-loop-host
invariant-loop-host l = All (λ host. ¬ Names (string_bytes host) l.field) (take l.host-index l.hosts)
