use Rattle.std.proofs.Common.{◌≡◌, take}
use Rattle.cue_wire.specs.Clients.{all_items}
use Rattle.cue_net.specs.Inner.Told.{IsFound}
use Rattle.cue_net.proofs.told.first_refusal.Given as goal

-- the first refusal among the replies so far
abbrev pub invariant-loop-reply : goal.invariant-loop-reply
invariant-loop-reply l = record {
  found : IsFound (all_items (take l.reply-index l.replies)) l.first;
  counted : l.number ≡ l.reply-index;
}
