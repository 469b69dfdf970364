use Rattle.std.proofs.Common.{string_bytes}
use Rattle.cue_service.specs.Pages.{IsPage}
use Rattle.cue_service.proofs.page.add_peers.Given as goal

abbrev pub invariant-loop-source : goal.invariant-loop-source
invariant-loop-source l = IsPage (string_bytes l.fn.text) → IsPage (string_bytes l.text)
