use Rattle.std.proofs.Common.{◌≡◌, ◌↔◌, ◌<◌, ℕ, IsTrue, length}
use Rattle.std.specs.Prelude.{slice_index}
use Rattle.cue_owners.proofs.bearer.same_bytes.Given as goal

abbrev pub invariant-loop-i : goal.invariant-loop-i
invariant-loop-i l = (IsTrue l.same ↔ ((k : ℕ) → k < l.i → slice_index l.a k ≡ slice_index l.b k)) × (length l.a ≡ length l.b)
