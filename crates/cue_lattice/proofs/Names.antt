-- No kind has a number above the last.
use Rattle.std.proofs.Common.{◌≡◌, ℕ, zero, suc, ◌≤◌, None, arith}
use Rattle.std.proofs.lemmas.Option.{slice_get_past}
use Rattle.cue_lattice.specs.Refusal.{name_at, names}

pub no_name_above : (n : ℕ) → 26 ≤ n → name_at n ≡ None
no_name_above zero h = absurd (omega arith)
no_name_above (suc n) h = slice_get_past names n (omega arith)
