-- How many requests were not let in for their token.
use Rattle.std.specs.Prelude.{◌≡◌, ◌+◌, ◌-◌, ◌^◌, ℕ, min}
use Rattle.cue_doors.specs.declared.guarded.KeyRefusals.{KeyRefusals}
use Rattle.cue_doors.specs.declared.keys.KeyRefusal.{KeyRefusal}
use Rattle.cue_doors.specs.declared.keys.KeyRefusal.TheVariants.{Unauthorized, Forbidden}

-- one more, or the greatest number of 64 bits
abbrev pub one_more : ℕ → ℕ
one_more n = min (n + 1) (2 ^ 64 - 1)

-- there is one more of this kind, and as many of the other
abbrev pub IsCounted : KeyRefusal → KeyRefusals → KeyRefusals → Type 0
IsCounted Unauthorized old new = new ≡ record old { unauthorized = one_more old.unauthorized }
IsCounted Forbidden old new = new ≡ record old { forbidden = one_more old.forbidden }
