-- The rows that say no more than what may stand: anything, some scalars, a struct, a list, nothing.
use Rattle.std.specs.Prelude.{ℕ, true, false, List, [], ◌∷◌, Option, None}
use Rattle.cue_lattice.specs.Scalar.{least, greatest}
use Rattle.cue_scalars.specs.declared.scalar_set.ScalarSet.{ScalarSet}
use Rattle.cue_row.specs.declared.level.Level.{Level}
use Rattle.cue_row.specs.declared.parts.RowParts.{RowParts as Row}

abbrev pub empty_set : ScalarSet
empty_set = record { null = false; no = false; yes = false; ints = []; texts = (false, []) }

abbrev pub full_set : ScalarSet
full_set = record {
  null = true;
  no = true;
  yes = true;
  ints = (least, greatest) ∷ [];
  texts = (true, []);
}

-- anything may stand
abbrev pub free_row : Level → Row
free_row level = record {
  level = level;
  value = full_set;
  usual = full_set;
  struct_ok = true;
  list_ok = true;
  labels = None;
  least = 0;
  most = None;
}

-- some scalars alone, with the usual ones
abbrev pub scalar_row : Level → ScalarSet → ScalarSet → Row
scalar_row level value usual = record {
  level = level;
  value = value;
  usual = usual;
  struct_ok = false;
  list_ok = false;
  labels = None;
  least = 0;
  most = None;
}

-- these scalars alone, all of them usual
abbrev pub lone_row : Level → ScalarSet → Row
lone_row level set = scalar_row level set set

-- a struct alone, with these labels
abbrev pub struct_row : Level → Option (List (List ℕ)) → Row
struct_row level labels = record {
  level = level;
  value = empty_set;
  usual = empty_set;
  struct_ok = true;
  list_ok = false;
  labels = labels;
  least = 0;
  most = None;
}

-- a list alone, of these lengths
abbrev pub list_row : Level → ℕ → Option ℕ → Row
list_row level least most = record {
  level = level;
  value = empty_set;
  usual = empty_set;
  struct_ok = false;
  list_ok = true;
  labels = None;
  least = least;
  most = most;
}

-- nothing, and which labels and lengths are left out
abbrev pub nothing_row : Level → Option (List (List ℕ)) → ℕ → Option ℕ → Row
nothing_row level labels least most = record {
  level = level;
  value = empty_set;
  usual = empty_set;
  struct_ok = false;
  list_ok = false;
  labels = labels;
  least = least;
  most = most;
}

-- the same row, of this level
abbrev pub at_level : Level → Row → Row
at_level level row = record {
  level = level;
  value = row.value;
  usual = row.usual;
  struct_ok = row.struct_ok;
  list_ok = row.list_ok;
  labels = row.labels;
  least = row.least;
  most = row.most;
}
