-- Where something stands in a document: a list of steps, each a label or an index. The root is the
-- empty path.
use Rattle.std.specs.Prelude.{ℕ, List}
use Rattle.std.specs.declared.cmp.Ordering.{Ordering}
use Rattle.std.specs.declared.cmp.Ordering.TheVariants.{Less, Greater}
use Rattle.std.specs.Ordering.{nat_cmp}
use Rattle.std.specs.Cmp.Lexicographic.{slice_cmp}

pub data Step : Type 0 where
  label : List ℕ → Step
  index : ℕ → Step

-- labels before indexes, labels by their bytes, indexes by number
abbrev pub step_cmp : Step → Step → Ordering
step_cmp (label l) (label m) = slice_cmp nat_cmp l m
step_cmp (label l) (index n) = Less
step_cmp (index n) (label l) = Greater
step_cmp (index m) (index n) = nat_cmp m n

abbrev pub Path : Type 0
Path = List Step

-- step by step, a path before those that it begins
abbrev pub path_cmp : Path → Path → Ordering
path_cmp = slice_cmp step_cmp
