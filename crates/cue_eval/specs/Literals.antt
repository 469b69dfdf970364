-- Which struct literals stand at a path of an expression, and which labels they leave out where
-- they are closed.
use Rattle.std.specs.Prelude.{◌≡◌, ◌≢◌, ℕ, zero, suc, Bool, true, false, ◌||◌, cond, List, [], ◌∷◌}
use Rattle.std.specs.Prelude.{◌++◌}
use Rattle.std.specs.List.{list_any}
use Rattle.std.specs.Str.{bytes_eq}
use Rattle.cue_lattice.specs.Path.{Path, label, index}
use Rattle.cue_scope.specs.Core.{Core, conjunction, struct, close, list, closed, Cores, no_cores}
use Rattle.cue_scope.specs.Core.{core, Elements, ends, goes_on, each, element, Members}
use Rattle.cue_scope.specs.Core.{no_members, member, dots}

-- it has a declaration of this label, with any mark
abbrev pub has_declaration : List ℕ → Members → Bool
has_declaration l no_members = false
has_declaration l (member k mark c ms) = bytes_eq k l || has_declaration l ms
has_declaration l (dots ms) = has_declaration l ms

-- it has a `...`
abbrev pub has_dots : Members → Bool
has_dots no_members = false
has_dots (member k mark c ms) = has_dots ms
has_dots (dots ms) = true

-- a struct literal stands at its own place, and below it what its declarations say
abbrev pub with_fields : Members → (List ℕ → Path → List Members) → Path → List Members
with_fields ms fields [] = ms ∷ []
with_fields ms fields (label l ∷ path) = fields l path
with_fields ms fields (index i ∷ path) = []

abbrev pub with_elements : (ℕ → Path → List Members) → Path → List Members
with_elements elements [] = []
with_elements elements (label l ∷ path) = []
with_elements elements (index i ∷ path) = elements i path

-- the struct literals that are written at a path: by all parts of `&`, also in the bodies of
-- definitions and in `close`
abbrev mutual
  pub literals : Core → Path → List Members
  literals (conjunction cs) path = literals_of_parts cs path
  literals (struct ms) path = with_fields ms (literals_of_field ms) path
  literals (close ms) path = with_fields ms (literals_of_field ms) path
  literals (list es) path = with_elements (literals_of_element es) path
  literals (closed c) path = literals c path
  literals _ path = []

  pub literals_of_parts : Cores → Path → List Members
  literals_of_parts no_cores path = []
  literals_of_parts (core c cs) path = literals c path ++ literals_of_parts cs path

  -- those at a path below a label, in each declaration of this label
  pub literals_of_field : Members → List ℕ → Path → List Members
  literals_of_field no_members l path = []
  literals_of_field (member k mark c ms) l path =
      cond (bytes_eq k l) (literals c path) [] ++ literals_of_field ms l path
  literals_of_field (dots ms) l path = literals_of_field ms l path

  -- those at a path below an index
  pub literals_of_element : Elements → ℕ → Path → List Members
  literals_of_element ends i path = []
  literals_of_element goes_on i path = []
  literals_of_element (each c) i path = literals c path
  literals_of_element (element c es) zero path = literals c path
  literals_of_element (element c es) (suc i) path = literals_of_element es i path

-- Some struct literals are written, none of them has a `...`, and none declares the label.
pub record LeaveOut (written : List Members) (l : List ℕ) : Type 0 where
  pub some : written ≢ []
  pub without_dots : list_any has_dots written ≡ false
  pub undeclared : list_any (has_declaration l) written ≡ false
