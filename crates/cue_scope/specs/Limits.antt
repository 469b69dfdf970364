-- How large a tree is, and how long its paths are.
use Rattle.std.specs.Prelude.{ℕ, ◌+◌, max}
use Rattle.cue_scope.specs.Core.{Core, conjunction, disjunction, struct, close, list, closed, Cores}
use Rattle.cue_scope.specs.Core.{no_cores, core, Elements, ends, goes_on, each, element}
use Rattle.cue_scope.specs.Core.{Choices, no_choices, choice, Members, no_members, member, dots}

-- 1 for each literal, name, operator chain, struct, list, `close`, label, `...` and use of a
-- definition
abbrev mutual
  pub size : Core → ℕ
  size (conjunction cs) = 1 + size_of_cores cs
  size (disjunction cs) = 1 + size_of_choices cs
  size (struct ms) = 1 + size_of_members ms
  size (close ms) = 2 + size_of_members ms
  size (list es) = 1 + size_of_elements es
  size (closed c) = 1 + size c
  size _ = 1

  pub size_of_cores : Cores → ℕ
  size_of_cores no_cores = 0
  size_of_cores (core c cs) = size c + size_of_cores cs

  pub size_of_elements : Elements → ℕ
  size_of_elements ends = 0
  size_of_elements goes_on = 1
  size_of_elements (each c) = 1 + size c
  size_of_elements (element c es) = size c + size_of_elements es

  pub size_of_choices : Choices → ℕ
  size_of_choices no_choices = 0
  size_of_choices (choice marked c cs) = size c + size_of_choices cs

  pub size_of_members : Members → ℕ
  size_of_members no_members = 0
  size_of_members (member l mark c ms) = 1 + size c + size_of_members ms
  size_of_members (dots ms) = 1 + size_of_members ms

-- the steps of the longest path of a declared label or element; what each further element is counts
-- as an element
abbrev mutual
  pub depth : Core → ℕ
  depth (conjunction cs) = depth_of_cores cs
  depth (disjunction cs) = depth_of_choices cs
  depth (struct ms) = depth_of_members ms
  depth (close ms) = depth_of_members ms
  depth (list es) = depth_of_elements es
  depth (closed c) = depth c
  depth _ = 0

  pub depth_of_cores : Cores → ℕ
  depth_of_cores no_cores = 0
  depth_of_cores (core c cs) = max (depth c) (depth_of_cores cs)

  pub depth_of_choices : Choices → ℕ
  depth_of_choices no_choices = 0
  depth_of_choices (choice marked c cs) = max (depth c) (depth_of_choices cs)

  pub depth_of_elements : Elements → ℕ
  depth_of_elements ends = 0
  depth_of_elements goes_on = 0
  depth_of_elements (each c) = 1 + depth c
  depth_of_elements (element c es) = max (1 + depth c) (depth_of_elements es)

  pub depth_of_members : Members → ℕ
  depth_of_members no_members = 0
  depth_of_members (member l mark c ms) = max (1 + depth c) (depth_of_members ms)
  depth_of_members (dots ms) = depth_of_members ms
