-- A list has no more elements than the expression is large.
use Rattle.std.proofs.Common.{ℕ, zero, suc, ◌<◌, ◌≤◌, inl, inr, List, [], ◌∷◌, arith}
use Rattle.cue_lattice.specs.Path.{Path, label, index}
use Rattle.cue_lattice.specs.Question.{length_at_most}
use Rattle.cue_scope.specs.Core.{Core, top, conjunction, struct, close, list, closed, Cores, no_cores, core, Members, no_members, member, dots, Elements, ends, goes_on, each, element}
use Rattle.cue_scope.specs.Limits.{size, size_of_cores, size_of_members, size_of_elements}
use Rattle.cue_eval.specs.Refuses.{PartsRefuse, FieldRefuses, ElementRefuses, count_of_elements}
use Rattle.cue_eval.specs.Validity.{LengthsAreWithinSize}

some_size : (c : Core) → 1 ≤ size c
some_size (conjunction cs) = omega arith
some_size (struct ms) = omega arith
some_size (close ms) = omega arith
some_size (list es) = omega arith
some_size (closed c) = omega arith
some_size _ = omega arith

no_more_elements : (es : Elements) → count_of_elements es ≤ size_of_elements es
no_more_elements ends = omega arith
no_more_elements goes_on = omega arith
no_more_elements (each c) = omega arith
no_more_elements (element c es) = let here = some_size c in let rest = no_more_elements es in omega (arith, here, rest)

mutual
  pub lengths_within_size : LengthsAreWithinSize
  lengths_within_size (conjunction cs) path n h = let all = parts_within_size cs path n h in omega (arith, all)
  lengths_within_size (struct ms) [] n h = absurd h
  lengths_within_size (struct ms) (label l ∷ path) n h = let all = field_within_size ms l path n h in omega (arith, all)
  lengths_within_size (struct ms) (index i ∷ path) n h = absurd h
  lengths_within_size (close ms) [] n (inl h) = absurd h
  lengths_within_size (close ms) [] n (inr h) = absurd h
  lengths_within_size (close ms) (label l ∷ path) n (inl h) = let all = field_within_size ms l path n h in omega (arith, all)
  lengths_within_size (close ms) (label l ∷ path) n (inr h) = absurd h
  lengths_within_size (close ms) (index i ∷ path) n (inl h) = absurd h
  lengths_within_size (close ms) (index i ∷ path) n (inr h) = absurd h
  lengths_within_size (list es) [] n h = let all = no_more_elements es in omega (arith, all, h)
  lengths_within_size (list es) (label l ∷ path) n h = absurd h
  lengths_within_size (list es) (index i ∷ path) n h = let all = element_within_size es i path n h in omega (arith, all)
  lengths_within_size (closed c) path n (inl h) = let all = lengths_within_size c path n h in omega (arith, all)
  lengths_within_size (closed c) path n (inr h) = absurd h
  lengths_within_size top path n h = absurd h
  lengths_within_size _ [] n h = absurd h
  lengths_within_size _ (step ∷ path) n h = absurd h

  parts_within_size : (cs : Cores) (path : Path) (n : ℕ) → PartsRefuse cs path (length_at_most n) → n < size_of_cores cs
  parts_within_size no_cores path n h = absurd h
  parts_within_size (core c cs) path n (inl h) = let here = lengths_within_size c path n h in omega (arith, here)
  parts_within_size (core c cs) path n (inr h) = let rest = parts_within_size cs path n h in omega (arith, rest)

  field_within_size : (ms : Members) (l : List ℕ) (path : Path) (n : ℕ) → FieldRefuses ms l path (length_at_most n) → n < size_of_members ms
  field_within_size no_members l path n h = absurd h
  field_within_size (dots ms) l path n h = let rest = field_within_size ms l path n h in omega (arith, rest)
  field_within_size (member k mark c ms) l [] n (inl (e, inl h)) = absurd h
  field_within_size (member k mark c ms) l (step ∷ path) n (inl (e, inl h)) = absurd h
  field_within_size (member k mark c ms) l path n (inl (e, inr h)) = let here = lengths_within_size c path n h in omega (arith, here)
  field_within_size (member k mark c ms) l path n (inr h) = let rest = field_within_size ms l path n h in omega (arith, rest)

  element_within_size : (es : Elements) (i : ℕ) (path : Path) (n : ℕ) → ElementRefuses es i path (length_at_most n) → n < size_of_elements es
  element_within_size ends i path n h = absurd h
  element_within_size goes_on i path n h = absurd h
  element_within_size (each c) i path n h = let here = lengths_within_size c path n h in omega (arith, here)
  element_within_size (element c es) zero path n h = let here = lengths_within_size c path n h in omega (arith, here)
  element_within_size (element c es) (suc i) path n h = let rest = element_within_size es i path n h in omega (arith, rest)
