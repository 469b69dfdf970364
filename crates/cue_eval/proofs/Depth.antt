-- What is refused stands at a path with no more steps than the expression is deep.
use Rattle.std.proofs.Common.{ℕ, zero, suc, ◌≤◌, inl, inr, List, [], ◌∷◌, length, arith}
use Rattle.cue_lattice.specs.Path.{Path, label, index}
use Rattle.cue_lattice.specs.Question as questions
use Rattle.cue_lattice.specs.Question.{Question}
use Rattle.cue_scope.specs.Core.{top, conjunction, struct, close, list, closed, Cores, no_cores, core, Members, no_members, member, dots, Elements, ends, goes_on, each, element}
use Rattle.cue_scope.specs.Limits.{depth_of_cores, depth_of_elements, depth_of_members}
use Rattle.cue_eval.specs.Refuses.{PartsRefuse, FieldRefuses, ElementRefuses}
use Rattle.cue_eval.specs.Origins.{PathsAreWithinDepth}
use Rattle.cue_eval.proofs.Places.{closed_below}

mutual
  pub paths_within_depth : PathsAreWithinDepth
  paths_within_depth (conjunction cs) path question h = parts_within_depth cs path question h
  paths_within_depth (struct ms) [] question h = omega arith
  paths_within_depth (struct ms) (label l ∷ path) question h = field_within_depth ms l path question h
  paths_within_depth (struct ms) (index i ∷ path) question h = absurd h
  paths_within_depth (close ms) [] question h = omega arith
  paths_within_depth (close ms) (label l ∷ path) question (inl h) = field_within_depth ms l path question h
  paths_within_depth (close ms) (label l ∷ path) question (inr h) = absurd h
  paths_within_depth (close ms) (index i ∷ path) question (inl h) = absurd h
  paths_within_depth (close ms) (index i ∷ path) question (inr h) = absurd h
  paths_within_depth (list es) [] question h = omega arith
  paths_within_depth (list es) (label l ∷ path) question h = absurd h
  paths_within_depth (list es) (index i ∷ path) question h = element_within_depth es i path question h
  paths_within_depth (closed c) path question (inl h) = paths_within_depth c path question h
  paths_within_depth (closed c) path question (inr h) = paths_within_depth c path questions.list (closed_below c path question h)
  paths_within_depth top path question h = absurd h
  paths_within_depth _ [] question h = omega arith
  paths_within_depth _ (step ∷ path) question h = absurd h

  parts_within_depth : (cs : Cores) (path : Path) (question : Question) → PartsRefuse cs path question → length path ≤ depth_of_cores cs
  parts_within_depth no_cores path question h = absurd h
  parts_within_depth (core c cs) path question (inl h) = let here = paths_within_depth c path question h in omega (arith, here)
  parts_within_depth (core c cs) path question (inr h) = let rest = parts_within_depth cs path question h in omega (arith, rest)

  field_within_depth : (ms : Members) (l : List ℕ) (path : Path) (question : Question) → FieldRefuses ms l path question → suc (length path) ≤ depth_of_members ms
  field_within_depth no_members l path question h = absurd h
  field_within_depth (dots ms) l path question h = field_within_depth ms l path question h
  field_within_depth (member k mark c ms) l [] question (inl (e, inl h)) = omega arith
  field_within_depth (member k mark c ms) l (step ∷ path) question (inl (e, inl h)) = absurd h
  field_within_depth (member k mark c ms) l path question (inl (e, inr h)) = let here = paths_within_depth c path question h in omega (arith, here)
  field_within_depth (member k mark c ms) l path question (inr h) = let rest = field_within_depth ms l path question h in omega (arith, rest)

  element_within_depth : (es : Elements) (i : ℕ) (path : Path) (question : Question) → ElementRefuses es i path question → suc (length path) ≤ depth_of_elements es
  element_within_depth ends i path question h = absurd h
  element_within_depth goes_on i path question h = absurd h
  element_within_depth (each c) i path question h = let here = paths_within_depth c path question h in omega (arith, here)
  element_within_depth (element c es) zero path question h = let here = paths_within_depth c path question h in omega (arith, here)
  element_within_depth (element c es) (suc i) path question h = let rest = element_within_depth es i path question h in omega (arith, rest)
