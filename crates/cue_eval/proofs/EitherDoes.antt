-- What one struct literal does of two things, it does of one.
use Rattle.std.proofs.Common.{◌⊎◌, inl, inr, ⊎_elim, ℕ, zero, suc, List, [], ◌∷◌}
use Rattle.cue_lattice.specs.Path.{Path, label, index}
use Rattle.cue_scope.specs.Core.{Core, conjunction, struct, close, list, closed, Cores, no_cores, core, Members, no_members, member, dots, Elements, ends, goes_on, each, element}
use Rattle.cue_eval.specs.Closing.{OneDoes, OneOfParts, OneOfFields, OneOfElements}

mutual
  pub either_does : (A B : Members → Type 0) (U V : Core → Path → Type 0) (c : Core) (path : Path) → OneDoes (λ ms. A ms ⊎ B ms) (λ e at. U e at ⊎ V e at) c path → OneDoes A U c path ⊎ OneDoes B V c path
  either_does A B U V (conjunction cs) path h = part_does A B U V cs path h
  either_does A B U V (struct ms) [] h = h
  either_does A B U V (struct ms) (label l ∷ path) h = field_does A B U V ms l path h
  either_does A B U V (struct ms) (index i ∷ path) h = absurd h
  either_does A B U V (close ms) [] h = h
  either_does A B U V (close ms) (label l ∷ path) h = field_does A B U V ms l path h
  either_does A B U V (close ms) (index i ∷ path) h = absurd h
  either_does A B U V (list es) [] h = absurd h
  either_does A B U V (list es) (label l ∷ path) h = absurd h
  either_does A B U V (list es) (index i ∷ path) h = element_does A B U V es i path h
  either_does A B U V (closed c) path h = h
  either_does A B U V _ path h = absurd h

  part_does : (A B : Members → Type 0) (U V : Core → Path → Type 0) (cs : Cores) (path : Path) → OneOfParts (λ ms. A ms ⊎ B ms) (λ e at. U e at ⊎ V e at) cs path → OneOfParts A U cs path ⊎ OneOfParts B V cs path
  part_does A B U V no_cores path h = absurd h
  part_does A B U V (core c cs) path (inl h) = ⊎_elim (λ g. inl (inl g)) (λ g. inr (inl g)) (either_does A B U V c path h)
  part_does A B U V (core c cs) path (inr h) = ⊎_elim (λ g. inl (inr g)) (λ g. inr (inr g)) (part_does A B U V cs path h)

  field_does : (A B : Members → Type 0) (U V : Core → Path → Type 0) (ms : Members) (l : List ℕ) (path : Path) → OneOfFields (λ ms. A ms ⊎ B ms) (λ e at. U e at ⊎ V e at) ms l path → OneOfFields A U ms l path ⊎ OneOfFields B V ms l path
  field_does A B U V no_members l path h = absurd h
  field_does A B U V (dots ms) l path h = field_does A B U V ms l path h
  field_does A B U V (member k mark c ms) l path (inl h) = ⊎_elim (λ g. inl (inl (h.0, g))) (λ g. inr (inl (h.0, g))) (either_does A B U V c path h.1)
  field_does A B U V (member k mark c ms) l path (inr h) = ⊎_elim (λ g. inl (inr g)) (λ g. inr (inr g)) (field_does A B U V ms l path h)

  element_does : (A B : Members → Type 0) (U V : Core → Path → Type 0) (es : Elements) (i : ℕ) (path : Path) → OneOfElements (λ ms. A ms ⊎ B ms) (λ e at. U e at ⊎ V e at) es i path → OneOfElements A U es i path ⊎ OneOfElements B V es i path
  element_does A B U V ends i path h = absurd h
  element_does A B U V goes_on i path h = absurd h
  element_does A B U V (each c) i path h = either_does A B U V c path h
  element_does A B U V (element c es) zero path h = either_does A B U V c path h
  element_does A B U V (element c es) (suc i) path h = element_does A B U V es i path h
