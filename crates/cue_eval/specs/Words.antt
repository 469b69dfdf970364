-- The labels and texts that an expression writes.
use Rattle.std.specs.Prelude.{ℕ, List, [], ◌∷◌, ◌++◌}
use Rattle.cue_row.specs.ValidRow.{AreWords}
use Rattle.cue_scope.specs.Core.{Core, text, other_text, conjunction, disjunction, struct, close}
use Rattle.cue_scope.specs.Core.{list, closed, Cores, no_cores, core, Elements, ends, goes_on}
use Rattle.cue_scope.specs.Core.{each, element, Choices, no_choices, choice, Members, no_members}
use Rattle.cue_scope.specs.Core.{member, dots}

abbrev mutual
  pub words : Core → List (List ℕ)
  words (text t) = t ∷ []
  words (other_text t) = t ∷ []
  words (conjunction cs) = words_of_cores cs
  words (disjunction terms) = words_of_choices terms
  words (struct ms) = words_of_members ms
  words (close ms) = words_of_members ms
  words (list es) = words_of_elements es
  words (closed c) = words c
  words _ = []

  pub words_of_cores : Cores → List (List ℕ)
  words_of_cores no_cores = []
  words_of_cores (core c cs) = words c ++ words_of_cores cs

  pub words_of_elements : Elements → List (List ℕ)
  words_of_elements ends = []
  words_of_elements goes_on = []
  words_of_elements (each c) = words c
  words_of_elements (element c es) = words c ++ words_of_elements es

  pub words_of_choices : Choices → List (List ℕ)
  words_of_choices no_choices = []
  words_of_choices (choice marked c terms) = words c ++ words_of_choices terms

  pub words_of_members : Members → List (List ℕ)
  words_of_members no_members = []
  words_of_members (member l mark c ms) = l ∷ (words c ++ words_of_members ms)
  words_of_members (dots ms) = words_of_members ms

-- each of them is in UTF-8 and not too long
abbrev pub WritesWords : Core → Type 0
WritesWords c = AreWords (words c)
