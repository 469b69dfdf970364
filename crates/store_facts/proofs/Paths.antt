-- Paths in their order, and what is refused below a step.
use Rattle.std.proofs.Common.{◌≡◌, [], ◌∷◌, refl}
use Rattle.std.specs.Prelude.{codes}
use Rattle.std.specs.declared.cmp.Ordering.TheVariants.{Less, Equal, Greater}
use Rattle.cue_lattice.specs.Path.{label, index, step_cmp, path_cmp}
use Rattle.cue_lattice.specs.Question.{Refusals, struct}
use Rattle.cue_lattice.specs.Meets.{at_label, at_index}
use Rattle.cue_report.specs.Answers.{path_below}
use Rattle.store_facts.proofs.Base.{a, b}

labels_go_by_bytes_and_indexes_by_number : (step_cmp (label (codes "10")) (label (codes "9")) ≡ Less)
    × (step_cmp (index 9) (index 10) ≡ Less) × (step_cmp (label a) (label a) ≡ Equal)
labels_go_by_bytes_and_indexes_by_number = (refl, refl, refl)

labels_come_before_indexes : (step_cmp (label b) (index 0) ≡ Less) × (step_cmp (index 0) (label a) ≡ Greater)
labels_come_before_indexes = (refl, refl)

a_path_comes_before_those_that_it_begins : (path_cmp [] (label a ∷ []) ≡ Less)
    × (path_cmp (label a ∷ []) (label a ∷ index 0 ∷ []) ≡ Less)
a_path_comes_before_those_that_it_begins = (refl, refl)

the_first_step_counts_most : path_cmp (label a ∷ index 7 ∷ []) (label b ∷ []) ≡ Less
the_first_step_counts_most = refl

one_step_further : path_below (label a ∷ []) (index 2) ≡ label a ∷ index 2 ∷ []
one_step_further = refl

-- what is refused below a and below the index 3 is what is refused at the paths through them
below_a_step : (refuses : Refusals) → (at_label refuses a (index 0 ∷ []) struct ≡ refuses (label a ∷ index 0 ∷ []) struct)
    × (at_index refuses 3 [] struct ≡ refuses (index 3 ∷ []) struct)
below_a_step refuses = (refl, refl)
