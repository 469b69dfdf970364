-- What is refused by one of several well-formed policies is what a well-formed policy refuses.
use Rattle.std.proofs.Common.{◌↔◌, ◌⊎◌, inl, inr, ⊎_elim, List, [], ◌∷◌}
use Rattle.std.specs.List.{AllByRecursion}
use Rattle.cue_lattice.specs.OneOf.{OneOf}
use Rattle.cue_lattice.specs.Path.{Path}
use Rattle.cue_lattice.specs.Question.{Question, Refusals}
use Rattle.cue_row.specs.declared.parts.RowParts.{RowParts as Row}
use Rattle.cue_row.specs.Row.{RefusesAsked}
use Rattle.cue_table.specs.Tree.{Tree, empty}
use Rattle.cue_table.specs.Many.{AreUnified}
use Rattle.cue_table.specs.Meet.{IsMet}
use Rattle.cue_policies.specs.WellFormed.{IsWellFormed}
use Rattle.cue_policies.specs.Inner.Answers.{PolicyTreeRefusals}
use Rattle.cue_policies.proofs.Asking.{met_answers, unified_answers}

-- nothing is refused by the table without rows
pub nothing_refused : (path : Path) (question : Question) → PolicyTreeRefusals empty path question → ⊥
nothing_refused [] question h = h
nothing_refused (step ∷ path) question h = h

pub empty_formed : IsWellFormed (PolicyTreeRefusals empty)
empty_formed = record {
  lists = λ path question h. absurd (nothing_refused path question h);
  sets = λ path l pattern h is. absurd (nothing_refused path _ h);
}

-- the union of two
pub both_formed : (r s t : Refusals) → ((path : Path) (question : Question) → t path question ↔ (r path question ⊎ s path question)) → IsWellFormed r → IsWellFormed s → IsWellFormed t
both_formed r s t same h k = record {
  lists = λ path question p. ⊎_elim (λ q. h.lists path question q) (λ q. k.lists path question q) ((same path question).0 p);
  sets = λ path l pattern p is. (same path _).1 (⊎_elim (λ q. inl (h.sets path l pattern q is)) (λ q. inr (k.sets path l pattern q is)) ((same path _).0 p));
}

pub met_formed : (a b met : Tree Row) → IsMet RefusesAsked a b met → IsWellFormed (PolicyTreeRefusals a) → IsWellFormed (PolicyTreeRefusals b) → IsWellFormed (PolicyTreeRefusals met)
met_formed a b met is h k = both_formed (PolicyTreeRefusals a) (PolicyTreeRefusals b) (PolicyTreeRefusals met) (met_answers a b met is) h k

-- what holds of each and of one holds of one together
pub one_with : {X : Type 0} {P Q R : X → Type 0} → ((x : X) → P x → Q x → R x) → (xs : List X) → AllByRecursion P xs → OneOf Q xs → OneOf R xs
one_with f [] all h = absurd h
one_with f (x ∷ xs) all h = ⊎_elim (λ q. inl (f x all.0 q)) (λ r. inr (one_with f xs all.1 r)) h

-- what holds of each holds of one
pub one_says : {X : Type 0} {P Q : X → Type 0} {A : Type 0} → ((x : X) → P x → Q x → A) → (xs : List X) → AllByRecursion P xs → OneOf Q xs → A
one_says f [] all h = absurd h
one_says f (x ∷ xs) all h = ⊎_elim (λ q. f x all.0 q) (λ r. one_says f xs all.1 r) h

pub unified_formed : (tables : List (Tree Row)) (met : Tree Row) → AreUnified RefusesAsked tables met → AllByRecursion (λ table. IsWellFormed (PolicyTreeRefusals table)) tables → IsWellFormed (PolicyTreeRefusals met)
unified_formed tables met is all = record {
  lists = λ path question p. one_says (λ table (h : IsWellFormed (PolicyTreeRefusals table)) q. h.lists path question q) tables all ((unified_answers tables met is path question).0 p);
  sets = λ path l pattern p pat. (unified_answers tables met is path _).1 (one_with (λ table (h : IsWellFormed (PolicyTreeRefusals table)) q. h.sets path l pattern q pat) tables all ((unified_answers tables met is path _).0 p));
}
