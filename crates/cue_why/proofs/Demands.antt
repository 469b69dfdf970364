-- What rows along a path say of its steps and of its end.
use Rattle.std.proofs.Common.{◌≡◌, ◌↔◌, ◌<◌, ◌-◌, ℕ, suc, List, [], ◌∷◌, ◌++◌, length, map, take, drop, get_or, refl, sym, ap, subst, ◌∙◌, append-nil, arith}
use Rattle.std.proofs.lemmas.List.{take_rest}
use Rattle.cue_lattice.specs.Path.{Step, label, index, Path}
use Rattle.cue_lattice.specs.Question.{Question, Refusals, allows}
use Rattle.cue_report.specs.Answers.{IsStepDemanded, IsDemanded, IsNotAllowed}
use Rattle.cue_row.specs.Row.{RowRefusesQuestion}
use Rattle.cue_row.specs.Steps.{step_of}
use Rattle.cue_row.specs.declared.parts.RowParts.{RowParts as Row}
use Rattle.cue_row.specs.declared.step.Step.{Step as Code}
use Rattle.cue_why.specs.Inner.Trails.{TrailRefuses, IsDemandedBy, IsRefusedBy}
use Rattle.cue_why.proofs.Trails.{pushed_at}

module _ {R : Type 0} (refuses : R → Question → Type 0) where
  abbrev Refuses : Path → List R → Refusals
  Refuses = TrailRefuses refuses

  first_step : (step : Step) (path : Path) (row : R) (rows : List R) → IsStepDemanded (Refuses (step ∷ path) (row ∷ rows)) [] step ↔ IsDemandedBy refuses row step rows
  first_step (label l) path row [] = (λ h. h.1, λ h. absurd h)
  first_step (label l) path row (r ∷ rows) = (λ h. h.1, λ h. (refl, h))
  first_step (index n) path row rows = (λ h. h, λ h. h)

  later_step : (first : Step) (path : Path) (row : R) (rows : List R) (before : Path) (step : Step)
      → IsStepDemanded (Refuses (first ∷ path) (row ∷ rows)) (first ∷ before) step ↔ IsStepDemanded (Refuses path rows) before step
  later_step first path row rows before (label l) = (λ h. h.1, λ h. (refl, h))
  later_step first path row rows before (index n) = (λ h. h.1, λ h. (refl, h))

  pub demanded_all : (rows : List R) → IsDemanded (Refuses [] rows) []
  demanded_all rows [] after step e = absurd (cc)
  demanded_all rows (b ∷ before) after step e = absurd (cc)

  pub demanded_further : (step : Step) (path : Path) (row : R) (rows : List R)
      → IsDemanded (Refuses (step ∷ path) (row ∷ rows)) (step ∷ path) ↔ (IsDemandedBy refuses row step rows × IsDemanded (Refuses path rows) path)
  demanded_further step path row rows = (into, out)
    where
      into : IsDemanded (Refuses (step ∷ path) (row ∷ rows)) (step ∷ path) → IsDemandedBy refuses row step rows × IsDemanded (Refuses path rows) path
      into h = (
        (first_step step path row rows).0 (h [] path step refl),
        λ before after next e. (later_step step path row rows before next).0 (h (step ∷ before) after next (ap (λ p. step ∷ p) e)),
      )

      out : IsDemandedBy refuses row step rows × IsDemanded (Refuses path rows) path → IsDemanded (Refuses (step ∷ path) (row ∷ rows)) (step ∷ path)
      out h [] after next e =
          let same : step ≡ next = cc in
          subst (λ s. IsStepDemanded (Refuses (step ∷ path) (row ∷ rows)) [] s) same ((first_step step path row rows).1 h.0)
      out h (b ∷ before) after next e =
          let same : step ≡ b = cc in
          let rest : path ≡ before ++ next ∷ after = cc in
          subst (λ s. IsStepDemanded (Refuses (step ∷ path) (row ∷ rows)) (s ∷ before) next) same ((later_step step path row rows before next).1 (h.1 before after next rest))

  no_end : (above : Path) (s : Step) → [] ≡ above ++ s ∷ [] → ⊥
  no_end [] s e = cc
  no_end (x ∷ above) s e = cc

  -- the label at the end of the path
  pub allowed_at_root : (rows : List R) → ¬ IsNotAllowed (Refuses [] rows) []
  allowed_at_root rows h = no_end h.0 (label h.1) h.2

  pub not_allowed_last : (step : Step) (row : R) (rows : List R) → IsNotAllowed (Refuses (step ∷ []) (row ∷ rows)) (step ∷ []) ↔ IsRefusedBy refuses row step
  not_allowed_last step row rows = (λ h. into h.0 h.1 h.2 h.3, out step)
    where
      into : (above : Path) (l : List ℕ) → step ∷ [] ≡ above ++ label l ∷ [] → Refuses (step ∷ []) (row ∷ rows) above (allows l) → IsRefusedBy refuses row step
      into [] l e h = let same : step ≡ label l = cc in subst (λ s. IsRefusedBy refuses row s) (sym same) h
      into (x ∷ above) l e h = let rest : [] ≡ above ++ label l ∷ [] = cc in absurd (no_end above (label l) rest)

      out : (s : Step) → IsRefusedBy refuses row s → IsNotAllowed (Refuses (s ∷ []) (row ∷ rows)) (s ∷ [])
      out (label l) h = ([], l, refl, h)
      out (index n) h = absurd h

  pub not_allowed_further : (step next : Step) (path : Path) (row : R) (rows : List R)
      → IsNotAllowed (Refuses (step ∷ (next ∷ path)) (row ∷ rows)) (step ∷ (next ∷ path)) ↔ IsNotAllowed (Refuses (next ∷ path) rows) (next ∷ path)
  not_allowed_further step next path row rows = (λ h. into h.0 h.1 h.2 h.3, λ h. (step ∷ h.0, h.1, ap (λ p. step ∷ p) h.2, (refl, h.3)))
    where
      into : (above : Path) (l : List ℕ) → step ∷ (next ∷ path) ≡ above ++ label l ∷ [] → Refuses (step ∷ (next ∷ path)) (row ∷ rows) above (allows l) → IsNotAllowed (Refuses (next ∷ path) rows) (next ∷ path)
      into [] l e h = absurd (cc)
      into (x ∷ above) l e h = let rest : next ∷ path ≡ above ++ label l ∷ [] = cc in (above, l, rest, h.1)

  -- what is refused at the end of the path is what the last row refuses
  pub end_is : (path : Path) (front : List R) (row : R) (question : Question) → length front ≡ length path → Refuses path (front ++ row ∷ []) path question ↔ refuses row question
  end_is path front row question e =
      let at = pushed_at refuses path [] front row question e in
      subst (λ p. Refuses p (front ++ row ∷ []) path question ↔ refuses row question) (append-nil path) at

-- ---- as the code cuts lists
module _ (path : List Code) (rows : List Row) (step : Code) (above : Row) (rest : List Code) (below : List Row) where
  abbrev Whole : Refusals
  Whole = TrailRefuses RowRefusesQuestion (map step_of path) rows

  abbrev Part : Refusals
  Part = TrailRefuses RowRefusesQuestion (map step_of rest) below

  -- both lists are cut behind their first elements
  pub record AreCut : Type 0 where
    pub steps : path ≡ step ∷ rest
    pub trail : rows ≡ above ∷ below

  pub demanded_cut : AreCut → IsDemanded Whole (map step_of path) ↔ (IsDemandedBy RowRefusesQuestion above (step_of step) below × IsDemanded Part (map step_of rest))
  demanded_cut cut =
      let P : List Code → List Row → Type 0 = λ p rs. IsDemanded (TrailRefuses RowRefusesQuestion (map step_of p) rs) (map step_of p) ↔ (IsDemandedBy RowRefusesQuestion above (step_of step) below × IsDemanded Part (map step_of rest)) in
      subst (λ p. P p rows) (sym cut.steps) (subst (λ rs. P (step ∷ rest) rs) (sym cut.trail) (demanded_further RowRefusesQuestion (step_of step) (map step_of rest) above below))

  pub not_allowed_cut_last : AreCut → rest ≡ [] → IsNotAllowed Whole (map step_of path) ↔ IsRefusedBy RowRefusesQuestion above (step_of step)
  not_allowed_cut_last cut none =
      let P : List Code → List Row → Type 0 = λ p rs. IsNotAllowed (TrailRefuses RowRefusesQuestion (map step_of p) rs) (map step_of p) ↔ IsRefusedBy RowRefusesQuestion above (step_of step) in
      subst (λ p. P p rows) (sym (cut.steps ∙ ap (λ r. step ∷ r) none)) (subst (λ rs. P (step ∷ []) rs) (sym cut.trail) (not_allowed_last RowRefusesQuestion (step_of step) above below))

  pub not_allowed_cut_more : AreCut → 0 < length rest → IsNotAllowed Whole (map step_of path) ↔ IsNotAllowed Part (map step_of rest)
  not_allowed_cut_more cut some =
      let P : List Code → List Row → Type 0 = λ p rs. IsNotAllowed (TrailRefuses RowRefusesQuestion (map step_of p) rs) (map step_of p) ↔ IsNotAllowed Part (map step_of rest) in
      subst (λ p. P p rows) (sym cut.steps) (subst (λ rs. P (step ∷ rest) rs) (sym cut.trail) (further_of rest some))
    where
      further_of : (more : List Code) → 0 < length more
          → IsNotAllowed (TrailRefuses RowRefusesQuestion (step_of step ∷ map step_of more) (above ∷ below)) (step_of step ∷ map step_of more)
          ↔ IsNotAllowed (TrailRefuses RowRefusesQuestion (map step_of more) below) (map step_of more)
      further_of [] h = absurd (omega arith)
      further_of (next ∷ more) h = not_allowed_further RowRefusesQuestion (step_of step) (step_of next) (map step_of more) above below

cut_list : {X : Type 0} (xs : List X) (x : X) → 0 < length xs → x ≡ get_or xs 0 x → xs ≡ x ∷ take (length xs - 1) (drop 1 xs)
cut_list [] x h e = absurd (omega arith)
cut_list (y ∷ ys) x h e = ap (λ z. z ∷ ys) (sym e) ∙ ap (λ zs. x ∷ zs) (sym (take_rest (y ∷ ys) 1))

pub are_cut : (path : List Code) (rows : List Row) (step : Code) (above : Row) → 0 < length path → step ≡ get_or path 0 step → 0 < length rows → above ≡ get_or rows 0 above
    → AreCut path rows step above (take (length path - 1) (drop 1 path)) (take (length rows - 1) (drop 1 rows))
are_cut path rows step above p a r b = record { steps = cut_list path step p a; trail = cut_list rows above r b }

pub map_length : {X Y : Type 0} (f : X → Y) (xs : List X) → length (map f xs) ≡ length xs
map_length f [] = refl
map_length f (x ∷ xs) = ap suc (map_length f xs)
