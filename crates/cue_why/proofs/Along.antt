-- Paths as they are written, and what they concern, one step further.
use Rattle.std.proofs.Common.{◌≡◌, ◌↔◌, ℕ, List, [], ◌∷◌, ◌++◌, map, refl, sym, ap, subst, ◌∙◌}
use Rattle.cue_lattice.specs.Path.{Step, label, index, Path}
use Rattle.cue_policies.specs.Patterns.{IsPatternOf}
use Rattle.cue_policies.specs.View.{IsAlong, IsPatternStep, EndsInPattern}
use Rattle.cue_policies.specs.declared.kind.LayerKind.{LayerKind}
use Rattle.cue_row.specs.Steps.{step_of}
use Rattle.cue_row.specs.declared.step.Step.{Step as Code}
use Rattle.cue_row.specs.declared.step.Step.TheVariants.{Label, Index}
use Rattle.cue_why.specs.Inner.Parts.{IsStepAlong}

pub along_nil : (kind : LayerKind) (written : Path) → IsAlong kind written [] → written ≡ []
along_nil kind [] h = refl
along_nil kind (label own ∷ written) h = absurd h
along_nil kind (index n ∷ written) h = absurd h

-- the written path of one step more: its front, and its last step
abbrev pub Split : LayerKind → Path → Path → Step → Type 0
Split kind written place step =
    (front : Path) × (own : Step) × (written ≡ front ++ own ∷ []) × IsAlong kind front place × IsStepAlong kind own step

pub along_out : (kind : LayerKind) (written place : Path) (step : Step) → IsAlong kind written (place ++ step ∷ []) → Split kind written place step
along_out kind [] [] step h = absurd h
along_out kind (label own ∷ written) [] (label l) h = ([], label own, ap (λ w. label own ∷ w) (along_nil kind written h.1), tt, h.0)
along_out kind (label own ∷ written) [] (index n) h = absurd h
along_out kind (index m ∷ written) [] (label l) h = absurd h
along_out kind (index m ∷ written) [] (index n) h = ([], index m, ap (λ w. index m ∷ w) (along_nil kind written h.1), tt, h.0)
along_out kind [] (first ∷ place) step h = absurd h
along_out kind (label own ∷ written) (label l ∷ place) step h =
    let more = along_out kind written place step h.1 in
    (label own ∷ more.0, more.1, ap (λ w. label own ∷ w) more.2, (h.0, more.3), more.4)
along_out kind (label own ∷ written) (index n ∷ place) step h = absurd h
along_out kind (index m ∷ written) (label l ∷ place) step h = absurd h
along_out kind (index m ∷ written) (index n ∷ place) step h =
    let more = along_out kind written place step h.1 in
    (index m ∷ more.0, more.1, ap (λ w. index m ∷ w) more.2, (h.0, more.3), more.4)

last_in : (kind : LayerKind) (own step : Step) → IsStepAlong kind own step → IsAlong kind (own ∷ []) (step ∷ [])
last_in kind (label own) (label l) h = (h, tt)
last_in kind (label own) (index n) h = absurd h
last_in kind (index m) (label l) h = absurd h
last_in kind (index m) (index n) h = (h, tt)

pub along_in : (kind : LayerKind) (front place : Path) (own step : Step) → IsAlong kind front place → IsStepAlong kind own step
    → IsAlong kind (front ++ own ∷ []) (place ++ step ∷ [])
along_in kind [] [] own step h last = last_in kind own step last
along_in kind [] (first ∷ place) own step h last = absurd h
along_in kind (label a ∷ front) [] own step h last = absurd h
along_in kind (index a ∷ front) [] own step h last = absurd h
along_in kind (label a ∷ front) (label l ∷ place) own step h last = (h.0, along_in kind front place own step h.1 last)
along_in kind (label a ∷ front) (index n ∷ place) own step h last = absurd h
along_in kind (index m ∷ front) (label l ∷ place) own step h last = absurd h
along_in kind (index m ∷ front) (index n ∷ place) own step h last = (h.0, along_in kind front place own step h.1 last)

-- the path ends in a pattern where its last step is one
pub ends_in : (kind : LayerKind) (front : Path) (own : Step) → IsPatternStep kind own → EndsInPattern kind (front ++ own ∷ [])
ends_in kind [] own h = h
ends_in kind (a ∷ []) own h = h
ends_in kind (a ∷ (b ∷ front)) own h = ends_in kind (b ∷ front) own h

pub ends_out : (kind : LayerKind) (front : Path) (own : Step) → EndsInPattern kind (front ++ own ∷ []) → IsPatternStep kind own
ends_out kind [] own h = h
ends_out kind (a ∷ []) own h = h
ends_out kind (a ∷ (b ∷ front)) own h = ends_out kind (b ∷ front) own h

-- ---- as the code has steps
map_snoc : (front : List Code) (step : Code) → map step_of (front ++ step ∷ []) ≡ map step_of front ++ step_of step ∷ []
map_snoc [] step = refl
map_snoc (x ∷ front) step = ap (λ p. step_of x ∷ p) (map_snoc front step)

ends_last : (kind : LayerKind) (path front : List Code) (step : Code) → path ≡ front ++ step ∷ [] → EndsInPattern kind (map step_of path) ↔ IsPatternStep kind (step_of step)
ends_last kind path front step e =
    let whole : map step_of path ≡ map step_of front ++ step_of step ∷ [] = ap (map step_of) e ∙ map_snoc front step in
    subst (λ p. EndsInPattern kind p ↔ IsPatternStep kind (step_of step)) (sym whole) (ends_out kind (map step_of front) (step_of step), ends_in kind (map step_of front) (step_of step))

pub ends_label : (kind : LayerKind) (path front : List Code) (step : Code) (l t : List ℕ) → path ≡ front ++ step ∷ [] → step ≡ Label l → t ≡ l
    → EndsInPattern kind (map step_of path) ↔ IsPatternOf kind t
ends_label kind path front step l t e is same =
    let last = ends_last kind path front step e in
    let P : Step → Type 0 = λ s. EndsInPattern kind (map step_of path) ↔ IsPatternStep kind s in
    subst (λ m. EndsInPattern kind (map step_of path) ↔ IsPatternOf kind m) (sym same) (subst P (ap step_of is) last)

pub ends_index : (kind : LayerKind) (path front : List Code) (step : Code) (n : ℕ) → path ≡ front ++ step ∷ [] → step ≡ Index n → ¬ EndsInPattern kind (map step_of path)
ends_index kind path front step n e is h =
    let P : Step → Type 0 = λ s. IsPatternStep kind s in
    subst P (ap step_of is) ((ends_last kind path front step e).0 h)
