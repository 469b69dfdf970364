-- What makes a finding still does with more that is refused along its path.
use Rattle.std.proofs.Common.{◌≡◌, inl, inr, ⊎_elim, [], ◌∷◌, ◌++◌, sym, ◌∙◌, append_assoc, append-nil}
use Rattle.cue_lattice.specs.Path.{Step, label, index, Path}
use Rattle.cue_lattice.specs.Question.{Question, Refusals, may_be, usual, struct, list, allows, level_at_most, length_at_most, length_at_least}
use Rattle.cue_report.specs.Answers.{IsStepDemanded, IsDemanded, HasNoValue, IsNotAllowed}
use Rattle.cue_why.specs.Finding.{RefusesValues, Makes}

-- the one refuses what the other does, at each beginning of a path
pub record IsAsNarrowAlong (a b : Refusals) (path : Path) : Type 0 where
  pub at : (place after : Path) → path ≡ place ++ after → (question : Question) → b place question → a place question

step_more : (a b : Refusals) (path before after : Path) (step : Step) → IsAsNarrowAlong a b path → path ≡ before ++ step ∷ after
    → IsStepDemanded b before step → IsStepDemanded a before step
step_more a b path before after (label l) more e h =
    more.at (before ++ label l ∷ []) after (e ∙ sym (append_assoc before (label l ∷ []) after)) (level_at_most 0) h
step_more a b path before after (index n) more e h = more.at before (index n ∷ after) e (length_at_most n) h

pub demanded_more : (a b : Refusals) (path : Path) → IsAsNarrowAlong a b path → IsDemanded b path → IsDemanded a path
demanded_more a b path more h before after step e = step_more a b path before after step more e (h before after step e)

pub values_more : (a b : Refusals) (path : Path) → ((question : Question) → b path question → a path question) → RefusesValues b path → RefusesValues a path
values_more a b path more h = ⊎_elim
    (λ all. inl ((λ scalar is. more (may_be scalar) (all.0 scalar is)), more struct all.1, more list all.2))
    (λ none. inr (λ n. ⊎_elim (λ p. inl (more (length_at_most n) p)) (λ q. inr (more (length_at_least n) q)) (none n)))
    h

pub not_allowed_more : (a b : Refusals) (path : Path) → IsAsNarrowAlong a b path → IsNotAllowed b path → IsNotAllowed a path
not_allowed_more a b path more is = (is.0, is.1, is.2, more.at is.0 (label is.1 ∷ []) is.2 (allows is.1) is.3)

-- where no value may stand, each is refused
pub values_refused : (a : Refusals) (path : Path) → HasNoValue a path → RefusesValues a path
values_refused a path h = ⊎_elim (λ all. inl all) (λ none. inr none.1) h

pub makes_more : (view a b : Refusals) (path : Path) → IsAsNarrowAlong a b path → Makes view b path → Makes view a path
makes_more view a b path more makes =
    let here : (question : Question) → b path question → a path question = more.at path [] (sym (append-nil path)) in
    record {
      demanded = demanded_more a b path more makes.demanded;
      no_value = λ h. values_more a b path here (makes.no_value h);
      not_allowed = λ h. not_allowed_more a b path more (makes.not_allowed h);
      levels = λ clear k h. here (level_at_most k) (makes.levels clear k h);
      no_default = λ clear given none scalar is. here (usual scalar) (makes.no_default clear given none scalar is);
    }

-- a view makes its own finding
pub makes_own : (view : Refusals) (path : Path) → IsDemanded view path → Makes view view path
makes_own view path demanded = record {
  demanded = demanded;
  no_value = λ h. values_refused view path h;
  not_allowed = λ h. h;
  levels = λ clear k h. h;
  no_default = λ clear given none. none;
}
