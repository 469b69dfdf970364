-- What bars a path, step by step.
use Rattle.std.proofs.Common.{◌≡◌, ◌≢◌, ◌↔◌, ◌⊎◌, inl, inr, ⊎_elim, ℕ, suc, Bool, true, false, List, [], ◌∷◌, ◌++◌, map, take, Option, Some, None, refl, sym, ap, subst, ◌∙◌}
use Rattle.std.specs.Prelude.{IsTrue}
use Rattle.std.proofs.lemmas.Bool.{false≢true}
use Rattle.std.proofs.lemmas.List.{take-map}
use Rattle.cue_lattice.specs.Path.{Step, label, index, Path}
use Rattle.cue_lattice.specs.Question.{Question, Refusals, allows}
use Rattle.cue_report.specs.Answers.{HasNoValue, IsNotAllowed}
use Rattle.cue_report.specs.Export.{refused_below}
use Rattle.cue_row.specs.Steps.{step_of}
use Rattle.cue_row.specs.declared.step.Step.{Step as Code}
use Rattle.cue_row.specs.declared.parts.RowParts.{RowParts as Row}
use Rattle.cue_table.specs.Tree.{Tree, step_into}
use Rattle.cue_places.specs.Places.{HasNoKind, IsBar, IsFreePlace, IsFirstBar}
use Rattle.cue_places.specs.Inner.Bars.{IsBarOf}
use Rattle.cue_places.specs.declared.bars.Bar.{Bar}
use Rattle.cue_places.proofs.Lists.{not_nil}
use Rattle.cue_places.proofs.Seen.{Told, Nothing, below_found, below_none}

pub root_allowed : (refuses : Refusals) → ¬ IsNotAllowed refuses []
root_allowed refuses h = not_nil h.0 (label h.1) [] h.2

pub root_free : (refuses : Refusals) → IsFreePlace refuses []
root_free refuses [] [] e h = ⊎_elim (root_allowed refuses) (λ k. k.0 refl) h
root_free refuses [] (s ∷ after) e h = cc
root_free refuses (x ∷ place) after e h = cc

root_bar : (refuses : Refusals) (after : Path) → ¬ HasNoKind refuses [] → ¬ IsBar refuses [] after
root_bar refuses after kind h = ⊎_elim (root_allowed refuses) (λ k. kind k.1) h

module _ (refuses : Refusals) (step : Step) (allowed : ¬ IsNotAllowed refuses (step ∷ [])) where
  label_down : (place : Path) → IsNotAllowed refuses (step ∷ place) → IsNotAllowed (refused_below refuses step) place
  label_down place h = by h.0 h.1 h.2 h.3
    where
      by : (above : Path) (text : List ℕ) → step ∷ place ≡ above ++ label text ∷ [] → refuses above (allows text) → IsNotAllowed (refused_below refuses step) place
      by [] text e r =
          let same : step ≡ label text = cc in
          absurd (allowed ([], text, ap (λ s. s ∷ []) same, r))
      by (x ∷ above) text e r =
          let same : step ≡ x = cc in
          let rest : place ≡ above ++ label text ∷ [] = cc in
          (above, text, rest, subst (λ s. refuses (s ∷ above) (allows text)) (sym same) r)

  label_up : (place : Path) → IsNotAllowed (refused_below refuses step) place → IsNotAllowed refuses (step ∷ place)
  label_up place h = (step ∷ h.0, h.1, ap (λ p. step ∷ p) h.2, h.3)

  bar_down : (place after : Path) → IsBar refuses (step ∷ place) after → IsBar (refused_below refuses step) place after
  bar_down place after h = ⊎_elim (λ l. inl (label_down place l)) (λ k. inr k) h

  bar_up : (place after : Path) → IsBar (refused_below refuses step) place after → IsBar refuses (step ∷ place) after
  bar_up place after h = ⊎_elim (λ l. inl (label_up place l)) (λ k. inr k) h

  pub free_further : ¬ HasNoKind refuses [] → (path : Path) → IsFreePlace (refused_below refuses step) path → IsFreePlace refuses (step ∷ path)
  free_further kind path free [] after e h = root_bar refuses after kind h
  free_further kind path free (x ∷ place) after e h =
      let same : step ≡ x = cc in
      let rest : path ≡ place ++ after = cc in
      free place after rest (bar_down place after (subst (λ s. IsBar refuses (s ∷ place) after) (sym same) h))

  pub bar_further : ¬ HasNoKind refuses [] → (path : Path) (depth : ℕ) (no_value not_allowed : Bool)
      → IsFirstBar (refused_below refuses step) path (record { path = take depth path; no_value = no_value; not_allowed = not_allowed })
      → IsFirstBar refuses (step ∷ path) (record { path = step ∷ take depth path; no_value = no_value; not_allowed = not_allowed })
  bar_further kind path depth no_value not_allowed h = record {
    after = h.after;
    leads = ap (λ p. step ∷ p) h.leads;
    bars = bar_up (take depth path) h.after h.bars;
    first = first;
    no_value = h.no_value;
    not_allowed = (λ t. label_up (take depth path) (h.not_allowed.0 t), λ l. h.not_allowed.1 (label_down (take depth path) l));
  }
    where
      first : (place behind : Path) (s : Step) → step ∷ take depth path ≡ place ++ s ∷ behind → ¬ IsBar refuses place (s ∷ behind ++ h.after)
      first [] behind s e b = root_bar refuses (s ∷ behind ++ h.after) kind b
      first (x ∷ place) behind s e b =
          let same : step ≡ x = cc in
          let rest : take depth path ≡ place ++ s ∷ behind = cc in
          h.first place behind s rest (bar_down place (s ∷ behind ++ h.after) (subst (λ t. IsBar refuses (t ∷ place) (s ∷ behind ++ h.after)) (sym same) b))

-- nothing bars a path below a place of which nothing is known
nothing_free : (path : Path) → IsFreePlace Nothing path
nothing_free path place after e h = ⊎_elim (λ l. l.3) (λ k. k.1.1) h

no_cons : (s : Step) (p : Path) → s ∷ p ≡ [] → ⊥
no_cons s p e = cc

-- ---- as the code has it
pub bar_here : (refuses : Refusals) (steps : Path) (step : Step) (path : Path) → steps ≡ step ∷ path → HasNoKind refuses []
    → IsBarOf refuses steps (record { depth = 0; no_value = true; not_allowed = false })
bar_here refuses steps step path cut kind = record {
  after = steps;
  leads = refl;
  bars = inr (λ e. no_cons step path (sym cut ∙ e), kind);
  first = λ place behind s e. absurd (not_nil place s behind e);
  no_value = (λ t. inl kind, λ h. refl);
  not_allowed = (λ t. absurd (false≢true t), λ h. absurd (root_allowed refuses h));
}

pub bar_next : (refuses : Refusals) (steps : Path) (step : Step) (path : Path) (no_value : Bool) → steps ≡ step ∷ path → ¬ HasNoKind refuses [] → IsNotAllowed refuses (step ∷ [])
    → IsTrue no_value ↔ HasNoValue refuses (step ∷ []) → IsBarOf refuses steps (record { depth = 1; no_value = no_value; not_allowed = true })
bar_next refuses steps step path no_value cut kind barred value =
    let P : Path → Type 0 = λ p. IsBarOf refuses p (record { depth = 1; no_value = no_value; not_allowed = true }) in
    subst P (sym cut) (record {
      after = path;
      leads = refl;
      bars = inl barred;
      first = first;
      no_value = value;
      not_allowed = (λ t. barred, λ h. refl);
    })
  where
    first : (place behind : Path) (s : Step) → step ∷ [] ≡ place ++ s ∷ behind → ¬ IsBar refuses place (s ∷ behind ++ path)
    first [] behind s e b = root_bar refuses (s ∷ behind ++ path) kind b
    first (x ∷ place) behind s e b = let rest : [] ≡ place ++ s ∷ behind = cc in not_nil place s behind rest

pub bar_found : (tree next : Tree Row) (steps : Path) (step : Step) (path : Path) (bar : Bar) → steps ≡ step ∷ path → step_into tree step ≡ Some next → ¬ HasNoKind (Told tree) []
    → ¬ IsNotAllowed (Told tree) (step ∷ []) → IsBarOf (Told next) path bar
    → IsBarOf (Told tree) steps (record { depth = suc bar.depth; no_value = bar.no_value; not_allowed = bar.not_allowed })
bar_found tree next steps step path bar cut e kind allowed h =
    let P : Path → Type 0 = λ p. IsBarOf (Told tree) p (record { depth = suc bar.depth; no_value = bar.no_value; not_allowed = bar.not_allowed }) in
    let there = subst (λ (refuses : Refusals). IsBarOf refuses path bar) (sym (below_found tree next step e)) h in
    subst P (sym cut) (bar_further (Told tree) step allowed kind path bar.depth bar.no_value bar.not_allowed there)

pub free_found : (tree next : Tree Row) (steps : Path) (step : Step) (path : Path) → steps ≡ step ∷ path → step_into tree step ≡ Some next → ¬ HasNoKind (Told tree) []
    → ¬ IsNotAllowed (Told tree) (step ∷ []) → IsFreePlace (Told next) path → IsFreePlace (Told tree) steps
free_found tree next steps step path cut e kind allowed h =
    subst (IsFreePlace (Told tree)) (sym cut) (free_further (Told tree) step allowed kind path (subst (λ (refuses : Refusals). IsFreePlace refuses path) (sym (below_found tree next step e)) h))

pub free_none : (tree : Tree Row) (steps : Path) (step : Step) (path : Path) → steps ≡ step ∷ path → step_into tree step ≡ None → ¬ HasNoKind (Told tree) []
    → ¬ IsNotAllowed (Told tree) (step ∷ []) → IsFreePlace (Told tree) steps
free_none tree steps step path cut e kind allowed =
    subst (IsFreePlace (Told tree)) (sym cut) (free_further (Told tree) step allowed kind path (subst (λ (refuses : Refusals). IsFreePlace refuses path) (sym (below_none tree step e)) (nothing_free path)))

pub found_barred : (tree root : Tree Row) (steps : List Code) (bar : Bar) (items : List Code) (path : Path) → root ≡ tree → IsBarOf (Told root) (map step_of steps) bar → items ≡ take bar.depth steps → path ≡ map step_of items
    → IsFirstBar (Told tree) (map step_of steps) (record { path = path; no_value = bar.no_value; not_allowed = bar.not_allowed })
found_barred tree root steps bar items path same h e f =
    let at : path ≡ take bar.depth (map step_of steps) = f ∙ ap (map step_of) e ∙ sym (take-map step_of bar.depth steps) in
    let here = subst (λ t. IsBarOf (Told t) (map step_of steps) bar) same h in
    subst (λ p. IsFirstBar (Told tree) (map step_of steps) (record { path = p; no_value = bar.no_value; not_allowed = bar.not_allowed })) (sym at) here
