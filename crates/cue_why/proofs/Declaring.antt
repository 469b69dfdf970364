-- What is demanded of the view of layers along a path is what some of them demand there, and what the
-- view refuses at a demanded path is what one of them refuses.
use Rattle.std.proofs.Common.{◌≡◌, ⊎_elim, ℕ, List, [], ◌∷◌, ◌++◌, sym, subst, ap, ◌∙◌, append_assoc}
use Rattle.cue_lattice.specs.OneOf.{OneOf}
use Rattle.cue_lattice.specs.Path.{Step, label, index, Path}
use Rattle.cue_lattice.specs.Question.{Refusals, level_at_most}
use Rattle.cue_report.specs.Answers.{IsDemanded}
use Rattle.cue_policies.specs.Patterns.{IsPatternOf}
use Rattle.cue_policies.specs.View.{ViewedPart, IsPatternStep, EndsInPattern, PartRefuses, DeclaresAt, IsDeclaredInView, ViewRefuses}
use Rattle.cue_policies.specs.declared.kind.LayerKind.{LayerKind}
use Rattle.cue_policies.proofs.Views.{pick, put, more_refuse_more}
use Rattle.cue_why.specs.Finding.{Makes}
use Rattle.cue_why.specs.Inner.Parts.{IsStepAlong}
use Rattle.cue_why.proofs.Along.{along_out, ends_in}
use Rattle.cue_why.proofs.Makes.{IsAsNarrowAlong, makes_more}

-- a part that asks for the field of a label wrote the label, and so declares it
named : (kind : LayerKind) (own : Step) (l : List ℕ) → IsStepAlong kind own (label l) → ¬ IsPatternStep kind own → (own ≡ label l) × ¬ IsPatternOf kind l
named kind (label own) l h plain = ⊎_elim
    (λ is. (ap (λ m. label m) is.0, subst (λ m. ¬ IsPatternOf kind m) is.0 is.1))
    (λ bound. absurd (plain bound.0))
    h
named kind (index n) l h plain = absurd h

declares_asked : (part : ViewedPart) (place : Path) (l : List ℕ) → PartRefuses part (place ++ label l ∷ []) (level_at_most 0) → DeclaresAt part place l
declares_asked part place l h =
    let split = along_out part.kind h.0 place (label l) h.1 in
    let plain : ¬ IsPatternStep part.kind split.1 = λ is. h.3 (subst (λ w. EndsInPattern part.kind w) (sym split.2) (ends_in part.kind split.0 split.1 is), tt) in
    let own = named part.kind split.1 l split.4 plain in
    let e : h.0 ≡ split.0 ++ label l ∷ [] = split.2 ∙ ap (λ s. split.0 ++ s ∷ []) own.0 in
    (split.0, [], level_at_most 0, split.3, own.1, subst (λ w. part.refuses w (level_at_most 0)) e h.2)

module _ {X : Type 0} (part : X → ViewedPart) (members : List X) where
  -- what one of the parts refuses, whatever is declared
  abbrev pub Line : Refusals
  Line path question = OneOf (λ x. PartRefuses (part x) path question) members

  declared_step : (place : Path) (l : List ℕ) → Line (place ++ label l ∷ []) (level_at_most 0) → OneOf (λ x. DeclaresAt (part x) place l) members
  declared_step place l h =
      let one = pick (λ x. PartRefuses (part x) (place ++ label l ∷ []) (level_at_most 0)) members h in
      put (λ x. DeclaresAt (part x) place l) members one.0 one.1 (declares_asked (part one.0) place l one.2)

  declared_along : (path : Path) → IsDemanded Line path → (place after : Path) → path ≡ place ++ after → IsDeclaredInView part members place
  declared_along path demanded place after e before l behind is =
      declared_step before l (demanded before (behind ++ after) (label l) (e ∙ ap (λ p. p ++ after) is ∙ append_assoc before (label l ∷ behind) after))

  -- at a demanded path the view refuses what one of the parts does
  pub view_narrow : (path : Path) → IsDemanded Line path → IsAsNarrowAlong (ViewRefuses part members) Line path
  view_narrow path demanded = record { at = λ place after e question h. (declared_along path demanded place after e, h) }

  pub line_narrow : (path : Path) → IsAsNarrowAlong Line (ViewRefuses part members) path
  line_narrow path = record { at = λ place after e question h. h.1 }

  -- so parts make a finding where they do so whatever is declared
  pub makes_view : (view : Refusals) (path : Path) → Makes view Line path → Makes view (ViewRefuses part members) path
  makes_view view path makes = makes_more view (ViewRefuses part members) Line path (view_narrow path makes.demanded) makes

  pub view_makes : (view : Refusals) (path : Path) → Makes view (ViewRefuses part members) path → Makes view Line path
  view_makes view path makes = makes_more view Line (ViewRefuses part members) path (line_narrow path) makes

-- more parts still make a finding
pub makes_with_more : {X : Type 0} (part : X → ViewedPart) (view : Refusals) (path : Path) (some all : List X)
    → ((x : X) → OneOf (λ y. y ≡ x) some → OneOf (λ y. y ≡ x) all) → Makes view (ViewRefuses part some) path → Makes view (ViewRefuses part all) path
makes_with_more part view path some all among makes =
    makes_more view (ViewRefuses part all) (ViewRefuses part some) path (record { at = λ place after e question h. more_refuse_more part some all among place question h }) makes
