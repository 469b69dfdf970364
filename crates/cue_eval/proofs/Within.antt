-- What may not stand isn't usual.
use Rattle.std.proofs.Common.{◌≡◌, ◌⊎◌, ℕ, inl, inr, ⊎_elim, Bool, true, false, ◌||◌, List, [], ◌∷◌, Option, Some, None, refl, ap, ◌∙◌}
use Rattle.std.specs.Prelude.{unwrap_or, filter_map}
use Rattle.std.specs.List.{list_any, list_all, cons_option}
use Rattle.cue_lattice.specs.declared.scalar.Scalar.{Scalar}
use Rattle.cue_lattice.specs.Question as questions
use Rattle.cue_lattice.specs.Question.{Question, may_be, usual, level_at_most}
use Rattle.cue_scalars.specs.Pairs.{ScalarMembers, ScalarPair, default_or_value, default_of, unite_defaults, is_any_marked}
use Rattle.cue_scope.specs.Core.{Core, conjunction, disjunction, closed, Cores, no_cores, core, Choices, no_choices, choice}
use Rattle.cue_eval.specs.Pairs.{pair, pairs_of, terms_of}
use Rattle.cue_eval.specs.Origins.{LiteralSource, scalar, a_struct, a_list, mark, closing, SourceRefuses, UsualIsWithin, IsLevelOrigin, PlacesAreOfKinds, IsStruct, IsListOrigin}
use Rattle.cue_syntax.specs.declared.tree.Mark.{Mark}
use Rattle.cue_eval.specs.Places.{MarkRefuses}
use Rattle.cue_eval.specs.Refuses.{Refuses}
use Rattle.cue_eval.proofs.ByPair.{all_brought, one_false, both_false}
use Rattle.cue_eval.proofs.Origins.{comes_from}

united_within : (defaults : List ScalarMembers) (value : ScalarMembers) (x : Scalar) → value x ≡ false → list_any (λ (set : ScalarMembers). set x) defaults ≡ false → unwrap_or (unite_defaults defaults) value x ≡ false
united_within [] value x v e = v
united_within (first ∷ defaults) value x v e = e

-- a default, if there is one, and others
more_defaults : (default : Option ScalarMembers) (defaults : List ScalarMembers) (value : ScalarMembers) (x : Scalar) →
    unwrap_or default value x ≡ false → list_any (λ (set : ScalarMembers). set x) defaults ≡ false
    → list_any (λ (set : ScalarMembers). set x) (cons_option default defaults) ≡ false
more_defaults None defaults value x v rest = rest
more_defaults (Some set) defaults value x v rest = ap (λ b. b || list_any (λ (s : ScalarMembers). s x) defaults) v ∙ rest

-- the default that a term brings has nothing that its value hasn't
brings_within : (any_marked marked : Bool) (p : ScalarPair) (x : Scalar) → default_or_value p x ≡ false → p.value x ≡ false → unwrap_or (default_of any_marked (marked, p)) p.value x ≡ false
brings_within false marked p x e v = e
brings_within true true p x e v = e
brings_within true false p x e v = v

term_within : (any_marked marked : Bool) (p : ScalarPair) (terms : List (Bool × ScalarPair)) (x : Scalar) →
    default_or_value p x ≡ false → p.value x ≡ false
    → list_any (λ (set : ScalarMembers). set x) (filter_map (default_of any_marked) terms) ≡ false
    → list_any (λ (set : ScalarMembers). set x) (filter_map (default_of any_marked) ((marked, p) ∷ terms)) ≡ false
term_within any_marked marked p terms x e v rest =
    more_defaults (default_of any_marked (marked, p)) (filter_map (default_of any_marked) terms) p.value x (brings_within any_marked marked p x e v) rest

mutual
  pub within : (c : Core) (x : Scalar) → (pair c).value x ≡ false → default_or_value (pair c) x ≡ false
  within (conjunction cs) x e = all_brought (pairs_of cs) x ∙ parts_within cs x e
  within (disjunction terms) x e =
      united_within (filter_map (default_of (is_any_marked (terms_of terms))) (terms_of terms)) (λ y. list_any (λ (term : Bool × ScalarPair). term.1.value y) (terms_of terms)) x e
      (terms_within (is_any_marked (terms_of terms)) terms x e)
  within (closed c) x e = within c x e
  within _ x e = e

  parts_within : (cs : Cores) (x : Scalar) → list_all (λ (p : ScalarPair). p.value x) (pairs_of cs) ≡ false → list_all (λ p. default_or_value p x) (pairs_of cs) ≡ false
  parts_within no_cores x e = e
  parts_within (core c cs) x e =
      (one_false (default_or_value (pair c) x) (list_all (λ p. default_or_value p x) (pairs_of cs))).1
      (⊎_elim (λ f. inl (within c x f)) (λ f. inr (parts_within cs x f)) ((one_false ((pair c).value x) (list_all (λ (p : ScalarPair). p.value x) (pairs_of cs))).0 e))

  terms_within : (any_marked : Bool) (terms : Choices) (x : Scalar) → list_any (λ (term : Bool × ScalarPair). term.1.value x) (terms_of terms) ≡ false → list_any (λ (set : ScalarMembers). set x) (filter_map (default_of any_marked) (terms_of terms)) ≡ false
  terms_within any_marked no_choices x e = refl
  terms_within any_marked (choice marked c terms) x e =
      let parts = both_false ((pair c).value x) (list_any (λ (term : Bool × ScalarPair). term.1.value x) (terms_of terms)) e in
      term_within any_marked marked (pair c) (terms_of terms) x (within c x parts.0) parts.0 (terms_within any_marked terms x parts.1)

usual_source : (s : LiteralSource) (x : Scalar) → SourceRefuses s (may_be x) → SourceRefuses s (usual x)
usual_source (scalar c) x h = (h.0, within c x h.1)
usual_source a_struct x h = h
usual_source (a_list n goes_on) x h = h
usual_source (mark m) x h = h
usual_source (closing written) x (inl h) = absurd h
usual_source (closing written) x (inr h) = inr h

pub usual_is_within : UsualIsWithin
usual_is_within c path x h =
    let o = comes_from c path (may_be x) h in
    o.all (usual x) (usual_source o.source x o.asked)

abbrev OfKind : (Question → Type 0) → Question → Type 0
OfKind refuses question =
    IsLevelOrigin question ⊎ ((refuses questions.struct × refuses questions.list) ⊎ (IsStruct refuses ⊎ ((n : ℕ) × (goes_on : Bool) × IsListOrigin refuses n goes_on)))

mark_level : (s : Mark) (question : Question) → MarkRefuses s question → IsLevelOrigin question
mark_level s (level_at_most k) h = tt
mark_level s _ h = absurd h

kind_of_source : (s : LiteralSource) (refuses : Question → Type 0) (question : Question) → SourceRefuses s question → ((other : Question) → SourceRefuses s other → refuses other) → OfKind refuses question
kind_of_source (scalar c) refuses question h all = inr (inl (all questions.struct tt, all questions.list tt))
kind_of_source a_struct refuses question h all = inr (inr (inl all))
kind_of_source (a_list n goes_on) refuses question h all = inr (inr (inr (n, goes_on, all)))
kind_of_source (mark m) refuses question h all = inl (mark_level m question h)
kind_of_source (closing written) refuses question h all = inr (inr (inl (λ other g. all other (inr g))))

pub places_of_kinds : PlacesAreOfKinds
places_of_kinds c path question h =
    let o = comes_from c path question h in
    kind_of_source o.source (Refuses c path) question o.asked o.all
