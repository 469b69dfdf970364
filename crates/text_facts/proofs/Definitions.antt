-- Definitions: their names, which of them use which, and which reach themselves.
use Rattle.std.proofs.Common.{◌≡◌, ℕ, zero, suc, ◌<◌, false, List, [], ◌∷◌, Some, None, inl, inr, subst, refl, rules, arith}
use Rattle.std.specs.Prelude.{codes, map}
use Rattle.cue_scope.specs.Definitions.{definitions, number_of_name, repeated_names}
use Rattle.cue_scope.specs.Uses.{graph}
use Rattle.cue_scope.specs.Graph.{IsNodeIn, Reaches, IsReached, PointsTo, targets, start, go_on, IsAcyclic}
use Rattle.cue_scope.specs.Refusing.{IsCycleAt}
use Rattle.cue_syntax.specs.declared.tree.Identifier.TheVariants.{Definition}
use Rattle.cue_syntax.specs.declared.tree.Mark.TheVariants.{Regular}
use Rattle.cue_syntax.specs.Syntax.{name, parenthesis, struct, list, branch, field, definition, each_rest, no_rest, elements_of, entries_in}
use Rattle.text_facts.proofs.OnLiterals.{lexed}
use Rattle.text_facts.proofs.Trees.{Says, file, label, number, both, either, read}

-- in the order of the text
names_and_places : Says (codes "#A: 1, b: 2, #C: d: 3") (λ es. (map {B = List ℕ} (λ d. d.name) (definitions es) ≡ codes "#A" ∷ codes "#C" ∷ []) × (map {B = ℕ} (λ d. d.place) (definitions es) ≡ 0 ∷ 13 ∷ []))
unfolding lexed
names_and_places = (_, read _ (file (definition (codes "#A") 0 [] (number 1) ∷ field (label (codes "b") Regular) [] (number 2) ∷ definition (codes "#C") 13 ((label (codes "d") Regular) ∷ []) (number 3) ∷ [])) refl (search rules) (search rules), (refl, refl))

-- from 0, and that of the first where a name is repeated
numbers_of_definitions : Says (codes "#A: 1, #B: 2, #A: 3") (λ es. (number_of_name (codes "#A") (definitions es) ≡ Some 0) × (number_of_name (codes "#B") (definitions es) ≡ Some 1) × (number_of_name (codes "#C") (definitions es) ≡ None))
unfolding lexed
numbers_of_definitions = (_, read _ (file (definition (codes "#A") 0 [] (number 1) ∷ definition (codes "#B") 7 [] (number 2) ∷ definition (codes "#A") 14 [] (number 3) ∷ [])) refl (search rules) (search rules), (refl, refl, refl))

repeated_definitions : (Says (codes "#A: 1, #B: 2, #A: 3, #A: 4") (λ es. repeated_names (definitions es) ≡ 14 ∷ 21 ∷ [])) × (Says (codes "#A: 1, #B: 1") (λ es. repeated_names (definitions es) ≡ [])) × (Says (codes "a: 1, a: 2") (λ es. repeated_names (definitions es) ≡ []))
unfolding lexed
repeated_definitions = ((_, read _ (file (definition (codes "#A") 0 [] (number 1) ∷ definition (codes "#B") 7 [] (number 2) ∷ definition (codes "#A") 14 [] (number 3) ∷ definition (codes "#A") 21 [] (number 4) ∷ [])) refl (search rules) (search rules), refl), (_, read _ (file (definition (codes "#A") 0 [] (number 1) ∷ definition (codes "#B") 7 [] (number 1) ∷ [])) refl (search rules) (search rules), refl), (_, read _ (file (field (label (codes "a") Regular) [] (number 1) ∷ field (label (codes "a") Regular) [] (number 2) ∷ [])) refl (search rules) (search rules), refl))

-- by their numbers, as often as they are named
definitions_that_others_use : (Says (codes "#A: #B & #B, #B: {c: #C}, #C: 1") (λ es. graph (definitions es) ≡ (1 ∷ 1 ∷ []) ∷ (2 ∷ []) ∷ [] ∷ [])) × (Says (codes "#A: [#A, ...#A] & (#A | 1)") (λ es. graph (definitions es) ≡ (0 ∷ 0 ∷ 0 ∷ []) ∷ [])) × (Says (codes "a: #B, #B: 1") (λ es. graph (definitions es) ≡ [] ∷ []))
unfolding lexed
definitions_that_others_use = ((_, read _ (file (definition (codes "#A") 0 [] (both ((name (Definition (codes "#B")) 4) ∷ (name (Definition (codes "#B")) 9) ∷ [])) ∷ definition (codes "#B") 13 [] (struct (entries_in (field (label (codes "c") Regular) [] (name (Definition (codes "#C")) 21) ∷ [])) false) ∷ definition (codes "#C") 26 [] (number 1) ∷ [])) refl (search rules) (search rules), refl), (_, read _ (file (definition (codes "#A") 0 [] (both ((list (elements_of ((name (Definition (codes "#A")) 5) ∷ [])) (each_rest (name (Definition (codes "#A")) 12)) false) ∷ (parenthesis (either (branch false 19 (name (Definition (codes "#A")) 19) ∷ branch false 24 (number 1) ∷ [])) false) ∷ [])) ∷ [])) refl (search rules) (search rules), refl), (_, read _ (file (field (label (codes "a") Regular) [] (name (Definition (codes "#B")) 3) ∷ definition (codes "#B") 7 [] (number 1) ∷ [])) refl (search rules) (search rules), refl))

-- 0 to 1 and 1 to 0, and 2 to 0
abbrev round : List (List ℕ)
round = (1 ∷ []) ∷ (0 ∷ []) ∷ (0 ∷ []) ∷ []

a_node_reaches_itself_in_two_steps : Reaches round 0 0
a_node_reaches_itself_in_two_steps = go_on 1 0 (start 1 (inl refl)) (inl refl)

-- 2 is pointed to by none
no_target_is_2 : (j i : ℕ) → j < 2 → PointsTo round j i → i < 2
no_target_is_2 zero i below (inl e) = omega (arith, e)
no_target_is_2 zero i below (inr e) = absurd e
no_target_is_2 (suc zero) i below (inl e) = omega (arith, e)
no_target_is_2 (suc zero) i below (inr e) = absurd e
no_target_is_2 (suc (suc j)) i below to = absurd (omega (arith, below))

reached_below : {i : ℕ} → IsReached round (0 ∷ []) i → i < 2
reached_below (start i (inl e)) = omega (arith, e)
reached_below (start i (inr e)) = absurd e
reached_below (go_on j i before to) = no_target_is_2 j i (reached_below before) to

no_node_leads_there : Reaches round 2 2 → ⊥
no_node_leads_there h = let below : 2 < 2 = reached_below h in absurd (omega (arith, below))

pub none_is_acyclic : IsAcyclic []
none_is_acyclic i h = none i h
  where
    none : (i : ℕ) {j : ℕ} → IsReached [] (targets [] i) j → ⊥
    none i (start _ e) = e
    none i (go_on k _ before to) = to

pub one_that_leads_to_none_is_acyclic : IsAcyclic ([] ∷ [])
one_that_leads_to_none_is_acyclic i h = from_none i i h
  where
    from_none : (i j : ℕ) → IsReached ([] ∷ []) (targets ([] ∷ []) i) j → ⊥
    from_none zero j (start _ e) = e
    from_none (suc i) j (start _ e) = e
    from_none i j (go_on zero _ before to) = to
    from_none i j (go_on (suc k) _ before to) = to

-- the first of them is named
definitions_that_use_each_other : Says (codes "#B: {a: #A}, #A: #B") (λ es. IsCycleAt (definitions es) 0)
unfolding lexed
definitions_that_use_each_other = (_, read _ (file (definition (codes "#B") 0 [] (struct (entries_in (field (label (codes "a") Regular) [] (name (Definition (codes "#A")) 8) ∷ [])) false) ∷ definition (codes "#A") 13 [] (name (Definition (codes "#B")) 17) ∷ [])) refl (search rules) (search rules), record { number = 0; first = record { reaches = go_on 1 0 (start 1 (inl refl)) (inl refl); first = λ j below. absurd (omega (arith, below)) }; place = refl })

-- 0 to 1 and 1 to 1
abbrev behind_one : List (List ℕ)
behind_one = (1 ∷ []) ∷ (1 ∷ []) ∷ []

always_1 : (i : ℕ) → IsReached behind_one (1 ∷ []) i → i ≡ 1
always_1 i (start _ (inl e)) = e
always_1 i (start _ (inr e)) = absurd e
always_1 i (go_on j _ before to) = let e = always_1 j before in target (subst (λ n. PointsTo behind_one n i) e to)
  where
    target : IsNodeIn i (1 ∷ []) → i ≡ 1
    target (inl e) = e
    target (inr e) = absurd e

zero_is_not_reached : (j : ℕ) → j < 1 → Reaches behind_one j j → ⊥
zero_is_not_reached zero below h = let e : 0 ≡ 1 = always_1 0 h in absurd (omega (arith, e))
zero_is_not_reached (suc j) below h = absurd (omega (arith, below))

-- and not one that leads to them
only_definitions_that_reach_themselves_are_named : Says (codes "#A: #B, #B: [#B]") (λ es. IsCycleAt (definitions es) 8)
unfolding lexed
only_definitions_that_reach_themselves_are_named = (_, read _ (file (definition (codes "#A") 0 [] (name (Definition (codes "#B")) 4) ∷ definition (codes "#B") 8 [] (list (elements_of ((name (Definition (codes "#B")) 13) ∷ [])) no_rest false) ∷ [])) refl (search rules) (search rules), record { number = 1; first = record { reaches = start 1 (inl refl); first = zero_is_not_reached }; place = refl })
