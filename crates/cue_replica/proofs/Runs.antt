-- A run so far: the outcomes are allowed, and each site and message is what its set of pieces makes it.
use Rattle.std.proofs.Common.{◌≡◌, ℕ, zero, suc, List, [], ◌∷◌, ◌++◌, map, Vec, Global, refl, sym, ap, ◌∙◌, subst, length, take, drop, append-nil, arith}
use Rattle.std.specs.Prelude.{replicate}
use Rattle.std.proofs.lemmas.List.{take_all, drop_all}
use Rattle.cue_table.specs.Tree.{empty}
use Rattle.cue_lattice.specs.World as world
use Rattle.cue_lattice.specs.World.{Meaning, Piece, Sets, AllAlong, IsEventOutcome, AreOutcomes, IsUnified, reach_sets, start_sets, pieces_at}
use Rattle.cue_replica.specs.declared.world.Event.{Event}
use Rattle.cue_replica.specs.declared.world.Outcome.{Outcome}
use Rattle.cue_replica.specs.Language.{Table, language}
use Rattle.cue_replica.specs.Inner.Events.{TablesAgree, EventHappens}
use Rattle.cue_replica.specs.World.{event_of, outcome_of, reached_sets, AreEqualSites, HaveSitesEqualReports}
use Rattle.cue_replica.specs.Reports.{HaveEqualReports}
use Rattle.cue_report.proofs.OneReport.{one_report}
use Rattle.cue_replica.proofs.Adding.{same_pieces_refuse}
use Rattle.cue_replica.proofs.Along.{along_at}
use Rattle.cue_replica.proofs.Accepted.{new_site}
use Rattle.cue_replica.proofs.Sound.{sound}

-- one more event
reach_more :
    {T : Type 0} (m : Meaning T) (sets : Sets) (events : List world.Event) (outcomes : List world.Outcome) (event : world.Event) (outcome : world.Outcome)
    → AreOutcomes m sets events outcomes
    → reach_sets sets (events ++ event ∷ []) (outcomes ++ outcome ∷ []) ≡ world.sets_after (reach_sets sets events outcomes) event outcome
reach_more m sets [] [] event outcome are = refl
reach_more m sets [] (o ∷ os) event outcome are = absurd are
reach_more m sets (e ∷ es) [] event outcome are = absurd are
reach_more m sets (e ∷ es) (o ∷ os) event outcome are = reach_more m (world.sets_after sets e o) es os event outcome are.1

outcomes_more :
    {T : Type 0} (m : Meaning T) (sets : Sets) (events : List world.Event) (outcomes : List world.Outcome) (event : world.Event) (outcome : world.Outcome)
    → AreOutcomes m sets events outcomes → IsEventOutcome m (reach_sets sets events outcomes) event outcome
    → AreOutcomes m sets (events ++ event ∷ []) (outcomes ++ outcome ∷ [])
outcomes_more m sets [] [] event outcome are is = (is, tt)
outcomes_more m sets [] (o ∷ os) event outcome are is = absurd are
outcomes_more m sets (e ∷ es) [] event outcome are is = absurd are
outcomes_more m sets (e ∷ es) (o ∷ os) event outcome are is = (are.0, outcomes_more m (world.sets_after sets e o) es os event outcome are.1 is)

map_push : {A B : Type 0} (f : A → B) (xs : List A) (x : A) → map f (xs ++ x ∷ []) ≡ map f xs ++ f x ∷ []
map_push f [] x = refl
map_push {B = B} f (y ∷ xs) x = ap (λ (ys : List B). f y ∷ ys) (map_push f xs x)

-- after these events the outcomes are allowed, and sites and messages agree with their sets of pieces
pub record IsSoFar (sites : ℕ) (events : List Event) (replicas : List Table) (messages : List (Vec ℕ Global)) (outcomes : List Outcome) : Type 0 where
  pub allowed : AreOutcomes language (start_sets sites) (map event_of events) (map outcome_of outcomes)
  pub agrees : TablesAgree replicas messages (reached_sets sites events outcomes)

-- before the first event
opening_agrees : (sites : ℕ) → AllAlong (IsUnified language) (replicate sites empty) (replicate sites [])
opening_agrees zero = tt
opening_agrees (suc n) = (new_site, opening_agrees n)

-- it is so where every site is empty and there are neither messages nor outcomes
pub so_far_none : (sites : ℕ) (replicas : List Table) (messages : List (Vec ℕ Global)) (outcomes : List Outcome) → replicas ≡ replicate sites empty → messages ≡ [] → outcomes ≡ [] → IsSoFar sites [] replicas messages outcomes
so_far_none sites replicas messages outcomes r m o =
    let P : List Table → Type 0 = λ x. IsSoFar sites [] x messages outcomes in
    let Q : List (Vec ℕ Global) → Type 0 = λ x. IsSoFar sites [] (replicate sites empty) x outcomes in
    let R : List Outcome → Type 0 = λ x. IsSoFar sites [] (replicate sites empty) [] x in
    subst P (sym r) (subst Q (sym m) (subst R (sym o) (record { allowed = tt; agrees = record { sites = opening_agrees sites; sent = tt } })))

-- after one more
pub so_far_more :
    (sites : ℕ) (events : List Event) (event : Event) (replicas replicas' : List Table) (messages messages' : List (Vec ℕ Global)) (outcomes : List Outcome) (outcome : Outcome)
    → IsSoFar sites events replicas messages outcomes
    → ((sets : Sets) → TablesAgree replicas messages sets → EventHappens replicas messages event replicas' messages' outcome sets)
    → IsSoFar sites (events ++ event ∷ []) replicas' messages' (outcomes ++ outcome ∷ [])
so_far_more sites events event replicas replicas' messages messages' outcomes outcome so_far happens =
    let now = happens (reached_sets sites events outcomes) so_far.agrees in
    let es = map_push event_of events event in
    let os = map_push outcome_of outcomes outcome in
    let P : List world.Event → Type 0 = λ x. AreOutcomes language (start_sets sites) x (map outcome_of (outcomes ++ outcome ∷ [])) in
    let Q : List world.Outcome → Type 0 = λ x. AreOutcomes language (start_sets sites) (map event_of events ++ event_of event ∷ []) x in
    let R : Sets → Type 0 = λ s. TablesAgree replicas' messages' s in
    let more = reach_more language (start_sets sites) (map event_of events) (map outcome_of outcomes) (event_of event) (outcome_of outcome) so_far.allowed in
    let same : reached_sets sites (events ++ event ∷ []) (outcomes ++ outcome ∷ []) ≡ world.sets_after (reached_sets sites events outcomes) (event_of event) (outcome_of outcome) =
    ap (λ (x : List world.Event). reach_sets (start_sets sites) x (map outcome_of (outcomes ++ outcome ∷ []))) es
    ∙ ap (λ (x : List world.Outcome). reach_sets (start_sets sites) (map event_of events ++ event_of event ∷ []) x) os
    ∙ more in
    record {
      allowed = subst P (sym es) (subst Q (sym os) (outcomes_more language (start_sets sites) (map event_of events) (map outcome_of outcomes) (event_of event) (outcome_of outcome) so_far.allowed now.allowed));
      agrees = subst R (sym same) now.agrees;
    }

-- at the end sites with the same set of pieces hold equal tables
pub equal_sites : (replicas : List Table) (sets : List (List Piece)) → AllAlong (IsUnified language) replicas sets → AreEqualSites replicas sets
equal_sites replicas sets along i j a b at_i at_j same =
    let here = along_at (IsUnified language) replicas sets i a [] along at_i in
    let there = along_at (IsUnified language) replicas sets j b [] along at_j in
    let refuse = same_pieces_refuse (pieces_at sets i) (pieces_at sets j) same in
    sound.one_table a b here.0 there.0 (λ path question.
    let l = here.1 path question in
    let r = there.1 path question in
    let s = refuse path question in
    (λ h. r.1 (s.0 (l.0 h)), λ h. l.1 (s.1 (r.0 h))))

-- of a table nothing else is told than of itself
alike : (a : Table) → HaveEqualReports a a
alike a = record {
  reports = one_report (language.table_refuses a) (language.table_refuses a) (λ path question. (λ h. h, λ h. h));
  text = refl;
  bytes = refl;
}

-- and the same is told of them
pub sites_told_alike : (replicas : List Table) (sets : List (List Piece)) → AllAlong (IsUnified language) replicas sets → HaveSitesEqualReports replicas sets
sites_told_alike replicas sets along i j a b at_i at_j same =
    subst (HaveEqualReports a) (equal_sites replicas sets along i j a b at_i at_j same) (alike a)

-- a list that was lent whole and comes back with as many elements
pub lent_whole : {X : Type 0} (old new : List X) (n : ℕ) → length new ≡ length old → n ≡ length old → take n (new ++ drop (length new) old) ≡ new
lent_whole {X} old new n same is =
    let none : drop (length new) old ≡ [] = drop_all (length new) old (omega arith) in
    let all : new ++ drop (length new) old ≡ new = ap (λ (x : List X). new ++ x) none ∙ append-nil new in
    ap (take n) all ∙ take_all n new (omega arith)
