-- What each event does, against what it does to the sets of puts.
use Rattle.std.proofs.Common.{◌≡◌, ℕ, ◌<◌, ◌≤◌, List, [], ◌∷◌, ◌++◌, length, map, Some, Vec, Global, refl, sym, ap, ◌∙◌, subst, inl, inr, ⊎_elim, arith}
use Rattle.std.specs.Prelude.{slice_get, slice_set}
use Rattle.cue_lattice.specs.Question.{Refusals, SameAnswers}
use Rattle.cue_lattice.specs.World.{text, state, pieces_refuse}
use Rattle.cue_lattice.specs.declared.text.Text.{Text}
use Rattle.cue_policies.specs.declared.kind.LayerKind.{LayerKind}
use Rattle.cue_replica.specs.Language.{Table, language}
use Rattle.cue_replica.specs.Replica.{AddsRefusals}
use Rattle.cue_replica.proofs.Adding.{one_piece}
use Rattle.cue_replica.proofs.Along.{length-along, along_at, along_set, along_push, set_same, found_within}
use Rattle.cue_layers.specs.Join.{CommonsGrows}
use Rattle.cue_layers.specs.Maps.{IsMapOfPuts, commons_put, put_of}
use Rattle.cue_layers.specs.Puts.{Put}
use Rattle.cue_layers.specs.Refusals.{piece_of_refusal}
use Rattle.cue_layers.specs.declared.piece.Piece.{Piece as OwnedPiece}
use Rattle.cue_layers.specs.declared.refusal.LayersRefusal.{LayersRefusal}
use Rattle.cue_layers.proofs.Adding.{adds_puts}
use Rattle.cue_layers.proofs.Maps.{joins_puts}
use Rattle.cue_layers.proofs.OneSpelling.{one_of_bytes, map_of_bytes}
use Rattle.cue_layers_world.specs.Inner.Steps.{Map, MapsAgree, HappensAtMap, PutsLayer, SubmitsToMap, TakesIntoMap, Joins, TakesForeign, SendsMap, DeliversMap, IsHeld, StepsMaps}
use Rattle.cue_layers_world.specs.Sites.{IsSiteOf, IsMessageOfMap}
use Rattle.cue_layers_world.specs.World.{LayerSets, IsMapThere, IsWorldRefusal, IsMarked, add_to_layers, send_set, puts_at}
use Rattle.cue_layers_world.specs.declared.world.LayersEvent.{LayersEvent}
use Rattle.cue_layers_world.specs.declared.world.LayersEvent.TheVariants as events
use Rattle.cue_layers_world.specs.declared.world.LayersOutcome.{LayersOutcome}
use Rattle.cue_layers_world.specs.declared.world.LayersOutcome.TheVariants as outcomes
use Rattle.cue_layers_world.proofs.Messages.{read_back, only_memory}
use Rattle.cue_layers_world.proofs.Nexts.{may_put, put_refusal}

-- where there is no such site or message
nothing_happens :
    (event : LayersEvent) (old new : List Map) (messages : List (Vec ℕ Global)) (outcome : LayersOutcome) (sets : LayerSets)
    → (IsMapThere sets event → ⊥) → new ≡ old → outcome ≡ outcomes.NoSuch → MapsAgree old messages sets → StepsMaps event new messages outcome sets
nothing_happens event old new messages outcome sets absent same none agrees =
    let P : LayersOutcome → Type 0 = λ o. StepsMaps event new messages o sets in
    let Q : List Map → Type 0 = λ n. StepsMaps event n messages outcomes.NoSuch sets in
    subst P (sym none) (subst Q (sym same) (record {
      some = (sets, (absent, refl));
      every = λ next h. subst (MapsAgree old messages) (sym h.1) agrees;
    }))

-- where it is refused
stays :
    (event : LayersEvent) (sites : List Map) (messages : List (Vec ℕ Global)) (why : LayersRefusal) (sets : LayerSets)
    → IsMapThere sets event → IsWorldRefusal sets event why → MapsAgree sites messages sets → StepsMaps event sites messages (outcomes.Refused why) sets
stays event sites messages why sets there refusal agrees = record {
  some = (sets, (there, refusal, refl));
  every = λ next h. subst (MapsAgree sites messages) (sym h.2) agrees;
}

refused_happens :
    (event : LayersEvent) (old : List Map) (messages : List (Vec ℕ Global)) (site : ℕ) (before after : Map) (why : LayersRefusal) (sets : LayerSets)
    → IsMapThere sets event → IsWorldRefusal sets event why → after ≡ before → slice_get old site ≡ Some before → MapsAgree old messages sets
    → StepsMaps event (slice_set old site after) messages (outcomes.Refused why) sets
refused_happens event old messages site before after why sets there refusal same found agrees =
    let kept : slice_set old site after ≡ old = ap (λ (x : Map). slice_set old site x) same ∙ set_same old site before found in
    let Q : List Map → Type 0 = λ n. StepsMaps event n messages (outcomes.Refused why) sets in
    subst Q (sym kept) (stays event old messages why sets there refusal agrees)

-- a site of the world is one of the sets
site_there : (old : List Map) (messages : List (Vec ℕ Global)) (sets : LayerSets) (site : ℕ) (before : Map) → MapsAgree old messages sets → slice_get old site ≡ Some before → site < length sets.sites
site_there old messages sets site before agrees found =
    let within = found_within old site before found in
    omega (arith, length-along IsSiteOf old sets.sites agrees.sites)

site_absent : (old : List Map) (messages : List (Vec ℕ Global)) (sets : LayerSets) (site : ℕ) → MapsAgree old messages sets → length old ≤ site → site < length sets.sites → ⊥
site_absent old messages sets site agrees past there = omega (arith, length-along IsSiteOf old sets.sites agrees.sites)

message_there : (old : List Map) (messages : List (Vec ℕ Global)) (sets : LayerSets) (message : ℕ) (bytes : Vec ℕ Global) → MapsAgree old messages sets → slice_get messages message ≡ Some bytes → message < length sets.messages
message_there old messages sets message bytes agrees found =
    let within = found_within messages message bytes found in
    omega (arith, length-along IsMessageOfMap messages sets.messages agrees.sent)

message_absent : (old : List Map) (messages : List (Vec ℕ Global)) (sets : LayerSets) (message : ℕ) → MapsAgree old messages sets → length messages ≤ message → message < length sets.messages → ⊥
message_absent old messages sets message agrees past there = omega (arith, length-along IsMessageOfMap messages sets.messages agrees.sent)

-- the map of a site is that of its puts
site_of : (old : List Map) (messages : List (Vec ℕ Global)) (sets : LayerSets) (site : ℕ) (before : Map) → MapsAgree old messages sets → slice_get old site ≡ Some before → IsMapOfPuts (puts_at sets.sites site) before
site_of old messages sets site before agrees found = along_at IsSiteOf old sets.sites site before [] agrees.sites found

-- a site accepts puts
accepts :
    (old : List Map) (messages : List (Vec ℕ Global)) (sets : LayerSets) (site : ℕ) (after : Map) (more : List Put)
    → MapsAgree old messages sets → IsMapOfPuts (puts_at sets.sites site ++ more) after → MapsAgree (slice_set old site after) messages (add_to_layers sets site more)
accepts old messages sets site after more agrees of = record {
  sites = along_set IsSiteOf old sets.sites site after (puts_at sets.sites site ++ more) agrees.sites of;
  sent = agrees.sent;
}

-- ---- a put
puts :
    (old : List Map) (messages : List (Vec ℕ Global)) (site : ℕ) (kind : LayerKind) (name : Text) (pieces : Vec OwnedPiece Global) (outcome : LayersOutcome) (sets : LayerSets) (before after : Map)
    → slice_get old site ≡ Some before → PutsLayer kind name (map piece_of_refusal pieces.items) before after outcome → MapsAgree old messages sets
    → StepsMaps (events.Put site kind name pieces) (slice_set old site after) messages outcome sets
puts old messages site kind name pieces (outcomes.Put revision) sets before after found step agrees =
    let of = site_of old messages sets site before agrees found in
    let all = map piece_of_refusal pieces.items in
    let put : Put = record { kind = kind; name = name; revision = revision; pieces = all } in
    let more = accepts old messages sets site after (put ∷ []) agrees (adds_puts.put before after (puts_at sets.sites site) kind name all revision of step) in
    record {
      some = (add_to_layers sets site (put ∷ []), (site_there old messages sets site before agrees found, (may_put (puts_at sets.sites site) before after kind name all revision of step, refl)));
      every = λ next h. subst (MapsAgree (slice_set old site after) messages) (sym h.1.1) more;
    }
puts old messages site kind name pieces (outcomes.Refused why) sets before after found step agrees =
    let of = site_of old messages sets site before agrees found in
    refused_happens (events.Put site kind name pieces) old messages site before after why sets (site_there old messages sets site before agrees found)
    (put_refusal (puts_at sets.sites site) before of kind name (map piece_of_refusal pieces.items) why step.1) step.0 found agrees
puts old messages site kind name pieces outcomes.Accepted sets before after found step agrees = absurd step
puts old messages site kind name pieces (outcomes.Sent number) sets before after found step agrees = absurd step
puts old messages site kind name pieces outcomes.NoSuch sets before after found step agrees = absurd step

pub put_happens :
    (old new : List Map) (messages : List (Vec ℕ Global)) (site : ℕ) (kind : LayerKind) (name : Text) (pieces : Vec OwnedPiece Global) (outcome : LayersOutcome) (sets : LayerSets)
    → HappensAtMap (PutsLayer kind name (map piece_of_refusal pieces.items)) old site new outcome → MapsAgree old messages sets → StepsMaps (events.Put site kind name pieces) new messages outcome sets
put_happens old new messages site kind name pieces outcome sets (inl none) agrees =
    nothing_happens (events.Put site kind name pieces) old new messages outcome sets (site_absent old messages sets site agrees none.0) none.1 none.2 agrees
put_happens old new messages site kind name pieces outcome sets (inr some) agrees =
    let P : List Map → Type 0 = λ n. StepsMaps (events.Put site kind name pieces) n messages outcome sets in
    subst P (sym some.3) (puts old messages site kind name pieces outcome sets some.0 some.1 some.2 some.4 agrees)

-- ---- the commons
-- it grows by the same, said in another way
grows_by : (old new : Map) (a b : Refusals) → SameAnswers a b → CommonsGrows old a new → CommonsGrows old b new
grows_by [] new a b same grows = absurd grows
grows_by (l ∷ ls) [] a b same grows = absurd grows
grows_by (l ∷ ls) (m ∷ ms) a b same grows = (grows.0, adds_by l.content m.content grows.1, grows.2)
  where
    adds_by : (x y : Table) → AddsRefusals x a y → AddsRefusals x b y
    adds_by x y adds path question =
        let s = same path question in
        let d = adds path question in
        (λ h. ⊎_elim (λ p. inl p) (λ p. inr (s.0 p)) (d.0 h), λ h. d.1 (⊎_elim (λ p. inl p) (λ p. inr (s.1 p)) h))

submits :
    (old : List Map) (messages : List (Vec ℕ Global)) (site : ℕ) (t : Text) (outcome : LayersOutcome) (sets : LayerSets) (before after : Map)
    → slice_get old site ≡ Some before → SubmitsToMap t before after outcome → MapsAgree old messages sets
    → StepsMaps (events.Submit site t) (slice_set old site after) messages outcome sets
submits old messages site t outcomes.Accepted sets before after found step agrees =
    let of = site_of old messages sets site before agrees found in
    let grows = grows_by before after (language.text_refuses t) (pieces_refuse language (text t ∷ [])) (one_piece (text t)) step.1 in
    let more = accepts old messages sets site after (commons_put (text t ∷ []) ∷ []) agrees (adds_puts.commons before after (puts_at sets.sites site) (text t) of step.2 grows) in
    record {
      some = (add_to_layers sets site (commons_put (text t ∷ []) ∷ []), (site_there old messages sets site before agrees found, (step.0, refl)));
      every = λ next h. subst (MapsAgree (slice_set old site after) messages) (sym h.1.1) more;
    }
submits old messages site t (outcomes.Refused why) sets before after found step agrees =
    refused_happens (events.Submit site t) old messages site before after why sets (site_there old messages sets site before agrees found) step.1 step.0 found agrees
submits old messages site t (outcomes.Put revision) sets before after found step agrees = absurd step
submits old messages site t (outcomes.Sent number) sets before after found step agrees = absurd step
submits old messages site t outcomes.NoSuch sets before after found step agrees = absurd step

pub submit_happens :
    (old new : List Map) (messages : List (Vec ℕ Global)) (site : ℕ) (t : Text) (outcome : LayersOutcome) (sets : LayerSets)
    → HappensAtMap (SubmitsToMap t) old site new outcome → MapsAgree old messages sets → StepsMaps (events.Submit site t) new messages outcome sets
submit_happens old new messages site t outcome sets (inl none) agrees =
    nothing_happens (events.Submit site t) old new messages outcome sets (site_absent old messages sets site agrees none.0) none.1 none.2 agrees
submit_happens old new messages site t outcome sets (inr some) agrees =
    let P : List Map → Type 0 = λ n. StepsMaps (events.Submit site t) n messages outcome sets in
    subst P (sym some.3) (submits old messages site t outcome sets some.0 some.1 some.2 some.4 agrees)

-- ---- bytes from outside
takes :
    (old : List Map) (messages : List (Vec ℕ Global)) (site : ℕ) (bytes : Vec ℕ Global) (outcome : LayersOutcome) (sets : LayerSets) (before after : Map)
    → slice_get old site ≡ Some before → ¬ IsMarked bytes.items → TakesIntoMap bytes.items before after outcome → MapsAgree old messages sets
    → StepsMaps (events.Foreign site bytes) (slice_set old site after) messages outcome sets
takes old messages site bytes outcomes.Accepted sets before after found plain step agrees =
    let of = site_of old messages sets site before agrees found in
    let put : List Put = commons_put (state bytes.items ∷ []) ∷ [] in
    let grows = grows_by before after (language.state_refuses bytes.items) (pieces_refuse language (state bytes.items ∷ [])) (one_piece (state bytes.items)) step.1 in
    let more = accepts old messages sets site after put agrees (adds_puts.commons before after (puts_at sets.sites site) (state bytes.items) of step.2 grows) in
    let P : LayerSets → Type 0 = λ s. MapsAgree (slice_set old site after) messages s in
    record {
      some = (add_to_layers sets site put, (site_there old messages sets site before agrees found, (put, inr (plain, step.0, refl), refl)));
      every = λ next h. ⊎_elim
          (λ marked. absurd (plain marked.0))
          (λ taken. subst P (sym (h.1.2 ∙ ap (λ (ps : List Put). add_to_layers sets site ps) taken.2)) more)
          h.1.1;
    }
takes old messages site bytes (outcomes.Refused why) sets before after found plain step agrees =
    refused_happens (events.Foreign site bytes) old messages site before after why sets (site_there old messages sets site before agrees found) (inr (plain, step.1)) step.0 found agrees
takes old messages site bytes (outcomes.Put revision) sets before after found plain step agrees = absurd step
takes old messages site bytes (outcomes.Sent number) sets before after found plain step agrees = absurd step
takes old messages site bytes outcomes.NoSuch sets before after found plain step agrees = absurd step

joins :
    (old : List Map) (messages : List (Vec ℕ Global)) (site : ℕ) (bytes : Vec ℕ Global) (outcome : LayersOutcome) (sets : LayerSets) (before after : Map)
    → slice_get old site ≡ Some before → IsHeld bytes.items → IsMarked bytes.items → Joins bytes.items before after outcome → MapsAgree old messages sets
    → StepsMaps (events.Foreign site bytes) (slice_set old site after) messages outcome sets
joins old messages site bytes outcomes.Accepted sets before after found held marked step agrees =
    let of = site_of old messages sets site before agrees found in
    let put : List Put = map put_of step.0 in
    let theirs = map_of_bytes bytes.items step.0 held step.1 in
    let more = accepts old messages sets site after put agrees (joins_puts before step.0 after (puts_at sets.sites site) put of theirs step.2) in
    let P : LayerSets → Type 0 = λ s. MapsAgree (slice_set old site after) messages s in
    record {
      some = (add_to_layers sets site put, (site_there old messages sets site before agrees found, (put, inl (marked, (step.0, step.1, refl)), refl)));
      every = λ next h. ⊎_elim
          (λ read.
          let one : read.1.0 ≡ step.0 = one_of_bytes bytes.items read.1.0 step.0 held read.1.1 step.1 in
          let same : h.1.0 ≡ put = read.1.2 ∙ ap (λ (ls : Map). map put_of ls) one in
          subst P (sym (h.1.2 ∙ ap (λ (ps : List Put). add_to_layers sets site ps) same)) more)
          (λ taken. absurd (taken.0 marked))
          h.1.1;
    }
joins old messages site bytes (outcomes.Refused why) sets before after found held marked step agrees =
    refused_happens (events.Foreign site bytes) old messages site before after why sets (site_there old messages sets site before agrees found) (inl (marked, step.1)) step.0 found agrees
joins old messages site bytes (outcomes.Put revision) sets before after found held marked step agrees = absurd step
joins old messages site bytes (outcomes.Sent number) sets before after found held marked step agrees = absurd step
joins old messages site bytes outcomes.NoSuch sets before after found held marked step agrees = absurd step

pub foreign_happens :
    (old new : List Map) (messages : List (Vec ℕ Global)) (site : ℕ) (bytes : Vec ℕ Global) (outcome : LayersOutcome) (sets : LayerSets)
    → TakesForeign bytes.items old site new outcome → MapsAgree old messages sets → StepsMaps (events.Foreign site bytes) new messages outcome sets
foreign_happens old new messages site bytes outcome sets step agrees = ⊎_elim (λ read. joined read.0 read.1) (λ taken. took taken.0 taken.1) step.1
  where
    P : List Map → Type 0
    P n = StepsMaps (events.Foreign site bytes) n messages outcome sets

    absent : (length old ≤ site) × (new ≡ old) × (outcome ≡ outcomes.NoSuch) → P new
    absent none = nothing_happens (events.Foreign site bytes) old new messages outcome sets (site_absent old messages sets site agrees none.0) none.1 none.2 agrees

    joined : IsMarked bytes.items → HappensAtMap (Joins bytes.items) old site new outcome → P new
    joined marked (inl none) = absent none
    joined marked (inr some) = subst P (sym some.3) (joins old messages site bytes outcome sets some.0 some.1 some.2 step.0 marked some.4 agrees)

    took : ¬ IsMarked bytes.items → HappensAtMap (TakesIntoMap bytes.items) old site new outcome → P new
    took plain (inl none) = absent none
    took plain (inr some) = subst P (sym some.3) (takes old messages site bytes outcome sets some.0 some.1 some.2 plain some.4 agrees)

-- ---- a message
delivers :
    (old : List Map) (messages : List (Vec ℕ Global)) (site message : ℕ) (bytes : Vec ℕ Global) (outcome : LayersOutcome) (sets : LayerSets) (before after : Map)
    → slice_get messages message ≡ Some bytes → IsHeld bytes.items → slice_get old site ≡ Some before → Joins bytes.items before after outcome → MapsAgree old messages sets
    → StepsMaps (events.Deliver site message) (slice_set old site after) messages outcome sets
delivers old messages site message bytes outcomes.Accepted sets before after sent held found step agrees =
    let of = site_of old messages sets site before agrees found in
    let known = along_at IsMessageOfMap messages sets.messages message bytes [] agrees.sent sent in
    let theirs = read_back bytes.items (puts_at sets.messages message) known.0 step.0 held known.1 known.2 step.1 in
    let more = accepts old messages sets site after (puts_at sets.messages message) agrees (joins_puts before step.0 after (puts_at sets.sites site) (puts_at sets.messages message) of theirs step.2) in
    record {
      some = (add_to_layers sets site (puts_at sets.messages message), ((site_there old messages sets site before agrees found, message_there old messages sets message bytes agrees sent), refl));
      every = λ next h. subst (MapsAgree (slice_set old site after) messages) (sym h.1) more;
    }
delivers old messages site message bytes (outcomes.Refused why) sets before after sent held found step agrees =
    let known = along_at IsMessageOfMap messages sets.messages message bytes [] agrees.sent sent in
    refused_happens (events.Deliver site message) old messages site before after why sets
    (site_there old messages sets site before agrees found, message_there old messages sets message bytes agrees sent)
    (only_memory bytes.items (puts_at sets.messages message) known.0 why known.1 known.2 step.1) step.0 found agrees
delivers old messages site message bytes (outcomes.Put revision) sets before after sent held found step agrees = absurd step
delivers old messages site message bytes (outcomes.Sent number) sets before after sent held found step agrees = absurd step
delivers old messages site message bytes outcomes.NoSuch sets before after sent held found step agrees = absurd step

pub deliver_happens :
    (old new : List Map) (messages : List (Vec ℕ Global)) (site message : ℕ) (outcome : LayersOutcome) (sets : LayerSets)
    → DeliversMap messages message old site new outcome → MapsAgree old messages sets → StepsMaps (events.Deliver site message) new messages outcome sets
deliver_happens old new messages site message outcome sets (inl none) agrees =
    nothing_happens (events.Deliver site message) old new messages outcome sets (λ there. message_absent old messages sets message agrees none.0 there.1) none.1 none.2 agrees
deliver_happens old new messages site message outcome sets (inr some) agrees = delivered some.3
  where
    P : List Map → Type 0
    P n = StepsMaps (events.Deliver site message) n messages outcome sets

    delivered : HappensAtMap (Joins some.0.items) old site new outcome → P new
    delivered (inl none) =
        nothing_happens (events.Deliver site message) old new messages outcome sets (λ there. site_absent old messages sets site agrees none.0 there.0) none.1 none.2 agrees
    delivered (inr here) = subst P (sym here.3) (delivers old messages site message some.0 outcome sets here.0 here.1 some.1 some.2 here.2 here.4 agrees)

pub send_happens :
    (old : List Map) (messages new : List (Vec ℕ Global)) (site : ℕ) (outcome : LayersOutcome) (sets : LayerSets)
    → SendsMap old site messages new outcome → MapsAgree old messages sets → StepsMaps (events.Send site) old new outcome sets
send_happens old messages new site (outcomes.Sent number) sets sent agrees =
    let of = site_of old messages sets site sent.0 agrees sent.2 in
    let count : number ≡ length sets.messages = sent.4 ∙ length-along IsMessageOfMap messages sets.messages agrees.sent in
    let is_sent : IsMessageOfMap sent.1 (puts_at sets.sites site) = (sent.0, of, sent.3) in
    let more : MapsAgree old (messages ++ sent.1 ∷ []) (send_set sets site) = record {
      sites = agrees.sites;
      sent = along_push IsMessageOfMap messages sets.messages sent.1 (puts_at sets.sites site) agrees.sent is_sent;
    } in
    let P : List (Vec ℕ Global) → Type 0 = λ m. StepsMaps (events.Send site) old m (outcomes.Sent number) sets in
    subst P (sym sent.5) (record {
      some = (send_set sets site, (site_there old messages sets site sent.0 agrees sent.2, (count, refl)));
      every = λ next h. subst (MapsAgree old (messages ++ sent.1 ∷ [])) (sym h.1.1) more;
    })
send_happens old messages new site (outcomes.Refused why) sets step agrees =
    let P : List (Vec ℕ Global) → Type 0 = λ m. StepsMaps (events.Send site) old m (outcomes.Refused why) sets in
    subst P (sym step.2) (stays (events.Send site) old messages why sets (omega (arith, step.0, length-along IsSiteOf old sets.sites agrees.sites)) step.1 agrees)
send_happens old messages new site outcomes.NoSuch sets step agrees =
    let P : List (Vec ℕ Global) → Type 0 = λ m. StepsMaps (events.Send site) old m outcomes.NoSuch sets in
    subst P (sym step.1) (nothing_happens (events.Send site) old old messages outcomes.NoSuch sets (site_absent old messages sets site agrees step.0) refl refl agrees)
send_happens old messages new site outcomes.Accepted sets step agrees = absurd step
send_happens old messages new site (outcomes.Put revision) sets step agrees = absurd step
