-- What each event does, against what it does to the sets of pieces.
use Rattle.std.proofs.Common.{◌≡◌, ◌⊎◌, ℕ, ◌<◌, ◌≤◌, List, [], ◌∷◌, ◌++◌, length, Some, Vec, Global, refl, sym, ap, ◌∙◌, subst, inl, inr, ⊎_elim, arith}
use Rattle.std.specs.Prelude.{slice_get, slice_set}
use Rattle.cue_lattice.specs.declared.refusal.Refusal.{Refusal}
use Rattle.cue_lattice.specs.Refusal.{memory}
use Rattle.cue_lattice.specs.Question.{Refusals, SameAnswers}
use Rattle.cue_lattice.specs.declared.text.Text.{Text}
use Rattle.cue_lattice.specs.World as world
use Rattle.cue_lattice.specs.World.{Piece, Sets, IsUnified, IsAnswerOutcome, IsRefusedAtOnce, IsThere, pieces_at, pieces_refuse}
use Rattle.cue_replica.specs.declared.world.Event.{Event}
use Rattle.cue_replica.specs.declared.world.Event.TheVariants.{Submit, Send, Deliver, Foreign}
use Rattle.cue_replica.specs.declared.world.Outcome.{Outcome}
use Rattle.cue_replica.specs.declared.world.Outcome.TheVariants.{Accepted, Sent, Refused, NoSuch}
use Rattle.cue_replica.specs.Language.{Table, language}
use Rattle.cue_replica.specs.Replica.{AddsRefusals}
use Rattle.cue_replica.specs.Inner.Events.{TablesAgree, HappensAtSite, SendsState, DeliversState, EventHappens, IsHeld}
use Rattle.cue_replica.specs.World.{event_of, IsSentOf, SubmitsText, TakesState}
use Rattle.cue_replica.proofs.Adding.{one_piece, unified_more}
use Rattle.cue_replica.proofs.Sound.{sound}
use Rattle.cue_replica.proofs.Along.{length-along, along_at, along_set, along_push, set_same, found_within}

after_no_such : (sets : Sets) (event : world.Event) → world.sets_after sets event world.no_such ≡ sets
after_no_such sets (world.submit site t) = refl
after_no_such sets (world.send site) = refl
after_no_such sets (world.deliver site message) = refl
after_no_such sets (world.foreign site bytes) = refl

after_refused : (sets : Sets) (event : world.Event) (why : Refusal) → world.sets_after sets event (world.refused why) ≡ sets
after_refused sets (world.submit site t) why = refl
after_refused sets (world.send site) why = refl
after_refused sets (world.deliver site message) why = refl
after_refused sets (world.foreign site bytes) why = refl

-- where there is no such site or message
nothing_happens :
    (old new : List Table) (messages : List (Vec ℕ Global)) (event : Event) (outcome : Outcome) (sets : Sets)
    → (IsThere sets (event_of event) → ⊥) → new ≡ old → outcome ≡ NoSuch → TablesAgree old messages sets → EventHappens old messages event new messages outcome sets
nothing_happens old new messages event outcome sets absent same none agrees =
    let P : Outcome → Type 0 = λ o. EventHappens old messages event new messages o sets in
    let Q : List Table → Type 0 = λ n. EventHappens old messages event n messages NoSuch sets in
    subst P (sym none) (subst Q (sym same) (record {
      allowed = inr (absent, refl);
      agrees = subst (TablesAgree old messages) (sym (after_no_such sets (event_of event))) agrees;
    }))

-- where it is refused
refused_happens :
    (old new : List Table) (messages : List (Vec ℕ Global)) (event : Event) (why : Refusal) (sets : Sets)
    → IsThere sets (event_of event) → (IsAnswerOutcome language sets (event_of event) (world.refused why) ⊎ ((world.refused why ≡ world.refused memory) × ¬ IsRefusedAtOnce language (event_of event)))
    → new ≡ old → TablesAgree old messages sets → EventHappens old messages event new messages (Refused why) sets
refused_happens old new messages event why sets there answer same agrees =
    let Q : List Table → Type 0 = λ n. EventHappens old messages event n messages (Refused why) sets in
    subst Q (sym same) (record {
      allowed = inl (there, answer);
      agrees = subst (TablesAgree old messages) (sym (after_refused sets (event_of event) why)) agrees;
    })

-- a site of the world is one of the sets
site_there : (old : List Table) (messages : List (Vec ℕ Global)) (sets : Sets) (site : ℕ) (before : Table) → TablesAgree old messages sets → slice_get old site ≡ Some before → site < length sets.sites
site_there old messages sets site before agrees found =
    let within = found_within old site before found in
    omega (arith, length-along (IsUnified language) old sets.sites agrees.sites)

site_absent : (old : List Table) (messages : List (Vec ℕ Global)) (sets : Sets) (site : ℕ) → TablesAgree old messages sets → length old ≤ site → site < length sets.sites → ⊥
site_absent old messages sets site agrees past there = omega (arith, length-along (IsUnified language) old sets.sites agrees.sites)

message_absent : (old : List Table) (messages : List (Vec ℕ Global)) (sets : Sets) (message : ℕ) → TablesAgree old messages sets → length messages ≤ message → message < length sets.messages → ⊥
message_absent old messages sets message agrees past there = omega (arith, length-along IsSentOf messages sets.messages agrees.sent)

-- a site accepts pieces
accepts :
    (old : List Table) (messages : List (Vec ℕ Global)) (sets : Sets) (site : ℕ) (before after : Table) (added : Refusals) (more : List Piece)
    → TablesAgree old messages sets → slice_get old site ≡ Some before → AddsRefusals before added after → language.IsValid after
    → SameAnswers added (pieces_refuse language more) → TablesAgree (slice_set old site after) messages (world.add sets site more)
accepts old messages sets site before after added more agrees found adds valid same =
    let here = along_at (IsUnified language) old sets.sites site before [] agrees.sites found in
    let unified = unified_more before after added (pieces_at sets.sites site) more here adds valid same in
    record {
      sites = along_set (IsUnified language) old sets.sites site after (pieces_at sets.sites site ++ more) agrees.sites unified;
      sent = agrees.sent;
    }

submits :
    (old : List Table) (messages : List (Vec ℕ Global)) (site : ℕ) (t : Text) (outcome : Outcome) (sets : Sets) (before after : Table)
    → slice_get old site ≡ Some before → SubmitsText t before after outcome → TablesAgree old messages sets
    → EventHappens old messages (Submit site t) (slice_set old site after) messages outcome sets
submits old messages site t Accepted sets before after found step agrees = record {
  allowed = inl (site_there old messages sets site before agrees found, inl step.0);
  agrees = accepts old messages sets site before after (language.text_refuses t) (world.text t ∷ []) agrees found step.1 step.2 (one_piece (world.text t));
}
submits old messages site t (Refused why) sets before after found step agrees =
    let same : slice_set old site after ≡ old = ap (λ (x : Table). slice_set old site x) step.0 ∙ set_same old site before found in
    refused_happens old (slice_set old site after) messages (Submit site t) why sets (site_there old messages sets site before agrees found)
    (⊎_elim (λ e. inr (ap world.refused e.0, e.1)) (λ fault. inl fault) step.1) same agrees
submits old messages site t (Sent number) sets before after found step agrees = absurd step
submits old messages site t NoSuch sets before after found step agrees = absurd step

-- what a site does with a text is what submitting it does to the sets of pieces
pub submit_happens :
    (old new : List Table) (messages : List (Vec ℕ Global)) (site : ℕ) (t : Text) (outcome : Outcome) (sets : Sets)
    → HappensAtSite (SubmitsText t) old site new outcome → TablesAgree old messages sets → EventHappens old messages (Submit site t) new messages outcome sets
submit_happens old new messages site t outcome sets (inl none) agrees =
    nothing_happens old new messages (Submit site t) outcome sets (site_absent old messages sets site agrees none.0) none.1 none.2 agrees
submit_happens old new messages site t outcome sets (inr some) agrees =
    let P : List Table → Type 0 = λ n. EventHappens old messages (Submit site t) n messages outcome sets in
    subst P (sym some.3) (submits old messages site t outcome sets some.0 some.1 some.2 some.4 agrees)

-- bytes from outside
takes_foreign :
    (old : List Table) (messages : List (Vec ℕ Global)) (site : ℕ) (bytes : Vec ℕ Global) (outcome : Outcome) (sets : Sets) (before after : Table)
    → slice_get old site ≡ Some before → TakesState bytes.items before after outcome → TablesAgree old messages sets
    → EventHappens old messages (Foreign site bytes) (slice_set old site after) messages outcome sets
takes_foreign old messages site bytes Accepted sets before after found step agrees = record {
  allowed = inl (site_there old messages sets site before agrees found, inl step.0);
  agrees = accepts old messages sets site before after (language.state_refuses bytes.items) (world.state bytes.items ∷ []) agrees found step.1 step.2
      (one_piece (world.state bytes.items));
}
takes_foreign old messages site bytes (Refused why) sets before after found step agrees =
    let same : slice_set old site after ≡ old = ap (λ (x : Table). slice_set old site x) step.0 ∙ set_same old site before found in
    refused_happens old (slice_set old site after) messages (Foreign site bytes) why sets (site_there old messages sets site before agrees found)
    (⊎_elim (λ e. inr (ap world.refused e.0, e.1)) (λ fault. inl fault) step.1) same agrees
takes_foreign old messages site bytes (Sent number) sets before after found step agrees = absurd step
takes_foreign old messages site bytes NoSuch sets before after found step agrees = absurd step

-- what a site does with bytes from outside is what these do to the sets of pieces
pub foreign_happens :
    (old new : List Table) (messages : List (Vec ℕ Global)) (site : ℕ) (bytes : Vec ℕ Global) (outcome : Outcome) (sets : Sets)
    → HappensAtSite (TakesState bytes.items) old site new outcome → TablesAgree old messages sets → EventHappens old messages (Foreign site bytes) new messages outcome sets
foreign_happens old new messages site bytes outcome sets (inl none) agrees =
    nothing_happens old new messages (Foreign site bytes) outcome sets (site_absent old messages sets site agrees none.0) none.1 none.2 agrees
foreign_happens old new messages site bytes outcome sets (inr some) agrees =
    let P : List Table → Type 0 = λ n. EventHappens old messages (Foreign site bytes) n messages outcome sets in
    subst P (sym some.3) (takes_foreign old messages site bytes outcome sets some.0 some.1 some.2 some.4 agrees)

-- a message is read as the unification of its pieces
read_back :
    (bytes : Vec ℕ Global) (pieces : List Piece) → IsHeld bytes.items → IsSentOf bytes pieces
    → language.IsState bytes.items × SameAnswers (language.state_refuses bytes.items) (pieces_refuse language pieces)
read_back bytes pieces held sent =
    let own = sound.reads_own sent.0 sent.1.0 (subst IsHeld sent.2 held) in
    let P : List ℕ → Type 0 = λ b. language.IsState b × SameAnswers (language.state_refuses b) (pieces_refuse language pieces) in
    subst P (sym sent.2) (
      own.0,
      λ path question.
          let o = own.1 path question in
          let u = sent.1.1 path question in
          (λ h. u.0 (o.0 h), λ h. o.1 (u.1 h)),
    )

-- a message of the world
takes_message :
    (old : List Table) (messages : List (Vec ℕ Global)) (site message : ℕ) (bytes : Vec ℕ Global) (outcome : Outcome) (sets : Sets) (before after : Table)
    → slice_get messages message ≡ Some bytes → IsHeld bytes.items → slice_get old site ≡ Some before → TakesState bytes.items before after outcome → TablesAgree old messages sets
    → EventHappens old messages (Deliver site message) (slice_set old site after) messages outcome sets
takes_message old messages site message bytes Accepted sets before after sent held found step agrees =
    let known = along_at IsSentOf messages sets.messages message bytes [] agrees.sent sent in
    let within = found_within messages message bytes sent in
    record {
      allowed = inl ((site_there old messages sets site before agrees found, omega (arith, length-along IsSentOf messages sets.messages agrees.sent)), inl tt);
      agrees = accepts old messages sets site before after (language.state_refuses bytes.items) (pieces_at sets.messages message) agrees found step.1 step.2
          (read_back bytes (pieces_at sets.messages message) held known).1;
    }
takes_message old messages site message bytes (Refused why) sets before after sent held found step agrees =
    let known = along_at IsSentOf messages sets.messages message bytes [] agrees.sent sent in
    let within = found_within messages message bytes sent in
    let same : slice_set old site after ≡ old = ap (λ (x : Table). slice_set old site x) step.0 ∙ set_same old site before found in
    refused_happens old (slice_set old site after) messages (Deliver site message) why sets
    (site_there old messages sets site before agrees found, omega (arith, length-along IsSentOf messages sets.messages agrees.sent))
    (⊎_elim (λ e. inr (ap world.refused e.0, λ never. never)) (λ fault. absurd (sound.no_state_fault bytes.items why (read_back bytes (pieces_at sets.messages message) held known).0 fault)) step.1) same agrees
takes_message old messages site message bytes (Sent number) sets before after sent held found step agrees = absurd step
takes_message old messages site message bytes NoSuch sets before after sent held found step agrees = absurd step

-- what a site does with a message is what delivering it does to the sets of pieces
pub deliver_happens :
    (old new : List Table) (messages : List (Vec ℕ Global)) (site message : ℕ) (outcome : Outcome) (sets : Sets)
    → DeliversState messages message old site new outcome → TablesAgree old messages sets → EventHappens old messages (Deliver site message) new messages outcome sets
deliver_happens old new messages site message outcome sets (inl none) agrees =
    nothing_happens old new messages (Deliver site message) outcome sets (λ there. message_absent old messages sets message agrees none.0 there.1) none.1 none.2 agrees
deliver_happens old new messages site message outcome sets (inr some) agrees = delivered some.3
  where
    delivered : HappensAtSite (TakesState some.0.items) old site new outcome → EventHappens old messages (Deliver site message) new messages outcome sets
    delivered (inl none) =
        nothing_happens old new messages (Deliver site message) outcome sets (λ there. site_absent old messages sets site agrees none.0 there.0) none.1 none.2 agrees
    delivered (inr taken) =
        let P : List Table → Type 0 = λ n. EventHappens old messages (Deliver site message) n messages outcome sets in
        subst P (sym taken.3) (takes_message old messages site message some.0 outcome sets taken.0 taken.1 some.1 some.2 taken.2 taken.4 agrees)

-- a state that is sent
sends : (old : List Table) (messages new : List (Vec ℕ Global)) (site number : ℕ) (sets : Sets) → SendsState old site messages new (Sent number) → TablesAgree old messages sets → EventHappens old messages (Send site) old new (Sent number) sets
sends old messages new site number sets sent agrees =
    let here = along_at (IsUnified language) old sets.sites site sent.0 [] agrees.sites sent.2 in
    let is_sent : IsSentOf sent.1 (pieces_at sets.sites site) = (sent.0, here, sent.3) in
    let P : List (Vec ℕ Global) → Type 0 = λ m. EventHappens old messages (Send site) old m (Sent number) sets in
    subst P (sym sent.5) (record {
      allowed = inl (site_there old messages sets site sent.0 agrees sent.2, inl (sent.4 ∙ length-along IsSentOf messages sets.messages agrees.sent));
      agrees = record {
        sites = agrees.sites;
        sent = along_push IsSentOf messages sets.messages sent.1 (pieces_at sets.sites site) agrees.sent is_sent;
      };
    })

-- what a site does that sends its state is what sending does to the sets of pieces
pub send_happens : (old : List Table) (messages new : List (Vec ℕ Global)) (site : ℕ) (outcome : Outcome) (sets : Sets) → SendsState old site messages new outcome → TablesAgree old messages sets → EventHappens old messages (Send site) old new outcome sets
send_happens old messages new site (Sent number) sets step agrees = sends old messages new site number sets step agrees
send_happens old messages new site (Refused why) sets step agrees =
    let P : List (Vec ℕ Global) → Type 0 = λ m. EventHappens old messages (Send site) old m (Refused why) sets in
    subst P (sym step.2) (refused_happens old old messages (Send site) why sets (omega (arith, step.0, length-along (IsUnified language) old sets.sites agrees.sites)) (inr (ap world.refused step.1, λ never. never)) refl agrees)
send_happens old messages new site NoSuch sets step agrees =
    let P : List (Vec ℕ Global) → Type 0 = λ m. EventHappens old messages (Send site) old m NoSuch sets in
    subst P (sym step.1) (nothing_happens old old messages (Send site) NoSuch sets (site_absent old messages sets site agrees step.0) refl refl agrees)
send_happens old messages new site Accepted sets step agrees = absurd step
