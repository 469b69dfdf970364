-- Events with their outcomes lead to one world of sets.
use Rattle.std.proofs.Common.{◌≡◌, inl, inr, ℕ, ◌<◌, ◌≤◌, ◌^◌, List, [], ◌∷◌, length, map, Vec, Global, sym, ap, ◌∙◌, subst, arith}
use Rattle.cue_layers.specs.Maps.{put_of}
use Rattle.cue_layers.specs.Puts.{Put}
use Rattle.cue_layers.specs.declared.layer.Layer.{Layer}
use Rattle.cue_layers.proofs.OneSpelling.{one_of_bytes}
use Rattle.cue_layers_world.specs.Laws.{AreReachedOnce}
use Rattle.cue_layers_world.specs.World.{LayerSets, BringsPuts, Succeeds, LayersHappen, LayersReach, add_to_layers}
use Rattle.cue_layers_world.specs.declared.world.LayersEvent.{LayersEvent}
use Rattle.cue_layers_world.specs.declared.world.LayersEvent.TheVariants as events
use Rattle.cue_layers_world.specs.declared.world.LayersOutcome.{LayersOutcome}
use Rattle.cue_layers_world.specs.declared.world.LayersOutcome.TheVariants as outcomes

-- bytes of a memory bring one list of puts
brings_once : (bytes : Vec ℕ Global) (ps qs : List Put) → BringsPuts bytes.items ps → BringsPuts bytes.items qs → ps ≡ qs
brings_once bytes ps qs (inl one) (inl other) =
    let count : bytes.len ≡ length bytes.items = bytes.ok.0 in
    let within : bytes.len ≤ bytes.cap = bytes.ok.1 in
    let small : bytes.cap < 2 ^ 63 = bytes.small in
    let held : length bytes.items < 2 ^ 64 = omega arith in
    one.1.2 ∙ ap (λ (ls : List Layer). map put_of ls) (one_of_bytes bytes.items one.1.0 other.1.0 held one.1.1 other.1.1) ∙ sym other.1.2
brings_once bytes ps qs (inl one) (inr other) = absurd (other.0 one.0)
brings_once bytes ps qs (inr one) (inl other) = absurd (one.0 other.0)
brings_once bytes ps qs (inr one) (inr other) = one.2 ∙ sym other.2

-- one event leads to one world of sets
succeeds_once : (old a b : LayerSets) (event : LayersEvent) (outcome : LayersOutcome) → Succeeds old event outcome a → Succeeds old event outcome b → a ≡ b
succeeds_once old a b (events.Put site kind name pieces) (outcomes.Put revision) one other = one.1 ∙ sym other.1
succeeds_once old a b (events.Put site kind name pieces) outcomes.Accepted one other = absurd one
succeeds_once old a b (events.Put site kind name pieces) (outcomes.Sent number) one other = absurd one
succeeds_once old a b (events.Put site kind name pieces) (outcomes.Refused why) one other = absurd one
succeeds_once old a b (events.Put site kind name pieces) outcomes.NoSuch one other = absurd one
succeeds_once old a b (events.Submit site t) (outcomes.Put revision) one other = absurd one
succeeds_once old a b (events.Submit site t) outcomes.Accepted one other = one.1 ∙ sym other.1
succeeds_once old a b (events.Submit site t) (outcomes.Sent number) one other = absurd one
succeeds_once old a b (events.Submit site t) (outcomes.Refused why) one other = absurd one
succeeds_once old a b (events.Submit site t) outcomes.NoSuch one other = absurd one
succeeds_once old a b (events.Send site) (outcomes.Put revision) one other = absurd one
succeeds_once old a b (events.Send site) outcomes.Accepted one other = absurd one
succeeds_once old a b (events.Send site) (outcomes.Sent number) one other = one.1 ∙ sym other.1
succeeds_once old a b (events.Send site) (outcomes.Refused why) one other = absurd one
succeeds_once old a b (events.Send site) outcomes.NoSuch one other = absurd one
succeeds_once old a b (events.Deliver site message) (outcomes.Put revision) one other = absurd one
succeeds_once old a b (events.Deliver site message) outcomes.Accepted one other = one ∙ sym other
succeeds_once old a b (events.Deliver site message) (outcomes.Sent number) one other = absurd one
succeeds_once old a b (events.Deliver site message) (outcomes.Refused why) one other = absurd one
succeeds_once old a b (events.Deliver site message) outcomes.NoSuch one other = absurd one
succeeds_once old a b (events.Foreign site bytes) (outcomes.Put revision) one other = absurd one
succeeds_once old a b (events.Foreign site bytes) outcomes.Accepted one other =
    one.2 ∙ ap (λ (ps : List Put). add_to_layers old site ps) (brings_once bytes one.0 other.0 one.1 other.1) ∙ sym other.2
succeeds_once old a b (events.Foreign site bytes) (outcomes.Sent number) one other = absurd one
succeeds_once old a b (events.Foreign site bytes) (outcomes.Refused why) one other = absurd one
succeeds_once old a b (events.Foreign site bytes) outcomes.NoSuch one other = absurd one

happens_once : (old a b : LayerSets) (event : LayersEvent) (outcome : LayersOutcome) → LayersHappen old event outcome a → LayersHappen old event outcome b → a ≡ b
happens_once old a b event (outcomes.Put revision) one other = succeeds_once old a b event (outcomes.Put revision) one.1 other.1
happens_once old a b event outcomes.Accepted one other = succeeds_once old a b event outcomes.Accepted one.1 other.1
happens_once old a b event (outcomes.Sent number) one other = succeeds_once old a b event (outcomes.Sent number) one.1 other.1
happens_once old a b event (outcomes.Refused why) one other = one.2 ∙ sym other.2
happens_once old a b event outcomes.NoSuch one other = one.1 ∙ sym other.1

pub reached_once : AreReachedOnce
reached_once sets a b [] [] one other = one ∙ sym other
reached_once sets a b [] (o ∷ os) one other = absurd one
reached_once sets a b (e ∷ es) [] one other = absurd one
reached_once sets a b (e ∷ es) (o ∷ os) one other =
    let same : other.0 ≡ one.0 = happens_once sets other.0 one.0 e o other.1 one.1 in
    reached_once one.0 a b es os one.2 (subst (λ (s : LayerSets). LayersReach s es os b) same other.2)
