-- What comes next after a map, and what is refused there, by the puts that the map is of.
use Rattle.std.proofs.Common.{◌≡◌, ◌⊎◌, inl, inr, ⊎_elim, ℕ, ◌+◌, ◌<◌, ◌≤◌, List, [], ◌∷◌, sym, ap, ◌∙◌, arith}
use Rattle.cue_lattice.specs.World.{Piece}
use Rattle.cue_policies.specs.declared.kind.LayerKind.{LayerKind}
use Rattle.cue_layers.specs.declared.layer.Layer.{Layer}
use Rattle.cue_layers.specs.declared.refusal.LayersRefusal.{LayersRefusal}
use Rattle.cue_layers.specs.declared.refusal.LayersRefusal.TheVariants as reasons
use Rattle.cue_layers.specs.Join.{IsOnePut}
use Rattle.cue_layers.specs.Layers.{Key, key, key_of}
use Rattle.cue_layers.specs.Maps.{IsMapOfPuts, commons_put}
use Rattle.cue_layers.specs.Puts.{Put, HasElement, IsOfKey, IsCurrent, IsNextRevision, IsUsedUp, of_puts, of_layers, last_revision}
use Rattle.cue_layers.specs.Refusals as layers
use Rattle.cue_layers.proofs.Lists.{one_found, one_by, all_at}
use Rattle.cue_layers_world.specs.Refusals.{IsPutEventFault, IsPutEventRefusal}
use Rattle.cue_layers_world.specs.World.{MayPutEvent}

module _ (puts : List Put) (ls : List Layer) (of : IsMapOfPuts puts ls) (k : Key) where
  -- the layer of a key has revision 0, or that of a put of the key
  put_found : (l : Layer) → HasElement ls l → key_of l ≡ k → (l.revision ≡ 0) ⊎ ((p : Put) × HasElement puts p × (key p.kind p.name ≡ k) × (p.revision ≡ l.revision))
  put_found l h e =
      let is = all_at (IsCurrent of_puts (commons_put [] ∷ puts)) ls l of.current.each h in
      let at = one_found (IsOfKey of_puts l) (commons_put [] ∷ puts) is.revision in
      ⊎_elim (λ c. inl (sym at.2.revision ∙ ap (λ (p : Put). p.revision) (sym c))) (λ g. inr (at.0, g, at.2.key ∙ e, at.2.revision)) at.1

  pub next_of : (revision : ℕ) → IsNextRevision of_layers ls k revision → IsNextRevision of_puts puts k revision
  next_of revision is = record {
    above = λ p h e.
        let found = one_found (λ (l : Layer). key_of l ≡ key p.kind p.name) ls (of.current.all p (inr h)) in
        let current = all_at (IsCurrent of_puts (commons_put [] ∷ puts)) ls found.0 of.current.each found.1 in
        let le : p.revision ≤ found.0.revision = current.greatest p (inr h) (sym found.2) in
        let lt : found.0.revision < revision = is.above found.0 found.1 (found.2 ∙ e) in
        omega arith;
    next = ⊎_elim (λ one. inl one)
        (λ some.
        let found = one_found (λ (l : Layer). (key_of l ≡ k) × (revision ≡ l.revision + 1)) ls some in
        ⊎_elim (λ none. let z : found.0.revision ≡ 0 = none in let m : revision ≡ found.0.revision + 1 = found.2.1 in inl (omega arith))
        (λ p. inr (one_by (λ (q : Put). (key q.kind q.name ≡ k) × (revision ≡ q.revision + 1)) puts p.0 p.1 (p.2, found.2.1 ∙ ap (λ (n : ℕ). n + 1) (sym p.3))))
        (put_found found.0 found.1 found.2.0))
        is.next;
  }

  pub used_of : IsUsedUp of_layers ls k → IsUsedUp of_puts puts k
  used_of used =
      let found = one_found (λ (l : Layer). (key_of l ≡ k) × (l.revision ≡ last_revision)) ls used in
      ⊎_elim (λ none. let z : found.0.revision ≡ 0 = none in let m : found.0.revision ≡ 18446744073709551615 = found.2.1 in absurd (omega arith))
      (λ p. one_by (λ (q : Put). (key q.kind q.name ≡ k) × (q.revision ≡ last_revision)) puts p.0 p.1 (p.2, p.3 ∙ found.2.1))
      (put_found found.0 found.1 found.2.0)

-- what is put
pub may_put : (puts : List Put) (old new : List Layer) (kind : LayerKind) (name : List ℕ) (pieces : List Piece) (revision : ℕ) → IsMapOfPuts puts old → IsOnePut old kind name pieces new revision → MayPutEvent puts kind name pieces revision
may_put puts old new kind name pieces revision of is = record {
  is_name = is.is_name;
  acceptable = is.acceptable;
  may_be = is.may_be;
  is_next = next_of puts old of (key kind name) revision is.is_next;
  small = is.small;
}

put_fault : (puts : List Put) (ls : List Layer) → IsMapOfPuts puts ls → (kind : LayerKind) (name : List ℕ) (pieces : List Piece) (why : LayersRefusal) → layers.IsPutFault ls kind name pieces why → IsPutEventFault puts kind name pieces why
put_fault puts ls of kind name pieces (reasons.Store why) fault = absurd fault
put_fault puts ls of kind name pieces (reasons.InPiece index why) fault = fault
put_fault puts ls of kind name pieces reasons.NotLayers fault = absurd fault
put_fault puts ls of kind name pieces (reasons.BadName place) fault = fault
put_fault puts ls of kind name pieces reasons.NotWellFormed fault = fault
put_fault puts ls of kind name pieces reasons.RevisionsUsed fault = (fault.0, fault.1, fault.2, used_of puts ls of (key kind name) fault.3)
put_fault puts ls of kind name pieces reasons.ViewTooLarge fault = absurd fault

-- why a put is refused
pub put_refusal : (puts : List Put) (ls : List Layer) → IsMapOfPuts puts ls → (kind : LayerKind) (name : List ℕ) (pieces : List Piece) (why : LayersRefusal) → layers.IsPutRefusal ls kind name pieces why → IsPutEventRefusal puts kind name pieces why
put_refusal puts ls of kind name pieces why (inl fault) = inl (put_fault puts ls of kind name pieces why fault)
put_refusal puts ls of kind name pieces why (inr starved) = inr starved
