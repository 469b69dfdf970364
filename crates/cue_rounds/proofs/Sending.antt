-- What was written over many rounds.
use Rattle.http.specs.declared.request.Request.{Request}
use Rattle.http_server.specs.declared.response.Response.{Response}
use Rattle.std.proofs.Common.{get_or, None, ◌≡◌, ℕ, Bool, true, false, subst, List, [], ◌∷◌, ◌++◌, refl, sym, ap, ◌∙◌, append_assoc, inl, inr}
use Rattle.std.proofs.lemmas.List.{append-nil}
use Rattle.std.proofs.lemmas.Grind.{flat_map-append}
use Rattle.http_server.specs.declared.connection.Connection.{Connection}
use Rattle.http_server.specs.Connection.{history}
use Rattle.http_server.specs.Exchange.{Call}
use Rattle.http_server.specs.History.{History}
use Rattle.cue_rounds.specs.declared.peer.Peer.{Peer}
use Rattle.cue_rounds.specs.declared.peers.PeerSlot.{PeerSlot}
use Rattle.cue_rounds.specs.declared.peers.PeerSlot.TheVariants.{Free, Taken}
use Rattle.cue_rounds.specs.Standing.{at, AtPlace, IsBlank, IsClosed, IsOpened, IsRoundOf, IsRound, Stays}
use Rattle.cue_rounds.specs.Sending.{Replaced, calls_of, sent_by, HasStood, WritesWhatStands, HasStoodAt, HaveStood, IsSilentAt, AreRounds, RoundsWriteWhatStands}
use Rattle.cue_rounds.proofs.Working.{cleared_itself}

calls_push : (rs : List Replaced) (r : Replaced) → calls_of (rs ++ r ∷ []) ≡ calls_of rs ++ (r.answered ++ r.dropped)
calls_push rs r = flat_map-append _ rs (r ∷ []) ∙ ap (λ (t : List Call). calls_of rs ++ t) (append-nil _)

sent_push : (rs : List Replaced) (r : Replaced) → sent_by (rs ++ r ∷ []) ≡ sent_by rs ++ (history r.connection).sent
sent_push rs r = flat_map-append _ rs (r ∷ []) ∙ ap (λ (t : List ℕ). sent_by rs ++ t) (append-nil _)

module _ {T : Type 0} (written : T → List ℕ) where
  begins : (p : Peer T) → IsBlank written p → HasStood written [] p
  begins p x = record {
    replaced = [];
    calls = sym (ap (λ (h : History). h.calls) x.history_is);
    sent = x.untold ∙ sym (ap (λ (h : History). h.sent) x.history_is);
  }

  goes_on : (stood made : List Call) (p q : Peer T) → HasStood written stood p → IsRoundOf written true made p q → HasStood written (stood ++ made) q
  goes_on stood made p q x y =
      elim y.is_from.begins [
        | inl e ↦
            let k : made ≡ y.kept = y.is_from.made_is ∙ ap (λ (t : List Call). t ++ y.kept) e.1 in
            record {
              replaced = x.replaced;
              calls = ap (λ (t : List Call). t ++ made) x.calls ∙ append_assoc (calls_of x.replaced) (history p.connection).calls made
                  ∙ ap (λ (t : List Call). calls_of x.replaced ++ ((history p.connection).calls ++ t)) k
                  ∙ ap (λ (c : Connection). calls_of x.replaced ++ ((history c).calls ++ y.kept)) (sym e.0)
                  ∙ ap (λ (t : List Call). calls_of x.replaced ++ t) (sym y.calls);
              sent = y.wired (sent_by x.replaced) (x.sent ∙ ap (λ (c : Connection). sent_by x.replaced ++ (history c).sent) (sym e.0));
            }
        | inr f ↦
            let before = history p.connection in
            let r : Replaced = record { connection = p.connection; answered = before.calls; dropped = y.dropped; cleared = cleared_itself before.calls p.connection refl } in
            let kept : (history q.connection).calls ≡ y.kept = y.calls ∙ ap (λ (h : History). h.calls ++ y.kept) f in
            record {
              replaced = x.replaced ++ r ∷ [];
              calls = ap (λ (t : List Call). t ++ made) x.calls ∙ append_assoc (calls_of x.replaced) before.calls made
                  ∙ ap (λ (t : List Call). calls_of x.replaced ++ (before.calls ++ t)) y.is_from.made_is
                  ∙ ap (λ (t : List Call). calls_of x.replaced ++ t) (sym (append_assoc before.calls y.dropped y.kept))
                  ∙ sym (append_assoc (calls_of x.replaced) (before.calls ++ y.dropped) y.kept)
                  ∙ ap (λ (t : List Call). t ++ y.kept) (sym (calls_push x.replaced r))
                  ∙ ap (λ (t : List Call). calls_of (x.replaced ++ r ∷ []) ++ t) (sym kept);
              sent = y.wired (written p.stream) (sym (append-nil _) ∙ ap (λ (h : History). written p.stream ++ h.sent) (sym f))
                  ∙ ap (λ (t : List ℕ). t ++ (history q.connection).sent) (x.sent ∙ sym (sent_push x.replaced r));
            }
      ]

  rests : (stood : List Call) (p q : Peer T) → HasStood written stood p → Stays p q → HasStood written stood q
  rests stood p q x y = record {
    replaced = x.replaced;
    calls = x.calls ∙ ap (λ (c : Connection). calls_of x.replaced ++ (history c).calls) (sym y.connection);
    sent = ap written y.stream ∙ x.sent ∙ ap (λ (c : Connection). sent_by x.replaced ++ (history c).sent) (sym y.connection);
  }

  pub writes_what_stands : WritesWhatStands written
  writes_what_stands = record { begins = begins; goes_on = goes_on; ends = λ made p q x. x.silent refl; rests = rests }

  -- one place in a round that stands
  stood_at : (made : List Call) (a b c d : PeerSlot T) → IsOpened written a b → AtPlace (IsRoundOf written true) made b c → IsClosed c d
      → HasStoodAt written a → HasStoodAt written d
  stood_at made a b c (Free n) o r s h = tt
  stood_at made a b (Free n) (Taken d) o r s h = absurd s
  stood_at made a (Free n) (Taken c) (Taken d) o r s h = absurd r
  stood_at made (Free n) (Taken b) (Taken c) (Taken d) o r s h = (made, rests made c d (goes_on [] made b c (begins b o) r) s)
  stood_at made (Taken a) (Taken b) (Taken c) (Taken d) o r s h =
      (h.0 ++ made, rests (h.0 ++ made) c d (goes_on h.0 made b c (subst (HasStood written h.0) (sym o) h.1) r) s)

  silent_at : (made : List Call) (a b c d : PeerSlot T) → IsOpened written a b → AtPlace (IsRoundOf written false) made b c → IsClosed c d
      → IsSilentAt written a d
  silent_at made a b c (Free n) o r s = tt
  silent_at made a b (Free n) (Taken d) o r s = absurd s
  silent_at made a (Free n) (Taken c) (Taken d) o r s = absurd r
  silent_at made (Free n) (Taken b) (Taken c) (Taken d) o r s = ap written s.stream ∙ r.silent refl ∙ o.untold
  silent_at made (Taken a) (Taken b) (Taken c) (Taken d) o r s =
      ap written s.stream ∙ r.silent refl ∙ ap (λ (p : Peer T). written p.stream) o

  module _ {S : Type 0} (answers : S → Request (List ℕ) → Response → S → Type 0) (changes : S → S → Type 0) (settles : S → Bool → S → Type 0) where
    one_round : (old new : S) (olds news : List (PeerSlot T)) → IsRound answers changes written settles true old new olds news → HaveStood written olds → HaveStood written news
    one_round old new olds news x have place = stood_at (at place x.steps)
        (get_or olds place (Free None)) (get_or x.opened place (Free None)) (get_or x.sent place (Free None)) (get_or news place (Free None))
        (x.opens place) (x.each.1 place) (x.closes place) (have place)

    all_rounds : (rounds : List (S × List (PeerSlot T))) (old new : S) (olds news : List (PeerSlot T))
        → AreRounds written answers changes settles rounds old olds new news → HaveStood written olds → HaveStood written news
    all_rounds [] old new olds news x have = subst (HaveStood written) (sym x.1) have
    all_rounds ((next, places) ∷ rounds) old new olds news x have =
        all_rounds rounds next new places news x.1 (one_round old next olds places x.0 have)

    pub rounds_write_what_stands : RoundsWriteWhatStands written answers changes settles
    rounds_write_what_stands = record {
      stand = λ rounds old new news x. all_rounds rounds old new [] news x (λ place. tt);
      ends = λ old new olds news x place. silent_at (at place x.steps)
          (get_or olds place (Free None)) (get_or x.opened place (Free None)) (get_or x.sent place (Free None)) (get_or news place (Free None))
          (x.opens place) (x.each.1 place) (x.closes place);
    }
