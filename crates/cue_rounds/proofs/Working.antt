-- How the parts of a round join.
use Rattle.std.proofs.Common.{◌≡◌, ℕ, ◌<◌, Bool, true, false, List, [], ◌∷◌, ◌++◌, length, get_or, set, refl, sym, ap, subst, ◌∙◌, append_assoc, None}
use Rattle.std.proofs.Common.{◌⊎◌, inl, inr}
use Rattle.std.proofs.lemmas.List.{append-nil}
use Rattle.http.specs.declared.request.Request.{Request}
use Rattle.http_server.specs.declared.connection.Connection.{Connection}
use Rattle.http_server.specs.declared.response.Response.{Response}
use Rattle.http_server.specs.Connection.{config_of, history}
use Rattle.http_server.specs.History.{History}
use Rattle.http_server.specs.Exchange.{Call, Chain}
use Rattle.http_server.specs.Rounds.{IsCleared}
use Rattle.cue_rounds.specs.declared.peer.Peer.{Peer}
use Rattle.cue_rounds.specs.declared.peers.PeerSlot.{PeerSlot}
use Rattle.cue_rounds.specs.declared.peers.PeerSlot.TheVariants.{Free, Taken}
use Rattle.cue_rounds.specs.Standing.{Step, at, Works, Restarts, Lives, Sends, IsRoundOf, AtPlace, Each, AreEach, AreAtWork, IsRound, IsOpened, IsClosed}
use Rattle.cue_rounds.proofs.Steps.{tagged, trail_join, trail_of}
use Rattle.cue_rounds.proofs.Places.{each_itself, each_join, each_set}

pub cleared_itself : (kept : List Call) (c : Connection) → (history c).calls ≡ kept → IsCleared kept c
cleared_itself kept c calls = record { earlier = c; config = refl; calls = calls; received = ([], sym (append-nil _)); sent = refl }

module _ {T : Type 0} (written : T → List ℕ) where
  -- a peer whose connection and stream are as they were
  pub works_same : (p q : Peer T) → q.connection ≡ p.connection → written q.stream ≡ written p.stream → Works written [] p q
  works_same p q same silent = record {
    config = ap config_of same;
    calls = ap (λ c. (history c).calls) same ∙ sym (append-nil _);
    received = ([], ap (λ c. (history c).received) same ∙ sym (append-nil _));
    sent = ap (λ c. (history c).sent) same;
    silent = silent;
  }

  pub works_itself : (p : Peer T) → Works written [] p p
  works_itself p = works_same p p refl refl

  pub works_join : (xs ys : List Call) (p q r : Peer T) → Works written xs p q → Works written ys q r → Works written (xs ++ ys) p r
  works_join xs ys p q r x y = record {
    config = y.config ∙ x.config;
    calls = y.calls ∙ ap (λ (t : List Call). t ++ ys) x.calls ∙ append_assoc (history p.connection).calls xs ys;
    received = (
      x.received.0 ++ y.received.0,
      y.received.1 ∙ ap (λ (t : List ℕ). t ++ y.received.0) x.received.1
          ∙ append_assoc (history p.connection).received x.received.0 y.received.0,
    );
    sent = y.sent ∙ x.sent;
    silent = y.silent ∙ x.silent;
  }

  pub silent_join : (p q r : Peer T) → Works written [] p q → Works written [] q r → Works written [] p r
  silent_join = works_join [] []

  pub works_then : (xs : List Call) (p q r : Peer T) → Works written xs p q → Works written [] q r → Works written xs p r
  works_then xs p q r x y = subst (λ (t : List Call). Works written t p r) (append-nil xs) (works_join xs [] p q r x y)

  -- a peer whose connection answered so
  pub works_answered : (calls : List Call) (p q : Peer T) → config_of q.connection ≡ config_of p.connection
      → (history q.connection).calls ≡ (history p.connection).calls ++ calls
      → (history q.connection).received ≡ (history p.connection).received
      → (history q.connection).sent ≡ (history p.connection).sent → written q.stream ≡ written p.stream → Works written calls p q
  works_answered calls p q config made received sent silent = record {
    config = config;
    calls = made;
    received = ([], received ∙ sym (append-nil _));
    sent = sent;
    silent = silent;
  }

  pub lives_working : (made : List Call) (p q : Peer T) → Works written made p q → Lives written made p q
  lives_working made p q x = record {
    base = p.connection;
    dropped = [];
    kept = made;
    is_from = record { made_is = refl; begins = inl (refl, refl) };
    config = x.config;
    calls = x.calls;
    received = x.received;
    sent = x.sent;
    silent = x.silent;
  }

  pub lives_restarting : (made : List Call) (p q : Peer T) → Restarts written made p q → Lives written made p q
  lives_restarting made p q x = record {
    base = x.base;
    dropped = [];
    kept = made;
    is_from = record { made_is = refl; begins = inr x.blank };
    config = x.config;
    calls = x.calls ∙ sym (ap (λ (h : History). h.calls ++ made) x.blank);
    received = ((history q.connection).received, sym (ap (λ (h : History). h.received ++ (history q.connection).received) x.blank));
    sent = x.sent ∙ sym (ap (λ (h : History). h.sent) x.blank);
    silent = x.silent;
  }

  pub lives_either : (made : List Call) (p q : Peer T) → Works written made p q ⊎ Restarts written made p q → Lives written made p q
  lives_either made p q x = elim x [ inl w ↦ lives_working made p q w | inr w ↦ lives_restarting made p q w ]

  pub lives_itself : (p : Peer T) → Lives written [] p p
  lives_itself p = lives_working [] p p (works_itself p)

  pub lives_join : (xs ys : List Call) (p q r : Peer T) → Lives written xs p q → Lives written ys q r → Lives written (xs ++ ys) p r
  lives_join xs ys p q r x y =
      elim y.is_from.begins [
        | inl e ↦
            let k : y.kept ≡ ys = sym (y.is_from.made_is ∙ ap (λ (t : List Call). t ++ y.kept) e.1) in
            record {
              base = x.base;
              dropped = x.dropped;
              kept = x.kept ++ ys;
              is_from = record { made_is = ap (λ (t : List Call). t ++ ys) x.is_from.made_is ∙ append_assoc x.dropped x.kept ys; begins = x.is_from.begins };
              config = y.config ∙ ap config_of e.0 ∙ x.config;
              calls = y.calls ∙ ap (λ (c : Connection). (history c).calls ++ y.kept) e.0 ∙ ap (λ (t : List Call). (history q.connection).calls ++ t) k
                  ∙ ap (λ (t : List Call). t ++ ys) x.calls ∙ append_assoc (history x.base).calls x.kept ys;
              received = (
                x.received.0 ++ y.received.0,
                y.received.1 ∙ ap (λ (c : Connection). (history c).received ++ y.received.0) e.0
                    ∙ ap (λ (t : List ℕ). t ++ y.received.0) x.received.1 ∙ append_assoc (history x.base).received x.received.0 y.received.0,
              );
              sent = y.sent ∙ ap (λ (c : Connection). (history c).sent) e.0 ∙ x.sent;
              silent = y.silent ∙ x.silent;
            }
        | inr f ↦
            record {
              base = y.base;
              dropped = xs ++ y.dropped;
              kept = y.kept;
              is_from = record { made_is = ap (λ (t : List Call). xs ++ t) y.is_from.made_is ∙ sym (append_assoc xs y.dropped y.kept); begins = inr f };
              config = y.config;
              calls = y.calls;
              received = y.received;
              sent = y.sent;
              silent = y.silent ∙ x.silent;
            }
      ]

  pub sends_itself : (p : Peer T) → Sends written p p
  sends_itself p = record { config = refl; calls = refl; received = refl; wired = λ before w. w }

  pub sends_join : (p q r : Peer T) → Sends written p q → Sends written q r → Sends written p r
  sends_join p q r x y = record {
    config = y.config ∙ x.config;
    calls = y.calls ∙ x.calls;
    received = y.received ∙ x.received;
    wired = λ before w. y.wired before (x.wired before w);
  }

  -- the same bytes were sent and written
  pub sends_more : (p q : Peer T) (more : List ℕ) → config_of q.connection ≡ config_of p.connection
      → (history q.connection).calls ≡ (history p.connection).calls
      → (history q.connection).received ≡ (history p.connection).received
      → (history q.connection).sent ≡ (history p.connection).sent ++ more → written q.stream ≡ written p.stream ++ more → Sends written p q
  sends_more p q more config calls received sent handed = record {
    config = config;
    calls = calls;
    received = received;
    wired = λ before w. handed ∙ ap (λ (t : List ℕ). t ++ more) w ∙ append_assoc before (history p.connection).sent more
        ∙ ap (λ (t : List ℕ). before ++ t) (sym sent);
  }

  round_stands : (made : List Call) (p q r : Peer T) → Lives written made p q → Sends written q r → IsRoundOf written true made p r
  round_stands made p q r x y = record {
    base = x.base;
    dropped = x.dropped;
    kept = x.kept;
    is_from = x.is_from;
    calls = y.calls ∙ x.calls;
    cleared = cleared_itself _ r.connection (y.calls ∙ x.calls ∙ ap (λ (t : List Call). (history x.base).calls ++ t) (sym (append-nil x.kept)));
    wired = λ before w. y.wired before (x.silent ∙ w ∙ ap (λ (t : List ℕ). before ++ t) (sym x.sent));
    silent = λ wrong. let w : true ≡ false = wrong in cc;
  }

  round_fails : (made : List Call) (p q : Peer T) → Lives written made p q → IsRoundOf written false made p q
  round_fails made p q x = record {
    base = x.base;
    dropped = x.dropped;
    kept = x.kept;
    is_from = x.is_from;
    calls = x.calls;
    cleared = record {
      earlier = x.base;
      config = sym x.config;
      calls = sym (append-nil _);
      received = x.received;
      sent = x.sent;
    };
    wired = λ before w. x.silent ∙ w ∙ ap (λ (t : List ℕ). before ++ t) (sym x.sent);
    silent = λ _. x.silent;
  }

  at_fails : (made : List Call) (a b : PeerSlot T) → AtPlace (Lives written) made a b → AtPlace (IsRoundOf written false) made a b
  at_fails made (Free a) (Free b) x = x
  at_fails made (Taken p) (Taken q) x = round_fails made p q x
  at_fails made (Free a) (Taken q) x = absurd x
  at_fails made (Taken p) (Free b) x = absurd x

  at_stands : (made : List Call) (a b c : PeerSlot T) → AtPlace (Lives written) made a b → AtPlace (λ _. Sends written) [] b c → AtPlace (IsRoundOf written true) made a c
  at_stands made (Free a) (Free b) (Free c) x y = x
  at_stands made (Taken p) (Taken q) (Taken r) x y = round_stands made p q r x y
  at_stands made (Free a) (Free b) (Taken r) x y = absurd y
  at_stands made (Free a) (Taken q) c x y = absurd x
  at_stands made (Taken p) (Free b) c x y = absurd x
  at_stands made (Taken p) (Taken q) (Free c) x y = absurd y

  pub each_silent : (a : List (PeerSlot T)) → Each (Works written) [] a a
  each_silent a = each_itself (Works written) works_itself a

  pub each_silent_join : (a b c : List (PeerSlot T)) → Each (Works written) [] a b → Each (Works written) [] b c → Each (Works written) [] a c
  each_silent_join a b c x y = each_join (Works written) (Works written) (Works written) works_join [] [] a b c x y

  pub each_lives_join : (xs ys : List Step) (a b c : List (PeerSlot T)) → Each (Lives written) xs a b → Each (Lives written) ys b c → Each (Lives written) (xs ++ ys) a c
  each_lives_join = each_join (Lives written) (Lives written) (Lives written) lives_join

  at_lives : (made : List Call) (a b : PeerSlot T) → AtPlace (Works written) made a b → AtPlace (Lives written) made a b
  at_lives made (Free a) (Free b) x = x
  at_lives made (Taken p) (Taken q) x = lives_working made p q x
  at_lives made (Free a) (Taken q) x = absurd x
  at_lives made (Taken p) (Free b) x = absurd x

  pub each_lives : (xs : List Step) (a b : List (PeerSlot T)) → Each (Works written) xs a b → Each (Lives written) xs a b
  each_lives xs a b x = (x.0, λ n. at_lives (at n xs) (get_or a n (Free None)) (get_or b n (Free None)) (x.1 n))

  pub each_unsent : (a : List (PeerSlot T)) → Each (λ _. Sends written) [] a a
  each_unsent a = each_itself (λ _. Sends written) sends_itself a

  pub each_sends_join : (a b c : List (PeerSlot T)) → Each (λ _. Sends written) [] a b → Each (λ _. Sends written) [] b c → Each (λ _. Sends written) [] a c
  each_sends_join = each_join (λ _. Sends written) (λ _. Sends written) (λ _. Sends written) (λ xs ys. sends_join) [] []

  module _ {S : Type 0} (answers : S → Request (List ℕ) → Response → S → Type 0) (changes : S → S → Type 0) where
    pub at_work_itself : (s : S) (places : List (PeerSlot T)) → AreAtWork answers changes written s s places places
    at_work_itself s places = record { steps = []; trail = refl; each = each_itself (Lives written) lives_itself places }

    pub at_work_join : (s t u : S) (a b c : List (PeerSlot T)) → AreAtWork answers changes written s t a b → AreAtWork answers changes written t u b c
        → AreAtWork answers changes written s u a c
    at_work_join s t u a b c x y = record {
      steps = x.steps ++ y.steps;
      trail = trail_join answers changes x.steps y.steps s t u x.trail y.trail;
      each = each_lives_join x.steps y.steps a b c x.each y.each;
    }

    -- the connection at one place makes calls, and then the service turns
    pub at_work_set : (s t u : S) (n : ℕ) (calls : List Call) (new : PeerSlot T) (places : List (PeerSlot T)) → Chain answers s calls t → changes t u
        → n < length places → AtPlace (Lives written) calls (get_or places n (Free None)) new
        → AreAtWork answers changes written s u places (set places n new)
    at_work_set s t u n calls new places chain turn within step =
        at_work_join s t u places (set places n new) (set places n new)
        (record {
          steps = tagged n calls;
          trail = trail_of answers changes n calls s t chain;
          each = each_set (Lives written) lives_itself n calls new places within step;
        })
        (record { steps = None ∷ []; trail = (u, turn, refl); each = each_itself (Lives written) lives_itself (set places n new) })

    pub at_work_changes : (s t : S) (places : List (PeerSlot T)) → changes s t → AreAtWork answers changes written s t places places
    at_work_changes s t places turn = record { steps = None ∷ []; trail = (t, turn, refl); each = each_itself (Lives written) lives_itself places }

    pub at_work_silent : (s : S) (a b : List (PeerSlot T)) → Each (Works written) [] a b → AreAtWork answers changes written s s a b
    at_work_silent s a b x = record { steps = []; trail = refl; each = each_lives [] a b x }

    -- what comes before the connections are read, and then these are at work
    pub round_at_work : (s t u v w x : S) (a b c d : List (PeerSlot T)) → changes s t → changes t u → changes u v → Each (Works written) [] a b
        → AreAtWork answers changes written v w b c → AreAtWork answers changes written w x c d → AreAtWork answers changes written s x a d
    round_at_work s t u v w x a b c d p q r e y z =
        at_work_join s t x a a d (at_work_changes s t a p)
        (at_work_join t u x a a d (at_work_changes t u a q)
        (at_work_join u v x a a d (at_work_changes u v a r)
        (at_work_join v v x a b d (at_work_silent v a b e) (at_work_join v w x b c d y z))))

    pub round_of_lost : (settles : S → Bool → S → Type 0) (s t u v : S) (a b c : List (PeerSlot T)) → AreEach (IsOpened written) a b
        → AreAtWork answers changes written s t b c → settles t false u → changes u v → AreEach IsClosed c c
        → IsRound answers changes written settles false s v a c
    round_of_lost settles s t u v a b c begun x settled turn closed = record {
      opened = b;
      opens = begun;
      steps = x.steps;
      called = t;
      trail = x.trail;
      settled = u;
      settles_so = settled;
      changes_then = turn;
      sent = c;
      each = (x.each.0, λ n. at_fails (at n x.steps) (get_or b n (Free None)) (get_or c n (Free None)) (x.each.1 n));
      closes = closed;
    }

    pub round_of_kept : (settles : S → Bool → S → Type 0) (s t u v : S) (a b c d e : List (PeerSlot T)) → AreEach (IsOpened written) a b
        → AreAtWork answers changes written s t b c → settles t true u → changes u v → Each (λ _. Sends written) [] c d → AreEach IsClosed d e
        → IsRound answers changes written settles true s v a e
    round_of_kept settles s t u v a b c d e begun x settled turn y closed = record {
      opened = b;
      opens = begun;
      steps = x.steps;
      called = t;
      trail = x.trail;
      settled = u;
      settles_so = settled;
      changes_then = turn;
      sent = d;
      each = (y.0 ∙ x.each.0, λ n. at_stands (at n x.steps) (get_or b n (Free None)) (get_or c n (Free None)) (get_or d n (Free None)) (x.each.1 n) (y.1 n));
      closes = closed;
    }
