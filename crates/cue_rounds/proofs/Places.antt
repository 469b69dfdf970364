-- What holds at each place, joined.
use Rattle.std.proofs.Common.{◌≡◌, ◌≢◌, ℕ, ◌<◌, List, [], ◌∷◌, ◌++◌, length, get_or, set, refl, sym, ap, subst, ◌∙◌, None}
use Rattle.std.proofs.Common.{◌⊎◌, inl, inr, zero, suc}
use Rattle.std.proofs.lemmas.Bool.Decides.{eqb_tells}
use Rattle.std.proofs.lemmas.List.{get_or-set_same, get_or-set_other, length-set}
use Rattle.http_server.specs.Exchange.{Call}
use Rattle.cue_rounds.specs.declared.peer.Peer.{Peer}
use Rattle.cue_rounds.specs.declared.peers.PeerSlot.{PeerSlot}
use Rattle.cue_rounds.specs.declared.peers.PeerSlot.TheVariants.{Free, Taken}
use Rattle.cue_rounds.specs.Standing.{Step, at, AtPlace, Each, AreEach, IsOpened, IsClosed, IsBlank, Stays}
use Rattle.cue_rounds.proofs.Steps.{tagged, at_append, at_same, at_other}

either : (m n : ℕ) → (m ≡ n) ⊎ (m ≢ n)
either m n = elim (eqb_tells m n) [ inl x ↦ inl x.1 | inr x ↦ inr x.1 ]

module _ {T : Type 0} where
  none : PeerSlot T
  none = Free None

  -- a peer that was and is there
  pub at_taken : (P : List Call → Peer T → Peer T → Type 0) (calls : List Call) (a : PeerSlot T) (p q : Peer T) → a ≡ Taken p → P calls p q → AtPlace P calls a (Taken q)
  at_taken P calls a p q is x = subst (λ s. AtPlace P calls s (Taken q)) (sym is) x

  pub at_itself : (P : List Call → Peer T → Peer T → Type 0) → ((p : Peer T) → P [] p p) → (a : PeerSlot T) → AtPlace P [] a a
  at_itself P same (Free a) = refl
  at_itself P same (Taken p) = same p

  pub at_join : (P Q R : List Call → Peer T → Peer T → Type 0)
      → ((xs ys : List Call) (p q r : Peer T) → P xs p q → Q ys q r → R (xs ++ ys) p r)
      → (xs ys : List Call) (a b c : PeerSlot T) → AtPlace P xs a b → AtPlace Q ys b c → AtPlace R (xs ++ ys) a c
  at_join P Q R join xs ys (Free a) (Free b) (Free c) x y = ap (λ t. t ++ ys) x ∙ y
  at_join P Q R join xs ys (Taken p) (Taken q) (Taken r) x y = join xs ys p q r x y
  at_join P Q R join xs ys (Free a) (Free b) (Taken r) x y = absurd y
  at_join P Q R join xs ys (Free a) (Taken q) c x y = absurd x
  at_join P Q R join xs ys (Taken p) (Free b) c x y = absurd x
  at_join P Q R join xs ys (Taken p) (Taken q) (Free c) x y = absurd y

  pub each_itself : (P : List Call → Peer T → Peer T → Type 0) → ((p : Peer T) → P [] p p) → (xs : List (PeerSlot T)) → Each P [] xs xs
  each_itself P same xs = (refl, λ n. at_itself P same (get_or xs n (Free None)))

  pub each_join : (P Q R : List Call → Peer T → Peer T → Type 0)
      → ((xs ys : List Call) (p q r : Peer T) → P xs p q → Q ys q r → R (xs ++ ys) p r)
      → (xs ys : List Step) (a b c : List (PeerSlot T)) → Each P xs a b → Each Q ys b c → Each R (xs ++ ys) a c
  each_join P Q R join xs ys a b c x y = (
    y.0 ∙ x.0,
    λ n. subst (λ t. AtPlace R t (get_or a n (Free None)) (get_or c n (Free None))) (sym (at_append n xs ys))
        (at_join P Q R join (at n xs) (at n ys) (get_or a n (Free None)) (get_or b n (Free None)) (get_or c n (Free None)) (x.1 n) (y.1 n)),
  )

  each_set_at : (P : List Call → Peer T → Peer T → Type 0) (same : (p : Peer T) → P [] p p)
      → (n m : ℕ) (calls : List Call) (new : PeerSlot T) (places : List (PeerSlot T)) → n < length places
      → AtPlace P calls (get_or places n (Free None)) new → (m ≡ n) ⊎ (m ≢ n)
      → AtPlace P (at m (tagged n calls)) (get_or places m (Free None)) (get_or (set places n new) m (Free None))
  each_set_at P same n m calls new places within step (inl e) =
      subst (λ k. AtPlace P (at k (tagged n calls)) (get_or places k (Free None)) (get_or (set places n new) k (Free None))) (sym e)
      (subst (λ x. AtPlace P x (get_or places n (Free None)) (get_or (set places n new) n (Free None))) (sym (at_same n calls))
      (subst (λ x. AtPlace P calls (get_or places n (Free None)) x) (sym (get_or-set_same places n new (Free None) within)) step))
  each_set_at P same n m calls new places within step (inr other) =
      subst (λ x. AtPlace P x (get_or places m (Free None)) (get_or (set places n new) m (Free None))) (sym (at_other m n calls other))
      (subst (λ x. AtPlace P [] (get_or places m (Free None)) x) (sym (get_or-set_other places n m new (Free None) other)) (at_itself P same (get_or places m (Free None))))

  pub each_set : (P : List Call → Peer T → Peer T → Type 0) (same : (p : Peer T) → P [] p p)
      → (n : ℕ) (calls : List Call) (new : PeerSlot T) (places : List (PeerSlot T)) → n < length places
      → AtPlace P calls (get_or places n (Free None)) new → Each P (tagged n calls) places (set places n new)
  each_set P same n calls new places within step =
      (length-set places n new, λ m. each_set_at P same n m calls new places within step (either m n))

  are_set_at : (P : PeerSlot T → PeerSlot T → Type 0) (same : (a : PeerSlot T) → P a a)
      → (n m : ℕ) (new : PeerSlot T) (places : List (PeerSlot T)) → n < length places
      → P (get_or places n (Free None)) new → (m ≡ n) ⊎ (m ≢ n)
      → P (get_or places m (Free None)) (get_or (set places n new) m (Free None))
  are_set_at P same n m new places within step (inl e) =
      subst (λ k. P (get_or places k (Free None)) (get_or (set places n new) k (Free None))) (sym e)
      (subst (λ x. P (get_or places n (Free None)) x) (sym (get_or-set_same places n new (Free None) within)) step)
  are_set_at P same n m new places within step (inr other) =
      subst (λ x. P (get_or places m (Free None)) x) (sym (get_or-set_other places n m new (Free None) other)) (same (get_or places m (Free None)))

  pub are_set : (P : PeerSlot T → PeerSlot T → Type 0) (same : (a : PeerSlot T) → P a a)
      → (n : ℕ) (new : PeerSlot T) (places : List (PeerSlot T)) → n < length places
      → P (get_or places n (Free None)) new → AreEach P places (set places n new)
  are_set P same n new places within step = λ m. are_set_at P same n m new places within step (either m n)

  pub are_itself : (P : PeerSlot T → PeerSlot T → Type 0) (same : (a : PeerSlot T) → P a a) → (places : List (PeerSlot T)) → AreEach P places places
  are_itself P same places = λ n. same (get_or places n (Free None))

  pub are_join : (P : PeerSlot T → PeerSlot T → Type 0) → ((a b c : PeerSlot T) → P a b → P b c → P a c)
      → (a b c : List (PeerSlot T)) → AreEach P a b → AreEach P b c → AreEach P a c
  are_join P join a b c x y = λ n. join (get_or a n (Free None)) (get_or b n (Free None)) (get_or c n (Free None)) (x n) (y n)

  -- one more free place is as none
  get_or_push : (places : List (PeerSlot T)) (n : ℕ) → get_or (places ++ Free None ∷ []) n (Free None) ≡ get_or places n (Free None)
  get_or_push [] zero = refl
  get_or_push [] (suc n) = refl
  get_or_push (a ∷ places) zero = refl
  get_or_push (a ∷ places) (suc n) = get_or_push places n

  pub are_push : (P : PeerSlot T → PeerSlot T → Type 0) (same : (a : PeerSlot T) → P a a) → (places : List (PeerSlot T)) → AreEach P places (places ++ Free None ∷ [])
  are_push P same places = λ n. subst (λ x. P (get_or places n (Free None)) x) (sym (get_or_push places n)) (same (get_or places n (Free None)))

  pub stays_join : (p q r : Peer T) → Stays p q → Stays q r → Stays p r
  stays_join p q r x y = record { connection = y.connection ∙ x.connection; stream = y.stream ∙ x.stream; held = y.held ∙ x.held }

  pub closed_itself : (a : PeerSlot T) → IsClosed a a
  closed_itself (Free a) = tt
  closed_itself (Taken p) = record { connection = refl; stream = refl; held = refl }

  pub closed_join : (a b c : PeerSlot T) → IsClosed a b → IsClosed b c → IsClosed a c
  closed_join (Free a) (Free b) (Free c) x y = tt
  closed_join (Taken p) (Taken q) (Taken r) x y = stays_join p q r x y
  closed_join (Taken p) (Taken q) (Free c) x y = tt
  closed_join (Taken p) (Free b) (Free c) x y = tt
  closed_join (Taken p) (Free b) (Taken r) x y = absurd y
  closed_join (Free a) (Free b) (Taken r) x y = absurd y
  closed_join (Free a) (Taken q) c x y = absurd x

  module _ (written : T → List ℕ) where
    pub opened_itself : (a : PeerSlot T) → IsOpened written a a
    opened_itself (Free a) = refl
    opened_itself (Taken p) = refl

    pub opened_join : (a b c : PeerSlot T) → IsOpened written a b → IsOpened written b c → IsOpened written a c
    opened_join (Free a) (Free b) (Free c) x y = x ∙ y
    opened_join (Free a) (Free b) (Taken r) x y = y
    opened_join (Free a) (Taken q) (Taken r) x y = subst (λ t. IsBlank written t) (sym y) x
    opened_join (Free a) (Taken q) (Free c) x y = absurd y
    opened_join (Taken p) (Taken q) (Taken r) x y = y ∙ x
    opened_join (Taken p) (Taken q) (Free c) x y = absurd y
    opened_join (Taken p) (Free b) c x y = absurd x

    -- as it was
    pub are_unopened : (places : List (PeerSlot T)) → AreEach (IsOpened written) places places
    are_unopened places = are_itself (IsOpened written) opened_itself places

    pub are_opened_join : (a b c : List (PeerSlot T)) → AreEach (IsOpened written) a b → AreEach (IsOpened written) b c → AreEach (IsOpened written) a c
    are_opened_join a b c x y = are_join (IsOpened written) opened_join a b c x y

    pub are_pushed : (a b : List (PeerSlot T)) → b ≡ a ++ Free None ∷ [] → AreEach (IsOpened written) a b
    are_pushed a b e = subst (λ t. AreEach (IsOpened written) a t) (sym e) (are_push (IsOpened written) opened_itself a)
