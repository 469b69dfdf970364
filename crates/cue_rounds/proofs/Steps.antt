-- The steps of a service, joined.
use Rattle.std.proofs.Common.{inl, inr, ◌≡◌, ◌≢◌, ℕ, Bool, List, [], ◌∷◌, ◌++◌, map, refl, subst, arith, Some, None}
use Rattle.std.proofs.lemmas.Grind.{flat_map-append, common_steps}
use Rattle.http.specs.declared.request.Request.{Request}
use Rattle.http_server.specs.declared.response.Response.{Response}
use Rattle.http_server.specs.Exchange.{Call, Chain}
use Rattle.cue_rounds.specs.declared.question.Subject.{Subject}
use Rattle.cue_rounds.specs.declared.question.Subject.TheVariants as subject
use Rattle.cue_rounds.specs.Feeds.{PullsAs}
use Rattle.cue_rounds.specs.Standing.{Step, at, Trail, ChangesThrough, Changes, ChangesOnce}

abbrev pub tagged : ℕ → List Call → List Step
tagged n calls = map (λ c. Some (n, c)) calls

pub at_append : (n : ℕ) (xs ys : List Step) → at n (xs ++ ys) ≡ at n xs ++ at n ys
at_append n xs ys = flat_map-append _ xs ys

pub at_same : (n : ℕ) (calls : List Call) → at n (tagged n calls) ≡ calls
at_same n [] = refl
at_same n (c ∷ calls) = grind (arith, common_steps, at_same n calls)

pub at_other : (n m : ℕ) (calls : List Call) → n ≢ m → at n (tagged m calls) ≡ []
at_other n m [] other = refl
at_other n m (c ∷ calls) other = grind (arith, common_steps, at_other n m calls other)

module _ {S : Type 0} (answers : S → Request (List ℕ) → Response → S → Type 0) (changes : S → S → Type 0) where
  pub trail_join : (xs ys : List Step) (a b c : S) → Trail answers changes a xs b → Trail answers changes b ys c → Trail answers changes a (xs ++ ys) c
  trail_join [] ys a b c x y = subst (λ t. Trail answers changes t ys c) x y
  trail_join (None ∷ xs) ys a b c x y = (x.0, x.1, trail_join xs ys x.0 b c x.2 y)
  trail_join (Some (n, k) ∷ xs) ys a b c x y = (x.0, x.1, trail_join xs ys x.0 b c x.2 y)

  pub trail_of : (n : ℕ) (calls : List Call) (a b : S) → Chain answers a calls b → Trail answers changes a (tagged n calls) b
  trail_of n [] a b x = x
  trail_of n (c ∷ calls) a b x = (x.0, x.1, trail_of n calls x.0 b x.2)

module _ {S : Type 0} (pulls_state pulls_pieces pulls_layers : S → List ℕ → Bool → S → Type 0) (rests : S → S → Type 0) where
  pub changes_itself : (a : S) → Changes pulls_state pulls_pieces pulls_layers rests a a
  changes_itself a = ([], refl)

  pub changes_once : (a b : S) → ChangesOnce pulls_state pulls_pieces pulls_layers rests a b → Changes pulls_state pulls_pieces pulls_layers rests a b
  changes_once a b x = (b ∷ [], (x, refl))

  pub changes_resting : (a b : S) → rests a b → Changes pulls_state pulls_pieces pulls_layers rests a b
  changes_resting a b x = changes_once a b (inl x)

  pub changes_of_state : (bytes : List ℕ) (taken : Bool) (a b : S) → pulls_state a bytes taken b → Changes pulls_state pulls_pieces pulls_layers rests a b
  changes_of_state bytes taken a b x = changes_once a b (inr (bytes, taken, inl x))

  pub changes_of_pieces : (bytes : List ℕ) (taken : Bool) (a b : S) → pulls_pieces a bytes taken b → Changes pulls_state pulls_pieces pulls_layers rests a b
  changes_of_pieces bytes taken a b x = changes_once a b (inr (bytes, taken, inr (inl x)))

  pub changes_of_layers : (bytes : List ℕ) (taken : Bool) (a b : S) → pulls_layers a bytes taken b → Changes pulls_state pulls_pieces pulls_layers rests a b
  changes_of_layers bytes taken a b x = changes_once a b (inr (bytes, taken, inr (inr x)))

  pub changes_pulled : (asked : Subject) (bytes : List ℕ) (taken : Bool) (a b : S) → PullsAs pulls_state pulls_pieces pulls_layers asked a bytes taken b
      → Changes pulls_state pulls_pieces pulls_layers rests a b
  changes_pulled subject.State = changes_of_state
  changes_pulled subject.Pieces = changes_of_pieces
  changes_pulled subject.Layers = changes_of_layers

  through_join : (xs ys : List S) (a b c : S) → ChangesThrough pulls_state pulls_pieces pulls_layers rests xs a b → ChangesThrough pulls_state pulls_pieces pulls_layers rests ys b c
      → ChangesThrough pulls_state pulls_pieces pulls_layers rests (xs ++ ys) a c
  through_join [] ys a b c x y = subst (λ t. ChangesThrough pulls_state pulls_pieces pulls_layers rests ys t c) x y
  through_join (k ∷ xs) ys a b c x y = (x.0, through_join xs ys k b c x.1 y)

  pub changes_join : (a b c : S) → Changes pulls_state pulls_pieces pulls_layers rests a b → Changes pulls_state pulls_pieces pulls_layers rests b c → Changes pulls_state pulls_pieces pulls_layers rests a c
  changes_join a b c x y = (x.0 ++ y.0, through_join x.0 y.0 a b c x.1 y.1)
