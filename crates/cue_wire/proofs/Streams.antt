-- Streams that grow by a frame, and frames that are served one more.
use Rattle.std.proofs.Common.{◌≡◌, ℕ, ◌<◌, ◌≤◌, ◌+◌, ◌-◌, drop, List, [], ◌∷◌, ◌++◌, length, flat_map, ap, sym, ◌∙◌, subst, refl, arith, length-append, append_assoc, append-nil}
use Rattle.std.proofs.lemmas.List.{flat_map_more, drop_at}
use Rattle.std.proofs.lemmas.List.Elements.{All-push, All-nil}
use Rattle.cue_replica.specs.Language.{Table}
use Rattle.cue_wire.specs.Frames.{frame_of, IsBody}
use Rattle.cue_wire.specs.Serving.{Serves, ServesAll}
use Rattle.cue_wire.specs.Sessions.{Served}

-- a frame that leaves the stream joins those before it
pub one_more : (bodies : List (List ℕ)) (body rest : List ℕ) → flat_map frame_of (bodies ++ body ∷ []) ++ rest ≡ flat_map frame_of bodies ++ (frame_of body ++ rest)
one_more bodies body rest = ap (λ zs. zs ++ rest) (sym (flat_map_more frame_of [] bodies body)) ∙ append_assoc (flat_map frame_of bodies) (frame_of body) rest

pub shorter : (xs body ys : List ℕ) → xs ≡ frame_of body ++ ys → length ys < length xs
shorter xs body ys is = omega (arith, ap length is, length-append body ys)

-- one frame more is served behind those before it
pub serves_more : (bodies : List (List ℕ)) (body : List ℕ) (before between after : Table) (replies reply : List ℕ)
    → ServesAll bodies before between replies → Serves body between after reply → ServesAll (bodies ++ body ∷ []) before after (replies ++ reply)
unfolding ServesAll
serves_more [] body before between after replies reply all one =
    (after, reply, [], subst (λ t. Serves body t after reply) all.0 one, (refl, refl), ap (λ zs. zs ++ reply) all.1 ∙ sym (append-nil reply))
serves_more (b ∷ bodies) body before between after replies reply all one =
    let t = all.0 in (
      t,
      all.1,
      all.2 ++ reply,
      all.3,
      serves_more bodies body t between after all.2 reply all.4 one,
      ap (λ zs. zs ++ reply) all.5 ∙ append_assoc all.1 all.2 reply,
    )

pub served_none : (stream : List ℕ) (table : Table) (out : List ℕ) → Served stream stream table table out out
unfolding ServesAll
served_none stream table out =
    record { bodies = []; replies = []; frames = record { whole = refl; short = All-nil IsBody }; tables = (refl, refl); added = sym (append-nil out) }

pub served_more : (stream rest body rest' : List ℕ) (before between after : Table) (out old new : List ℕ)
    → Served stream rest before between out old → rest ≡ frame_of body ++ rest' → IsBody body
    → (reply : List ℕ) × Serves body between after reply × (new ≡ old ++ reply) → Served stream rest' before after out new
served_more stream rest body rest' before between after out old new served is fits one =
    record {
      bodies = served.bodies ++ body ∷ [];
      replies = served.replies ++ one.0;
      frames = record {
        whole = served.frames.whole ∙ ap (λ zs. flat_map frame_of served.bodies ++ zs) is ∙ sym (one_more served.bodies body rest');
        short = All-push IsBody served.bodies body served.frames.short fits;
      };
      tables = serves_more served.bodies body before between after served.replies one.0 served.tables one.1;
      added = one.2 ∙ ap (λ zs. zs ++ one.0) served.added ∙ append_assoc out served.replies one.0;
    }

-- so many bytes are those of the frames that were served
pub served_up : (stream rest : List ℕ) (before after : Table) (out new : List ℕ) (used : ℕ) → Served stream rest before after out new → used ≡ length stream - length rest
    → (used ≤ length stream) × (drop used stream ≡ rest)
served_up stream rest before after out new used served is =
    let front = flat_map frame_of served.bodies in
    let long : length stream ≡ length front + length rest = ap length served.frames.whole ∙ length-append front rest in
    (omega (arith, is), ap (drop used) served.frames.whole ∙ drop_at front rest used (omega (arith, long, is)))
