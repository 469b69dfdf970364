-- Streams of replies that grow by a frame or a piece.
use Rattle.std.proofs.Common.{◌≡◌, ℕ, ◌+◌, ◌-◌, ◌≤◌, List, [], ◌∷◌, ◌++◌, length, take, drop, flat_map, Vec, Global, ap, sym, ◌∙◌, subst, refl, arith, length-append, append_assoc, append-nil, ◌⊎◌, inl, inr, Result, Ok, Err, IfErr, OnOk, is_ok}
use Rattle.std.proofs.lemmas.Bool.{false≢true}
use Rattle.cue_lattice.specs.declared.refusal.Kind.{Kind}
use Rattle.cue_lattice.specs.declared.refusal.Kind.TheVariants as kinds
use Rattle.std.proofs.lemmas.List.{take_at, drop_at, map-append, flat_map_more}
use Rattle.std.proofs.lemmas.List.Concat.{flat_map-append}
use Rattle.std.proofs.lemmas.List.Elements.{All-nil, All-push, All-append}
use Rattle.cue_wire.specs.Frames.{frame_of, IsBody, AreFrames, IsUnfinished, NamesTooMany, HasFault, StopsAtFrame}
use Rattle.cue_wire.specs.declared.request.Request as requests
use Rattle.cue_wire.specs.Clients.{ClientExchange, ClientHasTaken, all_items, request_frame}
use Rattle.cue_wire.specs.Inner.Pieces.{Gains, AppendsBytes}
use Rattle.cue_wire.proofs.Streams.{one_more}

-- a fact of a success, where the error alone was changed
pub on_ok : {T E D : Type 0} (was : Result T E) (now : Result T D) (value : T) {P : Type 0} → is_ok now ≡ is_ok was → now ≡ Ok value → OnOk was P → P
on_ok (Ok other) now value same is fact = fact
on_ok (Err error) now value same is fact = absurd (false≢true (sym same ∙ ap is_ok is))

-- A stream and a piece: the frames of the one, and then those of its rest and the piece.
pub joined : (stream rest piece rest' : List ℕ) (bodies more : List (List ℕ)) → AreFrames stream bodies rest → AreFrames (rest ++ piece) more rest'
    → AreFrames (stream ++ piece) (bodies ++ more) rest'
joined stream rest piece rest' bodies more is next =
    record {
      whole = ap (λ zs. zs ++ piece) is.whole ∙ append_assoc (flat_map frame_of bodies) rest piece
          ∙ ap (λ zs. flat_map frame_of bodies ++ zs) next.whole ∙ sym (append_assoc (flat_map frame_of bodies) (flat_map frame_of more) rest')
          ∙ ap (λ zs. zs ++ rest') (sym (flat_map-append frame_of bodies more));
      short = All-append IsBody bodies more is.short next.short;
    }

pub gains_none : (stream : List ℕ) (had : List (Vec ℕ Global)) → Gains stream stream had had
gains_none stream had = record { more = []; frames = record { whole = refl; short = All-nil IsBody }; added = sym (append-nil had) }

pub gains_more : (stream rest body rest' : List ℕ) (start old new : List (Vec ℕ Global)) → Gains stream rest start old
    → IsBody body → rest ≡ frame_of body ++ rest' → (copy : Vec ℕ Global) × (copy.items ≡ body) × (new ≡ old ++ copy ∷ []) → Gains stream rest' start new
gains_more stream rest body rest' start old new gains fits is one =
    let bodies = all_items gains.more in
    let all : all_items (gains.more ++ one.0 ∷ []) ≡ bodies ++ body ∷ [] = map-append (λ (v : Vec ℕ Global). v.items) gains.more (one.0 ∷ []) ∙ ap (λ b. bodies ++ b ∷ []) one.1 in
    record {
      more = gains.more ++ one.0 ∷ [];
      frames = subst (λ bs. AreFrames stream bs rest') (sym all) (record {
        whole = gains.frames.whole ∙ ap (λ zs. flat_map frame_of bodies ++ zs) is ∙ sym (one_more bodies body rest');
        short = All-push IsBody bodies body gains.frames.short fits;
      });
      added = one.2 ∙ ap (λ zs. zs ++ one.0 ∷ []) gains.added ∙ append_assoc start gains.more (one.0 ∷ []);
    }

-- so many bytes are those of the whole frames
pub used_up : (stream rest : List ℕ) (start new : List (Vec ℕ Global)) (used : ℕ) → Gains stream rest start new → used ≡ length stream - length rest
    → (used ≤ length stream) × (drop used stream ≡ rest)
used_up stream rest start new used gains is =
    let front = flat_map frame_of (all_items gains.more) in
    let long : length stream ≡ length front + length rest = ap length gains.frames.whole ∙ length-append front rest in
    (omega (arith, is), ap (drop used) gains.frames.whole ∙ drop_at front rest used (omega (arith, long, is)))

pub extends : (old more new : List ℕ) → new ≡ old ++ more → AppendsBytes old new
extends old more new is = (more, is)

-- what extends an extension
pub extends_through : (old front middle new : List ℕ) → middle ≡ old ++ front → AppendsBytes middle new → AppendsBytes old new
extends_through old front middle new is more =
    (front ++ more.0, more.1 ∙ ap (λ zs. zs ++ more.0) is ∙ append_assoc old front more.0)

-- what is cut back to its former length is as it was
pub cut_back : {X : Type 0} (old more new : List X) (n : ℕ) → new ≡ old ++ more → n ≡ length old → take n new ≡ old
cut_back old more new n is long = ap (take n) is ∙ take_at old more n (sym long)

pub fed : (outgoing stream piece rest rest' : List ℕ) (had new : List (Vec ℕ Global)) → ClientHasTaken (record { outgoing = outgoing; replies = all_items had; rest = rest }) stream
    → Gains (rest ++ piece) rest' had new → IsUnfinished rest' → ClientHasTaken (record { outgoing = outgoing; replies = all_items new; rest = rest' }) (stream ++ piece)
fed outgoing stream piece rest rest' had new taken gains unfinished =
    let all : all_items new ≡ all_items had ++ all_items gains.more = ap all_items gains.added ∙ map-append (λ (v : Vec ℕ Global). v.items) had gains.more in
    record {
      frames = subst (λ bs. AreFrames (stream ++ piece) bs rest') (sym all) (joined stream rest piece rest' (all_items had) (all_items gains.more) taken.frames gains.frames);
      unfinished = unfinished;
    }

pub faulty : (outgoing stream piece rest rest' : List ℕ) (had new : List (Vec ℕ Global)) → ClientHasTaken (record { outgoing = outgoing; replies = all_items had; rest = rest }) stream
    → Gains (rest ++ piece) rest' had new → NamesTooMany rest' → HasFault (stream ++ piece)
faulty outgoing stream piece rest rest' had new taken gains many =
    (all_items had ++ all_items gains.more, rest', joined stream rest piece rest' (all_items had) (all_items gains.more) taken.frames gains.frames, many)

-- what a refusal tells of all that a client was fed
pub told_fault : (result : Result (Unit {0}) Kind) (outgoing piece rest rest' : List ℕ) (had new : List (Vec ℕ Global)) (client : ClientExchange)
    → client ≡ record { outgoing = outgoing; replies = all_items had; rest = rest } → StopsAtFrame result rest' → Gains (rest ++ piece) rest' had new
    → IfErr result (λ kind. (kind ≡ kinds.Memory) ⊎ ((kind ≡ kinds.FrameTooLong) × ((stream : List ℕ) → ClientHasTaken client stream → HasFault (stream ++ piece))))
told_fault (Ok u) outgoing piece rest rest' had new client is stops gains = tt
told_fault (Err kind) outgoing piece rest rest' had new client is (inl memory) gains = inl memory
told_fault (Err kind) outgoing piece rest rest' had new client is (inr long) gains =
    inr (long.0, λ stream taken. faulty outgoing stream piece rest rest' had new (subst (λ x. ClientHasTaken x stream) is taken) gains long.1)

-- one request's frame more
pub sends_more : (before after : List requests.Request) (request : requests.Request) (old new : List ℕ) → after ≡ before ++ request ∷ []
    → old ≡ flat_map request_frame before → new ≡ old ++ request_frame request → new ≡ flat_map request_frame after
sends_more before after request old new are was is =
    is ∙ ap (λ zs. zs ++ request_frame request) was ∙ flat_map_more request_frame [] before request ∙ ap (flat_map request_frame) (sym are)
