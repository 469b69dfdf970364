-- A stream is read in one way, however it is cut.
use Rattle.std.proofs.Common.{◌≡◌, ◌+◌, ℕ, List, [], ◌∷◌, ◌++◌, length, take, drop, flat_map, All, refl, sym, ap, ◌∙◌, subst, inl, inr, arith, length-append, append_assoc}
use Rattle.std.proofs.lemmas.List.{take_at, drop_at, append_cancel_left}
use Rattle.std.proofs.lemmas.List.Elements.{All-head, All-tail}
use Rattle.std.proofs.lemmas.Nat.{from_be_bytes-to_be_bytes_4}
use Rattle.std.specs.Int.{w32, to_be_bytes, from_be_bytes}
use Rattle.cue_replica.specs.Language.{Table}
use Rattle.cue_wire.specs.Frames.{frame_of, named_length, IsBody, AreFrames}
use Rattle.cue_wire.specs.Readings.{IsLast, AreReadings}
use Rattle.cue_wire.specs.Serving.{ServesAll}
use Rattle.cue_wire.proofs.Exchanges.{joined}

-- the length that a frame names is that of its body
named_front : (body rest : List ℕ) → IsBody body → named_length (frame_of body ++ rest) ≡ length body
unfolding named_length
named_front body rest fits =
    ap (λ zs. from_be_bytes w32 (take 4 zs)) (append_assoc (to_be_bytes w32 (length body)) body rest)
    ∙ ap (from_be_bytes w32) (take_at (to_be_bytes w32 (length body)) (body ++ rest) 4 refl)
    ∙ from_be_bytes-to_be_bytes_4 (length body) (omega (arith, fits))

long_front : (body rest : List ℕ) → length (frame_of body ++ rest) ≡ 4 + length body + length rest
long_front body rest = omega (arith, length-append (frame_of body) rest, length-append (to_be_bytes w32 (length body)) body)

-- a whole frame is no rest
not_last : (body rest : List ℕ) → IsBody body → IsLast (frame_of body ++ rest) → ⊥
not_last body rest fits (inl (inl short)) = omega (arith, short, long_front body rest)
not_last body rest fits (inl (inr part)) = omega (arith, part.1, named_front body rest fits, long_front body rest)
not_last body rest fits (inr many) = omega (arith, fits, many.1, named_front body rest fits)

-- the first frame and what comes behind it
split_front : (a b x y : List ℕ) → IsBody a → IsBody b → frame_of a ++ x ≡ frame_of b ++ y → (a ≡ b) × (x ≡ y)
split_front a b x y fits_a fits_b e =
    let long : length a ≡ length b = sym (named_front a x fits_a) ∙ ap named_length e ∙ named_front b y fits_b in
    let whole : to_be_bytes w32 (length a) ++ (a ++ x) ≡ to_be_bytes w32 (length a) ++ (b ++ y) =
    sym (append_assoc (to_be_bytes w32 (length a)) a x) ∙ e ∙ append_assoc (to_be_bytes w32 (length b)) b y
    ∙ ap (λ n. to_be_bytes w32 n ++ (b ++ y)) (sym long) in
    let behind : a ++ x ≡ b ++ y = append_cancel_left (to_be_bytes w32 (length a)) (a ++ x) (b ++ y) whole in (
      sym (take_at a x (length a) refl) ∙ ap (take (length a)) behind ∙ take_at b y (length a) (sym long),
      sym (drop_at a x (length a) refl) ∙ ap (drop (length a)) behind ∙ drop_at b y (length a) (sym long),
    )

read_once : (firsts seconds : List (List ℕ)) (x y : List ℕ) → flat_map frame_of firsts ++ x ≡ flat_map frame_of seconds ++ y → All IsBody firsts → All IsBody seconds
    → IsLast x → IsLast y → (firsts ≡ seconds) × (x ≡ y)
read_once [] [] x y e fits_a fits_b last_x last_y = (refl, e)
read_once [] (b ∷ seconds) x y e fits_a fits_b last_x last_y =
    absurd (not_last b (flat_map frame_of seconds ++ y) (All-head IsBody b seconds fits_b) (subst IsLast (e ∙ append_assoc (frame_of b) (flat_map frame_of seconds) y) last_x))
read_once (a ∷ firsts) [] x y e fits_a fits_b last_x last_y =
    absurd (not_last a (flat_map frame_of firsts ++ x) (All-head IsBody a firsts fits_a) (subst IsLast (sym e ∙ append_assoc (frame_of a) (flat_map frame_of firsts) x) last_y))
read_once (a ∷ firsts) (b ∷ seconds) x y e fits_a fits_b last_x last_y =
    let front = split_front a b (flat_map frame_of firsts ++ x) (flat_map frame_of seconds ++ y) (All-head IsBody a firsts fits_a) (All-head IsBody b seconds fits_b)
    (sym (append_assoc (frame_of a) (flat_map frame_of firsts) x) ∙ e ∙ append_assoc (frame_of b) (flat_map frame_of seconds) y) in
    let more = read_once firsts seconds x y front.1 (All-tail IsBody a firsts fits_a) (All-tail IsBody b seconds fits_b) last_x last_y in
    (ap (λ z. z ∷ firsts) front.0 ∙ ap (λ zs. b ∷ zs) more.0, more.1)

once : (stream : List ℕ) (bodies others : List (List ℕ)) (rest other : List ℕ) → AreFrames stream bodies rest → IsLast rest → AreFrames stream others other → IsLast other
    → (bodies ≡ others) × (rest ≡ other)
once stream bodies others rest other a last_a b last_b = read_once bodies others rest other (sym a.whole ∙ b.whole) a.short b.short last_a last_b

served : (bodies more : List (List ℕ)) (before between after : Table) (replies others : List ℕ) → ServesAll bodies before between replies
    → ServesAll more between after others → ServesAll (bodies ++ more) before after (replies ++ others)
unfolding ServesAll
served [] more before between after replies others first second =
    subst (λ rs. ServesAll more before after (rs ++ others)) (sym first.1) (subst (λ t. ServesAll more t after others) first.0 second)
served (body ∷ bodies) more before between after replies others first second = (
  first.0,
  first.1,
  first.2 ++ others,
  first.3,
  served bodies more first.0 between after first.2 others first.4 second,
  ap (λ zs. zs ++ others) first.5 ∙ append_assoc first.1 first.2 others,
)

pub are_readings : AreReadings
are_readings = record {
  once = once;
  pieces = λ stream piece bodies more rest last. joined stream rest piece last bodies more;
  served = served;
}
