-- Where a frame is whole, the codec cuts it off.
use Rattle.std.proofs.Common.{◌≡◌, ℕ, ◌+◌, ◌^◌, ◌<◌, ◌≤◌, List, [], ◌∷◌, ◌++◌, length, take, drop, Option, Some, None, Ok, Err, IfSome, IfNone, sym, ap, ◌∙◌, subst, arith, pos, length-drop, append-nil, append_assoc, get_or, inl, inr}
use Rattle.std.proofs.lemmas.List.{length-take-le, take-append-drop, get_or-take, get_or_past}
use Rattle.std.proofs.lemmas.Bool.{cases_lt}
use Rattle.std.proofs.lemmas.Bool.Decides.{nat_tests}
use Rattle.std.specs.Int.{w32, to_be_bytes}
use Rattle.std.specs.IoError.{error_kind}
use Rattle.std.specs.declared.io.Error.{Error}
use Rattle.std.specs.declared.io.ErrorKind.TheVariants.{OutOfMemory}
use Rattle.bytes.specs.Filled.{Filled}
use Rattle.tokio_util.specs.declared.codec.length_delimited.LengthDelimitedCodec.{LengthDelimitedCodec}
use Rattle.tokio_util.specs.Codec.Next.{Decodes, partial}
use Rattle.tokio_util.specs.Codec.LengthField.{Layout, default_layout, field_value, add_adjustment}
use Rattle.tokio_util.specs.Codec.LengthDelimited.{codec_layout, IsAtHead, cut_adjusted, cut_payload, cut, Answers, IsUnfinished, gives_frames}
use Rattle.tokio_util.specs.Codec.LengthDelimited as codec
use Rattle.tokio_util.specs.Codec.LengthDelimitedLaws.{cut_frame_head, cut_payload_whole}
use Rattle.cue_wire.specs.Frames.{frame_limit, named_length, frame_of, IsBody}
use Rattle.cue_wire.specs.Inner.Pieces.{IsWhole}

abbrev pub our_layout : Layout
our_layout = record default_layout { max_frame_len = frame_limit }

-- both read the same four bytes
field_is : (xs : List ℕ) → 4 ≤ length xs → field_value our_layout xs ≡ named_length xs
unfolding named_length
field_is [] h = absurd (omega arith)
field_is (a ∷ []) h = absurd (omega arith)
field_is (a ∷ b ∷ []) h = absurd (omega arith)
field_is (a ∷ b ∷ c ∷ []) h = absurd (omega arith)
field_is (a ∷ b ∷ c ∷ d ∷ xs) h = omega arith

adjusted : (n : ℕ) (xs : List ℕ) → n < 2 ^ 64 → cut_adjusted (add_adjustment n (pos 0)) xs ≡ cut_payload n xs
adjusted n xs h = grind (arith, nat_tests)

pub cut_whole : (c : LengthDelimitedCodec) (xs : List ℕ) → codec_layout c ≡ our_layout → IsAtHead c → 4 ≤ length xs → named_length xs ≤ frame_limit → 4 + named_length xs ≤ length xs → cut c xs ≡ codec.frame (take (named_length xs) (drop 4 xs)) (drop (named_length xs) (drop 4 xs))
cut_whole c xs layout head four within whole =
    let n = named_length xs in
    let same = field_is xs four in
    rw (layout, head) (
    cut_frame_head our_layout xs four (rw same within)
    ∙ ap (λ v. cut_adjusted (add_adjustment v (pos 0)) (drop 4 xs)) same
    ∙ adjusted n (drop 4 xs) (omega arith)
    ∙ cut_payload_whole n (drop 4 xs) (omega (arith, length-drop 4 xs)))

-- it answers the frame that is cut off
pub answers_whole : (c : LengthDelimitedCodec) (xs p r : List ℕ) (o : Option Filled) (t : LengthDelimitedCodec) (ys : List ℕ) → cut c xs ≡ codec.frame p r → Decodes gives_frames c xs (Ok o) t ys → IfSome o (λ b. (b.items ≡ p) × (ys ≡ r)) × (IfNone o ⊥)
answers_whole c xs p r (Some b) t ys is h =
    let a = subst (λ v. Answers c xs v (Ok b) t ys) is h in
    ((a.0, a.2), tt)
answers_whole c xs p r None t ys is h =
    let none = subst (λ zs. IsUnfinished (cut c zs)) (append-nil xs) (h.1 [] partial (subst (λ zs. IsUnfinished (cut t zs)) (sym (append-nil ys)) h.0)) in
    (tt, subst IsUnfinished is none)

-- the length, the body and what follows are the stream
whole_again : (xs : List ℕ) (n k : ℕ) → to_be_bytes w32 n ≡ take 4 xs → length (take k (drop 4 xs)) ≡ n → frame_of (take k (drop 4 xs)) ++ drop k (drop 4 xs) ≡ xs
whole_again xs n k spelled long =
    ap (λ m. (to_be_bytes w32 m ++ take k (drop 4 xs)) ++ drop k (drop 4 xs)) long
    ∙ ap (λ zs. (zs ++ take k (drop 4 xs)) ++ drop k (drop 4 xs)) spelled
    ∙ append_assoc (take 4 xs) (take k (drop 4 xs)) (drop k (drop 4 xs))
    ∙ ap (λ zs. take 4 xs ++ zs) (take-append-drop k (drop 4 xs))
    ∙ take-append-drop 4 xs

taken_of : (xs : List ℕ) (n : ℕ) (o : Option Filled) (ys : List ℕ) → to_be_bytes w32 n ≡ take 4 xs → n ≤ frame_limit → length (take (named_length xs) (drop 4 xs)) ≡ n → IfSome o (λ b. (b.items ≡ take (named_length xs) (drop 4 xs)) × (ys ≡ drop (named_length xs) (drop 4 xs))) → IfSome o (λ body. IsBody body.items × (xs ≡ frame_of body.items ++ ys))
taken_of xs n (Some b) ys spelled within long h = (
  omega (arith, ap length h.0, long),
  sym (ap (λ zs. frame_of b.items ++ zs) h.1 ∙ ap (λ zs. frame_of zs ++ drop (named_length xs) (drop 4 xs)) h.0 ∙ whole_again xs n (named_length xs) spelled long),
)
taken_of xs n None ys spelled within long h = tt

-- what `next_frame` says of a whole frame
pub taken : (c : LengthDelimitedCodec) (xs : List ℕ) (n : ℕ) (o : Option Filled) (t : LengthDelimitedCodec) (ys : List ℕ) → codec_layout c ≡ our_layout → IsAtHead c → IsWhole xs n → Decodes gives_frames c xs (Ok o) t ys
    → IfSome o (λ body. IsBody body.items × (xs ≡ frame_of body.items ++ ys)) × IfNone o ⊥
taken c xs n o t ys layout head w h =
    let a = answers_whole c xs _ _ o t ys (cut_whole c xs layout head w.head (omega (arith, w.named, w.short)) (omega (arith, w.named, w.there))) h in
    (taken_of xs n o ys w.spelled w.short (length-take-le (named_length xs) (drop 4 xs) (omega (arith, length-drop 4 xs, w.named, w.there)) ∙ sym w.named) a.0, a.1)

-- and where it fails, memory is wanting
pub fails_for_room : (c : LengthDelimitedCodec) (xs : List ℕ) (n : ℕ) (e : Error) (t : LengthDelimitedCodec) (ys : List ℕ) → codec_layout c ≡ our_layout → IsAtHead c → IsWhole xs n → Decodes gives_frames c xs (Err e) t ys → error_kind e ≡ OutOfMemory
fails_for_room c xs n e t ys layout head w h =
    (subst (λ v. Answers c xs v (Err e) t ys) (cut_whole c xs layout head w.head (omega (arith, w.named, w.short)) (omega (arith, w.named, w.there))) h).0

-- the two parts of a stream with a whole frame at its front
pub cut_in_two : (xs : List ℕ) (n : ℕ) → IsWhole xs n → IsBody (take n (drop 4 xs)) × (xs ≡ frame_of (take n (drop 4 xs)) ++ drop n (drop 4 xs))
cut_in_two xs n w =
    let long : length (take n (drop 4 xs)) ≡ n = length-take-le n (drop 4 xs) (omega (arith, length-drop 4 xs, w.there)) in
    (omega (arith, long, w.short), sym (whole_again xs n n w.spelled long))

-- so it never answers that a frame is still to come
pub never : (P : Type 0) (o : Option Filled) → IfNone o ⊥ → IfNone o P
never P (Some b) h = tt
never P None h = absurd h

-- bytes of a front are bytes
pub front_bytes : (xs : List ℕ) → 4 ≤ length xs → ((i : ℕ) → get_or xs i 0 < 256) → (i : ℕ) → get_or (take 4 xs) i 0 < 256
front_bytes xs four fits i = elim (cases_lt i 4) [
  | inl l ↦ subst (λ n. n < 256) (sym (get_or-take 4 xs i 0 l)) (fits i)
  | inr ge ↦ subst (λ n. n < 256) (sym (get_or_past (take 4 xs) i 0 (omega (arith, length-take-le 4 xs four)))) (omega arith)
]
