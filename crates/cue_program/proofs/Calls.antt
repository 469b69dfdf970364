-- Calls of files, one behind the other.
use Rattle.std.proofs.Common.{◌≡◌, ◌+◌, ℕ, zero, suc, arith, List, [], ◌++◌, take, drop, Some, None, Bool, true, false, Result, Ok, Err, OnOk, OnErr, is_ok, codes, refl, sym, ap, subst, ◌∙◌, inl, inr}
use Rattle.std.proofs.lemmas.List.{append_assoc, take-append-drop}
use Rattle.cue_program.specs.Calls.{FileCall, created, asked_mode, set_mode, wrote, synced, names_beside, FillsFile, TakesMode, TriesNames, WritesBytes, WritesIn}
use Rattle.cue_program.specs.Stopped.{OnlyTouches, Touches, TouchesIn}

pub tries_none : {S D M : Type 0} (Makes : S → FileCall D M → S → Type 0) (place : List ℕ) (a : S) → TriesNames Makes place 0 a a
unfolding TriesNames
tries_none Makes place a = refl

-- one name more was tried
pub tries_more : {S D M : Type 0} (Makes : S → FileCall D M → S → Type 0) (place draft : List ℕ) (n : ℕ) (a b c : S) → TriesNames Makes place n a b → draft ≡ names_beside (suc n) place
    → Makes b (created draft None) c → TriesNames Makes place (suc n) a c
unfolding TriesNames
tries_more Makes place draft n a b c h is made = (b, h, subst (λ (d : List ℕ). Makes b (created d None) c) is made)

-- the same with the next number
pub tries_next : {S D M : Type 0} (Makes : S → FileCall D M → S → Type 0) (place draft : List ℕ) (n : ℕ) (a b c : S) → TriesNames Makes place n a b → draft ≡ names_beside (suc n) place
    → Makes b (created draft None) c → TriesNames Makes place (n + 1) a c
tries_next Makes place draft n a b c h is made =
    let next : suc n ≡ n + 1 = omega arith in
    subst (λ (m : ℕ). TriesNames Makes place m a c) next (tries_more Makes place draft n a b c h is made)

pub beside_next : (place draft : List ℕ) (n : ℕ) → draft ≡ names_beside (suc n) place → draft ≡ names_beside (n + 1) place
beside_next place draft n is =
    let next : suc n ≡ n + 1 = omega arith in
    subst (λ (m : ℕ). draft ≡ names_beside m place) next is

pub beside_none : (place : List ℕ) → place ≡ names_beside 0 place
unfolding names_beside
beside_none place = refl

pub beside_more : (place name draft : List ℕ) (n : ℕ) → name ≡ names_beside n place → draft ≡ name ++ codes ".part" → draft ≡ names_beside (suc n) place
unfolding names_beside
beside_more place name draft n is more = more ∙ ap (λ (x : List ℕ). x ++ codes ".part") is

pub writes_none : {S D M : Type 0} (Makes : S → FileCall D M → S → Type 0) (file : D) (a : S) → WritesIn Makes 0 [] file file a a
unfolding WritesIn
writes_none Makes file a = (refl, refl, refl)

-- one piece more was written
pub writes_more : {S D M : Type 0} (Makes : S → FileCall D M → S → Type 0) (front piece : List ℕ) (f g h : D) (a b c : S) → WritesBytes Makes front f g a b
    → Makes b (wrote g piece h true) c → WritesBytes Makes (front ++ piece) f h a c
unfolding WritesIn
writes_more Makes front piece f g h a b c is made = (suc is.0, (front, piece, g, b, refl, is.1, made))

-- what was written of all bytes, and the piece that comes next
pub written_on : {S D M : Type 0} (Makes : S → FileCall D M → S → Type 0) (all left after : List ℕ) (count : ℕ) (f g h : D) (a b c : S)
    → ((done : List ℕ) × (all ≡ done ++ left) × WritesBytes Makes done f g a b) → after ≡ drop count left → Makes b (wrote g (take count left) h true) c
    → (done : List ℕ) × (all ≡ done ++ after) × WritesBytes Makes done f h a c
written_on Makes all left after count f g h a b c is rest made = (
  is.0 ++ take count left,
  is.1 ∙ (ap (λ (t : List ℕ). is.0 ++ t) (sym (take-append-drop count left) ∙ ap (λ (t : List ℕ). take count left ++ t) (sym rest))
      ∙ sym (append_assoc is.0 (take count left) after)),
  writes_more Makes is.0 (take count left) f g h a b c is.2 made,
)

pub touches_none : {S D M : Type 0} (Makes : S → FileCall D M → S → Type 0) (place : List ℕ) (f : D) (a : S) → TouchesIn Makes place 0 f f a a
unfolding TouchesIn
touches_none Makes place f a = (refl, refl)

-- one call more on the open file
pub touches_more : {S D M : Type 0} (Makes : S → FileCall D M → S → Type 0) (place : List ℕ) (n : ℕ) (f g h : D) (a b c : S) → TouchesIn Makes place n f g a b
    → Touches Makes place g h b c → TouchesIn Makes place (suc n) f h a c
unfolding TouchesIn
touches_more Makes place n f g h a b c is one = (g, b, is, one)

-- and more of them
pub touches_on : {S D M : Type 0} (Makes : S → FileCall D M → S → Type 0) (place : List ℕ) (n k : ℕ) (f g h : D) (a b c : S) → TouchesIn Makes place n f g a b
    → TouchesIn Makes place k g h b c → (m : ℕ) × TouchesIn Makes place m f h a c
unfolding TouchesIn
touches_on Makes place n zero f g h a b c is more =
    (n, subst (λ x. TouchesIn Makes place n f h a x) (sym more.1) (subst (λ x. TouchesIn Makes place n f x a b) (sym more.0) is))
touches_on Makes place n (suc k) f g h a b c is more =
    let front = touches_on Makes place n k f g more.0 a b more.1 is more.2 in
    (suc front.0, touches_more Makes place front.0 f more.0 h a more.1 c front.1 more.3)

-- writes are calls on the open file
pub writes_touch : {S D M : Type 0} (Makes : S → FileCall D M → S → Type 0) (place : List ℕ) (n : ℕ) (bytes : List ℕ) (f g : D) (a b : S) → WritesIn Makes n bytes f g a b
    → TouchesIn Makes place n f g a b
unfolding WritesIn TouchesIn
writes_touch Makes place zero bytes f g a b is = (is.1, is.2)
writes_touch Makes place (suc n) bytes f g a b is =
    (is.2, is.3, writes_touch Makes place n is.0 f is.2 a is.3 is.5, inr (inr (inl (is.1, true, is.6))))

-- what was written, and then a write that failed
pub wrote_part : {S D M : Type 0} (Makes : S → FileCall D M → S → Type 0) (place bytes piece : List ℕ) (f g h : D) (a b c : S) → WritesBytes Makes bytes f g a b
    → Makes b (wrote g piece h false) c → (n : ℕ) × TouchesIn Makes place n f h a c
wrote_part Makes place bytes piece f g h a b c is made =
    (suc is.0, touches_more Makes place is.0 f g h a b c (writes_touch Makes place is.0 bytes f g a b is.1) (inr (inr (inl (piece, false, made)))))

-- asking for a mode is one, and so is giving it
pub asking_touches : {S D M : Type 0} (Makes : S → FileCall D M → S → Type 0) (place : List ℕ) (f : D) (a b : S) → Makes a (asked_mode place None) b → OnlyTouches Makes place f a b
asking_touches Makes place f a b made = (1, f, touches_more Makes place 0 f f f a a b (touches_none Makes place f a) (inl (None, refl, made)))

pub mode_touches : {S D M : Type 0} (Makes : S → FileCall D M → S → Type 0) (place : List ℕ) (f : D) (mode : M) (done : Bool) (a b c : S) → Makes a (asked_mode place (Some mode)) b
    → Makes b (set_mode f mode done) c → TouchesIn Makes place 2 f f a c
mode_touches Makes place f mode done a b c asked set =
    touches_more Makes place 1 f f f a b c (touches_more Makes place 0 f f f a a b (touches_none Makes place f a) (inl (Some mode, refl, asked))) (inr (inl (mode, done, refl, set)))

pub taking_touches : {S D M : Type 0} (Makes : S → FileCall D M → S → Type 0) (place : List ℕ) (is_file : Bool) (f : D) (a b : S) → TakesMode Makes place is_file f a b
    → (n : ℕ) × TouchesIn Makes place n f f a b
taking_touches Makes place true f a b h = (2, mode_touches Makes place f h.0 true a h.1 b h.2 h.3)
taking_touches Makes place false f a b h = (0, subst (λ x. TouchesIn Makes place 0 f f a x) (sym h) (touches_none Makes place f a))

-- an open file took its mode, and then other calls were made on it
pub taken_then : {S D M : Type 0} (Makes : S → FileCall D M → S → Type 0) (place : List ℕ) (is_file : Bool) (f g : D) (a b c : S) → TakesMode Makes place is_file f a b
    → ((n : ℕ) × TouchesIn Makes place n f g b c) → (n : ℕ) × TouchesIn Makes place n f g a c
taken_then Makes place is_file f g a b c taken more =
    let first = taking_touches Makes place is_file f a b taken in
    touches_on Makes place first.0 more.0 f f g a b c first.1 more.1

-- and at last what was written did not reach the disk
pub not_synced : {S D M : Type 0} (Makes : S → FileCall D M → S → Type 0) (place : List ℕ) (f g : D) (a b c : S) → ((n : ℕ) × TouchesIn Makes place n f g a b) → Makes b (synced g false) c
    → OnlyTouches Makes place f a c
not_synced Makes place f g a b c is made = (suc is.0, g, touches_more Makes place is.0 f g g a b c is.1 (inr (inr (inr (false, refl, made)))))

-- of a call that failed
pub when_failed : {T E Q : Type 0} (r : Result T E) (P : Bool → Type 0) → P (is_ok r) → (P false → Q) → OnErr r Q
when_failed (Ok x) P h f = tt
when_failed (Err e) P h f = f h

pub when_done : {T E Q : Type 0} (r : Result T E) (P : Bool → Type 0) → P (is_ok r) → (P true → Q) → OnOk r Q
when_done (Ok x) P h f = f h
when_done (Err e) P h f = tt

-- what holds anyhow
pub on_err : {T E Q : Type 0} (r : Result T E) → Q → OnErr r Q
on_err (Ok x) h = tt
on_err (Err e) h = h

-- an open file took its mode, and then not all was written to it
pub taken_and_touched : {S D M : Type 0} (Makes : S → FileCall D M → S → Type 0) (place : List ℕ) (is_file : Bool) (f g : D) (a b c : S) → TakesMode Makes place is_file f a b
    → ((n : ℕ) × TouchesIn Makes place n f g b c) → OnlyTouches Makes place f a c
taken_and_touched Makes place is_file f g a b c taken more =
    let all = taken_then Makes place is_file f g a b c taken more in
    (all.0, g, all.1)

-- a new file that was filled was touched alone
pub fills_touch : {S D M : Type 0} (Makes : S → FileCall D M → S → Type 0) (place bytes : List ℕ) (is_file : Bool) (f : D) (a b : S) → FillsFile Makes place is_file bytes f a b
    → OnlyTouches Makes place f a b
fills_touch Makes place bytes is_file f a b h =
    let g = h.0 in
    let written : (n : ℕ) × TouchesIn Makes place n f g h.1 h.2 = (h.4.0, writes_touch Makes place h.4.0 bytes f g h.1 h.2 h.4.1) in
    let taken = taken_then Makes place is_file f g a h.1 h.2 h.3 written in
    (suc taken.0, g, touches_more Makes place taken.0 f g g a h.2 b taken.1 (inr (inr (inr (true, refl, h.5)))))
