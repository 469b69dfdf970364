-- Names, byte by byte.
use Rattle.std.proofs.Common.{◌≡◌, ◌≢◌, ◌⊎◌, inl, inr, ⊎_elim, ℕ, zero, suc, ◌+◌, ◌<◌, ◌≤◌, List, [], ◌∷◌, ◌++◌, append-nil, append_assoc, length, take, drop, get_or, refl, sym, ap, ◌∙◌, subst, arith}
use Rattle.std.proofs.lemmas.List.{length-append, length-take, take_more, take_all}
use Rattle.std.proofs.lemmas.Bool.{cases_lt}
use Rattle.cue_layers.specs.Names.{IsLayerName, IsBadAt, BeginsName, EndsName, MayFollow, slash, name_limit}
use Rattle.cue_layers.specs.Inner.Naming.{MayStand, NameFollows, last_of}

pub ends_split : (before : ℕ) (xs ys : List ℕ) → EndsName before (xs ++ ys) → NameFollows before xs × EndsName (last_of before xs) ys
ends_split before [] ys e = (tt, e)
ends_split before (x ∷ xs) ys e = let r = ends_split x xs ys e.1 in ((e.0, r.0), r.1)

pub ends_both : (before : ℕ) (xs ys : List ℕ) → NameFollows before xs → EndsName (last_of before xs) ys → EndsName before (xs ++ ys)
ends_both before [] ys f e = e
ends_both before (x ∷ xs) ys f e = (f.0, ends_both x xs ys f.1 e)

pub follow_more : (before : ℕ) (xs : List ℕ) (b : ℕ) → NameFollows before xs → MayFollow (last_of before xs) b → NameFollows before (xs ++ b ∷ [])
follow_more before [] b f m = (m, tt)
follow_more before (x ∷ xs) b f m = (f.0, follow_more x xs b f.1 m)

pub last_more : (before : ℕ) (xs : List ℕ) (b : ℕ) → last_of before (xs ++ b ∷ []) ≡ b
last_more before [] b = refl
last_more before (x ∷ xs) b = last_more x xs b

-- how far the bytes are those of some name
pub record IsSoFar (front : List ℕ) (before : ℕ) : Type 0 where
  pub follow : NameFollows slash front
  pub last : before ≡ last_of slash front
  pub few : length front ≤ name_limit
  pub ends : length front ≡ name_limit → before ≢ slash

pub none_yet : IsSoFar [] slash
none_yet = record { follow = tt; last = refl; few = omega arith; ends = λ e. absurd (omega arith) }

pub one_more : (front : List ℕ) (before b : ℕ) → IsSoFar front before → MayStand (length front) before b → IsSoFar (front ++ b ∷ []) b
one_more front before b far stands =
    let len : length (front ++ b ∷ []) ≡ length front + 1 = length-append front (b ∷ []) in
    let lt : length front < name_limit = stands.0 in
    record {
      follow = follow_more slash front b far.follow (subst (λ (n : ℕ). MayFollow n b) far.last stands.1);
      last = sym (last_more slash front b);
      few = omega arith;
      ends = λ e. ⊎_elim (λ less. let l : length front + 1 < name_limit = less in absurd (omega arith)) (λ no. no) stands.2;
    }

-- no name has a byte where it may not stand
pub no_name : (front : List ℕ) (before b : ℕ) (more : List ℕ) → IsSoFar front before → ¬ MayStand (length front) before b → ¬ IsLayerName (front ++ b ∷ more)
no_name front before b more far bad is = bad (few, follows, ends more refl)
  where
    len : length (front ++ b ∷ more) ≡ length front + suc (length more)
    len = length-append front (b ∷ more)

    few : length front < name_limit
    few = let le : length (front ++ b ∷ more) ≤ name_limit = is.0 in omega (arith, len)

    rest : EndsName (last_of slash front) (b ∷ more)
    rest = (ends_split slash front (b ∷ more) is.1).1

    follows : MayFollow before b
    follows = subst (λ (n : ℕ). MayFollow n b) (sym far.last) rest.0

    ends : (others : List ℕ) → others ≡ more → (length front + 1 < name_limit) ⊎ (b ≢ slash)
    ends [] e = let E : List ℕ → Type 0 = λ ms. EndsName b ms in inr (subst E (sym e) rest.1)
    ends (o ∷ os) e =
        let le : length (front ++ b ∷ more) ≤ name_limit = is.0 in
        let long : suc (length os) ≡ length more = ap length e in
        inl (omega (arith, len))

-- some name begins with them
pub begins : (front : List ℕ) (before : ℕ) → IsSoFar front before → BeginsName front
begins front before far = ⊎_elim
    (λ lt.
    let l : length front < name_limit = lt in
    let len : length (front ++ 97 ∷ []) ≡ length front + 1 = length-append front (97 ∷ []) in
    (97 ∷ [], (omega arith, ends_both slash front (97 ∷ []) far.follow (inl (inr (inr (inl (omega arith, omega arith)))), λ e. absurd (omega (arith, e))))))
    (λ ge.
    let same : length front ≡ name_limit = let f = far.few in omega arith in
    ([], (subst (λ (xs : List ℕ). length xs ≤ name_limit) (sym (append-nil front)) far.few, ends_both slash front [] far.follow (subst (λ (n : ℕ). n ≢ slash) far.last (far.ends same)))))
    (cases_lt (length front) name_limit)

-- a list in which a byte may not stand is bad there
pub bad_here : (front : List ℕ) (before b : ℕ) (more : List ℕ) → IsSoFar front before → ¬ MayStand (length front) before b → IsBadAt (front ++ b ∷ more) (length front)
bad_here front before b more far bad = record {
  no_name = no_name front before b more far bad;
  within = omega (arith, length-append front (b ∷ more));
  begins = subst BeginsName (sym (front_of front (b ∷ more))) (begins front before far);
  longest = λ longer lt le is.
      let cut = longer_of front b more longer lt in
      no_name front before b (cut.0 ++ is.0) far bad
      (subst IsLayerName (ap (λ (xs : List ℕ). xs ++ is.0) cut.1 ∙ append_assoc front (b ∷ cut.0) is.0) is.1);
}
  where
    front_of : (xs ys : List ℕ) → take (length xs) (xs ++ ys) ≡ xs
    front_of [] ys = refl
    front_of (x ∷ xs) ys = ap (λ (zs : List ℕ). x ∷ zs) (front_of xs ys)

    longer_of : (xs : List ℕ) (y : ℕ) (ys : List ℕ) (n : ℕ) → length xs < n → (zs : List ℕ) × (take n (xs ++ y ∷ ys) ≡ xs ++ y ∷ zs)
    longer_of xs y ys zero l = absurd (omega arith)
    longer_of [] y ys (suc n) l = (take n ys, refl)
    longer_of (x ∷ xs) y ys (suc n) l = let r = longer_of xs y ys n (omega arith) in (r.0, ap (λ (zs : List ℕ). x ∷ zs) r.1)

-- a list that ends in a slash is bad behind it
pub bad_end : (name : List ℕ) (before : ℕ) → IsSoFar name before → before ≡ slash → IsBadAt name (length name)
bad_end name before far is = record {
  no_name = λ h. (ends_split slash name [] (subst (EndsName slash) (sym (append-nil name)) h.1)).1 (sym far.last ∙ is);
  within = omega arith;
  begins = subst BeginsName (sym (take_all (length name) name (omega arith))) (begins name before far);
  longest = λ longer lt le. absurd (omega arith);
}

pub is_name : (name : List ℕ) (before : ℕ) → IsSoFar name before → before ≢ slash → IsLayerName name
is_name name before far is = (far.few, subst (EndsName slash) (append-nil name) (ends_both slash name [] far.follow (subst (λ (n : ℕ). n ≢ slash) far.last is)))

-- a list at an index
split_at : (name : List ℕ) (i : ℕ) → i < length name → name ≡ take i name ++ get_or name i 0 ∷ drop (suc i) name
split_at [] i lt = absurd (omega arith)
split_at (x ∷ xs) zero lt = refl
split_at (x ∷ xs) (suc i) lt = ap (λ (ys : List ℕ). x ∷ ys) (split_at xs i (omega arith))

len_front : (name : List ℕ) (i : ℕ) → i ≤ length name → length (take i name) ≡ i
len_front name i le = omega (arith, length-take i name)

-- where the byte at an index may not stand
pub bad_at : (name : List ℕ) (i before : ℕ) → i < length name → IsSoFar (take i name) before → ¬ MayStand i before (get_or name i 0) → IsBadAt name i
bad_at name i before lt far bad =
    let len = len_front name i (omega arith) in
    let here = bad_here (take i name) before (get_or name i 0) (drop (suc i) name) far (subst (λ (n : ℕ). ¬ MayStand n before (get_or name i 0)) (sym len) bad) in
    subst (λ (n : ℕ). IsBadAt name n) len (subst (λ (xs : List ℕ). IsBadAt xs (length (take i name))) (sym (split_at name i lt)) here)

pub far_more : (name : List ℕ) (i before : ℕ) → i < length name → IsSoFar (take i name) before → MayStand i before (get_or name i 0) → IsSoFar (take (i + 1) name) (get_or name i 0)
far_more name i before lt far may =
    let b = get_or name i 0 in
    let more = one_more (take i name) before b far (subst (λ (n : ℕ). MayStand n before b) (sym (len_front name i (omega arith))) may) in
    subst (λ (xs : List ℕ). IsSoFar xs b) (sym (take_more name i 0 lt)) more

pub far_all : (name : List ℕ) (i before : ℕ) → length name ≤ i → IsSoFar (take i name) before → IsSoFar name before
far_all name i before le far = subst (λ (xs : List ℕ). IsSoFar xs before) (take_all i name le) far
