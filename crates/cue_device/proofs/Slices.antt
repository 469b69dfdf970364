-- Bytes that are copied out of the middle of a list.
use Rattle.std.proofs.Common.{◌≡◌, ℕ, ◌+◌, ◌-◌, ◌<◌, min, List, [], ◌++◌, length, take, drop, ap, sym, ◌∙◌, arith, length-drop, length-append, take-append-drop}
use Rattle.std.proofs.lemmas.List.{take_at, take_all, length-take-le, nil_from_length, drop-drop}
use Rattle.std.proofs.Math.Seq.{take-add}

-- n bytes after the first ones stand at the front of a buffer
pub fits : (xs front into : List ℕ) (at n : ℕ) → front ≡ take n (drop at xs) → n ≡ min (length xs - at) (length into)
    → take n (front ++ drop n into) ≡ take n (drop at xs)
fits xs front into at n is bound =
    take_at front (drop n into) n (ap length is ∙ length-take-le n (drop at xs) (omega (arith, length-drop at xs, bound))) ∙ is

pub given : (xs front into : List ℕ) (at n : ℕ) → front ≡ take n (drop at xs) → n ≡ min (length xs - at) (length into)
    → take (at + n) xs ≡ take at xs ++ take n (front ++ drop n into)
given xs front into at n is bound =
    take-add at n xs ∙ ap (λ zs. take at xs ++ zs) (sym (fits xs front into at n is bound))

pub to_come : (xs front into : List ℕ) (at n : ℕ) → front ≡ take n (drop at xs) → n ≡ min (length xs - at) (length into)
    → drop at xs ≡ take n (front ++ drop n into) ++ drop (at + n) xs
to_come xs front into at n is bound =
    sym (ap (λ zs. zs ++ drop (at + n) xs) (fits xs front into at n is bound)
    ∙ ap (λ zs. take n (drop at xs) ++ zs) (sym (drop-drop n at xs)) ∙ take-append-drop n (drop at xs))

pub ended : (xs front into : List ℕ) (at n : ℕ) → front ≡ take n (drop at xs) → n ≡ min (length xs - at) (length into)
    → n ≡ 0 → 0 < length (front ++ drop n into) → drop (at + n) xs ≡ []
ended xs front into at n is bound zero some =
    let long : length front ≡ n = ap length is ∙ length-take-le n (drop at xs) (omega (arith, length-drop at xs, bound)) in
    nil_from_length (drop (at + n) xs) (omega (arith, zero, some, bound, long, length-drop (at + n) xs, length-drop n into, length-append front (drop n into)))

-- what is copied from all that is left
pub copied : (xs front : List ℕ) (at n : ℕ) → front ≡ take n (take (length xs - at) (drop at xs)) → front ≡ take n (drop at xs)
copied xs front at n is =
    is ∙ ap (take n) (take_all (length xs - at) (drop at xs) (omega (arith, length-drop at xs)))
