-- Pieces that are added, taken back and given up.
use Rattle.std.proofs.Common.{◌≡◌, inr, ℕ, zero, suc, ◌+◌, ◌-◌, ◌<◌, ◌≤◌, ◌^◌, List, [], ◌∷◌, ◌++◌, length, drop, refl, sym, ◌∙◌, ap, subst, arith, length-append, length-drop}
use Rattle.std.specs.List.{AllByRecursion}
use Rattle.cue_journal.specs.Blocks.{FitsInBlock}
use Rattle.cue_journal.specs.Inner.Pieces.{AreSound}
use Rattle.cue_journal.specs.Listed.{Listed, GivesUp, GivesUpBeyond}
use Rattle.cue_journal.specs.Lists.{memory_of_pieces}

weight_push : (entries : List (List ℕ)) (last : List ℕ) → memory_of_pieces (entries ++ last ∷ []) ≡ memory_of_pieces entries + (length last + 128)
weight_push [] last = omega arith
weight_push (entry ∷ entries) last = omega (arith, weight_push entries last)

fit_push : (entries : List (List ℕ)) (last : List ℕ) → AllByRecursion FitsInBlock entries → FitsInBlock last → AllByRecursion FitsInBlock (entries ++ last ∷ [])
fit_push [] last fit fits = (fits, tt)
fit_push (entry ∷ entries) last fit fits = (fit.0, fit_push entries last fit.1 fits)

fit_front : (entries : List (List ℕ)) (last : List ℕ) → AllByRecursion FitsInBlock (entries ++ last ∷ []) → AllByRecursion FitsInBlock entries
fit_front [] last fit = tt
fit_front (entry ∷ entries) last fit = (fit.0, fit_front entries last fit.1)

pub sound_more : (given_up size size' : ℕ) (kept kept' : List (List ℕ)) (entry : List ℕ) → AreSound given_up size kept → FitsInBlock entry
    → given_up + length kept + 1 < 2 ^ 64 → size' ≡ size + (length entry + 128) → kept' ≡ kept ++ entry ∷ [] → AreSound given_up size' kept'
sound_more given_up size size' kept kept' entry sound fits count is_size is =
    subst (AreSound given_up size') (sym is) (record {
      fit = fit_push kept entry sound.fit fits;
      count = omega (arith, count, length-append kept (entry ∷ []));
      size_is = omega (arith, is_size, sound.size_is, weight_push kept entry);
    })

pub last_size : (given_up size : ℕ) (kept kept' : List (List ℕ)) (last : List ℕ) → AreSound given_up size kept → kept ≡ kept' ++ last ∷ [] → length last + 128 ≤ size
last_size given_up size kept kept' last sound is = omega (arith, sound.size_is, ap memory_of_pieces is, weight_push kept' last)

pub sound_without_last : (given_up size size' : ℕ) (kept kept' : List (List ℕ)) (last : List ℕ) → AreSound given_up size kept → kept ≡ kept' ++ last ∷ []
    → size' ≡ size - (length last + 128) → AreSound given_up size' kept'
sound_without_last given_up size size' kept kept' last sound is is_size = record {
  fit = fit_front kept' last (subst (AllByRecursion FitsInBlock) is sound.fit);
  count = omega (arith, sound.count, ap length is, length-append kept' (last ∷ []));
  size_is = omega (arith, is_size, sound.size_is, ap memory_of_pieces is, weight_push kept' last);
}

pub first_size : (given_up size : ℕ) (kept kept' : List (List ℕ)) (first : List ℕ) → AreSound given_up size kept → kept ≡ first ∷ kept' → length first + 128 ≤ size
first_size given_up size kept kept' first sound is = omega (arith, sound.size_is, ap memory_of_pieces is)

pub sound_without_first : (given_up size size' : ℕ) (kept kept' : List (List ℕ)) (first : List ℕ) → AreSound given_up size kept → kept ≡ first ∷ kept'
    → size' ≡ size - (length first + 128) → AreSound (given_up + 1) size' kept'
sound_without_first given_up size size' kept kept' first sound is is_size =
    let fit : AllByRecursion FitsInBlock (first ∷ kept') = subst (AllByRecursion FitsInBlock) is sound.fit in
    record {
      fit = fit.1;
      count = omega (arith, sound.count, ap length is);
      size_is = omega (arith, is_size, sound.size_is, ap memory_of_pieces is);
    }

drop_one : {X : Type 0} (n : ℕ) (xs : List X) → drop (suc n) xs ≡ drop 1 (drop n xs)
drop_one zero xs = refl
drop_one (suc n) [] = refl
drop_one (suc n) (x ∷ xs) = drop_one n xs

same : {run run' given_up given_up' : ℕ} {kept kept' : List (List ℕ)} → run ≡ run' → given_up ≡ given_up' → kept ≡ kept'
    → ◌≡◌ {A = Listed} (record { run = run; given_up = given_up; kept = kept }) (record { run = run'; given_up = given_up'; kept = kept' })
same a b c = cc

pub fit_behind : (n : ℕ) (entries : List (List ℕ)) → AllByRecursion FitsInBlock entries → AllByRecursion FitsInBlock (drop n entries)
fit_behind zero entries fit = fit
fit_behind (suc n) [] fit = tt
fit_behind (suc n) (entry ∷ entries) fit = fit_behind n entries fit.1

pub none_behind : (n : ℕ) (entries : List (List ℕ)) → length entries ≤ n → drop n entries ≡ []
none_behind zero [] le = refl
none_behind zero (entry ∷ entries) le = absurd (omega (arith, le))
none_behind (suc n) [] le = refl
none_behind (suc n) (entry ∷ entries) le = none_behind n entries (omega (arith, le))

pub none_given_up : (old : Listed) → GivesUp old old
none_given_up old = (0, omega arith, same refl (omega arith) refl)

step : (n : ℕ) → suc n ≡ n + 1
step n = omega arith

pub one_given_up : (old : Listed) (run given_up given_up' : ℕ) (kept kept' : List (List ℕ)) (first : List ℕ) → GivesUp old (record { run = run; given_up = given_up; kept = kept })
    → kept ≡ first ∷ kept' → given_up' ≡ given_up + 1 → GivesUp old (record { run = run; given_up = given_up'; kept = kept' })
one_given_up old run given_up given_up' kept kept' first gives is is_count =
    let run_is : run ≡ old.run = ap (λ (l : Listed). l.run) gives.2 in
    let count_is : given_up ≡ old.given_up + gives.0 = ap (λ (l : Listed). l.given_up) gives.2 in
    let kept_is : kept ≡ drop gives.0 old.kept = ap (λ (l : Listed). l.kept) gives.2 in
    let rest_is : kept' ≡ drop (gives.0 + 1) old.kept = sym (ap (drop 1) is) ∙ ap (drop 1) kept_is ∙ sym (drop_one gives.0 old.kept) ∙ ap (λ n. drop n old.kept) (step gives.0) in
    let number_is : given_up' ≡ old.given_up + (gives.0 + 1) = omega (arith, is_count, count_is) in (
      gives.0 + 1,
      omega (arith, gives.1, ap length is, ap length kept_is, length-drop gives.0 old.kept),
      same run_is number_is rest_is,
    )

back : (n : ℕ) → n ≡ n + 1 - 1
back n = omega arith

-- as there were too many bytes
pub one_given_up_beyond : (most : ℕ) (old : Listed) (run given_up given_up' size : ℕ) (kept kept' : List (List ℕ)) (first : List ℕ)
    → GivesUpBeyond most old (record { run = run; given_up = given_up; kept = kept }) → AreSound given_up size kept → most < size
    → kept ≡ first ∷ kept' → given_up' ≡ given_up + 1 → GivesUpBeyond most old (record { run = run; given_up = given_up'; kept = kept' })
one_given_up_beyond most old run given_up given_up' size kept kept' first gives sound more is is_count =
    let run_is : run ≡ old.run = ap (λ (l : Listed). l.run) gives.2 in
    let count_is : given_up ≡ old.given_up + gives.0 = ap (λ (l : Listed). l.given_up) gives.2 in
    let kept_is : kept ≡ drop gives.0 old.kept = ap (λ (l : Listed). l.kept) gives.2 in
    let rest_is : kept' ≡ drop (gives.0 + 1) old.kept = sym (ap (drop 1) is) ∙ ap (drop 1) kept_is ∙ sym (drop_one gives.0 old.kept) ∙ ap (λ n. drop n old.kept) (step gives.0) in
    let number_is : given_up' ≡ old.given_up + (gives.0 + 1) = omega (arith, is_count, count_is) in
    let weighs : most < memory_of_pieces kept = omega (arith, more, sound.size_is) in
    let beyond : most < memory_of_pieces (drop gives.0 old.kept) = subst (λ (l : List (List ℕ)). most < memory_of_pieces l) kept_is weighs in (
      gives.0 + 1,
      omega (arith, gives.1, ap length is, ap length kept_is, length-drop gives.0 old.kept),
      same run_is number_is rest_is,
      inr (subst (λ n. most < memory_of_pieces (drop n old.kept)) (back gives.0) beyond),
    )
