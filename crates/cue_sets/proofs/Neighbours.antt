-- Texts ascend where each is below the next one.
use Rattle.std.proofs.Common.{◌≡◌, ℕ, zero, suc, ◌+◌, ◌-◌, ◌<◌, ◌≤◌, ⊎_elim, List, [], ◌∷◌, length, get_or, sym, ap, ◌∙◌, arith}
use Rattle.std.specs.declared.cmp.Ordering.TheVariants.{Less}
use Rattle.std.proofs.lemmas.Bool.{cases_lt}
use Rattle.std.proofs.lemmas.List.{get_or_default}
use Rattle.cue_sets.specs.Texts.{text_cmp, IsAscending}
use Rattle.cue_sets.specs.TextLaws.{IsTextBelowAll-lower}

-- each text is below the next one
abbrev pub AreNeighbours : ℕ → List (List ℕ) → Type 0
AreNeighbours n texts = (k : ℕ) (d : List ℕ) → suc k < n → text_cmp (get_or texts k d) (get_or texts (suc k) d) ≡ Less

-- then they ascend
pub ascending_from_neighbours : (texts : List (List ℕ)) → AreNeighbours (length texts) texts → IsAscending texts
ascending_from_neighbours [] h = tt
ascending_from_neighbours (x ∷ []) h = (tt, tt)
ascending_from_neighbours (x ∷ y ∷ texts) h =
    let rest = ascending_from_neighbours (y ∷ texts) (λ k d l. h (suc k) d (omega arith)) in
    let less = h 0 x (omega arith) in
    ((less, IsTextBelowAll-lower x y texts less rest.0), rest)

-- texts that ascend are each below the next one
pub neighbours_from_ascending : (texts : List (List ℕ)) → IsAscending texts → AreNeighbours (length texts) texts
neighbours_from_ascending [] a k d l = absurd (omega arith)
neighbours_from_ascending (x ∷ []) a k d l = absurd (omega arith)
neighbours_from_ascending (x ∷ y ∷ texts) a zero d l = a.0.0
neighbours_from_ascending (x ∷ y ∷ texts) a (suc k) d l = neighbours_from_ascending (y ∷ texts) a.1 k d (omega arith)

-- one more text
pub neighbours_more :
    (texts : List (List ℕ)) (i : ℕ) (before here : List ℕ) → AreNeighbours i texts → 1 ≤ i → i < length texts
    → before ≡ get_or texts (i - 1) before → here ≡ get_or texts i here → text_cmp before here ≡ Less → AreNeighbours (i + 1) texts
neighbours_more texts i before here h from within is_before is_here less k d l =
    ⊎_elim (λ m. h k d m) (λ m. last (omega arith)) (cases_lt (suc k) i) where
      last : i ≡ suc k → text_cmp (get_or texts k d) (get_or texts (suc k) d) ≡ Less
      last e =
          let at_before : get_or texts k d ≡ before = get_or_default texts k d before (omega arith) ∙ ap (λ j. get_or texts j before) (omega arith) ∙ sym is_before in
          let at_here : get_or texts (suc k) d ≡ here = get_or_default texts (suc k) d here (omega arith) ∙ ap (λ j. get_or texts j here) (sym e) ∙ sym is_here in
          ap (λ b. text_cmp b (get_or texts (suc k) d)) at_before ∙ ap (text_cmp before) at_here ∙ less

-- a text that is not below the next one
pub not_ascending :
    (texts : List (List ℕ)) (i : ℕ) (before here : List ℕ) → 1 ≤ i → i < length texts → before ≡ get_or texts (i - 1) before
    → here ≡ get_or texts i here → (text_cmp before here ≡ Less → ⊥) → IsAscending texts → ⊥
not_ascending texts zero before here from within is_before is_here unlike a = absurd (omega arith)
not_ascending texts (suc k) before here from within is_before is_here unlike a =
    let at_before : get_or texts k before ≡ before = ap (λ j. get_or texts j before) (omega arith) ∙ sym is_before in
    let at_here : get_or texts (suc k) before ≡ here = get_or_default texts (suc k) before here (omega arith) ∙ sym is_here in
    unlike (sym (ap (λ b. text_cmp b here) at_before) ∙ sym (ap (text_cmp (get_or texts k before)) at_here) ∙ neighbours_from_ascending texts a k before (omega arith))
