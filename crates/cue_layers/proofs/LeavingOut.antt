-- Layers that are left out in turn while a view stays too large.
use Rattle.std.proofs.Common.{◌≡◌, inl, inr, ⊎_elim, ℕ, suc, min, ◌+◌, ◌<◌, ◌≤◌, List, [], ◌∷◌, ◌++◌, length, take, drop, refl, sym, ap, subst, ◌∙◌, arith}
use Rattle.std.specs.List.{AllByRecursion}
use Rattle.std.proofs.lemmas.List.{length-append, length-take, take-append-drop, take_at, drop_at, drop_min, drop-drop, append_assoc}
use Rattle.cue_layers.specs.declared.layer.Layer.{Layer}
use Rattle.cue_layers.specs.Layers.{IsLayer}
use Rattle.cue_layers.specs.Least.{IsLeastTooLarge}
use Rattle.cue_layers.specs.Puts.{HasElement}
use Rattle.cue_layers.specs.View.{IsTooLarge}
use Rattle.cue_layers.specs.Inner.Least.{IsLargePart, IsRound, IsPass}
use Rattle.cue_layers.proofs.Lists.{has_right, all_front, all_back, all_both}

some_left : (front middle back : List Layer) (l : Layer) → HasElement (front ++ back) l → HasElement (front ++ (middle ++ back)) l
some_left [] middle back l h = has_right middle back l h
some_left (x ∷ front) middle back l h = ⊎_elim (λ same. inl same) (λ more. inr (some_left front middle back l more)) h

-- what is left holds of each where all of it does
pub each_left : (front middle back : List Layer) → AllByRecursion IsLayer (front ++ (middle ++ back)) → AllByRecursion IsLayer (front ++ back)
each_left front middle back h =
    all_both IsLayer front back (all_front IsLayer front (middle ++ back) h) (all_back IsLayer middle back (all_back IsLayer front (middle ++ back) h))

-- all layers are some of them
pub whole_part : (limit : ℕ) (layers : List Layer) → AllByRecursion IsLayer layers → IsTooLarge limit layers → IsLargePart limit layers layers
whole_part limit layers each large = record { each = each; some = λ l h. h; large = large; few = omega arith }

-- some of some layers are some of these
pub part_of_part : (limit : ℕ) (layers kept more : List Layer) → IsLargePart limit layers kept → IsLargePart limit kept more → IsLargePart limit layers more
part_of_part limit layers kept more h k = record {
  each = k.each;
  some = λ l found. h.some l (k.some l found);
  large = k.large;
  few = let a = h.few in let b = k.few in omega (arith, a, b);
}

-- layers were left out
pub left_out : (limit at size : ℕ) (front middle back : List Layer) → AllByRecursion IsLayer (front ++ (middle ++ back)) → IsTooLarge limit (front ++ back) → 0 < length middle → at ≡ length front → IsRound limit at size (front ++ (middle ++ back)) (front ++ back)
left_out limit at size front middle back each large more place =
    let all = length-append front (middle ++ back) in
    let inner = length-append middle back in
    let fewer = length-append front back in
    record {
      part = record {
        each = each_left front middle back each;
        some = some_left front middle back;
        large = large;
        few = omega (arith, all, inner, fewer);
      };
      within = omega (arith, fewer, place);
      left = inl (omega (arith, all, inner, fewer, more));
    }

-- so many from an index on
pub cut_out :
    (limit at size n : ℕ) (layers kept rest back after : List Layer) → AllByRecursion IsLayer layers → at < length layers → 0 < n → n ≤ length rest
    → kept ≡ take at layers → rest ≡ drop at layers → back ≡ drop n rest → after ≡ kept ++ back → IsTooLarge limit after → IsRound limit at size layers after
cut_out limit at size n layers kept rest back after each place more few k r b a large =
    let front = take at layers in
    let whole : layers ≡ front ++ (take n rest ++ drop n rest) = sym (ap (λ (t : List Layer). front ++ t) (take-append-drop n rest ∙ r) ∙ take-append-drop at layers) in
    let is : after ≡ front ++ drop n rest = a ∙ ap (λ (t : List Layer). t ++ back) k ∙ ap (λ (t : List Layer). front ++ t) b in
    let out = left_out limit at size front (take n rest) (drop n rest) (subst (AllByRecursion IsLayer) whole each) (subst (IsTooLarge limit) is large) (omega (arith, length-take n rest, more, few)) (omega (arith, length-take at layers, place)) in
    subst (λ (t : List Layer). IsRound limit at size t after) (sym whole) (subst (IsRound limit at size (front ++ (take n rest ++ drop n rest))) (sym is) out)

-- none were, since without these the view is not too large
put_back : (limit at size : ℕ) (layers : List Layer) → at < length layers → AllByRecursion IsLayer layers → IsTooLarge limit layers → ¬ IsTooLarge limit (take at layers ++ drop (at + size) layers) → IsRound limit at size layers layers
put_back limit at size layers place each large small = record { part = whole_part limit layers each large; within = omega (arith, place); left = inr (refl, small) }

-- so many from an index on, put back where they were
pub put_in :
    (limit at size n m : ℕ) (layers kept rest taken back after front behind more end : List Layer) → AllByRecursion IsLayer layers → IsTooLarge limit layers → at < length layers
    → kept ≡ take at layers → rest ≡ drop at layers → n ≡ min size (length rest) → taken ≡ take n rest → back ≡ drop n rest → after ≡ kept ++ back → ¬ IsTooLarge limit after
    → m + length back ≡ length after → front ≡ take m after → behind ≡ drop m after → more ≡ front ++ taken → end ≡ more ++ behind → IsRound limit at size layers end
put_in limit at size n m layers kept rest taken back after front behind more end each large place k r count t b a small long f h o e =
    let m_is : length kept ≡ m = let both = length-append kept back in let all = ap length a in omega (arith, both, all, long) in
    let front_is : front ≡ kept = f ∙ ap (take m) a ∙ take_at kept back m m_is in
    let behind_is : behind ≡ back = h ∙ ap (drop m) a ∙ drop_at kept back m m_is in
    let inner : taken ++ back ≡ rest = ap (λ ls. ls ++ back) t ∙ ap (λ ls. take n rest ++ ls) b ∙ take-append-drop n rest in
    let whole : kept ++ rest ≡ layers = ap (λ ls. ls ++ rest) k ∙ ap (λ ls. take at layers ++ ls) r ∙ take-append-drop at layers in
    let ends : end ≡ (kept ++ taken) ++ back = e ∙ ap (λ ls. ls ++ behind) (o ∙ ap (λ ls. ls ++ taken) front_is) ∙ ap (λ ls. (kept ++ taken) ++ ls) behind_is in
    let is : end ≡ layers = ends ∙ append_assoc kept taken back ∙ ap (λ ls. kept ++ ls) inner ∙ whole in
    let rest_is : back ≡ drop (at + size) layers = b ∙ ap (λ i. drop i rest) count ∙ drop_min size rest ∙ ap (drop size) r ∙ drop-drop size at layers in
    let after_is : after ≡ take at layers ++ drop (at + size) layers = a ∙ ap (λ ls. ls ++ back) k ∙ ap (λ ls. take at layers ++ ls) rest_is in
    subst (IsRound limit at size layers) (sym is) (put_back limit at size layers place each large (subst (λ ls. ¬ IsTooLarge limit ls) after_is small))

-- a layer between others, by its index
cut_at : (front back : List Layer) (l : Layer) → take (length front) (front ++ l ∷ back) ++ drop (suc (length front)) (front ++ l ∷ back) ≡ front ++ back
cut_at [] back l = refl
cut_at (x ∷ front) back l = ap (λ ls. x ∷ ls) (cut_at front back l)

-- where no layer at any index can be left out, none can be
pub none_can : (limit : ℕ) (kept : List Layer) → ((i : ℕ) → i < length kept → ¬ IsTooLarge limit (take i kept ++ drop (i + 1) kept)) → (front back : List Layer) (l : Layer) → kept ≡ front ++ l ∷ back → ¬ IsTooLarge limit (front ++ back)
none_can limit kept small front back l e large =
    let long = length-append front (l ∷ back) in
    let all = ap length e in
    let next : length front + 1 ≡ suc (length front) = omega arith in
    let same : take (length front) kept ++ drop (length front + 1) kept ≡ front ++ back =
    ap (λ ls. take (length front) ls ++ drop (length front + 1) ls) e ∙ ap (λ n. take (length front) (front ++ l ∷ back) ++ drop n (front ++ l ∷ back)) next ∙ cut_at front back l in
    small (length front) (omega (arith, long, all)) (subst (IsTooLarge limit) (sym same) large)

-- a pass that left none out
pub least_left : (limit : ℕ) (layers kept after : List Layer) → IsLargePart limit layers kept → IsPass limit 1 kept after → length after ≡ length kept → IsLeastTooLarge limit layers after
least_left limit layers kept after h pass same = record {
  some = λ l found. h.some l (pass.part.some l found);
  large = pass.part.large;
  needed = pass.least refl same;
}

-- the least of some layers are the least of all
pub least_of_part : (limit : ℕ) (layers kept least : List Layer) → IsLargePart limit layers kept → IsLeastTooLarge limit kept least → IsLeastTooLarge limit layers least
least_of_part limit layers kept least h k = record { some = λ l found. h.some l (k.some l found); large = k.large; needed = k.needed }
