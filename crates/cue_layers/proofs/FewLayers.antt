-- A layer of a map, with the commons.
use Rattle.std.proofs.Common.{◌≡◌, ◌⊎◌, inl, inr, ⊎_elim, ℕ, ◌<◌, List, [], ◌∷◌, ◌++◌, length, get_or, refl, sym, ap, ◌∙◌, subst, arith}
use Rattle.std.specs.List.{AllByRecursion}
use Rattle.cue_layers.specs.declared.layer.Layer.{Layer}
use Rattle.cue_layers.specs.Extracts.{IsExtract}
use Rattle.cue_layers.specs.Layers.{Key, key_of, IsKeyBefore, IsCommons, IsMap}
use Rattle.cue_layers.specs.Puts.{HasElement}
use Rattle.cue_layers.specs.Inner.Places.{IsPlace}
use Rattle.cue_layers.proofs.Keys.{once}
use Rattle.cue_layers.proofs.Lists.{all_at, has_right}
use Rattle.cue_layers.proofs.Replacing.{place_at}

-- the first layer alone
pub first_alone : (x : Layer) (ls : List Layer) (k : Key) → IsMap (x ∷ ls) → key_of x ≡ k → IsExtract (x ∷ ls) k (x ∷ [])
first_alone x ls k map same = record {
  is_map = record { in_order = (tt, tt); commons = map.commons; each = (map.each.0, tt) };
  has = inl same;
  among = λ layer h. ⊎_elim (λ e. inl e) (λ no. absurd no) h;
  few = λ layer h. ⊎_elim (λ e. inl (ap key_of (sym e) ∙ same)) (λ no. absurd no) h;
}

-- the first layer and another one
pub first_and : (x l : Layer) (ls : List Layer) (k : Key) → IsMap (x ∷ ls) → HasElement ls l → key_of l ≡ k → IsExtract (x ∷ ls) k (x ∷ l ∷ [])
first_and x l ls k map h same = record {
  is_map = record {
    in_order = ((all_at (λ (other : Layer). IsKeyBefore (key_of x) (key_of other)) ls l map.in_order.0 h, tt), (tt, tt));
    commons = map.commons;
    each = (map.each.0, (all_at Rattle.cue_layers.specs.Layers.IsLayer ls l map.each.1 h, tt));
  };
  has = inr (inl same);
  among = λ layer g. ⊎_elim (λ e. inl e) (λ r. ⊎_elim (λ e. inr (subst (HasElement ls) e h)) (λ no. absurd no) r) g;
  few = λ layer g. ⊎_elim (λ e. inr (subst IsCommons e map.commons)) (λ r. ⊎_elim (λ e. inl (ap key_of (sym e) ∙ same)) (λ no. absurd no) r) g;
}

-- what is read at the place of a key, behind the first layer
behind_first : (x : Layer) (ls : List Layer) (k : Key) (at : ℕ) (l : Layer) → IsMap (x ∷ ls) → IsPlace (x ∷ ls) k at → HasElement (x ∷ ls) l → key_of l ≡ k → (at ≡ 0 → ⊥) → HasElement ls l
behind_first x ls k at l map place h same other = by place.front refl
  where
    y : Layer
    y = place.layer

    in_list : HasElement (x ∷ ls) y
    in_list = let P : List Layer → Type 0 = λ xs. HasElement xs y in subst P (sym place.parts) (has_right place.front (y ∷ place.back) y (inl refl))

    one : y ≡ l
    one = once (x ∷ ls) y l map.in_order in_list h (place.same ∙ sym same)

    tail_of : List Layer → List Layer
    tail_of [] = []
    tail_of (z ∷ zs) = zs

    by : (front : List Layer) → front ≡ place.front → HasElement ls l
    by [] e = absurd (other (sym place.count ∙ ap length (sym e)))
    by (f ∷ front) e =
        let P : List Layer → Type 0 = λ zs. HasElement zs l in
        let Q : List Layer → Type 0 = λ zs. HasElement (tail_of (zs ++ y ∷ place.back)) l in
        subst P (sym (ap tail_of place.parts)) (subst Q e (has_right front (y ∷ place.back) l (inl one)))

pub two_layers : (xs : List Layer) (k : Key) (at : ℕ) (x l : Layer) (items : List Layer) → IsMap xs → IsPlace xs k at → x ≡ get_or xs 0 x → l ≡ get_or xs at l → (at ≡ 0 → ⊥) → items ≡ x ∷ l ∷ [] → IsExtract xs k items
two_layers [] k at x l items map place first is other made = absurd map.commons
two_layers (z ∷ ls) k at x l items map place first is other made =
    let there = place_at (z ∷ ls) k at l place is in
    let P : Layer → Type 0 = λ y. IsExtract (z ∷ ls) k (y ∷ l ∷ []) in
    subst (IsExtract (z ∷ ls) k) (sym made) (subst P (sym first) (first_and z l ls k map (behind_first z ls k at l map place there.0 there.1 other) there.1))

pub one_layer : (xs : List Layer) (k : Key) (at : ℕ) (x : Layer) (items : List Layer) → IsMap xs → IsPlace xs k at → x ≡ get_or xs 0 x → at ≡ 0 → items ≡ x ∷ [] → IsExtract xs k items
one_layer [] k at x items map place first zero made = absurd map.commons
one_layer (z ∷ ls) k at x items map place first zero made =
    let Q : ℕ → Type 0 = λ n. x ≡ get_or (z ∷ ls) n x in
    let there = place_at (z ∷ ls) k at x place (subst Q (sym zero) first) in
    let P : Layer → Type 0 = λ y. IsExtract (z ∷ ls) k (y ∷ []) in
    subst (IsExtract (z ∷ ls) k) (sym made) (subst P (sym first) (first_alone z ls k map (ap key_of (sym first) ∙ there.1)))
