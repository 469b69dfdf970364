-- Two lists of layers in order, merged from their ends.
use Rattle.std.proofs.Common.{◌≡◌, ◌⊎◌, inl, inr, ⊎_elim, List, [], ◌∷◌, ◌++◌, append-nil, append_assoc, sym, ap, ◌∙◌, subst}
use Rattle.std.specs.Prelude.{reverse as reversed}
use Rattle.std.proofs.lemmas.List.{reverse-append}
use Rattle.cue_lattice.specs.World.{AllAlong}
use Rattle.cue_layers.specs.declared.layer.Layer.{Layer}
use Rattle.cue_layers.specs.Layers.{IsKeyBefore, IsInOrder, key_of}
use Rattle.cue_layers.specs.Puts.{HasElement, of_layers}
use Rattle.cue_layers.specs.Inner.Covers.{Covers}
use Rattle.cue_layers.specs.Inner.Merging.{HaveTies, TakesLast, AreEmpty, IsMerged}
use Rattle.cue_layers.proofs.Covers.{covered_by_more}
use Rattle.cue_layers.proofs.Keys.{order_front}
use Rattle.cue_layers.proofs.Lists.{has-append, has_left, has_right, all_at, all_by}

-- what was taken from two lists, the last first, when these are left
pub record IsSoFar (own others own_left others_left taken : List Layer) : Type 0 where
  pub own_taken : List Layer
  pub others_taken : List Layer
  pub own_parts : own ≡ own_left ++ own_taken
  pub others_parts : others ≡ others_left ++ others_taken
  pub in_order : IsInOrder (reversed taken)
  pub own_before : (x y : Layer) → HasElement own_left x → HasElement (reversed taken) y → IsKeyBefore (key_of x) (key_of y)
  pub others_before : (x y : Layer) → HasElement others_left x → HasElement (reversed taken) y → IsKeyBefore (key_of x) (key_of y)
  pub some : (x : Layer) → HasElement (reversed taken) x → HasElement (own_taken ++ others_taken) x
  pub covers : Covers of_layers of_layers (own_taken ++ others_taken) (reversed taken)

pub none_taken : (own others taken : List Layer) → taken ≡ [] → IsSoFar own others own others taken
none_taken own others taken is = subst (IsSoFar own others own others) (sym is) (record {
  own_taken = [];
  others_taken = [];
  own_parts = sym (append-nil own);
  others_parts = sym (append-nil others);
  in_order = tt;
  own_before = λ x y h g. absurd g;
  others_before = λ x y h g. absurd g;
  some = λ x h. h;
  covers = λ x h. absurd h;
})

module _ {X : Type 0} (a b c d : List X) where
  has_taken : (z : X) → HasElement (a ++ c) z → HasElement ((a ++ b) ++ (c ++ d)) z
  has_taken z h = ⊎_elim (λ g. has_left (a ++ b) (c ++ d) z (has_left a b z g)) (λ g. has_right (a ++ b) (c ++ d) z (has_left c d z g)) (has-append a c z h)

  has_before : (z : X) → HasElement (b ++ d) z → HasElement ((a ++ b) ++ (c ++ d)) z
  has_before z h = ⊎_elim (λ g. has_left (a ++ b) (c ++ d) z (has_right a b z g)) (λ g. has_right (a ++ b) (c ++ d) z (has_right c d z g)) (has-append b d z h)

  has_either : (z : X) → HasElement ((a ++ b) ++ (c ++ d)) z → HasElement (a ++ c) z ⊎ HasElement (b ++ d) z
  has_either z h = ⊎_elim
      (λ g. ⊎_elim (λ k. inl (has_left a c z k)) (λ k. inr (has_left b d z k)) (has-append a b z g))
      (λ g. ⊎_elim (λ k. inl (has_right a c z k)) (λ k. inr (has_right b d z k)) (has-append c d z g))
      (has-append (a ++ b) (c ++ d) z h)

-- one layer more was taken
module _ (own others own_left others_left own_next others_next taken : List Layer) (x : Layer) (far : IsSoFar own others own_left others_left taken) (takes : TakesLast own_left others_left x own_next others_next) where
  -- what is taken was left
  x_before : (y : Layer) → HasElement (reversed taken) y → IsKeyBefore (key_of x) (key_of y)
  x_before y h = ⊎_elim
      (λ g. far.own_before x y (let P : List Layer → Type 0 = λ ls. HasElement ls x in subst P (sym takes.own_parts) (has_right own_next takes.own_taken x g)) h)
      (λ g. far.others_before x y (let P : List Layer → Type 0 = λ ls. HasElement ls x in subst P (sym takes.others_parts) (has_right others_next takes.others_taken x g)) h)
      (has-append takes.own_taken takes.others_taken x takes.some)

  own_next_before : (y z : Layer) → HasElement own_next y → HasElement (x ∷ reversed taken) z → IsKeyBefore (key_of y) (key_of z)
  own_next_before y z h (inl e) = subst (λ (l : Layer). IsKeyBefore (key_of y) (key_of l)) e (all_at (λ (l : Layer). IsKeyBefore (key_of l) (key_of x)) own_next y takes.own_before h)
  own_next_before y z h (inr g) = far.own_before y z (let P : List Layer → Type 0 = λ ls. HasElement ls y in subst P (sym takes.own_parts) (has_left own_next takes.own_taken y h)) g

  others_next_before : (y z : Layer) → HasElement others_next y → HasElement (x ∷ reversed taken) z → IsKeyBefore (key_of y) (key_of z)
  others_next_before y z h (inl e) = subst (λ (l : Layer). IsKeyBefore (key_of y) (key_of l)) e (all_at (λ (l : Layer). IsKeyBefore (key_of l) (key_of x)) others_next y takes.others_before h)
  others_next_before y z h (inr g) = far.others_before y z (let P : List Layer → Type 0 = λ ls. HasElement ls y in subst P (sym takes.others_parts) (has_left others_next takes.others_taken y h)) g

  some_more : (z : Layer) → HasElement (x ∷ reversed taken) z → HasElement ((takes.own_taken ++ far.own_taken) ++ (takes.others_taken ++ far.others_taken)) z
  some_more z (inl e) = has_taken takes.own_taken far.own_taken takes.others_taken far.others_taken z (let P : Layer → Type 0 = λ l. HasElement (takes.own_taken ++ takes.others_taken) l in subst P e takes.some)
  some_more z (inr h) = has_before takes.own_taken far.own_taken takes.others_taken far.others_taken z (far.some z h)

  covers_more : Covers of_layers of_layers ((takes.own_taken ++ far.own_taken) ++ (takes.others_taken ++ far.others_taken)) (x ∷ reversed taken)
  covers_more z h = ⊎_elim
      (λ g. covered_by_more of_layers of_layers z (x ∷ []) (x ∷ reversed taken) (λ y k. ⊎_elim (λ e. inl e) (λ no. absurd no) k) (takes.covers z g))
      (λ g. covered_by_more of_layers of_layers z (reversed taken) (x ∷ reversed taken) (λ y k. inr k) (far.covers z g))
      (has_either takes.own_taken far.own_taken takes.others_taken far.others_taken z h)

  reversed_more : reversed (taken ++ x ∷ []) ≡ x ∷ reversed taken
  reversed_more = reverse-append taken (x ∷ [])

  pub more_taken : IsSoFar own others own_next others_next (taken ++ x ∷ [])
  more_taken = record {
    own_taken = takes.own_taken ++ far.own_taken;
    others_taken = takes.others_taken ++ far.others_taken;
    own_parts = far.own_parts ∙ ap (λ (ls : List Layer). ls ++ far.own_taken) takes.own_parts ∙ append_assoc own_next takes.own_taken far.own_taken;
    others_parts = far.others_parts ∙ ap (λ (ls : List Layer). ls ++ far.others_taken) takes.others_parts ∙ append_assoc others_next takes.others_taken far.others_taken;
    in_order = subst IsInOrder (sym reversed_more) (all_by (λ (y : Layer). IsKeyBefore (key_of x) (key_of y)) (reversed taken) x_before, far.in_order);
    own_before = λ y z h g. own_next_before y z h (let P : List Layer → Type 0 = λ ls. HasElement ls z in subst P reversed_more g);
    others_before = λ y z h g. others_next_before y z h (let P : List Layer → Type 0 = λ ls. HasElement ls z in subst P reversed_more g);
    some = λ z h. some_more z (let P : List Layer → Type 0 = λ ls. HasElement ls z in subst P reversed_more h);
    covers = subst (Covers of_layers of_layers ((takes.own_taken ++ far.own_taken) ++ (takes.others_taken ++ far.others_taken))) (sym reversed_more) covers_more;
  }

  -- and what is left has its order and its ties
  pub own_order : IsInOrder own_left → IsInOrder own_next
  own_order o = order_front own_next takes.own_taken (subst IsInOrder takes.own_parts o)

  pub others_order : IsInOrder others_left → IsInOrder others_next
  others_order o = order_front others_next takes.others_taken (subst IsInOrder takes.others_parts o)

  pub left_ties : HaveTies own_left others_left → HaveTies own_next others_next
  left_ties ties y z h g = ties y z
      (let P : List Layer → Type 0 = λ ls. HasElement ls y in subst P (sym takes.own_parts) (has_left own_next takes.own_taken y h))
      (let P : List Layer → Type 0 = λ ls. HasElement ls z in subst P (sym takes.others_parts) (has_left others_next takes.others_taken z g))

-- when none is left
pub all_taken : (own others own_left others_left taken : List Layer) → IsSoFar own others own_left others_left taken → AreEmpty own_left others_left → IsMerged own others (reversed taken)
all_taken own others own_left others_left taken far empty =
    let a : own ≡ far.own_taken = far.own_parts ∙ ap (λ (ls : List Layer). ls ++ far.own_taken) empty.0 in
    let b : others ≡ far.others_taken = far.others_parts ∙ ap (λ (ls : List Layer). ls ++ far.others_taken) empty.1 in
    let both : far.own_taken ++ far.others_taken ≡ own ++ others = λ i. sym a i ++ sym b i in
    record {
      in_order = far.in_order;
      some = λ z h. let P : List Layer → Type 0 = λ ls. HasElement ls z in subst P both (far.some z h);
      covers = let P : List Layer → Type 0 = λ ls. Covers of_layers of_layers ls (reversed taken) in subst P both far.covers;
    }

pub along_push : {X Y : Type 0} (R : X → Y → Type 0) (xs : List X) (ys : List Y) (x : X) (y : Y) → AllAlong R xs ys → R x y → AllAlong R (xs ++ x ∷ []) (ys ++ y ∷ [])
along_push R [] [] x y along more = (more, tt)
along_push R [] (b ∷ ys) x y along more = absurd along
along_push R (a ∷ xs) [] x y along more = absurd along
along_push R (a ∷ xs) (b ∷ ys) x y along more = (along.0, along_push R xs ys x y along.1 more)
