-- A layer that is put over another one, or between two.
use Rattle.std.proofs.Common.{◌≡◌, inl, inr, ⊎_elim, ℕ, ◌+◌, ◌<◌, ◌^◌, List, [], ◌∷◌, ◌++◌, length, drop, get_or, set, refl, sym, ap, ◌∙◌, subst, arith}
use Rattle.std.specs.List.{AllByRecursion, insert}
use Rattle.std.proofs.lemmas.List.{take_at, drop_at}
use Rattle.cue_policies.specs.declared.kind.LayerKind.{LayerKind}
use Rattle.cue_policies.specs.declared.kind.LayerKind.TheVariants as kinds
use Rattle.cue_replica.specs.Language.{Table}
use Rattle.cue_layers.specs.declared.layer.Layer.{Layer}
use Rattle.cue_layers.specs.Layers.{Key, key, key_of, IsKeyBefore, IsInOrder, IsMap, IsLayer, BeginsWithCommons}
use Rattle.cue_layers.specs.Maps.{IsJoin}
use Rattle.cue_layers.specs.Names.{IsLayerName}
use Rattle.cue_layers.specs.Puts.{HasElement, of_layers, IsUsedUp, last_revision}
use Rattle.cue_layers.specs.Inner.Covers.{IsCovered, Covers}
use Rattle.cue_layers.specs.Inner.Places.{IsPlace, IsGap}
use Rattle.cue_layers.specs.Inner.Putting.{MayPut, Replaces}
use Rattle.cue_layers.proofs.Covers.{covers_itself, covers_members, alike_current}
use Rattle.cue_layers.proofs.Keys.{once, order_both, order_front, order_back, order_across, not_before_same, same_kind, same_name}
use Rattle.cue_layers.proofs.Lists.{has-append, has_left, has_right, all_at, all_by, all_front, all_back, all_both, one_by}

-- the empty name is none
pub no_empty_name : (name : List ℕ) → IsLayerName name → name ≡ [] → ⊥
no_empty_name name is e = (subst IsLayerName e is).1 refl

-- a map with a layer in the place of another part of it
module _ (old : List Layer) (front behind : List Layer) (x : Layer) (is_map : IsMap old) (parts : old ≡ front ++ behind) (is_layer : IsLayer x) (named : IsLayerName x.name) where
  order : IsInOrder (front ++ behind)
  order = subst IsInOrder parts is_map.in_order

  each : AllByRecursion IsLayer (front ++ behind)
  each = subst (AllByRecursion IsLayer) parts is_map.each

  commons : BeginsWithCommons (front ++ behind)
  commons = subst BeginsWithCommons parts is_map.commons

  -- the new map, where the layer comes between what is in front and what is left behind
  put_map :
      (left : List Layer) → ((y : Layer) → HasElement left y → HasElement behind y) → IsInOrder left
      → ((y : Layer) → HasElement front y → IsKeyBefore (key_of y) (key_of x)) → AllByRecursion (λ y. IsKeyBefore (key_of x) (key_of y)) left
      → BeginsWithCommons (front ++ x ∷ left) → IsMap (front ++ x ∷ left)
  put_map left some ordered before after first = record {
    in_order = order_both front (x ∷ left) (order_front front behind order) (after, ordered) (λ a b h g. ⊎_elim
        (λ e. subst (λ (l : Layer). IsKeyBefore (key_of a) (key_of l)) e (before a h))
        (λ k. order_across front behind a b order h (some b k)) g);
    commons = first;
    each = all_both IsLayer front (x ∷ left) (all_front IsLayer front behind each)
        (is_layer, all_by IsLayer left (λ y h. all_at IsLayer behind y (all_back IsLayer front behind each) (some y h)));
  }

-- the first layer stays the commons
first_stays : (front others : List Layer) (x l : Layer) (left : List Layer) → BeginsWithCommons (front ++ l ∷ left) → IsLayerName l.name → BeginsWithCommons (front ++ others)
first_stays [] others x l left commons named = absurd (no_empty_name l.name named commons.name)
first_stays (f ∷ front) others x l left commons named = commons

module _ (old : List Layer) (front : List Layer) (l : Layer) (back : List Layer) (x : Layer) (is_map : IsMap old) (parts : old ≡ front ++ l ∷ back) (is_layer : IsLayer x) (named : IsLayerName x.name) (same : key_of l ≡ key_of x) (greater : l.revision < x.revision) where
  over_map : IsMap (front ++ x ∷ back)
  over_map =
      let order : IsInOrder (front ++ l ∷ back) = subst IsInOrder parts is_map.in_order in
      let behind : IsInOrder (l ∷ back) = order_back front (l ∷ back) order in
      let P : Key → Type 0 = λ k. AllByRecursion (λ (y : Layer). IsKeyBefore k (key_of y)) back in
      put_map old front (l ∷ back) x is_map parts is_layer named back (λ y h. inr h) behind.1
      (λ y h. subst (IsKeyBefore (key_of y)) same (order_across front (l ∷ back) y l order h (inl refl)))
      (subst P same behind.0)
      (first_stays front (x ∷ back) x l back (subst BeginsWithCommons parts is_map.commons) (subst IsLayerName (sym (same_name l.kind x.kind l.name x.name same)) named))

  new_in : (y : Layer) → HasElement (front ++ x ∷ back) y → HasElement (old ++ x ∷ []) y
  new_in y h = ⊎_elim
      (λ g. has_left old (x ∷ []) y (in_old y (has_left front (l ∷ back) y g)))
      (⊎_elim (λ e. has_right old (x ∷ []) y (inl e)) (λ g. has_left old (x ∷ []) y (in_old y (has_right front (l ∷ back) y (inr g)))))
      (has-append front (x ∷ back) y h)
    where
      in_old : (z : Layer) → HasElement (front ++ l ∷ back) z → HasElement old z
      in_old z g = let P : List Layer → Type 0 = λ ls. HasElement ls z in subst P (sym parts) g

  x_in : HasElement (front ++ x ∷ back) x
  x_in = has_right front (x ∷ back) x (inl refl)

  -- the new layer speaks for the old one
  over_old : IsCovered of_layers of_layers l (front ++ x ∷ back)
  over_old = record {
    above = (x, x_in, sym same, omega arith);
    refused = λ path question r. (x, x_in, sym same, inl greater);
  }

  over_each : Covers of_layers of_layers (old ++ x ∷ []) (front ++ x ∷ back)
  over_each y h = ⊎_elim (λ g. by y (let P : List Layer → Type 0 = λ ls. HasElement ls y in subst P parts g)) (⊎_elim (λ e. covers_itself of_layers (front ++ x ∷ back) y (let P : Layer → Type 0 = λ z. HasElement (front ++ x ∷ back) z in subst P e x_in)) (λ no. absurd no)) (has-append old (x ∷ []) y h)
    where
      by : (z : Layer) → HasElement (front ++ l ∷ back) z → IsCovered of_layers of_layers z (front ++ x ∷ back)
      by z g = ⊎_elim
          (λ k. covers_itself of_layers (front ++ x ∷ back) z (has_left front (x ∷ back) z k))
          (⊎_elim
          (λ e. subst (λ (m : Layer). IsCovered of_layers of_layers m (front ++ x ∷ back)) e over_old)
          (λ k. covers_itself of_layers (front ++ x ∷ back) z (has_right front (x ∷ back) z (inr k))))
          (has-append front (l ∷ back) z g)

  pub put_over : IsJoin old (x ∷ []) (front ++ x ∷ back)
  put_over = record {
    is_map = over_map;
    current = alike_current of_layers (old ++ x ∷ []) (front ++ x ∷ back) over_map.in_order (covers_members of_layers (front ++ x ∷ back) (old ++ x ∷ []) new_in, over_each);
  }

module _ (old : List Layer) (front back : List Layer) (x : Layer) (is_map : IsMap old) (parts : old ≡ front ++ back) (is_layer : IsLayer x) (named : IsLayerName x.name)
    (before : AllByRecursion (λ y. IsKeyBefore (key_of y) (key_of x)) front) (behind : AllByRecursion (λ y. IsKeyBefore (key_of x) (key_of y)) back) where
  -- the commons comes before every named layer
  first_before : (fs bs : List Layer) → BeginsWithCommons (fs ++ bs) → AllByRecursion (λ (y : Layer). IsKeyBefore (key_of x) (key_of y)) bs → BeginsWithCommons (fs ++ x ∷ bs)
  first_before [] [] c b = absurd c
  first_before [] (f ∷ bs) c b = absurd (none x.kind x.name named (subst (IsKeyBefore (key_of x)) (λ i. key (c.kind i) (c.name i)) b.0))
    where
      none : (kind : LayerKind) (name : List ℕ) → IsLayerName name → IsKeyBefore (key kind name) (key kinds.Layer []) → ⊥
      none kinds.Layer [] is h = is.1 refl
      none kinds.Layer (b ∷ bytes) is h = cc
      none kinds.Policy name is h = cc
  first_before (f ∷ fs) bs c b = c

  between_map : IsMap (front ++ x ∷ back)
  between_map =
      let order : IsInOrder (front ++ back) = subst IsInOrder parts is_map.in_order in
      put_map old front back x is_map parts is_layer named back (λ y h. h) (order_back front back order)
      (λ y h. all_at (λ (z : Layer). IsKeyBefore (key_of z) (key_of x)) front y before h) behind
      (first_before front back (subst BeginsWithCommons parts is_map.commons) behind)

  to_old : (y : Layer) → HasElement (front ++ x ∷ back) y → HasElement (old ++ x ∷ []) y
  to_old y h = ⊎_elim
      (λ g. has_left old (x ∷ []) y (in_old y (has_left front back y g)))
      (⊎_elim (λ e. has_right old (x ∷ []) y (inl e)) (λ g. has_left old (x ∷ []) y (in_old y (has_right front back y g))))
      (has-append front (x ∷ back) y h)
    where
      in_old : (z : Layer) → HasElement (front ++ back) z → HasElement old z
      in_old z g = let P : List Layer → Type 0 = λ ls. HasElement ls z in subst P (sym parts) g

  to_new : (y : Layer) → HasElement (old ++ x ∷ []) y → HasElement (front ++ x ∷ back) y
  to_new y h = ⊎_elim
      (λ g. ⊎_elim (λ k. has_left front (x ∷ back) y k) (λ k. has_right front (x ∷ back) y (inr k)) (has-append front back y (let P : List Layer → Type 0 = λ ls. HasElement ls y in subst P parts g)))
      (⊎_elim (λ e. has_right front (x ∷ back) y (inl e)) (λ no. absurd no))
      (has-append old (x ∷ []) y h)

  pub put_between : IsJoin old (x ∷ []) (front ++ x ∷ back)
  put_between = record {
    is_map = between_map;
    current = alike_current of_layers (old ++ x ∷ []) (front ++ x ∷ back) between_map.in_order
        (covers_members of_layers (front ++ x ∷ back) (old ++ x ∷ []) to_old, covers_members of_layers (old ++ x ∷ []) (front ++ x ∷ back) to_new);
  }

-- a list with another element at an index, and what it has there
set_here : {X : Type 0} (front : List X) (y : X) (back : List X) (x : X) → set (front ++ y ∷ back) (length front) x ≡ front ++ x ∷ back
set_here [] y back x = refl
set_here {X} (f ∷ front) y back x = ap (λ (zs : List X). f ∷ zs) (set_here front y back x)

get_here : {X : Type 0} (front : List X) (y : X) (back : List X) (d : X) → get_or (front ++ y ∷ back) (length front) d ≡ y
get_here [] y back d = refl
get_here (f ∷ front) y back d = get_here front y back d

new_layer : (kind : LayerKind) (name : List ℕ) (revision : ℕ) (content : Table) → IsLayerName name → 0 < revision → revision < 2 ^ 64 → MayPut kind content
    → IsLayer (record { kind = kind; name = name; revision = revision; content = content })
new_layer kind name revision content named from to may = record {
  is = inr (record { name = named; from = from; to = to });
  valid = may.valid;
  well_formed = may.well_formed;
}

-- the layer of a name has its next revision, and says what is put
pub replaces_over :
    (old : List Layer) (kind : LayerKind) (name : List ℕ) (content : Table) (at : ℕ) (l x : Layer) (revision : ℕ) → IsMap old → IsLayerName name → MayPut kind content
    → IsPlace old (key kind name) at → l ≡ get_or old at l → x ≡ record l { revision = revision; content = content } → revision ≡ l.revision + 1 → revision < 2 ^ 64
    → Replaces old kind name content (set old at x) revision
replaces_over old kind name content at l x revision is_map named may place is x-is next small =
    let f = place.front in
    let y = place.layer in
    let b = place.back in
    let P : List Layer → Type 0 = λ ls. get_or ls at l ≡ l in
    let Q : ℕ → Type 0 = λ n. get_or (f ++ y ∷ b) n l ≡ l in
    let one : y ≡ l = sym (get_here f y b l) ∙ subst Q (sym place.count) (subst P place.parts (sym is)) in
    let k : key_of l ≡ key kind name = ap key_of (sym one) ∙ place.same in
    let new : Layer = record { kind = kind; name = name; revision = revision; content = content } in
    let x-new : x ≡ new = x-is ∙ (λ i. record { kind = same_kind l.kind kind l.name name k i; name = same_name l.kind kind l.name name k i; revision = revision; content = content }) in
    let lt : y.revision < new.revision = let e : y.revision ≡ l.revision = ap (λ (z : Layer). z.revision) one in omega arith in
    let from : 0 < revision = omega arith in
    let set-is : set old at x ≡ f ++ new ∷ b =
    ap (λ (ls : List Layer). set ls at x) place.parts ∙ ap (λ (n : ℕ). set (f ++ y ∷ b) n x) (sym place.count) ∙ set_here f y b x ∙ ap (λ (z : Layer). f ++ z ∷ b) x-new in
    let R : List Layer → Type 0 = λ ls. IsJoin old (new ∷ []) ls in
    let in_old : HasElement old y = let S : List Layer → Type 0 = λ ls. HasElement ls y in subst S (sym place.parts) (has_right f (y ∷ b) y (inl refl)) in
    record {
      is_next = record {
        above = λ z h e. let same : z ≡ y = once old z y is_map.in_order h in_old (e ∙ sym place.same) in let le : z.revision ≡ y.revision = ap (λ (w : Layer). w.revision) same in omega arith;
        next = inr (one_by (λ (z : Layer). (key_of z ≡ key kind name) × (revision ≡ z.revision + 1)) old y in_old (place.same, next ∙ ap (λ (z : Layer). z.revision + 1) (sym one)));
      };
      small = small;
      joined = subst R (sym set-is) (put_over old f y b new is_map place.parts (new_layer kind name revision content named from small may) named place.same lt);
    }

-- the layer of a new name has revision 1
pub replaces_none :
    (old : List Layer) (kind : LayerKind) (name : List ℕ) (content : Table) (at : ℕ) (x : Layer) (new : List Layer) → IsMap old → IsLayerName name → MayPut kind content
    → IsGap old (key kind name) at → x ≡ record { kind = kind; name = name; revision = 1; content = content } → new ≡ insert old at x
    → Replaces old kind name content new 1
replaces_none old kind name content at x new is_map named may gap x-is new-is =
    let f = gap.front in
    let b = gap.back in
    let l : Layer = record { kind = kind; name = name; revision = 1; content = content } in
    let split : insert old at x ≡ f ++ l ∷ b =
    ap (λ (ls : List Layer). insert ls at x) gap.parts
    ∙ ap (λ (ls : List Layer). ls ++ x ∷ drop at (f ++ b)) (take_at f b at gap.count)
    ∙ ap (λ (ls : List Layer). f ++ x ∷ ls) (drop_at f b at gap.count)
    ∙ ap (λ (z : Layer). f ++ z ∷ b) x-is in
    let R : List Layer → Type 0 = λ ls. IsJoin old (l ∷ []) ls in
    record {
      is_next = record {
        above = λ z h e. absurd (none z (let S : List Layer → Type 0 = λ ls. HasElement ls z in subst S gap.parts h) e);
        next = inl refl;
      };
      small = omega arith;
      joined = subst R (sym (new-is ∙ split)) (put_between old f b l is_map gap.parts (new_layer kind name 1 content named (omega arith) (omega arith) may) named gap.before gap.behind);
    }
  where
    none : (z : Layer) → HasElement (gap.front ++ gap.back) z → key_of z ≡ key kind name → ⊥
    none z h e = ⊎_elim
        (λ g. not_before_same (key_of z) (key kind name) (all_at (λ (y : Layer). IsKeyBefore (key_of y) (key kind name)) gap.front z gap.before g) e)
        (λ g. not_before_same (key kind name) (key_of z) (all_at (λ (y : Layer). IsKeyBefore (key kind name) (key_of y)) gap.back z gap.behind g) (sym e))
        (has-append gap.front gap.back z h)

-- the layer of a name has the last revision
pub used_up : (old : List Layer) (k : Key) (at : ℕ) (l : Layer) → IsPlace old k at → l ≡ get_or old at l → l.revision ≡ last_revision → IsUsedUp of_layers old k
used_up old k at l place is last =
    let f = place.front in
    let y = place.layer in
    let b = place.back in
    let P : List Layer → Type 0 = λ ls. get_or ls at l ≡ l in
    let Q : ℕ → Type 0 = λ n. get_or (f ++ y ∷ b) n l ≡ l in
    let one : y ≡ l = sym (get_here f y b l) ∙ subst Q (sym place.count) (subst P place.parts (sym is)) in
    let S : List Layer → Type 0 = λ ls. HasElement ls y in
    one_by (λ (z : Layer). (key_of z ≡ k) × (z.revision ≡ last_revision)) old y (subst S (sym place.parts) (has_right f (y ∷ b) y (inl refl))) (place.same, ap (λ (z : Layer). z.revision) one ∙ last)

-- the layer that is read at the place of a key
pub place_at : (ls : List Layer) (k : Key) (at : ℕ) (l : Layer) → IsPlace ls k at → l ≡ get_or ls at l → HasElement ls l × (key_of l ≡ k)
place_at ls k at l place is =
    let f = place.front in
    let y = place.layer in
    let b = place.back in
    let P : List Layer → Type 0 = λ xs. get_or xs at l ≡ l in
    let Q : ℕ → Type 0 = λ n. get_or (f ++ y ∷ b) n l ≡ l in
    let one : y ≡ l = sym (get_here f y b l) ∙ subst Q (sym place.count) (subst P place.parts (sym is)) in
    let S : List Layer → Type 0 = λ xs. HasElement xs l in
    (subst S (sym place.parts) (has_right f (y ∷ b) l (inl one)), ap key_of (sym one) ∙ place.same)

-- in a list with a gap none has the key
pub gap_none : (ls : List Layer) (k : Key) (at : ℕ) → IsGap ls k at → AllByRecursion (λ layer. ¬ (key_of layer ≡ k)) ls
gap_none ls k at gap = all_by (λ (layer : Layer). ¬ (key_of layer ≡ k)) ls (λ l h e. none l (let P : List Layer → Type 0 = λ xs. HasElement xs l in subst P gap.parts h) e)
  where
    none : (z : Layer) → HasElement (gap.front ++ gap.back) z → key_of z ≡ k → ⊥
    none z h e = ⊎_elim
        (λ g. not_before_same (key_of z) k (all_at (λ (y : Layer). IsKeyBefore (key_of y) k) gap.front z gap.before g) e)
        (λ g. not_before_same k (key_of z) (all_at (λ (y : Layer). IsKeyBefore k (key_of y)) gap.back z gap.behind g) (sym e))
        (has-append gap.front gap.back z h)
