-- Two lists of layers in order, of which the last layer is taken.
use Rattle.std.proofs.Common.{◌≡◌, ◌≢◌, ◌↔◌, ◌⊎◌, inl, inr, ⊎_elim, ℕ, ◌-◌, ◌<◌, ◌≤◌, List, [], ◌∷◌, ◌++◌, append-nil, length, Option, Some, None, refl, sym, ap, ◌∙◌, subst, arith}
use Rattle.std.specs.Prelude.{slice_get, MatchOption}
use Rattle.std.specs.Option.{option_to_list}
use Rattle.std.specs.List.{AllByRecursion}
use Rattle.std.proofs.lemmas.List.{length-append}
use Rattle.std.proofs.lemmas.Bool.{cases_lt}
use Rattle.std.specs.declared.cmp.Ordering.{Ordering}
use Rattle.std.specs.declared.cmp.Ordering.TheVariants.{Less, Equal, Greater}
use Rattle.std.specs.Ordering.{nat_cmp}
use Rattle.std.specs.Cmp.Lexicographic.{slice_cmp}
use Rattle.cue_lattice.specs.Path.{Path}
use Rattle.cue_lattice.specs.Question.{Question, Refusals}
use Rattle.cue_policies.specs.WellFormed.{IsWellFormed}
use Rattle.cue_replica.specs.Language.{Table, language}
use Rattle.cue_replica.specs.Replica.{AddsRefusals}
use Rattle.cue_layers.specs.declared.layer.Layer.{Layer}
use Rattle.cue_layers.specs.Layers.{key_of, IsKeyBefore, IsInOrder, IsLayer}
use Rattle.cue_layers.specs.Puts.{HasElement, of_layers}
use Rattle.cue_layers.specs.Inner.Covers.{IsCovered, Covers}
use Rattle.cue_layers.specs.Inner.Merging.{IsTieOf, IsTied, IsTiedWith, HaveTies, HaveLast, IsLastOrder, TakesLast, AreEmpty}
use Rattle.cue_layers.specs.Inner.Places.{IsGap}
use Rattle.cue_layers.proofs.Covers.{covers_itself}
use Rattle.cue_layers.proofs.Keys.{once, before_trans, greater_before, tied_same, not_before_same, order_across, same_kind}
use Rattle.cue_layers.proofs.Lists.{has_left, has_right, has-append, all_at, all_by}

not_empty : {X : Type 0} (f : List X) (x : X) → f ++ x ∷ [] ≡ [] → ⊥
not_empty [] x e = cc
not_empty (y ∷ f) x e = cc

pub snoc_same : {X : Type 0} (f g : List X) (x y : X) → f ++ x ∷ [] ≡ g ++ y ∷ [] → (f ≡ g) × (x ≡ y)
snoc_same [] [] x y e = (refl, cc)
snoc_same {X} [] (b ∷ g) x y e = let t : [] ≡ g ++ y ∷ [] = cc in absurd (not_empty g y (sym t))
snoc_same {X} (a ∷ f) [] x y e = let t : f ++ x ∷ [] ≡ [] = cc in absurd (not_empty f x t)
snoc_same {X} (a ∷ f) (b ∷ g) x y e =
    let h : a ≡ b = cc in
    let t : f ++ x ∷ [] ≡ g ++ y ∷ [] = cc in
    let r = snoc_same f g x y t in
    (λ i. h i ∷ r.0 i, r.1)

last_of_more : {X : Type 0} (y : X) (ys : List X) (x : X) → slice_get (y ∷ ys) (length ys) ≡ Some x → (front : List X) × (y ∷ ys ≡ front ++ x ∷ [])
last_of_more y [] x e = ([], let h : y ≡ x = cc in ap (λ z. z ∷ []) h)
last_of_more {X} y (z ∷ zs) x e = let r = last_of_more z zs x e in (y ∷ r.0, ap (λ (ls : List X). y ∷ ls) r.1)

-- a list with a last element
pub with_last : {X : Type 0} (xs : List X) (x : X) → slice_get xs (length xs - 1) ≡ Some x → (front : List X) × (xs ≡ front ++ x ∷ [])
with_last [] x e = absurd cc
with_last {X} (y ∷ ys) x e =
    let n : length (y ∷ ys) - 1 ≡ length ys = omega arith in
    last_of_more y ys x (subst (λ (m : ℕ). slice_get (y ∷ ys) m ≡ Some x) n e)

pub last_ordered : (own others : List Layer) (x y : Layer) (o : Ordering) → slice_get own (length own - 1) ≡ Some x → slice_get others (length others - 1) ≡ Some y → o ≡ slice_cmp nat_cmp (key_of x) (key_of y) → IsLastOrder own others o
last_ordered own others x y o is other e = by o e
  where
    have : HaveLast own others x y
    have = let a = with_last own x is in let b = with_last others y other in record { own_front = a.0; others_front = b.0; own_parts = a.1; others_parts = b.1 }

    some : 0 < length own
    some = omega (arith, ap length have.own_parts, length-append have.own_front (x ∷ []))

    by : (o : Ordering) → o ≡ slice_cmp nat_cmp (key_of x) (key_of y) → IsLastOrder own others o
    by Less h = inr (x, y, have, sym h)
    by Greater h = (some, inr (x, y, have, greater_before (key_of x) (key_of y) (sym h)))
    by Equal h = (x, y, have, tied_same (key_of x) (key_of y) (sym h))

-- each layer of a list in order comes before what comes behind the last one
pub all_before : (own front : List Layer) (x z : Layer) → IsInOrder own → own ≡ front ++ x ∷ [] → IsKeyBefore (key_of x) (key_of z) → AllByRecursion (λ y. IsKeyBefore (key_of y) (key_of z)) own
all_before own front x z order parts before = all_by (λ (y : Layer). IsKeyBefore (key_of y) (key_of z)) own (λ y h. ⊎_elim
    (λ g. before_trans (key_of y) (key_of x) (key_of z) (order_across front (x ∷ []) y x (subst IsInOrder parts order) g (inl refl)) before)
    (⊎_elim (λ e. subst (λ (l : Layer). IsKeyBefore (key_of l) (key_of z)) e before) (λ no. absurd no))
    (has-append front (x ∷ []) y (let P : List Layer → Type 0 = λ ls. HasElement ls y in subst P parts h)))

front_before : (own front : List Layer) (x z : Layer) → IsInOrder own → own ≡ front ++ x ∷ [] → key_of x ≡ key_of z → AllByRecursion (λ y. IsKeyBefore (key_of y) (key_of z)) front
front_before own front x z order parts same = all_by (λ (y : Layer). IsKeyBefore (key_of y) (key_of z)) front (λ y h.
    subst (IsKeyBefore (key_of y)) same (order_across front (x ∷ []) y x (subst IsInOrder parts order) h (inl refl)))

-- the only layer of a list speaks for itself
alone : (x : Layer) → Covers of_layers of_layers (x ∷ []) (x ∷ [])
alone x y h = covers_itself of_layers (x ∷ []) y h

pub takes_less :
    (own others left : List Layer) (r : Option Layer) → IsInOrder own → IsInOrder others → IsLastOrder own others Less → others ≡ left ++ option_to_list r → (r ≡ None → others ≡ [])
    → MatchOption r (AreEmpty own others) (λ x. TakesLast own others x own left)
takes_less own others left None o p last parts none =
    let e = none refl in
    ⊎_elim (λ is. (is, e)) (λ h. absurd (not_empty h.2.others_front h.1 (sym h.2.others_parts ∙ e))) last
takes_less own others left (Some z) o p last parts none = record {
  own_taken = [];
  others_taken = z ∷ [];
  own_parts = sym (append-nil own);
  others_parts = parts;
  some = inl refl;
  covers = alone z;
  own_before = ⊎_elim
      (λ is. subst (AllByRecursion (λ (y : Layer). IsKeyBefore (key_of y) (key_of z))) (sym is) tt)
      (λ h.
      let same : h.1 ≡ z = (snoc_same h.2.others_front left h.1 z (sym h.2.others_parts ∙ parts)).1 in
      all_before own h.2.own_front h.0 z o h.2.own_parts (subst (λ (l : Layer). IsKeyBefore (key_of h.0) (key_of l)) same h.3))
      last;
  others_before = front_before others left z z p parts refl;
  shorter = omega (arith, ap length parts, length-append left (z ∷ []));
}

pub takes_greater :
    (own others left : List Layer) (r : Option Layer) → IsInOrder own → IsInOrder others → IsLastOrder own others Greater → own ≡ left ++ option_to_list r → (r ≡ None → own ≡ [])
    → MatchOption r (AreEmpty own others) (λ x. TakesLast own others x left others)
takes_greater own others left None o p last parts none = let some : 0 < length own = last.0 in absurd (omega (arith, ap length (none refl)))
takes_greater own others left (Some z) o p last parts none = record {
  own_taken = z ∷ [];
  others_taken = [];
  own_parts = parts;
  others_parts = sym (append-nil others);
  some = inl refl;
  covers = alone z;
  own_before = front_before own left z z o parts refl;
  others_before = ⊎_elim
      (λ is. subst (AllByRecursion (λ (y : Layer). IsKeyBefore (key_of y) (key_of z))) (sym is) tt)
      (λ h.
      let same : h.0 ≡ z = (snoc_same h.2.own_front left h.0 z (sym h.2.own_parts ∙ parts)).1 in
      all_before others h.2.others_front h.1 z p h.2.others_parts (subst (λ (l : Layer). IsKeyBefore (key_of h.1) (key_of l)) same h.3))
      last.1;
  shorter = omega (arith, ap length parts, length-append left (z ∷ []));
}

module _ (a b r : Layer) (same : key_of a ≡ key_of b) (tie : IsTieOf a b) (which : ((r ≡ a) × (b.revision < a.revision)) ⊎ ((r ≡ b) × (a.revision ≤ b.revision))) where
  key_a : key_of a ≡ key_of r
  key_a = ⊎_elim (λ h. sym (ap key_of h.0)) (λ h. same ∙ sym (ap key_of h.0)) which

  key_b : key_of b ≡ key_of r
  key_b = sym same ∙ key_a

  from : HasElement (a ∷ b ∷ []) r
  from = ⊎_elim (λ h. inl (sym h.0)) (λ h. inr (inl (sym h.0))) which

  -- the greater one speaks for the other one
  a_covered : IsCovered of_layers of_layers a (r ∷ [])
  a_covered = ⊎_elim
      (λ h. covers_itself of_layers (r ∷ []) a (inl h.0))
      (λ h. record {
        above = (r, inl refl, sym key_a, let e : r.revision ≡ b.revision = ap (λ (l : Layer). l.revision) h.0 in let le : a.revision ≤ b.revision = h.1 in omega arith);
        refused = λ path question q.
            let e : r.revision ≡ b.revision = ap (λ (l : Layer). l.revision) h.0 in
            ⊎_elim
            (λ lt. let less : a.revision < b.revision = lt in (r, inl refl, sym key_a, inl (omega arith)))
            (λ is. (r, inl refl, sym key_a, inr (is ∙ sym e, subst (λ (l : Layer). language.table_refuses l.content path question) (sym h.0) (tie same is path question q))))
            (less_or_same a.revision b.revision h.1);
      })
      which
    where
      less_or_same : (m n : ℕ) → m ≤ n → (m < n) ⊎ (m ≡ n)
      less_or_same m n le = ⊎_elim (λ h. inl h) (λ h. inr (omega arith)) (cases_lt m n)

  b_covered : IsCovered of_layers of_layers b (r ∷ [])
  b_covered = ⊎_elim
      (λ h. let e : r.revision ≡ a.revision = ap (λ (l : Layer). l.revision) h.0 in let lt : b.revision < a.revision = h.1 in record {
        above = (r, inl refl, sym key_b, omega arith);
        refused = λ path question q. (r, inl refl, sym key_b, inl (omega arith));
      })
      (λ h. covers_itself of_layers (r ∷ []) b (inl h.0))
      which

pub takes_equal :
    (own others own_left others_left : List Layer) (a b r : Layer) → IsInOrder own → IsInOrder others → HaveTies own others → IsLastOrder own others Equal → own ≡ own_left ++ a ∷ [] → others ≡ others_left ++ b ∷ []
    → ((r ≡ a) × (b.revision < a.revision)) ⊎ ((r ≡ b) × (a.revision ≤ b.revision))
    → TakesLast own others r own_left others_left
takes_equal own others own_left others_left a b r o p ties last own_parts others_parts which =
    let x-a : last.0 ≡ a = (snoc_same last.2.own_front own_left last.0 a (sym last.2.own_parts ∙ own_parts)).1 in
    let y-b : last.1 ≡ b = (snoc_same last.2.others_front others_left last.1 b (sym last.2.others_parts ∙ others_parts)).1 in
    let same : key_of a ≡ key_of b = sym (ap key_of x-a) ∙ last.3 ∙ ap key_of y-b in
    let P : List Layer → Type 0 = λ ls. HasElement ls a in
    let Q : List Layer → Type 0 = λ ls. HasElement ls b in
    let tie = ties a b (subst P (sym own_parts) (has_right own_left (a ∷ []) a (inl refl))) (subst Q (sym others_parts) (has_right others_left (b ∷ []) b (inl refl))) in
    record {
      own_taken = a ∷ [];
      others_taken = b ∷ [];
      own_parts = own_parts;
      others_parts = others_parts;
      some = from a b r same tie which;
      covers = λ y h. ⊎_elim
          (λ e. subst (λ (l : Layer). IsCovered of_layers of_layers l (r ∷ [])) e (a_covered a b r same tie which))
          (⊎_elim (λ e. subst (λ (l : Layer). IsCovered of_layers of_layers l (r ∷ [])) e (b_covered a b r same tie which)) (λ no. absurd no)) h;
      own_before = front_before own own_left a r o own_parts (key_a a b r same tie which);
      others_before = front_before others others_left b r p others_parts (key_b a b r same tie which);
      shorter = omega (arith, ap length own_parts, length-append own_left (a ∷ []), ap length others_parts, length-append others_left (b ∷ []));
    }

-- ---- ties

-- of well-formed policies, and what is refused besides under a condition
well_both : (P : Type 0) (a b c : Refusals) → IsWellFormed a → (P → IsWellFormed b) → ((path : Path) (question : Question) → c path question ↔ (a path question ⊎ (P × b path question))) → IsWellFormed c
well_both P a b c wa wb same = record {
  lists = λ path question r. ⊎_elim (λ h. wa.lists path question h) (λ h. (wb h.0).lists path question h.1) ((same path question).0 r);
  sets = λ path l pattern r is. ⊎_elim
      (λ h. (same path _).1 (inl (wa.sets path l pattern h is)))
      (λ h. (same path _).1 (inr (h.0, (wb h.0).sets path l pattern h.1 is)))
      ((same path _).0 r);
}

-- a list that has no layer of the key
pub tied_alone : (own : List Layer) (other : Layer) (at : ℕ) → IsGap own (key_of other) at → IsTied own other other
tied_alone own other at gap = record {
  same = refl;
  layer = λ each is. is;
  covered = covers_itself of_layers (own ++ other ∷ []) other (has_right own (other ∷ []) other (inl refl));
  covers = covers_itself of_layers (other ∷ []) other (inl refl);
  ties = all_by (λ (x : Layer). IsTieOf x other) own (λ x h same revision. absurd (none x (let P : List Layer → Type 0 = λ ls. HasElement ls x in subst P gap.parts h) same));
}
  where
    none : (x : Layer) → HasElement (gap.front ++ gap.back) x → key_of x ≡ key_of other → ⊥
    none x h e = ⊎_elim
        (λ g. not_before_same (key_of x) (key_of other) (all_at (λ (y : Layer). IsKeyBefore (key_of y) (key_of other)) gap.front x gap.before g) e)
        (λ g. not_before_same (key_of other) (key_of x) (all_at (λ (y : Layer). IsKeyBefore (key_of other) (key_of y)) gap.back x gap.behind g) (sym e))
        (has-append gap.front gap.back x h)

-- a list that has one
pub tied_to : (own : List Layer) (l other tied : Layer) → IsInOrder own → HasElement own l → key_of l ≡ key_of other → IsTiedWith l other tied → IsTied own other tied
tied_to own l other tied order here same is = record {
  same = is.same;
  layer = λ each layer. subst IsLayer (sym is.same) (record {
    is = ⊎_elim (λ k. inl (record { kind = k.kind; name = k.name; revision = k.revision })) (λ n. inr (record { name = n.name; from = n.from; to = n.to })) layer.is;
    valid = is.valid layer.valid;
    well_formed = λ policy. well_both (l.revision ≡ other.revision) (language.table_refuses other.content) (language.table_refuses l.content) (language.table_refuses tied.content)
        (layer.well_formed policy)
        (λ revision. (all_at IsLayer own l each here).well_formed (same_kind l.kind other.kind l.name other.name same ∙ policy))
        is.refuses;
  });
  covered = record {
    above = (other, has_right own (other ∷ []) other (inl refl), sym key-is, omega (arith, revision-is));
    refused = λ path question r. ⊎_elim
        (λ h. (other, has_right own (other ∷ []) other (inl refl), sym key-is, inr (revision-is, h)))
        (λ h. (l, has_left own (other ∷ []) l here, same ∙ sym key-is, inr (revision-is ∙ sym h.0, h.1)))
        ((is.refuses path question).0 r);
  };
  covers = record {
    above = (tied, inl refl, key-is, omega (arith, revision-is));
    refused = λ path question r. (tied, inl refl, key-is, inr (sym revision-is, (is.refuses path question).1 (inl r)));
  };
  ties = all_by (λ (x : Layer). IsTieOf x tied) own (λ x h e revision path question r.
      let one : x ≡ l = once own x l order h here (e ∙ key-is ∙ sym same) in
      (is.refuses path question).1 (inr (ap (λ (z : Layer). z.revision) (sym one) ∙ revision ∙ revision-is, subst (λ (z : Layer). language.table_refuses z.content path question) one r)));
}
  where
    key-is : key_of tied ≡ key_of other
    key-is = ap key_of is.same

    revision-is : tied.revision ≡ other.revision
    revision-is = ap (λ (z : Layer). z.revision) is.same

-- ---- what a pop from an empty list leaves

pub empty_of : {X : Type 0} (xs : List X) → length xs ≡ 0 → xs ≡ []
empty_of [] e = refl
empty_of (x ∷ xs) e = absurd (omega arith)

pub none_left : {X : Type 0} (n m : ℕ) (Q : X → Type 0) (r : Option X) → MatchOption r ((n ≡ 0) × (m ≡ 0)) Q → r ≡ None → n ≡ 0
none_left n m Q None h e = h.0
none_left n m Q (Some x) h e = absurd cc

-- ---- one tie

pub other_revision : (layer other : Layer) → layer.revision ≢ other.revision → IsTiedWith layer other other
other_revision layer other differs = record {
  same = refl;
  valid = λ v. v;
  refuses = λ path question. (λ h. inl h, ⊎_elim (λ h. h) (λ h. absurd (differs h.0)));
}

pub same_revision : (layer other : Layer) (more content : Table) → layer.revision ≡ other.revision → more ≡ layer.content → AddsRefusals other.content (language.table_refuses more) content → language.IsValid content
    → IsTiedWith layer other (record other { content = content })
same_revision layer other more content same is adds valid = record {
  same = refl;
  valid = λ v. valid;
  refuses = λ path question. (
    λ h. ⊎_elim (λ g. inl g) (λ g. inr (same, subst (λ (t : Table). language.table_refuses t path question) is g)) ((adds path question).0 h),
    λ h. (adds path question).1 (⊎_elim (λ g. inl g) (λ g. inr (subst (λ (t : Table). language.table_refuses t path question) (sym is) g.1)) h),
  );
}
