-- Lists that speak for others.
use Rattle.std.proofs.Common.{◌≡◌, inl, inr, ⊎_elim, ◌<◌, ◌≤◌, List, ◌++◌, refl, sym, ◌∙◌, subst, arith}
use Rattle.std.proofs.lemmas.Bool.{cases_lt}
use Rattle.cue_lattice.specs.Path.{Path}
use Rattle.cue_lattice.specs.Question.{Question}
use Rattle.cue_replica.specs.Language.{language}
use Rattle.cue_layers.specs.declared.layer.Layer.{Layer}
use Rattle.cue_layers.specs.Layers.{key_of, IsInOrder}
use Rattle.cue_layers.specs.Puts.{Claims, HasElement, SameMembers, IsOfKey, IsCurrent, AreCurrent, of_layers}
use Rattle.cue_layers.specs.Inner.Covers.{IsCovered, Covers, SpeakAlike}
use Rattle.cue_layers.proofs.Keys.{once}
use Rattle.cue_layers.proofs.Lists.{one_found, one_by, has-append, has_left, has_right, all_at, all_by}

-- a member speaks for itself
pub covers_itself : {X : Type 0} (c : Claims X) (xs : List X) (x : X) → HasElement xs x → IsCovered c c x xs
covers_itself c xs x h = record {
  above = (x, h, refl, omega arith);
  refused = λ path question r. (x, h, refl, inr (refl, r));
}

-- more members speak for more
pub covered_by_more : {X Y : Type 0} (cx : Claims X) (cy : Claims Y) (x : X) (ys zs : List Y) → ((y : Y) → HasElement ys y → HasElement zs y) → IsCovered cx cy x ys → IsCovered cx cy x zs
covered_by_more cx cy x ys zs more c = record {
  above = (c.above.0, more c.above.0 c.above.1, c.above.2, c.above.3);
  refused = λ path question r. let g = c.refused path question r in (g.0, more g.0 g.1, g.2, g.3);
}

pub covers_members : {X : Type 0} (c : Claims X) (xs ys : List X) → ((x : X) → HasElement xs x → HasElement ys x) → Covers c c xs ys
covers_members c xs ys to = λ x h. covers_itself c ys x (to x h)

-- what speaks for those that speak for a member speaks for it
pub covered_on :
    {X Y Z : Type 0} (cx : Claims X) (cy : Claims Y) (cz : Claims Z) (x : X) (ys : List Y) (zs : List Z)
    → IsCovered cx cy x ys → Covers cy cz ys zs → IsCovered cx cz x zs
covered_on {X} {Y} {Z} cx cy cz x ys zs c on = record {
  above =
      let a = on c.above.0 c.above.1 in
      let le : cx.revision x ≤ cy.revision c.above.0 = c.above.3 in
      let more : cy.revision c.above.0 ≤ cz.revision a.above.0 = a.above.3 in
      (a.above.0, a.above.1, a.above.2 ∙ c.above.2, omega arith);
  refused = λ path question r.
      let g = c.refused path question r in
      ⊎_elim
      (λ lt.
      let a = on g.0 g.1 in
      let less : cx.revision x < cy.revision g.0 = lt in
      let more : cy.revision g.0 ≤ cz.revision a.above.0 = a.above.3 in
      (a.above.0, a.above.1, a.above.2 ∙ g.2, inl (omega arith)))
      (λ same.
      let a = (on g.0 g.1).refused path question same.1 in
      let e : cx.revision x ≡ cy.revision g.0 = same.0 in
      (a.0, a.1, a.2 ∙ g.2, ⊎_elim (λ lt. let l : cy.revision g.0 < cz.revision a.0 = lt in inl (omega arith)) (λ b. inr (e ∙ b.0, b.1)) a.3))
      g.3;
}

pub covers_on : {X Y Z : Type 0} (cx : Claims X) (cy : Claims Y) (cz : Claims Z) (xs : List X) (ys : List Y) (zs : List Z) → Covers cx cy xs ys → Covers cy cz ys zs → Covers cx cz xs zs
covers_on cx cy cz xs ys zs c on = λ x h. covered_on cx cy cz x ys zs (c x h) on

-- two lists and two that speak for them
pub covers_both :
    {X Y : Type 0} (cx : Claims X) (cy : Claims Y) (xs xs' : List X) (ys ys' : List Y) → Covers cx cy xs ys → Covers cx cy xs' ys' → Covers cx cy (xs ++ xs') (ys ++ ys')
covers_both cx cy xs xs' ys ys' c d = λ x h. ⊎_elim
    (λ g. covered_by_more cx cy x ys (ys ++ ys') (has_left ys ys') (c x g))
    (λ g. covered_by_more cx cy x ys' (ys ++ ys') (has_right ys ys') (d x g))
    (has-append xs xs' x h)

pub alike_both :
    {X Y : Type 0} (cx : Claims X) (cy : Claims Y) (xs xs' : List X) (ys ys' : List Y) → SpeakAlike cx cy xs ys → SpeakAlike cx cy xs' ys' → SpeakAlike cx cy (xs ++ xs') (ys ++ ys')
alike_both cx cy xs xs' ys ys' c d = (covers_both cx cy xs xs' ys ys' c.0 d.0, covers_both cy cx ys ys' xs xs' c.1 d.1)

pub alike_on : {X Y Z : Type 0} (cx : Claims X) (cy : Claims Y) (cz : Claims Z) (xs : List X) (ys : List Y) (zs : List Z) → SpeakAlike cx cy xs ys → SpeakAlike cy cz ys zs → SpeakAlike cx cz xs zs
alike_on cx cy cz xs ys zs c d = (covers_on cx cy cz xs ys zs c.0 d.0, covers_on cz cy cx zs ys xs d.1 c.1)

pub alike_back : {X Y : Type 0} (cx : Claims X) (cy : Claims Y) (xs : List X) (ys : List Y) → SpeakAlike cx cy xs ys → SpeakAlike cy cx ys xs
alike_back cx cy xs ys c = (c.1, c.0)

pub alike_itself : {X : Type 0} (c : Claims X) (xs : List X) → SpeakAlike c c xs xs
alike_itself c xs = (covers_members c xs xs (λ x h. h), covers_members c xs xs (λ x h. h))

pub alike_members : {X : Type 0} (c : Claims X) (xs ys : List X) → SameMembers xs ys → SpeakAlike c c xs ys
alike_members c xs ys same = (covers_members c xs ys (λ x. (same x).0), covers_members c ys xs (λ x. (same x).1))

-- the current layers of a list speak for it
pub current_alike : {X : Type 0} (c : Claims X) (xs : List X) (layers : List Layer) → AreCurrent c xs layers → SpeakAlike of_layers c layers xs
current_alike {X} c xs layers current = (to, back)
  where
    to : (l : Layer) → HasElement layers l → IsCovered of_layers c l xs
    to l h =
        let is = all_at (IsCurrent c xs) layers l current.each h in
        let at = one_found (IsOfKey c l) xs is.revision in
        let le : c.revision at.0 ≡ l.revision = at.2.revision in
        record {
          above = (at.0, at.1, at.2.key, omega arith);
          refused = λ path question r.
              let g = one_found (λ (x : X). IsOfKey c l x × c.refuses x path question) xs ((is.refuses path question).0 r) in
              (g.0, g.1, g.2.0.key, inr (sym g.2.0.revision, g.2.1));
        }

    back : (x : X) → HasElement xs x → IsCovered c of_layers x layers
    back x h =
        let g = one_found (λ (l : Layer). key_of l ≡ c.key x) layers (current.all x h) in
        let is = all_at (IsCurrent c xs) layers g.0 current.each g.1 in
        let le : c.revision x ≤ g.0.revision = is.greatest x h (sym g.2) in
        record {
          above = (g.0, g.1, g.2, le);
          refused = λ path question r.
              ⊎_elim
              (λ lt. (g.0, g.1, g.2, inl lt))
              (λ ge.
              let same : c.revision x ≡ g.0.revision = omega arith in
              (g.0, g.1, g.2, inr (same, (is.refuses path question).1 (one_by (λ (y : X). IsOfKey c g.0 y × c.refuses y path question) xs x h (record { key = sym g.2; revision = same }, r)))))
              (cases_lt (c.revision x) g.0.revision);
        }

-- layers in order that speak for a list, and for which it speaks, are its current ones
pub alike_current : {X : Type 0} (c : Claims X) (xs : List X) (layers : List Layer) → IsInOrder layers → SpeakAlike of_layers c layers xs → AreCurrent c xs layers
alike_current {X} c xs layers order alike = record {
  each = all_by (IsCurrent c xs) layers is;
  all = λ x h. let a = (alike.1 x h).above in one_by (λ (l : Layer). key_of l ≡ c.key x) layers a.0 a.1 a.2;
}
  where
    -- a member of the key of a layer has no greater revision
    least : (l : Layer) → HasElement layers l → (x : X) → HasElement xs x → c.key x ≡ key_of l → c.revision x ≤ l.revision
    least l h x g same =
        let a = (alike.1 x g).above in
        let one : a.0 ≡ l = once layers a.0 l order a.1 h (a.2 ∙ same) in
        subst (λ (m : Layer). c.revision x ≤ m.revision) one a.3

    refuses : (l : Layer) → HasElement layers l → (path : Path) (question : Question) → language.table_refuses l.content path question → (x : X) × HasElement xs x × IsOfKey c l x × c.refuses x path question
    refuses l h path question r =
        let g = (alike.0 l h).refused path question r in
        let le : c.revision g.0 ≤ l.revision = least l h g.0 g.1 g.2 in
        ⊎_elim (λ lt. let less : l.revision < c.revision g.0 = lt in absurd (omega arith)) (λ same. (g.0, g.1, record { key = g.2; revision = sym same.0 }, same.1)) g.3

    refused : (l : Layer) → HasElement layers l → (path : Path) (question : Question) → (x : X) → HasElement xs x → IsOfKey c l x → c.refuses x path question → language.table_refuses l.content path question
    refused l h path question x g at r =
        let b = (alike.1 x g).refused path question r in
        let one : b.0 ≡ l = once layers b.0 l order b.1 h (b.2 ∙ at.key) in
        ⊎_elim
        (λ lt. let less : c.revision x < l.revision = subst (λ (m : Layer). c.revision x < m.revision) one lt in let e : c.revision x ≡ l.revision = at.revision in absurd (omega arith))
        (λ same. subst (λ (m : Layer). language.table_refuses m.content path question) one same.1)
        b.3

    is : (l : Layer) → HasElement layers l → IsCurrent c xs l
    is l h =
        let a = (alike.0 l h).above in
        let le : c.revision a.0 ≤ l.revision = least l h a.0 a.1 a.2 in
        let ge : l.revision ≤ c.revision a.0 = a.3 in
        record {
          revision = one_by (IsOfKey c l) xs a.0 a.1 (record { key = a.2; revision = omega arith });
          greatest = least l h;
          refuses = λ path question. (
            λ r. let g = refuses l h path question r in one_by (λ (x : X). IsOfKey c l x × c.refuses x path question) xs g.0 g.1 (g.2, g.3),
            λ o. let g = one_found (λ (x : X). IsOfKey c l x × c.refuses x path question) xs o in refused l h path question g.0 g.1 g.2.0 g.2.1,
          );
        }
