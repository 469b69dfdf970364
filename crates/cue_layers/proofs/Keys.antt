-- The order of keys, and lists of layers in that order.
use Rattle.std.proofs.Common.{◌≡◌, ◌⊎◌, inl, inr, ⊎_elim, ℕ, List, [], ◌∷◌, ◌++◌, refl, sym, ap, ◌∙◌, subst}
use Rattle.std.specs.declared.cmp.Ordering.{Ordering}
use Rattle.std.specs.declared.cmp.Ordering.TheVariants.{Less, Equal, Greater}
use Rattle.std.specs.Ordering.{nat_cmp, ordering_then, ordering_reverse}
use Rattle.std.specs.Cmp.Lexicographic.{slice_cmp}
use Rattle.std.proofs.lemmas.Cmp.{nat_list_cmp_total, ranked, tied_itself}
use Rattle.cue_policies.specs.declared.kind.LayerKind.{LayerKind}
use Rattle.cue_policies.specs.declared.kind.LayerKind.TheVariants as kinds
use Rattle.cue_layers.specs.declared.layer.Layer.{Layer}
use Rattle.cue_layers.specs.Layers.{Key, key, key_of, IsKeyBefore, IsInOrder}
use Rattle.cue_layers.specs.Puts.{HasElement}
use Rattle.cue_layers.proofs.Lists.{has-append, has_left, has_right, all_at, all_by}

pub before_trans : (a b c : Key) → IsKeyBefore a b → IsKeyBefore b c → IsKeyBefore a c
before_trans a b c h g = nat_list_cmp_total.trans a b c h g

pub not_before_itself : (a : Key) → IsKeyBefore a a → ⊥
not_before_itself a h = let e : slice_cmp nat_cmp a a ≡ Equal = tied_itself nat_list_cmp_total a in cc

pub not_before_same : (a b : Key) → IsKeyBefore a b → a ≡ b → ⊥
not_before_same a b h e = not_before_itself b (subst (λ (k : Key). IsKeyBefore k b) e h)

-- what comes neither before nor behind is the same
pub tied_same : (a b : List ℕ) → slice_cmp nat_cmp a b ≡ Equal → a ≡ b
tied_same [] [] e = refl
tied_same [] (y ∷ ys) e = absurd cc
tied_same (x ∷ xs) [] e = absurd cc
tied_same (x ∷ xs) (y ∷ ys) e = by (nat_cmp x y) refl e (tied_same xs ys)
  where
    by : (o : Ordering) → o ≡ nat_cmp x y → ordering_then o (slice_cmp nat_cmp xs ys) ≡ Equal → (slice_cmp nat_cmp xs ys ≡ Equal → xs ≡ ys) → (x ∷ xs) ≡ (y ∷ ys)
    by Less is e' more = absurd cc
    by Greater is e' more = absurd cc
    by Equal is e' more =
        let heads : x ≡ y = ranked x y Equal is in
        let tails : xs ≡ ys = more e' in cc

pub greater_before : (a b : Key) → slice_cmp nat_cmp a b ≡ Greater → IsKeyBefore b a
greater_before a b h = nat_list_cmp_total.antisymm b a ∙ ap ordering_reverse h

-- keys tell kinds and names
pub same_kind : (j k : LayerKind) (m n : List ℕ) → key j m ≡ key k n → j ≡ k
same_kind kinds.Layer kinds.Layer m n e = refl
same_kind kinds.Policy kinds.Policy m n e = refl
same_kind kinds.Layer kinds.Policy m n e = absurd cc
same_kind kinds.Policy kinds.Layer m n e = absurd cc

pub same_name : (j k : LayerKind) (m n : List ℕ) → key j m ≡ key k n → m ≡ n
same_name j k m n e = cc

-- in a list in order no two have one key
pub once : (layers : List Layer) (a b : Layer) → IsInOrder layers → HasElement layers a → HasElement layers b → key_of a ≡ key_of b → a ≡ b
once [] a b o g h e = absurd g
once (p ∷ ps) a b o (inl g) (inl h) e = sym g ∙ h
once (p ∷ ps) a b o (inl g) (inr h) e =
    absurd (not_before_same (key_of p) (key_of b) (all_at (λ (q : Layer). IsKeyBefore (key_of p) (key_of q)) ps b o.0 h) (ap key_of g ∙ e))
once (p ∷ ps) a b o (inr g) (inl h) e =
    absurd (not_before_same (key_of p) (key_of a) (all_at (λ (q : Layer). IsKeyBefore (key_of p) (key_of q)) ps a o.0 g) (ap key_of h ∙ sym e))
once (p ∷ ps) a b o (inr g) (inr h) e = once ps a b o.1 g h e

-- lists in order with the same members are equal
pub one_list : (a b : List Layer) → IsInOrder a → IsInOrder b → ((x : Layer) → HasElement a x → HasElement b x) → ((x : Layer) → HasElement b x → HasElement a x) → a ≡ b
one_list [] [] oa ob to back = refl
one_list [] (q ∷ qs) oa ob to back = absurd (back q (inl refl))
one_list (p ∷ ps) [] oa ob to back = absurd (to p (inl refl))
one_list (p ∷ ps) (q ∷ qs) oa ob to back =
    let heads : p ≡ q = first (to p (inl refl)) (back q (inl refl)) in
    let tails : ps ≡ qs = one_list ps qs oa.1 ob.1 (λ x h. there heads x h (to x (inr h))) (λ x h. here heads x h (back x (inr h))) in
    cc
  where
    first : (q ≡ p) ⊎ HasElement qs p → (p ≡ q) ⊎ HasElement ps q → p ≡ q
    first (inl e) h = sym e
    first (inr g) (inl e) = e
    first (inr g) (inr h) =
        absurd (not_before_itself (key_of p) (before_trans (key_of p) (key_of q) (key_of p)
        (all_at (λ (r : Layer). IsKeyBefore (key_of p) (key_of r)) ps q oa.0 h)
        (all_at (λ (r : Layer). IsKeyBefore (key_of q) (key_of r)) qs p ob.0 g)))

    there : p ≡ q → (x : Layer) → HasElement ps x → (q ≡ x) ⊎ HasElement qs x → HasElement qs x
    there heads x h (inr g) = g
    there heads x h (inl e) =
        absurd (not_before_same (key_of p) (key_of x) (all_at (λ (r : Layer). IsKeyBefore (key_of p) (key_of r)) ps x oa.0 h) (ap key_of (heads ∙ e)))

    here : p ≡ q → (x : Layer) → HasElement qs x → (p ≡ x) ⊎ HasElement ps x → HasElement ps x
    here heads x h (inr g) = g
    here heads x h (inl e) =
        absurd (not_before_same (key_of q) (key_of x) (all_at (λ (r : Layer). IsKeyBefore (key_of q) (key_of r)) qs x ob.0 h) (ap key_of (sym heads ∙ e)))

-- a list in order and another one that comes behind it
pub order_both : (xs ys : List Layer) → IsInOrder xs → IsInOrder ys → ((x y : Layer) → HasElement xs x → HasElement ys y → IsKeyBefore (key_of x) (key_of y)) → IsInOrder (xs ++ ys)
order_both [] ys o p before = p
order_both (x ∷ xs) ys o p before = (
  all_by (λ (q : Layer). IsKeyBefore (key_of x) (key_of q)) (xs ++ ys) (λ q h. ⊎_elim
      (λ g. all_at (λ (r : Layer). IsKeyBefore (key_of x) (key_of r)) xs q o.0 g)
      (λ g. before x q (inl refl) g)
      (has-append xs ys q h)),
  order_both xs ys o.1 p (λ a b h g. before a b (inr h) g),
)

pub order_front : (xs ys : List Layer) → IsInOrder (xs ++ ys) → IsInOrder xs
order_front [] ys o = tt
order_front (x ∷ xs) ys o = (all_by (λ (q : Layer). IsKeyBefore (key_of x) (key_of q)) xs (λ q h. all_at (λ (r : Layer). IsKeyBefore (key_of x) (key_of r)) (xs ++ ys) q o.0 (has_left xs ys q h)), order_front xs ys o.1)

pub order_back : (xs ys : List Layer) → IsInOrder (xs ++ ys) → IsInOrder ys
order_back [] ys o = o
order_back (x ∷ xs) ys o = order_back xs ys o.1

-- the first of two lists comes before the second
pub order_across : (xs ys : List Layer) (x y : Layer) → IsInOrder (xs ++ ys) → HasElement xs x → HasElement ys y → IsKeyBefore (key_of x) (key_of y)
order_across [] ys x y o h g = absurd h
order_across (p ∷ xs) ys x y o (inl e) g =
    subst (λ (l : Layer). IsKeyBefore (key_of l) (key_of y)) e (all_at (λ (r : Layer). IsKeyBefore (key_of p) (key_of r)) (xs ++ ys) y o.0 (has_right xs ys y g))
order_across (p ∷ xs) ys x y o (inr h) g = order_across xs ys x y o.1 h g
