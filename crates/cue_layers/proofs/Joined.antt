-- Two maps, joined.
use Rattle.std.proofs.Common.{◌≡◌, inl, inr, ⊎_elim, ℕ, List, [], ◌∷◌, ◌++◌, refl, sym, ap, ◌∙◌, subst}
use Rattle.std.specs.List.{AllByRecursion}
use Rattle.cue_lattice.specs.World.{AllAlong}
use Rattle.cue_policies.specs.declared.kind.LayerKind.{LayerKind}
use Rattle.cue_policies.specs.declared.kind.LayerKind.TheVariants as kinds
use Rattle.cue_layers.specs.declared.layer.Layer.{Layer}
use Rattle.cue_layers.specs.Layers.{Key, key, key_of, IsKeyBefore, IsInOrder, IsMap, IsLayer, IsCommons, BeginsWithCommons}
use Rattle.cue_layers.specs.Maps.{IsJoin}
use Rattle.cue_layers.specs.Puts.{HasElement, of_layers}
use Rattle.cue_layers.specs.Inner.Covers.{IsCovered, Covers}
use Rattle.cue_layers.specs.Inner.Merging.{IsTieOf, IsTied, HaveTies, IsMerged}
use Rattle.cue_layers.proofs.Covers.{covers_itself, covered_by_more, covers_on, covers_members, alike_current}
use Rattle.cue_layers.proofs.Keys.{not_before_itself, same_name}
use Rattle.cue_layers.proofs.Lists.{has-append, has_left, has_right, all_at, all_by, all_both}
use Rattle.cue_layers.proofs.Replacing.{no_empty_name}

-- nothing comes before the commons
none_before : (a : Key) (kind : LayerKind) (name : List ℕ) → a ≡ key kinds.Layer [] → IsKeyBefore (key kind name) a → ⊥
none_before a kind name e h = by kind name (subst (IsKeyBefore (key kind name)) e h)
  where
    by : (kind : LayerKind) (name : List ℕ) → IsKeyBefore (key kind name) (key kinds.Layer []) → ⊥
    by kinds.Layer [] g = not_before_itself (key kinds.Layer []) g
    by kinds.Layer (b ∷ bytes) g = cc
    by kinds.Policy bytes g = cc

-- a layer of that key is the commons
commons_by : (l : Layer) → IsLayer l → key_of l ≡ key kinds.Layer [] → IsCommons l
commons_by l is e = ⊎_elim (λ c. c) (λ n. absurd (no_empty_name l.name n.name (same_name l.kind kinds.Layer l.name [] e))) is.is

begins_by : (ls : List Layer) (l : Layer) → IsInOrder ls → AllByRecursion IsLayer ls → HasElement ls l → key_of l ≡ key kinds.Layer [] → BeginsWithCommons ls
begins_by [] l o each h e = absurd h
begins_by (x ∷ ls) l o each (inl g) e = commons_by x each.0 (ap key_of g ∙ e)
begins_by (x ∷ ls) l o each (inr g) e =
    absurd (none_before (key_of l) x.kind x.name e (all_at (λ (y : Layer). IsKeyBefore (key_of x) (key_of y)) ls l o.0 g))

-- ---- lists that were tied

same_keys : (own others tied : List Layer) → AllAlong (IsTied own) others tied → (a : Key) → AllByRecursion (λ y. IsKeyBefore a (key_of y)) others → AllByRecursion (λ y. IsKeyBefore a (key_of y)) tied
same_keys own [] [] along a all = tt
same_keys own [] (y ∷ ys) along a all = absurd along
same_keys own (x ∷ xs) [] along a all = absurd along
same_keys own (x ∷ xs) (y ∷ ys) along a all = (subst (IsKeyBefore a) (sym (ap key_of along.0.same)) all.0, same_keys own xs ys along.1 a all.1)

pub tied_order : (own others tied : List Layer) → AllAlong (IsTied own) others tied → IsInOrder others → IsInOrder tied
tied_order own [] [] along o = tt
tied_order own [] (y ∷ ys) along o = absurd along
tied_order own (x ∷ xs) [] along o = absurd along
tied_order own (x ∷ xs) (y ∷ ys) along o =
    let P : Key → Type 0 = λ k. AllByRecursion (λ (z : Layer). IsKeyBefore k (key_of z)) ys in
    (subst P (sym (ap key_of along.0.same)) (same_keys own xs ys along.1 (key_of x) o.0), tied_order own xs ys along.1 o.1)

pub tied_ties : (own others tied : List Layer) → AllAlong (IsTied own) others tied → HaveTies own tied
tied_ties own [] [] along x y h g = absurd g
tied_ties own [] (b ∷ ys) along x y h g = absurd along
tied_ties own (a ∷ xs) [] along x y h g = absurd along
tied_ties own (a ∷ xs) (b ∷ ys) along x y h (inl e) = subst (IsTieOf x) e (all_at (λ (z : Layer). IsTieOf z b) own x along.0.ties h)
tied_ties own (a ∷ xs) (b ∷ ys) along x y h (inr g) = tied_ties own xs ys along.1 x y h g

tied_layers : (own others tied : List Layer) → AllAlong (IsTied own) others tied → AllByRecursion IsLayer own → AllByRecursion IsLayer others → AllByRecursion IsLayer tied
tied_layers own [] [] along each more = tt
tied_layers own [] (y ∷ ys) along each more = absurd along
tied_layers own (x ∷ xs) [] along each more = absurd along
tied_layers own (x ∷ xs) (y ∷ ys) along each more = (along.0.layer each more.0, tied_layers own xs ys along.1 each more.1)

-- what the others say, the tied ones do
tied_covers : (own others tied : List Layer) → AllAlong (IsTied own) others tied → Covers of_layers of_layers others tied
tied_covers own [] [] along z h = absurd h
tied_covers own [] (y ∷ ys) along z h = absurd along
tied_covers own (x ∷ xs) [] along z h = absurd along
tied_covers own (x ∷ xs) (y ∷ ys) along z (inl e) =
    subst (λ (l : Layer). IsCovered of_layers of_layers l (y ∷ ys)) e (covered_by_more of_layers of_layers x (y ∷ []) (y ∷ ys) (λ w k. ⊎_elim (λ g. inl g) (λ no. absurd no) k) along.0.covers)
tied_covers own (x ∷ xs) (y ∷ ys) along z (inr h) = covered_by_more of_layers of_layers z ys (y ∷ ys) (λ w k. inr k) (tied_covers own xs ys along.1 z h)

-- and they say no more than both lists
tied_covered : (own others tied : List Layer) → AllAlong (IsTied own) others tied → Covers of_layers of_layers tied (own ++ others)
tied_covered own [] [] along z h = absurd h
tied_covered own [] (y ∷ ys) along z h = absurd along
tied_covered own (x ∷ xs) [] along z h = absurd along
tied_covered own (x ∷ xs) (y ∷ ys) along z (inl e) =
    subst (λ (l : Layer). IsCovered of_layers of_layers l (own ++ x ∷ xs)) e (covered_by_more of_layers of_layers y (own ++ x ∷ []) (own ++ x ∷ xs)
    (λ w k. ⊎_elim (λ g. has_left own (x ∷ xs) w g) (λ g. has_right own (x ∷ xs) w (⊎_elim (λ q. inl q) (λ no. absurd no) g)) (has-append own (x ∷ []) w k)) along.0.covered)
tied_covered own (x ∷ xs) (y ∷ ys) along z (inr h) = covered_by_more of_layers of_layers z (own ++ xs) (own ++ x ∷ xs)
    (λ w k. ⊎_elim (λ g. has_left own (x ∷ xs) w g) (λ g. has_right own (x ∷ xs) w (inr g)) (has-append own xs w k)) (tied_covered own xs ys along.1 z h)

-- ---- the join

module _ (own others tied merged : List Layer) (mo : IsMap own) (mt : IsMap others) (along : AllAlong (IsTied own) others tied) (is : IsMerged own tied merged) where
  each : AllByRecursion IsLayer merged
  each =
      let all = all_both IsLayer own tied mo.each (tied_layers own others tied along mo.each mt.each) in
      all_by IsLayer merged (λ x h. all_at IsLayer (own ++ tied) x all (is.some x h))

  first_own : (ls : List Layer) → BeginsWithCommons ls → (l : Layer) × HasElement ls l × (key_of l ≡ key kinds.Layer [])
  first_own [] c = absurd c
  first_own (l ∷ ls) c = (l, inl refl, λ i. key (c.kind i) (c.name i))

  commons : BeginsWithCommons merged
  commons =
      let c = first_own own mo.commons in
      let m = (is.covers c.0 (has_left own tied c.0 c.1)).above in
      begins_by merged m.0 is.in_order each m.1 (m.2 ∙ c.2)

  to_both : Covers of_layers of_layers merged (own ++ others)
  to_both = covers_on of_layers of_layers of_layers merged (own ++ tied) (own ++ others) (covers_members of_layers merged (own ++ tied) is.some)
      (λ x h. ⊎_elim (λ g. covers_itself of_layers (own ++ others) x (has_left own others x g)) (λ g. tied_covered own others tied along x g) (has-append own tied x h))

  from_both : Covers of_layers of_layers (own ++ others) merged
  from_both = covers_on of_layers of_layers of_layers (own ++ others) (own ++ tied) merged
      (λ x h. ⊎_elim (λ g. covers_itself of_layers (own ++ tied) x (has_left own tied x g))
      (λ g. covered_by_more of_layers of_layers x tied (own ++ tied) (has_right own tied) (tied_covers own others tied along x g)) (has-append own others x h))
      is.covers

  pub merged_join : IsJoin own others merged
  merged_join = record {
    is_map = record { in_order = is.in_order; commons = commons; each = each };
    current = alike_current of_layers (own ++ others) merged is.in_order (to_both, from_both);
  }
