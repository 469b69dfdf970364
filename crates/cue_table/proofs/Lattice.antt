-- Unification of tables is the greatest lower bound.
use Rattle.std.proofs.Common.{inl, inr, ⊎_elim}
use Rattle.cue_lattice.specs.Pair.{IsExact}
use Rattle.cue_table.specs.Narrower.{MeetsCommute, MeetsAssociate, MeetsRepeat, MeetsNarrow, MeetsAreWidest}
use Rattle.cue_table.proofs.Exact.{exact_tree}

module _ {R Q : Type 0} (refuses : R → Q → Type 0) where
  pub narrow : MeetsNarrow refuses
  narrow a b m h = (λ path question k. (h path question).1 (inl k), λ path question k. (h path question).1 (inr k))

  pub widest : MeetsAreWidest refuses
  widest a b m n h left right path question k = ⊎_elim (left path question) (right path question) ((h path question).0 k)

  module _ (is_value : R → Type 0) (exact : IsExact refuses is_value) where
    pub commute : MeetsCommute refuses is_value
    commute a b m n p q h k =
        exact_tree refuses is_value exact m n p q (λ path question. (
          λ r. (k path question).1 (⊎_elim (λ x. inr x) (λ x. inl x) ((h path question).0 r)),
          λ r. (h path question).1 (⊎_elim (λ x. inr x) (λ x. inl x) ((k path question).0 r)),
        ))

    pub associate : MeetsAssociate refuses is_value
    associate a b c ab bc m n p q h k l o =
        exact_tree refuses is_value exact m n p q (λ path question. (
          λ r. (o path question).1 (⊎_elim (λ x. ⊎_elim (λ y. inl y) (λ y. inr ((l path question).1 (inl y))) ((h path question).0 x)) (λ x. inr ((l path question).1 (inr x))) ((k path question).0 r)),
          λ r. (k path question).1 (⊎_elim (λ x. inl ((h path question).1 (inl x))) (λ x. ⊎_elim (λ y. inl ((h path question).1 (inr y))) (λ y. inr y) ((l path question).0 x)) ((o path question).0 r)),
        ))

    pub repeat : MeetsRepeat refuses is_value
    repeat a m p q h =
        exact_tree refuses is_value exact m a q p (λ path question. (
          λ r. ⊎_elim (λ x. x) (λ x. x) ((h path question).0 r),
          λ r. (h path question).1 (inl r),
        ))
