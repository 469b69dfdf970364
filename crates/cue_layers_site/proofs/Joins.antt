-- Maps that are joins, and what else they are the joins of.
use Rattle.std.proofs.Common.{◌≡◌, ◌⊎◌, inl, inr, ⊎_elim, ℕ, List, [], ◌∷◌, ◌++◌, refl, sym, ◌∙◌, subst, append_assoc}
use Rattle.cue_policies.specs.declared.kind.LayerKind.{LayerKind}
use Rattle.cue_lattice.specs.World.{Piece}
use Rattle.cue_layers.specs.declared.layer.Layer.{Layer}
use Rattle.cue_layers.specs.Extracts.{IsExtract}
use Rattle.cue_layers.specs.Join.{IsOnePut}
use Rattle.cue_layers.specs.Layers.{key, key_of, IsMap}
use Rattle.cue_layers.specs.Maps.{IsJoin}
use Rattle.cue_layers.specs.Puts.{HasElement, of_layers}
use Rattle.cue_layers.specs.Inner.Covers.{IsCovered, Covers, SpeakAlike}
use Rattle.cue_layers.proofs.Covers.{alike_on, alike_both, alike_itself, current_alike, alike_current, covers_itself, covers_members, covers_on, covers_both}
use Rattle.cue_layers.proofs.Keys.{once}
use Rattle.cue_layers.proofs.Lists.{has-append, has_left, has_right, one_found}

join_alike : (a b m : List Layer) → IsJoin a b m → SpeakAlike of_layers of_layers m (a ++ b)
join_alike a b m join = current_alike of_layers (a ++ b) m join.current

alike_join : (a b m : List Layer) → IsMap m → SpeakAlike of_layers of_layers m (a ++ b) → IsJoin a b m
alike_join a b m map alike = record { is_map = map; current = alike_current of_layers (a ++ b) m map.in_order alike }

-- what is joined to a join
pub joined_more : (a b m c n : List Layer) → IsJoin a b m → IsJoin m c n → IsJoin a (b ++ c) n
joined_more a b m c n first second =
    let alike = alike_on of_layers of_layers of_layers n (m ++ c) ((a ++ b) ++ c) (join_alike m c n second)
    (alike_both of_layers of_layers m c (a ++ b) c (join_alike a b m first) (alike_itself of_layers c)) in
    alike_join a (b ++ c) n second.is_map (subst (SpeakAlike of_layers of_layers n) (append_assoc a b c) alike)

-- a map is the join of no more than itself
pub joined_none : (m : List Layer) → IsMap m → IsJoin m [] m
joined_none m map = alike_join m [] m map (
  covers_members of_layers m (m ++ []) (λ x h. has_left m [] x h),
  covers_members of_layers (m ++ []) m (λ x h. ⊎_elim (λ g. g) (λ no. absurd no) (has-append m [] x h)),
)

-- a map is also the join of others, where all of these are among those it is the join of, or are its own, and its own are among them
pub joined_again : (a b c m : List Layer) → IsJoin a b m → ((x : Layer) → HasElement c x → HasElement b x ⊎ HasElement m x)
    → ((x : Layer) → HasElement m x → HasElement c x) → IsJoin a c m
joined_again a b c m join few own = alike_join a c m join.is_map (
  covers_members of_layers m (a ++ c) (λ x h. has_right a c x (own x h)),
  λ x h. ⊎_elim
      (λ g. (join_alike a b m join).1 x (has_left a b x g))
      (λ g. ⊎_elim (λ k. (join_alike a b m join).1 x (has_right a b x k)) (λ k. covers_itself of_layers m x k) (few x g))
      (has-append a c x h),
)

-- a put is the join of what it leaves there
pub put_joined : (old next extract : List Layer) (kind : LayerKind) (name : List ℕ) (pieces : List Piece) (revision : ℕ) → IsOnePut old kind name pieces next revision
    → IsExtract next (key kind name) extract → IsJoin old extract next
put_joined old next extract kind name pieces revision put is = alike_join old extract next put.joined.is_map (
  covers_on of_layers of_layers of_layers next (old ++ l ∷ []) (old ++ extract) (join_alike old (l ∷ []) next put.joined).0
      (covers_both of_layers of_layers old (l ∷ []) old extract (alike_itself of_layers old).0 own),
  λ x h. ⊎_elim
      (λ g. (join_alike old (l ∷ []) next put.joined).1 x (has_left old (l ∷ []) x g))
      (λ g. covers_itself of_layers next x (is.among x g))
      (has-append old extract x h),
)
  where
    l : Layer
    l = record { kind = kind; name = name; revision = revision; content = put.content }

    there : IsCovered of_layers of_layers l next
    there = (join_alike old (l ∷ []) next put.joined).1 l (has_right old (l ∷ []) l (inl refl))

    -- the layer of the key in the map is that of the extract
    found : (x : Layer) → HasElement next x → key_of x ≡ key kind name → HasElement extract x
    found x h same =
        let e = one_found (λ (y : Layer). key_of y ≡ key kind name) extract is.has in
        subst (HasElement extract) (once next e.0 x put.joined.is_map.in_order (is.among e.0 e.1) h (e.2 ∙ sym same)) e.1

    own_l : IsCovered of_layers of_layers l extract
    own_l = record {
      above = (there.above.0, found there.above.0 there.above.1 there.above.2, there.above.2, there.above.3);
      refused = λ path question r. let g = there.refused path question r in (g.0, found g.0 g.1 g.2, g.2, g.3);
    }

    own : Covers of_layers of_layers (l ∷ []) extract
    own y (inl e) = subst (λ (z : Layer). IsCovered of_layers of_layers z extract) e own_l
    own y (inr never) = absurd never
