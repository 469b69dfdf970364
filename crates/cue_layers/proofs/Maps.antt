-- Maps of sets of puts, and joins.
use Rattle.std.proofs.Common.{◌≡◌, inl, inr, ⊎_elim, ◌<◌, ◌≤◌, List, [], ◌∷◌, ◌++◌, append_assoc, sym, ◌∙◌, subst, arith}
use Rattle.cue_lattice.specs.Path.{Path}
use Rattle.cue_lattice.specs.Question.{Question}
use Rattle.cue_replica.specs.Language.{language}
use Rattle.cue_replica.proofs.Sound.{sound}
use Rattle.cue_layers.specs.declared.layer.Layer.{Layer}
use Rattle.cue_layers.specs.Layers.{key_of, IsMap, IsLayer}
use Rattle.cue_layers.specs.Maps.{commons_put}
use Rattle.cue_layers.specs.Join.{AreEqualOfOneSet, JoinsPuts, IsCommutative, IsAssociative, IsIdempotent}
use Rattle.cue_layers.specs.Puts.{Claims, HasElement, SameMembers, of_layers, of_puts, AreCurrent}
use Rattle.cue_layers.specs.Inner.Covers.{SpeakAlike}
use Rattle.cue_layers.proofs.Covers.{alike_on, alike_back, alike_both, alike_itself, alike_members, current_alike, alike_current}
use Rattle.cue_layers.proofs.Keys.{once, one_list, same_kind, same_name}
use Rattle.cue_layers.proofs.Lists.{has-append, has_left, has_right, all_at}

-- a layer by its parts
pub same_layer : (a b : Layer) → a.kind ≡ b.kind → a.name ≡ b.name → a.revision ≡ b.revision → a.content ≡ b.content → a ≡ b
same_layer a b k n r c = λ i. record { kind = k i; name = n i; revision = r i; content = c i }

-- a layer of the one is one of the other
has_also : (a b : List Layer) → IsMap a → IsMap b → SpeakAlike of_layers of_layers a b → (x : Layer) → HasElement a x → HasElement b x
has_also a b ma mb alike x h = subst (λ (l : Layer). HasElement b l) (sym same) there.1
  where
    there : (y : Layer) × HasElement b y × (key_of y ≡ key_of x) × (x.revision ≤ y.revision)
    there = (alike.0 x h).above

    -- whatever the other has of the key is that layer
    in_b : (y : Layer) → HasElement b y → key_of y ≡ key_of x → y ≡ there.0
    in_b y g e = once b y there.0 mb.in_order g there.1 (e ∙ sym there.2)

    in_a : (z : Layer) → HasElement a z → key_of z ≡ key_of there.0 → z ≡ x
    in_a z g e = once a z x ma.in_order g h (e ∙ there.2)

    revisions : x.revision ≡ there.0.revision
    revisions =
        let back = (alike.1 there.0 there.1).above in
        let le : there.0.revision ≤ x.revision = subst (λ (l : Layer). there.0.revision ≤ l.revision) (in_a back.0 back.1 back.2) back.3 in
        let ge : x.revision ≤ there.0.revision = there.3 in
        omega arith

    to : (path : Path) (question : Question) → language.table_refuses x.content path question → language.table_refuses there.0.content path question
    to path question r =
        let g = (alike.0 x h).refused path question r in
        let one : g.0 ≡ there.0 = in_b g.0 g.1 g.2 in
        ⊎_elim
        (λ lt. let less : x.revision < there.0.revision = subst (λ (l : Layer). x.revision < l.revision) one lt in let e = revisions in absurd (omega arith))
        (λ s. subst (λ (l : Layer). language.table_refuses l.content path question) one s.1) g.3

    back : (path : Path) (question : Question) → language.table_refuses there.0.content path question → language.table_refuses x.content path question
    back path question r =
        let g = (alike.1 there.0 there.1).refused path question r in
        let one : g.0 ≡ x = in_a g.0 g.1 g.2 in
        ⊎_elim
        (λ lt. let less : there.0.revision < x.revision = subst (λ (l : Layer). there.0.revision < l.revision) one lt in let e = revisions in absurd (omega arith))
        (λ s. subst (λ (l : Layer). language.table_refuses l.content path question) one s.1) g.3

    same : x ≡ there.0
    same = same_layer x there.0
        (sym (same_kind there.0.kind x.kind there.0.name x.name there.2))
        (sym (same_name there.0.kind x.kind there.0.name x.name there.2))
        revisions
        (sound.one_table x.content there.0.content (all_at IsLayer a x ma.each h).valid (all_at IsLayer b there.0 mb.each there.1).valid (λ path question. (to path question, back path question)))

-- maps that speak alike are equal
pub one_map : (a b : List Layer) → IsMap a → IsMap b → SpeakAlike of_layers of_layers a b → a ≡ b
one_map a b ma mb alike = one_list a b ma.in_order mb.in_order (has_also a b ma mb alike) (has_also b a mb ma (alike_back of_layers of_layers a b alike))

-- maps of what speaks alike are equal
pub one_map_of : {X Y : Type 0} (cx : Claims X) (cy : Claims Y) (xs : List X) (ys : List Y) (a b : List Layer) → IsMap a → IsMap b → AreCurrent cx xs a → AreCurrent cy ys b → SpeakAlike cx cy xs ys → a ≡ b
one_map_of cx cy xs ys a b ma mb ca cb alike =
    one_map a b ma mb (alike_on of_layers cx of_layers a xs b (current_alike cx xs a ca)
    (alike_on cx cy of_layers xs ys b alike (alike_back of_layers cy b ys (current_alike cy ys b cb))))

-- with one more in front of both
front_also : {X : Type 0} (x : X) (xs ys : List X) → SameMembers xs ys → SameMembers (x ∷ xs) (x ∷ ys)
front_also x xs ys same y = (⊎_elim (λ e. inl e) (λ h. inr ((same y).0 h)), ⊎_elim (λ e. inl e) (λ h. inr ((same y).1 h)))

pub equal_of_one_set : AreEqualOfOneSet
equal_of_one_set a b ps qs ma mb same =
    let c = commons_put [] in
    one_map_of of_puts of_puts (c ∷ ps) (c ∷ qs) a b ma.is_map mb.is_map ma.current mb.current (alike_members of_puts (c ∷ ps) (c ∷ qs) (front_also c ps qs same))

swapped : {X : Type 0} (xs ys : List X) → SameMembers (xs ++ ys) (ys ++ xs)
swapped xs ys x = (
  λ h. ⊎_elim (λ g. has_right ys xs x g) (λ g. has_left ys xs x g) (has-append xs ys x h),
  λ h. ⊎_elim (λ g. has_right xs ys x g) (λ g. has_left xs ys x g) (has-append ys xs x h),
)

twice : {X : Type 0} (xs : List X) → SameMembers (xs ++ xs) xs
twice xs x = (λ h. ⊎_elim (λ g. g) (λ g. g) (has-append xs xs x h), λ h. has_left xs xs x h)

-- with one more in front of both lists, or of their join alone
once_in_front : {X : Type 0} (c : X) (xs ys : List X) → SameMembers ((c ∷ xs) ++ (c ∷ ys)) (c ∷ (xs ++ ys))
once_in_front c xs ys x = (
  ⊎_elim (λ e. inl e) (λ h. ⊎_elim (λ g. inr (has_left xs ys x g)) (⊎_elim (λ e. inl e) (λ g. inr (has_right xs ys x g))) (has-append xs (c ∷ ys) x h)),
  ⊎_elim (λ e. inl e) (λ h. inr (⊎_elim (λ g. has_left xs (c ∷ ys) x g) (λ g. has_right xs (c ∷ ys) x (inr g)) (has-append xs ys x h))),
)

pub joins_puts : JoinsPuts
joins_puts a b joined ps qs ma mb is =
    let c = commons_put [] in
    record {
      is_map = is.is_map;
      current = alike_current of_puts (c ∷ (ps ++ qs)) joined is.is_map.in_order
          (alike_on of_layers of_layers of_puts joined (a ++ b) (c ∷ (ps ++ qs)) (current_alike of_layers (a ++ b) joined is.current)
          (alike_on of_layers of_puts of_puts (a ++ b) ((c ∷ ps) ++ (c ∷ qs)) (c ∷ (ps ++ qs))
          (alike_both of_layers of_puts a b (c ∷ ps) (c ∷ qs) (current_alike of_puts (c ∷ ps) a ma.current) (current_alike of_puts (c ∷ qs) b mb.current))
          (alike_members of_puts ((c ∷ ps) ++ (c ∷ qs)) (c ∷ (ps ++ qs)) (once_in_front c ps qs))));
    }

pub commutative : IsCommutative
commutative a b c d p q = one_map_of of_layers of_layers (a ++ b) (b ++ a) c d p.is_map q.is_map p.current q.current (alike_members of_layers (a ++ b) (b ++ a) (swapped a b))

itself : {X : Type 0} (xs ys : List X) → xs ≡ ys → SameMembers xs ys
itself {X} xs ys e = subst (λ (zs : List X). SameMembers xs zs) e (λ x. (λ h. h, λ h. h))

pub associative : IsAssociative
associative a b c ab bc left right pab pleft pbc pright =
    one_map_of of_layers of_layers (ab ++ c) (a ++ bc) left right pleft.is_map pright.is_map pleft.current pright.current
    (alike_on of_layers of_layers of_layers (ab ++ c) ((a ++ b) ++ c) (a ++ bc)
    (alike_both of_layers of_layers ab c (a ++ b) c (current_alike of_layers (a ++ b) ab pab.current) (alike_itself of_layers c))
    (alike_on of_layers of_layers of_layers ((a ++ b) ++ c) (a ++ (b ++ c)) (a ++ bc)
    (alike_members of_layers ((a ++ b) ++ c) (a ++ (b ++ c)) (itself ((a ++ b) ++ c) (a ++ (b ++ c)) (append_assoc a b c)))
    (alike_both of_layers of_layers a (b ++ c) a bc (alike_itself of_layers a) (alike_back of_layers of_layers bc (b ++ c) (current_alike of_layers (b ++ c) bc pbc.current)))))

pub idempotent : IsIdempotent
idempotent a joined ma is =
    one_map joined a is.is_map ma (alike_on of_layers of_layers of_layers joined (a ++ a) a (current_alike of_layers (a ++ a) joined is.current) (alike_members of_layers (a ++ a) a (twice a)))
