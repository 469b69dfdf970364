-- The unification of several values.
use Rattle.std.proofs.Common.{◌≡◌, Bool, true, false, ◌&&◌, ◌||◌, List, [], ◌∷◌, ◌++◌, Option, Some, None, refl, sym, ap, ◌∙◌, ◌≤◌, length, map, arith}
use Rattle.std.specs.Prelude.{if◌then◌else◌, is_some, option_map, unwrap_or}
use Rattle.std.specs.Option.{ForSome}
use Rattle.std.specs.List.{list_any, list_all}
use Rattle.std.proofs.lemmas.Bool.{false≢true}
use Rattle.std.proofs.lemmas.List.Folds.{list_any-append, list_all-append, list_all-map}
use mathlib.Core.Path.{fun_ext}
use Rattle.cue_lattice.specs.declared.scalar.Scalar.{Scalar}
use Rattle.cue_scalars.specs.Pairs.{ScalarMembers, ScalarPair, default_or_value, meet_of, unify_pairs, all_of}
use Rattle.cue_scalars.specs.Scalars.{members, IsScalarsWithin}
use Rattle.cue_scalars.specs.Values.{pair_of_value}
use Rattle.cue_scalars.specs.declared.scalar_set.ScalarSet.{ScalarSet}
use Rattle.cue_scalars.specs.declared.valued.Valued.{Valued}

and_true : (a : Bool) → (a && true) ≡ a
and_true true = refl
and_true false = refl

or_right_false : (a b : Bool) → (a || b) ≡ false → (a ≡ false) × (b ≡ false)
or_right_false false b e = (refl, e)
or_right_false true b e = absurd (false≢true (sym e))

-- a default where there is one
abbrev pub default : Bool → ScalarMembers → Option ScalarMembers
default given set = if given then Some set else None

is_some_default : (given : Bool) (set : ScalarMembers) → is_some (default given set) ≡ given
is_some_default true set = refl
is_some_default false set = refl

brought_default : (given : Bool) (set value : ScalarMembers) (x : Scalar) → (given ≡ false → set x ≡ value x) → unwrap_or (default given set) value x ≡ set x
brought_default true set value x h = refl
brought_default false set value x h = sym (h refl)

none_brought : (usual : Option ScalarMembers) (value : ScalarMembers) (x : Scalar) → is_some usual ≡ false → unwrap_or usual value x ≡ value x
none_brought None value x e = refl
none_brought (Some set) value x e = absurd (false≢true (sym e))

one_default : (usual : Option ScalarMembers) (value : ScalarMembers) → default (is_some usual || false) (λ x. unwrap_or usual value x && true) ≡ usual
one_default None value = refl
one_default (Some set) value = ap Some (fun_ext (λ x. and_true (set x)))

-- one of the values has a default
abbrev pub any_given : List ScalarPair → Bool
any_given pairs = list_any (λ pair. is_some pair.usual) pairs

-- the scalars that each brings: those of its default, or of its value where it has none
abbrev pub all_bring : List ScalarPair → ScalarMembers
all_bring pairs x = list_all (λ pair. default_or_value pair x) pairs

-- the scalars that the value of each lets stand
abbrev pub all_let : List ScalarPair → ScalarMembers
all_let pairs x = list_all (λ pair. pair.value x) pairs

-- without defaults each brings its value
values_brought : (pairs : List ScalarPair) (x : Scalar) → any_given pairs ≡ false → all_bring pairs x ≡ all_let pairs x
values_brought [] x e = refl
values_brought (pair ∷ pairs) x e =
    let parts = or_right_false (is_some pair.usual) (any_given pairs) e in
    ap (λ b. b && all_bring pairs x) (none_brought pair.usual pair.value x parts.0) ∙ ap (λ b. pair.value x && b) (values_brought pairs x parts.1)

-- what all bring together
all_brought : (pairs : List ScalarPair) (x : Scalar) → default_or_value (all_of pairs) x ≡ all_bring pairs x
all_brought pairs x = brought_default (any_given pairs) (all_bring pairs) (all_let pairs) x (values_brought pairs x)

met_brought : (xs ys : List ScalarPair) (x : Scalar) → all_bring (xs ++ ys) x ≡ meet_of (default_or_value (all_of xs)) (default_or_value (all_of ys)) x
met_brought xs ys x =
    list_all-append (λ (pair : ScalarPair). default_or_value pair x) xs ys
    ∙ sym (ap (λ b. b && default_or_value (all_of ys) x) (all_brought xs x) ∙ ap (λ b. all_bring xs x && b) (all_brought ys x))

-- two lists as one
pub all_of-append : (xs ys : List ScalarPair) → all_of (xs ++ ys) ≡ unify_pairs (all_of xs) (all_of ys)
all_of-append xs ys =
    let value = fun_ext (λ x. list_all-append (λ (pair : ScalarPair). pair.value x) xs ys) in
    let met : ScalarMembers = meet_of (default_or_value (all_of xs)) (default_or_value (all_of ys)) in
    let usual =
    ap (λ given. default given (all_bring (xs ++ ys))) (list_any-append (λ (pair : ScalarPair). is_some pair.usual) xs ys)
    ∙ ap (λ set. default (any_given xs || any_given ys) set) (fun_ext (met_brought xs ys))
    ∙ ap (λ given. default (given || any_given ys) met) (sym (is_some_default (any_given xs) (all_bring xs)))
    ∙ ap (λ given. default (is_some (all_of xs).usual || given) met) (sym (is_some_default (any_given ys) (all_bring ys))) in
    λ i. record { value = value i; usual = usual i }

-- the unification of one value is that value
all_of-one : (pair : ScalarPair) → all_of (pair ∷ []) ≡ pair
all_of-one pair =
    let value = fun_ext (λ x. and_true (pair.value x)) in
    let usual = one_default pair.usual pair.value in
    λ i. record { value = value i; usual = usual i }

-- two values
pub all_of-two : (first second : Valued) (rest values : List Valued) → length values ≤ 2 → values ≡ first ∷ second ∷ rest → unify_pairs (pair_of_value first) (pair_of_value second) ≡ all_of (map pair_of_value values)
all_of-two first second (third ∷ rest) values few is = absurd (let e = ap length is in omega (arith, few, e))
all_of-two first second [] values few is =
    sym (ap (λ vs. all_of (map pair_of_value vs)) is
    ∙ all_of-append (pair_of_value first ∷ []) (pair_of_value second ∷ [])
    ∙ ap (λ pair. unify_pairs pair (all_of (pair_of_value second ∷ []))) (all_of-one (pair_of_value first))
    ∙ ap (λ pair. unify_pairs (pair_of_value first) pair) (all_of-one (pair_of_value second)))

-- ---- two values, of which one has a default
is_some_members : (usual : Option ScalarSet) → is_some (option_map members usual) ≡ is_some usual
is_some_members None = refl
is_some_members (Some set) = refl

brought_members : (usual : Option ScalarSet) (value : ScalarSet) → unwrap_or (option_map members usual) (members value) ≡ members (unwrap_or usual value)
brought_members None value = refl
brought_members (Some set) value = refl

-- what two values bring lies within them
brought_within : (usual : Option ScalarSet) (value : ScalarSet) → ForSome usual (λ default. IsScalarsWithin default value) → IsScalarsWithin (unwrap_or usual value) value
brought_within None value h x m = m
brought_within (Some set) value h x m = h set refl x m

both_true : (a b : Bool) → (a && b) ≡ true → (a ≡ true) × (b ≡ true)
both_true true b e = (refl, e)
both_true false b e = absurd (false≢true e)

-- two values that are met, and what they bring
pub record AreMet (a b : Valued) (value usual : ScalarSet) : Type 0 where
  pub value_is : (x : Scalar) → members value x ≡ (members a.value x && members b.value x)
  pub usual_is : (x : Scalar) → members usual x ≡ (members (unwrap_or a.usual a.value) x && members (unwrap_or b.usual b.value) x)

-- the sets that are met, by what they are
pub are_met :
    (a b : Valued) (value usual left left_usual right right_usual : ScalarSet) → left ≡ a.value → left_usual ≡ unwrap_or a.usual a.value → right ≡ b.value
    → right_usual ≡ unwrap_or b.usual b.value → ((x : Scalar) → members value x ≡ (members left x && members right x))
    → ((x : Scalar) → members usual x ≡ (members left_usual x && members right_usual x)) → AreMet a b value usual
are_met a b value usual left left_usual right right_usual l lu r ru v u = record {
  value_is = λ x. v x ∙ (λ i. members (l i) x && members (r i) x);
  usual_is = λ x. u x ∙ (λ i. members (lu i) x && members (ru i) x);
}

-- the default that is met lies within the value
pub met_within : (a b : Valued) (value usual : ScalarSet) → AreMet a b value usual → ForSome (Some usual) (λ default. IsScalarsWithin default value)
met_within a b value usual met set is x m =
    let member : members usual x ≡ true = ap (λ o. members (unwrap_or o set) x) is ∙ m in
    let parts = both_true _ _ (sym (met.usual_is x) ∙ member) in
    met.value_is x ∙ rw (brought_within a.usual a.value a.within x parts.0, brought_within b.usual b.value b.within x parts.1) refl

-- their unification
pub both_brought :
    (a b : Valued) (value usual : ScalarSet) → AreMet a b value usual → (is_some a.usual || is_some b.usual) ≡ true
    → record { value = members value; usual = Some (members usual) } ≡ unify_pairs (pair_of_value a) (pair_of_value b)
both_brought a b value usual met some =
    let both_bring : ScalarMembers = meet_of (default_or_value (pair_of_value a)) (default_or_value (pair_of_value b)) in
    let given : (is_some (pair_of_value a).usual || is_some (pair_of_value b).usual) ≡ true = rw (is_some_members a.usual, is_some_members b.usual) some in
    let bring : members usual ≡ both_bring = fun_ext (λ x. met.usual_is x ∙ (λ i. sym (brought_members a.usual a.value) i x && sym (brought_members b.usual b.value) i x)) in
    let value_is = fun_ext met.value_is in
    let usual_is : Some (members usual) ≡ (unify_pairs (pair_of_value a) (pair_of_value b)).usual = ap Some bring ∙ ap (λ g. default g both_bring) (sym given) in
    λ i. record { value = value_is i; usual = usual_is i }

-- ---- many values at once
-- what a value lets stand, and what it brings
abbrev pub lets : Valued → ScalarMembers
lets valued = members valued.value

abbrev pub brings : Valued → ScalarMembers
brings valued = members (unwrap_or valued.usual valued.value)

-- one of the values has a default
abbrev pub is_any_given : List Valued → Bool
is_any_given values = list_any (λ valued. is_some valued.usual) values

given_pairs : (values : List Valued) → any_given (map pair_of_value values) ≡ is_any_given values
given_pairs [] = refl
given_pairs (valued ∷ values) = ap (λ b. b || any_given (map pair_of_value values)) (is_some_members valued.usual) ∙ ap (λ b. is_some valued.usual || b) (given_pairs values)

all_members : (sets : List ScalarSet) (x : Scalar) → list_all (λ set. members set x) sets ≡ list_all (λ (set : ScalarMembers). set x) (map members sets)
all_members sets x = sym (list_all-map (λ (set : ScalarMembers). set x) members sets)

-- sets that have the members of others, met
all_moved :
    (members_of : Valued → ScalarMembers) (values : List Valued) (sets : List ScalarSet) (set : ScalarSet) → map members sets ≡ map members_of values
    → ((x : Scalar) → members set x ≡ list_all (λ set. members set x) sets) → (x : Scalar) → members set x ≡ list_all (λ valued. members_of valued x) values
all_moved members_of values sets set same met x =
    met x ∙ all_members sets x ∙ ap (list_all (λ (set : ScalarMembers). set x)) same ∙ list_all-map (λ (set : ScalarMembers). set x) members_of values

all_let_pairs : (values : List Valued) (x : Scalar) → list_all (λ valued. lets valued x) values ≡ all_let (map pair_of_value values) x
all_let_pairs [] x = refl
all_let_pairs (valued ∷ values) x = ap (λ b. lets valued x && b) (all_let_pairs values x)

all_bring_pairs : (values : List Valued) (x : Scalar) → list_all (λ valued. brings valued x) values ≡ all_bring (map pair_of_value values) x
all_bring_pairs [] x = refl
all_bring_pairs (valued ∷ values) x =
    ap (λ b. b && list_all (λ valued. brings valued x) values) (λ i. sym (brought_members valued.usual valued.value) i x)
    ∙ ap (λ b. default_or_value (pair_of_value valued) x && b) (all_bring_pairs values x)

-- the meet of the values, where none has a default
pub all_plain :
    (values : List Valued) (sets : List ScalarSet) (value : ScalarSet) → is_any_given values ≡ false → map members sets ≡ map lets values
    → ((x : Scalar) → members value x ≡ list_all (λ set. members set x) sets) → record { value = members value; usual = None } ≡ all_of (map pair_of_value values)
all_plain values sets value none same met =
    let value_is = fun_ext (λ x. all_moved lets values sets value same met x ∙ all_let_pairs values x) in
    let usual_is : None ≡ (all_of (map pair_of_value values)).usual = ap (λ given. default given (all_bring (map pair_of_value values))) (sym (given_pairs values ∙ none)) in
    λ i. record { value = value_is i; usual = usual_is i }

-- the meet of the values and that of what they bring, where one has a default
pub all_usual :
    (values : List Valued) (sets usuals : List ScalarSet) (value usual : ScalarSet) → is_any_given values ≡ true → map members sets ≡ map lets values → map members usuals ≡ map brings values
    → ((x : Scalar) → members value x ≡ list_all (λ set. members set x) sets) → ((x : Scalar) → members usual x ≡ list_all (λ set. members set x) usuals)
    → record { value = members value; usual = Some (members usual) } ≡ all_of (map pair_of_value values)
all_usual values sets usuals value usual some same usual_same met usual_met =
    let value_is = fun_ext (λ x. all_moved lets values sets value same met x ∙ all_let_pairs values x) in
    let bring : members usual ≡ all_bring (map pair_of_value values) = fun_ext (λ x. all_moved brings values usuals usual usual_same usual_met x ∙ all_bring_pairs values x) in
    let usual_is : Some (members usual) ≡ (all_of (map pair_of_value values)).usual = ap Some bring ∙ ap (λ given. default given (all_bring (map pair_of_value values))) (sym (given_pairs values ∙ some)) in
    λ i. record { value = value_is i; usual = usual_is i }

-- what all bring lies within what all let stand
all_within : (values : List Valued) (x : Scalar) → list_all (λ valued. brings valued x) values ≡ true → list_all (λ valued. lets valued x) values ≡ true
all_within [] x h = refl
all_within (valued ∷ values) x h =
    let parts = both_true (brings valued x) (list_all (λ valued. brings valued x) values) h in
    rw (brought_within valued.usual valued.value valued.within x parts.0, all_within values x parts.1) refl

pub all_usual_within :
    (values : List Valued) (sets usuals : List ScalarSet) (value usual : ScalarSet) → map members sets ≡ map lets values → map members usuals ≡ map brings values
    → ((x : Scalar) → members value x ≡ list_all (λ set. members set x) sets) → ((x : Scalar) → members usual x ≡ list_all (λ set. members set x) usuals)
    → ForSome (Some usual) (λ default. IsScalarsWithin default value)
all_usual_within values sets usuals value usual same usual_same met usual_met set is x m =
    let member : members usual x ≡ true = ap (λ o. members (unwrap_or o set) x) is ∙ m in
    all_moved lets values sets value same met x
    ∙ all_within values x (sym (all_moved brings values usuals usual usual_same usual_met x) ∙ member)
