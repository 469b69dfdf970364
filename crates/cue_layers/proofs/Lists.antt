-- Members of lists.
use Rattle.std.proofs.Common.{◌⊎◌, inl, inr, ⊎_elim, List, [], ◌∷◌, ◌++◌, refl, sym, subst}
use Rattle.std.specs.List.{AllByRecursion}
use Rattle.cue_lattice.specs.OneOf.{OneOf}
use Rattle.cue_layers.specs.Puts.{HasElement}

-- some member of which P holds
pub one_found : {X : Type 0} (P : X → Type 0) (xs : List X) → OneOf P xs → (x : X) × HasElement xs x × P x
one_found P [] h = absurd h
one_found P (y ∷ ys) (inl h) = (y, inl refl, h)
one_found P (y ∷ ys) (inr h) = let r = one_found P ys h in (r.0, inr r.1, r.2)

pub one_by : {X : Type 0} (P : X → Type 0) (xs : List X) (x : X) → HasElement xs x → P x → OneOf P xs
one_by P [] x h p = absurd h
one_by P (y ∷ ys) x (inl e) p = inl (subst P (sym e) p)
one_by P (y ∷ ys) x (inr h) p = inr (one_by P ys x h p)

-- a member of the one or the other
pub has-append : {X : Type 0} (xs ys : List X) (x : X) → HasElement (xs ++ ys) x → HasElement xs x ⊎ HasElement ys x
has-append [] ys x h = inr h
has-append (y ∷ xs) ys x (inl e) = inl (inl e)
has-append (y ∷ xs) ys x (inr h) = ⊎_elim (λ g. inl (inr g)) (λ g. inr g) (has-append xs ys x h)

pub has_left : {X : Type 0} (xs ys : List X) (x : X) → HasElement xs x → HasElement (xs ++ ys) x
has_left [] ys x h = absurd h
has_left (y ∷ xs) ys x (inl e) = inl e
has_left (y ∷ xs) ys x (inr h) = inr (has_left xs ys x h)

pub has_right : {X : Type 0} (xs ys : List X) (x : X) → HasElement ys x → HasElement (xs ++ ys) x
has_right [] ys x h = h
has_right (y ∷ xs) ys x h = inr (has_right xs ys x h)

-- what holds of each holds of a member
pub all_at : {X : Type 0} (P : X → Type 0) (xs : List X) (x : X) → AllByRecursion P xs → HasElement xs x → P x
all_at P [] x all h = absurd h
all_at P (y ∷ ys) x all (inl e) = subst P e all.0
all_at P (y ∷ ys) x all (inr h) = all_at P ys x all.1 h

-- what holds of each member holds of each
pub all_by : {X : Type 0} (P : X → Type 0) (xs : List X) → ((x : X) → HasElement xs x → P x) → AllByRecursion P xs
all_by P [] h = tt
all_by P (y ∷ ys) h = (h y (inl refl), all_by P ys (λ x g. h x (inr g)))

pub all_front : {X : Type 0} (P : X → Type 0) (xs ys : List X) → AllByRecursion P (xs ++ ys) → AllByRecursion P xs
all_front P [] ys all = tt
all_front P (x ∷ xs) ys all = (all.0, all_front P xs ys all.1)

pub all_back : {X : Type 0} (P : X → Type 0) (xs ys : List X) → AllByRecursion P (xs ++ ys) → AllByRecursion P ys
all_back P [] ys all = all
all_back P (x ∷ xs) ys all = all_back P xs ys all.1

pub all_both : {X : Type 0} (P : X → Type 0) (xs ys : List X) → AllByRecursion P xs → AllByRecursion P ys → AllByRecursion P (xs ++ ys)
all_both P [] ys all more = more
all_both P (x ∷ xs) ys all more = (all.0, all_both P xs ys all.1 more)
