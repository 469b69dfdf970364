-- The number of a definition, after one more was put behind the others.
use Rattle.std.proofs.Common.{◌≡◌, ℕ, suc, ◌+◌, ◌<◌, get_or, ◌⊎◌, inl, inr, ⊎_elim, subst, Bool, true, false, cond, Option, None, Some, List, [], ◌∷◌, ◌++◌, length, refl, sym, ap, ◌∙◌, arith}
use Rattle.std.specs.Prelude.{slice_get}
use Rattle.std.specs.Option.{is_some, option_map}
use Rattle.std.proofs.lemmas.Option.{slice_get-map, slice_get_read}
use Rattle.std.specs.List.{position_from}
use Rattle.std.specs.Str.{bytes_eq}
use Rattle.std.specs.Bool.{Decides}
use Rattle.std.proofs.lemmas.Slice.Eq.{bytes_eq-Decides}
use Rattle.cue_scope.specs.declared.definitions.Definition as code
use Rattle.cue_scope.specs.Definitions.{Definition, number_of_name}
use Rattle.cue_scope.specs.Listed.{definition_list, definition_of}

-- the number, or else that of the new one
abbrev pub or_last : Option ℕ → Bool → ℕ → Option ℕ
or_last (Some i) is n = Some i
or_last None is n = cond is (Some n) None

last_of_cond : (b : Bool) (i : ℕ) (rest : Option ℕ) (is : Bool) (n : ℕ) → cond b (Some i) (or_last rest is n) ≡ or_last (cond b (Some i) rest) is n
last_of_cond true i rest is n = refl
last_of_cond false i rest is n = refl

position_push : (p : Definition → Bool) (i : ℕ) (ds : List Definition) (d : Definition) → position_from p i (ds ++ d ∷ []) ≡ or_last (position_from p i ds) (p d) (i + length ds)
position_push p i [] d = let e : i + 0 ≡ i = omega arith in rw e refl
position_push p i (x ∷ ds) d =
    let more = position_push p (i + 1) ds d in
    let e : i + 1 + length ds ≡ i + length (x ∷ ds) = omega arith in
    ap (λ z. cond (p x) (Some i) z) (more ∙ ap (λ z. or_last (position_from p (i + 1) ds) (p d) z) e) ∙ last_of_cond (p x) i (position_from p (i + 1) ds) (p d) (i + length (x ∷ ds))

-- the number of a name, after one more definition
pub number_push : (name : List ℕ) (ds : List Definition) (d : Definition) → number_of_name name (ds ++ d ∷ []) ≡ or_last (number_of_name name ds) (bytes_eq name d.name) (length ds)
number_push name ds d = let e : 0 + length ds ≡ length ds = omega arith in position_push (λ x. bytes_eq name x.name) 0 ds d ∙ ap (λ z. or_last (number_of_name name ds) (bytes_eq name d.name) z) e

or_none : (o : Option ℕ) (n : ℕ) → or_last o false n ≡ o
or_none None n = refl
or_none (Some i) n = refl

-- either two texts are equal and the test says so, or neither
told_by : (b : Bool) (P : Type 0) → Decides b P → ((b ≡ true) × P) ⊎ ((b ≡ false) × (P → ⊥))
told_by true P h = inl (refl, h.0 refl)
told_by false P h = inr (refl, λ p. let e : false ≡ true = h.1 p in absurd (cc))

pub told : (xs ys : List ℕ) → ((bytes_eq xs ys ≡ true) × (xs ≡ ys)) ⊎ ((bytes_eq xs ys ≡ false) × (xs ≡ ys → ⊥))
told xs ys = told_by (bytes_eq xs ys) (xs ≡ ys) (bytes_eq-Decides xs ys)

bytes_eq_self : (xs : List ℕ) → bytes_eq xs xs ≡ true
bytes_eq_self xs = ⊎_elim (λ t. t.0) (λ f. absurd (f.1 refl)) (told xs xs)

apart_back : (xs ys : List ℕ) → (xs ≡ ys → ⊥) → bytes_eq ys xs ≡ false
apart_back xs ys h = ⊎_elim (λ t. absurd (h (sym t.1))) (λ f. f.0) (told ys xs)

-- a new name gets its number, and the others keep theirs
pub number_new : (name : List ℕ) (ds : List Definition) (d : Definition) (found : Option ℕ) → number_of_name d.name ds ≡ None
    → found ≡ cond (bytes_eq d.name name) (Some (length ds)) (number_of_name name ds) → found ≡ number_of_name name (ds ++ d ∷ [])
number_new name ds d found unknown is =
    ⊎_elim
    (λ t. let same : d.name ≡ name = t.1 in
    let here : number_of_name name ds ≡ None = subst (λ z. number_of_name z ds ≡ None) same unknown in
    let back : bytes_eq name d.name ≡ true = subst (λ z. bytes_eq z d.name ≡ true) same (bytes_eq_self d.name) in
    let now : found ≡ Some (length ds) = rw t.0 at is in
    now ∙ sym (number_push name ds d ∙ rw (here, back) refl))
    (λ f. let apart : bytes_eq name d.name ≡ false = apart_back d.name name f.1 in
    let now : found ≡ number_of_name name ds = rw f.0 at is in
    now ∙ sym (number_push name ds d ∙ rw apart (or_none (number_of_name name ds) (length ds))))
    (told d.name name)

pub listed_push : (ds : List code.Definition) (d : code.Definition) → definition_list (ds ++ d ∷ []) ≡ definition_list ds ++ definition_of d ∷ []
listed_push [] d = refl
listed_push (x ∷ ds) d = ap (λ z. definition_of x ∷ z) (listed_push ds d)

pub length_listed : (ds : List code.Definition) → length (definition_list ds) ≡ length ds
length_listed [] = refl
length_listed (x ∷ ds) = ap suc (length_listed ds)

pub none_of : (o : Option ℕ) → is_some o ≡ false → o ≡ None
none_of None h = refl
none_of (Some x) h = absurd (cc)

-- the definition at an index
pub listed_at : (xs : List code.Definition) (i : ℕ) (x : code.Definition) → i < length xs → x ≡ get_or xs i x → slice_get (definition_list xs) i ≡ Some (definition_of x)
listed_at xs i x h is = slice_get-map definition_of xs i ∙ ap (option_map definition_of) (slice_get_read xs (length xs) i x refl h is)
