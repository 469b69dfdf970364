-- Members of a set of scalars, kind by kind.
use Rattle.std.proofs.Common.{◌≡◌, ℕ, ◌<◌, Bool, true, false, not, ◌+◌, ◌&&◌, ◌||◌, List, [], ◌∷◌, ℤ, refl, sym, ap, ◌∙◌, arith}
use Rattle.std.specs.Prelude.{IfNone}
use Rattle.std.proofs.lemmas.Bool.{false≢true}
use Rattle.cue_lattice.specs.declared.scalar.Scalar.{Scalar}
use Rattle.cue_lattice.specs.declared.scalar.Scalar.TheVariants as scalars
use Rattle.cue_sets.specs.Pieces.{is_member, IsCanonical, RefusesInteger, IsOnlyMember}
use Rattle.cue_sets.specs.Texts.{is_text_member, RefusesText, IsOnlyText}
use Rattle.cue_sets.specs.PieceLaws.{some_member}
use Rattle.cue_sets.specs.TextLaws.{some_text, first_is_listed, is_listed-zeros, greatest_length, zeros}
use Rattle.cue_scalars.specs.Scalars.{members, kind, RefusesScalar, IsOnlyScalar}
use Rattle.cue_scalars.specs.Inner.Scalars.{only_of}
use Rattle.cue_scalars.specs.declared.scalar_set.ScalarSet.{ScalarSet}

-- whether null or a truth value is a member
abbrev pub has_plain : ScalarSet → Bool
has_plain set = set.null || set.no || set.yes

parts : (a b c : Bool) → (a || b || c) ≡ false → (a ≡ false) × (b ≡ false) × (c ≡ false)
parts true b c e = absurd (false≢true (sym e))
parts false true c e = absurd (false≢true (sym e))
parts false false c e = (refl, refl, e)

-- null or a truth value, where one is a member
pub some_plain : (set : ScalarSet) → has_plain set ≡ true → (s : Scalar) × (kind s < 3) × (members set s ≡ true)
some_plain set e = cases set.null set.no set.yes refl refl refl e where
  cases : (a b c : Bool) → set.null ≡ a → set.no ≡ b → set.yes ≡ c → (a || b || c) ≡ true → (s : Scalar) × (kind s < 3) × (members set s ≡ true)
  cases true b c p q r e = (scalars.Null, omega arith, p)
  cases false true c p q r e = (scalars.Bool false, omega arith, q)
  cases false false true p q r e = (scalars.Bool true, omega arith, r)
  cases false false false p q r e = absurd (false≢true e)

-- two members of different kinds
pub two_kinds : (set : ScalarSet) (a b : Scalar) → members set a ≡ true → members set b ≡ true → kind a < kind b → (s : Scalar) → IsOnlyScalar set s → ⊥
two_kinds set a b p q l s o = let e = ap kind (o.only a p ∙ sym (o.only b q)) in omega (arith, e)

-- null or a truth value beside an integer
pub plain_and_int : (set : ScalarSet) → IsCanonical set.ints → has_plain set ≡ true → (set.ints ≡ [] → ⊥) → (s : Scalar) → IsOnlyScalar set s → ⊥
plain_and_int set known e i =
    let w = some_plain set e in let n = some_member set.ints known i in
    two_kinds set w.0 (scalars.Int n.0) w.2 n.1 (omega (arith, w.1))

-- null or a truth value beside a text
pub plain_and_text : (set : ScalarSet) → has_plain set ≡ true → (set.texts ≡ (false, []) → ⊥) → (s : Scalar) → IsOnlyScalar set s → ⊥
plain_and_text set e f =
    let w = some_plain set e in let t = some_text set.texts f in
    two_kinds set w.0 (scalars.Text t.0) w.2 t.1 (omega (arith, w.1))

-- an integer beside a text
pub int_and_text : (set : ScalarSet) → IsCanonical set.ints → (set.ints ≡ [] → ⊥) → (set.texts ≡ (false, []) → ⊥) → (s : Scalar) → IsOnlyScalar set s → ⊥
int_and_text set known i f =
    let n = some_member set.ints known i in let t = some_text set.texts f in
    two_kinds set (scalars.Int n.0) (scalars.Text t.0) n.1 t.1 (omega arith)

no_plain : (set : ScalarSet) → has_plain set ≡ false → (set.null ≡ false) × (set.no ≡ false) × (set.yes ≡ false)
no_plain set e = parts set.null set.no set.yes e

no_int : (set : ScalarSet) → set.ints ≡ [] → (n : ℤ) → members set (scalars.Int n) ≡ false
no_int set e n = ap (λ pieces. is_member pieces n) e

no_text : (set : ScalarSet) → set.texts ≡ (false, []) → (t : List ℕ) → members set (scalars.Text t) ≡ false
no_text set e t = ap (λ texts. is_text_member texts t) e

pub clash : (b : Bool) → b ≡ true → b ≡ false → ⊥
clash b p q = false≢true (sym q ∙ p)

-- the only scalar is a text, where nothing but texts is a member
pub only_text : (set : ScalarSet) → has_plain set ≡ false → set.ints ≡ [] → ((t : List ℕ) → IsOnlyText set.texts t → ⊥) → (s : Scalar) → IsOnlyScalar set s → ⊥
only_text set p e none scalars.Null o = clash _ o.member (no_plain set p).0
only_text set p e none (scalars.Bool false) o = clash _ o.member (no_plain set p).1
only_text set p e none (scalars.Bool true) o = clash _ o.member (no_plain set p).2
only_text set p e none (scalars.Int n) o = clash _ o.member (no_int set e n)
only_text set p e none (scalars.Text t) o = none t (record { member = o.member; only = λ u h. text_same u t (o.only (scalars.Text u) h) }) where
  text_same : (u t : List ℕ) → scalars.Text u ≡ scalars.Text t → u ≡ t
  text_same u t e = cc

-- the only scalar is an integer, where nothing but integers is a member
pub only_int : (set : ScalarSet) → has_plain set ≡ false → set.texts ≡ (false, []) → ((n : ℤ) → IsOnlyMember set.ints n → ⊥) → (s : Scalar) → IsOnlyScalar set s → ⊥
only_int set p e none scalars.Null o = clash _ o.member (no_plain set p).0
only_int set p e none (scalars.Bool false) o = clash _ o.member (no_plain set p).1
only_int set p e none (scalars.Bool true) o = clash _ o.member (no_plain set p).2
only_int set p e none (scalars.Text t) o = clash _ o.member (no_text set e t)
only_int set p e none (scalars.Int n) o = none n (record { member = o.member; only = λ m h. int_same m n (o.only (scalars.Int m) h) }) where
  int_same : (m n : ℤ) → scalars.Int m ≡ scalars.Int n → m ≡ n
  int_same m n e = cc

-- nothing but null and truth values is a member
pub no_only_plain : (set : ScalarSet) → set.ints ≡ [] → set.texts ≡ (false, []) → IfNone (only_of set.null set.no set.yes) ((s : Scalar) → IsOnlyScalar set s → ⊥)
no_only_plain set e f = cases set.null set.no set.yes refl refl refl where
  cases : (a b c : Bool) → set.null ≡ a → set.no ≡ b → set.yes ≡ c → IfNone (only_of a b c) ((s : Scalar) → IsOnlyScalar set s → ⊥)
  cases true false false p q r = tt
  cases false true false p q r = tt
  cases false false true p q r = tt
  cases true true c p q r = two_kinds set scalars.Null (scalars.Bool false) p q (omega arith)
  cases true false true p q r = two_kinds set scalars.Null (scalars.Bool true) p r (omega arith)
  cases false true true p q r = two_kinds set (scalars.Bool false) (scalars.Bool true) q r (omega arith)
  cases false false false p q r = none where
    none : (s : Scalar) → IsOnlyScalar set s → ⊥
    none scalars.Null o = clash _ o.member p
    none (scalars.Bool false) o = clash _ o.member q
    none (scalars.Bool true) o = clash _ o.member r
    none (scalars.Int n) o = clash _ o.member (no_int set e n)
    none (scalars.Text t) o = clash _ o.member (no_text set f t)

-- no member of any kind
pub no_member : (set : ScalarSet) → has_plain set ≡ false → set.ints ≡ [] → set.texts ≡ (false, []) → (s : Scalar) → members set s ≡ false
no_member set p e f scalars.Null = (no_plain set p).0
no_member set p e f (scalars.Bool false) = (no_plain set p).1
no_member set p e f (scalars.Bool true) = (no_plain set p).2
no_member set p e f (scalars.Int n) = no_int set e n
no_member set p e f (scalars.Text t) = no_text set f t

-- where no scalar is a member, neither null nor a truth value is one
pub no_plain_member : (set : ScalarSet) → ((s : Scalar) → members set s ≡ false) → has_plain set ≡ true → ⊥
no_plain_member set h e = let w = some_plain set e in clash _ w.2 (h w.0)

-- where no scalar is a member, the set of texts can't be other than empty
pub no_text_member : (set : ScalarSet) → ((s : Scalar) → members set s ≡ false) → (set.texts ≡ (false, []) → ⊥) → ⊥
no_text_member set h n = let w = some_text set.texts n in clash _ w.1 (h (scalars.Text w.0))

empty_texts : (texts : Bool × List (List ℕ)) → ((t : List ℕ) → is_text_member texts t ≡ false) → texts ≡ (false, [])
empty_texts (false, []) h = refl
empty_texts (false, x ∷ xs) h = absurd (false≢true (sym (h x) ∙ first_is_listed x xs))
empty_texts (true, xs) h =
    let n : ℕ = greatest_length xs + 1 in
    absurd (false≢true (sym (h (zeros n)) ∙ ap not (is_listed-zeros xs n (omega arith))))

-- where no scalar is a member, the set of texts is empty
pub no_text_at_all : (set : ScalarSet) → ((s : Scalar) → members set s ≡ false) → set.texts ≡ (false, [])
no_text_at_all set h = empty_texts set.texts (λ t. h (scalars.Text t))

-- ---- sets that refuse nothing
all_parts : (a b c : Bool) → (a && b && c) ≡ true → (a ≡ true) × (b ≡ true) × (c ≡ true)
all_parts true true c e = (refl, refl, e)
all_parts true false c e = absurd (false≢true e)
all_parts false b c e = absurd (false≢true e)

-- a set that has null and both truth values and refuses no integer and no text refuses no scalar
pub refuses_none : (set : ScalarSet) → (set.null && set.no && set.yes) ≡ true → ((n : ℤ) → ¬ RefusesInteger set.ints n) → ((t : List ℕ) → ¬ RefusesText set.texts t) → (s : Scalar) → ¬ RefusesScalar set s
refuses_none set p e f scalars.Null r = clash _ (all_parts set.null set.no set.yes p).0 r
refuses_none set p e f (scalars.Bool false) r = clash _ (all_parts set.null set.no set.yes p).1 r
refuses_none set p e f (scalars.Bool true) r = clash _ (all_parts set.null set.no set.yes p).2 r
refuses_none set p e f (scalars.Int n) r = e n r
refuses_none set p e f (scalars.Text t) r = f t r

-- a set that refuses no scalar has null and both truth values
pub all_plain : (set : ScalarSet) → ((s : Scalar) → ¬ RefusesScalar set s) → (set.null && set.no && set.yes) ≡ true
all_plain set h = cases set.null set.no set.yes (h scalars.Null) (h (scalars.Bool false)) (h (scalars.Bool true)) where
  cases : (a b c : Bool) → ¬ (a ≡ false) → ¬ (b ≡ false) → ¬ (c ≡ false) → (a && b && c) ≡ true
  cases true true true p q r = refl
  cases false b c p q r = absurd (p refl)
  cases true false c p q r = absurd (q refl)
  cases true true false p q r = absurd (r refl)
