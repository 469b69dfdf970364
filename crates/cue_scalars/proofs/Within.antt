-- When all members of a set of scalars are members of another.
use Rattle.std.proofs.Common.{◌≡◌, ℕ, ℤ, Bool, true, false, not, ◌&&◌, ◌||◌, List, refl}
use Rattle.std.proofs.lemmas.Bool.{false≢true}
use Rattle.cue_lattice.specs.declared.scalar.Scalar.TheVariants as scalars
use Rattle.cue_sets.specs.Pieces.{is_member}
use Rattle.cue_sets.specs.Texts.{is_text_member}
use Rattle.cue_scalars.specs.declared.scalar_set.ScalarSet.{ScalarSet}
use Rattle.cue_scalars.specs.Scalars.{IsScalarsWithin}

-- whether null and the truth values of the small set are in the large one
abbrev pub plain_within : ScalarSet → ScalarSet → Bool
plain_within a b = (not a.null || b.null) && (not a.no || b.no) && (not a.yes || b.yes)

implied : (a b : Bool) → (not a || b) ≡ true → a ≡ true → b ≡ true
implied true b h e = h
implied false b h e = absurd (false≢true e)

implies : (a b : Bool) → (a ≡ true → b ≡ true) → (not a || b) ≡ true
implies true b h = h refl
implies false b h = refl

each_of : (a b c : Bool) → (a && b && c) ≡ true → (a ≡ true) × (b ≡ true) × (c ≡ true)
each_of true true true h = (refl, refl, refl)
each_of true true false h = absurd (false≢true h)
each_of true false c h = absurd (false≢true h)
each_of false b c h = absurd (false≢true h)

all_of : (a b c : Bool) → a ≡ true → b ≡ true → c ≡ true → (a && b && c) ≡ true
all_of a b c p q r = rw (p, q, r) refl

-- the parts of a set within those of another
pub within_from_parts :
    (a b : ScalarSet) → plain_within a b ≡ true → ((n : ℤ) → is_member a.ints n ≡ true → is_member b.ints n ≡ true)
    → ((t : List ℕ) → is_text_member a.texts t ≡ true → is_text_member b.texts t ≡ true) → IsScalarsWithin a b
within_from_parts a b plain ints texts scalars.Null m = implied a.null b.null (each_of (not a.null || b.null) (not a.no || b.no) (not a.yes || b.yes) plain).0 m
within_from_parts a b plain ints texts (scalars.Bool false) m = implied a.no b.no (each_of (not a.null || b.null) (not a.no || b.no) (not a.yes || b.yes) plain).1 m
within_from_parts a b plain ints texts (scalars.Bool true) m = implied a.yes b.yes (each_of (not a.null || b.null) (not a.no || b.no) (not a.yes || b.yes) plain).2 m
within_from_parts a b plain ints texts (scalars.Int n) m = ints n m
within_from_parts a b plain ints texts (scalars.Text t) m = texts t m

-- where all members are members of another set, so are null and the truth values among them
pub plain_from_within : (a b : ScalarSet) → IsScalarsWithin a b → plain_within a b ≡ true
plain_from_within a b h =
    all_of (not a.null || b.null) (not a.no || b.no) (not a.yes || b.yes)
    (implies a.null b.null (h scalars.Null)) (implies a.no b.no (h (scalars.Bool false))) (implies a.yes b.yes (h (scalars.Bool true)))
