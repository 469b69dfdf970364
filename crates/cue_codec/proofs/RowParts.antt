-- What of a row stands after its level: its bytes tell it.
use Rattle.std.proofs.Common.{◌≡◌, ℕ, ◌≤◌, Bool, true, false, List, ◌∷◌, ◌++◌, length, Option, refl, sym, ap, ◌∙◌, append_assoc, arith}
use Rattle.std.proofs.lemmas.Bool.{false≢true}
use Rattle.cue_scalars.specs.declared.scalar_set.ScalarSet.{ScalarSet}
use Rattle.cue_row.specs.declared.level.Level.{Level}
use Rattle.cue_row.specs.declared.parts.RowParts.{RowParts as Row}
use Rattle.cue_codec.specs.declared.version.Version.{Version}
use Rattle.cue_codec.specs.Parts.{Lengths, set_bytes, labels_bytes, lengths_bytes}
use Rattle.cue_codec.specs.Reading.{ReadsItem, ReadsNoItem, AreWideLengths}
use Rattle.cue_codec.specs.StateRow.{IsStateSet, AreStateLabels}
use Rattle.cue_codec.specs.RowBytes.{RowPart, free, scalar, struct, list, nothing, scalars_bytes, left_out_bytes, row_part_bytes, is_no_scalar, parts_by, parts_of_row, fixed_by, row_of_parts, AreScalarParts, AreLeftOut, IsStateParts, ReadsPart}
use Rattle.cue_codec.proofs.Codes.{OneItem}
use Rattle.cue_codec.proofs.Numbers.{one_lengths}
use Rattle.cue_codec.proofs.StateSets.{heads, tails, no_byte, one_set, one_labels}

-- ---- two sets

scalars_parts : (sets : ScalarSet × ScalarSet) (r : List ℕ) → scalars_bytes sets ++ r ≡ set_bytes sets.0 ++ (set_bytes sets.1 ++ r)
unfolding scalars_bytes
scalars_parts sets r = append_assoc (set_bytes sets.0) (set_bytes sets.1) r

one_scalars : OneItem AreScalarParts scalars_bytes
one_scalars a b r s p q e =
    let f = one_set a.0 b.0 (set_bytes a.1 ++ r) (set_bytes b.1 ++ s) p.value q.value (sym (scalars_parts a r) ∙ e ∙ scalars_parts b s) in
    let g = one_set a.1 b.1 r s p.usual q.usual f.1 in
    (λ i. (f.0 i, g.0 i), g.1)

pub scalars_first : (bytes : List ℕ) → ReadsNoItem IsStateSet set_bytes bytes → ReadsNoItem AreScalarParts scalars_bytes bytes
scalars_first bytes none = λ sets s h e. none sets.0 (set_bytes sets.1 ++ s) h.value (e ∙ scalars_parts sets s)

pub scalars_none : (bytes rest : List ℕ) (value : ScalarSet) → ReadsItem IsStateSet set_bytes value bytes rest → is_no_scalar value ≡ true → ReadsNoItem AreScalarParts scalars_bytes bytes
scalars_none bytes rest value b empty = λ sets s h e.
    let f = one_set value sets.0 rest (set_bytes sets.1 ++ s) b.value h.value (sym b.parts ∙ e ∙ scalars_parts sets s) in
    false≢true (sym (ap (λ (x : ScalarSet). is_no_scalar x) f.0 ∙ h.some) ∙ empty)

pub scalars_second : (bytes rest : List ℕ) (value : ScalarSet) → ReadsItem IsStateSet set_bytes value bytes rest → ReadsNoItem IsStateSet set_bytes rest → ReadsNoItem AreScalarParts scalars_bytes bytes
scalars_second bytes rest value b none = λ sets s h e.
    let f = one_set value sets.0 rest (set_bytes sets.1 ++ s) b.value h.value (sym b.parts ∙ e ∙ scalars_parts sets s) in
    none sets.1 s h.usual f.1

pub scalars_found : (bytes middle rest : List ℕ) (value usual : ScalarSet) → ReadsItem IsStateSet set_bytes value bytes middle → is_no_scalar value ≡ false → ReadsItem IsStateSet set_bytes usual middle rest → ReadsItem AreScalarParts scalars_bytes (value, usual) bytes rest
scalars_found bytes middle rest value usual a some b = record {
  value = record { some = some; value = a.value; usual = b.value };
  parts = a.parts ∙ ap (λ (x : List ℕ). set_bytes value ++ x) b.parts ∙ sym (scalars_parts (value, usual) rest);
}

-- ---- labels and lengths

left_out_parts : (version : Version) (parts : Option (List (List ℕ)) × Lengths) (r : List ℕ) → left_out_bytes version parts ++ r ≡ labels_bytes parts.0 ++ (lengths_bytes version parts.1 ++ r)
unfolding left_out_bytes
left_out_parts version parts r = append_assoc (labels_bytes parts.0) (lengths_bytes version parts.1) r

one_left_out : (version : Version) → OneItem (AreLeftOut version) (left_out_bytes version)
one_left_out version a b r s p q e =
    let f = one_labels a.0 b.0 (lengths_bytes version a.1 ++ r) (lengths_bytes version b.1 ++ s) p.0 q.0 (sym (left_out_parts version a r) ∙ e ∙ left_out_parts version b s) in
    let g = one_lengths version a.1 b.1 r s p.1 q.1 f.1 in
    (λ i. (f.0 i, g.0 i), g.1)

pub left_out_first : (version : Version) (bytes : List ℕ) → ReadsNoItem AreStateLabels labels_bytes bytes → ReadsNoItem (AreLeftOut version) (left_out_bytes version) bytes
left_out_first version bytes none = λ parts s h e. none parts.0 (lengths_bytes version parts.1 ++ s) h.0 (e ∙ left_out_parts version parts s)

pub left_out_second : (version : Version) (bytes rest : List ℕ) (labels : Option (List (List ℕ))) → ReadsItem AreStateLabels labels_bytes labels bytes rest → ReadsNoItem (AreWideLengths version) (lengths_bytes version) rest → ReadsNoItem (AreLeftOut version) (left_out_bytes version) bytes
left_out_second version bytes rest labels b none = λ parts s h e.
    let f = one_labels labels parts.0 rest (lengths_bytes version parts.1 ++ s) b.value h.0 (sym b.parts ∙ e ∙ left_out_parts version parts s) in
    none parts.1 s h.1 f.1

pub left_out_found : (version : Version) (bytes middle rest : List ℕ) (labels : Option (List (List ℕ))) (lengths : Lengths) → ReadsItem AreStateLabels labels_bytes labels bytes middle → ReadsItem (AreWideLengths version) (lengths_bytes version) lengths middle rest
    → ReadsItem (AreLeftOut version) (left_out_bytes version) (labels, lengths) bytes rest
left_out_found version bytes middle rest labels lengths a b = record {
  value = (a.value, b.value);
  parts = a.parts ∙ ap (λ (x : List ℕ). labels_bytes labels ++ x) b.parts ∙ sym (left_out_parts version (labels, lengths) rest);
}

-- ---- the kinds

-- a kind and its parts in front tell themselves and the rest
pub one_parts : (version : Version) → OneItem (IsStateParts version) (row_part_bytes version)
unfolding row_part_bytes
one_parts version free free r s p q e = (refl, tails 0 0 _ _ e)
one_parts version free (scalar v2 u2) r s p q e = absurd (omega (arith, heads 0 1 _ _ e))
one_parts version free (struct l2) r s p q e = absurd (omega (arith, heads 0 2 _ _ e))
one_parts version free (list n2) r s p q e = absurd (omega (arith, heads 0 3 _ _ e))
one_parts version free (nothing l2 n2) r s p q e = absurd (omega (arith, heads 0 4 _ _ e))
one_parts version (scalar v1 u1) free r s p q e = absurd (omega (arith, heads 1 0 _ _ e))
one_parts version (scalar v1 u1) (scalar v2 u2) r s p q e =
    let f = one_scalars (v1, u1) (v2, u2) r s p q (tails 1 1 _ _ e) in (ap (λ (t : ScalarSet × ScalarSet). scalar t.0 t.1) f.0, f.1)
one_parts version (scalar v1 u1) (struct l2) r s p q e = absurd (omega (arith, heads 1 2 _ _ e))
one_parts version (scalar v1 u1) (list n2) r s p q e = absurd (omega (arith, heads 1 3 _ _ e))
one_parts version (scalar v1 u1) (nothing l2 n2) r s p q e = absurd (omega (arith, heads 1 4 _ _ e))
one_parts version (struct l1) free r s p q e = absurd (omega (arith, heads 2 0 _ _ e))
one_parts version (struct l1) (scalar v2 u2) r s p q e = absurd (omega (arith, heads 2 1 _ _ e))
one_parts version (struct l1) (struct l2) r s p q e = let f = one_labels l1 l2 r s p q (tails 2 2 _ _ e) in (ap (λ (t : Option (List (List ℕ))). struct t) f.0, f.1)
one_parts version (struct l1) (list n2) r s p q e = absurd (omega (arith, heads 2 3 _ _ e))
one_parts version (struct l1) (nothing l2 n2) r s p q e = absurd (omega (arith, heads 2 4 _ _ e))
one_parts version (list n1) free r s p q e = absurd (omega (arith, heads 3 0 _ _ e))
one_parts version (list n1) (scalar v2 u2) r s p q e = absurd (omega (arith, heads 3 1 _ _ e))
one_parts version (list n1) (struct l2) r s p q e = absurd (omega (arith, heads 3 2 _ _ e))
one_parts version (list n1) (list n2) r s p q e = let f = one_lengths version n1 n2 r s p q (tails 3 3 _ _ e) in (ap (λ (t : Lengths). list t) f.0, f.1)
one_parts version (list n1) (nothing l2 n2) r s p q e = absurd (omega (arith, heads 3 4 _ _ e))
one_parts version (nothing l1 n1) free r s p q e = absurd (omega (arith, heads 4 0 _ _ e))
one_parts version (nothing l1 n1) (scalar v2 u2) r s p q e = absurd (omega (arith, heads 4 1 _ _ e))
one_parts version (nothing l1 n1) (struct l2) r s p q e = absurd (omega (arith, heads 4 2 _ _ e))
one_parts version (nothing l1 n1) (list n2) r s p q e = absurd (omega (arith, heads 4 3 _ _ e))
one_parts version (nothing l1 n1) (nothing l2 n2) r s p q e =
    let f = one_left_out version (l1, n1) (l2, n2) r s p q (tails 4 4 _ _ e) in (ap (λ (t : Option (List (List ℕ)) × Lengths). nothing t.0 t.1) f.0, f.1)

pub parts_empty : (version : Version) (bytes : List ℕ) → length bytes ≡ 0 → ReadsNoItem (IsStateParts version) (row_part_bytes version) bytes
unfolding row_part_bytes
parts_empty version bytes none free s h e = no_byte bytes 0 _ none e
parts_empty version bytes none (scalar v u) s h e = no_byte bytes 1 _ none e
parts_empty version bytes none (struct l) s h e = no_byte bytes 2 _ none e
parts_empty version bytes none (list n) s h e = no_byte bytes 3 _ none e
parts_empty version bytes none (nothing l n) s h e = no_byte bytes 4 _ none e

pub parts_scalar : (version : Version) (bytes rest : List ℕ) (tag : ℕ) → bytes ≡ tag ∷ rest → tag ≡ 1 → ReadsNoItem AreScalarParts scalars_bytes rest → ReadsNoItem (IsStateParts version) (row_part_bytes version) bytes
unfolding row_part_bytes
parts_scalar version bytes rest tag is same none free s h e = omega (arith, same, heads tag 0 rest _ (sym is ∙ e))
parts_scalar version bytes rest tag is same none (scalar v u) s h e = none (v, u) s h (tails tag 1 rest _ (sym is ∙ e))
parts_scalar version bytes rest tag is same none (struct l) s h e = omega (arith, same, heads tag 2 rest _ (sym is ∙ e))
parts_scalar version bytes rest tag is same none (list n) s h e = omega (arith, same, heads tag 3 rest _ (sym is ∙ e))
parts_scalar version bytes rest tag is same none (nothing l n) s h e = omega (arith, same, heads tag 4 rest _ (sym is ∙ e))

pub parts_struct : (version : Version) (bytes rest : List ℕ) (tag : ℕ) → bytes ≡ tag ∷ rest → tag ≡ 2 → ReadsNoItem AreStateLabels labels_bytes rest → ReadsNoItem (IsStateParts version) (row_part_bytes version) bytes
unfolding row_part_bytes
parts_struct version bytes rest tag is same none free s h e = omega (arith, same, heads tag 0 rest _ (sym is ∙ e))
parts_struct version bytes rest tag is same none (scalar v u) s h e = omega (arith, same, heads tag 1 rest _ (sym is ∙ e))
parts_struct version bytes rest tag is same none (struct l) s h e = none l s h (tails tag 2 rest _ (sym is ∙ e))
parts_struct version bytes rest tag is same none (list n) s h e = omega (arith, same, heads tag 3 rest _ (sym is ∙ e))
parts_struct version bytes rest tag is same none (nothing l n) s h e = omega (arith, same, heads tag 4 rest _ (sym is ∙ e))

pub parts_list : (version : Version) (bytes rest : List ℕ) (tag : ℕ) → bytes ≡ tag ∷ rest → tag ≡ 3 → ReadsNoItem (AreWideLengths version) (lengths_bytes version) rest → ReadsNoItem (IsStateParts version) (row_part_bytes version) bytes
unfolding row_part_bytes
parts_list version bytes rest tag is same none free s h e = omega (arith, same, heads tag 0 rest _ (sym is ∙ e))
parts_list version bytes rest tag is same none (scalar v u) s h e = omega (arith, same, heads tag 1 rest _ (sym is ∙ e))
parts_list version bytes rest tag is same none (struct l) s h e = omega (arith, same, heads tag 2 rest _ (sym is ∙ e))
parts_list version bytes rest tag is same none (list n) s h e = none n s h (tails tag 3 rest _ (sym is ∙ e))
parts_list version bytes rest tag is same none (nothing l n) s h e = omega (arith, same, heads tag 4 rest _ (sym is ∙ e))

pub parts_nothing : (version : Version) (bytes rest : List ℕ) (tag : ℕ) → bytes ≡ tag ∷ rest → tag ≡ 4 → ReadsNoItem (AreLeftOut version) (left_out_bytes version) rest → ReadsNoItem (IsStateParts version) (row_part_bytes version) bytes
unfolding row_part_bytes
parts_nothing version bytes rest tag is same none free s h e = omega (arith, same, heads tag 0 rest _ (sym is ∙ e))
parts_nothing version bytes rest tag is same none (scalar v u) s h e = omega (arith, same, heads tag 1 rest _ (sym is ∙ e))
parts_nothing version bytes rest tag is same none (struct l) s h e = omega (arith, same, heads tag 2 rest _ (sym is ∙ e))
parts_nothing version bytes rest tag is same none (list n) s h e = omega (arith, same, heads tag 3 rest _ (sym is ∙ e))
parts_nothing version bytes rest tag is same none (nothing l n) s h e = none (l, n) s h (tails tag 4 rest _ (sym is ∙ e))

pub parts_tag : (version : Version) (bytes rest : List ℕ) (tag : ℕ) → bytes ≡ tag ∷ rest → 5 ≤ tag → ReadsNoItem (IsStateParts version) (row_part_bytes version) bytes
unfolding row_part_bytes
parts_tag version bytes rest tag is same free s h e = omega (arith, same, heads tag 0 rest _ (sym is ∙ e))
parts_tag version bytes rest tag is same (scalar v u) s h e = omega (arith, same, heads tag 1 rest _ (sym is ∙ e))
parts_tag version bytes rest tag is same (struct l) s h e = omega (arith, same, heads tag 2 rest _ (sym is ∙ e))
parts_tag version bytes rest tag is same (list n) s h e = omega (arith, same, heads tag 3 rest _ (sym is ∙ e))
parts_tag version bytes rest tag is same (nothing l n) s h e = omega (arith, same, heads tag 4 rest _ (sym is ∙ e))

free_begins : (version : Version) (bytes rest : List ℕ) (tag : ℕ) → bytes ≡ tag ∷ rest → tag ≡ 0 → ReadsItem (IsStateParts version) (row_part_bytes version) free bytes rest
unfolding row_part_bytes
free_begins version bytes rest tag is same = record { value = tt; parts = is ∙ ap (λ (k : ℕ). k ∷ rest) same }

pub free_found : (version : Version) (bytes rest : List ℕ) (tag : ℕ) (level : Level) (row : Row) (fixed : ℕ) → bytes ≡ tag ∷ rest → tag ≡ 0 → row ≡ row_of_parts level free → fixed ≡ 0 → ReadsPart (λ parts. parts) (IsStateParts version) (row_part_bytes version) level row fixed bytes rest
free_found version bytes rest tag level row fixed is same says zero = record { item = free; says = says; fixed_is = zero; begins = free_begins version bytes rest tag is same }

pub scalar_found : (version : Version) (bytes rest after : List ℕ) (tag : ℕ) (level : Level) (row : Row) (fixed : ℕ) → bytes ≡ tag ∷ rest → tag ≡ 1 → ReadsPart (λ sets. scalar sets.0 sets.1) AreScalarParts scalars_bytes level row fixed rest after → ReadsPart (λ parts. parts) (IsStateParts version) (row_part_bytes version) level row fixed bytes after
unfolding row_part_bytes
scalar_found version bytes rest after tag level row fixed is same r =
    record { item = scalar r.item.0 r.item.1; says = r.says; fixed_is = r.fixed_is; begins = record { value = r.begins.value; parts = is ∙ ap (λ (k : ℕ). k ∷ rest) same ∙ ap (λ (x : List ℕ). 1 ∷ x) r.begins.parts } }

pub struct_found : (version : Version) (bytes rest after : List ℕ) (tag : ℕ) (level : Level) (row : Row) (fixed : ℕ) → bytes ≡ tag ∷ rest → tag ≡ 2 → ReadsPart struct AreStateLabels labels_bytes level row fixed rest after → ReadsPart (λ parts. parts) (IsStateParts version) (row_part_bytes version) level row fixed bytes after
unfolding row_part_bytes
struct_found version bytes rest after tag level row fixed is same r =
    record { item = struct r.item; says = r.says; fixed_is = r.fixed_is; begins = record { value = r.begins.value; parts = is ∙ ap (λ (k : ℕ). k ∷ rest) same ∙ ap (λ (x : List ℕ). 2 ∷ x) r.begins.parts } }

pub list_found : (version : Version) (bytes rest after : List ℕ) (tag : ℕ) (level : Level) (row : Row) (fixed : ℕ) → bytes ≡ tag ∷ rest → tag ≡ 3 → ReadsPart list (AreWideLengths version) (lengths_bytes version) level row fixed rest after → ReadsPart (λ parts. parts) (IsStateParts version) (row_part_bytes version) level row fixed bytes after
unfolding row_part_bytes
list_found version bytes rest after tag level row fixed is same r =
    record { item = list r.item; says = r.says; fixed_is = r.fixed_is; begins = record { value = r.begins.value; parts = is ∙ ap (λ (k : ℕ). k ∷ rest) same ∙ ap (λ (x : List ℕ). 3 ∷ x) r.begins.parts } }

pub nothing_found : (version : Version) (bytes rest after : List ℕ) (tag : ℕ) (level : Level) (row : Row) (fixed : ℕ) → bytes ≡ tag ∷ rest → tag ≡ 4 → ReadsPart (λ parts. nothing parts.0 parts.1) (AreLeftOut version) (left_out_bytes version) level row fixed rest after
    → ReadsPart (λ parts. parts) (IsStateParts version) (row_part_bytes version) level row fixed bytes after
unfolding row_part_bytes
nothing_found version bytes rest after tag level row fixed is same r =
    record { item = nothing r.item.0 r.item.1; says = r.says; fixed_is = r.fixed_is; begins = record { value = r.begins.value; parts = is ∙ ap (λ (k : ℕ). k ∷ rest) same ∙ ap (λ (x : List ℕ). 4 ∷ x) r.begins.parts } }

-- what a row of these parts says is these parts
pub parts_said : (version : Version) (level : Level) (parts : RowPart) → IsStateParts version parts → parts_of_row (row_of_parts level parts) (fixed_by parts) ≡ parts
parts_said version level free h = refl
parts_said version level (scalar v u) h = ap (λ (b : Bool). parts_by false false b (row_of_parts level (scalar v u)) 0) h.some
parts_said version level (struct l) h = refl
parts_said version level (list n) h = refl
parts_said version level (nothing l n) h = refl
