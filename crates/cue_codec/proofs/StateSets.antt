-- Sets of texts, sets of scalars and labels: their bytes tell them.
use Rattle.std.proofs.Common.{◌≡◌, ℕ, ◌-◌, ◌<◌, ◌≤◌, ℤ, Bool, true, false, List, [], ◌∷◌, ◌++◌, length, get_or, take, drop, Option, Some, None, refl, sym, ap, subst, ◌∙◌, append_assoc, arith}
use Rattle.std.specs.Int.{w64, to_be_bytes, cast_signed, cast_unsigned}
use Rattle.std.specs.List.{flat_map}
use Rattle.std.proofs.lemmas.List.{append-nil, take_at, length-append}
use Rattle.std.proofs.lemmas.List.Concat.{flat_map-cons}
use Rattle.cue_sets.specs.Pieces.{IsCanonical}
use Rattle.cue_sets.specs.Texts.{IsAscending}
use Rattle.cue_scalars.specs.declared.scalar_set.ScalarSet.{ScalarSet}
use Rattle.cue_row.specs.Kept.{text_set}
use Rattle.cue_codec.specs.Parts.{bit, flags, counted_bytes, piece_bytes, text_bytes, text_set_bytes, set_bytes, labels_bytes}
use Rattle.cue_codec.specs.Reading.{ReadsItem, ReadsNoItem, IsPieceBytes, IsWord, AreCounted}
use Rattle.cue_codec.specs.Inner.Reading.{AreSo}
use Rattle.cue_codec.specs.StateRow.{IsStateIntegers, AreStateTexts, IsStateTexts, IsStateSet, AreStateLabels}
use Rattle.cue_codec.proofs.Codes.{OneItem, one_counted, counted_found}
use Rattle.cue_codec.proofs.Numbers.{one_text}
use Rattle.cue_codec.proofs.SetLaws.{one_integers, integers_found, one_piece_alone}

bit_small : (b : Bool) → bit b ≤ 1
bit_small false = omega arith
bit_small true = omega arith

bit_inj : (a b : Bool) → bit a ≡ bit b → a ≡ b
bit_inj false false e = refl
bit_inj false true e = absurd (omega (arith, e))
bit_inj true false e = absurd (omega (arith, e))
bit_inj true true e = refl

-- bytes that begin alike
pub heads : (m n : ℕ) (r s : List ℕ) → m ∷ r ≡ n ∷ s → m ≡ n
heads m n r s e = ap (λ (t : List ℕ). get_or t 0 0) e

pub tails : (m n : ℕ) (r s : List ℕ) → m ∷ r ≡ n ∷ s → r ≡ s
tails m n r s e = ap (λ (t : List ℕ). drop 1 t) e

-- no byte stands where one is wanted
pub no_byte : (bytes : List ℕ) (n : ℕ) (r : List ℕ) → length bytes ≡ 0 → bytes ≡ n ∷ r → ⊥
no_byte bytes n r none e = omega (arith, none, ap length e)

-- ---- texts

-- texts in their order in front tell themselves and the rest
one_texts : OneItem AreStateTexts (counted_bytes text_bytes)
one_texts a b r s p q e = one_counted IsWord text_bytes one_text a b r s p.1 q.1 e

texts_none : (bytes : List ℕ) → ReadsNoItem (AreCounted IsWord) (counted_bytes text_bytes) bytes → ReadsNoItem AreStateTexts (counted_bytes text_bytes) bytes
texts_none bytes none = λ ts s h e. none ts s h.1 e

texts_other : (texts : List (List ℕ)) (bytes rest : List ℕ) → ReadsItem (AreCounted IsWord) (counted_bytes text_bytes) texts bytes rest → (IsAscending texts → ⊥) → ReadsNoItem AreStateTexts (counted_bytes text_bytes) bytes
texts_other texts bytes rest b bad = λ ts s h e.
    bad (subst IsAscending (sym (one_counted IsWord text_bytes one_text texts ts rest s b.value h.1 (sym b.parts ∙ e)).0) h.0)

-- a set of texts in front tells itself and the rest
pub one_text_set : OneItem IsStateTexts text_set_bytes
unfolding text_set_bytes
one_text_set a b r s p q e =
    let first = bit_inj a.0 b.0 (heads (bit a.0) (bit b.0) _ _ e) in
    let texts = one_texts a.1 b.1 r s p q (tails (bit a.0) (bit b.0) _ _ e) in
    (λ i. (first i, texts.0 i), texts.1)

pub text_set_empty : (bytes : List ℕ) → length bytes ≡ 0 → ReadsNoItem IsStateTexts text_set_bytes bytes
unfolding text_set_bytes
text_set_empty bytes none = λ set s h e. no_byte bytes (bit set.0) _ none e

pub text_set_tag : (bytes rest : List ℕ) (tag : ℕ) → bytes ≡ tag ∷ rest → 1 < tag → ReadsNoItem IsStateTexts text_set_bytes bytes
unfolding text_set_bytes
text_set_tag bytes rest tag is more = λ set s h e. omega (arith, more, bit_small set.0, heads tag (bit set.0) rest _ (sym is ∙ e))

pub text_set_rest : (bytes rest : List ℕ) (tag : ℕ) → bytes ≡ tag ∷ rest → ReadsNoItem (AreCounted IsWord) (counted_bytes text_bytes) rest → ReadsNoItem IsStateTexts text_set_bytes bytes
unfolding text_set_bytes
text_set_rest bytes rest tag is none = λ set s h e. texts_none rest none set.1 s h (tails tag (bit set.0) rest _ (sym is ∙ e))

pub text_set_other : (bytes rest after : List ℕ) (tag : ℕ) (texts : List (List ℕ)) → bytes ≡ tag ∷ rest → ReadsItem (AreCounted IsWord) (counted_bytes text_bytes) texts rest after → (IsAscending texts → ⊥) → ReadsNoItem IsStateTexts text_set_bytes bytes
unfolding text_set_bytes
text_set_other bytes rest after tag texts is b bad = λ set s h e. texts_other texts rest after b bad set.1 s h (tails tag (bit set.0) rest _ (sym is ∙ e))

pub text_set_found : (bytes rest after : List ℕ) (tag : ℕ) (all_but : Bool) (texts : List (List ℕ)) (set : Bool × List (List ℕ)) → bytes ≡ tag ∷ rest → bit all_but ≡ tag
    → ReadsItem (AreCounted IsWord) (counted_bytes text_bytes) texts rest after → set ≡ (all_but, texts) → IsAscending set.1 → ReadsItem IsStateTexts text_set_bytes set bytes after
unfolding text_set_bytes
text_set_found bytes rest after tag all_but texts set is t b same h =
    let found : ReadsItem IsStateTexts text_set_bytes (all_but, texts) bytes after = record {
      value = (subst (λ (x : Bool × List (List ℕ)). IsAscending x.1) same h, b.value);
      parts = is ∙ ap (λ (k : ℕ). k ∷ rest) (sym t) ∙ ap (λ (x : List ℕ). bit all_but ∷ x) b.parts;
    } in
    subst (λ (x : Bool × List (List ℕ)). ReadsItem IsStateTexts text_set_bytes x bytes after) (sym same) found

-- ---- scalars

flags_inj : (a b c d e f : Bool) → flags a b c ≡ flags d e f → (a ≡ d) × (b ≡ e) × (c ≡ f)
flags_inj a b c d e f same =
    let la = bit_small a in
    let lb = bit_small b in
    let lc = bit_small c in
    let ld = bit_small d in
    let le = bit_small e in
    let lf = bit_small f in
    (bit_inj a d (omega (arith, same)), bit_inj b e (omega (arith, same)), bit_inj c f (omega (arith, same)))

flags_small : (a b c : Bool) → flags a b c ≤ 7
flags_small a b c = omega (arith, bit_small a, bit_small b, bit_small c)

set_parts : (set : ScalarSet) (r : List ℕ) → set_bytes set ++ r ≡ flags set.null set.no set.yes ∷ (counted_bytes piece_bytes set.ints ++ (text_set_bytes set.texts ++ r))
unfolding set_bytes
set_parts set r = ap (λ (x : List ℕ). flags set.null set.no set.yes ∷ x) (append_assoc (counted_bytes piece_bytes set.ints) (text_set_bytes set.texts) r)

-- a set of scalars in front tells itself and the rest
pub one_set : OneItem IsStateSet set_bytes
one_set a b r s p q e =
    let whole = sym (set_parts a r) ∙ e ∙ set_parts b s in
    let plain = flags_inj a.null a.no a.yes b.null b.no b.yes (heads _ _ _ _ whole) in
    let ints = one_integers a.ints b.ints (text_set_bytes a.texts ++ r) (text_set_bytes b.texts ++ s) p.ints q.ints (tails _ _ _ _ whole) in
    let texts = one_text_set a.texts b.texts r s p.texts q.texts ints.1 in
    (λ i. record { null = plain.0 i; no = plain.1 i; yes = plain.2 i; ints = ints.0 i; texts = texts.0 i }, texts.1)

pub set_empty : (bytes : List ℕ) → length bytes ≡ 0 → ReadsNoItem IsStateSet set_bytes bytes
set_empty bytes none = λ set s h e. no_byte bytes _ _ none (e ∙ set_parts set s)

pub set_tag : (bytes rest : List ℕ) (tag : ℕ) → bytes ≡ tag ∷ rest → 7 < tag → ReadsNoItem IsStateSet set_bytes bytes
set_tag bytes rest tag is more = λ set s h e. omega (arith, more, flags_small set.null set.no set.yes, heads tag (flags set.null set.no set.yes) rest _ (sym is ∙ e ∙ set_parts set s))

pub set_ints : (bytes rest : List ℕ) (tag : ℕ) → bytes ≡ tag ∷ rest → ReadsNoItem IsStateIntegers (counted_bytes piece_bytes) rest → ReadsNoItem IsStateSet set_bytes bytes
set_ints bytes rest tag is none = λ set s h e. none set.ints (text_set_bytes set.texts ++ s) h.ints (tails tag _ rest _ (sym is ∙ e ∙ set_parts set s))

pub set_texts : (bytes rest after : List ℕ) (tag : ℕ) (ints : List (ℤ × ℤ)) → bytes ≡ tag ∷ rest → ReadsItem IsStateIntegers (counted_bytes piece_bytes) ints rest after → ReadsNoItem IsStateTexts text_set_bytes after → ReadsNoItem IsStateSet set_bytes bytes
set_texts bytes rest after tag ints is b none = λ set s h e.
    let behind = one_integers ints set.ints after (text_set_bytes set.texts ++ s) b.value h.ints (sym b.parts ∙ tails tag _ rest _ (sym is ∙ e ∙ set_parts set s)) in
    none set.texts s h.texts behind.1

pub set_found : (bytes rest after end : List ℕ) (tag : ℕ) (set : ScalarSet) → bytes ≡ tag ∷ rest → flags set.null set.no set.yes ≡ tag → ReadsItem IsStateIntegers (counted_bytes piece_bytes) set.ints rest after
    → ReadsItem IsStateTexts text_set_bytes set.texts after end → ReadsItem IsStateSet set_bytes set bytes end
set_found bytes rest after end tag set is t a b = record {
  value = record { ints = a.value; texts = b.value };
  parts = is ∙ ap (λ (k : ℕ). k ∷ rest) (sym t) ∙ ap (λ (x : List ℕ). flags set.null set.no set.yes ∷ x) (a.parts ∙ ap (λ (x : List ℕ). counted_bytes piece_bytes set.ints ++ x) b.parts) ∙ sym (set_parts set end);
}

-- no text
no_text_found : (bytes rest : List ℕ) (set : Bool × List (List ℕ)) → bytes ≡ 0 ∷ (to_be_bytes w64 0 ++ rest) → set ≡ (false, []) → ReadsItem IsStateTexts text_set_bytes set bytes rest
no_text_found bytes rest set is same =
    let none : ReadsItem (AreSo IsWord 0) (flat_map text_bytes) [] rest rest = record { value = (refl, tt); parts = refl } in
    let counted = counted_found IsWord text_bytes 0 [] (to_be_bytes w64 0 ++ rest) rest rest (omega arith) refl none in
    text_set_found bytes (to_be_bytes w64 0 ++ rest) rest 0 false [] set is refl counted same (subst (λ (x : Bool × List (List ℕ)). IsAscending x.1) (sym same) tt)

-- one piece and nothing else, by its fixed words
pub piece_set_found :
    (bytes middle behind rest : List ℕ) (first last : ℤ) (ints : List (ℤ × ℤ)) (texts : Bool × List (List ℕ)) → bytes ≡ 0 ∷ (to_be_bytes w64 1 ++ middle) → ReadsItem IsPieceBytes piece_bytes (first, last) middle behind
    → behind ≡ 0 ∷ (to_be_bytes w64 0 ++ rest) → ints ≡ (cast_signed w64 (cast_unsigned w64 first), cast_signed w64 (cast_unsigned w64 last)) ∷ [] → IsCanonical ints → texts ≡ (false, [])
    → ReadsItem IsStateSet set_bytes (record { null = false; no = false; yes = false; ints = ints; texts = texts }) bytes rest
piece_set_found bytes middle behind rest first last ints texts is b after made canonical none =
    set_found bytes (to_be_bytes w64 1 ++ middle) behind rest 0 (record { null = false; no = false; yes = false; ints = ints; texts = texts }) is refl
    (one_piece_alone (to_be_bytes w64 1 ++ middle) middle behind first last ints refl b made canonical) (no_text_found behind rest texts after none)

-- the same bytes again tell the same set
pub set_again : (bytes behind rest : List ℕ) (set : ScalarSet) → behind ≡ take (length bytes - length behind) bytes ++ rest → ReadsItem IsStateSet set_bytes set bytes behind → ReadsItem IsStateSet set_bytes set behind rest
set_again bytes behind rest set again b =
    let len : length bytes - length behind ≡ length (set_bytes set) = omega (arith, ap length b.parts, length-append (set_bytes set) behind) in
    let told : take (length bytes - length behind) bytes ≡ set_bytes set = ap (λ n. take n bytes) len ∙ ap (λ (x : List ℕ). take (length (set_bytes set)) x) b.parts ∙ take_at (set_bytes set) behind (length (set_bytes set)) refl in
    record { value = b.value; parts = again ∙ ap (λ (x : List ℕ). x ++ rest) told }

-- one text and nothing else, by its fixed words
pub text_alone_found : (bytes middle behind rest : List ℕ) (text : List ℕ) → bytes ≡ 0 ∷ (to_be_bytes w64 0 ++ middle) → middle ≡ 0 ∷ (to_be_bytes w64 1 ++ behind) → ReadsItem IsWord text_bytes text behind rest
    → ReadsItem IsStateSet set_bytes (text_set text) bytes rest
text_alone_found bytes middle behind rest text is after b =
    let none : ReadsItem (AreSo IsPieceBytes 0) (flat_map piece_bytes) [] middle middle = record { value = (refl, tt); parts = refl } in
    let pieces = counted_found IsPieceBytes piece_bytes 0 [] (to_be_bytes w64 0 ++ middle) middle middle (omega arith) refl none in
    let ints = integers_found [] [] (to_be_bytes w64 0 ++ middle) middle pieces refl tt in
    let one : ReadsItem (AreSo IsWord 1) (flat_map text_bytes) (text ∷ []) behind rest = record {
      value = (refl, (b.value, tt));
      parts = b.parts ∙ ap (λ (t : List ℕ). t ++ rest) (sym (flat_map-cons text_bytes text [] ∙ append-nil (text_bytes text)));
    } in
    let counted = counted_found IsWord text_bytes 1 (text ∷ []) (to_be_bytes w64 1 ++ behind) behind rest (omega arith) refl one in
    set_found bytes (to_be_bytes w64 0 ++ middle) middle rest 0 (text_set text) is refl ints (text_set_found middle (to_be_bytes w64 1 ++ behind) rest 0 false (text ∷ []) (false, text ∷ []) after refl counted refl (tt, tt))

-- ---- labels

-- labels in front tell themselves and the rest
pub one_labels : OneItem AreStateLabels labels_bytes
unfolding labels_bytes
one_labels None None r s p q e = (refl, tails 0 0 r s e)
one_labels None (Some y) r s p q e = absurd (omega (arith, heads 0 1 _ _ e))
one_labels (Some x) None r s p q e = absurd (omega (arith, heads 1 0 _ _ e))
one_labels (Some x) (Some y) r s p q e =
    let f = one_texts x y r s p q (tails 1 1 _ _ e) in
    (ap (λ (t : List (List ℕ)). Some t) f.0, f.1)

pub labels_empty : (bytes : List ℕ) → length bytes ≡ 0 → ReadsNoItem AreStateLabels labels_bytes bytes
unfolding labels_bytes
labels_empty bytes none None s h e = no_byte bytes 0 _ none e
labels_empty bytes none (Some x) s h e = no_byte bytes 1 _ none e

pub labels_tag : (bytes rest : List ℕ) (tag : ℕ) → bytes ≡ tag ∷ rest → 1 < tag → ReadsNoItem AreStateLabels labels_bytes bytes
unfolding labels_bytes
labels_tag bytes rest tag is more None s h e = omega (arith, more, heads tag 0 rest _ (sym is ∙ e))
labels_tag bytes rest tag is more (Some x) s h e = omega (arith, more, heads tag 1 rest _ (sym is ∙ e))

pub labels_rest : (bytes rest : List ℕ) (tag : ℕ) → bytes ≡ tag ∷ rest → tag ≡ 1 → ReadsNoItem (AreCounted IsWord) (counted_bytes text_bytes) rest → ReadsNoItem AreStateLabels labels_bytes bytes
unfolding labels_bytes
labels_rest bytes rest tag is one none None s h e = omega (arith, one, heads tag 0 rest _ (sym is ∙ e))
labels_rest bytes rest tag is one none (Some x) s h e = texts_none rest none x s h (tails tag 1 rest _ (sym is ∙ e))

pub labels_other : (bytes rest after : List ℕ) (tag : ℕ) (texts : List (List ℕ)) → bytes ≡ tag ∷ rest → tag ≡ 1 → ReadsItem (AreCounted IsWord) (counted_bytes text_bytes) texts rest after → (IsAscending texts → ⊥) → ReadsNoItem AreStateLabels labels_bytes bytes
unfolding labels_bytes
labels_other bytes rest after tag texts is one b bad None s h e = omega (arith, one, heads tag 0 rest _ (sym is ∙ e))
labels_other bytes rest after tag texts is one b bad (Some x) s h e = texts_other texts rest after b bad x s h (tails tag 1 rest _ (sym is ∙ e))

pub labels_all : (bytes rest : List ℕ) (tag : ℕ) (labels : Option (List (List ℕ))) → bytes ≡ tag ∷ rest → tag ≡ 0 → labels ≡ None → ReadsItem AreStateLabels labels_bytes labels bytes rest
unfolding labels_bytes
labels_all bytes rest tag labels is none same =
    let found : ReadsItem AreStateLabels labels_bytes None bytes rest = record { value = tt; parts = is ∙ ap (λ (k : ℕ). k ∷ rest) none } in
    subst (λ (x : Option (List (List ℕ))). ReadsItem AreStateLabels labels_bytes x bytes rest) (sym same) found

pub labels_found : (bytes rest after : List ℕ) (tag : ℕ) (texts : List (List ℕ)) (labels : Option (List (List ℕ))) → bytes ≡ tag ∷ rest → tag ≡ 1 → ReadsItem (AreCounted IsWord) (counted_bytes text_bytes) texts rest after → labels ≡ Some texts → IsAscending texts
    → ReadsItem AreStateLabels labels_bytes labels bytes after
unfolding labels_bytes
labels_found bytes rest after tag texts labels is one b same h =
    let found : ReadsItem AreStateLabels labels_bytes (Some texts) bytes after = record { value = (h, b.value); parts = is ∙ ap (λ (k : ℕ). k ∷ rest) one ∙ ap (λ (x : List ℕ). 1 ∷ x) b.parts } in
    subst (λ (x : Option (List (List ℕ))). ReadsItem AreStateLabels labels_bytes x bytes after) (sym same) found
