-- The identifier that is taken is an identifier, and the longest one at the front.
use Rattle.std.proofs.Common.{◌≡◌, ℕ, ◌+◌, ◌<◌, ◌≤◌, ◌∙◌, ◌&&◌, ◌⊎◌, inl, inr, zero, suc, zero-add, lit<, Bool, true, false, List, [], ◌∷◌, ◌++◌, length, take, drop, refl, sym, ap, subst, arith, append_assoc, length-append, ⊎_elim, codes, cond, IsUtf8}
use Rattle.std.specs.Prelude.{take_while, encode_utf8, encode_utf8_all, nat_eq, nat_lt, max, if◌then◌else◌}
use Rattle.std.specs.List.{list_all, prefix_len, starts_with}
use Rattle.std.specs.Str.{chars, all_scalars, IsCharBoundary}
use Rattle.std.proofs.lemmas.Bool.{lt-ltb, ltb-true, cases_Bool, eqb-true, or_left, and_parts}
use Rattle.std.proofs.lemmas.List.{take_at, take-append-drop}
use Rattle.std.proofs.lemmas.List.Sums.{take_while-cons}
use Rattle.std.proofs.lemmas.Str.{chars-append, chars-encodes, encodes-append, encodes-chars, scalars-chars, length-le-encodes, IsCharBoundary-from_take, IsUtf8-drop, IsUtf8-append, IsUtf8-encode, IsUtf8-nil, encode_ascii}
use Rattle.std.specs.Char.{IsScalar}
use Rattle.std.proofs.Math.Seq.{take-append_seam}
use Rattle.cue_lex.specs.Characters.{is_letter, is_name_part}
use Rattle.cue_lex.specs.Names.{run_len, word_len, signed_len, identifier_len, IsIdentifierText}
use Rattle.cue_lex.specs.Longest.{TakesTheLongestIdentifier}

-- a letter may stand within a name too
pub part-letter : (c : ℕ) → is_letter c ≡ true → is_name_part c ≡ true
unfolding is_name_part
part-letter c letter = or_left (is_letter c) _ letter

-- letters and digits are all taken
take_while-parts : (cs ds : List ℕ) → list_all is_name_part cs ≡ true → take_while is_name_part (cs ++ ds) ≡ cs ++ take_while is_name_part ds
take_while-parts [] ds all = refl
take_while-parts (c ∷ cs) ds all =
    let parts = and_parts (is_name_part c) (list_all is_name_part cs) all in
    let first = parts.0 in
    let step = take_while-cons is_name_part c (cs ++ ds) in
    let more = take_while-parts cs ds parts.1 in
    rw (step, first, more) refl

-- a letter and what belongs to its name are taken
word_len-long : (c : ℕ) (cs rest : List ℕ) → all_scalars (c ∷ cs) ≡ true → is_letter c ≡ true → list_all is_name_part cs ≡ true →
    length (encode_utf8_all (c ∷ cs)) ≤ word_len (encode_utf8_all (c ∷ cs) ++ rest)
unfolding word_len run_len
word_len-long c cs rest scalars letter parts =
    let part = part-letter c letter in
    let all : list_all is_name_part (c ∷ cs) ≡ true = rw part parts in
    let read : chars (encode_utf8_all (c ∷ cs) ++ rest) ≡ (c ∷ cs) ++ chars rest = chars-append (encode_utf8_all (c ∷ cs)) rest (c ∷ cs, (scalars, refl)) ∙ ap (λ xs. xs ++ chars rest) (chars-encodes (c ∷ cs) scalars) in
    let taken = take_while-parts (c ∷ cs) (chars rest) all in
    let size = length-append (encode_utf8_all (c ∷ cs)) (encode_utf8_all (take_while is_name_part (chars rest))) in
    let spelled = encodes-append (c ∷ cs) (take_while is_name_part (chars rest)) in
    rw (read, letter, taken, spelled, size) (omega arith)

-- a text that begins with a sign is the sign and what is after it
pub starts_sign : (sign bytes : List ℕ) → starts_with nat_eq bytes sign ≡ true → bytes ≡ sign ++ drop (length sign) bytes
starts_sign [] bytes starts = refl
starts_sign (s ∷ sign) [] starts = cc
starts_sign (s ∷ sign) (b ∷ bytes) starts =
    let parts = and_parts (nat_eq s b) _ starts in
    let same = eqb-true s b parts.0 in
    ap (λ x. x ∷ bytes) (sym same) ∙ ap (λ xs. s ∷ xs) (starts_sign sign bytes parts.1)

-- a text may be cut after a sign
pub sign_boundary : (sign bytes : List ℕ) → IsUtf8 sign → IsUtf8 bytes → starts_with nat_eq bytes sign ≡ true → IsCharBoundary bytes (length sign)
sign_boundary sign bytes sign_utf8 utf8 starts =
    let split = starts_sign sign bytes starts in
    let size = ap length split ∙ length-append sign (drop (length sign) bytes) in
    let front : take (length sign) bytes ≡ sign = ap (take (length sign)) split ∙ take_at sign (drop (length sign) bytes) (length sign) refl in
    IsCharBoundary-from_take bytes (length sign) utf8 (omega arith) (subst IsUtf8 (sym front) sign_utf8)

-- a sign with a name after it is taken
signed_len-one : (rest : List ℕ) → 0 < word_len rest → signed_len (codes "#") (35 ∷ rest) ≡ 1 + word_len rest
unfolding signed_len
signed_len-one rest some = let yes = lt-ltb 0 (word_len rest) some in rw yes refl

signed_len-two : (rest : List ℕ) → 0 < word_len rest → signed_len (codes "_#") (95 ∷ 35 ∷ rest) ≡ 2 + word_len rest
unfolding signed_len
signed_len-two rest some = let yes = lt-ltb 0 (word_len rest) some in rw yes refl

-- no identifier at the front is longer than the one that is taken
pub identifier_longest : (bytes front rest : List ℕ) → IsIdentifierText front → bytes ≡ front ++ rest → length front ≤ identifier_len bytes
unfolding identifier_len
identifier_longest bytes front rest is split =
    let word = encode_utf8_all (is.letter ∷ is.parts) in
    let long = word_len-long is.letter is.parts rest is.characters is.letter_first is.parts_after in
    let least = length-le-encodes (is.letter ∷ is.parts) in
    let all : bytes ≡ is.sign ++ (word ++ rest) = split ∙ ap (λ xs. xs ++ rest) is.spells ∙ append_assoc is.sign word rest in
    let size : length front ≡ length is.sign + length word = ap length is.spells ∙ length-append is.sign word in
    ⊎_elim
    (λ none.
    let e : bytes ≡ word ++ rest = all ∙ ap (λ sign. sign ++ (word ++ rest)) none in
    let n = ap length none in
    let w = ap word_len e in
    omega arith)
    (λ signed.
    ⊎_elim
    (λ one.
    let e : bytes ≡ 35 ∷ (word ++ rest) = all ∙ ap (λ sign. sign ++ (word ++ rest)) one in
    let n = ap length one in
    let w = ap (signed_len (codes "#")) e ∙ signed_len-one (word ++ rest) (omega arith) in
    omega arith)
    (λ two.
    let e : bytes ≡ 95 ∷ 35 ∷ (word ++ rest) = all ∙ ap (λ sign. sign ++ (word ++ rest)) two in
    let n = ap length two in
    let w = ap (signed_len (codes "_#")) e ∙ signed_len-two (word ++ rest) (omega arith) in
    omega arith)
    signed)
    is.one_sign

-- a letter and letters and digits after it stand at the front, in so many bytes
record IsWord (bytes : List ℕ) (len : ℕ) : Type 0 where
  pub letter : ℕ
  pub parts : List ℕ
  pub characters : all_scalars (letter ∷ parts) ≡ true
  pub letter_first : is_letter letter ≡ true
  pub parts_after : list_all is_name_part parts ≡ true
  pub rest : List ℕ
  pub split : bytes ≡ encode_utf8_all (letter ∷ parts) ++ rest
  pub size : length (encode_utf8_all (letter ∷ parts)) ≡ len

parts_step : (c : ℕ) (cs : List ℕ) (part : Bool) → is_name_part c ≡ part → list_all is_name_part (take_while is_name_part cs) ≡ true → list_all is_name_part (cond part (c ∷ take_while is_name_part cs) []) ≡ true
parts_step c cs true is more = rw is more
parts_step c cs false is more = refl

-- what a run takes are letters and digits
all_parts : (cs : List ℕ) → list_all is_name_part (take_while is_name_part cs) ≡ true
all_parts [] = refl
all_parts (c ∷ cs) = subst (λ xs. list_all is_name_part xs ≡ true) (sym (take_while-cons is_name_part c cs)) (parts_step c cs (is_name_part c) refl (all_parts cs))

-- the first characters of a text are characters
front_scalars : (xs ys : List ℕ) → all_scalars (xs ++ ys) ≡ true → all_scalars xs ≡ true
front_scalars [] ys all = refl
front_scalars (x ∷ xs) ys all = let parts = and_parts _ (all_scalars (xs ++ ys)) all in and_both (parts.0) (front_scalars xs ys parts.1)
  where
    and_both : {a b : Bool} → a ≡ true → b ≡ true → (a && b) ≡ true
    and_both left right = rw (left, right) refl

word_step : (bytes : List ℕ) (c : ℕ) (cs : List ℕ) → bytes ≡ encode_utf8_all (c ∷ cs) → all_scalars (c ∷ cs) ≡ true → chars bytes ≡ c ∷ cs → is_letter c ≡ true → IsWord bytes (word_len bytes)
unfolding word_len run_len
word_step bytes c cs spells scalars read letter =
    let part = part-letter c letter in
    let taken : take_while is_name_part (c ∷ cs) ≡ c ∷ take_while is_name_part cs = take_while-cons is_name_part c cs ∙ rw part refl in
    let left : List ℕ = drop (prefix_len is_name_part cs) cs in
    let all : c ∷ cs ≡ (c ∷ take_while is_name_part cs) ++ left = ap (λ xs. c ∷ xs) (sym (take-append-drop (prefix_len is_name_part cs) cs)) in
    record {
      letter = c;
      parts = take_while is_name_part cs;
      characters = front_scalars (c ∷ take_while is_name_part cs) left (subst (λ xs. all_scalars xs ≡ true) all scalars);
      letter_first = letter;
      parts_after = all_parts cs;
      rest = encode_utf8_all left;
      split = spells ∙ ap encode_utf8_all all ∙ encodes-append (c ∷ take_while is_name_part cs) left;
      size = rw (read, letter, taken) refl;
    }

word_none : (bytes : List ℕ) (c : ℕ) (cs : List ℕ) → chars bytes ≡ c ∷ cs → is_letter c ≡ false → word_len bytes ≡ 0
unfolding word_len
word_none bytes c cs read other = rw (read, other) refl

word_nothing : (bytes : List ℕ) → chars bytes ≡ [] → word_len bytes ≡ 0
unfolding word_len
word_nothing bytes read = rw read refl

word_cases : (bytes cs : List ℕ) → bytes ≡ encode_utf8_all cs → all_scalars cs ≡ true → chars bytes ≡ cs → 0 < word_len bytes → IsWord bytes (word_len bytes)
word_cases bytes [] spells scalars read some = let none = word_nothing bytes read in absurd (omega arith)
word_cases bytes (c ∷ cs) spells scalars read some =
    ⊎_elim (λ letter. word_step bytes c cs spells scalars read letter) (λ other. let none = word_none bytes c cs read other in absurd (omega arith)) (cases_Bool (is_letter c))

is_word : (bytes : List ℕ) → IsUtf8 bytes → 0 < word_len bytes → IsWord bytes (word_len bytes)
is_word bytes utf8 some = word_cases bytes (chars bytes) (sym (encodes-chars bytes utf8)) (scalars-chars bytes utf8) refl some

-- a sign and a word after it are an identifier
record IsTaken (bytes : List ℕ) (len : ℕ) : Type 0 where
  pub within : len ≤ length bytes
  pub is : IsIdentifierText (take len bytes)

taken_word : (sign bytes : List ℕ) → (sign ≡ []) ⊎ ((sign ≡ codes "#") ⊎ (sign ≡ codes "_#")) → (rest : List ℕ) → bytes ≡ sign ++ rest → IsUtf8 rest → 0 < word_len rest → IsTaken bytes (length sign + word_len rest)
taken_word sign bytes one rest split utf8 some =
    let word = is_word rest utf8 some in
    let whole = encode_utf8_all (word.letter ∷ word.parts) in
    let all : bytes ≡ (sign ++ whole) ++ word.rest = split ∙ ap (λ xs. sign ++ xs) word.split ∙ sym (append_assoc sign whole word.rest) in
    let size : length (sign ++ whole) ≡ length sign + word_len rest = length-append sign whole ∙ ap (λ n. length sign + n) word.size in
    let front : take (length sign + word_len rest) bytes ≡ sign ++ whole =
    ap (λ n. take n bytes) (sym size) ∙ ap (take (length (sign ++ whole))) all ∙ take-append_seam (sign ++ whole) word.rest in
    record {
      within = omega (arith, ap length all, length-append (sign ++ whole) word.rest, size);
      is = record {
        sign = sign;
        letter = word.letter;
        parts = word.parts;
        one_sign = one;
        characters = word.characters;
        letter_first = word.letter_first;
        parts_after = word.parts_after;
        spells = front;
      };
    }

signed_value : (sign bytes : List ℕ) → (test : Bool) → (starts_with nat_eq bytes sign && nat_lt 0 (word_len (drop (length sign) bytes))) ≡ test → signed_len sign bytes ≡ (if test then length sign + word_len (drop (length sign) bytes) else 0)
unfolding signed_len
signed_value sign bytes test is = rw is refl

taken_signed : (sign bytes : List ℕ) → (sign ≡ codes "#") ⊎ (sign ≡ codes "_#") → IsUtf8 sign → IsUtf8 bytes → 0 < signed_len sign bytes → IsTaken bytes (signed_len sign bytes)
taken_signed sign bytes one sign_utf8 utf8 some =
    ⊎_elim
    (λ test.
    let parts = and_parts (starts_with nat_eq bytes sign) (nat_lt 0 (word_len (drop (length sign) bytes))) test in
    let value = signed_value sign bytes true test in
    subst (IsTaken bytes) (sym value)
    (taken_word sign bytes (inr one) (drop (length sign) bytes) (starts_sign sign bytes parts.0)
    (IsUtf8-drop bytes (length sign) utf8 (sign_boundary sign bytes sign_utf8 utf8 parts.0)) (ltb-true 0 (word_len (drop (length sign) bytes)) parts.1)))
    (λ test. let value = signed_value sign bytes false test in absurd (omega arith))
    (cases_Bool (starts_with nat_eq bytes sign && nat_lt 0 (word_len (drop (length sign) bytes))))

taken_max : (bytes : List ℕ) (a b : ℕ) → (0 < a → IsTaken bytes a) → (0 < b → IsTaken bytes b) → 0 < max a b → IsTaken bytes (max a b)
taken_max bytes a b left right some =
    ⊎_elim
    (λ (e : max a b ≡ a). subst (IsTaken bytes) (sym e) (left (omega arith)))
    (λ (e : max a b ≡ b). subst (IsTaken bytes) (sym e) (right (omega arith)))
    (one_of a b)
  where
    one_of : (a b : ℕ) → (max a b ≡ a) ⊎ (max a b ≡ b)
    one_of a b = grind arith

taken_identifier : (bytes : List ℕ) → IsUtf8 bytes → 0 < identifier_len bytes → IsTaken bytes (identifier_len bytes)
unfolding identifier_len
taken_identifier bytes utf8 some =
    taken_max bytes (max (word_len bytes) (signed_len (codes "#") bytes)) (signed_len (codes "_#") bytes)
    (taken_max bytes (word_len bytes) (signed_len (codes "#") bytes)
    (λ word. subst (IsTaken bytes) (zero-add (word_len bytes)) (taken_word [] bytes (inl refl) bytes refl utf8 word))
    (λ one. taken_signed (codes "#") bytes (inl refl) utf8_one utf8 one))
    (λ two. taken_signed (codes "_#") bytes (inr refl) utf8_two utf8 two)
    some
  where
    IsUtf8-byte : (b : ℕ) (bytes : List ℕ) → b < 128 → IsScalar b → IsUtf8 bytes → IsUtf8 (b ∷ bytes)
    IsUtf8-byte b bytes ascii scalar utf8 = subst (λ xs. IsUtf8 (xs ++ bytes)) (encode_ascii b ascii) (IsUtf8-append (encode_utf8 b) bytes (IsUtf8-encode b scalar) utf8)

    utf8_one : IsUtf8 (codes "#")
    utf8_one = IsUtf8-byte 35 [] (lit< tt) refl IsUtf8-nil

    utf8_two : IsUtf8 (codes "_#")
    utf8_two = IsUtf8-byte 95 (codes "#") (lit< tt) refl utf8_one

-- the longest identifier is taken
pub takes_the_longest_identifier : TakesTheLongestIdentifier
takes_the_longest_identifier bytes utf8 = record {
  within = within (identifier_len bytes) (λ some. (taken_identifier bytes utf8 some).within);
  is = λ some. (taken_identifier bytes utf8 some).is;
  longest = identifier_longest bytes;
}
  where
    within : (len : ℕ) → (0 < len → len ≤ length bytes) → len ≤ length bytes
    within zero most = omega arith
    within (suc len) most = most (omega arith)
