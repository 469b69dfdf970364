-- Going over the letters and digits of a name.
use Rattle.std.proofs.Common.{◌≡◌, ℕ, suc, ◌+◌, ◌<◌, ◌≤◌, ◌∙◌, Bool, true, false, List, [], ◌∷◌, ◌++◌, length, drop, get_or, get_or-drop, cond, ◌⊎◌, ⊎_elim, zero-add, refl, sym, ap, subst, arith, add-zero, IsUtf8, length-append, length-drop}
use Rattle.std.specs.Prelude.{encode_utf8}
use Rattle.std.specs.Char.{len_utf8}
use Rattle.std.specs.List.{prefix_len}
use Rattle.std.specs.Str.{chars, IsCharBoundary}
use Rattle.std.proofs.str.Laws.{order}
use Rattle.std.proofs.lemmas.List.Sums.{take_while-cons, prefix_len-le-length, prefix_len_stops}
use Rattle.std.proofs.lemmas.Str.{chars_past_char, encode_ascii, length-encode, len_utf8_ascii, drop_past_char, IsUtf8-past_char, IsCharBoundary-from_drop}
use Rattle.cue_lex.specs.Characters.{is_name_part, is_ascii_part}
use Rattle.cue_lex.specs.Names.{run_len}
use Rattle.cue_lex.proofs.Ascii.{part_ascii, part_below}

-- nothing stands at the end
run_len-nil : (bytes : List ℕ) → length bytes ≡ 0 → run_len bytes ≡ 0
unfolding run_len chars
run_len-nil [] none = refl
run_len-nil (b ∷ bytes) none = absurd (omega arith)

-- one more letter or digit
pub run_len-part : (bytes rest : List ℕ) (c : ℕ) → IsUtf8 bytes → bytes ≡ encode_utf8 c ++ rest → is_name_part c ≡ true → run_len bytes ≡ length (encode_utf8 c) + run_len rest
unfolding run_len
run_len-part bytes rest c text split part =
    let first = chars_past_char bytes rest c text split in
    let kept = take_while-cons is_name_part c (chars rest) in
    rw (first, kept, part) (length-append (encode_utf8 c) _)

-- another character ends the run
run_len-other : (bytes rest : List ℕ) (c : ℕ) → IsUtf8 bytes → bytes ≡ encode_utf8 c ++ rest → is_name_part c ≡ false → run_len bytes ≡ 0
unfolding run_len
run_len-other bytes rest c text split other =
    let first = chars_past_char bytes rest c text split in
    let kept = take_while-cons is_name_part c (chars rest) in
    rw (first, kept, other) refl

-- the first len bytes of a text are letters and digits, and rest is what is left
pub record RunSoFar (text : List ℕ) (len : ℕ) (rest : List ℕ) : Type 0 where
  pub within : len ≤ length text
  pub left : drop len text ≡ rest
  pub utf8 : IsUtf8 rest
  pub total : run_len text ≡ len + run_len rest

module _ {text : List ℕ} {len : ℕ} {bytes : List ℕ} (run : RunSoFar text len bytes) where
  pub run_boundary : IsCharBoundary text len
  run_boundary = IsCharBoundary-from_drop text len run.within (subst IsUtf8 (sym run.left) run.utf8)

  pub run_end : length bytes ≡ 0 → len ≡ run_len text
  run_end none = let last = run_len-nil bytes none in omega (arith, run.total)

  module _ (rest : List ℕ) (c : ℕ) (split : bytes ≡ encode_utf8 c ++ rest) where
    pub run_stop : is_name_part c ≡ false → len ≡ run_len text
    run_stop other = let last = run_len-other bytes rest c run.utf8 split other in omega (arith, run.total)

    pub run_next : (width : ℕ) → width ≡ len_utf8 c → is_name_part c ≡ true → RunSoFar text (len + width) rest
    run_next width is_width part =
        let size = length-encode c in
        let more = run_len-part bytes rest c run.utf8 split part in
        let left_len = ap length (run.left ∙ split) in
        record {
          within = omega (arith, length-drop len text, left_len, length-append (encode_utf8 c) rest, run.within);
          left = subst (λ n. drop (len + n) text ≡ rest) (sym is_width) (drop_past_char text rest len c (run.left ∙ split));
          utf8 = IsUtf8-past_char bytes rest c run.utf8 split;
          total = omega (arith, run.total);
        }

-- nothing was gone over yet
pub run_begins : (text : List ℕ) → IsUtf8 text → RunSoFar text 0 text
run_begins text utf8 = record { within = omega arith; left = refl; utf8 = utf8; total = omega arith }

-- one byte of ASCII, and then what the bytes after it add
ascii_step : {text : List ℕ} {len : ℕ} (b : ℕ) (bytes : List ℕ) (part : Bool) → is_ascii_part b ≡ part →
    ((n : ℕ) → RunSoFar text n bytes → RunSoFar text (n + prefix_len is_ascii_part bytes) (drop (prefix_len is_ascii_part bytes) bytes)) →
    RunSoFar text len (b ∷ bytes) →
    RunSoFar text (len + cond part (1 + prefix_len is_ascii_part bytes) 0) (drop (cond part (1 + prefix_len is_ascii_part bytes) 0) (b ∷ bytes))
ascii_step {text} {len} b bytes true is more run =
    let below = part_below b is in
    let one : b ∷ bytes ≡ encode_utf8 b ++ bytes = ap (λ xs. xs ++ bytes) (sym (encode_ascii b below)) in
    let next : RunSoFar text (len + 1) bytes = run_next run bytes b one 1 (sym (len_utf8_ascii b below)) (part_ascii b below ∙ is) in
    let all : len + 1 + prefix_len is_ascii_part bytes ≡ len + (1 + prefix_len is_ascii_part bytes) = omega arith in
    let past : suc (prefix_len is_ascii_part bytes) ≡ 1 + prefix_len is_ascii_part bytes = omega arith in
    subst (λ n. RunSoFar text n (drop (1 + prefix_len is_ascii_part bytes) (b ∷ bytes))) all
    (subst (λ n. RunSoFar text (len + 1 + prefix_len is_ascii_part bytes) (drop n (b ∷ bytes))) past (more (len + 1) next))
ascii_step {text} {len} b bytes false is more run = subst (λ n. RunSoFar text n (b ∷ bytes)) (sym (add-zero len)) run

-- the letters and digits of ASCII at the front of the rest belong to the run
pub run_ascii : {text : List ℕ} (rest : List ℕ) (len : ℕ) → RunSoFar text len rest →
    RunSoFar text (len + prefix_len is_ascii_part rest) (drop (prefix_len is_ascii_part rest) rest)
run_ascii {text} [] len run = subst (λ n. RunSoFar text n []) (sym (add-zero len)) run
run_ascii (b ∷ bytes) len run = ascii_step b bytes (is_ascii_part b) refl (run_ascii bytes) run

-- another character of ASCII ends the run
pub run_stop_ascii : {text : List ℕ} {len : ℕ} (rest : List ℕ) → RunSoFar text len rest → 0 < length rest → get_or rest 0 0 < 128 →
    is_ascii_part (get_or rest 0 0) ≡ false → len ≡ run_len text
run_stop_ascii [] run some below other = absurd (omega arith)
run_stop_ascii (b ∷ bytes) run some below other =
    run_stop run bytes b (ap (λ xs. xs ++ bytes) (sym (encode_ascii b below))) (part_ascii b below ∙ other)

-- the letters and digits of ASCII at the front were gone over
pub ascii_run : (text : List ℕ) (len : ℕ) → IsUtf8 text → len ≡ prefix_len is_ascii_part text → RunSoFar text len (drop len text)
ascii_run text len utf8 is =
    subst (λ n. RunSoFar text n (drop n text)) (zero-add (prefix_len is_ascii_part text) ∙ sym is)
    (subst (λ n. RunSoFar text (0 + prefix_len is_ascii_part text) (drop n text)) (sym (zero-add (prefix_len is_ascii_part text)))
    (run_ascii text 0 (run_begins text utf8)))

-- they are the whole run where the text ends or ASCII goes on
pub ascii_stops : (text : List ℕ) (len : ℕ) → IsUtf8 text → len ≡ prefix_len is_ascii_part text → (len ≡ length text) ⊎ (get_or text len 0 < 128) → len ≡ run_len text
ascii_stops text len utf8 is ends =
    let run = ascii_run text len utf8 is in
    let within = prefix_len-le-length is_ascii_part text in
    let size = length-drop len text in
    ⊎_elim
    (λ below.
    let zero_more : len + 0 ≡ len = omega arith in
    let first : get_or (drop len text) 0 0 ≡ get_or text len 0 = get_or-drop len text 0 0 ∙ ap (λ i. get_or text i 0) zero_more in
    let under : prefix_len is_ascii_part text < length text = omega arith in
    let stop : is_ascii_part (get_or text len 0) ≡ false = subst (λ n. is_ascii_part (get_or text n 0) ≡ false) (sym is) (prefix_len_stops is_ascii_part text 0 under) in
    ⊎_elim
    (λ all. absurd (omega arith))
    (λ ascii.
    run_stop_ascii (drop len text) run (omega arith) (omega (arith, first)) (subst (λ b. is_ascii_part b ≡ false) (sym first) stop))
    ends)
    (λ above. run_end run (omega arith))
    (order len (length text))
