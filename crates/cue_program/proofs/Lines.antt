-- The first of some lines.
use Rattle.std.proofs.Common.{◌≡◌, ℕ, zero, suc, ◌+◌, ◌<◌, ◌≤◌, Bool, true, false, Some, None, List, [], ◌∷◌, ◌++◌, length, take, drop, get_or, arith, refl, sym, ap, ◌∙◌, ◌==◌, cond, not, nat_lt, ◌-◌}
use Rattle.std.specs.List.{position, position_or_len, concat}
use Rattle.std.proofs.lemmas.List.Quantifiers.{position-Some}
use Rattle.std.proofs.lemmas.List.Sums.{prefix_len_passes}
use Rattle.std.proofs.lemmas.List.{append-nil, append_assoc, length-append, nil_from_length}
use Rattle.std.proofs.lemmas.List.Folds.{concat-append}
use Rattle.std.proofs.Math.Seq.{take-append_seam}
use Rattle.std.proofs.lemmas.Bool.{false≢true, ltb-false}
use Rattle.std.proofs.lemmas.Option.{none-some}
use Rattle.cue_program.specs.Parts.{lines_of, lengthen_line, IsSeparator, IsPart, IsFirstPart}

-- up to the first line break
line_at : (bytes : List ℕ) (k : ℕ) → k < length bytes → (get_or bytes k 0 == 10) ≡ true → ((i : ℕ) → i < k → (get_or bytes i 0 == 10) ≡ false)
    → lines_of bytes ≡ take (k + 1) bytes ∷ lines_of (drop (k + 1) bytes)
line_at [] k h is none = absurd (omega arith)
line_at (b ∷ bytes) zero h is none = rw is refl
line_at (b ∷ bytes) (suc k) h is none =
    let rest = line_at bytes k (omega arith) is (λ i less. none (suc i) (omega arith)) in
    let next : suc k + 1 ≡ suc (k + 1) = omega arith in
    rw (next, none 0 (omega arith), rest) refl

-- the first line ends with the first line break, and the other lines are those after it
pub line_found : (bytes : List ℕ) (k : ℕ) → position (λ b. b == 10) bytes ≡ Some k → lines_of bytes ≡ take (k + 1) bytes ∷ lines_of (drop (k + 1) bytes)
line_found bytes k e =
    let at = position-Some (λ b. b == 10) bytes k 0 e in
    line_at bytes k at.0 at.1 at.2

-- without a line break there is one line
one_line : (b : ℕ) (bytes : List ℕ) → ((i : ℕ) → i < length (b ∷ bytes) → (get_or (b ∷ bytes) i 0 == 10) ≡ false) → lines_of (b ∷ bytes) ≡ (b ∷ bytes) ∷ []
one_line b [] none = rw (none 0 (omega arith)) refl
one_line b (next ∷ bytes) none = rw (none 0 (omega arith), one_line next bytes (λ i less. none (suc i) (omega arith))) refl

flip : (t : Bool) → not t ≡ true → t ≡ false
flip true e = absurd (false≢true e)
flip false e = refl

past : (t : Bool) (k n : ℕ) → nat_lt k n ≡ t → cond t (Some k) None ≡ None → n ≤ k
past true k n is e = absurd (none-some k (sym e))
past false k n is e = ltb-false k n is

pub none_breaks : (bytes : List ℕ) → position (λ b. b == 10) bytes ≡ None → (i : ℕ) → i < length bytes → (get_or bytes i 0 == 10) ≡ false
none_breaks bytes e i less =
    let p : ℕ → Bool = λ b. b == 10 in
    let all : length bytes ≤ position_or_len p bytes = past (nat_lt (position_or_len p bytes) (length bytes)) (position_or_len p bytes) (length bytes) refl e in
    flip (get_or bytes i 0 == 10) (prefix_len_passes (λ b. not (b == 10)) bytes i 0 (omega (arith, all)))

-- bytes with no line break are one line, where there are any
pub line_whole : (bytes : List ℕ) → 0 < length bytes → position (λ b. b == 10) bytes ≡ None → lines_of bytes ≡ bytes ∷ []
line_whole [] some none = absurd (omega arith)
line_whole (b ∷ bytes) some none = one_line b bytes (none_breaks (b ∷ bytes) none)

-- the lines joined
joined_longer : (b : ℕ) (lines : List (List ℕ)) → concat (lengthen_line b lines) ≡ b ∷ concat lines
joined_longer b [] = refl
joined_longer b (line ∷ lines) = refl

-- the lines of bytes, put together, are the bytes
pub joined : (bytes : List ℕ) → concat (lines_of bytes) ≡ bytes
joined [] = refl
joined (b ∷ bytes) = go (b == 10) refl (joined bytes)
  where
    go : (t : Bool) → (b == 10) ≡ t → concat (lines_of bytes) ≡ bytes → concat (lines_of (b ∷ bytes)) ≡ b ∷ bytes
    go true is rest = rw (is, rest) refl
    go false is rest = rw (is, joined_longer b (lines_of bytes), rest) refl

-- whole lines were looked at, of which none separates
abbrev pub Walked : List ℕ → List ℕ → Type 0
Walked bytes rest =
    (front : List (List ℕ)) × IsPart front × (lines_of bytes ≡ front ++ lines_of rest) × (bytes ≡ concat front ++ rest)

-- at the start no line was looked at
pub walked_none : (bytes : List ℕ) → Walked bytes bytes
walked_none bytes = ([], tt, refl, refl)

pub part_push : (front : List (List ℕ)) (line : List ℕ) → IsPart front → (IsSeparator line → ⊥) → IsPart (front ++ line ∷ [])
part_push [] line h other = (other, tt)
part_push (x ∷ front) line h other = (h.0, part_push front line h.1 other)

pub concat_push : (front : List (List ℕ)) (line : List ℕ) → concat (front ++ line ∷ []) ≡ concat front ++ line
concat_push front line = concat-append front (line ∷ []) ∙ ap (λ l. concat front ++ l) (append-nil line)

-- one line more was looked at, where it doesn't separate
pub walked_more :
    (bytes rest line after : List ℕ) → Walked bytes rest → rest ≡ line ++ after → lines_of rest ≡ line ∷ lines_of after
    → (IsSeparator line → ⊥) → Walked bytes after
walked_more bytes rest line after w whole lines other = (
  w.0 ++ line ∷ [],
  part_push w.0 line w.1 other,
  w.2 ∙ ap (λ ls. w.0 ++ ls) lines ∙ sym (append_assoc w.0 (line ∷ []) (lines_of after)),
  w.3 ∙ ap (λ r. concat w.0 ++ r) whole ∙ sym (append_assoc (concat w.0) line after) ∙ ap (λ f. f ++ after) (sym (concat_push w.0 line)),
)

front_is : (bytes front rest : List ℕ) → bytes ≡ front ++ rest → front ≡ take (length bytes - length rest) bytes
front_is bytes front rest is =
    let long : length bytes ≡ length front + length rest = ap length is ∙ length-append front rest in
    let at : length bytes - length rest ≡ length front = omega (arith, long) in
    rw (at, is) (sym (take-append_seam front rest))

-- where the next line separates, the bytes before it are the first part
pub walked_to :
    (bytes rest line after : List ℕ) → Walked bytes rest → rest ≡ line ++ after → lines_of rest ≡ line ∷ lines_of after
    → IsSeparator line → IsFirstPart bytes (take (length bytes - length rest) bytes) (Some after)
walked_to bytes rest line after w whole lines is =
    let front = front_is bytes (concat w.0) rest w.3 in (
      w.0,
      line,
      w.1,
      front,
      is,
      w.3 ∙ ap (λ r. concat w.0 ++ r) whole ∙ ap (λ f. f ++ (line ++ after)) front,
      w.2 ∙ ap (λ ls. w.0 ++ ls) lines,
    )

-- where nothing is left, no line separates, and all lines are one part
pub walked_all : (bytes rest : List ℕ) → Walked bytes rest → length rest ≡ 0 → IsPart (lines_of bytes)
walked_all bytes rest w none =
    let all : lines_of bytes ≡ w.0 = w.2 ∙ ap (λ r. w.0 ++ lines_of r) (nil_from_length rest none) ∙ append-nil w.0 in
    rw all w.1

-- after one line more fewer bytes are left than there were at the start
pub walked_short : (bytes rest line after : List ℕ) → Walked bytes rest → rest ≡ line ++ after → 0 < length line → length after < length bytes
walked_short bytes rest line after w whole some =
    let long : length bytes ≡ length (concat w.0) + length rest = ap length w.3 ∙ length-append (concat w.0) rest in
    let less : length rest ≡ length line + length after = ap length whole ∙ length-append line after in
    omega (arith, long, less, some)
