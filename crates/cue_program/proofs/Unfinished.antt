-- Lines and parts whose end is not read yet.
use Rattle.std.proofs.Common.{◌≡◌, inl, inr, ℕ, zero, suc, ◌+◌, ◌<◌, Bool, true, false, Some, None, List, [], ◌∷◌, ◌++◌, length, take, get_or, arith, refl, sym, ap, subst, ◌∙◌, ◌==◌, nat_le}
use Rattle.std.specs.Prelude.{codes}
use Rattle.std.specs.List.{position, concat}
use Rattle.std.proofs.lemmas.List.Quantifiers.{position-Some}
use Rattle.std.proofs.lemmas.List.{append_assoc, length-append}
use Rattle.std.proofs.lemmas.Bool.{eqb-true, false≢true, leb-true, leb-false}
use Rattle.cue_replica.specs.Accepted.{text_limit}
use Rattle.cue_program.specs.Parts.{lines_of, ArePartsOfText, IsSeparator, IsPart}
use Rattle.cue_program.specs.inner.Taking.{AreWholeLines, IsLineEnd, IsUnbroken}
use Rattle.cue_program.proofs.Lines.{concat_push, none_breaks, part_push}
use Rattle.cue_program.proofs.Texts.{some_parts}

pub unbroken_more : (a b : List ℕ) → IsUnbroken a → IsUnbroken b → IsUnbroken (a ++ b)
unbroken_more [] b h k = k
unbroken_more (x ∷ a) b h k = (h.0, unbroken_more a b h.1 k)

unbroken_at : (bytes : List ℕ) → ((i : ℕ) → i < length bytes → (get_or bytes i 0 == 10) ≡ false) → IsUnbroken bytes
unbroken_at [] none = tt
unbroken_at (b ∷ bytes) none = (none 0 (omega arith), unbroken_at bytes (λ i less. none (suc i) (omega arith)))

-- where no line break is found there is none
pub rest_unbroken : (bytes : List ℕ) → position (λ b. b == 10) bytes ≡ None → IsUnbroken bytes
rest_unbroken bytes e = unbroken_at bytes (none_breaks bytes e)

end_at : (bytes : List ℕ) (k : ℕ) → k < length bytes → (get_or bytes k 0 == 10) ≡ true → ((i : ℕ) → i < k → (get_or bytes i 0 == 10) ≡ false)
    → IsLineEnd (take (k + 1) bytes)
end_at [] k h is none = absurd (omega arith)
end_at (b ∷ bytes) zero h is none = ([], tt, ap (λ x. x ∷ []) (eqb-true b 10 is))
end_at (b ∷ bytes) (suc k) h is none =
    let rest = end_at bytes k (omega arith) is (λ i less. none (suc i) (omega arith)) in
    let next : suc k + 1 ≡ suc (k + 1) = omega arith in
    (b ∷ rest.0, (none 0 (omega arith), rest.1), rw next (ap (λ (t : List ℕ). b ∷ t) rest.2))

-- up to the first line break a line ends
pub end_found : (bytes : List ℕ) (k : ℕ) → position (λ b. b == 10) bytes ≡ Some k → IsLineEnd (take (k + 1) bytes)
end_found bytes k e =
    let at = position-Some (λ b. b == 10) bytes k 0 e in
    end_at bytes k at.0 at.1 at.2

-- what stood in front of the end of a line belongs to the line
pub end_behind : (line end : List ℕ) → IsUnbroken line → IsLineEnd end → IsLineEnd (line ++ end)
end_behind line end h k = (line ++ k.0, unbroken_more line k.0 h k.1, ap (λ (t : List ℕ). line ++ t) k.2 ∙ sym (append_assoc line k.0 (10 ∷ [])))

line_ends : (text more : List ℕ) → IsUnbroken text → lines_of ((text ++ 10 ∷ []) ++ more) ≡ (text ++ 10 ∷ []) ∷ lines_of more
line_ends [] more h = refl
line_ends (b ∷ text) more h = rw (h.0, line_ends text more h.1) refl

-- a line that has ended is the first, whatever follows
pub line_first : (line more : List ℕ) → IsLineEnd line → lines_of (line ++ more) ≡ line ∷ lines_of more
line_first line more h = subst (λ (l : List ℕ). lines_of (l ++ more) ≡ l ∷ lines_of more) (sym h.2) (line_ends h.0 more h.1)

-- a line that has not ended begins the first
line_begins : (b : ℕ) (line more : List ℕ) → IsUnbroken (b ∷ line) → (x : List ℕ) × (back : List (List ℕ)) × (lines_of ((b ∷ line) ++ more) ≡ ((b ∷ line) ++ x) ∷ back)
line_begins b [] more h = go (lines_of more) refl
  where
    go : (lines : List (List ℕ)) → lines_of more ≡ lines → (x : List ℕ) × (back : List (List ℕ)) × (lines_of (b ∷ more) ≡ (b ∷ x) ∷ back)
    go [] e = ([], [], rw (h.0, e) refl)
    go (l ∷ lines) e = (l, lines, rw (h.0, e) refl)
line_begins b (c ∷ line) more h =
    let rest = line_begins c line more h.1 in
    (rest.0, rest.1, rw (h.0, rest.2) refl)

broken : (text : List ℕ) → IsUnbroken (text ++ 10 ∷ []) → ⊥
broken [] h = false≢true (sym h.0)
broken (b ∷ text) h = broken text h.1

-- a separating line that has ended has its line break
pub separator_ended : (line : List ℕ) → IsLineEnd line → IsSeparator line → line ≡ codes "---\n"
separator_ended line h (inl is) = is
separator_ended line h (inr is) = absurd (broken h.0 (subst IsUnbroken (sym is ∙ h.2) (refl, (refl, (refl, tt)))))

-- whole lines
pub no_lines : AreWholeLines []
no_lines = record { lines = []; part = tt; joined = refl; behind = λ more. refl }

pub one_line_more : (bytes line : List ℕ) → AreWholeLines bytes → IsLineEnd line → (IsSeparator line → ⊥) → AreWholeLines (bytes ++ line)
one_line_more bytes line w ended other = record {
  lines = w.lines ++ line ∷ [];
  part = part_push w.lines line w.part other;
  joined = concat_push w.lines line ∙ ap (λ (f : List ℕ). f ++ line) w.joined;
  behind = λ more. ap lines_of (append_assoc bytes line more) ∙ w.behind (line ++ more)
      ∙ ap (λ (ls : List (List ℕ)). w.lines ++ ls) (line_first line more ended) ∙ sym (append_assoc w.lines (line ∷ []) (lines_of more));
}

-- a part with lines in front of it
behind_line : (line : List ℕ) (lines : List (List ℕ)) (part : List ℕ) (others : List (List ℕ)) → (IsSeparator line → ⊥) → ArePartsOfText lines (part ∷ others)
    → ArePartsOfText (line ∷ lines) ((line ++ part) ∷ others)
behind_line line lines part [] other are = ((other, are.0), ap (λ (p : List ℕ). line ++ p) are.1)
behind_line line lines part (next ∷ others) other are =
    (line ∷ are.0, are.1, are.2, ap (λ (ls : List (List ℕ)). line ∷ ls) are.3, (other, are.4), ap (λ (p : List ℕ). line ++ p) are.5, are.6, are.7)

behind_lines : (front lines : List (List ℕ)) (part : List ℕ) (others : List (List ℕ)) → IsPart front → ArePartsOfText lines (part ∷ others)
    → ArePartsOfText (front ++ lines) ((concat front ++ part) ∷ others)
behind_lines [] lines part others h are = are
behind_lines (line ∷ front) lines part others h are =
    subst (λ (p : List ℕ). ArePartsOfText (line ∷ (front ++ lines)) (p ∷ others)) (sym (append_assoc line (concat front) part))
    (behind_line line (front ++ lines) (concat front ++ part) others h.0 (behind_lines front lines part others h.1 are))

first_of : (lines : List (List ℕ)) → (part : List ℕ) × (others : List (List ℕ)) × ArePartsOfText lines (part ∷ others)
first_of lines = go (some_parts lines).0 (some_parts lines).1
  where
    go : (parts : List (List ℕ)) → ArePartsOfText lines parts → (part : List ℕ) × (others : List (List ℕ)) × ArePartsOfText lines (part ∷ others)
    go [] are = absurd are
    go (part ∷ others) are = (part, others, are)

-- The first part of lines is too long.
abbrev pub IsFirstLong : List (List ℕ) → Type 0
IsFirstLong lines = (part : List ℕ) × (others : List (List ℕ)) × ArePartsOfText lines (part ∷ others) × (text_limit < length part)

long_separator : (line more : List ℕ) → 4 < length line → IsSeparator (line ++ more) → ⊥
long_separator line more less (inl is) = absurd (omega (arith, less, ap (λ (l : List ℕ). length l) is, length-append line more))
long_separator line more less (inr is) = absurd (omega (arith, less, ap (λ (l : List ℕ). length l) is, length-append line more))

-- what is too long for a text and a separating line is too long a part, whatever follows
pub first_is_long : (part line more : List ℕ) → AreWholeLines part → IsUnbroken line → text_limit + 4 < length part + length line
    → IsFirstLong (lines_of (part ++ (line ++ more)))
first_is_long part [] more w plain less =
    let next = first_of (lines_of more) in
    let long = length-append part next.0 in (
      part ++ next.0,
      next.1,
      subst (λ (ls : List (List ℕ)). ArePartsOfText ls ((part ++ next.0) ∷ next.1)) (sym (w.behind more))
          (subst (λ (p : List ℕ). ArePartsOfText (w.lines ++ lines_of more) ((p ++ next.0) ∷ next.1)) w.joined
          (behind_lines w.lines (lines_of more) next.0 next.1 w.part next.2)),
      omega (arith, less, long),
    )
first_is_long part (b ∷ line) more w plain less = go (nat_le (length (b ∷ line)) 4) refl
  where
    rest : List ℕ
    rest = (b ∷ line) ++ more

    all : (p : List ℕ) (others : List (List ℕ)) → ArePartsOfText (lines_of rest) (p ∷ others) → ArePartsOfText (lines_of (part ++ rest)) ((part ++ p) ∷ others)
    all p others are =
        subst (λ (ls : List (List ℕ)). ArePartsOfText ls ((part ++ p) ∷ others)) (sym (w.behind rest))
        (subst (λ (q : List ℕ). ArePartsOfText (w.lines ++ lines_of rest) ((q ++ p) ∷ others)) w.joined
        (behind_lines w.lines (lines_of rest) p others w.part are))

    go : (t : Bool) → nat_le (length (b ∷ line)) 4 ≡ t → IsFirstLong (lines_of (part ++ rest))
    go true is =
        let next = first_of (lines_of rest) in
        let short = leb-true (length (b ∷ line)) 4 is in
        (part ++ next.0, next.1, all next.0 next.1 next.2, omega (arith, less, short, length-append part next.0))
    go false is =
        let begins = line_begins b line more plain in
        let next = first_of begins.1 in
        let first = (b ∷ line) ++ begins.0 in
        let long = leb-false (length (b ∷ line)) 4 is in
        let are = behind_line first begins.1 next.0 next.1 (long_separator (b ∷ line) begins.0 (omega (arith, long))) next.2 in (
          part ++ (first ++ next.0),
          next.1,
          all (first ++ next.0) next.1 (subst (λ (ls : List (List ℕ)). ArePartsOfText ls ((first ++ next.0) ∷ next.1)) (sym begins.2) are),
          omega (arith, less, length-append part (first ++ next.0), length-append first next.0, length-append (b ∷ line) begins.0),
        )
