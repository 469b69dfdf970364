-- What the loops keep that carry out changes of a list of branches.
use Rattle.std.proofs.Common.{◌≡◌, ℕ, zero, suc, ◌+◌, ◌-◌, ◌≤◌, ◌<◌, List, [], ◌∷◌, ◌++◌, append_assoc, length, take, drop, take-add, length-drop, refl, sym, ap, subst, ◌∙◌, arith}
use Rattle.std.proofs.lemmas.List.{drop-drop}
use Rattle.cue_table.specs.declared.changes.Change.{Change}
use Rattle.cue_table.specs.Inner.Changes.{ChangesFit, total_added, branches_behind, carry_out_changes, added_count, replaced_count}
use Rattle.cue_table.specs.Inner.Child.{Child}

take_whole : {X : Type 0} (xs : List X) → take (length xs) xs ≡ xs
take_whole [] = refl
take_whole (x ∷ xs) = ap (λ ys. x ∷ ys) (take_whole xs)

take_drop : {X : Type 0} (n : ℕ) (xs : List X) → take n xs ++ drop n xs ≡ xs
take_drop zero xs = refl
take_drop (suc n) [] = refl
take_drop (suc n) (x ∷ xs) = ap (λ ys. x ∷ ys) (take_drop n xs)

module _ {R Q : Type 0} where
  -- What is made so far, and what the changes that are left make of the branches that are left, is the whole.
  pub record Fills (old : List (Child R)) (changes : List (Change R Q)) (made rest : List (Child R)) (others : List (Change R Q)) (len cap : ℕ) : Type 0 where
    pub whole : made ++ carry_out_changes others rest ≡ carry_out_changes changes old
    pub fit : ChangesFit others rest
    pub room : len + length rest + length others ≤ cap

  pub fills_start :
      (old made rest : List (Child R)) (changes others : List (Change R Q)) (len cap : ℕ) → made ≡ [] → rest ≡ old → others ≡ changes → ChangesFit changes old → len + length old + length changes ≤ cap
      → Fills old changes made rest others len cap
  fills_start old made rest changes others len cap e f n h r =
      subst (λ xs. Fills old changes made xs others len cap) (sym f)
      (subst (λ xs. Fills old changes made old xs len cap) (sym n) (record { whole = ap (λ xs. xs ++ carry_out_changes changes old) e; fit = h; room = r }))

  -- the first of the changes that are left, as the code has them
  pub fills_next :
      (old made rest : List (Child R)) (changes all others : List (Change R Q)) (c : Change R Q) (len cap : ℕ) → Fills old changes made rest all len cap → all ≡ c ∷ others
      → (c.kept + replaced_count c.replaces ≤ length rest) × (len + length rest + length others + 1 ≤ cap)
  fills_next old made rest changes all others c len cap f e =
      let g = subst (λ xs. Fills old changes made rest xs len cap) e f in
      let fit = g.fit in
      let room = g.room in
      (fit.0, omega arith)

  -- a change more
  pub fills_more :
      (old made rest made' rest' : List (Child R)) (changes all others : List (Change R Q)) (c : Change R Q) (len len' cap cap' : ℕ) → Fills old changes made rest all len cap → all ≡ c ∷ others
      → made' ≡ (made ++ take c.kept rest) ++ c.child ∷ [] → rest' ≡ branches_behind c rest → len' ≤ len + c.kept + 1 → cap' ≡ cap → Fills old changes made' rest' others len' cap'
  fills_more old made rest made' rest' changes all others c len len' cap cap' f e m r l k =
      let g = subst (λ xs. Fills old changes made rest xs len cap) e f in
      let fit = g.fit in
      let room = g.room in
      let first = length-drop c.kept rest in
      let second = length-drop (replaced_count c.replaces) (drop c.kept rest) in
      let left = ap length r in
      record {
        whole = ap (λ xs. xs ++ carry_out_changes others rest') m ∙ ap (λ xs. ((made ++ take c.kept rest) ++ c.child ∷ []) ++ carry_out_changes others xs) r
            ∙ append_assoc (made ++ take c.kept rest) (c.child ∷ []) (carry_out_changes others (branches_behind c rest)) ∙ append_assoc made (take c.kept rest) (c.child ∷ carry_out_changes others (branches_behind c rest)) ∙ g.whole;
        fit = subst (ChangesFit others) (sym r) fit.1;
        room = omega (arith, fit.0, room, first, second, left, l, k);
      }

  -- no change is left
  pub fills_end :
      (old made rest made' : List (Child R)) (changes others : List (Change R Q)) (len cap count : ℕ) → Fills old changes made rest others len cap → length others ≡ 0
      → count ≡ length rest → made' ≡ made ++ take count rest → made' ≡ carry_out_changes changes old
  fills_end old made rest made' changes [] len cap count f z e m = m ∙ ap (λ n. made ++ take n rest) e ∙ ap (λ xs. made ++ xs) (take_whole rest) ∙ f.whole
  fills_end old made rest made' changes (c ∷ others) len cap count f z e m = absurd (omega arith)

  -- how many changes add a branch, up to one and from there on
  pub added_more :
      (changes : List (Change R Q)) (i count count' : ℕ) (c : Change R Q) (rest : List (Change R Q)) → drop i changes ≡ c ∷ rest
      → count + total_added (drop i changes) ≡ total_added changes → count' ≡ count + added_count c.replaces → count' + total_added (drop (i + 1) changes) ≡ total_added changes
  added_more changes i count count' c rest e h k =
      let one : total_added (drop i changes) ≡ added_count c.replaces + total_added rest = ap total_added e in
      let tail : drop (i + 1) changes ≡ rest = sym (drop-drop 1 i changes) ∙ ap (drop 1) e in
      let same = ap total_added tail in
      omega (arith, h, k, one, same)

  -- What is changed up to a place, and what the changes that are left make of the branches from there, is the whole.
  pub record Puts (old : List (Child R)) (changes : List (Change R Q)) (now : List (Child R)) (others : List (Change R Q)) (at len cap : ℕ) : Type 0 where
    pub whole : take at now ++ carry_out_changes others (drop at now) ≡ carry_out_changes changes old
    pub inside : at ≤ length now
    pub fit : ChangesFit others (drop at now)
    pub room : len + total_added others ≤ cap

  pub puts_start :
      (old : List (Child R)) (changes others : List (Change R Q)) (len cap : ℕ) → others ≡ changes → ChangesFit changes old → len + total_added changes ≤ cap → Puts old changes old others 0 len cap
  puts_start old changes others len cap e h r =
      subst (λ xs. Puts old changes old xs 0 len cap) (sym e) (record { whole = refl; inside = omega arith; fit = h; room = r })

  -- the next change is at a place of the list, for which there is room
  pub puts_next :
      (old now : List (Child R)) (changes all others : List (Change R Q)) (c : Change R Q) (at len cap : ℕ) → Puts old changes now all at len cap → all ≡ c ∷ others
      → (at + c.kept + replaced_count c.replaces ≤ length now) × (len + added_count c.replaces ≤ cap)
  puts_next old now changes all others c at len cap f e =
      let g = subst (λ xs. Puts old changes now xs at len cap) e f in
      let fit = g.fit in
      (omega (arith, fit.0, g.inside, length-drop at now), omega (arith, g.room))

  pub puts_more :
      (old now later : List (Child R)) (changes all others : List (Change R Q)) (c : Change R Q) (at len len' cap cap' : ℕ) → Puts old changes now all at len cap → all ≡ c ∷ others
      → take (at + c.kept) later ≡ take (at + c.kept) now → drop (at + c.kept) later ≡ c.child ∷ drop (replaced_count c.replaces) (drop (at + c.kept) now)
      → len' ≡ len + added_count c.replaces → cap' ≡ cap → Puts old changes later others (at + c.kept + 1) len' cap'
  puts_more old now later changes all others c at len len' cap cap' f e before from l k =
      let g = subst (λ xs. Puts old changes now xs at len cap) e f in
      let fit = g.fit in
      let n = c.kept in
      let p = at + n in
      let d = c.child in
      let a : take (p + 1) later ≡ (take at now ++ take n (drop at now)) ++ d ∷ [] =
      take-add p 1 later ∙ ap (λ xs. xs ++ take 1 (drop p later)) (before ∙ take-add at n now) ∙ ap (λ xs. (take at now ++ take n (drop at now)) ++ take 1 xs) from in
      let b : drop (p + 1) later ≡ branches_behind c (drop at now) =
      sym (drop-drop 1 p later) ∙ ap (drop 1) from ∙ ap (drop (replaced_count c.replaces)) (sym (drop-drop n at now)) in
      let long = ap length from in
      record {
        whole = ap (λ xs. xs ++ carry_out_changes others (drop (p + 1) later)) a ∙ ap (λ xs. ((take at now ++ take n (drop at now)) ++ d ∷ []) ++ carry_out_changes others xs) b
            ∙ append_assoc (take at now ++ take n (drop at now)) (d ∷ []) (carry_out_changes others (branches_behind c (drop at now)))
            ∙ append_assoc (take at now) (take n (drop at now)) (d ∷ carry_out_changes others (branches_behind c (drop at now))) ∙ g.whole;
        inside = omega (arith, long, length-drop p later);
        fit = subst (ChangesFit others) (sym b) fit.1;
        room = omega (arith, g.room, l, k);
      }

  pub puts_end :
      (old now : List (Child R)) (changes others : List (Change R Q)) (at len cap : ℕ) → Puts old changes now others at len cap → length others ≡ 0 → now ≡ carry_out_changes changes old
  puts_end old now changes [] at len cap f z = sym (take_drop at now) ∙ f.whole
  puts_end old now changes (c ∷ others) at len cap f z = absurd (omega arith)

module _ {X : Type 0} where
  -- what is moved so far, and how many more
  pub record Keeps (made rest : List X) (count : ℕ) (made' rest' : List X) (moved len len' cap cap' : ℕ) : Type 0 where
    pub kept : made' ++ take (count - moved) rest' ≡ made ++ take count rest
    pub left : drop (count - moved) rest' ≡ drop count rest
    pub counted : len' ≤ len + moved
    pub room : len + count ≤ cap
    pub capacity : cap' ≡ cap

  pub keeps_start : (made rest : List X) (count len cap : ℕ) → len + count ≤ cap → Keeps made rest count made rest 0 len len cap cap
  keeps_start made rest count len cap h = record {
    kept = let e : count - 0 ≡ count = omega arith in rw e;
    left = let e : count - 0 ≡ count = omega arith in rw e;
    counted = omega arith;
    room = h;
    capacity = refl;
  }

  pub keeps_more :
      (made rest made' made'' all rest' : List X) (x : X) (count moved len len' len'' cap cap' cap'' : ℕ) → Keeps made rest count made' all moved len len' cap cap' → moved < count → all ≡ x ∷ rest'
      → made'' ≡ made' ++ x ∷ [] → len'' ≡ len' + 1 → cap'' ≡ cap' → Keeps made rest count made'' rest' (moved + 1) len len'' cap cap''
  keeps_more made rest made' made'' all rest' x count moved len len' len'' cap cap' cap'' k l e h n c =
      let steps : count - moved ≡ suc (count - (moved + 1)) = omega arith in
      let a : made' ++ take (suc (count - (moved + 1))) (x ∷ rest') ≡ made ++ take count rest = subst (λ y. made' ++ take (suc (count - (moved + 1))) y ≡ made ++ take count rest) e (subst (λ y. made' ++ take y all ≡ made ++ take count rest) steps k.kept) in
      let b : drop (suc (count - (moved + 1))) (x ∷ rest') ≡ drop count rest = subst (λ y. drop (suc (count - (moved + 1))) y ≡ drop count rest) e (subst (λ y. drop y all ≡ drop count rest) steps k.left) in
      let counted = k.counted in
      record {
        kept = ap (λ y. y ++ take (count - (moved + 1)) rest') h ∙ append_assoc made' (x ∷ []) (take (count - (moved + 1)) rest') ∙ a;
        left = b;
        counted = omega arith;
        room = k.room;
        capacity = c ∙ k.capacity;
      }

  take_none : (n : ℕ) (xs : List X) → length xs ≡ 0 → take n xs ≡ []
  take_none zero xs e = refl
  take_none (suc n) [] e = refl
  take_none (suc n) (x ∷ xs) e = absurd (omega arith)

  drop_none : (n : ℕ) (xs : List X) → length xs ≡ 0 → drop n xs ≡ xs
  drop_none zero xs e = refl
  drop_none (suc n) [] e = refl
  drop_none (suc n) (x ∷ xs) e = absurd (omega arith)

  append_none : (xs : List X) → xs ++ [] ≡ xs
  append_none [] = refl
  append_none (x ∷ xs) = ap (λ ys. x ∷ ys) (append_none xs)

  -- nothing more is left
  pub keeps_none : (made rest made' rest' : List X) (count moved len len' cap cap' : ℕ) → Keeps made rest count made' rest' moved len len' cap cap' → length rest' ≡ 0
      → (made' ≡ made ++ take count rest) × (rest' ≡ drop count rest)
  keeps_none made rest made' rest' count moved len len' cap cap' k z = (
    sym (ap (λ y. made' ++ y) (take_none (count - moved) rest' z) ∙ append_none made') ∙ k.kept,
    sym (drop_none (count - moved) rest' z) ∙ k.left,
  )

  pub keeps_end : (made rest made' rest' : List X) (count moved len len' cap cap' : ℕ) → Keeps made rest count made' rest' moved len len' cap cap' → count ≤ moved
      → (made' ≡ made ++ take count rest) × (rest' ≡ drop count rest)
  keeps_end made rest made' rest' count moved len len' cap cap' k l =
      let all : count - moved ≡ 0 = omega arith in
      let a : made' ++ take 0 rest' ≡ made ++ take count rest = subst (λ y. made' ++ take y rest' ≡ made ++ take count rest) all k.kept in
      let b : drop 0 rest' ≡ drop count rest = subst (λ y. drop y rest' ≡ drop count rest) all k.left in
      (sym (append_none made') ∙ a, b)
