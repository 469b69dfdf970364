-- Spreading to targets until none is left reaches what can be reached.
use Rattle.std.proofs.Common.{◌≡◌, ◌≢◌, ℕ, zero, suc, ◌+◌, ◌<◌, ◌⊎◌, ◌↔◌, inl, inr, ⊎_elim, Bool, true, false, cond, not, List, [], ◌∷◌, ◌++◌, length, get_or, refl, sym, ap, subst, ◌∙◌, arith, set}
use Rattle.std.specs.List.{count_by, sum_by}
use Rattle.std.proofs.lemmas.List.{length_push}
use Rattle.std.proofs.lemmas.List.Sums.{sum_by-set}
use Rattle.std.proofs.Math.ListN.{replicate}
use Rattle.cue_scope.specs.Graph.{IsNodeIn, targets, PointsTo, IsReached, start, go_on}
use Rattle.cue_scope.specs.Inner.Ordering.{Spread}
use Rattle.cue_scope.proofs.Nodes.{in_append, in_append_left, in_append_right}

-- The nodes but the rest were reached, and those that weren't before were opened.
pub record Spreading (before after : List Bool) (waiting now nodes rest : List ℕ) : Type 0 where
  pub lengths : length after ≡ length before
  pub kept : (i : ℕ) → get_or before i false ≡ true → get_or after i false ≡ true
  pub all : (i : ℕ) → IsNodeIn i nodes → (get_or after i false ≡ true) ⊎ IsNodeIn i rest
  pub only : (i : ℕ) → get_or after i false ≡ true → (get_or before i false ≡ true) ⊎ IsNodeIn i nodes
  pub new : (i : ℕ) → get_or after i false ≡ true → (get_or before i false ≡ true) ⊎ IsNodeIn i now
  pub stays : (i : ℕ) → IsNodeIn i waiting → IsNodeIn i now
  pub from : (i : ℕ) → IsNodeIn i now → IsNodeIn i waiting ⊎ IsNodeIn i nodes
  pub left : count_by not after + length now ≡ count_by not before + length waiting

-- before the first node
pub spreading_start : (before : List Bool) (waiting nodes : List ℕ) → Spreading before before waiting waiting nodes nodes
spreading_start before waiting nodes = record {
  lengths = refl;
  kept = λ i h. h;
  all = λ i is. inr is;
  only = λ i h. inl h;
  new = λ i h. inl h;
  stays = λ i is. is;
  from = λ i is. inl is;
  left = refl;
}

-- behind the last node
pub spreading_end : (before after : List Bool) (waiting now nodes : List ℕ) → Spreading before after waiting now nodes [] → Spread before after waiting now nodes
spreading_end before after waiting now nodes s = record {
  lengths = s.lengths;
  kept = s.kept;
  all = λ i is. ⊎_elim (λ h. h) (λ no. absurd no) (s.all i is);
  only = s.only;
  new = s.new;
  stays = s.stays;
  from = s.from;
  left = s.left;
}

-- at a node that was reached before
pub spreading_skip : (before after : List Bool) (waiting now nodes : List ℕ) (x : ℕ) (rest : List ℕ)
    → Spreading before after waiting now nodes (x ∷ rest) → get_or after x false ≡ true → Spreading before after waiting now nodes rest
spreading_skip before after waiting now nodes x rest s is_true = record {
  lengths = s.lengths;
  kept = s.kept;
  all = λ i is. ⊎_elim (λ h. inl h) (λ r. ⊎_elim (λ e. inl (subst (λ z. get_or after z false ≡ true) (sym e) is_true)) (λ more. inr more) r) (s.all i is);
  only = s.only;
  new = s.new;
  stays = s.stays;
  from = s.from;
  left = s.left;
}

-- a flag at a node after one was set
pub flag_at : (r : List Bool) (x i : ℕ) → x < length r → ((i ≡ x) × (get_or (set r x true) i false ≡ true)) ⊎ ((i ≢ x) × (get_or (set r x true) i false ≡ get_or r i false))
flag_at [] x i h = absurd (omega arith)
flag_at (b ∷ r) zero zero h = inl (refl, refl)
flag_at (b ∷ r) zero (suc i) h = inr (λ e. omega arith, refl)
flag_at (b ∷ r) (suc x) zero h = inr (λ e. omega arith, refl)
flag_at (b ∷ r) (suc x) (suc i) h =
    ⊎_elim (λ l. inl (ap suc l.0, l.1)) (λ o. inr (λ e. o.0 (omega arith), o.1)) (flag_at r x i (omega arith))

pub length_flags : (r : List Bool) (x : ℕ) → length (set r x true) ≡ length r
length_flags [] x = refl
length_flags (b ∷ r) zero = refl
length_flags (b ∷ r) (suc x) = ap suc (length_flags r x)

-- one flag more leaves one place less without a flag
pub count_flags : (r : List Bool) (x : ℕ) → x < length r → get_or r x false ≡ false → count_by not (set r x true) + 1 ≡ count_by not r
count_flags r x h off =
    let changed = sum_by-set (λ b. cond (not b) 1 0) r x true false h in
    let more : sum_by (λ b. cond (not b) 1 0) (set r x true) + 1 ≡ sum_by (λ b. cond (not b) 1 0) r + 0 = rw off at changed in
    omega arith

-- at a node that wasn't reached before
pub spreading_add : (before after : List Bool) (waiting now nodes : List ℕ) (x : ℕ) (rest : List ℕ)
    → Spreading before after waiting now nodes (x ∷ rest) → IsNodeIn x nodes → x < length after → get_or after x false ≡ false
    → Spreading before (set after x true) waiting (now ++ x ∷ []) nodes rest
spreading_add before after waiting now nodes x rest s in_nodes inside is_false =
    let flags = flag_at after x in
    record {
      lengths = length_flags after x ∙ s.lengths;
      kept = λ i h. ⊎_elim (λ a. a.1) (λ b. b.1 ∙ s.kept i h) (flags i inside);
      all = λ i is. ⊎_elim (λ a. inl a.1) (λ b. ⊎_elim (λ h. inl (b.1 ∙ h)) (λ r. ⊎_elim (λ e. absurd (b.0 e)) (λ more. inr more) r) (s.all i is)) (flags i inside);
      only = λ i h. ⊎_elim (λ a. inr (subst (λ z. IsNodeIn z nodes) (sym a.0) in_nodes)) (λ b. s.only i (sym b.1 ∙ h)) (flags i inside);
      new = λ i h. ⊎_elim (λ a. inr (in_append_right now (x ∷ []) i (inl a.0))) (λ b. ⊎_elim (λ old. inl old) (λ is. inr (in_append_left now (x ∷ []) i is)) (s.new i (sym b.1 ∙ h))) (flags i inside);
      stays = λ i is. in_append_left now (x ∷ []) i (s.stays i is);
      from = λ i is. ⊎_elim (λ old. s.from i old) (λ last. ⊎_elim (λ e. inr (subst (λ z. IsNodeIn z nodes) (sym e) in_nodes)) (λ no. absurd no) last) (in_append now (x ∷ []) i is);
      left = let less = count_flags after x inside is_false in let longer : length (now ++ x ∷ []) ≡ length now + 1 = length_push now x in let before_that = s.left in omega arith;
    }

-- What was reached can be, and what it points to was reached too, or is waited for.
pub record IsFlooding (g : List (List ℕ)) (from : List ℕ) (reached : List Bool) (waiting : List ℕ) : Type 0 where
  pub lengths : length reached ≡ length g
  pub sound : (i : ℕ) → get_or reached i false ≡ true → IsReached g from i
  pub all : (i : ℕ) → IsNodeIn i from → get_or reached i false ≡ true
  pub waits : (i : ℕ) → IsNodeIn i waiting → get_or reached i false ≡ true
  pub closed : (i : ℕ) → get_or reached i false ≡ true → IsNodeIn i waiting ⊎ ((j : ℕ) → PointsTo g i j → get_or reached j false ≡ true)

no_flag : (n i : ℕ) → get_or (replicate n false) i false ≡ true → ⊥
no_flag zero i h = cc
no_flag (suc n) zero h = cc
no_flag (suc n) (suc i) h = no_flag n i h

pub length_replicate : (n : ℕ) → length (replicate n false) ≡ n
length_replicate zero = refl
length_replicate (suc n) = ap suc (length_replicate n)

pub flooding_start : (g : List (List ℕ)) (n : ℕ) (from : List ℕ) (reached : List Bool) (waiting : List ℕ) → length g ≡ n
    → Spread (replicate n false) reached [] waiting from → IsFlooding g from reached waiting
flooding_start g n from reached waiting e s = record {
  lengths = s.lengths ∙ length_replicate n ∙ sym e;
  sound = λ i h. ⊎_elim (λ old. absurd (no_flag n i old)) (λ is. start i is) (s.only i h);
  all = s.all;
  waits = λ i is. ⊎_elim (λ no. absurd no) (λ in_from. s.all i in_from) (s.from i is);
  closed = λ i h. ⊎_elim (λ old. absurd (no_flag n i old)) (λ is. inl is) (s.new i h);
}

-- the same where no flag was set
pub flooding_fresh : (g : List (List ℕ)) (from : List ℕ) (before reached : List Bool) (waiting : List ℕ) → length before ≡ length g → ((i : ℕ) → get_or before i false ≡ false)
    → Spread before reached [] waiting from → IsFlooding g from reached waiting
flooding_fresh g from before reached waiting e fresh s =
    let off : (i : ℕ) → get_or before i false ≡ true → ⊥ = λ i h. let no = fresh i in cc in
    record {
      lengths = s.lengths ∙ e;
      sound = λ i h. ⊎_elim (λ old. absurd (off i old)) (λ is. start i is) (s.only i h);
      all = s.all;
      waits = λ i is. ⊎_elim (λ no. absurd no) (λ in_from. s.all i in_from) (s.from i is);
      closed = λ i h. ⊎_elim (λ old. absurd (off i old)) (λ is. inl is) (s.new i h);
    }

pub flooding_step : (g : List (List ℕ)) (from : List ℕ) (reached after : List Bool) (waiting now : List ℕ) (x : ℕ)
    → IsFlooding g from reached (waiting ++ x ∷ []) → Spread reached after waiting now (targets g x) → IsFlooding g from after now
flooding_step g from reached after waiting now x f s =
    let at_x : get_or reached x false ≡ true = f.waits x (in_append_right waiting (x ∷ []) x (inl refl)) in
    record {
      lengths = s.lengths ∙ f.lengths;
      sound = λ i h. ⊎_elim (λ old. f.sound i old) (λ is. go_on x i (f.sound x at_x) is) (s.only i h);
      all = λ i is. s.kept i (f.all i is);
      waits = λ i is. ⊎_elim (λ old. s.kept i (f.waits i (in_append_left waiting (x ∷ []) i old))) (λ t. s.all i t) (s.from i is);
      closed = λ i h. ⊎_elim
          (λ old. ⊎_elim
          (λ waited. ⊎_elim (λ still. inl (s.stays i still)) (λ last. ⊎_elim (λ e. inr (λ j points. s.all j (subst (λ z. IsNodeIn j (targets g z)) e points))) (λ no. absurd no) last) (in_append waiting (x ∷ []) i waited))
          (λ done. inr (λ j points. s.kept j (done j points)))
          (f.closed i old))
          (λ is. inl is)
          (s.new i h);
    }

no_member : (xs : List ℕ) (i : ℕ) → length xs ≡ 0 → IsNodeIn i xs → ⊥
no_member [] i e h = h
no_member (x ∷ xs) i e h = omega arith

all_reached : (g : List (List ℕ)) (from : List ℕ) (reached : List Bool) (waiting : List ℕ) → length waiting ≡ 0 → IsFlooding g from reached waiting → (i : ℕ) → IsReached g from i → get_or reached i false ≡ true
all_reached g from reached waiting e f i (start _ is) = f.all i is
all_reached g from reached waiting e f i (go_on k _ r points) = ⊎_elim (λ left. absurd (no_member waiting k e left)) (λ done. done i points) (f.closed k (all_reached g from reached waiting e f k r))

-- where none waits, what was reached is what can be
pub flooding_end : (g : List (List ℕ)) (from : List ℕ) (reached : List Bool) (waiting : List ℕ) → length waiting ≡ 0 → IsFlooding g from reached waiting → (i : ℕ) → (get_or reached i false ≡ true) ↔ IsReached g from i
flooding_end g from reached waiting e f i = (f.sound i, all_reached g from reached waiting e f i)

-- a flag that is set is one of the list
pub flag_inside : (r : List Bool) (i : ℕ) → get_or r i false ≡ true → i < length r
flag_inside [] i h = absurd (cc)
flag_inside (b ∷ r) zero h = omega arith
flag_inside (b ∷ r) (suc i) h = let less = flag_inside r i h in omega arith

-- a node that waits is one of the graph
pub waits_inside : (g : List (List ℕ)) (n : ℕ) (from : List ℕ) (reached : List Bool) (waiting now : List ℕ) (x : ℕ) → length g ≡ n → IsFlooding g from reached waiting → waiting ≡ now ++ x ∷ [] → x < n
waits_inside g n from reached waiting now x e f is =
    let inside : x < length reached = flag_inside reached x (f.waits x (subst (λ z. IsNodeIn x z) (sym is) (in_append_right now (x ∷ []) x (inl refl)))) in
    let same = f.lengths in
    omega arith
