-- What stays known of definitions while those that are used once are taken over.
use Rattle.std.proofs.Common.{◌≡◌, ◌+◌, ◌≤◌, inl, ⊎_elim, ℕ, Option, None, Bool, true, false, cond, List, [], ◌∷◌, ◌++◌, length, get_or, get_or-set_other, refl, sym, ap, subst, ◌∙◌, arith}
use Rattle.std.proofs.Math.Dec.{eqb}
use Rattle.std.proofs.Math.ListN.{set, length-set}
use Rattle.std.proofs.lemmas.Bool.Decides.{eqb_tells}
use Rattle.std.proofs.lemmas.List.Sums.{sum_by-append, sum_by-cons}
use Rattle.cue_row.specs.declared.parts.RowParts.{RowParts as Row}
use Rattle.cue_table.specs.Tree.{Tree}
use Rattle.cue_scope.specs.Core.{Core}
use Rattle.cue_scope.specs.Definitions.{Definition}
use Rattle.cue_scope.specs.Graph.{IsNodeIn}
use Rattle.cue_scope.specs.Reached.{times_in_list}
use Rattle.cue_eval.specs.declared.declared.Declared.{Declared}
use Rattle.cue_eval.specs.declared.definitions.EvaluatedDefinitions.{EvaluatedDefinitions}
use Rattle.cue_eval.specs.Inner.Finding.{HasRoom, IsFoundAt, AreFound, IsOnce, AreSingle, IsKept}
use Rattle.cue_eval.specs.Inner.Ready.{IsTableAt}
use Rattle.cue_eval.specs.Inner.Known.{IsPairOf}
use Rattle.cue_scalars.specs.declared.valued.Valued.{Valued}
use Rattle.cue_scope.specs.Meaning.{meaning_of_number}

-- ---- how often a number is in a list
-- in two lists together a number is as often as in the one and in the other
pub times_both : (i : ℕ) (us vs : List ℕ) → times_in_list i (us ++ vs) ≡ times_in_list i us + times_in_list i vs
times_both i us vs = sum_by-append (λ j. cond (eqb i j) 1 0) us vs

-- what is in a list is there at least once
pub in_times : (i : ℕ) (us : List ℕ) → IsNodeIn i us → 1 ≤ times_in_list i us
in_times i [] h = absurd h
in_times i (j ∷ js) h =
    let one : times_in_list i (j ∷ js) ≡ cond (eqb i j) 1 0 + times_in_list i js = sum_by-cons (λ k. cond (eqb i k) 1 0) j js in
    ⊎_elim
    (λ t. let here : times_in_list i (j ∷ js) ≡ 1 + times_in_list i js = one ∙ ap (λ b. cond b 1 0 + times_in_list i js) t.0 in omega arith)
    (λ f. let here : times_in_list i (j ∷ js) ≡ 0 + times_in_list i js = one ∙ ap (λ b. cond b 1 0 + times_in_list i js) f.0 in
    let rest : 1 ≤ times_in_list i js = in_times i js (⊎_elim (λ e. absurd (f.1 e)) (λ r. r) h) in omega arith)
    (eqb_tells i j)

-- a definition that is used once is used in one of two places
pub once_apart : (i : ℕ) (us vs : List ℕ) → times_in_list i (us ++ vs) ≤ 1 → IsNodeIn i us → IsNodeIn i vs → ⊥
once_apart i us vs few a b =
    let both = times_both i us vs in
    let here = in_times i us a in
    let there = in_times i vs b in
    omega arith

-- what is used once in two lists is so in the first
pub single_left : (found : EvaluatedDefinitions) (us vs : List ℕ) → AreSingle found (us ++ vs) → AreSingle found us
single_left found us vs h = λ i once. let few = h i once in let both = times_both i us vs in omega arith

-- and in the second
pub single_right : (found : EvaluatedDefinitions) (us vs : List ℕ) → AreSingle found (us ++ vs) → AreSingle found vs
single_right found us vs h = λ i once. let few = h i once in let both = times_both i us vs in omega arith

-- ---- what is kept
-- where nothing happens all is kept
pub kept_itself : (us : List ℕ) (found : EvaluatedDefinitions) → IsKept us found found
kept_itself us found = record {
  pairs = refl;
  once = refl;
  count_tables = refl;
  count_dots = refl;
  tables = λ i d not. refl;
  dots = λ i d not. refl;
}

-- what is used once was so before
pub once_before : (us : List ℕ) (old new : EvaluatedDefinitions) (i : ℕ) → IsKept us old new → IsOnce new i → IsOnce old i
once_before us old new i k h = subst (λ (xs : List Bool). get_or xs i false ≡ true) k.once h

-- what was used once is so after
pub single_after : (us vs : List ℕ) (old new : EvaluatedDefinitions) → IsKept us old new → AreSingle old vs → AreSingle new vs
single_after us vs old new k h = λ i once. h i (once_before us old new i k once)

-- one step after another keeps what both keep
pub kept_both : (us vs ws : List ℕ) (a b c : EvaluatedDefinitions) → ((i : ℕ) → IsNodeIn i us → IsNodeIn i ws) → ((i : ℕ) → IsNodeIn i vs → IsNodeIn i ws) → IsKept us a b → IsKept vs b c → IsKept ws a c
kept_both us vs ws a b c one two k m = record {
  pairs = m.pairs ∙ k.pairs;
  once = m.once ∙ k.once;
  count_tables = m.count_tables ∙ k.count_tables;
  count_dots = m.count_dots ∙ k.count_dots;
  tables = λ i d not. m.tables i d (λ h. not (once_before us a b i k h.0, two i h.1)) ∙ k.tables i d (λ h. not (h.0, one i h.1));
  dots = λ i d not. m.dots i d (λ h. not (once_before us a b i k h.0, two i h.1)) ∙ k.dots i d (λ h. not (h.0, one i h.1));
}

-- the room stays
pub room_kept : (us : List ℕ) (old new : EvaluatedDefinitions) (count : ℕ) → IsKept us old new → HasRoom count old → HasRoom count new
room_kept us old new count k room = record {
  pairs = ap length k.pairs ∙ room.pairs;
  tables = k.count_tables ∙ room.tables;
  dots = k.count_dots ∙ room.dots;
}

-- what is known of a definition still is, unless it had its only use here
pub found_kept : (c : Core) (us : List ℕ) (old new : EvaluatedDefinitions) (i : ℕ) → IsKept us old new → ¬ (IsOnce old i × IsNodeIn i us) → IsFoundAt c i old → IsFoundAt c i new
found_kept c us old new i k not x = record {
  pair = λ sure. subst (λ (xs : List (Option Valued)). IsPairOf c (get_or xs i None)) (sym k.pairs) (x.pair sure);
  rows = subst (λ (t : Option (Tree Row)). IsTableAt c t) (sym (k.tables i None not)) x.rows;
  dots = (x.dots.0, λ o. k.dots i o not ∙ x.dots.1 o, x.dots.2);
}

-- of the definitions that are used later all stays known
pub found_later : (ds : List Definition) (us vs : List ℕ) (old new : EvaluatedDefinitions) → AreSingle old (us ++ vs) → IsKept us old new → AreFound ds vs old → AreFound ds vs new
found_later ds us vs old new single k h = λ i there. found_kept (meaning_of_number ds i) us old new i k (λ x. once_apart i us vs (single i x.0) x.1 there) (h i there)

-- a definition is taken over
pub taken_kept : (i : ℕ) (old new : EvaluatedDefinitions) → IsOnce old i → new.pairs.items ≡ old.pairs.items → new.once.items ≡ old.once.items → new.tables.items ≡ set old.tables.items i None
    → new.dots.items ≡ set old.dots.items i None → IsKept (i ∷ []) old new
taken_kept i old new once pairs same tables dots = record {
  pairs = pairs;
  once = same;
  count_tables = ap length tables ∙ length-set old.tables.items i None;
  count_dots = ap length dots ∙ length-set old.dots.items i None;
  tables = λ j d not. ap (λ (xs : List (Option (Tree Row))). get_or xs j d) tables ∙ get_or-set_other old.tables.items i j None d (apart j not);
  dots = λ j d not. ap (λ (xs : List (Option (Tree Declared))). get_or xs j d) dots ∙ get_or-set_other old.dots.items i j None d (apart j not);
} where
  apart : (j : ℕ) → ¬ (IsOnce old j × IsNodeIn j (i ∷ [])) → j ≡ i → ⊥
  apart j not e = not (subst (λ z. IsOnce old z) (sym e) once, inl e)
