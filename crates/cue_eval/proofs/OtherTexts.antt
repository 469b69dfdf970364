-- Parts that are each `!=` and a text.
use Rattle.std.proofs.Common.{◌≡◌, ◌<◌, ℕ, Bool, true, false, not, ◌&&◌, ◌||◌, List, [], ◌∷◌, ◌++◌, map, length, refl, sym, ap, subst, ◌∙◌, append_assoc, arith}
use Rattle.std.specs.Prelude.{None, Some, is_some, if◌then◌else◌}
use Rattle.std.specs.List.{list_all, list_any}
use Rattle.std.specs.Str.{bytes_eq}
use Rattle.std.proofs.lemmas.List.{map-append}
use Rattle.cue_lattice.specs.declared.scalar.Scalar.{Scalar}
use Rattle.cue_lattice.specs.declared.scalar.Scalar.TheVariants as scalars
use Rattle.cue_sets.specs.Texts.{is_listed}
use Rattle.cue_scalars.specs.Pairs.{ScalarPair, ScalarMembers, all_of, default_or_value}
use Rattle.cue_scalars.specs.Values.{pair_of_value}
use Rattle.cue_scalars.specs.declared.valued.Valued.{Valued}
use Rattle.cue_syntax.specs.declared.tree.Expr.{Expr}
use Rattle.cue_syntax.specs.declared.tree.Expr.TheVariants as exprs
use Rattle.cue_syntax.specs.Syntax.{elements_of_list}
use Rattle.cue_syntax.proofs.Views.{view-OtherText}
use Rattle.cue_scope.specs.Core.{Cores, no_cores, core, conjunction, other_text, are_scalar}
use Rattle.cue_eval.specs.declared.pair.Pairs.{Pairs}
use Rattle.cue_eval.specs.Inner.Known.{core_of, parts_of}
use Rattle.cue_eval.specs.Inner.Written.{IsAllBut, IsAllButTexts}
use Rattle.cue_eval.specs.Laws.{AllHaveParts, HasParts}
use Rattle.cue_eval.specs.Pairs.{pairs_of, plain_pair}
use Rattle.cue_eval.specs.Sets.{all_texts}

-- one more of a loop over parts
pub parts_more : {X : Type 0} (write : X → Expr) (all left rest : List Expr) (xs : List X) (part : Expr) (x : X) → map write xs ++ left ≡ all → left ≡ part ∷ rest → part ≡ write x
    → map write (xs ++ x ∷ []) ++ rest ≡ all
parts_more write all left rest xs part x so_far is writes =
    ap (λ ps. ps ++ rest) (map-append write xs (x ∷ []))
    ∙ append_assoc (map write xs) (write x ∷ []) rest
    ∙ ap (λ e. map write xs ++ e ∷ rest) (sym writes)
    ∙ ap (λ ps. map write xs ++ ps) (sym is)
    ∙ so_far

-- what they mean
abbrev others : List (List ℕ) → Cores
others [] = no_cores
others (text ∷ texts) = core (other_text text) (others texts)

parts_mean : (known : Pairs) (texts : List (List ℕ)) → parts_of known (elements_of_list (map exprs.OtherText texts)) ≡ others texts
parts_mean known [] = refl
parts_mean known (text ∷ texts) =
    ap (λ e. core (core_of known e) (parts_of known (elements_of_list (map exprs.OtherText texts)))) (view-OtherText text) ∙ ap (core (other_text text)) (parts_mean known texts)

all_scalar : (texts : List (List ℕ)) → are_scalar (others texts) ≡ true
all_scalar [] = refl
all_scalar (text ∷ texts) = all_scalar texts

all_whole : (texts : List (List ℕ)) → AllHaveParts (others texts)
all_whole [] = tt
all_whole (text ∷ texts) = (tt, all_whole texts)

none_either : (a b : Bool) → (not a && not b) ≡ not (a || b)
none_either true b = refl
none_either false b = refl

each_other : (texts : List (List ℕ)) (t : List ℕ) → list_all (λ (part : ScalarPair). part.value (scalars.Text t)) (pairs_of (others texts)) ≡ not (is_listed texts t)
each_other [] t = refl
each_other (text ∷ texts) t = ap (λ b. not (bytes_eq text t) && b) (each_other texts t) ∙ none_either (bytes_eq text t) (is_listed texts t)

no_default : (texts : List (List ℕ)) → list_any (λ (part : ScalarPair). is_some part.usual) (pairs_of (others texts)) ≡ false
no_default [] = refl
no_default (text ∷ texts) = no_default texts

lets_stand : (text : List ℕ) (texts : List (List ℕ)) (scalar : Scalar) → list_all (λ (part : ScalarPair). part.value scalar) (pairs_of (others (text ∷ texts))) ≡ all_texts (λ t. not (is_listed (text ∷ texts) t)) scalar
lets_stand text texts scalars.Null = refl
lets_stand text texts (scalars.Bool b) = refl
lets_stand text texts (scalars.Int n) = refl
lets_stand text texts (scalars.Text t) = each_other (text ∷ texts) t

-- together they are all texts but these, without a default
other_pair : (text : List ℕ) (texts : List (List ℕ)) → all_of (pairs_of (others (text ∷ texts))) ≡ plain_pair (all_texts (λ t. not (is_listed (text ∷ texts) t)))
other_pair text texts =
    let pairs = pairs_of (others (text ∷ texts)) in
    let value : (λ scalar. list_all (λ (part : ScalarPair). part.value scalar) pairs) ≡ all_texts (λ t. not (is_listed (text ∷ texts) t)) = λ i scalar. lets_stand text texts scalar i in
    ap (λ (members : ScalarMembers). record { value = members; usual = if list_any (λ part. is_some part.usual) pairs then Some (λ scalar. list_all (λ part. default_or_value part scalar) pairs) else None }) value
    ∙ ap (λ some. record { value = all_texts (λ t. not (is_listed (text ∷ texts) t)); usual = if some then Some (λ scalar. list_all (λ part. default_or_value part scalar) pairs) else None }) (no_default (text ∷ texts))

known_others : (texts : List (List ℕ)) (v : Valued) → 0 < length texts → pair_of_value v ≡ plain_pair (all_texts (λ t. not (is_listed texts t))) → IsAllBut (map exprs.OtherText texts) v
known_others [] v some is = absurd (omega arith)
known_others (text ∷ texts) v some is = record {
  scalar = λ known. ap are_scalar (parts_mean known (text ∷ texts)) ∙ all_scalar (text ∷ texts);
  parted = λ known. subst (λ cs. HasParts (conjunction cs)) (sym (parts_mean known (text ∷ texts))) (tt, all_whole texts);
  value = λ known. is ∙ sym (other_pair text texts) ∙ ap (λ cs. all_of (pairs_of cs)) (sym (parts_mean known (text ∷ texts)));
}

-- their value is what they let stand together
pub others_known : (parts : List Expr) (v : Valued) → IsAllButTexts parts v → IsAllBut parts v
others_known parts v are = subst (λ ps. IsAllBut ps v) (sym are.written) (known_others are.texts v are.some are.value)
