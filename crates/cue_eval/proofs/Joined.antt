-- Scalars among the parts of an `&`, which make one table.
use Rattle.std.proofs.Common.{◌≡◌, ◌↔◌, ◌⊎◌, inl, inr, ⊎_elim, ℕ, zero, suc, false, List, [], ◌∷◌, ◌++◌, map, length, sym, subst, ◌<◌, Vec, Global, arith}
use Rattle.std.specs.Prelude.{IsTrue, ◌==◌, vec_len}
use Rattle.cue_lattice.specs.OneOf.{OneOf}
use Rattle.cue_lattice.proofs.OneOf.{one_of-push}
use Rattle.cue_lattice.specs.Path.{Path}
use Rattle.cue_lattice.specs.Question.{Question, SameAnswers}
use Rattle.cue_row.specs.declared.parts.RowParts.{RowParts as Row}
use Rattle.cue_scalars.specs.Pairs.{ScalarPair, all_of}
use Rattle.cue_scalars.specs.Values.{pair_of_value}
use Rattle.cue_scalars.specs.declared.valued.Valued.{Valued}
use Rattle.cue_table.specs.Tree.{Tree}
use Rattle.cue_syntax.specs.declared.tree.Identifier.TheVariants.{Plain}
use Rattle.cue_syntax.specs.Syntax as tree
use Rattle.cue_syntax.specs.Syntax.{Expression}
use Rattle.cue_scope.specs.Core.{Core, is_scalar}
use Rattle.cue_scope.specs.Definitions.{Definition}
use Rattle.cue_scope.specs.Meaning.{meaning_of_number, meant}
use Rattle.cue_scope.specs.Terms.{terms}
use Rattle.cue_eval.specs.declared.declared.DeclaredQuestion.{DeclaredQuestion}
use Rattle.cue_eval.specs.declared.tables.TableBuilder.{TableBuilder}
use Rattle.cue_eval.specs.declared.declares.LiteralSelection.{LiteralSelection}
use Rattle.cue_eval.specs.Inner.Gathered.{TreeRefusals}
use Rattle.cue_eval.specs.Inner.Known.{IsPairable}
use Rattle.cue_eval.specs.Pairs.{pair}
use Rattle.cue_eval.specs.Inner.Parts.{IsScalarPart, OneScalarRefuses, AreJoined}
use Rattle.cue_eval.specs.Places.{IsAtPlace, ScalarRefuses}
use Rattle.cue_eval.specs.Inner.Ready.{all_definitions, IsReady}
use Rattle.cue_eval.specs.Refuses.{Refuses}
use Rattle.cue_eval.specs.Inner.Told.{IsDeclaredAt}
use Rattle.cue_eval.proofs.ByPair.{all_refuse}
use Rattle.cue_eval.proofs.Leaves.{leaf_scalar, leaf_refuses, word_scalar, word_refuses}
use Rattle.cue_eval.proofs.TellingNames.{empty_tells, word_told}

-- ---- a part that is scalar by its form
scalar_part : (ds : List Definition) (m : ℕ → Core) (e : Expression) → IsScalarPart e → terms ds m e ≡ [] → IsTrue (is_scalar (meant ds m e))
scalar_part ds m (tree.name (Plain t) from) part h = word_scalar t
scalar_part ds m (tree.parenthesis e comma) part h = scalar_part ds m e part h
scalar_part ds m e part h = leaf_scalar ds m e part h

-- its pair can be found
pub part_pairable : (known : TableBuilder) (e : Expression) → IsScalarPart e → IsReady known e → IsPairable known.pairs e
part_pairable known e part h =
    let ds = all_definitions known in
    record { right = h.right; scalar = scalar_part ds (meaning_of_number ds) e part h.terms; used = h.used.pairs }

-- and tells what it refuses
part_refuses : (ds : List Definition) (m : ℕ → Core) (e : Expression) → IsScalarPart e → SameAnswers (Refuses (meant ds m e)) (IsAtPlace (ScalarRefuses (pair (meant ds m e))))
part_refuses ds m (tree.name (Plain t) from) part = word_refuses t
part_refuses ds m (tree.parenthesis e comma) part = part_refuses ds m e part
part_refuses ds m e part = leaf_refuses ds m e part

pub part_value : (ds : List Definition) (m : ℕ → Core) (e : Expression) (v : Valued) → IsScalarPart e → pair_of_value v ≡ pair (meant ds m e) → SameAnswers (Refuses (meant ds m e)) (IsAtPlace (ScalarRefuses (pair_of_value v)))
part_value ds m e v part is = subst (λ p. SameAnswers (Refuses (meant ds m e)) (IsAtPlace (ScalarRefuses p))) (sym is) (part_refuses ds m e part)

-- it writes and names no struct literal
pub part_tells : (whose : LiteralSelection) (ds : List Definition) (m : ℕ → Core) (e : Expression) → IsScalarPart e → (path : Path) (asked : DeclaredQuestion) → ¬ IsDeclaredAt whose (meant ds m e) path asked
part_tells whose ds m (tree.name (Plain t) from) part path asked h = empty_tells path asked (((word_told whose t).told path asked).1 h)
part_tells whose ds m (tree.parenthesis e comma) part path asked h = part_tells whose ds m e part path asked h
part_tells whose ds m (tree.integer n) part path asked h = h
part_tells whose ds m (tree.text t) part path asked h = h
part_tells whose ds m tree.bottom part path asked h = h
part_tells whose ds m (tree.bound c n) part path asked h = h
part_tells whose ds m (tree.other_integer n) part path asked h = h
part_tells whose ds m (tree.other_text t) part path asked h = h
part_tells whose ds m (tree.disjunction bs) part path asked h = h
part_tells whose ds m _ part path asked h = absurd part

-- ---- one more on one side of two
pub more_left : {all so more item : Type 0} → more ↔ (so ⊎ item) → (more ⊎ all) ↔ ((so ⊎ all) ⊎ item)
more_left h = (
  ⊎_elim (λ m. ⊎_elim (λ s. inl (inl s)) inr (h.0 m)) (λ a. inl (inr a)),
  ⊎_elim (⊎_elim (λ s. inl (h.1 (inl s))) inr) (λ i. inl (h.1 (inr i))),
)

pub more_right : {all so more item : Type 0} → more ↔ (so ⊎ item) → (all ⊎ more) ↔ ((all ⊎ so) ⊎ item)
more_right h = (
  ⊎_elim (λ a. inl (inl a)) (λ m. ⊎_elim (λ s. inl (inr s)) inr (h.0 m)),
  ⊎_elim (⊎_elim inl (λ s. inr (h.1 (inl s)))) (λ i. inr (h.1 (inr i))),
)

-- ---- the table of all
-- a list that isn't empty has something
none_is : (n : ℕ) → (n == 0) ≡ false → 0 < n
none_is zero e = absurd (cc)
none_is (suc n) e = omega arith

pub some_there : (scalars : Vec Valued Global) → (vec_len scalars == 0) ≡ false → 0 < length scalars.items
some_there scalars e = let some = none_is (vec_len scalars) e in let is = scalars.ok.0 in omega (arith, some, is)

-- one of the values, or one of their pairs
one_of_pairs : (P : ScalarPair → Type 0) (scalars : List Valued) → OneOf (λ valued. P (pair_of_value valued)) scalars ↔ OneOf P (map pair_of_value scalars)
one_of_pairs P [] = (λ h. h, λ h. h)
one_of_pairs P (v ∷ vs) =
    let rest = one_of_pairs P vs in (
      ⊎_elim (λ h. inl h) (λ h. inr (rest.0 h)),
      ⊎_elim (λ h. inl h) (λ h. inr (rest.1 h)),
    )

-- one table refuses what one of the scalars does
scalars_refuse : (scalars : List Valued) (v : Valued) (table : Tree Row) → 0 < length scalars → pair_of_value v ≡ all_of (map pair_of_value scalars) → SameAnswers (TreeRefusals table) (IsAtPlace (ScalarRefuses (pair_of_value v)))
    → (path : Path) (question : Question) → TreeRefusals table path question ↔ OneScalarRefuses scalars path question
scalars_refuse [] v table some is same path question = absurd (omega (arith, some))
scalars_refuse (first ∷ scalars) v table some is same path question =
    let here = subst (λ p. TreeRefusals table path question ↔ IsAtPlace (ScalarRefuses p) path question) is (same path question) in
    let all = all_refuse (pair_of_value first) (map pair_of_value scalars) path question in
    let each = one_of_pairs (λ p. IsAtPlace (ScalarRefuses p) path question) (first ∷ scalars) in
    (λ h. each.1 (all.1 (here.0 h)), λ h. here.1 (all.0 (each.0 h)))

pub joined_all : (old : List (Tree Row)) (scalars : List Valued) (v : Valued) (table : Tree Row) → 0 < length scalars → pair_of_value v ≡ all_of (map pair_of_value scalars) → SameAnswers (TreeRefusals table) (IsAtPlace (ScalarRefuses (pair_of_value v)))
    → AreJoined old scalars (old ++ table ∷ [])
joined_all old scalars v table some is same path question =
    let push = one_of-push (λ t. TreeRefusals t path question) old table in
    let one = scalars_refuse scalars v table some is same path question in (
      λ h. ⊎_elim (λ g. inl g) (λ g. inr (one.0 g)) (push.0 h),
      λ h. push.1 (⊎_elim (λ g. inl g) (λ g. inr (one.1 g)) h),
    )
