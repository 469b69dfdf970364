-- What is told of names.
use Rattle.std.proofs.Common.{◌≡◌, ◌↔◌, inl, inr, ⊎_elim, ℕ, zero, suc, Bool, true, false, cond, Option, None, Some, List, [], ◌∷◌, length, codes, sym, subst}
use Rattle.std.specs.List.{list_any}
use Rattle.std.specs.Option.{option_map_or}
use Rattle.std.specs.Prelude.{slice_get}
use Rattle.std.specs.Str.{bytes_eq}
use Rattle.cue_lattice.specs.Path.{Path}
use Rattle.cue_scope.specs.Core.{Core, null, truth, named, top, bottom}
use Rattle.cue_scope.specs.declared.named.Named.{Named}
use Rattle.cue_scope.specs.Definitions.{Definition}
use Rattle.cue_scope.specs.Meaning.{meaning_of_number, meaning_within, meant_use, meant_word}
use Rattle.cue_scope.specs.Named.{named_of}
use Rattle.cue_table.specs.Tree.{Tree, empty}
use Rattle.cue_table.specs.Refuses.{TableRefuses}
use Rattle.cue_eval.specs.declared.declared.Declared.{Declared}
use Rattle.cue_eval.specs.declared.declared.DeclaredQuestion.{DeclaredQuestion}
use Rattle.cue_eval.specs.declared.declares.LiteralSelection.{LiteralSelection}
use Rattle.cue_eval.specs.declared.declares.LiteralSelection.TheVariants.{Own, Dotted}
use Rattle.cue_eval.specs.Literals.{literals, has_dots}
use Rattle.cue_eval.specs.Telling.{DeclaredRefuses}
use Rattle.cue_eval.specs.Inner.Told.{IsDeclaredAt, DeclaresLiterals, AreDots}
use Rattle.cue_eval.proofs.EitherDoes.{either_does}
use Rattle.cue_eval.proofs.Own.{own_or_used, does_more}

-- the empty table refuses nothing
pub empty_tells : (path : Path) (asked : DeclaredQuestion) → ¬ TableRefuses DeclaredRefuses empty path asked
empty_tells [] asked h = h
empty_tells (step ∷ path) asked h = h

TellsNone : LiteralSelection → Core → Type 0
TellsNone whose c = (path : Path) (asked : DeclaredQuestion) → ¬ IsDeclaredAt whose c path asked

pub nothing_told : (whose : LiteralSelection) (c : Core) → ((path : Path) (asked : DeclaredQuestion) → ¬ IsDeclaredAt whose c path asked) → DeclaresLiterals whose c empty
nothing_told whose c h = record { form = (tt, tt, tt); told = λ path asked. (λ r. absurd (empty_tells path asked r), λ t. absurd (h path asked t)) }

one_of_two : (whose : LiteralSelection) (b : Bool) (x y : Core) → TellsNone whose x → TellsNone whose y → TellsNone whose (cond b x y)
one_of_two whose true x y p q = p
one_of_two whose false x y p q = q

set_or_bottom : (whose : LiteralSelection) (o : Option Named) → TellsNone whose (option_map_or named o bottom)
unfolding TellsNone
set_or_bottom whose None path asked h = h
set_or_bottom whose (Some n) path asked h = h

-- of names of the language nothing is told
pub word_told : (whose : LiteralSelection) (t : List ℕ) → DeclaresLiterals whose (meant_word t) empty
unfolding TellsNone
word_told whose t =
    nothing_told whose (meant_word t) (one_of_two whose (bytes_eq t (codes "true")) (truth true) _ (λ path asked h. h)
    (one_of_two whose (bytes_eq t (codes "false")) (truth false) _ (λ path asked h. h)
    (one_of_two whose (bytes_eq t (codes "null")) null _ (λ path asked h. h) (set_or_bottom whose (named_of t)))))

pub hidden_told : (whose : LiteralSelection) (t : List ℕ) → DeclaresLiterals whose (cond (bytes_eq t (codes "_")) top bottom) empty
unfolding TellsNone
hidden_told whose t = nothing_told whose _ (one_of_two whose (bytes_eq t (codes "_")) top bottom (λ path asked h. h) (λ path asked h. h))

-- a use of a definition writes no literal of its own
use_own : (ds : List Definition) (f : ℕ → Core) (o : Option Definition) → TellsNone Own (meant_use ds f o)
unfolding TellsNone
use_own ds f None path asked h = h
use_own ds f (Some d) path asked h = h

meaning_own : (n : ℕ) (ds : List Definition) (i : ℕ) → TellsNone Own (meaning_within n ds i)
unfolding meaning_within TellsNone
meaning_own zero ds i path asked h = h
meaning_own (suc n) ds i path asked h = use_own ds (meaning_within n ds) (slice_get ds i) path asked h

number_own : (ds : List Definition) (o : Option ℕ) → TellsNone Own (option_map_or (meaning_of_number ds) o bottom)
unfolding TellsNone
number_own ds None path asked h = h
number_own ds (Some i) path asked h = meaning_own (length ds) ds i path asked h

pub use_told_own : (ds : List Definition) (o : Option ℕ) → DeclaresLiterals Own (option_map_or (meaning_of_number ds) o bottom) empty
unfolding TellsNone
use_told_own ds o = nothing_told Own _ (number_own ds o)

-- the literals at a path of which one has a `...` are its own, or those in definitions that it names
pub dotted_told : (c : Core) (path : Path) (asked : DeclaredQuestion) → (list_any has_dots (literals c path) ≡ true) ↔ IsDeclaredAt Dotted c path asked
dotted_told c path asked = (to, from) where
  to : list_any has_dots (literals c path) ≡ true → IsDeclaredAt Dotted c path asked
  to h = ⊎_elim (λ o. does_more _ _ _ _ (λ ms d. d) (λ e at n. absurd n) c path o) (λ u. does_more _ _ _ _ (λ ms n. absurd n) (λ e at d. d) c path u) ((own_or_used has_dots c path).0 h)

  from : IsDeclaredAt Dotted c path asked → list_any has_dots (literals c path) ≡ true
  from h = (own_or_used has_dots c path).1 (either_does (λ ms. has_dots ms ≡ true) (λ ms. ⊥) (λ e at. ⊥) (λ e at. list_any has_dots (literals e at) ≡ true) c path (does_more _ _ _ _ (λ ms d. inl d) (λ e at d. inr d) c path h))

-- what is told of dots is what is kept of definitions
pub dots_told : (c : Core) (table : Tree Declared) → AreDots c table → DeclaresLiterals Dotted c table
dots_told c table dots = record {
  form = dots.form;
  told = λ path asked.
      let same = dotted_told c path asked in
      let here = dots.told path asked in
      (λ r. same.0 (here.0 r), λ t. here.1 (same.1 t));
}

pub told_dots : (c : Core) (table : Tree Declared) → DeclaresLiterals Dotted c table → AreDots c table
told_dots c table told = record {
  form = told.form;
  told = λ path asked.
      let same = dotted_told c path asked in
      let here = told.told path asked in
      (λ r. same.1 (here.0 r), λ t. here.1 (same.0 t));
}

pub use_told : (ds : List Definition) (o : Option ℕ) (i : ℕ) (table : Tree Declared) → Some i ≡ o → AreDots (meaning_of_number ds i) table → DeclaresLiterals Dotted (option_map_or (meaning_of_number ds) o bottom) table
use_told ds o i table is dots = subst (λ z. DeclaresLiterals Dotted (option_map_or (meaning_of_number ds) z bottom) table) is (dots_told (meaning_of_number ds i) table dots)

pub unknown_told : (ds : List Definition) (o : Option ℕ) → o ≡ None → DeclaresLiterals Dotted (option_map_or (meaning_of_number ds) o bottom) empty
unknown_told ds o is = subst (λ z. DeclaresLiterals Dotted (option_map_or (meaning_of_number ds) z bottom) empty) (sym is) (nothing_told Dotted bottom (λ path asked h. h))
