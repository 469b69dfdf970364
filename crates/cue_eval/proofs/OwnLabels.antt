-- What the struct literals declare that an expression writes itself, as a table tells it.
use Rattle.std.proofs.Common.{◌≡◌, ◌↔◌, ◌⊎◌, inl, inr, ⊎_elim, ℕ, ◌+◌, ◌≤◌, ◌<◌, max, Bool, true, false, ◌||◌, List, [], ◌∷◌, length, replicate, Some, refl, sym, ap, subst, ◌∙◌, arith}
use Rattle.std.proofs.lemmas.Bool.{false≢true}
use Rattle.std.proofs.lemmas.List.{length-replicate}
use Rattle.cue_lattice.specs.Path.{Path}
use Rattle.cue_sets.specs.Texts.{RefusesText, is_member_if, is_listed, is_text_member}
use Rattle.cue_scope.specs.Core.{Core, Members}
use Rattle.cue_table.specs.Refuses as tables
use Rattle.cue_table.specs.Tree.{Tree, row_at}
use Rattle.cue_eval.specs.Closing.{OneOfOwn}
use Rattle.cue_eval.specs.Literals.{literals, has_declaration, has_dots}
use Rattle.cue_eval.specs.Telling.{DeclaredRefuses}
use Rattle.cue_eval.specs.Inner.Told.{IsDeclaredAt, DeclaresLiterals, own_literals_declare, used_literals_declare}
use Rattle.cue_eval.specs.declared.declared.Declared.{Declared}
use Rattle.cue_eval.specs.declared.declared.DeclaredQuestion.{DeclaredQuestion}
use Rattle.cue_eval.specs.declared.declared.DeclaredQuestion.TheVariants.{Declares}
use Rattle.cue_eval.specs.declared.declares.LiteralSelection.TheVariants.{Own}
use Rattle.cue_eval.proofs.Adding.{longest_of, longer_differs, longer_undeclared_by_all}
use Rattle.cue_eval.proofs.EitherDoes.{either_does}
use Rattle.cue_eval.proofs.Own.{own_or_used, does_more}

-- ---- a label that is longer than those of a list
pub longest_text : List (List ℕ) → ℕ
longest_text [] = 0
longest_text (text ∷ texts) = max (length text) (longest_text texts)

pub longer_unlisted : (l : List ℕ) (texts : List (List ℕ)) → longest_text texts < length l → is_listed texts l ≡ false
unfolding longest_text
longer_unlisted l [] h = refl
longer_unlisted l (text ∷ texts) h = rw (longer_differs text l (omega (arith, h))) (longer_unlisted l texts (omega (arith, h)))

pub label_of : ℕ → List ℕ
label_of n = replicate (n + 1) 0

pub label_longer : (n m : ℕ) → n ≤ m → n < length (label_of m)
unfolding label_of
label_longer n m h = rw length-replicate (omega (arith, h))

-- ---- what own literals declare at a path
or_true : (a b : Bool) → (a || b) ≡ true → (a ≡ true) ⊎ (b ≡ true)
or_true true b h = inl refl
or_true false b h = inr h

true_or : (a b : Bool) → a ≡ true → (a || b) ≡ true
true_or a b h = ap (λ x. x || b) h

or_second : (a b : Bool) → b ≡ true → (a || b) ≡ true
or_second true b h = refl
or_second false b h = h

abbrev pub TellsOwn : Declared → Core → Path → Type 0
TellsOwn here c path = (asked : DeclaredQuestion) → DeclaredRefuses here asked ↔ IsDeclaredAt Own c path asked

pub told_here : (c : Core) (own : Tree Declared) (path : Path) (here : Declared) → DeclaresLiterals Own c own → row_at own path ≡ Some here → TellsOwn here c path
told_here c own path here told at asked = subst (λ o. tables.RowRefuses DeclaredRefuses o asked ↔ IsDeclaredAt Own c path asked) at (told.told path asked)

declares_more : (here : Declared) (c : Core) (path : Path) (l : List ℕ) (test : Members → Bool) → TellsOwn here c path → ((ms : Members) → test ms ≡ true → (has_dots ms || has_declaration l ms) ≡ true)
    → OneOfOwn test c path → RefusesText here.undeclared l
declares_more here c path l test told more h =
    (told (Declares l)).1 (does_more (λ ms. test ms ≡ true) (own_literals_declare Own (Declares l)) (λ c path. ⊥) (used_literals_declare Own) more (λ c path n. n) c path h)

pub dots_declare : (here : Declared) (c : Core) (path : Path) (l : List ℕ) → TellsOwn here c path → OneOfOwn has_dots c path → RefusesText here.undeclared l
dots_declare here c path l told h = declares_more here c path l has_dots told (λ ms e. true_or (has_dots ms) (has_declaration l ms) e) h

pub label_declares : (here : Declared) (c : Core) (path : Path) (l : List ℕ) → TellsOwn here c path → OneOfOwn (has_declaration l) c path → RefusesText here.undeclared l
label_declares here c path l told h = declares_more here c path l (has_declaration l) told (λ ms e. or_second (has_dots ms) (has_declaration l ms) e) h

declared_by : (here : Declared) (c : Core) (path : Path) (l : List ℕ) → TellsOwn here c path → RefusesText here.undeclared l → OneOfOwn has_dots c path ⊎ OneOfOwn (has_declaration l) c path
declared_by here c path l told h =
    either_does (λ ms. has_dots ms ≡ true) (λ ms. has_declaration l ms ≡ true) (λ c path. ⊥) (λ c path. ⊥) c path
    (does_more (own_literals_declare Own (Declares l)) (λ ms. (has_dots ms ≡ true) ⊎ (has_declaration l ms ≡ true)) (used_literals_declare Own) (λ c path. ⊥ ⊎ ⊥) (λ ms e. or_true (has_dots ms) (has_declaration l ms) e) (λ c path n. absurd n) c path
    ((told (Declares l)).0 h))

-- a label that no literal declares, and that isn't listed
far : Declared → Core → Path → List ℕ
far here c path = label_of (max (longest_of (literals c path)) (longest_text here.undeclared.1))

far_undeclared : (here : Declared) (c : Core) (path : Path) → ¬ OneOfOwn (has_declaration (far here c path)) c path
unfolding far
far_undeclared here c path h =
    let l = far here c path in
    let none = longer_undeclared_by_all l (literals c path) (label_longer (longest_of (literals c path)) (max (longest_of (literals c path)) (longest_text here.undeclared.1)) (omega arith)) in
    false≢true (sym none ∙ (own_or_used (has_declaration l) c path).1 (inl h))

far_unlisted : (here : Declared) (c : Core) (path : Path) → is_listed here.undeclared.1 (far here c path) ≡ false
unfolding far
far_unlisted here c path =
    longer_unlisted (far here c path) here.undeclared.1 (label_longer (longest_text here.undeclared.1) (max (longest_of (literals c path)) (longest_text here.undeclared.1)) (omega arith))

-- where each label is declared, one literal has a `...`
pub all_by_dots : (here : Declared) (c : Core) (path : Path) → TellsOwn here c path → ((l : List ℕ) → RefusesText here.undeclared l) → OneOfOwn has_dots c path
all_by_dots here c path told all =
    ⊎_elim (λ d. d) (λ n. absurd (far_undeclared here c path n)) (declared_by here c path (far here c path) told (all (far here c path)))

-- without one, all but finitely many labels are undeclared
pub without_dots_all_but : (here : Declared) (c : Core) (path : Path) → TellsOwn here c path → ¬ OneOfOwn has_dots c path → here.undeclared.0 ≡ true
without_dots_all_but here c path told none = by here.undeclared.0 refl where
  by : (b : Bool) → here.undeclared.0 ≡ b → b ≡ true
  by true e = refl
  by false e =
      let k = far here c path in
      let declared : RefusesText here.undeclared k = ap (λ b. is_member_if b (is_listed here.undeclared.1 k)) e ∙ far_unlisted here c path in
      absurd (⊎_elim none (far_undeclared here c path) (declared_by here c path k told declared))

pub undeclared_member : (here : Declared) (c : Core) (path : Path) (l : List ℕ) → TellsOwn here c path → ¬ OneOfOwn has_dots c path → ¬ OneOfOwn (has_declaration l) c path → is_text_member here.undeclared l ≡ true
undeclared_member here c path l told dotless none = by (is_text_member here.undeclared l) refl where
  by : (b : Bool) → is_text_member here.undeclared l ≡ b → b ≡ true
  by true e = refl
  by false e = absurd (⊎_elim dotless none (declared_by here c path l told e))
