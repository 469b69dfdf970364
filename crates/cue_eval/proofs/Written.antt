-- The struct literals at a path, and the labels that they leave out.
use Rattle.std.proofs.Common.{◌≡◌, ◌≢◌, ◌⊎◌, inl, inr, ℕ, Bool, true, false, ◌||◌, cond, List, [], ◌∷◌, ◌++◌, refl, sym, ap, ◌∙◌}
use Rattle.std.specs.List.{list_any}
use Rattle.std.specs.Str.{bytes_eq}
use Rattle.std.proofs.lemmas.Bool.{false≢true}
use Rattle.std.proofs.lemmas.List.Folds.{list_any-append}
use Rattle.std.proofs.lemmas.Slice.Eq.{bytes_eq-Decides}
use Rattle.cue_lattice.specs.Path.{Path}
use Rattle.cue_lattice.specs.Question.{allows}
use Rattle.cue_syntax.specs.declared.tree.Mark.{Mark}
use Rattle.cue_scope.specs.Core.{Members}
use Rattle.cue_eval.specs.Literals.{has_declaration, has_dots, LeaveOut}
use Rattle.cue_eval.specs.Places.{IsAtPlace, MarkRefuses}

pub some_left : {X : Type 0} (xs ys : List X) → xs ≢ [] → xs ++ ys ≢ []
some_left [] ys h e = h refl
some_left (x ∷ xs) ys h e = cc

pub some_right : {X : Type 0} (xs ys : List X) → ys ≢ [] → xs ++ ys ≢ []
some_right [] ys h e = h e
some_right (x ∷ xs) ys h e = cc

both_false : (a b : Bool) → (a || b) ≡ false → (a ≡ false) × (b ≡ false)
both_false false b e = (refl, e)
both_false true b e = absurd (false≢true (sym e))

any_false : {X : Type 0} (test : X → Bool) (xs ys : List X) → list_any test (xs ++ ys) ≡ false → (list_any test xs ≡ false) × (list_any test ys ≡ false)
any_false test xs ys e = both_false (list_any test xs) (list_any test ys) (sym (list_any-append test xs ys) ∙ e)

-- some of the literals leave out what all do
pub left_out_left : (xs ys : List Members) (l : List ℕ) → xs ≢ [] → LeaveOut (xs ++ ys) l → LeaveOut xs l
left_out_left xs ys l h out = record {
  some = h;
  without_dots = (any_false has_dots xs ys out.without_dots).0;
  undeclared = (any_false (has_declaration l) xs ys out.undeclared).0;
}

pub left_out_right : (xs ys : List Members) (l : List ℕ) → ys ≢ [] → LeaveOut (xs ++ ys) l → LeaveOut ys l
left_out_right xs ys l h out = record {
  some = h;
  without_dots = (any_false has_dots xs ys out.without_dots).1;
  undeclared = (any_false (has_declaration l) xs ys out.undeclared).1;
}

-- what all leave out, the first or the others do
pub left_out_by_one : (xs ys : List Members) (l : List ℕ) → LeaveOut (xs ++ ys) l → LeaveOut xs l ⊎ LeaveOut ys l
left_out_by_one [] ys l out = inr out
left_out_by_one (x ∷ xs) ys l out = inl (left_out_left (x ∷ xs) ys l (λ e. cc) out)

-- a mark refuses no label
pub mark_refuses_no_label : (mark : Mark) (path : Path) (k : List ℕ) → IsAtPlace (MarkRefuses mark) path (allows k) → ⊥
mark_refuses_no_label mark [] k h = h
mark_refuses_no_label mark (step ∷ path) k h = h

-- literals of a declaration of this label
pub same_label : (k l : List ℕ) (xs : List Members) → k ≡ l → cond (bytes_eq k l) xs [] ≡ xs
same_label k l xs e = ap (λ b. cond b xs []) ((bytes_eq-Decides k l).1 e)
