-- Lists of texts of which one ends before the other begins.
use Rattle.std.proofs.Common.{◌≡◌, ℕ, zero, suc, ◌+◌, ◌-◌, ◌<◌, Bool, true, false, List, [], ◌∷◌, ◌++◌, length, get_or, refl, ap, subst, arith}
use Rattle.std.proofs.lemmas.Cmp.{nat_list_cmp_total}
use Rattle.std.specs.declared.cmp.Ordering.TheVariants.{Less}
use Rattle.cue_sets.specs.Inner.Apart.{AreBelow, AreApart}
use Rattle.cue_sets.specs.Inner.Merge.{right_merged, merge_texts}
use Rattle.cue_sets.specs.Texts.{text_cmp, IsAscending}

-- an ascending list whose last text is below another text
below_last : (texts : List (List ℕ)) (i : ℕ) (last text : List ℕ) → IsAscending texts → i + 1 ≡ length texts → last ≡ get_or texts i last → text_cmp last text ≡ Less → AreBelow texts text
below_last [] i last text a l e h = tt
below_last (x ∷ []) zero last text a l e h = (subst (λ t. text_cmp t text ≡ Less) e h, tt)
below_last (x ∷ []) (suc i) last text a l e h = absurd (omega arith)
below_last (x ∷ y ∷ texts) zero last text a l e h = absurd (omega arith)
below_last (x ∷ y ∷ texts) (suc i) last text a l e h =
    let rest = below_last (y ∷ texts) i last text a.1 (omega arith) e h in
    (nat_list_cmp_total.trans x y text a.0.0 rest.0, rest)

-- lists that are apart
pub apart_by_ends :
    (left right : List (List ℕ)) (last first : List ℕ) → IsAscending left → 0 < length left → last ≡ get_or left (length left - 1) last
    → first ≡ get_or right 0 first → text_cmp last first ≡ Less → AreApart left right
apart_by_ends left [] last first a l e f h = tt
apart_by_ends left (y ∷ right) last first a l e f h = below_last left (length left - 1) last y a (omega arith) e (subst (λ t. text_cmp last t ≡ Less) f h)

right_whole : (kept : Bool → Bool → Bool) (right : List (List ℕ)) → kept false true ≡ true → right_merged kept right ≡ right
right_whole kept [] r = refl
right_whole kept (y ∷ right) r = rw r (ap (λ xs. y ∷ xs) (right_whole kept right r))

-- all texts of lists that are apart are those of the one, and then those of the other
pub merged_apart : (kept : Bool → Bool → Bool) (left right : List (List ℕ)) → kept true false ≡ true → kept false true ≡ true → AreApart left right → merge_texts kept left right ≡ left ++ right
merged_apart kept [] right l r a = right_whole kept right r
merged_apart kept (x ∷ left) [] l r a = rw l (ap (λ xs. x ∷ xs) (merged_apart kept left [] l r tt))
merged_apart kept (x ∷ left) (y ∷ right) l r a = rw (a.0, l) (ap (λ xs. x ∷ xs) (merged_apart kept left (y ∷ right) l r a.1))
