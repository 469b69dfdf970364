-- An element of a list, by where it stands.
use Rattle.std.proofs.Common.{◌≡◌, ◌≢◌, ◌≤◌, ◌<◌, ◌+◌, ◌↔◌, ◌++◌, ◌⊎◌, ℕ, inl, inr, length-append, Bool, true, false, List, length, take, drop, IsTrue, sym, ap, subst, ◌∙◌, arith, append_assoc}
use Rattle.std.proofs.lemmas.Bool.{cases_order, false≢true}
use Rattle.std.proofs.lemmas.List.{append_cancel_left, take-append-drop, length-take}
use Rattle.std.proofs.Math.Seq.{take-append_seam, drop-append_seam}
use Rattle.cue_service.specs.Conditions.{IsListed, begins_behind, ends_before}

-- the bytes begin with an element
abbrev pub Begins : List ℕ → List ℕ → Type 0
Begins element rest = (behind : List ℕ) × (rest ≡ element ++ behind) × IsTrue (ends_before behind)

abbrev pub ListedAt : List ℕ → List ℕ → ℕ → Type 0
ListedAt element field at = (listed : IsListed element field) × (length listed.before ≡ at)

pub listed_here : (element field : List ℕ) (at : ℕ) → at ≤ length field → IsTrue (begins_behind true (take at field)) → Begins element (drop at field) → ListedAt element field at
listed_here element field at fits begins (behind, is, ends) = (
  record {
    before = take at field;
    behind = behind;
    is = sym (take-append-drop at field) ∙ ap (λ (l : List ℕ). take at field ++ l) is ∙ sym (append_assoc (take at field) element behind);
    begins = begins;
    ends = ends;
  },
  omega (arith, length-take at field),
)

pub front_is : (element field : List ℕ) (at : ℕ) (l : ListedAt element field at) → take at field ≡ l.0.before
front_is element field at (l, is) =
    ap (λ n. take n field) (sym is) ∙ ap (take (length l.before)) (l.is ∙ append_assoc l.before element l.behind) ∙ take-append_seam l.before (element ++ l.behind)

pub rest_is : (element field : List ℕ) (at : ℕ) (l : ListedAt element field at) → drop at field ≡ element ++ l.0.behind
rest_is element field at (l, is) =
    ap (λ n. drop n field) (sym is) ∙ ap (drop (length l.before)) (l.is ∙ append_assoc l.before element l.behind) ∙ drop-append_seam l.before (element ++ l.behind)

-- nothing begins there
pub not_here : (element field before : List ℕ) (at : ℕ) (r : Bool) → before ≡ take at field → r ≡ begins_behind true before → r ≡ false → IsTrue false ↔ ListedAt element field at
not_here element field before at r front begins closed = (
  λ t. absurd (false≢true t),
  λ l. sym closed ∙ begins ∙ ap (begins_behind true) (front ∙ front_is element field at l) ∙ l.0.begins,
)

pub is_here : (element field before rest : List ℕ) (at : ℕ) (r found : Bool) → at ≤ length field → before ≡ take at field → rest ≡ drop at field → r ≡ begins_behind true before → r ≡ true
    → (IsTrue found ↔ Begins element rest) → IsTrue found ↔ ListedAt element field at
is_here element field before rest at r found fits front back begins open_here is = (
  λ t. listed_here element field at fits (ap (begins_behind true) (sym front) ∙ sym begins ∙ open_here) (subst (Begins element) back (is.0 t)),
  λ l. is.1 (l.0.behind, back ∙ rest_is element field at l, l.0.ends),
)

-- an element of two parts, one behind the other
pub both_parts : (mark tag rest behind back : List ℕ) (r : Bool) → rest ≡ mark ++ behind → behind ≡ tag ++ back → r ≡ ends_before back → IsTrue r ↔ Begins (mark ++ tag) rest
both_parts mark tag rest behind back r first second ends = (
  λ t. (back, whole, sym ends ∙ t),
  λ (other, is, closes). ends ∙ ap ends_before (append_cancel_left (mark ++ tag) back other (sym whole ∙ is)) ∙ closes,
)
  where
    whole : rest ≡ mark ++ tag ++ back
    whole = first ∙ ap (λ (l : List ℕ). mark ++ l) second ∙ sym (append_assoc mark tag back)

pub no_first : (mark tag rest : List ℕ) → ((x : List ℕ) → rest ≢ mark ++ x) → IsTrue false ↔ Begins (mark ++ tag) rest
no_first mark tag rest none = (λ t. absurd (false≢true t), λ (back, is, ends). absurd (none (tag ++ back) (is ∙ append_assoc mark tag back)))

pub no_second : (mark tag rest behind : List ℕ) → rest ≡ mark ++ behind → ((x : List ℕ) → behind ≢ tag ++ x) → IsTrue false ↔ Begins (mark ++ tag) rest
no_second mark tag rest behind first none = (
  λ t. absurd (false≢true t),
  λ (back, is, ends). absurd (none back (append_cancel_left mark behind (tag ++ back) (sym first ∙ is ∙ append_assoc mark tag back))),
)

-- none begins up to a place, and none there
pub none_so_far : (element field : List ℕ) (at : ℕ) (r : Bool) → r ≡ false → (IsTrue r ↔ ListedAt element field at) → ((e : IsListed element field) → length e.before < at → ⊥)
    → (e : IsListed element field) → length e.before < at + 1 → ⊥
none_so_far element field at r none here before e less =
    elim (cases_order (length e.before) at) [
      | inl same ↦ false≢true (sym none ∙ here.1 (e, same))
      | inr (inl below) ↦ before e below
      | inr (inr above) ↦ absurd (omega arith)
    ]

pub none_at_all : (element field : List ℕ) (at : ℕ) → length field < at → ((e : IsListed element field) → length e.before < at → ⊥) → IsTrue false ↔ IsListed element field
none_at_all element field at past none = (
  λ t. absurd (false≢true t),
  λ e. absurd (none e (omega (arith, ap length e.is, length-append (e.before ++ element) e.behind, length-append e.before element))),
)
