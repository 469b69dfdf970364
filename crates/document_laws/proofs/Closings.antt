-- What closing refuses, and what the conjuncts declare.
use Rattle.std.proofs.Common.{◌≡◌, ◌↔◌, ◌⊎◌, ⊎_elim, inl, inr, ◌||◌, ℕ, zero, suc, Bool, true, false, cond, List, [], ◌∷◌, ◌++◌, refl, sym, ap, ◌∙◌, subst, append_assoc, append-nil}
use Rattle.std.specs.List.{list_any}
use Rattle.std.specs.Str.{bytes_eq}
use Rattle.std.proofs.lemmas.Bool.{cases_Bool, true_from_ne_false, false≢true}
use Rattle.std.proofs.lemmas.Slice.Eq.{bytes_eq-Decides}
use Rattle.cue_lattice.specs.Path.{Path, label, index}
use Rattle.cue_lattice.specs.Question.{Refusals, Question}
use Rattle.cue_lattice.specs.Document as documents
use Rattle.cue_lattice.specs.Document.{Document}
use Rattle.cue_lattice.specs.Meets.{Meets, ItemsMeet, MembersMeet}
use Rattle.cue_lattice.proofs.Meeting.{less}
use Rattle.cue_scope.specs.Core as cores
use Rattle.cue_scope.specs.Core.{Core, null, truth, integer, text, named, top, bottom, bound, other_integer, other_text, conjunction, disjunction, struct, close, list, closed, Cores, no_cores, core, Elements, ends, goes_on, each, element}
use Rattle.cue_eval.specs.Literals.{has_declaration, has_dots, with_fields, with_elements, literals, literals_of_parts, literals_of_field, literals_of_element, LeaveOut}
use Rattle.cue_eval.specs.Places.{ClosingRefuses}
use Rattle.document_laws.specs.Conjuncts.{LiteralPart, fields, elements, conjuncts, conjuncts_of, parts_of_label, parts_of_index, field_parts, item_parts, structs, IsDeclaredIn, HasDots, OneIs, DeclaresLabel, Within, ItemsWithin, MembersWithin}

either : (a b : Bool) → a || b ≡ true → (a ≡ true) ⊎ (b ≡ true)
either true b e = inl refl
either false b e = inr e

or_left : (a b : Bool) → a ≡ true → a || b ≡ true
or_left true b e = refl
or_left false b e = absurd (false≢true e)

or_right : (a b : Bool) → b ≡ true → a || b ≡ true
or_right true b e = refl
or_right false b e = e

-- what the parts write at a path
abbrev pub lits : List LiteralPart → Path → List cores.Members
lits [] path = []
lits (fields ms ∷ parts) path = with_fields ms (literals_of_field ms) path ++ lits parts path
lits (elements cs ∷ parts) path = with_elements (literals_of_element cs) path ++ lits parts path

lits-append : (a b : List LiteralPart) (path : Path) → lits (a ++ b) path ≡ lits a path ++ lits b path
lits-append [] b path = refl
lits-append (fields ms ∷ a) b path = ap (λ zs. with_fields ms (literals_of_field ms) path ++ zs) (lits-append a b path) ∙ sym (append_assoc (with_fields ms (literals_of_field ms) path) (lits a path) (lits b path))
lits-append (elements cs ∷ a) b path = ap (λ zs. with_elements (literals_of_element cs) path ++ zs) (lits-append a b path) ∙ sym (append_assoc (with_elements (literals_of_element cs) path) (lits a path) (lits b path))

mutual
  pub of_conjuncts : (c : Core) (path : Path) → literals c path ≡ lits (conjuncts c) path
  of_conjuncts null path = refl
  of_conjuncts (truth b) path = refl
  of_conjuncts (integer n) path = refl
  of_conjuncts (text t) path = refl
  of_conjuncts (named name) path = refl
  of_conjuncts bottom path = refl
  of_conjuncts (bound comparison n) path = refl
  of_conjuncts (other_integer n) path = refl
  of_conjuncts (other_text t) path = refl
  of_conjuncts (disjunction terms) path = refl
  of_conjuncts top path = refl
  of_conjuncts (conjunction cs) path = of_parts cs path
  of_conjuncts (struct ms) path = sym (append-nil (with_fields ms (literals_of_field ms) path))
  of_conjuncts (close ms) path = sym (append-nil (with_fields ms (literals_of_field ms) path))
  of_conjuncts (list es) path = sym (append-nil (with_elements (literals_of_element es) path))
  of_conjuncts (closed c) path = of_conjuncts c path

  of_parts : (cs : Cores) (path : Path) → literals_of_parts cs path ≡ lits (conjuncts_of cs) path
  of_parts no_cores path = refl
  of_parts (core c cs) path = ap (λ zs. zs ++ literals_of_parts cs path) (of_conjuncts c path) ∙ ap (λ zs. lits (conjuncts c) path ++ zs) (of_parts cs path) ∙ sym (lits-append (conjuncts c) (conjuncts_of cs) path)

if_lits : (b : Bool) (c : Core) (path : Path) → cond b (literals c path) [] ≡ lits (cond b (conjuncts c) []) path
if_lits true c path = of_conjuncts c path
if_lits false c path = refl

of_field : (ms : cores.Members) (l : List ℕ) (path : Path) → literals_of_field ms l path ≡ lits (parts_of_label ms l) path
of_field cores.no_members l path = refl
of_field (cores.member k mark c ms) l path =
    ap (λ zs. zs ++ literals_of_field ms l path) (if_lits (bytes_eq k l) c path) ∙ ap (λ zs. lits (cond (bytes_eq k l) (conjuncts c) []) path ++ zs) (of_field ms l path)
    ∙ sym (lits-append (cond (bytes_eq k l) (conjuncts c) []) (parts_of_label ms l) path)
of_field (cores.dots ms) l path = of_field ms l path

of_element : (es : Elements) (i : ℕ) (path : Path) → literals_of_element es i path ≡ lits (parts_of_index es i) path
of_element ends i path = refl
of_element goes_on i path = refl
of_element (each c) i path = of_conjuncts c path
of_element (element c es) zero path = of_conjuncts c path
of_element (element c es) (suc i) path = of_element es i path

at_root : (parts : List LiteralPart) → lits parts [] ≡ structs parts
at_root [] = refl
at_root (fields ms ∷ parts) = ap (λ zs. ms ∷ zs) (at_root parts)
at_root (elements cs ∷ parts) = at_root parts

at_field : (parts : List LiteralPart) (l : List ℕ) (path : Path) → lits parts (label l ∷ path) ≡ lits (field_parts parts l) path
at_field [] l path = refl
at_field (fields ms ∷ parts) l path = ap (λ zs. zs ++ lits parts (label l ∷ path)) (of_field ms l path) ∙ ap (λ zs. lits (parts_of_label ms l) path ++ zs) (at_field parts l path) ∙ sym (lits-append (parts_of_label ms l) (field_parts parts l) path)
at_field (elements cs ∷ parts) l path = at_field parts l path

at_item : (parts : List LiteralPart) (i : ℕ) (path : Path) → lits parts (index i ∷ path) ≡ lits (item_parts parts i) path
at_item [] i path = refl
at_item (fields ms ∷ parts) i path = at_item parts i path
at_item (elements cs ∷ parts) i path = ap (λ zs. zs ++ lits parts (index i ∷ path)) (of_element cs i path) ∙ ap (λ zs. lits (parts_of_index cs i) path ++ zs) (at_item parts i path) ∙ sym (lits-append (parts_of_index cs i) (item_parts parts i) path)

clash : (b : Bool) → b ≡ true → b ≡ false → ⊥
clash b e f = false≢true (sym f ∙ e)

-- a test of struct literals decides what is said of them
abbrev Decides : (cores.Members → Bool) → (cores.Members → Type 0) → Type 0
Decides test P = (ms : cores.Members) → (test ms ≡ true → P ms) × (P ms → test ms ≡ true)

decides_dots : Decides has_dots HasDots
decides_dots cores.no_members = (λ e. false≢true e, λ h. absurd h)
decides_dots (cores.member k mark c ms) = decides_dots ms
decides_dots (cores.dots ms) = (λ e. tt, λ h. refl)

decides_declared : (l : List ℕ) → Decides (has_declaration l) (IsDeclaredIn l)
decides_declared l cores.no_members = (λ e. false≢true e, λ h. absurd h)
decides_declared l (cores.member k mark c ms) = (
  λ e. ⊎_elim (λ same. inl ((bytes_eq-Decides k l).0 same)) (λ more. inr ((decides_declared l ms).0 more)) (either (bytes_eq k l) (has_declaration l ms) e),
  λ h. ⊎_elim (λ same. or_left (bytes_eq k l) (has_declaration l ms) ((bytes_eq-Decides k l).1 same)) (λ more. or_right (bytes_eq k l) (has_declaration l ms) ((decides_declared l ms).1 more)) h,
)
decides_declared l (cores.dots ms) = decides_declared l ms

one_is : (test : cores.Members → Bool) (P : cores.Members → Type 0) → Decides test P → (w : List cores.Members) → list_any test w ≡ true → OneIs P w
one_is test P d [] e = false≢true e
one_is test P d (ms ∷ w) e = ⊎_elim (λ here. inl ((d ms).0 here)) (λ more. inr (one_is test P d w more)) (either (test ms) (list_any test w) e)

one_passes : (test : cores.Members → Bool) (P : cores.Members → Type 0) → Decides test P → (w : List cores.Members) → OneIs P w → list_any test w ≡ true
one_passes test P d [] h = absurd h
one_passes test P d (ms ∷ w) h = ⊎_elim (λ here. or_left (test ms) (list_any test w) ((d ms).1 here)) (λ more. or_right (test ms) (list_any test w) (one_passes test P d w more)) h

pub declares_them : (w : List cores.Members) (l : List ℕ) → ¬ LeaveOut w l → DeclaresLabel w l
declares_them [] l h = tt
declares_them (ms ∷ w) l h = elim (cases_Bool (list_any (has_declaration l) (ms ∷ w))) [
  | inl is ↦ inl (one_is (has_declaration l) (IsDeclaredIn l) (decides_declared l) (ms ∷ w) is)
  | inr none ↦ inr (one_is has_dots HasDots decides_dots (ms ∷ w)
      (true_from_ne_false (list_any has_dots (ms ∷ w)) (λ dotless. h (record { some = λ e. cc; without_dots = dotless; undeclared = none }))))
]

pub leaves_none_out : (w : List cores.Members) (l : List ℕ) → DeclaresLabel w l → ¬ LeaveOut w l
leaves_none_out [] l h = λ out. out.some refl
leaves_none_out (ms ∷ w) l h = λ out. ⊎_elim
    (λ is. clash (list_any (has_declaration l) (ms ∷ w)) (one_passes (has_declaration l) (IsDeclaredIn l) (decides_declared l) (ms ∷ w) is) out.undeclared)
    (λ is. clash (list_any has_dots (ms ∷ w)) (one_passes has_dots HasDots decides_dots (ms ∷ w) is) out.without_dots)
    h

-- what the literals leave out, where they are closed
abbrev pub Closing : (Path → List cores.Members) → Refusals
Closing parts_of_index path question = ClosingRefuses (parts_of_index path) question

same_closing : (w v : Path → List cores.Members) → ((path : Path) → w path ≡ v path) → (path : Path) (question : Question) → Closing w path question → Closing v path question
same_closing w v h path question g = subst (λ zs. ClosingRefuses zs question) (h path) g

mutual
  -- each label of the document is declared where one is left out
  pub within : (parts : List LiteralPart) (d : Document) → Meets (Closing (lits parts)) d → Within parts d
  within parts (documents.scalar x) m = tt
  within parts (documents.list items) m = items_within (λ i path. lits parts (index i ∷ path)) (item_parts parts) (λ i path. at_item parts i path) items m.3
  within parts (documents.map ms) m = members_within parts ms m.2

  items_within : (w : ℕ → Path → List cores.Members) (parts : ℕ → List LiteralPart) → ((i : ℕ) (path : Path) → w i path ≡ lits (parts i) path) → (items : documents.Items) → ItemsMeet (λ i. Closing (w i)) items → ItemsWithin parts items
  items_within w parts h documents.no_items m = tt
  items_within w parts h (documents.item d items) m = (
    within (parts 0) d (less (Closing (w 0)) (Closing (lits (parts 0))) (same_closing (lits (parts 0)) (w 0) (λ path. sym (h 0 path))) d m.0),
    items_within (λ i. w (suc i)) (λ i. parts (suc i)) (λ i. h (suc i)) items m.1,
  )

  members_within : (parts : List LiteralPart) (ms : documents.Members) → MembersMeet (Closing (lits parts)) ms → MembersWithin parts ms
  members_within parts documents.no_members m = tt
  members_within parts (documents.member l d ms) m = (
    subst (λ zs. DeclaresLabel zs l) (at_root parts) (declares_them (lits parts []) l m.0),
    within (field_parts parts l) d (less (Closing (λ path. lits parts (label l ∷ path))) (Closing (lits (field_parts parts l))) (same_closing (lits (field_parts parts l)) (λ path. lits parts (label l ∷ path)) (λ path. sym (at_field parts l path))) d m.1),
    members_within parts ms m.2,
  )

mutual
  pub without : (parts : List LiteralPart) (d : Document) → Within parts d → Meets (Closing (lits parts)) d
  without parts (documents.scalar x) m = λ g. g
  without parts (documents.list items) m = (λ g. g, λ g. g, λ g. g, items_without (λ i path. lits parts (index i ∷ path)) (item_parts parts) (λ i path. at_item parts i path) items m)
  without parts (documents.map ms) m = (λ g. g, λ l g. absurd g, members_without parts ms m)

  items_without : (w : ℕ → Path → List cores.Members) (parts : ℕ → List LiteralPart) → ((i : ℕ) (path : Path) → w i path ≡ lits (parts i) path) → (items : documents.Items) → ItemsWithin parts items → ItemsMeet (λ i. Closing (w i)) items
  items_without w parts h documents.no_items m = tt
  items_without w parts h (documents.item d items) m = (
    less (Closing (lits (parts 0))) (Closing (w 0)) (same_closing (w 0) (lits (parts 0)) (h 0)) d (without (parts 0) d m.0),
    items_without (λ i. w (suc i)) (λ i. parts (suc i)) (λ i. h (suc i)) items m.1,
  )

  members_without : (parts : List LiteralPart) (ms : documents.Members) → MembersWithin parts ms → MembersMeet (Closing (lits parts)) ms
  members_without parts documents.no_members m = tt
  members_without parts (documents.member l d ms) m = (
    leaves_none_out (lits parts []) l (subst (λ zs. DeclaresLabel zs l) (sym (at_root parts)) m.0),
    less (Closing (lits (field_parts parts l))) (Closing (λ path. lits parts (label l ∷ path))) (same_closing (λ path. lits parts (label l ∷ path)) (lits (field_parts parts l)) (at_field parts l)) d (without (field_parts parts l) d m.1),
    members_without parts ms m.2,
  )

-- a definition's body is closed exactly where the document is within its conjuncts
pub closed_is_within : (c : Core) (d : Document) → Meets (Closing (literals c)) d ↔ Within (conjuncts c) d
closed_is_within c d = (
  λ m. within (conjuncts c) d (less (Closing (literals c)) (Closing (lits (conjuncts c))) (same_closing (lits (conjuncts c)) (literals c) (λ path. sym (of_conjuncts c path))) d m),
  λ w. less (Closing (lits (conjuncts c))) (Closing (literals c)) (same_closing (literals c) (lits (conjuncts c)) (of_conjuncts c)) d (without (conjuncts c) d w),
)
