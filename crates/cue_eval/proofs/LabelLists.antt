-- The labels of declarations, one after another and by halves.
use Rattle.std.proofs.Common.{◌≡◌, ◌+◌, ℕ, Bool, true, false, ◌||◌, List, [], ◌∷◌, ◌++◌, length, drop, take, get_or, refl, sym, ap, subst, ◌∙◌, arith}
use Rattle.std.proofs.lemmas.List.{take-append-drop}
use Rattle.std.specs.Str.{bytes_eq}
use Rattle.std.specs.Prelude.{not, ◌↔◌, Option, Some, Result, Ok, Err, IfOk}
use Rattle.std.proofs.lemmas.Bool.{false≢true}
use Rattle.cue_sets.specs.Texts.{is_text_member, is_listed, is_member_if}
use Rattle.cue_sets.specs.TextLaws.{is_listed-zeros, greatest_length, zeros}
use Rattle.cue_row.specs.LabelSets.{RefusesLabel}
use Rattle.cue_syntax.specs.declared.tree.Declaration.{Declaration}
use Rattle.cue_syntax.specs.Syntax.{Entry, Entries, no_entries, entry, ellipsis, field, definition, entry_tree, entries}
use Rattle.cue_scope.specs.Core.{Core, Members, no_members, member, dots}
use Rattle.cue_scope.specs.Definitions.{Definition}
use Rattle.cue_scope.specs.Meaning.{meant_members, text_of}
use Rattle.cue_scope.proofs.Walking.{at_hand}
use Rattle.cue_eval.specs.Literals.{has_declaration, has_dots, LeaveOut}
use Rattle.cue_eval.proofs.Walks.{none_behind}

or_false : (a b : Bool) → (a || b) ≡ ((a || false) || b)
or_false true b = refl
or_false false b = refl

or_assoc : (a b c : Bool) → (a || (b || c)) ≡ ((a || b) || c)
or_assoc true b c = refl
or_assoc false b c = refl

declares_more : (ds : List Definition) (m : ℕ → Core) (l : List ℕ) (e : Entry) (es : Entries)
    → has_declaration l (meant_members ds m (entry e es)) ≡ (has_declaration l (meant_members ds m (entry e no_entries)) || has_declaration l (meant_members ds m es))
declares_more ds m l ellipsis es = refl
declares_more ds m l (field k chain e) es = or_false (bytes_eq (text_of k.name) l) (has_declaration l (meant_members ds m es))
declares_more ds m l (definition t from chain e) es = refl

declares_append : (ds : List Definition) (m : ℕ → Core) (l : List ℕ) (xs ys : List Declaration)
    → has_declaration l (meant_members ds m (entries (xs ++ ys))) ≡ (has_declaration l (meant_members ds m (entries xs)) || has_declaration l (meant_members ds m (entries ys)))
declares_append ds m l [] ys = refl
declares_append ds m l (d ∷ xs) ys =
    let own = has_declaration l (meant_members ds m (entry (entry_tree d) no_entries)) in
    let some = has_declaration l (meant_members ds m (entries xs)) in
    let others = has_declaration l (meant_members ds m (entries ys)) in
    declares_more ds m l (entry_tree d) (entries (xs ++ ys)) ∙ ap (λ b. own || b) (declares_append ds m l xs ys) ∙ or_assoc own some others
    ∙ ap (λ b. b || others) (sym (declares_more ds m l (entry_tree d) (entries xs)))

pub declared_halves : (ds : List Definition) (m : ℕ → Core) (l : List ℕ) (all front back : List Declaration) (k : ℕ) (left right met : Bool × List (List ℕ)) → front ≡ take k all → back ≡ drop k all
    → is_text_member left l ≡ has_declaration l (meant_members ds m (entries front)) → is_text_member right l ≡ has_declaration l (meant_members ds m (entries back))
    → is_text_member met l ≡ (is_text_member left l || is_text_member right l) → is_text_member met l ≡ has_declaration l (meant_members ds m (entries all))
declared_halves ds m l all front back k left right met f b p q union =
    union ∙ ap (λ x. x || is_text_member right l) p ∙ ap (λ x. has_declaration l (meant_members ds m (entries front)) || x) q
    ∙ sym (declares_append ds m l front back)
    ∙ ap (λ xs. has_declaration l (meant_members ds m (entries (xs ++ back)))) f ∙ ap (λ xs. has_declaration l (meant_members ds m (entries (take k all ++ xs)))) b
    ∙ ap (λ xs. has_declaration l (meant_members ds m (entries xs))) (take-append-drop k all)

pub declared_none : (ds : List Definition) (m : ℕ → Core) (l : List ℕ) (all : List Declaration) (set : Bool × List (List ℕ)) → length all ≡ 0 → set ≡ (false, [])
    → is_text_member set l ≡ has_declaration l (meant_members ds m (entries all))
declared_none ds m l all set none is =
    let nil : all ≡ [] = none_behind all 0 (omega arith) in
    ap (λ s. is_text_member s l) is ∙ ap (λ xs. has_declaration l (meant_members ds m (entries xs))) (sym nil)

pub declared_one : (ds : List Definition) (m : ℕ → Core) (l : List ℕ) (all : List Declaration) (d : Declaration) (set : Bool × List (List ℕ)) → length all ≡ 1 → d ≡ get_or all 0 d
    → is_text_member set l ≡ has_declaration l (meant_members ds m (entry (entry_tree d) no_entries)) → is_text_member set l ≡ has_declaration l (meant_members ds m (entries all))
declared_one ds m l all d set one is h =
    let rest : drop (0 + 1) all ≡ [] = none_behind all (0 + 1) (omega arith) in
    let whole : all ≡ d ∷ [] = at_hand all 0 d (omega arith) is ∙ ap (λ xs. d ∷ xs) rest in
    h ∙ ap (λ xs. has_declaration l (meant_members ds m (entries xs))) (sym whole)

labels_in : Members → List (List ℕ)
labels_in no_members = []
labels_in (member k mark c ms) = k ∷ labels_in ms
labels_in (dots ms) = labels_in ms

declares_listed : (l : List ℕ) (ms : Members) → has_declaration l ms ≡ is_listed (labels_in ms) l
unfolding labels_in
declares_listed l no_members = refl
declares_listed l (member k mark c ms) = ap (λ b. bytes_eq k l || b) (declares_listed l ms)
declares_listed l (dots ms) = declares_listed l ms

-- a set that has just the labels of declarations is no set of all but some
finite : (ms : Members) (set : Bool × List (List ℕ)) → ((l : List ℕ) → is_text_member set l ≡ has_declaration l ms) → set.0 ≡ false
finite ms (false, xs) h = refl
finite ms (true, xs) h =
    let n : ℕ = greatest_length xs + greatest_length (labels_in ms) + 1 in
    let lacks = ap not (is_listed-zeros xs n (omega arith)) in
    let undeclared = declares_listed (zeros n) ms ∙ is_listed-zeros (labels_in ms) n (omega arith) in
    absurd (false≢true (sym undeclared ∙ sym (h (zeros n)) ∙ lacks))

or_none : (a : Bool) → (a || false) ≡ a
or_none true = refl
or_none false = refl

pub labels_left_out : (ms : Members) (set : Bool × List (List ℕ)) (labels : Option (List (List ℕ))) → has_dots ms ≡ false → ((l : List ℕ) → is_text_member set l ≡ has_declaration l ms) → labels ≡ Some set.1
    → (l : List ℕ) → RefusesLabel labels l ↔ LeaveOut (ms ∷ []) l
labels_left_out ms set labels without same is l =
    let plain : is_listed set.1 l ≡ has_declaration l ms = ap (λ b. is_member_if b (is_listed set.1 l)) (sym (finite ms set same)) ∙ same l in
    subst (λ (ls : Option (List (List ℕ))). RefusesLabel ls l ↔ LeaveOut (ms ∷ []) l) (sym is) (
      λ h. record { some = λ e. cc; without_dots = or_none (has_dots ms) ∙ without; undeclared = or_none (has_declaration l ms) ∙ sym plain ∙ h },
      λ h. plain ∙ sym (or_none (has_declaration l ms)) ∙ h.undeclared,
    )

-- ---- the same of what a call returns
pub declared_result : {E : Type 0} (r : Result (Bool × List (List ℕ)) E) (all front back : List Declaration) (k : ℕ) (left right : Bool × List (List ℕ)) → front ≡ take k all → back ≡ drop k all
    → ((ds : List Definition) (m : ℕ → Core) (l : List ℕ) → is_text_member left l ≡ has_declaration l (meant_members ds m (entries front)))
    → ((ds : List Definition) (m : ℕ → Core) (l : List ℕ) → is_text_member right l ≡ has_declaration l (meant_members ds m (entries back)))
    → IfOk r (λ met. (l : List ℕ) → is_text_member met l ≡ (is_text_member left l || is_text_member right l))
    → IfOk r (λ met. (ds : List Definition) (m : ℕ → Core) (l : List ℕ) → is_text_member met l ≡ has_declaration l (meant_members ds m (entries all)))
declared_result (Ok met) all front back k left right f b p q union = λ ds m l. declared_halves ds m l all front back k left right met f b (p ds m l) (q ds m l) (union l)
declared_result (Err e) all front back k left right f b p q union = union
