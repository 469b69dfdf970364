-- What is told of the parts of an expression, one after the other.
use Rattle.std.proofs.Common.{◌≡◌, ◌↔◌, ◌⊎◌, inl, inr, ⊎_elim, ℕ, zero, suc, ◌+◌, ◌≤◌, ◌<◌, Bool, true, List, [], ◌∷◌, ◌++◌, All, length, drop, get_or, refl, sym, ap, subst, ◌∙◌, arith}
use Rattle.std.proofs.Common.{rules, Result, Ok, Err, IfOk}
use Rattle.std.proofs.lemmas.List.{drop_all}
use Rattle.std.proofs.lemmas.List.Elements.{All-append, All-nil}
use Rattle.cue_lattice.specs.OneOf.{OneOf}
use Rattle.cue_lattice.specs.Limits.{step_limit}
use Rattle.cue_lattice.specs.Path as paths
use Rattle.cue_lattice.specs.Path.{Path, label, index}
use Rattle.cue_lattice.proofs.OneOf.{one_of-push}
use Rattle.cue_row.specs.Steps.{step_of}
use Rattle.cue_row.specs.declared.step.Step.{Step}
use Rattle.cue_sets.specs.Texts.{RefusesText}
use Rattle.cue_syntax.specs.declared.tree.Expr.{Expr}
use Rattle.cue_syntax.specs.declared.tree.Declaration.{Declaration}
use Rattle.cue_syntax.specs.Syntax as syntax
use Rattle.cue_syntax.specs.Syntax.{Rest, expression, elements_of_list, entries}
use Rattle.cue_scope.specs.Definitions.{Definition}
use Rattle.cue_scope.specs.Kept.{nodes_kept}
use Rattle.cue_scope.specs.Uses.{uses, uses_of_elements, uses_of_rest}
use Rattle.cue_scope.proofs.Nodes.{in_append_left, in_append_right}
use Rattle.cue_scope.proofs.Followed.{size_followed, depth_followed}
use Rattle.cue_scope.proofs.Walking.{at_hand}
use Rattle.cue_scope.specs.Core.{Core, conjunction, list, Cores, Elements, ends, each, followed_by}
use Rattle.cue_scope.specs.Limits.{size_of_cores}
use Rattle.cue_scope.specs.Meaning.{meant_members}
use Rattle.cue_table.specs.Depth.{tree_depth}
use Rattle.cue_table.specs.Form.{IsTable}
use Rattle.cue_table.specs.Many.{IsOfBranches, AreUnified}
use Rattle.cue_table.specs.Meet.{IsRestAdded, RestOfMeetRefuses}
use Rattle.cue_table.specs.Refuses.{TableRefuses}
use Rattle.cue_table.specs.Tree.{Tree}
use Rattle.cue_eval.specs.declared.declared.Declared.{Declared}
use Rattle.cue_eval.specs.declared.declared.DeclaredQuestion.{DeclaredQuestion}
use Rattle.cue_eval.specs.declared.declared.DeclaredQuestion.TheVariants.{Declares}
use Rattle.cue_eval.specs.declared.declares.LiteralSelection.{LiteralSelection}
use Rattle.cue_eval.specs.declared.declares.LiteralScope.{LiteralScope}
use Rattle.cue_eval.specs.Closing.{AtStruct, AtList, OneOfParts, OneOfFields, OneOfElements}
use Rattle.cue_eval.specs.Refuses.{count_of_elements}
use Rattle.cue_eval.specs.Telling.{DeclaredRefuses, IsDeclaredLabel}
use Rattle.cue_eval.specs.Inner.Telling.{literal_declares}
use Rattle.cue_eval.specs.Inner.Told.{DeclaresLiterals, IsDeclaredBeyond, DeclareBeyond, AreKnown, IsKnown, meaning_in_scope, ArePartsKnown, AreElementsKnown, IsRestKnown, AreMembersKnown, mean_elements, mean_rest, mean_members, own_literals_declare, used_literals_declare}
use Rattle.cue_eval.proofs.Rests.{does_followed}
use Rattle.cue_eval.proofs.TellingDepth.{told_flat, some_size}

-- of these the part so far, and what is left
abbrev pub IsSplit : Type 0 → Type 0 → Type 0 → Type 0
IsSplit all so_far left = all ↔ (so_far ⊎ left)

pub record PartsTold (self : LiteralScope) (whose : LiteralSelection) (tables : List (Tree Declared)) (all left : List Expr) : Type 0 where
  pub known : ArePartsKnown self (elements_of_list left)
  pub told : (path : Path) (asked : DeclaredQuestion) → IsSplit (OneOfParts (own_literals_declare whose asked) (used_literals_declare whose) (mean_elements self (elements_of_list all)) path)
      (OneOf (λ (t : Tree Declared). TableRefuses DeclaredRefuses t path asked) tables) (OneOfParts (own_literals_declare whose asked) (used_literals_declare whose) (mean_elements self (elements_of_list left)) path)

abbrev pub BranchesTell : List (Step × Tree Declared) → paths.Step → Path → DeclaredQuestion → Type 0
BranchesTell branches step path asked = OneOf (λ (one : Step × Tree Declared). (step_of one.0 ≡ step) × TableRefuses DeclaredRefuses one.1 path asked) branches

abbrev pub AreFlat : List (Step × Tree Declared) → Type 0
AreFlat branches = All (λ (one : Step × Tree Declared). tree_depth one.1 < step_limit) branches

-- the elements, and nothing behind them
abbrev pub only_elements : LiteralScope → List Expr → Elements
only_elements self es = followed_by (mean_elements self (elements_of_list es)) ends

-- those that are left begin at this index
abbrev pub LeftElements : LiteralSelection → DeclaredQuestion → LiteralScope → ℕ → List Expr → ℕ → Path → Type 0
LeftElements whose asked self at left i path = (j : ℕ) × (i ≡ at + j) × OneOfElements (own_literals_declare whose asked) (used_literals_declare whose) (only_elements self left) j path

pub record ElementsTold (self : LiteralScope) (whose : LiteralSelection) (branches : List (Step × Tree Declared)) (at : ℕ) (all left : List Expr) : Type 0 where
  pub known : AreElementsKnown self (elements_of_list left)
  pub few : at + size_of_cores (mean_elements self (elements_of_list left)) ≤ 65536
  pub flat : AreFlat branches
  pub told : (step : paths.Step) (path : Path) (asked : DeclaredQuestion) → IsSplit (AtList (OneOfElements (own_literals_declare whose asked) (used_literals_declare whose) (only_elements self all)) (step ∷ path))
      (BranchesTell branches step path asked) (AtList (LeftElements whose asked self at left) (step ∷ path))

pub record FieldsTold (self : LiteralScope) (whose : LiteralSelection) (branches : List (Step × Tree Declared)) (all left : List Declaration) : Type 0 where
  pub known : AreMembersKnown self (entries left)
  pub flat : AreFlat branches
  pub told : (step : paths.Step) (path : Path) (asked : DeclaredQuestion) → IsSplit (AtStruct ⊥ (OneOfFields (own_literals_declare whose asked) (used_literals_declare whose) (mean_members self (entries all))) (step ∷ path))
      (BranchesTell branches step path asked) (AtStruct ⊥ (OneOfFields (own_literals_declare whose asked) (used_literals_declare whose) (mean_members self (entries left))) (step ∷ path))

-- labels that declarations declare
abbrev pub LabelsTold : List (Bool × List (List ℕ)) → List Declaration → List Declaration → Type 0
LabelsTold sets all left = (ds : List Definition) (meaning : ℕ → Core) (l : List ℕ) → IsSplit (literal_declares (Declares l) (meant_members ds meaning (entries all)) ≡ true)
    (OneOf (λ (set : Bool × List (List ℕ)). RefusesText set l) sets) (literal_declares (Declares l) (meant_members ds meaning (entries left)) ≡ true)

-- ---- what is known, of a part of what is named
pub known_part : (self : LiteralScope) (us vs : List ℕ) (m n d e : ℕ) → AreKnown self (us ++ vs) n e → m ≤ n → d ≤ e → AreKnown self us m d
known_part self us vs m n d e known small flat = record { used = λ i there. known.used i (in_append_left us vs i there); small = let a = known.small in omega arith; flat = let a = known.flat in omega arith }

pub known_rest : (self : LiteralScope) (us vs : List ℕ) (m n d e : ℕ) → AreKnown self (us ++ vs) n e → m ≤ n → d ≤ e → AreKnown self vs m d
known_rest self us vs m n d e known small flat = record { used = λ i there. known.used i (in_append_right us vs i there); small = let a = known.small in omega arith; flat = let a = known.flat in omega arith }

pub known_same : (self : LiteralScope) (us : List ℕ) (m n d e : ℕ) → AreKnown self us n e → m ≤ n → d ≤ e → AreKnown self us m d
known_same self us m n d e known small flat = record { used = known.used; small = let a = known.small in omega arith; flat = let a = known.flat in omega arith }

-- ---- what was left is now part of what is told
pub split_more : (all so left more item rest : Type 0) → IsSplit all so left → left ↔ (item ⊎ rest) → more ↔ (so ⊎ item) → IsSplit all more rest
split_more all so left more item rest w l m = (
  λ h. ⊎_elim (λ s. inl (m.1 (inl s))) (λ r. ⊎_elim (λ i. inl (m.1 (inr i))) inr (l.0 r)) (w.0 h),
  λ h. ⊎_elim (λ s. ⊎_elim (λ t. w.1 (inl t)) (λ i. w.1 (inr (l.1 (inl i)))) (m.0 s)) (λ r. w.1 (inr (l.1 (inr r)))) h,
)

pub split_all : (all so left : Type 0) → IsSplit all so left → ¬ left → so ↔ all
split_all all so left w n = (λ h. w.1 (inl h), λ h. ⊎_elim (λ s. s) (λ r. absurd (n r)) (w.0 h))

pub same_sides : (a b c d : Type 0) → a ↔ b → c ↔ d → (a ⊎ c) ↔ (b ⊎ d)
same_sides a b c d p q = (⊎_elim (λ h. inl (p.0 h)) (λ h. inr (q.0 h)), ⊎_elim (λ h. inl (p.1 h)) (λ h. inr (q.1 h)))

pub itself : (a : Type 0) → a ↔ a
itself a = (λ h. h, λ h. h)

-- two facts of a result
pub if_both : {T E : Type 0} (result : Result T E) (P Q R : T → Type 0) → ((x : T) → P x → Q x → R x) → IfOk result P → IfOk result Q → IfOk result R
if_both (Ok x) P Q R f p q = f x p q
if_both (Err e) P Q R f p q = tt

-- ---- the parts of a conjunction
pub part_next : (self : LiteralScope) (whose : LiteralSelection) (tables : List (Tree Declared)) (all : List Expr) (i : ℕ) (e : Expr) → PartsTold self whose tables all (drop i all) → i < length all → e ≡ get_or all i e
    → PartsTold self whose tables all (e ∷ drop (i + 1) all)
part_next self whose tables all i e w h is = subst (λ z. PartsTold self whose tables all z) (at_hand all i e h is) w

pub part_known : (self : LiteralScope) (whose : LiteralSelection) (tables : List (Tree Declared)) (all rest : List Expr) (e : Expr) → PartsTold self whose tables all (e ∷ rest) → IsKnown self (expression e)
part_known self whose tables all rest e w = known_part self _ (uses_of_elements (nodes_kept self.definitions.now) (elements_of_list rest)) _ _ _ _ w.known (omega arith) (omega arith)

pub part_more : (self : LiteralScope) (whose : LiteralSelection) (tables : List (Tree Declared)) (all rest : List Expr) (e : Expr) (t : Tree Declared) → PartsTold self whose tables all (e ∷ rest) → DeclaresLiterals whose (meaning_in_scope self (expression e)) t
    → PartsTold self whose (tables ++ t ∷ []) all rest
part_more self whose tables all rest e t w told = record {
  known = known_rest self (uses (nodes_kept self.definitions.now) (expression e)) _ _ _ _ _ w.known (omega arith) (omega arith);
  told = λ path asked. split_more _ _ _ _ (TableRefuses DeclaredRefuses t path asked) _ (w.told path asked)
      (same_sides _ _ _ _ (let s = told.told path asked in (s.1, s.0)) (itself _))
      (one_of-push (λ (t : Tree Declared). TableRefuses DeclaredRefuses t path asked) tables t);
}

pub parts_all : (self : LiteralScope) (whose : LiteralSelection) (tables : List (Tree Declared)) (all : List Expr) (i : ℕ) (met : Tree Declared) → PartsTold self whose tables all (drop i all) → length all ≤ i
    → IsTable DeclaredRefuses IsDeclaredLabel met → AreUnified DeclaredRefuses tables met → DeclaresLiterals whose (conjunction (mean_elements self (elements_of_list all))) met
parts_all self whose tables all i met w h form unified = record { form = form; told = by } where
  end : PartsTold self whose tables all []
  end = subst (λ z. PartsTold self whose tables all z) (drop_all i all h) w

  by : (path : Path) (asked : DeclaredQuestion) → TableRefuses DeclaredRefuses met path asked ↔ OneOfParts (own_literals_declare whose asked) (used_literals_declare whose) (mean_elements self (elements_of_list all)) path
  by path asked =
      let u = unified path asked in
      let s = split_all _ _ _ (end.told path asked) (λ n. n) in
      (λ r. s.0 (u.0 r), λ r. u.1 (s.1 r))

-- ---- the elements of a list
pub element_next : (self : LiteralScope) (whose : LiteralSelection) (branches : List (Step × Tree Declared)) (at : ℕ) (all : List Expr) (i : ℕ) (e : Expr) → ElementsTold self whose branches at all (drop i all) → i < length all → e ≡ get_or all i e
    → ElementsTold self whose branches at all (e ∷ drop (i + 1) all)
element_next self whose branches at all i e w h is = subst (λ z. ElementsTold self whose branches at all z) (at_hand all i e h is) w

pub element_known : (self : LiteralScope) (whose : LiteralSelection) (branches : List (Step × Tree Declared)) (at : ℕ) (all rest : List Expr) (e : Expr) → ElementsTold self whose branches at all (e ∷ rest) → IsKnown self (expression e)
element_known self whose branches at all rest e w = known_part self _ (uses_of_elements (nodes_kept self.definitions.now) (elements_of_list rest)) _ _ _ _ w.known (omega arith) (omega arith)

pub flat_more : (branches : List (Step × Tree Declared)) (one : Step × Tree Declared) → AreFlat branches → tree_depth one.1 < step_limit → AreFlat (branches ++ one ∷ [])
flat_more branches one flat h = All-append (λ (one : Step × Tree Declared). tree_depth one.1 < step_limit) branches (one ∷ []) flat (All-one one h) where
  All-one : (one : Step × Tree Declared) → tree_depth one.1 < step_limit → AreFlat (one ∷ [])
  All-one one h = search (rules, h)

pub element_more : (self : LiteralScope) (whose : LiteralSelection) (branches : List (Step × Tree Declared)) (at : ℕ) (all rest : List Expr) (e : Expr) (step : Step) (t : Tree Declared) → ElementsTold self whose branches at all (e ∷ rest)
    → step_of step ≡ index at → DeclaresLiterals whose (meaning_in_scope self (expression e)) t → ElementsTold self whose (branches ++ (step, t) ∷ []) (at + 1) all rest
element_more self whose branches at all rest e step t w is told = record {
  known = known_rest self (uses (nodes_kept self.definitions.now) (expression e)) _ _ _ _ _ w.known (omega arith) (omega arith);
  few = let a = w.few in let s = some_size (meaning_in_scope self (expression e)) in omega (arith, a, s);
  flat = flat_more branches (step, t) w.flat (let d = told_flat whose (meaning_in_scope self (expression e)) t told in let k = w.known.flat in omega (arith, d, k));
  told = by;
} where
  Elements : DeclaredQuestion → List Expr → ℕ → Path → Type 0
  Elements asked left = LeftElements whose asked self at left

  here : (i : ℕ) (path : Path) (asked : DeclaredQuestion) → LeftElements whose asked self at (e ∷ rest) i path ↔ (((step_of step ≡ index i) × TableRefuses DeclaredRefuses t path asked) ⊎ LeftElements whose asked self (at + 1) rest i path)
  here i path asked = (to, from) where
    to : LeftElements whose asked self at (e ∷ rest) i path → ((step_of step ≡ index i) × TableRefuses DeclaredRefuses t path asked) ⊎ LeftElements whose asked self (at + 1) rest i path
    to (zero, same, h) = inl (is ∙ ap index (omega (arith, same)), (told.told path asked).1 h)
    to (suc j, same, h) = inr (j, omega (arith, same), h)

    from : ((step_of step ≡ index i) × TableRefuses DeclaredRefuses t path asked) ⊎ LeftElements whose asked self (at + 1) rest i path → LeftElements whose asked self at (e ∷ rest) i path
    from (inl (same, h)) = let eq : index at ≡ index i = sym is ∙ same in let n : at ≡ i = cc in (0, omega (arith, n), (told.told path asked).0 h)
    from (inr (j, same, h)) = (suc j, omega (arith, same), h)

  by : (next : paths.Step) (path : Path) (asked : DeclaredQuestion) → IsSplit (AtList (OneOfElements (own_literals_declare whose asked) (used_literals_declare whose) (only_elements self all)) (next ∷ path))
      (BranchesTell (branches ++ (step, t) ∷ []) next path asked) (AtList (LeftElements whose asked self (at + 1) rest) (next ∷ path))
  by (index i) path asked = split_more _ _ _ _ ((step_of step ≡ index i) × TableRefuses DeclaredRefuses t path asked) _ (w.told (index i) path asked) (here i path asked)
      (one_of-push (λ (one : Step × Tree Declared). (step_of one.0 ≡ index i) × TableRefuses DeclaredRefuses one.1 path asked) branches (step, t))
  by (label l) path asked = split_more _ _ _ _ ((step_of step ≡ label l) × TableRefuses DeclaredRefuses t path asked) _ (w.told (label l) path asked)
      (λ h. absurd h, λ h. ⊎_elim (λ g. let no : index at ≡ label l = sym is ∙ g.0 in let n : ⊥ = cc in n) (λ n. n) h)
      (one_of-push (λ (one : Step × Tree Declared). (step_of one.0 ≡ label l) × TableRefuses DeclaredRefuses one.1 path asked) branches (step, t))

no_elements_left : (whose : LiteralSelection) (asked : DeclaredQuestion) (self : LiteralScope) (at : ℕ) (step : paths.Step) (path : Path) → ¬ AtList (LeftElements whose asked self at []) (step ∷ path)
no_elements_left whose asked self at (label l) path h = h
no_elements_left whose asked self at (index i) path h = h.2

pub elements_all : (self : LiteralScope) (whose : LiteralSelection) (branches : List (Step × Tree Declared)) (at : ℕ) (all : List Expr) (i : ℕ) (table : Tree Declared) → ElementsTold self whose branches at all (drop i all) → length all ≤ i
    → IsTable DeclaredRefuses IsDeclaredLabel table → IsOfBranches DeclaredRefuses branches table → DeclaresLiterals whose (list (only_elements self all)) table
elements_all self whose branches at all i table w h form of = record { form = form; told = by } where
  end : ElementsTold self whose branches at all []
  end = subst (λ z. ElementsTold self whose branches at all z) (drop_all i all h) w

  by : (path : Path) (asked : DeclaredQuestion) → TableRefuses DeclaredRefuses table path asked ↔ AtList (OneOfElements (own_literals_declare whose asked) (used_literals_declare whose) (only_elements self all)) path
  by [] asked = (λ r. of.root asked r, λ r. absurd r)
  by (step ∷ path) asked =
      let u = of.below step path asked in
      let s = split_all _ _ _ (end.told step path asked) (no_elements_left whose asked self at step path) in
      (λ r. s.0 (u.0 r), λ r. u.1 (s.1 r))

-- with what is told of the further elements, a list is told
pub list_told : (self : LiteralScope) (whose : LiteralSelection) (cs : Cores) (rest : Elements) (first : ℕ) (table all : Tree Declared) → count_of_elements (followed_by cs ends) ≡ first → DeclaresLiterals whose (list (followed_by cs ends)) table
    → DeclareBeyond whose first rest table all → DeclaresLiterals whose (list (followed_by cs rest)) all
list_told self whose cs rest first table all counted told further = record { form = further.form; told = by } where
  by : (path : Path) (asked : DeclaredQuestion) → TableRefuses DeclaredRefuses all path asked ↔ AtList (OneOfElements (own_literals_declare whose asked) (used_literals_declare whose) (followed_by cs rest)) path
  by [] asked = let f = further.told [] asked in let t = told.told [] asked in (λ r. ⊎_elim (λ g. t.0 g) (λ g. g) (f.0 r), λ r. absurd r)
  by (label l ∷ path) asked = let f = further.told (label l ∷ path) asked in let t = told.told (label l ∷ path) asked in (λ r. ⊎_elim (λ g. t.0 g) (λ g. g) (f.0 r), λ r. absurd r)
  by (index i ∷ path) asked =
      let f = further.told (index i ∷ path) asked in
      let t = told.told (index i ∷ path) asked in
      let d = does_followed (own_literals_declare whose asked) (used_literals_declare whose) cs rest i path in (
        λ r. d.1 (⊎_elim (λ g. inl (t.0 g)) (λ g. inr (g.0, (ap (λ n. n + g.0) counted ∙ g.1), g.2)) (f.0 r)),
        λ r. f.1 (⊎_elim (λ g. inl (t.1 g)) (λ g. inr (g.0, (ap (λ n. n + g.0) (sym counted) ∙ g.1), g.2)) (d.0 r)),
      )

-- a list that ends with its elements, and one of which nothing more is said
pub no_further : (whose : LiteralSelection) (first : ℕ) (rest : Elements) (table : Tree Declared) → IsTable DeclaredRefuses IsDeclaredLabel table
    → ((k : ℕ) (path : Path) (asked : DeclaredQuestion) → ¬ OneOfElements (own_literals_declare whose asked) (used_literals_declare whose) rest k path) → DeclareBeyond whose first rest table table
no_further whose first rest table form none = record { form = form; told = λ path asked. (λ r. inl r, λ r. ⊎_elim (λ g. g) (λ g. absurd (by path asked g)) r) } where
  by : (path : Path) (asked : DeclaredQuestion) → ¬ IsDeclaredBeyond whose first rest path asked
  by [] asked h = h
  by (label l ∷ path) asked h = h
  by (index i ∷ path) asked h = none h.0 path asked h.2

-- a table that is met from an index on
pub further_met : (whose : LiteralSelection) (first : ℕ) (c : Core) (table further all : Tree Declared) → IsTable DeclaredRefuses IsDeclaredLabel all → DeclaresLiterals whose c further → IsRestAdded DeclaredRefuses table [] first further all → DeclareBeyond whose first (each c) table all
further_met whose first c table further all form told added = record { form = form; told = λ path asked. (λ r. ⊎_elim (λ g. inl g) (λ g. inr (to path asked g)) ((added path asked).0 r), λ r. (added path asked).1 (⊎_elim (λ g. inl g) (λ g. inr (from path asked g)) r)) } where
  to : (path : Path) (asked : DeclaredQuestion) → RestOfMeetRefuses DeclaredRefuses [] first further path asked → IsDeclaredBeyond whose first (each c) path asked
  to path asked (i, below, at, least, r) = subst (λ p. IsDeclaredBeyond whose first (each c) p asked) (sym at) (less i below (monus first i least) r) where
    monus : (m n : ℕ) → m ≤ n → (k : ℕ) × (m + k ≡ n)
    monus zero n h = (n, omega arith)
    monus (suc m) zero h = absurd (omega arith)
    monus (suc m) (suc n) h = let k = monus m n (omega arith) in let e = k.1 in (k.0, omega (arith, e))

    less : (i : ℕ) (below : Path) → (k : ℕ) × (first + k ≡ i) → TableRefuses DeclaredRefuses further below asked → IsDeclaredBeyond whose first (each c) (index i ∷ below) asked
    less i below (k, e) r = (k, e, (told.told below asked).0 r)

  from : (path : Path) (asked : DeclaredQuestion) → IsDeclaredBeyond whose first (each c) path asked → RestOfMeetRefuses DeclaredRefuses [] first further path asked
  from [] asked h = absurd h
  from (label l ∷ path) asked h = absurd h
  from (index i ∷ path) asked (k, e, r) = (i, path, refl, omega (arith, e), (told.told path asked).1 r)

-- of the elements of a list it is known what is of the list
pub list_known : (self : LiteralScope) (es : syntax.Elements) (rest : Rest) (comma : Bool) → IsKnown self (syntax.list es rest comma) → AreElementsKnown self es
list_known self es rest comma known =
    let larger = size_followed (mean_elements self es) (mean_rest self rest) in
    let deeper = depth_followed (mean_elements self es) (mean_rest self rest) in
    known_part self _ (uses_of_rest (nodes_kept self.definitions.now) rest) _ _ _ _ known (omega (arith, larger)) (omega (arith, deeper))

-- and so of what stands behind them
pub list_rest_known : (self : LiteralScope) (es : syntax.Elements) (rest : Rest) (comma : Bool) → IsKnown self (syntax.list es rest comma) → IsRestKnown self rest
list_rest_known self es rest comma known =
    let larger = size_followed (mean_elements self es) (mean_rest self rest) in
    let deeper = depth_followed (mean_elements self es) (mean_rest self rest) in
    known_rest self (uses_of_elements (nodes_kept self.definitions.now) es) _ _ _ _ _ known (omega (arith, larger)) (omega (arith, deeper))

pub elements_few : (self : LiteralScope) (es : List Expr) → AreElementsKnown self (elements_of_list es) → length es ≤ 65536
elements_few self es known = let few = sized es in let small = known.small in omega (arith, few, small) where
  sized : (es : List Expr) → length es ≤ size_of_cores (mean_elements self (elements_of_list es))
  sized [] = omega arith
  sized (e ∷ es) = let rest = sized es in let here = some_size (meaning_in_scope self (expression e)) in omega (arith, rest, here)

pub count_of : (self : LiteralScope) (es : List Expr) → count_of_elements (only_elements self es) ≡ length es
count_of self [] = refl
count_of self (e ∷ es) = let more = count_of self es in omega (arith, more)

pub elements_none : (self : LiteralScope) (whose : LiteralSelection) (all : List Expr) → AreElementsKnown self (elements_of_list all) → ElementsTold self whose [] 0 all all
elements_none self whose all known = record { known = known; few = let a = known.small in omega (arith, a); flat = All-nil (λ (one : Step × Tree Declared). tree_depth one.1 < step_limit); told = by } where
  by : (next : paths.Step) (path : Path) (asked : DeclaredQuestion) → IsSplit (AtList (OneOfElements (own_literals_declare whose asked) (used_literals_declare whose) (only_elements self all)) (next ∷ path))
      (BranchesTell [] next path asked) (AtList (LeftElements whose asked self 0 all) (next ∷ path))
  by (label l) path asked = (λ h. absurd h, λ h. ⊎_elim (λ n. n) (λ n. n) h)
  by (index i) path asked = (λ h. inr (i, omega arith, h), λ h. ⊎_elim (λ n. absurd n) (λ g. let same : g.0 ≡ i = omega (arith, g.1) in subst (λ j. OneOfElements (own_literals_declare whose asked) (used_literals_declare whose) (only_elements self all) j path) same g.2) h)
