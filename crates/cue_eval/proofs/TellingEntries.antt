-- What is told of the declarations of a struct literal, one after the other.
use Rattle.std.proofs.Common.{◌≡◌, ◌↔◌, ◌⊎◌, inl, inr, ⊎_elim, ℕ, ◌+◌, ◌≤◌, ◌<◌, Bool, true, false, not, ◌||◌, List, [], ◌∷◌, ◌++◌, length, drop, get_or, refl, sym, ap, subst, ◌∙◌, arith, Vec, Global}
use Rattle.std.specs.Str.{bytes_eq}
use Rattle.std.proofs.lemmas.Bool.{false≢true}
use Rattle.std.proofs.lemmas.List.{drop_all}
use Rattle.cue_lattice.specs.OneOf.{OneOf}
use Rattle.cue_lattice.specs.Limits.{step_limit}
use Rattle.cue_lattice.specs.Path as paths
use Rattle.cue_lattice.specs.Path.{Path, label, index}
use Rattle.cue_lattice.proofs.OneOf.{one_of-push}
use Rattle.cue_row.specs.Steps.{step_of}
use Rattle.cue_row.specs.declared.step.Step.{Step}
use Rattle.cue_sets.specs.Texts.{RefusesText}
use Rattle.cue_syntax.specs.declared.tree.Label.{Label}
use Rattle.cue_syntax.specs.declared.tree.Expr.{Expr, size-Expr}
use Rattle.cue_syntax.specs.declared.tree.Declaration.{Declaration, size-Declaration}
use Rattle.cue_syntax.specs.declared.tree.Declaration.TheVariants as declarations
use Rattle.cue_syntax.specs.declared.tree.Declaration.TheViews.{sized-Field}
use Rattle.cue_syntax.specs.Syntax.{Entry, entry, ellipsis, field, definition, expression, entries, entry_tree}
use Rattle.cue_scope.specs.Core.{Core}
use Rattle.cue_scope.specs.Definitions.{Definition}
use Rattle.cue_scope.specs.Kept.{nodes_kept}
use Rattle.cue_scope.specs.Meaning.{meant_members, nest_in_labels, text_of}
use Rattle.cue_scope.specs.Uses.{uses, uses_of_entries}
use Rattle.cue_scope.proofs.Walking.{at_hand}
use Rattle.cue_table.specs.Depth.{tree_depth}
use Rattle.cue_table.specs.Form.{IsTable}
use Rattle.cue_table.specs.Many.{IsOfBranches}
use Rattle.cue_table.specs.Refuses.{TableRefuses}
use Rattle.cue_table.specs.Tree.{Tree}
use Rattle.cue_eval.specs.declared.declared.Declared.{Declared}
use Rattle.cue_eval.specs.declared.declared.DeclaredQuestion.{DeclaredQuestion}
use Rattle.cue_eval.specs.declared.declared.DeclaredQuestion.TheVariants.{Stands, Declares}
use Rattle.cue_eval.specs.declared.declares.LiteralSelection.{LiteralSelection}
use Rattle.cue_eval.specs.declared.declares.LiteralScope.{LiteralScope}
use Rattle.cue_eval.specs.Closing.{AtStruct, OneOfFields}
use Rattle.cue_eval.specs.Literals.{has_dots, has_declaration}
use Rattle.cue_eval.specs.Telling.{DeclaredRefuses, IsDeclaredLabel}
use Rattle.cue_eval.specs.Inner.Telling.{literal_declares}
use Rattle.cue_eval.specs.Inner.Told.{DeclaresLiterals, DeclaresFields, IsKnown, AreMembersKnown, meaning_in_scope, mean_members, own_literals_declare, used_literals_declare}
use Rattle.cue_eval.proofs.TellingDepth.{told_flat, nested_depth, nested_size}
use Rattle.cue_eval.proofs.TellingFields.{fields_told}
use Rattle.cue_eval.proofs.TellingParts.{IsSplit, FieldsTold, LabelsTold, BranchesTell, known_part, known_rest, split_more, split_all, flat_more}

-- ---- fields
pub entry_next : (self : LiteralScope) (whose : LiteralSelection) (branches : List (Step × Tree Declared)) (all : List Declaration) (i : ℕ) (d : Declaration) → FieldsTold self whose branches all (drop i all) → i < length all → d ≡ get_or all i d
    → FieldsTold self whose branches all (d ∷ drop (i + 1) all)
entry_next self whose branches all i d w h is = subst (λ z. FieldsTold self whose branches all z) (at_hand all i d h is) w

-- the declaration at hand is this one
record Entered (self : LiteralScope) (whose : LiteralSelection) (branches : List (Step × Tree Declared)) (all : List Declaration) (e : Entry) (rest : List Declaration) : Type 0 where
  known : AreMembersKnown self (entry e (entries rest))
  told : (step : paths.Step) (path : Path) (asked : DeclaredQuestion) → IsSplit (AtStruct ⊥ (OneOfFields (own_literals_declare whose asked) (used_literals_declare whose) (mean_members self (entries all))) (step ∷ path))
      (BranchesTell branches step path asked) (AtStruct ⊥ (OneOfFields (own_literals_declare whose asked) (used_literals_declare whose) (mean_members self (entry e (entries rest)))) (step ∷ path))

entered : (self : LiteralScope) (whose : LiteralSelection) (branches : List (Step × Tree Declared)) (all rest : List Declaration) (d : Declaration) (e : Entry) → FieldsTold self whose branches all (d ∷ rest) → entry_tree d ≡ e → Entered self whose branches all e rest
entered self whose branches all rest d e w is = subst (λ z. Entered self whose branches all z rest) is (record { known = w.known; told = w.told })

pub ellipsis_more : (self : LiteralScope) (whose : LiteralSelection) (branches : List (Step × Tree Declared)) (all rest : List Declaration) (d : Declaration) → FieldsTold self whose branches all (d ∷ rest) → entry_tree d ≡ ellipsis → FieldsTold self whose branches all rest
ellipsis_more self whose branches all rest d w is =
    let e = entered self whose branches all rest d ellipsis w is in
    record {
      known = known_rest self [] _ _ _ _ _ e.known (omega arith) (omega arith);
      flat = w.flat;
      told = λ step path asked. split_more _ _ _ _ ⊥ _ (e.told step path asked) (dotted step path asked) (λ h. inl h, λ h. ⊎_elim (λ g. g) (λ n. absurd n) h);
    } where
      dotted : (step : paths.Step) (path : Path) (asked : DeclaredQuestion) → AtStruct ⊥ (OneOfFields (own_literals_declare whose asked) (used_literals_declare whose) (mean_members self (entry ellipsis (entries rest)))) (step ∷ path)
          ↔ (⊥ ⊎ AtStruct ⊥ (OneOfFields (own_literals_declare whose asked) (used_literals_declare whose) (mean_members self (entries rest))) (step ∷ path))
      dotted (label l) path asked = (inr, λ h. ⊎_elim (λ n. absurd n) (λ g. g) h)
      dotted (index i) path asked = (inr, λ h. ⊎_elim (λ n. absurd n) (λ g. g) h)

pub definition_more : (self : LiteralScope) (whose : LiteralSelection) (branches : List (Step × Tree Declared)) (all rest : List Declaration) (d : Declaration) (t : List ℕ) (from : ℕ) (chain : Vec Label Global) (value : Expr) → FieldsTold self whose branches all (d ∷ rest)
    → entry_tree d ≡ definition t from chain.items (expression value) → FieldsTold self whose branches all rest
definition_more self whose branches all rest d t from chain value w is =
    let e = entered self whose branches all rest d (definition t from chain.items (expression value)) w is in
    record { known = known_rest self (uses (nodes_kept self.definitions.now) (expression value)) _ _ _ _ _ e.known (omega arith) (omega arith); flat = w.flat; told = e.told }

-- of a field it is known what is asked
pub field_known : (self : LiteralScope) (whose : LiteralSelection) (branches : List (Step × Tree Declared)) (all rest : List Declaration) (d : Declaration) (l : Label) (chain : Vec Label Global) (value : Expr) → FieldsTold self whose branches all (d ∷ rest)
    → entry_tree d ≡ field l chain.items (expression value) → IsKnown self (expression value)
field_known self whose branches all rest d l chain value w is =
    let e = entered self whose branches all rest d (field l chain.items (expression value)) w is in
    let s = nested_size chain.items (meaning_in_scope self (expression value)) in
    let n = nested_depth chain.items (meaning_in_scope self (expression value)) in
    known_part self _ (uses_of_entries (nodes_kept self.definitions.now) (entries rest)) _ _ _ _ e.known (omega (arith, s)) (omega (arith, n))

pub field_flat : (self : LiteralScope) (whose : LiteralSelection) (branches : List (Step × Tree Declared)) (all rest : List Declaration) (d : Declaration) (l : Label) (chain : Vec Label Global) (value : Expr) (t : Tree Declared) → FieldsTold self whose branches all (d ∷ rest)
    → entry_tree d ≡ field l chain.items (expression value) → DeclaresLiterals whose (meaning_in_scope self (expression value)) t → length chain.items + tree_depth t < step_limit
field_flat self whose branches all rest d l chain value t w is told =
    let e = entered self whose branches all rest d (field l chain.items (expression value)) w is in
    let n = nested_depth chain.items (meaning_in_scope self (expression value)) in
    let f = told_flat whose (meaning_in_scope self (expression value)) t told in
    let k = e.known.flat in
    omega (arith, n, f, k)

same_word : (k l : List ℕ) (step : paths.Step) → step ≡ label k → step ≡ label l → k ≡ l
same_word k l step e f = cc

pub field_more : (self : LiteralScope) (whose : LiteralSelection) (branches : List (Step × Tree Declared)) (all rest : List Declaration) (d : Declaration) (l : Label) (chain : Vec Label Global) (value : Expr) (step : Step) (t : Tree Declared) → FieldsTold self whose branches all (d ∷ rest)
    → entry_tree d ≡ field l chain.items (expression value) → step_of step ≡ label (text_of l.name) → DeclaresLiterals whose (nest_in_labels chain.items (meaning_in_scope self (expression value))) t → tree_depth t < step_limit
    → FieldsTold self whose (branches ++ (step, t) ∷ []) all rest
field_more self whose branches all rest d l chain value step t w is at told flat =
    let e = entered self whose branches all rest d (field l chain.items (expression value)) w is in
    record {
      known = known_rest self (uses (nodes_kept self.definitions.now) (expression value)) _ _ _ _ _ e.known (omega arith) (omega arith);
      flat = flat_more branches (step, t) w.flat flat;
      told = λ next path asked. split_more _ _ _ _ ((step_of step ≡ next) × TableRefuses DeclaredRefuses t path asked) _ (e.told next path asked) (here next path asked)
          (one_of-push (λ (one : Step × Tree Declared). (step_of one.0 ≡ next) × TableRefuses DeclaredRefuses one.1 path asked) branches (step, t));
    } where
      here : (next : paths.Step) (path : Path) (asked : DeclaredQuestion) → AtStruct ⊥ (OneOfFields (own_literals_declare whose asked) (used_literals_declare whose) (mean_members self (entry (field l chain.items (expression value)) (entries rest)))) (next ∷ path)
          ↔ (((step_of step ≡ next) × TableRefuses DeclaredRefuses t path asked) ⊎ AtStruct ⊥ (OneOfFields (own_literals_declare whose asked) (used_literals_declare whose) (mean_members self (entries rest))) (next ∷ path))
      here (label m) path asked =
          let s = told.told path asked in (
            λ h. ⊎_elim (λ g. inl (at ∙ ap label g.0, s.1 g.1)) inr h,
            λ h. ⊎_elim (λ g. inl (same_word (text_of l.name) m (step_of step) at g.0, s.0 g.1)) inr h,
          )
      here (index i) path asked = (λ h. absurd h, λ h. ⊎_elim (λ g. let no : label (text_of l.name) ≡ index i = sym at ∙ g.0 in let n : ⊥ = cc in n) (λ n. n) h)

pub fields_all : (self : LiteralScope) (whose : LiteralSelection) (branches : List (Step × Tree Declared)) (all : List Declaration) (i : ℕ) (table : Tree Declared) → FieldsTold self whose branches all (drop i all) → length all ≤ i
    → IsTable DeclaredRefuses IsDeclaredLabel table → IsOfBranches DeclaredRefuses branches table → DeclaresFields whose (mean_members self (entries all)) table
fields_all self whose branches all i table w h form of = fields_told whose (mean_members self (entries all)) branches table form of (λ step path asked. split_all _ _ _ (end.told step path asked) (none step path asked)) where
  end : FieldsTold self whose branches all []
  end = subst (λ z. FieldsTold self whose branches all z) (drop_all i all h) w

  none : (step : paths.Step) (path : Path) (asked : DeclaredQuestion) → ¬ AtStruct ⊥ (OneOfFields (own_literals_declare whose asked) (used_literals_declare whose) (mean_members self (entries []))) (step ∷ path)
  none (label l) path asked h = h
  none (index i) path asked h = h

-- ---- the labels that are declared
pub label_next : (sets : List (Bool × List (List ℕ))) (all : List Declaration) (i : ℕ) (d : Declaration) → LabelsTold sets all (drop i all) → i < length all → d ≡ get_or all i d → LabelsTold sets all (d ∷ drop (i + 1) all)
label_next sets all i d w h is = subst (λ z. LabelsTold sets all z) (at_hand all i d h is) w

label_entered : (sets : List (Bool × List (List ℕ))) (all rest : List Declaration) (d : Declaration) (e : Entry) → LabelsTold sets all (d ∷ rest) → entry_tree d ≡ e → (ds : List Definition) (meaning : ℕ → Core) (l : List ℕ)
    → IsSplit (literal_declares (Declares l) (meant_members ds meaning (entries all)) ≡ true) (OneOf (λ (set : Bool × List (List ℕ)). RefusesText set l) sets) (literal_declares (Declares l) (meant_members ds meaning (entry e (entries rest))) ≡ true)
label_entered sets all rest d e w is ds meaning l =
    subst (λ z. IsSplit (literal_declares (Declares l) (meant_members ds meaning (entries all)) ≡ true) (OneOf (λ (set : Bool × List (List ℕ)). RefusesText set l) sets) (literal_declares (Declares l) (meant_members ds meaning (entry z (entries rest))) ≡ true)) is (w ds meaning l)

pub dots_declare : (sets : List (Bool × List (List ℕ))) (set : Bool × List (List ℕ)) (all rest : List Declaration) (d : Declaration) → LabelsTold sets all (d ∷ rest) → entry_tree d ≡ ellipsis → set ≡ (false, []) → LabelsTold (sets ++ set ∷ []) all rest
dots_declare sets set all rest d w is none ds meaning l =
    let refused : RefusesText set l = subst (λ s. RefusesText s l) (sym none) refl in
    split_more _ _ _ _ (RefusesText set l) _ (label_entered sets all rest d ellipsis w is ds meaning l) (λ h. inl refused, λ h. refl)
    (one_of-push (λ (s : Bool × List (List ℕ)). RefusesText s l) sets set)

either_way : (a b c : Bool) → ((a || (b || c)) ≡ true) ↔ ((not (b || false) ≡ false) ⊎ ((a || c) ≡ true))
either_way true b c = (λ h. inr refl, λ h. refl)
either_way false true c = (λ h. inl refl, λ h. refl)
either_way false false c = (λ h. inr h, λ h. ⊎_elim (λ n. absurd (false≢true (sym n))) (λ g. g) h)

pub field_declares : (sets : List (Bool × List (List ℕ))) (set : Bool × List (List ℕ)) (all rest : List Declaration) (d : Declaration) (l : Label) (chain : Vec Label Global) (value : Expr) → LabelsTold sets all (d ∷ rest)
    → entry_tree d ≡ field l chain.items (expression value) → set ≡ (true, text_of l.name ∷ []) → LabelsTold (sets ++ set ∷ []) all rest
field_declares sets set all rest d l chain value w is lacks ds meaning m =
    let ms = meant_members ds meaning (entries rest) in
    let here : (literal_declares (Declares m) (meant_members ds meaning (entry (field l chain.items (expression value)) (entries rest))) ≡ true) ↔ (RefusesText set m ⊎ (literal_declares (Declares m) ms ≡ true)) =
    subst (λ s. ((has_dots ms || (bytes_eq (text_of l.name) m || has_declaration m ms)) ≡ true) ↔ (RefusesText s m ⊎ (literal_declares (Declares m) ms ≡ true))) (sym lacks) (either_way (has_dots ms) (bytes_eq (text_of l.name) m) (has_declaration m ms)) in
    split_more _ _ _ _ (RefusesText set m) _ (label_entered sets all rest d (field l chain.items (expression value)) w is ds meaning m) here
    (one_of-push (λ (s : Bool × List (List ℕ)). RefusesText s m) sets set)

pub definition_declares : (sets : List (Bool × List (List ℕ))) (all rest : List Declaration) (d : Declaration) (t : List ℕ) (from : ℕ) (chain : Vec Label Global) (value : Expr) → LabelsTold sets all (d ∷ rest)
    → entry_tree d ≡ definition t from chain.items (expression value) → LabelsTold sets all rest
definition_declares sets all rest d t from chain value w is ds meaning l = label_entered sets all rest d (definition t from chain.items (expression value)) w is ds meaning l

pub all_declared : (sets : List (Bool × List (List ℕ))) (all : List Declaration) (i : ℕ) (row : Declared) → LabelsTold sets all (drop i all) → length all ≤ i → row.stands ≡ true
    → ((l : List ℕ) → RefusesText row.undeclared l ↔ OneOf (λ (set : Bool × List (List ℕ)). RefusesText set l) sets)
    → (ds : List Definition) (meaning : ℕ → Core) (asked : DeclaredQuestion) → DeclaredRefuses row asked ↔ (literal_declares asked (meant_members ds meaning (entries all)) ≡ true)
all_declared sets all i row w h stands met ds meaning Stands = (λ r. refl, λ r. stands)
all_declared sets all i row w h stands met ds meaning (Declares l) =
    let end = subst (λ z. LabelsTold sets all z) (drop_all i all h) w in
    let s = split_all _ _ _ (end ds meaning l) (λ e. false≢true e) in
    let m = met l in
    (λ r. s.0 (m.0 r), λ r. m.1 (s.1 r))

-- a field is larger than its value
pub field_size : (d : Declaration) (l : Label) (chain : Vec Label Global) (e : Expr) → d ≡ declarations.Field l chain e → size-Expr e < size-Declaration d
field_size d l chain e is = let own = sized-Field l chain e in subst (λ z. size-Expr e < size-Declaration z) (sym is) (omega (arith, own))
