-- What printed fields mean: those of listed labels, and the others.
use Rattle.std.proofs.Common.{◌≡◌, ◌↔◌, ◌⊎◌, inl, inr, ⊎_elim, ℕ, Bool, true, false, ◌||◌, List, [], ◌∷◌, refl, sym, ap, subst, ◌∙◌, if◌then◌else◌, arith}
use Rattle.std.specs.Str.{bytes_eq}
use Rattle.std.proofs.lemmas.Bool.{false≢true, or_left, or_right}
use Rattle.std.proofs.lemmas.Slice.Eq.{bytes_eq-Decides}
use Rattle.cue_lattice.specs.Path.{Path}
use Rattle.cue_lattice.specs.Question.{Question, may_be, usual, struct, list, allows, level_at_most, length_at_most, length_at_least}
use Rattle.cue_sets.specs.Texts.{is_listed}
use Rattle.cue_row.specs.declared.level.Level.{Level}
use Rattle.cue_row.specs.declared.level.Level.TheVariants.{Optional}
use Rattle.cue_scope.specs.Core.{Core}
use Rattle.cue_scope.specs.Definitions.{Definition}
use Rattle.cue_eval.specs.Literals.{has_declaration, has_dots}
use Rattle.cue_eval.specs.Places.{IsAtPlace, MarkRefuses}
use Rattle.cue_print.specs.Expressions.{Value, top, Fields, no_more, field}
use Rattle.cue_print.specs.Printed.{field_in_front, fields_of_labels, fields_of_others}
use Rattle.print_laws.specs.PrintedTree.{label_mark, value_tree}
use Rattle.print_laws.specs.Inner.Meanings.{ValueRefuses, members_of, FieldsRefuse, OneFieldRefuses, IsNewLabel, AreDistinct}

same : (k l : List ℕ) → bytes_eq k l ≡ true → k ≡ l
same k l e = (bytes_eq-Decides k l).0 e

apart : (k l : List ℕ) → bytes_eq k l ≡ false → k ≡ l → ⊥
apart k l e h = false≢true (sym e ∙ (bytes_eq-Decides k l).1 h)

pub listed_same : (l : List ℕ) (labels : List (List ℕ)) → is_listed (l ∷ labels) l ≡ true
listed_same l labels = or_left (bytes_eq l l) (is_listed labels l) ((bytes_eq-Decides l l).1 refl)

-- `?` refuses nothing
optional_silent : (path : Path) (question : Question) → IsAtPlace (MarkRefuses (label_mark Optional)) path question → ⊥
optional_silent [] (level_at_most k) h = absurd (omega (arith, h))
optional_silent [] (may_be scalar) h = h
optional_silent [] (usual scalar) h = h
optional_silent [] struct h = h
optional_silent [] list h = h
optional_silent [] (allows l) h = h
optional_silent [] (length_at_most n) h = h
optional_silent [] (length_at_least n) h = h
optional_silent (step ∷ path) question h = h

-- an equation between labels, where they are compared
listed_by : (b : Bool) (k l : List ℕ) (ks : List (List ℕ)) → bytes_eq k l ≡ b → is_listed (k ∷ ks) l ≡ true → (k ≡ l) ⊎ (is_listed ks l ≡ true)
listed_by true k l ks e h = inl (same k l e)
listed_by false k l ks e h = inr (ap (λ b. b || is_listed ks l) (sym e) ∙ h)

module _ (ds : List Definition) (meaning : ℕ → Core) where
  -- `_` refuses nothing
  pub top_silent : (path : Path) (question : Question) → ValueRefuses ds meaning top path question → ⊥
  unfolding value_tree
  top_silent path question h = h

  -- what the fields refuse, one by one
  pub first_field : (name l : List ℕ) (level : Level) (value : Value) (fields : Fields) (path : Path) (question : Question) →
      FieldsRefuse ds meaning (field name level value fields) l path question ↔ (((name ≡ l) × OneFieldRefuses ds meaning level value path question) ⊎ FieldsRefuse ds meaning fields l path question)
  unfolding value_tree
  first_field name l level value fields path question = (λ h. h, λ h. h)

  pub no_field_silent : (l : List ℕ) (path : Path) (question : Question) → FieldsRefuse ds meaning no_more l path question → ⊥
  unfolding value_tree
  no_field_silent l path question h = h

  -- no field has a new label
  pub new_silent : (l : List ℕ) (fields : Fields) (path : Path) (question : Question) → IsNewLabel l fields → FieldsRefuse ds meaning fields l path question → ⊥
  new_silent l no_more path question new h = no_field_silent l path question h
  new_silent l (field name level value fields) path question new h =
      ⊎_elim (λ g. new.0 g.0) (λ g. new_silent l fields path question new.1 g) ((first_field name l level value fields path question).0 h)

  -- ---- the field of a label
  -- in front of others, an own field of the label or an optional one of anything
  abbrev DeclaredMeans : List ℕ → Fields → Fields → Fields → Type 0
  DeclaredMeans k fields others all =
      (l : List ℕ) (path : Path) (question : Question) →
      FieldsRefuse ds meaning all l path question ↔ (((k ≡ l) × FieldsRefuse ds meaning fields k path question) ⊎ FieldsRefuse ds meaning others l path question)

  declared_by : (b : Bool) (k name : List ℕ) (level : Level) (value : Value) (fields others : Fields) → bytes_eq name k ≡ b → IsNewLabel name fields → DeclaredMeans k fields others (field_in_front k fields others)
      → DeclaredMeans k (field name level value fields) others (if b then field k level value others else field_in_front k fields others)
  declared_by true k name level value fields others e new rest l path question =
      let one = first_field k l level value others path question in
      let own = first_field name k level value fields path question in
      let is : name ≡ k = same name k e in (
        λ h. ⊎_elim (λ g. inl (g.0, own.1 (inl (is, g.1)))) inr (one.0 h),
        λ h. one.1 (⊎_elim
            (λ g. inl (g.0, ⊎_elim (λ f. f.1) (λ f. absurd (new_silent k fields path question (subst (λ (n : List ℕ). IsNewLabel n fields) is new) f)) (own.0 g.1)))
            inr h),
      )
  declared_by false k name level value fields others e new rest l path question =
      let own = first_field name k level value fields path question in
      let more = rest l path question in (
        λ h. ⊎_elim (λ g. inl (g.0, own.1 (inr g.1))) inr (more.0 h),
        λ h. more.1 (⊎_elim
            (λ g. inl (g.0, ⊎_elim (λ f. absurd (apart name k e f.0)) (λ f. f) (own.0 g.1)))
            inr h),
      )

  declared_means : (k : List ℕ) (fields others : Fields) → AreDistinct fields → DeclaredMeans k fields others (field_in_front k fields others)
  declared_means k no_more others distinct l path question =
      let one = first_field k l Optional top others path question in (
        λ h. ⊎_elim (λ g. absurd (⊎_elim (optional_silent path question) (top_silent path question) g.1)) inr (one.0 h),
        λ h. one.1 (⊎_elim (λ g. absurd (no_field_silent k path question g.1)) inr h),
      )
  declared_means k (field name level value fields) others distinct l path question =
      declared_by (bytes_eq name k) k name level value fields others refl distinct.0 (declared_means k fields others distinct.1) l path question

  -- ---- those of listed labels
  pub inside_means : (labels : List (List ℕ)) (fields : Fields) → AreDistinct fields → (l : List ℕ) (path : Path) (question : Question) →
      FieldsRefuse ds meaning (fields_of_labels labels fields) l path question ↔ ((is_listed labels l ≡ true) × FieldsRefuse ds meaning fields l path question)
  inside_means [] fields distinct l path question = (λ h. absurd (no_field_silent l path question h), λ h. absurd (false≢true h.0))
  inside_means (k ∷ ks) fields distinct l path question =
      let here = declared_means k fields (fields_of_labels ks fields) distinct l path question in
      let more = inside_means ks fields distinct l path question in (
        λ h. ⊎_elim
            (λ g. (subst (λ (n : List ℕ). is_listed (k ∷ ks) n ≡ true) g.0 (listed_same k ks), subst (λ (n : List ℕ). FieldsRefuse ds meaning fields n path question) g.0 g.1))
            (λ g. let found = more.0 g in (or_right (bytes_eq k l) (is_listed ks l) found.0, found.1))
            (here.0 h),
        λ h. here.1 (⊎_elim
            (λ g. inl (g, subst (λ (n : List ℕ). FieldsRefuse ds meaning fields n path question) (sym g) h.1))
            (λ g. inr (more.1 (g, h.1)))
            (listed_by (bytes_eq k l) k l ks refl h.0)),
      )

  -- ---- the others
  abbrev OutsideMeans : List (List ℕ) → Fields → Fields → Type 0
  OutsideMeans labels fields all =
      (l : List ℕ) (path : Path) (question : Question) →
      FieldsRefuse ds meaning all l path question ↔ ((is_listed labels l ≡ false) × FieldsRefuse ds meaning fields l path question)

  outside_by : (b : Bool) (labels : List (List ℕ)) (name : List ℕ) (level : Level) (value : Value) (fields : Fields) → is_listed labels name ≡ b → OutsideMeans labels fields (fields_of_others labels fields)
      → OutsideMeans labels (field name level value fields) (if b then fields_of_others labels fields else field name level value (fields_of_others labels fields))
  outside_by true labels name level value fields e rest l path question =
      let own = first_field name l level value fields path question in
      let more = rest l path question in (
        λ h. let found = more.0 h in (found.0, own.1 (inr found.1)),
        λ h. ⊎_elim
            (λ g. absurd (false≢true (sym h.0 ∙ (ap (is_listed labels) (sym g.0) ∙ e))))
            (λ g. more.1 (h.0, g)) (own.0 h.1),
      )
  outside_by false labels name level value fields e rest l path question =
      let own = first_field name l level value fields path question in
      let one = first_field name l level value (fields_of_others labels fields) path question in
      let more = rest l path question in (
        λ h. ⊎_elim
            (λ g. (ap (is_listed labels) (sym g.0) ∙ e, own.1 (inl g)))
            (λ g. let found = more.0 g in (found.0, own.1 (inr found.1))) (one.0 h),
        λ h. one.1 (⊎_elim inl (λ g. inr (more.1 (h.0, g))) (own.0 h.1)),
      )

  pub outside_means : (labels : List (List ℕ)) (fields : Fields) → OutsideMeans labels fields (fields_of_others labels fields)
  outside_means labels no_more l path question = (λ h. absurd (no_field_silent l path question h), λ h. absurd (no_field_silent l path question h.1))
  outside_means labels (field name level value fields) l path question =
      outside_by (is_listed labels name) labels name level value fields refl (outside_means labels fields) l path question

  -- ---- which labels are declared
  pub no_dots : (fields : Fields) → has_dots (members_of ds meaning fields) ≡ false
  unfolding value_tree
  no_dots no_more = refl
  no_dots (field name level value fields) = no_dots fields

  one_declares_by : (b : Bool) (k l : List ℕ) (level : Level) (value : Value) (others all : Fields)
      → has_declaration l (members_of ds meaning all) ≡ (bytes_eq k l || has_declaration l (members_of ds meaning others))
      → has_declaration l (members_of ds meaning (if b then field k level value others else all)) ≡ (bytes_eq k l || has_declaration l (members_of ds meaning others))
  unfolding value_tree
  one_declares_by true k l level value others all rest = refl
  one_declares_by false k l level value others all rest = rest

  one_declares : (k l : List ℕ) (fields others : Fields) → has_declaration l (members_of ds meaning (field_in_front k fields others)) ≡ (bytes_eq k l || has_declaration l (members_of ds meaning others))
  unfolding value_tree
  one_declares k l no_more others = refl
  one_declares k l (field name level value fields) others = one_declares_by (bytes_eq name k) k l level value others (field_in_front k fields others) (one_declares k l fields others)

  -- those of listed labels declare just these labels
  pub inside_declares : (labels : List (List ℕ)) (fields : Fields) (l : List ℕ) → has_declaration l (members_of ds meaning (fields_of_labels labels fields)) ≡ is_listed labels l
  unfolding value_tree
  inside_declares [] fields l = refl
  inside_declares (k ∷ ks) fields l = one_declares k l fields (fields_of_labels ks fields) ∙ ap (λ b. bytes_eq k l || b) (inside_declares ks fields l)
