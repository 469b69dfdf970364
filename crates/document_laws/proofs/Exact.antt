-- An expression admits exactly the documents that meet what it refuses.
use Rattle.std.proofs.Common.{◌≡◌, ◌↔◌, ◌<◌, ◌≤◌, ◌+◌, ◌⊎◌, inl, inr, ⊎_elim, ℕ, Bool, true, false, List, [], ◌∷◌, refl, sym, ◌∙◌, subst, arith}
use Rattle.std.specs.Str.{bytes_eq}
use Rattle.std.proofs.lemmas.Slice.Eq.{bytes_eq-Decides}
use Rattle.std.proofs.lemmas.Bool.{cases_Bool, true_from_ne_false, false≢true}
use Rattle.cue_lattice.specs.Path.{Path, label, index}
use Rattle.cue_lattice.specs.Question.{Refusals, Question, level_at_most}
use Rattle.cue_lattice.specs.Inner.Question.{Open}
use Rattle.cue_lattice.specs.Document as documents
use Rattle.cue_lattice.specs.Document.{Document, IsDocument, AreItems, AreMembers, length_of, HasMember}
use Rattle.cue_lattice.specs.Meets.{Meets, ItemsMeet, MembersMeet}
use Rattle.cue_lattice.proofs.Meeting.{Either, less, both, unasked, items_unasked, members_less, first, second}
use Rattle.cue_scalars.specs.Pairs.{ScalarPair}
use Rattle.cue_syntax.specs.declared.tree.Mark.{Mark}
use Rattle.cue_syntax.specs.declared.tree.Mark.TheVariants.{Regular, Optional, Required}
use Rattle.cue_scope.specs.Core.{Core, null, truth, integer, text, named, top, bottom, bound, other_integer, other_text, conjunction, disjunction, struct, close, list, closed, Cores, no_cores, core, Members, no_members, member, dots, Elements, ends, goes_on, each, element}
use Rattle.cue_eval.specs.Pairs.{pair}
use Rattle.cue_eval.specs.Literals.{literals}
use Rattle.cue_eval.specs.Places.{IsAtPlace, ScalarRefuses, MarkRefuses, ClosingRefuses, IsAboveLength, level_of_mark}
use Rattle.cue_eval.specs.Refuses.{Refuses, PartsRefuse, FieldRefuses, ElementRefuses, LiteralRefuses, count_of_elements, is_open_list}
use Rattle.document_laws.specs.Admits.{IsPresent, EachAt, EachItem, IsScalarIn, AllDeclared, Admits, AllAdmit, FieldsAdmit, ElementsAdmit, IsExactOnTables}
use Rattle.document_laws.proofs.Closings.{Closing, closed_is_within, declares_them, leaves_none_out}

-- ---- scalars
scalar_meets : (v : ScalarPair) (d : Document) → IsScalarIn v.value d → Meets (IsAtPlace (ScalarRefuses v)) d
scalar_meets v (documents.scalar x) h = λ g. false≢true (sym g.1 ∙ h)
scalar_meets v (documents.list items) h = absurd h
scalar_meets v (documents.map ms) h = absurd h

scalar_admitted : (v : ScalarPair) (d : Document) → IsDocument d → Meets (IsAtPlace (ScalarRefuses v)) d → IsScalarIn v.value d
scalar_admitted v (documents.scalar x) is m = true_from_ne_false (v.value x) (λ e. m (is.0, e))
scalar_admitted v (documents.list items) is m = absurd (m.0 tt)
scalar_admitted v (documents.map ms) is m = absurd (m.0 tt)

-- ---- marks
-- no expression has a level at its own place
mutual
  no_level : (c : Core) (k : ℕ) → Refuses c [] (level_at_most k) → ⊥
  no_level null k g = g
  no_level (truth b) k g = g
  no_level (integer n) k g = g
  no_level (text t) k g = g
  no_level (named name) k g = g
  no_level bottom k g = g
  no_level (bound comparison n) k g = g
  no_level (other_integer n) k g = g
  no_level (other_text t) k g = g
  no_level (disjunction terms) k g = g
  no_level top k g = g
  no_level (conjunction cs) k g = no_part_level cs k g
  no_level (struct ms) k g = g
  no_level (close ms) k g = ⊎_elim (λ e. e) (λ e. e) g
  no_level (list es) k g = g
  no_level (closed c) k g = ⊎_elim (no_level c k) (λ e. e) g

  no_part_level : (cs : Cores) (k : ℕ) → PartsRefuse cs [] (level_at_most k) → ⊥
  no_part_level no_cores k g = g
  no_part_level (core c cs) k g = ⊎_elim (no_level c k) (no_part_level cs k) g

-- a mark says nothing of the document at its own place
mark_unasked : (mark : Mark) (d : Document) → Meets (IsAtPlace (MarkRefuses mark)) d
mark_unasked mark (documents.scalar x) = λ g. g
mark_unasked mark (documents.list items) = (λ g. g, λ g. g, λ g. g, items_unasked items)
mark_unasked mark (documents.map ms) = (λ g. g, λ l g. absurd g, below mark ms) where
  below : (mark : Mark) (ms : documents.Members) → MembersMeet (IsAtPlace (MarkRefuses mark)) ms
  below mark documents.no_members = tt
  below mark (documents.member l d ms) = (λ g. g, unasked d, below mark ms)

wanted : (mark : Mark) (P : Type 0) → (0 < level_of_mark mark → P) → IsPresent mark P
wanted Optional P h = tt
wanted Required P h = h (omega arith)
wanted Regular P h = h (omega arith)

is_wanted : (mark : Mark) (P : Type 0) → IsPresent mark P → 0 < level_of_mark mark → P
is_wanted Optional P w h = absurd (omega (arith, h))
is_wanted Required P w h = w
is_wanted Regular P w h = w

-- what one declaration refuses of fields
abbrev OneField : List ℕ → Mark → Core → List ℕ → Refusals
OneField k mark c l path question = (k ≡ l) × (IsAtPlace (MarkRefuses mark) path question ⊎ Refuses c path question)

-- a literal of two kinds of fields refuses what the two do
split : (f g : List ℕ → Refusals) (path : Path) (question : Question) → LiteralRefuses (λ l. Either (f l) (g l)) path question ↔ Either (LiteralRefuses f) (LiteralRefuses g) path question
split f g [] question = (λ h. inl h, λ h. ⊎_elim (λ e. e) (λ e. e) h)
split f g (label l ∷ path) question = (λ h. h, λ h. h)
split f g (index i ∷ path) question = (λ h. absurd h, λ h. ⊎_elim (λ e. e) (λ e. e) h)

-- ---- lengths

-- the length of a list that is written with so many elements, and goes on or not
abbrev IsLength : ℕ → Bool → ℕ → Type 0
IsLength count_of_elements true n = count_of_elements ≤ n
IsLength count_of_elements false n = n ≡ count_of_elements

-- with one element and one item more, or less
one_more : (n k : ℕ) (goes_on : Bool) → IsLength n goes_on k → IsLength (n + 1) goes_on (k + 1)
one_more n k true is = omega (arith, is)
one_more n k false is = omega (arith, is)

one_less : (n k : ℕ) (goes_on : Bool) → IsLength (n + 1) goes_on (k + 1) → IsLength n goes_on k
one_less n k true is = omega (arith, is)
one_less n k false is = omega (arith, is)

none_wanted : (n : ℕ) (goes_on : Bool) → IsLength (n + 1) goes_on 0 → ⊥
none_wanted n true is = omega (arith, is)
none_wanted n false is = omega (arith, is)

-- a list that is admitted has its length
length_is : (es : Elements) (items : documents.Items) → ElementsAdmit es items → IsLength (count_of_elements es) (is_open_list es) (length_of items)
length_is ends documents.no_items h = refl
length_is ends (documents.item d items) h = absurd h
length_is goes_on items h = omega arith
length_is (each c) items h = omega arith
length_is (element c es) documents.no_items h = absurd h
length_is (element c es) (documents.item d items) h = one_more (count_of_elements es) (length_of items) (is_open_list es) (length_is es items h.1)

is_length : (n : ℕ) (goes_on : Bool) (k : ℕ) → (k < n → ⊥) → (IsAboveLength n goes_on k → ⊥) → IsLength n goes_on k
is_length n true k low high = omega (arith, low)
is_length n false k low high = omega (arith, low, high)

not_short : (n : ℕ) (goes_on : Bool) (k : ℕ) → IsLength n goes_on k → k < n → ⊥
not_short n true k is h = omega (arith, is, h)
not_short n false k is h = omega (arith, is, h)

not_long : (n : ℕ) (goes_on : Bool) (k : ℕ) → IsLength n goes_on k → IsAboveLength n goes_on k → ⊥
not_long n true k is h = h
not_long n false k is h = omega (arith, is, h)

-- ---- literals that are closed at their own place
all_declared : (ms : Members) (members : documents.Members) → MembersMeet (IsAtPlace (ClosingRefuses (ms ∷ []))) members → AllDeclared ms members
all_declared ms documents.no_members m = tt
all_declared ms (documents.member l d others) m = (declares_them (ms ∷ []) l m.0, all_declared ms others m.2)

none_left_out : (ms : Members) (members : documents.Members) → AllDeclared ms members → MembersMeet (IsAtPlace (ClosingRefuses (ms ∷ []))) members
none_left_out ms documents.no_members m = tt
none_left_out ms (documents.member l d others) m = (leaves_none_out (ms ∷ []) l m.0, unasked d, none_left_out ms others m.1)

-- ---- fields, of which the law is known
no_fields : (members : documents.Members) → MembersMeet (LiteralRefuses (FieldRefuses no_members)) members
no_fields documents.no_members = tt
no_fields (documents.member l d others) = (λ g. g, unasked d, no_fields others)

one_meets : (k l : List ℕ) (mark : Mark) (c : Core) (d : Document) → (l ≡ k → Meets (Refuses c) d) → Meets (OneField k mark c l) d
one_meets k l mark c d h = elim (cases_Bool (bytes_eq k l)) [
  | inl e ↦ let same = (bytes_eq-Decides k l).0 e in
      less (Either (IsAtPlace (MarkRefuses mark)) (Refuses c)) (OneField k mark c l) (λ path q g. g.1) d
      (both (IsAtPlace (MarkRefuses mark)) (Refuses c) d (mark_unasked mark d) (h (sym same)))
  | inr e ↦ less Open (OneField k mark c l) (λ path q g. false≢true (sym e ∙ (bytes_eq-Decides k l).1 g.0)) d (unasked d)
]

each_meets : (k : List ℕ) (mark : Mark) (c : Core) → ((d : Document) → IsDocument d → Admits c d → Meets (Refuses c) d) → (members : documents.Members) → AreMembers members → EachAt (Admits c) k members → MembersMeet (LiteralRefuses (OneField k mark c)) members
each_meets k mark c ih documents.no_members is h = tt
each_meets k mark c ih (documents.member l d others) is h = (λ g. g, one_meets k l mark c d (λ e. ih d is.2 (h.0 e)), each_meets k mark c ih others is.3 h.1)

each_admits : (k : List ℕ) (mark : Mark) (c : Core) → ((d : Document) → IsDocument d → Meets (Refuses c) d → Admits c d) → (members : documents.Members) → AreMembers members → MembersMeet (LiteralRefuses (OneField k mark c)) members → EachAt (Admits c) k members
each_admits k mark c ih documents.no_members is m = tt
each_admits k mark c ih (documents.member l d others) is m =
    (λ e. ih d is.2 (less (OneField k mark c l) (Refuses c) (λ path q g. (sym e, inr g)) d m.1), each_admits k mark c ih others is.3 m.2)

-- what a declaration adds to a literal
more_fields : (k : List ℕ) (mark : Mark) (c : Core) (ms : Members) (others : documents.Members) → IsPresent mark (HasMember k others) → MembersMeet (LiteralRefuses (OneField k mark c)) others → Meets (LiteralRefuses (FieldRefuses ms)) (documents.map others) → Meets (LiteralRefuses (FieldRefuses (member k mark c ms))) (documents.map others)
more_fields k mark c ms others w below rest =
    less (Either (LiteralRefuses (OneField k mark c)) (LiteralRefuses (FieldRefuses ms))) (LiteralRefuses (FieldRefuses (member k mark c ms)))
    (λ path q g. (split (OneField k mark c) (FieldRefuses ms) path q).0 g) (documents.map others)
    (both (LiteralRefuses (OneField k mark c)) (LiteralRefuses (FieldRefuses ms)) (documents.map others)
    (λ g. g, λ l g. subst (λ x. HasMember x others) g.0 (⊎_elim (is_wanted mark (HasMember k others) w) (λ e. absurd (no_level c 0 e)) g.1), below)
    rest)

-- ---- items, of which the law is known
each_item : (P : Document → Type 0) (r : Refusals) → ((d : Document) → IsDocument d → P d → Meets r d) → (items : documents.Items) → AreItems items → EachItem P items → ItemsMeet (λ i. r) items
each_item P r ih documents.no_items is h = tt
each_item P r ih (documents.item d items) is h = (ih d is.0 h.0, each_item P r ih items is.1 h.1)

each_of_items : (P : Document → Type 0) (r : Refusals) → ((d : Document) → IsDocument d → Meets r d → P d) → (items : documents.Items) → AreItems items → ItemsMeet (λ i. r) items → EachItem P items
each_of_items P r ih documents.no_items is m = tt
each_of_items P r ih (documents.item d items) is m = (ih d is.0 m.0, each_of_items P r ih items is.1 m.1)

-- ---- the law, both ways
mutual
  pub meets : (c : Core) (d : Document) → IsDocument d → Admits c d → Meets (Refuses c) d
  meets null d is h = scalar_meets (pair null) d h
  meets (truth b) d is h = scalar_meets (pair (truth b)) d h
  meets (integer n) d is h = scalar_meets (pair (integer n)) d h
  meets (text t) d is h = scalar_meets (pair (text t)) d h
  meets (named name) d is h = scalar_meets (pair (named name)) d h
  meets bottom d is h = scalar_meets (pair bottom) d h
  meets (bound comparison n) d is h = scalar_meets (pair (bound comparison n)) d h
  meets (other_integer n) d is h = scalar_meets (pair (other_integer n)) d h
  meets (other_text t) d is h = scalar_meets (pair (other_text t)) d h
  meets (disjunction terms) d is h = scalar_meets (pair (disjunction terms)) d h
  meets top d is h = unasked d
  meets (conjunction cs) d is h = all_meet cs d is h
  meets (struct ms) (documents.scalar x) is h = absurd h
  meets (struct ms) (documents.list items) is h = absurd h
  meets (struct ms) (documents.map others) is h = fields_meet ms others is h
  meets (close ms) (documents.scalar x) is h = absurd h
  meets (close ms) (documents.list items) is h = absurd h
  meets (close ms) (documents.map others) is h =
      both (LiteralRefuses (FieldRefuses ms)) (IsAtPlace (ClosingRefuses (ms ∷ []))) (documents.map others) (fields_meet ms others is h.0) (λ g. g, λ l g. absurd g, none_left_out ms others h.1)
  meets (list es) (documents.scalar x) is h = absurd h
  meets (list es) (documents.list items) is h =
      let fits = length_is es items h in
      (λ g. g, not_short (count_of_elements es) (is_open_list es) (length_of items) fits, not_long (count_of_elements es) (is_open_list es) (length_of items) fits, elements_meet es items is h)
  meets (list es) (documents.map others) is h = absurd h
  meets (closed c) d is h = both (Refuses c) (Closing (literals c)) d (meets c d is h.0) ((closed_is_within c d).1 h.1)

  all_meet : (cs : Cores) (d : Document) → IsDocument d → AllAdmit cs d → Meets (PartsRefuse cs) d
  all_meet no_cores d is h = unasked d
  all_meet (core c cs) d is h = both (Refuses c) (PartsRefuse cs) d (meets c d is h.0) (all_meet cs d is h.1)

  fields_meet : (ms : Members) (others : documents.Members) → AreMembers others → FieldsAdmit ms others → Meets (LiteralRefuses (FieldRefuses ms)) (documents.map others)
  fields_meet no_members others is h = (λ g. g, λ l g. absurd g, no_fields others)
  fields_meet (member k mark c ms) others is h = more_fields k mark c ms others h.0 (each_meets k mark c (λ d one a. meets c d one a) others is h.1) (fields_meet ms others is h.2)
  fields_meet (dots ms) others is h = fields_meet ms others is h

  elements_meet : (es : Elements) (items : documents.Items) → AreItems items → ElementsAdmit es items → ItemsMeet (ElementRefuses es) items
  elements_meet ends documents.no_items is h = tt
  elements_meet ends (documents.item d items) is h = absurd h
  elements_meet goes_on items is h = items_unasked items
  elements_meet (each c) items is h = each_item (Admits c) (Refuses c) (λ d one a. meets c d one a) items is h
  elements_meet (element c es) documents.no_items is h = absurd h
  elements_meet (element c es) (documents.item d items) is h = (meets c d is.0 h.0, elements_meet es items is.1 h.1)

mutual
  pub admits : (c : Core) (d : Document) → IsDocument d → Meets (Refuses c) d → Admits c d
  admits null d is m = scalar_admitted (pair null) d is m
  admits (truth b) d is m = scalar_admitted (pair (truth b)) d is m
  admits (integer n) d is m = scalar_admitted (pair (integer n)) d is m
  admits (text t) d is m = scalar_admitted (pair (text t)) d is m
  admits (named name) d is m = scalar_admitted (pair (named name)) d is m
  admits bottom d is m = scalar_admitted (pair bottom) d is m
  admits (bound comparison n) d is m = scalar_admitted (pair (bound comparison n)) d is m
  admits (other_integer n) d is m = scalar_admitted (pair (other_integer n)) d is m
  admits (other_text t) d is m = scalar_admitted (pair (other_text t)) d is m
  admits (disjunction terms) d is m = scalar_admitted (pair (disjunction terms)) d is m
  admits top d is m = tt
  admits (conjunction cs) d is m = all_admit cs d is m
  admits (struct ms) (documents.scalar x) is m = m is.0
  admits (struct ms) (documents.list items) is m = m.0 tt
  admits (struct ms) (documents.map others) is m = fields_admit ms others is m
  admits (close ms) (documents.scalar x) is m = m (inl is.0)
  admits (close ms) (documents.list items) is m = m.0 (inl tt)
  admits (close ms) (documents.map others) is m = (
    fields_admit ms others is (first (LiteralRefuses (FieldRefuses ms)) (IsAtPlace (ClosingRefuses (ms ∷ []))) (documents.map others) m),
    all_declared ms others (second (LiteralRefuses (FieldRefuses ms)) (IsAtPlace (ClosingRefuses (ms ∷ []))) (documents.map others) m).2,
  )
  admits (list es) (documents.scalar x) is m = absurd (m is.0)
  admits (list es) (documents.list items) is m = elements_admit es items is (is_length (count_of_elements es) (is_open_list es) (length_of items) m.1 m.2) m.3
  admits (list es) (documents.map others) is m = absurd (m.0 tt)
  admits (closed c) d is m = (admits c d is (first (Refuses c) (Closing (literals c)) d m), (closed_is_within c d).0 (second (Refuses c) (Closing (literals c)) d m))

  all_admit : (cs : Cores) (d : Document) → IsDocument d → Meets (PartsRefuse cs) d → AllAdmit cs d
  all_admit no_cores d is m = tt
  all_admit (core c cs) d is m = (admits c d is (first (Refuses c) (PartsRefuse cs) d m), all_admit cs d is (second (Refuses c) (PartsRefuse cs) d m))

  fields_admit : (ms : Members) (others : documents.Members) → AreMembers others → Meets (LiteralRefuses (FieldRefuses ms)) (documents.map others) → FieldsAdmit ms others
  fields_admit no_members others is m = tt
  fields_admit (member k mark c ms) others is m = (
    wanted mark (HasMember k others) (λ h. m.1 k (inl (refl, inl h))),
    each_admits k mark c (λ d one a. admits c d one a) others is (members_less (LiteralRefuses (FieldRefuses (member k mark c ms))) (LiteralRefuses (OneField k mark c)) (λ path q g. (split (OneField k mark c) (FieldRefuses ms) path q).1 (inl g)) others m.2),
    fields_admit ms others is (less (LiteralRefuses (FieldRefuses (member k mark c ms))) (LiteralRefuses (FieldRefuses ms)) (λ path q g. (split (OneField k mark c) (FieldRefuses ms) path q).1 (inr g)) (documents.map others) m),
  )
  fields_admit (dots ms) others is m = fields_admit ms others is m

  elements_admit : (es : Elements) (items : documents.Items) → AreItems items → IsLength (count_of_elements es) (is_open_list es) (length_of items) → ItemsMeet (ElementRefuses es) items → ElementsAdmit es items
  elements_admit ends documents.no_items is fits m = tt
  elements_admit ends (documents.item d items) is fits m = absurd (omega (arith, fits))
  elements_admit goes_on items is fits m = tt
  elements_admit (each c) items is fits m = each_of_items (Admits c) (Refuses c) (λ d one a. admits c d one a) items is m
  elements_admit (element c es) documents.no_items is fits m = absurd (none_wanted (count_of_elements es) (is_open_list es) fits)
  elements_admit (element c es) (documents.item d items) is fits m = (admits c d is.0 m.0, elements_admit es items is.1 (one_less (count_of_elements es) (length_of items) (is_open_list es) fits) m.1)

pub exact : IsExactOnTables
exact c d is = (meets c d is, admits c d is)
