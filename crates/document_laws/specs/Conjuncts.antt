-- What the parts of an expression write at each place, and which labels they declare there
-- together. A definition's body is closed by it: it admits no document with a label that its parts
-- don't declare.
use Rattle.std.specs.Prelude.{◌≡◌, ◌⊎◌, ℕ, zero, suc, cond, List, [], ◌∷◌, ◌++◌}
use Rattle.std.specs.Str.{bytes_eq}
use Rattle.cue_lattice.specs.Document as documents
use Rattle.cue_lattice.specs.Document.{Document}
use Rattle.cue_scope.specs.Core.{Core, conjunction, struct, close, list, closed, Cores, no_cores}
use Rattle.cue_scope.specs.Core.{core, Elements, ends, goes_on, each, element, Members}
use Rattle.cue_scope.specs.Core.{no_members, member, dots}

-- a struct literal with its declarations, or a list literal with its elements
pub data LiteralPart : Type 0 where
  fields : Members → LiteralPart
  elements : Elements → LiteralPart

-- the literals that are the parts of an expression, taken apart through `&`, definitions and
-- `close`
abbrev mutual
  pub conjuncts : Core → List LiteralPart
  conjuncts (conjunction cs) = conjuncts_of cs
  conjuncts (struct ms) = fields ms ∷ []
  conjuncts (close ms) = fields ms ∷ []
  conjuncts (list es) = elements es ∷ []
  conjuncts (closed c) = conjuncts c
  conjuncts _ = []

  pub conjuncts_of : Cores → List LiteralPart
  conjuncts_of no_cores = []
  conjuncts_of (core c cs) = conjuncts c ++ conjuncts_of cs

-- the parts of all values that a struct literal declares for a label
abbrev pub parts_of_label : Members → List ℕ → List LiteralPart
parts_of_label no_members l = []
parts_of_label (member k mark c ms) l = cond (bytes_eq k l) (conjuncts c) [] ++ parts_of_label ms l
parts_of_label (dots ms) l = parts_of_label ms l

-- the parts of the value that a list literal writes at an index: that of its own element, or of
-- each further one
abbrev pub parts_of_index : Elements → ℕ → List LiteralPart
parts_of_index ends i = []
parts_of_index goes_on i = []
parts_of_index (each c) i = conjuncts c
parts_of_index (element c es) zero = conjuncts c
parts_of_index (element c es) (suc i) = parts_of_index es i

-- the parts at a label, and at an index, of all these parts
abbrev pub field_parts : List LiteralPart → List ℕ → List LiteralPart
field_parts [] l = []
field_parts (fields ms ∷ parts) l = parts_of_label ms l ++ field_parts parts l
field_parts (elements es ∷ parts) l = field_parts parts l

abbrev pub item_parts : List LiteralPart → ℕ → List LiteralPart
item_parts [] i = []
item_parts (fields ms ∷ parts) i = item_parts parts i
item_parts (elements es ∷ parts) i = parts_of_index es i ++ item_parts parts i

-- the struct literals among parts
abbrev pub structs : List LiteralPart → List Members
structs [] = []
structs (fields ms ∷ parts) = ms ∷ structs parts
structs (elements es ∷ parts) = structs parts

-- one of the declarations of a struct literal is of this label, whatever its mark
abbrev pub IsDeclaredIn : List ℕ → Members → Type 0
IsDeclaredIn l no_members = ⊥
IsDeclaredIn l (member k mark c ms) = (k ≡ l) ⊎ IsDeclaredIn l ms
IsDeclaredIn l (dots ms) = IsDeclaredIn l ms

-- a struct literal wrote a `...` somewhere among its declarations
abbrev pub HasDots : Members → Type 0
HasDots no_members = ⊥
HasDots (member k mark c ms) = HasDots ms
HasDots (dots ms) = Unit {0}

-- one of these struct literals is so
abbrev pub OneIs : (Members → Type 0) → List Members → Type 0
OneIs P [] = ⊥
OneIs P (ms ∷ literals) = P ms ⊎ OneIs P literals

-- where struct literals stand, one of them declares the label, or one wrote a `...`
abbrev pub DeclaresLabel : List Members → List ℕ → Type 0
DeclaresLabel [] l = Unit {0}
DeclaresLabel (ms ∷ literals) l = OneIs (IsDeclaredIn l) (ms ∷ literals) ⊎ OneIs HasDots (ms ∷ literals)

-- at each place of a document the parts there declare the labels
abbrev mutual
  pub Within : List LiteralPart → Document → Type 0
  Within parts (documents.scalar x) = Unit {0}
  Within parts (documents.list items) = ItemsWithin (item_parts parts) items
  Within parts (documents.map members) = MembersWithin parts members

  pub ItemsWithin : (ℕ → List LiteralPart) → documents.Items → Type 0
  ItemsWithin parts documents.no_items = Unit {0}
  ItemsWithin parts (documents.item d items) =
      Within (parts 0) d × ItemsWithin (λ i. parts (suc i)) items

  pub MembersWithin : List LiteralPart → documents.Members → Type 0
  MembersWithin parts documents.no_members = Unit {0}
  MembersWithin parts (documents.member l d members) =
      DeclaresLabel (structs parts) l × Within (field_parts parts l) d × MembersWithin parts members
