-- What a configuration is in the end: a document. It is a scalar, a list of documents, or a finite
-- map from texts to documents. A map is written as its members in the order of their labels, each
-- label once.
use Rattle.std.specs.Prelude.{◌≡◌, ◌⊎◌, ◌+◌, ℕ, List}
use Rattle.std.specs.Ordering.{nat_cmp}
use Rattle.std.specs.Str.{IsUtf8}
use Rattle.std.specs.Cmp.Lexicographic.{slice_cmp}
use Rattle.std.specs.declared.cmp.Ordering.TheVariants.{Less}
use Rattle.cue_lattice.specs.declared.scalar.Scalar.{Scalar}
use Rattle.cue_lattice.specs.declared.scalar.Scalar.TheVariants as scalars
use Rattle.cue_lattice.specs.Scalar.{IsScalar}

mutual
  pub data Document : Type 0 where
    scalar : Scalar → Document
    list : Items → Document
    map : Members → Document

  pub data Items : Type 0 where
    no_items : Items
    item : Document → Items → Items

  pub data Members : Type 0 where
    no_members : Members
    member : List ℕ → Document → Members → Members

-- how many elements a list has
abbrev pub length_of : Items → ℕ
length_of no_items = 0
length_of (item document items) = length_of items + 1

-- a member has this label
abbrev pub HasMember : List ℕ → Members → Type 0
HasMember label no_members = ⊥
HasMember label (member next document members) = (next ≡ label) ⊎ HasMember label members

-- the label is less than the first of the members, by bytes
abbrev pub IsPathBefore : List ℕ → Members → Type 0
IsPathBefore label no_members = Unit {0}
IsPathBefore label (member next _ _) = slice_cmp nat_cmp label next ≡ Less

-- a text is in UTF-8
abbrev pub IsReadable : Scalar → Type 0
IsReadable (scalars.Text text) = IsUtf8 text
IsReadable _ = Unit {0}

-- The scalars are scalars of the language, texts and labels are in UTF-8, and the labels of each
-- map rise.
abbrev mutual
  pub IsDocument : Document → Type 0
  IsDocument (scalar x) = IsScalar x × IsReadable x
  IsDocument (list items) = AreItems items
  IsDocument (map members) = AreMembers members

  pub AreItems : Items → Type 0
  AreItems no_items = Unit {0}
  AreItems (item document items) = IsDocument document × AreItems items

  pub AreMembers : Members → Type 0
  AreMembers no_members = Unit {0}
  AreMembers (member label document members) =
      IsUtf8 label × IsPathBefore label members × IsDocument document × AreMembers members
