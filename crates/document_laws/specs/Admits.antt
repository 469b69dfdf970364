-- Which documents an expression admits: by cases on the expression and the document, without paths
-- and questions. Of what is said of refusals only the pairs of scalars are used here.
use Rattle.std.specs.Prelude.{◌≡◌, ◌↔◌, ℕ, true, List, [], ◌∷◌}
use Rattle.cue_lattice.specs.Document as documents
use Rattle.cue_lattice.specs.Document.{Document, IsDocument, HasMember}
use Rattle.cue_lattice.specs.Meets.{Meets}
use Rattle.cue_scalars.specs.Pairs.{ScalarMembers}
use Rattle.cue_syntax.specs.declared.tree.Mark.{Mark}
use Rattle.cue_syntax.specs.declared.tree.Mark.TheVariants.{Regular, Optional, Required}
use Rattle.cue_syntax.specs.Syntax.{Entries}
use Rattle.cue_scope.specs.Core.{Core, top, conjunction, struct, close, list, closed, Cores}
use Rattle.cue_scope.specs.Core.{no_cores, core, Elements, ends, goes_on, each, element, Members}
use Rattle.cue_scope.specs.Core.{no_members, member, dots}
use Rattle.cue_scope.specs.Meaning.{meant_text}
use Rattle.cue_eval.specs.Pairs.{pair}
use Rattle.cue_eval.specs.Refuses.{Refuses}
use Rattle.document_laws.specs.Conjuncts.{conjuncts, DeclaresLabel, Within}

-- a scalar of the set
abbrev pub IsScalarIn : ScalarMembers → Document → Type 0
IsScalarIn value (documents.scalar x) = value x ≡ true
IsScalarIn value (documents.list items) = ⊥
IsScalarIn value (documents.map _) = ⊥

-- a map of which P holds
abbrev pub IsMapDocument : (documents.Members → Type 0) → Document → Type 0
IsMapDocument P (documents.scalar x) = ⊥
IsMapDocument P (documents.list items) = ⊥
IsMapDocument P (documents.map members) = P members

-- a list of which P holds
abbrev pub IsListDocument : (documents.Items → Type 0) → Document → Type 0
IsListDocument P (documents.scalar x) = ⊥
IsListDocument P (documents.list items) = P items
IsListDocument P (documents.map _) = ⊥

-- a field that is declared without `?` is there
abbrev pub IsPresent : Mark → Type 0 → Type 0
IsPresent Optional there = Unit {0}
IsPresent Required there = there
IsPresent Regular there = there

-- each member with this label holds a document of which P holds
abbrev pub EachAt : (Document → Type 0) → List ℕ → documents.Members → Type 0
EachAt P l documents.no_members = Unit {0}
EachAt P l (documents.member k d members) = (k ≡ l → P d) × EachAt P l members

-- each of these documents is so
abbrev pub EachItem : (Document → Type 0) → documents.Items → Type 0
EachItem P documents.no_items = Unit {0}
EachItem P (documents.item d items) = P d × EachItem P items

-- a struct literal declares each label, unless it wrote a `...`
abbrev pub AllDeclared : Members → documents.Members → Type 0
AllDeclared ms documents.no_members = Unit {0}
AllDeclared ms (documents.member l d members) = DeclaresLabel (ms ∷ []) l × AllDeclared ms members

abbrev mutual
  pub Admits : Core → Document → Type 0
  Admits top d = Unit {0}
  Admits (conjunction cs) d = AllAdmit cs d
  Admits (struct ms) d = IsMapDocument (FieldsAdmit ms) d
  Admits (list es) d = IsListDocument (ElementsAdmit es) d
  -- `close` closes its own place alone
  Admits (close ms) d = IsMapDocument (λ members. FieldsAdmit ms members × AllDeclared ms members) d
  -- a definition is closed wherever its body writes a struct
  Admits (closed c) d = Admits c d × Within (conjuncts c) d
  -- all else is scalar
  Admits c d = IsScalarIn (pair c).value d

  -- `a & b` admits what both admit
  pub AllAdmit : Cores → Document → Type 0
  AllAdmit no_cores d = Unit {0}
  AllAdmit (core c cs) d = Admits c d × AllAdmit cs d

  -- each label that is declared without `?` is there, and what is there is admitted
  pub FieldsAdmit : Members → documents.Members → Type 0
  FieldsAdmit no_members _ = Unit {0}
  FieldsAdmit (member l mark c ms) members =
      IsPresent mark (HasMember l members) × EachAt (Admits c) l members × FieldsAdmit ms members
  FieldsAdmit (dots ms) members = FieldsAdmit ms members

  -- for each element that is written an item stands, which it admits; behind the last none stands
  -- where the list ends, any where it goes on, and such as are written of each further one
  pub ElementsAdmit : Elements → documents.Items → Type 0
  ElementsAdmit ends documents.no_items = Unit {0}
  ElementsAdmit ends (documents.item d items) = ⊥
  ElementsAdmit goes_on items = Unit {0}
  ElementsAdmit (each c) items = EachItem (Admits c) items
  ElementsAdmit (element c es) documents.no_items = ⊥
  ElementsAdmit (element c es) (documents.item d items) = Admits c d × ElementsAdmit es items

-- a text admits what the struct of its regular declarations admits
abbrev pub table_admits : Entries → Document → Type 0
table_admits es = Admits (meant_text es)

-- An expression admits exactly the documents that meet what it refuses.
abbrev pub IsExactOnTables : Type 0
IsExactOnTables = (c : Core) (d : Document) → IsDocument d → Admits c d ↔ Meets (Refuses c) d
