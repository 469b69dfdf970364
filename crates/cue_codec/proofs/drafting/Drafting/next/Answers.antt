use Rattle.std.proofs.Common.{◌≡◌, ◌-◌, ◌<◌, [], ◌∷◌, ◌++◌, length, refl, sym, ap, subst, ◌∙◌, inr, arith}
use Rattle.std.specs.Prelude.{slice_set}
use Rattle.std.proofs.lemmas.List.{length-map, length-set}
use Rattle.cue_table.specs.SlotsOfCode.{slot_of}
use Rattle.cue_codec.specs.Known.{known_with}
use Rattle.cue_codec.specs.Reading.{ReadsNoItem}
use Rattle.cue_codec.specs.RowBytes.{row_bytes, IsStateRow}
use Rattle.cue_codec.specs.Inner.Reading.{IsNoneRead}
use Rattle.cue_codec.specs.Inner.Drafting.{RowsRead, rows_bytes, rows_in, IsNext, NoneNext, IsNoRowsPrefix}
use Rattle.cue_codec.proofs.Codes.{refused_so}
use Rattle.cue_codec.proofs.Drafted.{next_missing, next_never, next_unordered, next_ok, next_drafting}
use Rattle.cue_codec.proofs.KnownPlaces.{known_set}
use Rattle.cue_codec.proofs.drafting.Drafting.next.Goals as goal

pub returns-in-Cut-clause-ok : goal.returns-in-Cut-clause-ok
returns-in-Cut-clause-ok c =
    let i = c.self.inside in
    let some : 0 < i.left = subst (λ (v : RowsRead). 0 < v.left) (sym c.self.view_is) c.requires in
    let none = subst (λ why. IsNoneRead why (ReadsNoItem (IsStateRow i.version) (row_bytes i.version)) c.args.reader.now) c.in-Cut.is c.in-Err.ensures.refused in (
      c.self.view_is,
      c.in-Err.ensures.unchanged,
      subst (λ (v : RowsRead). NoneNext v c.args.reader.now) c.self.view_is
          (next_missing i.version i.count i.left (rows_in i.draft) i.indexes.items i.known c.self.invariant.read some c.args.reader.now none),
    )

pub returns-in-Wrong-clause-refused : goal.returns-in-Wrong-clause-refused
returns-in-Wrong-clause-refused c =
    let i = c.self.inside in
    let some : 0 < i.left = subst (λ (v : RowsRead). 0 < v.left) (sym c.self.view_is) c.requires in
    let none = subst (λ why. IsNoneRead why (ReadsNoItem (IsStateRow i.version) (row_bytes i.version)) c.args.reader.now) c.in-Wrong.is c.in-Err.ensures.refused in
    inr (
      refl,
      subst (λ (v : RowsRead). IsNoRowsPrefix v.version v.count (v.bytes ++ c.args.reader.now)) c.self.view_is
          (next_never i.version i.count i.left (rows_in i.draft) i.indexes.items i.known c.self.invariant.read some c.args.reader.now none),
    )

pub append-requires : goal.append-requires
append-requires c = c.self.invariant.goes_on

pub returns-in-Err-append-clause-refused : goal.returns-in-Err-append-clause-refused
returns-in-Err-append-clause-refused c =
    let i = c.self.inside in
    let x = c.in-Ok.row in
    let some : 0 < i.left = subst (λ (v : RowsRead). 0 < v.left) (sym c.self.view_is) c.requires in
    refused_so c.in-Err-append.kind _ _
    (λ none. subst (λ (v : RowsRead). IsNoRowsPrefix v.version v.count (v.bytes ++ c.args.reader.now)) c.self.view_is
    (next_unordered i.version i.count i.left (rows_in i.draft) i.indexes.items i.known c.self.invariant.read c.args.reader.now c.read.new.self x.0 x.1 x.2 some c.in-Ok.ensures.ok c.in-Ok.ensures.numbers none))
    c.in-Err-append.ensures.refused

pub invariant_of-self-2 : goal.invariant_of-self-2
invariant_of-self-2 c =
    let i = c.self.inside in
    let x = c.in-Ok.row in
    let items = c.push_reserved.ensures.items ∙ ap (λ t. t ++ x.1 ∷ []) c.in-Ok-reserve.ensures.items in
    let some : 0 < i.left = subst (λ (v : RowsRead). 0 < v.left) (sym c.self.view_is) c.requires in
    let is = c.in_default-append.ensures.ok in
    let long : length c.slots.result.now ≡ length x.0 = sym (length-map c.slots.result.now slot_of) ∙ ap length c.slots.ensures.list in
    let same : slice_set i.known (length c.slots.result.now) x.1 ≡ known_with i.known (length x.0) x.1 =
    ap (λ n. slice_set i.known n x.1) long ∙ sym (known_set i.known (length x.0) x.1 (omega (arith, c.self.invariant.deep, c.slots.ensures.few, long))) in
    next_drafting i.version i.count i.left (rows_in i.draft) i.indexes.items i.known c.self.invariant.read c.args.reader.now c.read.new.self c.append.new.draft x.0 x.1 x.2 c.push_reserved.new.self.items
    (slice_set i.known (length c.slots.result.now) x.1) items same (length-set i.known (length c.slots.result.now) x.1 ∙ c.self.invariant.deep) some c.in-Ok.ensures.ok c.in-Ok.ensures.numbers is

pub returns-clause-ok : goal.returns-clause-ok
returns-clause-ok c =
    let i = c.self.inside in
    let x = c.in-Ok.row in
    let items = c.push_reserved.ensures.items ∙ ap (λ t. t ++ x.1 ∷ []) c.in-Ok-reserve.ensures.items in
    let some : 0 < i.left = subst (λ (v : RowsRead). 0 < v.left) (sym c.self.view_is) c.requires in
    let is = c.in_default-append.ensures.ok in
    let new : RowsRead = record { version = i.version; count = i.count; left = i.left - 1; bytes = rows_bytes i.version (rows_in c.append.new.draft) c.push_reserved.new.self.items } in
    subst (λ (v : RowsRead). IsNext v c.args.reader.now new c.read.new.self) c.self.view_is
    (next_ok i.version i.count i.left (rows_in i.draft) i.indexes.items i.known c.self.invariant.read c.args.reader.now c.read.new.self (rows_in c.append.new.draft) x.0 x.1 x.2 c.push_reserved.new.self.items items some c.in-Ok.ensures.ok c.in-Ok.ensures.numbers (ap rows_in is))
