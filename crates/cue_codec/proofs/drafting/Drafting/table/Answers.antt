use Rattle.std.proofs.Common.{◌≡◌, Option, Some, None, IfSome, IfNone, refl, inr, sym, ap, subst, ◌∙◌}
use Rattle.std.proofs.lemmas.Bool.{false≢true}
use Rattle.cue_codec.specs.Decoding.{AreReadRows, NoRows}
use Rattle.cue_codec.specs.Inner.Drafting.{RowsRead, rows_bytes, rows_in}
use Rattle.cue_codec.proofs.Drafted.{all_drafted}
use Rattle.cue_codec.proofs.ReadStates.{rows_unfinished, rows_untold, rows_finished}
use Rattle.cue_codec.proofs.drafting.Drafting.table.Goals as goal

none_is : {A : Type 0} (found : Option A) (P : Type 0) → found ≡ None → IfNone found P → P
none_is found P is h = subst (λ o. IfNone o P) is h

some_is : {A : Type 0} (P : A → Type 0) (found : Option A) (x : A) → found ≡ Some x → IfSome found P → P x
some_is P found x is h = subst (λ o. IfSome o P) is h

pub returns-in-Ok-None-clause-refused : goal.returns-in-Ok-None-clause-refused
returns-in-Ok-None-clause-refused c =
    let i = c.self.inside in
    let items = i.indexes.items in
    let full : i.left ≡ 0 = subst (λ (v : RowsRead). v.left ≡ 0) (sym c.self.view_is) c.requires in
    let drafted = all_drafted i.version i.count i.left (rows_in i.draft) items i.known full c.self.invariant.read in
    inr (refl, subst (λ (v : RowsRead). NoRows v.version v.count v.bytes) c.self.view_is (rows_unfinished i.version (rows_bytes i.version (rows_in i.draft) items) i.count (rows_in i.draft) items drafted (λ table k e. none_is c.in-Ok-None.field-0 _ c.in-Ok-None.field-0-is c.in-Ok-None.ensures.none table k (ap Some e ∙ sym c.self.invariant.goes_on))))

pub returns-then-not-has_indexes-clause-refused : goal.returns-then-not-has_indexes-clause-refused
returns-then-not-has_indexes-clause-refused c =
    let i = c.self.inside in
    let items = i.indexes.items in
    let full : i.left ≡ 0 = subst (λ (v : RowsRead). v.left ≡ 0) (sym c.self.view_is) c.requires in
    let drafted = all_drafted i.version i.count i.left (rows_in i.draft) items i.known full c.self.invariant.read in
    inr (
      refl,
      subst (λ (v : RowsRead). NoRows v.version v.count v.bytes) c.self.view_is
          (rows_untold i.version (rows_bytes i.version (rows_in i.draft) items) i.count (rows_in i.draft) items c.in-Ok-Some.table drafted (some_is _ c.in-Ok-Some.field-0 c.in-Ok-Some.table c.in-Ok-Some.field-0-is c.in-Ok-Some.ensures.form) (ap rows_in (some_is _ c.in-Ok-Some.field-0 c.in-Ok-Some.table c.in-Ok-Some.field-0-is c.in-Ok-Some.ensures.rows)) (λ told. false≢true (sym c.if-not-has_indexes.true ∙ c.has_indexes.ensures.1 (c.as_slice.ensures.value ∙ told)))),
    )

pub returns-clause-ok : goal.returns-clause-ok
returns-clause-ok c =
    let i = c.self.inside in
    let items = i.indexes.items in
    let full : i.left ≡ 0 = subst (λ (v : RowsRead). v.left ≡ 0) (sym c.self.view_is) c.requires in
    let drafted = all_drafted i.version i.count i.left (rows_in i.draft) items i.known full c.self.invariant.read in
    subst (λ (v : RowsRead). AreReadRows v.version v.count v.bytes c.in-Ok-Some.table) c.self.view_is
    (rows_finished i.version (rows_bytes i.version (rows_in i.draft) items) i.count (rows_in i.draft) items c.in-Ok-Some.table drafted (some_is _ c.in-Ok-Some.field-0 c.in-Ok-Some.table c.in-Ok-Some.field-0-is c.in-Ok-Some.ensures.form) (ap rows_in (some_is _ c.in-Ok-Some.field-0 c.in-Ok-Some.table c.in-Ok-Some.field-0-is c.in-Ok-Some.ensures.rows)) (sym c.as_slice.ensures.value ∙ c.has_indexes.ensures.0 c.if-not-has_indexes.false))
