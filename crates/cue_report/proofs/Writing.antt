-- The tokens of a document, written one part after the other.
use Rattle.std.proofs.Common.{◌≡◌, ℕ, ◌+◌, ◌<◌, true, false, Option, Some, None, List, [], ◌∷◌, ◌++◌, Result, Ok, Err, OnOk, OnErr, refl, sym, ap, subst, ◌∙◌, append_assoc, append-nil}
use Rattle.std.specs.Io.KnownBytes.{Appends}
use Rattle.json.specs.Print.{print_from}
use Rattle.json.specs.Token.{Token}
use Rattle.json.specs.Tree.{json_tokens, items_tokens, members_tokens}
use Rattle.serde_json.specs.Data.{Data, null, array, object, Items, no_items, item, Members, no_members, member}
use Rattle.serde_json.specs.Written.{outline, items_outline, members_outline}
use Rattle.cue_device.specs.Texts.{WritesPrefix}
use Rattle.cue_lattice.specs.Path as paths
use Rattle.cue_lattice.specs.Path.{label, index}
use Rattle.cue_row.specs.declared.parts.RowParts.{RowParts as Row}
use Rattle.cue_table.specs.Tree.{Tree, Children, row_of, step_into, children_of}
use Rattle.serde_json.specs.Data.{put}
use Rattle.serde_json.specs.Written.{compact_text}
use Rattle.serde_json.proofs.Texts.{print-outline}
use Rattle.cue_report.specs.Inner.GapSearch.{AtPlace}
use Rattle.cue_report.specs.Gaps.{IsFreeRow}
use Rattle.cue_report.specs.Inner.Search.{is_demanded, least_at}
use Rattle.cue_report.specs.Inner.Writing.{WritesJson, WritesDocument, WritesElements, WritesMembers, WritesScalar}
use Rattle.cue_report.specs.Stream.{Flow, WritesTokens, WritesTokensPrefix}
use Rattle.cue_report.proofs.Descent.{Told}
use Rattle.cue_report.proofs.DocumentMembers.{with_member, IsGathered, taken_label, put_behind}
use Rattle.cue_report.proofs.Documents.{with_item, IsCounted, counted_next, counted_null, object_shape, array_shape, only_scalars}
use Rattle.cue_report.proofs.Flows.{streams_then}

-- the tokens without the closing bracket
abbrev pub open_items : Items → List Token
open_items no_items = []
open_items (item json items) = json_tokens (outline json) ++ open_items items

abbrev pub open_members : Members → List Token
open_members no_members = []
open_members (member key json members) = Token.key key ∷ (json_tokens (outline json) ++ open_members members)

pub closed_items : (items : Items) → items_tokens (items_outline items) ≡ open_items items ++ Token.end_array ∷ []
closed_items no_items = refl
closed_items (item json items) =
    ap (λ ts. json_tokens (outline json) ++ ts) (closed_items items) ∙ sym (append_assoc (json_tokens (outline json)) (open_items items) (Token.end_array ∷ []))

pub closed_members : (members : Members) → members_tokens (members_outline members) ≡ open_members members ++ Token.end_object ∷ []
closed_members no_members = refl
closed_members (member key json members) =
    ap (λ ts. Token.key key ∷ (json_tokens (outline json) ++ ts)) (closed_members members)
    ∙ ap (λ ts. Token.key key ∷ ts) (sym (append_assoc (json_tokens (outline json)) (open_members members) (Token.end_object ∷ [])))

more_items : (items : Items) (json : Data) → open_items (with_item items json) ≡ open_items items ++ json_tokens (outline json)
more_items no_items json = append-nil (json_tokens (outline json))
more_items (item first items) json =
    ap (λ ts. json_tokens (outline first) ++ ts) (more_items items json) ∙ sym (append_assoc (json_tokens (outline first)) (open_items items) (json_tokens (outline json)))

pub more_members : (members : Members) (key : List ℕ) (json : Data)
    → open_members (with_member members key json) ≡ open_members members ++ Token.key key ∷ json_tokens (outline json)
more_members no_members key json = ap (λ ts. Token.key key ∷ ts) (append-nil (json_tokens (outline json)))
more_members (member first here members) key json =
    ap (λ ts. Token.key first ∷ (json_tokens (outline here) ++ ts)) (more_members members key json)
    ∙ ap (λ ts. Token.key first ∷ ts) (sym (append_assoc (json_tokens (outline here)) (open_members members) (Token.key key ∷ json_tokens (outline json))))

-- what is told of a list and of an object so far
abbrev pub HasItems : Flow → Flow → Items → Type 0
HasItems old now items = WritesTokens old now (Token.begin_array ∷ open_items items)

abbrev pub HasMembers : Flow → Flow → Members → Type 0
HasMembers old now members = WritesTokens old now (Token.begin_object ∷ open_members members)

pub adds_item : (old now after : Flow) (items : Items) (json : Data) → HasItems old now items → WritesJson now after json → HasItems old after (with_item items json)
adds_item old now after items json h a =
    subst (λ ts. WritesTokens old after (Token.begin_array ∷ ts)) (sym (more_items items json)) (streams_then old now after (Token.begin_array ∷ open_items items) (json_tokens (outline json)) h a)

pub adds_member : (old now keyed after : Flow) (members : Members) (key : List ℕ) (json : Data) → HasMembers old now members → WritesTokens now keyed (Token.key key ∷ []) → WritesJson keyed after json
    → HasMembers old after (with_member members key json)
adds_member old now keyed after members key json h k a =
    subst (λ ts. WritesTokens old after (Token.begin_object ∷ ts)) (sym (more_members members key json))
    (streams_then old now after (Token.begin_object ∷ open_members members) (Token.key key ∷ json_tokens (outline json)) h (streams_then now keyed after (Token.key key ∷ []) (json_tokens (outline json)) k a))

pub ends_items : (old now after : Flow) (items : Items) → HasItems old now items → WritesTokens now after (Token.end_array ∷ []) → WritesJson old after (array items)
ends_items old now after items h e =
    subst (λ ts. WritesTokens old after (Token.begin_array ∷ ts)) (sym (closed_items items)) (streams_then old now after (Token.begin_array ∷ open_items items) (Token.end_array ∷ []) h e)

pub ends_members : (old now after : Flow) (members : Members) → HasMembers old now members → WritesTokens now after (Token.end_object ∷ []) → WritesJson old after (object members)
ends_members old now after members h e =
    subst (λ ts. WritesTokens old after (Token.begin_object ∷ ts)) (sym (closed_members members)) (streams_then old now after (Token.begin_object ∷ open_members members) (Token.end_object ∷ []) h e)

-- ---- the parts of a place

pub on_ok : {T E A B : Type 0} (r : Result T E) → (A → B) → OnOk r A → OnOk r B
on_ok (Ok t) f a = f a
on_ok (Err e) f a = tt

pub on_err : {T E A B : Type 0} (r : Result T E) → (A → B) → OnErr r A → OnErr r B
on_err (Ok t) f a = tt
on_err (Err e) f a = f a

pub on_any : {T E A : Type 0} (r : Result T E) → A → OnErr r A
on_any (Ok t) a = tt
on_any (Err e) a = a

pub adds_object : (tree : Tree Row) (row : Row) (old new : Flow) → row_of tree ≡ Some row → row.struct_ok ≡ true → (¬ IsFreeRow (AtPlace (Some row)) [])
    → WritesMembers (Told tree) old new → WritesDocument (Told tree) old new
adds_object tree row old new e s n m = (object m.members, m.adds, (object_shape tree row m.members e s n m.keys_are m.documents, m.no_float))

pub adds_array : (tree : Tree Row) (row : Row) (old new : Flow) → row_of tree ≡ Some row → row.struct_ok ≡ false → row.list_ok ≡ true
    → WritesElements (Told tree) (least_at (row_of tree)) old new → WritesDocument (Told tree) old new
adds_array tree row old new e s l m = (array m.items, m.adds, (array_shape tree row m.items e s l m.length m.documents, m.no_float))

pub adds_scalar : (tree : Tree Row) (row : Row) (old new : Flow) → row_of tree ≡ Some row → row.struct_ok ≡ false → row.list_ok ≡ false
    → WritesScalar (AtPlace (Some row)) old new → WritesDocument (Told tree) old new
adds_scalar tree row old new e s l m = (m.json, m.adds, (only_scalars tree row m.json e s l m.picked, m.no_float))

-- what is written of the elements before a number, and of the members before what is left
abbrev pub AreItemsSoFar : Tree Row → ℕ → Flow → Flow → Type 0
AreItemsSoFar tree n old now = (items : Items) × HasItems old now items × IsCounted tree n items

abbrev pub AreMembersSoFar : Tree Row → Children Row → Flow → Flow → Type 0
AreMembersSoFar tree rest old now = (members : Members) × HasMembers old now members × IsGathered tree rest members

pub next_item : (tree inner : Tree Row) (n : ℕ) (old now after : Flow) → AreItemsSoFar tree n old now
    → step_into tree (index n) ≡ Some inner → n < least_at (row_of tree) → WritesDocument (Told inner) now after → AreItemsSoFar tree (n + 1) old after
next_item tree inner n old now after so_far f below_end d = (
  with_item so_far.0 d.0,
  adds_item old now after so_far.0 d.0 so_far.1 d.1,
  counted_next tree inner n so_far.0 d.0 so_far.2 f below_end d.2.0 d.2.1,
)

pub next_null : (tree : Tree Row) (n : ℕ) (old now after : Flow) → AreItemsSoFar tree n old now
    → step_into tree (index n) ≡ None → WritesJson now after null → AreItemsSoFar tree (n + 1) old after
next_null tree n old now after so_far f a = (
  with_item so_far.0 null,
  adds_item old now after so_far.0 null so_far.1 a,
  counted_null tree n so_far.0 so_far.2 f,
)

pub next_member : (tree here : Tree Row) (step : paths.Step) (key : List ℕ) (rest rest' : Children Row) (old now keyed after : Flow) → AreMembersSoFar tree rest old now
    → children_of rest ≡ (step, here) ∷ children_of rest' → step ≡ label key → is_demanded (row_of tree) step (row_of here) ≡ true
    → WritesTokens now keyed (Token.key key ∷ []) → WritesDocument (Told here) keyed after
    → AreMembersSoFar tree rest' old after
next_member tree here step key rest rest' old now keyed after so_far c s asked k d = (
  put key d.0 so_far.0,
  subst (HasMembers old after) (sym (put_behind tree here step key rest rest' so_far.0 d.0 so_far.2 c s)) (adds_member old now keyed after so_far.0 key d.0 so_far.1 k d.1),
  taken_label tree here step key key rest rest' so_far.0 (put key d.0 so_far.0) d.0 so_far.2 c s asked refl refl d.2.0 d.2.1,
)

text_alone : (old : Flow) (json : Data) → old.stream.pending ≡ [] → old.stream.owes ≡ false → old.stream.pending ++ print_from old.stream.owes (json_tokens (outline json)) ≡ compact_text json
text_alone old json pending owes = (λ i. pending i ++ print_from (owes i) (json_tokens (outline json))) ∙ print-outline json

-- the text of a document that is told alone, and of which nothing is pending
pub text_put : (old new : Flow) (json : Data) → old.stream.pending ≡ [] → old.stream.owes ≡ false → new.stream.pending ≡ [] → WritesJson old new json → Appends old.known new.known (compact_text json)
text_put old new json pending owes none a =
    subst (Appends old.known new.known) (sym (append-nil a.put) ∙ ap (λ t. a.put ++ t) (sym none) ∙ sym a.whole ∙ text_alone old json pending owes) a.known

-- so is its text where its front was put
pub text_begun : (old : Flow) (known : Option (List ℕ)) (json : Data) → old.stream.pending ≡ [] → old.stream.owes ≡ false → WritesTokensPrefix old known (json_tokens (outline json)) → WritesPrefix old.known known (compact_text json)
text_begun old known json pending owes b = subst (WritesPrefix old.known known) (text_alone old json pending owes) b
