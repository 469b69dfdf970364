-- What more and what two refusals do to the documents that meet them.
use Rattle.std.proofs.Common.{◌↔◌, ◌⊎◌, inl, inr, ⊎_elim, ℕ, suc, List, [], ◌∷◌}
use Rattle.std.specs.List.{AllByRecursion}
use Rattle.cue_lattice.specs.Path.{Path, label, index}
use Rattle.cue_lattice.specs.Question as questions
use Rattle.cue_lattice.specs.Question.{Refusals, Question, OneRefuses, SameAnswers, may_be, struct, allows, level_at_most, length_at_most, length_at_least}
use Rattle.cue_lattice.specs.Inner.Question.{Open}
use Rattle.cue_lattice.specs.Document.{Document, scalar, list, map, Items, no_items, item, Members, no_members, member, length_of, IsDocument}
use Rattle.cue_lattice.specs.Meets.{Meets, ItemsMeet, MembersMeet, at_label, at_index}
use Rattle.cue_lattice.specs.World.{Meaning, Piece, IsExactOnDocuments, IsAdmitted, piece_admits, piece_refuses, pieces_refuse}
use Rattle.cue_lattice.specs.World as world

-- one of both refuses
abbrev pub Either : Refusals → Refusals → Refusals
Either r s path question = r path question ⊎ s path question

-- where a thing of which P holds refuses
abbrev pub Some : {X : Type 0} → (X → Type 0) → (X → Refusals) → Refusals
Some {X} P r path question = (x : X) × P x × r x path question

mutual
  -- where less is refused, what met more meets it
  pub less : (r s : Refusals) → ((path : Path) (question : Question) → s path question → r path question) → (d : Document) → Meets r d → Meets s d
  less r s h (scalar x) m = λ g. m (h [] (may_be x) g)
  less r s h (list items) m = (
    λ g. m.0 (h [] questions.list g),
    λ g. m.1 (h [] (length_at_most (length_of items)) g),
    λ g. m.2 (h [] (length_at_least (length_of items)) g),
    items_less (at_index r) (at_index s) (λ i path q g. h (index i ∷ path) q g) items m.3,
  )
  less r s h (map ms) m = (λ g. m.0 (h [] struct g), λ l g. m.1 l (h (label l ∷ []) (level_at_most 0) g), members_less r s h ms m.2)

  pub items_less : (r s : ℕ → Refusals) → ((i : ℕ) (path : Path) (question : Question) → s i path question → r i path question) → (items : Items) → ItemsMeet r items → ItemsMeet s items
  items_less r s h no_items m = tt
  items_less r s h (item d items) m = (less (r 0) (s 0) (h 0) d m.0, items_less (λ i. r (suc i)) (λ i. s (suc i)) (λ i. h (suc i)) items m.1)

  pub members_less : (r s : Refusals) → ((path : Path) (question : Question) → s path question → r path question) → (ms : Members) → MembersMeet r ms → MembersMeet s ms
  members_less r s h no_members m = tt
  members_less r s h (member l d ms) m = (λ g. m.0 (h [] (allows l) g), less (at_label r l) (at_label s l) (λ path q g. h (label l ∷ path) q g) d m.1, members_less r s h ms m.2)

mutual
  -- what meets both meets them together
  pub both : (r s : Refusals) (d : Document) → Meets r d → Meets s d → Meets (Either r s) d
  both r s (scalar x) m n = λ g. ⊎_elim m n g
  both r s (list items) m n = (λ g. ⊎_elim m.0 n.0 g, λ g. ⊎_elim m.1 n.1 g, λ g. ⊎_elim m.2 n.2 g, items_both (at_index r) (at_index s) items m.3 n.3)
  both r s (map ms) m n = (λ g. ⊎_elim m.0 n.0 g, λ l g. ⊎_elim (m.1 l) (n.1 l) g, members_both r s ms m.2 n.2)

  pub items_both : (r s : ℕ → Refusals) (items : Items) → ItemsMeet r items → ItemsMeet s items → ItemsMeet (λ i. Either (r i) (s i)) items
  items_both r s no_items m n = tt
  items_both r s (item d items) m n = (both (r 0) (s 0) d m.0 n.0, items_both (λ i. r (suc i)) (λ i. s (suc i)) items m.1 n.1)

  pub members_both : (r s : Refusals) (ms : Members) → MembersMeet r ms → MembersMeet s ms → MembersMeet (Either r s) ms
  members_both r s no_members m n = tt
  members_both r s (member l d ms) m n = (λ g. ⊎_elim m.0 n.0 g, both (at_label r l) (at_label s l) d m.1 n.1, members_both r s ms m.2 n.2)

mutual
  -- what meets each of them meets them all
  pub each : {X : Type 0} (P : X → Type 0) (r : X → Refusals) (d : Document) → ((x : X) → P x → Meets (r x) d) → Meets (Some P r) d
  each P r (scalar x) m = λ g. m g.0 g.1 g.2
  each P r (list items) m = (λ g. (m g.0 g.1).0 g.2, λ g. (m g.0 g.1).1 g.2, λ g. (m g.0 g.1).2 g.2, items_each P (λ x. at_index (r x)) items (λ x p. (m x p).3))
  each P r (map ms) m = (λ g. (m g.0 g.1).0 g.2, λ l g. (m g.0 g.1).1 l g.2, members_each P r ms (λ x p. (m x p).2))

  pub items_each : {X : Type 0} (P : X → Type 0) (r : X → ℕ → Refusals) (items : Items) → ((x : X) → P x → ItemsMeet (r x) items) → ItemsMeet (λ i. Some P (λ x. r x i)) items
  items_each P r no_items m = tt
  items_each P r (item d items) m = (each P (λ x. r x 0) d (λ x p. (m x p).0), items_each P (λ x i. r x (suc i)) items (λ x p. (m x p).1))

  pub members_each : {X : Type 0} (P : X → Type 0) (r : X → Refusals) (ms : Members) → ((x : X) → P x → MembersMeet (r x) ms) → MembersMeet (Some P r) ms
  members_each P r no_members m = tt
  members_each P r (member l d ms) m = (λ g. (m g.0 g.1).0 g.2, each P (λ x. at_label (r x) l) d (λ x p. (m x p).1), members_each P r ms (λ x p. (m x p).2))

mutual
  -- where nothing is refused, each document may stand
  pub unasked : (d : Document) → Meets Open d
  unasked (scalar x) = λ g. g
  unasked (list items) = (λ g. g, λ g. g, λ g. g, items_unasked items)
  unasked (map ms) = (λ g. g, λ l g. absurd g, members_unasked ms)

  pub items_unasked : (items : Items) → ItemsMeet (λ i. Open) items
  items_unasked no_items = tt
  items_unasked (item d items) = (unasked d, items_unasked items)

  pub members_unasked : (ms : Members) → MembersMeet Open ms
  members_unasked no_members = tt
  members_unasked (member l d ms) = (λ g. g, unasked d, members_unasked ms)

-- one of both alone
pub first : (r s : Refusals) (d : Document) → Meets (Either r s) d → Meets r d
first r s d m = less (Either r s) r (λ path q g. inl g) d m

pub second : (r s : Refusals) (d : Document) → Meets (Either r s) d → Meets s d
second r s d m = less (Either r s) s (λ path q g. inr g) d m

-- equal answers are met by the same documents
pub same : (r s : Refusals) → SameAnswers r s → (d : Document) → Meets r d ↔ Meets s d
same r s h d = (λ m. less r s (λ path q g. (h path q).1 g) d m, λ m. less s r (λ path q g. (h path q).0 g) d m)

-- what meets each of a list meets what one of it refuses, and back
pub meets_all : {X : Type 0} (r : X → Refusals) (xs : List X) (d : Document) → AllByRecursion (λ x. Meets (r x) d) xs → Meets (OneRefuses r xs) d
meets_all r [] d m = unasked d
meets_all r (x ∷ xs) d m = both (r x) (OneRefuses r xs) d m.0 (meets_all r xs d m.1)

pub all_meet : {X : Type 0} (r : X → Refusals) (xs : List X) (d : Document) → Meets (OneRefuses r xs) d → AllByRecursion (λ x. Meets (r x) d) xs
all_meet r [] d m = tt
all_meet r (x ∷ xs) d m = (first (r x) (OneRefuses r xs) d m, all_meet r xs d (second (r x) (OneRefuses r xs) d m))

-- a piece admits just what meets what it refuses
pub by_piece : (T : Type 0) (m : Meaning T) → IsExactOnDocuments T m → (d : Document) → IsDocument d → (piece : Piece) → piece_admits m piece d ↔ Meets (piece_refuses m piece) d
by_piece T m exact d is (world.text t) = exact.of_texts t d is
by_piece T m exact d is (world.state b) = exact.of_states b d is

each_piece_meets : (T : Type 0) (m : Meaning T) → IsExactOnDocuments T m → (d : Document) → IsDocument d → (pieces : List Piece) → AllByRecursion (λ piece. piece_admits m piece d) pieces → AllByRecursion (λ piece. Meets (piece_refuses m piece) d) pieces
each_piece_meets T m exact d is [] h = tt
each_piece_meets T m exact d is (piece ∷ pieces) h = ((by_piece T m exact d is piece).0 h.0, each_piece_meets T m exact d is pieces h.1)

each_piece_admits : (T : Type 0) (m : Meaning T) → IsExactOnDocuments T m → (d : Document) → IsDocument d → (pieces : List Piece) → AllByRecursion (λ piece. Meets (piece_refuses m piece) d) pieces → AllByRecursion (λ piece. piece_admits m piece d) pieces
each_piece_admits T m exact d is [] h = tt
each_piece_admits T m exact d is (piece ∷ pieces) h = ((by_piece T m exact d is piece).1 h.0, each_piece_admits T m exact d is pieces h.1)

-- a document is admitted by each piece of a set exactly where it meets what the set refuses
pub admitted_meets : (T : Type 0) (m : Meaning T) → IsExactOnDocuments T m → (pieces : List Piece) (d : Document) → IsAdmitted m pieces d → Meets (pieces_refuse m pieces) d
admitted_meets T m exact pieces d h = meets_all (piece_refuses m) pieces d (each_piece_meets T m exact d h.is pieces h.by_each)

pub meeting_is_admitted : (T : Type 0) (m : Meaning T) → IsExactOnDocuments T m → (pieces : List Piece) (d : Document) → IsDocument d → Meets (pieces_refuse m pieces) d → IsAdmitted m pieces d
meeting_is_admitted T m exact pieces d is met = record {
  is = is;
  by_each = each_piece_admits T m exact d is pieces (all_meet (piece_refuses m) pieces d met);
}
