-- The files that were joined so far.
use Rattle.std.proofs.Common.{◌≡◌, ◌⊎◌, inl, inr, ℕ, ◌+◌, List, [], ◌∷◌, ◌++◌, Option, length, map, refl, sym, ap, ◌∙◌, subst}
use Rattle.std.proofs.lemmas.List.{append_assoc, append-nil}
use Rattle.cue_lattice.specs.Question.{Refusals}
use Rattle.cue_lattice.specs.World.{Piece, piece_refuses, pieces_refuse, AllAlong}
use Rattle.cue_layers.proofs.Adding.{adds_puts}
use Rattle.cue_layers.proofs.Pieces.{adds_one}
use Rattle.cue_layers.specs.Bytes.{IsLayersBytes}
use Rattle.cue_layers.specs.Join.{CommonsGrows}
use Rattle.cue_layers.specs.Layers.{IsMap}
use Rattle.cue_layers.specs.Maps.{IsMapOfPuts, commons_put, put_of}
use Rattle.cue_layers.specs.Puts.{Put}
use Rattle.cue_layers.specs.declared.Layer.{Layer}
use Rattle.cue_layers.specs.declared.LayersRefusal.{LayersRefusal}
use Rattle.cue_program.specs.Files.{IsWholeFile}
use Rattle.cue_program.specs.Inputs.{IsFilePiece}
use Rattle.cue_replica.proofs.Along.{along_push}
use Rattle.cue_replica.specs.Accepted.{IsAcceptable}
use Rattle.cue_replica.specs.Language.{language}
use Rattle.cue_layers_program.specs.Joined.{all_puts, ArePutsOf, BeginsLayers, IsFileRefusal, IsFileRefused, IsFileUnread, IsJoined, HasPuts}
use Rattle.cue_layers_program.specs.Stops.{IsUnreadLayersStop}
use Rattle.cue_layers_program.specs.declared.stop.LayersStop.{LayersStop}
use Rattle.cue_layers_program.specs.declared.stop.LayersStop.TheVariants as ends

pub joined_none : (layers : List Layer) → IsMapOfPuts [] layers → IsJoined [] layers
joined_none layers h = ([], tt, h)

puts_push : (all : List (List Put)) (puts : List Put) → all_puts (all ++ puts ∷ []) ≡ all_puts all ++ puts
puts_push [] puts = append-nil puts
puts_push (first ∷ all) puts = ap (λ (ps : List Put). first ++ ps) (puts_push all puts) ∙ sym (append_assoc first (all_puts all) puts)

-- with one file more
pub joined_more :
    (front : List (Option (List ℕ))) (file : Option (List ℕ)) (old new : List Layer) (bytes : List ℕ) (h : IsJoined front old) → IsWholeFile file bytes
    → ((said : List Put) × ArePutsOf bytes said × IsMapOfPuts (all_puts h.0 ++ said) new) → IsJoined (front ++ file ∷ []) new
joined_more front file old new bytes h whole more = (
  h.0 ++ more.0 ∷ [],
  along_push HasPuts front h.0 file more.0 h.1 (bytes, whole, more.1),
  subst (λ (ps : List Put). IsMapOfPuts ps new) (sym (puts_push h.0 more.0)) more.2,
)

-- the first file that is refused
pub file_refused :
    (front back : List (Option (List ℕ))) (file : Option (List ℕ)) (old : List Layer) (bytes : List ℕ) (why : LayersRefusal) (number : ℕ) → IsJoined front old → IsWholeFile file bytes
    → IsFileRefusal bytes why → number ≡ length front + 1 → IsFileRefused (front ++ file ∷ back) (ends.RefusedInput why number)
file_refused front back file old bytes why number h whole refusal counted =
    (front, back, file, old, bytes, why, refl, h, whole, refusal, ap (λ (n : ℕ). ends.RefusedInput why n) counted)

-- and that can't be read
pub file_unread :
    (front back : List (Option (List ℕ))) (file : Option (List ℕ)) (old : List Layer) (stop : LayersStop) → IsJoined front old → IsUnreadLayersStop file stop → IsFileUnread (front ++ file ∷ back) stop
file_unread front back file old stop h unread = (front, back, file, old, refl, h, unread)

-- the commons grows by one piece
grows_one : (old new : List Layer) (piece : Piece) → CommonsGrows old (piece_refuses language piece) new → CommonsGrows old (pieces_refuse language (piece ∷ [])) new
grows_one [] new piece grows = absurd grows
grows_one (l ∷ ls) [] piece grows = absurd grows
grows_one (l ∷ ls) (m ∷ ms) piece grows = (grows.0, adds_one l.content m.content piece grows.1, grows.2)

-- what a file says that is one piece
pub said_piece :
    (bytes : List ℕ) (piece : Piece) (puts : List Put) (old new : List Layer) → (BeginsLayers bytes → ⊥) → IsFilePiece bytes piece → IsAcceptable piece → IsMapOfPuts puts old → IsMap new
    → CommonsGrows old (piece_refuses language piece) new → (said : List Put) × ArePutsOf bytes said × IsMapOfPuts (puts ++ said) new
said_piece bytes piece puts old new apart is acceptable of is_map grows =
    (commons_put (piece ∷ []) ∷ [], inr (apart, (piece, is, acceptable, refl)), adds_puts.commons old new puts piece of is_map (grows_one old new piece grows))
