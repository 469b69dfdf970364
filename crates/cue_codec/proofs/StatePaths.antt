-- Steps and paths: their bytes tell them.
use Rattle.std.proofs.Common.{◌≡◌, ℕ, zero, suc, ◌+◌, ◌^◌, ◌<◌, ◌≤◌, List, [], ◌∷◌, ◌++◌, length, map, take, get_or, Some, None, refl, sym, ap, subst, ◌∙◌, arith}
use Rattle.std.specs.Int.{w32, to_be_bytes}
use Rattle.std.specs.List.{flat_map, AllByRecursion}
use Rattle.std.proofs.lemmas.List.{length-append, length-map, take_more}
use Rattle.cue_lattice.specs.Limits.{step_limit}
use Rattle.cue_lattice.specs.Path.{label, index}
use Rattle.cue_table.specs.declared.slot.Slot as program
use Rattle.cue_table.specs.SlotsOfCode.{slot_of}
use Rattle.cue_codec.specs.declared.version.Version.{Version}
use Rattle.cue_codec.specs.declared.version.Version.TheVariants as versions
use Rattle.cue_codec.specs.Entry.{StateStep, at, to_rest, StatePath, step_kind, path_of_place}
use Rattle.cue_codec.specs.Parts.{text_bytes, step_bytes, path_bytes}
use Rattle.cue_codec.specs.Reading.{ReadsItem, ReadsNoItem, number_at, IsWord}
use Rattle.cue_codec.specs.Inner.Reading.{AreSo}
use Rattle.cue_codec.specs.StateRow.{IsStateStep, IsStatePath}
use Rattle.cue_codec.proofs.Codes.{OneItem, wide32, one_number, one_list, items_more}
use Rattle.cue_codec.proofs.Numbers.{IsBytes, number_missing, number_takes, read32, one_text}
use Rattle.cue_codec.proofs.StateSets.{heads, tails, no_byte}

-- a step in front tells itself and the rest
pub one_step : (version : Version) → OneItem (IsStateStep version) (step_bytes version)
unfolding step_bytes
one_step version (at (label a)) (at (label b)) r s p q e =
    let f = one_text a b r s p q (tails 0 0 _ _ e) in
    (ap (λ (t : List ℕ). at (label t)) f.0, f.1)
one_step version (at (label a)) (at (index n)) r s p q e = absurd (omega (arith, heads 0 1 _ _ e))
one_step version (at (label a)) to_rest r s p q e = absurd (omega (arith, heads 0 2 _ _ e))
one_step version (at (index m)) (at (label b)) r s p q e = absurd (omega (arith, heads 1 0 _ _ e))
one_step version (at (index m)) (at (index n)) r s p q e =
    let f = one_number w32 (2 ^ 32) wide32 m n r s p q (tails 1 1 _ _ e) in
    (ap (λ (k : ℕ). at (index k)) f.0, f.1)
one_step version (at (index m)) to_rest r s p q e = absurd (omega (arith, heads 1 2 _ _ e))
one_step version to_rest (at (label b)) r s p q e = absurd (omega (arith, heads 2 0 _ _ e))
one_step version to_rest (at (index n)) r s p q e = absurd (omega (arith, heads 2 1 _ _ e))
one_step version to_rest to_rest r s p q e = (refl, tails 2 2 _ _ e)

pub step_empty : (version : Version) (bytes : List ℕ) → length bytes ≡ 0 → ReadsNoItem (IsStateStep version) (step_bytes version) bytes
unfolding step_bytes
step_empty version bytes none (at (label t)) s h e = no_byte bytes 0 _ none e
step_empty version bytes none (at (index n)) s h e = no_byte bytes 1 _ none e
step_empty version bytes none to_rest s h e = no_byte bytes 2 _ none e

pub step_tag : (version : Version) (bytes rest : List ℕ) (tag : ℕ) → bytes ≡ tag ∷ rest → 3 ≤ tag → ReadsNoItem (IsStateStep version) (step_bytes version) bytes
unfolding step_bytes
step_tag version bytes rest tag is more (at (label t)) s h e = omega (arith, more, heads tag 0 rest _ (sym is ∙ e))
step_tag version bytes rest tag is more (at (index n)) s h e = omega (arith, more, heads tag 1 rest _ (sym is ∙ e))
step_tag version bytes rest tag is more to_rest s h e = omega (arith, more, heads tag 2 rest _ (sym is ∙ e))

pub step_text : (version : Version) (bytes rest : List ℕ) (tag : ℕ) → bytes ≡ tag ∷ rest → tag ≡ 0 → ReadsNoItem IsWord text_bytes rest → ReadsNoItem (IsStateStep version) (step_bytes version) bytes
unfolding step_bytes
step_text version bytes rest tag is nil none (at (label t)) s h e = none t s h (tails tag 0 rest _ (sym is ∙ e))
step_text version bytes rest tag is nil none (at (index n)) s h e = omega (arith, nil, heads tag 1 rest _ (sym is ∙ e))
step_text version bytes rest tag is nil none to_rest s h e = omega (arith, nil, heads tag 2 rest _ (sym is ∙ e))

pub step_number : (version : Version) (bytes rest : List ℕ) (tag : ℕ) → bytes ≡ tag ∷ rest → tag ≡ 1 → None ≡ number_at w32 rest → ReadsNoItem (IsStateStep version) (step_bytes version) bytes
unfolding step_bytes
step_number version bytes rest tag is one none (at (label t)) s h e = omega (arith, one, heads tag 0 rest _ (sym is ∙ e))
step_number version bytes rest tag is one none (at (index n)) s h e =
    omega (arith, number_missing w32 rest none, ap length (tails tag 1 rest _ (sym is ∙ e)), length-append (to_be_bytes w32 n) s, wide32.len n)
step_number version bytes rest tag is one none to_rest s h e = omega (arith, one, heads tag 2 rest _ (sym is ∙ e))

-- the first version tells no rest
pub step_untold : (bytes rest : List ℕ) (tag : ℕ) → bytes ≡ tag ∷ rest → tag ≡ 2 → ReadsNoItem (IsStateStep versions.First) (step_bytes versions.First) bytes
unfolding step_bytes
step_untold bytes rest tag is two (at (label t)) s h e = omega (arith, two, heads tag 0 rest _ (sym is ∙ e))
step_untold bytes rest tag is two (at (index n)) s h e = omega (arith, two, heads tag 1 rest _ (sym is ∙ e))
step_untold bytes rest tag is two to_rest s h e = h

pub label_found : (version : Version) (bytes rest after text : List ℕ) (tag : ℕ) → bytes ≡ tag ∷ rest → tag ≡ 0 → ReadsItem IsWord text_bytes text rest after → ReadsItem (IsStateStep version) (step_bytes version) (at (label text)) bytes after
unfolding step_bytes
label_found version bytes rest after text tag is nil b = record { value = b.value; parts = is ∙ ap (λ (k : ℕ). k ∷ rest) nil ∙ ap (λ (x : List ℕ). 0 ∷ x) b.parts }

pub index_found : (version : Version) (bytes rest after : List ℕ) (tag n : ℕ) → IsBytes rest → bytes ≡ tag ∷ rest → tag ≡ 1 → Some (n, after) ≡ number_at w32 rest → ReadsItem (IsStateStep version) (step_bytes version) (at (index n)) bytes after
unfolding step_bytes
index_found version bytes rest after tag n fits is one e =
    let t = number_takes w32 (2 ^ 32) read32 rest n after fits e in
    record { value = t.1; parts = is ∙ ap (λ (k : ℕ). k ∷ rest) one ∙ ap (λ (x : List ℕ). 1 ∷ x) t.0 }

pub rest_found : (bytes rest : List ℕ) (tag : ℕ) → bytes ≡ tag ∷ rest → tag ≡ 2 → ReadsItem (IsStateStep versions.Second) (step_bytes versions.Second) to_rest bytes rest
unfolding step_bytes
rest_found bytes rest tag is two = record { value = tt; parts = is ∙ ap (λ (k : ℕ). k ∷ rest) two }

-- ---- slots

-- a slot as bytes tell it
abbrev pub step_in : program.Slot → StateStep
step_in slot = step_kind (slot_of slot)

-- slots as bytes tell them
abbrev pub steps_in : List program.Slot → StatePath
steps_in items = path_of_place (map slot_of items)

steps_pushed : (items : List program.Slot) (x : program.Slot) → steps_in (items ++ x ∷ []) ≡ steps_in items ++ step_in x ∷ []
steps_pushed [] x = refl
steps_pushed (y ∷ items) x = ap (λ (p : StatePath). step_in y ∷ p) (steps_pushed items x)

pub steps_more : (version : Version) (items : List program.Slot) (x : program.Slot) (bytes rest after : List ℕ) → bytes ≡ flat_map (step_bytes version) (steps_in items) ++ rest → rest ≡ step_bytes version (step_in x) ++ after
    → bytes ≡ flat_map (step_bytes version) (steps_in (items ++ x ∷ [])) ++ after
steps_more version items x bytes rest after e r =
    items_more (step_bytes version) (steps_in items) (step_in x) bytes rest after e r ∙ ap (λ (p : StatePath). flat_map (step_bytes version) p ++ after) (sym (steps_pushed items x))

pub steps_each : (version : Version) (items : List program.Slot) (x : program.Slot) → AllByRecursion (IsStateStep version) (steps_in items) → IsStateStep version (step_in x) → AllByRecursion (IsStateStep version) (steps_in (items ++ x ∷ []))
steps_each version [] x p q = (q, tt)
steps_each version (y ∷ items) x p q = (p.0, steps_each version items x p.1 q)

-- an index that is known
pub index_again : (version : Version) (bytes rest after : List ℕ) (tag n m : ℕ) → IsBytes rest → bytes ≡ tag ∷ rest → tag ≡ 1 → Some (n, after) ≡ number_at w32 rest → n ≡ m → bytes ≡ step_bytes version (at (index m)) ++ after
index_again version bytes rest after tag n m fits is one e same = (index_found version bytes rest after tag n fits is one e).parts ∙ ap (λ (k : ℕ). step_bytes version (at (index k)) ++ after) same

-- one more step is shared
pub shared_more :
    (version : Version) (steps : List program.Slot) (i : ℕ) (x : program.Slot) (bytes rest after : List ℕ) → i < length steps → x ≡ get_or steps i x → bytes ≡ flat_map (step_bytes version) (steps_in (take i steps)) ++ rest
    → rest ≡ step_bytes version (step_in x) ++ after → bytes ≡ flat_map (step_bytes version) (steps_in (take (i + 1) steps)) ++ after
shared_more version steps i x bytes rest after h g e r =
    let one : take (i + 1) steps ≡ take i steps ++ x ∷ [] = take_more steps i x h ∙ ap (λ t. take i steps ++ t ∷ []) (sym g) in
    steps_more version (take i steps) x bytes rest after e r ∙ ap (λ (t : List program.Slot). flat_map (step_bytes version) (steps_in t) ++ after) (sym one)

-- the first steps of a path that bytes tell
pub steps_front : (version : Version) (items : List program.Slot) (n : ℕ) → AllByRecursion (IsStateStep version) (steps_in items) → AllByRecursion (IsStateStep version) (steps_in (take n items))
steps_front version items zero p = tt
steps_front version [] (suc n) p = tt
steps_front version (x ∷ items) (suc n) p = (p.0, steps_front version items n p.1)

pub steps_count : (items : List program.Slot) → length (steps_in items) ≡ length items
steps_count items = length-map (map slot_of items) step_kind ∙ length-map items slot_of

-- ---- paths

-- a path in front tells itself and the rest
pub one_path : (version : Version) → OneItem (IsStatePath version) (path_bytes version)
unfolding path_bytes
one_path version a b r s p q e = one_list (IsStateStep version) (step_bytes version) (one_step version) a b r s p.0 q.0 (heads (length a) (length b) _ _ e) (tails (length a) (length b) _ _ e)

pub path_empty : (version : Version) (bytes : List ℕ) → length bytes ≡ 0 → ReadsNoItem (IsStatePath version) (path_bytes version) bytes
unfolding path_bytes
path_empty version bytes none = λ path s h e. no_byte bytes (length path) _ none e

pub path_rest : (version : Version) (bytes rest : List ℕ) (count : ℕ) → bytes ≡ count ∷ rest → ReadsNoItem (AreSo (IsStateStep version) count) (flat_map (step_bytes version)) rest → ReadsNoItem (IsStatePath version) (path_bytes version) bytes
unfolding path_bytes
path_rest version bytes rest count is none = λ path s h e.
    let whole = sym is ∙ e in
    none path s (sym (heads count (length path) rest _ whole), h.0) (tails count (length path) rest _ whole)

pub path_long : (version : Version) (bytes rest after : List ℕ) (count : ℕ) (items : List program.Slot) → bytes ≡ count ∷ rest → ReadsItem (AreSo (IsStateStep version) count) (flat_map (step_bytes version)) (steps_in items) rest after → step_limit < length items → ReadsNoItem (IsStatePath version) (path_bytes version) bytes
unfolding path_bytes
path_long version bytes rest after count items is b long = λ path s h e.
    omega (arith, long, h.1, b.value.0, steps_count items, heads count (length path) rest _ (sym is ∙ e))

pub path_many : (version : Version) (bytes rest : List ℕ) (count : ℕ) → bytes ≡ count ∷ rest → step_limit < count → ReadsNoItem (IsStatePath version) (path_bytes version) bytes
unfolding path_bytes
path_many version bytes rest count is many = λ path s h e. omega (arith, many, h.1, heads count (length path) rest _ (sym is ∙ e))

pub path_found : (version : Version) (bytes rest after : List ℕ) (count : ℕ) (items : List program.Slot) (path : StatePath) → bytes ≡ count ∷ rest → ReadsItem (AreSo (IsStateStep version) count) (flat_map (step_bytes version)) (steps_in items) rest after → path ≡ steps_in items → count ≤ step_limit
    → ReadsItem (IsStatePath version) (path_bytes version) path bytes after
unfolding path_bytes
path_found version bytes rest after count items path is b same few =
    let found : ReadsItem (IsStatePath version) (path_bytes version) (steps_in items) bytes after = record {
      value = (b.value.1, omega (arith, few, b.value.0));
      parts = is ∙ ap (λ (k : ℕ). k ∷ rest) (sym b.value.0) ∙ ap (λ (x : List ℕ). length (steps_in items) ∷ x) b.parts;
    } in
    subst (λ (p : StatePath). ReadsItem (IsStatePath version) (path_bytes version) p bytes after) (sym same) found
