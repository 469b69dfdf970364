-- What calls in a row do to what lies where.
use Rattle.std.proofs.Common.{◌≡◌, ◌≢◌, ◌⊎◌, ⊎_elim, inl, inr, ℕ, zero, suc, ◌≤◌, Bool, true, false, Some, None, List, [], ◌++◌, length, codes, arith, refl, sym, ap, subst, ◌∙◌, length-append, append-nil}
use Rattle.std.proofs.lemmas.List.{append_assoc}
use Rattle.std.specs.Str.{bytes_eq}
use Rattle.std.proofs.lemmas.Slice.Eq.{bytes_eq-Decides}
use Rattle.std.proofs.lemmas.Bool.{both_ways}
use Rattle.cue_program.specs.Calls.{FileCall, names_beside, Creates, FillsFile, Overwrites, PutsAt, PutsBehind, ReplacesFile, TakesMode, TriesNames, WritesIn, opened, created, looked_at, looked_behind, followed, asked_mode, set_mode, wrote, synced, renamed, removed}
use Rattle.cue_program.specs.Effects.{ArePut, CallsHaveEffects, HasMoved, IsLonger, IsTouchedAt, IsUnchanged, is_special_behind}
use Rattle.cue_program.specs.Files.{Holdings, IsElsewhereSame, IsFilePut, IsSameAt, IsSameTree, IsUnharmed}
use Rattle.cue_program.specs.Stopped.{StopsAtCall, StopsBehind, StopsFilling, StopsOverwriting, StopsPutting, StopsReplacing, Touches, TouchesIn}
use Rattle.cue_program.specs.declared.files.FileForm.{FileForm}
use Rattle.cue_program.specs.declared.files.FileForm.TheVariants as forms

tree_none : (x : Holdings) → IsSameTree x x
tree_none x = record { places = λ name. refl; special = λ place. refl }

tree_on : (x y z : Holdings) → IsSameTree x y → IsSameTree y z → IsSameTree x z
tree_on x y z h k = record {
  places = λ name. k.places name ∙ h.places name;
  special = λ place. k.special place ∙ h.special place;
}

same_none : (p : List ℕ) (x : Holdings) → IsSameAt p x x
same_none p x = record { bytes = refl; mode = λ had is. refl }

same_on : (p : List ℕ) (x y z : Holdings) → IsSameAt p x y → IsSameAt p y z → IsSameAt p x z
same_on p x y z h k = record {
  bytes = k.bytes ∙ h.bytes;
  mode = λ had is. k.mode had (h.bytes ∙ is) ∙ h.mode had is;
}

-- two changes in a row, and one at fewer places
else_on : (P : List ℕ → Type 0) (x y z : Holdings) → IsElsewhereSame P x y → IsElsewhereSame P y z → IsElsewhereSame P x z
else_on P x y z h k = record {
  tree = tree_on x y z h.tree k.tree;
  others = λ p no. same_on p x y z (h.others p no) (k.others p no);
}

else_none : (P : List ℕ → Type 0) (x : Holdings) → IsElsewhereSame P x x
else_none P x = record { tree = tree_none x; others = λ p no. same_none p x }

weaker : (P Q : List ℕ → Type 0) (x y : Holdings) → ((p : List ℕ) → P p → Q p) → IsElsewhereSame P x y → IsElsewhereSame Q x y
weaker P Q x y f h = record { tree = h.tree; others = λ p no. h.others p (λ is. no (f p is)) }

touched : (p : List ℕ) (x y : Holdings) → IsUnchanged x y → IsTouchedAt p x y
touched p x y h = weaker (λ q. ⊥) (λ q. q ≡ p) x y (λ q no. absurd no) h

stays_at : (x y : Holdings) (p : List ℕ) → IsUnchanged x y → IsSameAt p x y
stays_at x y p h = h.others p (λ no. no)

tries_stay : {S D M : Type 0} (Makes : S → FileCall D M → S → Type 0) (held : S → Holdings) (at : D → List ℕ) (mode : M → ℕ) → CallsHaveEffects Makes held at mode
    → (place : List ℕ) (n : ℕ) (a b : S) → TriesNames Makes place n a b → IsUnchanged (held a) (held b)
unfolding TriesNames
tries_stay Makes held at mode f place zero a b is = subst (λ s. IsUnchanged (held a) (held s)) (sym is) (else_none (λ p. ⊥) (held a))
tries_stay Makes held at mode f place (suc n) a b is =
    else_on (λ p. ⊥) (held a) (held is.0) (held b) (tries_stay Makes held at mode f place n a is.0 is.1) (f is.0 b (created (names_beside (suc n) place) None) is.2)

longer_none : (p : List ℕ) (x : Holdings) → IsLonger p [] x x
longer_none p x = record {
  touched = else_none (λ q. q ≡ p) x;
  bytes = λ had is. is ∙ ap (λ (t : List ℕ). Some t) (sym (append-nil had));
  mode = refl;
}

longer_on : (p front piece : List ℕ) (x y z : Holdings) → IsLonger p front x y → IsLonger p piece y z → IsLonger p (front ++ piece) x z
longer_on p front piece x y z h k = record {
  touched = else_on (λ q. q ≡ p) x y z h.touched k.touched;
  bytes = λ had is. k.bytes (had ++ front) (h.bytes had is) ∙ ap (λ (t : List ℕ). Some t) (append_assoc had front piece);
  mode = k.mode ∙ h.mode;
}

writes_add : {S D M : Type 0} (Makes : S → FileCall D M → S → Type 0) (held : S → Holdings) (at : D → List ℕ) (mode : M → ℕ) → CallsHaveEffects Makes held at mode
    → (n : ℕ) (bytes : List ℕ) (file file' : D) (a b : S) → WritesIn Makes n bytes file file' a b → IsLonger (at file) bytes (held a) (held b) × (at file' ≡ at file)
unfolding WritesIn
writes_add Makes held at mode f zero bytes file file' a b is = (
  subst (λ (t : List ℕ). IsLonger (at file) t (held a) (held b)) (sym is.0)
      (subst (λ s. IsLonger (at file) [] (held a) (held s)) (sym is.2) (longer_none (at file) (held a))),
  ap at is.1,
)
writes_add Makes held at mode f (suc n) bytes file file' a b is =
    let before = writes_add Makes held at mode f n is.0 file is.2 a is.3 is.5 in
    let last = f is.3 b (wrote is.2 is.1 file' true) is.6 in (
      subst (λ (t : List ℕ). IsLonger (at file) t (held a) (held b)) (sym is.4)
          (longer_on (at file) is.0 is.1 (held a) (held is.3) (held b) before.0
          (subst (λ (p : List ℕ). IsLonger p is.1 (held is.3) (held b)) before.1 last.0)),
      last.1 ∙ before.1,
    )

-- a new file was filled
record Filled (p place bytes : List ℕ) (is_file : Bool) (x y : Holdings) : Type 0 where
  touched : IsTouchedAt p x y
  bytes_are : x.bytes_at p ≡ Some [] → y.bytes_at p ≡ Some bytes
  mode : is_file ≡ true → x.bytes_at p ≡ Some [] → y.mode_at p ≡ x.mode_at (x.place_of place)

-- it has its mode
record Moded (p place : List ℕ) (is_file : Bool) (x y : Holdings) : Type 0 where
  touched : IsTouchedAt p x y
  bytes_are : y.bytes_at p ≡ x.bytes_at p
  mode : is_file ≡ true → y.mode_at p ≡ x.mode_at (x.place_of place)

mode_taken : {S D M : Type 0} (Makes : S → FileCall D M → S → Type 0) (held : S → Holdings) (at : D → List ℕ) (mode : M → ℕ) → CallsHaveEffects Makes held at mode
    → (place : List ℕ) (is_file : Bool) (file : D) (a b : S) → TakesMode Makes place is_file file a b → Moded (at file) place is_file (held a) (held b)
mode_taken Makes held at mode f place true file a b is =
    let asked = f a is.1 (asked_mode place (Some is.0)) is.2 in
    let set = f is.1 b (set_mode file is.0 true) is.3 in
    record {
      touched = else_on (λ q. q ≡ at file) (held a) (held is.1) (held b) (touched (at file) (held a) (held is.1) asked.0) set.touched;
      bytes_are = set.bytes ∙ (stays_at (held a) (held is.1) (at file) asked.0).bytes;
      mode = λ yes. set.mode ∙ asked.1;
    }
mode_taken Makes held at mode f place false file a b is =
    subst (λ s. Moded (at file) place false (held a) (held s)) (sym is) (record {
      touched = else_none (λ q. q ≡ at file) (held a);
      bytes_are = refl;
      mode = λ yes. (let no : false ≡ true = yes in cc);
    })

filled_by : {S D M : Type 0} (Makes : S → FileCall D M → S → Type 0) (held : S → Holdings) (at : D → List ℕ) (mode : M → ℕ) → CallsHaveEffects Makes held at mode
    → (place bytes : List ℕ) (is_file : Bool) (file : D) (a b : S) → FillsFile Makes place is_file bytes file a b → Filled (at file) place bytes is_file (held a) (held b)
filled_by Makes held at mode f place bytes is_file file a b is =
    let p = at file in
    let x = held a in
    let y = held is.1 in
    let z = held is.2 in
    let moded = mode_taken Makes held at mode f place is_file file a is.1 is.3 in
    let added = writes_add Makes held at mode f is.4.0 bytes file is.0 is.1 is.2 is.4.1 in
    let last = stays_at z (held b) p (f is.2 b (synced is.0 true) is.5) in
    let whole : x.bytes_at p ≡ Some [] → z.bytes_at p ≡ Some bytes = λ none. added.0.bytes [] (moded.bytes_are ∙ none) in
    record {
      touched = else_on (λ q. q ≡ p) x z (held b) (else_on (λ q. q ≡ p) x y z moded.touched added.0.touched) (touched p z (held b) (f is.2 b (synced is.0 true) is.5));
      bytes_are = λ none. last.bytes ∙ whole none;
      mode = λ yes none. last.mode bytes (whole none) ∙ (added.0.mode ∙ moded.mode yes);
    }

same_or_not : (a b : List ℕ) → (a ≡ b) ⊎ (a ≢ b)
same_or_not a b = go (bytes_eq a b) refl
  where
    go : (t : Bool) → bytes_eq a b ≡ t → (a ≡ b) ⊎ (a ≢ b)
    go true e = inl ((bytes_eq-Decides a b).0 e)
    go false e = inr (λ is. both_ways (bytes_eq a b) e ((bytes_eq-Decides a b).1 is))

beside_longer : (n : ℕ) (place : List ℕ) → length place ≤ length (names_beside n place)
unfolding names_beside
beside_longer zero place = omega arith
beside_longer (suc n) place = omega (arith, beside_longer n place, length-append (names_beside n place) (codes ".part"))

beside_other : (n : ℕ) (place draft : List ℕ) → draft ≡ names_beside (suc n) place → draft ≢ place
unfolding names_beside
beside_other n place draft is same =
    absurd (omega (arith, beside_longer n place, length-append (names_beside n place) (codes ".part"), ap length is, ap length same))

-- a new file was made beside a place
record Made (place draft : List ℕ) (x y : Holdings) : Type 0 where
  other : draft ≢ place
  touched : IsTouchedAt draft x y
  free : x.bytes_at draft ≡ None
  empty : y.bytes_at draft ≡ Some []

made_by : {S D M : Type 0} (Makes : S → FileCall D M → S → Type 0) (held : S → Holdings) (at : D → List ℕ) (mode : M → ℕ) → CallsHaveEffects Makes held at mode
    → (place draft : List ℕ) (file : D) (a b : S) → Creates Makes place draft file a b → Made place draft (held a) (held b) × (at file ≡ draft)
made_by Makes held at mode f place draft file a b is =
    let stay = tries_stay Makes held at mode f place is.0 a is.1 is.2 in
    let new = f is.1 b (created draft (Some file)) is.4 in (
      record {
        other = beside_other is.0 place draft is.3;
        touched = else_on (λ q. q ≡ draft) (held a) (held is.1) (held b) (touched draft (held a) (held is.1) stay) new.0.touched;
        free = sym (stays_at (held a) (held is.1) draft stay).bytes ∙ new.0.free;
        empty = new.0.empty;
      },
      new.1,
    )

-- the bytes lie at a place
record PutAt (place bytes : List ℕ) (is_file : Bool) (x y : Holdings) : Type 0 where
  put : y.bytes_at place ≡ Some bytes
  mode : (had : List ℕ) → is_file ≡ true → x.bytes_at place ≡ Some had → y.mode_at place ≡ x.mode_at place
  same : IsTouchedAt place x y

moved_in : (place draft bytes : List ℕ) (is_file : Bool) (x y z v : Holdings) → x.place_of place ≡ place → Made place draft x y → Filled draft place bytes is_file y z
    → HasMoved draft place z v → PutAt place bytes is_file x v
moved_in place draft bytes is_file x y z v self made filled moved =
    let whole = filled.bytes_are made.empty in
    let at_place = made.touched.others place (λ e. made.other (sym e)) in
    let self' : y.place_of place ≡ place = made.touched.tree.places place ∙ self in
    record {
      put = moved.bytes ∙ whole;
      mode = λ had yes is. moved.mode ∙ (filled.mode yes made.empty ∙ (ap y.mode_at self' ∙ at_place.mode had is));
      same = record {
        tree = tree_on x z v (tree_on x y z made.touched.tree filled.touched.tree) moved.touched.tree;
        others = λ p no. ⊎_elim
            (λ is. subst (λ (q : List ℕ). IsSameAt q x v) (sym is) (record {
              bytes = moved.gone ∙ sym made.free;
              mode = λ had some. (let both : Some had ≡ None = sym some ∙ made.free in cc);
            }))
            (λ other. same_on p x z v (same_on p x y z (made.touched.others p other) (filled.touched.others p other))
            (moved.touched.others p (λ e. ⊎_elim other no e)))
            (same_or_not p draft);
      };
    }

replaced_by : {S D M : Type 0} (Makes : S → FileCall D M → S → Type 0) (held : S → Holdings) (at : D → List ℕ) (mode : M → ℕ) → CallsHaveEffects Makes held at mode
    → (place bytes : List ℕ) (is_file : Bool) (a b : S) → (held a).place_of place ≡ place → ReplacesFile Makes place is_file bytes a b → PutAt place bytes is_file (held a) (held b)
replaced_by Makes held at mode f place bytes is_file a b self is =
    let draft = is.0 in
    let file = is.1 in
    let s = is.2 in
    let t = is.4.0 in
    let made = made_by Makes held at mode f place draft file a s is.3 in
    let filled = subst (λ (p : List ℕ). Filled p place bytes is_file (held s) (held t)) made.1 (filled_by Makes held at mode f place bytes is_file file s t is.4.1) in
    moved_in place draft bytes is_file (held a) (held s) (held t) (held b) self made.0 filled (f t b (renamed draft place true) is.4.2)

overwritten_by : {S D M : Type 0} (Makes : S → FileCall D M → S → Type 0) (held : S → Holdings) (at : D → List ℕ) (mode : M → ℕ) → CallsHaveEffects Makes held at mode
    → (name bytes : List ℕ) (a b : S) → Overwrites Makes name bytes a b → IsTouchedAt ((held a).place_of name) (held a) (held b)
overwritten_by Makes held at mode f name bytes a b is =
    let p = (held a).place_of name in
    let got = f a is.2 (opened name (Some is.0)) is.3 in
    let added = writes_add Makes held at mode f is.4.0 bytes is.0 is.1 is.2 b is.4.1 in
    else_on (λ q. q ≡ p) (held a) (held is.2) (held b) (touched p (held a) (held is.2) got.0)
    (subst (λ (q : List ℕ). IsTouchedAt q (held is.2) (held b)) got.1 added.0.touched)

-- behind looks, which change nothing
put_later : (place bytes : List ℕ) (is_file : Bool) (x y z : Holdings) → IsUnchanged x y → PutAt place bytes is_file y z → PutAt place bytes is_file x z
put_later place bytes is_file x y z stay h = record {
  put = h.put;
  mode = λ had yes is. h.mode had yes ((stays_at x y place stay).bytes ∙ is) ∙ (stays_at x y place stay).mode had is;
  same = else_on (λ q. q ≡ place) x y z (touched place x y stay) h.same;
}

touched_later : (p : List ℕ) (x y z : Holdings) → IsUnchanged x y → IsTouchedAt p y z → IsTouchedAt p x z
touched_later p x y z stay h = else_on (λ q. q ≡ p) x y z (touched p x y stay) h

-- a file lies under a name
file_put : (name place bytes : List ℕ) (x y : Holdings) → place ≡ x.place_of name → PutAt place bytes true x y → IsFilePut name bytes x y
file_put name place bytes x y is h =
    let k = subst (λ (p : List ℕ). PutAt p bytes true x y) is h in
    record { put = λ plain. k.put; mode = λ had plain some. k.mode had refl some; same = k.same }

new_put : (name bytes : List ℕ) (x y : Holdings) → x.place_of name ≡ name → x.bytes_at name ≡ None → PutAt name bytes false x y → IsFilePut name bytes x y
new_put name bytes x y self none h =
    let k = subst (λ (p : List ℕ). PutAt p bytes false x y) (sym self) h in
    record {
      put = λ plain. k.put;
      mode = λ had plain some. (let both : Some had ≡ None = sym some ∙ (ap x.bytes_at self ∙ none) in cc);
      same = k.same;
    }

special_put : (name bytes : List ℕ) (x y : Holdings) → x.is_special (x.place_of name) ≡ true → IsTouchedAt (x.place_of name) x y → IsFilePut name bytes x y
special_put name bytes x y special h = record {
  put = λ plain. (let bad : true ≡ false = sym special ∙ plain in cc);
  mode = λ had plain some. (let bad : true ≡ false = sym special ∙ plain in cc);
  same = h;
}

put_over : {S D M : Type 0} (Makes : S → FileCall D M → S → Type 0) (held : S → Holdings) (at : D → List ℕ) (mode : M → ℕ) → CallsHaveEffects Makes held at mode
    → (name bytes : List ℕ) (a s b : S) → IsUnchanged (held a) (held s) → (held a).is_special ((held a).place_of name) ≡ true
    → Overwrites Makes name bytes s b → IsFilePut name bytes (held a) (held b)
put_over Makes held at mode f name bytes a s b stay special is =
    special_put name bytes (held a) (held b) special
    (touched_later ((held a).place_of name) (held a) (held s) (held b) stay
    (subst (λ (p : List ℕ). IsTouchedAt p (held s) (held b)) (stay.tree.places name) (overwritten_by Makes held at mode f name bytes s b is)))

-- behind a link
put_behind : {S D M : Type 0} (Makes : S → FileCall D M → S → Type 0) (held : S → Holdings) (at : D → List ℕ) (mode : M → ℕ) → CallsHaveEffects Makes held at mode
    → (name bytes : List ℕ) (a s b : S) (form : FileForm) → IsUnchanged (held a) (held s) → (held a).is_special ((held a).place_of name) ≡ is_special_behind form
    → PutsBehind Makes name form bytes s b → IsFilePut name bytes (held a) (held b)
put_behind Makes held at mode f name bytes a s b forms.File stay special is =
    let place = is.0 in
    let t = is.1 in
    let led = f s t (followed name (Some place)) is.2 in
    let still = else_on (λ p. ⊥) (held a) (held s) (held t) stay led.0 in
    file_put name place bytes (held a) (held b) (led.1 ∙ stay.tree.places name)
    (put_later place bytes true (held a) (held t) (held b) still
    (replaced_by Makes held at mode f place bytes true t b (led.0.tree.places place ∙ led.2) is.3))
put_behind Makes held at mode f name bytes a s b forms.Nothing stay special is = put_over Makes held at mode f name bytes a s b stay special is
put_behind Makes held at mode f name bytes a s b forms.Link stay special is = put_over Makes held at mode f name bytes a s b stay special is
put_behind Makes held at mode f name bytes a s b forms.Special stay special is = put_over Makes held at mode f name bytes a s b stay special is

-- What stands under a name was found, and then the bytes were put there.
put_found : {S D M : Type 0} (Makes : S → FileCall D M → S → Type 0) (held : S → Holdings) (at : D → List ℕ) (mode : M → ℕ) → CallsHaveEffects Makes held at mode
    → (name bytes : List ℕ) (a s b : S) (form : FileForm) → Makes a (looked_at name (Some form)) s → PutsAt Makes name form bytes s b → IsFilePut name bytes (held a) (held b)
put_found Makes held at mode f name bytes a s b forms.Nothing looked is =
    let found = f a s (looked_at name (Some forms.Nothing)) looked in
    new_put name bytes (held a) (held b) found.1.0 found.1.2
    (put_later name bytes false (held a) (held s) (held b) found.0
    (replaced_by Makes held at mode f name bytes false s b (found.0.tree.places name ∙ found.1.0) is))
put_found Makes held at mode f name bytes a s b forms.File looked is =
    let found = f a s (looked_at name (Some forms.File)) looked in
    file_put name name bytes (held a) (held b) (sym found.1.0)
    (put_later name bytes true (held a) (held s) (held b) found.0
    (replaced_by Makes held at mode f name bytes true s b (found.0.tree.places name ∙ found.1.0) is))
put_found Makes held at mode f name bytes a s b forms.Special looked is =
    let found = f a s (looked_at name (Some forms.Special)) looked in
    let same = found.0.tree.places name in
    special_put name bytes (held a) (held b) (ap (held a).is_special found.1.0 ∙ found.1.1)
    (touched_later ((held a).place_of name) (held a) (held s) (held b) found.0
    (subst (λ (p : List ℕ). IsTouchedAt p (held s) (held b)) same (overwritten_by Makes held at mode f name bytes s b is)))
put_found Makes held at mode f name bytes a s b forms.Link looked is =
    let link = (f a s (looked_at name (Some forms.Link)) looked).0 in
    let seen = f s is.1 (looked_behind name (Some is.0)) is.2 in
    let stay = else_on (λ p. ⊥) (held a) (held s) (held is.1) link seen.0 in
    let special : (held a).is_special ((held a).place_of name) ≡ is_special_behind is.0 =
    sym (ap (held a).is_special (link.tree.places name)) ∙ (sym (link.tree.special ((held s).place_of name)) ∙ seen.1) in
    put_behind Makes held at mode f name bytes a is.1 b is.0 stay special is.3

-- What was not put: an open file alone was touched.
touch_at : {S D M : Type 0} (Makes : S → FileCall D M → S → Type 0) (held : S → Holdings) (at : D → List ℕ) (mode : M → ℕ) → CallsHaveEffects Makes held at mode
    → (place : List ℕ) (file file' : D) (a b : S) → Touches Makes place file file' a b → IsTouchedAt (at file) (held a) (held b) × (at file' ≡ at file)
touch_at Makes held at mode f place file file' a b (inl (None, same, made)) = (touched (at file) (held a) (held b) (f a b (asked_mode place None) made), ap at same)
touch_at Makes held at mode f place file file' a b (inl (Some m, same, made)) = (touched (at file) (held a) (held b) (f a b (asked_mode place (Some m)) made).0, ap at same)
touch_at Makes held at mode f place file file' a b (inr (inl (m, true, same, made))) = ((f a b (set_mode file m true) made).touched, ap at same)
touch_at Makes held at mode f place file file' a b (inr (inl (m, false, same, made))) = (f a b (set_mode file m false) made, ap at same)
touch_at Makes held at mode f place file file' a b (inr (inr (inl (piece, true, made)))) = ((f a b (wrote file piece file' true) made).0.touched, (f a b (wrote file piece file' true) made).1)
touch_at Makes held at mode f place file file' a b (inr (inr (inl (piece, false, made)))) = f a b (wrote file piece file' false) made
touch_at Makes held at mode f place file file' a b (inr (inr (inr (done, same, made)))) = (touched (at file) (held a) (held b) (f a b (synced file done) made), ap at same)

touches_at : {S D M : Type 0} (Makes : S → FileCall D M → S → Type 0) (held : S → Holdings) (at : D → List ℕ) (mode : M → ℕ) → CallsHaveEffects Makes held at mode
    → (place : List ℕ) (n : ℕ) (file file' : D) (a b : S) → TouchesIn Makes place n file file' a b → IsTouchedAt (at file) (held a) (held b) × (at file' ≡ at file)
unfolding TouchesIn
touches_at Makes held at mode f place zero file file' a b is =
    (subst (λ s. IsTouchedAt (at file) (held a) (held s)) (sym is.1) (else_none (λ q. q ≡ at file) (held a)), ap at is.0)
touches_at Makes held at mode f place (suc n) file file' a b is =
    let before = touches_at Makes held at mode f place n file is.0 a is.1 is.2 in
    let last = touch_at Makes held at mode f place is.0 file' is.1 b is.3 in (
      else_on (λ q. q ≡ at file) (held a) (held is.1) (held b) before.0 (subst (λ (p : List ℕ). IsTouchedAt p (held is.1) (held b)) before.1 last.0),
      last.1 ∙ before.1,
    )

filling_touches : {S D M : Type 0} (Makes : S → FileCall D M → S → Type 0) (held : S → Holdings) (at : D → List ℕ) (mode : M → ℕ) → CallsHaveEffects Makes held at mode
    → (draft place : List ℕ) (file : D) (a b : S) → StopsFilling Makes draft place file a b → IsTouchedAt (at file) (held a) (held b)
filling_touches Makes held at mode f draft place file a b (s, is, inl same) =
    subst (λ t. IsTouchedAt (at file) (held a) (held t)) (sym same) (touches_at Makes held at mode f place is.0 file is.1 a s is.2).0
filling_touches Makes held at mode f draft place file a b (s, is, inr made) =
    else_on (λ q. q ≡ at file) (held a) (held s) (held b) (touches_at Makes held at mode f place is.0 file is.1 a s is.2).0
    (touched (at file) (held s) (held b) (f s b (renamed draft place false) made))

-- At the place lies what lay there, and every file lies where it lay.
record Kept (place : List ℕ) (x y : Holdings) : Type 0 where
  own : IsSameAt place x y
  files : (p bytes : List ℕ) → x.bytes_at p ≡ Some bytes → IsSameAt p x y
  tree : IsSameTree x y

stay_kept : (place : List ℕ) (x y : Holdings) → IsUnchanged x y → Kept place x y
stay_kept place x y h = record { own = stays_at x y place h; files = λ p bytes is. stays_at x y p h; tree = h.tree }

kept_later : (place : List ℕ) (x y z : Holdings) → IsUnchanged x y → Kept place y z → Kept place x z
kept_later place x y z h k = record {
  own = same_on place x y z (stays_at x y place h) k.own;
  files = λ p bytes is. same_on p x y z (stays_at x y p h) (k.files p bytes ((stays_at x y p h).bytes ∙ is));
  tree = tree_on x y z h.tree k.tree;
}

replacing_keeps : {S D M : Type 0} (Makes : S → FileCall D M → S → Type 0) (held : S → Holdings) (at : D → List ℕ) (mode : M → ℕ) → CallsHaveEffects Makes held at mode
    → (place : List ℕ) (a b : S) → StopsReplacing Makes place a b → Kept place (held a) (held b)
replacing_keeps Makes held at mode f place a b (inl is) = stay_kept place (held a) (held b) (tries_stay Makes held at mode f place is.0 a b is.1)
replacing_keeps Makes held at mode f place a b (inr (draft, file, s, t, done, made, filled, gone)) =
    let new = made_by Makes held at mode f place draft file a s made in
    let all : IsTouchedAt draft (held a) (held b) =
    else_on (λ q. q ≡ draft) (held a) (held s) (held b) new.0.touched
    (else_on (λ q. q ≡ draft) (held s) (held t) (held b)
    (subst (λ (p : List ℕ). IsTouchedAt p (held s) (held t)) new.1 (filling_touches Makes held at mode f draft place file s t filled))
    (f t b (removed draft done) gone)) in
    record {
      own = all.others place (λ e. new.0.other (sym e));
      files = λ p bytes is. all.others p (λ e. (let both : Some bytes ≡ None = sym is ∙ (ap (held a).bytes_at e ∙ new.0.free) in cc));
      tree = all.tree;
    }

kept_unharmed : (name place : List ℕ) (x y : Holdings) → place ≡ x.place_of name → Kept place x y → IsUnharmed name x y
kept_unharmed name place x y is h = record {
  own = λ plain. subst (λ (p : List ℕ). IsSameAt p x y) is h.own;
  others = λ p bytes other at. h.files p bytes at;
}

special_unharmed : (name : List ℕ) (x y : Holdings) → x.is_special (x.place_of name) ≡ true → IsTouchedAt (x.place_of name) x y → IsUnharmed name x y
special_unharmed name x y special h = record {
  own = λ plain. (let bad : true ≡ false = sym special ∙ plain in cc);
  others = λ p bytes other at. h.others p other;
}

overwriting_touches : {S D M : Type 0} (Makes : S → FileCall D M → S → Type 0) (held : S → Holdings) (at : D → List ℕ) (mode : M → ℕ) → CallsHaveEffects Makes held at mode
    → (name : List ℕ) (a b : S) → StopsOverwriting Makes name a b → IsTouchedAt ((held a).place_of name) (held a) (held b)
overwriting_touches Makes held at mode f name a b (inl made) = touched ((held a).place_of name) (held a) (held b) (f a b (opened name None) made)
overwriting_touches Makes held at mode f name a b (inr (file, s, made, is)) =
    let p = (held a).place_of name in
    let got = f a s (opened name (Some file)) made in
    else_on (λ q. q ≡ p) (held a) (held s) (held b) (touched p (held a) (held s) got.0)
    (subst (λ (q : List ℕ). IsTouchedAt q (held s) (held b)) got.1 (touches_at Makes held at mode f name is.0 file is.1 s b is.2).0)

stopped_over : {S D M : Type 0} (Makes : S → FileCall D M → S → Type 0) (held : S → Holdings) (at : D → List ℕ) (mode : M → ℕ) → CallsHaveEffects Makes held at mode
    → (name : List ℕ) (a s b : S) → IsUnchanged (held a) (held s) → (held a).is_special ((held a).place_of name) ≡ true
    → StopsOverwriting Makes name s b → IsUnharmed name (held a) (held b)
stopped_over Makes held at mode f name a s b stay special is =
    special_unharmed name (held a) (held b) special
    (touched_later ((held a).place_of name) (held a) (held s) (held b) stay
    (subst (λ (p : List ℕ). IsTouchedAt p (held s) (held b)) (stay.tree.places name) (overwriting_touches Makes held at mode f name s b is)))

stays_unharmed : (name : List ℕ) (x y : Holdings) → IsUnchanged x y → IsUnharmed name x y
stays_unharmed name x y h = kept_unharmed name (x.place_of name) x y refl (stay_kept (x.place_of name) x y h)

stopped_behind : {S D M : Type 0} (Makes : S → FileCall D M → S → Type 0) (held : S → Holdings) (at : D → List ℕ) (mode : M → ℕ) → CallsHaveEffects Makes held at mode
    → (name : List ℕ) (a s b : S) (form : FileForm) → IsUnchanged (held a) (held s) → (held a).is_special ((held a).place_of name) ≡ is_special_behind form
    → StopsBehind Makes name form s b → IsUnharmed name (held a) (held b)
stopped_behind Makes held at mode f name a s b forms.File stay special (inl made) =
    stays_unharmed name (held a) (held b) (else_on (λ p. ⊥) (held a) (held s) (held b) stay (f s b (followed name None) made))
stopped_behind Makes held at mode f name a s b forms.File stay special (inr (place, t, made, is)) =
    let led = f s t (followed name (Some place)) made in
    kept_unharmed name place (held a) (held b) (led.1 ∙ stay.tree.places name)
    (kept_later place (held a) (held t) (held b) (else_on (λ p. ⊥) (held a) (held s) (held t) stay led.0) (replacing_keeps Makes held at mode f place t b is))
stopped_behind Makes held at mode f name a s b forms.Nothing stay special is = stopped_over Makes held at mode f name a s b stay special is
stopped_behind Makes held at mode f name a s b forms.Link stay special is = stopped_over Makes held at mode f name a s b stay special is
stopped_behind Makes held at mode f name a s b forms.Special stay special is = stopped_over Makes held at mode f name a s b stay special is

stopped_found : {S D M : Type 0} (Makes : S → FileCall D M → S → Type 0) (held : S → Holdings) (at : D → List ℕ) (mode : M → ℕ) → CallsHaveEffects Makes held at mode
    → (name : List ℕ) (a s b : S) (form : FileForm) → Makes a (looked_at name (Some form)) s → StopsAtCall Makes name form s b → IsUnharmed name (held a) (held b)
stopped_found Makes held at mode f name a s b forms.Nothing looked is =
    let found = f a s (looked_at name (Some forms.Nothing)) looked in
    kept_unharmed name name (held a) (held b) (sym found.1.0) (kept_later name (held a) (held s) (held b) found.0 (replacing_keeps Makes held at mode f name s b is))
stopped_found Makes held at mode f name a s b forms.File looked is =
    let found = f a s (looked_at name (Some forms.File)) looked in
    kept_unharmed name name (held a) (held b) (sym found.1.0) (kept_later name (held a) (held s) (held b) found.0 (replacing_keeps Makes held at mode f name s b is))
stopped_found Makes held at mode f name a s b forms.Special looked is =
    let found = f a s (looked_at name (Some forms.Special)) looked in
    stopped_over Makes held at mode f name a s b found.0 (ap (held a).is_special found.1.0 ∙ found.1.1) is
stopped_found Makes held at mode f name a s b forms.Link looked (inl made) =
    stays_unharmed name (held a) (held b) (else_on (λ p. ⊥) (held a) (held s) (held b) (f a s (looked_at name (Some forms.Link)) looked).0 (f s b (looked_behind name None) made))
stopped_found Makes held at mode f name a s b forms.Link looked (inr (form, t, made, is)) =
    let link = (f a s (looked_at name (Some forms.Link)) looked).0 in
    let seen = f s t (looked_behind name (Some form)) made in
    stopped_behind Makes held at mode f name a t b form (else_on (λ p. ⊥) (held a) (held s) (held t) link seen.0)
    (sym (ap (held a).is_special (link.tree.places name)) ∙ (sym (link.tree.special ((held s).place_of name)) ∙ seen.1)) is

stopped : {S D M : Type 0} (Makes : S → FileCall D M → S → Type 0) (held : S → Holdings) (at : D → List ℕ) (mode : M → ℕ) → CallsHaveEffects Makes held at mode
    → (name : List ℕ) (a b : S) → StopsPutting Makes name a b → IsUnharmed name (held a) (held b)
stopped Makes held at mode f name a b (inl made) = stays_unharmed name (held a) (held b) (f a b (looked_at name None) made)
stopped Makes held at mode f name a b (inr (form, s, made, is)) = stopped_found Makes held at mode f name a s b form made is

pub are_put : {S D M : Type 0} (Makes : S → FileCall D M → S → Type 0) → ArePut Makes
are_put Makes = record {
  puts = λ held at mode f name bytes a b is. put_found Makes held at mode f name bytes a is.1 b is.0 is.2 is.3;
  stops = λ held at mode f name a b is. stopped Makes held at mode f name a b is;
}
