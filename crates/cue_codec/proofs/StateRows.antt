-- Rows: their bytes tell them.
use Rattle.std.proofs.Common.{◌≡◌, ℕ, ◌<◌, ◌≤◌, List, [], ◌∷◌, ◌++◌, length, drop, refl, sym, ap, subst, ◌∙◌, append_assoc, arith}
use Rattle.std.proofs.lemmas.List.{append-nil}
use Rattle.cue_row.specs.declared.level.Level.{Level}
use Rattle.cue_row.specs.declared.level.Level.TheVariants.{Optional, Required, Given}
use Rattle.cue_row.specs.declared.parts.RowParts.{RowParts as Row}
use Rattle.cue_row.specs.Levels.{level_of}
use Rattle.cue_row.specs.RowLaws.{same_level}
use Rattle.cue_codec.specs.declared.version.Version.{Version}
use Rattle.cue_codec.specs.Entry.{StatePath, Entry}
use Rattle.cue_codec.specs.Parts.{counted_bytes, path_bytes}
use Rattle.cue_codec.specs.Reading.{ReadsItem, ReadsNoItem, AreCounted}
use Rattle.cue_codec.specs.StateRow.{IsStatePath}
use Rattle.cue_codec.specs.RowBytes.{RowPart, free, scalar, struct, list, nothing, row_part_bytes, parts_of_row, fixed_by, row_bytes, row_of_parts, IsStateParts, IsStateRow, ReadsPart}
use Rattle.cue_codec.specs.State.{state_bytes}
use Rattle.cue_codec.proofs.Codes.{OneItem, one_counted}
use Rattle.cue_codec.proofs.StatePaths.{one_path}
use Rattle.cue_codec.proofs.StateSets.{heads, tails, no_byte}
use Rattle.cue_codec.proofs.RowParts.{one_parts, parts_said}

level_small : (level : Level) → level_of level ≤ 2
level_small Optional = omega arith
level_small Required = omega arith
level_small Given = omega arith

abbrev said : Version → Entry → List ℕ
said version row = row_part_bytes version (parts_of_row row.row row.fixed)

row_split : (version : Version) (row : Entry) (r : List ℕ) → row_bytes version row ++ r ≡ path_bytes version row.path ++ (level_of row.row.level ∷ (said version row ++ r))
unfolding row_bytes
row_split version row r = append_assoc (path_bytes version row.path) (level_of row.row.level ∷ said version row) r

-- a row in front tells itself and the rest
pub one_row : (version : Version) → OneItem (IsStateRow version) (row_bytes version)
one_row version a b r s p q e =
    let path = one_path version a.path b.path (level_of a.row.level ∷ (said version a ++ r)) (level_of b.row.level ∷ (said version b ++ s)) p.path q.path (sym (row_split version a r) ∙ e ∙ row_split version b s) in
    let level = same_level a.row.level b.row.level (heads (level_of a.row.level) (level_of b.row.level) _ _ path.1) in
    let parts = one_parts version (parts_of_row a.row a.fixed) (parts_of_row b.row b.fixed) r s p.parts q.parts (tails (level_of a.row.level) (level_of b.row.level) _ _ path.1) in
    let row : a.row ≡ b.row = p.says ∙ ap (λ (l : Level). row_of_parts l (parts_of_row a.row a.fixed)) level ∙ ap (λ (x : RowPart). row_of_parts b.row.level x) parts.0 ∙ sym q.says in
    let fixed : a.fixed ≡ b.fixed = p.fixed ∙ ap (λ (x : RowPart). fixed_by x) parts.0 ∙ sym q.fixed in
    (λ i. record { path = path.0 i; fixed = fixed i; row = row i }, parts.1)

pub row_path : (version : Version) (bytes : List ℕ) → ReadsNoItem (IsStatePath version) (path_bytes version) bytes → ReadsNoItem (IsStateRow version) (row_bytes version) bytes
row_path version bytes none = λ row s h e. none row.path _ h.path (e ∙ row_split version row s)

behind_path : (version : Version) (bytes rest : List ℕ) (path : StatePath) → ReadsItem (IsStatePath version) (path_bytes version) path bytes rest → (row : Entry) (s : List ℕ) → IsStateRow version row → bytes ≡ row_bytes version row ++ s
    → rest ≡ level_of row.row.level ∷ (said version row ++ s)
behind_path version bytes rest path b row s h e = (one_path version path row.path rest (level_of row.row.level ∷ (said version row ++ s)) b.value h.path (sym b.parts ∙ e ∙ row_split version row s)).1

pub row_cut : (version : Version) (bytes rest : List ℕ) (path : StatePath) → ReadsItem (IsStatePath version) (path_bytes version) path bytes rest → length rest ≡ 0 → ReadsNoItem (IsStateRow version) (row_bytes version) bytes
row_cut version bytes rest path b none = λ row s h e. no_byte rest _ _ none (behind_path version bytes rest path b row s h e)

pub row_level : (version : Version) (bytes rest after : List ℕ) (path : StatePath) (number : ℕ) → ReadsItem (IsStatePath version) (path_bytes version) path bytes rest → rest ≡ number ∷ after → 2 < number → ReadsNoItem (IsStateRow version) (row_bytes version) bytes
row_level version bytes rest after path number b is more = λ row s h e.
    omega (arith, more, level_small row.row.level, heads number (level_of row.row.level) after _ (sym is ∙ behind_path version bytes rest path b row s h e))

pub row_parts : (version : Version) (bytes rest after : List ℕ) (path : StatePath) (number : ℕ) → ReadsItem (IsStatePath version) (path_bytes version) path bytes rest → rest ≡ number ∷ after → ReadsNoItem (IsStateParts version) (row_part_bytes version) after → ReadsNoItem (IsStateRow version) (row_bytes version) bytes
row_parts version bytes rest after path number b is none = λ row s h e.
    none (parts_of_row row.row row.fixed) s h.parts (tails number (level_of row.row.level) after _ (sym is ∙ behind_path version bytes rest path b row s h e))

level_made : (level : Level) (parts : RowPart) → level ≡ (row_of_parts level parts).level
level_made level free = refl
level_made level (scalar v u) = refl
level_made level (struct l) = refl
level_made level (list n) = refl
level_made level (nothing l n) = refl

level_kept : (level : Level) (parts : RowPart) → row_of_parts level parts ≡ row_of_parts (row_of_parts level parts).level parts
level_kept level free = refl
level_kept level (scalar v u) = refl
level_kept level (struct l) = refl
level_kept level (list n) = refl
level_kept level (nothing l n) = refl

pub row_found : (version : Version) (bytes rest after end : List ℕ) (path : StatePath) (number : ℕ) (level : Level) (row : Row) (fixed : ℕ) → ReadsItem (IsStatePath version) (path_bytes version) path bytes rest → rest ≡ number ∷ after → level_of level ≡ number
    → ReadsPart (λ parts. parts) (IsStateParts version) (row_part_bytes version) level row fixed after end → ReadsItem (IsStateRow version) (row_bytes version) (record { path = path; fixed = fixed; row = row }) bytes end
row_found version bytes rest after end path number level row fixed b is same r =
    let made : Entry = record { path = path; fixed = fixed_by r.item; row = row_of_parts level r.item } in
    let told : parts_of_row made.row made.fixed ≡ r.item = parts_said version level r.item r.begins.value in
    let found : ReadsItem (IsStateRow version) (row_bytes version) made bytes end = record {
      value = record {
        path = b.value;
        parts = subst (IsStateParts version) (sym told) r.begins.value;
        says = level_kept level r.item ∙ ap (λ (x : RowPart). row_of_parts made.row.level x) (sym told);
        fixed = ap (λ (x : RowPart). fixed_by x) (sym told);
      };
      parts = b.parts ∙ ap (λ (x : List ℕ). path_bytes version path ++ x) (is ∙ ap (λ (k : ℕ). k ∷ after) (sym same) ∙ ap (λ (k : ℕ). k ∷ after) (ap level_of (level_made level r.item))
          ∙ ap (λ (x : List ℕ). level_of made.row.level ∷ x) (r.begins.parts ∙ ap (λ (x : RowPart). row_part_bytes version x ++ end) (sym told))) ∙ sym (row_split version made end);
    } in
    subst (λ (x : Entry). ReadsItem (IsStateRow version) (row_bytes version) x bytes end) (λ i. record { path = path; fixed = sym r.fixed_is i; row = sym r.says i }) found

-- states tell their rows
pub one_state : (version : Version) (a b : List Entry) → AreCounted (IsStateRow version) a → AreCounted (IsStateRow version) b → state_bytes version a ≡ state_bytes version b → a ≡ b
unfolding state_bytes
one_state version a b p q e =
    let rows : counted_bytes (row_bytes version) a ≡ counted_bytes (row_bytes version) b = ap (λ (t : List ℕ). drop 5 t) e in
    (one_counted (IsStateRow version) (row_bytes version) (one_row version) a b [] [] p q (append-nil (counted_bytes (row_bytes version) a) ∙ rows ∙ sym (append-nil (counted_bytes (row_bytes version) b)))).0
