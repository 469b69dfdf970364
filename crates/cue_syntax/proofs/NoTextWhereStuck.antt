-- The recogniser takes each text of the grammar. So where it is stuck, no text begins so.
use Rattle.std.proofs.Common.{◌≡◌, ◌≢◌, ◌≤◌, ◌+◌, ◌-◌, ◌∙◌, ap, sym, refl, subst, arith, ℕ, suc, length, length-append, take, get_or, Bool, true, false, List, [], ◌∷◌, ◌++◌, codes, Option, None, Some, if◌then◌else◌, true≢false}
use Rattle.std.specs.Cmp.Lexicographic.{same_text}
use Rattle.cue_lex.specs.declared.token.Token.{Token}
use Rattle.cue_lex.specs.declared.token.TokenKind.{TokenKind}
use Rattle.cue_lex.specs.declared.token.TokenKind.TheVariants as kinds
use Rattle.cue_syntax.specs.declared.tree.Identifier.{Identifier}
use Rattle.cue_syntax.specs.declared.tree.Identifier.TheVariants as identifiers
use Rattle.cue_syntax.specs.declared.tree.LabelName.{LabelName}
use Rattle.cue_syntax.specs.declared.tree.LabelName.TheVariants as names
use Rattle.cue_syntax.specs.declared.tree.Package.{Package}
use Rattle.cue_syntax.specs.Syntax.{FileTree, Entry, ellipsis, field, definition, Entries, no_entries, entry}
use Rattle.cue_syntax.specs.Spelling.{SpellsTree, one, comma_if, identifier_kind, label_kind, spell_entry, spell_entries, spell_more_entries, spell_package}
use Rattle.cue_syntax.specs.Grammar.{Limit, Within, IsRightEntry, AreRightEntries, EndsEntries, IsFileTree, HidesDefinition, IsPackageName, IsRightPackage, levels, levels_of_entry, levels_of_entries}
use Rattle.cue_syntax.specs.Viability.{Alike, BeginsText, IsDefinition}
use Rattle.cue_syntax.specs.Recogniser.{Stack, step_stack, rest_where_stuck, rest_where_stuck_behind, depth, fits_limit, is_over, is_word, hides_definition, IsGoalEnd, text, package_word, package_end, entries, more_entries, mark, value}
use Rattle.cue_syntax.proofs.WhatMayFollow.{ClosesExpression, EndsExpression}
use Rattle.cue_syntax.proofs.TakesOneToken.{reads_split, at_end_before, begins, same, within_less, took}
use Rattle.cue_syntax.proofs.TakesSmallPieces.{TakesMark, plain_mark}
use Rattle.cue_syntax.proofs.TakesOperands.{head_comma}
use Rattle.cue_syntax.proofs.TakesDeclarations.{takes_field, takes_entry, takes_more_entries, takes_entries, head_entries}
use Rattle.cue_syntax.proofs.TakesEachPart.{takes_declaration, take_entries}

-- the end of a text
ends : (limit : Limit) {a : List Token} (comma : Bool) → SpellsTree a (comma_if comma) [] → Within limit 0 → rest_where_stuck limit (more_entries true ∷ []) a ≡ None
ends limit true reads within = took limit (more_entries true ∷ []) (entries true ∷ []) reads refl within
ends limit false reads within = ap (rest_where_stuck limit (more_entries true ∷ [])) reads.follows

ends_text : {a : List Token} (comma : Bool) → SpellsTree a (comma_if comma) [] → EndsExpression a
ends_text comma reads = at_end_before ClosesExpression (comma_if comma) reads (head_comma comma) tt

-- the declarations of a text, after a package clause
takes_declarations : (limit : Limit) {a b : List Token} (es : Entries) (comma : Bool) → AreRightEntries es → EndsEntries comma es → SpellsTree a (spell_entries es) b → SpellsTree b (comma_if comma) []
    → Within limit (levels_of_entries es) → rest_where_stuck limit (entries true ∷ []) a ≡ None
takes_declarations limit no_entries true right end first second within = absurd end
takes_declarations limit no_entries false right end first second within = ap (rest_where_stuck limit (entries true ∷ [])) (first.follows ∙ second.follows)
takes_declarations limit (entry e es) comma right end first second within =
    takes_entries true e es (take_entries (entry e es) right) right tt limit [] _ _ first (ends_text comma second)
    (within_less limit _ (levels_of_entries (entry e es)) (omega arith) within)
    ∙ ends limit comma second (within_less limit _ (levels_of_entries (entry e es)) (omega arith) within)

-- the first declaration of a text; `package` may be its label
word_step : (t : List ℕ) (w : Bool) → is_word (codes "package") t ≡ w
    → step_stack (text ∷ []) (kinds.Name t) ≡ Some (if w then package_word ∷ [] else mark ∷ value ∷ more_entries true ∷ [])
word_step t true is = ap (λ w. if w then Some (package_word ∷ []) else Some (mark ∷ value ∷ more_entries true ∷ [])) is
word_step t false is = ap (λ w. if w then Some (package_word ∷ []) else Some (mark ∷ value ∷ more_entries true ∷ [])) is

package_mark : TakesMark (package_word ∷ []) (value ∷ more_entries true ∷ [])
package_mark = record { regular = refl; optional = refl; required = refl }

-- what is left to come after the name of a first label
pub record Behind (n : LabelName) : Type 0 where
  pub middle : Stack
  pub steps : step_stack (text ∷ []) (label_kind n) ≡ Some middle
  pub deep : depth middle ≡ depth (more_entries true ∷ [])
  pub marks : TakesMark middle (value ∷ more_entries true ∷ [])

behind : (n : LabelName) → Behind n
behind (names.Quoted t) = record { middle = mark ∷ value ∷ more_entries true ∷ []; steps = refl; deep = refl; marks = plain_mark (value ∷ more_entries true ∷ []) }
behind (names.Plain t) = by (is_word (codes "package") t) refl
  where
    by : (w : Bool) → is_word (codes "package") t ≡ w → Behind (names.Plain t)
    by true is = record { middle = package_word ∷ []; steps = word_step t true is; deep = refl; marks = package_mark }
    by false is = record { middle = mark ∷ value ∷ more_entries true ∷ []; steps = word_step t false is; deep = refl; marks = plain_mark (value ∷ more_entries true ∷ []) }

definition_step : (k : TokenKind) → IsDefinition k → step_stack (text ∷ []) k ≡ step_stack (entries true ∷ []) k
definition_step (kinds.Definition t) is = refl
definition_step _ is = absurd is

takes_first : (limit : Limit) (a b : List Token) (e : Entry) → IsRightEntry e → SpellsTree a (spell_entry e) b → EndsExpression b → Within limit (levels_of_entry e)
    → rest_where_stuck limit (text ∷ []) a ≡ rest_where_stuck limit (more_entries true ∷ []) b
takes_first limit a b ellipsis right reads end within = took limit (text ∷ []) (more_entries true ∷ []) reads refl (within_less limit _ 0 (omega arith) within)
takes_first limit a b (field l chain e) right reads end within =
    let m = behind l.name in
    takes_field l chain e (takes_declaration (field l chain e) right) right limit (text ∷ []) m.middle (more_entries true ∷ []) m.steps m.deep m.marks a b reads end
    (within_less limit _ (length chain + levels e) (omega arith) within)
takes_first limit a b (definition n from chain e) right reads end within =
    same limit (text ∷ []) (entries true ∷ []) IsDefinition refl definition_step a (begins IsDefinition (spell_entry (definition n from chain e)) reads tt)
    ∙ takes_entry true (definition n from chain e) (takes_declaration (definition n from chain e) right) right tt limit [] a b reads end
    (within_less limit _ (length chain + levels e) (omega arith) within)

-- a text with no package clause
takes_plain : (limit : Limit) {a b : List Token} (es : Entries) (comma : Bool) → AreRightEntries es → EndsEntries comma es → SpellsTree a (spell_entries es) b → SpellsTree b (comma_if comma) []
    → Within limit (levels_of_entries es) → rest_where_stuck limit (text ∷ []) a ≡ None
takes_plain limit no_entries true right end first second within = absurd end
takes_plain limit no_entries false right end first second within = ap (rest_where_stuck limit (text ∷ [])) (first.follows ∙ second.follows)
takes_plain limit (entry e es) comma right end first second within =
    let t = reads_split (spell_entry e) (spell_more_entries es) first in
    takes_first limit _ t.between e right.0 t.first (at_end_before ClosesExpression (spell_more_entries es) t.second (head_entries es) (ends_text comma second))
    (within_less limit _ (levels_of_entries (entry e es)) (omega arith) within)
    ∙ takes_more_entries true es (take_entries es right.1) right.1 tt limit [] t.between _ t.second (ends_text comma second)
    (within_less limit _ (levels_of_entries (entry e es)) (omega arith) within)
    ∙ ends limit comma second (within_less limit _ (levels_of_entries (entry e es)) (omega arith) within)

-- a package clause
begins_hidden : (t : List ℕ) → hides_definition t ≡ true → HidesDefinition t
begins_hidden [] is = absurd (true≢false (sym is))
begins_hidden (x ∷ []) is = absurd (let e : codes "_#" ≡ x ∷ [] = same_text (codes "_#") (x ∷ []) (sym is) in cc)
begins_hidden (x ∷ y ∷ t) is =
    let e : codes "_#" ≡ x ∷ y ∷ [] = same_text (codes "_#") (x ∷ y ∷ []) (sym is) in
    (sym (ap (λ l. get_or l 0 0) e), sym (ap (λ l. get_or l 1 0) e))

shows : (t : List ℕ) → ¬ HidesDefinition t → hides_definition t ≡ false
shows t other = by (hides_definition t) refl
  where
    by : (b : Bool) → hides_definition t ≡ b → hides_definition t ≡ false
    by true is = absurd (other (begins_hidden t is))
    by false is = is

package_step : (n : Identifier) → IsPackageName n → step_stack (package_word ∷ []) (identifier_kind n) ≡ Some (package_end ∷ [])
package_step (identifiers.Plain t) is = refl
package_step (identifiers.Definition t) is = absurd is
package_step (identifiers.Hidden t) is = ap (λ h. if h then None else Some (package_end ∷ [])) (shows t is)

takes_clause_end : (limit : Limit) {a b c : List Token} (closed : Bool) (es : Entries) (comma : Bool) → (closed ≡ false → es ≡ no_entries) → AreRightEntries es → EndsEntries comma es
    → SpellsTree a (comma_if closed) b → SpellsTree b (spell_entries es) c → SpellsTree c (comma_if comma) [] → Within limit (levels_of_entries es) → rest_where_stuck limit (package_end ∷ []) a ≡ None
takes_clause_end limit true es comma clause right end first second third within =
    took limit (package_end ∷ []) (entries true ∷ []) first refl (within_less limit _ (levels_of_entries es) (omega arith) within)
    ∙ takes_declarations limit es comma right end second third within
takes_clause_end limit false no_entries true clause right end first second third within = absurd end
takes_clause_end limit false no_entries false clause right end first second third within = ap (rest_where_stuck limit (package_end ∷ [])) (first.follows ∙ second.follows ∙ third.follows)
takes_clause_end limit false (entry e es) comma clause right end first second third within = absurd (let is : entry e es ≡ no_entries = clause refl in cc)

-- a clause and the declarations after it
package_named : (clause : Package) (es : Entries) → IsRightPackage (Some clause) es → IsPackageName clause.name
package_named clause no_entries is = is
package_named clause (entry e es) is = is.0

package_parted : (clause : Package) (es : Entries) → IsRightPackage (Some clause) es → clause.comma ≡ false → es ≡ no_entries
package_parted clause no_entries is none = refl
package_parted clause (entry e es) is none = absurd (true≢false (sym is.1 ∙ none))

takes_file : (limit : Limit) (a : List Token) (clause : Option Package) (es : Entries) (comma : Bool) → IsRightPackage clause es → AreRightEntries es → EndsEntries comma es
    → SpellsTree a (spell_package clause ++ spell_entries es ++ comma_if comma) [] → Within limit (levels_of_entries es) → rest_where_stuck limit (text ∷ []) a ≡ None
takes_file limit a None es comma named right end reads within =
    let s = reads_split (spell_entries es) (comma_if comma) reads in
    takes_plain limit es comma right end s.first s.second within
takes_file limit a (Some clause) es comma named right end reads within =
    let s = reads_split (spell_package (Some clause) ++ spell_entries es) (comma_if comma) reads in
    let t = reads_split (spell_package (Some clause)) (spell_entries es) s.first in
    let u = reads_split (one (kinds.Name (codes "package"))) (one (identifier_kind clause.name) ++ comma_if clause.comma) t.first in
    let v = reads_split (one (identifier_kind clause.name)) (comma_if clause.comma) u.second in
    took limit (text ∷ []) (package_word ∷ []) u.first refl (within_less limit _ (levels_of_entries es) (omega arith) within)
    ∙ took limit (package_word ∷ []) (package_end ∷ []) v.first (package_step clause.name (package_named clause es named)) (within_less limit _ (levels_of_entries es) (omega arith) within)
    ∙ takes_clause_end limit clause.comma es comma (package_parted clause es named) right end v.second t.second s.second within

-- each text of the grammar is taken whole
pub takes_text : (limit : Limit) (tokens : List Token) (file : FileTree) → IsFileTree limit tokens file → rest_where_stuck limit (text ∷ []) tokens ≡ None
takes_text limit tokens file is = takes_file limit tokens file.package_clause file.declarations file.comma is.clause is.right is.ends is.reads is.levels

-- Where the goals are stuck: the tokens that they read, and that they are stuck in all tokens alike so far.
pub record StuckAt (limit : Limit) (goals : Stack) (tokens here : List Token) : Type 0 where
  pub read : List Token
  pub is : tokens ≡ read ++ here
  pub alike : (others : List Token) → Alike (suc (length read)) tokens others → rest_where_stuck limit goals others ≢ None

stops_now : (limit : Limit) (goals : Stack) (t : Token) (ts here : List Token) → ((rest : List Token) → rest_where_stuck limit goals (t ∷ rest) ≡ Some (t ∷ rest)) → Some (t ∷ ts) ≡ Some here
    → StuckAt limit goals (t ∷ ts) here
stops_now limit goals t ts here refuses is = record { read = []; is = cc; alike = others_stop }
  where
    others_stop : (others : List Token) → Alike 1 (t ∷ ts) others → rest_where_stuck limit goals others ≢ None
    others_stop [] alike = absurd (let e : (t ∷ []) ≡ [] = alike in cc)
    others_stop (x ∷ rest) alike = λ none. let e : (t ∷ []) ≡ (x ∷ []) = alike in
        let same_token : t ≡ x = cc in
        let stays : rest_where_stuck limit goals (x ∷ rest) ≡ Some (x ∷ rest) = subst (λ z. rest_where_stuck limit goals (z ∷ rest) ≡ Some (z ∷ rest)) same_token (refuses rest) in
        let wrong : Some (x ∷ rest) ≡ None = sym stays ∙ none in cc

stops_later : (limit : Limit) (goals next : Stack) (t : Token) (ts here : List Token) → ((rest : List Token) → rest_where_stuck limit goals (t ∷ rest) ≡ rest_where_stuck limit next rest) → StuckAt limit next ts here
    → StuckAt limit goals (t ∷ ts) here
stops_later limit goals next t ts here goes_on later = record { read = t ∷ later.read; is = ap (λ l. t ∷ l) later.is; alike = others_stop }
  where
    others_stop : (others : List Token) → Alike (suc (suc (length later.read))) (t ∷ ts) others → rest_where_stuck limit goals others ≢ None
    others_stop [] alike = absurd (let e : (t ∷ take (suc (length later.read)) ts) ≡ [] = alike in cc)
    others_stop (x ∷ rest) alike = λ none. let e : (t ∷ take (suc (length later.read)) ts) ≡ (x ∷ take (suc (length later.read)) rest) = alike in
        let same_token : t ≡ x = cc in
        let same_rest : take (suc (length later.read)) ts ≡ take (suc (length later.read)) rest = cc in
        let stays : rest_where_stuck limit goals (x ∷ rest) ≡ rest_where_stuck limit next rest = subst (λ z. rest_where_stuck limit goals (z ∷ rest) ≡ rest_where_stuck limit next rest) same_token (goes_on rest) in
        later.alike rest same_rest (sym stays ∙ none)

stops_by : (limit : Limit) (goals : Stack) (t : Token) (ts here : List Token) (s : Option Stack) → step_stack goals t.kind ≡ s → rest_where_stuck limit goals (t ∷ ts) ≡ Some here
    → ((next : Stack) → rest_where_stuck limit next ts ≡ Some here → StuckAt limit next ts here) → StuckAt limit goals (t ∷ ts) here
stops_by limit goals t ts here None is stops further =
    let refuses : (rest : List Token) → rest_where_stuck limit goals (t ∷ rest) ≡ Some (t ∷ rest) = λ rest. ap (λ s. rest_where_stuck_behind limit s (t ∷ rest) (λ n. rest_where_stuck limit n rest)) is in
    stops_now limit goals t ts here refuses (sym (refuses ts) ∙ stops)
stops_by limit goals t ts here (Some next) is stops further = by (fits_limit limit (depth next)) refl
  where
    steps : (rest : List Token) (f : Bool) → fits_limit limit (depth next) ≡ f → rest_where_stuck limit goals (t ∷ rest) ≡ (if f then rest_where_stuck limit next rest else Some (t ∷ rest))
    steps rest f fit = ap (λ s. rest_where_stuck_behind limit s (t ∷ rest) (λ n. rest_where_stuck limit n rest)) is ∙ ap (λ f. if f then rest_where_stuck limit next rest else Some (t ∷ rest)) fit

    by : (f : Bool) → fits_limit limit (depth next) ≡ f → StuckAt limit goals (t ∷ ts) here
    by true fit = stops_later limit goals next t ts here (λ rest. steps rest true fit) (further next (sym (steps ts true fit) ∙ stops))
    by false fit = stops_now limit goals t ts here (λ rest. steps rest false fit) (sym (steps ts false fit) ∙ stops)

stops_at_end : (limit : Limit) (goals : Stack) (here : List Token) → rest_where_stuck limit goals [] ≡ Some here → StuckAt limit goals [] here
stops_at_end limit goals here stops = by (is_over goals) refl
  where
    others_stop : (others : List Token) → Alike 1 [] others → rest_where_stuck limit goals others ≢ None
    others_stop [] alike = λ none. let wrong : Some here ≡ None = sym stops ∙ none in cc
    others_stop (x ∷ rest) alike = absurd (let e : [] ≡ (x ∷ []) = alike in cc)

    by : (o : Bool) → is_over goals ≡ o → StuckAt limit goals [] here
    by true over = absurd (let wrong : None ≡ Some here = sym (ap (λ o. if o then None else Some []) over) ∙ stops in cc)
    by false over = record {
      read = [];
      is = let e : Some [] ≡ Some here = sym (ap (λ o. if o then None else Some []) over) ∙ stops in cc;
      alike = others_stop;
    }

-- where the goals are stuck
pub stuck_at : (limit : Limit) (goals : Stack) (tokens here : List Token) → rest_where_stuck limit goals tokens ≡ Some here → StuckAt limit goals tokens here
stuck_at limit goals [] here is = stops_at_end limit goals here is
stuck_at limit goals (t ∷ ts) here is = stops_by limit goals t ts here (step_stack goals t.kind) refl is (λ next. stuck_at limit next ts here)

-- where the goals are stuck, what is left is the last of the tokens
pub stuck_at_end : (limit : Limit) (goals : Stack) (tokens here : List Token) → rest_where_stuck limit goals tokens ≡ Some here → IsGoalEnd tokens here
stuck_at_end limit goals tokens here is = let s = stuck_at limit goals tokens here is in record { read = s.read; is = s.is }

-- where the goals are stuck, no more tokens are left than there were
pub stuck_inside : (limit : Limit) (goals : Stack) (tokens here : List Token) → rest_where_stuck limit goals tokens ≡ Some here → length here ≤ length tokens
stuck_inside limit goals tokens here is = let s = stuck_at limit goals tokens here is in omega (arith, ap length s.is, length-append s.read here)

-- stuck after as many tokens in all tokens that are alike so far
pub stuck_alike : (limit : Limit) (goals : Stack) (tokens here others : List Token) → rest_where_stuck limit goals tokens ≡ Some here → Alike (suc (length tokens - length here)) tokens others
    → rest_where_stuck limit goals others ≢ None
stuck_alike limit goals tokens here others is alike =
    let s = stuck_at limit goals tokens here is in
    let count : length tokens - length here ≡ length s.read = omega (arith, ap length s.is, length-append s.read here) in
    s.alike others (subst (λ n. Alike (suc n) tokens others) count alike)

-- where the recogniser is stuck, no text begins so
pub stuck_begins_none : (limit : Limit) (tokens here : List Token) → rest_where_stuck limit (text ∷ []) tokens ≡ Some here → ¬ BeginsText limit (suc (length tokens - length here)) tokens
stuck_begins_none limit tokens here is = λ b. stuck_alike limit (text ∷ []) tokens here b.whole is b.alike (takes_text limit b.whole b.tree b.is)

-- the same, where the tokens that were read are known
pub read_begins_none : (limit : Limit) (tokens read here : List Token) → rest_where_stuck limit (text ∷ []) tokens ≡ Some here → tokens ≡ read ++ here → ¬ BeginsText limit (suc (length read)) tokens
read_begins_none limit tokens read here is parts =
    let count : length tokens - length here ≡ length read = omega (arith, ap length parts, length-append read here) in
    subst (λ n. ¬ BeginsText limit (suc n) tokens) count (stuck_begins_none limit tokens here is)
