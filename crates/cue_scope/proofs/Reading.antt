-- One declaration more of a text, on the way to its definitions.
use Rattle.std.proofs.Common.{◌≡◌, ◌∙◌, ◌<◌, ◌+◌, ℕ, suc, List, [], ◌∷◌, ◌++◌, None, sym, ap, length, drop, get_or, drop-cons, append_assoc, arith, Vec, Global}
use Rattle.cue_syntax.specs.declared.tree.Declaration.{Declaration}
use Rattle.cue_syntax.specs.declared.tree.Declaration.TheVariants as declarations
use Rattle.cue_syntax.specs.declared.tree.Declaration.TheOpen.{Declaration-F}
use Rattle.cue_syntax.specs.declared.tree.Declaration.TheFolds.{fold-roll-Declaration}
use Rattle.cue_syntax.specs.declared.tree.Expr.{Expr}
use Rattle.cue_syntax.specs.declared.tree.Label.{Label}
use Rattle.cue_syntax.specs.Syntax.{Expression, Entry, Rest, Branch, ellipsis, field, definition, Entries, entry, entry_tree, entries, expression, entry_step, expression_step, rest_step, branch_step}
use Rattle.cue_scope.specs.Definitions.{Definition, definitions, number_of_name, repeats_after}

-- The declarations from one on are that one and those after it.
pub next_declaration : (ds : List Declaration) (i : ℕ) (d : Declaration) → i < length ds → d ≡ get_or ds i d → entries (drop i ds) ≡ entry (entry_tree d) (entries (drop (i + 1) ds))
next_declaration ds i d within is =
    let e : suc i ≡ i + 1 = omega arith in
    ap entries (drop-cons ds i d within) ∙ ap (λ (a : Declaration). entry (entry_tree a) (entries (drop (suc i) ds))) (sym is) ∙ ap (λ n. entry (entry_tree d) (entries (drop n ds))) e

-- What is read to its end is what there is, with one more on the one side or on the other.
pub all_with_next : (old new left rest all : List Definition) (d : Definition) → new ≡ old ++ d ∷ [] → left ≡ d ∷ rest → old ++ left ≡ all → new ++ rest ≡ all
all_with_next old new left rest all d added is before = rw (added, append_assoc) (ap (λ z. old ++ z) (sym is) ∙ before)

-- A name that is new repeats none.
pub repeats_with_next : (old new left rest : List Definition) (d : Definition) (repeats : List ℕ) → new ≡ old ++ d ∷ [] → left ≡ d ∷ rest → number_of_name d.name old ≡ None
    → repeats_after old left ≡ repeats → repeats_after new rest ≡ repeats
repeats_with_next old new left rest d repeats added is unknown before =
    let h : repeats_after old (d ∷ rest) ≡ repeats = ap (repeats_after old) (sym is) ∙ before in
    rw added (rw unknown at h)

-- A definition that stands first, with its name and its chain by other words.
pub first_definition : (name shown : List ℕ) (place : ℕ) (chain labels : List Label) (e : Expression) (rest : Entries) → shown ≡ name → labels ≡ chain
    → definitions (entry (definition name place chain e) rest) ≡ record { name = shown; place = place; chain = labels; value = e } ∷ definitions rest
first_definition name shown place chain labels e rest same_name same_chain =
    ap (λ (n : List ℕ). definitions (entry (definition n place chain e) rest)) (sym same_name)
    ∙ ap (λ (c : List Label). definitions (entry (definition shown place c e) rest)) (sym same_chain)

view_definition : (t : List ℕ) (from : ℕ) (chain : Vec Label Global) (e : Expr) → entry_tree (declarations.Definition t from chain e) ≡ definition t from chain.items (expression e)
view_definition t from chain e = ap entry_tree (sym (declarations.rolls-Definition t from chain e)) ∙ fold-roll-Declaration Entry Expression Rest Branch entry_step expression_step rest_step branch_step (Declaration-F.Definition t from chain e)

-- The definition that stands first is the one that the program reads.
pub definition_read : (d : Declaration) (name shown : List ℕ) (place : ℕ) (chain : Vec Label Global) (labels : List Label) (e : Expr) (rest : Entries)
    → d ≡ declarations.Definition name place chain e → shown ≡ name → labels ≡ chain.items
    → definitions (entry (entry_tree d) rest) ≡ record { name = shown; place = place; chain = labels; value = expression e } ∷ definitions rest
definition_read d name shown place chain labels e rest is same_name same_chain =
    ap (λ (t : Entry). definitions (entry t rest)) (ap entry_tree is ∙ view_definition name place chain e)
    ∙ first_definition name shown place chain.items labels (expression e) rest same_name same_chain

view_field : (label : Label) (chain : Vec Label Global) (e : Expr) → entry_tree (declarations.Field label chain e) ≡ field label chain.items (expression e)
view_field label chain e = ap entry_tree (sym (declarations.rolls-Field label chain e)) ∙ fold-roll-Declaration Entry Expression Rest Branch entry_step expression_step rest_step branch_step (Declaration-F.Field label chain e)

view_ellipsis : entry_tree declarations.Ellipsis ≡ ellipsis
view_ellipsis = ap entry_tree (sym declarations.rolls-Ellipsis) ∙ fold-roll-Declaration Entry Expression Rest Branch entry_step expression_step rest_step branch_step Declaration-F.Ellipsis

-- A field is passed by.
pub field_passed : (d : Declaration) (label : Label) (chain : Vec Label Global) (e : Expr) (rest : Entries) → d ≡ declarations.Field label chain e → definitions (entry (entry_tree d) rest) ≡ definitions rest
field_passed d label chain e rest is = ap (λ (t : Entry). definitions (entry t rest)) (ap entry_tree is ∙ view_field label chain e)

-- The `...` is passed by.
pub ellipsis_passed : (d : Declaration) (rest : Entries) → d ≡ declarations.Ellipsis → definitions (entry (entry_tree d) rest) ≡ definitions rest
ellipsis_passed d rest is = ap (λ (t : Entry). definitions (entry t rest)) (ap entry_tree is ∙ view_ellipsis)
