use Rattle.std.proofs.Common.{arith, ◌≡◌, None, length, sym, ap, ◌∙◌}
use Rattle.std.specs.HashMap as hash
use Rattle.std.specs.Str.{bytes_eq}
use Rattle.cue_scope.specs.Definitions.{number_of_name}
use Rattle.cue_scope.specs.Listed.{definition_list, definition_of}
use Rattle.cue_scope.proofs.Numbers.{number_new, listed_push, length_listed, none_of}
use Rattle.cue_scope.proofs.definitions.add.Goals as goal

pub returns-clause-numbered : goal.returns-clause-numbered
returns-clause-numbered c = λ name.
    let absent : hash.get_by (λ k. bytes_eq c.args.definition.name.now k.now) c.args.numbers.now ≡ None =
    none_of (hash.get_by (λ k. bytes_eq c.args.definition.name.now k.now) c.args.numbers.now) (sym c.contains_key.ensures ∙ c.if-contains_key.false) in
    let unknown : number_of_name c.args.definition.name.now (definition_list c.args.list.now.items) ≡ None = sym (c.requires c.args.definition.name.now) ∙ absent in
    let count : c.len.result ≡ length (definition_list c.args.list.now.items) = let e = length_listed c.args.list.now.items in let f = c.len.ensures in omega arith in
    let found = rw (c.requires name, count) at (c.in_ok-put.ensures.put name) in
    let all = ap definition_list c.in_ok-push.ensures.pushed ∙ listed_push c.args.list.now.items c.args.definition in
    number_new name (definition_list c.args.list.now.items) (definition_of c.args.definition) _ unknown found ∙ ap (λ z. number_of_name name z) (sym all)
