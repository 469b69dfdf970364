use Rattle.std.proofs.Common.{sym, ap, subst, ◌∙◌, arith}
use Rattle.std.specs.Option.{option_map, option_or}
use Rattle.cue_lattice.specs.Path.{index}
use Rattle.cue_table.specs.declared.node.Onward.{Onward}
use Rattle.cue_table.specs.Inner.Form.{StepsRise}
use Rattle.cue_table.specs.Inner.View.{branches, run_branches}
use Rattle.cue_table.specs.Tree.{below, find}
use Rattle.cue_table.proofs.Gaps.{own_rise, runs_rise}
use Rattle.cue_table.proofs.Ways.{map_or, element_before}
use Rattle.cue_table.proofs.node.Node.element.Goals as goal

pub find_element-own-requires : goal.find_element-own-requires
find_element-own-requires g c =
    subst (λ cs. StepsRise (branches cs)) (sym c.deref.ensures.value) (own_rise c.self.inside.children.items c.self.inside.rest (subst (λ t. StepsRise (below t)) (sym c.self.view_is) c.requires))

pub find_run-requires : goal.find_run-requires
find_run-requires g c =
    rw c.deref-4.ensures.value (rw c.deref-3.ensures (runs_rise c.self.inside.children.items c.self.inside.rest c.in-Some.onward c.in-Some.is (subst (λ t. StepsRise (below t)) (sym c.self.view_is) c.requires)))

pub returns : goal.returns
returns g c =
    let own = c.find_element-own.ensures ∙ ap (λ cs. find (index c.args.number) (branches cs)) c.deref.ensures.value in
    let runs = c.find_run.ensures ∙ ap (λ rs. find (index c.args.number) (run_branches rs)) (c.deref-4.ensures.value ∙ ap (λ (o : Onward _ _). o.runs.items) c.deref-3.ensures) in
    ap (option_map (λ node. node.now)) c.or.ensures ∙ map_or (λ node. node.now) c.find_element-own.result c.find_run.result
    ∙ ap (λ found. option_or found (option_map (λ node. node.now) c.find_run.result)) own ∙ ap (option_or (find (index c.args.number) (branches c.self.inside.children.items))) runs
    ∙ element_before c.self.inside c.args.self.now c.in-Some.onward c.args.number c.self.view_is c.in-Some.is (omega (arith, c.if-from-deref.false, c.from.ensures, ap (λ (o : Onward _ _). o.from) c.deref-2.ensures))
