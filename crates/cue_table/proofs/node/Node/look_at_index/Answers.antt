use Rattle.std.proofs.Common.{◌∙◌, min, ap, sym, subst, arith}
use Rattle.std.specs.Option.{option_map, option_or}
use Rattle.cue_table.specs.Inner.Form.{StepsRise}
use Rattle.cue_table.specs.Inner.View.{branches, run_branches}
use Rattle.cue_table.specs.Tree.{below, find}
use Rattle.cue_lattice.specs.Path.{index}
use Rattle.cue_table.specs.Inner.Alike.{AreAlike}
use Rattle.cue_table.specs.declared.node.Onward.{Onward}
use Rattle.cue_table.proofs.Gaps.{alike_both, own_rise, runs_rise}
use Rattle.cue_table.proofs.Ways.{map_or, element_before}
use Rattle.cue_table.proofs.node.Node.look_at_index.Goals as goal

pub look_among-own-requires : goal.look_among-own-requires
look_among-own-requires g c =
    subst (λ cs. StepsRise (branches cs)) (sym c.deref.ensures.value) (own_rise c.self.inside.children.items c.self.inside.rest (subst (λ t. StepsRise (below t)) (sym c.self.view_is) c.requires))

pub look_in_runs-further-requires : goal.look_in_runs-further-requires
look_in_runs-further-requires g c =
    rw c.deref-4.ensures.value (rw c.deref-3.ensures (runs_rise c.self.inside.children.items c.self.inside.rest c.in-Some.onward c.in-Some.is (subst (λ t. StepsRise (below t)) (sym c.self.view_is) c.requires)))

pub returns-clause-node : goal.returns-clause-node
returns-clause-node g c =
    let own = c.look_among-own.ensures.node ∙ ap (λ cs. find (index c.args.number) (branches cs)) c.deref.ensures.value in
    let runs = c.look_in_runs-further.ensures.node ∙ ap (λ rs. find (index c.args.number) (run_branches rs)) (c.deref-4.ensures.value ∙ ap (λ (o : Onward _ _). o.runs.items) c.deref-3.ensures) in
    ap (option_map (λ node. node.now)) c.or.ensures ∙ map_or (λ node. node.now) c.look_among-own.result.node c.look_in_runs-further.result.node
    ∙ ap (λ found. option_or found (option_map (λ node. node.now) c.look_in_runs-further.result.node)) own ∙ ap (option_or (find (index c.args.number) (branches c.self.inside.children.items))) runs
    ∙ element_before c.self.inside c.args.self.now c.in-Some.onward c.args.number c.self.view_is c.in-Some.is (omega (arith, c.if-from-deref.false, c.from.ensures, ap (λ (o : Onward _ _). o.from) c.deref-2.ensures))

pub returns-clause-alike : goal.returns-clause-alike
returns-clause-alike g c =
    let b = c.in-Some.onward in
    let own = c.look_among-own.result.end in
    let further = c.look_in_runs-further.result.end in
    alike_both c.self.inside c.args.self.now b c.args.number own further _ c.self.view_is c.in-Some.is (omega (arith, c.if-from-deref.false, c.from.ensures, ap (λ (o : Onward _ _). o.from) c.deref-2.ensures))
    (subst (λ cs. AreAlike c.args.number own (λ i. find (index i) (branches cs))) c.deref.ensures.value c.look_among-own.ensures.alike)
    (subst (λ rs. AreAlike c.args.number further (λ i. find (index i) (run_branches rs))) (c.deref-4.ensures.value ∙ ap (λ (o : Onward _ _). o.runs.items) c.deref-3.ensures) c.look_in_runs-further.ensures.alike)
    (c.min-2.ensures ∙ ap (λ n. min n c.deref-5.result.now.from) c.min.ensures ∙ ap (λ (o : Onward _ _). min (min own further) o.from) c.deref-5.ensures)
