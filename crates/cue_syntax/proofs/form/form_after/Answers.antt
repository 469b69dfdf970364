use Rattle.std.proofs.Common.{◌≡◌, rules, subst, sym}
use Rattle.cue_syntax.specs.Refusals.{BeginsPackage}
use Rattle.cue_syntax.proofs.SymbolsNamed.{no_package, form_stands}
use Rattle.cue_syntax.proofs.form.form_after.Goals as goal
use Rattle.cue_syntax.proofs.form.form_after.Goals.{else-read-eq0-via-then-read-eq0+else-begins_package, else-read-eq0-via-else-read-eq0}

pub returns-then-begins_package : goal.returns-then-begins_package
returns-then-begins_package c =
    let first : c.args.read ≡ 0 = search rules in
    λ form stands. stands.1 (subst (λ n. BeginsPackage n c.args.text.rest.now) (sym first) (c.begins_package.ensures.0 c.if-begins_package.true))

pub returns : goal.returns
returns c =
    let clause : ¬ BeginsPackage c.args.read c.args.text.rest.now =
    elim c.else-read-eq0.branch [
      | else-read-eq0-via-then-read-eq0+else-begins_package w ↦
          let first : c.args.read ≡ 0 = search rules in
          let other : ¬ BeginsPackage 0 c.args.text.rest.now = search rules in
          subst (λ n. ¬ BeginsPackage n c.args.text.rest.now) (sym first) other
      | else-read-eq0-via-else-read-eq0 w ↦ no_package c.args.read c.args.text.rest.now (search rules)
    ] in
    form_stands c.form.result c.args.read c.args.text.rest.now c.after.result.rest.now c.spot_after.result c.spot_after.ensures c.after.ensures.rest clause c.form.ensures
