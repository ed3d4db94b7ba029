use Rattle.std.proofs.Common.{◌≡◌, ◌∙◌, map, true, sym, ap, subst, arith}
use Rattle.std.proofs.lemmas.List.{get_or-map, length-map}
use Rattle.action_tree.specs.Writable.{is_writable}
use Rattle.action_check.specs.Maxes.{maxes_of}
use Rattle.action_check.specs.Rules.{ProgramKept}
use Rattle.action_check.proofs.MaxesLemmas.{filled, few_vars, small_max, all_filled}
use Rattle.action_check.proofs.checked.Checked.maxes.Goals as goal

pub overflow_cast-maxes : goal.overflow_cast-maxes
overflow_cast-maxes c =
    let kept = subst ProgramKept (sym c.program.ensures.program) c.program.ensures.kept in
    omega (arith, small_max c.program.result.now c.vars-vars.result.now c.loop-i.i c.index-vars-i.result kept c.vars-vars.ensures c.loop-i-test.true c.index-vars-i.is)

pub bounds-maxes-i : goal.bounds-maxes-i
bounds-maxes-i c =
    let w : is_writable c.program.result.now ≡ true = ap is_writable c.program.ensures.program ∙ c.program.ensures.writable in
    omega (arith, few_vars c.program.result.now c.vars-vars.result.now w c.vars-vars.ensures)

pub loop-i-preserved : goal.loop-i-preserved
loop-i-preserved c =
    let w : is_writable c.program.result.now ≡ true = ap is_writable c.program.ensures.program ∙ c.program.ensures.writable in
    let at_most = few_vars c.program.result.now c.vars-vars.result.now w c.vars-vars.ensures in
    let read = get_or-map (λ v. v.max.value) c.vars-vars.result.now c.loop-i.i c.index-vars-i.result 0 c.loop-i-test.true in
    filled 8 c.loop-i.i (map (λ v. v.max.value) c.vars-vars.result.now) c.loop-i.maxes c.index-vars-i.result.max.value c.loop-i.invariant
    (omega (arith, length-map c.vars-vars.result.now (λ v. v.max.value))) (omega arith) (ap (λ v. v.max.value) c.index-vars-i.is ∙ sym read)

pub returns : goal.returns
returns c = all_filled c.program.result.now c.vars-vars.result.now c.loop-i.i c.loop-i.maxes c.vars-vars.ensures c.loop-i.invariant c.loop-i-test.false ∙ ap maxes_of c.program.ensures.program
