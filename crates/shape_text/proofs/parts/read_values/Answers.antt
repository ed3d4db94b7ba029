use Rattle.std.proofs.Common.{◌≡◌, ◌+◌, ◌-◌, ◌<◌, arith}
use Rattle.std.proofs.lemmas.Result.{err_from_is_err_and}
use Rattle.shape_text.specs.PartReaders.{up_to, values}
use Rattle.text_tokens.proofs.Times.{times_goes_on, times_fails, times_over}
use Rattle.shape_text.proofs.parts.read_values.Goals as goal

pub returns-in_err-read_up_to-clause-reads : goal.returns-in_err-read_up_to-clause-reads
returns-in_err-read_up_to-clause-reads c =
    let p = err_from_is_err_and c.from_residual.result c.from_residual.ensures.1 in
    let some : 0 < c.args.vars - c.loop-variable._variable = omega (arith, c.loop-variable-test.true) in
    rw (p.1, p.2) (times_fails (up_to 255) (values c.args.vars) c.args.tokens.now c.loop-variable.values.items c.loop-variable.tokens (c.args.vars - c.loop-variable._variable) some c.loop-variable.invariant.reads c.in_err-read_up_to.field-0.0 c.read_up_to.new.tokens c.in_err-read_up_to.ensures.reads)

pub loop-variable-preserved : goal.loop-variable-preserved
loop-variable-preserved c =
    let one : c.args.vars - c.loop-variable._variable ≡ c.args.vars - (c.loop-variable._variable + 1) + 1 = omega (arith, c.loop-variable-test.true) in
    record {
      reads = times_goes_on (up_to 255) (values c.args.vars) c.args.tokens.now c.loop-variable.values.items c.loop-variable.tokens (c.args.vars - c.loop-variable._variable) (c.args.vars - (c.loop-variable._variable + 1)) one c.loop-variable.invariant.reads
          c.in_ok-read_up_to.field-0 c.read_up_to.new.tokens c.in_ok-read_up_to.ensures.reads c.push.new.self.items c.push.ensures.items;
      len = search (c.push.ensures.len, c.loop-variable.invariant.len);
    }

pub returns-clause-reads : goal.returns-clause-reads
returns-clause-reads c =
    let none : c.args.vars - c.loop-variable._variable ≡ 0 = omega (arith, c.loop-variable-test.false) in
    times_over (up_to 255) (values c.args.vars) c.args.tokens.now c.loop-variable.values.items c.loop-variable.tokens (c.args.vars - c.loop-variable._variable) none c.loop-variable.invariant.reads
