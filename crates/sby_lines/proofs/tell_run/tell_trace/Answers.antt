use Rattle.std.proofs.Common.{arith}
use Rattle.std.proofs.lemmas.Option.{slice_get-get_or}
use Rattle.std.proofs.lemmas.Result.{err_from_is_err_and}
use Rattle.design_meaning.specs.Runs.{no_cycle}
use Rattle.sby_lines.proofs.CycleLemmas.{cycles_all, cycles_more, cycles_stopped}
use Rattle.sby_lines.proofs.tell_run.tell_trace.Goals as goal

pub returns-in_err-tell_cycle : goal.returns-in_err-tell_cycle
returns-in_err-tell_cycle g c = let p = err_from_is_err_and c.from_residual.result c.from_residual.ensures.1 in
    let at = slice_get-get_or c.args.played.now c.loop-number.number no_cycle (omega (arith, c.loop-number-test.true, c.cycles-number-end.ensures)) in
    rw (p.1, p.2) (λ lines are. cycles_stopped c.args.flat.now c.args.played.now c.loop-number.number _ at _ _ _ _ _ _ lines _ (c.loop-number.invariant.told lines are)
    (λ ls own. c.in_err-tell_cycle.ensures _ ls at own))

pub loop-number-preserved : goal.loop-number-preserved
loop-number-preserved g c =
    let at = slice_get-get_or c.args.played.now c.loop-number.number no_cycle (omega (arith, c.loop-number-test.true, c.cycles-number-end.ensures)) in
    record {
      told = λ lines are. cycles_more c.args.flat.now c.args.played.now c.loop-number.number _ at _ _ _ _ _ _ lines (c.loop-number.invariant.told lines are)
          (λ ls own. c.in_ok-tell_cycle.ensures _ ls at own);
    }

pub returns : goal.returns
returns g c = λ lines are. cycles_all c.args.flat.now c.args.played.now c.loop-number.number _ _ _ _ lines (omega (arith, c.loop-number-test.false, c.cycles-number-end.ensures))
    (c.loop-number.invariant.told lines are)
