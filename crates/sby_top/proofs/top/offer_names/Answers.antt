use Rattle.std.proofs.lemmas.Result.{err_from_is_err_and}
use Rattle.design_core.proofs.Lists.{item_at}
use Rattle.sby_lines.proofs.TellLemmas.{told_all, told_more, told_start, told_stopped}
use Rattle.sby_top.proofs.TurnLemmas.{lines_end, lines_next}
use Rattle.sby_top.proofs.top.offer_names.Goals as goal

pub loop-name-init : goal.loop-name-init
loop-name-init g c = record { told = told_start _ _ _ }

pub returns-in_err-tell_name : goal.returns-in_err-tell_name
returns-in_err-tell_name g c = let p = err_from_is_err_and c.from_residual.result c.from_residual.ensures.1 in
    rw (p.1, p.2) (told_stopped {T = Unit {0}} {U = Unit {0}} _ _ _ _ _ _ _ _ _ _ _
    (lines_next c.args.names.now c.loop-name.name-index c.name-item.result c.as_str.result.now (item_at c.args.names.now c.loop-name.name-index c.name-item.result c.name-item.is c.loop-name-test.true) c.as_str.ensures.value)
    c.loop-name.invariant.told c.in_err-tell_name.ensures)

pub loop-name-preserved : goal.loop-name-preserved
loop-name-preserved g c = record {
  told = told_more _ _ _ _ _ _ _ _ _ _
      (lines_next c.args.names.now c.loop-name.name-index c.name-item.result c.as_str.result.now (item_at c.args.names.now c.loop-name.name-index c.name-item.result c.name-item.is c.loop-name-test.true) c.as_str.ensures.value)
      c.loop-name.invariant.told c.in_ok-tell_name.ensures;
}

pub returns : goal.returns
returns g c = told_all _ _ _ _ _ _ (lines_end c.args.names.now c.loop-name.name-index c.loop-name-test.false) c.loop-name.invariant.told
