use Rattle.std.proofs.Common.{◌∙◌, ap, arith}
use Rattle.cnf_form.specs.Cnf.{FormulaOf}
use Rattle.put_tests.proofs.job_files.formula_of.Goals as goal

pub next-requires : goal.next-requires
next-requires g c = (c.loop-number.number, c.loop-number.invariant.place, omega arith)

pub loop-number-preserved : goal.loop-number-preserved
loop-number-preserved g c =
    let v = c.loop-number.invariant in
    record {
      vars = ap (λ (f : FormulaOf). f.vars) c.in_ok-push_given.ensures ∙ v.vars;
      place = c.next.ensures.place c.loop-number.number v.place (omega arith);
    }
