use Rattle.std.proofs.Common.{◌≡◌, ◌∙◌, Bool, ap, arith}
use Rattle.cnf_form.specs.Cnf.{lit_in}
use Rattle.gate_graph.specs.Laws.{keeps}
use Rattle.gate_graph.specs.Folding.{xor}
use Rattle.gate_rows.proofs.Building.{Builds-trans, Builds-gate, later}
use Rattle.gate_rows.specs.Literals.{Builds}
use Rattle.gate_rows.proofs.sums.adder.Goals as goal

pub returns-in_err-carry-clause-builds : goal.returns-in_err-carry-clause-builds
returns-in_err-carry-clause-builds c =
    Builds-trans c.args.gates.now c.make-2.new.gates c.make-3.new.gates 2 1 3
    (Builds-trans c.args.gates.now c.make.new.gates c.make-2.new.gates 1 1 2 c.make.ensures.builds c.make-2.ensures.builds (omega arith)) c.make-3.ensures.builds (omega arith)

pub returns-clause-builds : goal.returns-clause-builds
returns-clause-builds c =
    Builds-trans c.args.gates.now c.make-2.new.gates c.make-3.new.gates 2 1 3
    (Builds-trans c.args.gates.now c.make.new.gates c.make-2.new.gates 1 1 2 c.make.ensures.builds c.make-2.ensures.builds (omega arith)) c.make-3.ensures.builds (omega arith)

pub returns-clause-adder : goal.returns-clause-adder
returns-clause-adder c =
    let u = c.in_ok-differ.ensures.gate in
    let v = c.in_ok-sum.ensures.gate in
    let w = c.in_ok-carry.ensures.gate in
    record {
      builds = Builds-trans c.args.gates.now c.make-2.new.gates c.make-3.new.gates 2 1 3
          (Builds-trans c.args.gates.now c.make.new.gates c.make-2.new.gates 1 1 2 c.make.ensures.builds c.make-2.ensures.builds (omega arith)) c.make-3.ensures.builds (omega arith);
      within = later c.make-2.new.gates.formula.vars c.make-3.new.gates.formula.vars c.in_ok-sum.sum w.continues.vars v.within;
      carry_within = w.within;
      sum = λ x t.
          let tk = keeps c.make-2.new.gates c.make-3.new.gates w.continues x t in
          let th = keeps c.make.new.gates c.make-2.new.gates v.continues x tk in
          v.means x tk ∙ ap (λ (b : Bool). xor b (lit_in x c.args.r)) (u.means x th);
      carry = w.means;
    }
