use Rattle.std.proofs.Common.{◌≡◌, ◌+◌, ℕ, true, length, take, sym, ap, ◌∙◌, subst, arith}
use Rattle.std.proofs.lemmas.List.{length-take}
use Rattle.std.proofs.lemmas.List.Elements.{All-get_or}
use Rattle.cnf_form.specs.Cnf.{LitWithin}
use Rattle.gate_graph.specs.Circuit.{GatesOf}
use Rattle.gate_graph.specs.Kept.{lit_of}
use Rattle.net_pair.specs.Pairing.{chain}
use Rattle.net_pair.proofs.Laying.{all_step, chain_length, chain_step, with_gates_vars}
use Rattle.net_pair.proofs.Placing.{within_more}
use Rattle.net_pair.proofs.cycles.push_all.Goals as goal

pub gate-requires-clause-room : goal.gate-requires-clause-room
gate-requires-clause-room c =
    let gates = chain (c.args.circuit.now.formula.vars + 1) (lit_of 1 true) (take c.loop-lit.lit-index c.args.lits.now) in
    let v : c.loop-lit.circuit.formula.vars ≡ c.args.circuit.now.formula.vars + length gates = ap (λ (g : GatesOf). g.formula.vars) c.loop-lit.invariant.circuit ∙ with_gates_vars c.args.circuit.now gates in
    let l = chain_length (c.args.circuit.now.formula.vars + 1) (lit_of 1 true) (take c.loop-lit.lit-index c.args.lits.now) in
    let m = length-take c.loop-lit.lit-index c.args.lits.now in
    let t = c.loop-lit-test.true in
    let r = c.requires.room in
    omega arith

pub gate-requires-clause-within : goal.gate-requires-clause-within
gate-requires-clause-within c =
    let gates = chain (c.args.circuit.now.formula.vars + 1) (lit_of 1 true) (take c.loop-lit.lit-index c.args.lits.now) in
    let v : c.loop-lit.circuit.formula.vars ≡ c.args.circuit.now.formula.vars + length gates = ap (λ (g : GatesOf). g.formula.vars) c.loop-lit.invariant.circuit ∙ with_gates_vars c.args.circuit.now gates in
    let here = subst (LitWithin c.args.circuit.now.formula.vars) (sym c.lit-item.is) (All-get_or (LitWithin c.args.circuit.now.formula.vars) c.args.lits.now c.loop-lit.lit-index c.lit-item.result c.loop-lit-test.true c.requires.lits) in
    (c.loop-lit.invariant.within, (within_more c.args.circuit.now.formula.vars c.loop-lit.circuit.formula.vars c.lit-item.result (omega arith) here, tt))

pub loop-lit-preserved : goal.loop-lit-preserved
loop-lit-preserved c =
    let v1 = c.args.circuit.now.formula.vars + 1 in
    let gates = chain (c.args.circuit.now.formula.vars + 1) (lit_of 1 true) (take c.loop-lit.lit-index c.args.lits.now) in
    let v : c.loop-lit.circuit.formula.vars ≡ c.args.circuit.now.formula.vars + length gates = ap (λ (g : GatesOf). g.formula.vars) c.loop-lit.invariant.circuit ∙ with_gates_vars c.args.circuit.now gates in
    let l = chain_length (c.args.circuit.now.formula.vars + 1) (lit_of 1 true) (take c.loop-lit.lit-index c.args.lits.now) in
    let m = length-take c.loop-lit.lit-index c.args.lits.now in
    let t = c.loop-lit-test.true in
    record {
      circuit = chain_step c.args.circuit.now c.loop-lit.circuit c.gate.new.self (c.args.circuit.now.formula.vars + 1) (lit_of 1 true) c.args.lits.now c.loop-lit.lit-index c.lit-item.result c.loop-lit.all c.loop-lit-test.true c.lit-item.is
          c.loop-lit.invariant.circuit c.loop-lit.invariant.all c.in_ok-all.ensures.new;
      all = c.in_ok-all.ensures.literal ∙ ap (λ (n : ℕ). lit_of n true) (let z : c.loop-lit.circuit.formula.vars + 1 ≡ c.args.circuit.now.formula.vars + 1 + c.loop-lit.lit-index = omega arith in z)
          ∙ sym (all_step (c.args.circuit.now.formula.vars + 1) (lit_of 1 true) c.args.lits.now c.loop-lit.lit-index c.lit-item.result c.loop-lit-test.true c.lit-item.is);
      within = c.in_ok-all.ensures.gate.within;
    }
