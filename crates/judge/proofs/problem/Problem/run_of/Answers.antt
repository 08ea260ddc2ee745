use Rattle.std.proofs.Common.{◌≡◌, ◌∙◌, ◌+◌, ◌-◌, ℕ, ap, arith, subst}
use Rattle.design_core.specs.Shape.{wire_bits}
use Rattle.design_meaning.specs.Runs.{kept_bits}
use Rattle.judge.specs.Basis.{BasisOf}
use Rattle.judge.specs.Problem.{AskedOf}
use Rattle.judge.specs.Rows.{cycles_in}
use Rattle.judge.specs.Telling.{design_run}
use Rattle.judge.proofs.problem.Problem.run_of.Goals as goal

pub returns : goal.returns
returns c =
    let flat = c.design-design.ensures.design ∙ (c.flat-flat.ensures.flat ∙ ap (λ (b : BasisOf). b.design) c.deref-basis.ensures) in
    let model = c.model-model.ensures ∙ ap (λ (b : BasisOf). b.model) c.deref-basis.ensures in
    let wires = rw flat at c.bits-wires.ensures.bits in
    let free = rw flat at c.free-free.ensures.free in
    let whole = c.self.invariant.problem.model.size in
    let size = rw model at c.size.ensures.size in
    let kept : c.size.result - (c.bits-wires.result + c.free-free.result + 2) ≡ kept_bits c.self.inside.basis.value.design = omega (arith, wires, free, whole, size) in
    let d = c.self.inside.basis.value.design in
    subst (λ (p : AskedOf). c.in_ok-run.run' ≡ design_run p.design c.args.rows) c.self.view_is (
    c.in_ok-run.ensures
    ∙ (ap (λ (n : ℕ). cycles_in n c.free-free.result (c.size.result - (c.bits-wires.result + c.free-free.result + 2)) c.args.rows) wires
    ∙ (ap (λ (n : ℕ). cycles_in (wire_bits d) n (c.size.result - (c.bits-wires.result + c.free-free.result + 2)) c.args.rows) free
    ∙ ap (λ (n : ℕ). cycles_in (wire_bits d) d.free n c.args.rows) kept))
    )
