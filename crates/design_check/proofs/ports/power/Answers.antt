use Rattle.std.proofs.Common.{ℕ, Option, subst, arith}
use Rattle.design_check.specs.Numbers.{IsNumber}
use Rattle.design_check.proofs.Products.{power-past}
use Rattle.design_check.proofs.ports.power.Goals as goal

pub returns-in_default : goal.returns-in_default
returns-in_default c = λ b h.
    let e = subst (λ (o : Option ℕ). IsNumber o b) c.in-Some.is h in
    power-past b (omega (arith, e, c.if-selects-lt64.false))

pub returns-in_default-2 : goal.returns-in_default-2
returns-in_default-2 c = λ b h.
    let e = subst (λ (o : Option ℕ). IsNumber o b) c.in_default.is h in
    power-past b (omega (arith, e))
