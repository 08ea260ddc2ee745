use Rattle.std.proofs.Common.{◌≡◌, ◌∙◌, List, Some, Contains, ap, sym, subst, refl}
use Rattle.digraph.proofs.Growing.{Extends-as}
use Rattle.design_core.specs.Ports.{digits_at}
use Rattle.design_core.specs.Shape.{IsNumbered}
use Rattle.design_core.specs.Table.{role_of}
use Rattle.design_core.specs.declared.names.ParameterName.TheVariants.{ArstValue}
use Rattle.design_core.specs.declared.table.Role.TheVariants.{AsyncResetRegister}
use Rattle.design_core.specs.declared.digit.Digit.TheVariants.{Free as FreeDigit}
use Rattle.design_core.specs.declared.digit.Digit.{Digit}
use Rattle.design_core.specs.Places.{place_of}
use Rattle.design_signals.specs.declared.sig_bit.SigBit.{SigBit}
use Rattle.design_graph.specs.Edges.{IsDigitPlace, IsResetPlace}
use Rattle.design_graph.proofs.Declared.{All-digits_at, digit-in, in-digit, one-option}
use Rattle.design_graph.proofs.edges.add_reset.Goals as goal
use Rattle.design_graph.proofs.edges.add_reset.Goals.{In-Some}
use Rattle.design_signals.specs.declared.sig_bit.SigBit.TheVariants.{Free}

digits : (c : In-Some) → digits_at c.args.cell.now.parameters ArstValue ≡ Some c.in-Some.constant.now
digits c = sym (c.in-Some.ensures)

pub add_digits-requires-clause-digits : goal.add_digits-requires-clause-digits
add_digits-requires-clause-digits c =
    let x = (goal.at.add_digits-requires-clause-digits c).In-Some in
    All-digits_at (IsNumbered c.args.design.now.free) c.args.cell.now.parameters ArstValue c.requires.cell.parameters c.in-Some.constant.now (digits x)

pub returns-in_ok-add_digits-in-Some : goal.returns-in_ok-add_digits-in-Some
returns-in_ok-add_digits-in-Some c =
    let x = (goal.at.returns-in_ok-add_digits-in-Some c).In-Some in
    let d = c.args.design.now in
    let cell = c.args.cell.now in
    let role : role_of cell.kind ≡ AsyncResetRegister = ap (λ k. role_of k) (sym c.kind.ensures) ∙ (sym c.role_of.ensures ∙ c.in-AsyncResetRegister.is) in
    Extends-as c.args.graph.now c.add_digits.new.graph (λ p q. (p ≡ c.args.node) × IsDigitPlace d c.in-Some.constant.now q) (λ p q. (p ≡ c.args.node) × IsResetPlace d cell q) c.in_ok-add_digits-in-Some.ensures
    (λ p q h. let n = h.1 in (h.0, (Free n.0, (role, (n.0, refl, in-digit (digits_at cell.parameters ArstValue) (FreeDigit n.0) c.in-Some.constant.now (digits x) n.1)), n.2)))
    (λ p q h.
    let a = h.1 in
    let n = a.1.1 in
    let there = digit-in (digits_at cell.parameters ArstValue) (FreeDigit n.0) n.2 in
    (h.0, (n.0, subst (λ (l : List Digit). Contains l (FreeDigit n.0)) (one-option there.0 c.in-Some.constant.now (sym there.1 ∙ digits x)) there.2, a.2 ∙ ap (λ (b : SigBit). place_of d b) n.1)))
