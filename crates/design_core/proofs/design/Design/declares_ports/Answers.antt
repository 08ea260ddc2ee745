use Rattle.std.proofs.Common.{All, List, refl, subst, sym}
use Rattle.std.proofs.lemmas.Bool.{false≢true}
use Rattle.std.proofs.lemmas.List.Elements.{All-contains}
use Rattle.design_core.specs.Shape.{IsDeclared}
use Rattle.design_signals.specs.declared.sig_bit.SigBit.{SigBit}
use Rattle.design_core.specs.declared.parts.Port.{Port}
use Rattle.design_core.proofs.Lists.{item_at, Contains-from_place, All-from_places, each_more, one_at}
use Rattle.design_core.proofs.design.Design.declares_ports.Goals as goal

pub returns-then-not-declares_all : goal.returns-then-not-declares_all
returns-then-not-declares_all c =
    let S : List SigBit → Type 0 = λ x. All (IsDeclared c.args.self.now.wires c.args.self.now.free) x in
    let at = item_at c.args.ports.now c.loop-port.port-index c.port-item.result c.port-item.is c.loop-port-test.true in (
      λ h. absurd (false≢true h),
      λ h. c.if-not-declares_all.ensures.1
          (subst S (sym c.chunks.ensures.bits) (All-contains (λ (p : Port). All (IsDeclared c.args.self.now.wires c.args.self.now.free) p.signal) c.args.ports.now _ h (Contains-from_place c.args.ports.now _ _ at))),
    )

pub loop-port-preserved : goal.loop-port-preserved
loop-port-preserved c =
    let S : List SigBit → Type 0 = λ x. All (IsDeclared c.args.self.now.wires c.args.self.now.free) x in
    let Q : Port → Type 0 = λ p. All (IsDeclared c.args.self.now.wires c.args.self.now.free) p.signal in
    let at = item_at c.args.ports.now c.loop-port.port-index c.port-item.result c.port-item.is c.loop-port-test.true in
    each_more Q c.args.ports.now c.loop-port.port-index c.loop-port.invariant (λ x h. subst Q (one_at c.args.ports.now c.loop-port.port-index c.port-item.result x at h) (subst S c.chunks.ensures.bits (c.if-not-declares_all.ensures.0 refl)))

pub returns : goal.returns
returns c = (
  λ _. All-from_places (λ (p : Port). All (IsDeclared c.args.self.now.wires c.args.self.now.free) p.signal) c.args.ports.now c.loop-port.port-index c.loop-port-test.false c.loop-port.invariant,
  λ _. refl,
)
