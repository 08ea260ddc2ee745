use Rattle.std.proofs.Common.{List, ℕ, ap, sym, subst, arith, length, ◌∙◌}
use Rattle.model_core.specs.Shape.{AreBelow}
use Rattle.model_core.specs.declared.model.Control.{Control}
use Rattle.model_core.proofs.Lists.{at_place}
use Rattle.model_play.proofs.Models.{q_below, register_at}
use Rattle.model_play.proofs.registers.next_places.Goals as goal

pub is_active-enabled-requires : goal.is_active-enabled-requires
is_active-enabled-requires c =
    let r = at_place c.args.model.now.registers c.args.register c.requires.register in
    let h = (register_at c.args.model.now c.requires.model c.args.register r.0 r.1).enable in
    let e = ap (λ (k : Control). k.place) (c.enable.ensures r.0 r.1) in
    omega (arith, h, e, c.requires.table)

pub is_active-reset-requires : goal.is_active-reset-requires
is_active-reset-requires c =
    let r = at_place c.args.model.now.registers c.args.register c.requires.register in
    let h = (register_at c.args.model.now c.requires.model c.args.register r.0 r.1).reset in
    let e = ap (λ (k : Control). k.place) (c.reset.ensures r.0 r.1) in
    omega (arith, h, e, c.requires.table)

pub returns-then-reset_first-clause-below : goal.returns-then-reset_first-clause-below
returns-then-reset_first-clause-below c =
    let r = at_place c.args.model.now.registers c.args.register c.requires.register in
    subst (λ (ps : List ℕ). AreBelow c.args.model.now.size ps) (sym (c.value.ensures r.0 r.1)) (register_at c.args.model.now c.requires.model c.args.register r.0 r.1).value_below

pub returns-then-reset_first-clause-width : goal.returns-then-reset_first-clause-width
returns-then-reset_first-clause-width c = λ r e. ap (λ (ps : List ℕ). length ps) (c.value.ensures r e) ∙ (register_at c.args.model.now c.requires.model c.args.register r e).value

pub returns-then-enabled-2-clause-below : goal.returns-then-enabled-2-clause-below
returns-then-enabled-2-clause-below c =
    let r = at_place c.args.model.now.registers c.args.register c.requires.register in
    subst (λ (ps : List ℕ). AreBelow c.args.model.now.size ps) (sym (c.d.ensures r.0 r.1)) (register_at c.args.model.now c.requires.model c.args.register r.0 r.1).d_below

pub returns-then-enabled-2-clause-width : goal.returns-then-enabled-2-clause-width
returns-then-enabled-2-clause-width c = λ r e. ap (λ (ps : List ℕ). length ps) (c.d.ensures r e) ∙ (register_at c.args.model.now c.requires.model c.args.register r e).d

pub returns-else-enabled-2-clause-below : goal.returns-else-enabled-2-clause-below
returns-else-enabled-2-clause-below c =
    let r = at_place c.args.model.now.registers c.args.register c.requires.register in
    subst (λ (ps : List ℕ). AreBelow c.args.model.now.size ps) (sym (c.q.ensures r.0 r.1)) (q_below c.args.model.now c.requires.model c.args.register r.0 r.1)
