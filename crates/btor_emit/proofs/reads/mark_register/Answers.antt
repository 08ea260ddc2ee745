use Rattle.std.proofs.Common.{◌∙◌, ℕ, List, length, sym, ap, subst, arith}
use Rattle.btor_emit.proofs.Marking.{register_marked}
use Rattle.btor_emit.proofs.reads.mark_register.Goals as goal
use Rattle.model_core.specs.Shape.{AreBelow, IsRegister}
use Rattle.model_core.specs.declared.model.Control.{Control}
use Rattle.model_core.proofs.Lists.{all_at, at_place}

pub mark_all-requires : goal.mark_all-requires
mark_all-requires c =
    let m = c.args.model.now in
    let r = at_place m.registers c.args.register c.requires.register in
    let w = all_at (IsRegister m.size) m.registers c.args.register r.0 c.requires.model.registers r.1 in
    subst (λ (ps : List ℕ). AreBelow (length c.args.marks.now) ps) (sym (c.d.ensures r.0 r.1)) (subst (λ (n : ℕ). AreBelow n r.0.d) (sym c.requires.size) w.d_below)

pub mark_all-requires-2 : goal.mark_all-requires-2
mark_all-requires-2 c =
    let m = c.args.model.now in
    let r = at_place m.registers c.args.register c.requires.register in
    let w = all_at (IsRegister m.size) m.registers c.args.register r.0 c.requires.model.registers r.1 in
    subst (λ (ps : List ℕ). AreBelow (length c.mark_all.new.marks) ps) (sym (c.value.ensures r.0 r.1)) (subst (λ (n : ℕ). AreBelow n r.0.value) (sym (c.mark_all.ensures.size ∙ c.requires.size)) w.value_below)

pub mark-requires : goal.mark-requires
mark-requires c =
    let m = c.args.model.now in
    let r = at_place m.registers c.args.register c.requires.register in
    let w = (all_at (IsRegister m.size) m.registers c.args.register r.0 c.requires.model.registers r.1).enable in
    let e = ap (λ (k : Control). k.place) (c.enable-enable.ensures r.0 r.1) in
    let s = c.mark_all-2.ensures.size ∙ c.mark_all.ensures.size ∙ c.requires.size in
    omega arith

pub mark-requires-2 : goal.mark-requires-2
mark-requires-2 c =
    let m = c.args.model.now in
    let r = at_place m.registers c.args.register c.requires.register in
    let w = (all_at (IsRegister m.size) m.registers c.args.register r.0 c.requires.model.registers r.1).reset in
    let e = ap (λ (k : Control). k.place) (c.reset-reset.ensures r.0 r.1) in
    let s = c.mark.ensures.size ∙ c.mark_all-2.ensures.size ∙ c.mark_all.ensures.size ∙ c.requires.size in
    omega arith

pub returns : goal.returns
returns c = λ r at.
    register_marked r c.args.marks.now c.mark_all.new.marks c.mark_all-2.new.marks c.mark.new.marks c.mark-2.new.marks c.d.result.now c.value.result.now c.enable-enable.result c.reset-reset.result (c.d.ensures r at) (c.value.ensures r at) (c.enable-enable.ensures r at) (c.reset-reset.ensures r at) c.mark_all.ensures
    c.mark_all-2.ensures c.mark.ensures c.mark-2.ensures
