use Rattle.std.proofs.Common.{◌≡◌, ◌++◌, ◌<◌, ◌+◌, List, Option, Bool, Some, take, refl, ap, sym, subst, ◌∙◌, length, arith}
use Rattle.std.specs.List.{enumerate_from}
use Rattle.model_core.proofs.Lists.{at_place}
use Rattle.model_core.specs.Shape.{ModelOf}
use Rattle.word_model.specs.Registers.{AreStarts, registers_of}
use Rattle.word_model.proofs.Growing.{registers-next, rest-registers, starts-next}
use Rattle.word_model.proofs.registers.push_registers.Goals as goal

pub loop-place-preserved : goal.loop-place-preserved
loop-place-preserved c =
    let d = c.args.flat.now in
    let lt : c.loop-place.place < length c.args.flat.now.cells = rw (c.cells-cells.ensures.cells, c.design.ensures.design) at c.loop-place-test.true in
    let x = at_place c.args.flat.now.cells c.loop-place.place lt in
    let p = c.in_ok-push_register.ensures x.0 x.1 in
    record {
      made = ap (λ (m : ModelOf). m.registers) p.2 ∙ registers-next d c.loop-place.place x.0 c.loop-place.draft.registers x.1 c.loop-place.invariant.made;
      begun =
          subst (λ (l : List (Option Bool)). AreStarts c.args.flat.now (enumerate_from 0 (take (c.loop-place.place + 1) c.args.flat.now.cells)) l) (sym (ap (λ (m : ModelOf). m.starts) p.2))
          (starts-next d c.loop-place.place x.0 c.loop-place.draft.starts p.0 x.1 c.loop-place.invariant.begun p.1);
      rest = rest-registers c.args.draft.now c.loop-place.draft c.push_register.new.draft (c.loop-place.draft.registers ++ registers_of d (c.loop-place.place, x.0)) (c.loop-place.draft.starts ++ p.0) c.loop-place.invariant.rest p.2;
    }
