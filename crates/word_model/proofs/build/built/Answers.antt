use Rattle.std.proofs.Common.{◌≡◌, ◌∙◌, ◌<◌, ◌^◌, ◌+◌, ℕ, [], get_or, ap, sym, subst, length, arith}
use Rattle.design_core.specs.Shape.{DesignOf, IsDesign}
use Rattle.design_core.specs.Places.{places}
use Rattle.design_meaning.specs.Runs.{kept_bits}
use Rattle.model_core.specs.Shape.{ModelOf}
use Rattle.word_model.proofs.Growing.{built-is}
use Rattle.word_model.proofs.Placed.{end-is}
use Rattle.std.proofs.lemmas.Option.{get_or_from_slice_get, slice_get-get_or}
use Rattle.word_model.proofs.build.built.Goals as goal
use Rattle.word_model.proofs.build.built.Goals.{After-index-size}

whole : (c : After-index-size) → c.index-size.result.now ≡ places c.args.flat.now + kept_bits c.args.flat.now
whole c =
    let are = rw c.design-design.ensures.design at c.in_ok-offsets.ensures in
    let size_is = rw (c.cells-cells.ensures.cells, c.design-design.ensures.design) at c.index-size.ensures in
    let lt : length c.args.flat.now.cells < length c.in_ok-offsets.offsets.items = omega (arith, are.size) in
    size_is
    ∙ (get_or_from_slice_get c.in_ok-offsets.offsets.items (length c.args.flat.now.cells) (get_or c.in_ok-offsets.offsets.items (length c.args.flat.now.cells) 0) c.index-size.result.now
    (slice_get-get_or c.in_ok-offsets.offsets.items (length c.args.flat.now.cells) 0 lt)
    ∙ end-is c.args.flat.now c.in_ok-offsets.offsets.items are)

pub returns : goal.returns
returns c =
    let d = c.args.flat.now in
    let e = c.design-design.ensures.design in
    let shape = subst IsDesign c.design-design.ensures.design c.cells-cells.ensures.design in
    let n = c.in_ok-push_nodes.ensures in
    let r = c.in_ok-push_registers.ensures in
    let limit : c.index-size.result.now < 2 ^ 32 = omega arith in
    let low = rw c.design-design.ensures.design at c.zero.ensures.zero in
    let first = n.4 ∙ ap (λ (m : ModelOf). record m { nodes = n.1 }) (c.new-draft.ensures ∙ ap (λ (z : ℕ). record { size = c.index-size.result.now; zero = z; nodes = []; registers = []; starts = []; inputs = []; asserts = []; assumes = []; covers = [] }) low) in (
      n.0,
      shape,
      c.design-design.ensures.flat,
      n.2,
      built-is d n.0 c.index-size.result.now n.1 r.0 c.push_nodes.new.draft c.push_registers.new.draft c.push_inputs.new.draft c.push_asserts.new.draft c.push_assumes.new.draft c.push_covers.new.draft limit (whole (goal.at.returns c).After-index-size) n.3 r.1 first r.2
          (rw c.design-design.ensures.design at c.in_ok-push_inputs.ensures) (rw c.design-design.ensures.design at c.in_ok-push_asserts.ensures) (rw c.design-design.ensures.design at c.in_ok-push_assumes.ensures)
          (rw c.design-design.ensures.design at c.in_ok-push_covers.ensures),
    )

pub push_registers-requires-clause-fits : goal.push_registers-requires-clause-fits
push_registers-requires-clause-fits c = let e = whole (goal.at.push_registers-requires-clause-fits c).After-index-size in omega (arith, e)
