use Rattle.std.proofs.Common.{◌≡◌, ◌∙◌, List, Bool, false, length, replicate, drop, ap, subst, arith}
use Rattle.std.proofs.lemmas.List.{length-replicate}
use Rattle.design_core.specs.Places.{places}
use Rattle.design_graph.specs.Edges.{Marks}
use Rattle.design_graph.proofs.EdgeSteps.{written-back}
use Rattle.design_states.specs.Bits.{IsCellGiven}
use Rattle.design_states.proofs.Giving.{given-marked}
use Rattle.design_states.proofs.input_bits.given_marks.Goals as goal

pub returns : goal.returns
returns c =
    let d = c.args.design.now in
    let same : c.as_mut_slice-table.result.now ≡ replicate (places c.args.design.now) false =
    c.as_mut_slice-table.ensures.value ∙ (c.in_ok-marks.ensures ∙ ap (λ n. replicate n false) c.places.ensures.places) in
    let cells : Marks (replicate (places c.args.design.now) false) (IsCellGiven c.args.design.now) c.mark_cells.new.marks =
    subst (λ (l : List Bool). Marks l (IsCellGiven c.args.design.now) c.mark_cells.new.marks) same c.mark_cells.ensures in
    let built = given-marked d c.requires c.mark_cells.new.marks c.mark_connects.new.marks cells c.mark_connects.ensures in
    let size : length c.in_ok-marks.marks.items ≡ c.places.result = ap (λ (l : List Bool). length l) c.in_ok-marks.ensures ∙ length-replicate c.places.result false in
    let whole : c.in_ok-marks.marks.len ≡ length c.mark_connects.new.marks = omega (arith, c.in_ok-marks.marks.ok.0, size, c.places.ensures.places, built.size) in
    rw (written-back c.in_ok-marks.marks.len c.mark_connects.new.marks (drop (length c.mark_connects.new.marks) c.in_ok-marks.marks.items) whole) built
