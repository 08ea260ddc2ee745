use Rattle.std.proofs.Common.{◌∙◌, List, ℕ, subst, sym}
use Rattle.btor_emit.specs.Reads.{AreReadInputs}
use Rattle.design_check.specs.Faults.{IsFlat}
use Rattle.design_core.specs.Shape.{DesignOf}
use Rattle.design_reader.specs.Grammar.{Reads}
use Rattle.model_cone.specs.declared.asked.Asked.{Asked}
use Rattle.place_rows.specs.Rows.{AreRowsOf}
use Rattle.task_net.specs.Net.{IsTooLarge}
use Rattle.judge.proofs.Encodes.{refused_first, some_jobs, too_many}
use Rattle.judge.proofs.basis.Basis.new.Goals as goal

pub open_shape-requires : goal.open_shape-requires
open_shape-requires c = subst (λ (inputs : List ℕ). AreRowsOf inputs c.in_ok-rows.rows) (sym c.in_ok-model.ensures.model.inputs) c.in_ok-rows.ensures.inputs

pub returns-in-Err : goal.returns-in-Err
returns-in-Err c = record { basis = rw c.as_slice.ensures.value at (rw c.in-Err.is at c.in_ok-design.ensures.fault) }

pub returns-in-Err-3 : goal.returns-in-Err-3
returns-in-Err-3 c =
    let read = rw c.as_slice.ensures.value at (rw c.in-Ok.is at c.in_ok-design.ensures.design) in
    let checked = rw c.in-Ok-2.is at c.in_ok-flat.ensures in
    let same = checked.0 in
    let flat = c.in-Ok-2.flat in
    let model = c.in_ok-model.model in
    let built = c.in_ok-model.ensures in
    let large = subst (λ (a : Asked). IsTooLarge model a) c.asked_in-asked.ensures (rw c.in-Err-3.is at c.in_ok-net.ensures.too_large) in
    let at = c.first_job.ensures c.args.span flat (some_jobs flat model built.design built.model c.args.mode c.args.span large.asks) in
    record {
      basis = too_many flat model built (record { text = c.args.text.items; mode = c.args.mode; span = c.args.span }) c.first_job.result c.requires.span
          (subst (λ (d : DesignOf). Reads c.args.text.items d) (sym same) read)
          (subst (λ (d : DesignOf). IsFlat d) (sym same) checked.1)
          (refused_first flat model built c.args.mode c.args.span c.first_job.result at large);
    }

pub invariant_of-result : goal.invariant_of-result
invariant_of-result c =
    let read = rw c.as_slice.ensures.value at (rw c.in-Ok.is at c.in_ok-design.ensures.design) in
    let only = rw c.as_slice.ensures.value at (rw c.in-Ok.is at c.in_ok-design.ensures.only) in
    let checked = rw c.in-Ok-2.is at c.in_ok-flat.ensures in
    let same = checked.0 in
    let text = c.in_ok-text.ensures in
    record {
      reads = subst (λ (bytes : List ℕ). Reads bytes c.in-Ok-2.flat) (sym text) (subst (λ (d : DesignOf). Reads c.args.text.items d) (sym same) read);
      only = λ e r. only e (subst (λ (bytes : List ℕ). Reads bytes e) text r) ∙ sym same;
      flat = subst (λ (d : DesignOf). IsFlat d) (sym same) checked.1;
      built = c.in_ok-model.ensures;
      shape = record {
        stretches = c.in_ok-shape.ensures.states;
        read = subst (λ (rows : List (List ℕ)). AreReadInputs c.in_ok-model.model rows c.in_ok-shape.shape.inputs) (c.in_ok-rows.ensures.rows) c.in_ok-shape.ensures.inputs;
        rows = c.in_ok-shape.ensures.rows;
      };
      net = rw c.in-Ok-3.is at c.in_ok-net.ensures.net;
      bits = c.in_ok-bits.ensures;
    }

pub bits_of-requires : goal.bits_of-requires
bits_of-requires c = record { net = (c.asked_in-asked.result, rw c.in-Ok-3.is at c.in_ok-net.ensures.net) }
