-- A frame over literals that are there.
use Rattle.std.proofs.Common.{◌≡◌, ℕ, suc, List, ◌++◌, ap, ◌∙◌, length}
use Rattle.std.specs.Prelude.{Contains, All}
use Rattle.std.proofs.lemmas.Option.{slice_get_within}
use Rattle.cnf_form.specs.Cnf.{LitOf, LitWithin, lit_in}
use Rattle.gate_graph.specs.Circuit.{Continues, GatesOf}
use Rattle.gate_graph.specs.Laws.{keeps}
use Rattle.model_core.specs.Shape.{ModelOf, sources, states}
use Rattle.model_core.specs.Served.{IsModel}
use Rattle.frame_gates.specs.Frames.{IsFrameOver, IsTable, lit_at}
use Rattle.frame_gates.specs.Rows.{AreGiven, IsWritten}
use Rattle.frame_gates.specs.Steps.{IsFilled, IsFirstTable}
use Rattle.std.proofs.lemmas.List.Elements.{Contains-append_left, Contains-append_right}
use Rattle.frame_gates.proofs.Lists.{map_same}
use Rattle.frame_gates.proofs.Reading.{written_lits, written_others}
use Rattle.frame_gates.proofs.Places.{input_source, one_apart, one_source, state_apart, state_source, zero_apart, zero_source}

module _ (m : ModelOf) (is : IsModel m) (g : GatesOf) (bits ins t0 t1 t2 : List LitOf) (many : length bits ≡ length (states m)) (many_in : length ins ≡ length m.inputs)
    (first : IsWritten (states m) bits (length (states m)) t0 t1) (second : IsWritten m.inputs ins (length m.inputs) t1 t2) where
  pub over_table : IsTable m g t0 → All (LitWithin g.formula.vars) bits → All (LitWithin g.formula.vars) ins → IsTable m g t2
  over_table table w v = record { size = second.size ∙ first.size ∙ table.size; within = second.within g.formula.vars v (first.within g.formula.vars w table.within) }

  module _ (h : GatesOf) (t3 : List LitOf) (given : AreGiven m (length m.nodes) h t2 t3) where
    kept : (p : ℕ) → Contains (sources m) p → (Contains (states m ++ m.inputs) p → ⊥) → lit_at t3 p ≡ lit_at t0 p
    kept p c none =
        given.sources p c ∙ written_others m.inputs ins t1 t2 p second (λ d. none (Contains-append_right (states m) m.inputs p d))
        ∙ written_others (states m) bits t0 t1 p first (λ d. none (Contains-append_left (states m) m.inputs p d))

    pub over_filled : IsFilled m h bits ins t0 t3
    over_filled = record {
      is_table = given.table;
      zero = kept m.zero (zero_source m) (zero_apart m is);
      one = kept (suc m.zero) (one_source m) (one_apart m is);
      nodes = λ i n at x s. given.nodes i n (slice_get_within m.nodes i n at) at x s;
      states = map_same (lit_at t3) (lit_at t1) (states m) (λ p c.
          given.sources p (state_source m p c) ∙ written_others m.inputs ins t1 t2 p second (λ d. state_apart m is p c d))
          ∙ written_lits (states m) bits t0 t1 many first;
      inputs = map_same (lit_at t3) (lit_at t2) m.inputs (λ p c. given.sources p (input_source m p c)) ∙ written_lits m.inputs ins t1 t2 many_in second;
    }

pub frame_over : (m : ModelOf) (g h : GatesOf) (bits ins before table : List LitOf) → Continues g h → IsFirstTable m g before → IsFilled m h bits ins before table → IsFrameOver m h bits ins table
frame_over m g h bits ins before table k start filled = record {
  is_table = filled.is_table;
  states = filled.states;
  inputs = filled.inputs;
  frame = λ x s. (record {
    zero = ap (lit_in x) filled.zero ∙ start.zero x (keeps g h k x s);
    one = ap (lit_in x) filled.one ∙ start.one x (keeps g h k x s);
    nodes = λ i n at. filled.nodes i n at x s;
  });
}
