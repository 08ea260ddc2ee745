-- What registers have next, one after the other.
use Rattle.std.proofs.Common.{◌≡◌, ℕ, suc, List, ◌++◌, Some, sym, ap, ◌∙◌, arith, length, length-append, take}
use Rattle.std.specs.Prelude.{slice_get}
use Rattle.std.specs.List.{flat_map}
use Rattle.std.proofs.lemmas.List.{map-append}
use Rattle.std.proofs.lemmas.List.Elements.{All-append}
use Rattle.cnf_form.specs.Cnf.{LitOf, Assignment, LitWithin, lit_in}
use Rattle.gate_graph.specs.Circuit.{GatesOf, Continues}
use Rattle.gate_graph.specs.Laws.{keeps}
use Rattle.gate_rows.specs.Literals.{MeansRow, row_of}
use Rattle.sby_bits.specs.Rows.{Row}
use Rattle.model_core.specs.Shape.{RegisterOf, ModelOf}
use Rattle.model_core.specs.Meaning.{next_row}
use Rattle.frame_gates.specs.Frames.{cycle_of}
use Rattle.model_core.proofs.Lists.{flat_more}
use Rattle.frame_gates.proofs.Reading.{all_more}

-- one register more
pub next_more : (m : ModelOf) (g h : GatesOf) (table row word : List LitOf) (i : ℕ) (r : RegisterOf) → slice_get m.registers i ≡ Some r → Continues g h →
    MeansRow g (λ x. flat_map (next_row (cycle_of table x)) (take i m.registers)) row → MeansRow h (λ x. next_row (cycle_of table x) r) word →
    MeansRow h (λ x. flat_map (next_row (cycle_of table x)) (take (suc i) m.registers)) (row ++ word)
next_more m g h table row word i r at k p q =
    let same : (x : Assignment) → flat_map (next_row (cycle_of table x)) (take (suc i) m.registers) ≡ flat_map (next_row (cycle_of table x)) (take i m.registers) ++ next_row (cycle_of table x) r =
    λ x. flat_more (next_row (cycle_of table x)) m.registers i r at in
    record {
      as_many = λ x.
          let a = p.as_many x in
          let b = q.as_many x in
          length-append row word ∙ (let n = length-append (flat_map (next_row (cycle_of table x)) (take i m.registers)) (next_row (cycle_of table x) r) in omega arith)
          ∙ ap length (sym (same x));
      within = All-append (LitWithin h.formula.vars) row word (all_more g.formula.vars h.formula.vars row k.vars p.within) q.within;
      means = λ x s. map-append (lit_in x) row word ∙ ap (λ (z : Row). z ++ row_of x word) (p.means x (keeps g h k x s))
          ∙ ap (λ (z : Row). flat_map (next_row (cycle_of table x)) (take i m.registers) ++ z) (q.means x s) ∙ sym (same x);
    }
