use Rattle.std.proofs.Common.{◌≡◌, ◌<◌, ℕ, suc, true, false, length}
use Rattle.std.specs.Prelude.{All}
use Rattle.cnf_form.specs.Cnf.{LitWithin}
use Rattle.gate_graph.specs.Circuit.{Means}
use Rattle.frame_gates.specs.Frames.{lit_at}
use Rattle.frame_gates.proofs.frames.new_table.Given as goal

abbrev pub invariant-loop-place : goal.invariant-loop-place
invariant-loop-place l = record {
  size : length l.table.items ≡ l.place;
  within : All (LitWithin l.gates.formula.vars) l.table.items;
  zero : (p : ℕ) → p < l.place → p ≡ l.low → Means l.gates (lit_at l.table.items p) (λ _. false);
  one : (p : ℕ) → p < l.place → p ≡ suc l.low → Means l.gates (lit_at l.table.items p) (λ _. true);
}
