use Rattle.std.proofs.Common.{◌≡◌, ◌↔◌, ℕ, ◌<◌, ◌≤◌, Bool, true, drop, Some, All, length}
use Rattle.std.specs.Prelude.{slice_get}
use Rattle.design_core.specs.Asked.{output_of}
use Rattle.design_core.specs.Shape.{IsDeclared}
use Rattle.design_core.specs.Table.{role_of}
use Rattle.design_meaning.specs.Meaning.{IsCell, IsStart, is_register}
use Rattle.word_model.proofs.registers.fill_starts.Given as goal

abbrev pub invariant-bits : goal.invariant-bits
invariant-bits l = record {
  declared : All (IsDeclared l.flat.wires l.flat.free) l.left;
  at : l.left ≡ drop (length l.digits.items) (output_of l.cell);
  within : length l.digits.items ≤ length (output_of l.cell);
  each : (i : ℕ) → IsCell l.flat i l.cell → is_register (role_of l.cell.kind) ≡ true → (k : ℕ) (x : Bool) → k < length l.digits.items → (slice_get l.digits.items k ≡ Some (Some x)) ↔ IsStart l.flat i k x;
}

abbrev pub decreases-bits : goal.decreases-bits
decreases-bits l = length l.left
