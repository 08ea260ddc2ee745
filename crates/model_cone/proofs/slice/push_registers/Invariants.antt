use Rattle.std.proofs.Common.{◌≡◌, ◌++◌, length, take, drop}
use Rattle.std.specs.List.{flat_map}
use Rattle.model_core.specs.Shape.{RegisterOf}
use Rattle.model_cone.specs.Slice.{kept_at, kept_by, kept_registers}
use Rattle.model_cone.proofs.slice.push_registers.Given as goal

abbrev pub invariant-loop-register : goal.invariant-loop-register
invariant-loop-register l = record {
  left : l.left ≡ drop (length (flat_map (λ (r : RegisterOf). r.q) (take l.register l.model.registers))) l.model.starts;
  draft : l.draft ≡ record l.fn.draft {
    registers = l.fn.draft.registers ++ kept_registers (kept_by l.marks) (take l.register l.model.registers);
    starts = l.fn.draft.starts ++ kept_at (kept_by l.marks) (flat_map (λ (r : RegisterOf). r.q) (take l.register l.model.registers)) l.model.starts;
  };
}
