use Rattle.std.proofs.Common.{◌≡◌, take}
use Rattle.std.specs.List.{enumerate_from, flat_map}
use Rattle.word_model.specs.Registers.{AreStarts, registers_of}
use Rattle.word_model.proofs.registers.push_registers.Given as goal

abbrev pub invariant-loop-place : goal.invariant-loop-place
invariant-loop-place l = record {
  made : l.draft.registers ≡ flat_map (registers_of l.fn.flat) (enumerate_from 0 (take l.place l.fn.flat.cells));
  begun : AreStarts l.fn.flat (enumerate_from 0 (take l.place l.fn.flat.cells)) l.draft.starts;
  rest : l.draft ≡ record l.fn.draft { registers = l.draft.registers; starts = l.draft.starts };
}
