use Rattle.std.proofs.Common.{inl, subst, sym, map, string_bytes}
use Rattle.pdr_program.specs.Program.{IsExit}
use Rattle.pdr_program.proofs.run.Goals as goal

pub returns-in-Ok : goal.returns-in-Ok
returns-in-Ok c = inl (map string_bytes c.deref.result.now, subst (IsExit (map string_bytes c.deref.result.now)) (sym c.from.ensures) c.run_real.ensures)
