-- Where reading stopped for the bytes, and not because memory ran out.
use Rattle.std.specs.Prelude.{ℕ}
use Rattle.design_trace.specs.declared.reading.Stop.{Stop}
use Rattle.design_trace.specs.declared.reading.Stop.TheVariants.{Fault, Memory}

-- this holds of the byte
abbrev pub IsStop : Stop → (ℕ → Type 0) → Type 0
IsStop (Fault fault) P = P fault.byte
IsStop Memory P = Unit {0}
