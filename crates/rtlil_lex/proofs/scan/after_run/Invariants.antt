use Rattle.std.proofs.Common.{◌≡◌, length}
use Rattle.rtlil_lex.specs.Steps.{run_ends, after_run_of}
use Rattle.rtlil_lex.proofs.scan.after_run.Given as goal

abbrev pub invariant-run : goal.invariant-run
invariant-run l = after_run_of (run_ends l.up_to) l.rest ≡ after_run_of (run_ends l.up_to) l.bytes

abbrev pub decreases-run : goal.decreases-run
decreases-run l = length l.rest
