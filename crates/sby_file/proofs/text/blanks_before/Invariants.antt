use Rattle.std.proofs.Common.{◌≡◌, ◌+◌, drop}
use Rattle.std.specs.Str.{IsCharBoundary}
use Rattle.sby_file.specs.Text.{blanks_before}
use Rattle.sby_file.proofs.text.blanks_before.Given as goal

abbrev pub invariant-loop-i : goal.invariant-loop-i
invariant-loop-i l = (l.i + blanks_before (drop l.i l.text) ≡ blanks_before l.text) × IsCharBoundary l.text l.i
