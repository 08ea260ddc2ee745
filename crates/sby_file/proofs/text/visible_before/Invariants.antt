use Rattle.std.proofs.Common.{◌≡◌, ◌+◌, drop}
use Rattle.sby_file.specs.Text.{visible_before}
use Rattle.sby_file.proofs.text.visible_before.Given as goal

abbrev pub invariant-loop-i : goal.invariant-loop-i
invariant-loop-i l = l.i + visible_before (drop l.i l.text) ≡ visible_before l.text
