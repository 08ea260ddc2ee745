use Rattle.std.proofs.Common.{◌≡◌, ◌+◌, true, drop}
use Rattle.sby_file.specs.Text.{comment_place}
use Rattle.sby_file.proofs.text.comment_place.Given as goal

abbrev pub invariant-loop-i : goal.invariant-loop-i
invariant-loop-i l = l.i + comment_place l.after_blank (drop l.i l.text) ≡ comment_place true l.text
