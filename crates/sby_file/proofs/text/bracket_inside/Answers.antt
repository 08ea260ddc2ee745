use Rattle.std.proofs.Common.{arith}
use Rattle.std.proofs.lemmas.Str.{IsCharBoundary-after_ascii}
use Rattle.sby_file.proofs.Runs.{bracket_in_front}
use Rattle.sby_file.proofs.text.bracket_inside.Goals as goal

pub range-requires-clause-start_boundary : goal.range-requires-clause-start_boundary
range-requires-clause-start_boundary c =
    let front = bracket_in_front c.args.text.now c.requires in
    λ _. IsCharBoundary-after_ascii c.args.text.now 0 c.utf8.text (omega (arith, front.0)) front.1
