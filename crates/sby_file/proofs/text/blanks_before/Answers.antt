use Rattle.std.proofs.Common.{arith, get_or, ◌<◌}
use Rattle.std.proofs.lemmas.Grind.{common_steps}
use Rattle.std.proofs.lemmas.Str.{IsCharBoundary-start, IsCharBoundary-after_ascii}
use Rattle.sby_file.proofs.Runs.{blank_is_ascii}
use Rattle.sby_file.proofs.text.blanks_before.Goals as goal

pub loop-i-init : goal.loop-i-init
loop-i-init c = (omega arith, IsCharBoundary-start _ c.utf8.text)

pub loop-i-preserved : goal.loop-i-preserved
loop-i-preserved c =
    let low : get_or c.args.text.now c.loop-i.i 0 < 128 = grind (arith, common_steps, blank_is_ascii) in
    (grind (arith, common_steps), IsCharBoundary-after_ascii c.args.text.now c.loop-i.i c.utf8.text (omega arith) low)
