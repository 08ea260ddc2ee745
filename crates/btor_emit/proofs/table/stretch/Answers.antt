use Rattle.std.proofs.Common.{arith, refl, ◌+◌}
use Rattle.btor_emit.proofs.Gathering.{stretch_one}
use Rattle.btor_emit.proofs.table.stretch.Goals as goal

pub loop-end-init : goal.loop-end-init
loop-end-init c = record { some = omega arith; most = omega arith; each = stretch_one c.args.table.now c.args.places.now c.args.first (c.args.first + 1) c.args.seat refl c.requires.seat }
