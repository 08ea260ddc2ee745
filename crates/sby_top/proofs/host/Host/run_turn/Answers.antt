use Rattle.std.specs.Prelude.{None}
use Rattle.sby_top.specs.World.{FilesOf}
use Rattle.task_race.specs.Bays.{counts_at, yard_at}
use Rattle.sby_top.proofs.host.Host.run_turn.Goals as goal

pub returns-in-Refused-clause-had : goal.returns-in-Refused-clause-had
returns-in-Refused-clause-had g c =
    let files : FilesOf = record { told = g.F.Files.told c.args.self.now.files.now; faults = g.F.Files.faults c.args.self.now.files.now; blamed = g.F.Files.blamed c.args.self.now.files.now } in
    rw c.in-Refused.is (
      files,
      c.refuse.ensures (g.F.Files.told c.args.self.now.files.now) (g.F.Files.faults c.args.self.now.files.now) (g.F.Files.blamed c.args.self.now.files.now)
          (yard_at (g.Y.Yard.told c.args.self.now.yard.now) (g.Y.Yard.started c.args.self.now.yard.now) (counts_at (g.Y.Yard.start_faults c.args.self.now.yard.now) (g.Y.Yard.read_faults c.args.self.now.yard.now) (g.Y.Yard.hold_faults c.args.self.now.yard.now))) files None,
    )
