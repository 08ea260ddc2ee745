use Rattle.std.proofs.Common.{[], arith}
use Rattle.lane_run.specs.Reading.{NoneLeft}
use Rattle.lane_run.proofs.Readers.{comes_within, has_read}
use Rattle.lane_run.proofs.reader.read_out.Goals as goal

pub returns-in_default-part : goal.returns-in_default-part
returns-in_default-part g c =
    let i = c.loop.invariant in
    let e = c.read_within-part.ensures in
    record {
      part = e.part;
      room = e.room;
      has_read = has_read c.read_within-part.result c.in_default-part.not-Fresh c.in_default-part.not-Reading e.ended;
      awaits = e.awaits;
      proves = λ bytes p h. i.within_proves bytes p (e.proves bytes p h);
      most = omega (e.piece, i.short, i.buffer, c.deref_mut.ensures.len, arith);
      so_far = e.so_far (g.P.Pipe.told c.args.pipe.now) i.so_far;
      failed = e.failed;
      comes = comes_within (g.S.ChildJudge.stands c.loop.judge) (g.S.ChildJudge.stands c.args.judge.now) (g.S.ChildJudge.ends c.loop.judge) (g.S.ChildJudge.ends c.args.judge.now)
          (g.S.ChildJudge.proves c.loop.judge) (g.S.ChildJudge.proves c.args.judge.now) (NoneLeft (g.P.Pipe.told c.read_within-part.new.pipe)) (g.S.ChildJudge.taken c.read_within-part.new.judge) []
          c.read_within-part.result i.within i.within_ends i.within_proves e.comes;
    }
