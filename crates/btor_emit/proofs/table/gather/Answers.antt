use Rattle.std.proofs.Common.{◌*◌, length, sym}
use Rattle.btor_emit.proofs.Gathering.{put_back}
use Rattle.btor_emit.proofs.table.gather.Goals as goal

pub reseat-requires-clause-width : goal.reseat-requires-clause-width
reseat-requires-clause-width c = sym c.in_ok-row.ensures.row.size

pub returns : goal.returns
returns c = record {
  row = (let n = length c.args.places.now in
      put_back c.args.draft.now c.put_together.new.draft c.args.table.now c.reseat.new.table c.args.places.now c.in_ok-row.row n (4 * n) c.reseat.ensures c.requires.seats (sym c.in_ok-row.ensures.row.size) c.in_ok-row.ensures.row);
}
