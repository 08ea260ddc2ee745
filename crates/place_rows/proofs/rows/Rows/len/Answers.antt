use Rattle.std.proofs.Common.{arith}
use Rattle.place_rows.proofs.Joining.{same_length}
use Rattle.place_rows.proofs.rows.Rows.len.Goals as goal

pub returns : goal.returns
returns c = let n = same_length c.args.self.now c.self.inside.ends.items c.self.inside.places.items c.self.view_is c.self.invariant in omega arith
