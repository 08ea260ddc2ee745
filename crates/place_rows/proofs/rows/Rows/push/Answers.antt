use Rattle.std.proofs.Common.{◌≡◌, ◌+◌, arith, length}
use Rattle.place_rows.proofs.Joining.{row_added}
use Rattle.place_rows.proofs.rows.Rows.push.Goals as goal

pub invariant_of-self-in-Ok : goal.invariant_of-self-in-Ok
invariant_of-self-in-Ok c =
    let i = c.self.inside in
    let end : c.in-Some.end ≡ length i.places.items + length c.args.row.now = (let e = c.in-Some.ensures in let f = c.len-first.ensures in omega arith) in
    rw (c.in-Ok.ensures.items, c.in_ok-extend_from_slice.ensures.items) (row_added c.args.self.now i.ends.items i.places.items c.self.view_is c.self.invariant c.args.row.now c.in-Some.end end).0

pub returns-in-Ok-clause-ok : goal.returns-in-Ok-clause-ok
returns-in-Ok-clause-ok c =
    let i = c.self.inside in
    let end : c.in-Some.end ≡ length i.places.items + length c.args.row.now = (let e = c.in-Some.ensures in let f = c.len-first.ensures in omega arith) in
    rw (c.in-Ok.ensures.items, c.in_ok-extend_from_slice.ensures.items) (row_added c.args.self.now i.ends.items i.places.items c.self.view_is c.self.invariant c.args.row.now c.in-Some.end end).1
