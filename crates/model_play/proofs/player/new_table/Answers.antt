use Rattle.std.proofs.Common.{arith, ◌+◌, refl, suc}
use Rattle.model_core.specs.Shape.{sources}
use Rattle.model_core.proofs.Frames.{source_below}
use Rattle.model_core.proofs.Lists.{contained_at}
use Rattle.model_play.proofs.Models.{first_table}
use Rattle.model_play.proofs.player.new_table.Goals as goal

pub index_mut-requires : goal.index_mut-requires
index_mut-requires c =
    let m = c.args.model.now in
    let one = source_below m c.requires (suc m.zero) (contained_at (sources m) (suc m.zero) 1 refl) in
    let z = c.zero.ensures in
    let n = c.in_ok-table.ensures.size in
    let s = c.size.ensures.size in
    let k = c.in_ok-table.table.ok.0 in
    omega (arith, one, z, n, s, k)

pub returns : goal.returns
returns c =
    let z = c.zero.ensures in
    first_table c.args.model.now c.requires c.in_ok-table.table.items c.size.result (c.zero.result + 1) c.size.ensures.size c.in_ok-table.ensures.bits (omega arith)
