use Rattle.std.proofs.Common.{◌≡◌, ◌+◌, ◌-◌, length, arith, rules}
use Rattle.std.specs.Prelude.{Contains}
use Rattle.cnf_form.proofs.Members.{Contains-read}
use Rattle.unit_propagation.proofs.Trails.{trail_cut, placed_cut, mark_room}
use Rattle.unit_propagation.proofs.trail.Trail.pop.Goals as goal

pub index_mut-requires : goal.index_mut-requires
index_mut-requires c =
    let t = c.self.inside.lits.items in
    let marks = c.self.inside.marks in
    let l = c.index-l.result.now in
    let n = c.len-place.result - 1 in
    let last : n + 1 ≡ length t = (let h = c.requires in search rules) in
    let on : Contains t l = Contains-read t n l (omega (arith, last)) c.index-l.ensures in
    let room = mark_room c.self.inside.vars marks.items t l c.self.invariant.0 on in
    let size : marks.len ≡ length marks.items = search rules in
    omega (arith, room, c.index.ensures, size)

pub invariant_of-self : goal.invariant_of-self
invariant_of-self c = (
  trail_cut _ _ c.self.inside.lits.items _ (c.len-place.result - 1) _ c.index-l.result.now c.self.invariant.0 (let h = c.requires in search rules) c.index-l.ensures c.truncate.ensures.items c.index.ensures,
  placed_cut _ c.self.inside.lits.items _ (c.len-place.result - 1) c.self.invariant.1 c.truncate.ensures.items,
)
