use Rattle.std.proofs.Common.{◌≡◌, map, sym, ap, ◌∙◌, subst, arith}
use Rattle.std.proofs.lemmas.List.{take_all}
use Rattle.net_pair.specs.Numbers.{HaveStates, state_by}
use Rattle.net_pair.proofs.Numbering.{from_table}
use Rattle.net_pair.proofs.numbers.states_at.Goals as goal

pub returns : goal.returns
returns c =
    let t = c.loop-place-test.false in
    let all : c.loop-place.bits.items ≡ map (state_by c.in_ok-table.table.items) c.args.places.now =
    c.loop-place.invariant ∙ ap (map (state_by c.in_ok-table.table.items)) (take_all c.loop-place.place-index c.args.places.now (omega arith)) in
    subst (HaveStates c.args.held.now c.args.places.now) (sym all) (from_table c.args.held.now c.args.places.now c.in_ok-table.table.items c.in_ok-table.ensures)
