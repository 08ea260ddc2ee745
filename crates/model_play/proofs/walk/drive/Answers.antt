use Rattle.std.proofs.Common.{◌∙◌, ap, sym, refl, arith, length, get_or, List, ℕ}
use Rattle.model_core.specs.Served.{IsNode}
use Rattle.model_core.proofs.Lists.{all_at, at_place}
use Rattle.model_play.specs.Playing.{cycle_of}
use Rattle.model_play.proofs.Models.{one_place, y_below}
use Rattle.model_play.proofs.Tables.{one_others, one_written}
use Rattle.model_play.proofs.walk.drive.Goals as goal

pub bounds-y-0 : goal.bounds-y-0
bounds-y-0 c =
    let m = c.args.model.now in
    let n = at_place m.nodes c.args.node c.requires.node in
    let one = one_place (cycle_of c.args.table.now) n.0 c.in-Some.bit (all_at IsNode m.nodes c.args.node n.0 c.requires.model.nodes n.1) (c.in-Some.ensures n.0 c.in-Some.bit n.1 refl) in
    let e = ap (λ (ps : List ℕ). length ps) (c.y.ensures n.0 n.1) in
    omega (arith, one, e)

pub bounds-table-y : goal.bounds-table-y
bounds-table-y c =
    let m = c.args.model.now in
    let n = at_place m.nodes c.args.node c.requires.node in
    let one = one_place (cycle_of c.args.table.now) n.0 c.in-Some.bit (all_at IsNode m.nodes c.args.node n.0 c.requires.model.nodes n.1) (c.in-Some.ensures n.0 c.in-Some.bit n.1 refl) in
    let e = ap (λ (ps : List ℕ). length ps) (c.y.ensures n.0 n.1) in
    y_below m c.requires.model c.args.node n.0 n.1 (length c.args.table.now) c.y.result.now c.requires.table (c.y.ensures n.0 n.1) 0 0 (omega (arith, one, e))

pub returns-in-Some-clause-row : goal.returns-in-Some-clause-row
returns-in-Some-clause-row c = λ n e.
    let m = c.args.model.now in
    let h = c.in-Some.ensures n c.in-Some.bit e refl in
    let one = one_place (cycle_of c.args.table.now) n c.in-Some.bit (all_at IsNode m.nodes c.args.node n c.requires.model.nodes e) h in
    let eq = ap (λ (ps : List ℕ). get_or ps 0 0) (c.y.ensures n e) in
    let below = y_below m c.requires.model c.args.node n e (length c.args.table.now) c.y.result.now c.requires.table (c.y.ensures n e) 0 0 (let z = ap (λ (ps : List ℕ). length ps) (c.y.ensures n e) in omega (arith, one, z)) in
    one_written n.y c.args.table.now (get_or c.y.result.now 0 0) c.in-Some.bit one eq below ∙ sym h

pub returns-in-Some-clause-others : goal.returns-in-Some-clause-others
returns-in-Some-clause-others c = λ n e.
    let m = c.args.model.now in
    let one = one_place (cycle_of c.args.table.now) n c.in-Some.bit (all_at IsNode m.nodes c.args.node n c.requires.model.nodes e) (c.in-Some.ensures n c.in-Some.bit e refl) in
    one_others n.y c.args.table.now (get_or c.y.result.now 0 0) c.in-Some.bit one (ap (λ (ps : List ℕ). get_or ps 0 0) (c.y.ensures n e))
