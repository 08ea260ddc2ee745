use Rattle.std.proofs.Common.{◌≡◌, ◌<◌, ◌∙◌, ◌++◌, ◌∷◌, [], ℕ, List, Some, take, length, ap, sym, subst, arith}
use Rattle.std.specs.Prelude.{slice_get}
use Rattle.design_core.specs.Shape.{ConnectOf, DesignOf}
use Rattle.design_graph.specs.Items.{IsCut, IsNext}
use Rattle.design_graph.specs.declared.item.Item.{Item}
use Rattle.design_graph.proofs.Driving.{connect-cut, cut-start}
use Rattle.design_lower.specs.Passing.{IsPassing}
use Rattle.std.proofs.lemmas.List.{take_all}
use Rattle.design_core.proofs.Lists.{item_at}
use Rattle.design_lower.proofs.Distinct.{take-next}
use Rattle.design_lower.proofs.Passing.{all-cells, left-passing, order-passing, passing-connect, passing-start, right-passing}
use Rattle.design_lower.proofs.lowering.pass_items.Goals as goal
use Rattle.design_lower.proofs.lowering.pass_items.Goals.{After-index-connects-place}

pub items-init : goal.items-init
items-init c = record {
  cut = cut-start c.args.design.now;
  passing = passing-start c.args.design.now c.args.low.now c.requires.low c.args.muxes.now.items c.requires.muxes;
  copied = ap (λ (x : DesignOf). x.connects) c.requires.low;
}

connect : (c : After-index-connects-place) → slice_get c.args.design.now.connects c.in-Connect.place ≡ Some c.index-connects-place.result
connect c =
    let n = subst (λ (e : Item). IsNext c.args.design.now c.items.cells c.items.connects e) c.in-Connect.is c.in-Some.ensures.some in
    let lt : c.in-Connect.place < length c.args.design.now.connects = omega (arith, n.0, n.1.connects_there) in
    let there : c.in-Connect.place < length c.connects.result.now = rw c.connects.ensures.connects lt in
    rw c.connects.ensures.connects at (item_at c.connects.result.now c.in-Connect.place c.index-connects-place.result c.index-connects-place.is there)

pub copy_connect-requires-clause-left : goal.copy_connect-requires-clause-left
copy_connect-requires-clause-left c =
    left-passing c.args.design.now c.requires.shape c.items.cells c.items.low c.items.muxes.items c.items.number c.items.invariant.passing c.in-Connect.place c.index-connects-place.result
    (connect (goal.at.copy_connect-requires-clause-left c).After-index-connects-place)

pub copy_connect-requires-clause-right : goal.copy_connect-requires-clause-right
copy_connect-requires-clause-right c =
    right-passing c.args.design.now c.requires.shape c.items.cells c.items.low c.items.muxes.items c.items.number c.items.invariant.passing c.in-Connect.place c.index-connects-place.result
    (connect (goal.at.copy_connect-requires-clause-right c).After-index-connects-place)

pub copy_connect-requires-clause-order : goal.copy_connect-requires-clause-order
copy_connect-requires-clause-order c =
    let d = c.args.design.now in
    let n = subst (λ (e : Item). IsNext c.args.design.now c.items.cells c.items.connects e) c.in-Connect.is c.in-Some.ensures.some in
    order-passing d c.requires.shape c.items.cells c.items.low c.items.muxes.items c.items.number c.items.invariant.passing c.in-Connect.place c.index-connects-place.result
    (connect (goal.at.copy_connect-requires-clause-order c).After-index-connects-place)
    (subst (λ (k : ℕ). IsCut c.args.design.now c.items.cells k) (sym n.0) c.items.invariant.cut) (connect-cut d c.items.cells c.items.connects c.in-Connect.place n)

pub items-preserved : goal.items-preserved
items-preserved c =
    let d = c.args.design.now in
    let n = subst (λ (e : Item). IsNext c.args.design.now c.items.cells c.items.connects e) c.in-Connect.is c.in-Some.ensures.some in
    let new : c.copy_connect.new.low ≡ record c.items.low { connects = c.items.low.connects ++ c.index-connects-place.result ∷ [] } = c.in_ok-copy_connect-in-Connect.ensures in
    let front : c.items.low.connects ≡ take c.in-Connect.place c.args.design.now.connects = c.items.invariant.copied ∙ ap (λ (k : ℕ). take k c.args.design.now.connects) (sym n.0) in
    record {
      cut = connect-cut d c.items.cells c.items.connects c.in-Connect.place n;
      passing =
          passing-connect d c.requires.shape c.items.cells c.items.low c.items.muxes.items c.items.number c.items.invariant.passing (c.items.low.connects ++ c.index-connects-place.result ∷ [])
          c.copy_connect.new.low new;
      copied = ap (λ (x : DesignOf). x.connects) new
          ∙ (ap (λ (l : List ConnectOf). l ++ c.index-connects-place.result ∷ []) front
          ∙ sym (take-next d.connects c.in-Connect.place c.index-connects-place.result (connect (goal.at.items-preserved c).After-index-connects-place)));
    }

pub returns-clause-passing : goal.returns-clause-passing
returns-clause-passing c =
    let all = all-cells c.args.design.now c.items.cells c.items.connects c.items.invariant.cut c.in_default.ensures.none in
    (c.items.number, subst (λ (i : ℕ). IsPassing c.args.design.now i c.items.low c.items.muxes.items c.items.number) all.0 c.items.invariant.passing)

pub returns-clause-connects : goal.returns-clause-connects
returns-clause-connects c =
    let all = all-cells c.args.design.now c.items.cells c.items.connects c.items.invariant.cut c.in_default.ensures.none in
    c.items.invariant.copied ∙ take_all c.items.connects c.args.design.now.connects (omega (arith, all.1))
