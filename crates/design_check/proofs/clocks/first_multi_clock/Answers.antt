use Rattle.std.proofs.lemmas.Option.{slice_get_within}
use Rattle.std.proofs.Common.{◌≡◌, ◌∙◌, ◌≤◌, length, arith, true, refl, ap, sym, subst}
use Rattle.std.proofs.lemmas.Bool.{true≢false, false≢true}
use Rattle.std.specs.Prelude.{All}
use Rattle.std.proofs.lemmas.List.Elements.{All-contains}
use Rattle.design_core.specs.Shape.{CellOf, IsCellOf}
use Rattle.design_core.specs.Table.{is_clocked}
use Rattle.design_check.specs.Faults.{IsOneClock}
use Rattle.cell_table.specs.declared.kind.Kind.{Kind}
use Rattle.design_core.proofs.Lists.{Contains-from_place, each_more, item_is, item_at}
use Rattle.design_check.proofs.Clocking.{first_clock-within, first_clock-from, no_clock, clock-differs, none-before}
use Rattle.design_check.proofs.clocks.first_multi_clock.Goals as goal
use Rattle.design_check.proofs.clocks.first_multi_clock.Goals.{else-is_clocked-via-then-is_clocked+else-not-is_one_clock, else-is_clocked-via-else-is_clocked}

pub loop-place-preserved : goal.loop-place-preserved
loop-place-preserved c =
    each_more (λ (x : CellOf). is_clocked x.kind ≡ true → IsOneClock c.args.design.now c.index-cells-first.result x) c.cells-cells.result.now c.loop-place.place c.loop-place.invariant
    (λ x h clocked.
    let e = item_is c.cells-cells.result.now c.loop-place.place c.index-cells-place.result x c.index-cells-place.is h in
    elim c.else-is_clocked.branch as (λ _. IsOneClock c.args.design.now c.index-cells-first.result x) [
      | else-is_clocked-via-then-is_clocked+else-not-is_one_clock w ↦
          subst (IsOneClock c.args.design.now c.index-cells-first.result) e (w.if-not-is_one_clock.ensures.0 refl)
      | else-is_clocked-via-else-is_clocked w ↦
          let kind = c.is_clocked.ensures ∙ ap (λ (k : Kind). is_clocked k) (c.kind.ensures ∙ ap (λ (y : CellOf). y.kind) e) in
          absurd (true≢false (sym clocked ∙ (sym kind ∙ w.if-is_clocked.false)))
    ])

pub returns-in_default : goal.returns-in_default
returns-in_default c = no_clock c.args.design.now (rw c.cells-cells.ensures.cells at c.in_default.ensures)

pub returns-then-not-is_one_clock : goal.returns-then-not-is_one_clock
returns-then-not-is_one_clock c =
    let d = c.args.design.now in
    let is = rw c.cells-cells.ensures.cells at c.in-Some.ensures in
    let start = rw c.cells-cells.ensures.cells at
    (item_at c.cells-cells.result.now c.in-Some.first c.index-cells-first.result c.index-cells-first.is (first_clock-within c.cells-cells.result.now c.in-Some.first c.in-Some.ensures)) in
    let first = first_clock-from d c.in-Some.first c.index-cells-first.result is start in
    let at = rw c.cells-cells.ensures.cells at (item_at c.cells-cells.result.now c.loop-place.place c.index-cells-place.result c.index-cells-place.is c.loop-place-test.true) in
    let before = rw c.cells-cells.ensures.cells at c.loop-place.invariant in
    let clocked : is_clocked c.index-cells-place.result.kind ≡ true = ap (λ (k : Kind). is_clocked k) (sym c.kind.ensures) ∙ sym c.if-is_clocked.ensures in (
      (c.index-cells-place.result, at, clock-differs d c.in-Some.first c.index-cells-first.result first c.loop-place.place before c.index-cells-place.result clocked (λ h. false≢true (c.if-not-is_one_clock.ensures.1 h))),
      λ i e less there. none-before d c.in-Some.first c.index-cells-first.result first c.loop-place.place before i e less there,
    )

pub returns : goal.returns
returns c =
    let d = c.args.design.now in
    let is = rw c.cells-cells.ensures.cells at c.in-Some.ensures in
    let start = rw c.cells-cells.ensures.cells at
    (item_at c.cells-cells.result.now c.in-Some.first c.index-cells-first.result c.index-cells-first.is (first_clock-within c.cells-cells.result.now c.in-Some.first c.in-Some.ensures)) in
    let before = rw c.cells-cells.ensures.cells at c.loop-place.invariant in
    let most : length c.args.design.now.cells ≤ c.loop-place.place = rw c.cells-cells.ensures.cells at c.loop-place-test.false in
    λ i e at. none-before d c.in-Some.first c.index-cells-first.result (first_clock-from d c.in-Some.first c.index-cells-first.result is start) c.loop-place.place before i e
    (omega (arith, slice_get_within c.args.design.now.cells i e at, most)) at

pub is_one_clock-requires-clause-first : goal.is_one_clock-requires-clause-first
is_one_clock-requires-clause-first c =
    let all : All (IsCellOf c.args.design.now.wires c.args.design.now.free) c.cells-cells.result.now = rw c.cells-cells.ensures.cells c.cells-cells.ensures.design.cells in
    let at = item_at c.cells-cells.result.now c.in-Some.first c.index-cells-first.result c.index-cells-first.is (first_clock-within c.cells-cells.result.now c.in-Some.first c.in-Some.ensures) in
    All-contains (IsCellOf c.args.design.now.wires c.args.design.now.free) c.cells-cells.result.now c.index-cells-first.result all (Contains-from_place c.cells-cells.result.now c.in-Some.first c.index-cells-first.result at)

pub is_one_clock-requires-clause-other : goal.is_one_clock-requires-clause-other
is_one_clock-requires-clause-other c =
    let all : All (IsCellOf c.args.design.now.wires c.args.design.now.free) c.cells-cells.result.now = rw c.cells-cells.ensures.cells c.cells-cells.ensures.design.cells in
    let at = item_at c.cells-cells.result.now c.loop-place.place c.index-cells-place.result c.index-cells-place.is c.loop-place-test.true in
    All-contains (IsCellOf c.args.design.now.wires c.args.design.now.free) c.cells-cells.result.now c.index-cells-place.result all (Contains-from_place c.cells-cells.result.now c.loop-place.place c.index-cells-place.result at)
