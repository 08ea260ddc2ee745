use Rattle.std.proofs.Common.{All, List, refl, subst, sym}
use Rattle.std.proofs.lemmas.Bool.{false≢true}
use Rattle.std.proofs.lemmas.List.Elements.{All-contains}
use Rattle.design_core.specs.Shape.{DesignOf}
use Rattle.design_meaning.specs.Runs.{CycleOf, IsCycleOf}
use Rattle.design_core.proofs.Lists.{All-from_places, Contains-from_place, each_more, item_at, item_is}
use Rattle.design_check.proofs.flat.Flat.fits.Goals as goal

pub loop-cycle-preserved : goal.loop-cycle-preserved
loop-cycle-preserved c =
    each_more (IsCycleOf c.args.self.now) c.cycles-cycles.result.now c.loop-cycle.cycle-index c.loop-cycle.invariant
    (λ x h. subst (IsCycleOf c.args.self.now) (item_is c.cycles-cycles.result.now c.loop-cycle.cycle-index c.cycle-item.result x c.cycle-item.is h)
    (subst (λ (d : DesignOf). IsCycleOf d c.cycle-item.result) c.self.view_is (c.if-not-fits_cycle.ensures.0 refl)))

pub returns-then-not-fits_cycle : goal.returns-then-not-fits_cycle
returns-then-not-fits_cycle c = (
  λ h. absurd (false≢true h),
  λ all.
      let here = item_at c.cycles-cycles.result.now c.loop-cycle.cycle-index c.cycle-item.result c.cycle-item.is c.loop-cycle-test.true in
      let each = subst (λ (cs : List CycleOf). All (IsCycleOf c.args.self.now) cs) (sym c.cycles-cycles.ensures) all in
      let fit = All-contains (IsCycleOf c.args.self.now) c.cycles-cycles.result.now _ each (Contains-from_place c.cycles-cycles.result.now _ _ here) in
      c.if-not-fits_cycle.ensures.1 (subst (λ (d : DesignOf). IsCycleOf d c.cycle-item.result) (sym c.self.view_is) fit),
)

pub returns : goal.returns
returns c = (
  λ _. rw c.cycles-cycles.ensures at (All-from_places (IsCycleOf c.args.self.now) c.cycles-cycles.result.now c.loop-cycle.cycle-index c.loop-cycle-test.false c.loop-cycle.invariant),
  λ _. refl,
)
