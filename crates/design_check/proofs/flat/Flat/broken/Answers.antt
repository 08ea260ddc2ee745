use Rattle.std.proofs.Common.{ℕ, ◌<◌, ◌-◌, List, Option, length, ap, subst, arith}
use Rattle.std.specs.Prelude.{MatchOption}
use Rattle.std.proofs.lemmas.List.{get_or_read}
use Rattle.design_core.specs.Shape.{DesignOf}
use Rattle.design_meaning.specs.Meaning.{Broken}
use Rattle.design_meaning.specs.Runs.{CycleOf, no_cycle, valuation_of}
use Rattle.design_check.proofs.flat.Flat.broken.Goals as goal

-- what is said of the first broken assertion in a cycle
Says : DesignOf → CycleOf → Option ℕ → Type 0
Says d cycle r =
    MatchOption r ((a : ℕ) → Broken d (valuation_of d cycle) a → ⊥)
    (λ a. Broken d (valuation_of d cycle) a × ((k : ℕ) → k < a → Broken d (valuation_of d cycle) k → ⊥))

pub returns : goal.returns
unfolding Says
returns c =
    let len = ap (λ (l : List CycleOf). length l) c.cycles-cycles.ensures in
    let lt : length c.cycles-cycles.result.now - 1 < length c.cycles-cycles.result.now = omega (arith, len, c.requires.some) in
    let last = rw c.cycles-cycles.ensures at (get_or_read c.cycles-cycles.result.now (length c.cycles-cycles.result.now - 1) c.index-cycles-cycles.result lt c.index-cycles-cycles.is no_cycle) in
    let same : Says c.args.self.now c.index-cycles-cycles.result c.first_broken.result =
    subst (λ (d : DesignOf). Says d c.index-cycles-cycles.result c.first_broken.result) c.self.view_is c.first_broken.ensures in
    subst (λ (y : CycleOf). Says c.args.self.now y c.first_broken.result) last same
