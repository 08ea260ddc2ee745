use Rattle.std.proofs.Common.{ℕ, ◌<◌, ◌≤◌, List, length, subst, sym}
use Rattle.std.specs.Prelude.{All}
use Rattle.judge.proofs.Held.{held_below, held_few}
use Rattle.judge.proofs.basis.bits_of.Goals as goal

pub states_at-requires-clause-below : goal.states_at-requires-clause-below
states_at-requires-clause-below c =
    let below = held_below c.args.model.now c.size.ensures.model c.requires.net.0 c.args.net.now c.requires.net.1 in
    subst (λ (size : ℕ). All (λ (p : ℕ). p < size) c.states.result.now) (sym c.size.ensures.size) (subst (λ (ps : List ℕ). All (λ (p : ℕ). p < c.args.model.now.size) ps) (sym c.states.ensures) below)

pub states_at-requires-clause-few : goal.states_at-requires-clause-few
states_at-requires-clause-few c =
    let few = held_few c.args.model.now c.size.ensures.model c.requires.net.0 c.args.net.now c.requires.net.1 in
    subst (λ (size : ℕ). length c.states.result.now ≤ size) (sym c.size.ensures.size) (subst (λ (ps : List ℕ). length ps ≤ c.args.model.now.size) (sym c.states.ensures) few)
