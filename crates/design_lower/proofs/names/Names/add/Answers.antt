use Rattle.std.proofs.Common.{◌≡◌, ◌⊎◌, ◌↔◌, ◌∙◌, ℕ, true, List, sym, subst}
use Rattle.design_lower.specs.Progress.{has}
use Rattle.design_lower.proofs.Listed.{has-old, has-push}
use Rattle.design_lower.proofs.names.Names.add.Goals as goal

pub returns-then-has : goal.returns-then-has
returns-then-has c = λ n. has-old c.args.self.now c.args.name.now n (sym c.has.ensures ∙ c.if-has.true)

pub returns : goal.returns
returns c = λ n.
    let P : List (List ℕ) → Type 0 = λ l. (has l n ≡ true) ↔ ((has c.args.self.now n ≡ true) ⊎ (n ≡ c.args.name.now)) in
    subst P (sym c.in_ok-push.ensures) (has-push c.args.self.now c.args.name.now n)
