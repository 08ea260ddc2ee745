use Rattle.std.proofs.Common.{◌<◌, length, sym, ◌∙◌, ap, rules}
use Rattle.lrat_check.specs.declared.entries.Slot.{Slot}
use Rattle.lrat_check.proofs.Arena.{place_in}
use Rattle.lrat_check.proofs.entries.Table.place.Goals as goal

pub returns-then-index-id-clause-some : goal.returns-then-index-id-clause-some
returns-then-index-id-clause-some c =
    let slots = c.self.inside.slots.items in
    let k = c.saturating_sub-guess.result in
    let s = c.index-then-guess-len.result.now in
    let within : k < length slots = search rules in
    rw (← c.self.view_is) (place_in c.self.inside.lits.items slots c.self.invariant c.args.id k s within (sym (ap (λ (z : Slot). z.id) c.index-then-guess-len.ensures) ∙ c.if-index-id.true))
