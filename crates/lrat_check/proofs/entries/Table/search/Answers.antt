use Rattle.std.proofs.Common.{rules}
use Rattle.std.proofs.lemmas.List.Sorted.{answers_always}
use Rattle.lrat_check.proofs.Arena.{slot_err, slot_ok}
use Rattle.lrat_check.proofs.entries.Table.search.Goals as goal

-- the closure gives a slot's id, and the slice is the table's slots
pub returns-in-Ok-clause-some : goal.returns-in-Ok-clause-some
returns-in-Ok-clause-some c =
    let facts = c.in-Ok.ensures in
    let by_id = facts.position (λ s. s.id) (answers_always _ _ _ (λ f a r g called. search rules)) in
    rw (← c.self.view_is, ← c.deref.ensures.value) (slot_ok c.self.inside.lits.items _ (rw c.deref.ensures.value c.self.invariant) c.args.id c.in-Ok.place by_id facts.bound)

pub returns-in-Err-clause-none : goal.returns-in-Err-clause-none
returns-in-Err-clause-none c =
    let facts = c.in-Err.ensures in
    let by_id = facts.position (λ s. s.id) (answers_always _ _ _ (λ f a r g called. search rules)) in
    rw (← c.self.view_is, ← c.deref.ensures.value) (slot_err c.self.inside.lits.items _ (rw c.deref.ensures.value c.self.invariant) c.args.id c.in-Err.field-0 by_id facts.bound)
