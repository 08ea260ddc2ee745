use Rattle.std.proofs.Common.{◌≡◌, ◌+◌, ◌-◌, ◌<◌, ◌∙◌, suc, ap, sym, arith, rules, length}
use Rattle.net_text.proofs.Giving.{entry_read, gate_place, goals_end, more_left, more_place, next_left, zero_asks}
use Rattle.net_text.proofs.Writing.{six}
use Rattle.net_text.proofs.clauses.place_after.Goals as goal

pub returns-then-asks-clause-left : goal.returns-then-asks-clause-left
returns-then-asks-clause-left c =
    zero_asks c.args.encoded.now c.args.place.part c.args.place.within c.if-place-eq0.true (sym c.asks.ensures ∙ c.if-asks.true)

pub returns-in_default-clause-left : goal.returns-in_default-clause-left
returns-in_default-clause-left c =
    let p = c.args.place.part in
    let some : c.args.place.part ≡ suc (c.args.place.part - 1) = omega arith in
    let over = c.in_default.ensures.lookup.3 in
    let long = ap length c.gates-gates.ensures in
    goals_end c.args.encoded.now p (p - 1) c.args.place.within some (length c.gates-gates.result.now + 1) (omega arith) (omega arith)

pub overflow_add-place : goal.overflow_add-place
overflow_add-place c =
    let p = c.args.place.part in
    let x = c.in-Some.field-0.now in
    let some : c.args.place.part ≡ suc (c.args.place.part - 1) = omega arith in
    let at = entry_read c.gates-gates.result.now c.args.encoded.now.gates (p - 1) x c.gates-gates.ensures c.in-Some.ensures.lookup.3.0 c.in-Some.ensures.lookup.1 in
    let within = gate_place c.args.encoded.now p (p - 1) c.args.place.within some c.requires x at in
    let few = six x.1 x.0 in
    let small : c.args.place.within + 1 < 8 = omega arith in
    search rules

pub returns-then-place-clause_count-clause-place : goal.returns-then-place-clause_count-clause-place
returns-then-place-clause_count-clause-place c =
    let p = c.args.place.part in
    let x = c.in-Some.field-0.now in
    let some : c.args.place.part ≡ suc (c.args.place.part - 1) = omega arith in
    let at = entry_read c.gates-gates.result.now c.args.encoded.now.gates (p - 1) x c.gates-gates.ensures c.in-Some.ensures.lookup.3.0 c.in-Some.ensures.lookup.1 in
    let many = c.clause_count.ensures x.1 in
    more_place c.args.encoded.now p (p - 1) c.args.place.within some x at c.requires (omega arith)

pub returns-then-place-clause_count-clause-left : goal.returns-then-place-clause_count-clause-left
returns-then-place-clause_count-clause-left c =
    let p = c.args.place.part in
    let x = c.in-Some.field-0.now in
    let some : c.args.place.part ≡ suc (c.args.place.part - 1) = omega arith in
    let at = entry_read c.gates-gates.result.now c.args.encoded.now.gates (p - 1) x c.gates-gates.ensures c.in-Some.ensures.lookup.3.0 c.in-Some.ensures.lookup.1 in
    more_left c.args.encoded.now p (p - 1) c.args.place.within some x at c.requires

pub returns-else-place-clause_count-clause-left : goal.returns-else-place-clause_count-clause-left
returns-else-place-clause_count-clause-left c =
    let p = c.args.place.part in
    let x = c.in-Some.field-0.now in
    let some : c.args.place.part ≡ suc (c.args.place.part - 1) = omega arith in
    let at = entry_read c.gates-gates.result.now c.args.encoded.now.gates (p - 1) x c.gates-gates.ensures c.in-Some.ensures.lookup.3.0 c.in-Some.ensures.lookup.1 in
    let many = c.clause_count.ensures x.1 in
    next_left c.args.encoded.now p (p - 1) c.args.place.within some x at c.requires (omega arith)
