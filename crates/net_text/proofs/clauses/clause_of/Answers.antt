use Rattle.std.proofs.Common.{◌≡◌, ◌-◌, ◌∙◌, suc, Some, ap, sym, arith}
use Rattle.clause_source.specs.Given.{lits_of}
use Rattle.net_text.proofs.Giving.{entry_read, gate_clause}
use Rattle.net_text.proofs.clauses.clause_of.Goals as goal

pub returns-in-Some : goal.returns-in-Some
returns-in-Some c =
    let p = c.args.place.part in
    let x = c.in-Some.field-0.now in
    let some : c.args.place.part ≡ suc (c.args.place.part - 1) = omega arith in
    let at = entry_read c.gates.result.now c.args.encoded.now.gates (p - 1) x c.gates.ensures c.in-Some.ensures.lookup.3.0 c.in-Some.ensures.lookup.1 in
    gate_clause c.args.encoded.now p (p - 1) c.args.place.within some x (lits_of c.given.result) at (c.clause_at.ensures ∙ ap Some (sym c.given.ensures))
