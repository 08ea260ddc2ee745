use Rattle.std.proofs.Common.{◌≡◌, ◌+◌, ◌∙◌, ℕ, suc, eqb, true, List, set, ap, arith}
use Rattle.btor_emit.specs.Table.{seat_at}
use Rattle.btor_emit.specs.declared.table.Seat.{Seat}
use Rattle.btor_emit.specs.declared.table.Seat.TheVariants.{Digit}
use Rattle.btor_emit.proofs.Beginning.{digits_only, one_below}
use Rattle.btor_emit.proofs.emit.first_table.Goals as goal

pub index_mut-requires : goal.index_mut-requires
index_mut-requires c =
    let z = one_below c.args.model.now c.requires in
    let e = c.zero.ensures in
    let l = c.in_ok-table.ensures.len in
    let s = c.size.ensures.size in
    omega arith

pub returns-clause-seats : goal.returns-clause-seats
returns-clause-seats c = λ p.
    let z = one_below c.args.model.now c.requires in
    let e = c.zero.ensures in
    let s = c.size.ensures.size in
    let one : c.zero.result + 1 ≡ suc c.args.model.now.zero = omega arith in
    ap (λ (xs : List Seat). seat_at (set xs (c.zero.result + 1) (Digit true)) p) (c.in_ok-table.ensures.items_if_clones_equal (λ y q. q)) ∙ digits_only c.size.result (c.zero.result + 1) p (omega arith) ∙ ap (λ (k : ℕ). Digit (eqb p k)) one
