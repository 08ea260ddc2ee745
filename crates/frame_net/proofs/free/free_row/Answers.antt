use Rattle.std.proofs.Common.{◌≡◌, ℕ, add-one, arith, rules, subst}
use Rattle.frame_net.specs.Making.{IsFreeRow}
use Rattle.frame_net.proofs.Rows.{free_more, free_none}
use Rattle.frame_net.proofs.free.free_row.Goals as goal

pub loop-init : goal.loop-init
loop-init c = rw c.new-row.ensures.items (free_none c.args.gates.now)

pub returns-in_err-lit-clause-too_many : goal.returns-in_err-lit-clause-too_many
returns-in_err-lit-clause-too_many c = λ e.
    let full = c.in_err-lit.ensures.too_many (search rules) in
    let vars = c.loop.invariant.vars in
    let limit = c.loop.invariant.continues.limit in
    record { full = full.full; past = let p = full.past in omega arith }

pub loop-preserved : goal.loop-preserved
loop-preserved c = rw (c.in_ok-push.ensures, add-one) (free_more c.args.gates.now c.loop.gates c.free_bit.new.gates c.loop.counter c.loop.row.items c.in_ok-lit.lit c.loop.invariant c.in_ok-lit.ensures.bit)

pub returns-clause-row : goal.returns-clause-row
returns-clause-row c = subst (λ (n : ℕ). IsFreeRow c.args.gates.now c.loop.gates n c.loop.row.items) (let e : c.loop.counter ≡ c.args.count = omega arith in e) c.loop.invariant
