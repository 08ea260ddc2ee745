use Rattle.std.proofs.Common.{ℕ, ◌∙◌, length, take, ap, arith}
use Rattle.gate_words.proofs.Quotients.{Place-made}
use Rattle.gate_words.proofs.division.place.Goals as goal

pub returns-clause-place : goal.returns-clause-place
returns-clause-place c =
    let step = rw c.deref.ensures.value at c.in_ok-bit.ensures.step in
    Place-made c.args.gates.now c.subtracted.new.gates c.args.digit c.args.rest.now c.args.b.now c.in_ok-top.top.items _ c.args.zero c.in_ok-bit.bit c.in_ok-bit.less.items step c.in_ok-top.ensures.literals (c.split_at.ensures.front ∙ ap (λ (i : ℕ). take i c.args.b.now) {x = c.len.result} {y = length c.in_ok-top.top.items} (omega arith)) c.requires.room
