use Rattle.std.proofs.Common.{arith}
use Rattle.design_signals.proofs.Walking.{start_place, rest_chunks, place_in, next_place, step_bit, step_chunk}
use Rattle.design_signals.proofs.bits.Bits.next.Goals as goal

pub invariant_of-self : goal.invariant_of-self
invariant_of-self c =
    let cs = c.self.inside.chunks.now in
    let e = c.in_ok-chunk.ensures.cases.0 in
    record {
      chunks = c.self.invariant.chunks;
      place = next_place cs _ _ c.self.inside.place e (omega (arith, c.if-self-width.true));
    }

pub invariant_of-self-else-self-width : goal.invariant_of-self-else-self-width
invariant_of-self-else-self-width c =
    let cs = c.self.inside.chunks.now in
    let e = c.in_ok-chunk.ensures.cases.0 in
    let rest = rest_chunks cs _ _ e c.self.invariant.chunks in
    record { chunks = rest; place = start_place _ rest }

pub returns-then-self-width-clause-some : goal.returns-then-self-width-clause-some
returns-then-self-width-clause-some c =
    rw (← c.self.view_is) (step_bit c.self.inside.chunks.now _ _ c.self.inside.place _ c.in_ok-chunk.ensures.cases.0 c.self.invariant.place c.above-bit.ensures)

pub returns-else-self-width-clause-some : goal.returns-else-self-width-clause-some
returns-else-self-width-clause-some c =
    let e = c.in_ok-chunk.ensures.cases.0 in
    let within = place_in c.self.inside.chunks.now _ _ c.self.inside.place e c.self.invariant.place in
    rw (← c.self.view_is) (step_chunk c.self.inside.chunks.now _ _ c.self.inside.place _ e c.self.invariant.place c.above-bit.ensures (omega (arith, within, c.if-self-width.false)))
