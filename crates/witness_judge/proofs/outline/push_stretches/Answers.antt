use Rattle.std.proofs.Common.{◌≡◌, ◌++◌, ◌∷◌, [], sym, ◌<◌, ◌≤◌, ◌≢◌, ◌+◌, ◌-◌, ℕ, List, Bool, inl, length, ap, subst, arith}
use Rattle.std.specs.Prelude.{Option}
use Rattle.btor_emit.specs.States.{is_known}
use Rattle.btor_emit.proofs.Edging.{edge_at, next_begins, span_of, stretch_of}
use Rattle.witness_judge.proofs.outline.push_stretches.Goals as goal
use Rattle.witness_judge.proofs.Outlining.{one_more}
use Rattle.witness_judge.specs.Outlining.{AreStretchesTo, outlined}

pub overflow_add-end : goal.overflow_add-end
overflow_add-end c =
    let span = span_of c.args.model.now c.args.register c.q.result.now c.requires.model.registers c.requires.register c.q.ensures in
    omega (arith, span.end, c.requires.first, span.inside, ap (λ (ps : List ℕ). length ps) c.states-bits.ensures)

pub loop-next-init : goal.loop-next-init
loop-next-init c = record { low = omega arith; high = omega arith; begin = inl (c.args.register, c.requires.first); made = c.requires.made }

pub stretch-stop-requires-clause-end : goal.stretch-stop-requires-clause-end
stretch-stop-requires-clause-end c =
    let span = span_of c.args.model.now c.args.register c.q.result.now c.requires.model.registers c.requires.register c.q.ensures in
    omega (arith, span.end, c.requires.first, span.inside, c.requires.model.starts, ap (λ (ds : List (Option Bool)). length ds) c.starts-starts.ensures)

pub push_stretch-requires-clause-inside : goal.push_stretch-requires-clause-inside
push_stretch-requires-clause-inside c =
    let span = span_of c.args.model.now c.args.register c.q.result.now c.requires.model.registers c.requires.register c.q.ensures in
    omega (arith, span.end, c.requires.first, span.inside, c.stretch-stop.ensures.most, c.requires.model.starts, ap (λ (ds : List (Option Bool)). length ds) c.starts-starts.ensures)

pub push_stretch-requires-clause-width : goal.push_stretch-requires-clause-width
push_stretch-requires-clause-width c =
    let span = span_of c.args.model.now c.args.register c.q.result.now c.requires.model.registers c.requires.register c.q.ensures in
    omega (arith, span.narrow, c.stretch-stop.ensures.most, c.loop-next.invariant.low)

pub loop-next-preserved : goal.loop-next-preserved
loop-next-preserved c =
    let m = c.args.model.now in
    let i = c.args.register in
    let span = span_of m i c.q.result.now c.requires.model.registers c.requires.register c.q.ensures in
    let end = span.end in
    let first = c.requires.first in
    let next = c.loop-next.next in
    let stop = c.stretch-stop.result in
    let most = c.stretch-stop.ensures.most in
    let some = c.stretch-stop.ensures.some in
    let low = c.loop-next.invariant.low in
    record {
      low = omega arith;
      high = most;
      begin = next_begins m i next stop some (omega arith)
          (subst (λ (ds : List (Option Bool)). (k : ℕ) → next ≤ k → k < stop → is_known ds k ≡ is_known ds next) c.starts-starts.ensures c.stretch-stop.ensures.alike)
          (λ l. subst (λ (ds : List (Option Bool)). is_known ds stop ≢ is_known ds next) c.starts-starts.ensures (c.stretch-stop.ensures.longest (omega arith)));
      made = rw c.in_ok-push_stretch.ensures (subst (λ (ds : List (Option Bool)). AreStretchesTo m (c.loop-next.made.items ++ outlined ds next stop ∷ []) stop) (sym c.starts-starts.ensures) (one_more m c.loop-next.made.items _ stop c.loop-next.invariant.made
          (stretch_of m i next stop (record { nid = 0; width = stop - next }) (omega arith) some (omega arith)
          (subst (λ (ds : List (Option Bool)). (k : ℕ) → next ≤ k → k < stop → is_known ds k ≡ is_known ds next) c.starts-starts.ensures c.stretch-stop.ensures.alike) c.loop-next.invariant.begin (omega arith)) (omega arith)));
    }

pub returns : goal.returns
returns c =
    let span = span_of c.args.model.now c.args.register c.q.result.now c.requires.model.registers c.requires.register c.q.ensures in
    let e : c.loop-next.next ≡ edge_at c.args.model.now (c.args.register + 1) = omega (arith, span.end, c.requires.first, c.loop-next.invariant.high, c.loop-next-test.false) in
    subst (λ (k : ℕ). AreStretchesTo c.args.model.now c.loop-next.made.items k) e c.loop-next.invariant.made
