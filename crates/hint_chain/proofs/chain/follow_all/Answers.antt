use Rattle.std.proofs.Common.{◌≡◌, length, take, sym, ◌∙◌, subst, arith}
use Rattle.std.proofs.lemmas.List.{take_all}
use Rattle.unit_propagation.specs.Propagation.{IsFixpoint}
use Rattle.unit_propagation.specs.Propagator.{clauses_of}
use Rattle.hint_chain.proofs.Chaining.{goes_both, fixpoint_step}
use Rattle.hint_chain.proofs.chain.follow_all.Goals as goal

pub loop-k-preserved : goal.loop-k-preserved
loop-k-preserved c =
    let i = c.loop-k.invariant in
    let e = c.in_ok-follow.ensures in
    let slots = c.args.core.now.slots in
    let n = c.len-k-end.ensures in
    let k = c.loop-k.k in
    let first = c.args.marked.now.trail.items in
    let mid = c.loop-k.marked.trail.items in
    let last = c.follow.new.marked.trail.items in
    let v = i.goes in
    let w = e.goes (cc) in
    record {
      marked = e.marked;
      sized = e.sized ∙ i.sized;
      few = e.few;
      goes = goes_both slots c.args.ids.now c.args.hints.now.items c.loop-k.hints.items c.follow.new.hints.items first mid last v w;
      fixpoint = λ q.
          let a : length mid ≡ length first = (let x = v.longer in let y = w.longer in omega (arith, q, x, y)) in
          let b : length last ≡ length mid = (let x = v.longer in let y = w.longer in omega (arith, q, x, y)) in
          fixpoint_step last slots k (omega (arith, c.loop-k-test.true, c.loop-k.auto, n.count)) (subst (λ z. IsFixpoint z (clauses_of (take k slots))) (sym (w.same b)) (i.fixpoint a)) (e.settled (cc) b);
    }

pub returns-clause-fixpoint : goal.returns-clause-fixpoint
returns-clause-fixpoint c _ e =
    let i = c.loop-k.invariant in
    let slots = c.args.core.now.slots in
    let n = c.len-k-end.ensures in
    subst (λ z. IsFixpoint c.loop-k.marked.trail.items (clauses_of z)) (take_all c.loop-k.k slots (omega (arith, c.loop-k-test.false, c.loop-k.auto, n.count))) (i.fixpoint e)
