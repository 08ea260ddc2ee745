use Rattle.std.proofs.Common.{◌≡◌, ◌<◌, ◌++◌, ◌∷◌, [], false, length, sym, ap, ◌∙◌, subst, arith}
use Rattle.std.specs.Prelude.{Some}
use Rattle.unit_propagation.specs.Propagation.{IsSettled, IsFixpoint}
use Rattle.unit_propagation.specs.Propagator.{PropagatorOf, clauses_of}
use Rattle.unit_propagation.proofs.States.{fixpoint}
use Rattle.unit_propagation.specs.Watch.{slots_of}
use Rattle.unit_propagation.proofs.Stores.{length-slots}
use Rattle.unit_propagation.proofs.Slots.{clauses_of-contains, present_more, present_same}
use Rattle.unit_propagation.proofs.propagator.Propagator.collect.Goals.{in-Some+in_ok-add_settled, in_default}
use Rattle.unit_propagation.proofs.propagator.Propagator.collect.Goals as goal

pub add_settled-requires-clause-settled : goal.add_settled-requires-clause-settled
add_settled-requires-clause-settled c = λ e.
    let p = c.args.self.now in
    let x = c.in-Some.clause.now in
    let i = c.loop-k.invariant in
    let complete : p.conflict ≡ false → IsFixpoint p.trail (clauses_of p.slots) =
    subst (λ (k : PropagatorOf). k.conflict ≡ false → IsFixpoint k.trail (clauses_of k.slots)) c.self.view_is (λ f. fixpoint _ _ _ _ _ _ c.self.invariant.1 f) in
    subst (λ t. IsSettled t x) (sym (ap (λ (z : PropagatorOf). z.trail) i))
    (complete (sym (ap (λ (z : PropagatorOf). z.conflict) i) ∙ e) x (clauses_of-contains p.slots c.loop-k.k x c.in-Some.ensures.there))

pub loop-k-preserved : goal.loop-k-preserved
loop-k-preserved c =
    let p = c.args.self.now in
    let k = c.loop-k.k in
    let lits = c.self.inside.store.lits.items in
    let heads = c.self.inside.store.heads.items in
    let size : length (slots_of lits heads) ≡ length p.slots = ap (λ (z : PropagatorOf). length z.slots) c.self.view_is in
    let room : k < length p.slots = omega (arith, c.loop-k-test.true, c.len-k-end.ensures.count, size, length-slots lits heads) in
    elim c.match-clause.branch [
      | in-Some+in_ok-add_settled w ↦
          let x = w.in-Some.clause.now in
          let e = w.in_ok-add_settled.ensures in
          w.rest-is ∙ e.ok ∙ ap (λ (y : PropagatorOf). let z : PropagatorOf = record y { slots = y.slots ++ Some x ∷ [] } in z) c.loop-k.invariant
          ∙ ap (λ s. let z : PropagatorOf = record p { slots = s } in z) (sym (present_more p.slots k room x w.in-Some.ensures.there))
      | in_default w ↦
          w.rest-is ∙ c.loop-k.invariant ∙ ap (λ s. let z : PropagatorOf = record p { slots = s } in z) (sym (present_same p.slots k room w.in_default.ensures.gone))
    ]
