use Rattle.std.proofs.Common.{◌≡◌, ◌<◌, ◌++◌, ◌∷◌, [], length, sym, ap, ◌∙◌, arith}
use Rattle.std.specs.Prelude.{Some}
use Rattle.frozen_clauses.specs.Frozen.{FrozenOf}
use Rattle.std.proofs.lemmas.List.{length-map}
use Rattle.frozen_clauses.specs.Inside.{slot_of, slots_of}
use Rattle.unit_propagation.proofs.Slots.{present_more, present_same}
use Rattle.frozen_clauses.proofs.frozen.Frozen.collect.Goals.{in-Some+in_ok-push, in_default}
use Rattle.frozen_clauses.proofs.frozen.Frozen.collect.Goals as goal

pub loop-k-preserved : goal.loop-k-preserved
loop-k-preserved c =
    let f = c.args.self.now in
    let k = c.loop-k.k in
    let same : length (slots_of c.self.inside.clauses.items) ≡ length f.slots = ap (λ (z : FrozenOf). length z.slots) c.self.view_is in
    let room : k < length f.slots = omega (arith, c.loop-k-test.true, c.len-k-end.ensures, same, length-map c.self.inside.clauses.items slot_of) in
    elim c.match-clause.branch [
      | in-Some+in_ok-push w ↦
          let x = w.in-Some.clause.now in
          w.rest-is ∙ w.in_ok-push.ensures.ok ∙ ap (λ (y : FrozenOf). let z : FrozenOf = record y { slots = y.slots ++ Some x ∷ [] } in z) c.loop-k.invariant
          ∙ ap (λ s. let z : FrozenOf = record f { slots = s } in z) (sym (present_more f.slots k room x w.in-Some.ensures.there))
      | in_default w ↦ w.rest-is ∙ c.loop-k.invariant ∙ ap (λ s. let z : FrozenOf = record f { slots = s } in z) (sym (present_same f.slots k room w.in_default.ensures.gone))
    ]
