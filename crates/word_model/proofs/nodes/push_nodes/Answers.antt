use Rattle.std.proofs.Common.{◌≡◌, ◌++◌, ◌∷◌, ◌+◌, [], List, Some, refl, ap, sym, subst, length, arith}
use Rattle.std.specs.Prelude.{slice_get}
use Rattle.std.proofs.lemmas.Option.{slice_get-get_or}
use Rattle.model_core.specs.Shape.{ModelOf, NodeOf}
use Rattle.word_model.specs.Nodes.{AreNodes}
use Rattle.word_model.proofs.Growing.{no-nodes, nodes-next, rest-nodes}
use Rattle.word_model.proofs.nodes.push_nodes.Goals as goal

pub loop-place-init : goal.loop-place-init
loop-place-init c = record { made = no-nodes c.args.flat.now c.order-order.result.now c.args.draft.now.nodes c.requires.empty; rest = refl }

pub loop-place-preserved : goal.loop-place-preserved
loop-place-preserved c =
    let p = rw c.design-design.ensures.design at c.in_ok-push_driver.ensures in
    record {
      made =
          subst (λ (l : List NodeOf). AreNodes c.args.flat.now c.order-order.result.now (c.loop-place.place + 1) l) (sym (ap (λ (m : ModelOf). m.nodes) p.2))
          (nodes-next c.args.flat.now c.order-order.result.now c.loop-place.place c.loop-place.draft.nodes _ p.0 c.loop-place.invariant.made (slice_get-get_or c.order-order.result.now c.loop-place.place _ c.loop-place-test.true) p.1);
      rest = rest-nodes c.args.draft.now c.loop-place.draft c.push_driver.new.draft (c.loop-place.draft.nodes ++ p.0 ∷ []) c.loop-place.invariant.rest p.2;
    }
