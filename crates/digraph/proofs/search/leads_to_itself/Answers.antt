use Rattle.std.proofs.Common.{◌≡◌, ◌<◌, ◌∙◌, inl, inr, ℕ, List, Some, Vec, refl, sym, ap, subst, arith}
use Rattle.std.specs.Prelude.{slice_get}
use Rattle.std.specs.Global.{Global}
use Rattle.std.proofs.lemmas.Bool.{false≢true, cases_lt}
use Rattle.std.proofs.lemmas.Option.{slice_get-get_or, get_or_from_slice_get}
use Rattle.digraph.proofs.Lists.{get-below, item-at, one-at}
use Rattle.digraph.proofs.search.leads_to_itself.Goals as goal

pub returns-then-next-node : goal.returns-then-next-node
returns-then-next-node c =
    let at = slice_get-get_or c.as_slice-next-items.result.now c.loop-next.next-index 0 c.loop-next-test.true ∙ ap (λ (x : ℕ). Some x) c.if-next-node.true in (
      λ _. (
        c.loop-next.next-index,
        (
          c.index-graph-node.result,
          item-at c.args.graph.now c.args.node c.index-graph-node.result c.index-graph-node.is c.requires,
          subst (λ (xs : List ℕ). slice_get xs c.loop-next.next-index ≡ Some c.args.node) c.as_slice-next-items.ensures.value at,
        ),
      ),
      λ _. refl,
    )

pub loop-next-preserved : goal.loop-next-preserved
loop-next-preserved c = λ k x lt h e.
    elim (cases_lt k c.loop-next.next-index) as (λ _. ⊥) [
      | inl less ↦ c.loop-next.invariant k x less h e
      | inr more ↦
          let ek : k ≡ c.loop-next.next-index = omega arith in
          let here = get_or_from_slice_get c.as_slice-next-items.result.now c.loop-next.next-index x 0 (subst (λ (j : ℕ). slice_get c.as_slice-next-items.result.now j ≡ Some x) ek h) in
          c.if-next-node.false (here ∙ e)
    ]

pub returns : goal.returns
returns c = (
  λ h. absurd (false≢true h),
  λ h.
      let row : h.1.0 ≡ c.index-graph-node.result = one-at c.args.graph.now c.args.node h.1.0 c.index-graph-node.result h.1.1 (item-at c.args.graph.now c.args.node c.index-graph-node.result c.index-graph-node.is c.requires) in
      let at : slice_get c.as_slice-next-items.result.now h.0 ≡ Some c.args.node =
      subst (λ (xs : List ℕ). slice_get xs h.0 ≡ Some c.args.node) (ap (λ (r : Vec ℕ Global). r.items) row ∙ sym c.as_slice-next-items.ensures.value) h.1.2 in
      let lt : h.0 < c.loop-next.next-index = omega (arith, get-below c.as_slice-next-items.result.now h.0 c.args.node at) in
      absurd (c.loop-next.invariant h.0 c.args.node lt at refl),
)
