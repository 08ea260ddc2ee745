use Rattle.std.proofs.Common.{rules, ◌≡◌, ◌+◌, ◌<◌, ◌≤◌, ◌++◌, ◌∷◌, [], List, Bool, ℕ, arith, get_or, length, subst, sym, ap, ◌∙◌, take, drop}
use Rattle.std.specs.Prelude.{Contains}
use Rattle.std.proofs.lemmas.List.{length-append}
use Rattle.std.proofs.lemmas.List.Elements.{All-contains}
use Rattle.bit_net.specs.Search.{IsSearch, Takes, Visits}
use Rattle.bit_net.specs.Net.{node_at}
use Rattle.bit_net.specs.declared.node.Node.TheVariants as node
use Rattle.bit_net.proofs.Searching.{front_at, part_more, takes_other, takes_state, takes_whole}
use Rattle.bit_net.proofs.search.advance.Goals as goal
use Rattle.bit_net.proofs.search.advance.Goals.{in-State+in_ok-visit, in_default}

pub loop-place-preserved : goal.loop-place-preserved
loop-place-preserved c =
    let n = c.args.net.now in
    let old = c.args.found.now.items in
    let found = c.loop-place.found.items in
    let v = c.index.result.now in
    let inv = c.loop-place.invariant in
    let (more, front) = inv.takes.front in
    let test = c.loop-place-test.true in
    let from = c.loop-place.auto.place in
    let order = c.requires.begin in
    let high = c.requires.end in
    let lo : c.args.begin ≤ c.loop-place.place = omega arith in
    let inside : c.loop-place.place < length c.args.found.now.items = omega arith in
    let here : get_or c.loop-place.found.items c.loop-place.place c.index.result.now ≡ c.index.result.now = search rules in
    let at : get_or c.args.found.now.items c.loop-place.place c.index.result.now ≡ c.index.result.now = sym (front_at old found more c.loop-place.place v front inside) ∙ here in
    let part : drop c.args.begin (take (c.loop-place.place + 1) c.args.found.now.items) ≡ drop c.args.begin (take c.loop-place.place c.args.found.now.items) ++ c.index.result.now ∷ [] = part_more old c.args.begin c.loop-place.place v lo inside at in
    let in_found : Contains c.loop-place.found.items c.index.result.now = (c.loop-place.place, (let z = ap length front in let y = length-append old more in omega arith), here) in
    let above = (All-contains (λ (u : ℕ). (1 < u) × (u < length c.loop-place.seen.items)) found v inv.search.within in_found).0 in
    let node_is : c.node.result ≡ node_at c.args.net.now c.index.result.now = c.node.ensures in
    elim c.match-node.branch [
      | in-State+in_ok-visit w ↦
          let is : node_at c.args.net.now c.index.result.now ≡ node.State w.in-State.state = sym w.in-State.ensures in
          let same : c.match-node.found.items ≡ w.visit.new.found.items = ap (λ v. v.items) w.found-is in
          let marks : c.match-node.seen.items ≡ w.visit.new.seen.items = ap (λ v. v.items) w.seen-is in
          let visits : Visits (w.in-State.state.next.var ∷ []) c.loop-place.found.items w.visit.new.found.items = subst (λ (u : ℕ). Visits (u ∷ []) c.loop-place.found.items w.visit.new.found.items) w.var.ensures w.in_ok-visit.ensures.visits in
          let more = takes_state n (drop c.args.begin (take c.loop-place.place old)) old found w.visit.new.found.items v w.in-State.state above is inv.takes visits in
          record {
            size = subst (λ (s : List Bool). length s ≡ length c.args.seen.now.items) (sym marks) (w.in_ok-visit.ensures.size ∙ inv.size);
            search = subst (λ (s : List Bool). IsSearch s c.match-node.found.items) (sym marks) (subst (λ (f : List ℕ). IsSearch w.visit.new.seen.items f) (sym same) w.in_ok-visit.ensures.search);
            takes = subst (λ (f : List ℕ). Takes n (drop c.args.begin (take (c.loop-place.place + 1) old)) old f) (sym same) (subst (λ (vs : List ℕ). Takes n vs old w.visit.new.found.items) (sym part) more);
          }
      | in_default w ↦
          let same : c.match-node.found.items ≡ c.loop-place.found.items = ap (λ v. v.items) w.found-is in
          let marks : c.match-node.seen.items ≡ c.loop-place.seen.items = ap (λ v. v.items) w.seen-is in
          let more = takes_other n (drop c.args.begin (take c.loop-place.place old)) old found v (λ s e. w.in_default.not-State s (node_is ∙ e)) inv.takes in
          record {
            size = subst (λ (s : List Bool). length s ≡ length c.args.seen.now.items) (sym marks) inv.size;
            search = subst (λ (s : List Bool). IsSearch s c.match-node.found.items) (sym marks) (subst (λ (f : List ℕ). IsSearch c.loop-place.seen.items f) (sym same) inv.search);
            takes = subst (λ (f : List ℕ). Takes n (drop c.args.begin (take (c.loop-place.place + 1) old)) old f) (sym same) (subst (λ (vs : List ℕ). Takes n vs old c.loop-place.found.items) (sym part) more);
          }
    ]

pub returns-clause-takes : goal.returns-clause-takes
returns-clause-takes c =
    let past = c.loop-place-test.false in
    let up = c.loop-place.auto.place-end in
    let from = c.requires.begin in
    takes_whole c.args.net.now c.args.found.now.items c.loop-place.found.items c.args.begin c.loop-place.place c.args.end (omega arith) (omega arith) c.loop-place.invariant.takes
