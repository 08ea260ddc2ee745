use Rattle.std.proofs.Common.{◌≡◌, ◌<◌, ◌≤◌, ◌-◌, ◌∷◌, [], ℕ, All, Err, ap, sym, subst, ◌∙◌, arith, inl, inr}
use Rattle.std.proofs.lemmas.Bool.{cases_lt}
use Rattle.gate_graph.specs.declared.gates.GateFault.{GateFault}
use Rattle.bit_net.specs.Net.{vars}
use Rattle.cnf_form.specs.Cnf.{LitOf}
use Rattle.bit_net.specs.Levels.{prefix_of}
use Rattle.bit_net.specs.Reaching.{early_before, levels, nexts}
use Rattle.net_unroll.specs.Making.{made_of, nothing_made}
use Rattle.net_unroll.specs.Program.{cycle}
use Rattle.net_unroll.proofs.Stepping.{cycles_more, cycles_past, levels_within}
use Rattle.net_unroll.proofs.cycles.add_cycles.Goals as goal

pub add_cycle-requires-clause-places : goal.add_cycle-requires-clause-places
add_cycle-requires-clause-places c =
    let test = c.loop-t-test.true in
    let n = c.args.net.now in
    let goals = c.args.goal ∷ n.assumed ∷ [] in
    let some : 0 < c.args.cycles.count = omega arith in
    let inside : c.args.cycles.count - c.loop-t.t ≤ c.args.cycles.count = omega arith in
    elim (cases_lt c.loop-t.t c.args.cycles.first) as (λ _. All (λ (v : ℕ). (1 < v) × (v ≤ vars c.args.net.now)) c.needed_at-places.result.now) [
      | inl l ↦
          let first : 0 < c.args.cycles.first = omega arith in
          subst (All (λ (v : ℕ). (1 < v) × (v ≤ vars n))) (sym (c.needed_at-places.ensures.early l ∙ c.in_ok-early.ensures.early first some (c.args.cycles.count - c.loop-t.t) inside))
          (levels_within n (n.assumed ∷ []) (nexts n (early_before n goals)) (c.args.cycles.count - c.loop-t.t))
      | inr l ↦
          let late : c.args.cycles.first ≤ c.loop-t.t = omega arith in
          subst (All (λ (v : ℕ). (1 < v) × (v ≤ vars n))) (sym (c.needed_at-places.ensures.late late ∙ subst (λ (a : LitOf). prefix_of c.in_ok-late.late (c.args.cycles.count - c.loop-t.t) ≡ levels n (c.args.goal ∷ a ∷ []) [] (c.args.cycles.count - c.loop-t.t)) c.assumed.ensures (c.in_ok-late.ensures.levels (c.args.cycles.count - c.loop-t.t) inside)))
          (levels_within n goals [] (c.args.cycles.count - c.loop-t.t))
    ]

pub returns-in-Err-clause-too_many : goal.returns-in-Err-clause-too_many
returns-in-Err-clause-too_many c h =
    let f : c.in-Err.fault ≡ GateFault.TooMany = cc in
    cycles_past (cycle c.args.net.now c.args.goal c.args.cycles) c.loop-t.t c.args.cycles.count (nothing_made c.args.net.now) (made_of c.loop-t.made) c.loop-t-test.true c.loop-t.invariant.made (c.in-Err.ensures.too_many (ap Err f))

pub loop-t-preserved : goal.loop-t-preserved
loop-t-preserved c = record {
  making = c.in-Ok.ensures.making;
  made = cycles_more (cycle c.args.net.now c.args.goal c.args.cycles) c.loop-t.t (nothing_made c.args.net.now) (made_of c.loop-t.made) (made_of c.add_cycle.new.made) c.loop-t.invariant.made c.in-Ok.ensures.made;
}
