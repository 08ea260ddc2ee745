use Rattle.std.proofs.Common.{rules, ◌≡◌, get_or, subst, ℕ, ◌∷◌, []}
use Rattle.bit_net.specs.Search.{Visits}
use Rattle.bit_net.proofs.Searching.{vars_more}
use Rattle.bit_net.proofs.search.visit_all.Goals as goal

pub loop-lit-preserved : goal.loop-lit-preserved
loop-lit-preserved c =
    let e : c.lit-item.result ≡ get_or c.args.lits.now c.loop-lit.lit-index c.lit-item.result = search rules in
    let inv = c.loop-lit.invariant in
    record {
      size = search rules;
      search = search rules;
      visits = vars_more c.args.lits.now c.loop-lit.lit-index c.lit-item.result c.args.found.now.items c.loop-lit.found.items c.visit.new.found.items c.loop-lit-test.true e inv.visits
          (subst (λ (v : ℕ). Visits (v ∷ []) c.loop-lit.found.items c.visit.new.found.items) c.var.ensures c.in_ok-visit.ensures.visits);
    }
