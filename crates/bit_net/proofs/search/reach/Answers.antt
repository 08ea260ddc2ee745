use Rattle.std.proofs.Common.{◌≡◌, [], ◌∷◌, ◌++◌, ap, ◌∙◌, subst, sym, arith, map, length, List, ℕ, Bool, replicate, false, ◌+◌}
use Rattle.std.proofs.lemmas.List.{length-append, length-replicate}
use Rattle.cnf_form.specs.Cnf.{LitOf}
use Rattle.bit_net.specs.Net.{gate_var}
use Rattle.bit_net.specs.Search.{IsSearch, Visits}
use Rattle.bit_net.proofs.Lists.{none_in}
use Rattle.bit_net.proofs.Leveling.{ArePrefixes, prefixes_begin, prefixes_more, search_begins}
use Rattle.bit_net.proofs.search.reach.Goals as goal

pub visit_all-requires-clause-search : goal.visit_all-requires-clause-search
visit_all-requires-clause-search c =
    subst (λ (s : List Bool). IsSearch s c.new-found.result.items) (sym c.in_ok-seen.ensures)
    (subst (λ (f : List ℕ). IsSearch (replicate (c.vars.result + 1) false) f) (sym c.new-found.ensures.items) (search_begins (c.vars.result + 1)))

pub levels-init : goal.levels-init
levels-init c =
    let ends : c.push.new.self.items ≡ 0 ∷ [] = c.in_ok-push.ensures.items ∙ ap (λ (xs : List ℕ). xs ++ 0 ∷ []) c.new-ends.ensures.items in
    let visits : Visits (map (λ (l : LitOf). l.var) c.args.now.now) [] c.visit_all.new.found.items = subst (λ (f : List ℕ). Visits (map (λ (l : LitOf). l.var) c.args.now.now) f c.visit_all.new.found.items) c.new-found.ensures.items c.in_ok-visit_all.ensures.visits in
    let one = ap length ends in
    record {
      size = c.in_ok-visit_all.ensures.size ∙ ap length c.in_ok-seen.ensures ∙ length-replicate (c.vars.result + 1) false ∙ ap (λ (n : ℕ). n + 1) c.vars.ensures;
      search = c.in_ok-visit_all.ensures.search;
      most = omega arith;
      inside = omega arith;
      closed = λ k g o here i. absurd (none_in (gate_var c.args.net.now k) i);
      prefixes = subst (λ (e : List ℕ). ArePrefixes c.args.net.now c.args.now.now c.args.before.now c.visit_all.new.found.items e 0) (sym ends) (prefixes_begin c.args.net.now c.args.now.now c.args.before.now c.visit_all.new.found.items visits);
    }

pub levels-preserved : goal.levels-preserved
levels-preserved c =
    let inv = c.levels.invariant in
    let ends : c.push-in-levels.new.self.items ≡ c.levels.ends.items ++ c.in_ok-end.end ∷ [] = c.in_ok-push-2.ensures.items in
    let more = ap length ends in
    let one = length-append c.levels.ends.items (c.in_ok-end.end ∷ []) in
    let size = c.len.ensures in
    let test = c.levels-test.true in
    record {
      size = c.in_ok-end.ensures.size ∙ inv.size;
      search = c.in_ok-end.ensures.search;
      most = omega arith;
      inside = c.in_ok-end.ensures.end.1;
      closed = c.in_ok-end.ensures.end.2;
      prefixes = subst (λ (e : List ℕ). ArePrefixes c.args.net.now c.args.now.now c.args.before.now c.one_level.new.found.items e c.in_ok-end.end) (sym ends)
          (prefixes_more c.args.net.now c.args.now.now c.args.before.now c.levels.found.items c.one_level.new.found.items c.levels.ends.items c.levels.end c.in_ok-end.end inv.prefixes c.in_ok-end.ensures.end.0 c.in_ok-end.ensures.front
          (λ d at. c.in_ok-end.ensures.level c.args.now.now d at));
    }
