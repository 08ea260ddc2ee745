use Rattle.std.proofs.Common.{◌≡◌, ◌≤◌, ℕ, suc, arith, length, subst, sym, ◌∙◌, drop, take}
use Rattle.std.proofs.lemmas.List.Sorted.{length_permutation}
use Rattle.bit_net.specs.Search.{AtLevel, IsClosedTo, Takes}
use Rattle.bit_net.proofs.Leveling.{IsRaised, level_end, level_up, moved_whole, search_moved}
use Rattle.bit_net.proofs.search.one_level.Goals as goal

pub advance-requires-clause-search : goal.advance-requires-clause-search
advance-requires-clause-search c =
    search_moved c.descend.new.seen.items c.descend.new.found.items c.sort_from.new.found.items (moved_whole c.args.begin c.descend.new.found.items c.sort_from.new.found.items c.sort_from.ensures.front c.sort_from.ensures.moved) c.in_ok-descend.ensures.search

pub advance-requires-clause-end : goal.advance-requires-clause-end
advance-requires-clause-end c =
    let long = length_permutation c.descend.new.found.items c.sort_from.new.found.items (moved_whole c.args.begin c.descend.new.found.items c.sort_from.new.found.items c.sort_from.ensures.front c.sort_from.ensures.moved) in
    let end = c.len-end.ensures in
    omega arith

pub returns-clause-level : goal.returns-clause-level
returns-clause-level c now d at =
    let long = c.len-end.ensures in
    let end : c.len-end.result ≡ length c.descend.new.found.items = omega arith in
    let raised : IsRaised c.args.net.now c.args.before.now c.descend.new.seen.items c.args.found.now.items c.descend.new.found.items c.sort_from.new.found.items c.visit_all.new.found.items c.args.begin = record {
      descends = c.in_ok-descend.ensures.descends;
      search = c.in_ok-descend.ensures.search;
      size = c.in_ok-descend.ensures.size ∙ c.requires.size;
      front = c.sort_from.ensures.front;
      perm = c.sort_from.ensures.moved;
      sorted = c.sort_from.ensures.sorted;
      taken = c.advance.new.found.items;
      takes = subst (λ (e : ℕ). Takes c.args.net.now (drop c.args.begin (take e c.sort_from.new.found.items)) c.sort_from.new.found.items c.advance.new.found.items) end c.in_ok-advance.ensures.takes;
      visits = c.in_ok-visit_all.ensures.visits;
    } in
    subst (λ (e : ℕ). AtLevel c.args.net.now now c.args.before.now c.visit_all.new.found.items e (suc d)) (sym end)
    (level_up c.args.net.now now c.args.before.now d c.descend.new.seen.items c.args.found.now.items c.descend.new.found.items c.sort_from.new.found.items c.visit_all.new.found.items c.args.begin c.promise.ensures at raised)

pub returns-clause-end : goal.returns-clause-end
returns-clause-end c =
    let long = c.len-end.ensures in
    let end : c.len-end.result ≡ length c.descend.new.found.items = omega arith in
    let raised : IsRaised c.args.net.now c.args.before.now c.descend.new.seen.items c.args.found.now.items c.descend.new.found.items c.sort_from.new.found.items c.visit_all.new.found.items c.args.begin = record {
      descends = c.in_ok-descend.ensures.descends;
      search = c.in_ok-descend.ensures.search;
      size = c.in_ok-descend.ensures.size ∙ c.requires.size;
      front = c.sort_from.ensures.front;
      perm = c.sort_from.ensures.moved;
      sorted = c.sort_from.ensures.sorted;
      taken = c.advance.new.found.items;
      takes = subst (λ (e : ℕ). Takes c.args.net.now (drop c.args.begin (take e c.sort_from.new.found.items)) c.sort_from.new.found.items c.advance.new.found.items) end c.in_ok-advance.ensures.takes;
      visits = c.in_ok-visit_all.ensures.visits;
    } in
    subst (λ (e : ℕ). (c.args.begin ≤ e) × (e ≤ length c.visit_all.new.found.items) × IsClosedTo c.args.net.now c.visit_all.new.found.items e) (sym end)
    (level_end c.args.net.now c.args.before.now c.descend.new.seen.items c.args.found.now.items c.descend.new.found.items c.sort_from.new.found.items c.visit_all.new.found.items c.args.begin c.requires.begin raised)
