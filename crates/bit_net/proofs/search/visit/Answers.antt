use Rattle.std.proofs.Common.{rules, ◌≡◌, ◌<◌, ◌∙◌, ◌++◌, ◌∷◌, [], set, true, false, arith, get_or, sym, subst, length}
use Rattle.std.proofs.lemmas.List.{get_or_default}
use Rattle.bit_net.specs.Search.{IsSearch, Visits, marked}
use Rattle.bit_net.proofs.Searching.{visit_new, visits_new}
use Rattle.bit_net.proofs.search.visit.Goals as goal

pub returns-in_ok-push-clause-search : goal.returns-in_ok-push-clause-search
returns-in_ok-push-clause-search c =
    let e : c.push.new.self.items ≡ c.args.found.now.items ++ c.args.var ∷ [] = c.in_ok-push.ensures.items in
    let l : c.args.var < length c.args.seen.now.items = c.requires.inside in
    let mark : get_or c.args.seen.now.items c.args.var c.index.result.now ≡ false = search rules in
    let no : marked c.args.seen.now.items c.args.var ≡ false = get_or_default c.args.seen.now.items c.args.var false c.index.result.now l ∙ mark in
    let lo = c.if-var-gt1.true in
    subst (IsSearch (set c.args.seen.now.items c.args.var true)) (sym e) (visit_new c.args.seen.now.items c.args.found.now.items c.args.var c.requires.search (omega arith) l no)

pub returns-in_ok-push-clause-visits : goal.returns-in_ok-push-clause-visits
returns-in_ok-push-clause-visits c =
    let e : c.push.new.self.items ≡ c.args.found.now.items ++ c.args.var ∷ [] = c.in_ok-push.ensures.items in
    subst (Visits (c.args.var ∷ []) c.args.found.now.items) (sym e) (visits_new c.args.found.now.items c.args.var)
