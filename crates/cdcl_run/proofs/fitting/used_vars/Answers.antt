use Rattle.std.proofs.Common.{◌≡◌, ◌≤◌, ◌<◌, get_or, length, take, subst, sym, arith}
use Rattle.std.specs.Prelude.{List}
use Rattle.std.proofs.lemmas.List.{take_all}
use Rattle.std.proofs.lemmas.List.Elements.{All-contains, All-more, All-weaker}
use Rattle.std.proofs.lemmas.Option.{get_or_from_slice_get}
use Rattle.cnf_form.specs.Cnf.{LitOf, ClauseWithin, Within}
use Rattle.cdcl_run.proofs.Fitted.{clause_below, clause_more, clause_within, first_within_max, max_within, second_within_max}
use Rattle.cdcl_run.proofs.fitting.used_vars.Goals as goal

pub loop-place-preserved : goal.loop-place-preserved
loop-place-preserved c =
    let F : List (List LitOf) = c.clauses-clauses.result in
    let clause : List LitOf = c.get.result.now in
    let i = c.loop-place.place in
    let had = c.loop-place.used in
    let own = c.greatest_var.result in
    let now = c.max-used.result in
    let vars = c.args.formula.now.vars in
    let is = c.max-used.ensures in
    let inside : i < length F = omega (arith, c.len-place-end.ensures) in
    let all : Within vars F = subst (Within vars) (sym c.clauses-clauses.ensures.clauses) c.clauses-clauses.ensures.within in
    let mine : ClauseWithin vars clause = All-contains (ClauseWithin vars) F clause all c.get.ensures.within in
    let first : had ≤ now = (let h = first_within_max had own in omega (arith, h, is)) in
    let second : own ≤ now = (let h = second_within_max had own in omega (arith, h, is)) in
    let next : ClauseWithin now clause = clause_more own now clause second (clause_within vars own clause mine c.greatest_var.ensures.above) in
    let item : get_or F i clause ≡ clause = get_or_from_slice_get F i clause clause c.get.ensures.clause in
    record {
      within = All-more (ClauseWithin now) F i clause inside (All-weaker (ClauseWithin had) (ClauseWithin now) (λ d h. clause_more had now d first h) (take i F) c.loop-place.invariant.within) (subst (ClauseWithin now) (sym item) next);
      fewest = λ n w.
          let least = c.greatest_var.ensures.least n (clause_below n clause (All-contains (ClauseWithin n) F clause w c.get.ensures.within)) in
          let both = max_within had own n (c.loop-place.invariant.fewest n w) least in
          omega (arith, is, both);
    }

pub returns-clause-within : goal.returns-clause-within
returns-clause-within c =
    let F : List (List LitOf) = c.clauses-clauses.result in
    subst (Within c.loop-place.used) c.clauses-clauses.ensures.clauses (subst (Within c.loop-place.used) (take_all c.loop-place.place F (omega (arith, c.len-place-end.ensures))) c.loop-place.invariant.within)
