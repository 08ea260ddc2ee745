use Rattle.std.proofs.Common.{arith, ap, length, refl, ◌≡◌, ◌∙◌, subst, sym, ◌-◌}
use Rattle.std.specs.Prelude.{slice_get, true}
use Rattle.std.proofs.lemmas.Option.{slice_get_within}
use Rattle.cnf_form.specs.Cnf.{lit_in}
use Rattle.cdcl_core.specs.Solving.{valued}
use Rattle.pdr_run.proofs.Cycles.{broken, cycle_got}
use Rattle.pdr_run.proofs.breaking.breaks.Goals as goal

pub returns-then-all_satisfy : goal.returns-then-all_satisfy
returns-then-all_satisfy c = λ t.
    let p = c.args.pair.now in
    let cycles = c.args.cycles.now in
    let first = c.in-Some-Some.first.now in
    let last = c.in-Some-Some.last.now in
    let ends = c.if-not-has_ends.ensures refl in
    broken p cycles (valued first.items) (valued last.items) (slice_get_within cycles 0 first (sym c.in-Some-Some.ensures.value)) (cycle_got cycles 0 first c.in-Some-Some.ensures.value)
    (λ i h. cycle_got cycles i last (c.in-Some-Some.ensures'.value ∙ ap (slice_get cycles) (let e : length cycles - 1 ≡ i = omega (arith, h) in e)))
    (subst (λ v. lit_in (valued v) p.start ≡ true) c.deref.ensures.value ends.0) (subst (λ v. lit_in (valued v) p.bad ≡ true) c.deref-2.ensures.value ends.1)
    (c.if-all_satisfy.ensures refl) (c.all_follow.ensures t)
