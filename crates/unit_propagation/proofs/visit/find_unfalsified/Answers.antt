use Rattle.std.proofs.Common.{◌≢◌, subst, rules}
use Rattle.std.specs.Prelude.{ℕ, Option, Some, None, IfNone, Contains}
use Rattle.std.proofs.lemmas.List.{places, take_rest}
use Rattle.cnf_form.specs.Cnf.{LitOf, negate}
use Rattle.unit_propagation.specs.Propagation.{IsFalsifiedBut}
use Rattle.unit_propagation.proofs.Falsified.{falsified_parts, found_before}
use Rattle.unit_propagation.proofs.visit.find_unfalsified.Goals as goal

if_none : (r : Option ℕ) (P Q : Type 0) → (P → Q) → IfNone r P → IfNone r Q
if_none None P Q f h = f h
if_none (Some k) P Q f h = tt

pub returns-in-Some-clause-found : goal.returns-in-Some-clause-found
returns-in-Some-clause-found c = λ t s d.
    let w = c.in-Some.ensures in
    subst (λ (z : LitOf). (z ≢ c.args.other) × (Contains t (negate z) → ⊥)) (search (rules, places)) (w.found t s d)

pub returns-in-None-clause-found : goal.returns-in-None-clause-found
returns-in-None-clause-found c = λ t s.
    let w = c.index_of_unfalsified-in-None.ensures in
    found_before t c.args.clause.now c.args.other c.args.from c.index_of_unfalsified-in-None.result w.within (w.found t s)

pub returns-in-None-clause-none : goal.returns-in-None-clause-none
returns-in-None-clause-none c = λ t s.
    let w = c.index_of_unfalsified-in-None.ensures in
    let v = c.in-None.ensures in
    if_none _ _ _ (λ x. falsified_parts t c.args.clause.now c.args.other c.args.from x (subst (λ z. IsFalsifiedBut t z c.args.other) (take_rest c.args.clause.now c.args.from) (v.none t s))) (w.none t s)
