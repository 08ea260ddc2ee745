use Rattle.std.proofs.Common.{◌≡◌, ◌++◌, ◌∷◌, [], true, false, List, length, refl, subst, sym}
use Rattle.std.specs.Prelude.{Some, Result, Ok, Err, OnOk}
use Rattle.std.proofs.lemmas.Bool.{both_ways}
use Rattle.cnf_form.specs.Cnf.{LitOf}
use Rattle.unit_propagation.specs.Propagation.{IsFalsified}
use Rattle.unit_propagation.specs.Propagator.{PropagatorOf, IsAdded, clauses_of}
use Rattle.unit_propagation.proofs.Visits.{propagates_none}
use Rattle.unit_propagation.proofs.Slots.{clauses_of-contains}
use Rattle.unit_propagation.proofs.Filing.{slot_new}
use Rattle.unit_propagation.proofs.propagator.Propagator.add_clause.Goals as goal

on_ok : {T E : Type 0} (r : Result T E) (P Q : Type 0) → (P → Q) → OnOk r P → OnOk r Q
on_ok (Ok x) P Q f h = f h
on_ok (Err x) P Q f h = tt

adds_kept : (old new : PropagatorOf) (c : List LitOf) → old.conflict ≡ false → new ≡ record old { slots = old.slots ++ Some c ∷ [] } → IsAdded old c new
adds_kept old new c free e = subst (IsAdded old c) (sym e) (record {
  vars = refl;
  slots = refl;
  limits = refl;
  after = λ g. absurd (both_ways _ free g);
  propagated = λ g. propagates_none (clauses_of (old.slots ++ Some c ∷ [])) old.trail;
  falsified = λ g h. absurd (both_ways _ free h);
})

adds_false : (old new : PropagatorOf) (c : List LitOf) → old.conflict ≡ false → IsFalsified old.trail c → new ≡ record old { slots = old.slots ++ Some c ∷ []; conflict = true } → IsAdded old c new
adds_false old new c free f e = subst (IsAdded old c) (sym e) (record {
  vars = refl;
  slots = refl;
  limits = refl;
  after = λ g. absurd (both_ways _ free g);
  propagated = λ g. propagates_none (clauses_of (old.slots ++ Some c ∷ [])) old.trail;
  falsified = λ g h. (c, clauses_of-contains (old.slots ++ Some c ∷ []) (length old.slots) c (slot_new old.slots (Some c) (length old.slots) refl), f);
})

pub returns-in-Falsified-clause-ok : goal.returns-in-Falsified-clause-ok
returns-in-Falsified-clause-ok c = let e = c.add_falsified.ensures in on_ok c.add_falsified.result _ _ (adds_false c.args.self.now c.add_falsified.new.self c.args.clause.now (subst (λ (k : PropagatorOf). k.conflict ≡ false) c.self.view_is c.if-self.false) (subst (λ (k : PropagatorOf). IsFalsified k.trail c.args.clause.now) c.self.view_is c.in-Falsified.ensures)) e.ok

pub returns-in-Two-clause-ok : goal.returns-in-Two-clause-ok
returns-in-Two-clause-ok c = let e = c.attach.ensures in on_ok c.attach.result _ _ (adds_kept c.args.self.now c.attach.new.self c.args.clause.now (subst (λ (k : PropagatorOf). k.conflict ≡ false) c.self.view_is c.if-self.false)) e.ok
