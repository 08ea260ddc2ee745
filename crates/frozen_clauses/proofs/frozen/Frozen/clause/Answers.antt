use Rattle.std.proofs.Common.{◌≡◌, ◌<◌, length, subst, ap, arith}
use Rattle.std.specs.Prelude.{Some}
use Rattle.std.proofs.lemmas.List.{length-map}
use Rattle.cnf_form.specs.Cnf.{ClauseWithin}
use Rattle.unit_propagation.specs.Propagator.{slot_at}
use Rattle.frozen_clauses.specs.Frozen.{FrozenOf}
use Rattle.frozen_clauses.specs.Inside.{slot_of, slots_of}
use Rattle.frozen_clauses.proofs.Filing.{slot_read}
use Rattle.frozen_clauses.proofs.frozen.Frozen.clause.Goals as goal

there : (c : goal.After-as_slice) → slot_at (slots_of c.self.inside.clauses.items) c.args.k ≡ Some c.as_slice.result.now
there c =
    let room : c.args.k < length c.self.inside.clauses.items =
    omega (arith, c.requires, ap (λ (f : FrozenOf). length f.slots) c.self.view_is, length-map c.self.inside.clauses.items slot_of) in
    slot_read _ _ c.index.result.now c.in-Some.clause _ room c.index.ensures c.in-Some.is c.as_slice.ensures.value

pub returns-in-Some-clause-within : goal.returns-in-Some-clause-within
returns-in-Some-clause-within c = subst (λ (f : FrozenOf). ClauseWithin f.vars c.as_slice.result.now) c.self.view_is (c.self.invariant.within c.args.k c.as_slice.result.now (there c))

pub returns-in-Some-clause-full : goal.returns-in-Some-clause-full
returns-in-Some-clause-full c = c.self.invariant.full c.args.k c.as_slice.result.now (there c)
