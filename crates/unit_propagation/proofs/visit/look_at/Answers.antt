use Rattle.std.proofs.Common.{◌≢◌, ◌-◌, drop, length-take, subst, sym, arith}
use Rattle.std.specs.Prelude.{Contains}
use Rattle.cnf_form.specs.Cnf.{LitOf, negate}
use Rattle.cnf_form.proofs.Members.{Contains-read}
use Rattle.unit_propagation.proofs.visit.look_at.Goals as goal

pub returns-in-Some-find_unfalsified : goal.returns-in-Some-find_unfalsified
returns-in-Some-find_unfalsified c =
    let o = c.in-Some.ensures in
    let s = o.some in
    let lits = c.args.store.now.lits.items in
    let at = c.args.head.start in
    let end = c.end-end.result in
    let size = length-take (end - at) (drop at c.lits-lits.result.now) in
    let w = c.in-Some-find_unfalsified.ensures in
    let m = c.marks-marks.ensures in
    let found = w.found c.args.trail.now.lits m.shows c.index-clause-k.result in (
      s.0,
      s.1,
      rw (sym c.end-end.ensures.end, sym c.lits-lits.ensures.lits) (Contains-read _ _ _ w.within c.index-clause-k.is),
      subst (λ (z : LitOf). z ≢ c.in-Some.other) (sym c.index-clause-k.is) found.0,
      subst (λ (z : LitOf). Contains c.args.trail.now.lits (negate z) → ⊥) (sym c.index-clause-k.is) found.1,
      omega arith,
      omega (arith, w.within, size, c.end-end.ensures.end),
    )
