use Rattle.std.proofs.Common.{List, subst, inl, inr}
use Rattle.std.specs.Prelude.{Contains, None}
use Rattle.cnf_form.specs.Cnf.{LitOf, ClauseWithin}
use Rattle.unit_propagation.specs.Propagator.{clauses_of, IsAdded}
use Rattle.cdcl_core.specs.Levels.{IsPending}
use Rattle.cdcl_core.proofs.Justified.{justified_added, justified_after, pending_added, pending_after}
use Rattle.cdcl_core.proofs.load.add_at_root.Goals as goal

pub returns-clause-justified : goal.returns-clause-justified
returns-clause-justified c =
    let p = c.args.core.now in
    let q = c.add_clause.new.self in
    let cl = c.args.clause.now in
    let f = c.levels_are_complete.ensures in
    let e = c.in_ok-add_clause.ensures in
    let added : IsAdded p cl q = e.ok in
    let pending : IsPending p None = c.requires.pending in
    elim pending [
      | inl free ↦ justified_added p c.requires.justified f.within q cl free added (subst (λ z. (d : List LitOf) → Contains (clauses_of q.slots) d → ClauseWithin z d) added.vars c.clauses_are_within.ensures)
      | inr w ↦ justified_after p c.requires.justified q cl w.0 added
    ]

pub returns-clause-pending : goal.returns-clause-pending
returns-clause-pending c =
    let p = c.args.core.now in
    let q = c.add_clause.new.self in
    let cl = c.args.clause.now in
    let e = c.in_ok-add_clause.ensures in
    let added : IsAdded p cl q = e.ok in
    let pending : IsPending p None = c.requires.pending in
    elim pending [
      | inl free ↦ pending_added p q cl added free c.requires.level
      | inr w ↦ pending_after p c.requires.justified q cl w.0 added c.requires.level w.2
    ]
