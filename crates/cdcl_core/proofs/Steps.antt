-- Steps of a solver, and where its log leads.
use Rattle.std.proofs.Common.{◌≡◌, ℕ, ◌+◌, ◌*◌, ◌^◌, ◌<◌, ◌≤◌, List, [], ◌∷◌, ◌++◌, length, set, refl, sym, ◌∙◌, ap, subst, inl, inr, arith}
use Rattle.std.specs.Prelude.{Bool, Contains, IsTrue, Option, Some, None, true, false, take}
use Rattle.cnf_form.specs.Cnf.{LitOf, LitWithin, FormulaOf, Satisfies, IsAdmitted}
use Rattle.sby_edge.specs.Cause.{Rose}
use Rattle.unit_propagation.specs.Propagation.{IsFixpoint}
use Rattle.unit_propagation.specs.Propagator.{PropagatorOf, clauses_of, present, slot_at}
use Rattle.frozen_clauses.specs.Frozen.{FrozenOf}
use Rattle.cdcl_core.specs.Present.{SameOrders}
use Rattle.cdcl_core.specs.Levels.{IsJustified, IsPending, Follows, end_of}
use Rattle.lrat_check.specs.Hints.{Live, put}
use Rattle.hint_chain.specs.Ids.{IdsOf, IsNamed, AreNamed, id_at}
use Rattle.hint_chain.specs.Chains.{Hints}
use Rattle.hint_chain.proofs.Naming.{named_delete, named_delete_frozen}
use Rattle.cdcl_core.specs.Lines.{LogLine, Adds, Notes, Drops, AreFew, HeldOf, held_first, held_after, IsHintedAs, IsHintedLine}
use Rattle.cdcl_core.specs.Logged.{IsNew, IsProper}
use Rattle.cdcl_core.specs.Searching.{IsSolver, IsAtRest, IsOf, IsHeld, HasLogged, Leads, Moves, Reduces, Grows, Stops, EndsBy, Ended, AreRight, StepFits, IsAddable, IsNamedBy, present_of}
use Rattle.cdcl_core.specs.Solving.{IsFound, IsRefuted, IsStopped, IsBroken, SolvedFits, valued}
use Rattle.cdcl_core.specs.declared.solver.Solved.TheVariants.{Unsat}
use Rattle.cdcl_core.specs.declared.solver.Step.{Step}
use Rattle.cdcl_core.specs.declared.solver.Step.TheVariants.{Answered, Learnt, Thawed}
use Rattle.cdcl_core.specs.declared.solver.Solver.{Solver}
use Rattle.cdcl_core.specs.Analysis.{IsUnmarked}
use Rattle.cdcl_core.specs.declared.analysis.Analysis.{Analysis}
use Rattle.cdcl_core.specs.declared.stop.Stop.{Stop}
use Rattle.cdcl_core.specs.declared.stop.Stop.TheVariants.{OutOfMemory, Failed}
use Rattle.cdcl_core.proofs.Justified.{clauses_push}
use Rattle.cdcl_core.proofs.Orders.{slot_parts, reorders_delete, orders_both, orders_thaw, orders_freeze, orders_same}
use Rattle.cdcl_core.proofs.Reductions.{clauses_map}
use Rattle.cdcl_core.proofs.Solutions.{held_none, held_added, held_noted, held_deleted, held_stops, held_finds, held_refutes, breaks_added, breaks_noted, breaks_deleted, breaks_empty}
use Rattle.std.proofs.lemmas.List.{append_assoc}
use Rattle.std.proofs.lemmas.List.Elements.{All-nil, All-cons, Contains-append_cases}

-- the ids are those of the same clauses
pub named_as : (old new : Solver) (h : HeldOf) → new.core.slots ≡ old.core.slots → new.frozen.slots ≡ old.frozen.slots → new.ids ≡ old.ids → IsNamedBy h old → IsNamedBy h new
named_as old new h s z i w t =
    let k = w (subst (λ (x : IdsOf). IsTrue x.wanted) i t) in
    (subst (λ (x : IdsOf). IsNamed h.live new.core.slots new.frozen.slots x) (sym i) (subst (λ x. IsNamed h.live x new.frozen.slots old.ids) (sym s) (subst (λ x. IsNamed h.live old.core.slots x old.ids) (sym z) k.0)), ap (λ (x : IdsOf). x.last) i ∙ k.1)

-- clauses are the same, in the same order
pub moves_same : (old new : Solver) → new.core.vars ≡ old.core.vars → new.core.slots ≡ old.core.slots → new.frozen ≡ old.frozen → new.conflicts ≡ old.conflicts → new.deletions ≡ old.deletions → new.ids ≡ old.ids → Moves old new
moves_same old new v s z n d i = record {
  vars = v;
  orders = subst (SameOrders (present_of old)) (sym (ap (λ x. x ++ clauses_of new.frozen.slots) (ap clauses_of s) ∙ ap (λ (x : FrozenOf). clauses_of old.core.slots ++ clauses_of x.slots) z)) (orders_same (present_of old));
  conflicts = n;
  deletions = d;
  wanted = ap (λ (x : IdsOf). x.wanted) i;
  named = λ h. named_as old new h s (ap (λ (x : FrozenOf). x.slots) z) i;
}

pub moves_both : (a b c : Solver) → Moves a b → Moves b c → Moves a c
moves_both a b c v w = record {
  vars = w.vars ∙ v.vars;
  orders = orders_both v.orders w.orders;
  conflicts = w.conflicts ∙ v.conflicts;
  deletions = w.deletions ∙ v.deletions;
  wanted = w.wanted ∙ v.wanted;
  named = λ h k. w.named h (v.named h k);
}

-- a frozen clause is watched again
pub moves_thaw : (old new : Solver) (k : ℕ) (c : List LitOf) → slot_at old.frozen.slots k ≡ Some c → new.core.vars ≡ old.core.vars → new.core.slots ≡ old.core.slots ++ Some c ∷ []
    → new.frozen.slots ≡ set old.frozen.slots k None → new.conflicts ≡ old.conflicts → new.deletions ≡ old.deletions → new.ids.wanted ≡ old.ids.wanted → ((h : HeldOf) → IsNamedBy h old → IsNamedBy h new) → Moves old new
moves_thaw old new k c at v s z n d i named =
    let are : present_of new ≡ (clauses_of old.core.slots ++ c ∷ []) ++ clauses_of (set old.frozen.slots k None) =
    ap (λ x. x ++ clauses_of new.frozen.slots) (ap clauses_of s ∙ clauses_push old.core.slots c) ∙ ap (λ x. (clauses_of old.core.slots ++ c ∷ []) ++ clauses_of x) z in
    record {
      vars = v;
      orders = subst (SameOrders (present_of old)) (sym are) (orders_thaw (clauses_of old.core.slots) old.frozen.slots k c at);
      conflicts = n;
      deletions = d;
      wanted = i;
      named = named;
    }

-- a watched clause is frozen
pub moves_freeze : (old new : Solver) (k : ℕ) (c : List LitOf) → slot_at old.core.slots k ≡ Some c → new.core.vars ≡ old.core.vars → new.core.slots ≡ set old.core.slots k None
    → new.frozen.slots ≡ old.frozen.slots ++ Some c ∷ [] → new.conflicts ≡ old.conflicts → new.deletions ≡ old.deletions → new.ids.wanted ≡ old.ids.wanted → ((h : HeldOf) → IsNamedBy h old → IsNamedBy h new) → Moves old new
moves_freeze old new k c at v s z n d i named =
    let are : present_of new ≡ clauses_of (set old.core.slots k None) ++ (clauses_of old.frozen.slots ++ c ∷ []) =
    ap (λ x. clauses_of x ++ clauses_of new.frozen.slots) s ∙ ap (λ x. clauses_of (set old.core.slots k None) ++ x) (ap clauses_of z ∙ clauses_push old.frozen.slots c) in
    record {
      vars = v;
      orders = subst (SameOrders (present_of old)) (sym are) (orders_freeze (clauses_of old.frozen.slots) old.core.slots k c at);
      conflicts = n;
      deletions = d;
      wanted = i;
      named = named;
    }

-- numbers of clauses that are gone are given away
pub moves_collect : (old new : Solver) → new.core.vars ≡ old.core.vars → new.core.slots ≡ present old.core.slots → new.frozen ≡ old.frozen → new.conflicts ≡ old.conflicts → new.deletions ≡ old.deletions → new.ids.wanted ≡ old.ids.wanted → ((h : HeldOf) → IsNamedBy h old → IsNamedBy h new) → Moves old new
moves_collect old new v s z n d i named =
    let are : present_of new ≡ present_of old = ap (λ x. x ++ clauses_of new.frozen.slots) (ap clauses_of s ∙ clauses_map (clauses_of old.core.slots)) ∙ ap (λ (x : FrozenOf). clauses_of old.core.slots ++ clauses_of x.slots) z in
    record {
      vars = v;
      orders = subst (SameOrders (present_of old)) (sym are) (orders_same (present_of old));
      conflicts = n;
      deletions = d;
      wanted = i;
      named = named;
    }

pub moves_collect_frozen : (old new : Solver) → new.core ≡ old.core → new.frozen.slots ≡ present old.frozen.slots → new.conflicts ≡ old.conflicts → new.deletions ≡ old.deletions → new.ids.wanted ≡ old.ids.wanted → ((h : HeldOf) → IsNamedBy h old → IsNamedBy h new) → Moves old new
moves_collect_frozen old new p z n d i named =
    let v = ap (λ x. x.vars) p in
    let s = ap (λ x. x.slots) p in
    let are : present_of new ≡ present_of old = ap (λ x. clauses_of x ++ clauses_of new.frozen.slots) s ∙ ap (λ x. clauses_of old.core.slots ++ x) (ap clauses_of z ∙ clauses_map (clauses_of old.frozen.slots)) in
    record {
      vars = v;
      orders = subst (SameOrders (present_of old)) (sym are) (orders_same (present_of old));
      conflicts = n;
      deletions = d;
      wanted = i;
      named = named;
    }

-- where no clause is falsified, none is pending
pub pending_rest : (p q : PropagatorOf) (o : Option ℕ) → p.conflict ≡ false → q.conflict ≡ false → IsPending p o → IsPending q o
pending_rest p q None e h w = inl h
pending_rest p q (Some k) e h w = absurd (let x : true ≡ false = sym w.0 ∙ e in cc)

-- numbers of clauses that are gone are given away
pub justified_collect : (p : PropagatorOf) → IsJustified p → IsJustified (record p { slots = present p.slots })
justified_collect p v =
    let e : clauses_of p.slots ≡ clauses_of (present p.slots) = sym (clauses_map (clauses_of p.slots)) in
    record {
      root = subst (λ F. Follows F [] (take (end_of p 0) p.trail)) e v.root;
      level = λ i h. subst (λ F. Follows F (take (end_of p i + 1) p.trail) (take (end_of p (i + 1)) p.trail)) e (v.level i h);
      strict = v.strict;
      within = v.within;
    }

-- what is new to two parts is so to both
pub new_both : (F G : List (List LitOf)) (c : List LitOf) → IsNew F c → ((e : List LitOf) → Contains G e → ((l : LitOf) → Contains e l → Contains c l) → ⊥) → IsNew (F ++ G) c
new_both F G c w none = record { apart = λ e h sub. elim (Contains-append_cases F G e h) [ inl k ↦ w.apart e k sub | inr k ↦ none e k sub ] }

-- the empty clause is proper
proper_empty : (vars : ℕ) → IsProper vars []
proper_empty vars = record { within = All-nil (λ l. LitWithin vars l); short = omega arith }

-- the line is hinted by what is live, where a solver has its ids
abbrev pub IsHintedFor : Solver → LogLine → Type 0
IsHintedFor s l = (h : HeldOf) → IsNamedBy h s → IsTrue s.ids.wanted → IsHintedLine h l

-- the hints of a chain, where the id is above all others
pub hinted_by : (s : Solver) (c : List LitOf) (id : ℕ) (hints : List ℕ) → (IsTrue s.ids.wanted → Hints s.core.slots s.ids c hints) → (IsTrue s.ids.wanted → s.ids.last < id) → (h : HeldOf) → IsNamedBy h s → IsTrue s.ids.wanted → IsHintedAs h c id hints
hinted_by s c id hints k above h w t =
    let n = w t in
    let e = k t in
    let a = above t in
    (subst (λ z. z < id) n.1 a, e.live h.live s.frozen.slots n.0, e.refutes h.live s.frozen.slots n.0)

-- the clause that is deleted is that of its id
drops_watched : (s : Solver) (h : HeldOf) (k : ℕ) (c : List LitOf) (id : ℕ) → slot_at s.core.slots k ≡ Some c → id ≡ id_at s.ids.watched k → IsNamed h.live s.core.slots s.frozen.slots s.ids → h.live id ≡ Some c
drops_watched s h k c id at q n = let w = n.watched k c at in subst (λ z. h.live z ≡ Some c) (sym q) w.0

drops_frozen : (s : Solver) (h : HeldOf) (k : ℕ) (c : List LitOf) (id : ℕ) → slot_at s.frozen.slots k ≡ Some c → id ≡ id_at s.ids.frozen k → IsNamed h.live s.core.slots s.frozen.slots s.ids → h.live id ≡ Some c
drops_frozen s h k c id at q n = let w = n.frozen k c at in subst (λ z. h.live z ≡ Some c) (sym q) w.0

-- the other clauses keep their ids
named_deleted : (old new : Solver) (h : HeldOf) (k : ℕ) (c : List LitOf) (id : ℕ) → slot_at old.core.slots k ≡ Some c → id ≡ id_at old.ids.watched k → new.core.slots ≡ set old.core.slots k None → new.frozen.slots ≡ old.frozen.slots → new.ids ≡ old.ids
    → IsNamedBy h old → IsNamedBy (held_after h (Drops c id)) new
named_deleted old new h k c id at q s z i w t =
    let n = w (subst (λ (x : IdsOf). IsTrue x.wanted) i t) in
    let d = named_delete h.live old.core.slots old.frozen.slots old.ids n.0 k c at in (
      subst (λ (x : IdsOf). IsNamed (put h.live id None) new.core.slots new.frozen.slots x) (sym i)
          (subst (λ x. IsNamed (put h.live x None) new.core.slots new.frozen.slots old.ids) (sym q)
          (subst (λ x. IsNamed (put h.live (id_at old.ids.watched k) None) x new.frozen.slots old.ids) (sym s) (subst (λ x. IsNamed (put h.live (id_at old.ids.watched k) None) (set old.core.slots k None) x old.ids) (sym z) d))),
      ap (λ (x : IdsOf). x.last) i ∙ n.1,
    )

named_deleted_frozen : (old new : Solver) (h : HeldOf) (k : ℕ) (c : List LitOf) (id : ℕ) → slot_at old.frozen.slots k ≡ Some c → id ≡ id_at old.ids.frozen k → new.core.slots ≡ old.core.slots → new.frozen.slots ≡ set old.frozen.slots k None → new.ids ≡ old.ids
    → IsNamedBy h old → IsNamedBy (held_after h (Drops c id)) new
named_deleted_frozen old new h k c id at q s z i w t =
    let n = w (subst (λ (x : IdsOf). IsTrue x.wanted) i t) in
    let d = named_delete_frozen h.live old.core.slots old.frozen.slots old.ids n.0 k c at in (
      subst (λ (x : IdsOf). IsNamed (put h.live id None) new.core.slots new.frozen.slots x) (sym i)
          (subst (λ x. IsNamed (put h.live x None) new.core.slots new.frozen.slots old.ids) (sym q)
          (subst (λ x. IsNamed (put h.live (id_at old.ids.frozen k) None) x new.frozen.slots old.ids) (sym s) (subst (λ x. IsNamed (put h.live (id_at old.ids.frozen k) None) old.core.slots x old.ids) (sym z) d))),
      ap (λ (x : IdsOf). x.last) i ∙ n.1,
    )

-- what a call of the ids promises, said of a solver
by_ids : (old new : Solver) (h : HeldOf) (slots zs : List (Option (List LitOf))) → new.core.slots ≡ slots → new.frozen.slots ≡ zs → new.ids.wanted ≡ old.ids.wanted → new.ids.last ≡ old.ids.last
    → (IsNamed h.live old.core.slots old.frozen.slots old.ids → AreNamed h.live slots zs new.ids) → IsNamedBy h old → IsNamedBy h new
by_ids old new h slots zs s z i l all w t =
    let n = w (subst IsTrue i t) in
    (subst (λ x. IsNamed h.live x new.frozen.slots new.ids) (sym s) (subst (λ x. IsNamed h.live slots x new.ids) (sym z) (all n.0 t)), l ∙ n.1)

pub named_freeze_by : (old new : Solver) (k : ℕ) (c : List LitOf) → slot_at old.core.slots k ≡ Some c → new.core.slots ≡ set old.core.slots k None → new.frozen.slots ≡ old.frozen.slots ++ Some c ∷ [] → new.ids.wanted ≡ old.ids.wanted → new.ids.last ≡ old.ids.last
    → ((live : Live) (slots zs : List (Option (List LitOf))) (d : List LitOf) → slot_at slots k ≡ Some d → AreNamed live slots zs old.ids → AreNamed live (set slots k None) (zs ++ Some d ∷ []) new.ids) → (h : HeldOf) → IsNamedBy h old → IsNamedBy h new
named_freeze_by old new k c at s z i l all h w =
    by_ids old new h (set old.core.slots k None) (old.frozen.slots ++ Some c ∷ []) s z i l (λ n. all h.live old.core.slots old.frozen.slots c at (λ t. n)) w

pub named_thaw_by : (old new : Solver) (k : ℕ) (c : List LitOf) → slot_at old.frozen.slots k ≡ Some c → new.core.slots ≡ old.core.slots ++ Some c ∷ [] → new.frozen.slots ≡ set old.frozen.slots k None → new.ids.wanted ≡ old.ids.wanted → new.ids.last ≡ old.ids.last
    → ((live : Live) (slots zs : List (Option (List LitOf))) (d : List LitOf) → slot_at zs k ≡ Some d → AreNamed live slots zs old.ids → AreNamed live (slots ++ Some d ∷ []) (set zs k None) new.ids) → (h : HeldOf) → IsNamedBy h old → IsNamedBy h new
named_thaw_by old new k c at s z i l all h w =
    by_ids old new h (old.core.slots ++ Some c ∷ []) (set old.frozen.slots k None) s z i l (λ n. all h.live old.core.slots old.frozen.slots c at (λ t. n)) w

pub named_collect_by : (old new : Solver) → new.core.slots ≡ present old.core.slots → new.frozen.slots ≡ old.frozen.slots → new.ids.wanted ≡ old.ids.wanted → new.ids.last ≡ old.ids.last
    → ((live : Live) (zs : List (Option (List LitOf))) → AreNamed live old.core.slots zs old.ids → AreNamed live (present old.core.slots) zs new.ids) → (h : HeldOf) → IsNamedBy h old → IsNamedBy h new
named_collect_by old new s z i l all h w = by_ids old new h (present old.core.slots) old.frozen.slots s z i l (λ n. all h.live old.frozen.slots (λ t. n)) w

pub named_collect_frozen_by : (old new : Solver) → new.core.slots ≡ old.core.slots → new.frozen.slots ≡ present old.frozen.slots → new.ids.wanted ≡ old.ids.wanted → new.ids.last ≡ old.ids.last
    → ((live : Live) (slots : List (Option (List LitOf))) → AreNamed live slots old.frozen.slots old.ids → AreNamed live slots (present old.frozen.slots) new.ids) → (h : HeldOf) → IsNamedBy h old → IsNamedBy h new
named_collect_frozen_by old new s z i l all h w = by_ids old new h old.core.slots (present old.frozen.slots) s z i l (λ n. all h.live old.core.slots (λ t. n)) w

-- a clause was added under a new id
pub named_push_by : (old new : Solver) (c : List LitOf) (id : ℕ) (hints : List ℕ) → new.core.slots ≡ old.core.slots ++ Some c ∷ [] → new.frozen.slots ≡ old.frozen.slots → new.ids.wanted ≡ old.ids.wanted → (IsTrue old.ids.wanted → new.ids.last ≡ id) → (IsTrue old.ids.wanted → old.ids.last < id)
    → ((live : Live) (slots zs : List (Option (List LitOf))) (d : List LitOf) → (IsTrue old.ids.wanted → old.ids.last < id) → AreNamed live slots zs old.ids → AreNamed (put live id (Some d)) (slots ++ Some d ∷ []) zs new.ids)
    → (h : HeldOf) → IsNamedBy h old → IsNamedBy (held_after h (Adds c id hints)) new
named_push_by old new c id hints s z i l above all h w t =
    let y = subst IsTrue i t in
    let n = w y in
    let k = all h.live old.core.slots old.frozen.slots c above (λ u. n.0) t in
    (subst (λ x. IsNamed (put h.live id (Some c)) x new.frozen.slots new.ids) (sym s) (subst (λ x. IsNamed (put h.live id (Some c)) (old.core.slots ++ Some c ∷ []) x new.ids) (sym z) k), l y)

-- a fact came under a new id
pub named_fact_by : (old new : Solver) (x : LitOf) (id : ℕ) (hints : List ℕ) → new.core.slots ≡ old.core.slots → new.frozen.slots ≡ old.frozen.slots → new.ids.wanted ≡ old.ids.wanted → (IsTrue old.ids.wanted → new.ids.last ≡ id) → (IsTrue old.ids.wanted → old.ids.last < id)
    → ((live : Live) (slots zs : List (Option (List LitOf))) → (IsTrue old.ids.wanted → old.ids.last < id) → AreNamed live slots zs old.ids → AreNamed (put live id (Some (x ∷ []))) slots zs new.ids)
    → (h : HeldOf) → IsNamedBy h old → IsNamedBy (held_after h (Notes x id hints)) new
named_fact_by old new x id hints s z i l above all h w t =
    let y = subst IsTrue i t in
    let n = w y in
    let k = all h.live old.core.slots old.frozen.slots above (λ u. n.0) t in
    (subst (λ x'. IsNamed (put h.live id (Some (x ∷ []))) x' new.frozen.slots new.ids) (sym s) (subst (λ x'. IsNamed (put h.live id (Some (x ∷ []))) old.core.slots x' new.ids) (sym z) k), l y)

-- a true literal by itself is a proper clause
pub proper_one : (p : PropagatorOf) (l : LitOf) → IsJustified p → Contains p.trail l → IsProper p.vars (l ∷ [])
proper_one p l v on = let w = v.within l on in record { within = All-cons (LitWithin p.vars) l [] (w.0, w.1) (All-nil (LitWithin p.vars)); short = (let a = w.0 in let b = w.1 in omega (arith, a, b)) }

-- what a solver rests on is the same, and no literal is marked
pub solver_unmarked : (old new : Solver) → new.core ≡ old.core → new.frozen ≡ old.frozen → new.pending ≡ old.pending → IsUnmarked old.core.vars new.analysis.seen.items new.analysis.lower.items new.analysis.current.items → IsSolver old → IsSolver new
solver_unmarked old new p z o u w = record {
  frozen = ap (λ (x : FrozenOf). x.vars) z ∙ w.frozen ∙ sym (ap (λ (x : PropagatorOf). x.vars) p);
  unmarked = subst (λ (x : PropagatorOf). IsUnmarked x.vars new.analysis.seen.items new.analysis.lower.items new.analysis.current.items) (sym p) u;
  justified = subst IsJustified (sym p) w.justified;
  pending = subst (λ x. IsPending x new.pending) (sym p) (subst (λ x. IsPending old.core x) (sym o) w.pending);
}

-- what a solver rests on is the same
pub solver_same : (old new : Solver) → new.core ≡ old.core → new.frozen ≡ old.frozen → new.pending ≡ old.pending → new.analysis ≡ old.analysis → IsSolver old → IsSolver new
solver_same old new p z o a w = solver_unmarked old new p z o (subst (λ (x : Analysis). IsUnmarked old.core.vars x.seen.items x.lower.items x.current.items) (sym a) w.unmarked) w

-- nothing is left to do, where the clauses are the same
pub rest_same : (old new : Solver) → new.core ≡ old.core → new.frozen ≡ old.frozen → IsAtRest old → IsAtRest new
rest_same old new p z w = record {
  level = ap (λ (x : PropagatorOf). x.limits) p ∙ w.level;
  conflict = ap (λ (x : PropagatorOf). x.conflict) p ∙ w.conflict;
  settled = subst (λ (x : PropagatorOf). IsFixpoint x.trail (clauses_of new.frozen.slots)) (sym p) (subst (λ (x : FrozenOf). IsFixpoint old.core.trail (clauses_of x.slots)) (sym z) w.settled);
}

-- a count that didn't fall, and then has risen
rose_later : (a b c : ℕ) → a ≤ b → Rose b c → Rose a c
rose_later a b c h r = omega (arith, h, r)

module _ {A : Type 0} (takes : A → LogLine → A → Type 0) where
  -- the same clauses in another order
  held_orders : (hinted : Bool) (f : FormulaOf) (first now : A) (F G : List (List LitOf)) (n d : ℕ) (live : HeldOf) → SameOrders F G → IsHeld takes hinted f first now F n d live → IsHeld takes hinted f first now G n d live
  held_orders hinted f first now F G n d live s w = record { order = w.order; reorders = s.forth w.order w.reorders; search = w.search; deletions = w.deletions }

  -- what is held, said of a solver
  held_as : (f : FormulaOf) (first now : A) (s : Solver) (hinted : Bool) (F : List (List LitOf)) (n d : ℕ) (live : HeldOf) → s.ids.wanted ≡ hinted → present_of s ≡ F → s.conflicts ≡ n → s.deletions ≡ d → IsHeld takes hinted f first now F n d live
      → IsHeld takes s.ids.wanted f first now (present_of s) s.conflicts s.deletions live
  held_as f first now s hinted F n d live i p c e w =
      subst (λ z. IsHeld takes z f first now (present_of s) s.conflicts s.deletions live) (sym i)
      (subst (λ z. IsHeld takes hinted f first now z s.conflicts s.deletions live) (sym p) (subst (λ z. IsHeld takes hinted f first now F z s.deletions live) (sym c) (subst (λ z. IsHeld takes hinted f first now F n z live) (sym e) w)))

  pub logged_moves : (old new : Solver) (f : FormulaOf) (first now : A) → Moves old new → HasLogged takes f first now old → HasLogged takes f first now new
  logged_moves old new f first now m h = record {
    of = m.vars ∙ h.of;
    live = h.live;
    held = held_as f first now new old.ids.wanted (present_of new) old.conflicts old.deletions h.live m.wanted refl m.conflicts m.deletions (held_orders old.ids.wanted f first now (present_of old) (present_of new) old.conflicts old.deletions h.live m.orders h.held);
    named = m.named h.live h.named;
  }

  -- nothing was logged yet
  pub logged_first : (s : Solver) (f : FormulaOf) (now : A) → IsOf f s → present_of s ≡ f.clauses → s.conflicts ≡ 0 → s.deletions ≡ 0 → IsNamedBy (held_first f.clauses) s → HasLogged takes f now now s
  logged_first s f now o p n d named = record { of = o; live = held_first f.clauses; held = held_as f now now s s.ids.wanted f.clauses 0 0 (held_first f.clauses) refl p n d (held_none takes s.ids.wanted f now); named = named }

  module _ (faults : A → ℕ) where
    pub leads_moves : (old new : Solver) (now : A) → Moves old new → Leads takes faults old new now now
    leads_moves old new now m = record { on = λ f first h. logged_moves old new f first now m h; wanted = m.wanted; later = omega arith }

    pub leads_both : (a b c : Solver) (x y z : A) → Leads takes faults a b x y → Leads takes faults b c y z → Leads takes faults a c x z
    leads_both a b c x y z v w = record { on = λ f first h. w.on f first (v.on f first h); wanted = w.wanted ∙ v.wanted; later = (let l = v.later in let m = w.later in omega (arith, l, m)) }

    -- clauses were added, or only moved, before the budget was spent
    pub grows_leads : (budget : ℕ) (old new : Solver) (x y : A) → Leads takes faults old new x y → new.conflicts ≡ old.conflicts → old.conflicts < budget → Grows takes faults budget old new x y
    grows_leads budget old new x y l n h = record { leads = l; more = omega (arith, n); in_time = omega (arith, n, h) }

    pub grows_moves : (budget : ℕ) (old new : Solver) (now : A) → Moves old new → old.conflicts < budget → Grows takes faults budget old new now now
    grows_moves budget old new now m h = grows_leads budget old new now now (leads_moves old new now m) m.conflicts h

    pub grows_both : (budget : ℕ) (a b c : Solver) (x y z : A) → Grows takes faults budget a b x y → Grows takes faults budget b c y z → Grows takes faults budget a c x z
    grows_both budget a b c x y z v w = record { leads = leads_both a b c x y z v.leads w.leads; more = (let m = v.more in let n = w.more in omega (arith, m, n)); in_time = w.in_time }

    -- nothing was reduced, or one thing after the other
    pub reduces_none : (s : Solver) (now : A) → IsSolver s → IsAtRest s → Reduces takes faults s s now now
    reduces_none s now w r = record { leads = leads_moves s s now (moves_same s s refl refl refl refl refl refl); solver = w; rest = r; conflicts = refl }

    pub reduces_moves : (old new : Solver) (now : A) → Moves old new → IsSolver new → IsAtRest new → Reduces takes faults old new now now
    reduces_moves old new now m w r = record { leads = leads_moves old new now m; solver = w; rest = r; conflicts = m.conflicts }

    pub reduces_both : (a b c : Solver) (x y z : A) → Reduces takes faults a b x y → Reduces takes faults b c y z → Reduces takes faults a c x z
    reduces_both a b c x y z v w = record { leads = leads_both a b c x y z v.leads w.leads; solver = w.solver; rest = w.rest; conflicts = w.conflicts ∙ v.conflicts }

    -- a clause was logged and added
    pub leads_added : (old new : Solver) (c : List LitOf) (id : ℕ) (hints : List ℕ) (now next : A) → IsAddable old.core old.frozen c → AreFew (Adds c id hints) → IsHintedFor old (Adds c id hints) → takes now (Adds c id hints) next → faults now ≤ faults next
        → new.core.vars ≡ old.core.vars → new.core.slots ≡ old.core.slots ++ Some c ∷ [] → new.frozen ≡ old.frozen → new.conflicts ≡ old.conflicts + 1 → new.deletions ≡ old.deletions → new.ids.wanted ≡ old.ids.wanted
        → ((h : HeldOf) → IsNamedBy h old → IsNamedBy (held_after h (Adds c id hints)) new) → Leads takes faults old new now next
    leads_added old new c id hints now next a few by t later v s z n d i named = record {
      on = λ f first h.
          let o = h.of in
          let F = clauses_of old.core.slots in
          let G = clauses_of old.frozen.slots in
          let are : present_of new ≡ (F ++ c ∷ []) ++ G = ap (λ x. x ++ clauses_of new.frozen.slots) (ap clauses_of s ∙ clauses_push old.core.slots c) ∙ ap (λ (x : FrozenOf). (F ++ c ∷ []) ++ clauses_of x.slots) z in
          record {
            of = v ∙ o;
            live = held_after h.live (Adds c id hints);
            held = held_as f first next new old.ids.wanted ((F ++ c ∷ []) ++ G) (old.conflicts + 1) old.deletions (held_after h.live (Adds c id hints)) i are n d
                (held_added takes old.ids.wanted f first now next F G old.conflicts old.deletions h.live c id hints h.held a.admitted a.new a.contingent (subst (λ x. IsProper x c) o a.proper, few) (by h.live h.named) t);
            named = named h.live h.named;
          };
      wanted = i;
      later = later;
    }

    -- a fact was logged
    pub leads_noted : (old new : Solver) (x : LitOf) (id : ℕ) (hints : List ℕ) (now next : A) → IsProper old.core.vars (x ∷ []) → AreFew (Notes x id hints) → IsHintedFor old (Notes x id hints) → takes now (Notes x id hints) next → faults now ≤ faults next
        → new.core ≡ old.core → new.frozen ≡ old.frozen → new.conflicts ≡ old.conflicts → new.deletions ≡ old.deletions → new.ids.wanted ≡ old.ids.wanted → ((h : HeldOf) → IsNamedBy h old → IsNamedBy (held_after h (Notes x id hints)) new)
        → Leads takes faults old new now next
    leads_noted old new x id hints now next fits few by t later p z n d i named = record {
      on = λ f first h.
          let o = h.of in
          let are : present_of new ≡ present_of old = ap (λ (y : PropagatorOf). clauses_of y.slots ++ clauses_of new.frozen.slots) p ∙ ap (λ (y : FrozenOf). clauses_of old.core.slots ++ clauses_of y.slots) z in
          record {
            of = ap (λ (y : PropagatorOf). y.vars) p ∙ o;
            live = held_after h.live (Notes x id hints);
            held = held_as f first next new old.ids.wanted (present_of old) old.conflicts old.deletions (held_after h.live (Notes x id hints)) i are n d
                (held_noted takes old.ids.wanted f first now next (present_of old) old.conflicts old.deletions h.live x id hints h.held (subst (λ y. IsProper y (x ∷ [])) o fits, few) (by h.live h.named) t);
            named = named h.live h.named;
          };
      wanted = i;
      later = later;
    }

    -- a watched clause was deleted
    pub leads_deleted : (old new : Solver) (k : ℕ) (c : List LitOf) (id : ℕ) (now next : A) → slot_at old.core.slots k ≡ Some c → IsFixpoint old.core.trail (present_of old) → ((l : LitOf) → Contains c l → Contains old.core.trail l → ⊥)
        → IsProper old.core.vars c → 2 * (old.deletions + 1) ≤ old.conflicts → id ≡ id_at old.ids.watched k → id < 2 ^ 63 → takes now (Drops c id) next → faults now ≤ faults next → new.core.vars ≡ old.core.vars → new.core.slots ≡ set old.core.slots k None
        → new.frozen ≡ old.frozen → new.conflicts ≡ old.conflicts → new.deletions ≡ old.deletions + 1 → new.ids ≡ old.ids → Leads takes faults old new now next
    leads_deleted old new k c id now next at fix off fits few q low63 t later v s z n d i = record {
      on = λ f first h.
          let o = h.of in
          let B = clauses_of old.frozen.slots in
          let w = slot_parts old.core.slots k c at in
          let was : present_of old ≡ w.0 ++ c ∷ (w.1 ++ B) = ap (λ x. x ++ B) w.2 ∙ append_assoc w.0 (c ∷ w.1) B in
          let are : present_of new ≡ w.0 ++ (w.1 ++ B) = ap (λ x. clauses_of x ++ clauses_of new.frozen.slots) s ∙ ap (λ (x : FrozenOf). clauses_of (set old.core.slots k None) ++ clauses_of x.slots) z ∙ ap (λ x. x ++ B) w.3 ∙ append_assoc w.0 w.1 B in
          let held = subst (λ x. IsHeld takes old.ids.wanted f first now x old.conflicts old.deletions h.live) was h.held in
          let del = reorders_delete old.core.trail w.0 (w.1 ++ B) held.order c held.reorders (subst (IsFixpoint old.core.trail) was fix) off in
          record {
            of = v ∙ o;
            live = held_after h.live (Drops c id);
            held = held_as f first next new old.ids.wanted (w.0 ++ (w.1 ++ B)) old.conflicts (old.deletions + 1) (held_after h.live (Drops c id)) (ap (λ (x : IdsOf). x.wanted) i) are n d
                (held_deleted takes old.ids.wanted f first now next (w.0 ++ c ∷ (w.1 ++ B)) (w.0 ++ (w.1 ++ B)) del.0 old.conflicts old.deletions h.live c id held del.1 del.2 (subst (λ x. IsProper x c) o fits, low63) few
                (λ y. let x = h.named y in drops_watched old h.live k c id at q x.0) t);
            named = named_deleted old new h.live k c id at q s (ap (λ (x : FrozenOf). x.slots) z) i h.named;
          };
      wanted = ap (λ (x : IdsOf). x.wanted) i;
      later = later;
    }

    -- a frozen clause was
    pub leads_deleted_frozen : (old new : Solver) (k : ℕ) (c : List LitOf) (id : ℕ) (now next : A) → slot_at old.frozen.slots k ≡ Some c → IsFixpoint old.core.trail (present_of old) → ((l : LitOf) → Contains c l → Contains old.core.trail l → ⊥)
        → IsProper old.core.vars c → 2 * (old.deletions + 1) ≤ old.conflicts → id ≡ id_at old.ids.frozen k → id < 2 ^ 63 → takes now (Drops c id) next → faults now ≤ faults next → new.core ≡ old.core → new.frozen.slots ≡ set old.frozen.slots k None
        → new.conflicts ≡ old.conflicts → new.deletions ≡ old.deletions + 1 → new.ids ≡ old.ids → Leads takes faults old new now next
    leads_deleted_frozen old new k c id now next at fix off fits few q low63 t later p s n d i = record {
      on = λ f first h.
          let o = h.of in
          let A = clauses_of old.core.slots in
          let w = slot_parts old.frozen.slots k c at in
          let was : present_of old ≡ (A ++ w.0) ++ c ∷ w.1 = ap (λ x. A ++ x) w.2 ∙ sym (append_assoc A w.0 (c ∷ w.1)) in
          let are : present_of new ≡ (A ++ w.0) ++ w.1 = ap (λ (x : PropagatorOf). clauses_of x.slots ++ clauses_of new.frozen.slots) p ∙ ap (λ x. A ++ clauses_of x) s ∙ ap (λ x. A ++ x) w.3 ∙ sym (append_assoc A w.0 w.1) in
          let held = subst (λ x. IsHeld takes old.ids.wanted f first now x old.conflicts old.deletions h.live) was h.held in
          let del = reorders_delete old.core.trail (A ++ w.0) w.1 held.order c held.reorders (subst (IsFixpoint old.core.trail) was fix) off in
          record {
            of = ap (λ (x : PropagatorOf). x.vars) p ∙ o;
            live = held_after h.live (Drops c id);
            held = held_as f first next new old.ids.wanted ((A ++ w.0) ++ w.1) old.conflicts (old.deletions + 1) (held_after h.live (Drops c id)) (ap (λ (x : IdsOf). x.wanted) i) are n d
                (held_deleted takes old.ids.wanted f first now next ((A ++ w.0) ++ c ∷ w.1) ((A ++ w.0) ++ w.1) del.0 old.conflicts old.deletions h.live c id held del.1 del.2 (subst (λ x. IsProper x c) o fits, low63) few
                (λ y. let x = h.named y in drops_frozen old h.live k c id at q x.0) t);
            named = named_deleted_frozen old new h.live k c id at q (ap (λ (x : PropagatorOf). x.slots) p) s i h.named;
          };
      wanted = ap (λ (x : IdsOf). x.wanted) i;
      later = later;
    }

    module _ (fails : A → LogLine → A → Type 0) where
      -- memory ran out after what was logged
      pub stops_now : (old : Solver) (now : A) → Stops takes fails faults old now now OutOfMemory
      stops_now old now f first budget h w = held_stops takes old.ids.wanted f budget first now (present_of old) old.conflicts old.deletions w.live (omega (arith, h)) w.held

      pub stops_later : (old mid : Solver) (now then next : A) (e : Stop) → Leads takes faults old mid now then → mid.conflicts ≡ old.conflicts → Stops takes fails faults mid then next e → Stops takes fails faults old now next e
      stops_later old mid now then next OutOfMemory l n w = λ f first budget h k. subst (λ z. IsStopped takes z f budget first next) l.wanted (w f first budget (omega (arith, h, n)) (l.on f first k))
      stops_later old mid now then next Failed l n w =
          let a = l.later in
          let r = w.1 in
          ((λ f first budget h k. subst (λ z. IsBroken takes fails z f budget first next) l.wanted (w.0 f first budget (omega (arith, h, n)) (l.on f first k))), rose_later (faults now) (faults then) (faults next) a r)

      pub stops_moves : (old mid : Solver) (now next : A) (e : Stop) → Moves old mid → Stops takes fails faults mid now next e → Stops takes fails faults old now next e
      stops_moves old mid now next e m w = stops_later old mid now now next e (leads_moves old mid now m) m.conflicts w

      -- after a clause that was logged
      pub stops_added : (old : Solver) (c : List LitOf) (id : ℕ) (hints : List ℕ) (now next : A) → IsAddable old.core old.frozen c → AreFew (Adds c id hints) → IsHintedFor old (Adds c id hints) → takes now (Adds c id hints) next → Stops takes fails faults old now next OutOfMemory
      stops_added old c id hints now next a few by t f first budget h k =
          let o = k.of in
          let F = clauses_of old.core.slots in
          let G = clauses_of old.frozen.slots in
          held_stops takes old.ids.wanted f budget first next ((F ++ c ∷ []) ++ G) (old.conflicts + 1) old.deletions (held_after k.live (Adds c id hints)) (omega (arith, h))
          (held_added takes old.ids.wanted f first now next F G old.conflicts old.deletions k.live c id hints k.held a.admitted a.new a.contingent (subst (λ x. IsProper x c) o a.proper, few) (by k.live k.named) t)

      -- the log failed at a clause that was to be added
      pub fails_added : (old : Solver) (c : List LitOf) (id : ℕ) (hints : List ℕ) (now next : A) → IsAddable old.core old.frozen c → AreFew (Adds c id hints) → IsHintedFor old (Adds c id hints) → fails now (Adds c id hints) next → Rose (faults now) (faults next)
          → Stops takes fails faults old now next Failed
      fails_added old c id hints now next a few by e r =
          let F = clauses_of old.core.slots in
          let G = clauses_of old.frozen.slots in (
            (λ f first budget h k. (let o = k.of in breaks_added takes old.ids.wanted f fails budget first now next F G old.conflicts old.deletions k.live c id hints h k.held a.admitted a.new a.contingent (subst (λ x. IsProper x c) o a.proper, few) (by k.live k.named) e)),
            r,
          )

      -- a fact
      pub fails_noted : (old : Solver) (x : LitOf) (id : ℕ) (hints : List ℕ) (now next : A) → IsProper old.core.vars (x ∷ []) → AreFew (Notes x id hints) → IsHintedFor old (Notes x id hints) → fails now (Notes x id hints) next → Rose (faults now) (faults next)
          → Stops takes fails faults old now next Failed
      fails_noted old x id hints now next fits few by e r = (
        (λ f first budget h k. (let o = k.of in breaks_noted takes old.ids.wanted f fails budget first now next (present_of old) old.conflicts old.deletions k.live x id hints h k.held (subst (λ y. IsProper y (x ∷ [])) o fits, few) (by k.live k.named) e)),
        r,
      )

      -- or deleted
      pub fails_deleted : (old : Solver) (k : ℕ) (c : List LitOf) (id : ℕ) (now next : A) → slot_at old.core.slots k ≡ Some c → IsFixpoint old.core.trail (present_of old) → ((l : LitOf) → Contains c l → Contains old.core.trail l → ⊥)
          → IsProper old.core.vars c → 2 * (old.deletions + 1) ≤ old.conflicts → id ≡ id_at old.ids.watched k → id < 2 ^ 63 → fails now (Drops c id) next → Rose (faults now) (faults next) → Stops takes fails faults old now next Failed
      fails_deleted old k c id now next at fix off fits few q low63 e r =
          let B = clauses_of old.frozen.slots in
          let w = slot_parts old.core.slots k c at in
          let was : present_of old ≡ w.0 ++ c ∷ (w.1 ++ B) = ap (λ x. x ++ B) w.2 ∙ append_assoc w.0 (c ∷ w.1) B in (
            (λ f first budget h m.
                let o = m.of in
                let held = subst (λ x. IsHeld takes old.ids.wanted f first now x old.conflicts old.deletions m.live) was m.held in
                let del = reorders_delete old.core.trail w.0 (w.1 ++ B) held.order c held.reorders (subst (IsFixpoint old.core.trail) was fix) off in
                breaks_deleted takes old.ids.wanted f fails budget first now next (w.0 ++ c ∷ (w.1 ++ B)) del.0 old.conflicts old.deletions m.live c id h held del.1 (subst (λ x. IsProper x c) o fits, low63) few (λ y. let x = m.named y in drops_watched old m.live k c id at q x.0) e),
            r,
          )

      pub fails_deleted_frozen : (old : Solver) (k : ℕ) (c : List LitOf) (id : ℕ) (now next : A) → slot_at old.frozen.slots k ≡ Some c → IsFixpoint old.core.trail (present_of old) → ((l : LitOf) → Contains c l → Contains old.core.trail l → ⊥)
          → IsProper old.core.vars c → 2 * (old.deletions + 1) ≤ old.conflicts → id ≡ id_at old.ids.frozen k → id < 2 ^ 63 → fails now (Drops c id) next → Rose (faults now) (faults next) → Stops takes fails faults old now next Failed
      fails_deleted_frozen old k c id now next at fix off fits few q low63 e r =
          let A = clauses_of old.core.slots in
          let w = slot_parts old.frozen.slots k c at in
          let was : present_of old ≡ (A ++ w.0) ++ c ∷ w.1 = ap (λ x. A ++ x) w.2 ∙ sym (append_assoc A w.0 (c ∷ w.1)) in (
            (λ f first budget h m.
                let o = m.of in
                let held = subst (λ x. IsHeld takes old.ids.wanted f first now x old.conflicts old.deletions m.live) was m.held in
                let del = reorders_delete old.core.trail (A ++ w.0) w.1 held.order c held.reorders (subst (IsFixpoint old.core.trail) was fix) off in
                breaks_deleted takes old.ids.wanted f fails budget first now next ((A ++ w.0) ++ c ∷ w.1) del.0 old.conflicts old.deletions m.live c id h held del.1 (subst (λ x. IsProper x c) o fits, low63) few (λ y. let x = m.named y in drops_frozen old m.live k c id at q x.0) e),
            r,
          )

      -- the result of a step after what was logged before
      pub step_later : (old mid new : Solver) (now then next : A) (s : Step) → Leads takes faults old mid now then → mid.conflicts ≡ old.conflicts → length (clauses_of mid.frozen.slots) ≤ length (clauses_of old.frozen.slots)
          → StepFits takes fails faults mid new then next s → StepFits takes fails faults old new now next s
      step_later old mid new now then next (Answered s) l n few w = (w.0, λ f first budget h k right. subst (λ z. SolvedFits takes fails z f budget first next s) l.wanted (w.1 f first budget (omega (arith, h, n)) (l.on f first k) right))
      step_later old mid new now then next Learnt l n few w = (leads_both old mid new now then next l w.0, w.1 ∙ ap (λ z. z + 1) n)
      step_later old mid new now then next Thawed l n few w = (leads_both old mid new now then next l w.0, w.1 ∙ n, (let a = w.2 in omega (arith, a, few)))

      -- values were found
      pub step_finds : (s t : Solver) (now : A) (values : List Bool) → Moves s t → length values ≡ t.core.vars + 1 → (f : FormulaOf) (first : A) (budget : ℕ) → s.conflicts < budget → HasLogged takes f first now s → Satisfies (valued values) f.clauses
          → IsFound takes s.ids.wanted f budget first now values
      step_finds s t now values m sized f first budget h k right =
          let w = logged_moves s t f first now m k in
          subst (λ z. IsFound takes z f budget first now values) m.wanted
          (held_finds takes t.ids.wanted f budget first now (present_of t) t.conflicts t.deletions w.live values (let n = m.conflicts in omega (arith, h, n)) w.held (sized ∙ ap (λ z. z + 1) w.of) right)

      -- there are none
      pub step_refutes : (t : Solver) (id : ℕ) (hints : List ℕ) (now next : A) → IsAdmitted (clauses_of t.core.slots) [] → AreFew (Adds [] id hints) → IsHintedFor t (Adds [] id hints) → takes now (Adds [] id hints) next → (f : FormulaOf) (first : A) (budget : ℕ)
          → t.conflicts < budget → HasLogged takes f first now t → AreRight f Unsat → IsRefuted takes t.ids.wanted f budget first next
      step_refutes t id hints now next admits few by taken f first budget h k right =
          held_refutes takes t.ids.wanted f budget first now next (clauses_of t.core.slots) (clauses_of t.frozen.slots) t.conflicts t.deletions k.live id hints h k.held admits (proper_empty f.vars, few) (by k.live k.named) taken

      pub fails_empty : (t : Solver) (id : ℕ) (hints : List ℕ) (now next : A) → IsAdmitted (clauses_of t.core.slots) [] → AreFew (Adds [] id hints) → IsHintedFor t (Adds [] id hints) → fails now (Adds [] id hints) next → Rose (faults now) (faults next)
          → Stops takes fails faults t now next Failed
      fails_empty t id hints now next admits few by e r = (
        (λ f first budget h k. breaks_empty takes t.ids.wanted f fails budget first now next (clauses_of t.core.slots) (clauses_of t.frozen.slots) t.conflicts t.deletions k.live id hints h k.held admits (proper_empty f.vars, few) (by k.live k.named) e),
        r,
      )

      -- the search ended
      pub stops_ends : (s : Solver) (now next : A) (e : Stop) (f : FormulaOf) (first : A) (budget : ℕ) → s.conflicts < budget → HasLogged takes f first now s → Stops takes fails faults s now next e → EndsBy takes fails s.ids.wanted f budget first next e
      stops_ends s now next OutOfMemory f first budget h k w = w f first budget h k
      stops_ends s now next Failed f first budget h k w = w.0 f first budget h k

      -- it did, after clauses were added
      pub ended_later : (budget : ℕ) (s mid : Solver) (now then next : A) (e : Stop) → Grows takes faults budget s mid now then → Stops takes fails faults mid then next e → Ended takes fails faults budget s now next e
      ended_later budget s mid now then next e g w =
          let l = g.leads in
          let a = l.later in
          record {
            ends = λ f first k. subst (λ z. EndsBy takes fails z f budget first next e) l.wanted (stops_ends mid then next e f first budget g.in_time (l.on f first k) w);
            cause = λ q. rose_later (faults now) (faults then) (faults next) a (rose_of mid then next e w q);
          }
        where
          rose_of : (s : Solver) (now next : A) (e : Stop) → Stops takes fails faults s now next e → e ≡ Failed → Rose (faults now) (faults next)
          rose_of s now next OutOfMemory w q = absurd (let x : OutOfMemory ≡ Failed = q in cc)
          rose_of s now next Failed w q = w.1

      pub ended_now : (budget : ℕ) (s mid : Solver) (now then : A) → Grows takes faults budget s mid now then → Ended takes fails faults budget s now then OutOfMemory
      ended_now budget s mid now then g = ended_later budget s mid now then then OutOfMemory g (stops_now mid then)

      pub ended_both : (budget : ℕ) (s mid : Solver) (now then next : A) (e : Stop) → Grows takes faults budget s mid now then → Ended takes fails faults budget mid then next e → Ended takes fails faults budget s now next e
      ended_both budget s mid now then next e g w =
          let l = g.leads in
          let a = l.later in
          record {
            ends = λ f first k. subst (λ z. EndsBy takes fails z f budget first next e) l.wanted (w.ends f first (l.on f first k));
            cause = λ q. rose_later (faults now) (faults then) (faults next) a (w.cause q);
          }
