-- Clauses that are deleted at level 0, and clauses that are added again.
use Rattle.std.proofs.Common.{◌≡◌, ℕ, ◌+◌, ◌<◌, List, [], ◌∷◌, ◌++◌, length, set, take, map, refl, sym, ◌∙◌, ap, subst, inl, arith, zero, suc}
use Rattle.std.specs.Prelude.{Contains, Option, Some, None}
use Rattle.std.proofs.lemmas.List.{get_or_default}
use Rattle.cnf_form.specs.Cnf.{LitOf, negate, SameClause, Removes, first, later, Deletes, Closure}
use Rattle.cnf_form.proofs.Members.{Contains-empty, take_one_more}
use Rattle.cnf_form.proofs.Rup.{Closure-least}
use Rattle.cnf_form.proofs.Removal.{Closure-monotone, Deletes-closure}
use Rattle.unit_propagation.specs.Propagation.{IsFixpoint}
use Rattle.unit_propagation.specs.Propagator.{PropagatorOf, clauses_of, slot_at}
use Rattle.cdcl_core.specs.Levels.{IsJustified}

-- the clauses of one more slot
pub clauses_append : (slots more : List (Option (List LitOf))) → clauses_of (slots ++ more) ≡ clauses_of slots ++ clauses_of more
clauses_append [] more = refl
clauses_append (Some d ∷ ss) more = ap (λ z. d ∷ z) (clauses_append ss more)
clauses_append (None ∷ ss) more = clauses_append ss more

pub clauses_map : (F : List (List LitOf)) → clauses_of (map Some F) ≡ F
clauses_map [] = refl
clauses_map (c ∷ F) = ap (λ z. c ∷ z) (clauses_map F)

pub map_push : (F : List (List LitOf)) (c : List LitOf) → map Some (F ++ c ∷ []) ≡ map Some F ++ Some c ∷ []
map_push [] c = refl
map_push (d ∷ F) c = ap (λ z. Some d ∷ z) (map_push F c)

-- one clause is removed
removes_at : (slots : List (Option (List LitOf))) (k : ℕ) (c : List LitOf) → slot_at slots k ≡ Some c → Removes c (clauses_of slots) (clauses_of (set slots k None))
removes_at [] k c e = absurd (let f : None ≡ Some c = e in cc)
removes_at (Some x ∷ ss) zero c e = let f : x ≡ c = cc in first x (clauses_of ss) (subst (SameClause c) (sym f) (record { forth = λ l h. h; back = λ l h. h }))
removes_at (None ∷ ss) zero c e = absurd (let f : None ≡ Some c = e in cc)
removes_at (Some x ∷ ss) (suc k) c e = later x (clauses_of ss) (clauses_of (set ss k None)) (removes_at ss k c e)
removes_at (None ∷ ss) (suc k) c e = removes_at ss k c e

-- a clause of which nothing is true is no reason, where nothing is left to do
pub deletes_at : (t : List LitOf) (slots : List (Option (List LitOf))) (k : ℕ) (c : List LitOf) → IsFixpoint t (clauses_of slots) → slot_at slots k ≡ Some c
    → ((l : LitOf) → Contains c l → Contains t l → ⊥) → Deletes (clauses_of slots) c (clauses_of (set slots k None))
deletes_at t slots k c fix at none =
    let F = clauses_of slots in
    let below : (l : LitOf) → Closure F l → Contains t l = λ l h. Closure-least (λ m. Contains t m) (λ d m g i others. let s = fix d g in s.closed m i (record { each = others })) h in
    inl (removes_at slots k c at, λ w. let s = fix w.0 w.1 in s.not_falsified (record { each = λ l h. below (negate l) (w.2 l h) }), λ w. none w.0 w.1 (below w.0 w.2))

pub justified_less : (p : PropagatorOf) (slots : List (Option (List LitOf))) (c : List LitOf) → p.limits ≡ [] → Deletes (clauses_of p.slots) c (clauses_of slots) → IsJustified p → IsJustified (record p { slots = slots })
justified_less p slots c none d v =
    let F = clauses_of p.slots in
    let r = v.root in
    let all = r.derived F (record { each = λ y k. k }) (record { each = λ y k. absurd (Contains-empty y k) }) in
    record {
      root = record { derived = λ G more e. record { each = λ x h. let w = Deletes-closure F (clauses_of slots) c d x in Closure-monotone more.each (w.0 (all.each x h)) } };
      level = λ i h. absurd (omega (arith, h, ap length none));
      strict = λ i h. absurd (omega (arith, h, ap length none));
      within = v.within;
    }

-- one more slot was visited
pub take_slot : (slots : List (Option (List LitOf))) (k : ℕ) → k < length slots → clauses_of (take (k + 1) slots) ≡ clauses_of (take k slots) ++ clauses_of (slot_at slots k ∷ [])
take_slot slots k h =
    let x = slot_at slots k in
    ap clauses_of (take_one_more slots k x h (get_or_default slots k None x h)) ∙ clauses_append (take k slots) (x ∷ [])
