-- A level that is opened.
use Rattle.std.proofs.Common.{◌≡◌, ℕ, ◌<◌, ◌≤◌, Bool, false, List, [], ◌∷◌, ◌++◌, length, get_or, take, refl, sym, ◌∙◌, ap, subst, inl, inr, arith, append_assoc}
use Rattle.std.specs.Prelude.{Contains, Option, Some, Ok}
use Rattle.std.proofs.lemmas.Bool.{cases_eq, false≢true}
use Rattle.std.proofs.lemmas.List.{take_at, take-append-le, length-append, length_push, get_or_append_left, get_or_push}
use Rattle.std.proofs.lemmas.List.Elements.{Contains-push_cases, Contains-get_or}
use Rattle.cnf_form.specs.Cnf.{LitOf}
use Rattle.unit_propagation.specs.declared.watch.Head.{Head}
use Rattle.unit_propagation.specs.declared.watch.Watch.{Watch}
use Rattle.unit_propagation.specs.Propagation.{Propagates}
use Rattle.unit_propagation.specs.declared.outcome.Outcome.{Outcome}
use Rattle.unit_propagation.specs.declared.outcome.Outcome.TheVariants.{Complete, Falsified, Opposed}
use Rattle.unit_propagation.specs.Propagator.{slot_at, clauses_of, Assumes, PropagatorOf, EndsAssumed, is_conflict}
use Rattle.unit_propagation.specs.Visit.{State, IsKept, AllKept, IsFiled}
use Rattle.unit_propagation.specs.Assumption.{AssumeWalks, AssumeFits}
use Rattle.unit_propagation.specs.Inside.{IsPropagator}
use Rattle.unit_propagation.proofs.States.{taken}
use Rattle.unit_propagation.proofs.Assumptions.{assumed_grows}

-- the whole trail after assumptions and propagation
pub trail_grown : (F : List (List LitOf)) (lits s t u : List LitOf) → Assumes lits s t → Propagates F t u → (added : List LitOf) × (u ≡ s ++ added)
trail_grown F lits s t u a p = (a.added ++ p.added, p.grown ∙ ap (λ z. z ++ p.added) a.grown ∙ append_assoc s a.added p.added)

module _ (vars : ℕ) (slots : List (Option (List LitOf))) (s : State) (pairs : List (List Watch)) (limits : List ℕ) (conflict : Bool) (v : IsPropagator vars slots s pairs limits conflict) where
  pub opened : (new : State) (lits : List LitOf) (conflict' : Bool) → conflict ≡ false → AssumeWalks slots pairs s new lits → (conflict' ≡ false → AllKept new.trail new.trail slots new.heads)
      → IsPropagator vars slots new pairs (limits ++ length s.trail ∷ []) conflict'
  opened new lits conflict' free x now =
      let w = x.walks in
      let a = x.assumes in
      let g = w.grown in
      let whole = trail_grown (clauses_of slots) lits s.trail x.assumed new.trail a g in
      let same : (n : ℕ) → n ≤ length s.trail → take n new.trail ≡ take n s.trail = λ n h. ap (take n) whole.1 ∙ take-append-le n s.trail whole.0 h in
      let all : take (length s.trail) new.trail ≡ s.trail = ap (take (length s.trail)) whole.1 ∙ take_at s.trail whole.0 (length s.trail) refl in
      let longer : length s.trail ≤ length new.trail = omega (arith, ap length whole.1, length-append s.trail whole.0) in
      let kept : (b : List LitOf) → ((l : LitOf) → Contains b l → Contains s.trail l) → AllKept b b slots s.heads → AllKept b b slots new.heads =
      λ b inside k j d h. w.below b j d (λ l i. assumed_grows lits s.trail x.assumed a l (inside l i)) h (k j d (omega (arith, h, w.count))) in
      record {
        count = v.count ∙ sym w.count;
        filed = w.filed;
        within = v.within;
        consistent = g.consistent (a.consistent v.consistent);
        now = now;
        levels = λ n k. elim (Contains-push_cases limits (length s.trail) n k) [
          | inl k ↦ let y = v.levels n k in
              (omega (arith, y.0, longer), subst (λ z. AllKept z z slots new.heads) (sym (same n y.0)) (kept (take n s.trail) (λ l i. taken s.trail n l i) y.1))
          | inr e ↦ (omega (arith, e, longer), subst (λ z. AllKept z z slots new.heads) (sym all ∙ ap (λ z. take z new.trail) e) (kept s.trail (λ l i. i) (v.now free)))
        ];
        rising = λ i j d h k.
            let size = length_push limits (length s.trail) in
            elim (cases_eq j (length limits)) [
              | inr ne ↦
                  let in_j : j < length limits = omega (arith, k, size, ne) in
                  let in_i : i < length limits = omega (arith, h, in_j) in
                  omega (arith, v.rising i j d h in_j, get_or_append_left limits (length s.trail ∷ []) d i in_i, get_or_append_left limits (length s.trail ∷ []) d j in_j)
              | inl e ↦
                  let last : get_or (limits ++ length s.trail ∷ []) j d ≡ length s.trail = get_or_push limits (length s.trail) d j (sym e) in
                  elim (cases_eq i (length limits)) [
                    | inl e' ↦ let here : get_or (limits ++ length s.trail ∷ []) i d ≡ length s.trail = get_or_push limits (length s.trail) d i (sym e') in omega (arith, here, last)
                    | inr ne ↦
                        let in_i : i < length limits = omega (arith, h, e, ne) in
                        let y = v.levels (get_or limits i d) (Contains-get_or limits i d in_i) in
                        omega (arith, y.0, last, get_or_append_left limits (length s.trail ∷ []) d i in_i)
                  ]
            ];
      }

  -- out of memory, nothing changed but watches
  pub unopened : (new : State) → length new.heads ≡ length s.heads → IsFiled slots new pairs → new.trail ≡ s.trail
      → ((j : ℕ) (d : Head) → j < length new.heads → (b : List LitOf) → ((l : LitOf) → Contains b l → Contains s.trail l) → IsKept b b (slot_at slots j) (get_or s.heads j d) → IsKept b b (slot_at slots j) (get_or new.heads j d))
      → IsPropagator vars slots new pairs limits conflict
  unopened new count filed same below =
      let kept : (b : List LitOf) → ((l : LitOf) → Contains b l → Contains s.trail l) → AllKept b b slots s.heads → AllKept b b slots new.heads =
      λ b inside k j d h. below j d h b inside (k j d (omega (arith, h, count))) in
      record {
        count = v.count ∙ sym count;
        filed = filed;
        within = v.within;
        consistent = rw same v.consistent;
        now = λ e. rw same (kept s.trail (λ l i. i) (v.now e));
        levels = λ n k. let y = v.levels n k in rw same (y.0, kept (take n s.trail) (λ l i. taken s.trail n l i) y.1);
        rising = v.rising;
      }

-- what an outcome leaves
module _ (slots : List (Option (List LitOf))) (pairs : List (List Watch)) (old new : State) (lits : List LitOf) where
  pub walks_of : (o : Outcome) → AssumeFits slots pairs old new lits (Ok o) → AssumeWalks slots pairs old new lits
  walks_of Complete f = f.0
  walks_of (Falsified k) f = f.0
  walks_of Opposed f = f.0

  pub kept_of : (o : Outcome) (b : Bool) → b ≡ is_conflict o → AssumeFits slots pairs old new lits (Ok o) → b ≡ false → AllKept new.trail new.trail slots new.heads
  kept_of Complete b e f g = f.1
  kept_of (Falsified k) b e f g = absurd (false≢true (sym g ∙ e))
  kept_of Opposed b e f g = absurd (false≢true (sym g ∙ e))

  pub ends_of : (o : Outcome) (p : PropagatorOf) → p.slots ≡ slots → p.trail ≡ new.trail → AssumeFits slots pairs old new lits (Ok o) → EndsAssumed p lits o
  ends_of Complete p e g f = rw g f.2
  ends_of (Falsified k) p e g f = (f.1, subst (λ z. slot_at z k ≡ Some f.1) (sym e) f.2, rw g f.3)
  ends_of Opposed p e g f = (f.1, f.2, rw g f.3)
