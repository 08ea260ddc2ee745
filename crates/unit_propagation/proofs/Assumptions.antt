-- Literals that are assumed one after another.
use Rattle.std.proofs.Common.{◌≡◌, ◌⊎◌, ℕ, ◌+◌, ◌<◌, ◌≤◌, List, [], ◌∷◌, ◌++◌, length, get_or, take, sym, ◌∙◌, ap, subst, inl, inr, arith, append_assoc}
use Rattle.std.specs.Prelude.{Contains, Option, Some, None, Ok, Err}
use Rattle.std.proofs.lemmas.Bool.{cases_eq}
use Rattle.std.proofs.lemmas.List.{take_at, get_or_default, length-append}
use Rattle.std.proofs.lemmas.List.Elements.{Contains-append_left, Contains-push_cases}
use Rattle.std.specs.declared.alloc.AllocError.{AllocError}
use Rattle.cnf_form.specs.Cnf.{LitOf}
use Rattle.unit_propagation.specs.declared.watch.Watch.{Watch}
use Rattle.unit_propagation.specs.declared.outcome.Outcome.TheVariants.{Complete, Falsified}
use Rattle.unit_propagation.specs.Propagation.{IsUnassigned, IsConsistent}
use Rattle.unit_propagation.specs.Propagator.{Assumes}
use Rattle.unit_propagation.specs.Visit.{State, AllKept, IsFiled, SettleFits, Walks}
use Rattle.unit_propagation.specs.Assumption.{AssumeFits, AssumeWalks}
use Rattle.unit_propagation.proofs.Trails.{consistent_push}
use Rattle.unit_propagation.proofs.Visits.{propagates_grows}
use Rattle.unit_propagation.proofs.Walks.{kept_all_grown}
use Rattle.unit_propagation.proofs.States.{filed_trail}

pub assume_more : (lits s t t' : List LitOf) (l : LitOf) → Assumes lits s t → Contains lits l → (t' ≡ t) ⊎ (IsUnassigned t l × (t' ≡ t ++ l ∷ [])) → Assumes lits s t'
assume_more lits s t t' l a h g =
    elim g [
      | inl e ↦ subst (Assumes lits s) (sym e) a
      | inr w ↦ record {
        added = a.added ++ l ∷ [];
        grown = w.1 ∙ ap (λ z. z ++ l ∷ []) a.grown ∙ append_assoc s a.added (l ∷ []);
        only = λ m k. elim (Contains-push_cases a.added l m k) [ inl k ↦ a.only m k | inr e ↦ subst (Contains lits) e h ];
        consistent = λ ok. subst IsConsistent (sym w.1) (consistent_push t l (a.consistent ok) w.0);
      }
    ]

pub assumed_grows : (lits s t : List LitOf) → Assumes lits s t → (l : LitOf) → Contains s l → Contains t l
assumed_grows lits s t a l h = subst (λ z. Contains z l) (sym a.grown) (Contains-append_left s a.added l h)

pub front_more : (lits t t' : List LitOf) (i : ℕ) (l : LitOf) → i < length lits → l ≡ get_or lits i l → ((k : ℕ) (d : LitOf) → k < i → Contains t (get_or lits k d)) → (t' ≡ t) ⊎ (IsUnassigned t l × (t' ≡ t ++ l ∷ [])) → Contains t' l
    → (k : ℕ) (d : LitOf) → k < i + 1 → Contains t' (get_or lits k d)
front_more lits t t' i l room is all g now k d h =
    elim (cases_eq k i) [
      | inl e ↦ subst (Contains t') (is ∙ get_or_default lits i l d room ∙ ap (λ z. get_or lits z d) (sym e)) now
      | inr ne ↦ let y = all k d (omega (arith, h, ne)) in elim g [ inl e ↦ subst (λ z. Contains z (get_or lits k d)) (sym e) y | inr w ↦ subst (λ z. Contains z (get_or lits k d)) (sym w.1) (Contains-append_left t (l ∷ []) _ y) ]
    ]

-- propagation after assumptions
module _ (slots : List (Option (List LitOf))) (pairs : List (List Watch)) (old new : State) (lits t : List LitOf) (base : ℕ) (at : base ≡ length old.trail) (a : Assumes lits old.trail t) (filed : IsFiled slots old pairs) (kept : AllKept old.trail old.trail slots old.heads) where
  base_taken : take base t ≡ old.trail
  base_taken = ap (take base) a.grown ∙ take_at old.trail a.added base (sym at)

  pub filed_assumed : IsFiled slots (record old { trail = t }) pairs
  filed_assumed = filed_trail slots old pairs t filed

  pub kept_assumed : AllKept (take base t) t slots old.heads
  kept_assumed = rw base_taken (kept_all_grown old.trail old.trail t slots old.heads (assumed_grows lits old.trail t a) kept)

  pub room_assumed : base ≤ length t
  room_assumed = omega (arith, at, ap length a.grown, length-append old.trail a.added)

  walked_after : Walks slots pairs (record old { trail = t }) new → AssumeWalks slots pairs old new lits
  walked_after w = record { assumed = t; assumes = a; walks = w }

  pub complete_after : SettleFits slots pairs (record old { trail = t }) new (take base t) (Ok None) → ((l : LitOf) → Contains lits l → Contains t l) → AssumeFits slots pairs old new lits (Ok Complete)
  complete_after f all = let w = f.0 in (walked_after f.0, f.1, λ l h. propagates_grows _ t new.trail w.grown l (all l h))

  pub falsified_after : (k : ℕ) → SettleFits slots pairs (record old { trail = t }) new (take base t) (Ok (Some k)) → AssumeFits slots pairs old new lits (Ok (Falsified k))
  falsified_after k f = (walked_after f.0, f.1, f.2, f.3)

  pub wanting_after : (e e' : AllocError) → SettleFits slots pairs (record old { trail = t }) new (take base t) (Err e) → AssumeFits slots pairs old new lits (Err e')
  wanting_after e e' f = (f.0, f.1 ∙ base_taken, λ j d h b inside k. f.2 j d h b (λ l i. subst (λ z. Contains z l) (sym base_taken) (inside l i)) k)
