-- Before the first line.
use Rattle.std.proofs.Common.{◌≡◌, inl, inr, ℕ, zero, suc, ◌+◌, ◌<◌, ◌≤◌, Bool, true, false, eqb, [], Some, None, length, set, refl, sym, ap, subst, ◌∙◌, arith}
use Rattle.std.specs.Prelude.{replicate, slice_get}
use Rattle.std.proofs.lemmas.Bool.{cases_eq}
use Rattle.std.proofs.lemmas.Bool.Decides.{nat_tests}
use Rattle.std.proofs.lemmas.List.{length-replicate}
use Rattle.std.proofs.lemmas.List.Elements.{All-nil}
use Rattle.btor_core.specs.Fits.{IsBtor}
use Rattle.btor_core.specs.Shape.{BtorOf}
use Rattle.btor_emit.specs.Emitting.{AreStates, IsStart, IsStateWord}
use Rattle.btor_emit.specs.Table.{IsSeat, Table, seat_at}
use Rattle.btor_emit.specs.declared.shape.State.{State}
use Rattle.btor_emit.specs.declared.table.Seat.{Seat}
use Rattle.btor_emit.specs.declared.table.Seat.TheVariants.{Digit}
use Rattle.btor_emit.proofs.Gathering.{by_seats, new_seat, same_seat}
use Rattle.btor_emit.proofs.Seating.{set_at, set_beside}
use Rattle.model_core.specs.Served.{IsModel}
use Rattle.model_core.specs.Shape.{ModelOf, sources}
use Rattle.model_core.proofs.Frames.{source_below}
use Rattle.model_core.proofs.Lists.{contained_at}

no_digit : (n p : ℕ) → seat_at (replicate n (Digit false)) p ≡ Digit false
no_digit zero p = refl
no_digit (suc n) zero = refl
no_digit (suc n) (suc p) = no_digit n p

pub digits_only : (n k p : ℕ) → k < n → seat_at (set (replicate n (Digit false)) k (Digit true)) p ≡ Digit (eqb p k)
digits_only n k p l =
    let old : Table = replicate n (Digit false) in
    let long = length-replicate n (Digit false) in
    elim (cases_eq p k) as (λ _. seat_at (set old k (Digit true)) p ≡ Digit (eqb p k)) [
      | inl q ↦
          let e : eqb p k ≡ true = grind (arith, nat_tests) in
          new_seat (set old k (Digit true)) p (Digit true) (subst (λ (z : ℕ). slice_get (set old k (Digit true)) z ≡ Some (Digit true)) (sym q) (set_at old k (Digit true) (omega arith))) ∙ ap (λ (b : Bool). Digit b) (sym e)
      | inr q ↦
          let e : eqb p k ≡ false = grind (arith, nat_tests) in
          same_seat old (set old k (Digit true)) p (set_beside old k p (Digit true) q) ∙ no_digit n p ∙ ap (λ (b : Bool). Digit b) (sym e)
    ]

pub states_none : (m : ModelOf) (e : BtorOf) (t : Table) → e ≡ record { lines = []; constants = [] } → IsBtor e → length t ≡ m.size → ((p : ℕ) → seat_at t p ≡ Digit (eqb p (suc m.zero))) → AreStates m e t [] 0
states_none m e t is btor size seats = subst (λ (x : BtorOf). AreStates m x t [] 0) (sym is) (record {
  btor = subst IsBtor is btor;
  size = size;
  seats = by_seats (record { lines = []; constants = [] }) t (λ p l. subst (λ (s : Seat). IsSeat (record { lines = []; constants = [] }) s) (sym (seats p)) tt);
  opened = refl;
  joined = λ j s at. absurd (let c : None ≡ Some s = at in cc);
  whole = refl;
  before = All-nil (λ (s : State). s.first + s.word.width ≤ 0);
  each = All-nil (IsStateWord m (record { lines = []; constants = [] }) t);
  starts = All-nil (IsStart m (record { lines = []; constants = [] }) []);
  nexts = refl;
  constraints = refl;
  bads = refl;
  else = λ p n. seats p;
  few = omega arith;
})

pub one_below : (m : ModelOf) → IsModel m → suc m.zero < m.size
one_below m is = source_below m is (suc m.zero) (contained_at (sources m) (suc m.zero) 1 refl)
