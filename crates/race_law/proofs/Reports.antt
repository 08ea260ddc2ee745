-- The reports of a world that ended are consistent.
use Rattle.race_core.specs.Carrying.{Looked, KnewBy, Carries}
use Rattle.std.proofs.Common.{refl, ◌≡◌, ◌⊎◌, ℕ, ◌<◌, List, Option, Some, None, sym, ◌∙◌, subst, inl, inr, arith, true}
use Rattle.std.specs.Prelude.{slice_get}
use Rattle.race_core.specs.Report.{EventsOf, ReportOf, no_events}
use Rattle.race_core.specs.Parts.{Terms, reader_of, keeper_of, place_of, RightReader, RightKeeper}
use Rattle.race_core.specs.Ends.{IsLast}
use Rattle.race_law.specs.World.{Script, Race, World, Serves}
use Rattle.race_law.specs.Invariant.{Inv}
use Rattle.race_law.specs.Ended.{EndOf, HasEnded, AllEnded}
use Rattle.race_law.specs.Theorem.{Agree, Knows, WasFound}
use Rattle.race_core.specs.Consistent.{events_at, end_at, Replayed, Tells, Consistent, AreOf}
use Rattle.race_core.specs.declared.end.JobEnd.{JobEnd}
use Rattle.race_core.specs.declared.part.By.{By}
use Rattle.race_core.specs.declared.part.Place.TheVariants as place
use Rattle.race_core.specs.declared.part.Reader.TheVariants as reader

none-served : {T : Type 0} (s : Script T) → None ≡ Some s → ⊥
none-served s e = cc

replayed : {T : Type 0} (script : Option (Script T)) (a : Terms T) (known : T → Type 0) (es : EventsOf T) (e : JobEnd T) → EndOf script a known es e → Replayed ((s : Script T) × (script ≡ Some s)) a known es e
replayed None a known es e h = inr (λ x. none-served x.0 x.1, h)
replayed (Some s) a known es e h = inl ((s, refl), h)

module _ {T : Type 0} (For : ℕ → T → Type 0) (Fatal : ℕ → T → Type 0) (race : Race T) (w : World T) (inv : Inv For Fatal (Unit {0}) race w) (agree : Agree w)
    (ends : ℕ → ℕ → JobEnd T) (ended : AllEnded race w ends)
    (found : (i j : ℕ) (f : T) → i < race.lanes → j < race.jobs → Carries (ends i j) f → WasFound For w f)
    (reports : List (ReportOf T)) (are : AreOf w.events ends race.lanes race.jobs reports) where
  module _ (i : ℕ) (r : ReportOf T) (at : slice_get reports i ≡ Some r) where
    same : w.events i ≡ (λ j. events_at r j)
    same = sym (are.events_are i r at)

    ended-at : (j : ℕ) → j < race.jobs → HasEnded (race.script i j) (race.terms j) (λ l. events_at r l) (ends i) j
    ended-at j jl = subst (λ es. HasEnded (race.script i j) (race.terms j) es (ends i) j) same (ended i j (are.places i r at).1 jl)

    each : (j : ℕ) → j < race.jobs
        → (((l : ℕ) → l < j → IsLast (end_at r l) → ⊥) × Replayed (Serves race.script i j) (race.terms j) (KnewBy (events_at r) j) (events_at r j) (end_at r j))
        ⊎ ((l : ℕ) × (l < j) × IsLast (end_at r l) × (end_at r j ≡ end_at r l) × (events_at r j ≡ no_events))
    each j jl = elim (ended-at j jl) [
      | inl e ↦ inl (
        (λ l lj last. let lt : l < race.jobs = omega arith in e.0 l lj (subst (λ x. IsLast x) (are.ends_are i l r at lt) last)),
        subst (λ x. Replayed (Serves race.script i j) (race.terms j) (KnewBy (events_at r) j) (events_at r j) x) (sym (are.ends_are i j r at jl))
            (replayed (race.script i j) (race.terms j) (KnewBy (events_at r) j) (events_at r j) (ends i j) e.1),
      )
      | inr l ↦
          let lt : l.0 < race.jobs = omega arith in
          inr (l.0, l.1, subst (λ x. IsLast x) (sym (are.ends_are i l.0 r at lt)) l.2, are.ends_are i j r at jl ∙ l.3 ∙ sym (are.ends_are i l.0 r at lt), l.4)
    ]

    away : (j : ℕ) → j < race.jobs → place_of (events_at r j) ≡ place.Away
    away j jl = elim (ended-at j jl) [
      | inl e ↦ e.2
      | inr l ↦ subst (λ es. place_of es ≡ place.Away) (sym l.4) refl
    ]

  pub consistent : Consistent For (Serves race.script) race.terms race.lanes race.jobs reports
  consistent = record {
    lanes_are = are.lanes_are;
    places = λ i r at. (are.places i r at).0;
    replays = λ i r at. record {
      ends = are.ends_size i r at;
      events = are.events_size i r at;
      right_reader = λ j jl. subst (λ (es : ℕ → EventsOf T). RightReader (reader_of (es j))) (same i r at) (inv.seat i j).right_reader;
      right_keeper = λ j jl. subst (λ (es : ℕ → EventsOf T). RightKeeper (keeper_of (race.terms j) (es j))) (same i r at) (inv.seat i j).right_keeper;
      place = away i r at;
      each = each i r at;
    };
    carried = λ i j r f at jl h.
        let x = found i j f (are.places i r at).1 jl (subst (λ e. Carries e f) (are.ends_are i j r at jl) h) in (x.1, x.2);
    agree = λ i k c r q f g at bt h l. agree i k c f g (knows i r at c f h) (knows k q bt c g l);
  }
    where
      knows : (i : ℕ) (r : ReportOf T) → slice_get reports i ≡ Some r → (c : ℕ) (f : T) → Tells r c f → Knows w i c f
      knows i r at c f h = subst (λ (es : ℕ → EventsOf T). ((b : By) × (reader_of (es c) ≡ reader.Found f b true)) ⊎ ((j : ℕ) × Looked c f (es j).keeper)) (are.events_are i r at) h
