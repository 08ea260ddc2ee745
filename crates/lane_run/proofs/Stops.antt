-- A lane that its limit stopped.
use Rattle.std.proofs.Common.{◌≡◌, ◌⊎◌, inl, inr, ℕ, zero, suc, ◌+◌, ◌-◌, ◌<◌, ◌≤◌, Bool, true, false, leb, ◌&&◌, List, [], ◌∷◌, ◌++◌, Option, None, Some, IfSome, IsSomeAnd, refl, sym, subst, ◌∙◌, arith}
use Rattle.std.proofs.lemmas.Bool.{leb-true}
use Rattle.race_cells.specs.Notes.{NoteOf}
use Rattle.race_core.specs.Consistent.{Replayed, end_at, events_at}
use Rattle.race_core.specs.Carrying.{KnewBy}
use Rattle.race_core.specs.Ends.{HasReason, IsLast}
use Rattle.race_core.specs.Parts.{Terms, keeper_from, shows_limit}
use Rattle.race_core.specs.Report.{ReportOf, no_events}
use Rattle.race_core.specs.declared.end.JobEnd.{JobEnd}
use Rattle.race_core.specs.declared.end.JobEnd.TheVariants as end
use Rattle.race_core.specs.declared.event.LaneEvent.{LaneEvent}
use Rattle.race_core.specs.declared.event.LaneEvent.TheVariants as event
use Rattle.race_core.specs.declared.part.Keeper.TheVariants as keeper
use Rattle.race_core.specs.declared.part.Reason.TheVariants as reason
use Rattle.lane_run.specs.Keeping.{HasReading}
use Rattle.lane_run.specs.Done.{IsStopped, JobDone, LaneSoFar}
use Rattle.lane_run.specs.declared.task.Limit.{Limit}
use Rattle.lane_run.proofs.Reasons.{by_reading}

-- a list has the readings that it shows
reading_there : {T : Type 0} (t : ℕ) (front back : List (LaneEvent T)) → HasReading t (front ++ event.Clock t ∷ back)
reading_there t [] back = inl refl
reading_there t (e ∷ front) back = inr (reading_there t front back)

both_hold : (a b : Bool) → (a && b) ≡ true → (a ≡ true) × (b ≡ true)
both_hold true b h = (refl, h)
both_hold false b h = absurd cc

-- a reading that shows the limit comes the limit or more after the start
limit_shown : (start : ℕ) (limit : Option ℕ) (t : ℕ) → shows_limit start limit t ≡ true → IsSomeAnd limit (λ millis. (start ≤ t) × (millis ≤ t - start))
limit_shown start None t h = absurd cc
limit_shown start (Some millis) t h =
    let x = both_hold (leb start t) (leb millis (t - start)) h in
    (leb-true start t x.0, leb-true millis (t - start) x.1)

started_by : (start : ℕ) (limit : Option ℕ) (t : ℕ) (P : Type 0) → shows_limit start limit t ≡ true → IfSome limit (λ millis. P) → P
started_by start None t P h p = absurd cc
started_by start (Some millis) t P h p = p

module _ {T : Type 0} (For : ℕ → T → Type 0) (serves : ℕ → Type 0) (terms : ℕ → Terms T) (may_read : ℕ → Type 0) (n : ℕ) (notes : List (NoteOf T)) (r : ReportOf T)
    (lane : LaneSoFar For serves terms may_read n notes r) (limit : Limit) (start_is : (j : ℕ) → (terms j).start ≡ limit.start) (limit_is : (j : ℕ) → (terms j).limit ≡ limit.millis)
    (started : IfSome limit.millis (λ millis. may_read limit.start)) where
  reason_of : (j t : ℕ) → Replayed (serves j) (terms j) (KnewBy (events_at r) j) (events_at r j) (end.Stopped t) → HasReason (keeper_from (terms j) keeper.Fresh (events_at r j).keeper) (reason.Limit t)
  reason_of j t (inl s) = s.1.1
  reason_of j t (inr s) = absurd s.1

  split : (j : ℕ) → (j < n) ⊎ (n ≤ j)
  split j = grind arith

  none_behind : (j t : ℕ) → end_at r j ≡ end.Stopped t → (k : ℕ) → j < k → events_at r k ≡ no_events
  none_behind j t is k jk = elim (split k) [
    | inl lt ↦ elim (lane.each k lt) [
      | inl d ↦ absurd (d.0 j jk (subst (λ (e : JobEnd T). IsLast e) (sym is) tt))
      | inr late ↦ late.4
    ]
    | inr le ↦ lane.left k le
  ]

  own_stop : (j t : ℕ) → JobDone For (serves j) (terms j) (KnewBy (events_at r) j) may_read j notes (events_at r j) (end_at r j) → end_at r j ≡ end.Stopped t → IsStopped may_read limit j t r
  own_stop j t d is =
      let b = by_reading (terms j) t (events_at r j).keeper
      (reason_of j t (subst (λ (e : JobEnd T). Replayed (serves j) (terms j) (KnewBy (events_at r) j) (events_at r j) e) is d.replayed)) in
      let shown : shows_limit limit.start limit.millis t ≡ true = subst (λ (s : ℕ). shows_limit s limit.millis t ≡ true) (start_is j)
      (subst (λ (l : Option ℕ). shows_limit (terms j).start l t ≡ true) (limit_is j) b.1) in
      record {
        job = j;
        within = omega arith;
        last = b.0;
        behind = none_behind j t is;
        reading = d.readings t (subst (λ (es : List (LaneEvent T)). HasReading t es) (sym b.0.2) (reading_there t b.0.0 b.0.1));
        start = started_by limit.start limit.millis t (may_read limit.start) shown started;
        shows = limit_shown limit.start limit.millis t shown;
      }

  stop_below : (m j t : ℕ) → j < m → j < n → end_at r j ≡ end.Stopped t → IsStopped may_read limit j t r
  stop_below zero j t jm jn is = absurd (omega (jm, arith))
  stop_below (suc m) j t jm jn is = elim (lane.each j jn) [
    | inl d ↦ own_stop j t d.1 is
    | inr late ↦
        let s = stop_below m late.0 t (omega (jm, late.1, arith)) (omega (jn, late.1, arith)) (sym late.3 ∙ is) in
        record { job = s.job; within = omega (s.within, late.1, arith); last = s.last; behind = s.behind; reading = s.reading; start = s.start; shows = s.shows }
  ]

  -- an end by the limit is by the lane's last reading
  pub lane_stopped : (j t : ℕ) → j < n → end_at r j ≡ end.Stopped t → IsStopped may_read limit j t r
  lane_stopped j t jn is = stop_below (j + 1) j t (omega arith) jn is
