-- Every run of a world keeps what is kept.
use Rattle.std.proofs.Common.{◌≡◌, ◌⊎◌, ℕ, Bool, true, List, [], ◌∷◌, Option, Some, None, refl, sym, ap, ◌∙◌, subst, inl, inr}
use Rattle.std.proofs.lemmas.Bool.{cases_eq}
use Rattle.race_core.specs.Report.{EventsOf}
use Rattle.race_core.specs.Parts.{reader_after, reader_of, keeper_of, after_settle, RightReader, RightKeeper}
use Rattle.race_core.specs.Ends.{IsKilled}
use Rattle.race_law.specs.World.{Script, Race, World, Step, Steps, WorldRun, IsNew, QuietRun, OfScript, Holds, with_event, IsQuiet, IsRace, ends_job, read_bytes, plain}
use Rattle.race_law.specs.Invariant.{FromScript, ReasonOk, KeeperOk, SeatInv, PlainHas, Inv}
use Rattle.race_core.specs.declared.event.Judged.TheVariants as progress
use Rattle.race_core.specs.declared.event.LaneEvent.{LaneEvent}
use Rattle.race_core.specs.declared.event.LaneEvent.TheVariants as event
use Rattle.race_core.specs.declared.part.By.{By}
use Rattle.race_core.specs.declared.part.Reader.{Reader}
use Rattle.race_core.specs.declared.part.Reader.TheVariants as reader
use Rattle.race_core.specs.declared.part.Keeper.{Keeper}
use Rattle.race_core.specs.declared.part.Keeper.TheVariants as keeper
use Rattle.race_core.specs.declared.part.Reason.{Reason}
use Rattle.race_core.specs.declared.part.Reason.TheVariants as reason
use Rattle.race_law.proofs.Lists.{reader_from-append}
use Rattle.race_law.proofs.Keeping.{Grows, found-stays, meets-grows, meets-cell}
use Rattle.race_law.proofs.Stepping.{seat-grows, seat-step}

pub of-script : {T : Type 0} (script : Option (Script T)) (A : Script T → Type 0) → OfScript script A → (s : Script T) × (script ≡ Some s) × A s
of-script None A o = absurd o
of-script (Some s) A o = (s, refl, o)

holding : {T : Type 0} (r : Reader T) (f : T) → Holds r f → (b : By) × (r ≡ reader.Holding f b)
holding (reader.Holding g b) f h = (b, ap (λ x. reader.Holding x b) h)
holding r f h = absurd h

found-persists : {T : Type 0} (es : EventsOf T) (e : LaneEvent T) (f : T) (b : By) → RightReader (reader_of (with_event e es)) → reader_of es ≡ reader.Found f b true → reader_of (with_event e es) ≡ reader.Found f b true
found-persists es (event.Read n p) f b right h = absurd (found-stays (event.Read n p) f b true (subst (λ r. RightReader (reader_after (event.Read n p) r)) h (subst (λ r. RightReader r) (reader_from-append reader.Fresh es.reader (event.Read n p)) right)))
found-persists es (event.File n p) f b right h = absurd (found-stays (event.File n p) f b true (subst (λ r. RightReader (reader_after (event.File n p) r)) h (subst (λ r. RightReader r) (reader_from-append reader.Fresh es.reader (event.File n p)) right)))
found-persists es (event.Settle won) f b right h = absurd (found-stays (event.Settle won) f b true (subst (λ r. RightReader (reader_after (event.Settle won) r)) h (subst (λ r. RightReader r) (reader_from-append reader.Fresh es.reader (event.Settle won)) right)))
found-persists {T} es event.ReaderMemory f b right h = absurd (found-stays {T = T} event.ReaderMemory f b true (subst (λ (r : Reader T). RightReader (reader_after event.ReaderMemory r)) h (subst (λ r. RightReader r) (reader_from-append reader.Fresh es.reader event.ReaderMemory) right)))
found-persists es e f b right h = h

reason-known : {T : Type 0} (needless : T → Bool) (cells : ℕ → Option T) (Q : Type 0) (why : Reason T) → ReasonOk needless cells Q why → ((f : T) × (needless f ≡ true) × ((c : ℕ) × (cells c ≡ Some f))) ⊎ Q
reason-known needless cells Q (reason.Skip f) o = inl (f, o.0, o.1)
reason-known needless cells Q (reason.Needless f) o = inl (f, o.0, o.1)
reason-known needless cells Q (reason.Limit t) o = inr o
reason-known needless cells Q reason.Fault o = inr o
reason-known needless cells Q reason.Memory o = inr o

pub killed-known : {T : Type 0} (needless : T → Bool) (cells : ℕ → Option T) (Q : Type 0) (k : Keeper T) → KeeperOk needless cells Q k → IsKilled k → ((f : T) × (needless f ≡ true) × ((c : ℕ) × (cells c ≡ Some f))) ⊎ Q
killed-known needless cells Q (keeper.Killed why) o killed = reason-known needless cells Q why o
killed-known needless cells Q k o killed = absurd killed

module _ {T : Type 0} (IsFor : ℕ → T → Type 0) (Fatal : ℕ → T → Type 0) (Q : Type 0) (race : Race T) (good : IsRace IsFor Fatal race) where
  -- where Plain has a job whose finding decides another, it has that other
  pub fatal-on : (c j : ℕ) (g : T) → PlainHas IsFor Fatal race c → IsFor c g → Fatal j g → PlainHas IsFor Fatal race j
  fatal-on c j g has for fatal =
      elim has [
        | inl h ↦ inr (h.0, c, h.1, h.2, h.3, h.4, h.5, good.alike j c h.2 g h.5 for fatal)
        | inr h ↦ inr (h.0, h.1, h.2, h.3, h.4, h.5, h.6, good.onward j c h.3 g for h.7 fatal)
      ]

  -- what is known to make a job needless, Plain has
  pub known-has : (w : World T) → Inv IsFor Fatal Q race w → (j : ℕ) (g : T) (c : ℕ) → (ends_job (race.terms j)) g ≡ true → w.cells c ≡ Some g
      → ((c ≡ j) × IsFor j g) ⊎ PlainHas IsFor Fatal race j ⊎ Q
  known-has w inv j g c n at =
      let there = inv.cell c g at in
      elim (good.needless j c g n there.0) [
        | inl for ↦ inl (good.one_job c j g there.0 for, for)
        | inr fatal ↦ elim there.2 [ inl has ↦ inr (inl (fatal-on c j g has there.0 fatal)) | inr q ↦ inr (inr q) ]
      ]

  -- what a reader that found something found is for its job, and Plain has something for that job
  pub found-has : (w : World T) → Inv IsFor Fatal Q race w → (i j : ℕ) (f : T) → OfScript (race.script i j) (λ s. IsFor j f × ((plain s ≡ progress.Found f) ⊎ IsKilled (keeper_of (race.terms j) (w.events i j))))
      → (IsFor j f × (PlainHas IsFor Fatal race j ⊎ Q)) ⊎ (IsFor j f × ((g : T) × (w.cells j ≡ Some g)))
  found-has w inv i j f o =
      let there = of-script (race.script i j) _ o in
      elim there.2.1 [
        | inl p ↦ inl (there.2.0, inl (inl (i, there.0, f, there.1, p, there.2.0)))
        | inr killed ↦ elim (killed-known (ends_job (race.terms j)) w.cells Q (keeper_of (race.terms j) (w.events i j)) (inv.seat i j).keeper killed) [
          | inl known ↦ elim (known-has w inv j known.0 known.2.0 known.1 known.2.1) [
            | inl own ↦ inr (there.2.0, (known.0, ap (λ (c : ℕ). w.cells c) (sym own.0) ∙ known.2.1))
            | inr has ↦ inl (there.2.0, has)
          ]
          | inr q ↦ inl (there.2.0, inr q)
        ]
      ]

  new-cell : (w : World T) → Inv IsFor Fatal Q race w → (i j : ℕ) (f : T) → w.cells j ≡ None → Holds (reader_of (w.events i j)) f → IsFor j f × (PlainHas IsFor Fatal race j ⊎ Q)
  new-cell w inv i j f empty holds =
      let h = holding (reader_of (w.events i j)) f holds in
      let from = subst (λ r. FromScript (IsFor j) (race.script i j) (read_bytes (w.events i j).reader) (IsKilled (keeper_of (race.terms j) (w.events i j))) r) h.1 (inv.seat i j).from in
      elim (found-has w inv i j f from) [
        | inl o ↦ o
        | inr full ↦ absurd (none-some full.1.0 (sym empty ∙ full.1.1))
      ]
    where
      none-some : (g : T) → None ≡ Some g → ⊥
      none-some g e = cc

  settled-now : (es : EventsOf T) (e : LaneEvent T) (f : T) → e ≡ event.Settle true → Holds (reader_of es) f → (b : By) × (reader_of (with_event e es) ≡ reader.Found f b true)
  settled-now es e f is holds =
      let h = holding (reader_of es) f holds in
      (h.0, ap (λ (x : LaneEvent T). reader_of (with_event x es)) is ∙ reader_from-append reader.Fresh es.reader (event.Settle true) ∙ ap (λ r. after_settle true r) h.1)

  pub world-step : (w v : World T) (s : Step T) → Inv IsFor Fatal Q race w → Steps race w s v → IsQuiet (race.terms s.job) s.event ⊎ Q → Inv IsFor Fatal Q race v
  world-step w v s inv step quiet = record {
    seat = λ i j. elim (cases_eq i s.lane) [
      | inl lane ↦ elim (cases_eq j s.job) [
        | inl job ↦ moved i j lane job
        | inr other ↦ kept i j (λ a b. other b)
      ]
      | inr other ↦ kept i j (λ a b. other a)
    ];
    cell = λ c f set. elim (meets-cell (race.script s.lane s.job) s.job (w.events s.lane s.job) k s.event w.cells v.cells step.meets c f set) [
      | inl before ↦ let there = inv.cell c f before in (there.0, (there.1.0, there.1.1, persists there.1.0 c f there.1.1 there.1.2), there.2)
      | inr new ↦
          let has = new-cell w inv s.lane s.job f new.2 new.3 in
          let now = settled-now (w.events s.lane s.job) s.event f new.0 new.3 in
          let at : reader_of (v.events s.lane s.job) ≡ reader.Found f now.0 true = ap (λ x. reader_of x) step.here ∙ now.1 in
          subst (λ (j : ℕ). IsFor j f × ((i : ℕ) × (b : By) × (reader_of (v.events i j) ≡ reader.Found f b true)) × (PlainHas IsFor Fatal race j ⊎ Q)) (sym new.1)
          (has.0, (s.lane, now.0, at), has.1)
    ];
  }
    where
      k : Keeper T
      k = keeper_of (race.terms s.job) (w.events s.lane s.job)

      grows : Grows w.cells v.cells
      grows = meets-grows (race.script s.lane s.job) s.job (w.events s.lane s.job) k s.event w.cells v.cells step.meets

      kept : (i j : ℕ) → (i ≡ s.lane → j ≡ s.job → ⊥) → SeatInv (IsFor j) Q (race.script i j) (race.terms j) j (v.events i j) v.cells
      kept i j other = subst (λ es. SeatInv (IsFor j) Q (race.script i j) (race.terms j) j es v.cells) (sym (step.elsewhere i j other))
          (seat-grows (IsFor j) Q (race.script i j) (race.terms j) j (good.scripts i j) (w.events i j) w.cells v.cells grows (inv.seat i j))

      here : SeatInv (IsFor s.job) Q (race.script s.lane s.job) (race.terms s.job) s.job (v.events s.lane s.job) v.cells
      here = subst (λ es. SeatInv (IsFor s.job) Q (race.script s.lane s.job) (race.terms s.job) s.job es v.cells) (sym step.here)
          (seat-step (IsFor s.job) Q (race.script s.lane s.job) (race.terms s.job) s.job (good.scripts s.lane s.job) (w.events s.lane s.job) s.event w.cells v.cells (inv.seat s.lane s.job)
          step.meets quiet (subst (λ es. RightReader (reader_of es)) step.here step.right_reader) (subst (λ es. RightKeeper (keeper_of (race.terms s.job) es)) step.here step.right_keeper))

      moved : (i j : ℕ) → i ≡ s.lane → j ≡ s.job → SeatInv (IsFor j) Q (race.script i j) (race.terms j) j (v.events i j) v.cells
      moved i j lane job = subst (λ (x : ℕ). SeatInv (IsFor j) Q (race.script x j) (race.terms j) j (v.events x j) v.cells) (sym lane)
          (subst (λ (y : ℕ). SeatInv (IsFor y) Q (race.script s.lane y) (race.terms y) y (v.events s.lane y) v.cells) (sym job) here)

      persists : (i c : ℕ) (f : T) (b : By) → reader_of (w.events i c) ≡ reader.Found f b true → reader_of (v.events i c) ≡ reader.Found f b true
      persists i c f b h = elim (cases_eq i s.lane) [
        | inl lane ↦ elim (cases_eq c s.job) [
          | inl job ↦
              let was : reader_of (w.events s.lane s.job) ≡ reader.Found f b true = ap (λ (x : ℕ). reader_of (w.events x s.job)) (sym lane) ∙ ap (λ (y : ℕ). reader_of (w.events i y)) (sym job) ∙ h in
              let now : reader_of (v.events s.lane s.job) ≡ reader.Found f b true =
              ap (λ x. reader_of x) step.here ∙ found-persists (w.events s.lane s.job) s.event f b (subst (λ es. RightReader (reader_of es)) step.here step.right_reader) was in
              ap (λ (x : ℕ). reader_of (v.events x c)) lane ∙ ap (λ (y : ℕ). reader_of (v.events s.lane y)) job ∙ now
          | inr other ↦ ap (λ x. reader_of x) (step.elsewhere i c (λ a b. other b)) ∙ h
        ]
        | inr other ↦ ap (λ x. reader_of x) (step.elsewhere i c (λ a b. other a)) ∙ h
      ]

  new-inv : (w : World T) → IsNew w → Inv IsFor Fatal Q race w
  new-inv w new = record {
    seat = λ i j. subst (λ es. SeatInv (IsFor j) Q (race.script i j) (race.terms j) j es w.cells) (sym (new.events i j)) (record { from = refl; keeper = tt; looks = tt; won = tt; right_reader = tt; right_keeper = tt });
    cell = λ c f set. absurd (none-some f (sym (new.cells c) ∙ set));
  }
    where
      none-some : (g : T) → None ≡ Some g → ⊥
      none-some g e = cc

  run-inv : (w v : World T) (ss : List (Step T)) → Inv IsFor Fatal Q race w → WorldRun race w ss v → QuietRun race ss ⊎ Q → Inv IsFor Fatal Q race v
  run-inv w v [] inv run quiet = subst (λ x. Inv IsFor Fatal Q race x) run inv
  run-inv w v (s ∷ ss) inv run quiet =
      run-inv run.0 v ss (world-step w run.0 s inv run.1 (elim quiet [ inl q ↦ inl q.0 | inr q ↦ inr q ])) run.2 (elim quiet [ inl q ↦ inl q.1 | inr q ↦ inr q ])

  -- from a new world on, by any list of steps
  pub runs-keep : (w v : World T) (ss : List (Step T)) → IsNew w → WorldRun race w ss v → QuietRun race ss ⊎ Q → Inv IsFor Fatal Q race v
  runs-keep w v ss new run quiet = run-inv w v ss (new-inv w new) run quiet
