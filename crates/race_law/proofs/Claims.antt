-- A quiet run that ends calmly settles what Plain settles, and its other ends are Plain's.
use Rattle.race_core.specs.Carrying.{KnewBy, Carries}
use Rattle.std.proofs.Common.{◌≡◌, ◌⊎◌, ℕ, ◌<◌, true, Option, Some, None, refl, sym, ap, ◌∙◌, subst, inl, inr}
use Rattle.race_core.specs.Parts.{reader_of, keeper_of}
use Rattle.race_core.specs.Ends.{IsKilled, HasReason, HasEnd, EndIs, IsLast}
use Rattle.race_law.specs.World.{Script, Race, World, IsRace, ends_job, read_bytes, plain}
use Rattle.race_law.specs.Invariant.{FromScript, PlainHas, Inv}
use Rattle.race_law.specs.Ended.{EndOf, AllEnded, IsCalm, IsSettled, RaceHas, end_of, plain_end}
use Rattle.race_core.specs.declared.event.Judged.{Judged}
use Rattle.race_core.specs.declared.event.Judged.TheVariants as progress
use Rattle.race_core.specs.declared.end.JobEnd.{JobEnd}
use Rattle.race_core.specs.declared.end.JobEnd.TheVariants as end
use Rattle.race_core.specs.declared.part.Reason.TheVariants as reason
use Rattle.race_law.proofs.Keeping.{skipped-ends}
use Rattle.race_law.proofs.Running.{of-script, killed-known, fatal-on, found-has}
use Rattle.race_law.proofs.Ending.{end-found, end-unknown, end-bad, found-end, looked-cell, skip-known, needless-known}

some-same : {T : Type 0} (g h : T) → Some g ≡ Some h → g ≡ h
some-same g h e = cc

last-calm : {T : Type 0} (e : JobEnd T) → IsLast e → IsCalm e → ⊥
last-calm (end.Stopped t) last calm = calm
last-calm end.Memory last calm = calm
last-calm e last calm = last

found-unknown : {T : Type 0} (p : Judged T) (f : T) → p ≡ progress.Found f → p ≡ progress.Unknown → ⊥
found-unknown p f d e = cc

found-bad : {T : Type 0} (p : Judged T) (f : T) (n a : ℕ) → p ≡ progress.Found f → p ≡ progress.Bad n a → ⊥
found-bad p f n a d e = cc

module _ {T : Type 0} (IsFor : ℕ → T → Type 0) (Fatal : ℕ → T → Type 0) (race : Race T) (good : IsRace IsFor Fatal race)
    (w : World T) (inv : Inv IsFor Fatal ⊥ race w) (ends : ℕ → ℕ → JobEnd T) (ended : AllEnded race w ends)
    (calm : (i j : ℕ) → i < race.lanes → j < race.jobs → IsCalm (ends i j)) where
  ends-of : (i j : ℕ) → i < race.lanes → j < race.jobs → EndOf (race.script i j) (race.terms j) (KnewBy (w.events i) j) (w.events i j) (ends i j)
  ends-of i j il jl = elim (ended i j il jl) [
    | inl e ↦ e.1
    | inr l ↦ absurd (last-calm (ends i l.0) l.2 (subst (λ e. IsCalm e) l.3 (calm i j il jl)))
  ]

  has-of : (j : ℕ) → PlainHas IsFor Fatal race j ⊎ ⊥ → PlainHas IsFor Fatal race j
  has-of j h = elim h [ inl x ↦ x | inr n ↦ absurd n ]

  -- what stands in a cell, Plain has
  cell-has : (c : ℕ) (f : T) → w.cells c ≡ Some f → IsFor c f × PlainHas IsFor Fatal race c
  cell-has c f e = let there = inv.cell c f e in (there.0, has-of c there.2)

  own-has : (i j : ℕ) (f : T) → HasEnd (reader_of (w.events i j)) (end.Found f) → IsFor j f × PlainHas IsFor Fatal race j
  own-has i j f h =
      elim (found-has IsFor Fatal ⊥ race good w inv i j f (end-found (IsFor j) (race.script i j) (read_bytes (w.events i j).reader) (IsKilled (keeper_of (race.terms j) (w.events i j))) (reader_of (w.events i j)) f (inv.seat i j).from h)) [
        | inl o ↦ (o.0, has-of j o.1)
        | inr o ↦ (o.0, (cell-has j o.1.0 o.1.1).1)
      ]

  knew-has : (i j : ℕ) (f : T) → KnewBy (w.events i) j f → (c : ℕ) × IsFor c f × PlainHas IsFor Fatal race c
  knew-has i j f h = elim h.2 [
    | inl own ↦ let o = own-has i h.0 f own in (h.0, o.0, o.1)
    | inr look ↦ let o = cell-has look.0 f (looked-cell w.cells (w.events i h.0).keeper look.0 f (inv.seat i h.0).looks look.1) in (look.0, o.0, o.1)
  ]

  -- the findings of an end, by its variants
  skipped-has : (i j : ℕ) (f : T) → EndIs (race.terms j) (KnewBy (w.events i) j) (reader_of (w.events i j)) (keeper_of (race.terms j) (w.events i j)) (end.Skipped f)
      → ((ends_job (race.terms j)) f ≡ true) × ((c : ℕ) × IsFor c f × PlainHas IsFor Fatal race c)
  skipped-has i j f h = elim h.1 [
    | inl r ↦ let k = skip-known (ends_job (race.terms j)) w.cells ⊥ (keeper_of (race.terms j) (w.events i j)) f (inv.seat i j).keeper r in (k.0, (k.1.0, (cell-has k.1.0 f k.1.1).0, (cell-has k.1.0 f k.1.1).1))
    | inr n ↦ (skipped-ends (race.terms j) f n.2, knew-has i j f n.1)
  ]

  called-has : (i j : ℕ) (f : T) → HasReason (keeper_of (race.terms j) (w.events i j)) (reason.Needless f)
      → ((ends_job (race.terms j)) f ≡ true) × ((c : ℕ) × IsFor c f × PlainHas IsFor Fatal race c)
  called-has i j f h = let k = needless-known (ends_job (race.terms j)) w.cells ⊥ (keeper_of (race.terms j) (w.events i j)) f (inv.seat i j).keeper h in (k.0, (k.1.0, (cell-has k.1.0 f k.1.1).0, (cell-has k.1.0 f k.1.1).1))

  end-has : (i j : ℕ) (f : T) (script : Option (Script T)) (e : JobEnd T) → EndOf script (race.terms j) (KnewBy (w.events i) j) (w.events i j) e → Carries e f → (c : ℕ) × IsFor c f × PlainHas IsFor Fatal race c
  end-has i j f (Some s) (end.Found g) h same = let o = own-has i j g h in subst (λ x. (c : ℕ) × IsFor c x × PlainHas IsFor Fatal race c) same (j, o.0, o.1)
  end-has i j f (Some s) (end.Skipped g) h same = subst (λ x. (c : ℕ) × IsFor c x × PlainHas IsFor Fatal race c) same (skipped-has i j g h).1
  end-has i j f (Some s) (end.CalledOff g) h same = subst (λ x. (c : ℕ) × IsFor c x × PlainHas IsFor Fatal race c) same (called-has i j g h.1).1
  end-has i j f None (end.Skipped g) h same = subst (λ x. (c : ℕ) × IsFor c x × PlainHas IsFor Fatal race c) same (skipped-has i j g h).1
  end-has i j f None (end.Found g) h same = absurd h
  end-has i j f None (end.CalledOff g) h same = absurd h
  end-has i j f script e h same = absurd same

  -- every finding carried is for one job, which Plain has
  pub carried-has : (i j : ℕ) (f : T) → i < race.lanes → j < race.jobs → Carries (ends i j) f → (c : ℕ) × IsFor c f × PlainHas IsFor Fatal race c
  carried-has i j f il jl c = end-has i j f (race.script i j) (ends i j) (ends-of i j il jl) c

  pub race-plain : (k : ℕ) → RaceHas IsFor Fatal race ends k → PlainHas IsFor Fatal race k
  race-plain k h = elim h [
    | inl x ↦ let o = carried-has x.0 x.1 x.2 x.3 x.4 x.5 in subst (λ (c : ℕ). PlainHas IsFor Fatal race c) (good.one_job o.0 k x.2 o.1 x.6) o.2
    | inr x ↦ let o = carried-has x.0 x.1 x.3 x.4 x.5 x.6 in
        fatal-on IsFor Fatal ⊥ race good o.0 k x.3 o.2 o.1 x.8
  ]

  -- who won a cell carries its finding
  cell-settled : (c : ℕ) (f : T) → w.cells c ≡ Some f → IsFor c f × IsSettled IsFor race ends c
  cell-settled c f e =
      let there = inv.cell c f e in
      let i = there.1.0 in
      let from = subst (λ r. FromScript (IsFor c) (race.script i c) (read_bytes (w.events i c).reader) (IsKilled (keeper_of (race.terms c) (w.events i c))) r) there.1.2 (inv.seat i c).from in
      let s = of-script (race.script i c) _ from in
      let range = good.within i c s.0 s.1 in
      let is : EndIs (race.terms c) (KnewBy (w.events i) c) (reader_of (w.events i c)) (keeper_of (race.terms c) (w.events i c)) (ends i c)
      = subst (λ x. EndOf x (race.terms c) (KnewBy (w.events i) c) (w.events i c) (ends i c)) s.1 (ends-of i c range.0 range.1) in
      let found = found-end (race.terms c) (KnewBy (w.events i) c) f there.1.1 true (keeper_of (race.terms c) (w.events i c)) (ends i c)
      (subst (λ r. EndIs (race.terms c) (KnewBy (w.events i) c) r (keeper_of (race.terms c) (w.events i c)) (ends i c)) there.1.2 is) in
      (there.0, (i, c, f, range.0, range.1, subst (λ x. Carries x f) (sym found) refl, there.0))

  -- a finding that makes the job needless, and is carried
  needless-race : (j c : ℕ) (f : T) → (ends_job (race.terms j)) f ≡ true → IsFor c f → (a b : ℕ) → a < race.lanes → b < race.jobs → Carries (ends a b) f → RaceHas IsFor Fatal race ends j
  needless-race j c f n for a b al bl carried = elim (good.needless j c f n for) [
    | inl own ↦ inl (a, b, f, al, bl, carried, own)
    | inr fatal ↦ inr (a, b, c, f, al, bl, carried, for, fatal)
  ]

  -- after a kill the job, or one that decides the task without it, is settled
  killed-race : (i j : ℕ) → IsKilled (keeper_of (race.terms j) (w.events i j)) → RaceHas IsFor Fatal race ends j
  killed-race i j killed = elim (killed-known (ends_job (race.terms j)) w.cells ⊥ (keeper_of (race.terms j) (w.events i j)) (inv.seat i j).keeper killed) [
    | inl k ↦
        let s = cell-settled k.2.0 k.0 k.2.1 in
        elim (good.needless j k.2.0 k.0 k.1 s.0) [
          | inl own ↦ subst (λ (x : ℕ). RaceHas IsFor Fatal race ends x) (good.one_job k.2.0 j k.0 s.0 own) (inl s.1)
          | inr fatal ↦ inr (s.1.0, s.1.1, k.2.0, s.1.2, s.1.3, s.1.4, s.1.5, s.1.6, good.alike j k.2.0 s.1.2 k.0 s.1.6 s.0 fatal)
        ]
    | inr n ↦ absurd n
  ]

  -- the end of a job is Plain's, or the job, or one that decides the task without it, is settled
  end-plain : (i j : ℕ) → i < race.lanes → j < race.jobs → (script : Option (Script T)) (e : JobEnd T) → script ≡ race.script i j → e ≡ ends i j
      → EndOf script (race.terms j) (KnewBy (w.events i) j) (w.events i j) e → IsCalm e → (e ≡ plain_end script) ⊎ RaceHas IsFor Fatal race ends j
  end-plain i j il jl (Some s) (end.Found g) same e h calm = inr (inl (i, j, g, il, jl, subst (λ x. Carries x g) e refl, (own-has i j g h).0))
  end-plain i j il jl (Some s) end.Unknown same e h calm =
      elim (end-unknown (IsFor j) (Some s) (read_bytes (w.events i j).reader) (IsKilled (keeper_of (race.terms j) (w.events i j))) (reader_of (w.events i j))
      (subst (λ x. FromScript (IsFor j) x (read_bytes (w.events i j).reader) (IsKilled (keeper_of (race.terms j) (w.events i j))) (reader_of (w.events i j))) (sym same) (inv.seat i j).from) h.0) [
        | inl p ↦ inl (ap (λ x. end_of x) (sym p))
        | inr k ↦ absurd (h.1 k.1 k.0)
      ]
  end-plain i j il jl (Some s) (end.Bad number at) same e h calm =
      elim (end-bad (IsFor j) (Some s) (read_bytes (w.events i j).reader) (IsKilled (keeper_of (race.terms j) (w.events i j))) (reader_of (w.events i j)) number at
      (subst (λ x. FromScript (IsFor j) x (read_bytes (w.events i j).reader) (IsKilled (keeper_of (race.terms j) (w.events i j))) (reader_of (w.events i j))) (sym same) (inv.seat i j).from) h.0) [
        | inl p ↦ inl (ap (λ x. end_of x) (sym p))
        | inr k ↦ inr (killed-race i j k)
      ]
  end-plain i j il jl (Some s) (end.CalledOff g) same e h calm =
      let o = called-has i j g h.1 in inr (needless-race j o.1.0 g o.0 o.1.1 i j il jl (subst (λ x. Carries x g) e refl))
  end-plain i j il jl (Some s) (end.Skipped g) same e h calm =
      let o = skipped-has i j g h in inr (needless-race j o.1.0 g o.0 o.1.1 i j il jl (subst (λ x. Carries x g) e refl))
  end-plain i j il jl (Some s) end.NotServed same e h calm = absurd h
  end-plain i j il jl None (end.Skipped g) same e h calm =
      let o = skipped-has i j g h in inr (needless-race j o.1.0 g o.0 o.1.1 i j il jl (subst (λ x. Carries x g) e refl))
  end-plain i j il jl None end.NotServed same e h calm = inl refl
  end-plain i j il jl None (end.Found g) same e h calm = absurd h
  end-plain i j il jl None end.Unknown same e h calm = absurd h
  end-plain i j il jl None (end.Bad number at) same e h calm = absurd h
  end-plain i j il jl None (end.CalledOff g) same e h calm = absurd h
  end-plain i j il jl script e same is h calm = absurd calm

  -- each end is Plain's, or the race has that job
  pub ends-plain : (i j : ℕ) → i < race.lanes → j < race.jobs → (ends i j ≡ plain_end (race.script i j)) ⊎ RaceHas IsFor Fatal race ends j
  ends-plain i j il jl = end-plain i j il jl (race.script i j) (ends i j) refl refl (ends-of i j il jl) (calm i j il jl)

  plain-own : (i j : ℕ) (s : Script T) (f : T) → race.script i j ≡ Some s → plain s ≡ progress.Found f → IsFor j f → RaceHas IsFor Fatal race ends j
  plain-own i j s f at p for =
      let range = good.within i j s at in
      elim (ends-plain i j range.0 range.1) [
        | inl same ↦
            let is : ends i j ≡ end.Found f = same ∙ ap (λ x. plain_end x) at ∙ ap (λ x. end_of x) p in
            inl (i, j, f, range.0, range.1, subst (λ x. Carries x f) (sym is) refl, for)
        | inr has ↦ has
      ]

  pub plain-race : (k : ℕ) → PlainHas IsFor Fatal race k → RaceHas IsFor Fatal race ends k
  plain-race k h = elim h [
    | inl x ↦ plain-own x.0 k x.1 x.2 x.3 x.4 x.5
    | inr x ↦ elim (plain-own x.0 x.1 x.2 x.3 x.4 x.5 x.6) [
      | inl own ↦ inr (own.0, own.1, x.1, own.2, own.3, own.4, own.5, own.6, good.alike k x.1 own.2 x.3 own.6 x.6 x.7)
      | inr far ↦ inr (far.0, far.1, far.2, far.3, far.4, far.5, far.6, far.7, good.onward k x.1 far.3 x.3 x.6 far.8 x.7)
    ]
  ]
