-- The race's theorem.
use Rattle.race_core.specs.Carrying.{KnewBy, Carries}
use Rattle.std.proofs.Common.{◌≡◌, ℕ, ◌<◌, Option, Some, None, refl, sym, ◌∙◌, subst, inl, inr}
use Rattle.race_core.specs.Parts.{reader_of, keeper_of}
use Rattle.race_core.specs.Ends.{HasEnd, EndIs, IsLast}
use Rattle.race_law.specs.World.{Script, Race, World, ends_job, read_bytes}
use Rattle.race_law.specs.Invariant.{Inv, WonOk}
use Rattle.race_law.specs.Ended.{EndOf, AllEnded}
use Rattle.race_law.specs.Theorem.{Knows, Agree, WasFound}
use Rattle.race_core.specs.declared.end.JobEnd.{JobEnd}
use Rattle.race_core.specs.declared.end.JobEnd.TheVariants as end
use Rattle.race_law.proofs.Running.{of-script}
use Rattle.race_law.proofs.Ending.{end-found, looked-cell, skip-known, needless-known}

-- any run: what is known of one cell is equal, and what is carried was found
module _ {T : Type 0} (For : ℕ → T → Type 0) (Fatal : ℕ → T → Type 0) (race : Race T) (w : World T) (inv : Inv For Fatal (Unit {0}) race w) where
  knows-cell : (i c : ℕ) (f : T) → Knows w i c f → w.cells c ≡ Some f
  knows-cell i c f h = elim h [
    | inl x ↦ subst (λ r. WonOk w.cells c r) x.1 (inv.seat i c).won
    | inr x ↦ looked-cell w.cells (w.events i x.0).keeper c f (inv.seat i x.0).looks x.1
  ]

  some-same : (f g : T) → Some f ≡ Some g → f ≡ g
  some-same f g e = cc

  pub all-agree : Agree w
  all-agree i k c f g a b = some-same f g (sym (knows-cell i c f a) ∙ knows-cell k c g b)

  own-found : (i j : ℕ) (f : T) → HasEnd (reader_of (w.events i j)) (end.Found f) → WasFound For w f
  own-found i j f h =
      let o = of-script (race.script i j) _ (end-found (For j) (race.script i j) (read_bytes (w.events i j).reader) _ (reader_of (w.events i j)) f (inv.seat i j).from h) in
      (i, j, o.2.0, h)

  cell-found : (c : ℕ) (f : T) → w.cells c ≡ Some f → WasFound For w f
  cell-found c f e = let there = inv.cell c f e in (there.1.0, c, there.0, subst (λ r. HasEnd r (end.Found f)) (sym there.1.2) refl)

  skipped-found : (i j : ℕ) (f : T) → EndIs (race.terms j) (KnewBy (w.events i) j) (reader_of (w.events i j)) (keeper_of (race.terms j) (w.events i j)) (end.Skipped f) → WasFound For w f
  skipped-found i j f h = elim h.1 [
    | inl r ↦ let k = skip-known (ends_job (race.terms j)) w.cells (Unit {0}) (keeper_of (race.terms j) (w.events i j)) f (inv.seat i j).keeper r in cell-found k.1.0 f k.1.1
    | inr n ↦ elim n.1.2 [
      | inl own ↦ own-found i n.1.0 f own
      | inr look ↦ cell-found look.0 f (looked-cell w.cells (w.events i n.1.0).keeper look.0 f (inv.seat i n.1.0).looks look.1)
    ]
  ]

  end-was : (i j : ℕ) (f : T) (script : Option (Script T)) (e : JobEnd T) → EndOf script (race.terms j) (KnewBy (w.events i) j) (w.events i j) e → Carries e f → WasFound For w f
  end-was i j f (Some s) (end.Found g) h same = subst (λ x. WasFound For w x) same (own-found i j g h)
  end-was i j f (Some s) (end.Skipped g) h same = subst (λ x. WasFound For w x) same (skipped-found i j g h)
  end-was i j f (Some s) (end.CalledOff g) h same =
      let k = needless-known (ends_job (race.terms j)) w.cells (Unit {0}) (keeper_of (race.terms j) (w.events i j)) g (inv.seat i j).keeper h.1 in
      subst (λ x. WasFound For w x) same (cell-found k.1.0 g k.1.1)
  end-was i j f None (end.Skipped g) h same = subst (λ x. WasFound For w x) same (skipped-found i j g h)
  end-was i j f None (end.Found g) h same = absurd h
  end-was i j f None (end.CalledOff g) h same = absurd h
  end-was i j f script e h same = absurd same

  last-none : (e : JobEnd T) (f : T) → IsLast e → Carries e f → ⊥
  last-none (end.Stopped t) f l c = c
  last-none end.Memory f l c = c
  last-none e f l c = absurd l

  pub all-found : (ends : ℕ → ℕ → JobEnd T) → AllEnded race w ends → (i j : ℕ) (f : T) → i < race.lanes → j < race.jobs → Carries (ends i j) f → WasFound For w f
  all-found ends ended i j f il jl c = elim (ended i j il jl) [
    | inl e ↦ end-was i j f (race.script i j) (ends i j) e.1 c
    | inr l ↦ absurd (last-none (ends i l.0) f l.2 (subst (λ e. Carries e f) l.3 c))
  ]
