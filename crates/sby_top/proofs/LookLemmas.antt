-- What a lane passes on it found for another of its jobs, or one of its looks showed it.
use Rattle.std.proofs.Common.{◌≡◌, ℕ, ◌<◌, ap, sym, ◌∙◌, subst, inl, inr, ◌⊎◌, arith}
use Rattle.race_core.specs.Carrying.{Carries, KnewBy, Looked}
use Rattle.race_core.specs.Consistent.{Replays, end_at, events_at}
use Rattle.race_core.specs.Ends.{EndIs, HasEnd, IsLast, IsUnread, Leaves, UnservedEndIs}
use Rattle.race_core.specs.Parts.{Terms, keeper_of, reader_of}
use Rattle.race_core.specs.Report.{EventsOf, ReportOf}
use Rattle.race_core.specs.declared.end.JobEnd.{JobEnd}
use Rattle.race_core.specs.declared.end.JobEnd.TheVariants as end
use Rattle.race_core.specs.declared.part.Reader.{Reader}
use Rattle.race_core.specs.declared.part.Reader.TheVariants as reader
use Rattle.race_core.specs.declared.part.Keeper.{Keeper}
use Rattle.lane_run.proofs.Reasons.{called_by_look, skipped_by_look}

-- a look of the lane, at some job of its, showed this finding
abbrev Shown : {T : Type 0} → ReportOf T → T → Type 0
Shown r f = (l : ℕ) × (c : ℕ) × Looked c f (events_at r l).keeper

-- a reader with a finding leaves its job's end to nothing else
no_leave : {T : Type 0} (r : Reader T) (k : Keeper T) (f : T) → HasEnd r (end.Found f) → Leaves r k → ⊥
no_leave (reader.Holding g b) k f has (inl short) = short
no_leave (reader.Holding g b) k f has (inr (inl both)) = both.0
no_leave (reader.Holding g b) k f has (inr (inr both)) = both.0
no_leave (reader.Found g b won) k f has (inl short) = short
no_leave (reader.Found g b won) k f has (inr (inl both)) = both.0
no_leave (reader.Found g b won) k f has (inr (inr both)) = both.0
no_leave (reader.Unknown b) k f has leaves = absurd cc
no_leave (reader.Bad number at b) k f has leaves = absurd cc
no_leave reader.Failed k f has leaves = absurd cc
no_leave reader.Fresh k f has leaves = has
no_leave reader.Reading k f has leaves = has
no_leave reader.Asking k f has leaves = has
no_leave reader.Unjudged k f has leaves = has
no_leave reader.Short k f has leaves = has
no_leave reader.Wrong k f has leaves = has

no_unread : {T : Type 0} (r : Reader T) (f : T) → HasEnd r (end.Found f) → IsUnread r → ⊥
no_unread reader.Fresh f has unread = has
no_unread reader.Reading f has unread = has
no_unread reader.Asking f has unread = has
no_unread reader.Unjudged f has unread = has
no_unread (reader.Holding g b) f has unread = unread
no_unread (reader.Found g b won) f has unread = unread
no_unread (reader.Unknown b) f has unread = unread
no_unread (reader.Bad number at b) f has unread = unread
no_unread reader.Failed f has unread = unread
no_unread reader.Short f has unread = unread
no_unread reader.Wrong f has unread = unread

-- a reader has one end
one_end : {T : Type 0} (r : Reader T) (d e : JobEnd T) → HasEnd r d → HasEnd r e → d ≡ e
one_end (reader.Holding g b) d e one other = absurd one
one_end (reader.Found g b won) d e one other = one ∙ sym other
one_end (reader.Unknown b) d e one other = one ∙ sym other
one_end (reader.Bad number at b) d e one other = one ∙ sym other
one_end reader.Failed d e one other = one ∙ sym other
one_end reader.Fresh d e one other = absurd one
one_end reader.Reading d e one other = absurd one
one_end reader.Asking d e one other = absurd one
one_end reader.Unjudged d e one other = absurd one
one_end reader.Short d e one other = absurd one
one_end reader.Wrong d e one other = absurd one

-- what a job's reader found is its end
found_end : {T : Type 0} (a : Terms T) (known : T → Type 0) (r : Reader T) (k : Keeper T) (f : T) (e : JobEnd T) → HasEnd r (end.Found f) → EndIs a known r k e → e ≡ end.Found f
found_end a known r k f (end.Found g) has is = one_end r (end.Found g) (end.Found f) is has
found_end a known r k f end.Unknown has is = one_end r end.Unknown (end.Found f) is.0 has
found_end a known r k f (end.Bad number at) has is = one_end r (end.Bad number at) (end.Found f) is.0 has
found_end a known r k f end.ReadFailed has is = one_end r end.ReadFailed (end.Found f) is has
found_end a known r k f (end.Stopped t) has is = absurd (no_leave r k f has is.0)
found_end a known r k f (end.CalledOff g) has is = absurd (no_leave r k f has is.0)
found_end a known r k f (end.Skipped g) has is = absurd (no_unread r f has is.0)
found_end a known r k f end.HoldFailed has is = absurd (no_leave r k f has is.0)
found_end a known r k f end.StartFailed has is = absurd (no_unread r f has is.0)
found_end a known r k f end.Memory has is = absurd (no_leave r k f has is.0)
found_end a known r k f end.NotServed has is = absurd is

unserved_end : {T : Type 0} (a : Terms T) (known : T → Type 0) (r : Reader T) (k : Keeper T) (f : T) (e : JobEnd T) → HasEnd r (end.Found f) → UnservedEndIs a known r k e → ⊥
unserved_end a known r k f end.NotServed has is = no_unread r f has is.0
unserved_end a known r k f (end.Skipped g) has is = no_unread r f has is.0
unserved_end a known r k f end.Memory has is = no_leave r k f has is.0
unserved_end a known r k f (end.Found g) has is = is
unserved_end a known r k f end.Unknown has is = is
unserved_end a known r k f (end.Bad number at) has is = is
unserved_end a known r k f end.ReadFailed has is = is
unserved_end a known r k f end.StartFailed has is = is
unserved_end a known r k f end.HoldFailed has is = is
unserved_end a known r k f (end.CalledOff g) has is = is
unserved_end a known r k f (end.Stopped t) has is = is

module _ {T : Type 0} (serves : ℕ → Type 0) (terms : ℕ → Terms T) (jobs : ℕ) (r : ReportOf T) (replays : Replays serves terms jobs r) where
  own_end : (l : ℕ) (f : T) → l < jobs → HasEnd (reader_of (events_at r l)) (end.Found f) → end_at r l ≡ end.Found f
  own_end l f lt has = elim (replays.each l lt) [
    | inl own ↦ elim own.1 [
      | inl served ↦ found_end (terms l) (KnewBy (events_at r) l) (reader_of (events_at r l)) (keeper_of (terms l) (events_at r l)) f (end_at r l) has served.1
      | inr other ↦ absurd (unserved_end (terms l) (KnewBy (events_at r) l) (reader_of (events_at r l)) (keeper_of (terms l) (events_at r l)) f (end_at r l) has other.1)
    ]
    | inr late ↦ absurd (subst (λ (es : EventsOf T). HasEnd (reader_of es) (end.Found f)) late.4 has)
  ]

  -- by what the lane knew before the job
  by_known : (j : ℕ) (f : T) → j < jobs → KnewBy (events_at r) j f → ((l : ℕ) × (l < jobs) × (end_at r l ≡ end.Found f)) ⊎ Shown r f
  by_known j f lt (l, less, inl has) = let in_jobs : l < jobs = omega (arith, less, lt) in inl (l, in_jobs, own_end l f in_jobs has)
  by_known j f lt (l, less, inr (c, seen)) = inr (l, c, seen)

  by_end : (j : ℕ) (f : T) (e : JobEnd T) → j < jobs → EndIs (terms j) (KnewBy (events_at r) j) (reader_of (events_at r j)) (keeper_of (terms j) (events_at r j)) e → Carries e f
      → (e ≡ end.Found f) ⊎ (((l : ℕ) × (l < jobs) × (end_at r l ≡ end.Found f)) ⊎ Shown r f)
  by_end j f (end.Found g) lt is same = inl (ap end.Found same)
  by_end j f (end.CalledOff g) lt is same =
      let look = called_by_look (terms j) g (events_at r j).keeper is.1 in
      inr (inr (j, look.0.0, subst (λ (x : T). Looked look.0.0 x (events_at r j).keeper) same look.0.1))
  by_end j f (end.Skipped g) lt (unread, inl reason) same =
      let look = skipped_by_look (terms j) g (events_at r j).keeper reason in
      inr (inr (j, look.0.0, subst (λ (x : T). Looked look.0.0 x (events_at r j).keeper) same look.0.1))
  by_end j f (end.Skipped g) lt (unread, inr known) same = inr (by_known j f lt (subst (KnewBy (events_at r) j) same known.1))
  by_end j f end.Unknown lt is carries = absurd carries
  by_end j f end.NotServed lt is carries = absurd carries
  by_end j f (end.Bad number at) lt is carries = absurd carries
  by_end j f end.ReadFailed lt is carries = absurd carries
  by_end j f end.StartFailed lt is carries = absurd carries
  by_end j f end.HoldFailed lt is carries = absurd carries
  by_end j f (end.Stopped t) lt is carries = absurd carries
  by_end j f end.Memory lt is carries = absurd carries

  by_unserved : (j : ℕ) (f : T) (e : JobEnd T) → j < jobs → UnservedEndIs (terms j) (KnewBy (events_at r) j) (reader_of (events_at r j)) (keeper_of (terms j) (events_at r j)) e → Carries e f
      → (e ≡ end.Found f) ⊎ (((l : ℕ) × (l < jobs) × (end_at r l ≡ end.Found f)) ⊎ Shown r f)
  by_unserved j f (end.Skipped g) lt is same = by_end j f (end.Skipped g) lt is same
  by_unserved j f (end.Found g) lt is same = absurd is
  by_unserved j f (end.CalledOff g) lt is same = absurd is
  by_unserved j f end.Unknown lt is carries = absurd carries
  by_unserved j f end.NotServed lt is carries = absurd carries
  by_unserved j f (end.Bad number at) lt is carries = absurd carries
  by_unserved j f end.ReadFailed lt is carries = absurd carries
  by_unserved j f end.StartFailed lt is carries = absurd carries
  by_unserved j f end.HoldFailed lt is carries = absurd carries
  by_unserved j f (end.Stopped t) lt is carries = absurd carries
  by_unserved j f end.Memory lt is carries = absurd carries

  last_carries : (e : JobEnd T) (f : T) → IsLast e → Carries e f → ⊥
  last_carries (end.Stopped t) f last carries = carries
  last_carries end.Memory f last carries = carries
  last_carries (end.Found g) f last carries = last
  last_carries end.Unknown f last carries = last
  last_carries end.NotServed f last carries = last
  last_carries (end.Bad number at) f last carries = last
  last_carries end.ReadFailed f last carries = last
  last_carries end.StartFailed f last carries = last
  last_carries end.HoldFailed f last carries = last
  last_carries (end.Skipped g) f last carries = last
  last_carries (end.CalledOff g) f last carries = last

  -- a finding that an end carries is the end of one of the lane's jobs, or a look showed it
  pub found_or_shown : (j : ℕ) (f : T) → j < jobs → Carries (end_at r j) f → ((l : ℕ) × (l < jobs) × (end_at r l ≡ end.Found f)) ⊎ Shown r f
  found_or_shown j f lt carries = elim (replays.each j lt) [
    | inl own ↦ elim own.1 [
      | inl served ↦ settle (by_end j f (end_at r j) lt served.1 carries)
      | inr other ↦ settle (by_unserved j f (end_at r j) lt other.1 carries)
    ]
    | inr late ↦ absurd (last_carries (end_at r late.0) f late.2 (subst (λ (e : JobEnd T). Carries e f) late.3 carries))
  ]
    where
      settle : (end_at r j ≡ end.Found f) ⊎ (((l : ℕ) × (l < jobs) × (end_at r l ≡ end.Found f)) ⊎ Shown r f) → ((l : ℕ) × (l < jobs) × (end_at r l ≡ end.Found f)) ⊎ Shown r f
      settle (inl own) = inl (j, lt, own)
      settle (inr other) = other
