-- How a job ends.
use Rattle.std.proofs.Common.{◌≡◌, ◌⊎◌, inl, inr, ℕ, Bool, List, [], Option, None, Some, ◌≤◌, le_trans, refl, sym, subst, arith}
use Rattle.sby_edge.specs.Cause.{Rose}
use Rattle.sby_edge.specs.Child.{BayOf}
use Rattle.sby_terms.specs.declared.names.JobName.{JobName}
use Rattle.std.specs.Option.{MatchOption}
use Rattle.race_core.specs.Ends.{EndIs}
use Rattle.race_core.specs.Parts.{RightKeeper, RightReader, Terms}
use Rattle.race_core.specs.declared.end.JobEnd.{JobEnd}
use Rattle.race_core.specs.declared.end.JobEnd.TheVariants as end
use Rattle.race_core.specs.declared.event.Judged.{Judged}
use Rattle.race_core.specs.declared.event.Judged.TheVariants as judged
use Rattle.race_core.specs.declared.part.Keeper.{Keeper}
use Rattle.race_core.specs.declared.part.Keeper.TheVariants as keeper
use Rattle.race_core.specs.declared.part.Reason.{Reason}
use Rattle.lane_run.specs.Judging.{Within}
use Rattle.lane_run.specs.Keeping.{TakesTurns}
use Rattle.lane_run.specs.Sides.{kept_by}
use Rattle.race_core.specs.declared.part.By.{By}
use Rattle.race_core.specs.declared.part.By.TheVariants as by
use Rattle.race_core.specs.declared.part.Reader.{Reader}
use Rattle.race_core.specs.declared.part.Reader.TheVariants as reader
use Rattle.lane_run.specs.Reading.{Comes, HasRead, IsFound, IsHolding, IsOver, IsProof, NotByFile, Proves, Settles, TookProof}

-- a reader that hasn't found anything
pub not_found : {T : Type 0} {X : Type 0} (part : Reader T) → ((f : T) (b : By) (won : Bool) → part ≡ reader.Found f b won → ⊥) → IsFound part ⊎ X → X
not_found part none (inr x) = x
not_found (reader.Found f b won) none (inl is) = absurd (none f b won refl)
not_found (reader.Unknown b) none (inl is) = absurd is
not_found (reader.Bad number at b) none (inl is) = absurd is
not_found reader.Failed none (inl is) = absurd is
not_found (reader.Holding f b) none (inl is) = absurd is
not_found reader.Asking none (inl is) = absurd is
not_found reader.Short none (inl is) = absurd is
not_found reader.Fresh none (inl is) = absurd is
not_found reader.Reading none (inl is) = absurd is
not_found reader.Unjudged none (inl is) = absurd is
not_found reader.Wrong none (inl is) = absurd is

abbrev is_file : By → Type 0
is_file by.File = Unit {0}
is_file by.Bytes = ⊥
is_file by.Close = ⊥

bytes_file : by.Bytes ≡ by.File → ⊥
bytes_file is = subst is_file (sym is) tt

close_file : by.Close ≡ by.File → ⊥
close_file is = subst is_file (sym is) tt

-- that a keeper took turns or only looked is the same to an end
looked_ends : {T : Type 0} (a : Terms T) (r : Reader T) (e : JobEnd T) → EndIs a (λ _. ⊥) r keeper.Turning e → EndIs a (λ _. ⊥) r keeper.Looked e
looked_ends a r (end.Found f) h = h
looked_ends a r end.Unknown h = h
looked_ends a r (end.Bad number at) h = h
looked_ends a r end.ReadFailed h = h
looked_ends a r (end.Stopped t) h = h
looked_ends a r (end.CalledOff f) h = h
looked_ends a r (end.Skipped f) h = h
looked_ends a r end.HoldFailed h = h
looked_ends a r end.StartFailed h = h
looked_ends a r end.Memory h = h
looked_ends a r end.NotServed h = absurd h

-- an end by why the keeper killed the child, if it did, is one by the keeper's part
pub ends_kept : {T : Type 0} (a : Terms T) (why : Option (Reason T)) (r : Reader T) (k : Keeper T) (e : JobEnd T)
    → MatchOption why (TakesTurns k) (λ w. k ≡ keeper.Killed w) → EndIs a (λ _. ⊥) r (kept_by why) e → EndIs a (λ _. ⊥) r k e
ends_kept {T} a (Some w) r k e is h = subst (λ (k : Keeper T). EndIs a (λ _. ⊥) r k e) (sym is) h
ends_kept a None r keeper.Turning e is h = h
ends_kept a None r keeper.Looked e is h = looked_ends a r e h
ends_kept a None r keeper.Fresh e is h = absurd is
ends_kept a None r (keeper.Due w) e is h = absurd is
ends_kept a None r (keeper.Killed w) e is h = absurd is
ends_kept a None r keeper.Wrong e is h = absurd is

pub right_kept : {T : Type 0} (why : Option (Reason T)) (k : Keeper T) → MatchOption why (TakesTurns k) (λ w. k ≡ keeper.Killed w) → RightKeeper k
right_kept {T} (Some w) k is = subst (λ (k : Keeper T). RightKeeper k) (sym is) tt
right_kept None keeper.Turning is = tt
right_kept None keeper.Looked is = tt
right_kept None keeper.Fresh is = absurd is
right_kept None (keeper.Due w) is = absurd is
right_kept None (keeper.Killed w) is = absurd is
right_kept None keeper.Wrong is = absurd is

-- a keeper that is over has looked
pub kept_looked : {T : Type 0} (why : Option (Reason T)) (k : Keeper T) → MatchOption why (TakesTurns k) (λ w. k ≡ keeper.Killed w) → k ≡ keeper.Fresh → ⊥
kept_looked (Some w) k is fresh = cc
kept_looked {T} None k is fresh = subst (λ (k : Keeper T). TakesTurns k) fresh is

-- settling changes nothing of what an output is judged as
comes_settled : {T : Type 0} (st en pr : List ℕ → Judged T → Type 0) (ended : Type 0) (output proof : List ℕ) (part now : Reader T)
    → Comes st en pr ended output proof part → Settles part now → Comes st en pr ended output proof now
comes_settled st en pr ended output proof (reader.Holding f b) now h (inl is) = subst (λ r. Comes st en pr ended output proof r) (sym is) h
comes_settled st en pr ended output proof (reader.Holding f b) now h (inr (inl is)) = subst (λ r. Comes st en pr ended output proof r) (sym is) h
comes_settled st en pr ended output proof (reader.Holding f b) now h (inr (inr is)) = subst (λ r. Comes st en pr ended output proof r) (sym is) tt
comes_settled st en pr ended output proof (reader.Found f b won) now h is = subst (λ r. Comes st en pr ended output proof r) (sym is) h
comes_settled st en pr ended output proof (reader.Unknown b) now h is = subst (λ r. Comes st en pr ended output proof r) (sym is) h
comes_settled st en pr ended output proof (reader.Bad number at b) now h is = subst (λ r. Comes st en pr ended output proof r) (sym is) h
comes_settled st en pr ended output proof reader.Fresh now h is = subst (λ r. Comes st en pr ended output proof r) (sym is) h
comes_settled st en pr ended output proof reader.Reading now h is = subst (λ r. Comes st en pr ended output proof r) (sym is) h
comes_settled st en pr ended output proof reader.Asking now h is = subst (λ r. Comes st en pr ended output proof r) (sym is) h
comes_settled st en pr ended output proof reader.Unjudged now h is = subst (λ r. Comes st en pr ended output proof r) (sym is) h
comes_settled st en pr ended output proof reader.Failed now h is = subst (λ r. Comes st en pr ended output proof r) (sym is) h
comes_settled st en pr ended output proof reader.Short now h is = subst (λ r. Comes st en pr ended output proof r) (sym is) h
comes_settled st en pr ended output proof reader.Wrong now h is = subst (λ r. Comes st en pr ended output proof r) (sym is) h

-- an output that left the end to the proof file is judged as the proof file is
comes_proved : {T : Type 0} (st en pr pr' : List ℕ → Judged T → Type 0) (ended : Type 0) (output proof : List ℕ) (part : Reader T)
    → ended → en output judged.More → Within pr' pr → Proves pr' proof part → Comes st en pr ended output proof part
comes_proved st en pr pr' ended output proof (reader.Holding f by.File) e m w (is, h) = (e, m, w proof (judged.Found f) h)
comes_proved st en pr pr' ended output proof (reader.Holding f by.Bytes) e m w (is, h) = absurd (bytes_file is)
comes_proved st en pr pr' ended output proof (reader.Holding f by.Close) e m w (is, h) = absurd (close_file is)
comes_proved st en pr pr' ended output proof (reader.Unknown by.File) e m w (is, h) = (e, m, w proof judged.Unknown h)
comes_proved st en pr pr' ended output proof (reader.Unknown by.Bytes) e m w (is, h) = absurd (bytes_file is)
comes_proved st en pr pr' ended output proof (reader.Unknown by.Close) e m w (is, h) = absurd (close_file is)
comes_proved st en pr pr' ended output proof (reader.Bad number at by.File) e m w (is, h) = (e, m, w proof (judged.Bad number at) h)
comes_proved st en pr pr' ended output proof (reader.Bad number at by.Bytes) e m w (is, h) = absurd (bytes_file is)
comes_proved st en pr pr' ended output proof (reader.Bad number at by.Close) e m w (is, h) = absurd (close_file is)
comes_proved st en pr pr' ended output proof reader.Failed e m w h = tt
comes_proved st en pr pr' ended output proof reader.Short e m w h = tt
comes_proved st en pr pr' ended output proof (reader.Found f b won) e m w h = absurd h
comes_proved st en pr pr' ended output proof reader.Fresh e m w h = absurd h
comes_proved st en pr pr' ended output proof reader.Reading e m w h = absurd h
comes_proved st en pr pr' ended output proof reader.Asking e m w h = absurd h
comes_proved st en pr pr' ended output proof reader.Unjudged e m w h = absurd h
comes_proved st en pr pr' ended output proof reader.Wrong e m w h = absurd h

-- the state of a reader that has finished
pub comes_finished : {T : Type 0} (st en pr pr' : List ℕ → Judged T → Type 0) (ended : Type 0) (output proof : List ℕ) (part between now : Reader T) (A B : Type 0)
    → Comes st en pr ended output [] part → Within pr' pr
    → ((between ≡ part) × (proof ≡ []) × A) ⊎ ((part ≡ reader.Asking) × Proves pr' proof between × B)
    → Settles between now → Comes st en pr ended output proof now
comes_finished {T} st en pr pr' ended output proof part between now A B comes within (inl (same, none, a)) settles =
    comes_settled st en pr ended output proof between now
    (subst (λ (p : List ℕ). Comes st en pr ended output p between) (sym none) (subst (λ (r : Reader T). Comes st en pr ended output [] r) (sym same) comes)) settles
comes_finished {T} st en pr pr' ended output proof part between now A B comes within (inr (asking, proves, b)) settles =
    let asks = subst (λ (r : Reader T). Comes st en pr ended output [] r) asking comes in
    comes_settled st en pr ended output proof between now (comes_proved st en pr pr' ended output proof between asks.0 asks.1 within proves) settles

-- a count that rose, and didn't fall afterwards or before
pub rose_later : (before between now : ℕ) → Rose before between → between ≤ now → Rose before now
rose_later before between now h k = le_trans h k

pub rose_earlier : (before between now : ℕ) → before ≤ between → Rose between now → Rose before now
rose_earlier before between now h k = omega (h, k, arith)

-- what is read of the output alone isn't by the proof file
read_unfiled : {T : Type 0} (part : Reader T) → HasRead part → NotByFile part
read_unfiled (reader.Holding f b) h = h
read_unfiled (reader.Unknown b) h = h
read_unfiled (reader.Bad number at b) h = h
read_unfiled reader.Asking h = tt
read_unfiled reader.Failed h = tt
read_unfiled reader.Short h = tt
read_unfiled reader.Fresh h = absurd h
read_unfiled reader.Reading h = absurd h
read_unfiled reader.Unjudged h = absurd h
read_unfiled (reader.Found f b won) h = absurd h
read_unfiled reader.Wrong h = absurd h

-- nor is it by that once it is settled
settled_unfiled : {T : Type 0} (part now : Reader T) → NotByFile part → Settles part now → NotByFile now
settled_unfiled (reader.Holding f b) now h (inl is) = subst (λ r. NotByFile r) (sym is) h
settled_unfiled (reader.Holding f b) now h (inr (inl is)) = subst (λ r. NotByFile r) (sym is) h
settled_unfiled (reader.Holding f b) now h (inr (inr is)) = subst (λ r. NotByFile r) (sym is) tt
settled_unfiled (reader.Found f b won) now h is = subst (λ r. NotByFile r) (sym is) h
settled_unfiled (reader.Unknown b) now h is = subst (λ r. NotByFile r) (sym is) h
settled_unfiled (reader.Bad number at b) now h is = subst (λ r. NotByFile r) (sym is) h
settled_unfiled reader.Fresh now h is = subst (λ r. NotByFile r) (sym is) h
settled_unfiled reader.Reading now h is = subst (λ r. NotByFile r) (sym is) h
settled_unfiled reader.Asking now h is = subst (λ r. NotByFile r) (sym is) h
settled_unfiled reader.Unjudged now h is = subst (λ r. NotByFile r) (sym is) h
settled_unfiled reader.Failed now h is = subst (λ r. NotByFile r) (sym is) h
settled_unfiled reader.Short now h is = subst (λ r. NotByFile r) (sym is) h
settled_unfiled reader.Wrong now h is = subst (λ r. NotByFile r) (sym is) h

-- the bytes that a reader took of the proof file, once it has finished
pub proof_finished : {T : Type 0} (bay bay' : Option BayOf) (job : JobName) (most : ℕ) (proof : List ℕ) (part between now : Reader T) (A B C : Type 0) → bay' ≡ bay → HasRead part
    → ((between ≡ part) × (proof ≡ []) × A) ⊎ (B × C × TookProof bay job most proof between) → Settles between now → TookProof bay' job most proof now
proof_finished {T} bay bay' job most proof part between now A B C same read (inl (is, none, a)) settles =
    inr (none, settled_unfiled between now (subst (λ (r : Reader T). NotByFile r) (sym is) (read_unfiled part read)) settles)
proof_finished bay bay' job most proof part between now A B C same read (inr (b, c, inl got)) settles = inl (subst (λ (b : Option BayOf). IsProof b job most proof) (sym same) got)
proof_finished bay bay' job most proof part between now A B C same read (inr (b, c, inr (none, unfiled))) settles = inr (none, settled_unfiled between now unfiled settles)

-- a reader that is over, or holds what it settles then, is over once it has settled
pub settled_over : {T : Type 0} (part now : Reader T) (k : Keeper T) → IsOver part k ⊎ IsHolding part → Settles part now → IsOver now k
settled_over (reader.Holding f b) now k (inl over) is = absurd over
settled_over {T} (reader.Holding f b) now k (inr held) (inl is) = subst (λ (r : Reader T). IsOver r k) (sym is) tt
settled_over {T} (reader.Holding f b) now k (inr held) (inr (inl is)) = subst (λ (r : Reader T). IsOver r k) (sym is) tt
settled_over {T} (reader.Holding f b) now k (inr held) (inr (inr is)) = subst (λ (r : Reader T). IsOver r k) (sym is) tt
settled_over {T} (reader.Found f b won) now k (inl over) is = subst (λ (r : Reader T). IsOver r k) (sym is) over
settled_over (reader.Found f b won) now k (inr held) is = absurd held
settled_over {T} (reader.Unknown b) now k (inl over) is = subst (λ (r : Reader T). IsOver r k) (sym is) over
settled_over (reader.Unknown b) now k (inr held) is = absurd held
settled_over {T} (reader.Bad number at b) now k (inl over) is = subst (λ (r : Reader T). IsOver r k) (sym is) over
settled_over (reader.Bad number at b) now k (inr held) is = absurd held
settled_over {T} reader.Failed now k (inl over) is = subst (λ (r : Reader T). IsOver r k) (sym is) over
settled_over reader.Failed now k (inr held) is = absurd held
settled_over {T} reader.Asking now k (inl over) is = subst (λ (r : Reader T). IsOver r k) (sym is) over
settled_over reader.Asking now k (inr held) is = absurd held
settled_over {T} reader.Short now k (inl over) is = subst (λ (r : Reader T). IsOver r k) (sym is) over
settled_over reader.Short now k (inr held) is = absurd held
settled_over {T} reader.Fresh now k (inl over) is = subst (λ (r : Reader T). IsOver r k) (sym is) over
settled_over reader.Fresh now k (inr held) is = absurd held
settled_over {T} reader.Reading now k (inl over) is = subst (λ (r : Reader T). IsOver r k) (sym is) over
settled_over reader.Reading now k (inr held) is = absurd held
settled_over {T} reader.Unjudged now k (inl over) is = subst (λ (r : Reader T). IsOver r k) (sym is) over
settled_over reader.Unjudged now k (inr held) is = absurd held
settled_over {T} reader.Wrong now k (inl over) is = subst (λ (r : Reader T). IsOver r k) (sym is) over
settled_over reader.Wrong now k (inr held) is = absurd held

-- and no event came that can't come
pub over_right : {T : Type 0} (part : Reader T) (k : Keeper T) → IsOver part k → RightReader part
over_right (reader.Found f b won) k over = tt
over_right (reader.Unknown b) k over = tt
over_right (reader.Bad number at b) k over = tt
over_right reader.Failed k over = tt
over_right reader.Asking k over = tt
over_right reader.Short k over = tt
over_right (reader.Holding f b) k over = tt
over_right reader.Fresh k over = tt
over_right reader.Reading k over = tt
over_right reader.Unjudged k over = tt
over_right reader.Wrong k over = absurd over
