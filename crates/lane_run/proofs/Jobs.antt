-- A job that is done, from what its calls ensure.
use Rattle.std.proofs.Common.{◌≡◌, inl, inr, ℕ, zero, suc, ◌<◌, true, false, List, [], Option, Some, IsSomeAnd, refl, sym, ap, subst, ◌∙◌, arith}
use Rattle.sby_terms.specs.Problem.{ProblemOf}
use Rattle.sby_terms.specs.declared.names.Mode.{Mode}
use Rattle.sby_terms.specs.declared.names.Mode.TheVariants as mode
use Rattle.sby_terms.specs.declared.names.JobName.{JobName}
use Rattle.sby_terms.specs.declared.names.JobName.TheVariants as name
use Rattle.sby_terms.specs.declared.names.Answer.{Answer}
use Rattle.race_cells.specs.Notes.{NoteOf, known_at}
use Rattle.race_core.specs.Asking.{name_at, terms_of}
use Rattle.race_core.specs.Carrying.{Carries, Looked}
use Rattle.race_core.specs.Consistent.{Replayed}
use Rattle.race_core.specs.Ends.{EndIs, HasEnd, UnservedEndIs}
use Rattle.race_core.specs.Parts.{RightKeeper, RightReader, Terms, keeper_from, keeper_of, reader_of, place_from, place_of}
use Rattle.race_core.specs.Report.{EventsOf}
use Rattle.race_core.specs.declared.end.JobEnd.{JobEnd}
use Rattle.race_core.specs.declared.end.JobEnd.TheVariants as end
use Rattle.race_core.specs.declared.event.LaneEvent.{LaneEvent}
use Rattle.race_core.specs.declared.part.Keeper.{Keeper}
use Rattle.race_core.specs.declared.part.Keeper.TheVariants as keeper
use Rattle.race_core.specs.declared.part.Place.TheVariants.{Away}
use Rattle.race_core.specs.declared.part.Reader.{Reader}
use Rattle.race_core.specs.declared.part.Reader.TheVariants as reader
use Rattle.race_core.specs.declared.step.JobTerms.{JobTerms}
use Rattle.lane_run.specs.Keeping.{HasReading, IsOfCell, IsSlice, Keeps}
use Rattle.lane_run.specs.Reading.{IfWon}
use Rattle.lane_run.specs.Asked.{IsFor, other_of, terms_at}
use Rattle.lane_run.specs.declared.task.Limit.{Limit}
use Rattle.lane_run.specs.Done.{JobDone}
use Rattle.lane_run.proofs.Reasons.{called_by_look, skipped_by_look}

-- only Step and Inv have another cell, that of Base
other_is : (m : Mode) (k : ℕ) (P : ℕ × JobName → Type 0) → IsSomeAnd (other_of (name_at m k)) P → P (0, name.Base 0) × (name_at m 0 ≡ name.Base 0)
other_is mode.Bmc k P h = absurd h
other_is mode.Prove zero P h = absurd h
other_is mode.Prove (suc zero) P h = (h, refl)
other_is mode.Prove (suc (suc k)) P h = absurd h
other_is mode.ProveInv zero P h = absurd h
other_is mode.ProveInv (suc zero) P h = (h, refl)
other_is mode.ProveInv (suc (suc k)) P h = absurd h
other_is mode.Cover k P h = absurd h

-- the places before a slice's own are those of slices
slice_is : (m : Mode) (k c : ℕ) → IsSlice (name_at m k) → c < k → name_at m c ≡ name.Base c
slice_is mode.Bmc k c slice lt = refl
slice_is mode.Prove zero c slice lt = absurd (omega (lt, arith))
slice_is mode.Prove (suc zero) c slice lt = absurd slice
slice_is mode.Prove (suc (suc k)) c slice lt = absurd slice
slice_is mode.ProveInv zero c slice lt = absurd (omega (lt, arith))
slice_is mode.ProveInv (suc zero) c slice lt = absurd slice
slice_is mode.ProveInv (suc (suc k)) c slice lt = absurd slice
slice_is mode.Cover k c slice lt = absurd slice

-- a finding that a look may show is for the job of its cell
cell_for : {T : Type 0} (problem : T → ProblemOf) (job : T → JobName) (p : ProblemOf) (m : Mode) (limit : Limit) (k c : ℕ) (f : T)
    → IsOfCell problem job p (terms_at m limit k) (other_of (name_at m k)) c f → IsFor problem job p m c f
cell_for problem job p m limit k c f (is, inl own) = (is, own.1 ∙ ap (λ (n : ℕ). name_at m n) (sym own.0))
cell_for problem job p m limit k c f (is, inr (inl other)) =
    let o = other_is m k (λ o. (c ≡ o.0) × (job f ≡ o.1)) other in
    (is, o.0.1 ∙ (sym o.1 ∙ ap (λ (n : ℕ). name_at m n) (sym o.0.0)))
cell_for problem job p m limit k c f (is, inr (inr slice)) = (is, slice.2 ∙ sym (slice_is m k c slice.0 slice.1))

-- what was won is what was found
if_won : {T : Type 0} (r : Reader T) (P Q : T → Type 0) → IfWon r Q → ((f : T) → HasEnd r (end.Found f) → P f) → IfWon r (λ f. P f × Q f)
if_won (reader.Found f b true) P Q h found = (found f refl, h)
if_won (reader.Found f b false) P Q h found = tt
if_won (reader.Holding f b) P Q h found = tt
if_won (reader.Unknown b) P Q h found = tt
if_won (reader.Bad number at b) P Q h found = tt
if_won reader.Failed P Q h found = tt
if_won reader.Asking P Q h found = tt
if_won reader.Short P Q h found = tt
if_won reader.Fresh P Q h found = tt
if_won reader.Reading P Q h found = tt
if_won reader.Unjudged P Q h found = tt
if_won reader.Wrong P Q h found = tt

-- what the calls of a job that is served ensure
pub record Served {T : Type 0} (problem : T → ProblemOf) (job : T → JobName) (answer : T → Answer) (p : ProblemOf) (may_read : ℕ → Type 0)
    (notes notes' : List (NoteOf T)) (es : EventsOf T) (e : JobEnd T) (terms : JobTerms) (other : Option (ℕ × JobName)) : Type 0 where
  pub ended : EndIs (terms_of job answer terms) (λ _. ⊥) (reader_of es) (keeper_of (terms_of job answer terms) es) e
  pub right_reader : RightReader (reader_of es)
  pub right_keeper : RightKeeper (keeper_of (terms_of job answer terms) es)
  pub away : place_of es ≡ Away
  pub keeps : Keeps (IsOfCell problem job p terms other) may_read notes notes' [] es.keeper
  pub won : IfWon (reader_of es) (λ f. known_at notes' terms.cell ≡ Some f)
  pub found : (f : T) → HasEnd (reader_of es) (end.Found f) → (problem f ≡ p) × (job f ≡ terms.job)

-- and those of one that isn't
pub record Passed {T : Type 0} (problem : T → ProblemOf) (job : T → JobName) (answer : T → Answer) (p : ProblemOf) (may_read : ℕ → Type 0) (known : T → Type 0)
    (notes notes' : List (NoteOf T)) (es : List (LaneEvent T)) (e : JobEnd T) (terms : JobTerms) (other : Option (ℕ × JobName)) : Type 0 where
  pub ended : UnservedEndIs (terms_of job answer terms) known reader.Fresh (keeper_from (terms_of job answer terms) keeper.Fresh es) e
  pub right_keeper : RightKeeper (keeper_from (terms_of job answer terms) keeper.Fresh es)
  pub away : place_from Away es ≡ Away
  pub keeps : Keeps (IsOfCell problem job p terms other) may_read notes notes' [] es

-- what no earlier job showed, nothing knows
ends_more : {T : Type 0} (a : Terms T) (known : T → Type 0) (r : Reader T) (k : Keeper T) (e : JobEnd T) → EndIs a (λ _. ⊥) r k e → EndIs a known r k e
ends_more a known r k (end.Found f) h = h
ends_more a known r k end.Unknown h = h
ends_more a known r k (end.Bad number at) h = h
ends_more a known r k end.ReadFailed h = h
ends_more a known r k (end.Stopped t) h = h
ends_more a known r k (end.CalledOff f) h = h
ends_more a known r k (end.Skipped f) (h, inl x) = (h, inl x)
ends_more a known r k (end.Skipped f) (h, inr x) = absurd x.1
ends_more a known r k end.HoldFailed h = h
ends_more a known r k end.StartFailed h = h
ends_more a known r k end.Memory h = h
ends_more a known r k end.NotServed h = absurd h

-- an end carries what its reader found, or what a look showed
carried_served : {T : Type 0} (a : Terms T) (For : ℕ → T → Type 0) (place : ℕ) (es : EventsOf T) (e : JobEnd T) (f : T)
    → ((g : T) → HasEnd (reader_of es) (end.Found g) → For place g) → ((c : ℕ) (g : T) → Looked c g es.keeper → For c g)
    → EndIs a (λ _. ⊥) (reader_of es) (keeper_of a es) e → Carries e f → (k : ℕ) × For k f
carried_served a For place es (end.Found g) f found looks h is = (place, subst (For place) is (found g h))
carried_served a For place es (end.CalledOff g) f found looks h is = let l = called_by_look a g es.keeper h.1 in (l.0.0, subst (For l.0.0) is (looks l.0.0 g l.0.1))
carried_served a For place es (end.Skipped g) f found looks (h, inl x) is = let l = skipped_by_look a g es.keeper x in (l.0.0, subst (For l.0.0) is (looks l.0.0 g l.0.1))
carried_served a For place es (end.Skipped g) f found looks (h, inr x) is = absurd x.1
carried_served a For place es end.Unknown f found looks h is = absurd is
carried_served a For place es (end.Bad number at) f found looks h is = absurd is
carried_served a For place es end.ReadFailed f found looks h is = absurd is
carried_served a For place es (end.Stopped t) f found looks h is = absurd is
carried_served a For place es end.HoldFailed f found looks h is = absurd is
carried_served a For place es end.StartFailed f found looks h is = absurd is
carried_served a For place es end.Memory f found looks h is = absurd is
carried_served a For place es end.NotServed f found looks h is = absurd is

carried_passed : {T : Type 0} (a : Terms T) (For : ℕ → T → Type 0) (known : T → Type 0) (r : Reader T) (es : List (LaneEvent T)) (e : JobEnd T) (f : T)
    → ((g : T) → known g → (k : ℕ) × For k g) → ((c : ℕ) (g : T) → Looked c g es → For c g)
    → UnservedEndIs a known r (keeper_from a keeper.Fresh es) e → Carries e f → (k : ℕ) × For k f
carried_passed {T} a For known r es (end.Skipped g) f knew looks (h, inl x) is = let l = skipped_by_look a g es x in (l.0.0, subst (For l.0.0) is (looks l.0.0 g l.0.1))
carried_passed {T} a For known r es (end.Skipped g) f knew looks (h, inr x) is = subst (λ (g : T). (k : ℕ) × For k g) is (knew g x.1)
carried_passed a For known r es end.NotServed f knew looks h is = absurd is
carried_passed a For known r es end.Memory f knew looks h is = absurd is
carried_passed a For known r es (end.Found g) f knew looks h is = absurd h
carried_passed a For known r es (end.CalledOff g) f knew looks h is = absurd h
carried_passed a For known r es end.Unknown f knew looks h is = absurd h
carried_passed a For known r es (end.Bad number at) f knew looks h is = absurd h
carried_passed a For known r es end.ReadFailed f knew looks h is = absurd h
carried_passed a For known r es (end.Stopped t) f knew looks h is = absurd h
carried_passed a For known r es end.HoldFailed f knew looks h is = absurd h
carried_passed a For known r es end.StartFailed f knew looks h is = absurd h

unserved_same : {T : Type 0} (a : Terms T) (K K' : T → Type 0) (r : Reader T) (k : Keeper T) (e : JobEnd T) → ((f : T) → K f → K' f) → ((f : T) → K' f → K f)
    → UnservedEndIs a K r k e → UnservedEndIs a K' r k e
unserved_same a K K' r k end.NotServed there back h = (h.0, h.1, λ f x y. h.2 f (back f x) y)
unserved_same a K K' r k (end.Skipped f) there back (h, inl x) = (h, inl x)
unserved_same a K K' r k (end.Skipped f) there back (h, inr x) = (h, inr (x.0, there f x.1, x.2))
unserved_same a K K' r k end.Memory there back h = h
unserved_same a K K' r k (end.Found g) there back h = absurd h
unserved_same a K K' r k (end.CalledOff g) there back h = absurd h
unserved_same a K K' r k end.Unknown there back h = absurd h
unserved_same a K K' r k (end.Bad number at) there back h = absurd h
unserved_same a K K' r k end.ReadFailed there back h = absurd h
unserved_same a K K' r k (end.Stopped t) there back h = absurd h
unserved_same a K K' r k end.HoldFailed there back h = absurd h
unserved_same a K K' r k end.StartFailed there back h = absurd h

served_same : {T : Type 0} (a : Terms T) (K K' : T → Type 0) (r : Reader T) (k : Keeper T) (e : JobEnd T) → ((f : T) → K f → K' f) → EndIs a K r k e → EndIs a K' r k e
served_same a K K' r k (end.Found f) there h = h
served_same a K K' r k end.Unknown there h = h
served_same a K K' r k (end.Bad number at) there h = h
served_same a K K' r k end.ReadFailed there h = h
served_same a K K' r k (end.Stopped t) there h = h
served_same a K K' r k (end.CalledOff f) there h = h
served_same a K K' r k (end.Skipped f) there (h, inl x) = (h, inl x)
served_same a K K' r k (end.Skipped f) there (h, inr x) = (h, inr (x.0, there f x.1, x.2))
served_same a K K' r k end.HoldFailed there h = h
served_same a K K' r k end.StartFailed there h = h
served_same a K K' r k end.Memory there h = h
served_same a K K' r k end.NotServed there h = absurd h

pub replayed_same : {T : Type 0} (serves : Type 0) (a : Terms T) (K K' : T → Type 0) (es : EventsOf T) (e : JobEnd T) → ((f : T) → K f → K' f) → ((f : T) → K' f → K f)
    → Replayed serves a K es e → Replayed serves a K' es e
replayed_same serves a K K' es e there back (inl h) = inl (h.0, served_same a K K' (reader_of es) (keeper_of a es) e there h.1)
replayed_same serves a K K' es e there back (inr h) = inr (h.0, unserved_same a K K' (reader_of es) (keeper_of a es) e there back h.1)

module _ {T : Type 0} (problem : T → ProblemOf) (job : T → JobName) (answer : T → Answer) (p : ProblemOf) (m : Mode) (limit : Limit) (serves : Type 0) (may_read : ℕ → Type 0)
    (k : ℕ) (notes notes' : List (NoteOf T)) (e : JobEnd T) (known : T → Type 0) where
  looks_for : (es : List (LaneEvent T)) → Keeps (IsOfCell problem job p (terms_at m limit k) (other_of (name_at m k))) may_read notes notes' [] es
      → (c : ℕ) (f : T) → Looked c f es → IsFor problem job p m c f × (known_at notes' c ≡ Some f)
  looks_for es keeps c f seen = elim (keeps.looks c f seen) [ inl x ↦ absurd x | inr h ↦ (cell_for problem job p m limit k c f h.0, h.1) ]

  readings_may : (es : List (LaneEvent T)) → Keeps (IsOfCell problem job p (terms_at m limit k) (other_of (name_at m k))) may_read notes notes' [] es
      → (r : ℕ) → HasReading r es → may_read r
  readings_may es keeps r seen = elim (keeps.readings r seen) [ inl x ↦ absurd x | inr h ↦ h ]

  -- a job that is served
  pub served_done : (es : EventsOf T) (terms : JobTerms) (other : Option (ℕ × JobName)) → terms ≡ terms_at m limit k → other ≡ other_of terms.job → serves
      → Served problem job answer p may_read notes notes' es e terms other
      → JobDone (IsFor problem job p m) serves (terms_of job answer (terms_at m limit k)) known may_read k notes' es e
  served_done es terms other is at serve h0 =
      let h1 = subst (λ (o : Option (ℕ × JobName)). Served problem job answer p may_read notes notes' es e terms o) at h0 in
      let h = subst (λ (t : JobTerms). Served problem job answer p may_read notes notes' es e t (other_of t.job)) is h1 in
      let looks = looks_for es.keeper h.keeps in
      record {
        right_reader = h.right_reader;
        right_keeper = h.right_keeper;
        away = h.away;
        replayed = inl (serve, ends_more (terms_of job answer (terms_at m limit k)) known (reader_of es) (keeper_of (terms_of job answer (terms_at m limit k)) es) e h.ended);
        carried = λ f is. carried_served (terms_of job answer (terms_at m limit k)) (IsFor problem job p m) k es e f h.found (λ c g seen. (looks c g seen).0) h.ended is;
        won = if_won (reader_of es) (IsFor problem job p m k) (λ f. known_at notes' k ≡ Some f) h.won h.found;
        looks = looks;
        readings = readings_may es.keeper h.keeps;
      }

  -- one that isn't; what its end depends on is what the lane knew
  pub passed_done : (es : List (LaneEvent T)) (terms : JobTerms) (other : Option (ℕ × JobName)) (K : T → Type 0) → terms ≡ terms_at m limit k → other ≡ other_of terms.job → (serves → ⊥)
      → ((f : T) → K f → known f) → ((f : T) → known f → K f) → ((f : T) → known f → (j : ℕ) × IsFor problem job p m j f)
      → Passed problem job answer p may_read K notes notes' es e terms other
      → JobDone (IsFor problem job p m) serves (terms_of job answer (terms_at m limit k)) known may_read k notes' (record { reader = []; keeper = es }) e
  passed_done es terms other K is at not there back knew h0 =
      let h1 = subst (λ (o : Option (ℕ × JobName)). Passed problem job answer p may_read K notes notes' es e terms o) at h0 in
      let h = subst (λ (t : JobTerms). Passed problem job answer p may_read K notes notes' es e t (other_of t.job)) is h1 in
      let a = terms_of job answer (terms_at m limit k) in
      let looks = looks_for es h.keeps in
      let ended = unserved_same a K known reader.Fresh (keeper_from a keeper.Fresh es) e there back h.ended in
      record {
        right_reader = tt;
        right_keeper = h.right_keeper;
        away = h.away;
        replayed = inr (not, ended);
        carried = λ f is. carried_passed a (IsFor problem job p m) known reader.Fresh es e f knew (λ c g seen. (looks c g seen).0) ended is;
        won = tt;
        looks = looks;
        readings = readings_may es h.keeps;
      }
