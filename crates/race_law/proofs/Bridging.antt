-- What is collected from the reports of a race is the race's status.
use Rattle.race_core.specs.Asking.{name_at}
use Rattle.race_core.specs.Told.{told_by}
use Rattle.race_core.specs.Carrying.{Carries}
use Rattle.std.proofs.Common.{◌≡◌, ℕ, zero, suc, ◌<◌, List, [], ◌∷◌, length, get_or, Option, Some, None, refl, sym, ap, ◌∙◌, subst, arith}
use Rattle.std.specs.Prelude.{Contains, slice_get}
use Rattle.std.proofs.lemmas.Option.{slice_get-get_or, slice_get_within}
use Rattle.std.proofs.lemmas.List.{get_or_default}
use Rattle.std.proofs.lemmas.List.Elements.{Contains-get_or}
use Rattle.sby_terms.specs.declared.names.Mode.{Mode}
use Rattle.sby_terms.specs.declared.names.JobName.{JobName}
use Rattle.sby_terms.specs.declared.names.Answer.{Answer}
use Rattle.sby_terms.specs.declared.names.Status.{Status}
use Rattle.race_core.specs.Report.{EventsOf, ReportOf}
use Rattle.race_law.specs.Status.{IsEntry, TaskStatus}
use Rattle.race_core.specs.Consistent.{end_at, AreOf}
use Rattle.race_core.specs.Collect.{SettledIn, IsAnswer, IsOutcome}
use Rattle.race_core.specs.declared.end.JobEnd.{JobEnd}
use Rattle.race_core.specs.declared.end.JobEnd.TheVariants as end

found-at : {X : Type 0} (xs : List X) (x : X) → Contains xs x → (i : ℕ) × (slice_get xs i ≡ Some x)
found-at xs x c = (c.0, slice_get-get_or xs c.0 x c.1 ∙ ap (λ y. Some y) c.2)

some-is : {X : Type 0} (x y : X) → Some x ≡ Some y → x ≡ y
some-is x y e = cc

pub at-found : {X : Type 0} (xs : List X) (i : ℕ) (x : X) → slice_get xs i ≡ Some x → Contains xs x
at-found xs i x e =
    let lt = slice_get_within xs i x e in
    (i, lt, some-is (get_or xs i x) x (sym (slice_get-get_or xs i x lt) ∙ e))

item-at : {X : Type 0} (xs : List X) (i : ℕ) → i < length xs → (x : X) × (slice_get xs i ≡ Some x)
item-at [] i lt = absurd (omega arith)
item-at (x ∷ xs) zero lt = (x, refl)
item-at (x ∷ xs) (suc i) lt = item-at xs i (omega arith)

module _ {T : Type 0} (job : T → JobName) (answer : T → Answer) (mode : Mode) (For : ℕ → T → Type 0)
    (for_name : (k : ℕ) (f : T) → For k f → job f ≡ name_at mode k)
    (for_here : (k c : ℕ) (f : T) → For c f → job f ≡ name_at mode k → For k f)
    (events : ℕ → ℕ → EventsOf T) (ends : ℕ → ℕ → JobEnd T) (lanes jobs : ℕ) (reports : List (ReportOf T)) (are : AreOf events ends lanes jobs reports)
    (found : (i j : ℕ) (f : T) → i < lanes → j < jobs → Carries (ends i j) f → (c : ℕ) × For c f) where
  report-at : (i : ℕ) → i < lanes → (r : ReportOf T) × (slice_get reports i ≡ Some r)
  report-at i il = item-at reports i (omega (arith, are.lanes_are))

  settled-over : (k : ℕ) (f : T) → ((i : ℕ) × (j : ℕ) × (i < lanes) × (j < jobs) × Carries (ends i j) f × For k f) → SettledIn job reports (name_at mode k) f
  settled-over k f s =
      let r = report-at s.0 s.2 in (
        r.0,
        at-found reports s.0 r.0 r.1,
        (end_at r.0 s.1, Contains-get_or r.0.ends s.1 end.NotServed (omega (arith, are.ends_size s.0 r.0 r.1)), subst (λ e. Carries e f) (sym (are.ends_are s.0 s.1 r.0 r.1 s.3)) s.4),
        for_name k f s.5,
      )

  settled-back : (k : ℕ) (f : T) → SettledIn job reports (name_at mode k) f → (i : ℕ) × (j : ℕ) × (i < lanes) × (j < jobs) × Carries (ends i j) f × For k f
  settled-back k f s =
      let r = found-at reports s.0 s.1 in
      let il = (are.places r.0 s.0 r.1).1 in
      let jl : s.2.1.0 < jobs = omega (arith, are.ends_size r.0 s.0 r.1, s.2.1.1) in
      let is : end_at s.0 s.2.1.0 ≡ s.2.0 = get_or_default s.0.ends s.2.1.0 end.NotServed s.2.0 s.2.1.1 ∙ s.2.1.2 in
      let c : Carries (ends r.0 s.2.1.0) f = subst (λ e. Carries e f) (sym is ∙ are.ends_are r.0 s.2.1.0 s.0 r.1 jl) s.2.2 in
      let x = found r.0 s.2.1.0 f il jl c in
      (r.0, s.2.1.0, il, jl, c, for_here k x.0 f x.1 s.3)

  entry : (k : ℕ) (o : Option Answer) → IsAnswer answer (λ f. SettledIn job reports (name_at mode k) f) o
      → IsEntry answer (λ f. (i : ℕ) × (j : ℕ) × (i < lanes) × (j < jobs) × Carries (ends i j) f × For k f) o
  entry k (Some a) h = (h.0, settled-back k h.0 h.1, h.2)
  entry k None h = λ f s. h f (settled-over k f s)

  unsettled : (k : ℕ) (o : Option Answer) → IsEntry answer (λ f. (i : ℕ) × (j : ℕ) × (i < lanes) × (j < jobs) × Carries (ends i j) f × For k f) o
      → ((f : T) → ((i : ℕ) × (j : ℕ) × (i < lanes) × (j < jobs) × Carries (ends i j) f × For k f) → ⊥) → o ≡ None
  unsettled k (Some a) h none = absurd (none h.0 h.1)
  unsettled k None h none = refl

  pub collected-status : (answers : List (Option Answer)) (printing : List (Option ℕ)) (s : Status) → IsOutcome job answer mode jobs reports answers printing s
      → TaskStatus mode answer lanes jobs (λ k f. (i : ℕ) × (j : ℕ) × (i < lanes) × (j < jobs) × Carries (ends i j) f × For k f) ends s
  collected-status answers printing s o = record {
    answers = answers;
    are_answers = record { size = o.are_answers.size; entry = λ k x at. entry k x (o.are_answers.entry k x at) };
    decided = o.has_status.decided;
    decides = o.has_status.decides;
    events = o.has_status.events;
    are_events = record {
      come = λ e c.
          let x = o.has_status.come e c in
          let r = found-at reports x.0 x.2 in
          let kl : x.1 < jobs = omega (arith, slice_get_within answers x.1 None x.3, o.are_answers.size) in
          (r.0, x.1, (are.places r.0 x.0 r.1).1, kl, entry x.1 None (o.are_answers.entry x.1 None x.3), ap (λ y. told_by y) (sym (are.ends_are r.0 x.1 x.0 r.1 kl)) ∙ x.4);
      all = λ i k il kl none.
          let r = report-at i il in
          let there = slice_get-get_or answers k None (omega (arith, o.are_answers.size)) in
          let is = unsettled k (get_or answers k None) (entry k (get_or answers k None) (o.are_answers.entry k (get_or answers k None) there)) none in
          subst (λ y. Contains o.has_status.events (told_by y)) (are.ends_are i k r.0 r.1 kl)
          (o.has_status.all r.0 k (at-found reports i r.0 r.1) (there ∙ ap (λ (y : Option Answer). Some y) is));
    };
    has_status = o.has_status.has_status;
  }
