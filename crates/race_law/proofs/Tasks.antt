-- The theorem for the jobs of a task.
use Rattle.race_core.specs.Carrying.{Carries}
use Rattle.std.proofs.Common.{◌≡◌, ◌⊎◌, ℕ, zero, suc, ◌<◌, Bool, true, false, not, leb, ◌&&◌, ◌||◌, List, Option, Some, refl, sym, ap, ◌∙◌, subst, inl, inr, arith}
use Rattle.std.specs.Prelude.{slice_get}
use Rattle.sby_terms.specs.Problem.{ProblemOf}
use Rattle.sby_terms.specs.Decide.{Decides}
use Rattle.sby_terms.specs.declared.names.Mode.{Mode}
use Rattle.sby_terms.specs.declared.names.Mode.TheVariants as mode
use Rattle.sby_terms.specs.declared.names.JobName.{JobName}
use Rattle.sby_terms.specs.declared.names.JobName.TheVariants as name
use Rattle.sby_terms.specs.declared.names.Answer.{Answer}
use Rattle.sby_terms.specs.declared.names.Answer.TheVariants as answer
use Rattle.sby_terms.specs.declared.names.Verdict.{Verdict}
use Rattle.sby_terms.specs.declared.names.Verdict.TheVariants as verdict
use Rattle.sby_terms.specs.declared.names.Status.{Status}
use Rattle.race_core.specs.Asking.{needless_by, skipped_by, name_at}
use Rattle.race_law.specs.World.{Script, Serves, World, Step, WorldRun, IsNew, QuietRun, IsRace, ends_job}
use Rattle.race_law.specs.Invariant.{PlainHas, Inv}
use Rattle.race_law.specs.Ended.{AllEnded, IsCalm, RaceHas, plain_end}
use Rattle.race_law.specs.Status.{TaskStatus, RaceSettles, PlainSettles}
use Rattle.race_law.specs.Theorem.{TaskOf, IsFor, IsBefore, DecidesAway, race_of, AreScripts, Agree, WasFound}
use Rattle.race_core.specs.declared.end.JobEnd.{JobEnd}
use Rattle.race_law.proofs.Running.{runs-keep}
use Rattle.race_law.proofs.Claims.{race-plain, plain-race, ends-plain}
use Rattle.race_law.proofs.Deciding.{Has, same-status}
use Rattle.race_core.specs.Report.{ReportOf}
use Rattle.race_core.specs.Consistent.{Consistent, AreOf}
use Rattle.race_core.specs.Collect.{IsOutcome}
use Rattle.race_law.proofs.Bridging.{at-found, collected-status}
use Rattle.race_law.proofs.Reports.{consistent}
use Rattle.race_law.proofs.Whole.{all-agree, all-found}

-- what makes a job needless is for it, or decides it away
needless-cases : (j : JobName) (a : Answer) (k : JobName) → needless_by j a k ≡ true → (j ≡ k) ⊎ ((a ≡ answer.Sat) × IsBefore j k)
needless-cases (name.Base m) a (name.Base n) h = inl (let e : m ≡ n = grind arith in ap (λ (x : ℕ). name.Base x) e)
needless-cases (name.Base m) answer.Sat name.Step h = inr (let e : m ≡ 0 = grind arith in (refl, e))
needless-cases (name.Base m) answer.Unsat name.Step h = absurd (let e : false ≡ true = h in cc)
needless-cases (name.Base m) answer.Sat name.Inv h = inr (let e : m ≡ 0 = grind arith in (refl, e))
needless-cases (name.Base m) answer.Unsat name.Inv h = absurd (let e : false ≡ true = h in cc)
needless-cases (name.Base m) a (name.Cover n) h = absurd (let e : false ≡ true = h in cc)
needless-cases name.Step a name.Step h = inl refl
needless-cases name.Step a (name.Base n) h = absurd (let e : false ≡ true = h in cc)
needless-cases name.Step a (name.Cover n) h = absurd (let e : false ≡ true = h in cc)
needless-cases name.Step a name.Inv h = absurd (let e : false ≡ true = h in cc)
needless-cases name.Inv a name.Inv h = inl refl
needless-cases name.Inv a (name.Base n) h = absurd (let e : false ≡ true = h in cc)
needless-cases name.Inv a name.Step h = absurd (let e : false ≡ true = h in cc)
needless-cases name.Inv a (name.Cover n) h = absurd (let e : false ≡ true = h in cc)
needless-cases (name.Cover m) a (name.Cover n) h = inl (let e : m ≡ n = grind arith in ap (λ (x : ℕ). name.Cover x) e)
needless-cases (name.Cover m) a (name.Base n) h = absurd (let e : false ≡ true = h in cc)
needless-cases (name.Cover m) a name.Step h = absurd (let e : false ≡ true = h in cc)
needless-cases (name.Cover m) a name.Inv h = absurd (let e : false ≡ true = h in cc)

up-to : (m n : ℕ) → leb m n ≡ true → (m ≡ n) ⊎ (m < n)
up-to m n h = grind (arith, h)

-- so is what skips it
skipped-cases : (j : JobName) (a : Answer) (k : JobName) → skipped_by j a k ≡ true → (j ≡ k) ⊎ ((a ≡ answer.Sat) × IsBefore j k)
skipped-cases (name.Base m) answer.Sat (name.Base n) h = elim (up-to m n h) [ inl e ↦ inl (ap (λ (x : ℕ). name.Base x) e) | inr lt ↦ inr (refl, lt) ]
skipped-cases (name.Base m) answer.Unsat (name.Base n) h = inl (let e : m ≡ n = grind arith in ap (λ (x : ℕ). name.Base x) e)
skipped-cases (name.Base m) answer.Sat name.Step h = inr (let e : m ≡ 0 = grind arith in (refl, e))
skipped-cases (name.Base m) answer.Unsat name.Step h = absurd (let e : false ≡ true = h in cc)
skipped-cases (name.Base m) answer.Sat name.Inv h = inr (let e : m ≡ 0 = grind arith in (refl, e))
skipped-cases (name.Base m) answer.Unsat name.Inv h = absurd (let e : false ≡ true = h in cc)
skipped-cases (name.Base m) a (name.Cover n) h = absurd (let e : false ≡ true = h in cc)
skipped-cases name.Step a name.Step h = inl refl
skipped-cases name.Step a (name.Base n) h = absurd (let e : false ≡ true = h in cc)
skipped-cases name.Step a (name.Cover n) h = absurd (let e : false ≡ true = h in cc)
skipped-cases name.Step a name.Inv h = absurd (let e : false ≡ true = h in cc)
skipped-cases name.Inv a name.Inv h = inl refl
skipped-cases name.Inv a (name.Base n) h = absurd (let e : false ≡ true = h in cc)
skipped-cases name.Inv a name.Step h = absurd (let e : false ≡ true = h in cc)
skipped-cases name.Inv a (name.Cover n) h = absurd (let e : false ≡ true = h in cc)
skipped-cases (name.Cover m) a (name.Cover n) h = inl (let e : m ≡ n = grind arith in ap (λ (x : ℕ). name.Cover x) e)
skipped-cases (name.Cover m) a (name.Base n) h = absurd (let e : false ≡ true = h in cc)
skipped-cases (name.Cover m) a name.Step h = absurd (let e : false ≡ true = h in cc)
skipped-cases (name.Cover m) a name.Inv h = absurd (let e : false ≡ true = h in cc)

either : (a b : Bool) → a || b ≡ true → (a ≡ true) ⊎ (b ≡ true)
either true b h = inl refl
either false b h = inr h

both : (a b : Bool) → a && b ≡ true → b ≡ true
both true b h = h
both false b h = absurd (let e : false ≡ true = h in cc)

base-step : (j : JobName) (i : ℕ) → j ≡ name.Base i → j ≡ name.Step → ⊥
base-step j i d e = cc

base-inv : (j : JobName) (i : ℕ) → j ≡ name.Base i → j ≡ name.Inv → ⊥
base-inv j i d e = cc

base-cover : (j : JobName) (i k : ℕ) → j ≡ name.Base i → j ≡ name.Cover k → ⊥
base-cover j i k d e = cc

step-cover : (j : JobName) (k : ℕ) → j ≡ name.Step → j ≡ name.Cover k → ⊥
step-cover j k d e = cc

inv-cover : (j : JobName) (k : ℕ) → j ≡ name.Inv → j ≡ name.Cover k → ⊥
inv-cover j k d e = cc

cover-same : (m n : ℕ) → name.Cover m ≡ name.Cover n → m ≡ n
cover-same m n e = cc

base-same : (m n : ℕ) → name.Base m ≡ name.Base n → m ≡ n
base-same m n e = cc

one-name : (m : Mode) (j k : ℕ) → name_at m j ≡ name_at m k → j ≡ k
one-name mode.Bmc j k e = base-same j k e
one-name mode.Prove zero zero e = refl
one-name mode.Prove zero (suc zero) e = absurd (base-step (name.Base 0) 0 refl e)
one-name mode.Prove zero (suc (suc k)) e = absurd (base-cover (name.Base 0) 0 k refl e)
one-name mode.Prove (suc zero) zero e = absurd (base-step (name.Base 0) 0 refl (sym e))
one-name mode.Prove (suc zero) (suc zero) e = refl
one-name mode.Prove (suc zero) (suc (suc k)) e = absurd (step-cover name.Step k refl e)
one-name mode.Prove (suc (suc j)) zero e = absurd (base-cover (name.Base 0) 0 j refl (sym e))
one-name mode.Prove (suc (suc j)) (suc zero) e = absurd (step-cover name.Step j refl (sym e))
one-name mode.Prove (suc (suc j)) (suc (suc k)) e = ap (λ (x : ℕ). suc (suc x)) (cover-same j k e)
one-name mode.ProveInv zero zero e = refl
one-name mode.ProveInv zero (suc zero) e = absurd (base-inv (name.Base 0) 0 refl e)
one-name mode.ProveInv zero (suc (suc k)) e = absurd (base-cover (name.Base 0) 0 k refl e)
one-name mode.ProveInv (suc zero) zero e = absurd (base-inv (name.Base 0) 0 refl (sym e))
one-name mode.ProveInv (suc zero) (suc zero) e = refl
one-name mode.ProveInv (suc zero) (suc (suc k)) e = absurd (inv-cover name.Inv k refl e)
one-name mode.ProveInv (suc (suc j)) zero e = absurd (base-cover (name.Base 0) 0 j refl (sym e))
one-name mode.ProveInv (suc (suc j)) (suc zero) e = absurd (inv-cover name.Inv j refl (sym e))
one-name mode.ProveInv (suc (suc j)) (suc (suc k)) e = ap (λ (x : ℕ). suc (suc x)) (cover-same j k e)
one-name mode.Cover j k e = cover-same j k e

-- what is before one that is before a third is before that one
before-through : (a b c : JobName) → IsBefore a b → IsBefore b c → IsBefore a c
before-through (name.Base m) (name.Base n) (name.Base k) h i = omega (h, i, arith)
before-through (name.Base m) (name.Base n) name.Step h i = absurd (omega (h, i, arith))
before-through (name.Base m) (name.Base n) name.Inv h i = absurd (omega (h, i, arith))
before-through (name.Base m) (name.Base n) (name.Cover k) h i = absurd i
before-through (name.Base m) name.Step c h i = absurd i
before-through (name.Base m) name.Inv c h i = absurd i
before-through (name.Base m) (name.Cover n) c h i = absurd h
before-through name.Step b c h i = absurd h
before-through name.Inv b c h i = absurd h
before-through (name.Cover m) b c h i = absurd h

-- one that is Sat, of a job that is before another, decides the task
before-fails : (m : Mode) (k l : ℕ) → IsBefore (name_at m l) (name_at m k) → (answers : List (Option Answer)) → slice_get answers l ≡ Some (Some answer.Sat) → Decides m answers verdict.Fail
before-fails mode.Bmc k l h answers at = at-found answers l (Some answer.Sat) at
before-fails mode.Prove k zero h answers at = at
before-fails mode.Prove k (suc zero) h answers at = absurd h
before-fails mode.Prove k (suc (suc l)) h answers at = absurd h
before-fails mode.ProveInv k zero h answers at = at
before-fails mode.ProveInv k (suc zero) h answers at = absurd h
before-fails mode.ProveInv k (suc (suc l)) h answers at = absurd h
before-fails mode.Cover k l h answers at = absurd h

module _ {T : Type 0} (problem : T → ProblemOf) (job : T → JobName) (answer_of : T → Answer) (is_true : T → Type 0)
    (one_answer : (a b : T) → is_true a → is_true b → problem a ≡ problem b → job a ≡ job b → answer_of a ≡ answer_of b)
    (task : TaskOf) (script : ℕ → ℕ → Option (Script T)) (are : AreScripts (IsFor problem job is_true task) task script) where
  For : ℕ → T → Type 0
  For = IsFor problem job is_true task

  Away : ℕ → T → Type 0
  Away = DecidesAway job answer_of task

  same-answer : (k : ℕ) (f g : T) → IsFor problem job is_true task k f → IsFor problem job is_true task k g → answer_of f ≡ answer_of g
  same-answer k f g a b = one_answer f g a.holds b.holds (a.of_problem ∙ sym b.of_problem) (a.of_job ∙ sym b.of_job)

  alike : (j c : ℕ) (f g : T) → IsFor problem job is_true task c f → IsFor problem job is_true task c g → DecidesAway job answer_of task j g → DecidesAway job answer_of task j f
  alike j c f g a b d = record {
    sat = same-answer c f g a b ∙ d.sat;
    before = subst (λ (n : JobName). IsBefore n (name_at task.mode j)) (b.of_job ∙ sym a.of_job) d.before;
  }

  -- a finding that ends a job, before its start or after it
  ends-cases : (j : ℕ) (f : T) → ends_job ((race_of job answer_of task script).terms j) f ≡ true → (job f ≡ name_at task.mode j) ⊎ ((answer_of f ≡ answer.Sat) × IsBefore (job f) (name_at task.mode j))
  ends-cases j f n = elim (either (not task.wait && skipped_by (job f) (answer_of f) (name_at task.mode j)) (not task.wait && needless_by (job f) (answer_of f) (name_at task.mode j)) n) [
    | inl s ↦ skipped-cases (job f) (answer_of f) (name_at task.mode j) (both (not task.wait) _ s)
    | inr m ↦ needless-cases (job f) (answer_of f) (name_at task.mode j) (both (not task.wait) _ m)
  ]

  is-race : IsRace (IsFor problem job is_true task) (DecidesAway job answer_of task) (race_of job answer_of task script)
  is-race = record {
    within = are.within;
    scripts = are.are;
    needless = λ j c f n for. elim (ends-cases j f n) [
      | inl e ↦ inl (subst (λ (x : ℕ). IsFor problem job is_true task x f) (one-name task.mode c j (sym for.of_job ∙ e)) for)
      | inr e ↦ inr (record { sat = e.0; before = e.1 })
    ];
    for_job = λ j f for. for.within;
    one_job = λ j k f a b. one-name task.mode j k (sym a.of_job ∙ b.of_job);
    alike = alike;
    onward = λ j c f g for away far. record {
      sat = away.sat;
      before = before-through (job f) (name_at task.mode c) (name_at task.mode j) away.before (subst (λ (n : JobName). IsBefore n (name_at task.mode j)) for.of_job far.before);
    };
  }

  decides : (k l : ℕ) (f : T) → IsFor problem job is_true task l f → DecidesAway job answer_of task k f → (answers : List (Option Answer))
      → slice_get answers l ≡ Some (Some (answer_of f)) → Decides task.mode answers verdict.Fail
  decides k l f for away answers at = before-fails task.mode k l (subst (λ (n : JobName). IsBefore n (name_at task.mode k)) for.of_job away.before) answers (at ∙ ap (λ (a : Answer). Some (Some a)) away.sat)

  module _ (w v : World T) (ss : List (Step T)) (new : IsNew w) (run : WorldRun (race_of job answer_of task script) w ss v) where
    pub run-agrees : Agree v
    run-agrees = all-agree (IsFor problem job is_true task) (DecidesAway job answer_of task) (race_of job answer_of task script) v
        (runs-keep (IsFor problem job is_true task) (DecidesAway job answer_of task) (Unit {0}) (race_of job answer_of task script) is-race w v ss new run (inr tt))

    module _ (ends : ℕ → ℕ → JobEnd T) (ended : AllEnded (race_of job answer_of task script) v ends) where
      pub run-found : (i j : ℕ) (f : T) → i < task.lanes → j < task.jobs → Carries (ends i j) f → WasFound (IsFor problem job is_true task) v f
      run-found = all-found (IsFor problem job is_true task) (DecidesAway job answer_of task) (race_of job answer_of task script) v
          (runs-keep (IsFor problem job is_true task) (DecidesAway job answer_of task) (Unit {0}) (race_of job answer_of task script) is-race w v ss new run (inr tt)) ends ended

      pub run-consistent : (reports : List (ReportOf T)) → AreOf v.events ends task.lanes task.jobs reports
          → Consistent (IsFor problem job is_true task) (Serves script) (race_of job answer_of task script).terms task.lanes task.jobs reports
      run-consistent reports of = consistent (IsFor problem job is_true task) (DecidesAway job answer_of task) (race_of job answer_of task script) v
          (runs-keep (IsFor problem job is_true task) (DecidesAway job answer_of task) (Unit {0}) (race_of job answer_of task script) is-race w v ss new run (inr tt))
          run-agrees ends ended run-found reports of

      -- what is collected from the reports is the race's status
      pub run-collected : (reports : List (ReportOf T)) → AreOf v.events ends task.lanes task.jobs reports → (answers : List (Option Answer)) (printing : List (Option ℕ)) (s : Status)
          → IsOutcome job answer_of task.mode task.jobs reports answers printing s
          → TaskStatus task.mode answer_of task.lanes task.jobs (RaceSettles (IsFor problem job is_true task) (race_of job answer_of task script) ends) ends s
      run-collected reports of = collected-status job answer_of task.mode (IsFor problem job is_true task) (λ k f for. for.of_job)
          (λ k c f for e. subst (λ (x : ℕ). IsFor problem job is_true task x f) (one-name task.mode c k (sym for.of_job ∙ e)) for)
          v.events ends task.lanes task.jobs reports of (λ i j f il jl c. let x = run-found i j f il jl c in (x.1, x.2))

      module _ (quiet : QuietRun (race_of job answer_of task script) ss) (calm : (i j : ℕ) → i < task.lanes → j < task.jobs → IsCalm (ends i j))
          (one_verdict : (answers : List (Option Answer)) (x y : Verdict) → Decides task.mode answers x → Decides task.mode answers y → x ≡ y) where
        inv : Inv (IsFor problem job is_true task) (DecidesAway job answer_of task) ⊥ (race_of job answer_of task script) v
        inv = runs-keep (IsFor problem job is_true task) (DecidesAway job answer_of task) ⊥ (race_of job answer_of task script) is-race w v ss new run (inl quiet)

        over : (k : ℕ) → Has (DecidesAway job answer_of task) (RaceSettles (IsFor problem job is_true task) (race_of job answer_of task script) ends) k
            → Has (DecidesAway job answer_of task) (PlainSettles (IsFor problem job is_true task) (race_of job answer_of task script)) k
        over k h =
            let has : PlainHas (IsFor problem job is_true task) (DecidesAway job answer_of task) (race_of job answer_of task script) k
            = race-plain (IsFor problem job is_true task) (DecidesAway job answer_of task) (race_of job answer_of task script) is-race v inv ends ended calm k
            (elim h [ inl o ↦ inl (o.1.0, o.1.1, o.0, o.1.2, o.1.3, o.1.4, o.1.5) | inr o ↦ inr (o.2.0, o.2.1, o.0, o.1, o.2.2, o.2.3, o.2.4, o.2.5, o.3) ]) in
            elim has [ inl o ↦ inl (o.2, (o.0, o.1, o.3, o.4, o.5)) | inr o ↦ inr (o.1, o.3, (o.0, o.2, o.4, o.5, o.6), o.7) ]

        back : (k : ℕ) → Has (DecidesAway job answer_of task) (PlainSettles (IsFor problem job is_true task) (race_of job answer_of task script)) k
            → Has (DecidesAway job answer_of task) (RaceSettles (IsFor problem job is_true task) (race_of job answer_of task script) ends) k
        back k h = elim (race-has k h) [
          | inl o ↦ inl (o.2, (o.0, o.1, o.3, o.4, o.5, o.6))
          | inr o ↦ inr (o.2, o.3, (o.0, o.1, o.4, o.5, o.6, o.7), o.8)
        ]
          where
            race-has : (k : ℕ) → Has (DecidesAway job answer_of task) (PlainSettles (IsFor problem job is_true task) (race_of job answer_of task script)) k → RaceHas (IsFor problem job is_true task) (DecidesAway job answer_of task) (race_of job answer_of task script) ends k
            race-has k h = plain-race (IsFor problem job is_true task) (DecidesAway job answer_of task) (race_of job answer_of task script) is-race v inv ends ended calm k
                (elim h [ inl o ↦ inl (o.1.0, o.1.1, o.0, o.1.2, o.1.3, o.1.4) | inr o ↦ inr (o.2.0, o.0, o.2.1, o.1, o.2.2, o.2.3, o.2.4, o.3) ])

        same-ends : (i k : ℕ) → i < task.lanes → k < task.jobs → (ends i k ≡ plain_end (script i k)) ⊎ Has (DecidesAway job answer_of task) (RaceSettles (IsFor problem job is_true task) (race_of job answer_of task script) ends) k
        same-ends i k il kl = elim (ends-plain (IsFor problem job is_true task) (DecidesAway job answer_of task) (race_of job answer_of task script) is-race v inv ends ended calm i k il kl) [
          | inl e ↦ inl e
          | inr h ↦ inr (elim h [ inl o ↦ inl (o.2, (o.0, o.1, o.3, o.4, o.5, o.6)) | inr o ↦ inr (o.2, o.3, (o.0, o.1, o.4, o.5, o.6, o.7), o.8) ])
        ]

        pub run-plain : (s t : Status) → TaskStatus task.mode answer_of task.lanes task.jobs (RaceSettles (IsFor problem job is_true task) (race_of job answer_of task script) ends) ends s
            → TaskStatus task.mode answer_of task.lanes task.jobs (PlainSettles (IsFor problem job is_true task) (race_of job answer_of task script)) (λ i k. plain_end (script i k)) t → s ≡ t
        run-plain s t x y = same-status task.mode answer_of (IsFor problem job is_true task) (DecidesAway job answer_of task) task.jobs same-answer (λ k f for. for.within) alike decides
            (RaceSettles (IsFor problem job is_true task) (race_of job answer_of task script) ends) (PlainSettles (IsFor problem job is_true task) (race_of job answer_of task script))
            (λ k f o. o.5) (λ k f o. o.4) over back x.answers y.answers x.are_answers y.are_answers one_verdict task.lanes ends (λ i k. plain_end (script i k)) same-ends
            x.decided y.decided x.events y.events s t x.are_events y.are_events x.decides y.decides x.has_status y.has_status
