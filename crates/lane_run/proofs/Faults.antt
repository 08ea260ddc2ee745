-- The counts of failed calls, over a lane's jobs.
use Rattle.std.proofs.Common.{◌≡◌, ◌⊎◌, inl, inr, ℕ, ◌+◌, ◌<◌, ◌≤◌, List, [], ◌∷◌, ◌++◌, length, get_or, sym, ap, subst, ◌∙◌, arith}
use Rattle.std.proofs.lemmas.List.{get_or-append-add, get_or_append_left}
use Rattle.sby_edge.specs.Cause.{CountsOf, Rose}
use Rattle.lane_run.specs.Starting.{NoStart}
use Rattle.race_core.specs.Consistent.{end_at}
use Rattle.race_core.specs.Ends.{IsLast}
use Rattle.race_core.specs.Report.{ReportOf}
use Rattle.race_core.specs.declared.end.JobEnd.{JobEnd}
use Rattle.race_core.specs.declared.end.JobEnd.TheVariants as end
use Rattle.lane_run.specs.Done.{JobFaults, LaneFaults}

-- a count that rose between two moments rose between others around them
rose_later : (before between now : ℕ) → Rose before between → between ≤ now → Rose before now
rose_later before between now h k = omega (h, k, arith)

rose_earlier : (before between now : ℕ) → before ≤ between → Rose between now → Rose before now
rose_earlier before between now h k = omega (h, k, arith)

-- a job that wasn't started failed no call
pub none_failed : {T : Type 0} (now : CountsOf) (e : JobEnd T) → NoStart e → JobFaults now now e
none_failed {T} now e none = record {
  later = (omega arith, omega arith, omega arith);
  start = λ is. absurd (subst (λ (x : JobEnd T). NoStart x) is none);
  read = λ is. absurd (subst (λ (x : JobEnd T). NoStart x) is none);
  hold = λ is. absurd (subst (λ (x : JobEnd T). NoStart x) is none);
}

-- nor does one after an end that ended the lane's work
pub late_failed : {T : Type 0} (now : CountsOf) (e : JobEnd T) → IsLast e → JobFaults now now e
late_failed {T} now e last = record {
  later = (omega arith, omega arith, omega arith);
  start = λ is. absurd (subst (λ (x : JobEnd T). IsLast x) is last);
  read = λ is. absurd (subst (λ (x : JobEnd T). IsLast x) is last);
  hold = λ is. absurd (subst (λ (x : JobEnd T). IsLast x) is last);
}

-- one more job
pub faults_more : {T : Type 0} (before mid now : CountsOf) (n : ℕ) (r r' : ReportOf T) (e : JobEnd T) → LaneFaults before mid n r → length r.ends ≡ n → r'.ends ≡ r.ends ++ e ∷ []
    → JobFaults mid now e → LaneFaults before now (n + 1) r'
faults_more {T} before mid now n r r' e lane many is job = record {
  later = later;
  each = λ j lt. elim (split j lt) [
    | inl less ↦ subst (λ (x : JobEnd T). JobFaults before now x) (sym (ended j less)) (longer (end_at r j) (lane.each j less))
    | inr same ↦ subst (λ (x : JobEnd T). JobFaults before now x) (sym (ap (λ (k : ℕ). end_at r' k) same ∙ new_end)) earlier
  ];
}
  where
    later : (before.starts ≤ now.starts) × (before.reads ≤ now.reads) × (before.holds ≤ now.holds)
    later = (omega (lane.later.0, job.later.0, arith), omega (lane.later.1, job.later.1, arith), omega (lane.later.2, job.later.2, arith))

    split : (j : ℕ) → j < n + 1 → (j < n) ⊎ (j ≡ n)
    split j lt = grind (arith, lt)

    ended : (j : ℕ) → j < n → end_at r' j ≡ end_at r j
    ended j lt = ap (λ (l : List (JobEnd T)). get_or l j end.NotServed) is ∙ get_or_append_left r.ends (e ∷ []) end.NotServed j (omega (lt, many, arith))

    new_end : end_at r' n ≡ e
    new_end = ap (λ (l : List (JobEnd T)). get_or l n end.NotServed) is
        ∙ subst (λ (k : ℕ). get_or (r.ends ++ e ∷ []) k end.NotServed ≡ e) (omega (many, arith)) (get_or-append-add r.ends (e ∷ []) 0 end.NotServed)

    longer : (x : JobEnd T) → JobFaults before mid x → JobFaults before now x
    longer x f = record {
      later = later;
      start = λ at. rose_later before.starts mid.starts now.starts (f.start at) job.later.0;
      read = λ at. rose_later before.reads mid.reads now.reads (f.read at) job.later.1;
      hold = λ at. rose_later before.holds mid.holds now.holds (f.hold at) job.later.2;
    }

    earlier : JobFaults before now e
    earlier = record {
      later = later;
      start = λ at. rose_earlier before.starts mid.starts now.starts lane.later.0 (job.start at);
      read = λ at. rose_earlier before.reads mid.reads now.reads lane.later.1 (job.read at);
      hold = λ at. rose_earlier before.holds mid.holds now.holds lane.later.2 (job.hold at);
    }
