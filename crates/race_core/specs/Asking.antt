-- Which findings make a job needless, and which skip one that isn't started.
use Rattle.std.specs.Prelude.{ℕ, zero, suc, Bool, true, false, ◌==◌}
use Rattle.std.proofs.Common.{not, leb, ◌&&◌}
use Rattle.race_core.specs.Parts.{Terms}
use Rattle.race_core.specs.declared.step.JobTerms.{JobTerms}
use Rattle.sby_terms.specs.declared.names.Mode.{Mode}
use Rattle.sby_terms.specs.declared.names.Mode.TheVariants as mode
use Rattle.sby_terms.specs.declared.names.JobName.{JobName}
use Rattle.sby_terms.specs.declared.names.JobName.TheVariants as name
use Rattle.sby_terms.specs.declared.names.JobName.TheVariants.{Base, Step, Inv, Cover}
use Rattle.sby_terms.specs.declared.names.Answer.{Answer}
use Rattle.sby_terms.specs.declared.names.Answer.TheVariants.{Sat, Unsat}

-- a finding for this job with this answer makes that job needless: one for the job itself, and for Step or Inv one that Base is Sat
abbrev pub needless_by : JobName → Answer → JobName → Bool
needless_by (Base m) a (Base n) = m == n
needless_by (Base m) Sat Step = m == 0
needless_by (Base m) Unsat Step = false
needless_by (Base m) Sat Inv = m == 0
needless_by (Base m) Unsat Inv = false
needless_by (Base m) a (Cover n) = false
needless_by Step a (Base n) = false
needless_by Step a Step = true
needless_by Step a Inv = false
needless_by Step a (Cover n) = false
needless_by Inv a (Base n) = false
needless_by Inv a Step = false
needless_by Inv a Inv = true
needless_by Inv a (Cover n) = false
needless_by (Cover m) a (Base n) = false
needless_by (Cover m) a Step = false
needless_by (Cover m) a Inv = false
needless_by (Cover m) a (Cover n) = m == n

-- a finding for this job with this answer skips that job before its start: one that makes it needless, and for a slice one that an
-- earlier slice is Sat
abbrev pub skipped_by : JobName → Answer → JobName → Bool
skipped_by (Base m) Sat (Base n) = leb m n
skipped_by (Base m) Unsat (Base n) = m == n
skipped_by (Base m) Sat Step = m == 0
skipped_by (Base m) Unsat Step = false
skipped_by (Base m) Sat Inv = m == 0
skipped_by (Base m) Unsat Inv = false
skipped_by (Base m) a (Cover n) = false
skipped_by Step a (Base n) = false
skipped_by Step a Step = true
skipped_by Step a Inv = false
skipped_by Step a (Cover n) = false
skipped_by Inv a (Base n) = false
skipped_by Inv a Step = false
skipped_by Inv a Inv = true
skipped_by Inv a (Cover n) = false
skipped_by (Cover m) a (Base n) = false
skipped_by (Cover m) a Step = false
skipped_by (Cover m) a Inv = false
skipped_by (Cover m) a (Cover n) = m == n

abbrev pub is_needless : {T : Type 0} → (T → JobName) → (T → Answer) → JobTerms → T → Bool
is_needless job answer a f = not a.wait && needless_by (job f) (answer f) a.job

abbrev pub is_skipped : {T : Type 0} → (T → JobName) → (T → Answer) → JobTerms → T → Bool
is_skipped job answer a f = not a.wait && skipped_by (job f) (answer f) a.job

-- what a job's first state keeps, as the steps see it
abbrev pub terms_of : {T : Type 0} → (T → JobName) → (T → Answer) → JobTerms → Terms T
terms_of job answer a = record { cell = a.cell; needless = is_needless job answer a; skipped = is_skipped job answer a; start = a.start; limit = a.limit }

-- the job at a place; past a task's jobs the names stand for nothing
abbrev pub name_at : Mode → ℕ → JobName
name_at mode.Bmc k = name.Base k
name_at mode.Prove zero = name.Base 0
name_at mode.Prove (suc zero) = name.Step
name_at mode.Prove (suc (suc k)) = name.Cover k
name_at mode.ProveInv zero = name.Base 0
name_at mode.ProveInv (suc zero) = name.Inv
name_at mode.ProveInv (suc (suc k)) = name.Cover k
name_at mode.Cover k = name.Cover k
