use Rattle.std.proofs.Common.{◌≡◌, ◌⊎◌, inl, inr, ◌<◌, Some, length, subst, sym}
use Rattle.std.specs.Prelude.{slice_get}
use Rattle.design_core.specs.Shape.{DesignOf}
use Rattle.sby_terms.specs.Span.{slices_of}
use Rattle.sby_terms.specs.declared.names.JobName.TheVariants.{Base}
use Rattle.sby_terms.specs.declared.names.Mode.{Mode}
use Rattle.sby_terms.specs.declared.names.Mode.TheVariants.{Bmc, Prove, ProveInv}
use Rattle.sby_terms.specs.declared.span.Span.{Span}
use Rattle.judge.proofs.Problems.{first-numbered}
use Rattle.judge.proofs.basis.first_job.Goals as goal
use Rattle.judge.specs.Jobs.{jobs_in}

-- the first job of this mode, where it has jobs
abbrev BeginsWith : Mode → Type 0
BeginsWith mode = (span : Span) (d : DesignOf) → 0 < length (jobs_in mode span d) → slice_get (jobs_in mode span d) 0 ≡ Some (Base 0)

by_mode : (mode : Mode) → (mode ≡ Bmc) ⊎ ((mode ≡ Prove) ⊎ (mode ≡ ProveInv)) → BeginsWith mode
by_mode mode (inl is) = subst BeginsWith (sym is) (λ span d some. first-numbered Base (slices_of span) some)
by_mode mode (inr (inl is)) = subst BeginsWith (sym is) (λ span d some. cc)
by_mode mode (inr (inr is)) = subst BeginsWith (sym is) (λ span d some. cc)

pub returns-in-Bmc : goal.returns-in-Bmc
returns-in-Bmc c = by_mode c.args.mode c.in-Bmc.is
