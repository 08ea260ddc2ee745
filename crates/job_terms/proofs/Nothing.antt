-- Jobs over no statement, and over some frame.
use Rattle.std.proofs.Common.{◌≡◌, ℕ, zero, suc, ◌<◌, List, [], Option, Some, None, refl, subst, arith}
use Rattle.std.specs.Prelude.{slice_get, Contains, ◌↔◌}
use Rattle.cnf_form.specs.Cnf.{Assignment, LitOf, Satisfies}
use Rattle.model_core.specs.Shape.{ModelOf}
use Rattle.model_core.specs.Meaning.{Cycle, Broken, Reached}
use Rattle.model_core.specs.declared.model.Statement.{Statement}
use Rattle.sby_terms.specs.Span.{IsSpan, IsStride, last_from}
use Rattle.sby_terms.specs.declared.names.JobName.{JobName}
use Rattle.sby_terms.specs.declared.names.JobName.TheVariants.{Base, Step, Inv, Cover}
use Rattle.sby_terms.specs.declared.span.Span.{Span}
use Rattle.job_terms.specs.Encoding.{CanBeSatisfied, empty_job}
use Rattle.job_terms.specs.Jobs.{AsksNothing, Solvable, frames}

nothing : (l : LitOf) → Contains (let c : List LitOf = [] in c) l → ⊥
nothing l c = let h = c.1 in omega arith

-- the empty clause has no true literal
pub empty_unsatisfied : (x : Assignment) → Satisfies x empty_job.clauses → ⊥
empty_unsatisfied x s = let t = s [] (0, omega arith, refl) in nothing t.0 t.1

-- where nothing is asked there is nothing to be met
none_broken : (m : ModelOf) (c : Cycle) (a : ℕ) → m.asserts ≡ [] → Broken m c a → ⊥
none_broken m c a none b = let e : slice_get (let xs : List Statement = [] in xs) a ≡ Some b.0 = subst (λ (xs : List Statement). slice_get xs a ≡ Some b.0) none b.1 in let z : None ≡ Some b.0 = e in cc

none_reached : (m : ModelOf) (c : Cycle) (k : ℕ) → m.covers ≡ [] → Reached m c k → ⊥
none_reached m c k none b = let e : slice_get (let xs : List Statement = [] in xs) k ≡ Some b.0 = subst (λ (xs : List Statement). slice_get xs k ≡ Some b.0) none b.1 in let z : None ≡ Some b.0 = e in cc

pub unsolvable : (m : ModelOf) (job : JobName) (span : Span) → AsksNothing m job → Solvable m job span → ⊥
unsolvable m (Base i) span none (n, cs, a, low, high, shows) = by n shows.last (omega arith)
  where
    by : (k : ℕ) → ((t : ℕ) → suc t ≡ k → Broken m (cs t) a) → 0 < k → ⊥
    by zero last p = absurd (omega arith)
    by (suc t) last p = none_broken m (cs t) a none (last t refl)
unsolvable m Step span none (cs, a, shows) = none_broken m (cs span.depth) a none shows.last
unsolvable m Inv span none (n, cs, a, shows) = by n shows.last shows.run.window.some
  where
    by : (k : ℕ) → ((t : ℕ) → suc t ≡ k → Broken m (cs t) a) → 0 < k → ⊥
    by zero last p = absurd (omega arith)
    by (suc t) last p = none_broken m (cs t) a none (last t refl)
unsolvable m (Cover k) span none (n, cs, high, shows) = by n shows.last shows.run.window.some
  where
    by : (j : ℕ) → ((t : ℕ) → suc t ≡ j → Reached m (cs t) k) → 0 < j → ⊥
    by zero last p = absurd (omega arith)
    by (suc t) last p = none_reached m (cs t) k none (last t refl)

pub empty_solvable : (m : ModelOf) (job : JobName) (span : Span) → AsksNothing m job → CanBeSatisfied empty_job ↔ Solvable m job span
empty_solvable m job span none = ((λ p. absurd (empty_unsatisfied p.0 p.1)), (λ s. absurd (unsolvable m job span none s)))

-- a job looks at some frame
last_some : (skip depth i : ℕ) (o : Option ℕ) → skip < depth → IsStride o → 0 < last_from skip depth o i
last_some skip depth i None h s = omega arith
last_some skip depth i (Some stride) h s = omega arith

pub frames_some : (job : JobName) (span : Span) → IsSpan span → 0 < frames job span
frames_some (Base i) span is = last_some span.skip span.depth i span.stride is.some is.stride
frames_some Step span is = omega arith
frames_some Inv span is = omega arith
frames_some (Cover k) span is = let s = is.some in omega arith
