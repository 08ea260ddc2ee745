-- The jobs of a problem, and their ends.
use Rattle.std.proofs.Common.{◌≡◌, ℕ, ◌+◌, ◌<◌, ◌≤◌, ◌^◌, List, [], ◌∷◌, ◌++◌, refl, ap, sym, ◌∙◌, subst, length, take, arith}
use Rattle.std.specs.Prelude.{Option, Some, slice_get}
use Rattle.std.proofs.lemmas.List.{length-take-le, take_all, take_more}
use Rattle.std.proofs.lemmas.Option.{get_or_from_slice_get, slice_get_within}
use Rattle.sby_edge.specs.Files.{Store}
use Rattle.design_core.specs.Shape.{DesignOf, IsDesign}
use Rattle.judge.specs.Finding.{FindingOf}
use Rattle.judge.specs.Jobs.{jobs_in as jobs_of_mode}
use Rattle.judge.specs.Problem.{AskedOf, IsProblem}
use Rattle.race_core.specs.declared.end.JobEnd.{JobEnd}
use Rattle.sby_terms.specs.Span.{IsSpan}
use Rattle.sby_terms.specs.declared.names.JobName.{JobName}
use Rattle.sby_terms.specs.declared.names.Mode.{Mode}
use Rattle.sby_terms.specs.declared.names.Mode.TheVariants.{Bmc, Prove, ProveInv, Cover as CoverMode}
use Rattle.sby_terms.specs.declared.span.Span.{Span}
use Rattle.sby_lines.proofs.PlaceLemmas.{cover_count, few_covers, slice_count}
use Rattle.sby_top.specs.Judged.{AreJudged}
use Rattle.sby_top.specs.Served.{jobs_in}
use Rattle.sby_top.specs.Steps.{IsPathJudged}

few_in : (mode : Mode) (span : Span) (d : DesignOf) → IsSpan span → IsDesign d → length (jobs_of_mode mode span d) ≤ 2 ^ 27
few_in Bmc span d is design = omega (arith, slice_count span d, is.few)
few_in Prove span d is design = omega arith
few_in ProveInv span d is design = omega arith
few_in CoverMode span d is design = omega (arith, cover_count span d, few_covers d design)

pub few_jobs : (p : AskedOf) → IsProblem p → length (jobs_in p) ≤ 2 ^ 27
few_jobs p is = few_in p.problem.mode p.problem.span p.design is.span.is_span is.design

pub take_at : {X : Type 0} (xs : List X) (n : ℕ) (x : X) → slice_get xs n ≡ Some x → take (n + 1) xs ≡ take n xs ++ x ∷ []
take_at xs n x is = take_more xs n x (slice_get_within xs n x is) ∙ ap (λ y. take n xs ++ y ∷ []) (get_or_from_slice_get xs n x x is)

-- ---- ends

-- one job more was judged
judged_more : (p : AskedOf) (told : Option Store) (jobs : List JobName) (paths : List (List ℕ)) (ends : List (JobEnd FindingOf)) (job : JobName) (end : JobEnd FindingOf) → AreJudged p told jobs paths ends
    → IsPathJudged p told job (slice_get paths (length jobs)) end → AreJudged p told (jobs ++ job ∷ []) paths (ends ++ end ∷ [])
judged_more p told [] [] ends job end judged next = rw judged (next, refl)
judged_more p told [] (path ∷ paths) ends job end judged next = rw judged (next, refl)
judged_more p told (j ∷ jobs) paths [] job end judged next = absurd judged
judged_more p told (j ∷ jobs) [] (e ∷ ends) job end judged next = (judged.0, judged_more p told jobs [] ends job end judged.1 next)
judged_more p told (j ∷ jobs) (path ∷ paths) (e ∷ ends) job end judged next = (judged.0, judged_more p told jobs paths ends job end judged.1 next)

pub judged_next : (p : AskedOf) (told : Option Store) (place : ℕ) (paths : List (List ℕ)) (ends : List (JobEnd FindingOf)) (end : JobEnd FindingOf) → AreJudged p told (take place (jobs_in p)) paths ends
    → ((job : JobName) × (slice_get (jobs_in p) place ≡ Some job) × IsPathJudged p told job (slice_get paths place) end)
    → AreJudged p told (take (place + 1) (jobs_in p)) paths (ends ++ end ∷ [])
judged_next p told place paths ends end judged next =
    let lt : place < length (jobs_in p) = slice_get_within (jobs_in p) place next.0 next.1 in
    let long : length (take place (jobs_in p)) ≡ place = length-take-le place (jobs_in p) (omega (arith, lt)) in
    subst (λ js. AreJudged p told js paths (ends ++ end ∷ [])) (sym (take_at (jobs_in p) place next.0 next.1))
    (judged_more p told (take place (jobs_in p)) paths ends next.0 end judged (subst (λ k. IsPathJudged p told next.0 (slice_get paths k) end) (sym long) next.2))

pub judged_all : (p : AskedOf) (told : Option Store) (place : ℕ) (paths : List (List ℕ)) (ends : List (JobEnd FindingOf)) → length (jobs_in p) ≤ place → AreJudged p told (take place (jobs_in p)) paths ends
    → AreJudged p told (jobs_in p) paths ends
judged_all p told place paths ends all judged = subst (λ js. AreJudged p told js paths ends) (take_all place (jobs_in p) all) judged

-- an end for each job
pub judged_count : (p : AskedOf) (told : Option Store) (jobs : List JobName) (paths : List (List ℕ)) (ends : List (JobEnd FindingOf)) → AreJudged p told jobs paths ends → length ends ≡ length jobs
judged_count p told [] paths ends judged = ap length judged
judged_count p told (job ∷ jobs) paths [] judged = absurd judged
judged_count p told (job ∷ jobs) [] (end ∷ ends) judged = let e = judged_count p told jobs [] ends judged.1 in omega (arith, e)
judged_count p told (job ∷ jobs) (path ∷ paths) (end ∷ ends) judged = let e = judged_count p told jobs paths ends judged.1 in omega (arith, e)

pub judged_room : (p : AskedOf) (told : Option Store) (place : ℕ) (paths : List (List ℕ)) (ends : List (JobEnd FindingOf)) → place < length (jobs_in p) → AreJudged p told (take place (jobs_in p)) paths ends
    → length ends ≡ place
judged_room p told place paths ends lt judged = judged_count p told (take place (jobs_in p)) paths ends judged ∙ length-take-le place (jobs_in p) (omega (arith, lt))
