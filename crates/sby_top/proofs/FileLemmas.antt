-- The formulas of all jobs stand in the store into which they were put.
use Rattle.std.proofs.Common.{◌≡◌, ℕ, zero, suc, ◌<◌, Bool, true, false, List, [], ◌∷◌, refl, sym, ap, subst, ◌∙◌, inl, inr, length, arith}
use Rattle.std.specs.Prelude.{Option, Some, None, Contains, IsSomeAnd, slice_get}
use Rattle.std.specs.Str.{bytes_eq}
use Rattle.std.proofs.lemmas.Option.{slice_get_within}
use Rattle.std.proofs.lemmas.Slice.Eq.{bytes_eq-Decides}
use Rattle.sby_edge.specs.Files.{Store, put_at}
use Rattle.design_core.specs.Shape.{DesignOf, IsDesign}
use Rattle.judge.specs.Jobs.{jobs_in as jobs_of_mode}
use Rattle.judge.specs.Problem.{AskedOf, IsJobFile, IsProblem}
use Rattle.judge.specs.Witness.{IsLinesFile}
use Rattle.race_core.specs.Asking.{name_at}
use Rattle.sby_lines.proofs.PlaceLemmas.{cover_count, few_covers, slice_count}
use Rattle.sby_terms.specs.Path.{job_path}
use Rattle.sby_terms.specs.Span.{IsSpan, slices_of}
use Rattle.sby_terms.specs.declared.engine.Engine.{Engine}
use Rattle.sby_terms.specs.declared.names.JobName.{JobName}
use Rattle.sby_terms.specs.declared.names.Mode.{Mode}
use Rattle.sby_terms.specs.declared.names.Mode.TheVariants.{Bmc, Prove, ProveInv, Cover as CoverMode}
use Rattle.sby_terms.specs.declared.span.Span.{Span}
use Rattle.sby_top.specs.Served.{ArePut, Formula, IsFileOf, Btor, JobFile, TakesWitness, file_path, files_in, jobs_in, slices_in}
use Rattle.sby_top.specs.Task.{Lanes, Service}
use Rattle.sby_top.proofs.PutLemmas.{files_numbered, formula_among, put_model}
use Rattle.sby_top.proofs.PathLemmas.{AllNumbered, IsNumbered, IsNumberedFile, btor_apart, btor_same, path_same}
use Rattle.task_race.specs.Ran.{HasJobFiles, RacingOf}
use Rattle.task_race.proofs.JobLemmas.{job_named}
use Rattle.task_race.proofs.PlaceLemmas.{first_or_later}
use Rattle.task_race.specs.Serving.{IsServing}
use Rattle.task_race.specs.Words.{btor_path}

-- a job has one file
abbrev pub OneFile : Type 0
OneFile = (p : AskedOf) (job : JobName) (a b : List ℕ) → IsJobFile p job a → IsJobFile p job b → a ≡ b

-- ---- the jobs' paths

numbered_in : (mode : Mode) (span : Span) (d : DesignOf) → IsSpan span → IsDesign d → (k : ℕ) → k < length (jobs_of_mode mode span d) → IsNumbered (slices_of span) (name_at mode k)
unfolding IsNumbered
numbered_in Bmc span d is design k lt = ((λ one. omega (arith, lt, one, slice_count span d)), omega (arith, lt, slice_count span d, is.few))
numbered_in Prove span d is design zero lt = ((λ one. refl), omega arith)
numbered_in Prove span d is design (suc zero) lt = tt
numbered_in Prove span d is design (suc (suc k)) lt = absurd (omega (arith, lt))
numbered_in ProveInv span d is design zero lt = ((λ one. refl), omega arith)
numbered_in ProveInv span d is design (suc zero) lt = tt
numbered_in ProveInv span d is design (suc (suc k)) lt = absurd (omega (arith, lt))
numbered_in CoverMode span d is design k lt = omega (arith, lt, cover_count span d, few_covers d design)

some_same : {X : Type 0} (x y : X) → ◌≡◌ {A = Option X} (Some x) (Some y) → x ≡ y
some_same x y h = cc

-- a job that has a file is one of the problem's
job_at : (p : AskedOf) (job : JobName) (file : List ℕ) → IsJobFile p job file → (i : ℕ) × (slice_get (jobs_in p) i ≡ Some job)
job_at p job file (inl is) = is.1.1.0.0
job_at p job file (inr is) = is.0

-- the jobs of a problem are as its task has them
pub jobs_numbered : (p : AskedOf) → IsProblem p → (k : ℕ) (job : JobName) → slice_get (jobs_in p) k ≡ Some job → IsNumbered (slices_in p) job
jobs_numbered p is k job at =
    let lt : k < length (jobs_of_mode p.problem.mode p.problem.span p.design) = slice_get_within (jobs_in p) k job at in
    let named = some_same (name_at p.problem.mode k) job (sym (job_named p.problem.mode p.problem.span p.design k lt) ∙ at) in
    subst (λ (j : JobName). IsNumbered (slices_in p) j) named (numbered_in p.problem.mode p.problem.span p.design is.span.is_span is.design k lt)

numbered : (p : AskedOf) → IsProblem p → (job : JobName) (file : List ℕ) → IsJobFile p job file → IsNumbered (slices_in p) job
numbered p is job file has = let at = job_at p job file has in jobs_numbered p is at.0 job at.1

-- ---- the store

put_here : (path other bytes : List ℕ) (store : Store) → bytes_eq path other ≡ true → put_at path bytes store other ≡ Some bytes
put_here path other bytes store is = rw is refl

put_elsewhere : (path other bytes : List ℕ) (store : Store) → bytes_eq path other ≡ false → put_at path bytes store other ≡ store other
put_elsewhere path other bytes store is = rw is refl

module _ (one_file : OneFile) (p : AskedOf) (is : IsProblem p) (folder : List ℕ) where
  path : JobName → List ℕ
  path job = job_path folder (slices_in p) job

  -- a job's formula stands after any file is put
  put_keeps : (store : Store) (job : JobName) (other : JobFile) (file bytes : List ℕ) → IsJobFile p job file → IsFileOf p other bytes → store (path job) ≡ Some file → (same : Bool)
      → bytes_eq (file_path folder (slices_in p) other) (path job) ≡ same → put_at (file_path folder (slices_in p) other) bytes store (path job) ≡ Some file
  unfolding path
  put_keeps store job other file bytes has puts stands false same = put_elsewhere (file_path folder (slices_in p) other) (path job) bytes store same ∙ stands
  put_keeps store job (Formula other) file bytes has puts stands true same =
      let one : other ≡ job = path_same folder (slices_in p) other job (numbered p is other bytes puts) (numbered p is job file has) ((bytes_eq-Decides (path other) (path job)).0 same) in
      put_here (path other) (path job) bytes store same ∙ ap Some (one_file p job bytes file (subst (λ (j : JobName). IsJobFile p j bytes) one puts) has)
  put_keeps store job (Btor other) file bytes has puts stands true same =
      absurd (btor_apart folder (slices_in p) other job ((bytes_eq-Decides (btor_path folder (slices_in p) other) (path job)).0 same))

  keeps : (files : List JobFile) (store last : Store) (job : JobName) (file : List ℕ) → IsJobFile p job file → store (path job) ≡ Some file → ArePut p folder files (Some store) (Some last) → last (path job) ≡ Some file
  unfolding path
  keeps [] store last job file has stands put = ap (λ (s : Store). s (path job)) (some_same last store put) ∙ stands
  keeps (f ∷ files) store last job file has stands put =
      keeps files (put_at (file_path folder (slices_in p) f) put.0 store) last job file has
      (put_keeps store job f file put.0 has put.1 stands (bytes_eq (file_path folder (slices_in p) f) (path job)) refl) put.2

  none_put : (files : List JobFile) (last : Store) → ArePut p folder files None (Some last) → ⊥
  none_put [] last put = cc
  none_put (f ∷ files) last put = none_put files last put.2

  all_stand : (files : List JobFile) (before : Option Store) (last : Store) → ArePut p folder files before (Some last) → (job : JobName) → Contains files (Formula job) → (file : List ℕ) → IsJobFile p job file → last (path job) ≡ Some file
  unfolding path
  all_stand [] before last put job among file has = absurd (omega (arith, among.1))
  all_stand (f ∷ files) None last put job among file has = absurd (none_put files last put.2)
  all_stand (f ∷ files) (Some store) last put job among file has = elim (first_or_later f (Formula job) files among) [
    | inl here ↦
        let same : put.0 ≡ file = one_file p job put.0 file (subst (λ (x : JobFile). IsFileOf p x put.0) here put.1) has in
        keeps files (put_at (file_path folder (slices_in p) f) put.0 store) last job file has
        (put_here (file_path folder (slices_in p) f) (path job) put.0 store
        ((bytes_eq-Decides (file_path folder (slices_in p) f) (path job)).1 (ap (λ (x : JobFile). file_path folder (slices_in p) x) here)) ∙ ap Some same) put.2
    | inr rest ↦ all_stand files (Some (put_at (file_path folder (slices_in p) f) put.0 store)) last put.2 job rest file has
  ]

  -- a job's model in BTOR2 stands after any file is put
  IsModel : JobName → Store → Type 0
  IsModel job store = IsSomeAnd (store (btor_path folder (slices_in p) job)) (IsLinesFile p job)

  model_here : (job : JobName) (store : Store) (bytes : List ℕ) → store (btor_path folder (slices_in p) job) ≡ Some bytes → IsLinesFile p job bytes → IsModel job store
  unfolding IsModel
  model_here job store bytes stands is = rw stands is

  model_elsewhere : (job : JobName) (store : Store) (other bytes : List ℕ) → bytes_eq other (btor_path folder (slices_in p) job) ≡ false → IsModel job store → IsModel job (put_at other bytes store)
  unfolding IsModel
  model_elsewhere job store other bytes is stands = rw (put_elsewhere other (btor_path folder (slices_in p) job) bytes store is) stands

  model_keeps : (job : JobName) → IsNumbered (slices_in p) job → (store : Store) (other : JobFile) (bytes : List ℕ) → IsNumberedFile (slices_in p) other → IsFileOf p other bytes → IsModel job store → (same : Bool)
      → bytes_eq (file_path folder (slices_in p) other) (btor_path folder (slices_in p) job) ≡ same → IsModel job (put_at (file_path folder (slices_in p) other) bytes store)
  model_keeps job own store other bytes numbered puts stands false same = model_elsewhere job store (file_path folder (slices_in p) other) bytes same stands
  model_keeps job own store (Formula other) bytes numbered puts stands true same =
      absurd (btor_apart folder (slices_in p) job other (sym ((bytes_eq-Decides (job_path folder (slices_in p) other) (btor_path folder (slices_in p) job)).0 same)))
  model_keeps job own store (Btor other) bytes numbered puts stands true same =
      let one : other ≡ job = btor_same folder (slices_in p) other job numbered own ((bytes_eq-Decides (btor_path folder (slices_in p) other) (btor_path folder (slices_in p) job)).0 same) in
      model_here job (put_at (btor_path folder (slices_in p) other) bytes store) bytes (put_here (btor_path folder (slices_in p) other) (btor_path folder (slices_in p) job) bytes store same)
      (subst (λ (j : JobName). IsLinesFile p j bytes) one puts)

  models_keep : (job : JobName) → IsNumbered (slices_in p) job → (files : List JobFile) → AllNumbered (slices_in p) files → (store last : Store) → IsModel job store → ArePut p folder files (Some store) (Some last) → IsModel job last
  models_keep job own [] numbered store last stands put = subst (IsModel job) (sym (some_same last store put)) stands
  models_keep job own (f ∷ files) numbered store last stands put =
      models_keep job own files numbered.1 (put_at (file_path folder (slices_in p) f) put.0 store) last
      (model_keeps job own store f put.0 numbered.0 put.1 stands (bytes_eq (file_path folder (slices_in p) f) (btor_path folder (slices_in p) job)) refl) put.2

  model_stands : (job : JobName) → IsNumbered (slices_in p) job → (files : List JobFile) → AllNumbered (slices_in p) files → (before : Option Store) (last : Store) → ArePut p folder files before (Some last) → Contains files (Btor job) → IsModel job last
  model_stands job own [] numbered before last put among = absurd (omega (arith, among.1))
  model_stands job own (f ∷ files) numbered None last put among = absurd (none_put files last put.2)
  model_stands job own (f ∷ files) numbered (Some store) last put among = elim (first_or_later f (Btor job) files among) [
    | inl here ↦
        models_keep job own files numbered.1 (put_at (file_path folder (slices_in p) f) put.0 store) last
        (model_here job (put_at (file_path folder (slices_in p) f) put.0 store) put.0
        (put_here (file_path folder (slices_in p) f) (btor_path folder (slices_in p) job) put.0 store
        ((bytes_eq-Decides (file_path folder (slices_in p) f) (btor_path folder (slices_in p) job)).1 (ap (λ (x : JobFile). file_path folder (slices_in p) x) here)))
        (subst (λ (x : JobFile). IsFileOf p x put.0) here put.1)) put.2
    | inr rest ↦ model_stands job own files numbered.1 (Some (put_at (file_path folder (slices_in p) f) put.0 store)) last put.2 rest
  ]

-- so a race has its jobs' files
pub has_files : OneFile → (service : Service) (racing : RacingOf) → IsProblem racing.problem → service ≡ Lanes racing.engines → (before after : Option Store)
    → ArePut racing.problem racing.folder (files_in service racing.problem) before after → (store : Store) → after ≡ Some store → HasJobFiles racing store
unfolding path IsModel
has_files one_file service racing is lanes before after put store told =
    let here = subst (λ (o : Option Store). ArePut racing.problem racing.folder (files_in service racing.problem) before o) told put in (
      (λ job file has.
          let at = job_at racing.problem job file has in
          all_stand one_file racing.problem is racing.folder (files_in service racing.problem) before store here job (formula_among service 0 (jobs_in racing.problem) at.0 job at.1) file has),
      (λ lane words job engine served.
          model_stands one_file racing.problem is racing.folder job (jobs_numbered racing.problem is served.1.0 job served.1.1) (files_in service racing.problem)
          (files_numbered (slices_in racing.problem) service 0 (jobs_in racing.problem) (λ k j at. jobs_numbered racing.problem is k j at)) before store here
          (put_model service racing.problem job
          (subst (λ (x : Service). TakesWitness x racing.problem job) (sym lanes) (lane, words, engine, served.1, subst (λ (o : Option Engine). IsServing o job) engine served.0)))),
    )
