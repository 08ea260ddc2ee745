-- The files of jobs, put one after the other.
use Rattle.std.proofs.Common.{◌≡◌, ℕ, zero, suc, ◌+◌, ◌<◌, ◌≤◌, Bool, true, false, List, [], ◌∷◌, ◌++◌, refl, ap, sym, ◌∙◌, subst, inl, inr, length, take, arith}
use Rattle.std.specs.Prelude.{Option, Some, None, Contains, ◌&&◌, ◌||◌, cond, drop, option_map, slice_get, slice_index_or}
use Rattle.std.proofs.Math.Seq.{take-append-add}
use Rattle.std.proofs.lemmas.List.{append-nil, append_assoc, length-take-le, take-append-drop, take-append-le, take_all, take_more}
use Rattle.std.proofs.lemmas.Option.{slice_get_within}
use Rattle.design_core.proofs.Designs.{slice_get-append}
use Rattle.sby_edge.specs.Files.{Store, put_at}
use Rattle.judge.specs.Problem.{AskedOf, IsJobFile}
use Rattle.judge.specs.Fates.{Serves}
use Rattle.judge.specs.Witness.{IsLinesFile}
use Rattle.cert_judge.specs.declared.stream.Kind.TheVariants.{Witness}
use Rattle.sby_terms.specs.Path.{job_path}
use Rattle.sby_terms.specs.declared.engine.Engine.{Engine}
use Rattle.sby_terms.specs.declared.engine.Engine.TheVariants as engine
use Rattle.sby_terms.specs.declared.names.JobName.{JobName}
use Rattle.sby_terms.specs.declared.names.JobName.TheVariants.{Base, Step, Inv, Cover}
use Rattle.sby_lines.specs.declared.early.Early.{Early}
use Rattle.task_race.specs.Words.{btor_path}
use Rattle.sby_top.specs.Served.{ArePut, Formula, IsFileOf, Btor, JobFile, asks_run, file_path, files_from, files_in, is_btor, is_witness_path, job_files, jobs_in, slices_in, some_btor, takes_witness, TakesWitness, with_file}
use Rattle.sby_top.specs.Steps.{IsFailedCall, IsPutFailed, files_at}
use Rattle.sby_top.specs.Task.{Lanes, Service, Streams}
use Rattle.sby_top.specs.World.{FilesOf}
use Rattle.sby_words.specs.Kinds.{IsKindNamed}
use Rattle.sby_top.proofs.JobLemmas.{take_at}
use Rattle.sby_top.proofs.KindLemmas.{named_witness, witness_named}
use Rattle.sby_top.proofs.PathLemmas.{AllNumbered, IsNumbered}
use Rattle.sby_top.proofs.ReportLemmas.{first_or_later, nothing_in}
use Rattle.sby_top.proofs.ServeLemmas.{failed_since}

-- ---- the list of files

-- those of jobs after jobs
files_split : (service : Service) (n : ℕ) (xs ys : List JobName) → files_from service n (xs ++ ys) ≡ files_from service n xs ++ files_from service (n + length xs) ys
files_split service n [] ys = ap (λ (k : ℕ). files_from service k ys) (let z : n ≡ n + 0 = omega arith in z)
files_split service n (x ∷ xs) ys =
    ap (λ (fs : List JobFile). job_files service n x ++ fs)
    (files_split service (suc n) xs ys ∙ ap (λ (k : ℕ). files_from service (suc n) xs ++ files_from service k ys) (let z : suc n + length xs ≡ n + suc (length xs) = omega arith in z))
    ∙ sym (append_assoc (job_files service n x) (files_from service (suc n) xs) (files_from service (n + suc (length xs)) ys))

-- of one job more
files_next : (service : Service) (place : ℕ) (jobs : List JobName) (job : JobName) → slice_get jobs place ≡ Some job
    → files_from service 0 (take (place + 1) jobs) ≡ files_from service 0 (take place jobs) ++ job_files service place job
files_next service place jobs job at =
    let within = slice_get_within jobs place job at in
    let long : length (take place jobs) ≡ place = length-take-le place jobs (omega (arith, within)) in
    let here : 0 + length (take place jobs) ≡ place = omega (arith, long) in
    ap (λ (js : List JobName). files_from service 0 js) (take_at jobs place job at) ∙ files_split service 0 (take place jobs) (job ∷ [])
    ∙ ap (λ (k : ℕ). files_from service 0 (take place jobs) ++ files_from service k (job ∷ [])) here
    ∙ ap (λ (fs : List JobFile). files_from service 0 (take place jobs) ++ fs) (append-nil (job_files service place job))

-- all of them, with those of a job among them
files_rest : (service : Service) (place : ℕ) (jobs : List JobName) (job : JobName) → slice_get jobs place ≡ Some job
    → (rest : List JobFile) × (files_from service 0 jobs ≡ files_from service 0 (take place jobs) ++ job_files service place job ++ rest)
files_rest service place jobs job at = (
  files_from service (0 + length (take (place + 1) jobs)) (drop (place + 1) jobs),
  ap (λ (js : List JobName). files_from service 0 js) (sym (take-append-drop (place + 1) jobs)) ∙ files_split service 0 (take (place + 1) jobs) (drop (place + 1) jobs)
      ∙ ap (λ (fs : List JobFile). fs ++ files_from service (0 + length (take (place + 1) jobs)) (drop (place + 1) jobs)) (files_next service place jobs job at),
)

-- what stands in a list stands in it with another before it
in_later : {X : Type 0} (xs ys : List X) (x : X) → Contains ys x → Contains (xs ++ ys) x
in_later [] ys x among = among
in_later (z ∷ xs) ys x among = let rest = in_later xs ys x among in (suc rest.0, omega (arith, rest.1), rest.2)

-- a job's formula is among the files
pub formula_among : (service : Service) (n : ℕ) (jobs : List JobName) (k : ℕ) (job : JobName) → slice_get jobs k ≡ Some job → Contains (files_from service n jobs) (Formula job)
formula_among service n [] k job at = let none : ◌≡◌ {A = Option JobName} None (Some job) = at in cc
formula_among service n (j ∷ jobs) zero job at = let same : j ≡ job = cc in (0, omega arith, ap Formula same)
formula_among service n (j ∷ jobs) (suc k) job at = in_later (job_files service n j) (files_from service (suc n) jobs) (Formula job) (formula_among service (suc n) jobs k job at)

-- the jobs of the files are those of the jobs
pub files_numbered : (slices : ℕ) (service : Service) (n : ℕ) (jobs : List JobName) → ((k : ℕ) (job : JobName) → slice_get jobs k ≡ Some job → IsNumbered slices job) → AllNumbered slices (files_from service n jobs)
files_numbered slices service n [] each = tt
files_numbered slices service n (job ∷ jobs) each =
    (each 0 job refl, behind (asks_run job && takes_witness service n) (files_from service (suc n) jobs) (files_numbered slices service (suc n) jobs (λ k. each (suc k))))
  where
    behind : (more : Bool) (files : List JobFile) → AllNumbered slices files → AllNumbered slices (cond more (Btor job ∷ []) [] ++ files)
    behind false files rest = rest
    behind true files rest = (each 0 job refl, rest)

-- engines, one after the other
pub btor_within : (engines : List Engine) (i : ℕ) (d : Engine) → i < length engines → is_btor (slice_index_or engines i d) ≡ true → some_btor engines ≡ true
btor_within [] i d lt is = absurd (omega (arith, lt))
btor_within (e ∷ engines) zero d lt is = rw is refl
btor_within (e ∷ engines) (suc i) d lt is = rw (btor_within engines i d (omega (arith, lt)) is) (or_true (is_btor e))
  where
    or_true : (b : Bool) → (b || true) ≡ true
    or_true true = refl
    or_true false = refl

none_after : (engines : List Engine) (e : Engine) → some_btor engines ≡ false → is_btor e ≡ false → some_btor (engines ++ e ∷ []) ≡ false
none_after [] e none is = rw is refl
none_after (x ∷ engines) e none is =
    let parts = both_false (is_btor x) (some_btor engines) none in
    rw (parts.0, none_after engines e parts.1 is) refl
  where
    both_false : (a b : Bool) → (a || b) ≡ false → (a ≡ false) × (b ≡ false)
    both_false true b is = cc
    both_false false b is = (refl, is)

pub none_more : (engines : List Engine) (i : ℕ) (d : Engine) → i < length engines → is_btor (slice_index_or engines i d) ≡ false → some_btor (take i engines) ≡ false → some_btor (take (i + 1) engines) ≡ false
none_more engines i d lt is none =
    subst (λ (es : List Engine). some_btor es ≡ false) (sym (take_more engines i d lt)) (none_after (take i engines) (slice_index_or engines i d) none is)

-- the model is put for each job that asks for a run from the start, where an engine prints witnesses
pub btor_some : (engines : List Engine) (lane : ℕ) (words : List (List ℕ)) → slice_get engines lane ≡ Some (engine.Btor words) → some_btor engines ≡ true
btor_some [] lane words at = let none : ◌≡◌ {A = Option Engine} None (Some (engine.Btor words)) = at in cc
btor_some (e ∷ engines) zero words at = let same : e ≡ engine.Btor words = cc in rw same refl
btor_some (e ∷ engines) (suc lane) words at = rw (btor_some engines lane words at) (or_true (is_btor e))
  where
    or_true : (b : Bool) → (b || true) ≡ true
    or_true true = refl
    or_true false = refl

pub asks_witness : (job : JobName) → Serves Witness job → asks_run job ≡ true
asks_witness (Base i) serves = refl
asks_witness Step serves = absurd serves
asks_witness Inv serves = absurd serves
asks_witness (Cover k) serves = refl

are_both : (a b : Bool) → a ≡ true → b ≡ true → (a && b) ≡ true
are_both true b first then = then
are_both false b first then = cc

second : (more : Bool) → more ≡ true → (job : JobName) (rest : List JobFile) → Contains (Formula job ∷ (cond more (Btor job ∷ []) [] ++ rest)) (Btor job)
second true is job rest = (1, omega arith, refl)
second false is job rest = cc

btor_among : (service : Service) (n : ℕ) (jobs : List JobName) (k : ℕ) (job : JobName) → asks_run job ≡ true → takes_witness service (n + k) ≡ true → slice_get jobs k ≡ Some job → Contains (files_from service n jobs) (Btor job)
btor_among service n [] k job asks takes at = let none : ◌≡◌ {A = Option JobName} None (Some job) = at in cc
btor_among service n (j ∷ jobs) zero job asks takes at =
    let same : j ≡ job = cc in
    let place : n + 0 ≡ n = omega arith in
    let here : takes_witness service n ≡ true = subst (λ (m : ℕ). takes_witness service m ≡ true) place takes in
    subst (λ (x : JobName). Contains (files_from service n (j ∷ jobs)) (Btor x)) same
    (second (asks_run j && takes_witness service n) (are_both (asks_run j) (takes_witness service n) (subst (λ (x : JobName). asks_run x ≡ true) (sym same) asks) here) j (files_from service (suc n) jobs))
btor_among service n (j ∷ jobs) (suc k) job asks takes at =
    let place : n + suc k ≡ suc n + k = omega arith in
    in_later (job_files service n j) (files_from service (suc n) jobs) (Btor job)
    (btor_among service (suc n) jobs k job asks (subst (λ (m : ℕ). takes_witness service m ≡ true) place takes) at)

-- and only for these
pub both_true : (a b : Bool) → (a && b) ≡ true → (a ≡ true) × (b ≡ true)
both_true true b is = (refl, is)
both_true false b is = cc

IsAsked : Service → ℕ → List JobName → JobName → Type 0
IsAsked service n jobs job = (k : ℕ) × (slice_get jobs k ≡ Some job) × (asks_run job ≡ true) × (takes_witness service (n + k) ≡ true)

asked_later : (service : Service) (n : ℕ) (j : JobName) (jobs : List JobName) (job : JobName) → IsAsked service (suc n) jobs job → IsAsked service n (j ∷ jobs) job
unfolding IsAsked
asked_later service n j jobs job asked =
    let place : suc n + asked.0 ≡ n + suc asked.0 = omega arith in (suc asked.0, asked.1, asked.2, subst (λ (m : ℕ). takes_witness service m ≡ true) place asked.3)

asked_by : (service : Service) (n : ℕ) (j : JobName) (jobs : List JobName) (job : JobName) → (Contains (files_from service (suc n) jobs) (Btor job) → IsAsked service (suc n) jobs job)
    → (more : Bool) → (asks_run j && takes_witness service n) ≡ more → Contains (cond more (Btor j ∷ []) [] ++ files_from service (suc n) jobs) (Btor job) → IsAsked service n (j ∷ jobs) job
unfolding IsAsked
asked_by service n j jobs job later false is among = asked_later service n j jobs job (later among)
asked_by service n j jobs job later true is among = elim (first_or_later (Btor j) (Btor job) (files_from service (suc n) jobs) among) [
  | inl here ↦
      let same : j ≡ job = cc in
      let place : n ≡ n + 0 = omega arith in
      let parts = both_true (asks_run j) (takes_witness service n) is in
      (0, ap Some same, subst (λ (x : JobName). asks_run x ≡ true) same parts.0, subst (λ (m : ℕ). takes_witness service m ≡ true) place parts.1)
  | inr rest ↦ asked_later service n j jobs job (later rest)
]

among_asked : (service : Service) (n : ℕ) (jobs : List JobName) (job : JobName) → Contains (files_from service n jobs) (Btor job) → IsAsked service n jobs job
among_asked service n [] job among = absurd (nothing_in (Btor job) among)
among_asked service n (j ∷ jobs) job among = elim (first_or_later (Formula j) (Btor job) (cond (asks_run j && takes_witness service n) (Btor j ∷ []) [] ++ files_from service (suc n) jobs) among) [
  | inl here ↦ absurd (cc)
  | inr later ↦ asked_by service n j jobs job (λ rest. among_asked service (suc n) jobs job rest) (asks_run j && takes_witness service n) refl later
]

-- the engine that prints them
btor_at : (engines : List Engine) → some_btor engines ≡ true → (lane : ℕ) × (words : List (List ℕ)) × (slice_get engines lane ≡ Some (engine.Btor words))
btor_at [] some = cc
btor_at (engine.Btor words ∷ engines) some = (0, words, refl)
btor_at (engine.Sat conflicts ∷ engines) some = let rest = btor_at engines some in (suc rest.0, rest.1, rest.2)
btor_at (engine.Drup words ∷ engines) some = let rest = btor_at engines some in (suc rest.0, rest.1, rest.2)
btor_at (engine.Inv words ∷ engines) some = let rest = btor_at engines some in (suc rest.0, rest.1, rest.2)
btor_at (engine.Lrat words ∷ engines) some = let rest = btor_at engines some in (suc rest.0, rest.1, rest.2)
btor_at (engine.Net words ∷ engines) some = let rest = btor_at engines some in (suc rest.0, rest.1, rest.2)
btor_at (engine.Proof words ∷ engines) some = let rest = btor_at engines some in (suc rest.0, rest.1, rest.2)
btor_at (engine.ProofBinary words ∷ engines) some = let rest = btor_at engines some in (suc rest.0, rest.1, rest.2)

pub witness_asks : (job : JobName) → asks_run job ≡ true → Serves Witness job
witness_asks (Base i) asks = tt
witness_asks Step asks = cc
witness_asks Inv asks = cc
witness_asks (Cover k) asks = tt

path_at : (path : Option (List ℕ)) → is_witness_path path ≡ true → (text : List ℕ) × (path ≡ Some text) × IsKindNamed text Witness
path_at None is = cc
path_at (Some text) is = (text, refl, witness_named text is)

from_zero : (service : Service) (k : ℕ) → takes_witness service (0 + k) ≡ true → takes_witness service k ≡ true
from_zero service k takes = let place : 0 + k ≡ k = omega arith in subst (λ (m : ℕ). takes_witness service m ≡ true) place takes

to_zero : (service : Service) (k : ℕ) → takes_witness service k ≡ true → takes_witness service (0 + k) ≡ true
to_zero service k takes = let place : k ≡ 0 + k = omega arith in subst (λ (m : ℕ). takes_witness service m ≡ true) place takes

pub model_put : (service : Service) (p : AskedOf) (job : JobName) → Contains (files_in service p) (Btor job) → TakesWitness service p job
unfolding IsAsked
model_put (Streams paths) p job among =
    let asked = among_asked (Streams paths) 0 (jobs_in p) job among in
    let path = path_at (slice_get paths asked.0) (from_zero (Streams paths) asked.0 asked.3) in
    (asked.0, path.0, asked.1, path.1, path.2, witness_asks job asked.2)
model_put (Lanes engines) p job among =
    let asked = among_asked (Lanes engines) 0 (jobs_in p) job among in
    let lane = btor_at engines asked.3 in
    (lane.0, lane.1, lane.2, (asked.0, asked.1), witness_asks job asked.2)

pub put_model : (service : Service) (p : AskedOf) (job : JobName) → TakesWitness service p job → Contains (files_in service p) (Btor job)
put_model (Streams paths) p job takes =
    let named : is_witness_path (slice_get paths takes.0) ≡ true = rw takes.3 (named_witness takes.1 takes.4) in
    btor_among (Streams paths) 0 (jobs_in p) takes.0 job (asks_witness job takes.5) (to_zero (Streams paths) takes.0 named) takes.2
put_model (Lanes engines) p job takes = btor_among (Lanes engines) 0 (jobs_in p) takes.3.0 job (asks_witness job takes.4) (btor_some engines takes.0 takes.1 takes.2) takes.3.1

-- ---- puts

-- files were put after files
put_then : (p : AskedOf) (folder : List ℕ) (xs ys : List JobFile) (before mid after : Option Store) → ArePut p folder xs before mid → ArePut p folder ys mid after → ArePut p folder (xs ++ ys) before after
put_then p folder [] ys before mid after first then = subst (λ (t : Option Store). ArePut p folder ys t after) first then
put_then p folder (x ∷ xs) ys before mid after first then = (first.0, first.1, put_then p folder xs ys _ mid after first.2 then)

-- those of one job more were
pub put_next : (service : Service) (p : AskedOf) (folder : List ℕ) (place : ℕ) (before mid after : Option Store) (job : JobName) → slice_get (jobs_in p) place ≡ Some job
    → ArePut p folder (files_from service 0 (take place (jobs_in p))) before mid → ArePut p folder (job_files service place job) mid after
    → ArePut p folder (files_from service 0 (take (place + 1) (jobs_in p))) before after
put_next service p folder place before mid after job at first then =
    subst (λ (fs : List JobFile). ArePut p folder fs before after) (sym (files_next service place (jobs_in p) job at))
    (put_then p folder (files_from service 0 (take place (jobs_in p))) (job_files service place job) before mid after first then)

-- those of all jobs
pub put_all : (service : Service) (p : AskedOf) (folder : List ℕ) (place : ℕ) (before after : Option Store) → length (jobs_in p) ≤ place
    → ArePut p folder (files_from service 0 (take place (jobs_in p))) before after → ArePut p folder (files_in service p) before after
put_all service p folder place before after all put = subst (λ (js : List JobName). ArePut p folder (files_from service 0 js) before after) (take_all place (jobs_in p) all) put

-- what was put as a file is such a file
pub put_among : (p : AskedOf) (folder : List ℕ) (files : List JobFile) (before after : Option Store) → ArePut p folder files before after → (file : JobFile) → Contains files file → (bytes : List ℕ) × IsFileOf p file bytes
put_among p folder [] before after put file among = absurd (nothing_in file among)
put_among p folder (f ∷ files) before after put file among = elim (first_or_later f file files among) [
  | inl here ↦ (put.0, subst (λ (x : JobFile). IsFileOf p x put.0) here put.1)
  | inr later ↦ put_among p folder files _ after put.2 file later
]

-- the file that was put for a job
pub file_put : (service : Service) (p : AskedOf) (folder : List ℕ) (before after : Option Store) → ArePut p folder (files_in service p) before after → (k : ℕ) (job : JobName) → slice_get (jobs_in p) k ≡ Some job
    → (file : List ℕ) × IsJobFile p job file
file_put service p folder before after put k job at = put_among p folder (files_in service p) before after put (Formula job) (formula_among service 0 (jobs_in p) k job at)

-- the store tells on, when files were put
pub put_told : (p : AskedOf) (folder : List ℕ) (files : List JobFile) (before after : Option Store) (store : Store) → before ≡ Some store → ArePut p folder files before after → (now : Store) × (after ≡ Some now)
put_told p folder [] before after store told put = (store, put ∙ told)
put_told p folder (file ∷ files) (Some s) after store told put = put_told p folder files _ after _ refl put.2
put_told p folder (file ∷ files) None after store told put = cc

-- ---- the files of one job

-- its formula alone
pub formula_put : (service : Service) (p : AskedOf) (folder : List ℕ) (place : ℕ) (before after : Option Store) (job : JobName) (path : List ℕ) → path ≡ job_path folder (slices_in p) job
    → (asks_run job && takes_witness service place) ≡ false → ((file : List ℕ) × IsJobFile p job file × (after ≡ option_map (put_at path file) before)) → ArePut p folder (job_files service place job) before after
formula_put service p folder place before after job path same none put = rw none (put.0, put.1, put.2 ∙ ap (λ (x : List ℕ). option_map (put_at x put.0) before) same)

-- its formula, and the model in BTOR2
pub both_put : (service : Service) (p : AskedOf) (folder : List ℕ) (place : ℕ) (before mid after : Option Store) (job : JobName) (path other : List ℕ) → path ≡ job_path folder (slices_in p) job → other ≡ btor_path folder (slices_in p) job
    → (asks_run job && takes_witness service place) ≡ true → ((file : List ℕ) × IsJobFile p job file × (mid ≡ option_map (put_at path file) before))
    → ((text : List ℕ) × IsLinesFile p job text × (after ≡ option_map (put_at other text) mid)) → ArePut p folder (job_files service place job) before after
both_put service p folder place before mid after job path other same too some first then =
    let here : mid ≡ with_file p folder (Formula job) first.0 before = first.2 ∙ ap (λ (x : List ℕ). option_map (put_at x first.0) before) same in
    let there : after ≡ with_file p folder (Btor job) then.0 mid = then.2 ∙ ap (λ (x : List ℕ). option_map (put_at x then.0) mid) too in
    rw some (first.0, first.1, (then.0, then.1, there ∙ ap (λ (t : Option Store). with_file p folder (Btor job) then.0 t) here))

-- ---- failed calls

-- an element of a list stands after another list
at_later : {X : Type 0} (xs ys : List X) (k : ℕ) (x : X) → slice_get ys k ≡ Some x → slice_get (xs ++ ys) (length xs + k) ≡ Some x
at_later {X} [] ys k x at = let place : k ≡ 0 + k = omega arith in subst (λ (n : ℕ). slice_get ys n ≡ Some x) place at
at_later {X} (y ∷ xs) ys k x at = let place : suc (length xs + k) ≡ suc (length xs) + k = omega arith in subst (λ (n : ℕ). slice_get (y ∷ (xs ++ ys)) n ≡ Some x) place (at_later xs ys k x at)

-- a call for one of some files failed, when others were put before
failed_within : (p : AskedOf) (folder : List ℕ) (xs ys zs : List JobFile) (before mid after : FilesOf) (early : Early) → ArePut p folder xs before.told mid.told → mid.faults ≡ before.faults
    → IsPutFailed p folder ys mid after early → IsPutFailed p folder (xs ++ ys ++ zs) before after early
failed_within p folder xs ys zs before mid after early put still h =
    let inside = slice_get_within ys h.place h.file h.at in
    let front : take (length xs + h.place) (xs ++ ys ++ zs) ≡ xs ++ take h.place ys =
    take-append-le (length xs + h.place) (xs ++ ys) zs (let long = length_both xs ys in omega (arith, long, inside)) ∙ take-append-add xs ys h.place in
    record {
      place = length xs + h.place;
      file = h.file;
      at = slice_get-append (xs ++ ys) zs (length xs + h.place) h.file (at_later xs ys h.place h.file h.at);
      put = subst (λ (fs : List JobFile). ArePut p folder fs before.told after.told) (sym front) (put_then p folder xs (take h.place ys) before.told mid.told after.told put h.put);
      failed = failed_since before (record mid { told = after.told }) after (file_path folder (slices_in p) h.file) early (omega (arith, still)) h.failed;
    }
  where
    length_both : (fs gs : List JobFile) → length (fs ++ gs) ≡ length fs + length gs
    length_both [] gs = omega arith
    length_both (f ∷ fs) gs = let rest = length_both fs gs in omega (arith, rest)

-- a call for a file of the job at a place failed, when those of the jobs before it were put
pub put_failed : (service : Service) (p : AskedOf) (folder : List ℕ) (place : ℕ) (before mid after : FilesOf) (job : JobName) (early : Early) → slice_get (jobs_in p) place ≡ Some job
    → ArePut p folder (files_from service 0 (take place (jobs_in p))) before.told mid.told → mid.faults ≡ before.faults → IsPutFailed p folder (job_files service place job) mid after early
    → IsPutFailed p folder (files_in service p) before after early
put_failed service p folder place before mid after job early at put still failed =
    let rest = files_rest service place (jobs_in p) job at in
    subst (λ (fs : List JobFile). IsPutFailed p folder fs before after early) (sym rest.1)
    (failed_within p folder (files_from service 0 (take place (jobs_in p))) (job_files service place job) rest.0 before mid after early put still failed)

-- that for its formula
pub formula_failed : (service : Service) (p : AskedOf) (folder : List ℕ) (place : ℕ) (t ta : Option Store) (f fa : ℕ) (b ba : Option (List ℕ)) (job : JobName) (early : Early) (path : List ℕ) → path ≡ job_path folder (slices_in p) job → ta ≡ t
    → IsFailedCall (files_at t f b) (files_at ta fa ba) path early → IsPutFailed p folder (job_files service place job) (files_at t f b) (files_at ta fa ba) early
formula_failed service p folder place t ta f fa b ba job early path at same failed = record {
  place = 0;
  file = Formula job;
  at = refl;
  put = same;
  failed = failed_since (files_at t f b) (files_at t f b) (files_at ta fa ba) (job_path folder (slices_in p) job) early (omega arith)
      (subst (λ (x : List ℕ). IsFailedCall (files_at t f b) (files_at ta fa ba) x early) at failed);
}

-- that for the model in BTOR2
pub btor_failed : (service : Service) (p : AskedOf) (folder : List ℕ) (place : ℕ) (t tm ta : Option Store) (f fm fa : ℕ) (b bm ba : Option (List ℕ)) (job : JobName) (early : Early) (path other : List ℕ) → path ≡ job_path folder (slices_in p) job
    → other ≡ btor_path folder (slices_in p) job → (asks_run job && takes_witness service place) ≡ true → ((file : List ℕ) × IsJobFile p job file × (tm ≡ option_map (put_at path file) t)) → ta ≡ tm → fm ≡ f
    → IsFailedCall (files_at tm fm bm) (files_at ta fa ba) other early → IsPutFailed p folder (job_files service place job) (files_at t f b) (files_at ta fa ba) early
btor_failed service p folder place t tm ta f fm fa b bm ba job early path other at too some first same still failed = record {
  place = 1;
  file = Btor job;
  at = rw some refl;
  put = (first.0, first.1, same ∙ first.2 ∙ ap (λ (x : List ℕ). option_map (put_at x first.0) t) at);
  failed = failed_since (files_at t f b) (files_at tm fm bm) (files_at ta fa ba) (btor_path folder (slices_in p) job) early (omega (arith, still))
      (subst (λ (x : List ℕ). IsFailedCall (files_at tm fm bm) (files_at ta fa ba) x early) too failed);
}
