-- What came of a task's files.
use Rattle.std.proofs.Common.{◌≡◌, ℕ, ◌≤◌, List, refl, ap, sym, ◌∙◌, subst, inl, inr, length, arith}
use Rattle.std.specs.Prelude.{Option, Some, None, map, option_map, slice_get, string_bytes}
use Rattle.std.specs.Borrow.{Bor}
use Rattle.std.specs.Slice.{IsItemAt}
use Rattle.std.proofs.lemmas.Option.{slice_get-get_or, slice_get-map, slice_get_past}
use Rattle.std.proofs.lemmas.List.{take_all}
use Rattle.sby_edge.specs.Files.{Store}
use Rattle.judge.specs.Problem.{AskedOf, IsProblem}
use Rattle.sby_lines.specs.declared.early.Early.{Early}
use Rattle.sby_lines.specs.declared.early.Early.TheVariants.{File, Sby, Task, Read, Design, TooMany, Streams, Memory}
use Rattle.sby_top.specs.Causes.{HasReason, IsHalted}
use Rattle.sby_top.specs.Judged.{IsGotFor}
use Rattle.sby_top.specs.Steps.{files_at, IsCutShort, IsFailedCall, IsPutFailed, IsRefusal, IsTextFailed}
use Rattle.sby_top.specs.Served.{ArePut, IsAccepted, IsServed, IsTextOf, JobFile, files_in}
use Rattle.sby_top.specs.Task.{Stored, TaskOf, problem_of, streams_in}
use Rattle.sby_top.specs.World.{FilesOf, IsFailedAt}

-- ---- what is got

-- a problem of the text that was got is accepted
pub is_accepted : (told : Option Store) (task : TaskOf) (text : List ℕ) (p : AskedOf) → IsTextOf told task.design text → p.problem ≡ problem_of task text → IsProblem p
    → IsAccepted told task p
is_accepted told task text p got is problem = let t : p.problem.text ≡ text = ap (λ q. q.text) is in record {
  got = rw t got;
  asked = is ∙ ap (problem_of task) (sym t);
  problem = problem;
}

-- the path that stands at a job's place
pub path_given : {X Y : Type 0} (v : X → Y) (xs : List X) (i : ℕ) (r : Option (Bor X)) → IsItemAt xs i r → option_map (λ (s : Bor X). v s.now) r ≡ slice_get (map v xs) i
path_given {X} v xs i None h = sym (slice_get-map v xs i ∙ ap (option_map v) (slice_get_past xs i h.3))
path_given {X} v xs i (Some r) h =
    let at : slice_get xs i ≡ Some r.now = slice_get-get_or xs i r.now h.3.0 ∙ ap Some (sym h.1) in
    sym (slice_get-map v xs i ∙ ap (λ (o : Option X). option_map v o) at)

pub path_at : {X Y : Type 0} (v : X → Y) (xs : List X) (i : ℕ) (r : Option (Bor X)) (path : Y) → IsItemAt xs i r → option_map (λ (s : Bor X). v s.now) r ≡ Some path → slice_get (map v xs) i ≡ Some path
path_at v xs i r path h is = sym (path_given v xs i r h) ∙ is

-- ---- failed calls

-- the files told, their faults and the path that is blamed are all that is seen of them
pub same_files : (t u : Option Store) (f g : ℕ) (b c : Option (List ℕ)) → u ≡ t → g ≡ f → c ≡ b → files_at u g c ≡ files_at t f b
same_files t u f g b c told faults blamed = rw (told, faults, blamed) refl

-- a call that failed is one since an earlier moment, with the files as they are told after it
pub failed_since : (b m a : FilesOf) (path : List ℕ) (early : Early) → b.faults ≤ m.faults → IsFailedCall m a path early → IsFailedCall (record b { told = a.told }) a path early
failed_since b m a path (File p) le h = (h.0, record { rose = omega (arith, le, h.1.rose); blamed = h.1.blamed; same = refl })
failed_since b m a path Memory le h = (omega (arith, le, h.0), refl)
failed_since b m a path (Sby x) le h = absurd h
failed_since b m a path (Task x) le h = absurd h
failed_since b m a path (Read x) le h = absurd h
failed_since b m a path (Design x) le h = absurd h
failed_since b m a path (TooMany job) le h = absurd h
failed_since b m a path Streams le h = absurd h

-- with the path that an early fault names
named_at : (b a : FilesOf) (name path : List ℕ) → name ≡ path → IsFailedAt b a path → IsFailedAt b a name
named_at b a name path is h = subst (λ x. IsFailedAt b a x) (sym is) h

-- ---- reasons

-- memory ran out when all files were put
pub all_halted : (task : TaskOf) (before after : Option Store) (p : AskedOf) → IsServed before task p → ArePut p task.request.name (files_in task.service p) before after → IsHalted task before after
all_halted task before after p served put =
    inr (
      p,
      length (files_in task.service p),
      served,
      subst (λ (fs : List JobFile). ArePut p task.request.name fs before after) (sym (take_all (length (files_in task.service p)) (files_in task.service p) (omega arith))) put,
    )

path_not_got : (task : TaskOf) (before after : FilesOf) (path : List ℕ) (early : Early) → task.design ≡ Stored path → IsFailedCall before after path early → HasReason task before after early
path_not_got task before after path (File p) at h =
    (record { rose = h.1.rose; blamed = (named_at before after (string_bytes p) path h.0 h.1).blamed; same = refl }, inl (at ∙ ap Stored (sym h.0), h.1.same))
path_not_got task before after path Memory at h = inl h.1
path_not_got task before after path (Sby x) at h = absurd h
path_not_got task before after path (Task x) at h = absurd h
path_not_got task before after path (Read x) at h = absurd h
path_not_got task before after path (Design x) at h = absurd h
path_not_got task before after path (TooMany job) at h = absurd h
path_not_got task before after path Streams at h = absurd h

-- the design couldn't be got
pub design_not_got : (task : TaskOf) (before after : FilesOf) (early : Early) → IsTextFailed task.design before after early → HasReason task before after early
design_not_got task before after early (inl h) = path_not_got task before after h.0 early h.1 h.2
design_not_got task before after early (inr is) = subst (HasReason task before after) (sym is.0) (inl is.1)

-- the text that was got is refused
pub text_refused : (task : TaskOf) (before after : FilesOf) (early : Early) (text : List ℕ) → IsTextOf before.told task.design text → IsRefusal (problem_of task text) early
    → after ≡ before → HasReason task before after early
text_refused task before after (Read x) text got h same = ((text, got, h), same)
text_refused task before after (Design x) text got h same = ((text, got, h), same)
text_refused task before after (TooMany job) text got h same = ((text, got, h), same)
text_refused task before after Memory text got h same = inl (ap (λ (f : FilesOf). f.told) same)
text_refused task before after (File p) text got h same = absurd h
text_refused task before after (Sby x) text got h same = absurd h
text_refused task before after (Task x) text got h same = absurd h
text_refused task before after Streams text got h same = absurd h

file_not_put : (task : TaskOf) (before after : FilesOf) (early : Early) (p : AskedOf) → IsServed before.told task p
    → IsPutFailed p task.request.name (files_in task.service p) before after early → HasReason task before after early
file_not_put task before after (File path) p served h =
    (named_at _ after (string_bytes path) _ h.failed.0 h.failed.1, inr (inl (p, h.place, h.file, served, h.at, h.failed.0, h.put)))
file_not_put task before after Memory p served h = inr (p, h.place, served, h.put)
file_not_put task before after (Sby x) p served h = absurd h.failed
file_not_put task before after (Task x) p served h = absurd h.failed
file_not_put task before after (Read x) p served h = absurd h.failed
file_not_put task before after (Design x) p served h = absurd h.failed
file_not_put task before after (TooMany job) p served h = absurd h.failed
file_not_put task before after Streams p served h = absurd h.failed

stream_not_got : (task : TaskOf) (before after : FilesOf) (early : Early) (p : AskedOf) (path : List ℕ) → IsServed before.told task p
    → ArePut p task.request.name (files_in task.service p) before.told after.told → IsGotFor p (streams_in task.service) path → IsFailedCall (record before { told = after.told }) after path early
    → HasReason task before after early
stream_not_got task before after (File q) p path served put among h =
    (named_at _ after (string_bytes q) path h.0 h.1, inr (inr (p, served, subst (λ (x : List ℕ). IsGotFor p (streams_in task.service) x) (sym h.0) among, put)))
stream_not_got task before after Memory p path served put among h = all_halted task before.told after.told p served put
stream_not_got task before after (Sby x) p path served put among h = absurd h
stream_not_got task before after (Task x) p path served put among h = absurd h
stream_not_got task before after (Read x) p path served put among h = absurd h
stream_not_got task before after (Design x) p path served put among h = absurd h
stream_not_got task before after (TooMany job) p path served put among h = absurd h
stream_not_got task before after Streams p path served put among h = absurd h

-- the jobs of an accepted design were cut short
pub cut_short : (task : TaskOf) (before after : FilesOf) (early : Early) (p : AskedOf) → IsServed before.told task p
    → IsCutShort p task.request.name task.service before after early → HasReason task before after early
cut_short task before after early p served (inl h) = subst (HasReason task before after) (sym h.0) (inl (ap (λ (f : FilesOf). f.told) h.1))
cut_short task before after early p served (inr (inl h)) = file_not_put task before after early p served h
cut_short task before after early p served (inr (inr (put, inl h))) = stream_not_got task before after early p h.0 served put h.1 h.2
cut_short task before after early p served (inr (inr (put, inr memory))) = subst (HasReason task before after) (sym memory) (all_halted task before.told after.told p served put)

-- ---- what was put

-- the jobs were cut short, since a moment at which the files were the same
pub short_since : (task : TaskOf) (p : AskedOf) (t0 t1 ta : Option Store) (f0 f1 fa : ℕ) (b0 b1 ba : Option (List ℕ)) (early : Early) → IsServed t0 task p → t1 ≡ t0 → f1 ≡ f0 → b1 ≡ b0
    → IsCutShort p task.request.name task.service (files_at t1 f1 b1) (files_at ta fa ba) early
    → HasReason task (files_at t0 f0 b0) (files_at ta fa ba) early
short_since task p t0 t1 ta f0 f1 fa b0 b1 ba early served told faults blamed short =
    let own = subst (λ b. IsCutShort p task.request.name task.service b (files_at ta fa ba) early) (same_files t0 t1 f0 f1 b0 b1 told faults blamed) short in
    cut_short task (files_at t0 f0 b0) (files_at ta fa ba) early p served own

-- the files of all jobs were put, since then
pub all_since : (task : TaskOf) (p : AskedOf) (t0 t1 ta : Option Store) → t1 ≡ t0 → ArePut p task.request.name (files_in task.service p) t1 ta → ArePut p task.request.name (files_in task.service p) t0 ta
all_since task p t0 t1 ta told put = subst (λ t. ArePut p task.request.name (files_in task.service p) t ta) told put
