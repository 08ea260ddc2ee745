-- Valid certificates give their verdict, in every mode.
use Rattle.std.proofs.Common.{◌≡◌, ◌≢◌, ℕ, zero, suc, List, [], ◌∷◌, refl, ap, sym, ◌∙◌, subst, inl, inr, length, map, arith}
use Rattle.std.specs.Prelude.{Option, Some, None, slice_get}
use Rattle.std.proofs.lemmas.List.{length-map}
use Rattle.std.proofs.lemmas.Option.{slice_get_within}
use Rattle.sby_edge.specs.Files.{Store}
use Rattle.cert_judge.specs.Fate.{Fate, Found as FoundFate, Unknown as UnknownFate, Bad as BadFate}
use Rattle.design_core.specs.Shape.{DesignOf}
use Rattle.design_reader.specs.Grammar.{Reads}
use Rattle.judge.specs.Fates.{IsFate, Serves}
use Rattle.judge.specs.Problem.{AskedOf, IsProblem, IsJobFile}
use Rattle.race_core.specs.Asking.{name_at}
use Rattle.race_core.specs.Told.{Decided}
use Rattle.task_race.proofs.JobLemmas.{job_named}
use Rattle.sby_terms.specs.Decide.{Decides}
use Rattle.sby_terms.specs.Problem.{ProblemOf}
use Rattle.sby_terms.specs.Status.{HasStatus}
use Rattle.sby_terms.specs.declared.names.Answer.{Answer}
use Rattle.sby_terms.specs.declared.names.JobName.{JobName}
use Rattle.sby_terms.specs.declared.names.Mode.{Mode}
use Rattle.sby_terms.specs.declared.names.Status.{Status}
use Rattle.sby_terms.specs.declared.names.Status.TheVariants.{Memory}
use Rattle.sby_terms.specs.declared.names.Verdict.{Verdict}
use Rattle.sby_words.specs.Requests.{JudgeRequest}
use Rattle.sby_lines.specs.Lines.{IsStatus}
use Rattle.sby_lines.specs.Told.{IsRaceStatus}
use Rattle.sby_lines.proofs.ShownLemmas.{one_verdict}
use Rattle.sby_top.specs.Claims.{IsJudgedAt}
use Rattle.sby_top.specs.Headline.{AreFates, AreWhole, Exit, TaskRan, fate_answer, fate_event}
use Rattle.sby_top.specs.Served.{jobs_in, most_stream}
use Rattle.sby_top.specs.Turns.{judge_task}
use Rattle.sby_top.specs.World.{Moments, race_of}
use Rattle.sby_top.specs.declared.outcome.TaskEnd.{TaskEnd}
use Rattle.sby_top.proofs.AnswerLemmas.{Apart, Keeps, kept_verdict}
use Rattle.sby_top.proofs.ApartLemmas.{AllSay, says_apart}
use Rattle.sby_top.proofs.EvidenceLemmas.{Says, stream_says}
use Rattle.sby_top.proofs.KindLemmas.{one_kind}
use Rattle.sby_top.proofs.LawLemmas.{OneFate, OneFile, one_some}
use Rattle.sby_top.proofs.PlainLemmas.{FatesGive, done_gives}
use Rattle.sby_top.proofs.StatusLemmas.{verdict_status}
use Rattle.sby_top.proofs.StreamLemmas.{fate_serves}
use Rattle.cert_judge.specs.declared.stream.Kind.{Kind}
use Rattle.sby_top.specs.Judged.{IsUnserved}
use Rattle.sby_words.specs.Kinds.{IsKindNamed}

-- fates answer as those of which none is left out
record AreKept (own given : List (Option Fate)) : Type 0 where
  size : length own ≡ length given
  keeps : Keeps (map fate_answer own) (map fate_answer given)

kept_more : (o g : Option Fate) (own given : List (Option Fate)) → ((a : Answer) → fate_answer o ≡ Some a → fate_answer g ≡ Some a) → AreKept own given → AreKept (o ∷ own) (g ∷ given)
kept_more o g own given first rest = record { size = let same = rest.size in omega (arith, same); keeps = keeps }
  where
    inside : (x : Option Answer) (a : Answer) → Some x ≡ Some (Some a) → x ≡ Some a
    inside x a is = cc

    keeps : Keeps (map fate_answer (o ∷ own)) (map fate_answer (g ∷ given))
    keeps zero a at = ap Some (first a (inside (fate_answer o) a at))
    keeps (suc k) a at = rest.keeps k a at

none_kept : (own given : List (Option Fate)) → own ≡ [] → given ≡ [] → AreKept own given
none_kept own given none empty = record {
  size = ap length (none ∙ sym empty);
  keeps = λ k a at. let no : ◌≡◌ {A = Option (Option Answer)} None (Some (Some a)) = subst (λ (xs : List (Option Fate)). slice_get (map fate_answer xs) k ≡ Some (Some a)) none at in cc;
}

-- no answer is none's
unanswered : (g : Option Fate) (a : Answer) → fate_answer None ≡ Some a → fate_answer g ≡ Some a
unanswered g a is = let no : ◌≡◌ {A = Option Answer} None (Some a) = is in cc

-- nothing is left out where there is no stream
none_whole : (jobs : List JobName) (fates : List (Option Fate)) → AreWhole jobs [] fates
none_whole [] fates = tt
none_whole (job ∷ jobs) fates = tt

none_of_unserved : (p : AskedOf) (now : Store) (job : JobName) (path : List ℕ) (x : Fate) → IsUnserved path job
    → ((kind : Kind) × (stream : List ℕ) × (file : List ℕ) × IsKindNamed path kind × (now path ≡ Some stream) × IsJobFile p job file × IsFate p job kind file stream most_stream x) → ⊥
none_of_unserved p now job path x unserved has =
    unserved.2 (subst (λ (k : Kind). Serves k job) (one_kind path has.0 unserved.0 has.3 unserved.1) (fate_serves p job has.0 has.2 has.1 most_stream x has.6))

fates_kept : OneFate → OneFile → (p : AskedOf) → IsProblem p → (now : Store) (jobs : List JobName) (paths : List (List ℕ)) (own given : List (Option Fate)) → AreFates p now jobs paths own → AreFates p now jobs paths given
    → AreWhole jobs paths given → AreKept own given
fates_kept one_fate one_file p problem now [] paths own given mine are whole = none_kept own given mine are
fates_kept one_fate one_file p problem now (job ∷ jobs) [] [] given mine are whole = absurd mine
fates_kept one_fate one_file p problem now (job ∷ jobs) [] (None ∷ own) [] mine are whole = absurd are
fates_kept one_fate one_file p problem now (job ∷ jobs) [] (None ∷ own) (None ∷ given) mine are whole = kept_more None None own given (unanswered None) (fates_kept one_fate one_file p problem now jobs [] own given mine are (none_whole jobs given))
fates_kept one_fate one_file p problem now (job ∷ jobs) [] (None ∷ own) (Some fate ∷ given) mine are whole = absurd are
fates_kept one_fate one_file p problem now (job ∷ jobs) [] (Some fate ∷ own) given mine are whole = absurd mine
fates_kept one_fate one_file p problem now (job ∷ jobs) (path ∷ paths) [] given mine are whole = absurd mine
fates_kept one_fate one_file p problem now (job ∷ jobs) (path ∷ paths) (o ∷ own) [] mine are whole = absurd are
fates_kept one_fate one_file p problem now (job ∷ jobs) (path ∷ paths) (None ∷ own) (None ∷ given) mine are whole =
    kept_more None None own given (unanswered None) (fates_kept one_fate one_file p problem now jobs paths own given mine are whole.1)
fates_kept one_fate one_file p problem now (job ∷ jobs) (path ∷ paths) (Some x ∷ own) (None ∷ given) mine are whole = absurd (none_of_unserved p now job path x whole.0 mine.0)
fates_kept one_fate one_file p problem now (job ∷ jobs) (path ∷ paths) (None ∷ own) (Some fate ∷ given) mine are whole =
    kept_more None (Some fate) own given (unanswered (Some fate)) (fates_kept one_fate one_file p problem now jobs paths own given mine are.1 whole)
fates_kept one_fate one_file p problem now (job ∷ jobs) (path ∷ paths) (Some x ∷ own) (Some y ∷ given) mine are whole =
    let a = mine.0 in
    let b = are.0 in
    let kind : a.0 ≡ b.0 = one_kind path a.0 b.0 a.3 b.3 in
    let stream : a.1 ≡ b.1 = one_some (now path) a.1 b.1 a.4 b.4 in
    let file : a.2 ≡ b.2 = one_file p job a.2 b.2 a.5 b.5 in
    let here : IsFate p job b.0 b.2 b.1 most_stream x =
    subst (λ k. IsFate p job k b.2 b.1 most_stream x) kind (subst (λ s. IsFate p job a.0 b.2 s most_stream x) stream (subst (λ f. IsFate p job a.0 f a.1 most_stream x) file a.6)) in
    let same : x ≡ y = one_fate p job b.0 b.2 b.1 most_stream x y problem here b.6 in
    kept_more (Some x) (Some y) own given (λ c is. subst (λ (z : Fate). fate_answer (Some z) ≡ Some c) same is) (fates_kept one_fate one_file p problem now jobs paths own given mine.1 are.1 whole)

-- ---- the answers are true

answer_says : (p : AskedOf) → IsProblem p → (job : JobName) (kind : Kind) (stream file : List ℕ) (fate : Fate) (a : Answer) → IsJobFile p job file → IsFate p job kind file stream most_stream fate → fate_answer (Some fate) ≡ Some a → Says p job a
answer_says p problem job kind stream file (FoundFate b) a has is at =
    let same : b ≡ a = cc in subst (Says p job) same (stream_says p problem job file has kind stream most_stream b is)
answer_says p problem job kind stream file UnknownFate a has is at = let no : ◌≡◌ {A = Option Answer} None (Some a) = at in cc
answer_says p problem job kind stream file (BadFate number place) a has is at = let no : ◌≡◌ {A = Option Answer} None (Some a) = at in cc

inside_at : (x : Option Answer) (a : Answer) → Some x ≡ Some (Some a) → x ≡ Some a
inside_at x a is = cc

abbrev SaidAt : AskedOf → List JobName → ℕ → Answer → Type 0
SaidAt p jobs k a = (job : JobName) × (slice_get jobs k ≡ Some job) × Says p job a

fates_say : (p : AskedOf) → IsProblem p → (now : Store) (jobs : List JobName) (paths : List (List ℕ)) (fates : List (Option Fate)) → AreFates p now jobs paths fates → (k : ℕ) (a : Answer) → slice_get (map fate_answer fates) k ≡ Some (Some a) → SaidAt p jobs k a
fates_say p problem now [] paths fates are k a at =
    let no : ◌≡◌ {A = Option (Option Answer)} None (Some (Some a)) = subst (λ (xs : List (Option Fate)). slice_get (map fate_answer xs) k ≡ Some (Some a)) are at in cc
fates_say p problem now (job ∷ jobs) [] [] are k a at = absurd are
fates_say p problem now (job ∷ jobs) [] (Some fate ∷ fates) are k a at = absurd are
fates_say p problem now (job ∷ jobs) [] (None ∷ fates) are zero a at = let no : ◌≡◌ {A = Option (Option Answer)} (Some None) (Some (Some a)) = at in cc
fates_say p problem now (job ∷ jobs) [] (None ∷ fates) are (suc k) a at = fates_say p problem now jobs [] fates are k a at
fates_say p problem now (job ∷ jobs) (path ∷ paths) [] are k a at = absurd are
fates_say p problem now (job ∷ jobs) (path ∷ paths) (None ∷ fates) are zero a at = let no : ◌≡◌ {A = Option (Option Answer)} (Some None) (Some (Some a)) = at in cc
fates_say p problem now (job ∷ jobs) (path ∷ paths) (None ∷ fates) are (suc k) a at = fates_say p problem now jobs paths fates are k a at
fates_say p problem now (job ∷ jobs) (path ∷ paths) (Some fate ∷ fates) are zero a at =
    let own = are.0 in (job, refl, answer_says p problem job own.0 own.1 own.2 fate a own.5 own.6 (inside_at (fate_answer (Some fate)) a at))
fates_say p problem now (job ∷ jobs) (path ∷ paths) (Some fate ∷ fates) are (suc k) a at = fates_say p problem now jobs paths fates are.1 k a at

all_say : (p : AskedOf) → IsProblem p → (now : Store) (paths : List (List ℕ)) (fates : List (Option Fate)) → AreFates p now (jobs_in p) paths fates → AllSay p.design p.problem.span p.problem.mode (map fate_answer fates)
all_say p problem now paths fates are k a at =
    let said = fates_say p problem now (jobs_in p) paths fates are k a at in
    let named = job_named p.problem.mode p.problem.span p.design k (slice_get_within (jobs_in p) k said.0 said.1) in
    let same : said.0 ≡ name_at p.problem.mode k = one_name said.0 (name_at p.problem.mode k) (sym said.1 ∙ named) in
    subst (λ (j : JobName). Says p j a) same said.2
  where
    one_name : (x y : JobName) → ◌≡◌ {A = Option JobName} (Some x) (Some y) → x ≡ y
    one_name x y is = cc

answers_count : (own given : List (Option Fate)) → AreKept own given → length (map fate_answer own) ≡ length (map fate_answer given)
answers_count own given kept = length-map own fate_answer ∙ kept.size ∙ sym (length-map given fate_answer)

-- fates that are left out nowhere give the verdict that they decide
verdict_given : (mode : Mode) (jobs : List JobName) (paths : List (List ℕ)) (own given : List (Option Fate)) (v : Verdict) (status : Status) → AreKept own given → (AreWhole jobs paths own → AreKept given own)
    → Apart mode (map fate_answer own) (map fate_answer own) → Apart mode (map fate_answer given) (map fate_answer given) → Decides mode (map fate_answer given) v
    → FatesGive mode jobs paths own status → HasStatus (Some v) [] status
verdict_given mode jobs paths own given v status kept back own_apart given_apart decides (whole, (o, decided, has)) = by_verdict o decided has
  where
    by_verdict : (o : Option Verdict) → Decided mode (map fate_answer own) o → HasStatus o (map fate_event own) status → HasStatus (Some v) [] status
    by_verdict (Some w) decided has =
        let same : Some w ≡ Some v = one_verdict mode (map fate_answer given) (Some w) (Some v)
        (kept_verdict mode (map fate_answer own) (map fate_answer given) w (answers_count own given kept) kept.keeps given_apart decided) decides in
        verdict_status v (map fate_event own) [] status (subst (λ x. HasStatus x (map fate_event own) status) same has)
    by_verdict None decided has = absurd (elim whole [
      | inl all ↦ let k = back all in decided v (kept_verdict mode (map fate_answer given) (map fate_answer own) v (answers_count given own (back all)) k.keeps own_apart decides)
      | inr one ↦ decided one.0 one.1
    ])

pub certificates_give : OneFate → OneFile → (may_read : ℕ → Type 0) (number : ℕ) (moments : Moments) (j : JudgeRequest) (end : TaskEnd) (exit : Exit) (now : Store) (fates : List (Option Fate)) (v : Verdict)
    → TaskRan may_read number moments (judge_task j) end exit → (judged : IsJudgedAt may_read number moments (judge_task j) end now) → end.status ≢ Memory
    → AreFates judged.done.problem now (jobs_in judged.done.problem) j.streams fates → AreWhole (jobs_in judged.done.problem) j.streams fates → Decides j.mode (map fate_answer fates) v → HasStatus (Some v) [] end.status
certificates_give one_fate one_file may_read number moments j end exit now fates v ran judged apart are whole decides = elim ran.named.status [
  | inl own ↦
      by_race own.0 (own.1 judged.early) (subst (λ e. IsStatus (judge_task j).request e (record { design = own.0; reports = end.reports.items; start = end.start }) end.status) judged.early own.2)
  | inr memory ↦ absurd (apart memory)
]
  where
    own_apart : (given : List (Option Fate)) → AreFates judged.done.problem now (jobs_in judged.done.problem) j.streams given → Apart j.mode (map fate_answer given) (map fate_answer given)
    own_apart given is =
        let p = judged.done.problem in
        let say = all_say p judged.done.served.0.problem now j.streams given is in
        subst (λ (m : Mode). Apart m (map fate_answer given) (map fate_answer given)) (ap (λ (q : ProblemOf). q.mode) judged.done.served.0.asked)
        (says_apart p.design p.problem.span p.problem.mode (map fate_answer given) (map fate_answer given) say say)

    by_race : (d : DesignOf) → Reads end.text d → IsRaceStatus (judge_task j).request (record { design = d; reports = end.reports.items; start = end.start }) end.status → HasStatus (Some v) [] end.status
    by_race d reads race =
        let gives = done_gives may_read (judge_task j) moments.got moments.put (race_of number moments.pool moments.before moments.after end.start) now end.text end.reports.items d end.start end.status j.streams refl judged.told apart reads race judged.done in
        verdict_given j.mode (jobs_in judged.done.problem) j.streams gives.fates fates v end.status
        (fates_kept one_fate one_file judged.done.problem judged.done.served.0.problem now (jobs_in judged.done.problem) j.streams gives.fates fates gives.are are whole)
        (λ all. fates_kept one_fate one_file judged.done.problem judged.done.served.0.problem now (jobs_in judged.done.problem) j.streams fates gives.fates are gives.are all)
        (own_apart gives.fates gives.are) (own_apart fates are) decides gives.give
