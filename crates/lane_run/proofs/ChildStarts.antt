-- What a start, and the life after it, leave to the bay.
use Rattle.std.proofs.Common.{◌≡◌, ◌⊎◌, inl, inr, ℕ, ◌≤◌, List, [], ◌∷◌, ◌++◌, length, Option, None, Some, IsSomeAnd, Result, Ok, Err, option_map, refl, sym, ap, subst, ◌∙◌, arith}
use Rattle.std.proofs.lemmas.List.{append-nil}
use Rattle.jobs_pool.specs.Places.{PoolOf}
use Rattle.sby_edge.specs.declared.outside.Fail.{Fail}
use Rattle.sby_edge.specs.declared.outside.Fail.TheVariants.{Memory as FailMemory}
use Rattle.sby_edge.specs.Child.{BayOf, PipeOf, StartOf, finished, gave, pipe_of, started, up_to, with_given}
use Rattle.sby_edge.specs.Script.{ScriptOf, GateOf}
use Rattle.sby_terms.specs.declared.names.JobName.{JobName}
use Rattle.race_core.specs.Ends.{HasEnd}
use Rattle.race_core.specs.Parts.{reader_from}
use Rattle.race_core.specs.declared.end.JobEnd.{JobEnd}
use Rattle.race_core.specs.declared.end.JobEnd.TheVariants as end
use Rattle.race_core.specs.declared.event.Judged.{Judged}
use Rattle.race_core.specs.declared.event.Judged.TheVariants.{Found}
use Rattle.race_core.specs.declared.event.LaneEvent.{LaneEvent}
use Rattle.race_core.specs.declared.part.By.TheVariants as by
use Rattle.race_core.specs.declared.part.Reader.{Reader}
use Rattle.race_core.specs.declared.part.Reader.TheVariants as reader
use Rattle.lane_run.specs.Judging.{Within}
use Rattle.lane_run.specs.Reading.{Comes, IsProof, NoneLeft, TookProof, TookSome, bytes_read}
use Rattle.lane_run.specs.Sides.{RanFrom}
use Rattle.lane_run.specs.Starting.{IsFront, IsKilledFor, NoStart, ReadsScript, Starts, Unstarted, start_of, with_starts}
use Rattle.lane_run.proofs.Readers.{comes_within}

-- what an ended output is judged as, it is judged as where something else says that it ended
comes_ended : {T : Type 0} (st en pr : List ℕ → Judged T → Type 0) (A B : Type 0) (output proof : List ℕ) (part : Reader T)
    → (A → B) → Comes st en pr A output proof part → Comes st en pr B output proof part
comes_ended st en pr A B output proof (reader.Holding f by.Bytes) t h = h
comes_ended st en pr A B output proof (reader.Holding f by.Close) t h = (t h.0, h.1)
comes_ended st en pr A B output proof (reader.Holding f by.File) t h = (t h.0, h.1, h.2)
comes_ended st en pr A B output proof (reader.Found f by.Bytes won) t h = h
comes_ended st en pr A B output proof (reader.Found f by.Close won) t h = (t h.0, h.1)
comes_ended st en pr A B output proof (reader.Found f by.File won) t h = (t h.0, h.1, h.2)
comes_ended st en pr A B output proof (reader.Unknown by.Bytes) t h = h
comes_ended st en pr A B output proof (reader.Unknown by.Close) t h = (t h.0, h.1)
comes_ended st en pr A B output proof (reader.Unknown by.File) t h = (t h.0, h.1, h.2)
comes_ended st en pr A B output proof (reader.Bad number at by.Bytes) t h = h
comes_ended st en pr A B output proof (reader.Bad number at by.Close) t h = (t h.0, h.1)
comes_ended st en pr A B output proof (reader.Bad number at by.File) t h = (t h.0, h.1, h.2)
comes_ended st en pr A B output proof reader.Asking t h = (t h.0, h.1)
comes_ended st en pr A B output proof reader.Fresh t h = tt
comes_ended st en pr A B output proof reader.Reading t h = tt
comes_ended st en pr A B output proof reader.Unjudged t h = tt
comes_ended st en pr A B output proof reader.Failed t h = tt
comes_ended st en pr A B output proof reader.Short t h = tt
comes_ended st en pr A B output proof reader.Wrong t h = absurd h

-- a finding to which an output came is for the job
pub comes_for : {T : Type 0} (st en pr : List ℕ → Judged T → Type 0) (For : T → Type 0) (ended : Type 0) (output proof : List ℕ) (part : Reader T) (f : T)
    → ((bytes : List ℕ) (f : T) → st bytes (Found f) ⊎ (en bytes (Found f) ⊎ pr bytes (Found f)) → For f)
    → Comes st en pr ended output proof part → HasEnd part (end.Found f) → For f
comes_for {T} st en pr For ended output proof (reader.Holding f by.Bytes) g is h e = absurd e
comes_for {T} st en pr For ended output proof (reader.Holding f by.Close) g is h e = absurd e
comes_for {T} st en pr For ended output proof (reader.Holding f by.File) g is h e = absurd e
comes_for {T} st en pr For ended output proof (reader.Found f by.Bytes won) g is h e = subst For (value f g e) (is output f (inl h))
  where
    value : (f g : T) → end.Found g ≡ end.Found f → f ≡ g
    value f g e = cc
comes_for {T} st en pr For ended output proof (reader.Found f by.Close won) g is h e = subst For (value f g e) (is output f (inr (inl h.1)))
  where
    value : (f g : T) → end.Found g ≡ end.Found f → f ≡ g
    value f g e = cc
comes_for {T} st en pr For ended output proof (reader.Found f by.File won) g is h e = subst For (value f g e) (is proof f (inr (inr h.2)))
  where
    value : (f g : T) → end.Found g ≡ end.Found f → f ≡ g
    value f g e = cc
comes_for st en pr For ended output proof (reader.Unknown b) g is h e = absurd cc
comes_for st en pr For ended output proof (reader.Bad number at b) g is h e = absurd cc
comes_for st en pr For ended output proof reader.Failed g is h e = absurd cc
comes_for st en pr For ended output proof reader.Asking g is h e = absurd e
comes_for st en pr For ended output proof reader.Fresh g is h e = absurd e
comes_for st en pr For ended output proof reader.Reading g is h e = absurd e
comes_for st en pr For ended output proof reader.Unjudged g is h e = absurd e
comes_for st en pr For ended output proof reader.Short g is h e = absurd e
comes_for st en pr For ended output proof reader.Wrong g is h e = absurd e

-- the start at the end of a list is finished
given_last : (given : ℕ) (killed : Option ℕ) (start : StartOf) (starts : List StartOf) → with_given (length starts) given killed (starts ++ start ∷ []) ≡ starts ++ gave given killed start ∷ []
given_last given killed start [] = refl
given_last given killed start (s ∷ ss) = ap (λ l. s ∷ l) (given_last given killed start ss)

-- what was taken of the pipe of a start is a front of its script's output
front_gate : (script : ScriptOf) (place : ℕ) (output rest : List ℕ) (gate : Option GateOf)
    → IsSomeAnd (option_map (λ (g : GateOf). up_to script.stalls g.instead) gate) (λ other. output ++ rest ≡ other)
    → IsSomeAnd gate (λ g. output ++ rest ≡ up_to script.stalls g.instead)
front_gate script place output rest None h = h
front_gate script place output rest (Some g) h = h

front_taken : (script : ScriptOf) (place : ℕ) (now : PipeOf) (output : List ℕ) → TookSome (pipe_of script place) now output → IsFront script output now.bytes
front_taken script place now output (inl h) = inl (rw h.1 (ap (λ (p : PipeOf). p.bytes) h.0))
front_taken script place now output (inr (at, given, none, inl h)) = inl h
front_taken script place now output (inr (at, given, none, inr h)) = inr (front_gate script place output now.bytes script.gate h)

place_taken : (script : ScriptOf) (place : ℕ) (now : PipeOf) (output : List ℕ) → TookSome (pipe_of script place) now output → (now.place ≡ place) × (now.given ≡ length output)
place_taken script place now output (inl h) = (ap (λ (p : PipeOf). p.place) h.0, ap (λ (p : PipeOf). p.given) h.0 ∙ sym (ap (λ (l : List ℕ). length l) h.1))
place_taken script place now output (inr h) = (h.0, omega (h.1, arith))

-- A child that was started ran. What its bay told before, after the start, and after its end; and its pipe.
pub record Life {T : Type 0} (st en pr : List ℕ → Judged T → Type 0) (job : JobName) (words : List (List ℕ)) (file : List ℕ) (most most_output : ℕ) (bay bay' : Option BayOf) (events kept : List (LaneEvent T)) : Type 0 where
  pub killed : Option ℕ
  pub for : IsKilledFor (bytes_read events) kept killed
  pub told : bay' ≡ option_map (with_starts (start_of job words file (Some (bytes_read events)) killed ∷ [])) bay
  pub reads : ReadsScript st en pr bay job most most_output events

finished_bay : (job : JobName) (words : List (List ℕ)) (file : List ℕ) (bay : BayOf) (now : PipeOf) (n : ℕ) (killed : Option ℕ) → now.place ≡ length bay.starts → now.given ≡ n
    → finished (Some now) killed (record bay { starts = bay.starts ++ record { job = job; words = words; bytes = file; given = None; killed = None } ∷ [] }) ≡ with_starts (start_of job words file (Some n) killed ∷ []) bay
finished_bay job words file bay now n killed at given = ap (λ (l : List StartOf). record bay { starts = l })
    (subst (λ (p : ℕ). with_given p now.given killed (bay.starts ++ record { job = job; words = words; bytes = file; given = None; killed = None } ∷ []) ≡ bay.starts ++ start_of job words file (Some n) killed ∷ []) (sym at)
    (subst (λ (m : ℕ). with_given (length bay.starts) m killed (bay.starts ++ record { job = job; words = words; bytes = file; given = None; killed = None } ∷ []) ≡ bay.starts ++ start_of job words file (Some n) killed ∷ []) (sym given)
    (given_last n killed (record { job = job; words = words; bytes = file; given = None; killed = None }) bay.starts)))

module _ {T : Type 0} (st en pr : List ℕ → Judged T → Type 0) (job : JobName) (words : List (List ℕ)) (file : List ℕ) (most most_output : ℕ) (events kept : List (LaneEvent T)) where
  life_untold : (bay' : Option BayOf) → RanFrom st en pr job most most_output None bay' None events kept → Life st en pr job words file most most_output None bay' events kept
  life_untold bay' (now, output, proof, killed, told, for, took, read, filed, is_proof, comes, closed, bound) = record {
    killed = Some (bytes_read events);
    for = inl refl;
    told = told;
    reads = record {
      output = output;
      rest = [];
      proof = proof;
      front = tt;
      read = read;
      filed = filed;
      is_proof = at is_proof;
      comes = comes_ended st en pr (NoneLeft now) ([] ≡ []) output proof (reader_from reader.Fresh events) (λ _. refl) comes;
      closed = λ some. refl;
      bound = bound;
    };
  }
    where
      at : TookProof bay' job most proof (reader_from reader.Fresh events) → TookProof None job most proof (reader_from reader.Fresh events)
      at (inl is) = inl tt
      at (inr none) = inr none

  life_told : (bay : BayOf) (bay' : Option BayOf) → RanFrom st en pr job most most_output (Some (record bay { starts = bay.starts ++ record { job = job; words = words; bytes = file; given = None; killed = None } ∷ [] })) bay' (Some (pipe_of (bay.scripts job) (length bay.starts))) events kept
      → Life st en pr job words file most most_output (Some bay) bay' events kept
  life_told bay bay' (None, output, proof, killed, told, for, took, read, filed, is_proof, comes, closed, bound) = absurd took
  life_told bay bay' (Some now, output, proof, killed, told, for, took, read, filed, is_proof, comes, closed, bound) =
      let place = place_taken (bay.scripts job) (length bay.starts) now output took in
      record {
        killed = killed;
        for = elim for [ inl last ↦ inl (last ∙ ap Some (place.1 ∙ sym read)) | inr has ↦ inr has ];
        told = told ∙ ap Some (finished_bay job words file bay now (bytes_read events) killed place.0 (place.1 ∙ sym read));
        reads = record {
          output = output;
          rest = now.bytes;
          proof = proof;
          front = front_taken (bay.scripts job) (length bay.starts) now output took;
          read = read;
          filed = filed;
          is_proof = at is_proof;
          comes = comes;
          closed = closed;
          bound = bound;
        };
      }
    where
      at : TookProof bay' job most proof (reader_from reader.Fresh events) → TookProof (Some bay) job most proof (reader_from reader.Fresh events)
      at (inl is) = inl (subst (λ (b : Option BayOf). IsProof b job most proof) told is)
      at (inr none) = inr none

  -- what is told of a start, and of the life after it
  pub life : {X : Type 0} (bay between bay' : Option BayOf) (pipe : Option PipeOf) (x : X) → between ≡ option_map (started (Ok x) job words file) bay
      → pipe ≡ option_map (λ (b : BayOf). pipe_of (b.scripts job) (length b.starts)) bay
      → RanFrom st en pr job most most_output between bay' pipe events kept → Life st en pr job words file most most_output bay bay' events kept
  life None between bay' pipe x is at h = life_untold bay' (subst (λ (b : Option BayOf). RanFrom st en pr job most most_output b bay' None events kept) is (subst (λ (p : Option PipeOf). RanFrom st en pr job most most_output between bay' p events kept) at h))
  life (Some bay) between bay' pipe x is at h =
      life_told bay bay' (subst (λ (b : Option BayOf). RanFrom st en pr job most most_output b bay' (Some (pipe_of (bay.scripts job) (length bay.starts))) events kept) is (subst (λ (p : Option PipeOf). RanFrom st en pr job most most_output between bay' p events kept) at h))

-- what is read by a judge is what its maker says
pub reads_within : {T : Type 0} (st st' en en' pr pr' : List ℕ → Judged T → Type 0) (bay : Option BayOf) (job : JobName) (most few most_output : ℕ) (events : List (LaneEvent T))
    → Within st st' → Within en en' → Within pr pr' → few ≤ most_output → ReadsScript st en pr bay job most few events → ReadsScript st' en' pr' bay job most most_output events
reads_within st st' en en' pr pr' bay job most few most_output events hs he hp small h = record {
  output = h.output;
  rest = h.rest;
  proof = h.proof;
  front = h.front;
  read = h.read;
  filed = h.filed;
  is_proof = h.is_proof;
  comes = comes_within st st' en en' pr pr' (h.rest ≡ []) h.output h.proof (reader_from reader.Fresh events) hs he hp h.comes;
  closed = h.closed;
  bound = omega (h.bound, small, arith);
}

-- so are the starts
pub starts_within : {T : Type 0} (pool : Option PoolOf) (job : JobName) (words words' : List (List ℕ)) (file file' : List ℕ) (A B : Type 0) (events kept : List (LaneEvent T)) (e : JobEnd T) (starts : List StartOf)
    → words ≡ words' → file ≡ file' → (A → B) → Starts pool job words file A events kept e starts → Starts pool job words' file' B events kept e starts
starts_within pool job words words' file file' A B events kept e starts is bytes t (inl h) = inl h
starts_within pool job words words' file file' A B events kept e starts is bytes t (inr (inl h)) =
    inr (inl (h.0, h.1, subst (λ (w : List (List ℕ)). starts ≡ start_of job w file' None None ∷ []) is (subst (λ (b : List ℕ). starts ≡ start_of job words b None None ∷ []) bytes h.2)))
starts_within pool job words words' file file' A B events kept e starts is bytes t (inr (inr h)) = inr (inr (
  h.0,
  t h.1,
  (
    h.2.0,
    h.2.1,
    subst (λ (w : List (List ℕ)). starts ≡ start_of job w file' (Some (bytes_read events)) h.2.0 ∷ []) is
        (subst (λ (b : List ℕ). starts ≡ start_of job words b (Some (bytes_read events)) h.2.0 ∷ []) bytes h.2.2),
  ),
))

-- no start more
pub no_starts : (bay : Option BayOf) → bay ≡ option_map (with_starts []) bay
no_starts None = refl
no_starts (Some bay) = ap (λ (l : List StartOf). Some (record bay { starts = l })) (sym (append-nil bay.starts))

same_bay : {X : Type 0} (r : Result X Fail) (e : Fail) (job : JobName) (words : List (List ℕ)) (file : List ℕ) (bay : Option BayOf) → r ≡ Err e → e ≡ FailMemory → option_map (started r job words file) bay ≡ bay
same_bay r e job words file None is memory = refl
same_bay {X} r e job words file (Some bay) is memory = subst (λ (r : Result X Fail). option_map (started r job words file) (Some bay) ≡ Some bay) (sym is)
    (subst (λ (e : Fail). option_map (started {T = X} (Err e) job words file) (Some bay) ≡ Some bay) (sym memory) refl)

pub none_started : {X : Type 0} (r : Result X Fail) (e : Fail) (job : JobName) (words : List (List ℕ)) (file : List ℕ) (bay bay' : Option BayOf) → r ≡ Err e → e ≡ FailMemory → bay' ≡ option_map (started r job words file) bay
    → bay' ≡ option_map (with_starts []) bay
none_started r e job words file bay bay' is memory told = told ∙ (same_bay r e job words file bay is memory ∙ no_starts bay)

pub none_for_want : {T : Type 0} (pool : Option PoolOf) (job : JobName) (words : List (List ℕ)) (file : List ℕ) (A : Type 0) (events kept : List (LaneEvent T)) (e : JobEnd T) → e ≡ end.Memory → events ≡ [] → Starts pool job words file A events kept e []
none_for_want {T} pool job words file A events kept e is none = inl (inl (subst (λ (e : JobEnd T). NoStart e) (sym is) tt), none, refl)

-- a job that wasn't asked to start
pub none_for_end : {T : Type 0} (pool : Option PoolOf) (job : JobName) (words : List (List ℕ)) (file : List ℕ) (A : Type 0) (events kept : List (LaneEvent T)) (e : JobEnd T) → Unstarted pool e → events ≡ [] → Starts pool job words file A events kept e []
none_for_end pool job words file A events kept e is none = inl (is, none, refl)
