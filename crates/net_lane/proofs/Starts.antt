-- What a bay tells before and after a start and its finish.
use Rattle.std.proofs.Common.{◌≡◌, ℕ, ◌≤◌, List, [], ◌∷◌, ◌++◌, length, take, Bool, true, false, cond, Some, None, Ok, Err, refl, sym, ap, ◌∙◌, subst, arith}
use Rattle.std.specs.Prelude.{Option, Result, IsSome, IsTrue, ◌↔◌, option_map}
use Rattle.std.proofs.Math.Seq.{take-append_seam, take-length}
use Rattle.sby_edge.specs.Cause.{HasCause, counted, greatest}
use Rattle.sby_edge.specs.Child.{BayOf, PipeOf, StartOf, finished, pipe_of, started, with_given}
use Rattle.sby_edge.specs.declared.outside.Fail.{Fail}
use Rattle.sby_edge.specs.declared.outside.Fail.TheVariants.{Failed as FailFailed, Memory as FailMemory}
use Rattle.sby_terms.specs.declared.names.JobName.{JobName}
use Rattle.net_link.specs.Frame.{Sizing}
use Rattle.net_answer.specs.Piped.{IsPlaced, piped}
use Rattle.net_lane.specs.Hold.{exit_of}
use Rattle.net_lane.specs.Launch.{bay_of}

-- where a start is kept, and what a bay tells after it
pub place_so : (tells : Bool) (told : Option (List ℕ)) (place : Option ℕ) (n : ℕ) → (IsTrue tells ↔ IsSome told) → place ≡ cond tells (Some n) None → place ≡ option_map (λ _. n) told
place_so true None place n h e = let f : false ≡ true = h.0 refl in cc
place_so true (Some bytes) place n h e = e
place_so false None place n h e = e
place_so false (Some bytes) place n h e = let f : false ≡ true = h.1 refl in cc

kept_so : (tells : Bool) (a b : Option (List ℕ)) (task lane : ℕ) (starts now : List StartOf) (s : StartOf) → (IsTrue tells ↔ IsSome a) → now ≡ cond tells (starts ++ s ∷ []) starts → b ≡ a
    → bay_of b task lane now ≡ option_map (λ (bay : BayOf). record bay { starts = bay.starts ++ s ∷ [] }) (bay_of a task lane starts)
kept_so tells None b task lane starts now s h e same = ap (λ (o : Option (List ℕ)). bay_of o task lane now) same
kept_so true (Some l) b task lane starts now s h e same = ap (λ (o : Option (List ℕ)). bay_of o task lane now) same ∙ ap (λ (x : List StartOf). bay_of (Some l) task lane x) e
kept_so false (Some l) b task lane starts now s h e same = let f : false ≡ true = h.1 refl in cc

pub opened_ok : {T : Type 0} (x : T) (tells : Bool) (a b : Option (List ℕ)) (task lane : ℕ) (starts now : List StartOf) (job : JobName) (words : List (List ℕ)) (bytes : List ℕ) → (IsTrue tells ↔ IsSome a)
    → now ≡ cond tells (starts ++ record { job = job; words = words; bytes = bytes; given = None; killed = None } ∷ []) starts → b ≡ a → bay_of b task lane now ≡ option_map (started {T = T} (Ok x) job words bytes) (bay_of a task lane starts)
opened_ok x tells a b task lane starts now job words bytes h e same = kept_so tells a b task lane starts now _ h e same

pub opened_failed : (T : Type 0) (tells : Bool) (a b : Option (List ℕ)) (task lane : ℕ) (starts now : List StartOf) (job : JobName) (words : List (List ℕ)) (bytes : List ℕ) → (IsTrue tells ↔ IsSome a)
    → now ≡ cond tells (starts ++ record { job = job; words = words; bytes = bytes; given = None; killed = None } ∷ []) starts → b ≡ a → bay_of b task lane now ≡ option_map (started {T = T} (Err FailFailed) job words bytes) (bay_of a task lane starts)
opened_failed T tells a b task lane starts now job words bytes h e same = kept_so tells a b task lane starts now _ h e same

-- out of memory the start is taken away again
pub taken_back : (tells : Bool) (starts now : List StartOf) (start : StartOf) → now ≡ cond tells (starts ++ start ∷ []) starts → take (length starts) now ≡ starts
taken_back false starts now start e = ap (take (length starts)) e ∙ take-length starts
taken_back true starts now start e = ap (take (length starts)) e ∙ take-append_seam starts (start ∷ [])

pub opened_memory : (T : Type 0) (a b : Option (List ℕ)) (task lane : ℕ) (starts now : List StartOf) (job : JobName) (words : List (List ℕ)) (bytes : List ℕ) → b ≡ a → now ≡ starts
    → bay_of b task lane now ≡ option_map (started {T = T} (Err FailMemory) job words bytes) (bay_of a task lane starts)
opened_memory T None b task lane starts now job words bytes e is = ap (λ (o : Option (List ℕ)). bay_of o task lane now) e
opened_memory T (Some l) b task lane starts now job words bytes e is = ap (λ (o : Option (List ℕ)). bay_of o task lane now) e ∙ ap (λ (s : List StartOf). bay_of (Some l) task lane s) is

pub pipe_so : (a left : Option (List ℕ)) (place : Option ℕ) (task lane : ℕ) (starts : List StartOf) (job : JobName) → left ≡ a → place ≡ option_map (λ _. length starts) a
    → piped left (Sizing []) place 0 ≡ option_map (λ bay. pipe_of (bay.scripts job) (length bay.starts)) (bay_of a task lane starts)
pipe_so None left place task lane starts job e p = ap (λ (o : Option ℕ). piped left (Sizing []) o 0) p
pipe_so (Some l) left place task lane starts job e p =
    ap (λ (o : Option ℕ). piped left (Sizing []) o 0) p ∙ ap (λ (o : Option (List ℕ)). piped o (Sizing []) (Some (length starts)) 0) e

pub placed_so : (a left : Option (List ℕ)) (place : Option ℕ) (n : ℕ) → left ≡ a → place ≡ option_map (λ _. n) a → IsPlaced place left
placed_so None left place n e p = subst (λ (o : Option ℕ). IsPlaced o left) (sym p) tt
placed_so (Some l) left place n e p = subst (λ (o : Option ℕ). IsPlaced o left) (sym p) (subst (IsPlaced (Some n)) (sym e) tt)

pub exit_so : (a : Option (List ℕ)) (place : Option ℕ) (tells : Bool) (n task lane : ℕ) (starts : List StartOf) (job : JobName) → place ≡ option_map (λ _. n) a → (IsTrue tells ↔ IsSome place)
    → exit_of tells false ≡ option_map (λ bay. (bay.scripts job).exit) (bay_of a task lane starts)
exit_so None place false n task lane starts job p h = refl
exit_so None place true n task lane starts job p h = let e : false ≡ true = subst IsSome p (h.0 refl) in cc
exit_so (Some l) place true n task lane starts job p h = refl
exit_so (Some l) place false n task lane starts job p h = let e : false ≡ true = h.1 (subst IsSome (sym p) refl) in cc

pub finished_so : (a : Option (List ℕ)) (pipe : Option PipeOf) (place : Option ℕ) (given : ℕ) (killed : Option ℕ) (task lane : ℕ) (starts now : List StartOf) → place ≡ option_map (λ p. p.place) pipe
    → (place ≡ None → now ≡ starts) → ((p : PipeOf) → pipe ≡ Some p → now ≡ with_given p.place p.given killed starts)
    → bay_of a task lane now ≡ option_map (finished pipe killed) (bay_of a task lane starts)
finished_so None pipe place given killed task lane starts now e n s = refl
finished_so (Some l) None place given killed task lane starts now e n s = ap (λ (x : List StartOf). bay_of (Some l) task lane x) (n e)
finished_so (Some l) (Some p) place given killed task lane starts now e n s = ap (λ (x : List StartOf). bay_of (Some l) task lane x) (s p refl)

-- the count of failed starts after one that failed
cause_failed : (T : Type 0) (old now : ℕ) → now ≡ counted old → old ≤ now → HasCause {T = T} old now (Err FailFailed)
cause_failed T old now is later = record {
  later = later;
  stays = λ (h : old ≡ greatest). omega arith;
  ok = λ h. absurd (let e : false ≡ true = h in cc);
  failed = λ h. omega arith;
  memory = λ h. absurd (let e : ◌≡◌ {A = Result T Fail} (Err FailFailed) (Err FailMemory) = h in cc);
}

cause_memory : (T : Type 0) (old now : ℕ) → now ≡ old → HasCause {T = T} old now (Err FailMemory)
cause_memory T old now is = record {
  later = omega arith;
  stays = λ h. is;
  ok = λ h. is;
  failed = λ h. absurd (let e : ◌≡◌ {A = Result T Fail} (Err FailMemory) (Err FailFailed) = h in cc);
  memory = λ h. is;
}

cause_at : (T A B : Type 0) (fault : Fail) (old now : ℕ) → old ≤ now → (fault ≡ FailFailed → A × (now ≡ counted old)) → (fault ≡ FailMemory → B × (now ≡ old)) → HasCause {T = T} old now (Err fault)
cause_at T A B FailFailed old now later failed memory = cause_failed T old now (failed refl).1 later
cause_at T A B FailMemory old now later failed memory = cause_memory T old now (memory refl).1

pub cause_so : (T A B : Type 0) (fault given : Fail) (old mid now : ℕ) → mid ≡ old → given ≡ fault → mid ≤ now → (fault ≡ FailFailed → A × (now ≡ counted mid)) → (fault ≡ FailMemory → B × (now ≡ mid)) → HasCause {T = T} old now (Err given)
cause_so T A B fault given old mid now is same later failed memory =
    subst (λ (n : ℕ). HasCause {T = T} n now (Err given)) is (subst (λ (f : Fail). HasCause {T = T} mid now (Err f)) (sym same) (cause_at T A B fault mid now later failed memory))
