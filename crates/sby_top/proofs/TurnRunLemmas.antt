-- Each end of a call is that of the turn at its place.
use Rattle.std.proofs.Common.{◌≡◌, List, [], ◌∷◌, ℕ, zero, suc, ◌+◌, refl, subst, inl, inr, arith}
use Rattle.std.specs.Prelude.{Some, None, bit_or, slice_get}
use Rattle.cnf_form.proofs.Members.{Contains-empty}
use Rattle.sby_lines.proofs.PlaceLemmas.{at_contains}
use Rattle.sby_lines.proofs.ShownLemmas.{some_same}
use Rattle.sby_words.specs.Requests.{AskGen, AskJudge, AskNames, AskTasks, Request as Asked}
use Rattle.sby_words.specs.Words.{IsAsked}
use Rattle.sby_top.specs.Claims.{TurnHasRun}
use Rattle.sby_top.specs.Headline.{Exit, Code, Cut}
use Rattle.sby_top.specs.Run.{Did, TurnRan, TurnsDone, TurnsRan}
use Rattle.sby_top.specs.Turns.{Turn}
use Rattle.sby_top.specs.World.{Moments, World}
use Rattle.sby_top.specs.declared.outcome.Done.{Done}
use Rattle.sby_top.specs.declared.outcome.TaskEnd.{TaskEnd}

-- the turn at a place, with its moments
record HadAt (may_read : ℕ → Type 0) (number : ℕ) (turns : List Turn) (ms : List Moments) (place : ℕ) (end : TaskEnd) : Type 0 where
  moments : Moments
  turn : Turn
  at : slice_get turns place ≡ Some turn
  moments_at : slice_get ms place ≡ Some moments
  exit : Exit
  ran : TurnRan may_read (number + place) moments turn end exit

first_number : (number : ℕ) → number ≡ number + 0
first_number number = omega arith

next_number : (number place : ℕ) → (number + 1) + place ≡ number + suc place
next_number number place = omega arith

none_at : (place : ℕ) (ends : List TaskEnd) (end : TaskEnd) → ends ≡ [] → slice_get ends place ≡ Some end → ⊥
none_at place ends end none at = Contains-empty end (at_contains [] place end (subst (λ es. slice_get es place ≡ Some end) none at))

had_at : (may_read : ℕ → Type 0) (number so_far : ℕ) (turns : List Turn) (ms : List Moments) (ends : List TaskEnd) (exit : Exit) (place : ℕ) (end : TaskEnd) → TurnsRan may_read number so_far turns ms ends exit
    → slice_get ends place ≡ Some end → HadAt may_read number turns ms place end
had_at may_read number so_far [] [] [] exit place end had at = absurd (none_at place [] end refl at)
had_at may_read number so_far [] [] (e ∷ ends) exit place end had at = absurd had
had_at may_read number so_far [] (m ∷ ms) ends exit place end had at = absurd had
had_at may_read number so_far (turn ∷ turns) [] [] exit place end had at = absurd (none_at place [] end refl at)
had_at may_read number so_far (turn ∷ turns) [] (e ∷ ends) exit place end had at = absurd had
had_at may_read number so_far (turn ∷ turns) (m ∷ ms) [] exit place end had at = absurd had
had_at may_read number so_far (turn ∷ turns) (m ∷ ms) (e ∷ ends) exit zero end (inl cut) at = record {
  moments = m;
  turn = turn;
  at = refl;
  moments_at = refl;
  exit = Cut;
  ran = subst (λ n. TurnRan may_read n m turn end Cut) (first_number number) (subst (λ x. TurnRan may_read number m turn x Cut) (some_same e end at) cut.0);
}
had_at may_read number so_far (turn ∷ turns) (m ∷ ms) (e ∷ ends) exit zero end (inr more) at = record {
  moments = m;
  turn = turn;
  at = refl;
  moments_at = refl;
  exit = Code more.0;
  ran = subst (λ n. TurnRan may_read n m turn end (Code more.0)) (first_number number) (subst (λ x. TurnRan may_read number m turn x (Code more.0)) (some_same e end at) more.1);
}
had_at may_read number so_far (turn ∷ turns) (m ∷ ms) (e ∷ ends) exit (suc place) end (inl cut) at = absurd (none_at place ends end cut.2 at)
had_at may_read number so_far (turn ∷ turns) (m ∷ ms) (e ∷ ends) exit (suc place) end (inr more) at =
    let rest = had_at may_read (number + 1) (bit_or so_far more.0) turns ms ends exit place end more.2 at in record {
      moments = rest.moments;
      turn = rest.turn;
      at = rest.at;
      moments_at = rest.moments_at;
      exit = rest.exit;
      ran = subst (λ n. TurnRan may_read n rest.moments rest.turn end rest.exit) (next_number number place) rest.ran;
    }

-- a turn of a call has this end, which stands at this place
abbrev pub HasTurnAt : (ℕ → Type 0) → World → World → List (List ℕ) → Done → ℕ → TaskEnd → Type 0
HasTurnAt may_read before after words done place end = (moments : Moments) × (turn : Turn) × (had : TurnHasRun may_read before after words done moments turn end) × (had.place ≡ place)

place_number : (place : ℕ) → 0 + place ≡ place
place_number place = omega arith

turns_had : (may_read : ℕ → Type 0) (before after : World) (words : List (List ℕ)) (done : Done) (asked : Asked) (place : ℕ) (end : TaskEnd) → IsAsked words (Some asked) → TurnsDone may_read before after done asked → slice_get done.ends.items place ≡ Some end
    → HasTurnAt may_read before after words done place end
turns_had may_read before after words done asked place end asks run at =
    let had = had_at may_read 0 0 run.turns run.ran.0 done.ends.items run.exit place end run.ran.1 at in (
      had.moments,
      had.turn,
      record {
        asked = asked;
        asks = asks;
        begun = run.middle;
        same_sink = run.same_sink;
        turns = run.turns;
        has_turns = run.has_turns;
        ms = run.ran.0;
        total = run.exit;
        had = run.ran.1;
        order = run.ran.2;
        rc = run.rc;
        place = place;
        turn_is = had.at;
        moments_are = had.moments_at;
        end_is = at;
        exit = had.exit;
        ran = subst (λ n. TurnRan may_read n had.moments had.turn end had.exit) (place_number place) had.ran;
      },
      refl,
    )

pub each_had : (may_read : ℕ → Type 0) (before after : World) (words : List (List ℕ)) (done : Done) (place : ℕ) (end : TaskEnd) → Did may_read before after words done → slice_get done.ends.items place ≡ Some end → HasTurnAt may_read before after words done place end
each_had may_read before after words done place end (inl (None, asks, usage)) at = absurd (none_at place done.ends.items end usage.ends at)
each_had may_read before after words done place end (inl (Some (AskNames file), asks, inl told)) at = absurd (none_at place done.ends.items end told.4.ends at)
each_had may_read before after words done place end (inl (Some (AskNames file), asks, inr run)) at = turns_had may_read before after words done (AskNames file) place end asks run at
each_had may_read before after words done place end (inl (Some (AskJudge j), asks, run)) at = turns_had may_read before after words done (AskJudge j) place end asks run at
each_had may_read before after words done place end (inl (Some (AskTasks t), asks, run)) at = turns_had may_read before after words done (AskTasks t) place end asks run at
each_had may_read before after words done place end (inl (Some (AskGen g), asks, run)) at = turns_had may_read before after words done (AskGen g) place end asks run at
each_had may_read before after words done place end (inr nothing) at = absurd (none_at place done.ends.items end nothing.ends at)
