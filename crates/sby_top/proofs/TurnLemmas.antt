-- Turns run, one after the other.
use Rattle.std.proofs.Common.{◌≡◌, ℕ, List, [], ◌∷◌, ◌++◌, refl, ap, sym, ◌∙◌, subst, inl, inr, ◌⊎◌, map, append_assoc, append-nil, ◌+◌, ◌<◌, ◌≤◌, length, take, drop, arith, Global}
use Rattle.std.specs.Prelude.{Bool, true, false, Option, Some, None, Result, Ok, Err, Contains, bit_or, bytes_eq, option_map, slice_get, string_bytes, String}
use Rattle.std.proofs.lemmas.List.{drop_all, length-append, map-append, take-append-drop}
use Rattle.std.proofs.lemmas.List.Elements.{Contains-append_cases}
use Rattle.std.proofs.lemmas.Option.{slice_get-map}
use Rattle.design_core.proofs.Lists.{Contains-from_place}
use Rattle.sby_lines.proofs.PlaceLemmas.{drop_at}
use Rattle.sby_top.specs.End.{exit_seen}
use Rattle.sby_top.specs.declared.run.Exit.{Exit as KeptExit}
use Rattle.sby_top.specs.declared.run.Exit.TheVariants.{Code as KeptCode, Cut as KeptCut}
use Rattle.sby_top.proofs.JobLemmas.{take_at}
use Rattle.std.specs.Int.Bits.{or_zero_l}
use Rattle.std.proofs.lemmas.Slice.Eq.{bytes_eq-Decides}
use Rattle.sby_file.specs.Config.{ConfigOf}
use Rattle.sby_task.specs.Expand.{expansion}
use Rattle.sby_task.specs.declared.expansion.Task.{Task as FileTask}
use Rattle.sby_task.specs.declared.task_fault.TaskFault.{TaskFault}
use Rattle.sby_lines.specs.declared.early.Early.TheVariants.{Memory}
use Rattle.sby_words.specs.Folders.{task_folder}
use Rattle.sby_top.specs.Ending.{HaveRun, IsAsk, IsAskedTurn, RanAtOnce, RunsTo}
use Rattle.sby_top.specs.Headline.{Exit, Code, Cut}
use Rattle.sby_top.specs.Run.{Ran, name_lines, rc_of_exit}
use Rattle.sby_top.specs.Turns.{AreTurnsOf, IsNameOf, IsTurnOf, Refused, Turn}
use Rattle.sby_top.specs.World.{World, at_once}
use Rattle.sby_top.specs.declared.outcome.Done.{Done}
use Rattle.sby_top.specs.declared.outcome.TaskEnd.{TaskEnd}
use Rattle.sby_top.proofs.ReportLemmas.{first_or_later, nothing_in}
use Rattle.sby_top.proofs.TogetherLemmas.{none_started_yet}
use Rattle.cnf_form.proofs.Members.{Contains-head, Contains-tail}

-- memory ran out even for an end
pub no_ends : (jobs : Option ℕ) (may_read : ℕ → Type 0) (before : World) (turn : Turn) (turns : List Turn) (done : Done) → done.rc ≡ 32 → done.ends.items ≡ [] → RunsTo jobs may_read before (turn ∷ turns) before done
no_ends None may_read before turn turns done rc ends = (Code (bit_or 0 32), rw ends ([], refl, refl), rc)
no_ends (Some most) may_read before turn turns done rc ends = (
  Code (bit_or 0 32),
  rw ends ([], refl, ([], inl refl, tt, record { pool = tt; ready = before; prepared = refl; spared = none_started_yet before.yard; silent = refl; shown = refl })),
  rc,
)

-- the turns that follow one that ran
ran_next : (may_read : ℕ → Type 0) (number so_far : ℕ) (start now : World) (turn : Turn) (turns : List Turn) (end : TaskEnd) (ends : List TaskEnd) (rc : ℕ) (after : World) (exit : Exit) → RanAtOnce may_read number start now turn end (Code rc)
    → Ran may_read (number + 1) (bit_or so_far rc) now turns ends after exit → Ran may_read number so_far start (turn ∷ turns) (end ∷ ends) after exit
ran_next may_read number so_far start now turn turns end ends rc after exit had rest = (at_once start had.0 now ∷ rest.0, inr (rc, had.1, rest.1), ((refl, refl, refl), rest.2))

-- a turn that cut the run short
ran_cut : (may_read : ℕ → Type 0) (number so_far : ℕ) (start after : World) (turn : Turn) (turns : List Turn) (end : TaskEnd) → RanAtOnce may_read number start after turn end Cut → Ran may_read number so_far start (turn ∷ turns) (end ∷ []) after Cut
ran_cut may_read number so_far start after turn turns end had = (at_once start had.0 after ∷ [], inl (had.1, refl, refl, refl), ((refl, refl, refl), refl))

one_by : (may_read : ℕ → Type 0) (before after : World) (turn : Turn) (end : TaskEnd) (exit : Exit) → RanAtOnce may_read 0 before after turn end exit → (total : Exit) × Ran may_read 0 0 before (turn ∷ []) (end ∷ []) after total × (rc_of_exit exit ≡ rc_of_exit total)
one_by may_read before after turn end (Code rc) had = (Code (bit_or 0 rc), ran_next may_read 0 0 before after turn [] end [] rc after (Code (bit_or 0 rc)) had ([], refl, refl), sym (or_zero_l rc))
one_by may_read before after turn end Cut had = (Cut, ran_cut may_read 0 0 before after turn [] end had, refl)

-- the only turn ran
pub one_ran : (may_read : ℕ → Type 0) (before after : World) (turn : Turn) (end : TaskEnd) (exit : Exit) (done : Done) → RanAtOnce may_read 0 before after turn end exit → done.rc ≡ rc_of_exit exit → done.ends.items ≡ end ∷ [] → RunsTo None may_read before (turn ∷ []) after done
one_ran may_read before after turn end exit done had rc ends = let one = one_by may_read before after turn end exit had in (one.0, rw ends one.1, rc ∙ one.2)

-- ---- every task has a turn

tested : (a b : List ℕ) (v : Bool) → bytes_eq a b ≡ v → (a ≡ b) ⊎ (a ≡ b → ⊥)
tested a b true is = inl ((bytes_eq-Decides a b).0 is)
tested a b false is = inr (λ same. let no : false ≡ true = sym is ∙ (bytes_eq-Decides a b).1 same in cc)

member : (xs : List (List ℕ)) (x : List ℕ) → Contains xs x ⊎ (Contains xs x → ⊥)
member [] x = inr (λ c. nothing_in x c)
member (y ∷ xs) x = elim (tested y x (bytes_eq y x) refl) [
  | inl is ↦ inl (subst (Contains (y ∷ xs)) is (Contains-head y xs))
  | inr apart ↦ elim (member xs x) [
    | inl later ↦ inl (Contains-tail y x xs later)
    | inr none ↦ inr (λ c. elim (first_or_later y x xs c) [ inl here ↦ apart here | inr later ↦ none later ])
  ]
]

name_exists : (stem : List ℕ) (directory : Option (List ℕ)) (c : ConfigOf) (asked : Option (List ℕ)) → (name : List ℕ) × IsNameOf stem directory c asked name
name_exists stem directory c None = (task_folder stem directory [], refl)
name_exists stem directory c (Some task) = elim (member c.tasks task) [
  | inl among ↦ (task_folder stem directory task, inl (among, refl))
  | inr none ↦ (task_folder stem directory [], inr (none, refl))
]

refused_turn : (name : List ℕ) (r : Result FileTask TaskFault) → IsTurnOf name r (Refused name Memory)
refused_turn name (Ok task) = inr refl
refused_turn name (Err fault) = inr refl

pub turn_exists : (stem : List ℕ) (directory : Option (List ℕ)) (c : ConfigOf) (asked : Option (List ℕ)) → (turn : Turn) × IsAskedTurn stem directory c asked turn
turn_exists stem directory c asked = let name = name_exists stem directory c asked in (Refused name.0 Memory, (name.0, name.1, refused_turn name.0 (expansion c asked)))

pub turns_exist : (stem : List ℕ) (directory : Option (List ℕ)) (c : ConfigOf) (asked : List (Option (List ℕ))) → (turns : List Turn) × AreTurnsOf stem directory c asked turns
turns_exist stem directory c [] = ([], refl)
turns_exist stem directory c (a ∷ asked) =
    let first = turn_exists stem directory c a in let rest = turns_exist stem directory c asked in (first.0 ∷ rest.0, (first.1, rest.1))

pub turns_append : (stem : List ℕ) (directory : Option (List ℕ)) (c : ConfigOf) (asked more : List (Option (List ℕ))) (turns others : List Turn) → AreTurnsOf stem directory c asked turns → AreTurnsOf stem directory c more others
    → AreTurnsOf stem directory c (asked ++ more) (turns ++ others)
turns_append stem directory c [] more turns others are then = rw are then
turns_append stem directory c (a ∷ asked) more [] others are then = absurd are
turns_append stem directory c (a ∷ asked) more (turn ∷ turns) others are then = (are.0, turns_append stem directory c asked more turns others are.1 then)

-- ---- turns so far

pub had_none : (may_read : ℕ → Type 0) (start : World) (stem : List ℕ) (directory : Option (List ℕ)) (c : ConfigOf) (done : Done) → done.rc ≡ 0 → done.ends.items ≡ [] → HaveRun may_read start start stem directory c [] done
had_none may_read start stem directory c done rc ends = record {
  turns = [];
  are = refl;
  go_on = λ more last after exit ran. rw ends (subst (λ n. Ran may_read n 0 start more last after exit) (ap length ends) (subst (λ n. Ran may_read (length done.ends.items) n start more last after exit) rc ran));
}

one_more_end : {X : Type 0} (old new : List X) (x : X) → new ≡ old ++ x ∷ [] → length new ≡ length old + 1
one_more_end old new x is = let both = length-append old (x ∷ []) in let all = ap length is in omega (arith, both, all)

pub had_more : (may_read : ℕ → Type 0) (start mid now : World) (stem : List ℕ) (directory : Option (List ℕ)) (c : ConfigOf) (asked : List (Option (List ℕ))) (a : Option (List ℕ)) (old new : Done) → HaveRun may_read start mid stem directory c asked old
    → IsAsk may_read mid now stem directory c a old new true → HaveRun may_read start now stem directory c (asked ++ a ∷ []) new
had_more may_read start mid now stem directory c asked a old new had is = record {
  turns = had.turns ++ is.0 ∷ [];
  are = turns_append stem directory c asked (a ∷ []) had.turns (is.0 ∷ []) had.are (is.3, refl);
  go_on = λ more last after exit ran.
      let rest : Ran may_read (length old.ends.items + 1) (bit_or old.rc is.2) now more last after exit =
      subst (λ n. Ran may_read n (bit_or old.rc is.2) now more last after exit) (one_more_end old.ends.items new.ends.items is.1 is.6) (subst (λ n. Ran may_read (length new.ends.items) n now more last after exit) is.5 ran) in
      let all = had.go_on (is.0 ∷ more) (is.1 ∷ last) after exit (ran_next may_read (length old.ends.items) old.rc mid now is.0 more is.1 last is.2 after exit is.4 rest) in
      let ends : new.ends.items ++ last ≡ old.ends.items ++ is.1 ∷ last = ap (λ es. es ++ last) is.6 ∙ append_assoc old.ends.items (is.1 ∷ []) last in
      subst (λ es. Ran may_read 0 0 start ((had.turns ++ is.0 ∷ []) ++ more) es after exit) (sym ends)
      (subst (λ ts. Ran may_read 0 0 start ts (old.ends.items ++ is.1 ∷ last) after exit) (sym (append_assoc had.turns (is.0 ∷ []) more)) all);
}

-- all turns, with those that didn't run
abbrev pub RanAsked : Option ℕ → (ℕ → Type 0) → World → World → List ℕ → Option (List ℕ) → ConfigOf → List (Option (List ℕ)) → Done → Type 0
RanAsked jobs may_read start now stem directory c asked done = (turns : List Turn) × AreTurnsOf stem directory c asked turns × RunsTo jobs may_read start turns now done

pub had_last : (may_read : ℕ → Type 0) (start mid now : World) (stem : List ℕ) (directory : Option (List ℕ)) (c : ConfigOf) (asked more : List (Option (List ℕ))) (a : Option (List ℕ)) (old new : Done) → HaveRun may_read start mid stem directory c asked old
    → IsAsk may_read mid now stem directory c a old new false → RanAsked None may_read start now stem directory c (asked ++ a ∷ more) new
had_last may_read start mid now stem directory c asked more a old new had (inl cut) =
    let rest = turns_exist stem directory c more in (
      had.turns ++ cut.0 ∷ rest.0,
      turns_append stem directory c asked (a ∷ more) had.turns (cut.0 ∷ rest.0) had.are (cut.2, rest.1),
      (Cut, rw cut.5 (had.go_on (cut.0 ∷ rest.0) (cut.1 ∷ []) now Cut (ran_cut may_read (length old.ends.items) old.rc mid now cut.0 rest.0 cut.1 cut.3)), cut.4),
    )
had_last may_read start mid now stem directory c asked more a old new had (inr wanting) =
    let first = turn_exists stem directory c a in
    let others = turns_exist stem directory c more in (
      had.turns ++ first.0 ∷ others.0,
      turns_append stem directory c asked (a ∷ more) had.turns (first.0 ∷ others.0) had.are (first.1, others.1),
      (
        Code (bit_or old.rc 32),
        subst (λ es. Ran may_read 0 0 start (had.turns ++ first.0 ∷ others.0) es now (Code (bit_or old.rc 32))) (append-nil old.ends.items ∙ sym wanting.2)
            (had.go_on (first.0 ∷ others.0) [] now (Code (bit_or old.rc 32)) ([], refl, wanting.0)),
        wanting.1,
      ),
    )

pub had_all : (may_read : ℕ → Type 0) (start now : World) (stem : List ℕ) (directory : Option (List ℕ)) (c : ConfigOf) (asked : List (Option (List ℕ))) (done : Done) → HaveRun may_read start now stem directory c asked done → RanAsked None may_read start now stem directory c asked done
had_all may_read start now stem directory c asked done had = (
  had.turns,
  had.are,
  (
    Code done.rc,
    subst (λ ts. Ran may_read 0 0 start ts done.ends.items now (Code done.rc)) (append-nil had.turns)
        (subst (λ es. Ran may_read 0 0 start (had.turns ++ []) es now (Code done.rc)) (append-nil done.ends.items) (had.go_on [] [] now (Code done.rc) ([], refl, refl))),
    refl,
  ),
)

-- memory ran out before any of some tasks
pub none_asked : (jobs : Option ℕ) (may_read : ℕ → Type 0) (start : World) (stem : List ℕ) (directory : Option (List ℕ)) (c : ConfigOf) (asked : List (Option (List ℕ))) (done : Done) → 0 < length asked → done.rc ≡ 32 → done.ends.items ≡ []
    → RanAsked jobs may_read start start stem directory c asked done
none_asked jobs may_read start stem directory c [] done some rc ends = absurd (omega (arith, some))
none_asked jobs may_read start stem directory c (a ∷ asked) done some rc ends =
    let first = turn_exists stem directory c a in let rest = turns_exist stem directory c asked in
    (first.0 ∷ rest.0, (first.1, rest.1), no_ends jobs may_read start first.0 rest.0 done rc ends)

-- ---- exits as they are kept

pub seen_code : (may_read : ℕ → Type 0) (own number : ℕ) (before after : World) (turn : Turn) (end : TaskEnd) (x : KeptExit) (rc : ℕ) → own ≡ number → x ≡ KeptCode rc → RanAtOnce may_read own before after turn end (exit_seen x)
    → RanAtOnce may_read number before after turn end (Code rc)
seen_code may_read own number before after turn end x rc same is ran =
    subst (λ n. RanAtOnce may_read n before after turn end (Code rc)) same (subst (λ e. RanAtOnce may_read own before after turn end (exit_seen e)) is ran)

pub seen_cut : (may_read : ℕ → Type 0) (own number : ℕ) (before after : World) (turn : Turn) (end : TaskEnd) (x : KeptExit) → own ≡ number → x ≡ KeptCut → RanAtOnce may_read own before after turn end (exit_seen x)
    → RanAtOnce may_read number before after turn end Cut
seen_cut may_read own number before after turn end x same is ran =
    subst (λ n. RanAtOnce may_read n before after turn end Cut) same (subst (λ e. RanAtOnce may_read own before after turn end (exit_seen e)) is ran)

-- ---- names

abbrev pub asked_names : List (String Global) → List (Option (List ℕ))
asked_names names = map Some (map string_bytes names)

pub asked_next : (names : List (String Global)) (i : ℕ) (s : String Global) → slice_get names i ≡ Some s → asked_names (take (i + 1) names) ≡ asked_names (take i names) ++ Some (string_bytes s) ∷ []
asked_next names i s at = ap asked_names (take_at names i s at) ∙ ap (map Some) (map-append string_bytes (take i names) (s ∷ [])) ∙ map-append Some (map string_bytes (take i names)) (string_bytes s ∷ [])

pub asked_split : (names : List (String Global)) (i : ℕ) (s : String Global) → slice_get names i ≡ Some s → asked_names names ≡ asked_names (take i names) ++ Some (string_bytes s) ∷ asked_names (drop (i + 1) names)
asked_split names i s at =
    ap asked_names (sym (take-append-drop i names)) ∙ ap (map Some) (map-append string_bytes (take i names) (drop i names)) ∙ map-append Some (map string_bytes (take i names)) (map string_bytes (drop i names))
    ∙ ap (λ ys. asked_names (take i names) ++ asked_names ys) (drop_at names i s at)

-- the turn that was asked for, by the name and the answer
pub ask_at : (may_read : ℕ → Type 0) (before after : World) (stem : List ℕ) (directory : Option (List ℕ)) (c : ConfigOf) (x y : List ℕ) (old new : Done) (b v : Bool) → b ≡ v → x ≡ y → IsAsk may_read before after stem directory c (Some x) old new b
    → IsAsk may_read before after stem directory c (Some y) old new v
ask_at may_read before after stem directory c x y old new b v answer name is =
    subst (λ n. IsAsk may_read before after stem directory c (Some n) old new v) name (subst (IsAsk may_read before after stem directory c (Some x) old new) answer is)

pub ends_more : (may_read : ℕ → Type 0) (before after : World) (stem : List ℕ) (directory : Option (List ℕ)) (c : ConfigOf) (asked : Option (List ℕ)) (old new : Done) → IsAsk may_read before after stem directory c asked old new true
    → length new.ends.items ≡ length old.ends.items + 1
ends_more may_read before after stem directory c asked old new is = one_more_end old.ends.items new.ends.items is.1 is.6

-- ---- the names of a file

pub lines_next : (names : List (String Global)) (i : ℕ) (s : String Global) (text : List ℕ) → slice_get names i ≡ Some s → text ≡ string_bytes s
    → name_lines (map string_bytes (drop i names)) ≡ ((text ++ 10 ∷ []) ∷ []) ++ name_lines (map string_bytes (drop (i + 1) names))
lines_next names i s text at is = ap (λ ns. name_lines (map string_bytes ns)) (drop_at names i s at) ∙ ap (λ t. (t ++ 10 ∷ []) ∷ name_lines (map string_bytes (drop (i + 1) names))) (sym is)

pub lines_end : (names : List (String Global)) (i : ℕ) → length names ≤ i → name_lines (map string_bytes (drop i names)) ≡ []
lines_end names i all = ap (λ ns. name_lines (map string_bytes ns)) (drop_all i names all)

-- ---- tasks by name

pub none_more : (names : List (String Global)) (i : ℕ) (s : String Global) (name : List ℕ) → slice_get names i ≡ Some s → (string_bytes s ≡ name → ⊥) → (Contains (map string_bytes (take i names)) name → ⊥)
    → Contains (map string_bytes (take (i + 1) names)) name → ⊥
none_more names i s name at apart none among =
    let split = ap (map string_bytes) (take_at names i s at) ∙ map-append string_bytes (take i names) (s ∷ []) in
    elim (Contains-append_cases (map string_bytes (take i names)) (string_bytes s ∷ []) name (subst (λ xs. Contains xs name) split among)) [
      | inl before ↦ none before
      | inr here ↦ elim (first_or_later (string_bytes s) name [] here) [ inl is ↦ apart is | inr later ↦ nothing_in name later ]
    ]

pub named_at : (names : List (String Global)) (i : ℕ) (s : String Global) (name : List ℕ) → slice_get names i ≡ Some s → string_bytes s ≡ name → Contains (map string_bytes names) name
named_at names i s name at is = Contains-from_place (map string_bytes names) i name (slice_get-map string_bytes names i ∙ ap (option_map string_bytes) at ∙ ap Some is)

-- ---- the same, for lists of tasks that are written otherwise

pub had_more_at : (may_read : ℕ → Type 0) (start mid now : World) (stem : List ℕ) (directory : Option (List ℕ)) (c : ConfigOf) (asked next : List (Option (List ℕ))) (a : Option (List ℕ)) (old new : Done) → next ≡ asked ++ a ∷ [] → HaveRun may_read start mid stem directory c asked old
    → IsAsk may_read mid now stem directory c a old new true → HaveRun may_read start now stem directory c next new
had_more_at may_read start mid now stem directory c asked next a old new all had is = subst (λ xs. HaveRun may_read start now stem directory c xs new) (sym all) (had_more may_read start mid now stem directory c asked a old new had is)

pub had_last_at : (may_read : ℕ → Type 0) (start mid now : World) (stem : List ℕ) (directory : Option (List ℕ)) (c : ConfigOf) (asked more all : List (Option (List ℕ))) (a : Option (List ℕ)) (old new : Done) → all ≡ asked ++ a ∷ more
    → HaveRun may_read start mid stem directory c asked old → IsAsk may_read mid now stem directory c a old new false → RanAsked None may_read start now stem directory c all new
had_last_at may_read start mid now stem directory c asked more all a old new is had ask = subst (λ xs. RanAsked None may_read start now stem directory c xs new) (sym is) (had_last may_read start mid now stem directory c asked more a old new had ask)

pub had_all_at : (may_read : ℕ → Type 0) (start now : World) (stem : List ℕ) (directory : Option (List ℕ)) (c : ConfigOf) (asked all : List (Option (List ℕ))) (done : Done) → asked ≡ all → HaveRun may_read start now stem directory c asked done
    → RanAsked None may_read start now stem directory c all done
had_all_at may_read start now stem directory c asked all done is had = subst (λ xs. RanAsked None may_read start now stem directory c xs done) is (had_all may_read start now stem directory c asked done had)
