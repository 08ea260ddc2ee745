-- What bays leave to their yard.
use Rattle.std.proofs.Common.{◌≡◌, ℕ, inl, inr, List, [], ◌∷◌, ◌++◌, map, option_map, refl, sym, ap, subst, ◌∙◌, arith, append_assoc, append-nil, rules}
use Rattle.std.specs.Prelude.{Option, Some, None, All, Contains, IfSome, slice_get}
use Rattle.std.proofs.lemmas.List.Elements.{All-append, Contains-append_left, Contains-append_right}
use Rattle.sby_edge.specs.Cause.{CountsOf}
use Rattle.sby_edge.specs.Child.{BayOf, IsLogged, LaneOf, StartOf, YardOf, left_by, new_bay}
use Rattle.lane_run.specs.Starting.{with_starts}
use Rattle.task_race.specs.Bays.{BackOf, CameBack, IsToldSince, NoneStarted, YardAt, counts_in, left_all, none_failed}
use Rattle.task_race.specs.Prepared.{AreNew}
use Rattle.std.proofs.lemmas.List.{length-map}
use Rattle.std.proofs.lemmas.Option.{slice_get_within}
use Rattle.task_race.proofs.CountLemmas.{all_fresh}
use Rattle.task_race.proofs.PlaceLemmas.{at_map, contains_at, first_or_later, stands_at}

-- ---- lists that yards tell

-- no lane more
pub none_logged : (started : Option (List LaneOf)) → IsLogged [] started started
none_logged None = inl refl
none_logged (Some lanes) = inl (ap Some (sym (append-nil lanes)))

two_logs : (first then : List LaneOf) (started : Option (List LaneOf))
    → option_map (λ (l : List LaneOf). l ++ then) (option_map (λ (l : List LaneOf). l ++ first) started) ≡ option_map (λ (l : List LaneOf). l ++ (first ++ then)) started
two_logs first then None = refl
two_logs first then (Some lanes) = ap Some (append_assoc lanes first then)

-- some lanes, and then others
pub logged_more : (first then : List LaneOf) (before mid now : Option (List LaneOf)) → IsLogged first before mid → IsLogged then mid now → IsLogged (first ++ then) before now
logged_more first then before mid now (inl h) (inl k) = inl (k ∙ (ap (λ (o : Option (List LaneOf)). option_map (λ (l : List LaneOf). l ++ then) o) h ∙ two_logs first then before))
logged_more first then before mid now (inr h) (inl k) = inr (k ∙ ap (λ (o : Option (List LaneOf)). option_map (λ (l : List LaneOf). l ++ then) o) h)
logged_more first then before mid now h (inr k) = inr k

-- ---- what is left

-- bays that started nothing leave no start
pub unstarted_left : (bay : Option BayOf) (counts : CountsOf) (told : Option YardOf) (task lane : ℕ) → bay ≡ new_bay told task lane → All (λ (l : LaneOf). l.starts ≡ []) (left_by bay counts)
unstarted_left bay counts None task lane is = subst (λ (b : Option BayOf). All (λ (l : LaneOf). l.starts ≡ []) (left_by b counts)) (sym is) (λ i d lt. absurd (omega (lt, arith)))
unstarted_left bay counts (Some scripts) task lane is =
    subst (λ (b : Option BayOf). All (λ (l : LaneOf). l.starts ≡ []) (left_by b counts)) (sym is) (search rules)

pub unstarted_all : {B : Type 0} (view : B → BackOf) (told : Option YardOf) (task : ℕ) (bays : List B) → ((b : B) → Contains bays b → (lane : ℕ) × ((view b).told ≡ new_bay told task lane))
    → All (λ (l : LaneOf). l.starts ≡ []) (left_all (map view bays))
unstarted_all view told task [] fresh = λ i d lt. absurd (omega (lt, arith))
unstarted_all view told task (b ∷ bays) fresh =
    let first = fresh b (0, omega arith, refl) in
    All-append (λ (l : LaneOf). l.starts ≡ []) (left_all (map view bays)) (left_by (view b).told (view b).counts)
    (unstarted_all view told task bays (λ x among. fresh x (Contains-append_right (b ∷ []) bays x among)))
    (unstarted_left (view b).told (view b).counts told task first.0 first.1)

-- a bay that told leaves what it told
entry : BayOf → CountsOf → LaneOf
entry bay counts = record { task = bay.task; lane = bay.lane; starts = bay.starts; counts = counts }

left_entry : (back : BackOf) (bay : BayOf) → back.told ≡ Some bay → Contains (left_by back.told back.counts) (entry bay back.counts)
unfolding entry
left_entry back bay is = subst (λ (b : Option BayOf). Contains (left_by b back.counts) (entry bay back.counts)) (sym is) (0, omega arith, refl)

left_contains : (backs : List BackOf) (back : BackOf) (bay : BayOf) → Contains backs back → back.told ≡ Some bay → Contains (left_all backs) (entry bay back.counts)
left_contains [] back bay among is = absurd (omega (among.1, arith))
left_contains (first ∷ backs) back bay among is = elim (first_or_later first back backs among) [
  | inl here ↦ Contains-append_right (left_all backs) (left_by first.told first.counts) (entry bay back.counts)
      (subst (λ (b : BackOf). Contains (left_by b.told b.counts) (entry bay back.counts)) (sym here) (left_entry back bay is))
  | inr rest ↦ Contains-append_left (left_all backs) (left_by first.told first.counts) (entry bay back.counts) (left_contains backs back bay rest is)
]

pub counts_told : (scripts : Option YardOf) (before now : Option (List LaneOf)) (task lane : ℕ) (backs : List BackOf) (back : BackOf) (starts : List StartOf)
    → Contains backs back → back.told ≡ option_map (with_starts starts) (new_bay scripts task lane) → IsLogged (left_all backs) before now
    → IfSome scripts (λ _. IsToldSince before now (λ left. (left.task ≡ task) × (left.lane ≡ lane) × (left.counts ≡ back.counts)))
unfolding entry
counts_told None before now task lane backs back starts among is logged = tt
counts_told (Some scripts) None now task lane backs back starts among is logged = tt
counts_told (Some scripts) (Some earlier) None task lane backs back starts among is logged = tt
counts_told (Some scripts) (Some earlier) (Some lanes) task lane backs back starts among is (inr none) = absurd cc
counts_told (Some scripts) (Some earlier) (Some lanes) task lane backs back starts among is (inl logged) =
    let bay : BayOf = record { task = task; lane = lane; scripts = scripts task lane; starts = [] ++ starts } in
    let same : lanes ≡ earlier ++ left_all backs = cc in
    (left_all backs, entry bay back.counts, same, left_contains backs back bay among is, (refl, refl, refl))

-- the counts of bays, by what they left
pub counts_left : {B : Type 0} (view : B → BackOf) (counts : B → CountsOf) (bays : List B) → ((b : B) → (view b).counts ≡ counts b) → map counts_in (map view bays) ≡ map counts bays
counts_left view counts [] same = refl
counts_left view counts (b ∷ bays) same = ap (λ (l : List CountsOf). (view b).counts ∷ l) (counts_left view counts bays same) ∙ ap (λ (c : CountsOf). c ∷ map counts bays) (same b)

-- ---- new bays

some_same : {X : Type 0} (x y : X) → ◌≡◌ {A = Option X} (Some x) (Some y) → x ≡ y
some_same x y h = cc

module _ {B : Type 0} (counts : B → CountsOf) (tells : B → Option BayOf) (task : ℕ) (bays : List B) where
  -- bays are new where each of them is
  pub new_bays : (scripts : Option YardOf)
      → ((lane : ℕ) (b : B) → slice_get bays lane ≡ Some b → (tells b ≡ new_bay scripts task lane) × (counts b ≡ none_failed))
      → AreNew scripts task (map (λ b. record { told = tells b; counts = counts b }) bays)
  new_bays scripts fresh = λ lane back at.
      let view : B → BackOf = λ b. record { told = tells b; counts = counts b } in
      let b = stands_at bays lane (omega (slice_get_within (map view bays) lane back at, length-map bays view, arith)) in
      subst (λ (x : BackOf). (x.told ≡ new_bay scripts task lane) × (x.counts ≡ none_failed)) (some_same (view b.0) back (sym (at_map view bays lane b.0 b.1) ∙ at)) (fresh lane b.0 b.1)

  -- new bays that came back leave no start
  pub none_started : (before now : YardAt) → AreNew before.scripts task (map (λ b. record { told = tells b; counts = counts b }) bays) → now.scripts ≡ before.scripts
      → CameBack (map counts bays) before.counts now.counts
      → IsLogged (left_all (map (λ b. record { told = tells b; counts = counts b }) bays)) before.started now.started → NoneStarted before now
  none_started before now new same back logged =
      let view : B → BackOf = λ b. record { told = tells b; counts = counts b } in
      record {
        scripts = same;
        counts = back.stood (all_fresh counts bays (λ lane b at. (new lane (view b) (at_map view bays lane b at)).1));
        lanes = left_all (map view bays);
        logged = logged;
        unstarted = unstarted_all view before.scripts task bays (λ b among. (among.0, (new among.0 (view b) (at_map view bays among.0 b (contains_at bays b among))).0));
      }
