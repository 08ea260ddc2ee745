-- Why a stream has a fate.
use Rattle.std.proofs.Common.{◌≡◌, ◌⊎◌, inl, inr, ℕ, zero, suc, ◌-◌, ◌<◌, ◌≤◌, Bool, true, false, List, Some, None, length, refl, sym, subst, arith}
use Rattle.std.specs.Prelude.{Option}
use Rattle.std.specs.List.{AllByRecursion}
use Rattle.std.proofs.lemmas.Bool.{cases_lt}
use Rattle.sby_terms.specs.declared.names.Answer.TheVariants.{Sat}
use Rattle.model_core.proofs.Runs.{run_of, run_plays}
use Rattle.model_core.specs.Meaning.{Assumed, Cycle}
use Rattle.model_core.specs.Served.{IsModel}
use Rattle.cert_judge.specs.Fate.{Fate, Found, Unknown as UnknownFate, Bad}
use Rattle.cert_judge.specs.declared.stream.CertKind.TheVariants.{BadWitness as BadWitnessKind, EarlyEnd as EarlyEndKind, NotPlaying}
use Rattle.btor_witness.specs.Grammar.{FrameFits, WitnessOf}
use Rattle.btor_witness.specs.Streams.{EndsWith, Holds, IsFate, IsSeen}
use Rattle.btor_witness.specs.declared.spot.Seen.{Seen}
use Rattle.btor_witness.specs.declared.spot.Seen.TheVariants.{More, Whole, Unknown, EarlyEnd, BadWitness}
use Rattle.witness_judge.proofs.Chosen.{choices_fit}
use Rattle.witness_judge.proofs.Finding.{length_choices}
use Rattle.witness_judge.specs.Choosing.{AskedOf, IsAsked, choices_for, shape_of}
use Rattle.witness_judge.specs.Fate.{BytesFate}
use Rattle.witness_judge.specs.Playing.{AreAssumed, IsFirstUnassumed, IsReached, PlaysTo, RunFate}

module _ (a : AskedOf) (n : ℕ) (cs : ℕ → Cycle) where
  -- where never cycle is the first that isn't assumed, all are
  assumed_somewhere : (j : ℕ) → j ≤ n → ((t : ℕ) → IsFirstUnassumed a.model n cs t → ⊥) → (AreAssumed a.model j cs → ⊥) → ⊥
  assumed_somewhere zero l none never = never (λ t lt. absurd (omega arith))
  assumed_somewhere (suc j) l none never =
      assumed_somewhere j (omega arith) none (λ before.
      none j (record {
        within = omega arith;
        before = before;
        fails = λ is. never (λ t lt.
            elim (cases_lt t j) as (λ _. Assumed a.model (cs t)) [
              | inl below ↦ before t below
              | inr there ↦ let e : j ≡ t = omega arith in subst (λ (z : ℕ). Assumed a.model (cs z)) e is
            ]);
      }))

  run_somewhere : (k : ℕ) → ((fate : Fate) → RunFate a.model a.sought n cs k fate → ⊥) → ⊥
  run_somewhere k never =
      assumed_somewhere n (omega arith) (λ t first. never (Bad NotPlaying t) (inl (t, first, refl))) (λ all.
      let unreached : IsReached a.model a.sought n cs k → ⊥ = λ r. never (Found Sat) (inr (inl (all, r, refl))) in
      never (Bad NotPlaying (n - 1)) (inr (inr (all, unreached, refl))))

module _ (a : AskedOf) (model : IsModel a.model) (asked : IsAsked a) where
  played_somewhere : (x : WitnessOf) → 0 < length x.frames → AllByRecursion (FrameFits (shape_of a)) x.frames → ((fate : Fate) → PlaysTo a x fate → ⊥) → ⊥
  played_somewhere x some fits never =
      elim (cases_lt a.sought.last (length x.frames)) as (λ _. ⊥) [
        | inl long ↦ never (Bad NotPlaying a.sought.last) (inl (long, refl))
        | inr short ↦
            let c = choices_for a x.frames in
            let fit = choices_fit a model asked x.frames fits in
            let cycles : 0 < length c.inputs = subst (λ (n : ℕ). 0 < n) (sym (length_choices a x.frames)) some in
            let plays = run_plays a.model model c fit cycles in
            run_somewhere a (length x.frames) (run_of a.model model c) x.bad (λ fate r. never fate (inr (omega arith, (run_of a.model model c, plays, r))))
      ]

  module _ (seen : (bytes : List ℕ) → (s : Seen) × IsSeen (shape_of a) bytes s) (fate : (bytes : List ℕ) → (s : Seen) × IsFate (shape_of a) bytes s) where
    seen_somewhere : (bytes : List ℕ) (s : Seen) → IsSeen (shape_of a) bytes s → ((x : Option Fate) → BytesFate a false bytes x → ⊥) → ⊥
    seen_somewhere bytes More is never = never None (More, is, refl)
    seen_somewhere bytes Whole (x, h) never = let w = h.3 in played_somewhere x w.some w.fits (λ fate plays. never (Some fate) (Whole, (x, h), (x, fate, h, plays, refl)))
    seen_somewhere bytes Unknown is never = absurd is
    seen_somewhere bytes (EarlyEnd n) is never = absurd is
    seen_somewhere bytes (BadWitness n) is never = never (Some (Bad BadWitnessKind n)) (BadWitness n, is, refl)

    whole_somewhere : (bytes : List ℕ) (x : WitnessOf) → Holds (shape_of a) bytes x ⊎ EndsWith (shape_of a) bytes x → ((x : Option Fate) → BytesFate a true bytes x → ⊥) → ⊥
    whole_somewhere bytes x (inl h) never = let w = h.3 in played_somewhere x w.some w.fits (λ fate plays. never (Some fate) (Whole, (x, inl h), (x, fate, inl h, plays, refl)))
    whole_somewhere bytes x (inr h) never = let w = h.4 in played_somewhere x w.some w.fits (λ fate plays. never (Some fate) (Whole, (x, inr h), (x, fate, inr h, plays, refl)))

    fate_somewhere : (bytes : List ℕ) (s : Seen) → IsFate (shape_of a) bytes s → ((x : Option Fate) → BytesFate a true bytes x → ⊥) → ⊥
    fate_somewhere bytes More is never = absurd is
    fate_somewhere bytes Whole (x, h) never = whole_somewhere bytes x h never
    fate_somewhere bytes Unknown is never = never (Some UnknownFate) (Unknown, is, refl)
    fate_somewhere bytes (EarlyEnd n) is never = never (Some (Bad EarlyEndKind n)) (EarlyEnd n, is, refl)
    fate_somewhere bytes (BadWitness n) is never = never (Some (Bad BadWitnessKind n)) (BadWitness n, is, refl)

    pub come_somewhere : (ended : Bool) (bytes : List ℕ) → ((x : Option Fate) → BytesFate a ended bytes x → ⊥) → ⊥
    come_somewhere false bytes never = let s = seen bytes in seen_somewhere bytes s.0 s.1 never
    come_somewhere true bytes never = let s = fate bytes in fate_somewhere bytes s.0 s.1 never
