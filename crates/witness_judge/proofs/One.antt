-- Bytes have one fate.
use Rattle.std.proofs.Common.{◌≡◌, ◌⊎◌, ℕ, suc, ◌+◌, ◌-◌, ◌<◌, ◌≤◌, Bool, true, false, List, [], ◌∷◌, Option, Some, length, refl, sym, ap, ◌∙◌, subst, arith, inl, inr}
use Rattle.model_core.specs.Choices.{Agree, ChoicesOf, Plays}
use Rattle.model_core.specs.Meaning.{Assumed, Cycle}
use Rattle.model_core.specs.Served.{IsModel}
use Rattle.model_core.specs.Shape.{ModelOf}
use Rattle.model_core.proofs.Frames.{assumed_kept, broken_kept, reached_kept}
use Rattle.model_core.proofs.Runs.{runs_same}
use Rattle.cert_judge.specs.Fate.{Fate}
use Rattle.cert_judge.proofs.Bounding.{one_by, one_so_far_by, sides}
use Rattle.btor_emit.specs.Goals.{IsGoal}
use Rattle.btor_emit.specs.declared.goal.Goal.{Goal}
use Rattle.btor_emit.specs.declared.goal.Goal.TheVariants as goal
use Rattle.btor_witness.specs.Grammar.{WitnessOf}
use Rattle.btor_witness.specs.Machine.{WitnessesOf, after, fresh}
use Rattle.btor_witness.specs.Shape.{ShapeOf}
use Rattle.btor_witness.specs.Streams.{EndsWith, Holds, IsBadAt, IsFate}
use Rattle.btor_witness.specs.declared.spot.Seen.{Seen}
use Rattle.btor_witness.specs.declared.spot.Seen.TheVariants.{More, Whole, Unknown, EarlyEnd, BadWitness}
use Rattle.btor_witness.specs.declared.spot.Spot.TheVariants as spot
use Rattle.btor_witness.proofs.Bytes.{after_over}
use Rattle.btor_witness.proofs.Exact.{bad_reads, end_kept, ends_reads, holds_reads, one_seen}
use Rattle.witness_judge.specs.Choosing.{AskedOf, choices_for, shape_of}
use Rattle.witness_judge.specs.Fate.{BytesFate, IsWitnessFate, IsWitnessFateSoFar, SeenBy, SeenFate}
use Rattle.witness_judge.specs.Playing.{IsFirstUnassumed, IsReached, PlaysTo, RunFate}
use Rattle.witness_judge.specs.Settling.{HasChosen}
use Rattle.witness_judge.specs.declared.sought.Sought.{Sought}
use Rattle.witness_judge.proofs.Chosen.{kept_choices}
use Rattle.witness_judge.proofs.Feeding.{ends_chosen}
use Rattle.witness_judge.proofs.Finding.{length_choices}
use Rattle.witness_judge.proofs.Sating.{no_bad, no_whole}

-- runs that agree have one fate
module _ (m : ModelOf) (model : IsModel m) (s : Sought) (n k : ℕ) (cs es : ℕ → Cycle) (agree : (t : ℕ) → t < n → Agree m (cs t) (es t)) where
  there : (t : ℕ) → t < n → Assumed m (cs t) → Assumed m (es t)
  there t l h = assumed_kept m model (cs t) (es t) (agree t l) h

  back : (t : ℕ) → t < n → Assumed m (es t) → Assumed m (cs t)
  back t l h = assumed_kept m model (es t) (cs t) (λ p b. sym (agree t l p b)) h

  goal_there : (g : Goal) (c e : Cycle) → Agree m c e → IsGoal m g c k → IsGoal m g e k
  goal_there goal.Asserts c e same h = broken_kept m model c e same k h
  goal_there (goal.Cover j) c e same (z, h) = (z, reached_kept m model c e same j h)

  reached_there : IsReached m s n cs k → IsReached m s n es k
  reached_there r = let l = r.late in record { late = l; bad = goal_there s.goal (cs (n - 1)) (es (n - 1)) (agree (n - 1) (omega arith)) r.bad }

  reached_back : IsReached m s n es k → IsReached m s n cs k
  reached_back r = let l = r.late in record { late = l; bad = goal_there s.goal (es (n - 1)) (cs (n - 1)) (λ p b. sym (agree (n - 1) (omega arith) p b)) r.bad }

  first_same : (t u : ℕ) → IsFirstUnassumed m n cs t → IsFirstUnassumed m n es u → t ≡ u
  first_same t u f g =
      let l = f.within in
      let o = g.within in
      elim (sides (suc t) u) [
        | inl d ↦ absurd (f.fails (back t l (g.before t (omega arith))))
        | inr d ↦ elim (sides (suc u) t) [
          | inl e ↦ absurd (g.fails (there u o (f.before u (omega arith))))
          | inr e ↦ omega arith
        ]
      ]

  pub run_one : (f g : Fate) → RunFate m s n cs k f → RunFate m s n es k g → f ≡ g
  run_one f g (inl (t, a, e)) (inl (u, b, q)) = let same = first_same t u a b in cc
  run_one f g (inl (t, a, e)) (inr (inl (b, r, q))) = absurd (a.fails (back t a.within (b t a.within)))
  run_one f g (inl (t, a, e)) (inr (inr (b, r, q))) = absurd (a.fails (back t a.within (b t a.within)))
  run_one f g (inr (inl (a, r, e))) (inl (u, b, q)) = absurd (b.fails (there u b.within (a u b.within)))
  run_one f g (inr (inl (a, r, e))) (inr (inl (b, o, q))) = e ∙ sym q
  run_one f g (inr (inl (a, r, e))) (inr (inr (b, o, q))) = absurd (o (reached_there r))
  run_one f g (inr (inr (a, r, e))) (inl (u, b, q)) = absurd (b.fails (there u b.within (a u b.within)))
  run_one f g (inr (inr (a, r, e))) (inr (inl (b, o, q))) = absurd (r (reached_back o))
  run_one f g (inr (inr (a, r, e))) (inr (inr (b, o, q))) = e ∙ sym q

module _ (a : AskedOf) (model : IsModel a.model) where
  plays_one : (x y : WitnessOf) (f g : Fate) → length x.frames ≡ length y.frames → x.bad ≡ y.bad → choices_for a x.frames ≡ choices_for a y.frames → PlaysTo a x f → PlaysTo a y g → f ≡ g
  plays_one x y f g n k c (inl (l, e)) (inl (o, q)) = e ∙ sym q
  plays_one x y f g n k c (inl (l, e)) (inr (o, q)) = absurd (omega arith)
  plays_one x y f g n k c (inr (l, e)) (inl (o, q)) = absurd (omega arith)
  plays_one x y f g n k c (inr (l, (cs, p, r))) (inr (o, (es, q, v))) =
      let here : Plays a.model (choices_for a x.frames) es = subst (λ (d : ChoicesOf). Plays a.model d es) (sym c) q in
      let long = length_choices a x.frames in
      run_one a.model model a.sought (length x.frames) x.bad cs es (λ t b. runs_same a.model model (choices_for a x.frames) cs es p here t (omega arith)) f g r
      (subst (λ (z : ℕ). RunFate a.model a.sought z es x.bad g) (sym n) (subst (λ (z : ℕ). RunFate a.model a.sought (length y.frames) es z g) (sym k) v))

  -- the same is asked, with later cycles
  abbrev later : ℕ → AskedOf
  later last = record { model = a.model; states = a.states; inputs = a.inputs; sought = record { goal = a.sought.goal; first = a.sought.first; last = last } }

  module _ (bytes : List ℕ) (x y : WitnessOf) (h : Holds (shape_of a) bytes x ⊎ EndsWith (shape_of a) bytes x) (g : Holds (shape_of a) bytes y ⊎ EndsWith (shape_of a) bytes y) where
    abbrev most : ℕ
    most = length x.frames + length y.frames

    abbrev w : WitnessesOf
    w = after (fresh (shape_of a) most) bytes

    chose : (z : WitnessOf) → Holds (shape_of a) bytes z ⊎ EndsWith (shape_of a) bytes z → HasChosen (later most) w z
    chose z i = ends_chosen (later most) w bytes (λ v j. end_kept (shape_of a) most w bytes v refl j) z i

    pub witnesses_one : (e f : Fate) → PlaysTo a x e → PlaysTo a y f → e ≡ f
    witnesses_one e f p q =
        let c = chose x h in
        let d = chose y g in
        let count = c.kept.count in
        let counted = d.kept.count in
        let n : length x.frames ≡ length y.frames = omega arith in
        let k : x.bad ≡ y.bad = sym c.kept.bad ∙ d.kept.bad in
        let few : length x.frames ≤ most = omega arith in
        let fewer : length y.frames ≤ most = omega arith in
        plays_one x y e f n k (sym (kept_choices (later most) w x c few w.reading.frames.count refl) ∙ kept_choices (later most) w y d fewer w.reading.frames.count refl) p q

-- a stream is one thing
bad_apart : (shape : ShapeOf) (bytes : List ℕ) (x : WitnessOf) (n : ℕ) → Holds shape bytes x ⊎ EndsWith shape bytes x → IsBadAt shape bytes n → ⊥
bad_apart shape bytes x n (inl h) b = absurd (let k : spot.Whole ≡ spot.Refused n = sym (holds_reads shape 0 bytes x h).0 ∙ bad_reads shape 0 bytes n b in cc)
bad_apart shape bytes x n (inr h) b =
    let v = after (fresh shape 0) bytes in
    let refused = bad_reads shape 0 bytes n b in
    let over = after_over v (10 ∷ []) (rw refused refl) in
    absurd (let k : spot.Whole ≡ spot.Refused n = sym (ends_reads shape 0 bytes x h).0 ∙ ap (λ (u : WitnessesOf). u.reading.spot) over ∙ refused in cc)

one_fate : (shape : ShapeOf) (bytes : List ℕ) (s t : Seen) → IsFate shape bytes s → IsFate shape bytes t → s ≡ t
one_fate shape bytes More t h g = absurd h
one_fate shape bytes Whole More h g = absurd g
one_fate shape bytes Whole Whole h g = refl
one_fate shape bytes Whole Unknown (x, h) g = absurd (no_whole bytes g shape x h)
one_fate shape bytes Whole (EarlyEnd n) (x, h) g = absurd (g.2 x h)
one_fate shape bytes Whole (BadWitness n) (x, h) g = absurd (bad_apart shape bytes x n h g)
one_fate shape bytes Unknown More h g = absurd g
one_fate shape bytes Unknown Whole h (x, g) = absurd (no_whole bytes h shape x g)
one_fate shape bytes Unknown Unknown h g = refl
one_fate shape bytes Unknown (EarlyEnd n) h g = absurd (h g.1)
one_fate shape bytes Unknown (BadWitness n) h g = absurd (no_bad bytes h shape n g)
one_fate shape bytes (EarlyEnd n) More h g = absurd g
one_fate shape bytes (EarlyEnd n) Whole h (x, g) = absurd (h.2 x g)
one_fate shape bytes (EarlyEnd n) Unknown h g = absurd (g h.1)
one_fate shape bytes (EarlyEnd n) (EarlyEnd k) h g = ap EarlyEnd (h.0 ∙ sym g.0)
one_fate shape bytes (EarlyEnd n) (BadWitness k) h g = absurd (h.3 k g)
one_fate shape bytes (BadWitness n) More h g = absurd g
one_fate shape bytes (BadWitness n) Whole h (x, g) = absurd (bad_apart shape bytes x n g h)
one_fate shape bytes (BadWitness n) Unknown h g = absurd (no_bad bytes g shape n h)
one_fate shape bytes (BadWitness n) (EarlyEnd k) h g = absurd (g.3 n h)
one_fate shape bytes (BadWitness n) (BadWitness k) h g = one_seen shape bytes (BadWitness n) (BadWitness k) h g

module _ (a : AskedOf) (model : IsModel a.model) where
  seen_one : (ended : Bool) (bytes : List ℕ) (s t : Seen) → SeenBy ended (shape_of a) bytes s → SeenBy ended (shape_of a) bytes t → s ≡ t
  seen_one false bytes s t h g = one_seen (shape_of a) bytes s t h g
  seen_one true bytes s t h g = one_fate (shape_of a) bytes s t h g

  told_one : (ended : Bool) (bytes : List ℕ) (s : Seen) (x y : Option Fate) → SeenFate a ended bytes s x → SeenFate a ended bytes s y → x ≡ y
  told_one ended bytes More x y e f = e ∙ sym f
  told_one false bytes Whole x y (v, p, h, k, e) (w, q, g, l, f) = e ∙ ap Some (witnesses_one a model bytes v w (inl h) (inl g) p q k l) ∙ sym f
  told_one true bytes Whole x y (v, p, h, k, e) (w, q, g, l, f) = e ∙ ap Some (witnesses_one a model bytes v w h g p q k l) ∙ sym f
  told_one ended bytes Unknown x y e f = e ∙ sym f
  told_one ended bytes (EarlyEnd n) x y e f = e ∙ sym f
  told_one ended bytes (BadWitness n) x y e f = e ∙ sym f

  once : (ended : Bool) (bytes : List ℕ) (x y : Option Fate) → BytesFate a ended bytes x → BytesFate a ended bytes y → x ≡ y
  once ended bytes x y (s, h, e) (t, g, f) = told_one ended bytes s x y e (subst (λ (u : Seen). SeenFate a ended bytes u y) (sym (seen_one ended bytes s t h g)) f)

  pub one_so_far : (bytes : List ℕ) (most : ℕ) (x y : Option Fate) → IsWitnessFateSoFar a bytes most x → IsWitnessFateSoFar a bytes most y → x ≡ y
  one_so_far bytes most x y h k = one_so_far_by (BytesFate a) most once bytes x y h k

  pub one_whole : (bytes : List ℕ) (most : ℕ) (x y : Fate) → IsWitnessFate a bytes most x → IsWitnessFate a bytes most y → x ≡ y
  one_whole bytes most x y h k = one_by (BytesFate a) most once bytes x y h k
