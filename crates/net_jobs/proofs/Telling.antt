-- Jobs of a model by the encodings of its net.
use Rattle.std.proofs.Common.{Contains, ◌≡◌, ℕ, zero, suc, ◌+◌, ◌<◌, ◌≤◌, Bool, true, false, List, [], ◌∷◌, Option, Some, None, refl, sym, ap, ◌∙◌, subst, inl, inr, arith, length, map}
use Rattle.std.specs.Prelude.{option_map, slice_get}
use Rattle.std.proofs.lemmas.Option.{slice_get_within}
use Rattle.cnf_form.specs.Cnf.{Assignment, LitOf, Satisfies, lit_in, negate}
use Rattle.cnf_form.specs.declared.literal.TheConstants.{MAX_VARS}
use Rattle.sby_terms.specs.declared.names.JobName.{JobName}
use Rattle.sby_terms.specs.declared.names.JobName.TheVariants.{Base, Step, Inv, Cover}
use Rattle.sby_terms.specs.declared.span.Span.{Span}
use Rattle.model_core.specs.Choices.{Plays}
use Rattle.model_core.specs.Meaning.{Cycle}
use Rattle.model_core.specs.Meaning as model
use Rattle.model_core.specs.Served.{IsModel}
use Rattle.model_core.specs.Shape.{ModelOf, states}
use Rattle.model_core.proofs.Runs.{run_of, run_plays}
use Rattle.bit_net.specs.Net.{IsNet, NetOf, input_var, state_var}
use Rattle.bit_net.specs.Net as net
use Rattle.bit_net.specs.Reaching.{numbers}
use Rattle.bit_net.specs.declared.node.State.{State}
use Rattle.model_core.proofs.Lists.{at_place}
use Rattle.frame_gates.proofs.Lists.{length_map, map_at, one_at}
use Rattle.frame_net.specs.NetOf.{AreAlike, IsNetOf}
use Rattle.frame_net.proofs.Running.{near, near_back, run, run_back, window, window_back}
use Rattle.job_terms.specs.Encoding.{IsDecoded, ShowsGoal, empty_job}
use Rattle.job_terms.specs.Jobs.{AsksNothing, IsGoal, IsJob, MayEnd, Solvable}
use Rattle.net_unroll.specs.Asking.{AreCycles, Solvable as CanSolve, Solves, goal_of}
use Rattle.net_unroll.specs.Encoding.{EncodedOf, encoding_for, formula_of}
use Rattle.net_unroll.specs.Promises.{CanBeSatisfied, IsOpenAt, IsTold, cycles_told, told_by}
use Rattle.net_unroll.specs.Promises.IsOpenAt.{an_input, a_state}
use Rattle.net_unroll.specs.declared.asking.Asked.{Asked}
use Rattle.net_unroll.specs.declared.asking.Asked.TheVariants as ask
use Rattle.net_unroll.specs.declared.asking.Cycles.{Cycles}
use Rattle.net_unroll.specs.declared.encoded.Free.{Free}
use Rattle.net_unroll.proofs.Deciding.{few_law, solvable_law as net_solvable, solves_law, told_cases}
use Rattle.net_unroll.proofs.Tightening.{origins_law, told_once}
use Rattle.net_jobs.specs.Jobs.{StandsFor, asked_of, cycles_of, decoded, job_encoding, job_made}
use Rattle.net_jobs.proofs.Choosing.{choices_fit, input_told, many_rows, row_told, start_at}
use Rattle.net_jobs.proofs.Meeting.{goal_met, met_goal, run_solves}

module _ (m : ModelOf) (n : NetOf) (is : IsModel m) (served : IsNet n) (of : IsNetOf m n) where
  some : (a : Asked) (c : Cycles) (k : ℕ) (xs : ℕ → Assignment) → Solves n a c k xs → (t : ℕ) × (k ≡ suc t)
  some a c zero xs s = absurd (let z = s.some in omega arith)
  some a c (suc t) xs s = (t, refl)

  -- a run of the model is as assumed as that of its net
  assumed_net : (k : ℕ) (cs : ℕ → Cycle) (xs : ℕ → Assignment) → model.Window m k cs → net.Window n k xs → AreAlike m n k cs xs → ((t : ℕ) → t < k → model.Assumed m (cs t)) → (t : ℕ) → t < k → lit_in (xs t) n.assumed ≡ true
  assumed_net k cs xs w v same h t l = (of.says (cs t) (xs t) (w.frames t l) (v.frames t l) (same t l)).assumed.1 (h t l)

  assumed_model : (k : ℕ) (cs : ℕ → Cycle) (xs : ℕ → Assignment) → model.Window m k cs → net.Window n k xs → AreAlike m n k cs xs → ((t : ℕ) → t < k → lit_in (xs t) n.assumed ≡ true) → (t : ℕ) → t < k → model.Assumed m (cs t)
  assumed_model k cs xs w v same h t l = (of.says (cs t) (xs t) (w.frames t l) (v.frames t l) (same t l)).assumed.0 (h t l)

  -- what solves a job in the net solves it in the model
  shown : (span : Span) (job : JobName) → CanSolve n (asked_of job) (cycles_of job span) → Solvable m job span
  shown span (Base i) (k, xs, s) =
      let (t, e) = some ask.Asserts (cycles_of (Base i) span) k xs s in
      let (r, same) = run_back m n is served of k xs s.some s.cycles in
      let cs : ℕ → Cycle = λ u. (near_back m n is served of (xs u)).0 in
      let (late, end) = s.ends t (sym e) in
      let most = s.most in
      let (a, b) = met_goal m n is served of (near_back m n is served of (xs t)).0 (xs t) (r.window.frames t (omega arith)) (s.cycles.window.frames t (omega arith)) (same t (omega arith)) (Base i) (s.last t (sym e)) in (
        k,
        cs,
        a,
        (omega arith),
        most,
        record {
          run = r;
          assumed = assumed_model k (λ u. (near_back m n is served of (xs u)).0) xs r.window s.cycles.window same s.assumed;
          last = λ u q. subst (λ (v : ℕ). model.Broken m (near_back m n is served of (xs v)).0 a) (let z : t ≡ u = omega arith in z) b;
        },
      )
  shown span Inv (k, xs, s) =
      let (t, e) = some ask.Asserts (cycles_of Inv span) k xs s in
      let (r, same) = run_back m n is served of k xs s.some s.cycles in
      let cs : ℕ → Cycle = λ u. (near_back m n is served of (xs u)).0 in
      let (a, b) = met_goal m n is served of (near_back m n is served of (xs t)).0 (xs t) (r.window.frames t (omega arith)) (s.cycles.window.frames t (omega arith)) (same t (omega arith)) Inv (s.last t (sym e)) in (
        k,
        cs,
        a,
        record {
          run = r;
          assumed = assumed_model k (λ u. (near_back m n is served of (xs u)).0) xs r.window s.cycles.window same s.assumed;
          last = λ u q. subst (λ (v : ℕ). model.Broken m (near_back m n is served of (xs v)).0 a) (let z : t ≡ u = omega arith in z) b;
        },
      )
  shown span (Cover j) (k, xs, s) =
      let (t, e) = some (ask.Cover j) (cycles_of (Cover j) span) k xs s in
      let (r, same) = run_back m n is served of k xs s.some s.cycles in
      let cs : ℕ → Cycle = λ u. (near_back m n is served of (xs u)).0 in
      let most = s.most in (
        k,
        cs,
        most,
        record {
          run = r;
          assumed = assumed_model k (λ u. (near_back m n is served of (xs u)).0) xs r.window s.cycles.window same s.assumed;
          last = λ u q. met_goal m n is served of (near_back m n is served of (xs u)).0 (xs u) (r.window.frames u (omega arith)) (s.cycles.window.frames u (omega arith)) (same u (omega arith)) (Cover j) (s.last u q);
        },
      )
  shown span Step (k, xs, s) =
      let (t, e) = some ask.Asserts (cycles_of Step span) k xs s in
      let (late, end) = s.ends t (sym e) in
      let most = s.most in
      let all : k ≡ suc span.depth = omega arith in
      let (w, same) = window_back m n is served of k xs s.some s.cycles in
      let cs : ℕ → Cycle = λ u. (near_back m n is served of (xs u)).0 in
      let here : t ≡ span.depth = omega arith in
      let (a, b) = met_goal m n is served of (near_back m n is served of (xs t)).0 (xs t) (w.frames t (omega arith)) (s.cycles.frames t (omega arith)) (same t (omega arith)) Step (s.last t (sym e)) in (
        cs,
        a,
        record {
          window = subst (λ (j : ℕ). model.Window m j (λ u. (near_back m n is served of (xs u)).0)) all w;
          assumed = λ u l. assumed_model k (λ v. (near_back m n is served of (xs v)).0) xs w s.cycles same s.assumed u (omega arith);
          before = λ u d l h. s.before u (omega arith) (omega arith)
              (goal_met m n is served of (near_back m n is served of (xs u)).0 (xs u) (w.frames u (omega arith)) (s.cycles.frames u (omega arith)) (same u (omega arith)) Step (d, h));
          last = subst (λ (v : ℕ). model.Broken m (near_back m n is served of (xs v)).0 a) here b;
        },
      )

  -- and back
  found : (span : Span) (job : JobName) → (job ≡ Inv → ⊥) → Solvable m job span → CanSolve n (asked_of job) (cycles_of job span)
  found span (Base i) made (zero, cs, a, lo, hi, s) = absurd (omega arith)
  found span (Base i) made (suc t, cs, a, lo, hi, s) =
      let (r, same) = run m n is served of (suc t) cs s.run in
      run_solves m n is served of ask.Asserts (cycles_of (Base i) span) refl (omega arith) t (λ u. (near m n is served of (cs u)).0) r
      (assumed_net (suc t) cs (λ u. (near m n is served of (cs u)).0) s.run.window r.window same s.assumed)
      (goal_met m n is served of (cs t) (near m n is served of (cs t)).0 (s.run.window.frames t (omega arith)) (r.window.frames t (omega arith)) (same t (omega arith)) (Base i) (a, s.last t refl)) (omega arith) hi
  found span (Cover j) made (zero, cs, hi, s) = absurd (let z = s.run.window.some in omega arith)
  found span (Cover j) made (suc t, cs, hi, s) =
      let (r, same) = run m n is served of (suc t) cs s.run in
      run_solves m n is served of (ask.Cover j) (cycles_of (Cover j) span) refl (omega arith) t (λ u. (near m n is served of (cs u)).0) r
      (assumed_net (suc t) cs (λ u. (near m n is served of (cs u)).0) s.run.window r.window same s.assumed)
      (goal_met m n is served of (cs t) (near m n is served of (cs t)).0 (s.run.window.frames t (omega arith)) (r.window.frames t (omega arith)) (same t (omega arith)) (Cover j) (s.last t refl)) (omega arith) hi
  found span Inv made shows = absurd (made refl)
  found span Step made (cs, a, s) =
      let (w, same) = window m n is served of (suc span.depth) cs s.window in (
        suc span.depth,
        (λ u. (near m n is served of (cs u)).0),
        record {
          some = omega arith;
          most = omega arith;
          cycles = w;
          assumed = assumed_net (suc span.depth) cs (λ u. (near m n is served of (cs u)).0) s.window w same s.assumed;
          ends = λ u e. (omega arith, omega arith);
          before = λ u l late meets. (let (b, h) = met_goal m n is served of (cs u) (near m n is served of (cs u)).0 (s.window.frames u (omega arith)) (w.frames u (omega arith)) (same u (omega arith)) Step meets in s.before u b (omega arith) h);
          last = λ u e. (let z : span.depth ≡ u = omega arith in
              goal_met m n is served of (cs u) (near m n is served of (cs u)).0 (s.window.frames u (omega arith)) (w.frames u (omega arith)) (same u (omega arith)) Step (a, subst (λ (v : ℕ). model.Broken m (cs v) a) z s.last));
        },
      )

  pub solvable_law : (job : JobName) (span : Span) → job_made n job span ≤ MAX_VARS → (job ≡ Inv → ⊥) → (CanBeSatisfied (formula_of (job_encoding n job span)) → Solvable m job span) × (Solvable m job span → CanBeSatisfied (formula_of (job_encoding n job span)))
  solvable_law job span few made =
      let (f, g) = net_solvable n (asked_of job) (cycles_of job span) served few in
      ((λ h. shown span job (f h)), (λ h. g (found span job made h)))

  -- a run with the choices that an assignment tells
  module _ (job : JobName) (span : Span) (few : job_made n job span ≤ MAX_VARS) (start : (cycles_of job span).start ≡ true) (x : Assignment) (cs : ℕ → Cycle)
      (plays : Plays m (decoded m n (cycles_of job span) (job_encoding n job span) x) cs) where
    abbrev c : Cycles
    c = cycles_of job span

    abbrev e : EncodedOf
    e = job_encoding n job span

    whole : model.Run m (cycles_told c e x) cs
    whole = subst (λ (k : ℕ). model.Run m k cs) (many_rows m n c e x) plays.run

    abbrev us : ℕ → Assignment
    us = λ u. (near m n is served of (cs u)).0

    bit_told : (t v : ℕ) → t < cycles_told c e x → IsOpenAt n c.start t v → us t v ≡ told_by x e.free t v
    bit_told t v l (an_input k j q) =
        let z = of.inputs in
        let (p, at) = at_place m.inputs k (omega arith) in
        let same = (near m n is served of (cs t)).2 in
        ap (us t) q ∙ same.inputs k p at ∙ input_told m n c e x (cs t) t (plays.inputs t (map (λ i. told_by x e.free t (input_var n i)) (numbers 0 n.inputs)) (row_told m n c e x t l)) k p j at
        ∙ ap (told_by x e.free t) (sym q)
    bit_told t v l (a_state k s at q zero_is free) =
        let i = slice_get_within n.states k s at in
        let d : slice_get m.starts k ≡ Some s.start = subst (λ ds. slice_get ds k ≡ Some s.start) of.starts (map_at (λ (r : State). r.start) n.states k s at) in
        let digit : slice_get m.starts k ≡ Some None = d ∙ ap Some (free start) in
        let long = slice_get_within m.starts k None digit in
        let lengths = is.starts in
        let (p, here) = at_place (states m) k (omega arith) in
        let same = (near m n is served of (cs t)).2 in
        ap (us t) q ∙ same.states k p here ∙ ap (λ (u : ℕ). cs u p) zero_is
        ∙ start_at (cs 0) (states m) m.starts 0 (λ j. told_by x e.free 0 (state_var j)) plays.starts k p here digit
        ∙ ap (λ (j : ℕ). told_by x e.free 0 (state_var j)) (let w : 0 + k ≡ k = omega arith in w)
        ∙ ap (told_by x e.free 0) (sym q) ∙ ap (λ (u : ℕ). told_by x e.free u v) (sym zero_is)

    told : IsTold n c e x us
    told =
        let origins = origins_law n (asked_of job) c served few in
        record {
          bits = λ f d l. (let (k, o) = origins.open_bits f d in bit_told f.cycle f.place l o ∙ told_once n (asked_of job) c served few x f d);
          rest = λ t v l o none. bit_told t v l o ∙ (elim (told_cases x e.free t v) as (λ _. told_by x e.free t v ≡ false) [
            | inl (f, d, p, q, r) ↦ absurd (none f d p q)
            | inr (z, r) ↦ r
          ]);
        }

    -- the places of the model
    pub value_at : (t v p : ℕ) → StandsFor m n true t v p → t < cycles_told c e x → cs t p ≡ told_by x e.free t v
    value_at t v p (inl (k, at, q)) l =
        let z = of.inputs in
        let j = slice_get_within m.inputs k p at in
        let same = (near m n is served of (cs t)).2 in
        sym (same.inputs k p at) ∙ ap (us t) (sym q) ∙ bit_told t v l (an_input k (omega arith) q)
    value_at t v p (inr (k, at, q, zero_is, open_is)) l =
        let lengths = is.starts in
        let j = slice_get_within (states m) k p at in
        let same = (near m n is served of (cs t)).2 in
        let many : length n.states ≡ length (states m) = sym (length_map (λ (r : State). r.start) n.states) ∙ ap length of.starts ∙ is.starts in
        let (s, here) = at_place n.states k (omega arith) in
        let digit = subst (λ ds. slice_get ds k ≡ Some s.start) of.starts (map_at (λ (r : State). r.start) n.states k s here) in
        let free : s.start ≡ None = one_at m.starts k s.start None digit (open_is refl) in
        sym (same.states k p at) ∙ ap (us t) (sym q) ∙ bit_told t v l (a_state k s here q zero_is (λ h. free))

    pub free_at : (f : Free) (p : ℕ) → Contains e.free f → StandsFor m n true f.cycle f.place p → f.cycle < cycles_told c e x → cs f.cycle p ≡ x f.var
    free_at f p d stands l = value_at f.cycle f.place p stands l ∙ told_once n (asked_of job) c served few x f d

    pub none_at : (t v p : ℕ) → StandsFor m n true t v p → t < cycles_told c e x → ((f : Free) → Contains e.free f → f.cycle ≡ t → f.place ≡ v → ⊥) → cs t p ≡ false
    none_at t v p stands l none = value_at t v p stands l ∙ (elim (told_cases x e.free t v) as (λ _. told_by x e.free t v ≡ false) [
      | inl (f, d, a, b, r) ↦ absurd (none f d a b)
      | inr (z, r) ↦ r
    ])

    run_told : net.Run n (cycles_told c e x) us × AreAlike m n (cycles_told c e x) cs us
    run_told = run m n is served of (cycles_told c e x) cs whole

    pub solved : Satisfies x (formula_of e).clauses → Solves n (asked_of job) c (cycles_told c e x) us
    solved s = solves_law n (asked_of job) c served few x us s (subst (λ (b : Bool). AreCycles b n (cycles_told c e x) us) (sym start) run_told.0) told

    -- what it shows
    module _ (s : Satisfies x (formula_of e).clauses) where
      pub met_at : (t : ℕ) → suc t ≡ cycles_told c e x → IsGoal m job (cs t)
      met_at t q = met_goal m n is served of (cs t) (us t) (whole.window.frames t (omega arith)) (run_told.0.window.frames t (omega arith)) (run_told.1 t (omega arith)) job ((solved s).last t q)

      pub not_before : (t : ℕ) → suc t < cycles_told c e x → c.first ≤ t → IsGoal m job (cs t) → ⊥
      not_before t l late g = (solved s).before t l late (goal_met m n is served of (cs t) (us t) (whole.window.frames t (omega arith)) (run_told.0.window.frames t (omega arith)) (run_told.1 t (omega arith)) job g)

      pub all_assumed : (t : ℕ) → t < cycles_told c e x → model.Assumed m (cs t)
      all_assumed = assumed_model (cycles_told c e x) cs us whole.window run_told.0.window run_told.1 (solved s).assumed

      pub whole_run : model.Run m (cycles_told c e x) cs
      whole_run = whole

  pub stands : (job : JobName) (span : Span) → job_made n job span ≤ MAX_VARS → (f : Free) → Contains (job_encoding n job span).free f →
      (f.cycle < (cycles_of job span).count) × ((p : ℕ) × StandsFor m n (cycles_of job span).start f.cycle f.place p)
  stands job span few f d =
      let (l, o) = (origins_law n (asked_of job) (cycles_of job span) served few).open_bits f d in
      (l, by o)
    where
      by : IsOpenAt n (cycles_of job span).start f.cycle f.place → (p : ℕ) × StandsFor m n (cycles_of job span).start f.cycle f.place p
      by (an_input k j q) = let z = of.inputs in let (p, at) = at_place m.inputs k (omega arith) in (p, inl (k, at, q))
      by (a_state k s here q zero_is free) =
          let j = slice_get_within n.states k s here in
          let many : length n.states ≡ length (states m) = sym (length_map (λ (r : State). r.start) n.states) ∙ ap length of.starts ∙ is.starts in
          let (p, at) = at_place (states m) k (omega arith) in
          (p, inr (k, at, q, zero_is, λ h. subst (λ ds. slice_get ds k ≡ Some s.start) of.starts (map_at (λ (r : State). r.start) n.states k s here) ∙ ap Some (free h)))

  goal_shown : (job : JobName) (k : ℕ) (cs : ℕ → Cycle) → (job ≡ Step → ⊥) → 0 < k → model.Run m k cs → ((t : ℕ) → t < k → model.Assumed m (cs t)) → ((t : ℕ) → suc t ≡ k → IsGoal m job (cs t)) → ShowsGoal m job k cs
  goal_shown (Base i) zero cs other some r a g = absurd (omega arith)
  goal_shown (Base i) (suc t) cs other some r a g =
      let (b, h) = g t refl in
      (b, record { run = r; assumed = a; last = λ u e. subst (λ (v : ℕ). model.Broken m (cs v) b) (let z : t ≡ u = omega arith in z) h })
  goal_shown Step k cs other some r a g = absurd (other refl)
  goal_shown Inv zero cs other some r a g = absurd (omega arith)
  goal_shown Inv (suc t) cs other some r a g =
      let (b, h) = g t refl in
      (b, record { run = r; assumed = a; last = λ u e. subst (λ (v : ℕ). model.Broken m (cs v) b) (let z : t ≡ u = omega arith in z) h })
  goal_shown (Cover j) k cs other some r a g = record { run = r; assumed = a; last = g }

  pub starts_at : (job : JobName) (span : Span) → (job ≡ Step → ⊥) → (cycles_of job span).start ≡ true
  starts_at (Base i) span other = refl
  starts_at Step span other = absurd (other refl)
  starts_at Inv span other = refl
  starts_at (Cover k) span other = refl

  may_end : (job : JobName) (span : Span) (t : ℕ) → (job ≡ Step → ⊥) → (cycles_of job span).first ≤ t → t < (cycles_of job span).count → MayEnd job span t
  may_end (Base i) span t other a b = (a, b)
  may_end Step span t other a b = absurd (other refl)
  may_end Inv span t other a b = tt
  may_end (Cover k) span t other a b = b

  ends_late : (job : JobName) (span : Span) (t : ℕ) → (job ≡ Step → ⊥) → MayEnd job span t → (cycles_of job span).first ≤ t
  ends_late (Base i) span t other h = h.0
  ends_late Step span t other h = absurd (other refl)
  ends_late Inv span t other h = omega arith
  ends_late (Cover k) span t other h = omega arith

  pub decoded_law : (job : JobName) (span : Span) → job_made n job span ≤ MAX_VARS → (job ≡ Step → ⊥) → (x : Assignment) → Satisfies x (formula_of (job_encoding n job span)).clauses →
      IsDecoded m job span (decoded m n (cycles_of job span) (job_encoding n job span) x)
  decoded_law job span few other x s =
      let c : Cycles = cycles_of job span in
      let e : EncodedOf = job_encoding n job span in
      let many = many_rows m n (cycles_of job span) (job_encoding n job span) x in
      let fit = choices_fit m n (cycles_of job span) (job_encoding n job span) x is of in
      let start = starts_at job span other in
      let short = few_law n (asked_of job) (cycles_of job span) served few x s in
      record {
        plays = (run_of m is (decoded m n (cycles_of job span) (job_encoding n job span) x), run_plays m is (decoded m n (cycles_of job span) (job_encoding n job span) x) fit (omega arith));
        ends = λ t q. may_end job span t other (omega arith) (omega arith);
        shows = λ cs p. subst (λ (k : ℕ). ShowsGoal m job k cs) (sym many)
            (goal_shown job (cycles_told (cycles_of job span) (job_encoding n job span) x) cs other (omega arith) (whole_run job span few start x cs p s) (all_assumed job span few start x cs p s) (met_at job span few start x cs p s));
        before = λ cs p t l end goal. not_before job span few start x cs p s t (omega arith) (ends_late job span t other end) goal;
      }

-- Inv is none of the jobs that are made of cycles told one after the other
pub made_so : (m : ModelOf) (job : JobName) (span : Span) → IsJob m job span → job ≡ Inv → ⊥
made_so m (Base i) span known e = absurd (let z : Base i ≡ Inv = e in cc)
made_so m Step span known e = absurd (let z : Step ≡ Inv = e in cc)
made_so m Inv span known e = known
made_so m (Cover k) span known e = absurd (let z : Cover k ≡ Inv = e in cc)

pub nothing_law : (m : ModelOf) (n : NetOf) (job : JobName) (span : Span) → IsNetOf m n → AsksNothing m job → formula_of (job_encoding n job span) ≡ empty_job
nothing_law m n job span of none = by (goal_of n (asked_of job)) (asks job none)
  where
    no_assert : m.asserts ≡ [] → option_map negate n.asserted ≡ None
    no_assert h = ap (option_map negate) (of.asserted.1 h)

    asks : (job : JobName) → AsksNothing m job → goal_of n (asked_of job) ≡ None
    asks (Base i) h = no_assert h
    asks Step h = no_assert h
    asks Inv h = no_assert h
    asks (Cover k) h = past n.covers k (of.covers ∙ ap length h)
      where
        past : (xs : List LitOf) (j : ℕ) → length xs ≡ 0 → slice_get xs j ≡ None
        past [] j q = refl
        past (x ∷ xs) j q = absurd (omega arith)

    by : (o : Option LitOf) → o ≡ None → formula_of (encoding_for n (cycles_of job span) o) ≡ empty_job
    by None q = refl
    by (Some l) q = absurd (let z : Some l ≡ None = q in cc)
