-- Where the free variables of a job stand.
use Rattle.std.proofs.Common.{Contains, ◌≡◌, ℕ, zero, suc, ◌+◌, ◌-◌, ◌<◌, ◌≤◌, Bool, true, false, cond, List, [], ◌∷◌, ◌++◌, Option, Some, None, refl, sym, ap, ◌∙◌, subst, arith, length, map, inl, inr}
use Rattle.std.specs.Prelude.{slice_get, slice_index_or, ltb}
use Rattle.std.proofs.lemmas.Bool.{lt-ltb}
use Rattle.std.proofs.lemmas.Option.{slice_get_within}
use Rattle.cnf_form.specs.Cnf.{Assignment, Satisfies}
use Rattle.cnf_form.specs.declared.literal.TheConstants.{MAX_VARS}
use Rattle.sby_terms.specs.declared.names.JobName.{JobName}
use Rattle.sby_terms.specs.declared.names.JobName.TheVariants.{Base, Step, Inv, Cover}
use Rattle.sby_terms.specs.declared.span.Span.{Span}
use Rattle.model_core.specs.Choices.{ChoicesOf, Plays, without_digit}
use Rattle.model_core.specs.Meaning.{Cycle}
use Rattle.model_core.specs.Served.{IsModel}
use Rattle.model_core.specs.Shape.{IsDistinct, ModelOf, given, sources, states}
use Rattle.bit_net.specs.Net.{IsNet, NetOf, input_var, state_var}
use Rattle.bit_net.proofs.Extending.{not_less}
use Rattle.job_terms.specs.First.{open_at}
use Rattle.model_core.proofs.Lists.{contained_at, place_of_contained}
use Rattle.frame_gates.proofs.Lists.{all_of, distinct_left, distinct_right, length_map, map_at, one_at}
use Rattle.frame_net.specs.NetOf.{IsNetOf}
use Rattle.job_terms.specs.Encoding as job
use Rattle.job_terms.specs.Encoding.{AreDistinct, HasOrigins, HasValue, IsOpenIn, IsOrigin, Origin}
use Rattle.job_terms.specs.Encoding.Origin.{First, Input}
use Rattle.job_terms.specs.Jobs.{first, frames}
use Rattle.net_unroll.specs.Promises.{cycles_told}
use Rattle.net_unroll.specs.declared.encoded.Free.{Free}
use Rattle.net_unroll.proofs.Tightening.{origins_law}
use Rattle.net_jobs.specs.Jobs.{StandsFor, asked_of, cycles_of, decoded, job_encoding, job_made}
use Rattle.net_jobs.specs.Reading.{encoded_of}
use Rattle.net_jobs.proofs.Choosing.{many_rows}
use Rattle.net_jobs.proofs.Reading.{same_choices}
use Rattle.net_jobs.proofs.Telling.{free_at, none_at, stands, starts_at}

-- what a variable of the net stands for in cycle t
abbrev origin_at : ModelOf → NetOf → ℕ → ℕ → Origin
origin_at m n t v = cond (ltb v (input_var n 0)) (First (slice_index_or (states m) (v - 2) 0)) (Input t (slice_index_or m.inputs (v - input_var n 0) 0))

index_at : (xs : List ℕ) (k p : ℕ) → slice_get xs k ≡ Some p → slice_index_or xs k 0 ≡ p
index_at [] k p e = absurd cc
index_at (x ∷ xs) zero p e = cc
index_at (x ∷ xs) (suc k) p e = index_at xs k p e

input-origin : (m : ModelOf) (n : NetOf) (t v k p : ℕ) → slice_get m.inputs k ≡ Some p → v ≡ input_var n k → origin_at m n t v ≡ Input t p
input-origin m n t v k p at e =
    let low : ltb v (input_var n 0) ≡ false = not_less v (input_var n 0) (omega arith) in
    let here : v - input_var n 0 ≡ k = omega arith in
    let place : slice_index_or m.inputs (v - input_var n 0) 0 ≡ p = ap (λ (i : ℕ). slice_index_or m.inputs i 0) here ∙ index_at m.inputs k p at in
    rw (low, place) refl

state-origin : (m : ModelOf) (n : NetOf) (t v k p : ℕ) → k < length n.states → slice_get (states m) k ≡ Some p → v ≡ state_var k → origin_at m n t v ≡ First p
state-origin m n t v k p l at e =
    let low : ltb v (input_var n 0) ≡ true = lt-ltb v (input_var n 0) (omega arith) in
    let here : v - 2 ≡ k = omega arith in
    let place : slice_index_or (states m) (v - 2) 0 ≡ p = ap (λ (i : ℕ). slice_index_or (states m) i 0) here ∙ index_at (states m) k p at in
    rw (low, place) refl

open-contained : (ps : List ℕ) (digits : List (Option Bool)) (k p : ℕ) → slice_get ps k ≡ Some p → slice_get digits k ≡ Some None → Contains (without_digit ps digits) p
open-contained ps digits k p at d = let r = open-place ps digits k p at d in contained_at (without_digit ps digits) p r.0 r.1
  where
    open-place : (ps : List ℕ) (digits : List (Option Bool)) (k p : ℕ) → slice_get ps k ≡ Some p → slice_get digits k ≡ Some None → (j : ℕ) × (slice_get (without_digit ps digits) j ≡ Some p)
    open-place [] digits k p at d = absurd cc
    open-place (q ∷ ps) [] k p at d = absurd cc
    open-place (q ∷ ps) (Some x ∷ digits) zero p at d = absurd cc
    open-place (q ∷ ps) (Some x ∷ digits) (suc k) p at d = open-place ps digits k p at d
    open-place (q ∷ ps) (None ∷ digits) zero p at d = (0, at)
    open-place (q ∷ ps) (None ∷ digits) (suc k) p at d = let r = open-place ps digits k p at d in (suc r.0, r.1)

open-from : (ps : List ℕ) (digits : List (Option Bool)) (p : ℕ) → Contains (without_digit ps digits) p → (k : ℕ) × (slice_get ps k ≡ Some p) × (slice_get digits k ≡ Some None)
open-from ps digits p c = let at = place_of_contained (without_digit ps digits) p c in from ps digits at.0 at.1
  where
    from : (ps : List ℕ) (digits : List (Option Bool)) (j : ℕ) → slice_get (without_digit ps digits) j ≡ Some p → (k : ℕ) × (slice_get ps k ≡ Some p) × (slice_get digits k ≡ Some None)
    from [] digits j at = absurd cc
    from (q ∷ ps) [] j at = absurd cc
    from (q ∷ ps) (Some x ∷ digits) j at = let r = from ps digits j at in (suc r.0, r.1, r.2)
    from (q ∷ ps) (None ∷ digits) zero at = (0, at, refl)
    from (q ∷ ps) (None ∷ digits) (suc j) at = let r = from ps digits j at in (suc r.0, r.1, r.2)

-- of a list that is mapped
mapped : {A B : Type 0} (f : A → B) (xs : List A) (k : ℕ) (y : B) → slice_get (map f xs) k ≡ Some y → (x : A) × (slice_get xs k ≡ Some x) × (y ≡ f x)
mapped f [] k y e = absurd cc
mapped f (x ∷ xs) zero y e = (x, refl, cc)
mapped f (x ∷ xs) (suc k) y e = mapped f xs k y e

module _ (m : ModelOf) (n : NetOf) (is : IsModel m) (served : IsNet n) (of : IsNetOf m n) (name : JobName) (span : Span) (few : job_made n name span ≤ MAX_VARS) where
  abbrev free : List Free
  free = (job_encoding n name span).free

  abbrev origin : Free → Origin
  origin f = origin_at m n f.cycle f.place

  abbrev start : Bool
  start = (cycles_of name span).start

  states_many : length n.states ≡ length (states m)
  states_many = sym (length_map (λ s. s.start) n.states) ∙ ap length of.starts ∙ is.starts

  states_apart : IsDistinct (states m)
  states_apart = distinct_left (states m) m.inputs (distinct_right (m.zero ∷ suc m.zero ∷ []) (states m ++ m.inputs) (distinct_left (sources m) (given m.nodes) is.once))

  inputs_apart : IsDistinct m.inputs
  inputs_apart = distinct_right (states m) m.inputs (distinct_right (m.zero ∷ suc m.zero ∷ []) (states m ++ m.inputs) (distinct_left (sources m) (given m.nodes) is.once))

  -- two that stand for one thing are of one cycle and one place
  one_place : (t v p u w q : ℕ) → StandsFor m n start t v p → StandsFor m n start u w q → origin_at m n t v ≡ origin_at m n u w → (t ≡ u) × (v ≡ w)
  one_place t v p u w q (inl (k, at, e)) (inl (j, bt, g)) same =
      let r : Input t p ≡ Input u q = sym (input-origin m n t v k p at e) ∙ same ∙ input-origin m n u w j q bt g in
      let cycle : t ≡ u = cc in
      let place : p ≡ q = cc in
      let num : k ≡ j = inputs_apart k j p at (bt ∙ ap Some (sym place)) in
      (cycle, omega arith)
  one_place t v p u w q (inl (k, at, e)) (inr (j, bt, g, z, o)) same =
      let many = states_many in
      let l = slice_get_within (states m) j q bt in
      let r : Input t p ≡ First q = sym (input-origin m n t v k p at e) ∙ same ∙ state-origin m n u w j q (omega arith) bt g in
      absurd cc
  one_place t v p u w q (inr (k, at, e, y, o)) (inl (j, bt, g)) same =
      let many = states_many in
      let l = slice_get_within (states m) k p at in
      let r : First p ≡ Input u q = sym (state-origin m n t v k p (omega arith) at e) ∙ same ∙ input-origin m n u w j q bt g in
      absurd cc
  one_place t v p u w q (inr (k, at, e, y, o)) (inr (j, bt, g, z, i)) same =
      let many = states_many in
      let a = slice_get_within (states m) k p at in
      let b = slice_get_within (states m) j q bt in
      let r : First p ≡ First q = sym (state-origin m n t v k p (omega arith) at e) ∙ same ∙ state-origin m n u w j q (omega arith) bt g in
      let place : p ≡ q = cc in
      let num : k ≡ j = states_apart k j p at (bt ∙ ap Some (sym place)) in
      (omega arith, omega arith)

  abbrev here : (f : Free) → Contains free f → (f.cycle < (cycles_of name span).count) × ((p : ℕ) × StandsFor m n start f.cycle f.place p)
  here f d = stands m n is served of name span few f d

  pub apart : AreDistinct (map origin free)
  apart i j o at bt =
      let a = mapped origin free i o at in
      let b = mapped origin free j o bt in
      let ha = here a.0 (contained_at free a.0 i a.1) in
      let hb = here b.0 (contained_at free b.0 j b.1) in
      let same = one_place a.0.cycle a.0.place ha.1.0 b.0.cycle b.0.place hb.1.0 ha.1.1 hb.1.1 (sym a.2 ∙ b.2) in
      (origins_law n (asked_of name) (cycles_of name span) served few).apart i j (a.0.cycle, a.0.place)
      (map_at (λ (f : Free). let p : ℕ × ℕ = (f.cycle, f.place) in p) free i a.0 a.1)
      (map_at (λ (f : Free). let p : ℕ × ℕ = (f.cycle, f.place) in p) free j b.0 b.1 ∙ ap Some (pair (sym same.0) (sym same.1)))
    where
      pair : {a b c d : ℕ} → a ≡ b → c ≡ d → ◌≡◌ {A = ℕ × ℕ} (a, c) (b, d)
      pair e f = rw (e, f) refl

  in_frames : (name : JobName) (t : ℕ) → t < (cycles_of name span).count → t < frames name span
  in_frames (Base i) t l = l
  in_frames Step t l = l
  in_frames Inv t l = l
  in_frames (Cover k) t l = l

  may_stand : (name : JobName) (k p : ℕ) → slice_get (states m) k ≡ Some p → ((cycles_of name span).start ≡ true → slice_get m.starts k ≡ Some None) → Contains (open_at (first name) m) p
  may_stand (Base i) k p at o = open-contained (states m) m.starts k p at (o refl)
  may_stand Step k p at o = contained_at (states m) p k at
  may_stand Inv k p at o = contained_at (states m) p k at
  may_stand (Cover j) k p at o = open-contained (states m) m.starts k p at (o refl)

  pub is_origin : (f : Free) → Contains free f → IsOrigin m name span (origin f)
  is_origin f d = let h = here f d in by h.0 h.1.0 h.1.1
    where
      by : f.cycle < (cycles_of name span).count → (p : ℕ) → StandsFor m n start f.cycle f.place p → IsOrigin m name span (origin f)
      by l p (inl (k, at, e)) = subst (IsOrigin m name span) (sym (input-origin m n f.cycle f.place k p at e)) (in_frames name f.cycle l, contained_at m.inputs p k at)
      by l p (inr (k, at, e, z, o)) =
          let many = states_many in
          let w = slice_get_within (states m) k p at in
          subst (IsOrigin m name span) (sym (state-origin m n f.cycle f.place k p (omega arith) at e)) (may_stand name k p at o)

  -- a run with the choices that values tell
  module _ (other : name ≡ Step → ⊥) (x : Assignment) (s : Satisfies x (encoded_of n name span).formula.clauses) (cs : ℕ → Cycle) (p : Plays m (job.decoded (encoded_of n name span) x) cs) where
    same : job.decoded (encoded_of n name span) x ≡ decoded m n (cycles_of name span) (job_encoding n name span) x
    same = same_choices m n of name span x s

    plays : Plays m (decoded m n (cycles_of name span) (job_encoding n name span) x) cs
    plays = subst (λ (c : ChoicesOf). Plays m c cs) same p

    many : length (job.decoded (encoded_of n name span) x).inputs ≡ cycles_told (cycles_of name span) (job_encoding n name span) x
    many = ap (λ (c : ChoicesOf). length c.inputs) same ∙ many_rows m n (cycles_of name span) (job_encoding n name span) x

    starts : start ≡ true
    starts = starts_at m n is served of name span other

    true_stand : (t v q : ℕ) → StandsFor m n start t v q → StandsFor m n true t v q
    true_stand t v q h = subst (λ (b : Bool). StandsFor m n b t v q) starts h

    abbrev long : ℕ
    long = length (job.decoded (encoded_of n name span) x).inputs

    pub value : (f : Free) → Contains free f → HasValue cs long (origin f) (x f.var)
    value f d = let h = here f d in by h.1.0 h.1.1
      where
        by : (q : ℕ) → StandsFor m n start f.cycle f.place q → HasValue cs long (origin f) (x f.var)
        by q (inl (k, at, e)) = subst (λ (o : Origin). HasValue cs long o (x f.var)) (sym (input-origin m n f.cycle f.place k q at e))
            (λ (l : f.cycle < long). let w = many in free_at m n is served of name span few starts x cs plays f q d (true_stand f.cycle f.place q (inl (k, at, e))) (omega arith))
        by q (inr (k, at, e, z, o)) =
            let all = states_many in
            let w = slice_get_within (states m) k q at in
            let some = p.run.window.some in
            let w2 = many in
            subst (λ (o : Origin). HasValue cs long o (x f.var)) (sym (state-origin m n f.cycle f.place k q (omega arith) at e))
            (ap (λ (t : ℕ). cs t q) (sym z) ∙ free_at m n is served of name span few starts x cs plays f q d (true_stand f.cycle f.place q (inr (k, at, e, z, o))) (omega arith))

    pub value_out : (o : Origin) → IsOpenIn m long o → (Contains (map origin free) o → ⊥) → HasValue cs long o false
    value_out (First q) h out =
        let r = open-from (states m) m.starts q h in
        let all = states_many in
        let w = slice_get_within (states m) r.0 q r.1 in
        let some = p.run.window.some in
        let w2 = many in
        none_at m n is served of name span few starts x cs plays 0 (state_var r.0) q (inr (r.0, r.1, refl, refl, λ _. r.2)) (omega arith)
        (λ f d c v. out (let i = place_of_contained free f d in
        contained_at (map origin free) (First q) i.0 (map_at origin free i.0 f i.1 ∙ ap Some (ap (λ (u : ℕ). origin_at m n f.cycle u) v ∙ state-origin m n f.cycle (state_var r.0) r.0 q (omega arith) r.1 refl))))
    value_out (Input t q) h out = λ (l : t < long).
        let r = place_of_contained m.inputs q h.1 in
        let w2 = many in
        none_at m n is served of name span few starts x cs plays t (input_var n r.0) q (inl (r.0, r.1, refl)) (omega arith)
        (λ f d c v. out (let i = place_of_contained free f d in
        contained_at (map origin free) (Input t q) i.0 (map_at origin free i.0 f i.1 ∙ ap Some (ap (λ (u : ℕ). origin_at m n f.cycle u) v ∙ input-origin m n f.cycle (input_var n r.0) r.0 q r.1 refl ∙ ap (λ (u : ℕ). Input u q) c))))

  pub has_origins : HasOrigins m name span (encoded_of n name span)
  has_origins =
      let net = origins_law n (asked_of name) (cycles_of name span) served few in
      record {
        distinct = net.distinct;
        within = all_of (λ (v : ℕ). (0 < v) × (v ≤ (job_encoding n name span).vars)) (map (λ (f : Free). f.var) free) (λ v c.
            (let at = place_of_contained (map (λ (f : Free). f.var) free) v c in
            let r = mapped (λ (f : Free). f.var) free at.0 v at.1 in
            subst (λ (u : ℕ). (0 < u) × (u ≤ (job_encoding n name span).vars)) (sym r.2) (net.within r.0 (contained_at free r.0 at.0 r.1))));
        origins = map origin free;
        each = length_map origin free ∙ sym (length_map (λ (f : Free). f.var) free);
        apart = apart;
        free = all_of (IsOrigin m name span) (map origin free) (λ o c.
            (let at = place_of_contained (map origin free) o c in
            let r = mapped origin free at.0 o at.1 in
            subst (IsOrigin m name span) (sym r.2) (is_origin r.0 (contained_at free r.0 at.0 r.1))));
        values = λ other x s cs p k v o ev eo.
            (let r = mapped (λ (f : Free). f.var) free k v ev in
            let q = mapped origin free k o eo in
            let one : r.0 ≡ q.0 = one_at free k r.0 q.0 r.1 q.1 in
            let e : o ≡ origin r.0 = q.2 ∙ ap origin (sym one) in
            subst (λ (b : Bool). HasValue cs (length (job.decoded (encoded_of n name span) x).inputs) o b) (ap x (sym r.2))
            (subst (λ (a : Origin). HasValue cs (length (job.decoded (encoded_of n name span) x).inputs) a (x r.0.var)) (sym e) (value other x s cs p r.0 (contained_at free r.0 k r.1))));
        rest = λ other x s cs p o h out. value_out other x s cs p o h out;
      }
