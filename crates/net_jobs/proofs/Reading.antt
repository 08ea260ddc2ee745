-- What tells the choices of a job, by its encoding.
use Rattle.std.proofs.Common.{Contains, ◌≡◌, ℕ, zero, suc, max, ◌+◌, ◌<◌, ◌≤◌, Bool, true, false, cond, not, List, [], ◌∷◌, ◌++◌, Option, Some, None, refl, sym, ap, ◌∙◌, subst, arith, length, map, All, inl, inr}
use Rattle.std.specs.Prelude.{◌&&◌, eqb, slice_get}
use Rattle.std.proofs.lemmas.List.{map-append}
use Rattle.cnf_form.specs.Cnf.{Assignment, LitOf, Satisfies, SatisfiesClause, lit_in}
use Rattle.gate_graph.specs.Kept.{clauses_from, lit_of}
use Rattle.sby_bits.specs.Rows.{Row}
use Rattle.sby_terms.specs.declared.names.JobName.{JobName}
use Rattle.sby_terms.specs.declared.span.Span.{Span}
use Rattle.model_core.specs.Choices.{AreChoicesFor, ChoicesOf, without_digit}
use Rattle.model_core.specs.Served.{IsModel}
use Rattle.model_core.specs.Shape.{ModelOf, states}
use Rattle.bit_net.specs.Net.{NetOf, input_var, state_var}
use Rattle.bit_net.specs.Reaching.{numbers}
use Rattle.bit_net.specs.declared.node.State.{State}
use Rattle.std.proofs.lemmas.List.Elements.{Contains-append_right}
use Rattle.model_core.proofs.Lists.{all_from, contained_at, place_of_contained}
use Rattle.frame_gates.proofs.Lists.{length_map, map_map, map_same}
use Rattle.frame_net.specs.NetOf.{IsNetOf}
use Rattle.frame_net.proofs.Rows.{length-numbers, numbers_append}
use Rattle.job_terms.specs.Decoding.{FrameOf, bit_of, rows_until}
use Rattle.job_terms.specs.Encoding as job
use Rattle.net_unroll.specs.Encoding.{EncodedOf, formula_of}
use Rattle.net_unroll.specs.Promises.{cycles_told, first_true, told_by}
use Rattle.net_unroll.specs.declared.asking.Cycles.{Cycles}
use Rattle.net_unroll.specs.declared.encoded.Free.{Free}
use Rattle.net_jobs.specs.Jobs.{cycles_of, decoded, job_encoding, start_bits}
use Rattle.net_jobs.specs.Reading.{decoding_of, early_frames, encoded_of, frame_of, goal_frames, start_vars, var_at}
use Rattle.net_jobs.proofs.Choosing.{start_long}

-- ---- bits

bit_told : (x : Assignment) (free : List Free) (t v : ℕ) → bit_of x (var_at free t v) ≡ told_by x free t v
bit_told x [] t v = refl
bit_told x (f ∷ fs) t v = by (eqb f.cycle t && eqb f.place v) (bit_told x fs t v)
  where
    by : (b : Bool) → bit_of x (var_at fs t v) ≡ told_by x fs t v → bit_of x (cond b (Some f.var) (var_at fs t v)) ≡ cond b (x f.var) (told_by x fs t v)
    by true e = refl
    by false e = e

pub starts_told : (x : Assignment) (digits : List (Option Bool)) (k : ℕ) (free : List Free) → map (bit_of x) (start_vars digits k free) ≡ start_bits digits k (λ j. told_by x free 0 (state_var j))
starts_told x [] k free = refl
starts_told x (Some d ∷ digits) k free = starts_told x digits (suc k) free
starts_told x (None ∷ digits) k free = by (bit_told x free 0 (state_var k)) (starts_told x digits (suc k) free)
  where
    by : {a b : Bool} {r s : Row} → a ≡ b → r ≡ s → a ∷ r ≡ b ∷ s
    by e f = rw (e, f) refl

-- the row of cycle t
abbrev pub row_of : NetOf → List Free → Assignment → ℕ → Row
row_of n free x t = map (λ k. told_by x free t (input_var n k)) (numbers 0 n.inputs)

pub frame_told : (n : NetOf) (free : List Free) (x : Assignment) (t : ℕ) (l : LitOf) → map (bit_of x) (frame_of n free t l).inputs ≡ row_of n free x t
frame_told n free x t l =
    map_map (bit_of x) (λ k. var_at free t (input_var n k)) (numbers 0 n.inputs)
    ∙ map_same (λ k. bit_of x (var_at free t (input_var n k))) (λ k. told_by x free t (input_var n k)) (numbers 0 n.inputs) (λ k i. bit_told x free t (input_var n k))

-- ---- rows

pub next_row : (x : Assignment) (f : FrameOf) (fs : List FrameOf) (b : Bool) → lit_in x f.goal ≡ b → rows_until x (f ∷ fs) ≡ map (bit_of x) f.inputs ∷ cond b [] (rows_until x fs)
next_row x f fs b e = ap (λ (c : Bool). map (bit_of x) f.inputs ∷ cond c [] (rows_until x fs)) e

pub row-and : {a b : Row} {r s : List Row} → a ≡ b → r ≡ s → a ∷ r ≡ b ∷ s
row-and e f = rw (e, f) refl

pub early_rows : (n : NetOf) (free : List Free) (x : Assignment) → x 1 ≡ true → (ts : List ℕ) (rest : List FrameOf) → rows_until x (map (λ t. frame_of n free t (lit_of 1 false)) ts ++ rest) ≡ map (row_of n free x) ts ++ rows_until x rest
early_rows n free x one [] rest = refl
early_rows n free x one (t ∷ ts) rest =
    let low : lit_in x (lit_of 1 false) ≡ false = ap not one in
    next_row x (frame_of n free t (lit_of 1 false)) (map (λ t. frame_of n free t (lit_of 1 false)) ts ++ rest) false low
    ∙ row-and (frame_told n free x t (lit_of 1 false)) (early_rows n free x one ts rest)

goal_rows : (n : NetOf) (free : List Free) (x : Assignment) (t : ℕ) (ls : List LitOf) → SatisfiesClause x ls → rows_until x (goal_frames n free t ls) ≡ map (row_of n free x) (numbers t (suc (first_true x ls)))
goal_rows n free x t [] (l, c, e) = absurd (let p = place_of_contained (let ls : List LitOf = [] in ls) l c in let z = p.1 in cc)
goal_rows n free x t (l ∷ ls) (k, c, e) = by (λ h. goal_rows n free x (suc t) ls h) (lit_in x l) refl
  where
    rest : lit_in x l ≡ false → SatisfiesClause x ls
    rest low = let p = place_of_contained (l ∷ ls) k c in from p.0 p.1
      where
        from : (i : ℕ) → slice_get (l ∷ ls) i ≡ Some k → SatisfiesClause x ls
        from zero at =
            let same : l ≡ k = cc in
            let high : lit_in x l ≡ true = ap (lit_in x) same ∙ e in
            absurd (let z : true ≡ false = sym high ∙ low in cc)
        from (suc i) at = (k, contained_at ls k i at, e)

    by : (SatisfiesClause x ls → rows_until x (goal_frames n free (suc t) ls) ≡ map (row_of n free x) (numbers (suc t) (suc (first_true x ls)))) → (b : Bool) → lit_in x l ≡ b
        → rows_until x (goal_frames n free t (l ∷ ls)) ≡ map (row_of n free x) (numbers t (suc (cond b 0 (suc (first_true x ls)))))
    by later true high = next_row x (frame_of n free t l) (goal_frames n free (suc t) ls) true high ∙ row-and (frame_told n free x t l) refl
    by later false low =
        next_row x (frame_of n free t l) (goal_frames n free (suc t) ls) false low
        ∙ row-and (frame_told n free x t l) (later (rest low))

-- ---- what satisfies the formula

no_clause : (x : Assignment) → Satisfies x ([] ∷ []) → ⊥
no_clause x s = let (l, c, e) = s [] (contained_at ([] ∷ []) [] 0 refl) in let p = place_of_contained (let ls : List LitOf = [] in ls) l c in let z = p.1 in cc

module _ (e : EncodedOf) (x : Assignment) (s : Satisfies x (formula_of e).clauses) where
  asks : e.asks ≡ true
  asks = by e.asks refl
    where
      by : (b : Bool) → e.asks ≡ b → e.asks ≡ true
      by true q = q
      by false q = absurd (no_clause x (subst (λ (b : Bool). Satisfies x (cond b (clauses_from e.gates ++ e.goals ∷ []) ([] ∷ []))) q s))

  all : Satisfies x (clauses_from e.gates ++ e.goals ∷ [])
  all = subst (λ (b : Bool). Satisfies x (cond b (clauses_from e.gates ++ e.goals ∷ []) ([] ∷ []))) asks s

  pub one_true : x 1 ≡ true
  one_true =
      let (l, c, q) = all (lit_of 1 true ∷ []) (contained_at (clauses_from e.gates ++ e.goals ∷ []) (lit_of 1 true ∷ []) 0 refl) in
      let p = place_of_contained (lit_of 1 true ∷ []) l c in
      from l q p.0 p.1
    where
      from : (l : LitOf) → lit_in x l ≡ true → (i : ℕ) → slice_get (lit_of 1 true ∷ []) i ≡ Some l → x 1 ≡ true
      from l q zero at = let same : lit_of 1 true ≡ l = cc in ap (lit_in x) same ∙ q
      from l q (suc i) at = absurd cc

  pub goal_true : SatisfiesClause x e.goals
  goal_true = all e.goals (Contains-append_right (clauses_from e.gates) (e.goals ∷ []) e.goals (contained_at (e.goals ∷ []) e.goals 0 refl))

  told_rows : (n : NetOf) (c : Cycles) → rows_until x (decoding_of n c e).frames ≡ map (row_of n e.free x) (numbers 0 (cycles_told c e x))
  told_rows n c =
      let start : ℕ = max c.first c.end in
      let many : suc (start + first_true x e.goals) ≡ start + suc (first_true x e.goals) = omega arith in
      early_rows n e.free x one_true (numbers 0 start) (goal_frames n e.free start e.goals)
      ∙ ap (λ (rs : List Row). map (row_of n e.free x) (numbers 0 start) ++ rs) (goal_rows n e.free x start e.goals goal_true)
      ∙ sym (map-append (row_of n e.free x) (numbers 0 start) (numbers start (suc (first_true x e.goals))))
      ∙ ap (map (row_of n e.free x)) (sym (ap (numbers 0) many ∙ numbers_append 0 start (suc (first_true x e.goals)) ∙ ap (λ (k : ℕ). numbers 0 start ++ numbers k (suc (first_true x e.goals))) (let z : 0 + start ≡ start = omega arith in z)))

-- ---- choices

pub same_choices : (m : ModelOf) (n : NetOf) → IsNetOf m n → (name : JobName) (span : Span) (x : Assignment) → Satisfies x (encoded_of n name span).formula.clauses
    → job.decoded (encoded_of n name span) x ≡ decoded m n (cycles_of name span) (job_encoding n name span) x
same_choices m n of name span x s =
    by (starts_told x (map (λ (s : State). s.start) n.states) 0 (job_encoding n name span).free ∙ ap (λ (ds : List (Option Bool)). start_bits ds 0 (λ j. told_by x (job_encoding n name span).free 0 (state_var j))) of.starts)
    (told_rows (job_encoding n name span) x s n (cycles_of name span))
  where
    by : {a b : Row} {c d : List Row} → a ≡ b → c ≡ d → ◌≡◌ {A = ChoicesOf} (record { starts = a; inputs = c }) (record { starts = b; inputs = d })
    by e f = rw (e, f) refl

frame_long : (n : NetOf) (free : List Free) (t : ℕ) (l : LitOf) → length (frame_of n free t l).inputs ≡ n.inputs
frame_long n free t l = length_map (λ k. var_at free t (input_var n k)) (numbers 0 n.inputs) ∙ length-numbers 0 n.inputs

rows_long : (x : Assignment) (w : ℕ) (fs : List FrameOf) → ((k : ℕ) (f : FrameOf) → slice_get fs k ≡ Some f → length f.inputs ≡ w) → (k : ℕ) (row : Row) → slice_get (rows_until x fs) k ≡ Some row → length row ≡ w
rows_long x w [] all k row at = absurd cc
rows_long x w (f ∷ fs) all zero row at =
    let same : map (bit_of x) f.inputs ≡ row = cc in
    ap length (sym same) ∙ length_map (bit_of x) f.inputs ∙ all 0 f refl
rows_long x w (f ∷ fs) all (suc k) row at = by (λ h. rows_long x w fs (λ i g z. all (suc i) g z) k row h) (lit_in x f.goal) at
  where
    by : (slice_get (rows_until x fs) k ≡ Some row → length row ≡ w) → (b : Bool) → slice_get (cond b [] (rows_until x fs)) k ≡ Some row → length row ≡ w
    by later true at = absurd (let z = at in cc)
    by later false at = later at

goals_long : (n : NetOf) (free : List Free) (t : ℕ) (ls : List LitOf) (k : ℕ) (f : FrameOf) → slice_get (goal_frames n free t ls) k ≡ Some f → length f.inputs ≡ n.inputs
goals_long n free t [] k f at = absurd cc
goals_long n free t (l ∷ ls) zero f at = let same : frame_of n free t l ≡ f = cc in ap (λ (g : FrameOf). length g.inputs) (sym same) ∙ frame_long n free t l
goals_long n free t (l ∷ ls) (suc k) f at = goals_long n free (suc t) ls k f at

frames_long : (n : NetOf) (free : List Free) (ts : List ℕ) (t : ℕ) (ls : List LitOf) (k : ℕ) (f : FrameOf) → slice_get (map (λ u. frame_of n free u (lit_of 1 false)) ts ++ goal_frames n free t ls) k ≡ Some f → length f.inputs ≡ n.inputs
frames_long n free [] t ls k f at = goals_long n free t ls k f at
frames_long n free (u ∷ ts) t ls zero f at = let same : frame_of n free u (lit_of 1 false) ≡ f = cc in ap (λ (g : FrameOf). length g.inputs) (sym same) ∙ frame_long n free u (lit_of 1 false)
frames_long n free (u ∷ ts) t ls (suc k) f at = frames_long n free ts t ls k f at

pub fit_choices : (m : ModelOf) (n : NetOf) → IsModel m → IsNetOf m n → (name : JobName) (span : Span) (x : Assignment) → AreChoicesFor m (job.decoded (encoded_of n name span) x)
fit_choices m n is of name span x =
    let e : EncodedOf = job_encoding n name span in
    let start : ℕ = max (cycles_of name span).first (cycles_of name span).end in
    let frames : List FrameOf = (decoding_of n (cycles_of name span) (job_encoding n name span)).frames in
    record {
      starts = ap length (starts_told x (map (λ (s : State). s.start) n.states) 0 e.free ∙ ap (λ (ds : List (Option Bool)). start_bits ds 0 (λ j. told_by x e.free 0 (state_var j))) of.starts)
          ∙ start_long (states m) m.starts 0 (λ j. told_by x (job_encoding n name span).free 0 (state_var j)) is.starts;
      inputs = all_from (λ (row : Row). length row ≡ length m.inputs) (rows_until x frames)
          (λ k row at. rows_long x n.inputs frames (λ i f h. frames_long n e.free (numbers 0 start) start e.goals i f h) k row at ∙ of.inputs);
    }
