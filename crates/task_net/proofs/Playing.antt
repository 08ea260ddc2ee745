-- The choices for a slice, and those for its model.
use Rattle.std.proofs.Common.{◌≡◌, ℕ, zero, suc, ◌<◌, Bool, true, false, cond, List, [], ◌∷◌, Option, Some, None, length, map, refl, sym, ap, subst, ◌∙◌, arith}
use Rattle.std.specs.Prelude.{Contains, slice_get}
use Rattle.std.specs.List.{filter}
use Rattle.std.proofs.lemmas.List.{length-map}
use Rattle.std.proofs.lemmas.List.Elements.{All-map}
use Rattle.std.proofs.lemmas.Option.{slice_get_within}
use Rattle.cnf_form.specs.Cnf.{Assignment, lit_in}
use Rattle.sby_bits.specs.Rows.{Row}
use Rattle.model_core.specs.Choices.{AreChoicesFor, ChoicesOf, Plays, open_states, without_digit}
use Rattle.model_core.specs.Meaning.{Cycle, Run, row_at}
use Rattle.model_core.specs.Served.{IsModel}
use Rattle.model_core.specs.Shape.{ModelOf, states}
use Rattle.model_core.proofs.Lists.{all_at, all_from}
use Rattle.model_core.proofs.Runs.{run_of, run_plays}
use Rattle.model_core.proofs.Writing.{row_same}
use Rattle.sby_terms.specs.declared.names.JobName.{JobName}
use Rattle.sby_terms.specs.declared.span.Span.{Span}
use Rattle.job_terms.specs.Decoding.{DecodingOf, FrameOf, bit_of, decoded_by, rows_until}
use Rattle.job_terms.specs.Encoding.{IsDecoded, ShowsGoal}
use Rattle.model_cone.specs.Cone.{AgreeInCone, IsCone}
use Rattle.model_cone.specs.Slice.{kept_at, sliced}
use Rattle.model_cone.proofs.Digits.{filter-contained}
use Rattle.model_cone.proofs.Slicing.{slice-states}
use Rattle.model_cone.proofs.Windows.{down, down-agrees, down-run}
use Rattle.task_net.specs.Asking.{asked_of}
use Rattle.task_net.specs.Spreading.{spread, spread_bits, spread_choices, spread_decoding}
use Rattle.task_net.proofs.Solving.{goal-same, goal-shown}
use Rattle.task_net.proofs.Spreads.{spread-length}

-- what is decoded is spread where the variables are
spread-bits : (x : Assignment) (kept : List Bool) (vars : List (Option ℕ)) → map (bit_of x) (spread kept vars) ≡ spread_bits kept (map (bit_of x) vars)
spread-bits x [] vars = refl
spread-bits x (false ∷ kept) vars = ap (λ (bs : Row). false ∷ bs) (spread-bits x kept vars)
spread-bits x (true ∷ kept) [] = ap (λ (bs : Row). false ∷ bs) (spread-bits x kept [])
spread-bits x (true ∷ kept) (v ∷ vars) = ap (λ (bs : Row). bit_of x v ∷ bs) (spread-bits x kept vars)

spread-rows : (x : Assignment) (kept : List Bool) (fs : List FrameOf) → rows_until x (map (λ (f : FrameOf). record { inputs = spread kept f.inputs; goal = f.goal }) fs) ≡ map (spread_bits kept) (rows_until x fs)
spread-rows x kept [] = refl
spread-rows x kept (f ∷ fs) = by (lit_in x f.goal) (spread-bits x kept f.inputs) (spread-rows x kept fs)
  where
    by : (b : Bool) → map (bit_of x) (spread kept f.inputs) ≡ spread_bits kept (map (bit_of x) f.inputs)
        → rows_until x (map (λ (f : FrameOf). record { inputs = spread kept f.inputs; goal = f.goal }) fs) ≡ map (spread_bits kept) (rows_until x fs)
        → map (bit_of x) (spread kept f.inputs) ∷ cond b [] (rows_until x (map (λ (f : FrameOf). record { inputs = spread kept f.inputs; goal = f.goal }) fs))
        ≡ map (spread_bits kept) (map (bit_of x) f.inputs ∷ cond b [] (rows_until x fs))
    by true e g = rw e refl
    by false e g = rw (e, g) refl

pub spread-decoded : (starts inputs : List Bool) (k : DecodingOf) (x : Assignment) → decoded_by (spread_decoding starts inputs k) x ≡ spread_choices starts inputs (decoded_by k x)
spread-decoded starts inputs k x = by (spread-bits x starts k.starts) (spread-rows x inputs k.frames)
  where
    by : {a b : Row} {c d : List Row} → a ≡ b → c ≡ d → ◌≡◌ {A = ChoicesOf} (record { starts = a; inputs = c }) (record { starts = b; inputs = d })
    by e f = rw (e, f) refl

-- open state bits of a slice
none-left : (xs : List ℕ) → without_digit xs [] ≡ []
none-left [] = refl
none-left (x ∷ xs) = refl

open-filter : (keep : ℕ → Bool) (ps : List ℕ) (ds : List (Option Bool)) → without_digit (filter keep ps) (kept_at keep ps ds) ≡ filter keep (without_digit ps ds)
open-filter keep [] ds = refl
open-filter keep (p ∷ ps) [] = none-left (filter keep (p ∷ ps))
open-filter keep (p ∷ ps) (None ∷ ds) = by (keep p) (open-filter keep ps ds)
  where
    by : (b : Bool) → without_digit (filter keep ps) (kept_at keep ps ds) ≡ filter keep (without_digit ps ds)
        → without_digit (cond b (p ∷ filter keep ps) (filter keep ps)) (cond b (None ∷ kept_at keep ps ds) (kept_at keep ps ds)) ≡ cond b (p ∷ filter keep (without_digit ps ds)) (filter keep (without_digit ps ds))
    by true e = ap (λ (qs : List ℕ). p ∷ qs) e
    by false e = e
open-filter keep (p ∷ ps) (Some x ∷ ds) = by (keep p) (open-filter keep ps ds)
  where
    by : (b : Bool) → without_digit (filter keep ps) (kept_at keep ps ds) ≡ filter keep (without_digit ps ds)
        → without_digit (cond b (p ∷ filter keep ps) (filter keep ps)) (cond b (Some x ∷ kept_at keep ps ds) (kept_at keep ps ds)) ≡ filter keep (without_digit ps ds)
    by true e = e
    by false e = e

pub open-kept : (keep : ℕ → Bool) (m : ModelOf) → open_states (sliced keep m) ≡ filter keep (open_states m)
open-kept keep m = ap (λ (ps : List ℕ). without_digit ps (kept_at keep (states m) m.starts)) (slice-states keep m) ∙ open-filter keep (states m) m.starts

-- a row that is spread has at the places that are kept the row
unspread : (c : Cycle) (keep : ℕ → Bool) (ps : List ℕ) (row : Row) → length row ≡ length (filter keep ps) → row_at c ps ≡ spread_bits (map keep ps) row → row_at c (filter keep ps) ≡ row
unspread c keep [] [] l e = refl
unspread c keep [] (b ∷ row) l e = absurd (omega arith)
unspread c keep (p ∷ ps) row l e = by (keep p) row l e (λ r k g. unspread c keep ps r k g)
  where
    by : (t : Bool) (row : Row) → length row ≡ length (cond t (p ∷ filter keep ps) (filter keep ps)) → c p ∷ row_at c ps ≡ spread_bits (t ∷ map keep ps) row
        → ((r : Row) → length r ≡ length (filter keep ps) → row_at c ps ≡ spread_bits (map keep ps) r → row_at c (filter keep ps) ≡ r) → row_at c (cond t (p ∷ filter keep ps) (filter keep ps)) ≡ row
    by true [] l e rest = absurd (omega arith)
    by true (b ∷ row) l e rest =
        let head : c p ≡ b = cc in
        let tail : row_at c ps ≡ spread_bits (map keep ps) row = cc in
        let r = rest row (omega arith) tail in
        cc
    by false row l e rest = let tail : row_at c ps ≡ spread_bits (map keep ps) row = cc in rest row l tail

mapped-row : (f : Row → Row) (rows : List Row) (t : ℕ) (row : Row) → slice_get rows t ≡ Some row → slice_get (map f rows) t ≡ Some (f row)
mapped-row f [] t row e = absurd cc
mapped-row f (r ∷ rows) zero row e = let same : r ≡ row = cc in ap (λ (z : Row). Some (f z)) same
mapped-row f (r ∷ rows) (suc t) row e = mapped-row f rows t row e

module _ (m : ModelOf) (is : IsModel m) (keep : ℕ → Bool) (iss : IsModel (sliced keep m)) (job : JobName) (cone : IsCone m (asked_of job) keep)
    (c d : ChoicesOf) (e : d ≡ spread_choices (map keep (open_states m)) (map keep m.inputs) c) (fit : AreChoicesFor (sliced keep m) c) where
  pub cycles-same : length d.inputs ≡ length c.inputs
  cycles-same = ap (λ (k : ChoicesOf). length k.inputs) e ∙ length-map c.inputs (spread_bits (map keep m.inputs))

  pub choices-fit : AreChoicesFor m d
  choices-fit = subst (AreChoicesFor m) (sym e) (record {
    starts = spread-length (map keep (open_states m)) c.starts ∙ length-map (open_states m) keep;
    inputs =
        All-map (λ (row : Row). length row ≡ length m.inputs) (spread_bits (map keep m.inputs)) c.inputs
        (all_from (λ (row : Row). length (spread_bits (map keep m.inputs) row) ≡ length m.inputs) c.inputs (λ k row g. spread-length (map keep m.inputs) row ∙ length-map m.inputs keep));
  })

  module _ (cs : ℕ → Cycle) (p : Plays m d cs) where
    pub played : ℕ → Cycle
    played t = down m is (asked_of job) keep cone iss cs t

    pub played-agrees : (t : ℕ) → t < length d.inputs → AgreeInCone m (asked_of job) (cs t) (played t)
    unfolding played
    played-agrees t l = down-agrees m is (asked_of job) keep cone iss cs (length d.inputs) p.run.window t l

    pub played-kept : (t : ℕ) → t < length d.inputs → (q : ℕ) → keep q ≡ true → cs t q ≡ played t q
    played-kept t l q k = played-agrees t l q ((cone q).0 k)

    rows-kept : (t : ℕ) → t < length d.inputs → (ps : List ℕ) → row_at (played t) (filter keep ps) ≡ row_at (cs t) (filter keep ps)
    rows-kept t l ps = row_same (played t) (cs t) (filter keep ps) (λ q h. sym (played-kept t l q (filter-contained keep ps q h).1))

    played-run : Run (sliced keep m) (length c.inputs) played
    unfolding played
    played-run = subst (λ (n : ℕ). Run (sliced keep m) n (down m is (asked_of job) keep cone iss cs)) cycles-same (down-run m is (asked_of job) keep cone iss cs (length d.inputs) p.run)

    played-starts : row_at (played 0) (open_states (sliced keep m)) ≡ c.starts
    played-starts =
        let o = open-kept keep m in
        let n : length c.starts ≡ length (filter keep (open_states m)) = fit.starts ∙ ap (λ (ps : List ℕ). length ps) o in
        ap (λ (ps : List ℕ). row_at (played 0) ps) o ∙ rows-kept 0 p.run.window.some (open_states m)
        ∙ unspread (cs 0) keep (open_states m) c.starts n (p.starts ∙ ap (λ (k : ChoicesOf). k.starts) e)

    played-inputs : (t : ℕ) (row : Row) → slice_get c.inputs t ≡ Some row → row_at (played t) (filter keep m.inputs) ≡ row
    played-inputs t row g =
        let l : t < length c.inputs = slice_get_within c.inputs t row g in
        let s = cycles-same in
        let w : length row ≡ length (filter keep m.inputs) = all_at (λ (r : Row). length r ≡ length (filter keep m.inputs)) c.inputs t row fit.inputs g in
        let at : slice_get d.inputs t ≡ Some (spread_bits (map keep m.inputs) row) =
        subst (λ (k : ChoicesOf). slice_get k.inputs t ≡ Some (spread_bits (map keep m.inputs) row)) (sym e) (mapped-row (spread_bits (map keep m.inputs)) c.inputs t row g) in
        rows-kept t (omega arith) m.inputs ∙ unspread (cs t) keep m.inputs row w (p.inputs t (spread_bits (map keep m.inputs) row) at)

    pub played-plays : Plays (sliced keep m) c played
    played-plays = record { run = played-run; starts = played-starts; inputs = λ t row g. played-inputs t row g }

  pub decoded-too : (span : Span) → IsDecoded (sliced keep m) job span c → IsDecoded m job span d
  decoded-too span h =
      let s = cycles-same in
      let z = h.plays.1.run.window.some in
      record {
        plays = (run_of m is d, run_plays m is d choices-fit (omega arith));
        ends = λ t g. h.ends t (g ∙ s);
        shows = λ cs p.
            goal-shown m keep job (length d.inputs) cs (played cs p) (λ t l. played-agrees cs p t l) p.run
            (subst (λ (n : ℕ). ShowsGoal (sliced keep m) job n (played cs p)) (sym s) (h.shows (played cs p) (played-plays cs p)));
        before = λ cs p t l may g. h.before (played cs p) (played-plays cs p) t (omega arith) may (goal-same m keep job (cs t) (played cs p t) (played-agrees cs p t (omega arith)) g);
      }
