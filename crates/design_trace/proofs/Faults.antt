-- Where reading stops is the length of the longest prefix that begins a trace.
use Rattle.std.proofs.Common.{◌≡◌, ◌∙◌, ◌<◌, ◌≤◌, ◌+◌, ◌-◌, ◌⊎◌, ℕ, suc, List, [], ◌++◌, length, take, drop, sym, ap, subst, inl, inr, arith, length-append}
use Rattle.std.proofs.lemmas.Bool.{cases_lt}
use Rattle.sby_bits.specs.Rows.{Row}
use Rattle.design_meaning.specs.Runs.{IsShownOf}
use Rattle.design_core.specs.Shape.{DesignOf}
use Rattle.design_trace.specs.Trace.{Begins, IsFault, IsTrace, trace}
use Rattle.design_trace.specs.Reading.{FailsAt, Stops, cycle_pattern}
use Rattle.design_trace.proofs.Patterns.{Matches, fails_first, fails_goes_on, fails_later, fails_no_less, fails_no_more, fails_whole, fails_within, matches_length}
use Rattle.design_trace.proofs.Lines.{cycles_match, cycles_pattern, cycles_pattern_parts, match_is_cycles}

trace_matches : (d : DesignOf) (rows : List Row) (xs : List ℕ) → IsTrace d rows xs → Matches (cycles_pattern d 0 (length rows)) xs
trace_matches d rows xs is = subst (Matches (cycles_pattern d 0 (length rows))) (sym is.text) (cycles_match d 0 rows is.fits)

match_begins : (d : DesignOf) (j : ℕ) (xs : List ℕ) → (rest : List ℕ) × Matches (cycles_pattern d 0 (suc j)) (xs ++ rest) → Begins d xs
match_begins d j xs a =
    let of = match_is_cycles d 0 (suc j) (xs ++ a.0) a.1 in
    (a.0, of.rows, record { fits = of.fits; some = omega (arith, of.count); text = of.lines })

-- bytes that fail the pattern of j + 1 cycles go on to a trace only up to the failing place
fails_is_longest : (d : DesignOf) (j : ℕ) (bytes : List ℕ) (n m : ℕ) → FailsAt (cycles_pattern d 0 (suc j)) bytes n → n < m → m ≤ length bytes → Begins d (take m bytes) → ⊥
fails_is_longest d j bytes n m fails lt le begins = go (cases_lt (length begins.1) (suc j))
  where
    matched : Matches (cycles_pattern d 0 (length begins.1)) (take m bytes ++ begins.0)
    matched = trace_matches d begins.1 (take m bytes ++ begins.0) begins.2

    go : (length begins.1 < suc j) ⊎ (suc j ≤ length begins.1) → ⊥
    go (inl short) =
        let i = length begins.1 in
        let parts = cycles_pattern_parts d 0 i (suc j - i) (suc j) i (omega (arith, short)) (omega arith) in
        fails_no_less (cycles_pattern d 0 i) (cycles_pattern d i (suc j - i)) bytes begins.0 n m (subst (λ p. FailsAt p bytes n) parts fails) lt le matched
    go (inr long) =
        let i = length begins.1 in
        let parts = cycles_pattern_parts d 0 (suc j) (i - suc j) i (suc j) (omega (arith, long)) (omega arith) in
        fails_no_more (cycles_pattern d 0 (suc j)) (cycles_pattern d (suc j) (i - suc j)) bytes begins.0 n m fails lt le
        (subst (λ p. Matches p (take m bytes ++ begins.0)) parts matched)

-- bytes that fail the pattern of j + 1 cycles, after j cycles, are no trace: they fail at once, or go on after these
fails_is_no_trace : (d : DesignOf) (j at : ℕ) (bytes : List ℕ) (n : ℕ) → FailsAt (cycles_pattern d 0 (suc j)) bytes n → at ≡ length (cycles_pattern d 0 j)
    → (j ≡ 0) ⊎ (at < length bytes) → (rows : List Row) → IsTrace d rows bytes → ⊥
fails_is_no_trace d j at bytes n fails place more rows is = go (cases_lt (length rows) (suc j))
  where
    matched : Matches (cycles_pattern d 0 (length rows)) bytes
    matched = trace_matches d rows bytes is

    short_one : length rows < suc j → (j ≡ 0) ⊎ (at < length bytes) → ⊥
    short_one short (inl none) = absurd (omega (arith, short, none, is.some))
    short_one short (inr later) =
        let i = length rows in
        let parts = cycles_pattern_parts d 0 i (j - i) j i (omega (arith, short)) (omega arith) in
        let whole = matches_length (cycles_pattern d 0 i) bytes matched in
        let longer : length (cycles_pattern d 0 j) ≡ length (cycles_pattern d 0 i) + length (cycles_pattern d i (j - i)) =
        ap length parts ∙ length-append (cycles_pattern d 0 i) (cycles_pattern d i (j - i)) in
        absurd (omega (arith, whole, longer, place, later))

    go : (length rows < suc j) ⊎ (suc j ≤ length rows) → ⊥
    go (inl short) = short_one short more
    go (inr long) =
        let i = length rows in
        let parts = cycles_pattern_parts d 0 (suc j) (i - suc j) i (suc j) (omega (arith, long)) (omega arith) in
        fails_whole (cycles_pattern d 0 (suc j)) (cycles_pattern d (suc j) (i - suc j)) bytes n fails (subst (λ p. Matches p bytes) parts matched)

pub stops_is_fault : (d : DesignOf) (rows : List Row) (bytes : List ℕ) (at byte : ℕ) → IsShownOf d rows → at ≡ length (trace d rows) → bytes ≡ trace d rows ++ drop at bytes
    → (length rows ≡ 0) ⊎ (at < length bytes) → Stops bytes at (cycle_pattern d (length rows)) byte → IsFault d bytes byte
stops_is_fault d rows bytes at byte fits place whole more stops =
    let j = length rows in
    let before = cycles_match d 0 rows fits in
    let later : FailsAt (cycles_pattern d j 1) (drop at bytes) stops.count = fails_first (cycle_pattern d j) [] (drop at bytes) stops.count stops.fails in
    let both = fails_later (cycles_pattern d 0 j) (cycles_pattern d j 1) (trace d rows) (drop at bytes) stops.count byte before later (omega (arith, stops.place, place)) in
    let fails : FailsAt (cycles_pattern d 0 (suc j)) bytes byte =
    subst (λ p. FailsAt p bytes byte) (sym (cycles_pattern_parts d 0 j 1 (suc j) j (omega arith) (omega arith)))
    (subst (λ (xs : List ℕ). FailsAt (cycles_pattern d 0 j ++ cycles_pattern d j 1) xs byte) (sym whole) both) in
    record {
      none = fails_is_no_trace d j at bytes byte fails (place ∙ matches_length (cycles_pattern d 0 j) (trace d rows) before) more;
      within = fails_within (cycles_pattern d 0 (suc j)) bytes byte fails;
      begins = match_begins d j (take byte bytes) (fails_goes_on (cycles_pattern d 0 (suc j)) bytes byte fails);
      longest = λ m. fails_is_longest d j bytes byte m fails;
    }
