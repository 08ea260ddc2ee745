-- Where the free variables of a slice stand in its model.
use Rattle.std.proofs.Common.{◌≡◌, ℕ, zero, suc, ◌<◌, Bool, true, false, List, [], ◌∷◌, Some, length, map, refl, sym, ap, subst, ◌∙◌, arith}
use Rattle.std.specs.Prelude.{Contains, slice_get}
use Rattle.cnf_form.specs.Cnf.{Assignment, Satisfies}
use Rattle.job_terms.specs.First.{First as Begin, open_at}
use Rattle.job_terms.specs.First.First.{Start, Any}
use Rattle.sby_bits.specs.Rows.{Row}
use Rattle.model_core.specs.Choices.{AreChoicesFor, ChoicesOf, Plays, open_states}
use Rattle.model_core.specs.Meaning.{Cycle}
use Rattle.model_core.specs.Served.{IsModel}
use Rattle.model_core.specs.Shape.{ModelOf, states}
use Rattle.model_core.proofs.Lists.{all_at, all_from, at_place, place_of_contained}
use Rattle.sby_terms.specs.declared.names.JobName.{JobName}
use Rattle.sby_terms.specs.declared.names.JobName.TheVariants.{Step}
use Rattle.sby_terms.specs.declared.span.Span.{Span}
use Rattle.job_terms.specs.Encoding.{EncodedOf, HasOrigins, HasValue, IsOpenIn, IsOrigin, Origin, decoded}
use Rattle.job_terms.specs.Encoding.Origin.{First, Input}
use Rattle.job_terms.specs.Jobs.{first}
use Rattle.model_cone.specs.Cone.{IsCone, IsInCone}
use Rattle.model_cone.specs.Slice.{sliced}
use Rattle.model_cone.proofs.Digits.{filter-contained, row-bit}
use Rattle.model_cone.proofs.Slicing.{filter-contains, slice-states}
use Rattle.task_net.specs.Asking.{HasOriginsInCone, asked_of, place_of}
use Rattle.task_net.specs.Spreading.{spread_bits, spread_choices, spread_decoding}
use Rattle.task_net.proofs.Playing.{cycles-same, open-kept, played, played-kept, played-plays, spread-decoded}

-- a place that isn't kept is 0 in a row that is spread
spread-out : (keep : ℕ → Bool) (ps : List ℕ) (row : Row) (k p : ℕ) → slice_get ps k ≡ Some p → keep p ≡ false → slice_get (spread_bits (map keep ps) row) k ≡ Some false
spread-out keep [] row k p e h = absurd cc
spread-out keep (q ∷ ps) row zero p e h =
    let same : q ≡ p = cc in
    let here : keep q ≡ false = subst (λ (z : ℕ). keep z ≡ false) (sym same) h in
    rw here refl
spread-out keep (q ∷ ps) row (suc k) p e h = by (keep q) row (λ r. spread-out keep ps r k p e h)
  where
    by : (b : Bool) (row : Row) → ((r : Row) → slice_get (spread_bits (map keep ps) r) k ≡ Some false) → slice_get (spread_bits (b ∷ map keep ps) row) (suc k) ≡ Some false
    by false row rest = rest row
    by true [] rest = rest []
    by true (b ∷ row) rest = rest row

module _ (m : ModelOf) (is : IsModel m) (keep : ℕ → Bool) (iss : IsModel (sliced keep m)) (job : JobName) (span : Span) (cone : IsCone m (asked_of job) keep) where
  open-of : (f : Begin) (p : ℕ) → Contains (open_at f (sliced keep m)) p → Contains (open_at f m) p × (keep p ≡ true)
  open-of Start p c = filter-contained keep (open_states m) p (subst (λ (ps : List ℕ). Contains ps p) (open-kept keep m) c)
  open-of Any p c = filter-contained keep (states m) p (subst (λ (ps : List ℕ). Contains ps p) (slice-states keep m) c)

  origin-of : (o : Origin) → IsOrigin (sliced keep m) job span o → IsOrigin m job span o × (keep (place_of o) ≡ true)
  origin-of (First p) h = open-of (first job) p h
  origin-of (Input t p) h = let r = filter-contained keep m.inputs p h.1 in ((h.0, r.0), r.1)

  module _ (starts inputs : List Bool) (es : starts ≡ map keep (open_states m)) (ei : inputs ≡ map keep m.inputs) (k : EncodedOf) where
    abbrev pub whole-of : EncodedOf
    whole-of = record { formula = k.formula; free_vars = k.free_vars; decoding = spread_decoding starts inputs k.decoding }

    pub decoded-of : (x : Assignment) → decoded whole-of x ≡ spread_choices (map keep (open_states m)) (map keep m.inputs) (decoded k x)
    decoded-of x = spread-decoded starts inputs k.decoding x ∙ rw (es, ei) refl

    module _ (x : Assignment) (fit : AreChoicesFor (sliced keep m) (decoded k x)) (cs : ℕ → Cycle) (p : Plays m (decoded whole-of x) cs) where
      run-cycles : length (decoded whole-of x).inputs ≡ length (decoded k x).inputs
      run-cycles = cycles-same m is keep iss job cone (decoded k x) (decoded whole-of x) (decoded-of x) fit

      abbrev run-played : ℕ → Cycle
      run-played = played m is keep iss job cone (decoded k x) (decoded whole-of x) (decoded-of x) fit cs p

      value-back : (o : Origin) (z : Bool) → keep (place_of o) ≡ true → HasValue run-played (length (decoded k x).inputs) o z → HasValue cs (length (decoded whole-of x).inputs) o z
      value-back (First q) z h v = played-kept m is keep iss job cone (decoded k x) (decoded whole-of x) (decoded-of x) fit cs p 0 p.run.window.some q h ∙ v
      value-back (Input t q) z h v = λ (l : t < length (decoded whole-of x).inputs). (let s = run-cycles in played-kept m is keep iss job cone (decoded k x) (decoded whole-of x) (decoded-of x) fit cs p t l q h ∙ v (omega arith))

      open-too : (o : Origin) → keep (place_of o) ≡ true → IsOpenIn m (length (decoded whole-of x).inputs) o → IsOpenIn (sliced keep m) (length (decoded k x).inputs) o
      open-too (First q) h c = subst (λ (ps : List ℕ). Contains ps q) (sym (open-kept keep m)) (filter-contains keep (open_states m) q c h)
      open-too (Input t q) h c = (let s = run-cycles in let l = c.0 in omega arith, filter-contains keep m.inputs q c.1 h)

      value-out : (o : Origin) → keep (place_of o) ≡ false → IsOpenIn m (length (decoded whole-of x).inputs) o → HasValue cs (length (decoded whole-of x).inputs) o false
      value-out (First q) h c =
          let at = place_of_contained (open_states m) q c in
          row-bit (cs 0) (open_states m) (spread_bits (map keep (open_states m)) (decoded k x).starts) at.0 q false (p.starts ∙ ap (λ (k : ChoicesOf). k.starts) (decoded-of x)) at.1
          (spread-out keep (open_states m) (decoded k x).starts at.0 q at.1 h)
      value-out (Input t q) h c = λ (l : t < length (decoded whole-of x).inputs).
          let at = place_of_contained m.inputs q c.1 in
          let s = run-cycles in
          let row = at_place (decoded k x).inputs t (omega arith) in
          let rows : (decoded whole-of x).inputs ≡ map (spread_bits (map keep m.inputs)) (decoded k x).inputs = ap (λ (k : ChoicesOf). k.inputs) (decoded-of x) in
          let here : slice_get (decoded whole-of x).inputs t ≡ Some (spread_bits (map keep m.inputs) row.0) =
          ap (λ (rs : List Row). slice_get rs t) rows ∙ mapped (spread_bits (map keep m.inputs)) (decoded k x).inputs t row.0 row.1 in
          row-bit (cs t) m.inputs (spread_bits (map keep m.inputs) row.0) at.0 q false (p.inputs t (spread_bits (map keep m.inputs) row.0) here) at.1 (spread-out keep m.inputs row.0 at.0 q at.1 h)
        where
          mapped : (f : Row → Row) (rows : List Row) (t : ℕ) (row : Row) → slice_get rows t ≡ Some row → slice_get (map f rows) t ≡ Some (f row)
          mapped f [] t row e = absurd cc
          mapped f (r ∷ rows) zero row e = let same : r ≡ row = cc in ap (λ (z : Row). Some (f z)) same
          mapped f (r ∷ rows) (suc t) row e = mapped f rows t row e

    pub origins-too : ((job ≡ Step → ⊥) → (x : Assignment) → AreChoicesFor (sliced keep m) (decoded k x)) → HasOrigins (sliced keep m) job span k → HasOriginsInCone m job span whole-of
    origins-too fit h = record {
      has = record {
        distinct = h.distinct;
        within = h.within;
        origins = h.origins;
        each = h.each;
        apart = h.apart;
        free = all_from (IsOrigin m job span) h.origins (λ i o e. (origin-of o (all_at (IsOrigin (sliced keep m) job span) h.origins i o h.free e)).0);
        values = λ base x sat cs p i v o ev eo.
            value-back x (fit base x) cs p o (x v) (origin-of o (all_at (IsOrigin (sliced keep m) job span) h.origins i o h.free eo)).1
            (h.values base x sat (run-played x (fit base x) cs p) (by-played x (fit base x) cs p) i v o ev eo);
        rest = λ base x sat cs p o free out. by-kept base x sat cs p o free out (keep (place_of o)) refl;
      };
      cone = all_from (λ o. IsInCone m (asked_of job) (place_of o)) h.origins
          (λ i o e. (cone (place_of o)).0 (origin-of o (all_at (IsOrigin (sliced keep m) job span) h.origins i o h.free e)).1);
    }
      where
        by-played : (x : Assignment) (f : AreChoicesFor (sliced keep m) (decoded k x)) (cs : ℕ → Cycle) (p : Plays m (decoded whole-of x) cs) → Plays (sliced keep m) (decoded k x) (run-played x f cs p)
        by-played x f cs p = played-plays m is keep iss job cone (decoded k x) (decoded whole-of x) (decoded-of x) f cs p

        by-kept : (base : job ≡ Step → ⊥) (x : Assignment) → Satisfies x k.formula.clauses → (cs : ℕ → Cycle) (p : Plays m (decoded whole-of x) cs) (o : Origin) → IsOpenIn m (length (decoded whole-of x).inputs) o
            → (Contains h.origins o → ⊥) → (b : Bool) → keep (place_of o) ≡ b → HasValue cs (length (decoded whole-of x).inputs) o false
        by-kept base x sat cs p o free out true e =
            value-back x (fit base x) cs p o false e (h.rest base x sat (run-played x (fit base x) cs p) (by-played x (fit base x) cs p) o (open-too x (fit base x) cs p o e free) out)
        by-kept base x sat cs p o free out false e = value-out x (fit base x) cs p o e free
