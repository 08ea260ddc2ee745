-- How a word is read from the left.
use Rattle.std.proofs.Common.{◌≡◌, ℕ, ◌+◌, List, [], ◌∷◌, ◌++◌, length, Result, Ok, Err, refl, ap, ◌∙◌, arith}
use Rattle.cert_stream.specs.Scan.{Scanned, Reads, Misfit, shift, scan_by}
use Rattle.cert_stream.specs.declared.mode.ParseFaultKind.{ParseFaultKind}

module _ {A : Type 0} where
  -- reading goes on where it was
  pub shift_shift : (n m : ℕ) (s : Scanned A) → shift n (shift m s) ≡ shift (n + m) s
  shift_shift n m (Reads part) = refl
  shift_shift n m (Misfit k i) = ap (Misfit k) (omega arith)

  shift_none : (s : Scanned A) → s ≡ shift 0 s
  shift_none (Reads part) = refl
  shift_none (Misfit k i) = ap (Misfit k) (omega arith)

  pub unshift : (s : Scanned A) (to : A) → shift 1 s ≡ Reads to → s ≡ Reads to
  unshift (Reads x) to q = q
  unshift (Misfit k n) to q = cc

  same_read : (from to : A) → (let s : Scanned A = Reads from in s) ≡ Reads to → from ≡ to
  same_read from to e = cc

  module _ (next : A → ℕ → Result A ParseFaultKind) where
    abbrev on : Result A ParseFaultKind → List ℕ → Scanned A
    on r u = elim r as (λ _. Scanned A) [ Ok x ↦ shift 1 (scan_by next x u) | Err k ↦ Misfit k 0 ]

    pub scan_append : (from to : A) (p u : List ℕ) → scan_by next from p ≡ Reads to → scan_by next from (p ++ u) ≡ shift (length p) (scan_by next to u)
    scan_append from to [] u e = ap (λ z. scan_by next z u) (same_read from to e) ∙ shift_none (scan_by next to u)
    scan_append from to (b ∷ p) u e = step (λ x q. scan_append x to p u q) (next from b) e
      where
        step : ((x : A) → scan_by next x p ≡ Reads to → scan_by next x (p ++ u) ≡ shift (length p) (scan_by next to u)) → (r : Result A ParseFaultKind)
            → on r p ≡ Reads to → on r (p ++ u) ≡ shift (length (b ∷ p)) (scan_by next to u)
        step again (Err k) h = cc
        step again (Ok x) h =
            ap (shift 1) (again x (unshift (scan_by next x p) to h))
            ∙ shift_shift 1 (length p) (scan_by next to u) ∙ ap (λ n. shift n (scan_by next to u)) (omega arith)

    -- one byte more
    pub scan_more : (from part to : A) (p : List ℕ) (b : ℕ) → scan_by next from p ≡ Reads part → next part b ≡ Ok to → scan_by next from (p ++ b ∷ []) ≡ Reads to
    scan_more from part to p b e x = scan_append from part p (b ∷ []) e ∙ ap (λ r. shift (length p) (on r [])) x

    -- no word goes on after a byte that doesn't fit
    pub scan_bad : (from part : A) (p : List ℕ) (b : ℕ) (u : List ℕ) (k : ParseFaultKind) → scan_by next from p ≡ Reads part → next part b ≡ Err k
        → scan_by next from (p ++ b ∷ u) ≡ Misfit k (length p)
    scan_bad from part p b u k e x = scan_append from part p (b ∷ u) e ∙ ap (λ r. shift (length p) (on r u)) x ∙ ap (Misfit k) (omega arith)
