-- There are fewer names than numbers for new ones.
use Rattle.std.proofs.Common.{◌≡◌, ◌⊎◌, inl, inr, ℕ, ◌+◌, ◌<◌, ◌≤◌, ◌^◌, List, length, map, Option, Some, Contains, ap, sym, ◌∙◌, arith}
use Rattle.std.specs.Prelude.{slice_get}
use Rattle.std.proofs.lemmas.Bool.{cases_lt}
use Rattle.std.proofs.lemmas.List.{length-append, length-map}
use Rattle.std.proofs.lemmas.Option.{slice_get_within}
use Rattle.indexmap.proofs.IndexTableLemmas.Probe.{pigeonhole}
use Rattle.design_core.specs.Shape.{WireOf, CellOf, DesignOf}
use Rattle.design_core.proofs.Lists.{place-from_Contains}
use Rattle.design_lower.specs.Lowering.{kept_name, names}
use Rattle.design_lower.proofs.Naming.{same-number}

module _ (d : DesignOf) (n : ℕ) (few : n ≤ 2 ^ 64) (named : (k : ℕ) → k < n → Contains (names d) (kept_name k)) where
  -- where the name with a number stands
  abbrev pub at : (k : ℕ) → (k < n) ⊎ (n ≤ k) → ℕ
  at k (inl lt) = (place-from_Contains (names d) (kept_name k) (named k lt)).0
  at k (inr le) = 0

  at-is : (k : ℕ) (h : (k < n) ⊎ (n ≤ k)) → k < n → slice_get (names d) (at k h) ≡ Some (kept_name k)
  at-is k (inl lt) less = (place-from_Contains (names d) (kept_name k) (named k lt)).1
  at-is k (inr le) less = absurd (omega (arith, le, less))

  abbrev pub place : ℕ → ℕ
  place k = at k (cases_lt k n)

  into : (k : ℕ) → k < n → place k < length (names d)
  into k lt = slice_get_within (names d) (place k) (kept_name k) (at-is k (cases_lt k n) lt)

  one : (j k : ℕ) → j < n → k < n → place j ≡ place k → j ≡ k
  one j k hj hk e =
      let a : slice_get (names d) (place k) ≡ Some (kept_name j) = ap (λ (p : ℕ). slice_get (names d) p) (sym e) ∙ at-is j (cases_lt j n) hj in
      let b : ◌≡◌ {A = Option (List ℕ)} (Some (kept_name j)) (Some (kept_name k)) = sym a ∙ at-is k (cases_lt k n) hk in
      let same : kept_name j ≡ kept_name k = cc in
      same-number j k (omega (arith, hj, few)) (omega (arith, hk, few)) same

  -- this many numbers, with each of which there is a name, are no more than wires and cells
  pub numbers-named : n ≤ length d.wires + length d.cells
  numbers-named =
      let wires = length-map d.wires (λ (w : WireOf). w.name) in
      let cells = length-map d.cells (λ (c : CellOf). c.name) in
      let both = length-append (map (λ (w : WireOf). w.name) d.wires) (map (λ (c : CellOf). c.name) d.cells) in
      let most = pigeonhole n (length (names d)) place into one in
      omega (arith, most, both, wires, cells)
