-- Lines of a model, found by halving.
use Rattle.std.proofs.Common.{◌≡◌, ◌≢◌, ◌⊎◌, ℕ, suc, zero, ◌<◌, ◌≤◌, List, [], ◌∷◌, ◌++◌, Ok, Err, Some, ◌-◌, ltb, length, get_or, take, drop, refl, sym, ap, ◌∙◌, subst, inl, inr, arith}
use Rattle.std.specs.Prelude.{◌↔◌, All, IsTrue, slice_get}
use Rattle.std.proofs.lemmas.Option.{get_or_from_slice_get}
use Rattle.btor_text.specs.Find.{IsSized}
use Rattle.btor_text.proofs.Sized.{all_sized}
use Rattle.std.specs.List.Sorted.{IsBinarySearchResult, IsNonDecreasingBy}
use Rattle.std.specs.Ordering.{nat_cmp, ordering_index}
use Rattle.std.proofs.Math.Seq.{drop-cons}
use Rattle.std.proofs.lemmas.Bool.Decides.{nat_tests}
use Rattle.std.proofs.lemmas.Cmp.{ranked}
use Rattle.std.proofs.lemmas.List.{get_or-take, length-take, take-append-drop}
use Rattle.std.proofs.lemmas.List.Elements.{All-from_get_or, All-get_or, All-head, All-tail}
use Rattle.std.proofs.lemmas.List.Sorted.{IsNonDecreasingBy-from_default}
use Rattle.btor_core.specs.declared.line.Body.{Body}
use Rattle.btor_core.specs.declared.line.Body.TheVariants as body
use Rattle.btor_core.specs.declared.line.Line.{Line}
use Rattle.btor_core.specs.Fits.{IsBtor}
use Rattle.btor_core.specs.Shape.{BtorOf, at_nid}
use Rattle.btor_core.proofs.Reading.{at_new, same_nid}

at_or_below : (i j : ℕ) → i ≤ j → (i < j) ⊎ (i ≡ j)
at_or_below zero zero h = inr refl
at_or_below zero (suc j) h = inl (omega arith)
at_or_below (suc i) zero h = absurd (omega arith)
at_or_below (suc i) (suc j) h = elim (at_or_below i j (omega arith)) as (λ _. (suc i < suc j) ⊎ (suc i ≡ suc j)) [
  | inl lt ↦ inl (omega arith)
  | inr e ↦ inr (ap (λ (k : ℕ). suc k) e)
]

-- a list is what stands before a place, what stands there, and the rest
split_at : (ls : List Line) (k : ℕ) (d : Line) → k < length ls → ls ≡ take k ls ++ get_or ls k d ∷ drop (suc k) ls
split_at ls k d h = sym (take-append-drop k ls) ∙ ap (λ (r : List Line). take k ls ++ r) (drop-cons ls k d h)

module _ (m : BtorOf) (fits : IsBtor m) where
  before : (k : ℕ) (d : Line) → k < length m.lines → All (λ l. l.nid < (get_or m.lines k d).nid) (take k m.lines)
  before k d h = (fits.each (take k m.lines) (drop (suc k) m.lines) (get_or m.lines k d) (split_at m.lines k d h)).rises

  rising : (i j : ℕ) (d : Line) → i < j → j < length m.lines → (get_or m.lines i d).nid < (get_or m.lines j d).nid
  rising i j d lt h =
      let e = length-take j m.lines in
      let within : i < length (take j m.lines) = grind (arith, e, lt, h) in
      let below = All-get_or (λ (l : Line). l.nid < (get_or m.lines j d).nid) (take j m.lines) i d within (before j d h) in
      subst (λ (l : Line). l.nid < (get_or m.lines j d).nid) (get_or-take j m.lines i d lt) below

  comparisons_rise : (nid : ℕ) → IsNonDecreasingBy (λ l. ordering_index (nat_cmp l.nid nid)) m.lines
  comparisons_rise nid = IsNonDecreasingBy-from_default (λ l. ordering_index (nat_cmp l.nid nid)) m.lines (record { nid = 0; body = body.Bad 0 }) (λ i j le in_range.
      let up : (get_or m.lines i (record { nid = 0; body = body.Bad 0 })).nid ≤ (get_or m.lines j (record { nid = 0; body = body.Bad 0 })).nid = not_above i j le in_range in
      grind (arith, nat_tests))
    where
      not_above : (i j : ℕ) → i ≤ j → j < length m.lines → (get_or m.lines i (record { nid = 0; body = body.Bad 0 })).nid ≤ (get_or m.lines j (record { nid = 0; body = body.Bad 0 })).nid
      not_above i j le h = elim (at_or_below i j le) as (λ _. (get_or m.lines i (record { nid = 0; body = body.Bad 0 })).nid ≤ (get_or m.lines j (record { nid = 0; body = body.Bad 0 })).nid) [
        | inl lt ↦ let up = rising i j (record { nid = 0; body = body.Bad 0 }) lt h in omega (arith, up)
        | inr e ↦ let same = ap (λ (k : ℕ). (get_or m.lines k (record { nid = 0; body = body.Bad 0 })).nid) e in omega (arith, same)
      ]

  pub found_ok : (nid k : ℕ) → IsBinarySearchResult (λ l. nat_cmp l.nid nid) m.lines (Ok k) → k < length m.lines → (d : Line) → (get_or m.lines k d).nid ≡ nid
  found_ok nid k equal h d = ranked _ nid _ (sym (equal d))

  pub found_err : (nid k : ℕ) → IsBinarySearchResult (λ l. nat_cmp l.nid nid) m.lines (Err k) → k ≤ length m.lines → All (λ l. l.nid ≢ nid) m.lines
  found_err nid k parted h = All-from_get_or (λ (l : Line). l.nid ≢ nid) m.lines (record { nid = 0; body = body.Bad 0 }) (λ j in' same.
      let d : Line = record { nid = 0; body = body.Bad 0 } in
      let p = parted (comparisons_rise nid) in
      let low : j < k → (get_or m.lines j d).nid < nid = λ lt. ranked _ nid _ (sym (p.0 j d (omega (arith, lt)) lt)) in
      let high : k ≤ j → nid < (get_or m.lines j d).nid = λ le. ranked _ nid _ (sym (p.1 j d le in')) in
      grind (arith, low, high, same))

  pub read_there : (read : Body → ℕ) (k : ℕ) (d : Line) → k < length m.lines → at_nid read m.lines (get_or m.lines k d).nid ≡ read (get_or m.lines k d).body
  read_there read k d h =
      ap (λ (ls : List Line). at_nid read ls (get_or m.lines k d).nid) (split_at m.lines k d h) ∙ at_new read (take k m.lines) (drop (suc k) m.lines) (get_or m.lines k d) (before k d h)

  pub sized_there : (k : ℕ) (d : Line) → k < length m.lines → IsSized (get_or m.lines k d).body
  sized_there k d h = All-get_or (λ (l : Line). IsSized l.body) m.lines k d h (all_sized m fits)

  -- a number above the last line's is above those of all
  pub above_last : (last : Line) (nid : ℕ) → slice_get m.lines (length m.lines - 1) ≡ Some last → (IsTrue (ltb last.nid nid)) ↔ ((1 ≤ nid) × All (λ k. k.nid < nid) m.lines)
  above_last last nid there =
      let some : 0 < length m.lines = not_empty m.lines there in
      let d : Line = record { nid = 0; body = body.Bad 0 } in
      let is : get_or m.lines (length m.lines - 1) d ≡ last = get_or_from_slice_get m.lines (length m.lines - 1) last d there in
      let number : (get_or m.lines (length m.lines - 1) d).nid ≡ last.nid = ap (λ (l : Line). l.nid) is in (
        (λ less.
            let below : last.nid < nid = grind (arith, nat_tests, less) in
            (omega arith, All-from_get_or (λ (k : Line). k.nid < nid) m.lines d (λ j in'. below_last j d nid in' (omega arith)))),
        (λ all.
            let below : (get_or m.lines (length m.lines - 1) d).nid < nid = All-get_or (λ (k : Line). k.nid < nid) m.lines (length m.lines - 1) d (omega arith) all.1 in
            let less : last.nid < nid = omega arith in
            grind (arith, nat_tests, less)),
      )
    where
      not_empty : (ls : List Line) → slice_get ls (length ls - 1) ≡ Some last → 0 < length ls
      not_empty [] e = absurd (cc)
      not_empty (l ∷ ls) e = omega arith

      below_last : (j : ℕ) (d : Line) (n : ℕ) → j < length m.lines → (get_or m.lines (length m.lines - 1) d).nid < n → (get_or m.lines j d).nid < n
      below_last j d n in' h = elim (at_or_below j (length m.lines - 1) (omega arith)) as (λ _. (get_or m.lines j d).nid < n) [
        | inl lt ↦ let up = rising j (length m.lines - 1) d lt (omega arith) in omega arith
        | inr e ↦ let same = ap (λ (k : ℕ). (get_or m.lines k d).nid) e in omega arith
      ]

pub read_nowhere : (read : Body → ℕ) (ls : List Line) (nid : ℕ) → All (λ l. l.nid ≢ nid) ls → at_nid read ls nid ≡ 0
read_nowhere read [] nid h = refl
read_nowhere read (l ∷ ls) nid h =
    elim (same_nid l.nid nid) as (λ _. at_nid read (l ∷ ls) nid ≡ 0) [
      | inl p ↦ absurd (All-head (λ (x : Line). x.nid ≢ nid) l ls h p.0)
      | inr e ↦ rw e (read_nowhere read ls nid (All-tail (λ (x : Line). x.nid ≢ nid) l ls h))
    ]
