-- Chains that get a clause.
use Rattle.std.proofs.Common.{◌≡◌, ◌≢◌, ℕ, ◌+◌, ◌-◌, ◌%◌, ◌<◌, ◌≤◌, List, [], ◌∷◌, ◌++◌, length, get_or, set, take, length-take, refl, sym, ◌∙◌, ap, subst, inl, inr, arith, zero, suc}
use Rattle.std.proofs.lemmas.Bool.{cases_eq, cases_lt}
use Rattle.std.proofs.lemmas.List.{get_or-set_same, get_or-set_other, get_or-take, get_or_past, length-set}
use Rattle.drup_check.specs.Copies.{CopiesOf, AreChains, Holds, beginning, after}

-- nothing is after the end
pub after_end : (nexts : List ℕ) → ((k : ℕ) → get_or nexts k 0 ≤ k) → (n : ℕ) → after nexts 0 n ≡ 0
after_end nexts falls zero = refl
after_end nexts falls (suc n) =
    let e : get_or nexts (0 - 1) 0 ≡ 0 = omega (arith, falls (0 - 1)) in
    ap (λ a. after nexts a n) e ∙ after_end nexts falls n

-- what is further on a chain is further on from the next link
pub step : (nexts : List ℕ) (at k n : ℕ) → after nexts at n ≡ k + 1 → (at - 1 ≡ k → ⊥) → (m : ℕ) × (after nexts (get_or nexts (at - 1) 0) m ≡ k + 1)
step nexts at k zero e d = absurd (d (omega (arith, e)))
step nexts at k (suc n) e d = (n, e)

-- a place more changes no link
read_push : (nexts : List ℕ) (i : ℕ) → get_or (nexts ++ 0 ∷ []) i 0 ≡ get_or nexts i 0
read_push [] zero = refl
read_push [] (suc i) = refl
read_push (x ∷ xs) zero = refl
read_push (x ∷ xs) (suc i) = read_push xs i

after_push : (nexts : List ℕ) (n at : ℕ) → after (nexts ++ 0 ∷ []) at n ≡ after nexts at n
after_push nexts zero at = refl
after_push nexts (suc n) at = ap (λ a. after (nexts ++ 0 ∷ []) a n) (read_push nexts (at - 1)) ∙ after_push nexts n (get_or nexts (at - 1) 0)

pub holds_push : (t t' : CopiesOf) → t' ≡ record t { nexts = t.nexts ++ 0 ∷ [] } → (h k : ℕ) → Holds t h k → Holds t' h k
holds_push t t' e h k s = subst (λ (z : CopiesOf). Holds z h k) (sym e) (record { steps = s.steps; there = after_push t.nexts s.steps (beginning t.firsts h) ∙ s.there })

-- the clause k enters the chain at a place
module _ (firsts nexts : List ℕ) (count k i : ℕ) (a : AreChains firsts nexts count) (counted : count ≤ k) (place : k < length nexts) (room : i < length firsts) (v : ℕ) (is : v ≡ get_or firsts i 0) where
  low : v ≤ k
  low = omega (arith, is, a.below i, counted)

  -- no link below leads to the clause
  after_low : (n at : ℕ) → at ≤ k → after (set nexts k v) at n ≡ after nexts at n
  after_low zero at h = refl
  after_low (suc n) at h = elim (cases_eq (at - 1) k) [
    | inl e ↦
        let z : at ≡ 0 = omega (arith, e, h) in
        let y : k ≡ 0 = omega (arith, e, h) in
        let f : get_or (set nexts k v) (at - 1) 0 ≡ 0 = ap (λ n. get_or (set nexts k v) n 0) e ∙ get_or-set_same nexts k v 0 place ∙ (omega (arith, low, y)) in
        let g : get_or nexts (at - 1) 0 ≡ 0 = omega (arith, a.falls (at - 1), z) in
        ap (λ m. after (set nexts k v) m n) (f ∙ sym g) ∙ after_low n (get_or nexts (at - 1) 0) (omega (arith, g))
    | inr d ↦
        ap (λ m. after (set nexts k v) m n) (get_or-set_other nexts k (at - 1) v 0 d) ∙ after_low n (get_or nexts (at - 1) 0) (omega (arith, h, a.falls (at - 1)))
  ]

  abbrev old : CopiesOf
  old = record { firsts = firsts; nexts = nexts; count = count }

  abbrev new : CopiesOf
  new = record { firsts = set firsts i (k + 1); nexts = set nexts k v; count = k + 1 }

  size : length (set firsts i (k + 1)) ≡ length firsts
  size = length-set firsts i (k + 1)

  -- the chain of a weight begins with the clause now, or as before
  first_here : (h : ℕ) → h % length firsts ≡ i → beginning (set firsts i (k + 1)) h ≡ k + 1
  first_here h e = ap (λ n. get_or (set firsts i (k + 1)) (h % n) 0) size ∙ ap (λ n. get_or (set firsts i (k + 1)) n 0) e ∙ get_or-set_same firsts i (k + 1) 0 room

  first_other : (h : ℕ) → h % length firsts ≢ i → beginning (set firsts i (k + 1)) h ≡ beginning firsts h
  first_other h d = ap (λ n. get_or (set firsts i (k + 1)) (h % n) 0) size ∙ get_or-set_other firsts i (h % length firsts) (k + 1) 0 d

  back : get_or (set nexts k v) (k + 1 - 1) 0 ≡ v
  back = let e : k + 1 - 1 ≡ k = omega arith in ap (λ n. get_or (set nexts k v) n 0) e ∙ get_or-set_same nexts k v 0 place

  pub enter_keeps : (h j : ℕ) → Holds old h j → Holds new h j
  enter_keeps h j s = elim (cases_eq (h % length firsts) i) [
    | inl e ↦ record {
      steps = suc s.steps;
      there = ap (λ m. after (set nexts k v) (get_or (set nexts k v) (m - 1) 0) s.steps) (first_here h e)
          ∙ ap (λ m. after (set nexts k v) m s.steps) (back ∙ is ∙ ap (λ n. get_or firsts n 0) (sym e)) ∙ after_low s.steps (beginning firsts h) (omega (arith, a.below (h % length firsts), counted)) ∙ s.there;
    }
    | inr d ↦ record {
      steps = s.steps;
      there = ap (λ m. after (set nexts k v) m s.steps) (first_other h d) ∙ after_low s.steps (beginning firsts h) (omega (arith, a.below (h % length firsts), counted)) ∙ s.there;
    }
  ]

-- no chain has a clause
pub cleared_more : (firsts : List ℕ) (k : ℕ) → k < length firsts → ((i : ℕ) → i < k → get_or firsts i 0 ≡ 0) → (i : ℕ) → i < k + 1 → get_or (set firsts k 0) i 0 ≡ 0
cleared_more firsts k room all i h =
    elim (cases_eq i k) [
      | inl e ↦ ap (λ n. get_or (set firsts k 0) n 0) e ∙ get_or-set_same firsts k 0 0 room
      | inr ne ↦ get_or-set_other firsts k i 0 0 ne ∙ all i (omega (arith, h, ne))
    ]

pub chains_cleared : (firsts nexts : List ℕ) (k n : ℕ) → 0 < length firsts → length firsts ≤ k → ((i : ℕ) → i < k → get_or firsts i 0 ≡ 0) → ((i : ℕ) → get_or nexts i 0 ≤ i) → AreChains firsts (take n nexts) 0
chains_cleared firsts nexts k n some past all falls = record {
  some = some;
  below = λ i. elim (cases_lt i (length firsts)) [ inl h ↦ omega (arith, all i (omega (arith, h, past))) | inr h ↦ omega (arith, get_or_past firsts i 0 h) ];
  falls = λ i. elim (cases_lt i (length (take n nexts))) [
    | inl h ↦ subst (λ z. z ≤ i) (sym (get_or-take n nexts i 0 (omega (arith, h, length-take n nexts)))) (falls i)
    | inr h ↦ omega (arith, get_or_past (take n nexts) i 0 h)
  ];
}

-- the clause k is taken off after the clause b, whose link leads to it
module _ (nexts : List ℕ) (falls : (i : ℕ) → get_or nexts i 0 ≤ i) (b k : ℕ) (place : b < length nexts) (there : get_or nexts b 0 ≡ k + 1) where
  abbrev without : List ℕ
  without = set nexts b (get_or nexts k 0)

  -- what is ahead of a link, but for the clause, stays ahead of it
  pub ahead_without : (n at j : ℕ) → j ≢ k → after nexts at n ≡ j + 1 → (m : ℕ) × (after without at m ≡ j + 1)
  ahead_without zero at j ne e = (0, e)
  ahead_without (suc zero) at j ne e = elim (cases_eq (at - 1) b) [
    | inl s ↦ absurd (ne (omega (arith, e, ap (λ z. get_or nexts z 0) s, there)))
    | inr d ↦ (1, get_or-set_other nexts b (at - 1) (get_or nexts k 0) 0 d ∙ e)
  ]
  ahead_without (suc (suc n)) at j ne e = elim (cases_eq (at - 1) b) [
    | inl s ↦
        let f : get_or nexts (at - 1) 0 - 1 ≡ k = omega (arith, ap (λ z. get_or nexts z 0) s, there) in
        let w = ahead_without n (get_or nexts k 0) j ne (subst (λ z. after nexts (get_or nexts z 0) n ≡ j + 1) f e) in
        let g : get_or without (at - 1) 0 ≡ get_or nexts k 0 = ap (λ z. get_or without z 0) s ∙ get_or-set_same nexts b (get_or nexts k 0) 0 place in
        (suc w.0, ap (λ z. after without z w.0) g ∙ w.1)
    | inr d ↦
        let w = ahead_without (suc n) (get_or nexts (at - 1) 0) j ne e in
        (suc w.0, ap (λ z. after without z w.0) (get_or-set_other nexts b (at - 1) (get_or nexts k 0) 0 d) ∙ w.1)
  ]

  pub falls_without : (i : ℕ) → get_or without i 0 ≤ i
  falls_without i = elim (cases_eq i b) [
    | inl e ↦ omega (arith, e, ap (λ z. get_or without z 0) e ∙ get_or-set_same nexts b (get_or nexts k 0) 0 place, falls k, falls b, there)
    | inr d ↦ omega (arith, get_or-set_other nexts b i (get_or nexts k 0) 0 d, falls i)
  ]

-- the clause k is taken off the beginning of the chain at a place
module _ (firsts nexts : List ℕ) (i k : ℕ) (room : i < length firsts) (there : get_or firsts i 0 ≡ k + 1) where
  abbrev begun : List ℕ
  begun = set firsts i (get_or nexts k 0)

  pub keeps_begun : (count h j : ℕ) → j ≢ k → Holds (record { firsts = firsts; nexts = nexts; count = count }) h j → Holds (record { firsts = begun; nexts = nexts; count = count }) h j
  keeps_begun count h j ne s = elim (cases_eq (h % length firsts) i) [
    | inl e ↦ moved s.steps e (ap (λ z. after nexts (get_or firsts z 0) s.steps) (sym e) ∙ s.there)
    | inr d ↦ record { steps = s.steps; there = ap (λ z. after nexts z s.steps) (other d) ∙ s.there }
  ]
    where
      size : length begun ≡ length firsts
      size = length-set firsts i (get_or nexts k 0)

      other : h % length firsts ≢ i → beginning begun h ≡ beginning firsts h
      other d = ap (λ n. get_or begun (h % n) 0) size ∙ get_or-set_other firsts i (h % length firsts) (get_or nexts k 0) 0 d

      here : h % length firsts ≡ i → beginning begun h ≡ get_or nexts k 0
      here e = ap (λ n. get_or begun (h % n) 0) size ∙ ap (λ n. get_or begun n 0) e ∙ get_or-set_same firsts i (get_or nexts k 0) 0 room

      moved : (n : ℕ) → h % length firsts ≡ i → after nexts (get_or firsts i 0) n ≡ j + 1 → Holds (record { firsts = begun; nexts = nexts; count = count }) h j
      moved zero e f = absurd (ne (omega (arith, f, there)))
      moved (suc n) e f =
          let g : get_or firsts i 0 - 1 ≡ k = omega (arith, there) in
          record { steps = n; there = ap (λ z. after nexts z n) (here e) ∙ ap (λ z. after nexts (get_or nexts z 0) n) (sym g) ∙ f }

  pub below_begun : (count : ℕ) → ((a : ℕ) → get_or firsts a 0 ≤ count) → get_or nexts k 0 ≤ k → (a : ℕ) → get_or begun a 0 ≤ count
  below_begun count below falls a = elim (cases_eq a i) [
    | inl e ↦ omega (arith, ap (λ z. get_or begun z 0) e ∙ get_or-set_same firsts i (get_or nexts k 0) 0 room, falls, below i, there)
    | inr d ↦ omega (arith, get_or-set_other firsts i a (get_or nexts k 0) 0 d, below a)
  ]

-- a link leads on from an entry alone
pub entry_of : (xs : List ℕ) (i k : ℕ) → get_or xs i 0 ≡ k + 1 → i < length xs
entry_of xs i k e = elim (cases_lt i (length xs)) [ inl h ↦ h | inr h ↦ absurd (omega (arith, e, get_or_past xs i 0 h)) ]
