-- How often a mark stands.
use Rattle.std.proofs.Common.{◌≡◌, ℕ, zero, suc, ◌+◌, ◌<◌, Bool, true, false, cond, List, [], ◌∷◌, length, take, drop, get_or, eqb, refl, sym, ◌∙◌, ap, subst, inl, inr, arith}
use Rattle.std.proofs.lemmas.Bool.{cases_Bool, eqb-true, false≢true}
use Rattle.std.proofs.lemmas.Grind.{common_steps}
use Rattle.std.proofs.lemmas.List.{at_drop_more}
use Rattle.std.proofs.lemmas.Slice.Eq.{bytes_eq-Decides}
use Rattle.sby_terms.proofs.Numbers.{both_true}
use Rattle.sby_task.specs.Marks.{formula_mark, proof_mark, StandsAt, StandsIn, StandsOnce, HasMarks, begins, count_in, count, are_marked}
use Rattle.sby_task.proofs.RowsSaid.{none_some, some_same}

-- one byte more is looked at
pub count_more : (mark word : List ℕ) (i so_far next total : ℕ) (found : Bool) → i < length word → found ≡ begins mark (drop i word) → next ≡ so_far + cond found 1 0
    → so_far + count_in mark (drop i word) ≡ total → next + count_in mark (drop (i + 1) word) ≡ total
count_more mark word i so_far next total found h f n t =
    let head = at_drop_more (begins mark) word i 0 h in
    let more = at_drop_more (count_in mark) word i 0 h in
    let is : ◌≡◌ {A = ℕ} (cond (begins mark (get_or word i 0 ∷ drop (i + 1) word)) 1 0) (cond found 1 0) = ap (λ (b : Bool). cond b 1 0) (sym (f ∙ head)) in
    omega (arith, more, is, n, t)

no_part : (xs : List ℕ) (n i : ℕ) → length xs ≡ 0 → length (take n (drop i xs)) ≡ 0
no_part xs n i h = grind (arith, common_steps)

module _ (mark : List ℕ) (some : 0 < length mark) where
  nothing : (i : ℕ) → StandsAt mark [] i → ⊥
  nothing i s =
      let none = no_part [] (length mark) i refl in
      let all = ap length s in
      omega (arith, none, all, some)

  found_here : (word : List ℕ) → StandsAt mark word 0 → begins mark word ≡ true
  found_here word s = (bytes_eq-Decides mark (take (length mark) word)).1 (sym s)

  stands_here : (word : List ℕ) → begins mark word ≡ true → StandsAt mark word 0
  stands_here word y = sym ((bytes_eq-Decides mark (take (length mark) word)).0 y)

  -- one byte less
  behind_found : (b : ℕ) (bs : List ℕ) (n : ℕ) → begins mark (b ∷ bs) ≡ true → count_in mark (b ∷ bs) ≡ suc n → count_in mark bs ≡ n
  behind_found b bs n y h = let k : 1 + count_in mark bs ≡ suc n = rw y at h in omega (arith, k)

  behind_other : (b : ℕ) (bs : List ℕ) → begins mark (b ∷ bs) ≡ false → count_in mark (b ∷ bs) ≡ count_in mark bs
  behind_other b bs n = rw n (omega arith)

  none_in : (word : List ℕ) (i : ℕ) → count_in mark word ≡ 0 → StandsAt mark word i → ⊥
  none_in [] i h s = nothing i s
  none_in (b ∷ bs) zero h s = let k : 1 + count_in mark bs ≡ 0 = rw (found_here (b ∷ bs) s) at h in omega (arith, k)
  none_in (b ∷ bs) (suc i) h s = none_in bs i (omega (arith, h)) s

  some_in : (word : List ℕ) → 0 < count_in mark word → (i : ℕ) × StandsAt mark word i
  some_in [] h = absurd (omega (arith, h))
  some_in (b ∷ bs) h = elim (cases_Bool (begins mark (b ∷ bs))) as (λ _. (i : ℕ) × StandsAt mark (b ∷ bs) i) [
    | inl y ↦ (0, stands_here (b ∷ bs) y)
    | inr n ↦ let r = some_in bs (omega (arith, h, behind_other b bs n)) in (suc r.0, r.1)
  ]

  one_in : (word : List ℕ) (i j : ℕ) → count_in mark word ≡ 1 → StandsAt mark word i → StandsAt mark word j → i ≡ j
  one_in [] i j h s t = absurd (nothing i s)
  one_in (b ∷ bs) zero zero h s t = refl
  one_in (b ∷ bs) zero (suc j) h s t = absurd (none_in bs j (behind_found b bs 0 (found_here (b ∷ bs) s) h) t)
  one_in (b ∷ bs) (suc i) zero h s t = absurd (none_in bs i (behind_found b bs 0 (found_here (b ∷ bs) t) h) s)
  one_in (b ∷ bs) (suc i) (suc j) h s t = elim (cases_Bool (begins mark (b ∷ bs))) as (λ _. suc i ≡ suc j) [
    | inl y ↦ absurd (none_in bs i (behind_found b bs 0 y h) s)
    | inr n ↦ ap suc (one_in bs i j (sym (behind_other b bs n) ∙ h) s t)
  ]

  abbrev TwoIn : List ℕ → Type 0
  TwoIn word = (i : ℕ) × (j : ℕ) × StandsAt mark word i × StandsAt mark word j × (i ≡ j → ⊥)

  two_in : (word : List ℕ) → 1 < count_in mark word → TwoIn word
  two_in [] h = absurd (omega (arith, h))
  two_in (b ∷ bs) h = elim (cases_Bool (begins mark (b ∷ bs))) as (λ _. TwoIn (b ∷ bs)) [
    | inl y ↦
        let k : 1 < 1 + count_in mark bs = rw y at h in
        let r = some_in bs (omega (arith, k)) in
        (0, suc r.0, stands_here (b ∷ bs) y, r.1, λ e. omega (arith, e))
    | inr n ↦
        let r = two_in bs (omega (arith, h, behind_other b bs n)) in
        (suc r.0, suc r.1, r.2, r.3, λ e. r.4 (omega (arith, e)))
  ]

  -- the same over words
  first_in : (word : List ℕ) (words : List (List ℕ)) (i : ℕ) → StandsAt mark word i → StandsIn mark (word ∷ words) 0 i
  first_in word words i s = (word, refl, s)

  in_first : (word : List ℕ) (words : List (List ℕ)) (i : ℕ) → StandsIn mark (word ∷ words) 0 i → StandsAt mark word i
  in_first word words i (other, e, s) = subst (λ w. StandsAt mark w i) (sym (some_same word other e)) s

  none_over : (words : List (List ℕ)) (n i : ℕ) → count mark words ≡ 0 → StandsIn mark words n i → ⊥
  none_over [] n i h (word, e, s) = none_some word e
  none_over (word ∷ words) zero i h s = none_in word i (omega (arith, h)) (in_first word words i s)
  none_over (word ∷ words) (suc n) i h s = none_over words n i (omega (arith, h)) s

  some_over : (words : List (List ℕ)) → 0 < count mark words → (n : ℕ) × (i : ℕ) × StandsIn mark words n i
  some_over [] h = absurd (omega (arith, h))
  some_over (word ∷ words) h = by (some_over words) (count_in mark word) refl
    where
      by : (0 < count mark words → (n : ℕ) × (i : ℕ) × StandsIn mark words n i) → (k : ℕ) → count_in mark word ≡ k → (n : ℕ) × (i : ℕ) × StandsIn mark (word ∷ words) n i
      by later zero e = let r = later (omega (arith, h, e)) in (suc r.0, r.1, r.2)
      by later (suc k) e = let r = some_in word (omega (arith, e)) in (0, r.0, first_in word words r.0 r.1)

  abbrev Same : ℕ → ℕ → ℕ → ℕ → Type 0
  Same n i m j = (n ≡ m) × (i ≡ j)

  one_over : (words : List (List ℕ)) (n i m j : ℕ) → count mark words ≡ 1 → StandsIn mark words n i → StandsIn mark words m j → Same n i m j
  one_over [] n i m j h s t = absurd (none_some s.0 s.1)
  one_over (word ∷ words) n i m j h s t = by (λ n m. one_over words n i m j) (count_in mark word) refl n m s t
    where
      by : ((n m : ℕ) → count mark words ≡ 1 → StandsIn mark words n i → StandsIn mark words m j → Same n i m j) → (k : ℕ) → count_in mark word ≡ k → (n m : ℕ) → StandsIn mark (word ∷ words) n i → StandsIn mark (word ∷ words) m j → Same n i m j
      by later zero e zero m s t = absurd (none_in word i e (in_first word words i s))
      by later zero e (suc n) zero s t = absurd (none_in word j e (in_first word words j t))
      by later zero e (suc n) (suc m) s t = let r = later n m (omega (arith, h, e)) s t in (ap suc r.0, r.1)
      by later (suc k) e (suc n) m s t = absurd (none_over words n i (omega (arith, h, e)) s)
      by later (suc k) e zero (suc m) s t = absurd (none_over words m j (omega (arith, h, e)) t)
      by later (suc k) e zero zero s t = (refl, one_in word i j (omega (arith, h, e)) (in_first word words i s) (in_first word words j t))

  abbrev TwoOver : List (List ℕ) → Type 0
  TwoOver words = (n : ℕ) × (i : ℕ) × (m : ℕ) × (j : ℕ) × StandsIn mark words n i × StandsIn mark words m j × (Same n i m j → ⊥)

  two_over : (words : List (List ℕ)) → 1 < count mark words → TwoOver words
  two_over [] h = absurd (omega (arith, h))
  two_over (word ∷ words) h = by (two_over words) (count_in mark word) refl
    where
      by : (1 < count mark words → TwoOver words) → (k : ℕ) → count_in mark word ≡ k → TwoOver (word ∷ words)
      by later zero e =
          let r = later (omega (arith, h, e)) in
          (suc r.0, r.1, suc r.2, r.3, r.4, r.5, λ s. r.6 (omega (arith, s.0), s.1))
      by later (suc zero) e =
          let r = some_in word (omega (arith, e)) in
          let q = some_over words (omega (arith, h, e)) in
          (0, r.0, suc q.0, q.1, first_in word words r.0 r.1, q.2, λ s. omega (arith, s.0))
      by later (suc (suc k)) e =
          let r = two_in word (omega (arith, e)) in
          (0, r.0, 0, r.1, first_in word words r.0 r.2, first_in word words r.1 r.3, λ s. r.4 s.1)

  pub once : (words : List (List ℕ)) → count mark words ≡ 1 → StandsOnce mark words
  once words h = let r = some_over words (omega (arith, h)) in (r.0, r.1, r.2, λ n i s. one_over words n i r.0 r.1 h s r.2)

  pub counted : (words : List (List ℕ)) → StandsOnce mark words → count mark words ≡ 1
  counted words (n, i, s, only) = by (count mark words) refl
    where
      by : (k : ℕ) → count mark words ≡ k → count mark words ≡ 1
      by zero e = absurd (none_over words n i e s)
      by (suc zero) e = e
      by (suc (suc k)) e =
          let r = two_over words (omega (arith, e)) in
          let p = only r.0 r.1 r.4 in
          let q = only r.2 r.3 r.5 in
          absurd (r.6 (p.0 ∙ sym q.0, p.1 ∙ sym q.1))

pub marked : (words : List (List ℕ)) → are_marked words ≡ true → HasMarks words
marked words h =
    let p = both_true (eqb (count formula_mark words) 1) (eqb (count proof_mark words) 1) h in
    (once formula_mark (omega arith) words (eqb-true (count formula_mark words) 1 p.0), once proof_mark (omega arith) words (eqb-true (count proof_mark words) 1 p.1))

pub unmarked : (words : List (List ℕ)) → are_marked words ≡ false → HasMarks words → ⊥
unmarked words h (f, p) =
    let a = counted formula_mark (omega arith) words f in
    let b = counted proof_mark (omega arith) words p in
    let all : are_marked words ≡ true = rw (a, b) refl in
    false≢true (sym h ∙ all)
