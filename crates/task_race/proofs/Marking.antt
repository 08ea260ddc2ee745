-- The place of a mark in a word.
use Rattle.std.proofs.Common.{◌≡◌, ◌≢◌, ℕ, zero, suc, ◌+◌, ◌<◌, ◌≤◌, Bool, true, false, cond, List, [], ◌∷◌, ◌++◌, length, take, drop, Option, Some, None, refl, sym, ap, subst, ◌∙◌, inl, inr, arith}
use Rattle.std.specs.Prelude.{MatchOption, option_map}
use Rattle.std.proofs.lemmas.Bool.{cases_Bool}
use Rattle.std.proofs.lemmas.List.{length-append}
use Rattle.std.proofs.lemmas.Slice.Eq.{bytes_eq-Decides}
use Rattle.task_race.specs.Words.{begins, parted}
use denote.Ref.{Bor}

front_of : (mark rest : List ℕ) → take (length mark) (mark ++ rest) ≡ mark
front_of [] rest = refl
front_of (b ∷ bs) rest = ap (λ z. b ∷ z) (front_of bs rest)

whole_of : (n : ℕ) (word : List ℕ) → take n word ++ drop n word ≡ word
whole_of zero word = refl
whole_of (suc n) [] = refl
whole_of (suc n) (b ∷ bs) = ap (λ z. b ∷ z) (whole_of n bs)

-- the mark doesn't stand in the word at this place
abbrev pub Lacks : List ℕ → List ℕ → ℕ → Type 0
Lacks mark word i = (rest : List ℕ) → drop i word ≢ mark ++ rest

module _ (mark : List ℕ) (some : 0 < length mark) where
  begins_so : (word rest : List ℕ) → word ≡ mark ++ rest → begins mark word ≡ true
  begins_so word rest is = (bytes_eq-Decides mark (take (length mark) word)).1 (sym (ap (take (length mark)) is ∙ front_of mark rest))

  begins_not : (word : List ℕ) → Lacks mark word 0 → begins mark word ≡ false
  begins_not word lacks = elim (cases_Bool (begins mark word)) as (λ _. begins mark word ≡ false) [
    | inl y ↦
        let e : mark ≡ take (length mark) word = (bytes_eq-Decides mark (take (length mark) word)).0 y in
        absurd (lacks (drop (length mark) word) (sym (ap (λ z. z ++ drop (length mark) word) e ∙ whole_of (length mark) word)))
    | inr n ↦ n
  ]

  abbrev Parts : Type 0
  Parts = List ℕ × List ℕ

  abbrev so : Parts → Option Parts
  so p = Some p

  abbrev on : ℕ → Parts → Parts
  on b p = (b ∷ p.0, p.1)

  passed : (b : ℕ) (bs : List ℕ) → begins mark (b ∷ bs) ≡ false → parted mark (b ∷ bs) ≡ option_map (on b) (parted mark bs)
  passed b bs n = ap (λ (t : Bool). cond t (so ([], drop (length mark) (b ∷ bs))) (option_map (on b) (parted mark bs))) n

  nowhere : (word : List ℕ) → ((i : ℕ) → i ≤ length word → Lacks mark word i) → parted mark word ≡ None
  nowhere [] lacks = refl
  nowhere (b ∷ bs) lacks =
      passed b bs (begins_not (b ∷ bs) (lacks 0 (omega arith))) ∙ ap (option_map (on b)) (nowhere bs (λ i h. lacks (suc i) (omega (arith, h))))

  abbrev nothing : ℕ → List ℕ
  nothing n = drop n []

  nothing_there : (i j : ℕ) → drop i [] ≡ mark ++ drop j [] → ⊥
  nothing_there i j is =
      let none : (n : ℕ) → length (nothing n) ≡ 0 = empty in
      let e = ap length is in
      let n = length-append mark (drop j []) in
      omega (arith, e, n, none i, some)
    where
      empty : (n : ℕ) → length (nothing n) ≡ 0
      empty zero = refl
      empty (suc n) = refl

  there : (word : List ℕ) (i : ℕ) → ((k : ℕ) → k < i → Lacks mark word k) → drop i word ≡ mark ++ drop (i + length mark) word
      → parted mark word ≡ so (take i word, drop (i + length mark) word)
  there [] i lacks is = absurd (nothing_there i (i + length mark) is)
  there (b ∷ bs) zero lacks is =
      let n : 0 + length mark ≡ length mark = omega arith in
      let word : b ∷ bs ≡ mark ++ drop (length mark) (b ∷ bs) = subst (λ (k : ℕ). b ∷ bs ≡ mark ++ drop k (b ∷ bs)) n is in
      let found : parted mark (b ∷ bs) ≡ so ([], drop (length mark) (b ∷ bs)) =
      ap (λ (t : Bool). cond t (so ([], drop (length mark) (b ∷ bs))) (option_map (on b) (parted mark bs))) (begins_so (b ∷ bs) (drop (length mark) (b ∷ bs)) word) in
      subst (λ (k : ℕ). parted mark (b ∷ bs) ≡ so ([], drop k (b ∷ bs))) (sym n) found
  there (b ∷ bs) (suc i) lacks is =
      let n : suc i + length mark ≡ suc (i + length mark) = omega arith in
      let rest : drop i bs ≡ mark ++ drop (i + length mark) bs = subst (λ (k : ℕ). drop i bs ≡ mark ++ drop k (b ∷ bs)) n is in
      let found : parted mark (b ∷ bs) ≡ so (b ∷ take i bs, drop (i + length mark) bs) =
      passed b bs (begins_not (b ∷ bs) (lacks 0 (omega arith))) ∙ ap (option_map (on b)) (there bs i (λ k h. lacks (suc k) (omega (arith, h))) rest) in
      subst (λ (k : ℕ). parted mark (b ∷ bs) ≡ so (b ∷ take i bs, drop k (b ∷ bs))) (sym n) found

  -- a word that was split at the first place of the mark; what is known of that place is At
  pub parted_as : (word : List ℕ) (At : ℕ → ℕ → Type 0) (r : Option (Bor (List ℕ) × Bor (List ℕ)))
      → MatchOption r ((i : ℕ) → i ≤ length word → Lacks mark word i)
      (λ x. (i : ℕ) × (j : ℕ) × (((k : ℕ) → k < i → Lacks mark word k) × At i j) × (x.0.now ≡ take i word) × (x.1.now ≡ drop j word) × (i ≤ j) × (length x.0.now ≡ i) × (length x.1.now + j ≡ length word))
      → ((i j : ℕ) → At i j → drop i word ≡ mark ++ drop j word) → ((i j : ℕ) → At i j → j ≡ i + length mark)
      → MatchOption r (parted mark word ≡ None) (λ p. parted mark word ≡ so (p.0.now, p.1.now))
  parted_as word At None h split ends = nowhere word h
  parted_as word At (Some (x, y)) (i, j, (lacks, at), front, back, le, size, rest) split ends =
      let e : drop i word ≡ mark ++ drop (i + length mark) word = subst (λ (n : ℕ). drop i word ≡ mark ++ drop n word) (ends i j at) (split i j at) in
      let k = there word i lacks e in
      k ∙ (ap (λ (z : List ℕ). so (z, drop (i + length mark) word)) (sym front) ∙ ap (λ (z : List ℕ). so (x.now, z)) (sym (back ∙ ap (λ (n : ℕ). drop n word) (ends i j at))))
