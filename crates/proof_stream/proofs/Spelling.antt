-- A binary proof and its text say the same lines.
use Rattle.std.proofs.Common.{◌≡◌, ◌⊎◌, ℕ, ◌+◌, ◌*◌, ◌<◌, ◌≤◌, Bool, true, false, eqb, leb, List, [], ◌∷◌, ◌++◌, length, Option, Some, None, refl, ap, sym, ◌∙◌, inl, inr, arith, append_assoc, cond, subst}
use Rattle.std.specs.Prelude.{slice_index}
use Rattle.std.proofs.lemmas.Bool.{cases_Bool, eqb-true, le-leb, leb-true, leb-false}
use Rattle.std.proofs.lemmas.Nat.{mul-le}
use Rattle.cnf_form.specs.Cnf.{LitOf}
use Rattle.cert_stream.specs.Text.{NoFeed, Word, is_blank, words_from}
use Rattle.cert_stream.specs.Stream.{bad}
use Rattle.cert_stream.specs.Telling.{Saying}
use Rattle.cert_stream.specs.declared.mode.ParseFaultKind.TheVariants.{BadLine}
use Rattle.cert_stream.proofs.Wording.{has_word, words_blank, words_visible}
use Rattle.proof_stream.specs.Text.{is_claim, next_starts}
use Rattle.proof_stream.specs.Passing.{Passes, starts_after}
use Rattle.proof_stream.specs.Numbers.{Goes, Whole, Unfit, group_next, groups_read, is_literal, may_go_on, number, numbers_from, seven, with_group}
use Rattle.proof_stream.specs.Lines.{LineOf, numbers_say}
use Rattle.proof_stream.specs.Spelling.{AreGroups, groups_value, letter}
use Rattle.proof_stream.specs.declared.spot.LineKind.{LineKind}
use Rattle.proof_stream.specs.declared.spot.LineKind.TheVariants.{Clause, Deletion}
use Rattle.proof_stream.proofs.Binaries.{step_by}
use Rattle.proof_stream.proofs.Heads.{blank_next}

-- numbers, group by group
pub numbers_groups : (place : ℕ) (p front rest : List ℕ) → AreGroups front → (at : ℕ) × (numbers_from place p (front ++ rest) ≡ number place (p ++ front) true ∷ numbers_from at [] rest)
numbers_groups place p [] rest g = absurd g
numbers_groups place p (b ∷ []) rest g = (place + length p + 1, rw g refl)
numbers_groups place p (b ∷ c ∷ bs) rest (g, h) =
    let k = numbers_groups place (p ++ b ∷ []) (c ∷ bs) rest h in
    (k.0, rw g (k.1 ∙ ap (λ z. number place z true ∷ numbers_from k.0 [] rest) (append_assoc p (b ∷ []) (c ∷ bs))))

-- the weights of the groups after the first
abbrev pub Weighed : ℕ → List ℕ → Type 0
Weighed w [] = Unit {0}
Weighed w (b ∷ []) = Unit {0}
Weighed w (b ∷ c ∷ bs) = (128 * w ≤ 268435456) × Weighed (128 * w) (c ∷ bs)

pub weighed : (bytes : List ℕ) → length bytes ≤ 5 → Weighed 1 bytes
weighed [] l = tt
weighed (a ∷ []) l = tt
weighed (a ∷ b ∷ []) l = (omega arith, tt)
weighed (a ∷ b ∷ c ∷ []) l = (omega arith, (omega arith, tt))
weighed (a ∷ b ∷ c ∷ d ∷ []) l = (omega arith, (omega arith, (omega arith, tt)))
weighed (a ∷ b ∷ c ∷ d ∷ e ∷ []) l = (omega arith, (omega arith, (omega arith, (omega arith, tt))))
weighed (a ∷ b ∷ c ∷ d ∷ e ∷ f ∷ bs) l = absurd (omega (arith, l))

-- what groups make is nothing, or no less than their weight
value_big : (w : ℕ) (bytes : List ℕ) → (groups_value w bytes ≡ 0) ⊎ (w ≤ groups_value w bytes)
value_big w [] = inl refl
value_big w (b ∷ bs) =
    elim (cases_Bool (leb 1 (seven b))) [
      | inl t ↦ let m = mul-le 1 w (seven b) w (leb-true 1 (seven b) t) (omega arith) in inr (omega (arith, m))
      | inr f ↦
          let n : seven b ≡ 0 = (let k = leb-false 1 (seven b) f in omega (arith, k)) in
          let m = mul-le (seven b) w 0 w (omega (arith, n)) (omega arith) in
          elim (value_big (128 * w) bs) [ inl e ↦ inl (omega (arith, m, e)) | inr l ↦ inr (omega (arith, m, l)) ]
    ]

step_last : (more goes whole : Bool) (n u : ℕ) → more ≡ false → whole ≡ true → step_by more goes whole false n u ≡ Whole n
step_last more goes whole n u e f = rw (e, f) refl

step_more : (more goes whole : Bool) (n u : ℕ) → more ≡ true → goes ≡ true → step_by more goes whole false n u ≡ Goes n u
step_more more goes whole n u e f = rw (e, f) refl

module _ (vars n : ℕ) (low : 2 ≤ n) (high : n ≤ 2 * vars + 1) where
  literal_now : (k : ℕ) → 2 ≤ k → k ≤ n → is_literal vars k ≡ true
  literal_now k a b = let e = le-leb 2 k a in let f = le-leb k (2 * vars + 1) (omega (arith, b, high)) in rw (e, f) refl

  pub goes_now : (k w : ℕ) (bytes : List ℕ) → w ≤ 268435456 → k + groups_value w bytes ≡ n → may_go_on vars k w ≡ true
  goes_now k w bytes l e =
      let f = le-leb w 268435456 l in
      elim (cases_Bool (leb 2 k)) [
        | inl t ↦ let g = literal_now k (leb-true 2 k t) (omega (arith, e)) in rw (f, g) refl
        | inr t ↦
            let small = leb-false 2 k t in
            let a = le-leb k 1 (omega (arith, small)) in
            let big : k + w ≤ 2 * vars + 1 = elim (value_big w bytes) [ inl z ↦ absurd (omega (arith, z, e, small, low)) | inr z ↦ omega (arith, z, e, high) ] in
            let b = le-leb (k + w) (2 * vars + 1) big in
            rw (f, t, a, b) refl
      ]

  last_next : (v w b : ℕ) → leb 128 b ≡ false → is_literal vars (with_group v w b) ≡ true → group_next vars false v w b ≡ Whole (with_group v w b)
  last_next v w b g i = step_last (leb 128 b) (may_go_on vars (with_group v w b) (128 * w)) (is_literal vars (with_group v w b)) (with_group v w b) (128 * w) g i

  more_next : (v w b : ℕ) → leb 128 b ≡ true → may_go_on vars (with_group v w b) (128 * w) ≡ true → group_next vars false v w b ≡ Goes (with_group v w b) (128 * w)
  more_next v w b g i = step_more (leb 128 b) (may_go_on vars (with_group v w b) (128 * w)) (is_literal vars (with_group v w b)) (with_group v w b) (128 * w) g i

  pub groups_whole : (v w : ℕ) (bytes : List ℕ) → AreGroups bytes → Weighed w bytes → v + groups_value w bytes ≡ n → groups_read vars false v w bytes ≡ Whole n
  groups_whole v w [] g h e = absurd g
  groups_whole v w (b ∷ []) g h e =
      let k : with_group v w b ≡ n = omega (arith, e) in
      let i = literal_now (with_group v w b) (omega (arith, k, low)) (omega (arith, k)) in
      ap (λ s. elim s [ Goes x y ↦ groups_read vars false x y [] | Whole m ↦ Whole m | Unfit kind ↦ Unfit kind ]) (last_next v w b g i) ∙ ap Whole k
  groups_whole v w (b ∷ c ∷ bs) (g, gs) (h, hs) e =
      let k : with_group v w b + groups_value (128 * w) (c ∷ bs) ≡ n = omega (arith, e) in
      let i = goes_now (with_group v w b) (128 * w) (c ∷ bs) h k in
      ap (λ s. elim s [ Goes x y ↦ groups_read vars false x y (c ∷ bs) | Whole m ↦ Whole m | Unfit kind ↦ Unfit kind ]) (more_next v w b g i) ∙ groups_whole (with_group v w b) (128 * w) (c ∷ bs) gs hs k

-- a literal's groups don't begin with 0
pub first_some : (bytes : List ℕ) (n : ℕ) → AreGroups bytes → groups_value 1 bytes ≡ n → 2 ≤ n → eqb (slice_index bytes 0) 0 ≡ false
first_some [] n g e l = absurd g
first_some (b ∷ []) n g e l =
    elim (cases_Bool (eqb b 0)) [
      | inl t ↦ absurd (let k : groups_value 1 (0 ∷ []) ≡ n = subst (λ z. groups_value 1 (z ∷ []) ≡ n) (eqb-true b 0 t) e in omega (arith, k, l))
      | inr f ↦ f
    ]
first_some (b ∷ c ∷ bs) n (g, h) e l =
    elim (cases_Bool (eqb b 0)) [
      | inl t ↦ absurd (let k : leb 128 0 ≡ true = subst (λ z. leb 128 z ≡ true) (eqb-true b 0 t) g in cc)
      | inr f ↦ f
    ]

pub index_bounds : (vars v : ℕ) (b : Bool) → 0 < v → v ≤ vars → (2 ≤ 2 * v + cond b 1 0) × (2 * v + cond b 1 0 ≤ 2 * vars + 1)
index_bounds vars v true l h = (omega arith, omega arith)
index_bounds vars v false l h = (omega arith, omega arith)

module _ (vars total : ℕ) (ended : Bool) where
  abbrev cut : List Saying
  cut = cond ended (bad BadLine total) []

  abbrev line : LineKind → ℕ → List LitOf → Option LineOf
  line kind place lits = Some (record { kind = kind; place = place; lits = lits })

  pub head_says : (kind : LineKind) (at : ℕ) (x : List ℕ) → numbers_say vars cut None (numbers_from at [] (letter kind ∷ x)) ≡ numbers_say vars cut (line kind at []) (numbers_from (at + 0 + 1) [] x)
  head_says Clause at x = refl
  head_says Deletion at x = refl

passes_false : (text : List ℕ) → NoFeed text → Passes false text
passes_false [] h = tt
passes_false (b ∷ bs) (h, hs) = let e : next_starts false b ≡ false = rw h refl in (refl, subst (λ z. Passes z bs) (sym e) (passes_false bs hs))

blank_claim : (b : ℕ) → is_blank b ≡ true → is_claim b ≡ false
blank_claim b t =
    elim (cases_Bool (eqb b 115)) [
      | inl e ↦ absurd (let k : is_blank 115 ≡ true = subst (λ z. is_blank z ≡ true) (eqb-true b 115 e) t in cc)
      | inr f ↦ elim (cases_Bool (eqb b 118)) [
        | inl e ↦ absurd (let k : is_blank 118 ≡ true = subst (λ z. is_blank z ≡ true) (eqb-true b 118 e) t in cc)
        | inr g ↦ rw (f, g) refl
      ]
    ]

pub passes_text : (at : ℕ) (text : List ℕ) (first : Word) (others : List Word) → NoFeed text → words_from true at [] text ≡ first ∷ others → is_claim (slice_index first.text 0) ≡ false → Passes true text
passes_text at [] first others h e c = tt
passes_text at (b ∷ bs) first others (h, hs) e c =
    elim (cases_Bool (is_blank b)) [
      | inl t ↦ (blank_claim b t, subst (λ z. Passes z bs) (sym (blank_next b t)) (passes_text (at + 1) bs first others hs (sym (words_blank true at [] b bs t) ∙ e) c))
      | inr f ↦
          let w = has_word true (at + 1) b [] bs in
          let k : w.word ∷ w.others ≡ first ∷ others = sym w.are ∙ sym (words_visible true at [] b bs f) ∙ e in
          let i : w.word ≡ first = cc in
          let x : is_claim b ≡ false = ap (λ z. is_claim (slice_index z 0)) (sym w.text) ∙ ap (λ (z : Word). is_claim (slice_index z.text 0)) i ∙ c in
          let s : next_starts true b ≡ false = rw (h, f) refl in
          (x, subst (λ z. Passes z bs) (sym s) (passes_false bs hs))
    ]

pub passes_append : (s : Bool) (a b : List ℕ) → Passes s a → Passes (starts_after s a) b → Passes s (a ++ b)
passes_append s [] b h k = k
passes_append s (c ∷ a) b (n, h) k = (n, passes_append (next_starts s c) a b h k)

pub feed_passes : (s : Bool) (rest : List ℕ) → Passes true rest → Passes s (10 ∷ rest)
feed_passes true rest h = (refl, h)
feed_passes false rest h = (refl, h)
