-- The fate of bytes, at most this many of them, whatever tells it.
use Rattle.std.proofs.Common.{◌≡◌, ◌⊎◌, ℕ, ◌-◌, ◌<◌, ◌≤◌, Bool, true, false, leb, List, ◌++◌, length, take, Option, Some, None, refl, sym, ◌∙◌, subst, inl, inr, arith}
use Rattle.std.proofs.lemmas.Bool.{cases_Bool, leb-true, leb-false}
use Rattle.std.proofs.lemmas.List.{length-append, take-append-le}
use Rattle.std.proofs.Math.Seq.{take-append-add}
use Rattle.sby_terms.specs.declared.names.Answer.{Answer}
use Rattle.cert_judge.specs.Fate.{Fate, Found, Bad, FateSoFarBy, FateBy}
use Rattle.cert_judge.specs.declared.stream.CertKind.TheVariants.{TooLong, EarlyEnd}

pub sides : (n most : ℕ) → (n ≤ most) ⊎ (most < n)
sides n most = elim (cases_Bool (leb n most)) [ inl t ↦ inl (leb-true n most t) | inr f ↦ inr (leb-false n most f) ]

-- the first bytes of all that come, where there are more than those
pub take_past : (most : ℕ) (bytes rest : List ℕ) → length bytes ≤ most → take most (bytes ++ rest) ≡ bytes ++ take (most - length bytes) rest
take_past most bytes rest h =
    subst (λ n. take n (bytes ++ rest) ≡ bytes ++ take (most - length bytes) rest) (omega arith) (take-append-add bytes rest (most - length bytes))

pub some_same : (x y : Fate) → Some x ≡ Some y → x ≡ y
some_same x y e = cc

module _ (comes : Bool → List ℕ → Option Fate → Type 0) (most : ℕ) where
  abbrev Beyond : List ℕ → Option Fate → Type 0
  Beyond bytes z = ((v : Fate) × comes false (take most bytes) (Some v) × (z ≡ Some v)) ⊎ (comes false (take most bytes) None × (z ≡ Some (Bad TooLong most)))

  abbrev Within : List ℕ → Fate → Type 0
  Within bytes z = comes true bytes (Some z) ⊎ (comes true bytes None × (z ≡ Bad EarlyEnd (length bytes)))

  -- a fate stays where that of the bytes does
  module _ (on : (bytes rest : List ℕ) (x : Fate) → comes false bytes (Some x) → comes false (bytes ++ rest) (Some x)) where
    pub stays_by : (bytes rest : List ℕ) (x : Fate) → FateSoFarBy comes bytes most (Some x) → FateSoFarBy comes (bytes ++ rest) most (Some x)
    stays_by bytes rest x h =
        elim (sides (length bytes) most) [
          | inl l ↦ record {
            within = λ _. on bytes rest x (h.within l);
            beyond = λ _. inl (x, rw (take_past most bytes rest l) (on bytes (take (most - length bytes) rest) x (h.within l)), refl);
          }
          | inr l ↦ record {
            within = λ k. absurd (omega (arith, length-append bytes rest));
            beyond = λ _. let t : take most (bytes ++ rest) ≡ take most bytes = take-append-le most bytes rest (omega arith) in rw t (h.beyond l);
          }
        ]

  -- there is one where bytes have one fate
  module _ (once : (ended : Bool) (bytes : List ℕ) (x y : Option Fate) → comes ended bytes x → comes ended bytes y → x ≡ y) where
    one_beyond : (bytes : List ℕ) (x y : Option Fate) → Beyond bytes x → Beyond bytes y → x ≡ y
    one_beyond bytes x y (inl (v, a, e)) (inl (w, b, g)) = e ∙ once false (take most bytes) (Some v) (Some w) a b ∙ sym g
    one_beyond bytes x y (inl (v, a, e)) (inr (b, g)) = absurd (let q = once false (take most bytes) (Some v) None a b in cc)
    one_beyond bytes x y (inr (a, e)) (inl (w, b, g)) = absurd (let q = once false (take most bytes) None (Some w) a b in cc)
    one_beyond bytes x y (inr (a, e)) (inr (b, g)) = e ∙ sym g

    pub one_so_far_by : (bytes : List ℕ) (x y : Option Fate) → FateSoFarBy comes bytes most x → FateSoFarBy comes bytes most y → x ≡ y
    one_so_far_by bytes x y h k =
        elim (sides (length bytes) most) [
          | inl l ↦ once false bytes x y (h.within l) (k.within l)
          | inr l ↦ one_beyond bytes x y (h.beyond l) (k.beyond l)
        ]

    one_within : (bytes : List ℕ) (x y : Fate) → Within bytes x → Within bytes y → x ≡ y
    one_within bytes x y (inl a) (inl b) = some_same x y (once true bytes (Some x) (Some y) a b)
    one_within bytes x y (inl a) (inr (b, g)) = absurd (let q = once true bytes (Some x) None a b in cc)
    one_within bytes x y (inr (a, e)) (inl b) = absurd (let q = once true bytes None (Some y) a b in cc)
    one_within bytes x y (inr (a, e)) (inr (b, g)) = e ∙ sym g

    pub one_by : (bytes : List ℕ) (x y : Fate) → FateBy comes bytes most x → FateBy comes bytes most y → x ≡ y
    one_by bytes x y h k =
        elim (sides (length bytes) most) [
          | inl l ↦ one_within bytes x y (h.within l) (k.within l)
          | inr l ↦ some_same x y (one_so_far_by bytes (Some x) (Some y) (h.beyond l) (k.beyond l))
        ]

  past_none : (bytes : List ℕ) → Beyond bytes None → ⊥
  past_none bytes (inl (v, a, e)) = absurd (let q = e in cc)
  past_none bytes (inr (a, e)) = absurd (let q = e in cc)

  -- where there is no fate yet, no byte is too much
  pub within_by : (bytes : List ℕ) → FateSoFarBy comes bytes most None → length bytes ≤ most
  within_by bytes h =
      elim (sides (length bytes) most) [
        | inl l ↦ l
        | inr l ↦ absurd (past_none bytes (h.beyond l))
      ]

  -- a fate that stands where more may follow is that of the end
  pub at_end_by : ((bytes : List ℕ) (x : Fate) → comes false bytes (Some x) → comes true bytes (Some x)) → (bytes : List ℕ) (x : Fate) → FateSoFarBy comes bytes most (Some x) → FateBy comes bytes most x
  at_end_by ends bytes x h = record { within = λ l. inl (ends bytes x (h.within l)); beyond = λ _. h }

  -- what is found has a consequence, whether bytes were found or beginnings of them
  module _ {P : Type 0} (answer : Answer) (found : (ended : Bool) (bytes : List ℕ) → comes ended bytes (Some (Found answer)) → P) where
    pub found_so_far_by : (bytes : List ℕ) → FateSoFarBy comes bytes most (Some (Found answer)) → P
    found_so_far_by bytes h =
        elim (sides (length bytes) most) [
          | inl l ↦ found false bytes (h.within l)
          | inr l ↦ elim (h.beyond l) [
            | inl (x, k, e) ↦ found false (take most bytes) (rw e k)
            | inr (k, e) ↦ absurd (let g = e in cc)
          ]
        ]

    pub found_by : (bytes : List ℕ) → FateBy comes bytes most (Found answer) → P
    found_by bytes h =
        elim (sides (length bytes) most) [
          | inl l ↦ elim (h.within l) [
            | inl k ↦ found true bytes k
            | inr (k, e) ↦ absurd (let g = e in cc)
          ]
          | inr l ↦ found_so_far_by bytes (h.beyond l)
        ]

  -- some fate
  module _ (somewhere : (ended : Bool) (bytes : List ℕ) → ((x : Option Fate) → comes ended bytes x → ⊥) → ⊥) where
    beyond_somewhere : (bytes : List ℕ) → most < length bytes → ((x : Fate) → FateSoFarBy comes bytes most (Some x) → ⊥) → ⊥
    beyond_somewhere bytes l k = somewhere false (take most bytes) there
      where
        there : (x : Option Fate) → comes false (take most bytes) x → ⊥
        there None h = k (Bad TooLong most) (record { within = λ w. absurd (omega arith); beyond = λ _. inr (h, refl) })
        there (Some x) h = k x (record { within = λ w. absurd (omega arith); beyond = λ _. inl (x, h, refl) })

    pub somewhere_so_far_by : (bytes : List ℕ) → ((x : Option Fate) → FateSoFarBy comes bytes most x → ⊥) → ⊥
    somewhere_so_far_by bytes k =
        elim (sides (length bytes) most) [
          | inl l ↦ somewhere false bytes (λ x h. k x (record { within = λ _. h; beyond = λ b. absurd (omega arith) }))
          | inr l ↦ beyond_somewhere bytes l (λ x h. k (Some x) h)
        ]

    pub somewhere_by : (bytes : List ℕ) → ((x : Fate) → FateBy comes bytes most x → ⊥) → ⊥
    somewhere_by bytes k =
        elim (sides (length bytes) most) [
          | inl l ↦ somewhere true bytes (there l)
          | inr l ↦ beyond_somewhere bytes l (λ x h. k x (record { within = λ w. absurd (omega arith); beyond = λ _. h }))
        ]
      where
        there : length bytes ≤ most → (x : Option Fate) → comes true bytes x → ⊥
        there l None h = k (Bad EarlyEnd (length bytes)) (record { within = λ _. inr (h, refl); beyond = λ b. absurd (omega arith) })
        there l (Some x) h = k x (record { within = λ _. inl h; beyond = λ b. absurd (omega arith) })
