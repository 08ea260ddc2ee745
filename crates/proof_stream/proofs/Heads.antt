-- Where a line of s or v begins.
use Rattle.std.proofs.Common.{◌≡◌, ◌⊎◌, ℕ, Bool, true, false, ◌&&◌, eqb, List, [], ◌∷◌, ◌++◌, refl, ap, sym, ◌∙◌, inl, inr, subst}
use Rattle.std.proofs.lemmas.Bool.{cases_Bool, eqb-true}
use Rattle.cert_stream.specs.Text.{AreBlank, is_blank}
use Rattle.cert_stream.specs.Places.{AreLines}
use Rattle.cert_stream.proofs.Digits.{both_true}
use Rattle.proof_stream.specs.Text.{is_claim, next_starts}
use Rattle.proof_stream.specs.Passing.{Passes, starts_after}
use Rattle.proof_stream.specs.Lines.{HasClaim, IsLineHead}
use Rattle.proof_stream.proofs.Passing.{starts_snoc}

-- the first line of s or v, where there is one
pub split : (s : Bool) (bytes : List ℕ) → Passes s bytes ⊎ ((front : List ℕ) × (b : ℕ) × (rest : List ℕ) × (bytes ≡ front ++ b ∷ rest) × Passes s front × ((starts_after s front && is_claim b) ≡ true))
split s [] = inl tt
split s (b ∷ bs) =
    elim (cases_Bool (s && is_claim b)) [
      | inl t ↦ inr ([], b, bs, refl, tt, t)
      | inr f ↦ elim (split (next_starts s b) bs) [
        | inl p ↦ inl (f, p)
        | inr (front, c, rest, e, p, t) ↦ inr (b ∷ front, c, rest, ap (λ z. b ∷ z) e, (f, p), t)
      ]
    ]

starts_append : (s : Bool) (a b : List ℕ) → starts_after s (a ++ b) ≡ starts_after (starts_after s a) b
starts_append s [] b = refl
starts_append s (c ∷ a) b = starts_append (next_starts s c) a b

pub blank_next : (b : ℕ) → is_blank b ≡ true → next_starts true b ≡ true
blank_next b t = elim (cases_Bool (eqb b 10)) [ inl e ↦ rw e refl | inr e ↦ rw (e, t) refl ]

starts_blank : (blanks : List ℕ) → AreBlank blanks → starts_after true blanks ≡ true
starts_blank [] h = refl
starts_blank (b ∷ bs) (t, h) = ap (λ z. starts_after z bs) (blank_next b t) ∙ starts_blank bs h

starts_lines : (lines : List ℕ) → AreLines lines → starts_after true lines ≡ true
starts_lines lines (inl e) = ap (starts_after true) e
starts_lines lines (inr (front, e)) = ap (starts_after true) e ∙ starts_snoc true front 10

pub head_starts : (front : List ℕ) → IsLineHead front → starts_after true front ≡ true
head_starts front (lines, blanks, e, l, b) =
    ap (starts_after true) e ∙ starts_append true lines blanks ∙ ap (λ z. starts_after z blanks) (starts_lines lines l) ∙ starts_blank blanks b

abbrev Begun : Bool → List ℕ → Type 0
Begun s front = ((s ≡ true) × AreBlank front) ⊎ ((x : List ℕ) × (y : List ℕ) × (front ≡ (x ++ 10 ∷ []) ++ y) × AreBlank y)

begun : (s : Bool) (front : List ℕ) → starts_after s front ≡ true → Begun s front
begun s [] h = inl (h, tt)
begun s (b ∷ bs) h =
    elim (begun (next_starts s b) bs h) [
      | inr (x, y, e, k) ↦ inr (b ∷ x, y, ap (λ z. b ∷ z) e, k)
      | inl (e, k) ↦ elim (cases_Bool (eqb b 10)) [
        | inl t ↦ inr ([], bs, ap (λ z. z ∷ bs) (eqb-true b 10 t), k)
        | inr f ↦ let p = both_true s (is_blank b) (rw f at e) in inl (p.0, (p.1, k))
      ]
    ]

pub starts_head : (front : List ℕ) → starts_after true front ≡ true → IsLineHead front
starts_head front h =
    elim (begun true front h) [
      | inl (e, k) ↦ ([], front, refl, inl refl, k)
      | inr (x, y, e, k) ↦ (x ++ 10 ∷ [], y, e, inr (x, refl), k)
    ]

passes_here : (s : Bool) (front : List ℕ) (b : ℕ) (rest : List ℕ) → Passes s (front ++ b ∷ rest) → (starts_after s front && is_claim b) ≡ false
passes_here s [] b rest h = h.0
passes_here s (c ∷ front) b rest h = passes_here (next_starts s c) front b rest h.1

pub claim_here : (front : List ℕ) (b : ℕ) → IsLineHead front → is_claim b ≡ true → (starts_after true front && is_claim b) ≡ true
claim_here front b h t = rw (head_starts front h, t) refl

-- no line is one of s or v exactly where all bytes pass
pub passes_none : (bytes : List ℕ) → Passes true bytes → HasClaim bytes → ⊥
passes_none bytes p (front, b, rest, e, h, t) =
    let k = passes_here true front b rest (subst (Passes true) e p) in
    let l = claim_here front b h t in
    let q : true ≡ false = sym l ∙ k in cc

pub none_passes : (bytes : List ℕ) → (HasClaim bytes → ⊥) → Passes true bytes
none_passes bytes n =
    elim (split true bytes) [
      | inl p ↦ p
      | inr (front, b, rest, e, p, t) ↦ let k = both_true (starts_after true front) (is_claim b) t in absurd (n (front, b, rest, e, starts_head front k.0, k.1))
    ]
