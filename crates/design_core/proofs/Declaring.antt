-- Chunks and items that are declared.
use Rattle.std.proofs.Common.{◌≡◌, ◌↔◌, ℕ, zero, suc, ◌+◌, ◌-◌, ◌<◌, ◌≤◌, List, [], ◌∷◌, ◌++◌, length, drop, get_or, refl, ap, sym, subst, ◌∙◌, All, arith}
use Rattle.std.proofs.lemmas.List.{drop_more, drop_all}
use Rattle.std.proofs.lemmas.List.Elements.{All-cons, All-head, All-tail, All-append}
use Rattle.design_core.specs.Shape.{WireOf, IsDeclared}
use Rattle.design_signals.specs.Chunks.{above, bits_from, bits_of, chunk_bits}
use Rattle.design_signals.specs.declared.chunk.Chunk.{Chunk}
use Rattle.design_signals.specs.declared.sig_bit.SigBit.{SigBit}
use Rattle.design_signals.specs.declared.sig_bit.SigBit.TheVariants.{Wire, Const, Free}

pub All-none : {X : Type 0} (P : X → Type 0) → All P []
All-none P k d lt = absurd (omega arith)

-- what holds of all members of a list in front, and of the rest
pub All-front : {X : Type 0} (P : X → Type 0) (xs ys : List X) → All P (xs ++ ys) → All P xs
All-front P [] ys h = All-none P
All-front P (x ∷ xs) ys h = All-cons P x xs (All-head P x (xs ++ ys) h) (All-front P xs ys (All-tail P x (xs ++ ys) h))

pub All-rest : {X : Type 0} (P : X → Type 0) (xs ys : List X) → All P (xs ++ ys) → All P ys
All-rest P [] ys h = h
All-rest P (x ∷ xs) ys h = All-rest P xs ys (All-tail P x (xs ++ ys) h)

bit_at : (b : SigBit) (i n k : ℕ) (d : SigBit) → k < n → get_or (bits_from b i n) k d ≡ above b (i + k)
bit_at b i zero k d h = absurd (omega arith)
bit_at b i (suc n) zero d h = let at : i ≡ i + 0 = omega arith in ap (λ (j : ℕ). above b j) at
bit_at b i (suc n) (suc k) d h =
    let at : i + 1 + k ≡ i + suc k = omega arith in
    bit_at b (i + 1) n k d (omega arith) ∙ ap (λ (j : ℕ). above b j) at

bits_long : (b : SigBit) (i n : ℕ) → length (bits_from b i n) ≡ n
bits_long b i zero = refl
bits_long b i (suc n) = ap suc (bits_long b (i + 1) n)

module _ (ws : List WireOf) (free : ℕ) where
  wire_below : (w b m i n : ℕ) → IsDeclared ws free (Wire w (b + m)) → i + n ≤ m + 1 → All (IsDeclared ws free) (bits_from (Wire w b) i n)
  wire_below w b m i zero h le = All-none (IsDeclared ws free)
  wire_below w b m i (suc n) h le =
      All-cons (IsDeclared ws free) (Wire w (b + i)) (bits_from (Wire w b) (i + 1) n) (h.0, h.1, omega (arith, h.2, le)) (wire_below w b m (i + 1) n h (omega arith))

  const_all : (x : _) (i n : ℕ) → All (IsDeclared ws free) (bits_from (Const x) i n)
  const_all x i zero = All-none (IsDeclared ws free)
  const_all x i (suc n) = All-cons (IsDeclared ws free) (Const x) (bits_from (Const x) (i + 1) n) tt (const_all x (i + 1) n)

  free_all : (m i n : ℕ) → m < free → All (IsDeclared ws free) (bits_from (Free m) i n)
  free_all m i zero h = All-none (IsDeclared ws free)
  free_all m i (suc n) h = All-cons (IsDeclared ws free) (Free (m - i)) (bits_from (Free m) (i + 1) n) (omega (arith, h)) (free_all m (i + 1) n h)

  -- a bit of a chunk whose bits are all declared
  bit_of_all : (b : SigBit) (n k : ℕ) → k < n → All (IsDeclared ws free) (bits_from b 0 n) → IsDeclared ws free (above b k)
  bit_of_all b n k lt h =
      let at : 0 + k ≡ k = omega arith in
      let P : SigBit → Type 0 = λ x. IsDeclared ws free x in
      subst P (bit_at b 0 n k b lt ∙ ap (λ (j : ℕ). above b j) at) (h k b (omega (arith, bits_long b 0 n)))

  pub wire_chunk : (c : Chunk) (top : SigBit) (w b : ℕ) → c.first ≡ Wire w b → 0 < c.width → top ≡ above c.first (c.width - 1)
      → IsDeclared ws free top ↔ All (IsDeclared ws free) (chunk_bits c)
  wire_chunk c top w b e some t =
      let P : SigBit → Type 0 = λ x. IsDeclared ws free x in
      let Q : SigBit → Type 0 = λ x. All (IsDeclared ws free) (bits_from x 0 c.width) in
      let at : top ≡ Wire w (b + (c.width - 1)) = t ∙ ap (λ (x : SigBit). above x (c.width - 1)) e in (
        λ h. subst Q (sym e) (wire_below w b (c.width - 1) 0 c.width (subst P at h) (omega arith)),
        λ h. subst P (sym t) (bit_of_all c.first c.width (c.width - 1) (omega arith) h),
      )

  pub const_chunk : (c : Chunk) (x : _) → c.first ≡ Const x → All (IsDeclared ws free) (chunk_bits c)
  const_chunk c x e =
      let Q : SigBit → Type 0 = λ y. All (IsDeclared ws free) (bits_from y 0 c.width) in
      subst Q (sym e) (const_all x 0 c.width)

  pub free_chunk : (c : Chunk) (m : ℕ) → c.first ≡ Free m → 0 < c.width → IsDeclared ws free c.first ↔ All (IsDeclared ws free) (chunk_bits c)
  free_chunk c m e some =
      let P : SigBit → Type 0 = λ x. IsDeclared ws free x in
      let Q : SigBit → Type 0 = λ x. All (IsDeclared ws free) (bits_from x 0 c.width) in
      let first : above (Free m) 0 ≡ Free m = ap (λ (j : ℕ). Free j) (omega arith) in (
        λ h. subst Q (sym e) (free_all m 0 c.width (subst P e h)),
        λ h. subst P (sym e) (subst P first (bit_of_all (Free m) c.width 0 some (subst Q e h))),
      )

-- a walk over chunks: what is declared of all bits from a place on
module _ (P : SigBit → Type 0) (cs : List Chunk) where
  pub chunk_first : (k : ℕ) (d : Chunk) → k < length cs → All P (bits_of (drop k cs)) → All P (chunk_bits (get_or cs k d))
  chunk_first k d lt h =
      let Q : List Chunk → Type 0 = λ x. All P (bits_of x) in
      All-front P (chunk_bits (get_or cs k d)) (bits_of (drop (k + 1) cs)) (subst Q (drop_more cs k d lt) h)

  pub chunk_rest : (k : ℕ) (d : Chunk) → k < length cs → All P (bits_of (drop k cs)) → All P (bits_of (drop (k + 1) cs))
  chunk_rest k d lt h =
      let Q : List Chunk → Type 0 = λ x. All P (bits_of x) in
      All-rest P (chunk_bits (get_or cs k d)) (bits_of (drop (k + 1) cs)) (subst Q (drop_more cs k d lt) h)

  pub chunk_both : (k : ℕ) (d : Chunk) → k < length cs → All P (chunk_bits (get_or cs k d)) → All P (bits_of (drop (k + 1) cs)) → All P (bits_of (drop k cs))
  chunk_both k d lt first rest =
      let Q : List Chunk → Type 0 = λ x. All P (bits_of x) in
      subst Q (sym (drop_more cs k d lt)) (All-append P (chunk_bits (get_or cs k d)) (bits_of (drop (k + 1) cs)) first rest)

  pub chunks_none : (k : ℕ) → length cs ≤ k → All P (bits_of (drop k cs))
  chunks_none k le =
      let Q : List Chunk → Type 0 = λ x. All P (bits_of x) in
      subst Q (sym (drop_all k cs le)) (All-none P)
