-- Bits of chunks, one after the other.
use Rattle.std.proofs.Common.{◌≡◌, ℕ, suc, ◌+◌, ◌<◌, List, [], ◌∷◌, drop, refl, sym, ap, subst, ◌∙◌, All, arith}
use Rattle.design_signals.specs.Chunks.{above, bits_of, IsChunk, IsPlaceIn}
use Rattle.design_signals.specs.declared.sig_bit.SigBit.{SigBit}
use Rattle.design_signals.specs.declared.chunk.Chunk.{Chunk}
use Rattle.design_signals.proofs.Cutting.{next_bit, next_chunk}

abbrev Chunks : Type 0
Chunks = List Chunk

abbrev Bits : Type 0
Bits = List SigBit

pub start_place : (cs : Chunks) → All IsChunk cs → IsPlaceIn 0 cs
start_place [] h = refl
start_place (c ∷ cs) h = (h 0 c (omega arith)).some

pub rest_chunks : (cs : Chunks) (c : Chunk) (rest : Chunks) → cs ≡ c ∷ rest → All IsChunk cs → All IsChunk rest
rest_chunks cs c rest e h =
    let P : Chunks → Type 0 = λ x. All IsChunk x in
    λ k d lt. subst P e h (suc k) d (omega (arith, lt))

pub place_in : (cs : Chunks) (c : Chunk) (rest : Chunks) (i : ℕ) → cs ≡ c ∷ rest → IsPlaceIn i cs → i < c.width
place_in cs c rest i e h =
    let P : Chunks → Type 0 = λ x. IsPlaceIn i x in
    subst P e h

pub next_place : (cs : Chunks) (c : Chunk) (rest : Chunks) (i : ℕ) → cs ≡ c ∷ rest → i + 1 < c.width → IsPlaceIn (i + 1) cs
next_place cs c rest i e h =
    let P : Chunks → Type 0 = λ x. IsPlaceIn (i + 1) x in
    subst P (sym e) h

pub step_bit : (cs : Chunks) (c : Chunk) (rest : Chunks) (i : ℕ) (bit : SigBit) → cs ≡ c ∷ rest → IsPlaceIn i cs → bit ≡ above c.first i
    → drop i (bits_of cs) ≡ bit ∷ drop (i + 1) (bits_of cs)
step_bit cs c rest i bit e h b =
    ap (λ (x : Chunks). drop i (bits_of x)) e
    ∙ next_bit c rest i (place_in cs c rest i e h)
    ∙ ap (λ (x : SigBit). x ∷ drop (i + 1) (bits_of (c ∷ rest))) (sym b)
    ∙ ap (λ (x : Chunks). bit ∷ drop (i + 1) (bits_of x)) (sym e)

pub step_chunk : (cs : Chunks) (c : Chunk) (rest : Chunks) (i : ℕ) (bit : SigBit) → cs ≡ c ∷ rest → IsPlaceIn i cs → bit ≡ above c.first i → i + 1 ≡ c.width
    → drop i (bits_of cs) ≡ bit ∷ bits_of rest
step_chunk cs c rest i bit e h b w =
    step_bit cs c rest i bit e h b ∙ ap (λ (x : Bits). bit ∷ x) (ap (λ (x : Chunks). drop (i + 1) (bits_of x)) e ∙ next_chunk c rest i w)

abbrev tail_of : Bits → Bits
tail_of [] = []
tail_of (x ∷ xs) = xs

pub same_tail : (x : SigBit) (xs ys : Bits) → x ∷ xs ≡ x ∷ ys → xs ≡ ys
same_tail x xs ys e = ap tail_of e
