-- Chunks, cut and read.
use Rattle.std.proofs.Common.{◌≡◌, ℕ, zero, suc, ◌+◌, ◌-◌, ◌<◌, ◌≤◌, min, List, [], ◌∷◌, ◌++◌, length, take, drop, Some, get_or, refl, sym, ap, ◌∙◌, append_assoc, arith}
use Rattle.std.specs.Prelude.{slice_get}
use Rattle.std.proofs.lemmas.List.{length-append, append-nil, drop_all, drop_more}
use Rattle.design_signals.specs.Chunks.{above, bits_from, chunk_bits, bits_of}
use Rattle.design_signals.specs.declared.sig_bit.SigBit.{SigBit}
use Rattle.design_signals.specs.declared.sig_bit.SigBit.TheVariants.{Wire, Const, Free}
use Rattle.design_signals.specs.declared.chunk.Chunk.{Chunk}

abbrev Bits : Type 0
Bits = List SigBit

above_twice : (b : SigBit) (i j : ℕ) → above (above b i) j ≡ above b (i + j)
above_twice (Wire w b) i j = ap (λ (n : ℕ). Wire w n) (omega arith)
above_twice (Const b) i j = refl
above_twice (Free n) i j = ap (λ (m : ℕ). Free m) (omega arith)

pub bits_above : (b : SigBit) (i j n : ℕ) → bits_from (above b i) j n ≡ bits_from b (i + j) n
bits_above b i j zero = refl
bits_above b i j (suc n) =
    let next : i + (j + 1) ≡ i + j + 1 = omega arith in
    ap (λ (x : SigBit). x ∷ bits_from (above b i) (j + 1) n) (above_twice b i j)
    ∙ ap (λ (x : Bits). above b (i + j) ∷ x) (bits_above b i (j + 1) n ∙ ap (λ (k : ℕ). bits_from b k n) next)

-- a part of a chunk
pub bits_part : (b x : SigBit) (i n : ℕ) → x ≡ above b i → bits_from x 0 n ≡ bits_from b i n
bits_part b x i n e =
    let at : i + 0 ≡ i = omega arith in
    rw e (bits_above b i 0 n ∙ ap (λ (k : ℕ). bits_from b k n) at)

pub bits_long : (b : SigBit) (i n : ℕ) → length (bits_from b i n) ≡ n
bits_long b i zero = refl
bits_long b i (suc n) = ap suc (bits_long b (i + 1) n)

bits_drop : (b : SigBit) (i n k : ℕ) → drop k (bits_from b i n) ≡ bits_from b (i + k) (n - k)
bits_drop b i n zero =
    let at : i + 0 ≡ i = omega arith in
    let all : n - 0 ≡ n = omega arith in
    ap (λ (j : ℕ). bits_from b j n) (sym at) ∙ ap (λ (m : ℕ). bits_from b (i + 0) m) (sym all)
bits_drop b i zero (suc k) =
    let none : 0 - suc k ≡ 0 = omega arith in
    ap (λ (m : ℕ). bits_from b (i + suc k) m) (sym none)
bits_drop b i (suc n) (suc k) =
    let at : i + 1 + k ≡ i + suc k = omega arith in
    let less : n - k ≡ suc n - suc k = omega arith in
    bits_drop b (i + 1) n k ∙ ap (λ (j : ℕ). bits_from b j (n - k)) at ∙ ap (λ (m : ℕ). bits_from b (i + suc k) m) less

bits_take : (b : SigBit) (i n k : ℕ) → k ≤ n → take k (bits_from b i n) ≡ bits_from b i k
bits_take b i n zero h = refl
bits_take b i zero (suc k) h = absurd (omega arith)
bits_take b i (suc n) (suc k) h = ap (λ (x : Bits). above b i ∷ x) (bits_take b (i + 1) n k (omega arith))

from_zero : (i : ℕ) → 0 + i ≡ i
from_zero i = omega arith

-- ---- one bit

get_left : {X : Type 0} (xs ys : List X) (i : ℕ) → i < length xs → slice_get (xs ++ ys) i ≡ slice_get xs i
get_left [] ys i h = absurd (omega arith)
get_left (x ∷ xs) ys zero h = refl
get_left (x ∷ xs) ys (suc i) h = get_left xs ys i (omega arith)

get_right : {X : Type 0} (xs ys : List X) (i : ℕ) → length xs ≤ i → slice_get (xs ++ ys) i ≡ slice_get ys (i - length xs)
get_right [] ys i h = let same : i - 0 ≡ i = omega arith in ap (λ (k : ℕ). slice_get ys k) (sym same)
get_right (x ∷ xs) ys zero h = absurd (omega arith)
get_right (x ∷ xs) ys (suc i) h =
    let same : i - length xs ≡ suc i - suc (length xs) = omega arith in
    get_right xs ys i (omega arith) ∙ ap (λ (k : ℕ). slice_get ys k) same

bits_get : (b : SigBit) (i n k : ℕ) → k < n → slice_get (bits_from b i n) k ≡ Some (above b (i + k))
bits_get b i zero k h = absurd (omega arith)
bits_get b i (suc n) zero h = let at : i ≡ i + 0 = omega arith in ap (λ (j : ℕ). Some (above b j)) at
bits_get b i (suc n) (suc k) h =
    let at : i + 1 + k ≡ i + suc k = omega arith in
    bits_get b (i + 1) n k (omega arith) ∙ ap (λ (j : ℕ). Some (above b j)) at

pub bit_here : (c : Chunk) (cs : List Chunk) (i : ℕ) → i < c.width → slice_get (bits_of (c ∷ cs)) i ≡ Some (above c.first i)
bit_here c cs i h =
    get_left (chunk_bits c) (bits_of cs) i (omega (arith, h, bits_long c.first 0 c.width)) ∙ bits_get c.first 0 c.width i h ∙ ap (λ (j : ℕ). Some (above c.first j)) (from_zero i)

pub bit_later : (c : Chunk) (cs : List Chunk) (i : ℕ) → c.width ≤ i → slice_get (bits_of (c ∷ cs)) i ≡ slice_get (bits_of cs) (i - c.width)
bit_later c cs i h =
    get_right (chunk_bits c) (bits_of cs) i (omega (arith, h, bits_long c.first 0 c.width)) ∙ ap (λ (k : ℕ). slice_get (bits_of cs) (i - k)) (bits_long c.first 0 c.width)

pub bits_longer : (c : Chunk) (cs : List Chunk) → length (bits_of (c ∷ cs)) ≡ c.width + length (bits_of cs)
bits_longer c cs = length-append (chunk_bits c) (bits_of cs) ∙ ap (λ (k : ℕ). k + length (bits_of cs)) (bits_long c.first 0 c.width)

-- ---- a chunk more

flat_append : (cs ds : List Chunk) → bits_of (cs ++ ds) ≡ bits_of cs ++ bits_of ds
flat_append [] ds = refl
flat_append (c ∷ cs) ds = ap (λ (x : Bits). chunk_bits c ++ x) (flat_append cs ds) ∙ sym (append_assoc (chunk_bits c) (bits_of cs) (bits_of ds))

pub bits_push : (cs : List Chunk) (c : Chunk) → bits_of (cs ++ c ∷ []) ≡ bits_of cs ++ chunk_bits c
bits_push cs c = flat_append cs (c ∷ []) ∙ ap (λ (x : Bits). bits_of cs ++ x) (append-nil (chunk_bits c))

pub push_long : (cs : List Chunk) (c : Chunk) → length (bits_of (cs ++ c ∷ [])) ≡ length (bits_of cs) + c.width
push_long cs c = omega (arith, ap (λ (x : Bits). length x) (bits_push cs c), length-append (bits_of cs) (chunk_bits c), bits_long c.first 0 c.width)

-- ---- slices

take_both : (xs ys : Bits) (n : ℕ) → take n (xs ++ ys) ≡ take (min n (length xs)) xs ++ take (n - length xs) ys
take_both [] ys zero =
    let none : min 0 0 ≡ 0 = omega arith in
    let all : 0 - 0 ≡ 0 = omega arith in
    ap (λ (k : ℕ). take k ys) (sym all) ∙ ap (λ (k : ℕ). take k [] ++ take (0 - 0) ys) (sym none)
take_both [] ys (suc n) =
    let none : min (suc n) 0 ≡ 0 = omega arith in
    let all : suc n - 0 ≡ suc n = omega arith in
    ap (λ (k : ℕ). take k ys) (sym all) ∙ ap (λ (k : ℕ). take k [] ++ take (suc n - 0) ys) (sym none)
take_both (x ∷ xs) ys zero =
    let none : min 0 (length (x ∷ xs)) ≡ 0 = omega arith in
    let all : 0 - length (x ∷ xs) ≡ 0 = omega arith in
    ap (λ (k : ℕ). take k ys) (sym all) ∙ ap (λ (k : ℕ). take k (x ∷ xs) ++ take (0 - length (x ∷ xs)) ys) (sym none)
take_both (x ∷ xs) ys (suc n) =
    let few : suc (min n (length xs)) ≡ min (suc n) (length (x ∷ xs)) = omega arith in
    let rest : n - length xs ≡ suc n - length (x ∷ xs) = omega arith in
    ap (λ (t : Bits). x ∷ t) (take_both xs ys n)
    ∙ ap (λ (k : ℕ). take k (x ∷ xs) ++ take (n - length xs) ys) few
    ∙ ap (λ (k : ℕ). take (min (suc n) (length (x ∷ xs))) (x ∷ xs) ++ take k ys) rest

drop_both : (xs ys : Bits) (n : ℕ) → drop n (xs ++ ys) ≡ drop n xs ++ drop (n - length xs) ys
drop_both [] ys n = let same : n - 0 ≡ n = omega arith in ap (λ (k : ℕ). drop k ys) (sym same) ∙ ap (λ (x : Bits). x ++ drop (n - 0) ys) (sym (drop_all n [] (omega arith)))
drop_both (x ∷ xs) ys zero = let same : 0 - length (x ∷ xs) ≡ 0 = omega arith in ap (λ (k : ℕ). (x ∷ xs) ++ drop k ys) (sym same)
drop_both (x ∷ xs) ys (suc n) =
    let rest : n - length xs ≡ suc n - length (x ∷ xs) = omega arith in
    drop_both xs ys n ∙ ap (λ (k : ℕ). drop n xs ++ drop k ys) rest

-- what is kept of the first chunk, and of the others
pub cut_step : (c : Chunk) (cs : List Chunk) (skip left : ℕ) → take left (drop skip (bits_of (c ∷ cs)))
    ≡ bits_from c.first skip (min (c.width - skip) left) ++ take (left - min (c.width - skip) left) (drop (skip - c.width) (bits_of cs))
cut_step c cs skip left =
    let long : length (chunk_bits c) ≡ c.width = bits_long c.first 0 c.width in
    let rest : Bits = drop (skip - c.width) (bits_of cs) in
    let front : Bits = bits_from c.first skip (c.width - skip) in
    let there : length front ≡ c.width - skip = bits_long c.first skip (c.width - skip) in
    let swap : min left (length front) ≡ min (c.width - skip) left = omega (arith, there) in
    let less : left - length front ≡ left - min (c.width - skip) left = omega (arith, there) in
    ap (λ (x : Bits). take left x)
    (drop_both (chunk_bits c) (bits_of cs) skip
    ∙ ap (λ (k : ℕ). drop skip (chunk_bits c) ++ drop (skip - k) (bits_of cs)) long
    ∙ ap (λ (x : Bits). x ++ rest) (bits_drop c.first 0 c.width skip ∙ ap (λ (k : ℕ). bits_from c.first k (c.width - skip)) (from_zero skip)))
    ∙ take_both front rest left
    ∙ ap (λ (k : ℕ). take k front ++ take (left - length front) rest) swap
    ∙ ap (λ (k : ℕ). take (min (c.width - skip) left) front ++ take k rest) less
    ∙ ap (λ (x : Bits). x ++ take (left - min (c.width - skip) left) rest) (bits_take c.first skip (c.width - skip) (min (c.width - skip) left) (omega arith))

-- ---- the code's steps

abbrev Chunks : Type 0
Chunks = List Chunk

-- what an index past the end would read
abbrev pub no_chunk : Chunk
no_chunk = record { first = Wire 0 0; width = 0 }

pub bit_step : (cs : Chunks) (k i : ℕ) (d : Chunk) → k < length cs → i < (get_or cs k d).width → slice_get (bits_of (drop k cs)) i ≡ Some (above (get_or cs k d).first i)
bit_step cs k i d h lt = ap (λ (x : Chunks). slice_get (bits_of x) i) (drop_more cs k d h) ∙ bit_here (get_or cs k d) (drop (k + 1) cs) i lt

pub bit_next : (cs : Chunks) (k i : ℕ) (d : Chunk) → k < length cs → (get_or cs k d).width ≤ i → slice_get (bits_of (drop k cs)) i ≡ slice_get (bits_of (drop (k + 1) cs)) (i - (get_or cs k d).width)
bit_next cs k i d h le = ap (λ (x : Chunks). slice_get (bits_of x) i) (drop_more cs k d h) ∙ bit_later (get_or cs k d) (drop (k + 1) cs) i le

pub long_step : (cs : Chunks) (k : ℕ) (d : Chunk) → k < length cs → length (bits_of (drop k cs)) ≡ (get_or cs k d).width + length (bits_of (drop (k + 1) cs))
long_step cs k d h = ap (λ (x : Chunks). length (bits_of x)) (drop_more cs k d h) ∙ bits_longer (get_or cs k d) (drop (k + 1) cs)

pub cut_next : (kept new total : Bits) (cs : Chunks) (k skip left count later : ℕ) (d : Chunk) → k < length cs → count ≡ min ((get_or cs k d).width - skip) left → later ≡ skip - (get_or cs k d).width
    → new ≡ kept ++ bits_from (get_or cs k d).first skip count → kept ++ take left (drop skip (bits_of (drop k cs))) ≡ total
    → new ++ take (left - count) (drop later (bits_of (drop (k + 1) cs))) ≡ total
cut_next kept new total cs k skip left count later d h n m e t =
    let c : Chunk = get_or cs k d in
    let rest : Bits = take (left - count) (drop later (bits_of (drop (k + 1) cs))) in
    let step : take left (drop skip (bits_of (drop k cs))) ≡ bits_from c.first skip count ++ rest =
    ap (λ (x : Chunks). take left (drop skip (bits_of x))) (drop_more cs k d h) ∙ rw (n, m) (cut_step c (drop (k + 1) cs) skip left) in
    ap (λ (x : Bits). x ++ rest) e ∙ append_assoc kept (bits_from c.first skip count) rest ∙ ap (λ (x : Bits). kept ++ x) (sym step) ∙ t

pub kept_none : (kept : Bits) (b : SigBit) (i n : ℕ) → n ≤ 0 → kept ≡ kept ++ bits_from b i n
kept_none kept b i zero h = sym (append-nil kept)
kept_none kept b i (suc n) h = absurd (omega arith)

-- ---- one bit after the other

-- the bits from a place of the first chunk on begin with the bit there
pub next_bit : (c : Chunk) (cs : Chunks) (i : ℕ) → i < c.width → drop i (bits_of (c ∷ cs)) ≡ above c.first i ∷ drop (i + 1) (bits_of (c ∷ cs))
next_bit c cs i h =
    let some : c.width - i ≡ suc (c.width - (i + 1)) = omega arith in
    let fits : i - length (chunk_bits c) ≡ 0 = omega (arith, h, bits_long c.first 0 c.width) in
    let after : i + 1 - length (chunk_bits c) ≡ 0 = omega (arith, h, bits_long c.first 0 c.width) in
    let next : 0 + (i + 1) ≡ i + 1 = omega arith in
    drop_both (chunk_bits c) (bits_of cs) i
    ∙ ap (λ (k : ℕ). drop i (chunk_bits c) ++ drop k (bits_of cs)) fits
    ∙ ap (λ (x : Bits). x ++ bits_of cs) (bits_drop c.first 0 c.width i ∙ ap (λ (k : ℕ). bits_from c.first k (c.width - i)) (from_zero i) ∙ ap (λ (n : ℕ). bits_from c.first i n) some)
    ∙ ap (λ (x : Bits). above c.first i ∷ x)
    (ap (λ (x : Bits). x ++ bits_of cs) (ap (λ (k : ℕ). bits_from c.first k (c.width - (i + 1))) (sym next) ∙ sym (bits_drop c.first 0 c.width (i + 1)))
    ∙ ap (λ (k : ℕ). drop (i + 1) (chunk_bits c) ++ drop k (bits_of cs)) (sym after)
    ∙ sym (drop_both (chunk_bits c) (bits_of cs) (i + 1)))

-- after the last bit of the first chunk stand the others' bits
pub next_chunk : (c : Chunk) (cs : Chunks) (i : ℕ) → i + 1 ≡ c.width → drop (i + 1) (bits_of (c ∷ cs)) ≡ bits_of cs
next_chunk c cs i h =
    let long : i + 1 - length (chunk_bits c) ≡ 0 = omega (arith, h, bits_long c.first 0 c.width) in
    let all : length (chunk_bits c) ≤ i + 1 = omega (arith, h, bits_long c.first 0 c.width) in
    drop_both (chunk_bits c) (bits_of cs) (i + 1) ∙ ap (λ (k : ℕ). drop (i + 1) (chunk_bits c) ++ drop k (bits_of cs)) long
    ∙ ap (λ (x : Bits). x ++ bits_of cs) (drop_all (i + 1) (chunk_bits c) all)
