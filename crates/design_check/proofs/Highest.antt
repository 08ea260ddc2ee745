-- The wire of a signal's highest wire bit, by its chunks.
use Rattle.std.proofs.Common.{◌≡◌, ℕ, zero, suc, ◌+◌, ◌-◌, ◌<◌, ◌≤◌, List, [], ◌∷◌, ◌++◌, drop, length, get_or, Option, Some, None, All, refl, ap, sym, ◌∙◌, arith}
use Rattle.std.specs.Prelude.{slice_get}
use Rattle.std.specs.Option.{option_or}
use Rattle.std.proofs.lemmas.Option.{slice_get_within}
use Rattle.std.proofs.lemmas.List.Elements.{All-head, All-tail}
use Rattle.design_core.specs.Shape.{WireOf, DesignOf, IsDeclared}
use Rattle.std.proofs.lemmas.List.{drop_more, drop_all}
use Rattle.design_check.specs.Faults.{first_some, highest_wire, wire_of, wire_name, name_in}
use Rattle.design_signals.specs.Chunks.{IsChunk, above, bits_from, bits_of, chunk_bits}
use Rattle.design_signals.specs.declared.chunk.Chunk.{Chunk}
use Rattle.design_signals.specs.declared.sig_bit.SigBit.{SigBit}
use Rattle.design_signals.specs.declared.sig_bit.SigBit.TheVariants.{Wire, Const, Free}

some-or : (a b c : Option ℕ) → first_some a (first_some b c) ≡ first_some (first_some a b) c
some-or (Some x) b c = refl
some-or None b c = refl

pub highest-append : (xs ys : List SigBit) → highest_wire (xs ++ ys) ≡ first_some (highest_wire ys) (highest_wire xs)
highest-append [] ys = sym (none (highest_wire ys))
  where
    none : (a : Option ℕ) → first_some a None ≡ a
    none (Some x) = refl
    none None = refl
highest-append (x ∷ xs) ys =
    ap (λ (a : Option ℕ). first_some a (wire_of x)) (highest-append xs ys) ∙ sym (some-or (highest_wire ys) (highest_wire xs) (wire_of x))

above-wire : (b : SigBit) (i : ℕ) → wire_of (above b i) ≡ wire_of b
above-wire (Wire w b) i = refl
above-wire (Const b) i = refl
above-wire (Free n) i = refl

same-some : (a : Option ℕ) → first_some a a ≡ a
same-some (Some x) = refl
same-some None = refl

chunk-from : (b : SigBit) (i n : ℕ) → highest_wire (bits_from b i (suc n)) ≡ wire_of b
chunk-from b i zero = above-wire b i
chunk-from b i (suc n) =
    ap (λ (a : Option ℕ). first_some a (wire_of (above b i))) (chunk-from b (i + 1) n) ∙ (ap (λ (a : Option ℕ). first_some (wire_of b) a) (above-wire b i) ∙ same-some (wire_of b))

-- a chunk's bits are of one wire, or of none
pub highest-chunk : (b : SigBit) (n : ℕ) → 0 < n → highest_wire (bits_from b 0 n) ≡ wire_of b
highest-chunk b zero h = absurd (omega arith)
highest-chunk b (suc n) h = chunk-from b 0 n

module _ (cs : List Chunk) (k : ℕ) (d : Chunk) (lt : k < length cs) (some : 0 < (get_or cs k d).width) where
  -- the wires from a place on, by its chunk and those after it
  pub highest-next : highest_wire (bits_of (drop k cs)) ≡ first_some (highest_wire (bits_of (drop (k + 1) cs))) (wire_of (get_or cs k d).first)
  highest-next =
      ap (λ (l : List Chunk). highest_wire (bits_of l)) (drop_more cs k d lt)
      ∙ (highest-append (chunk_bits (get_or cs k d)) (bits_of (drop (k + 1) cs))
      ∙ ap (λ (a : Option ℕ). first_some (highest_wire (bits_of (drop (k + 1) cs))) a) (highest-chunk (get_or cs k d).first (get_or cs k d).width some))

-- what the chunks from a place on have is what all have
pub highest-all : (cs : List Chunk) (k w : ℕ) → highest_wire (bits_of (drop k cs)) ≡ Some w → highest_wire (bits_of cs) ≡ Some w
highest-all [] zero w e = e
highest-all [] (suc k) w e = e
highest-all (c ∷ cs) zero w e = e
highest-all (c ∷ cs) (suc k) w e =
    highest-append (chunk_bits c) (bits_of cs) ∙ ap (λ (a : Option ℕ). first_some a (highest_wire (chunk_bits c))) (highest-all cs k w e)

pub none-of : (o : Option ℕ) → ((x : ℕ) → o ≡ Some x → ⊥) → o ≡ None
none-of None h = refl
none-of (Some x) h = absurd (h x refl)

module _ (cs : List Chunk) (k : ℕ) (d : Chunk) (some : 0 < k) (within : k ≤ length cs) (each : All IsChunk cs) (rest : highest_wire (bits_of (drop k cs)) ≡ None) where
  -- the wires from the place before on are those of its chunk
  before : highest_wire (bits_of (drop (k - 1) cs)) ≡ wire_of (get_or cs (k - 1) d).first
  before =
      let lt : k - 1 < length cs = omega arith in
      let next : (k - 1) + 1 ≡ k = omega arith in
      highest-next cs (k - 1) d lt (each (k - 1) d lt).some
      ∙ ap (λ (o : Option ℕ). first_some o (wire_of (get_or cs (k - 1) d).first)) (ap (λ (j : ℕ). highest_wire (bits_of (drop j cs))) next ∙ rest)

  pub highest-found : (w : ℕ) → Some w ≡ wire_of (get_or cs (k - 1) d).first → Some w ≡ highest_wire (bits_of cs)
  highest-found w e = sym (highest-all cs (k - 1) w (before ∙ sym e))

  pub highest-step : wire_of (get_or cs (k - 1) d).first ≡ None → highest_wire (bits_of (drop (k - 1) cs)) ≡ None
  highest-step e = before ∙ e

pub highest-none : (cs : List Chunk) (k : ℕ) → length cs ≤ k → highest_wire (bits_of (drop k cs)) ≡ None
highest-none cs k h = ap (λ (l : List Chunk). highest_wire (bits_of l)) (drop_all k cs h)

pub first_some-or : (a b : Option ℕ) → option_or a b ≡ first_some a b
first_some-or None b = refl
first_some-or (Some w) b = refl

module _ (ws : List WireOf) (free : ℕ) where
  wire_of-declared : (x : SigBit) (w : ℕ) → IsDeclared ws free x → wire_of x ≡ Some w → w < length ws
  wire_of-declared (Wire u b) w h e = let same : u ≡ w = cc in let lt = slice_get_within ws u h.0 h.1 in omega (arith, same, lt)
  wire_of-declared (Const b) w h e = cc
  wire_of-declared (Free n) w h e = cc

  highest-by : (o : Option ℕ) (x : SigBit) (w : ℕ) → ((u : ℕ) → o ≡ Some u → u < length ws) → IsDeclared ws free x → first_some o (wire_of x) ≡ Some w → w < length ws
  highest-by None x w rest h e = wire_of-declared x w h e
  highest-by (Some u) x w rest h e = rest w e

  pub highest_wire-declared : (xs : List SigBit) → All (IsDeclared ws free) xs → (w : ℕ) → highest_wire xs ≡ Some w → w < length ws
  highest_wire-declared [] h w e = cc
  highest_wire-declared (x ∷ xs) h w e =
      highest-by (highest_wire xs) x w (highest_wire-declared xs (All-tail (IsDeclared ws free) x xs h)) (All-head (IsDeclared ws free) x xs h) e

  pub either-declared : (xs ys : List SigBit) → All (IsDeclared ws free) xs → All (IsDeclared ws free) ys → (w : ℕ) → first_some (highest_wire xs) (highest_wire ys) ≡ Some w → w < length ws
  either-declared xs ys h k w e = by (highest_wire xs) (highest_wire-declared xs h) e
    where
      by : (o : Option ℕ) → ((u : ℕ) → o ≡ Some u → u < length ws) → first_some o (highest_wire ys) ≡ Some w → w < length ws
      by None _ f = highest_wire-declared ys k w f
      by (Some u) rest f = rest w f

pub wire_name-at : (d : DesignOf) (w : ℕ) (x : WireOf) → slice_get d.wires w ≡ Some x → wire_name d w ≡ x.name
wire_name-at d w x h = ap name_in h
