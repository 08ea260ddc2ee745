-- From a cycle of the design with one cell lowered a cycle of the design, and back.
use Rattle.std.proofs.Common.{◌≡◌, ℕ, zero, suc, ◌+◌, ◌<◌, Bool, false, cond, eqb, List, [], ◌∷◌, ◌++◌, length, get_or, set, map, refl, ap, sym, ◌∙◌, arith}
use Rattle.std.specs.List.{range_with_len}
use Rattle.std.proofs.lemmas.Bool.{eq-eqb}
use Rattle.std.proofs.lemmas.List.{length-map}
use Rattle.std.proofs.lemmas.List.Elements.{All-append, All-weaker}
use Rattle.std.proofs.lemmas.List.FromFn.{length-range_with_len}
use Rattle.digraph.proofs.Lists.{get-below, get-push-new}
use Rattle.sby_bits.specs.Rows.{Row}
use Rattle.design_signals.specs.Chunks.{bits_from}
use Rattle.design_signals.specs.declared.sig_bit.SigBit.{SigBit}
use Rattle.design_signals.specs.declared.sig_bit.SigBit.TheVariants.{Wire, Const, Free}
use Rattle.design_core.specs.Asked.{number_at, output_of}
use Rattle.design_core.specs.Shape.{WireOf, CellOf, DesignOf, IsCellOf, IsConnectOf, IsDeclared}
use Rattle.design_core.specs.declared.names.ParameterName.TheVariants.{Width}
use Rattle.design_core.proofs.Designs.{IsCellOf-more, IsConnectOf-more, IsDeclared-wire}
use Rattle.design_meaning.specs.Meaning.{Valuation, Frame, IsCell, bit_in, row_in, kept_row}
use Rattle.design_lower.specs.Lowering.{FitsReset, IsKeptWire, kept_signal, register, shown, with_lowered}
use Rattle.design_lower.proofs.Alike.{IsWired, cell-wired, range-same}
use Rattle.design_lower.proofs.Fitting.{output-width}
use Rattle.design_lower.proofs.Lists.{eqb-other}
use Rattle.design_lower.proofs.Made.{IsMade, IsSeenOnce, shown-seen}
use Rattle.design_lower.proofs.Wiring.{All-set, one-of, register-is, shown-is}

-- ---- the lowered design is wired

pub IsWired-lowered : (d : DesignOf) → IsWired d → (i : ℕ) (c : CellOf) → IsCell d i c → (wire : WireOf) → IsKeptWire d i c wire → IsWired (with_lowered d i c wire)
IsWired-lowered d wired i c at wire kept =
    let ws : List WireOf = d.wires ++ wire ∷ [] in
    let there = get-push-new d.wires wire in
    let more : (x : CellOf) → IsCellOf d.wires d.free x → IsCellOf (d.wires ++ wire ∷ []) d.free x =
    IsCellOf-more d.wires (d.wires ++ wire ∷ []) d.free d.free (IsDeclared-wire d.wires wire d.free) (λ x h. h) in
    let is = more c (cell-wired d wired i c at) in
    record {
      cells = All-append (IsCellOf (d.wires ++ wire ∷ []) d.free) (set d.cells i (register (length d.wires) c)) (shown (length d.wires) c ∷ [])
          (All-set (IsCellOf (d.wires ++ wire ∷ []) d.free) d.cells i (register (length d.wires) c) (All-weaker (IsCellOf d.wires d.free) (IsCellOf (d.wires ++ wire ∷ []) d.free) more d.cells wired.cells)
          (register-is (d.wires ++ wire ∷ []) d.free c is (length d.wires) wire there kept.width))
          (one-of (IsCellOf (d.wires ++ wire ∷ []) d.free) (shown (length d.wires) c) (shown-is (d.wires ++ wire ∷ []) d.free c is (length d.wires) wire there kept.width));
      connects = All-weaker (IsConnectOf d.wires d.free) (IsConnectOf (d.wires ++ wire ∷ []) d.free)
          (IsConnectOf-more d.wires (d.wires ++ wire ∷ []) d.free d.free (IsDeclared-wire d.wires wire d.free) (λ x h. h)) d.connects wired.connects;
    }

-- ---- rows of the new wire

-- a row that a wire has from a place on
pub read-row : (w : Valuation) (n : ℕ) (r : Row) (s j : ℕ) → ((k p : ℕ) → k < length r → p ≡ s + (j + k) → w.wire n p ≡ get_or r k false) → row_in w (bits_from (Wire n s) j (length r)) ≡ r
read-row w n [] s j h = refl
read-row w n (b ∷ r) s j h =
    ap (λ (x : Bool). x ∷ row_in w (bits_from (Wire n s) (j + 1) (length r))) (h 0 (s + j) (omega arith) (omega arith))
    ∙ ap (λ (x : Row). b ∷ x) (read-row w n r s (j + 1) (λ k p lt e. h (suc k) p (omega (arith, lt)) (omega (arith, e))))

-- the lowest bits of a wire, by their places
pub range-row : (w : Valuation) (n a k : ℕ) → map (w.wire n) (range_with_len a k) ≡ row_in w (bits_from (Wire n 0) a k)
range-row w n a zero = refl
range-row w n a (suc k) =
    let e : a ≡ 0 + a = omega arith in
    ap (λ (x : ℕ). w.wire n x ∷ map (w.wire n) (range_with_len (a + 1) k)) e ∙ ap (λ (x : Row). w.wire n (0 + a) ∷ x) (range-row w n (a + 1) k)

module _ (d : DesignOf) (wired : IsWired d) (i : ℕ) (c : CellOf) (at : IsCell d i c) (fits : FitsReset c) (wire : WireOf) where
  -- ---- down

  abbrev pub down : Valuation → Valuation
  down w = record { wire = w.wire; free = w.free; kept = λ j k. cond (eqb j i) (w.wire (length d.wires) k) (w.kept j k) }

  module _ (w : Valuation) where
    down-bits : (b : SigBit) → bit_in (down w) b ≡ bit_in w b
    down-bits (Wire x b) = refl
    down-bits (Const b) = refl
    down-bits (Free n) = refl

    pub seen-down : IsSeenOnce d i c (down w) w
    seen-down = record {
      bits = λ b h. down-bits b;
      row =
          range-same ((down w).kept i) (w.wire (length d.wires)) (length (output_of c)) 0 (λ k from to. ap (λ (b : Bool). cond b (w.wire (length d.wires) k) (w.kept i k)) (eq-eqb i i refl))
          ∙ (ap (λ (n : ℕ). map (w.wire (length d.wires)) (range_with_len 0 n)) (output-width c fits) ∙ range-row w (length d.wires) 0 (number_at c.parameters Width));
      others = λ j x there n.
          range-same ((down w).kept j) (w.kept j) (length (output_of x)) 0 (λ k from to. ap (λ (b : Bool). cond b (w.wire (length d.wires) k) (w.kept j k)) (eqb-other j i n));
    }

  -- ---- up

  abbrev pub up : Valuation → Valuation
  up v = record { wire = λ x b. cond (eqb x (length d.wires)) (get_or (kept_row v i c) b false) (v.wire x b); free = v.free; kept = v.kept }

  module _ (v : Valuation) where
    up-bits : (b : SigBit) → IsDeclared d.wires d.free b → bit_in v b ≡ bit_in (up v) b
    up-bits (Wire x b) h =
        let lt = get-below d.wires x h.0 h.1 in
        sym (ap (λ (e : Bool). cond e (get_or (kept_row v i c) b false) (v.wire x b)) (eqb-other x (length d.wires) (λ e. absurd (omega (arith, lt, e)))))
    up-bits (Const b) h = refl
    up-bits (Free n) h = refl

    at-new : (p : ℕ) → (up v).wire (length d.wires) p ≡ get_or (kept_row v i c) p false
    at-new p = ap (λ (e : Bool). cond e (get_or (kept_row v i c) p false) (v.wire (length d.wires) p)) (eq-eqb (length d.wires) (length d.wires) refl)

    kept-length : length (kept_row v i c) ≡ number_at c.parameters Width
    kept-length = length-map (range_with_len 0 (length (output_of c))) (v.kept i) ∙ (length-range_with_len 0 (length (output_of c)) ∙ output-width c fits)

    up-kept : row_in (up v) (kept_signal (length d.wires) c) ≡ kept_row v i c
    up-kept =
        ap (λ (n : ℕ). row_in (up v) (bits_from (Wire (length d.wires) 0) 0 n)) (sym kept-length)
        ∙ read-row (up v) (length d.wires) (kept_row v i c) 0 0 (λ k p lt e.
        let same : p ≡ k = omega (arith, e) in
        at-new p ∙ ap (λ (q : ℕ). get_or (kept_row v i c) q false) same)

    pub seen-up : IsSeenOnce d i c v (up v)
    seen-up = record { bits = up-bits; row = sym up-kept; others = λ j x there n. refl }

    pub made-up : Frame d v → IsMade (length d.wires) c (up v)
    made-up f = (shown-seen d wired i c at fits wire v (up v) seen-up).0 (f.resets i c at fits.role)
