-- Loops of a design, and of the design with one cell lowered.
use Rattle.std.proofs.Common.{◌≡◌, ◌⊎◌, inl, inr, ℕ, zero, suc, ◌+◌, ◌<◌, Bool, true, false, cond, List, [], ◌∷◌, length, map, set, Option, Some, None, Contains, All, refl, ap, sym, subst, ◌∙◌, arith}
use Rattle.std.specs.Prelude.{slice_get}
use Rattle.std.proofs.lemmas.List.Elements.{All-contains}
use Rattle.cell_table.specs.declared.kind.Kind.{Kind}
use Rattle.design_signals.specs.declared.sig_bit.SigBit.{SigBit}
use Rattle.design_signals.specs.declared.sig_bit.SigBit.TheVariants.{Wire, Const, Free}
use Rattle.design_core.specs.Asked.{number_at, output_of}
use Rattle.design_core.specs.Ports.{signal_at, digits_at}
use Rattle.design_core.specs.Shape.{WireOf, CellOf, DesignOf, IsCellOf, IsDeclared}
use Rattle.design_core.specs.Table.{ports_in_cycle, ports_of, ports_read, role_of}
use Rattle.design_core.specs.declared.table.PortLine.{PortLine}
use Rattle.design_core.specs.declared.table.Role.{Role}
use Rattle.design_core.specs.declared.digit.Digit.{Digit}
use Rattle.design_core.specs.declared.digit.Digit.TheVariants.{Const as ConstDigit, Free as FreeDigit, Marker}
use Rattle.design_core.specs.declared.names.PortName.{PortName}
use Rattle.design_core.specs.declared.names.PortName.TheVariants.{A, B, S, Arst}
use Rattle.design_core.specs.declared.names.ParameterName.TheVariants.{ArstPolarity, ArstValue, Width}
use Rattle.design_core.specs.declared.table.Role.TheVariants.{Combinational, Register, AsyncResetRegister}
use Rattle.design_core.proofs.Lists.{Contains-from_place, one_at, place-from_Contains}
use Rattle.design_check.specs.Faults.{flag}
use Rattle.design_meaning.specs.Meaning.{IsCell}
use Rattle.design_meaning.specs.Rests.{IsDigit, IsOnLoop, IsPortBit, IsResetBit, Rests, RestsOn}
use Rattle.design_lower.specs.Lowering.{FitsReset, IsKeptWire, digit_bit, digits_or_none, enabled_register, kept_signal, plain_register, register, reset_signal, shown, with_lowered}
use Rattle.design_lower.proofs.Alike.{IsWired, cell-wired, connect-wired}
use Rattle.design_lower.proofs.Beginning.{first-bit, first-bits, no-wire}
use Rattle.design_lower.proofs.Driven.{IsUnique, one-cell, other-item, register-output}
use Rattle.design_lower.proofs.Wiring.{reset-declared, signal-declared}
use Rattle.design_graph.specs.Items.{DrivesBit, IsNoWire}
use Rattle.design_graph.specs.declared.item.Item.{Item}
use Rattle.design_graph.specs.declared.item.Item.TheVariants.{Cell, Connect}
use Rattle.design_graph.proofs.Declared.{read-numbered}
use Rattle.design_lower.proofs.Cells.{enabled-form, form-of, lowered-cases, other-there, place-cases, plain-form, register-there, shown-there}
use Rattle.design_lower.proofs.Fitting.{kind-cases}

-- a free digit of ARST_VALUE is a bit of the signal
digit-there : (xs : List Digit) (n : ℕ) → Contains xs (FreeDigit n) → Contains (map digit_bit xs) (Free n)
digit-there xs n h = let p = place-from_Contains xs (FreeDigit n) h in Contains-from_place (map digit_bit xs) p.0 (Free n) (at xs p.0 p.1)
  where
    at : (ys : List Digit) (k : ℕ) → slice_get ys k ≡ Some (FreeDigit n) → slice_get (map digit_bit ys) k ≡ Some (Free n)
    at [] k e = cc
    at (y ∷ ys) zero e = let same : y ≡ FreeDigit n = cc in ap (λ z. Some (digit_bit z)) same
    at (y ∷ ys) (suc k) e = at ys k e

option-there : (o : Option (List Digit)) (n : ℕ) → IsDigit o (FreeDigit n) → Contains (map digit_bit (digits_or_none o)) (Free n)
option-there None n h = absurd h
option-there (Some xs) n h = digit-there xs n h

-- such a port is read by a lowered register alone
reads-reset : (c : CellOf) → FitsReset c → (p : PortName) → Contains (ports_read c.kind) p → p ≡ Arst
reads-reset c fits p h = elim (kind-cases c.kind fits.role) as (λ _. p ≡ Arst) [
  | inl e ↦ by (subst (λ (k : Kind). Contains (ports_read k) p) e h)
  | inr e ↦ by (subst (λ (k : Kind). Contains (ports_read k) p) e h)
]
  where
    by : Contains (Arst ∷ []) p → p ≡ Arst
    by g = let q = place-from_Contains (Arst ∷ []) p g in at q.0 q.1
      where
        at : (k : ℕ) → slice_get (Arst ∷ []) k ≡ Some p → p ≡ Arst
        at zero e = cc
        at (suc k) e = absurd cc

-- what the reset signal has is on one of the two data ports
data-port : (f : Bool) (xs ys : List SigBit) (b : SigBit) → Contains xs b → Contains (cond f ys xs) b ⊎ Contains (cond f xs ys) b
data-port true xs ys b h = inr h
data-port false xs ys b h = inl h

module _ (d : DesignOf) (wired : IsWired d) (i : ℕ) (c : CellOf) (at : IsCell d i c) (fits : FitsReset c) (wire : WireOf) where
  abbrev shown-place : ℕ
  shown-place = length (set d.cells i (register (length d.wires) c)) + 0

  -- what the lowered cell's output rests on, the `$mux` of what is shown reads
  shown-reads : (b : SigBit) → IsPortBit c b ⊎ IsResetBit c b → IsPortBit (shown (length d.wires) c) b
  shown-reads b (inl h) =
      let same = reads-reset c fits h.0 h.1 in
      (S, (2, omega arith, refl), subst (λ (p : PortName). Contains (signal_at c.ports p) b) same h.2)
  shown-reads b (inr h) =
      let r = h.1 in
      let there : Contains (reset_signal c) b = subst (λ (y : SigBit). Contains (reset_signal c) y) (sym r.1) (option-there (digits_at c.parameters ArstValue) r.0 r.2) in
      elim (data-port (flag c ArstPolarity) (reset_signal c) (kept_signal (length d.wires) c) b there) as (λ _. IsPortBit (shown (length d.wires) c) b) [
        | inl low ↦ (A, (0, omega arith, refl), low)
        | inr high ↦ (B, (1, omega arith, refl), high)
      ]

  rests-step : (a b : SigBit) → RestsOn d a b → RestsOn (with_lowered d i c wire) a b
  rests-step a b (inr h) = inr h
  rests-step a b (inl h) = elim (place-cases d i c at wire h.0 h.1 h.2) as (λ _. RestsOn (with_lowered d i c wire) a b) [
    | inl e ↦
        let out : Contains (output_of c) a = subst (λ (x : CellOf). Contains (output_of x) a) e.1 h.3 in
        let reads : IsPortBit c b ⊎ IsResetBit c b = subst (λ (x : CellOf). IsPortBit x b ⊎ IsResetBit x b) e.1 h.4 in
        inl (shown-place, shown (length d.wires) c, shown-there d i c at wire, out, inl (shown-reads b reads))
    | inr n ↦ inl (h.0, h.1, other-there d i c at wire h.0 h.1 h.2 n, h.3, h.4)
  ]

  pub rests-to : (n : ℕ) (a b : SigBit) → Rests d n a b → Rests (with_lowered d i c wire) n a b
  rests-to zero a b h = h
  rests-to (suc n) a b h = (h.0, rests-step a h.0 h.1, rests-to n h.0 b h.2)

-- ---- back: what is on a loop of the lowered design is on a loop of the design

pub drives-rest : (d : DesignOf) (a b : SigBit) → RestsOn d a b → (e : Item) × (k : ℕ) × DrivesBit d e k a
drives-rest d a b (inl h) = let k = place-from_Contains (output_of h.1) a h.3 in (Cell h.0, k.0, (h.1, h.2, k.1))
drives-rest d a b (inr h) = (Connect h.0, h.2, (h.1, h.3, h.4))

last-rest : (d : DesignOf) (n : ℕ) (a b : SigBit) → Rests d (suc n) a b → (z : SigBit) × RestsOn d z b
last-rest d zero a b h = (a, subst (λ (x : SigBit). RestsOn d a x) h.2 h.1)
last-rest d (suc n) a b h = last-rest d n h.0 b h.2

module _ (d : DesignOf) (wired : IsWired d) (i : ℕ) (c : CellOf) (at : IsCell d i c) (fits : FitsReset c) (wire : WireOf) (kept : IsKeptWire d i c wire) (unique : IsUnique (with_lowered d i c wire)) where
  register-reads : (b : SigBit) → IsPortBit (register (length d.wires) c) b ⊎ IsResetBit (register (length d.wires) c) b → ⊥
  register-reads b h = elim (form-of c fits) as (λ _. ⊥) [
    | inl plain ↦ by (plain_register (length d.wires) c) refl (subst (λ (x : CellOf). IsPortBit x b ⊎ IsResetBit x b) (plain-form (length d.wires) c plain.1) h)
    | inr enabled ↦ by (enabled_register (length d.wires) c) refl (subst (λ (x : CellOf). IsPortBit x b ⊎ IsResetBit x b) (enabled-form (length d.wires) c enabled.1) h)
  ]
    where
      none : (role : Role) (names : List PortName) → role ≡ Register → (p : PortName) → Contains (ports_in_cycle role names) p → ⊥
      none role names e p g =
          let q = place-from_Contains (ports_in_cycle Register names) p (subst (λ (r : Role). Contains (ports_in_cycle r names) p) e g) in
          nothing q.0 q.1
        where
          nothing : (k : ℕ) → slice_get [] k ≡ Some p → ⊥
          nothing k f = cc

      by : (x : CellOf) → role_of x.kind ≡ Register → IsPortBit x b ⊎ IsResetBit x b → ⊥
      by x role (inl g) = none (role_of x.kind) (map (λ (l : PortLine). l.name) (ports_of x.kind)) role g.0 g.1
      by x role (inr g) = let clash : Register ≡ AsyncResetRegister = sym role ∙ g.0 in absurd cc

  -- what the `$mux` reads
  muxed : (b : SigBit) → IsPortBit (shown (length d.wires) c) b ⊎ IsResetBit (shown (length d.wires) c) b
      → Contains (reset_signal c) b ⊎ (Contains (kept_signal (length d.wires) c) b ⊎ Contains (signal_at c.ports Arst) b)
  muxed b (inr g) = let clash : Combinational ≡ AsyncResetRegister = g.0 in absurd cc
  muxed b (inl g) = let q = place-from_Contains (A ∷ B ∷ S ∷ []) g.0 g.1 in by q.0 q.1
    where
      low : (f : Bool) → Contains (cond f (kept_signal (length d.wires) c) (reset_signal c)) b
          → Contains (reset_signal c) b ⊎ (Contains (kept_signal (length d.wires) c) b ⊎ Contains (signal_at c.ports Arst) b)
      low true h = inr (inl h)
      low false h = inl h

      high : (f : Bool) → Contains (cond f (reset_signal c) (kept_signal (length d.wires) c)) b
          → Contains (reset_signal c) b ⊎ (Contains (kept_signal (length d.wires) c) b ⊎ Contains (signal_at c.ports Arst) b)
      high true h = inl h
      high false h = inr (inl h)

      by : (k : ℕ) → slice_get (A ∷ B ∷ S ∷ []) k ≡ Some g.0 → Contains (reset_signal c) b ⊎ (Contains (kept_signal (length d.wires) c) b ⊎ Contains (signal_at c.ports Arst) b)
      by zero e = let same : A ≡ g.0 = cc in low (flag c ArstPolarity) (subst (λ (p : PortName). Contains (signal_at (shown (length d.wires) c).ports p) b) (sym same) g.2)
      by (suc zero) e = let same : B ≡ g.0 = cc in high (flag c ArstPolarity) (subst (λ (p : PortName). Contains (signal_at (shown (length d.wires) c).ports p) b) (sym same) g.2)
      by (suc (suc zero)) e = let same : S ≡ g.0 = cc in inr (inr (subst (λ (p : PortName). Contains (signal_at (shown (length d.wires) c).ports p) b) (sym same) g.2))
      by (suc (suc (suc k))) e = absurd cc

  abbrev pub IsKeptBit : SigBit → Type 0
  IsKeptBit b = (p : ℕ) × (p < number_at c.parameters Width) × (b ≡ Wire (length d.wires) p)

  is : IsCellOf d.wires d.free c
  is = cell-wired d wired i c at

  in-all : (s : List SigBit) (b : SigBit) → All (IsDeclared d.wires d.free) s → Contains s b → IsDeclared d.wires d.free b
  in-all s b all h = All-contains (IsDeclared d.wires d.free) s b all h

  kept-bit : (b : SigBit) → Contains (kept_signal (length d.wires) c) b → IsKeptBit b
  kept-bit b h =
      let q = place-from_Contains (kept_signal (length d.wires) c) b h in
      let bit = first-bits (length d.wires) (number_at c.parameters Width) q.0 b q.1 in (q.0, bit.0, bit.1)

  shown-target : (b : SigBit) → IsPortBit (shown (length d.wires) c) b ⊎ IsResetBit (shown (length d.wires) c) b → IsDeclared d.wires d.free b ⊎ IsKeptBit b
  shown-target b h = elim (muxed b h) as (λ _. IsDeclared d.wires d.free b ⊎ IsKeptBit b) [
    | inl reset ↦ inl (in-all (reset_signal c) b (reset-declared d.wires d.free c is) reset)
    | inr rest ↦ elim rest as (λ _. IsDeclared d.wires d.free b ⊎ IsKeptBit b) [
      | inl other ↦ inr (kept-bit b other)
      | inr arst ↦ inl (in-all (signal_at c.ports Arst) b (signal-declared d.wires d.free c is Arst) arst)
    ]
  ]

  -- what something rests on is a bit of d, or is kept
  target : (a b : SigBit) → RestsOn (with_lowered d i c wire) a b → IsDeclared d.wires d.free b ⊎ IsKeptBit b
  target a b (inr h) = inl (All-contains (IsDeclared d.wires d.free) h.1.right b (connect-wired d wired h.0 h.1 h.3).1 (Contains-from_place h.1.right h.2 b h.5))
  target a b (inl h) = elim (lowered-cases d i c at wire h.0 h.1 h.2) as (λ _. IsDeclared d.wires d.free b ⊎ IsKeptBit b) [
    | inl e ↦ absurd (register-reads b (subst (λ (x : CellOf). IsPortBit x b ⊎ IsResetBit x b) e.1 h.4))
    | inr rest ↦ elim rest as (λ _. IsDeclared d.wires d.free b ⊎ IsKeptBit b) [
      | inl o ↦ inl (read-numbered d.wires d.free h.1 (cell-wired d wired h.0 h.1 o.1) b h.4)
      | inr e ↦ shown-target b (subst (λ (x : CellOf). IsPortBit x b ⊎ IsResetBit x b) e h.4)
    ]
  ]

  -- a kept bit rests on nothing
  kept-rests : (b z : SigBit) → IsKeptBit b → RestsOn (with_lowered d i c wire) b z → ⊥
  kept-rests b z k h =
      let there : DrivesBit (with_lowered d i c wire) (Cell i) k.0 b = (
        register (length d.wires) c,
        register-there d i c at wire,
        ap (λ (s : List SigBit). slice_get s k.0) (register-output d wired i c at fits wire kept) ∙ (first-bit (length d.wires) (number_at c.parameters Width) k.0 k.1 ∙ ap (λ (x : SigBit). Some x) (sym k.2)),
      ) in
      by h there
    where
      by : RestsOn (with_lowered d i c wire) b z → DrivesBit (with_lowered d i c wire) (Cell i) k.0 b → ⊥
      by (inr g) there = other-item i g.0 (unique.one (Cell i) (Connect g.0) k.0 g.2 b there (g.1, g.3, g.4)).0
      by (inl g) there =
          let q = place-from_Contains (output_of g.1) b g.3 in
          let same = one-cell i g.0 (unique.one (Cell i) (Cell g.0) k.0 q.0 b there (g.1, g.2, q.1)).0 in
          let here : register (length d.wires) c ≡ g.1 =
          one_at (with_lowered d i c wire).cells i (register (length d.wires) c) g.1 (register-there d i c at wire) (subst (λ (n : ℕ). IsCell (with_lowered d i c wire) n g.1) (sym same) g.2) in
          register-reads z (subst (λ (x : CellOf). IsPortBit x z ⊎ IsResetBit x z) (sym here) g.4)

  abbrev pub IsConst : SigBit → Type 0
  IsConst b = (x : Bool) × (b ≡ Const x)

  abbrev pub IsGood : SigBit → Type 0
  IsGood b = IsDeclared d.wires d.free b × (IsConst b → ⊥)

  good : (a b z : SigBit) → RestsOn (with_lowered d i c wire) a b → RestsOn (with_lowered d i c wire) b z → IsGood b
  good a b z before next =
      let drives = drives-rest (with_lowered d i c wire) b z next in (
        elim (target a b before) as (λ _. IsDeclared d.wires d.free b) [ inl declared ↦ declared | inr k ↦ absurd (kept-rests b z k next) ],
        λ k. unique.wire drives.0 drives.1 b drives.2 (subst (λ (x : SigBit). IsNoWire x) (sym k.1) tt),
      )

  not-new : (b : SigBit) (p : ℕ) → IsDeclared d.wires d.free b → b ≡ Wire (length d.wires) p → ⊥
  not-new b p h e = no-wire d wired p (subst (λ (x : SigBit). IsDeclared d.wires d.free x) e h)

  -- a bit of the reset signal that is no constant is a free bit of the value
  reset-bit : (b : SigBit) → Contains (reset_signal c) b → (IsConst b → ⊥) → IsResetBit c b
  reset-bit b h other = (fits.role, by (digits_at c.parameters ArstValue) h)
    where
      each : (xs : List Digit) (k : ℕ) → slice_get (map digit_bit xs) k ≡ Some b → (n : ℕ) × (b ≡ Free n) × Contains xs (FreeDigit n)
      each [] k e = cc
      each (ConstDigit x ∷ xs) zero e = let same : b ≡ Const x = cc in absurd (other (x, same))
      each (FreeDigit n ∷ xs) zero e = let same : b ≡ Free n = cc in (n, same, (0, omega arith, refl))
      each (Marker ∷ xs) zero e = let same : b ≡ Const false = cc in absurd (other (false, same))
      each (x ∷ xs) (suc k) e =
          let r = each xs k e in
          let q = place-from_Contains xs (FreeDigit r.0) r.2 in
          (r.0, r.1, Contains-from_place (x ∷ xs) (suc q.0) (FreeDigit r.0) q.1)

      by : (o : Option (List Digit)) → Contains (map digit_bit (digits_or_none o)) b → (n : ℕ) × (b ≡ Free n) × IsDigit o (FreeDigit n)
      by None g = let q = place-from_Contains [] b g in absurd (nothing q.0 q.1)
        where
          nothing : (k : ℕ) → slice_get [] k ≡ Some b → ⊥
          nothing k e = cc
      by (Some xs) g = let q = place-from_Contains (map digit_bit xs) b g in each xs q.0 q.1

  reads-arst : Contains (ports_read c.kind) Arst
  reads-arst = elim (kind-cases c.kind fits.role) as (λ _. Contains (ports_read c.kind) Arst) [
    | inl e ↦ subst (λ (k : Kind). Contains (ports_read k) Arst) (sym e) (0, omega arith, refl)
    | inr e ↦ subst (λ (k : Kind). Contains (ports_read k) Arst) (sym e) (0, omega arith, refl)
  ]

  -- a step between bits of d is a step of d
  step-from : (a b : SigBit) → RestsOn (with_lowered d i c wire) a b → IsGood a → IsGood b → RestsOn d a b
  step-from a b (inr h) ga gb = inr h
  step-from a b (inl h) ga gb = elim (lowered-cases d i c at wire h.0 h.1 h.2) as (λ _. RestsOn d a b) [
    | inl e ↦ absurd (register-reads b (subst (λ (x : CellOf). IsPortBit x b ⊎ IsResetBit x b) e.1 h.4))
    | inr rest ↦ elim rest as (λ _. RestsOn d a b) [
      | inl o ↦ inl (h.0, h.1, o.1, h.3, h.4)
      | inr f ↦
          let out : Contains (output_of c) a = subst (λ (x : CellOf). Contains (output_of x) a) f h.3 in
          elim (muxed b (subst (λ (x : CellOf). IsPortBit x b ⊎ IsResetBit x b) f h.4)) as (λ _. RestsOn d a b) [
            | inl reset ↦ inl (i, c, at, out, inr (reset-bit b reset gb.1))
            | inr more ↦ elim more as (λ _. RestsOn d a b) [
              | inl other ↦ let k = kept-bit b other in absurd (not-new b k.0 gb.0 k.2)
              | inr arst ↦ inl (i, c, at, out, inl (Arst, reads-arst, arst))
            ]
          ]
    ]
  ]

  rests-from : (n : ℕ) (a b z : SigBit) → Rests (with_lowered d i c wire) n a b → IsGood a → IsGood b → RestsOn (with_lowered d i c wire) b z → Rests d n a b
  rests-from zero a b z h ga gb next = h
  rests-from (suc n) a b z h ga gb next =
      let gm : IsGood h.0 = middle n h.2 in
      (h.0, step-from a h.0 h.1 ga gm, rests-from n h.0 b z h.2 gm gb next)
    where
      middle : (k : ℕ) → Rests (with_lowered d i c wire) k h.0 b → IsGood h.0
      middle zero e = subst (λ (x : SigBit). IsGood x) (sym e) gb
      middle (suc k) e = good a h.0 e.0 h.1 e.1

  pub loop-from : (a : SigBit) → IsOnLoop (with_lowered d i c wire) a → IsOnLoop d a
  loop-from a h =
      let last = last-rest (with_lowered d i c wire) h.0 a a h.1 in
      let first = h.1 in
      let g = good last.0 a first.0 last.1 first.1 in
      (h.0, rests-from (suc h.0) a a first.0 h.1 g g first.1)
