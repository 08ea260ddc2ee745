-- What is in a cone of a design's model is read in the design.
use Rattle.std.proofs.Common.{◌≡◌, ◌⊎◌, inl, inr, ℕ, zero, suc, ◌<◌, Bool, true, false, List, [], length, map, Some, Contains, refl, ap, sym, subst, ◌∙◌, arith}
use Rattle.std.specs.Prelude.{slice_get}
use Rattle.std.specs.List.{enumerate_from, range_with_len}
use Rattle.std.proofs.lemmas.Bool.{cases_lt}
use Rattle.std.proofs.lemmas.List.Elements.{All-contains}
use Rattle.design_check.specs.Faults.{IsFlat}
use Rattle.design_core.specs.Asked.{output_of}
use Rattle.design_core.specs.Places.{place_of}
use Rattle.design_core.specs.Ports.{digits_at, signal_at}
use Rattle.design_core.specs.Shape.{CellOf, DesignOf, IsDeclared, IsDesign, IsNumbered}
use Rattle.design_core.specs.Table.{role_of}
use Rattle.design_core.specs.declared.digit.Digit.TheVariants.{Free as FreeDigit}
use Rattle.design_core.specs.declared.names.ParameterName.{ParameterName}
use Rattle.design_core.specs.declared.names.ParameterName.TheVariants.{ArstValue, SrstValue}
use Rattle.design_core.specs.declared.names.PortName.{PortName}
use Rattle.design_core.specs.declared.names.PortName.TheVariants.{A, B, S, En, D, Srst, Arst}
use Rattle.design_core.specs.declared.table.Role.{Role}
use Rattle.design_core.specs.declared.table.Role.TheVariants.{Combinational, Register, AsyncResetRegister, Constant, Initial, Source, Statement, Unsupported}
use Rattle.design_core.proofs.Lists.{Contains-from_place, one_at, place-from_Contains}
use Rattle.design_core.proofs.Places.{place_of-same, place_of-within, sum_by-before}
use Rattle.design_graph.specs.Order.{IsOrder}
use Rattle.design_graph.specs.declared.driver.Driver.{Driver}
use Rattle.design_graph.proofs.Declared.{All-digits_at, All-signal_at, cell-declared, digit-in, left-declared, output-declared, right-declared}
use Rattle.design_graph.proofs.Unique.{left-wire, output-wire}
use Rattle.design_meaning.specs.Meaning.{Chain, IsCell, IsConnected, is_assert, is_assume, is_cover}
use Rattle.design_meaning.specs.Rests.{IsDigit}
use Rattle.design_meaning.specs.Runs.{kept_by_role, kept_width}
use Rattle.design_meaning.specs.States.{Kept, Signal, StateBit, input_bits, state_bits, state_of, state_of_role}
use Rattle.design_signals.specs.declared.sig_bit.SigBit.{SigBit}
use Rattle.design_signals.specs.declared.sig_bit.SigBit.TheVariants.{Wire, Const, Free}
use Rattle.design_states.proofs.Giving.{from-lists}
use Rattle.model_cone.specs.Cone.{IsAsked, IsInCone, IsRoot, RestsIn, RestsOn}
use Rattle.model_cone.specs.declared.asked.Asked.{Asked}
use Rattle.model_cone.specs.declared.asked.Asked.TheVariants.{Asserts, Covers}
use Rattle.model_core.specs.Shape.{ModelOf}
use Rattle.model_core.specs.declared.model.Statement.{Statement as StatementOf}
use Rattle.word_model.specs.Built.{IsBuilt}
use Rattle.word_model.specs.Layout.{state_place}
use Rattle.word_model.proofs.Following.{enumerated-back}
use Rattle.word_model.proofs.Owning.{input-cases, input-declared, in-range, map-member, once}
use Rattle.model_laws.specs.Reads.{IsReadAt, IsReadOtherwise, IsResetDigit, IsStateRead, ReadsOtherwise}
use Rattle.model_laws.proofs.Steps.{Constants, IsKeptAt, IsKnown, Links, Reads, Shows, Stays, Step, node-step, register-step, statement-step}

-- a bit that isn't a constant
abbrev pub IsVariable : SigBit → Type 0
IsVariable b = (x : Bool) → b ≡ Const x → ⊥

wire-varies : (b : SigBit) → (w : ℕ) × (n : ℕ) × (b ≡ Wire w n) → IsVariable b
wire-varies b w x e = apart w.0 w.1 x (sym w.2 ∙ e)
  where
    apart : (m n : ℕ) (y : Bool) → Wire m n ≡ Const y → ⊥
    apart m n y h = cc

free-varies : (b : SigBit) → (n : ℕ) × (b ≡ Free n) → IsVariable b
free-varies b f x e = apart f.0 x (sym f.1 ∙ e)
  where
    apart : (n : ℕ) (y : Bool) → Free n ≡ Const y → ⊥
    apart n y h = cc

-- a chain with one more connect at its end
chain-more : (d : DesignOf) (n : ℕ) (a b c : SigBit) → Chain d n a b → IsConnected d b c → Chain d (suc n) a c
chain-more d zero a b c h link = (c, subst (λ (z : SigBit). IsConnected d z c) (sym h) link, refl)
chain-more d (suc n) a b c h link = (h.0, h.1, chain-more d n h.0 b c h.2 link)

module _ (d : DesignOf) (shape : IsDesign d) where
  -- what a cell reads is declared
  read-declared : (i : ℕ) (c : CellOf) (b : SigBit) → IsCell d i c → ReadsOtherwise c b → IsDeclared d.wires d.free b
  read-declared i c b at = by
    where
      port : (name : PortName) → IsReadAt c b name → IsDeclared d.wires d.free b
      port name h = All-contains (IsDeclared d.wires d.free) (signal_at c.ports name) b (All-signal_at (IsDeclared d.wires d.free) c.ports name (cell-declared d shape i c at).ports) h

      numbered : (name : ParameterName) (n : ℕ) → IsDigit (digits_at c.parameters name) (FreeDigit n) → n < d.free
      numbered name n h =
          let digits = digit-in (digits_at c.parameters name) (FreeDigit n) h in
          let all = All-digits_at (IsNumbered d.free) c.parameters name (cell-declared d shape i c at).parameters digits.0 digits.1 in
          All-contains (IsNumbered d.free) digits.0 (FreeDigit n) all digits.2

      digit : IsResetDigit c b → IsDeclared d.wires d.free b
      digit h =
          let lt : h.0 < d.free = elim h.2 as (λ _. h.0 < d.free) [ inl s ↦ numbered SrstValue h.0 s | inr a ↦ numbered ArstValue h.0 a ] in
          subst (λ (z : SigBit). IsDeclared d.wires d.free z) (sym h.1) lt

      by : ReadsOtherwise c b → IsDeclared d.wires d.free b
      by (inl h) = port A h
      by (inr (inl h)) = port B h
      by (inr (inr (inl h))) = port S h
      by (inr (inr (inr (inl h)))) = port En h
      by (inr (inr (inr (inr (inl h))))) = port D h
      by (inr (inr (inr (inr (inr (inl h)))))) = port Srst h
      by (inr (inr (inr (inr (inr (inr (inl h))))))) = port Arst h
      by (inr (inr (inr (inr (inr (inr (inr h))))))) = digit h

-- the cell's output has a bit that is read
abbrev pub IsOutputRead : DesignOf → CellOf → Type 0
IsOutputRead d c = (l : ℕ) × (b : SigBit) × (slice_get (output_of c) l ≡ Some b) × IsReadOtherwise d b

-- what is said of a place: of the bit there, and of the cell whose stored row has a bit there
pub record IsReadThere (d : DesignOf) (p : ℕ) : Type 0 where
  pub bits : (b : SigBit) → IsDeclared d.wires d.free b → IsVariable b → p ≡ place_of d b → IsReadOtherwise d b
  pub kept : (i : ℕ) (c : CellOf) → IsCell d i c → IsKeptAt d i c p → IsOutputRead d c

module _ (d : DesignOf) (shape : IsDesign d) (flat : IsFlat d) where
  width-is : (c : CellOf) → role_of c.kind ≡ AsyncResetRegister → kept_width c ≡ length (output_of c)
  width-is c role = ap (λ (r : Role). kept_by_role r (length (output_of c))) role

  -- a stored row's place is of one cell
  one-keeper : (i j : ℕ) (c e : CellOf) (p : ℕ) → IsCell d i c → IsKeptAt d i c p → IsCell d j e → IsKeptAt d j e p → i ≡ j
  one-keeper i j c e p at k at' l =
      let wide = width-is c k.1 in
      let wide' = width-is e l.1 in
      let lt = k.2 in
      let lt' = l.2 in
      let here = k.3 in
      let there = l.3 in
      elim (cases_lt i j) as (λ _. i ≡ j) [
        | inl less ↦ absurd (let before = sum_by-before kept_width d.cells i j c less at in omega (arith, wide, wide', lt, lt', here, there, before))
        | inr most ↦ elim (cases_lt j i) as (λ _. i ≡ j) [
          | inl less ↦ absurd (let before = sum_by-before kept_width d.cells j i e less at' in omega (arith, wide, wide', lt, lt', here, there, before))
          | inr least ↦ omega (arith, most, least)
        ]
      ]

  -- a bit's place is none of a stored row
  no-keeper : (i : ℕ) (c : CellOf) (b : SigBit) (p : ℕ) → IsDeclared d.wires d.free b → p ≡ place_of d b → IsKeptAt d i c p → ⊥
  no-keeper i c b p declared e k = let here = k.3 in absurd (omega (arith, e, here, place_of-within d b declared))

  const-declared : (x : Bool) → IsDeclared d.wires d.free (Const x)
  const-declared x = tt

  known-there : (p : ℕ) → IsKnown d p → IsReadThere d p
  known-there p (inl h) = record {
    bits = λ b declared varies e.
        let same : h.2 ≡ b = place_of-same d h.2 b (read-declared d shape h.0 h.1 h.2 h.3 h.4) declared (sym h.5 ∙ e) in
        (0, b, refl, (h.0, h.1, h.3, subst (λ (z : SigBit). ReadsOtherwise h.1 z) same h.4));
    kept = λ i c at k. absurd (no-keeper i c h.2 p (read-declared d shape h.0 h.1 h.2 h.3 h.4) h.5 k);
  }
  known-there p (inr h) = record {
    bits = λ b declared varies e. absurd (varies h.0 (place_of-same d b (Const h.0) declared (const-declared h.0) (sym e ∙ h.1)));
    kept = λ i c at k. absurd (no-keeper i c (Const h.0) p (const-declared h.0) h.1 k);
  }

  -- where the bit at r is read, so is that at p on which it rests
  step-there : (r p : ℕ) → Step d r p → IsReadThere d r → IsReadThere d p
  step-there r p (Reads h) there = known-there p (inl h)
  step-there r p (Constants h) there = known-there p (inr h)
  step-there r p (Stays e) there = subst (λ (z : ℕ). IsReadThere d z) (sym e) there
  step-there r p (Links h) there = record {
    bits = λ b declared varies e.
        let same : h.1 ≡ b = place_of-same d h.1 b right declared (sym h.4 ∙ e) in
        subst (λ (z : SigBit). IsReadOtherwise d z) same (moved (there.bits h.0 left (wire-varies h.0 wire) h.3));
    kept = λ i c at k. absurd (no-keeper i c h.1 p right h.4 k);
  }
    where
      left : IsDeclared d.wires d.free h.0
      left = left-declared d shape h.2.0 h.2.2 h.2.1 h.0 h.2.3 h.2.4

      right : IsDeclared d.wires d.free h.1
      right = right-declared d shape h.2.0 h.2.2 h.2.1 h.1 h.2.3 h.2.5

      wire : (w : ℕ) × (n : ℕ) × (h.0 ≡ Wire w n)
      wire = left-wire d (once d shape flat) h.2.0 h.2.2 h.2.1 h.0 h.2.3 h.2.4

      moved : IsReadOtherwise d h.0 → IsReadOtherwise d h.1
      moved o = (suc o.0, o.1, chain-more d o.0 o.1 h.0 h.1 o.2 h.2, o.3)
  step-there r p (Shows h) there = record {
    bits = λ b declared varies e. absurd (no-keeper h.0 h.1 b p declared e h.6);
    kept = λ i c at k.
        let place : h.0 ≡ i = one-keeper h.0 i h.1 c p h.3 h.6 at k in
        let same : h.1 ≡ c = one_at d.cells i h.1 c (subst (λ (n : ℕ). slice_get d.cells n ≡ Some h.1) place h.3) at in
        subst (λ (z : CellOf). IsOutputRead d z) same (moved (there.bits h.2 (output-declared d shape h.0 h.1 h.2 h.3 h.4) (wire-varies h.2 wire) h.5));
  }
    where
      wire : (w : ℕ) × (n : ℕ) × (h.2 ≡ Wire w n)
      wire = output-wire d (once d shape flat) h.0 h.1 h.2 h.3 h.4

      moved : IsReadOtherwise d h.2 → IsOutputRead d h.1
      moved o = let k = place-from_Contains (output_of h.1) h.2 h.4 in (k.0, h.2, k.1, o)

  module _ (order : List Driver) (ordered : IsOrder d order) (m : ModelOf) (built : IsBuilt d order m) (asked : Asked) where
    rests-step : (r p : ℕ) → RestsOn m r p → Step d r p
    rests-step r p (inl h) = node-step d order m built h.0 h.1 r p h.2 h.3 h.4
    rests-step r p (inr h) = register-step d order m built r p h

    asked-known : (a : Asked) (s : StatementOf) → IsAsked m a s → (p : ℕ) → (p ≡ s.a) ⊎ (p ≡ s.en) → IsKnown d p
    asked-known Asserts s h p is = statement-step d order m built (λ (c : CellOf). is_assert c.kind) m.asserts built.asserts s h p is
    asked-known Covers s h p is = statement-step d order m built (λ (c : CellOf). is_cover c.kind) m.covers built.covers s h p is

    root-known : (p : ℕ) → IsRoot m asked p → IsKnown d p
    root-known p (inl h) = elim h.1 as (λ _. IsKnown d p) [
      | inl a ↦ asked-known asked h.0 a p h.2
      | inr a ↦ statement-step d order m built (λ (c : CellOf). is_assume c.kind) m.assumes built.assumes h.0 a p h.2
    ]
    root-known p (inr (inl e)) = let z = built.zero in inr (false, omega (arith, e, z))
    root-known p (inr (inr e)) = let z = built.zero in inr (true, omega (arith, e, z))

    rests-there : (n root p : ℕ) → IsRoot m asked root → RestsIn m n root p → IsReadThere d p
    rests-there zero root p is e = subst (λ (z : ℕ). IsReadThere d z) e (known-there root (root-known root is))
    rests-there (suc n) root p is h = step-there h.0 p (rests-step h.0 p h.2) (rests-there n root h.0 is h.1)

    cone-there : (p : ℕ) → IsInCone m asked p → IsReadThere d p
    cone-there p h = rests-there h.1 h.0 p h.2 h.3

    pub input-read : (b : SigBit) → Contains (input_bits d) b → IsInCone m asked (place_of d b) → IsReadOtherwise d b
    input-read b has cone = (cone-there (place_of d b) cone).bits b (input-declared d b has) varies refl
      where
        varies : IsVariable b
        varies = elim (input-cases d b has) as (λ _. IsVariable b) [ inl w ↦ wire-varies b w | inr f ↦ free-varies b f ]

    pub state-read : (s : StateBit) → Contains (state_bits d) s → IsInCone m asked (state_place d s) → IsStateRead d s
    state-read s has cone =
        let r = from-lists state_of (enumerate_from 0 d.cells) s has in
        let back = enumerated-back 0 d.cells r.0 r.1 r.2 in
        let place : r.0 ≡ r.1.0 = (let n = back.0 in omega (arith, n)) in
        of-cell r.1.0 r.1.1 (subst (λ (n : ℕ). slice_get d.cells n ≡ Some r.1.1) place back.1) r.3
      where
        of-cell : (i : ℕ) (c : CellOf) → IsCell d i c → Contains (state_of (i, c)) s → IsStateRead d s
        of-cell i c at h = by (role_of c.kind) refl h
          where
            none : Contains (let xs : List StateBit = [] in xs) s → IsStateRead d s
            none g = let lt = g.1 in absurd (omega (arith, lt))

            shown : Contains (map (λ b. Signal b) (output_of c)) s → IsStateRead d s
            shown g =
                let b = map-member (λ x. Signal x) (output_of c) s g in
                let wire = wire-varies b.0 (output-wire d (once d shape flat) i c b.0 at b.1) in
                let read = (cone-there (state_place d s) cone).bits b.0 (output-declared d shape i c b.0 at b.1) wire (sym (ap (state_place d) b.2)) in
                subst (λ (t : StateBit). IsStateRead d t) b.2 read

            kept : role_of c.kind ≡ AsyncResetRegister → Contains (map (λ k. Kept i k) (range_with_len 0 (length (output_of c)))) s → IsStateRead d s
            kept role g =
                let k = map-member (λ x. Kept i x) (range_with_len 0 (length (output_of c))) s g in
                let out = (cone-there (state_place d s) cone).kept i c at (k.0, role, in-range (length (output_of c)) k.0 k.1, sym (ap (state_place d) k.2)) in
                subst (λ (t : StateBit). IsStateRead d t) k.2 (c, out.0, out.1, at, out.2, out.3)

            by : (r : Role) → role_of c.kind ≡ r → Contains (state_of_role r (map (λ b. Signal b) (output_of c)) (map (λ k. Kept i k) (range_with_len 0 (length (output_of c))))) s → IsStateRead d s
            by Combinational e g = none g
            by Register e g = shown g
            by AsyncResetRegister e g = kept e g
            by Constant e g = shown g
            by Initial e g = shown g
            by Source e g = none g
            by Statement e g = none g
            by Unsupported e g = none g
