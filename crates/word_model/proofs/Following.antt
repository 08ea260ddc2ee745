-- What the registers of a model take is what the design's cells hold next.
use Rattle.std.proofs.Common.{◌≡◌, ◌⊎◌, inl, inr, ℕ, zero, suc, ◌+◌, ◌<◌, Bool, true, false, cond, not, ◌&&◌, ◌||◌, List, [], ◌∷◌, length, map, get_or, Option, Some, Contains, refl, ap, sym, subst, ◌∙◌, arith}
use Rattle.std.specs.Prelude.{slice_get}
use Rattle.std.specs.List.{enumerate_from, flat_map, list_any}
use Rattle.std.proofs.lemmas.Bool.{false≢true}
use Rattle.sby_bits.specs.Rows.{Row}
use Rattle.cell_table.specs.Cells.{same_bit}
use Rattle.design_check.specs.Faults.{IsFlat, flag}
use Rattle.design_core.specs.Asked.{number_at, output_of}
use Rattle.design_core.specs.Cells.{Parameters, Ports, is_active, is_set, is_enabled, is_reset, next_fn, next_row, next_state, reset_value}
use Rattle.design_core.specs.Places.{place_of}
use Rattle.design_core.specs.Ports.{digits_at, is_port, signal_at}
use Rattle.design_core.specs.Shape.{CellOf, DesignOf, IsDesign}
use Rattle.design_core.specs.Table.{form_of, ports_of, role_of, width_of}
use Rattle.design_core.specs.declared.names.ParameterName.{ParameterName}
use Rattle.design_core.specs.declared.names.ParameterName.TheVariants.{EnPolarity, SrstPolarity, SrstValue, ArstPolarity, ArstValue}
use Rattle.design_core.specs.declared.names.PortName.{PortName}
use Rattle.design_core.specs.declared.names.PortName.TheVariants.{D, En, Srst, Arst}
use Rattle.design_core.specs.declared.table.PortLine.{PortLine}
use Rattle.design_core.specs.declared.table.PortWidth.{PortWidth}
use Rattle.design_core.specs.declared.table.PortWidth.TheVariants.{One, Of, Product, Choice, Sum}
use Rattle.design_core.specs.declared.table.Role.{Role}
use Rattle.design_core.specs.declared.table.Role.TheVariants.{Combinational, Register, AsyncResetRegister, Constant, Initial, Source, Statement, Unsupported}
use Rattle.design_core.proofs.Lists.{Contains-from_place, place-from_Contains}
use Rattle.design_states.proofs.Giving.{from-lists, in-lists}
use Rattle.design_meaning.specs.Meaning.{Follows as FollowsOf, IsCell, held_row, is_register, kept_row, parameters_in, ports_in, row_in, row_of_role}
use Rattle.design_signals.specs.declared.sig_bit.SigBit.{SigBit}
use Rattle.model_core.specs.Meaning.{Cycle, is_active as is_at_level, next_row as model_next, row_at}
use Rattle.model_core.specs.Shape.{ModelOf, RegisterOf}
use Rattle.model_core.specs.declared.model.Control.{Control}
use Rattle.word_model.specs.Kinds.{asks, is_reset_value}
use Rattle.word_model.specs.Layout.{bit_place, kept_places, parameter_places, signal_places, valued, zero_place}
use Rattle.word_model.specs.Registers.{always, control, enable_of, never, plain_register, registers_of, registers_of_role, reset_of, table_register, value_of}
use Rattle.word_model.proofs.Asking.{is_number_form, plain, port-width}
use Rattle.word_model.proofs.Cells.{active-same}
use Rattle.word_model.proofs.Lines.{IsLine, enable-bit, is_bit, is_one, line-next, other_next, reset-at-once-bit, reset-at-once-role, reset-bit, reset-role, role-next}
use Rattle.word_model.proofs.Nodal.{signal-named}
use Rattle.word_model.proofs.Reading.{bit-read, digits-read, flag-read, kept-read, row-read}

both : (a b : Bool) → (a && b) ≡ true → (a ≡ true) × (b ≡ true)
both true true h = (refl, refl)
both true false h = absurd cc
both false b h = absurd cc

pub only-one : {X : Type 0} (y x : X) → Contains (y ∷ []) x → y ≡ x
only-one y x h = by h.0 h.1 h.2
  where
    by : (k : ℕ) → k < length (y ∷ []) → get_or (y ∷ []) k x ≡ x → y ≡ x
    by zero lt e = e
    by (suc k) lt e = absurd (omega (arith, lt))

nothing : {X : Type 0} (x : X) → Contains [] x → ⊥
nothing x h = let lt = h.1 in absurd (omega (arith, lt))

one-line : (name : PortName) (lines : List PortLine) → list_any (λ (l : PortLine). is_port l.name name && is_one l.width) lines ≡ true
    → (l : PortLine) × Contains lines l × (is_port l.name name ≡ true) × (is_one l.width ≡ true)
one-line name [] h = absurd (false≢true h)
one-line name (l ∷ lines) h = by (is_port l.name name && is_one l.width) refl h (λ g. one-line name lines g)
  where
    by : (b : Bool) → (is_port l.name name && is_one l.width) ≡ b → (b || list_any (λ (x : PortLine). is_port x.name name && is_one x.width) lines) ≡ true
        → (list_any (λ (x : PortLine). is_port x.name name && is_one x.width) lines ≡ true → (x : PortLine) × Contains lines x × (is_port x.name name ≡ true) × (is_one x.width ≡ true))
        → (x : PortLine) × Contains (l ∷ lines) x × (is_port x.name name ≡ true) × (is_one x.width ≡ true)
    by true e g rest = let r = both (is_port l.name name) (is_one l.width) e in (l, (0, omega arith, refl), r.0, r.1)
    by false e g rest = let r = rest g in (r.0, (let at = r.1 in let lt = at.1 in (suc at.0, omega (arith, lt), at.2)), r.2, r.3)

one-is : (f : ParameterName → ℕ) (w : PortWidth) → is_one w ≡ true → width_of f w ≡ 1
one-is f One h = refl
one-is f (Of q) h = absurd (false≢true h)
one-is f (Product x y) h = absurd (false≢true h)
one-is f (Choice x y) h = absurd (false≢true h)
one-is f (Sum x y) h = absurd (false≢true h)

module _ (d : DesignOf) (shape : IsDesign d) (flat : IsFlat d) (i : ℕ) (x : CellOf) (at : IsCell d i x) where
  pub bit-long : (name : PortName) → is_bit x.kind name ≡ true → length (signal_at x.ports name) ≡ 1
  bit-long name h =
      let r = one-line name (ports_of x.kind) h in
      ap length (sym (signal-named x.ports r.0.name name r.2)) ∙ (port-width d shape flat i x at r.0 r.1 ∙ one-is (number_at x.parameters) r.0.width r.3)

  module _ (c : Cycle) (low : c (zero_place d) ≡ false) (high : c (suc (zero_place d)) ≡ true) where
    rows : (bits : List SigBit) → row_in (valued d c) bits ≡ row_at c (signal_places d bits)
    rows bits = row-read d c low high bits

    -- a control at its level
    at-level : (bits : List SigBit) (level : Bool) (polarity : Row) → length bits ≡ 1 → level ≡ is_set polarity → same_bit (c (bit_place d bits)) level ≡ is_active polarity (row_in (valued d c) bits)
    at-level [] level polarity long e = absurd (omega arith)
    at-level (b ∷ []) level polarity long e = active-same polarity level (c (place_of d b)) e ∙ ap (λ (t : Bool). is_active polarity (t ∷ [])) (sym (bit-read d c low high b))
    at-level (b ∷ a ∷ bits) level polarity long e = absurd (omega arith)

    controlled : (port : PortName) (polarity : ParameterName) → is_number_form (form_of polarity) ≡ true → is_bit x.kind port ≡ true
        → is_at_level c (control d x port polarity) ≡ is_active (parameters_in (valued d c) x polarity) (ports_in (valued d c) x port)
    controlled port polarity form bit =
        at-level (signal_at x.ports port) (flag x polarity) (parameters_in (valued d c) x polarity) (bit-long port bit) (sym (flag-read (valued d c) x polarity (plain d shape flat i x at polarity form)))

    on : is_at_level c (always d) ≡ true
    on = ap (λ (t : Bool). same_bit t true) high

    off : is_at_level c (never d) ≡ false
    off = ap (λ (t : Bool). same_bit t true) low

    parameter-row : (name : ParameterName) → row_at c (parameter_places d x name) ≡ parameters_in (valued d c) x name
    parameter-row name = sym (digits-read d c low high (digits_at x.parameters name))

    enable-is : asks x.kind En ≡ true → is_at_level c (enable_of d x) ≡ is_enabled (parameters_in (valued d c) x) (ports_in (valued d c) x)
    enable-is h = ap (λ (t : Bool). is_at_level c (cond t (control d x En EnPolarity) (always d))) h ∙ controlled En EnPolarity refl (enable-bit x.kind h)

    always-is : asks x.kind En ≡ false → is_at_level c (enable_of d x) ≡ true
    always-is h = ap (λ (t : Bool). is_at_level c (cond t (control d x En EnPolarity) (always d))) h ∙ on

    other-control : Control
    other-control = cond (asks x.kind Arst) (control d x Arst ArstPolarity) (never d)

    other-value : List ℕ
    other-value = cond (asks x.kind Arst) (parameter_places d x ArstValue) (signal_places d (signal_at x.ports D))

    reset-is : asks x.kind Srst ≡ true → (is_at_level c (reset_of d x) ≡ is_reset (role_of x.kind) (parameters_in (valued d c) x) (ports_in (valued d c) x)) × (row_at c (value_of d x) ≡ reset_value (role_of x.kind) (parameters_in (valued d c) x))
    unfolding other-control other-value
    reset-is h = (
      ap (λ (t : Bool). is_at_level c (cond t (control d x Srst SrstPolarity) other-control)) h
          ∙ (controlled Srst SrstPolarity refl (reset-bit x.kind h) ∙ ap (λ (r : Role). is_reset r (parameters_in (valued d c) x) (ports_in (valued d c) x)) (sym (reset-role x.kind h))),
      ap (λ (t : Bool). row_at c (cond t (parameter_places d x SrstValue) other-value)) h
          ∙ (parameter-row SrstValue ∙ ap (λ (r : Role). reset_value r (parameters_in (valued d c) x)) (sym (reset-role x.kind h))),
    )

    at-once-is : asks x.kind Srst ≡ false → asks x.kind Arst ≡ true → (is_at_level c (reset_of d x) ≡ is_reset (role_of x.kind) (parameters_in (valued d c) x) (ports_in (valued d c) x)) × (row_at c (value_of d x) ≡ reset_value (role_of x.kind) (parameters_in (valued d c) x))
    unfolding other-control other-value
    at-once-is h g = (
      ap (λ (t : Bool). is_at_level c (cond t (control d x Srst SrstPolarity) other-control)) h
          ∙ (ap (λ (t : Bool). is_at_level c (cond t (control d x Arst ArstPolarity) (never d))) g
          ∙ (controlled Arst ArstPolarity refl (reset-at-once-bit x.kind g) ∙ ap (λ (r : Role). is_reset r (parameters_in (valued d c) x) (ports_in (valued d c) x)) (sym (reset-at-once-role x.kind g)))),
      ap (λ (t : Bool). row_at c (cond t (parameter_places d x SrstValue) other-value)) h
          ∙ (ap (λ (t : Bool). row_at c (cond t (parameter_places d x ArstValue) (signal_places d (signal_at x.ports D)))) g
          ∙ (parameter-row ArstValue ∙ ap (λ (r : Role). reset_value r (parameters_in (valued d c) x)) (sym (reset-at-once-role x.kind g)))),
    )

    never-is : asks x.kind Srst ≡ false → asks x.kind Arst ≡ false → is_at_level c (reset_of d x) ≡ false
    unfolding other-control
    never-is h g =
        ap (λ (t : Bool). is_at_level c (cond t (control d x Srst SrstPolarity) other-control)) h
        ∙ (ap (λ (t : Bool). is_at_level c (cond t (control d x Arst ArstPolarity) (never d))) g ∙ off)

    line : IsLine x.kind (is_at_level c (enable_of d x)) (is_at_level c (reset_of d x)) (is_enabled (parameters_in (valued d c) x) (ports_in (valued d c) x))
        (is_reset (role_of x.kind) (parameters_in (valued d c) x) (ports_in (valued d c) x)) (row_at c (signal_places d (signal_at x.ports D))) (row_at c (value_of d x)) (ports_in (valued d c) x D)
        (reset_value (role_of x.kind) (parameters_in (valued d c) x))
    line = record { enabled = enable-is; always = always-is; reset = reset-is; reset_at_once = at-once-is; never = never-is; taken = sym (rows (signal_at x.ports D)) }

    -- a register takes what its cell holds next
    pub table-next : is_register (role_of x.kind) ≡ true → (q : List ℕ) → model_next c (table_register d x q) ≡ next_fn x.kind (parameters_in (valued d c) x) (ports_in (valued d c) x) (row_at c q)
    table-next t q =
        line-next (is_at_level c (enable_of d x)) (is_at_level c (reset_of d x)) (is_enabled (parameters_in (valued d c) x) (ports_in (valued d c) x))
        (is_reset (role_of x.kind) (parameters_in (valued d c) x) (ports_in (valued d c) x)) (row_at c (signal_places d (signal_at x.ports D))) (row_at c (value_of d x)) (ports_in (valued d c) x D)
        (reset_value (role_of x.kind) (parameters_in (valued d c) x)) (row_at c q) x.kind t line

    pub plain-next : (q row : List ℕ) → model_next c (plain_register d q row) ≡ row_at c row
    plain-next q row =
        ap (λ (t : Bool). cond t (cond (is_at_level c (never d)) (row_at c row) (row_at c row)) (row_at c q)) on ∙ same (is_at_level c (never d))
      where
        same : (t : Bool) → cond t (row_at c row) (row_at c row) ≡ row_at c row
        same true = refl
        same false = refl

    pub held-read : (r : Role) → row_of_role r (row_in (valued d c) (output_of x)) (kept_row (valued d c) i x) ≡ row_of_role r (row_at c (signal_places d (output_of x))) (row_at c (kept_places d i (length (output_of x))))
    held-read Combinational = refl
    held-read Register = rows (output_of x)
    held-read AsyncResetRegister = kept-read d c i (length (output_of x))
    held-read Constant = rows (output_of x)
    held-read Initial = rows (output_of x)
    held-read Source = refl
    held-read Statement = refl
    held-read Unsupported = refl

    pub held-as : (r : Role) → role_of x.kind ≡ r → held_row (valued d c) i x ≡ row_of_role r (row_at c (signal_places d (output_of x))) (row_at c (kept_places d i (length (output_of x))))
    held-as r e = ap (λ (z : Role). row_of_role z (row_in (valued d c) (output_of x)) (kept_row (valued d c) i x)) e ∙ held-read r

    -- what a cell holds next, by its role
    pub next-as : (r : Role) → role_of x.kind ≡ r → (q : Row)
        → next_fn x.kind (parameters_in (valued d c) x) (ports_in (valued d c) x) q ≡ other_next r q (next_fn x.kind (parameters_in (valued d c) x) (ports_in (valued d c) x) q)
    next-as r e q =
        role-next x.kind (is_enabled (parameters_in (valued d c) x) (ports_in (valued d c) x)) (is_reset (role_of x.kind) (parameters_in (valued d c) x) (ports_in (valued d c) x)) (ports_in (valued d c) x D)
        (reset_value (role_of x.kind) (parameters_in (valued d c) x)) q
        ∙ ap (λ (z : Role). other_next z q (next_fn x.kind (parameters_in (valued d c) x) (ports_in (valued d c) x) q)) e

    Holds : RegisterOf → Type 0
    Holds g = (row_at c g.q ≡ held_row (valued d c) i x) × (model_next c g ≡ next_fn x.kind (parameters_in (valued d c) x) (ports_in (valued d c) x) (held_row (valued d c) i x))

    of-one : (one g : RegisterOf) → Contains (one ∷ []) g → (row_at c one.q ≡ held_row (valued d c) i x) × (model_next c one ≡ next_fn x.kind (parameters_in (valued d c) x) (ports_in (valued d c) x) (held_row (valued d c) i x))
        → (row_at c g.q ≡ held_row (valued d c) i x) × (model_next c g ≡ next_fn x.kind (parameters_in (valued d c) x) (ports_in (valued d c) x) (held_row (valued d c) i x))
    unfolding Holds
    of-one one g h is = subst Holds (only-one one g h) is

    -- the row that the cell holds is that of its register, and the next one too
    pub registers-hold : (r : Role) → role_of x.kind ≡ r → (g : RegisterOf) → Contains (registers_of_role r d i x) g
        → (row_at c g.q ≡ held_row (valued d c) i x) × (model_next c g ≡ next_fn x.kind (parameters_in (valued d c) x) (ports_in (valued d c) x) (held_row (valued d c) i x))
    registers-hold Combinational e g h = absurd (nothing g h)
    registers-hold Register e g h =
        of-one (table_register d x (signal_places d (output_of x))) g h
        (sym (held-as Register e), table-next (ap is_register e) (signal_places d (output_of x)) ∙ ap (next_fn x.kind (parameters_in (valued d c) x) (ports_in (valued d c) x)) (sym (held-as Register e)))
    registers-hold AsyncResetRegister e g h =
        of-one (table_register d x (kept_places d i (length (output_of x)))) g h
        (sym (held-as AsyncResetRegister e), table-next (ap is_register e) (kept_places d i (length (output_of x))) ∙ ap (next_fn x.kind (parameters_in (valued d c) x) (ports_in (valued d c) x)) (sym (held-as AsyncResetRegister e)))
    registers-hold Constant e g h =
        of-one (plain_register d (signal_places d (output_of x)) (signal_places d (output_of x))) g h
        (sym (held-as Constant e), plain-next (signal_places d (output_of x)) (signal_places d (output_of x)) ∙ (sym (held-as Constant e) ∙ sym (next-as Constant e (held_row (valued d c) i x))))
    registers-hold Initial e g h =
        of-one (plain_register d (signal_places d (output_of x)) (zero_place d ∷ [])) g h
        (sym (held-as Initial e), plain-next (signal_places d (output_of x)) (zero_place d ∷ []) ∙ (ap (λ (b : Bool). b ∷ []) low ∙ sym (next-as Initial e (held_row (valued d c) i x))))
    registers-hold Source e g h = absurd (nothing g h)
    registers-hold Statement e g h = absurd (nothing g h)
    registers-hold Unsupported e g h = absurd (nothing g h)

-- ---- all registers

pub enumerated : {X : Type 0} (n : ℕ) (xs : List X) (k i : ℕ) (x : X) → i ≡ n + k → slice_get xs k ≡ Some x → slice_get (enumerate_from n xs) k ≡ Some (i, x)
enumerated n [] k i x e at = absurd cc
enumerated {X = X} n (y ∷ xs) zero i x e at =
    let same : y ≡ x = cc in
    let first : n ≡ i = omega (arith, e) in
    ap (λ (z : X). Some (n, z)) same ∙ ap (λ (j : ℕ). Some (j, x)) first
enumerated n (y ∷ xs) (suc k) i x e at = enumerated (n + 1) xs k i x (omega (arith, e)) at

pub enumerated-back : {X : Type 0} (n : ℕ) (xs : List X) (k : ℕ) (p : ℕ × X) → slice_get (enumerate_from n xs) k ≡ Some p → (p.0 ≡ n + k) × (slice_get xs k ≡ Some p.1)
enumerated-back n [] k p at = absurd cc
enumerated-back {X = X} n (y ∷ xs) zero p at =
    let same : ◌≡◌ {A = ℕ × X} (n, y) p = cc in
    let first : n ≡ p.0 = ap (λ (q : ℕ × X). q.0) same in
    (omega (arith, first), ap (λ (q : ℕ × X). Some q.1) same)
enumerated-back n (y ∷ xs) (suc k) p at = let r = enumerated-back (n + 1) xs k p at in (let e = r.0 in omega (arith, e), r.1)

module _ (d : DesignOf) (shape : IsDesign d) (flat : IsFlat d) (registers : List RegisterOf) (are : registers ≡ flat_map (registers_of d) (enumerate_from 0 d.cells))
    (c e : Cycle) (low : c (zero_place d) ≡ false) (high : c (suc (zero_place d)) ≡ true) (low' : e (zero_place d) ≡ false) (high' : e (suc (zero_place d)) ≡ true) where
  abbrev Taken : Type 0
  Taken = (j : ℕ) (g : RegisterOf) → slice_get registers j ≡ Some g → row_at e g.q ≡ model_next c g

  holds : (i : ℕ) (x : CellOf) → IsCell d i x → (g : RegisterOf) → Contains (registers_of d (i, x)) g
      → (row_at e g.q ≡ held_row (valued d e) i x) × (model_next c g ≡ next_fn x.kind (parameters_in (valued d c) x) (ports_in (valued d c) x) (held_row (valued d c) i x))
  holds i x at g h = (
    (registers-hold d shape flat i x at e low' high' (role_of x.kind) refl g h).0,
    (registers-hold d shape flat i x at c low high (role_of x.kind) refl g h).1,
  )

  pub follows-from : FollowsOf d (valued d c) (valued d e) → Taken
  follows-from f j g at =
      let has : Contains (flat_map (registers_of d) (enumerate_from 0 d.cells)) g = Contains-from_place (flat_map (registers_of d) (enumerate_from 0 d.cells)) j g (subst (λ (l : List RegisterOf). slice_get l j ≡ Some g) are at) in
      let r = from-lists (registers_of d) (enumerate_from 0 d.cells) g has in
      let back = enumerated-back 0 d.cells r.0 r.1 r.2 in
      let place : r.0 ≡ r.1.0 = (let n = back.0 in omega (arith, n)) in
      let cell : IsCell d r.1.0 r.1.1 = subst (λ (n : ℕ). slice_get d.cells n ≡ Some r.1.1) place back.1 in
      let h = holds r.1.0 r.1.1 cell g r.3 in
      h.0 ∙ (f r.1.0 r.1.1 cell ∙ sym h.1)

  module _ (t : Taken) where
    taken : (i : ℕ) (x : CellOf) → IsCell d i x → (g : RegisterOf) → Contains (registers_of d (i, x)) g
        → held_row (valued d e) i x ≡ next_fn x.kind (parameters_in (valued d c) x) (ports_in (valued d c) x) (held_row (valued d c) i x)
    taken i x at g h =
        let has : Contains (flat_map (registers_of d) (enumerate_from 0 d.cells)) g = in-lists (registers_of d) (enumerate_from 0 d.cells) i (i, x) g (enumerated 0 d.cells i i x (omega arith) at) h in
        let place = place-from_Contains registers g (subst (λ (l : List RegisterOf). Contains l g) (sym are) has) in
        let both' = holds i x at g h in
        sym both'.0 ∙ (t place.0 g place.1 ∙ both'.1)

    by-role : (i : ℕ) (x : CellOf) → IsCell d i x → (r : Role) → role_of x.kind ≡ r
        → ((g : RegisterOf) → Contains (registers_of_role r d i x) g → held_row (valued d e) i x ≡ next_fn x.kind (parameters_in (valued d c) x) (ports_in (valued d c) x) (held_row (valued d c) i x))
        → held_row (valued d e) i x ≡ next_fn x.kind (parameters_in (valued d c) x) (ports_in (valued d c) x) (held_row (valued d c) i x)
    by-role i x at Combinational role of = held-as d shape flat i x at e low' high' Combinational role ∙ sym (next-as d shape flat i x at c low high Combinational role (held_row (valued d c) i x))
    by-role i x at Register role of = of (table_register d x (signal_places d (output_of x))) (0, omega arith, refl)
    by-role i x at AsyncResetRegister role of = of (table_register d x (kept_places d i (length (output_of x)))) (0, omega arith, refl)
    by-role i x at Constant role of = of (plain_register d (signal_places d (output_of x)) (signal_places d (output_of x))) (0, omega arith, refl)
    by-role i x at Initial role of = of (plain_register d (signal_places d (output_of x)) (zero_place d ∷ [])) (0, omega arith, refl)
    by-role i x at Source role of = held-as d shape flat i x at e low' high' Source role ∙ sym (next-as d shape flat i x at c low high Source role (held_row (valued d c) i x))
    by-role i x at Statement role of = held-as d shape flat i x at e low' high' Statement role ∙ sym (next-as d shape flat i x at c low high Statement role (held_row (valued d c) i x))
    by-role i x at Unsupported role of = held-as d shape flat i x at e low' high' Unsupported role ∙ sym (next-as d shape flat i x at c low high Unsupported role (held_row (valued d c) i x))

    pub follows-to : FollowsOf d (valued d c) (valued d e)
    follows-to i x at = by-role i x at (role_of x.kind) refl (λ g h. taken i x at g h)
