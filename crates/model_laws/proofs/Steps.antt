-- What reads a place of a model that is made of a design: for each node, register and statement, what the design has there.
use Rattle.std.proofs.Common.{◌≡◌, ◌⊎◌, inl, inr, ℕ, suc, ◌<◌, Bool, true, false, cond, List, [], ◌∷◌, ◌++◌, length, map, Option, Some, None, Contains, refl, sym, subst, ◌∙◌, arith}
use Rattle.std.specs.Prelude.{slice_get}
use Rattle.std.specs.List.{enumerate_from, filter, range_with_len}
use Rattle.std.proofs.lemmas.List.Elements.{Contains-append_cases}
use Rattle.design_check.specs.Faults.{flag}
use Rattle.design_core.specs.Asked.{output_of}
use Rattle.design_core.specs.Places.{place_of}
use Rattle.design_core.specs.Ports.{digits_at, signal_at}
use Rattle.design_core.specs.Shape.{CellOf, DesignOf}
use Rattle.design_core.specs.Table.{role_of}
use Rattle.design_core.specs.declared.digit.Digit.{Digit}
use Rattle.design_core.specs.declared.digit.Digit.TheVariants.{Const as ConstDigit, Free as FreeDigit, Marker}
use Rattle.design_core.specs.declared.names.ParameterName.TheVariants.{ArstPolarity, ArstValue, EnPolarity, SrstPolarity, SrstValue}
use Rattle.design_core.specs.declared.names.PortName.{PortName}
use Rattle.design_core.specs.declared.names.PortName.TheVariants.{A, B, S, En, D, Srst, Arst}
use Rattle.design_core.specs.declared.table.Role.{Role}
use Rattle.design_core.specs.declared.table.Role.TheVariants.{Combinational, Register, AsyncResetRegister, Constant, Initial, Source, Statement, Unsupported}
use Rattle.design_core.proofs.Lists.{Contains-from_place, one_at, place-from_Contains}
use Rattle.design_graph.specs.declared.driver.Driver.{Driver}
use Rattle.design_graph.specs.declared.driver.Driver.TheVariants.{Cell, Connect}
use Rattle.design_meaning.specs.Meaning.{IsCell, IsConnected}
use Rattle.design_meaning.specs.Rests.{IsDigit}
use Rattle.design_signals.specs.declared.sig_bit.SigBit.{SigBit}
use Rattle.design_signals.specs.declared.sig_bit.SigBit.TheVariants.{Const, Free}
use Rattle.design_states.proofs.Giving.{from-lists}
use Rattle.model_cone.specs.Cone.{Decides, IsHeldBy}
use Rattle.model_core.specs.Shape.{ModelOf, NodeOf, RegisterOf, reads}
use Rattle.model_core.specs.declared.model.Statement.{Statement as StatementOf}
use Rattle.word_model.specs.Built.{IsBuilt, statement_of}
use Rattle.word_model.specs.Kinds.{asks}
use Rattle.word_model.specs.Layout.{bit_place, digit_place, digits_places, kept_place, kept_places, parameter_places, signal_places, zero_place}
use Rattle.word_model.specs.Nodes.{IsNodeOf, IsNodeOfRole, cell_node, reset_node}
use Rattle.word_model.specs.Registers.{always, control, enable_of, never, plain_register, registers_of, registers_of_role, reset_of, table_register, value_of}
use Rattle.word_model.proofs.Alike.{from-filter}
use Rattle.word_model.proofs.Following.{enumerated-back, only-one}
use Rattle.word_model.proofs.Framed.{beside}
use Rattle.word_model.proofs.Owning.{in-range, map-member}
use Rattle.model_laws.specs.Reads.{IsReadAt, IsResetDigit, ReadsOtherwise}

-- at the place stands a bit that a cell reads, otherwise than as a clock
abbrev pub IsReadPlace : DesignOf → ℕ → Type 0
IsReadPlace d p = (i : ℕ) × (c : CellOf) × (b : SigBit) × IsCell d i c × ReadsOtherwise c b × (p ≡ place_of d b)

abbrev pub IsConstantPlace : DesignOf → ℕ → Type 0
IsConstantPlace d p = (x : Bool) × (p ≡ place_of d (Const x))

-- a connect drives the bit at r from that at p
abbrev pub IsLinked : DesignOf → ℕ → ℕ → Type 0
IsLinked d r p = (a : SigBit) × (b : SigBit) × IsConnected d a b × (r ≡ place_of d a) × (p ≡ place_of d b)

-- the bit at the place is of the row that the cell at place i keeps
abbrev pub IsKeptAt : DesignOf → ℕ → CellOf → ℕ → Type 0
IsKeptAt d i c p = (k : ℕ) × (role_of c.kind ≡ AsyncResetRegister) × (k < length (output_of c)) × (p ≡ kept_place d i k)

-- a bit of the output stands at r, a bit of the stored row at p
abbrev pub IsShown : DesignOf → ℕ → ℕ → Type 0
IsShown d r p = (i : ℕ) × (c : CellOf) × (a : SigBit) × IsCell d i c × Contains (output_of c) a × (r ≡ place_of d a) × IsKeptAt d i c p

-- how the place r rests on the place p
pub data Step (d : DesignOf) (r p : ℕ) : Type 0 where
  Reads : IsReadPlace d p → Step d r p
  Constants : IsConstantPlace d p → Step d r p
  Links : IsLinked d r p → Step d r p
  Shows : IsShown d r p → Step d r p
  Stays : p ≡ r → Step d r p

nothing : {X : Type 0} (x : X) → Contains [] x → ⊥
nothing x h = let lt = h.1 in absurd (omega (arith, lt))

module _ (d : DesignOf) where
  -- a read place or that of a constant
  abbrev pub IsKnown : ℕ → Type 0
  IsKnown p = IsReadPlace d p ⊎ IsConstantPlace d p

  known : (r p : ℕ) → IsKnown p → Step d r p
  known r p (inl h) = Reads h
  known r p (inr h) = Constants h

  in-digits : (o : Option (List Digit)) (p : ℕ) → Contains (digits_places d o) p → ((n : ℕ) × IsDigit o (FreeDigit n) × (p ≡ place_of d (Free n))) ⊎ IsConstantPlace d p
  in-digits None p h = absurd (nothing p h)
  in-digits (Some xs) p h = let m = map-member (digit_place d) xs p h in by m.0 m.1 m.2
    where
      by : (x : Digit) → Contains xs x → digit_place d x ≡ p → ((n : ℕ) × Contains xs (FreeDigit n) × (p ≡ place_of d (Free n))) ⊎ IsConstantPlace d p
      by (ConstDigit b) has e = inr (b, sym e)
      by (FreeDigit n) has e = inl (n, has, sym e)
      by Marker has e = inr (false, sym e)

  in-bit : (bits : List SigBit) (p : ℕ) → bit_place d bits ≡ p → ((b : SigBit) × Contains bits b × (p ≡ place_of d b)) ⊎ IsConstantPlace d p
  in-bit [] p e = inr (false, omega (arith, e))
  in-bit (b ∷ bits) p e = inl (b, (0, omega arith, refl), sym e)

  one-place : suc (zero_place d) ≡ place_of d (Const true)
  one-place = omega arith

  zero-is : zero_place d ≡ place_of d (Const false)
  zero-is = omega arith

  module _ (i : ℕ) (c : CellOf) (at : IsCell d i c) where
    port-read : (name : PortName) → ((b : SigBit) → IsReadAt c b name → ReadsOtherwise c b) → (p : ℕ) → Contains (signal_places d (signal_at c.ports name)) p → IsReadPlace d p
    port-read name reader p h = let m = map-member (place_of d) (signal_at c.ports name) p h in (i, c, m.0, at, reader m.0 m.1, sym m.2)

    bit-read : (name : PortName) → ((b : SigBit) → IsReadAt c b name → ReadsOtherwise c b) → (p : ℕ) → bit_place d (signal_at c.ports name) ≡ p → IsKnown p
    bit-read name reader p e = elim (in-bit (signal_at c.ports name) p e) as (λ _. IsKnown p) [
      | inl h ↦ inl (i, c, h.0, at, reader h.0 h.1, h.2)
      | inr h ↦ inr h
    ]

    as-a : (b : SigBit) → IsReadAt c b A → ReadsOtherwise c b
    as-a b h = inl h

    as-b : (b : SigBit) → IsReadAt c b B → ReadsOtherwise c b
    as-b b h = inr (inl h)

    as-s : (b : SigBit) → IsReadAt c b S → ReadsOtherwise c b
    as-s b h = inr (inr (inl h))

    as-en : (b : SigBit) → IsReadAt c b En → ReadsOtherwise c b
    as-en b h = inr (inr (inr (inl h)))

    as-d : (b : SigBit) → IsReadAt c b D → ReadsOtherwise c b
    as-d b h = inr (inr (inr (inr (inl h))))

    as-srst : (b : SigBit) → IsReadAt c b Srst → ReadsOtherwise c b
    as-srst b h = inr (inr (inr (inr (inr (inl h)))))

    as-arst : (b : SigBit) → IsReadAt c b Arst → ReadsOtherwise c b
    as-arst b h = inr (inr (inr (inr (inr (inr (inl h))))))

    as-digit : (b : SigBit) → IsResetDigit c b → ReadsOtherwise c b
    as-digit b h = inr (inr (inr (inr (inr (inr (inr h))))))

    srst-value : (p : ℕ) → Contains (parameter_places d c SrstValue) p → IsKnown p
    srst-value p h = elim (in-digits (digits_at c.parameters SrstValue) p h) as (λ _. IsKnown p) [
      | inl f ↦ inl (i, c, Free f.0, at, as-digit (Free f.0) (f.0, refl, inl f.1), f.2)
      | inr f ↦ inr f
    ]

    arst-value : (p : ℕ) → Contains (parameter_places d c ArstValue) p → IsKnown p
    arst-value p h = elim (in-digits (digits_at c.parameters ArstValue) p h) as (λ _. IsKnown p) [
      | inl f ↦ inl (i, c, Free f.0, at, as-digit (Free f.0) (f.0, refl, inr f.1), f.2)
      | inr f ↦ inr f
    ]

    value-read : (p : ℕ) → Contains (value_of d c) p → IsKnown p
    value-read p = by (asks c.kind Srst) (asks c.kind Arst)
      where
        by : (s t : Bool) → Contains (cond s (parameter_places d c SrstValue) (cond t (parameter_places d c ArstValue) (signal_places d (signal_at c.ports D)))) p → IsKnown p
        by true t h = srst-value p h
        by false true h = arst-value p h
        by false false h = inl (port-read D as-d p h)

    enable-read : (p : ℕ) → (enable_of d c).place ≡ p → IsKnown p
    enable-read p = by (asks c.kind En)
      where
        by : (t : Bool) → (cond t (control d c En EnPolarity) (always d)).place ≡ p → IsKnown p
        by true e = bit-read En as-en p e
        by false e = inr (true, sym e ∙ one-place)

    reset-read : (p : ℕ) → (reset_of d c).place ≡ p → IsKnown p
    reset-read p = by (asks c.kind Srst) (asks c.kind Arst)
      where
        by : (s t : Bool) → (cond s (control d c Srst SrstPolarity) (cond t (control d c Arst ArstPolarity) (never d))).place ≡ p → IsKnown p
        by true t e = bit-read Srst as-srst p e
        by false true e = bit-read Arst as-arst p e
        by false false e = inr (false, sym e ∙ zero-is)

    statement-read : (p : ℕ) → (p ≡ (statement_of d c).a) ⊎ (p ≡ (statement_of d c).en) → IsKnown p
    statement-read p (inl e) = bit-read A as-a p (sym e)
    statement-read p (inr e) = bit-read En as-en p (sym e)

    kept-at : role_of c.kind ≡ AsyncResetRegister → (p : ℕ) → Contains (kept_places d i (length (output_of c))) p → IsKeptAt d i c p
    kept-at role p h =
        let m = map-member (kept_place d i) (range_with_len 0 (length (output_of c))) p h in
        (m.0, role, in-range (length (output_of c)) m.0 m.1, sym m.2)

    output-at : (p : ℕ) → Contains (signal_places d (output_of c)) p → (a : SigBit) × Contains (output_of c) a × (p ≡ place_of d a)
    output-at p h = let m = map-member (place_of d) (output_of c) p h in (m.0, m.1, sym m.2)

    -- what a node reads
    cell-reads : (r p : ℕ) → Contains (reads (cell_node d c)) p → Step d r p
    cell-reads r p h = Reads (elim (Contains-append_cases (signal_places d (signal_at c.ports A)) (signal_places d (signal_at c.ports B) ++ signal_places d (signal_at c.ports S)) p h) as (λ _. IsReadPlace d p) [
      | inl a ↦ port-read A as-a p a
      | inr rest ↦ elim (Contains-append_cases (signal_places d (signal_at c.ports B)) (signal_places d (signal_at c.ports S)) p rest) as (λ _. IsReadPlace d p) [
        | inl b ↦ port-read B as-b p b
        | inr s ↦ port-read S as-s p s
      ]
    ])

    reset-reads : role_of c.kind ≡ AsyncResetRegister → (r p : ℕ) → Contains (signal_places d (output_of c)) r → Contains (reads (reset_node d i c)) p → Step d r p
    reset-reads role r p out = by (flag c ArstPolarity)
      where
        kept : Contains (kept_places d i (length (output_of c))) p → Step d r p
        kept h = let a = output-at r out in Shows (i, c, a.0, at, a.1, a.2, kept-at role p h)

        value : Contains (parameter_places d c ArstValue) p → Step d r p
        value h = known r p (arst-value p h)

        select : Contains (signal_places d (signal_at c.ports Arst)) p → Step d r p
        select h = Reads (port-read Arst as-arst p h)

        three : (xs ys : List ℕ) → (Contains xs p → Step d r p) → (Contains ys p → Step d r p) → Contains (xs ++ (ys ++ signal_places d (signal_at c.ports Arst))) p → Step d r p
        three xs ys f g h = elim (Contains-append_cases xs (ys ++ signal_places d (signal_at c.ports Arst)) p h) as (λ _. Step d r p) [
          | inl x ↦ f x
          | inr rest ↦ elim (Contains-append_cases ys (signal_places d (signal_at c.ports Arst)) p rest) as (λ _. Step d r p) [
            | inl y ↦ g y
            | inr s ↦ select s
          ]
        ]

        by : (t : Bool) → Contains (cond t (kept_places d i (length (output_of c))) (parameter_places d c ArstValue)
            ++ (cond t (parameter_places d c ArstValue) (kept_places d i (length (output_of c))) ++ signal_places d (signal_at c.ports Arst))) p → Step d r p
        by true h = three (kept_places d i (length (output_of c))) (parameter_places d c ArstValue) kept value h
        by false h = three (parameter_places d c ArstValue) (kept_places d i (length (output_of c))) value kept h

    -- what a bit of a register rests on
    table-bit : (q : List ℕ) (k r p : ℕ) → Decides (table_register d c q) k p → Step d r p
    table-bit q k r p (inl from) = Reads (port-read D as-d p (Contains-from_place (signal_places d (signal_at c.ports D)) k p from))
    table-bit q k r p (inr (inl from)) = known r p (value-read p (Contains-from_place (value_of d c) k p from))
    table-bit q k r p (inr (inr (inl e))) = known r p (enable-read p (sym e))
    table-bit q k r p (inr (inr (inr e))) = known r p (reset-read p (sym e))

    plain-bit : (q row : List ℕ) (k r p : ℕ) → (slice_get row k ≡ Some p → Step d r p) → Decides (plain_register d q row) k p → Step d r p
    plain-bit q row k r p taken (inl from) = taken from
    plain-bit q row k r p taken (inr (inl from)) = taken from
    plain-bit q row k r p taken (inr (inr (inl e))) = Constants (true, e ∙ one-place)
    plain-bit q row k r p taken (inr (inr (inr e))) = Constants (false, e ∙ zero-is)

    register-bit : (role : Role) → role_of c.kind ≡ role → (g : RegisterOf) (k r p : ℕ) → Contains (registers_of_role role d i c) g → slice_get g.q k ≡ Some r → Decides g k p → Step d r p
    register-bit Combinational e g k r p is out h = absurd (nothing g is)
    register-bit Register e g k r p is out h =
        table-bit (signal_places d (output_of c)) k r p
        (subst (λ (z : RegisterOf). Decides z k p) (sym (only-one (table_register d c (signal_places d (output_of c))) g is)) h)
    register-bit AsyncResetRegister e g k r p is out h =
        table-bit (kept_places d i (length (output_of c))) k r p
        (subst (λ (z : RegisterOf). Decides z k p) (sym (only-one (table_register d c (kept_places d i (length (output_of c)))) g is)) h)
    register-bit Constant e g k r p is out h =
        let places : List ℕ = signal_places d (output_of c) in
        let same = sym (only-one (plain_register d places places) g is) in
        let at : slice_get places k ≡ Some r = subst (λ (z : RegisterOf). slice_get z.q k ≡ Some r) same out in
        plain-bit places places k r p (λ from. Stays (one_at places k p r from at)) (subst (λ (z : RegisterOf). Decides z k p) same h)
    register-bit Initial e g k r p is out h =
        plain-bit (signal_places d (output_of c)) (zero_place d ∷ []) k r p
        (λ from. Constants (false, sym (only-one (zero_place d) p (Contains-from_place (zero_place d ∷ []) k p from)) ∙ zero-is))
        (subst (λ (z : RegisterOf). Decides z k p) (sym (only-one (plain_register d (signal_places d (output_of c)) (zero_place d ∷ [])) g is)) h)
    register-bit Source e g k r p is out h = absurd (nothing g is)
    register-bit Statement e g k r p is out h = absurd (nothing g is)
    register-bit Unsupported e g k r p is out h = absurd (nothing g is)

  -- what the node of a driver reads
  driver-reads : (o : Driver) (y : NodeOf) (r p : ℕ) → IsNodeOf d o y → Contains y.y r → Contains (reads y) p → Step d r p
  driver-reads (Cell i) y r p is out h = by (role_of is.0.kind) refl is.2 out h
    where
      by : (role : Role) → role_of is.0.kind ≡ role → IsNodeOfRole role d i is.0 y → Contains y.y r → Contains (reads y) p → Step d r p
      by Combinational e n shown read = cell-reads i is.0 is.1 r p (subst (λ (z : NodeOf). Contains (reads z) p) n read)
      by Register e n shown read = absurd n
      by AsyncResetRegister e n shown read =
          reset-reads i is.0 is.1 e r p (subst (λ (z : NodeOf). Contains z.y r) n shown) (subst (λ (z : NodeOf). Contains (reads z) p) n read)
      by Constant e n shown read = absurd n
      by Initial e n shown read = absurd n
      by Source e n shown read = absurd n
      by Statement e n shown read = absurd n
      by Unsupported e n shown read = absurd n
  driver-reads (Connect i k) y r p is out h =
      let left = only-one (place_of d is.1) r (subst (λ (z : NodeOf). Contains z.y r) is.6 out) in
      let right = only-one (place_of d is.2) p (subst (λ (z : NodeOf). Contains (reads z) p) is.6 h) in
      Links (is.1, is.2, (i, is.0, k, is.3, is.4, is.5), sym left, sym right)

  module _ (order : List Driver) (m : ModelOf) (built : IsBuilt d order m) where
    pub node-step : (k : ℕ) (y : NodeOf) (r p : ℕ) → slice_get m.nodes k ≡ Some y → Contains y.y r → Contains (reads y) p → Step d r p
    node-step k y r p at out h =
        let o = beside m.nodes order (Cell 0) (sym built.nodes.size) k y at in
        driver-reads o.0 y r p (built.nodes.each k o.0 y o.1 at) out h

    pub register-step : (r p : ℕ) → IsHeldBy m r p → Step d r p
    register-step r p h =
        let g = h.2 in
        let has = subst (λ (l : List RegisterOf). Contains l g) built.registers (Contains-from_place m.registers h.0 g h.3) in
        let o = from-lists (registers_of d) (enumerate_from 0 d.cells) g has in
        let back = enumerated-back 0 d.cells o.0 o.1 o.2 in
        let place : o.0 ≡ o.1.0 = (let n = back.0 in omega (arith, n)) in
        register-bit o.1.0 o.1.1 (subst (λ (n : ℕ). slice_get d.cells n ≡ Some o.1.1) place back.1) (role_of o.1.1.kind) refl g h.1 r p o.3 h.4 h.5

    pub statement-step : (test : CellOf → Bool) (ss : List StatementOf) → ss ≡ map (statement_of d) (filter test d.cells) → (s : StatementOf) → Contains ss s
        → (p : ℕ) → (p ≡ s.a) ⊎ (p ≡ s.en) → IsKnown p
    statement-step test ss e s h p is =
        let c = map-member (statement_of d) (filter test d.cells) s (subst (λ (l : List StatementOf). Contains l s) e h) in
        let k = place-from_Contains (filter test d.cells) c.0 c.1 in
        let q = from-filter test d.cells k.0 c.0 k.1 in
        statement-read q.0 c.0 q.1 p (subst (λ (z : StatementOf). (p ≡ z.a) ⊎ (p ≡ z.en)) (sym c.2) is)
