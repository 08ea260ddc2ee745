-- A node reads only what stands before it.
use Rattle.std.proofs.Common.{◌≡◌, ◌⊎◌, inl, inr, ℕ, zero, suc, ◌+◌, ◌-◌, ◌<◌, ◌≤◌, Bool, true, false, cond, not, eqb, ◌&&◌, ◌||◌, List, [], ◌∷◌, ◌++◌, length, map, take, get_or, Option, Some, None, Contains, All, refl, ap, sym, subst, ◌∙◌, arith}
use Rattle.std.specs.Prelude.{slice_get}
use Rattle.std.specs.List.{find, flat_map, list_any, range_with_len}
use Rattle.std.proofs.lemmas.Bool.{cases_lt, eqb-true, false≢true, true≢false}
use Rattle.std.proofs.lemmas.Option.{slice_get_within}
use Rattle.std.proofs.lemmas.List.Elements.{All-contains, Contains-append_left, Contains-append_right, Contains-append_cases}
use Rattle.cell_table.specs.declared.kind.Any.TheVariants.{Const as AnyConst, Seq as AnySeq}
use Rattle.cell_table.specs.declared.kind.Kind.{Kind}
use Rattle.cell_table.specs.declared.kind.Kind.TheVariants.{Unary as UnaryCell, Binary as BinaryCell, Reduce as ReduceCell, Logic as LogicCell, Compare as CompareCell, ShiftLeft, ShiftRight, ShiftSign, ShiftAny, Divide as DivideCell, Mux, Pmux, Bmux, Slice, Concat, Ff, Dff, Dffe, Sdff, Sdffe, Sdffce, Adff, Adffe, Statement as StatementCell, Any as AnyCell, InitState, LeftOut as LeftOutCell, Unknown}
use Rattle.design_check.specs.Faults.{IsFlat, flag}
use Rattle.design_core.specs.Asked.{output_of}
use Rattle.design_core.specs.Places.{place_of, places}
use Rattle.design_core.specs.Ports.{digits_at, is_port, port_number, signal_at, signal_in}
use Rattle.design_core.specs.Shape.{CellOf, ConnectOf, DesignOf, IsDeclared, IsDesign, IsNumbered, wire_bits}
use Rattle.design_core.specs.Table.{ports_in_cycle, ports_of, ports_read, role_of}
use Rattle.design_core.specs.declared.digit.Digit.{Digit}
use Rattle.design_core.specs.declared.digit.Digit.TheVariants.{Const as ConstDigit, Free as FreeDigit, Marker}
use Rattle.design_core.specs.declared.names.ParameterName.TheVariants.{ArstPolarity, ArstValue}
use Rattle.design_core.specs.declared.names.PortName.{PortName}
use Rattle.design_core.specs.declared.names.PortName.TheVariants.{A, B, S, Arst}
use Rattle.design_core.specs.declared.parts.Port.{Port}
use Rattle.design_core.specs.declared.table.Role.{Role}
use Rattle.design_core.specs.declared.table.Role.TheVariants.{Combinational, Register, AsyncResetRegister, Constant, Initial, Source, Statement, Unsupported}
use Rattle.design_core.proofs.Lists.{Contains-from_place, one_at, place-from_Contains}
use Rattle.design_core.proofs.Places.{bit_number-most, place_of-same, place_of-within}
use Rattle.design_graph.specs.Order.{Drives, DrivesFrom, IsOrder}
use Rattle.design_graph.specs.declared.driver.Driver.{Driver}
use Rattle.design_graph.specs.declared.driver.Driver.TheVariants.{Cell, Connect}
use Rattle.design_graph.proofs.Declared.{All-digits_at, All-signal_at, cell-declared, right-declared}
use Rattle.design_meaning.specs.Meaning.{IsCell}
use Rattle.design_meaning.specs.Runs.{kept_bits}
use Rattle.design_meaning.specs.Rests.{IsPortBit}
use Rattle.design_signals.specs.declared.sig_bit.SigBit.{SigBit}
use Rattle.design_signals.specs.declared.sig_bit.SigBit.TheVariants.{Wire, Const, Free}
use Rattle.design_states.proofs.Giving.{from-lists, in-lists}
use Rattle.model_core.specs.Shape.{ModelOf, NodeOf, given, reads, sources}
use Rattle.word_model.specs.Built.{IsBuilt}
use Rattle.word_model.specs.Kinds.{asks}
use Rattle.word_model.specs.Layout.{digit_place, digits_places, kept_place, kept_places, parameter_places, signal_places, zero_place}
use Rattle.word_model.specs.Nodes.{IsNodeOf, IsNodeOfRole, cell_node, reset_node}
use Rattle.word_model.proofs.Asking.{port-none}
use Rattle.word_model.proofs.Framed.{beside}
use Rattle.word_model.proofs.Modelled.{all-known}
use Rattle.word_model.proofs.Once.{kept-end, wire-below}
use Rattle.word_model.proofs.Owning.{drives-declared, drives-wire, in-range, map-member, node-gives}

-- the ports A, B and S of a combinational type are read within the cycle
abbrev pub reads_port : Kind → PortName → Bool
reads_port k name = not (asks k name) || list_any (λ p. is_port p name) (ports_read k)

abbrev reads_ports : Kind → Bool
reads_ports k = reads_port k A && (reads_port k B && reads_port k S)

ports-are-read : (k : Kind) → role_of k ≡ Combinational → reads_ports k ≡ true
ports-are-read (UnaryCell k) h = refl
ports-are-read (BinaryCell k) h = refl
ports-are-read (ReduceCell k) h = refl
ports-are-read (LogicCell k) h = refl
ports-are-read (CompareCell k) h = refl
ports-are-read ShiftLeft h = refl
ports-are-read ShiftRight h = refl
ports-are-read ShiftSign h = refl
ports-are-read ShiftAny h = refl
ports-are-read (DivideCell k) h = refl
ports-are-read Mux h = refl
ports-are-read Pmux h = refl
ports-are-read Bmux h = refl
ports-are-read Slice h = refl
ports-are-read Concat h = refl
ports-are-read Ff h = absurd cc
ports-are-read Dff h = absurd cc
ports-are-read Dffe h = absurd cc
ports-are-read Sdff h = absurd cc
ports-are-read Sdffe h = absurd cc
ports-are-read Sdffce h = absurd cc
ports-are-read Adff h = absurd cc
ports-are-read Adffe h = absurd cc
ports-are-read (StatementCell k) h = absurd cc
ports-are-read (AnyCell AnyConst) h = absurd cc
ports-are-read (AnyCell AnySeq) h = absurd cc
ports-are-read InitState h = absurd cc
ports-are-read (LeftOutCell k) h = absurd cc
ports-are-read Unknown h = absurd cc

both : (a b : Bool) → (a && b) ≡ true → (a ≡ true) × (b ≡ true)
both true true h = (refl, refl)
both true false h = absurd cc
both false b h = absurd cc

implied : (a b : Bool) → (not a || b) ≡ true → a ≡ true → b ≡ true
implied true b h e = h
implied false b h e = absurd (false≢true e)

any-port : (name : PortName) (ps : List PortName) → list_any (λ p. is_port p name) ps ≡ true → (p : PortName) × Contains ps p × (is_port p name ≡ true)
any-port name [] h = absurd (false≢true h)
any-port name (p ∷ ps) h = by (is_port p name) refl h (λ g. any-port name ps g)
  where
    by : (b : Bool) → is_port p name ≡ b → (b || list_any (λ q. is_port q name) ps) ≡ true → (list_any (λ q. is_port q name) ps ≡ true → (q : PortName) × Contains ps q × (is_port q name ≡ true))
        → (q : PortName) × Contains (p ∷ ps) q × (is_port q name ≡ true)
    by true e g rest = (p, (0, omega arith, refl), e)
    by false e g rest = let r = rest g in (r.0, (let at = r.1 in let lt = at.1 in (suc at.0, omega (arith, lt), at.2)), r.2)

named : (ports : List Port) (p q : PortName) → is_port p q ≡ true → signal_at ports p ≡ signal_at ports q
named ports p q h = ap (λ (n : ℕ). signal_in (find (λ (x : Port). eqb (port_number x.name) n) ports)) (eqb-true (port_number p) (port_number q) h)

module _ (d : DesignOf) (shape : IsDesign d) (flat : IsFlat d) (i : ℕ) (x : CellOf) (at : IsCell d i x) where
  -- a bit at a port that is read
  read-bit : (name : PortName) (b : SigBit) → reads_port x.kind name ≡ true → Contains (signal_at x.ports name) b → IsPortBit x b
  read-bit name b h has = by (asks x.kind name) refl
    where
      nothing : Contains (let bits : List SigBit = [] in bits) b → ⊥
      nothing c = let lt = c.1 in absurd (omega (arith, lt))

      by : (t : Bool) → asks x.kind name ≡ t → IsPortBit x b
      by true e =
          let r = any-port name (ports_read x.kind) (implied (asks x.kind name) (list_any (λ p. is_port p name) (ports_read x.kind)) h e) in
          (r.0, r.1, subst (λ (l : List SigBit). Contains l b) (sym (named x.ports r.0 name r.2)) has)
      by false e = absurd (nothing (subst (λ (l : List SigBit). Contains l b) (port-none d shape flat i x at name e) has))

  port-declared : (name : PortName) (b : SigBit) → Contains (signal_at x.ports name) b → IsDeclared d.wires d.free b
  port-declared name b h =
      All-contains (IsDeclared d.wires d.free) (signal_at x.ports name) b (All-signal_at (IsDeclared d.wires d.free) x.ports name (cell-declared d shape i x at).ports) h

  -- what is read: a bit from which the driver drives, or a place that no wire has
  abbrev IsReadPlace : Driver → ℕ → Type 0
  IsReadPlace r p = ((b : SigBit) × IsDeclared d.wires d.free b × (p ≡ place_of d b) × DrivesFrom d r b) ⊎ ((wire_bits d ≤ p) × (p < places d + kept_bits d))

  port-place : (name : PortName) (p : ℕ) → reads_port x.kind name ≡ true → Contains (signal_places d (signal_at x.ports name)) p → IsReadPlace (Cell i) p
  port-place name p h has =
      let m = map-member (place_of d) (signal_at x.ports name) p has in
      inl (m.0, port-declared name m.0 m.1, sym m.2, (x, at, inl (read-bit name m.0 h m.1)))

  cell-reads : role_of x.kind ≡ Combinational → (p : ℕ) → Contains (reads (cell_node d x)) p → IsReadPlace (Cell i) p
  cell-reads role p h =
      let all = ports-are-read x.kind role in
      let a = both (reads_port x.kind A) (reads_port x.kind B && reads_port x.kind S) all in
      let b = both (reads_port x.kind B) (reads_port x.kind S) a.1 in
      elim (Contains-append_cases (signal_places d (signal_at x.ports A)) (signal_places d (signal_at x.ports B) ++ signal_places d (signal_at x.ports S)) p h) as (λ _. IsReadPlace (Cell i) p) [
        | inl first ↦ port-place A p a.0 first
        | inr later ↦ elim (Contains-append_cases (signal_places d (signal_at x.ports B)) (signal_places d (signal_at x.ports S)) p later) as (λ _. IsReadPlace (Cell i) p) [
          | inl second ↦ port-place B p b.0 second
          | inr third ↦ port-place S p b.1 third
        ]
      ]

  digit-above : (y : Digit) → IsNumbered d.free y → (wire_bits d ≤ digit_place d y) × (digit_place d y < places d)
  digit-above (ConstDigit b) h = (omega arith, omega (arith, bit_number-most d b))
  digit-above (FreeDigit n) h = (omega arith, omega (arith, h))
  digit-above Marker h = (omega arith, omega arith)

  value-above : (o : Option (List Digit)) → ((xs : List Digit) → o ≡ Some xs → All (IsNumbered d.free) xs) → (p : ℕ) → Contains (digits_places d o) p → (wire_bits d ≤ p) × (p < places d + kept_bits d)
  value-above None numbered p h = let lt = h.1 in absurd (omega (arith, lt))
  value-above (Some xs) numbered p h =
      let m = map-member (digit_place d) xs p h in
      let e = m.2 in
      let a = digit-above m.0 (All-contains (IsNumbered d.free) xs m.0 (numbered xs refl) m.1) in
      let from = a.0 in
      let to = a.1 in
      (omega (arith, e, from), omega (arith, e, to))

  reset-above : (p : ℕ) → Contains (parameter_places d x ArstValue) p → (wire_bits d ≤ p) × (p < places d + kept_bits d)
  reset-above p h =
      value-above (digits_at x.parameters ArstValue) (λ xs e. All-digits_at (IsNumbered d.free) x.parameters ArstValue (cell-declared d shape i x at).parameters xs e) p h

  module _ (role : role_of x.kind ≡ AsyncResetRegister) where
    kept-above : (p : ℕ) → Contains (kept_places d i (length (output_of x))) p → (wire_bits d ≤ p) × (p < places d + kept_bits d)
    kept-above p h =
        let m = map-member (kept_place d i) (range_with_len 0 (length (output_of x))) p h in
        let e = m.2 in
        let to = kept-end d shape flat i m.0 x at role (in-range (length (output_of x)) m.0 m.1) in
        (omega (arith, e), omega (arith, e, to))

    chosen-above : (t : Bool) (p : ℕ) → Contains (cond t (kept_places d i (length (output_of x))) (parameter_places d x ArstValue)) p → (wire_bits d ≤ p) × (p < places d + kept_bits d)
    chosen-above true p h = kept-above p h
    chosen-above false p h = reset-above p h

    other-above : (t : Bool) (p : ℕ) → Contains (cond t (parameter_places d x ArstValue) (kept_places d i (length (output_of x)))) p → (wire_bits d ≤ p) × (p < places d + kept_bits d)
    other-above true p h = reset-above p h
    other-above false p h = kept-above p h

  reset-read : role_of x.kind ≡ AsyncResetRegister → reads_port x.kind Arst ≡ true
  reset-read e = by (asks x.kind Arst) (ap (λ (r : Role). list_any (λ p. is_port p Arst) (ports_in_cycle r (map (λ l. l.name) (ports_of x.kind)))) e)
    where
      by : (t : Bool) → list_any (λ p. is_port p Arst) (ports_read x.kind) ≡ true → (not t || list_any (λ p. is_port p Arst) (ports_read x.kind)) ≡ true
      by true h = h
      by false h = refl

  reset-reads : role_of x.kind ≡ AsyncResetRegister → (p : ℕ) → Contains (reads (reset_node d i x)) p → IsReadPlace (Cell i) p
  reset-reads role p h =
      elim (Contains-append_cases (cond (flag x ArstPolarity) (kept_places d i (length (output_of x))) (parameter_places d x ArstValue)) (cond (flag x ArstPolarity) (parameter_places d x ArstValue) (kept_places d i (length (output_of x))) ++ signal_places d (signal_at x.ports Arst)) p h)
      as (λ _. IsReadPlace (Cell i) p) [
        | inl first ↦ inr (chosen-above role (flag x ArstPolarity) p first)
        | inr later ↦ elim (Contains-append_cases (cond (flag x ArstPolarity) (parameter_places d x ArstValue) (kept_places d i (length (output_of x)))) (signal_places d (signal_at x.ports Arst)) p later) as (λ _. IsReadPlace (Cell i) p) [
          | inl second ↦ inr (other-above role (flag x ArstPolarity) p second)
          | inr third ↦ port-place Arst p (reset-read role) third
        ]
      ]

abbrev pub IsRead : DesignOf → Driver → ℕ → Type 0
IsRead d r p = ((b : SigBit) × IsDeclared d.wires d.free b × (p ≡ place_of d b) × DrivesFrom d r b) ⊎ ((wire_bits d ≤ p) × (p < places d + kept_bits d))

take-at : {X : Type 0} (xs : List X) (n k : ℕ) (x : X) → k < n → slice_get xs k ≡ Some x → slice_get (take n xs) k ≡ Some x
take-at [] n k x lt h = absurd cc
take-at (y ∷ xs) zero k x lt h = absurd (omega arith)
take-at (y ∷ xs) (suc n) zero x lt h = h
take-at (y ∷ xs) (suc n) (suc k) x lt h = take-at xs n k x (omega arith) h

module _ (d : DesignOf) (shape : IsDesign d) (flat : IsFlat d) (order : List Driver) (ordered : IsOrder d order) (m : ModelOf) (built : IsBuilt d order m) where
  node-reads : (r : Driver) (y : NodeOf) (p : ℕ) → IsNodeOf d r y → Contains (reads y) p → IsRead d r p
  node-reads (Cell i) y p is h = by (role_of is.0.kind) refl is.2
    where
      by : (role : Role) → role_of is.0.kind ≡ role → IsNodeOfRole role d i is.0 y → IsRead d (Cell i) p
      by Combinational e n = cell-reads d shape flat i is.0 is.1 e p (subst (λ (z : NodeOf). Contains (reads z) p) n h)
      by Register e n = absurd n
      by AsyncResetRegister e n = reset-reads d shape flat i is.0 is.1 e p (subst (λ (z : NodeOf). Contains (reads z) p) n h)
      by Constant e n = absurd n
      by Initial e n = absurd n
      by Source e n = absurd n
      by Statement e n = absurd n
      by Unsupported e n = absurd n
  node-reads (Connect i k) y p is h =
      let c = subst (λ (z : NodeOf). Contains (reads z) p) is.6 h in
      let e = one-of c.0 c.1 c.2 in
      inl (is.2, right-declared d shape i k is.0 is.2 is.3 is.5, sym e, (is.0, is.3, is.5))
    where
      one-of : (n : ℕ) → n < length (place_of d is.2 ∷ []) → get_or (place_of d is.2 ∷ []) n p ≡ p → place_of d is.2 ≡ p
      one-of zero lt e = e
      one-of (suc n) lt e = absurd (omega (arith, lt))

  -- what is read and given by a node is given by an earlier one
  read-given : (n l : ℕ) (r : Driver) (y : NodeOf) (p : ℕ) → slice_get order n ≡ Some r → IsRead d r p → slice_get m.nodes l ≡ Some y → Contains y.y p → l < n
  read-given n l r y p at (inl b) node has =
      let g = node-gives d shape flat order ordered m built l y p node has in
      let a = g.2 in
      let same : b.0 ≡ a.0 = place_of-same d b.0 a.0 b.1 (drives-declared d shape flat g.0 a.0 a.1) (sym b.2 ∙ a.2) in
      ordered.earlier n l r g.0 a.0 at g.1 (subst (λ (z : SigBit). DrivesFrom d r z) same b.3) a.1
  read-given n l r y p at (inr above) node has =
      let g = node-gives d shape flat order ordered m built l y p node has in
      let a = g.2 in
      let e = a.2 in
      let lt = wire-below d shape flat a.0 (drives-declared d shape flat g.0 a.0 a.1) (drives-wire d shape flat g.0 a.0 a.1) in
      (let from = above.0 in absurd (omega (arith, e, lt, from)))

  read-below : (r : Driver) (p : ℕ) → IsRead d r p → p < m.size
  read-below r p (inl b) = let e = b.2 in let s = built.size in omega (arith, e, s, place_of-within d b.0 b.1)
  read-below r p (inr above) = let to = above.1 in let s = built.size in omega (arith, to, s)

  pub reads-before : (n : ℕ) (y : NodeOf) → slice_get m.nodes n ≡ Some y → (p : ℕ) → Contains (reads y) p → Contains (sources m ++ given (take n m.nodes)) p
  reads-before n y at p h =
      let r = beside m.nodes order (Cell 0) (sym built.nodes.size) n y at in
      let read = node-reads r.0 y p (built.nodes.each n r.0 y r.1 at) h in
      elim (Contains-append_cases (sources m) (given m.nodes) p (all-known d shape flat order ordered m built p (read-below r.0 p read))) as (λ _. Contains (sources m ++ given (take n m.nodes)) p) [
        | inl s ↦ Contains-append_left (sources m) (given (take n m.nodes)) p s
        | inr g ↦
            let o = from-lists (λ (z : NodeOf). z.y) m.nodes p g in
            let lt = read-given n o.0 r.0 o.1 p r.1 read o.2 o.3 in
            Contains-append_right (sources m) (given (take n m.nodes)) p (in-lists (λ (z : NodeOf). z.y) (take n m.nodes) o.0 o.1 p (take-at m.nodes n o.0 o.1 lt o.2) o.3)
      ]
