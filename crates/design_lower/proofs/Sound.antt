-- The cells of a lowered register have no fault of their own, but for their width, which is the register's.
use Rattle.std.proofs.Common.{◌≡◌, ◌⊎◌, inl, inr, ℕ, zero, suc, ◌<◌, Bool, true, false, cond, not, ◌&&◌, ◌||◌, eqb, List, [], ◌∷◌, length, Option, Some, None, Contains, IsTrue, refl, ap, sym, subst, ◌∙◌, arith}
use Rattle.std.specs.Prelude.{slice_get}
use Rattle.std.specs.List.{find, list_any}
use Rattle.std.proofs.lemmas.Bool.{eq-eqb, eqb-true}
use Rattle.std.proofs.lemmas.List.{length-map}
use Rattle.cell_table.specs.declared.kind.Kind.{Kind}
use Rattle.cell_table.specs.declared.kind.Kind.TheVariants.{Adff, Adffe, Sdff, Sdffe, Mux, LeftOut as LeftOutCell, Unknown}
use Rattle.design_signals.specs.declared.sig_bit.SigBit.{SigBit}
use Rattle.design_signals.specs.declared.sig_bit.SigBit.TheVariants.{Wire}
use Rattle.design_core.specs.Asked.{are_number, are_values, count_of, has_number, has_parameters, number_at, number_of, output_of, HasPort, HasPorts}
use Rattle.design_core.specs.Digits.{digits_number, is_number}
use Rattle.design_core.specs.Ports.{are_distinct, digits_at, is_port, port_number, signal_at, signal_in}
use Rattle.design_core.specs.Shape.{CellOf}
use Rattle.design_core.specs.Table.{asks_one_sign, ports_of, port as line, width_limit, width_of}
use Rattle.design_core.specs.declared.digit.Digit.{Digit}
use Rattle.design_core.specs.declared.names.PortName.{PortName}
use Rattle.design_core.specs.declared.names.PortName.TheVariants.{A, B, S, En, Y, Clk, D, Q, Srst, Arst}
use Rattle.design_core.specs.declared.names.ParameterName.TheVariants.{Width, ClkPolarity, EnPolarity, ArstPolarity, ArstValue}
use Rattle.design_core.specs.declared.parts.Port.{Port}
use Rattle.design_core.specs.declared.table.PortLine.{PortLine}
use Rattle.design_core.specs.declared.table.PortWidth.TheVariants.{One, Of}
use Rattle.design_core.proofs.Lists.{Contains-from_place, place-from_Contains}
use Rattle.design_check.specs.Faults.{IsTooWide, flag}
use Rattle.design_lower.specs.Lowering.{FitsReset, digit_bit, digits_of_cell, digits_or_none, enabled_register, has_enable, kept_signal, plain_register, port, register, reset_signal, shown}
use Rattle.design_lower.proofs.Beginning.{length-bits_from}
use Rattle.design_lower.proofs.Cells.{enabled-form, form-of, plain-form}
use Rattle.design_lower.proofs.Clocking.{number-kept}
use Rattle.design_lower.proofs.Fitting.{has-enable, has-reset, has-signals, output-width}
use Rattle.design_lower.proofs.Lists.{eqb-other}
use Rattle.design_lower.proofs.Distinct.{all-at}

-- the cell has none of these faults, and may have 4,096 bits
pub record IsSound (x : CellOf) : Type 0 where
  pub known : x.kind ≡ Unknown → ⊥
  pub served : (k : _) → x.kind ≡ LeftOutCell k → ⊥
  pub parameters : has_parameters x.kind x.parameters ≡ true
  pub ports : HasPorts x
  pub one_sign : asks_one_sign x.kind ≡ false
  pub limit : width_limit x.kind ≡ 4096

and-true : (a b : Bool) → a ≡ true → b ≡ true → (a && b) ≡ true
and-true a b h g = ap (λ (x : Bool). x && b) h ∙ g

is-some : (n : ℕ) → 0 < n → not (eqb n 0) ≡ true
is-some n h = ap not (eqb-other n 0 (λ e. absurd (omega (arith, e, h))))

binary-kept : (o : Option (List Digit)) → are_number o ≡ true → are_number (Some (digits_or_none o)) ≡ true
binary-kept None h = absurd cc
binary-kept (Some xs) h = h

values-kept : (o : Option (List Digit)) → are_values o ≡ true → are_values (Some (digits_or_none o)) ≡ true
values-kept None h = absurd cc
values-kept (Some xs) h = h

count-kept : (o : Option (List Digit)) → count_of (Some (digits_or_none o)) ≡ count_of o
count-kept None = refl
count-kept (Some xs) = refl

either-long : (b : Bool) (xs ys : List SigBit) (n : ℕ) → length xs ≡ n → length ys ≡ n → length (cond b xs ys) ≡ n
either-long true xs ys n h g = h
either-long false xs ys n h g = g

module _ (c : CellOf) (fits : FitsReset c) where
  pub sound-itself : IsSound c
  sound-itself = elim (form-of c fits) as (λ _. IsSound c) [
    | inl plain ↦ by Adff plain.0 (λ e. absurd cc) (λ k e. absurd cc) refl refl
    | inr enabled ↦ by Adffe enabled.0 (λ e. absurd cc) (λ k e. absurd cc) refl refl
  ]
    where
      by : (kind : Kind) → c.kind ≡ kind → (kind ≡ Unknown → ⊥) → ((k : _) → kind ≡ LeftOutCell k → ⊥) → asks_one_sign kind ≡ false → width_limit kind ≡ 4096 → IsSound c
      by kind e known served sign limit = record {
        known = λ f. known (sym e ∙ f);
        served = λ k f. served k (sym e ∙ f);
        parameters = fits.parameters;
        ports = fits.ports;
        one_sign = ap asks_one_sign e ∙ sign;
        limit = ap width_limit e ∙ limit;
      }

  arst : length (signal_at c.ports Arst) ≡ 1
  arst = (has-signals c fits).reset.wide

  reset-long : length (reset_signal c) ≡ number_at c.parameters Width
  reset-long = length-map (digits_of_cell c ArstValue) digit_bit ∙ (by (digits_at c.parameters ArstValue) ∙ (has-reset c fits).count)
    where
      by : (o : Option (List Digit)) → length (digits_or_none o) ≡ count_of o
      by None = refl
      by (Some xs) = refl

  width-binary : is_number (digits_of_cell c Width) ≡ true
  width-binary = binary-kept (digits_at c.parameters Width) (has-reset c fits).width

  width-number : digits_number (digits_of_cell c Width) ≡ number_at c.parameters Width
  width-number = number-kept (digits_at c.parameters Width)

  width-some : 0 < digits_number (digits_of_cell c Width)
  width-some = let some = (has-reset c fits).some in omega (arith, some, width-number)

  kept-long : (w : ℕ) → length (kept_signal w c) ≡ number_of (Some (digits_of_cell c Width))
  kept-long w = length-bits_from (Wire w 0) 0 (number_at c.parameters Width) ∙ sym width-number

  pub sound-shown : (w : ℕ) → IsSound (shown w c)
  sound-shown w = record {
    known = λ e. absurd cc;
    served = λ k e. absurd cc;
    parameters = and-true _ true (and-true _ true (and-true _ _ width-binary (is-some (digits_number (digits_of_cell c Width)) width-some)) refl) refl;
    ports = record { all = λ l at. let p = place-from_Contains (ports_of Mux) l at in lines p.0 l p.1; only = refl; no_other = refl };
    one_sign = refl;
    limit = refl;
  }
    where
      long : length (reset_signal c) ≡ number_of (Some (digits_of_cell c Width))
      long = reset-long ∙ sym width-number

      lines : (k : ℕ) (l : PortLine) → slice_get (ports_of Mux) k ≡ Some l → HasPort (shown w c) l
      lines zero l e = let same : line A (Of Width) ≡ l = cc in subst (λ (x : PortLine). HasPort (shown w c) x) same
          (record { there = refl; wide = either-long (flag c ArstPolarity) (kept_signal w c) (reset_signal c) (number_of (Some (digits_of_cell c Width))) (kept-long w) long })
      lines (suc zero) l e = let same : line B (Of Width) ≡ l = cc in subst (λ (x : PortLine). HasPort (shown w c) x) same
          (record { there = refl; wide = either-long (flag c ArstPolarity) (reset_signal c) (kept_signal w c) (number_of (Some (digits_of_cell c Width))) long (kept-long w) })
      lines (suc (suc zero)) l e = let same : line S One ≡ l = cc in subst (λ (x : PortLine). HasPort (shown w c) x) same (record { there = refl; wide = arst })
      lines (suc (suc (suc zero))) l e = let same : line Y (Of Width) ≡ l = cc in subst (λ (x : PortLine). HasPort (shown w c) x) same (record { there = refl; wide = output-width c fits ∙ sym width-number })
      lines (suc (suc (suc (suc k)))) l e = absurd cc

  -- ---- the register

  clock-binary : are_number (Some (digits_of_cell c ClkPolarity)) ≡ true
  clock-binary = binary-kept (digits_at c.parameters ClkPolarity) (has-reset c fits).clock

  taken-long : length (signal_at c.ports D) ≡ number_of (Some (digits_of_cell c Width))
  taken-long = (has-signals c fits).taken.wide ∙ sym width-number

  polarity-binary : are_number (Some (digits_of_cell c ArstPolarity)) ≡ true
  polarity-binary = binary-kept (digits_at c.parameters ArstPolarity) (has-reset c fits).polarity

  value-form : are_values (Some (digits_of_cell c ArstValue)) ≡ true
  value-form = values-kept (digits_at c.parameters ArstValue) (has-reset c fits).values

  value-count : eqb (count_of (Some (digits_of_cell c ArstValue))) (number_of (Some (digits_of_cell c Width))) ≡ true
  value-count = eq-eqb _ _ (count-kept (digits_at c.parameters ArstValue) ∙ ((has-reset c fits).count ∙ sym width-number))

  enabled-has : has_enable c ≡ true → (has_number c.parameters EnPolarity ≡ true) × (length (signal_at c.ports En) ≡ 1)
  enabled-has e = elim (form-of c fits) as (λ _. (has_number c.parameters EnPolarity ≡ true) × (length (signal_at c.ports En) ≡ 1)) [
    | inl plain ↦ let clash : true ≡ false = sym e ∙ plain.1 in absurd cc
    | inr enabled ↦ has-enable c fits enabled.0
  ]

  width-form : (are_number (Some (digits_of_cell c Width)) && not (eqb (number_of (Some (digits_of_cell c Width))) 0)) ≡ true
  width-form = and-true _ _ width-binary (is-some (digits_number (digits_of_cell c Width)) width-some)

  -- of SRST_POLARITY, SRST_VALUE and WIDTH
  reset-forms : (are_number (Some (digits_of_cell c ArstPolarity)) && ((are_values (Some (digits_of_cell c ArstValue)) && eqb (count_of (Some (digits_of_cell c ArstValue))) (number_of (Some (digits_of_cell c Width))))
      && ((are_number (Some (digits_of_cell c Width)) && not (eqb (number_of (Some (digits_of_cell c Width))) 0)) && true))) ≡ true
  reset-forms = and-true _ _ polarity-binary (and-true _ _ (and-true _ _ value-form value-count) (and-true _ _ width-form refl))

  sound-plain : (w : ℕ) → IsSound (plain_register w c)
  sound-plain w = record {
    known = λ e. absurd cc;
    served = λ k e. absurd cc;
    parameters = and-true _ true (and-true _ _ clock-binary reset-forms) refl;
    ports = record { all = λ l at. let p = place-from_Contains (ports_of Sdff) l at in lines p.0 l p.1; only = refl; no_other = refl };
    one_sign = refl;
    limit = refl;
  }
    where
      lines : (k : ℕ) (l : PortLine) → slice_get (ports_of Sdff) k ≡ Some l → HasPort (plain_register w c) l
      lines zero l e = let same : line Clk One ≡ l = cc in subst (λ (x : PortLine). HasPort (plain_register w c) x) same (record { there = refl; wide = (has-signals c fits).clock.wide })
      lines (suc zero) l e = let same : line D (Of Width) ≡ l = cc in subst (λ (x : PortLine). HasPort (plain_register w c) x) same (record { there = refl; wide = taken-long })
      lines (suc (suc zero)) l e = let same : line Q (Of Width) ≡ l = cc in subst (λ (x : PortLine). HasPort (plain_register w c) x) same (record { there = refl; wide = kept-long w })
      lines (suc (suc (suc zero))) l e = let same : line Srst One ≡ l = cc in subst (λ (x : PortLine). HasPort (plain_register w c) x) same (record { there = refl; wide = arst })
      lines (suc (suc (suc (suc k)))) l e = absurd cc

  sound-enabled : (w : ℕ) → has_enable c ≡ true → IsSound (enabled_register w c)
  sound-enabled w en = record {
    known = λ e. absurd cc;
    served = λ k e. absurd cc;
    parameters = and-true _ true (and-true _ _ clock-binary (and-true _ _ (binary-kept (digits_at c.parameters EnPolarity) (enabled-has en).0) reset-forms)) refl;
    ports = record { all = λ l at. let p = place-from_Contains (ports_of Sdffe) l at in lines p.0 l p.1; only = refl; no_other = refl };
    one_sign = refl;
    limit = refl;
  }
    where
      lines : (k : ℕ) (l : PortLine) → slice_get (ports_of Sdffe) k ≡ Some l → HasPort (enabled_register w c) l
      lines zero l e = let same : line Clk One ≡ l = cc in subst (λ (x : PortLine). HasPort (enabled_register w c) x) same (record { there = refl; wide = (has-signals c fits).clock.wide })
      lines (suc zero) l e = let same : line D (Of Width) ≡ l = cc in subst (λ (x : PortLine). HasPort (enabled_register w c) x) same (record { there = refl; wide = taken-long })
      lines (suc (suc zero)) l e = let same : line En One ≡ l = cc in subst (λ (x : PortLine). HasPort (enabled_register w c) x) same (record { there = refl; wide = (enabled-has en).1 })
      lines (suc (suc (suc zero))) l e = let same : line Q (Of Width) ≡ l = cc in subst (λ (x : PortLine). HasPort (enabled_register w c) x) same (record { there = refl; wide = kept-long w })
      lines (suc (suc (suc (suc zero)))) l e = let same : line Srst One ≡ l = cc in subst (λ (x : PortLine). HasPort (enabled_register w c) x) same (record { there = refl; wide = arst })
      lines (suc (suc (suc (suc (suc k))))) l e = absurd cc

  pub sound-register : (w : ℕ) → IsSound (register w c)
  sound-register w = elim (form-of c fits) as (λ _. IsSound (register w c)) [
    | inl plain ↦ subst (λ (y : CellOf). IsSound y) (sym (plain-form w c plain.1)) (sound-plain w)
    | inr enabled ↦ subst (λ (y : CellOf). IsSound y) (sym (enabled-form w c enabled.1)) (sound-enabled w enabled.1)
  ]

-- ---- widths

module _ (name : PortName) where
  found-port : (ports : List Port) (k : ℕ) (p : Port) → are_distinct (λ q. port_number q.name) ports ≡ true → slice_get ports k ≡ Some p → is_port p.name name ≡ true → signal_at ports name ≡ p.signal
  found-port [] k p distinct at is = cc
  found-port (q ∷ qs) zero p distinct at is =
      let same : q ≡ p = cc in
      ap (λ (b : Bool). signal_in (cond b (Some q) (find (λ (z : Port). is_port z.name name) qs))) (ap (λ (z : Port). is_port z.name name) same ∙ is) ∙ ap (λ (z : Port). z.signal) same
  found-port (q ∷ qs) (suc k) p distinct at is = by (is_port q.name name) refl (λ h. found-port qs k p h at is)
    where
      none : (b c : Bool) → (not b && c) ≡ true → b ≡ false
      none true c h = absurd cc
      none false c h = refl

      rest : (b c : Bool) → (not b && c) ≡ true → c ≡ true
      rest true c h = absurd cc
      rest false c h = h

      never : (xs : List Port) (j : ℕ) → list_any (λ z. eqb (port_number q.name) (port_number z.name)) xs ≡ false → slice_get xs j ≡ Some p → eqb (port_number q.name) (port_number p.name) ≡ false
      never [] j h g = cc
      never (x ∷ xs) zero h g =
          let same : x ≡ p = cc in
          ap (λ (z : Port). eqb (port_number q.name) (port_number z.name)) (sym same)
          ∙ left (eqb (port_number q.name) (port_number x.name)) (list_any (λ z. eqb (port_number q.name) (port_number z.name)) xs) h
        where
          left : (b c : Bool) → (b || c) ≡ false → b ≡ false
          left true c h' = h'
          left false c h' = refl
      never (x ∷ xs) (suc j) h g = never xs j (right (eqb (port_number q.name) (port_number x.name)) (list_any (λ z. eqb (port_number q.name) (port_number z.name)) xs) h) g
        where
          right : (b c : Bool) → (b || c) ≡ false → c ≡ false
          right true c h' = absurd cc
          right false c h' = h'

      by : (b : Bool) → is_port q.name name ≡ b → (are_distinct (λ z. port_number z.name) qs ≡ true → signal_at qs name ≡ p.signal) → signal_at (q ∷ qs) name ≡ p.signal
      by false e later =
          ap (λ (b : Bool). signal_in (cond b (Some q) (find (λ (z : Port). is_port z.name name) qs))) e
          ∙ later (rest (list_any (λ z. eqb (port_number q.name) (port_number z.name)) qs) (are_distinct (λ z. port_number z.name) qs) distinct)
      by true e later =
          let a : port_number q.name ≡ port_number name = eqb-true (port_number q.name) (port_number name) e in
          let b : port_number p.name ≡ port_number name = eqb-true (port_number p.name) (port_number name) is in
          let yes : eqb (port_number q.name) (port_number p.name) ≡ true = eq-eqb (port_number q.name) (port_number p.name) (a ∙ sym b) in
          let no' = never qs k (none (list_any (λ z. eqb (port_number q.name) (port_number z.name)) qs) (are_distinct (λ z. port_number z.name) qs) distinct) at in
          let clash : true ≡ false = sym yes ∙ no' in
          absurd cc

  port-there : (ports : List Port) → list_any (λ q. is_port q.name name) ports ≡ true → (p : Port) × Contains ports p × (p.signal ≡ signal_at ports name)
  port-there [] h = absurd cc
  port-there (q ∷ qs) h = by (is_port q.name name) refl (λ g. port-there qs g)
    where
      right : (b c : Bool) → (b || c) ≡ true → b ≡ false → c ≡ true
      right true c h' e = absurd cc
      right false c h' e = h'

      by : (b : Bool) → is_port q.name name ≡ b → (list_any (λ z. is_port z.name name) qs ≡ true → (p : Port) × Contains qs p × (p.signal ≡ signal_at qs name))
          → (p : Port) × Contains (q ∷ qs) p × (p.signal ≡ signal_at (q ∷ qs) name)
      by true e later = (q, (0, omega arith, refl), sym (ap (λ (b : Bool). signal_in (cond b (Some q) (find (λ (z : Port). is_port z.name name) qs))) e))
      by false e later =
          let r = later (right (is_port q.name name) (list_any (λ z. is_port z.name name) qs) h e) in
          let p = place-from_Contains qs r.0 r.1 in
          (r.0, Contains-from_place (q ∷ qs) (suc p.0) r.0 p.1, r.2 ∙ sym (ap (λ (b : Bool). signal_in (cond b (Some q) (find (λ (z : Port). is_port z.name name) qs))) e))

at-one : {X : Type 0} (test : X → Bool) (xs : List X) → list_any test xs ≡ true → (x : X) × Contains xs x × (test x ≡ true)
at-one test [] h = absurd cc
at-one {X = X} test (x ∷ xs) h = by (test x) refl h (λ g. at-one test xs g)
  where
    by : (b : Bool) → test x ≡ b → (b || list_any test xs) ≡ true → (list_any test xs ≡ true → (y : X) × Contains xs y × (test y ≡ true)) → (y : X) × Contains (x ∷ xs) y × (test y ≡ true)
    by true e g later = (x, (0, omega arith, refl), e)
    by false e g later =
        let r = later g in
        let p = place-from_Contains xs r.0 r.1 in
        (r.0, Contains-from_place (x ∷ xs) (suc p.0) r.0 p.1, r.2)

-- a cell that has its line's ports is too wide where its WIDTH is
module _ (c : CellOf) (fits : FitsReset c) (is : IsTrue (are_distinct (λ q. port_number q.name) c.ports)) where
  line-width : (l : PortLine) → Contains (ports_of c.kind) l → (width_of (number_at c.parameters) l.width ≡ 1) ⊎ (width_of (number_at c.parameters) l.width ≡ number_at c.parameters Width)
  line-width l h = elim (form-of c fits) as (λ _. (width_of (number_at c.parameters) l.width ≡ 1) ⊎ (width_of (number_at c.parameters) l.width ≡ number_at c.parameters Width)) [
    | inl plain ↦ let q = place-from_Contains (ports_of Adff) l (subst (λ (k : Kind). Contains (ports_of k) l) plain.0 h) in plain-line q.0 q.1
    | inr enabled ↦ let q = place-from_Contains (ports_of Adffe) l (subst (λ (k : Kind). Contains (ports_of k) l) enabled.0 h) in enabled-line q.0 q.1
  ]
    where
      one : (x : PortLine) → x ≡ l → width_of (number_at c.parameters) x.width ≡ 1 → (width_of (number_at c.parameters) l.width ≡ 1) ⊎ (width_of (number_at c.parameters) l.width ≡ number_at c.parameters Width)
      one x e h' = inl (subst (λ (y : PortLine). width_of (number_at c.parameters) y.width ≡ 1) e h')

      whole : (x : PortLine) → x ≡ l → width_of (number_at c.parameters) x.width ≡ number_at c.parameters Width
          → (width_of (number_at c.parameters) l.width ≡ 1) ⊎ (width_of (number_at c.parameters) l.width ≡ number_at c.parameters Width)
      whole x e h' = inr (subst (λ (y : PortLine). width_of (number_at c.parameters) y.width ≡ number_at c.parameters Width) e h')

      plain-line : (k : ℕ) → slice_get (ports_of Adff) k ≡ Some l → (width_of (number_at c.parameters) l.width ≡ 1) ⊎ (width_of (number_at c.parameters) l.width ≡ number_at c.parameters Width)
      plain-line zero e = one (line Arst One) (cc) refl
      plain-line (suc zero) e = one (line Clk One) (cc) refl
      plain-line (suc (suc zero)) e = whole (line D (Of Width)) (cc) refl
      plain-line (suc (suc (suc zero))) e = whole (line Q (Of Width)) (cc) refl
      plain-line (suc (suc (suc (suc k)))) e = absurd cc

      enabled-line : (k : ℕ) → slice_get (ports_of Adffe) k ≡ Some l → (width_of (number_at c.parameters) l.width ≡ 1) ⊎ (width_of (number_at c.parameters) l.width ≡ number_at c.parameters Width)
      enabled-line zero e = one (line Arst One) (cc) refl
      enabled-line (suc zero) e = one (line Clk One) (cc) refl
      enabled-line (suc (suc zero)) e = whole (line D (Of Width)) (cc) refl
      enabled-line (suc (suc (suc zero))) e = one (line En One) (cc) refl
      enabled-line (suc (suc (suc (suc zero)))) e = whole (line Q (Of Width)) (cc) refl
      enabled-line (suc (suc (suc (suc (suc k))))) e = absurd cc

  pub wide-from : IsTooWide c → 4096 < number_at c.parameters Width
  wide-from h =
      let p = place-from_Contains c.ports h.0 h.1 in
      let lines = all-at (λ (q : Port). list_any (λ (l : PortLine). is_port q.name l.name) (ports_of c.kind)) c.ports p.0 h.0 fits.ports.only p.1 in
      let l = at-one (λ (x : PortLine). is_port h.0.name x.name) (ports_of c.kind) lines in
      let same : length (signal_at c.ports l.0.name) ≡ length h.0.signal = ap (λ (s : List SigBit). length s) (found-port l.0.name c.ports p.0 h.0 is p.1 l.2) in
      let wide = (fits.ports.all l.0 l.1).wide in
      let limit = (sound-itself c fits).limit in
      elim (line-width l.0 l.1) as (λ _. 4096 < number_at c.parameters Width) [
        | inl e ↦ absurd (omega (arith, same, wide, limit, e, h.2))
        | inr e ↦ omega (arith, same, wide, limit, e, h.2)
      ]

  pub wide-to : 4096 < number_at c.parameters Width → IsTooWide c
  wide-to h =
      let q = (has-signals c fits).shown in
      let p = port-there Q c.ports q.there in
      let same : length p.0.signal ≡ length (signal_at c.ports Q) = ap (λ (s : List SigBit). length s) p.2 in
      let limit = (sound-itself c fits).limit in
      (p.0, p.1, omega (arith, same, q.wide, limit, h))

  few-bits : (xs : List Port) → ((k : ℕ) (p : Port) → slice_get xs k ≡ Some p → (length p.signal ≡ 1) ⊎ (length p.signal ≡ number_at c.parameters Width)) → (p : Port) → Contains xs p → 4096 < length p.signal
      → 4096 < number_at c.parameters Width
  few-bits xs each p at h =
      let q = place-from_Contains xs p at in
      elim (each q.0 p q.1) as (λ _. 4096 < number_at c.parameters Width) [ inl e ↦ absurd (omega (arith, e, h)) | inr e ↦ omega (arith, e, h) ]

  abbrev pub IsShort : List SigBit → Type 0
  IsShort s = (length s ≡ 1) ⊎ (length s ≡ number_at c.parameters Width)

  short-port : (x p : Port) → x ≡ p → IsShort x.signal → IsShort p.signal
  short-port x p e g = subst (λ (y : Port). IsShort y.signal) e g

  short-kept : (w : ℕ) → IsShort (kept_signal w c)
  short-kept w = inr (length-bits_from (Wire w 0) 0 (number_at c.parameters Width))

  pub shown-wide : (w : ℕ) → IsTooWide (shown w c) → 4096 < number_at c.parameters Width
  shown-wide w h = few-bits (shown w c).ports each h.0 h.1 h.2
    where
      either : (b : Bool) (r s : List SigBit) → IsShort r → IsShort s → IsShort (cond b r s)
      either true r s f g = f
      either false r s f g = g

      each : (k : ℕ) (p : Port) → slice_get (shown w c).ports k ≡ Some p → IsShort p.signal
      each zero p e = short-port (port A (cond (flag c ArstPolarity) (kept_signal w c) (reset_signal c))) p (cc) (either (flag c ArstPolarity) (kept_signal w c) (reset_signal c) (short-kept w) (inr (reset-long c fits)))
      each (suc zero) p e = short-port (port B (cond (flag c ArstPolarity) (reset_signal c) (kept_signal w c))) p (cc) (either (flag c ArstPolarity) (reset_signal c) (kept_signal w c) (inr (reset-long c fits)) (short-kept w))
      each (suc (suc zero)) p e = short-port (port S (signal_at c.ports Arst)) p (cc) (inl (arst c fits))
      each (suc (suc (suc zero))) p e = short-port (port Y (output_of c)) p (cc) (inr (output-width c fits))
      each (suc (suc (suc (suc k)))) p e = absurd cc

  plain-wide : (w : ℕ) → IsTooWide (plain_register w c) → 4096 < number_at c.parameters Width
  plain-wide w h = few-bits (plain_register w c).ports each h.0 h.1 h.2
    where
      each : (k : ℕ) (p : Port) → slice_get (plain_register w c).ports k ≡ Some p → IsShort p.signal
      each zero p e = short-port (port Clk (signal_at c.ports Clk)) p (cc) (inl (has-signals c fits).clock.wide)
      each (suc zero) p e = short-port (port D (signal_at c.ports D)) p (cc) (inr (has-signals c fits).taken.wide)
      each (suc (suc zero)) p e = short-port (port Q (kept_signal w c)) p (cc) (short-kept w)
      each (suc (suc (suc zero))) p e = short-port (port Srst (signal_at c.ports Arst)) p (cc) (inl (arst c fits))
      each (suc (suc (suc (suc k)))) p e = absurd cc

  enabled-wide : (w : ℕ) → has_enable c ≡ true → IsTooWide (enabled_register w c) → 4096 < number_at c.parameters Width
  enabled-wide w en h = few-bits (enabled_register w c).ports each h.0 h.1 h.2
    where
      each : (k : ℕ) (p : Port) → slice_get (enabled_register w c).ports k ≡ Some p → IsShort p.signal
      each zero p e = short-port (port Clk (signal_at c.ports Clk)) p (cc) (inl (has-signals c fits).clock.wide)
      each (suc zero) p e = short-port (port D (signal_at c.ports D)) p (cc) (inr (has-signals c fits).taken.wide)
      each (suc (suc zero)) p e = short-port (port En (signal_at c.ports En)) p (cc) (inl (enabled-has c fits en).1)
      each (suc (suc (suc zero))) p e = short-port (port Q (kept_signal w c)) p (cc) (short-kept w)
      each (suc (suc (suc (suc zero)))) p e = short-port (port Srst (signal_at c.ports Arst)) p (cc) (inl (arst c fits))
      each (suc (suc (suc (suc (suc k))))) p e = absurd cc

  pub register-wide : (w : ℕ) → IsTooWide (register w c) → 4096 < number_at c.parameters Width
  register-wide w h = elim (form-of c fits) as (λ _. 4096 < number_at c.parameters Width) [
    | inl plain ↦ plain-wide w (subst (λ (y : CellOf). IsTooWide y) (plain-form w c plain.1) h)
    | inr enabled ↦ enabled-wide w enabled.1 (subst (λ (y : CellOf). IsTooWide y) (enabled-form w c enabled.1) h)
  ]

  -- the `$mux` of what is shown is too wide where WIDTH is
  pub wide-shown : (w : ℕ) → 4096 < number_at c.parameters Width → IsTooWide (shown w c)
  wide-shown w h = (port Y (output_of c), (3, omega arith, refl), let wide = output-width c fits in omega (arith, wide, h))
