-- What a flat design's cells have: widths, numbers, and no port or parameter that the table doesn't name.
use Rattle.std.proofs.Common.{◌≡◌, ◌⊎◌, inl, inr, ℕ, zero, suc, ◌+◌, ◌<◌, ◌≤◌, Bool, true, false, cond, not, eqb, leb, ◌&&◌, ◌||◌, List, [], ◌∷◌, length, Option, Some, None, Contains, refl, ap, sym, subst, ◌∙◌, arith}
use Rattle.std.specs.Prelude.{IsTrue}
use Rattle.std.specs.List.{list_all, list_any, find}
use Rattle.std.proofs.lemmas.List.{length-map}
use Rattle.std.proofs.lemmas.Bool.{eqb-true, eq-eqb, false≢true, true≢false, cases_lt}
use Rattle.design_check.specs.Faults.{IsFlat, Whole, flag}
use Rattle.design_check.specs.declared.fault.FaultKind.TheVariants.{WidthLimit, MixedSign}
use Rattle.design_check.proofs.Asking.{flat-parameters, flat-ports}
use Rattle.cell_table.specs.declared.kind.Kind.{Kind}
use Rattle.design_core.specs.Asked.{HasPort, are_number, are_values, count_of, has_form, has_number, has_parameters, is_inside, number_at}
use Rattle.design_core.specs.Digits.{is_number}
use Rattle.design_core.specs.Ports.{digits_at, digits_of, is_parameter, is_port, names_parameter, parameter_number, port_number, signal_at, signal_in}
use Rattle.design_core.specs.Shape.{CellOf, DesignOf, IsCellOf, IsDesign}
use Rattle.design_core.specs.Table.{asks_one_sign, form_of, parameters_of, ports_of, width_limit, width_of}
use Rattle.design_core.specs.declared.digit.Digit.{Digit}
use Rattle.design_core.specs.declared.names.ParameterName.{ParameterName}
use Rattle.design_core.specs.declared.names.ParameterName.TheVariants.{ASigned, AWidth, BSigned, BWidth, YWidth, Width, SWidth, Offset, ClkPolarity, EnPolarity, SrstPolarity, SrstValue, ArstPolarity, ArstValue}
use Rattle.design_core.specs.declared.names.PortName.{PortName}
use Rattle.design_core.specs.declared.parts.Parameter.{Parameter}
use Rattle.design_core.specs.declared.parts.Port.{Port}
use Rattle.design_core.specs.declared.table.ParameterForm.{ParameterForm}
use Rattle.design_core.specs.declared.table.ParameterForm.TheVariants.{Flag, Number, Width as WidthForm, Value}
use Rattle.design_core.specs.declared.table.PortLine.{PortLine}
use Rattle.design_graph.proofs.Declared.{All-signal_at, cell-declared}
use Rattle.design_graph.specs.declared.item.Item.TheVariants.{Cell}
use Rattle.design_meaning.specs.Meaning.{IsCell}
use Rattle.design_signals.specs.declared.sig_bit.SigBit.{SigBit}
use Rattle.word_model.specs.Kinds.{asks}
use Rattle.word_model.specs.Layout.{digit_place, digits_places, parameter_places}
use Rattle.word_model.specs.Served.{IsPlain}

both : (a b : Bool) → (a && b) ≡ true → (a ≡ true) × (b ≡ true)
both true true h = (refl, refl)
both true false h = absurd cc
both false b h = absurd cc

eqb-comm : (m n : ℕ) → eqb m n ≡ eqb n m
eqb-comm m n = by (eqb m n) (eqb n m) (λ e. eq-eqb n m (sym (eqb-true m n e))) (λ e. eq-eqb m n (sym (eqb-true n m e)))
  where
    by : (s t : Bool) → (s ≡ true → t ≡ true) → (t ≡ true → s ≡ true) → s ≡ t
    by true t f g = sym (f refl)
    by false true f g = g refl
    by false false f g = refl

-- ---- names by their numbers

abbrev name_of : ℕ → ParameterName
name_of n = cond (eqb n 0) ASigned (cond (eqb n 1) AWidth (cond (eqb n 2) BSigned (cond (eqb n 3) BWidth (cond (eqb n 4) YWidth (cond (eqb n 5) Width (cond (eqb n 6) SWidth (cond (eqb n 7) Offset (cond (eqb n 8) ClkPolarity (cond (eqb n 9) EnPolarity (cond (eqb n 10) SrstPolarity (cond (eqb n 11) SrstValue (cond (eqb n 12) ArstPolarity ArstValue))))))))))))

named-back : (p : ParameterName) → name_of (parameter_number p) ≡ p
named-back ASigned = refl
named-back AWidth = refl
named-back BSigned = refl
named-back BWidth = refl
named-back YWidth = refl
named-back Width = refl
named-back SWidth = refl
named-back Offset = refl
named-back ClkPolarity = refl
named-back EnPolarity = refl
named-back SrstPolarity = refl
named-back SrstValue = refl
named-back ArstPolarity = refl
named-back ArstValue = refl

pub one-name : (p q : ParameterName) → is_parameter p q ≡ true → p ≡ q
one-name p q h = sym (named-back p) ∙ (ap name_of (eqb-true (parameter_number p) (parameter_number q) h) ∙ named-back q)

-- what holds of each parameter that is named holds of one of that name
any-named : (test : ParameterName → Bool) (names : List ParameterName) (name : ParameterName) → list_all test names ≡ true → list_any (λ p. is_parameter p name) names ≡ true → test name ≡ true
any-named test [] name all any = absurd (false≢true any)
any-named test (p ∷ names) name all any = by (is_parameter p name) refl any (λ later. any-named test names name (both (test p) (list_all test names) all).1 later)
  where
    by : (b : Bool) → is_parameter p name ≡ b → (b || list_any (λ q. is_parameter q name) names) ≡ true → (list_any (λ q. is_parameter q name) names ≡ true → test name ≡ true) → test name ≡ true
    by true e h rest = subst (λ (q : ParameterName). test q ≡ true) (one-name p name e) (both (test p) (list_all test names) all).0
    by false e h rest = rest h

-- a parameter that is there is named
pub there-named : (k : Kind) (ps : List Parameter) (name : ParameterName) (xs : List Digit) → list_all (λ (p : Parameter). names_parameter k p.name) ps ≡ true → digits_at ps name ≡ Some xs → names_parameter k name ≡ true
there-named k [] name xs all e = absurd cc
there-named k (p ∷ ps) name xs all e =
    by (is_parameter p.name name) refl e (λ later. there-named k ps name xs (both (names_parameter k p.name) (list_all (λ (q : Parameter). names_parameter k q.name) ps) all).1 later)
  where
    by : (b : Bool) → is_parameter p.name name ≡ b → digits_of (cond b (Some p) (find (λ (q : Parameter). is_parameter q.name name) ps)) ≡ Some xs → (digits_at ps name ≡ Some xs → names_parameter k name ≡ true) → names_parameter k name ≡ true
    by true same h rest = subst (λ (q : ParameterName). names_parameter k q ≡ true) (one-name p.name name same) (both (names_parameter k p.name) (list_all (λ (q : Parameter). names_parameter k q.name) ps) all).0
    by false same h rest = rest h

pub true-is : (b : Bool) → IsTrue b → b ≡ true
true-is b h = h

-- ---- ports

number-there : (ports : List Port) (lines : List PortLine) (name : PortName) → list_all (λ (p : Port). list_any (λ (l : PortLine). is_port p.name l.name) lines) ports ≡ true
    → list_any (λ (l : PortLine). is_port l.name name) lines ≡ false → signal_at ports name ≡ []
number-there [] lines name all none = refl
number-there (p ∷ ports) lines name all none =
    by (is_port p.name name) refl (number-there ports lines name (both (list_any (λ (l : PortLine). is_port p.name l.name) lines) (list_all (λ (q : Port). list_any (λ (l : PortLine). is_port q.name l.name) lines) ports) all).1 none)
  where
    turned : (ls : List PortLine) → port_number p.name ≡ port_number name → list_any (λ (l : PortLine). is_port p.name l.name) ls ≡ list_any (λ (l : PortLine). is_port l.name name) ls
    turned [] e = refl
    turned (l ∷ ls) e =
        ap (λ (b : Bool). b || list_any (λ (x : PortLine). is_port p.name x.name) ls) (ap (λ (n : ℕ). eqb n (port_number l.name)) e ∙ eqb-comm (port_number name) (port_number l.name))
        ∙ ap (λ (b : Bool). is_port l.name name || b) (turned ls e)

    by : (b : Bool) → is_port p.name name ≡ b → signal_at ports name ≡ [] → signal_in (cond b (Some p) (find (λ (q : Port). is_port q.name name) ports)) ≡ []
    by true e rest =
        let same : port_number p.name ≡ port_number name = eqb-true (port_number p.name) (port_number name) e in
        absurd (true≢false (sym (both (list_any (λ (l : PortLine). is_port p.name l.name) lines) (list_all (λ (q : Port). list_any (λ (l : PortLine). is_port q.name l.name) lines) ports) all).0 ∙ (turned lines same ∙ none)))
    by false e rest = rest

few-in : (ports : List Port) (name : PortName) (most : ℕ) → ((p : Port) → Contains ports p → length p.signal ≤ most) → length (signal_at ports name) ≤ most
few-in [] name most all = omega arith
few-in (p ∷ ports) name most all = by (is_port p.name name) (all p (0, omega arith, refl)) (few-in ports name most (λ q h. let lt = h.1 in all q (suc h.0, omega (arith, lt), h.2)))
  where
    by : (b : Bool) → length p.signal ≤ most → length (signal_at ports name) ≤ most → length (signal_in (cond b (Some p) (find (λ (q : Port). is_port q.name name) ports))) ≤ most
    by true first rest = first
    by false first rest = rest

pub limit-most : (k : Kind) → width_limit k ≤ 4096
limit-most k = grind arith

abbrev pub is_number_form : ParameterForm → Bool
is_number_form Flag = true
is_number_form Number = true
is_number_form WidthForm = true
is_number_form Value = false

module _ (d : DesignOf) (shape : IsDesign d) (flat : IsFlat d) (i : ℕ) (c : CellOf) (at : IsCell d i c) where
  pub cell-is : IsCellOf d.wires d.free c
  cell-is = cell-declared d shape i c at

  pub port-width : (l : PortLine) → Contains (ports_of c.kind) l → length (signal_at c.ports l.name) ≡ width_of (number_at c.parameters) l.width
  port-width l h = ((flat-ports d flat i c at).all l h).wide

  pub port-none : (name : PortName) → asks c.kind name ≡ false → signal_at c.ports name ≡ []
  port-none name h = number-there c.ports (ports_of c.kind) name (flat-ports d flat i c at).only h

  pub port-limit : (name : PortName) → length (signal_at c.ports name) ≤ width_limit c.kind
  port-limit name = few-in c.ports name (width_limit c.kind) (λ p h. within p h (cases_lt (width_limit c.kind) (length p.signal)))
    where
      within : (p : Port) → Contains c.ports p → (width_limit c.kind < length p.signal) ⊎ (length p.signal ≤ width_limit c.kind) → length p.signal ≤ width_limit c.kind
      within p h (inl more) = absurd (flat WidthLimit (Whole (Cell i)) (i, c, refl, at, (p, h, more)))
      within p h (inr most) = most

  pub has-form : (name : ParameterName) → names_parameter c.kind name ≡ true → has_form c.parameters name (form_of name) ≡ true
  has-form name h =
      any-named (λ (n : ParameterName). has_form c.parameters n (form_of n)) (parameters_of c.kind) name
      (both (list_all (λ (n : ParameterName). has_form c.parameters n (form_of n)) (parameters_of c.kind)) (is_inside c.kind c.parameters) (flat-parameters d flat i c at)).0 h

  pub inside : is_inside c.kind c.parameters ≡ true
  inside = (both (list_all (λ (n : ParameterName). has_form c.parameters n (form_of n)) (parameters_of c.kind)) (is_inside c.kind c.parameters) (flat-parameters d flat i c at)).1

  has-number : (name : ParameterName) (form : ParameterForm) → is_number_form form ≡ true → has_form c.parameters name form ≡ true → has_number c.parameters name ≡ true
  has-number name Flag e h = h
  has-number name Number e h = h
  has-number name WidthForm e h = (both (has_number c.parameters name) (not (eqb (number_at c.parameters name) 0)) h).0
  has-number name Value e h = absurd (false≢true e)

  binary-in : (o : Option (List Digit)) (xs : List Digit) → o ≡ Some xs → are_number o ≡ true → is_number xs ≡ true
  binary-in o xs e h = subst (λ (p : Option (List Digit)). are_number p ≡ true) e h

  pub plain : (name : ParameterName) → is_number_form (form_of name) ≡ true → IsPlain c name
  plain name e xs there =
      let named = there-named c.kind c.parameters name xs (true-is (list_all (λ (p : Parameter). names_parameter c.kind p.name) c.parameters) cell-is.named) there in
      binary-in (digits_at c.parameters name) xs there (has-number name (form_of name) e (has-form name named))

  pub width-some : (name : ParameterName) → form_of name ≡ WidthForm → names_parameter c.kind name ≡ true → 1 ≤ number_at c.parameters name
  width-some name e h =
      let form : has_form c.parameters name WidthForm ≡ true = subst (λ (f : ParameterForm). has_form c.parameters name f ≡ true) e (has-form name h) in
      let test = (both (has_number c.parameters name) (not (eqb (number_at c.parameters name) 0)) form).1 in
      above (number_at c.parameters name) test
    where
      above : (n : ℕ) → not (eqb n 0) ≡ true → 1 ≤ n
      above zero t = absurd (false≢true t)
      above (suc n) t = omega arith

  pub one-sign : asks_one_sign c.kind ≡ true → flag c ASigned ≡ flag c BSigned
  one-sign e = same (flag c ASigned) (flag c BSigned) (λ other. flat MixedSign (Whole (Cell i)) (i, c, refl, at, (e, other)))
    where
      same : (a b : Bool) → ((a ≡ b → ⊥) → ⊥) → a ≡ b
      same true true h = refl
      same false false h = refl
      same true false h = absurd (h (λ e. true≢false e))
      same false true h = absurd (h (λ e. false≢true e))

  count-is : (o : Option (List Digit)) → length (digits_places d o) ≡ count_of o
  count-is None = refl
  count-is (Some xs) = length-map xs (digit_place d)

  -- a parameter's value has WIDTH digits
  pub value-width : (name : ParameterName) → form_of name ≡ Value → names_parameter c.kind name ≡ true → length (parameter_places d c name) ≡ number_at c.parameters Width
  value-width name e h =
      let form : has_form c.parameters name Value ≡ true = subst (λ (f : ParameterForm). has_form c.parameters name f ≡ true) e (has-form name h) in
      count-is (digits_at c.parameters name) ∙ eqb-true (count_of (digits_at c.parameters name)) (number_at c.parameters Width) (both (are_values (digits_at c.parameters name)) (eqb (count_of (digits_at c.parameters name)) (number_at c.parameters Width)) form).1
