-- A cell fits its line where it has what the line asks, and only there.
use Rattle.std.proofs.Common.{◌≡◌, ◌↔◌, ℕ, zero, suc, ◌<◌, Bool, true, not, ◌&&◌, eqb, List, [], Some, Contains, refl, ap, sym, subst, ◌∙◌, arith}
use Rattle.std.specs.Prelude.{slice_get}
use Rattle.std.proofs.lemmas.Bool.{eq-eqb}
use Rattle.cell_table.specs.declared.kind.Kind.{Kind}
use Rattle.cell_table.specs.declared.kind.Kind.TheVariants.{Adff, Adffe}
use Rattle.design_core.specs.Asked.{has_number, has_parameters, number_at, HasPort}
use Rattle.design_core.specs.Shape.{CellOf}
use Rattle.design_core.specs.Table.{role_of, ports_of, width_of, port}
use Rattle.design_core.specs.declared.names.PortName.{PortName}
use Rattle.design_core.specs.declared.names.PortName.TheVariants.{En, D, Q, Clk, Arst}
use Rattle.design_core.specs.declared.names.ParameterName.TheVariants.{Width, EnPolarity}
use Rattle.design_core.specs.declared.parts.Parameter.{Parameter}
use Rattle.design_core.specs.declared.table.PortLine.{PortLine}
use Rattle.design_core.specs.declared.table.PortWidth.{PortWidth}
use Rattle.design_core.specs.declared.table.PortWidth.TheVariants.{One, Of}
use Rattle.design_core.proofs.Lists.{place-from_Contains}
use Rattle.design_lower.specs.Asks.{HasEnabling, HasLine, HasReset, HasSignal, HasSignals, has_only}
use Rattle.design_lower.specs.Lowering.{FitsReset}
use Rattle.design_lower.proofs.Fitting.{has-enable, has-signals}
use Rattle.design_lower.proofs.Lists.{eqb-other}

and-true : (a b : Bool) → a ≡ true → b ≡ true → (a && b) ≡ true
and-true a b h g = ap (λ (x : Bool). x && b) h ∙ g

is-some : (n : ℕ) → 0 < n → not (eqb n 0) ≡ true
is-some n h = ap not (eqb-other n 0 (λ e. absurd (omega (arith, e, h))))

plain-parameters : (ps : List Parameter) → HasReset ps → has_parameters Adff ps ≡ true
plain-parameters ps h =
    and-true _ true (and-true _ _ h.polarity (and-true _ _ (and-true _ _ h.values (eq-eqb _ _ h.count)) (and-true _ _ h.clock (and-true _ _ (and-true _ _ h.width (is-some _ h.some)) refl)))) refl

enabled-parameters : (ps : List Parameter) → HasReset ps → has_number ps EnPolarity ≡ true → has_parameters Adffe ps ≡ true
enabled-parameters ps h e =
    and-true _ true (and-true _ _ h.polarity (and-true _ _ (and-true _ _ h.values (eq-eqb _ _ h.count)) (and-true _ _ h.clock (and-true _ _ e (and-true _ _ (and-true _ _ h.width (is-some _ h.some)) refl))))) refl

module _ (c : CellOf) where
  one : (name : PortName) (width : PortWidth) (l : PortLine) (n : ℕ) → Some (port name width) ≡ Some l → width_of (number_at c.parameters) width ≡ n → HasSignal c name n → HasPort c l
  one name width l n e w h =
      let same : port name width ≡ l = cc in
      subst (λ (x : PortLine). HasPort c x) same (record { there = h.there; wide = h.wide ∙ sym w })

  module _ (n : ℕ) (wide : number_at c.parameters Width ≡ n) (h : HasSignals c n) where
    plain-lines : (k : ℕ) (l : PortLine) → slice_get (ports_of Adff) k ≡ Some l → HasPort c l
    plain-lines zero l e = one Arst One l 1 e refl h.reset
    plain-lines (suc zero) l e = one Clk One l 1 e refl h.clock
    plain-lines (suc (suc zero)) l e = one D (Of Width) l n e wide h.taken
    plain-lines (suc (suc (suc zero))) l e = one Q (Of Width) l n e wide h.shown
    plain-lines (suc (suc (suc (suc k)))) l e = absurd cc

    enabled-lines : HasSignal c En 1 → (k : ℕ) (l : PortLine) → slice_get (ports_of Adffe) k ≡ Some l → HasPort c l
    enabled-lines g zero l e = one Arst One l 1 e refl h.reset
    enabled-lines g (suc zero) l e = one Clk One l 1 e refl h.clock
    enabled-lines g (suc (suc zero)) l e = one D (Of Width) l n e wide h.taken
    enabled-lines g (suc (suc (suc zero))) l e = one En One l 1 e refl g
    enabled-lines g (suc (suc (suc (suc zero)))) l e = one Q (Of Width) l n e wide h.shown
    enabled-lines g (suc (suc (suc (suc (suc k))))) l e = absurd cc

  fits-by : (k : Kind) → c.kind ≡ k → role_of k ≡ role_of Adff → has_parameters k c.parameters ≡ true → ((l : PortLine) → Contains (ports_of k) l → HasPort c l) → has_only k c ≡ true → c.foreign ≡ []
      → FitsReset c
  fits-by k e role ps lines only none = record {
    role = ap role_of e ∙ role;
    parameters = subst (λ (x : Kind). has_parameters x c.parameters ≡ true) (sym e) ps;
    ports = record {
      all = λ l at. lines l (subst (λ (x : Kind). Contains (ports_of x) l) e at);
      only = subst (λ (x : Kind). has_only x c ≡ true) (sym e) only;
      no_other = none;
    };
  }

  module _ (n : ℕ) (wide : number_at c.parameters Width ≡ n) (reset : HasReset c.parameters) where
    pub plain-fits : c.kind ≡ Adff → HasLine Adff c n ↔ FitsReset c
    plain-fits e = (
      λ h. fits-by Adff e refl (plain-parameters c.parameters reset) (λ l at. let p = place-from_Contains (ports_of Adff) l at in plain-lines n wide h.signals p.0 l p.1) h.only h.no_other,
      λ f. record {
        signals = subst (λ (m : ℕ). HasSignals c m) wide (has-signals c f);
        only = subst (λ (x : Kind). has_only x c ≡ true) e f.ports.only;
        no_other = f.ports.no_other;
      },
    )

    pub enabled-fits : c.kind ≡ Adffe → HasLine Adffe c n → HasEnabling c → FitsReset c
    enabled-fits e h g =
        fits-by Adffe e refl (enabled-parameters c.parameters reset g.polarity)
        (λ l at. let p = place-from_Contains (ports_of Adffe) l at in enabled-lines n wide h.signals g.enable p.0 l p.1) h.only h.no_other

    pub enabled-line : c.kind ≡ Adffe → FitsReset c → HasLine Adffe c n
    enabled-line e f = record {
      signals = subst (λ (m : ℕ). HasSignals c m) wide (has-signals c f);
      only = subst (λ (x : Kind). has_only x c ≡ true) e f.ports.only;
      no_other = f.ports.no_other;
    }

  pub fits-enabling : c.kind ≡ Adffe → FitsReset c → HasEnabling c
  fits-enabling e f =
      let asked = f.ports.all (port En One) (subst (λ (x : Kind). Contains (ports_of x) (port En One)) (sym e) (3, omega arith, refl)) in
      record { polarity = (has-enable c f e).0; enable = record { there = asked.there; wide = asked.wide } }
