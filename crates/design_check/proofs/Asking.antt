-- What a flat design's cells have: the check's double negations undone.
use Rattle.std.proofs.Common.{◌≡◌, inl, inr, ℕ, Bool, true, false, List, [], ◌∷◌, length, refl}
use Rattle.std.specs.List.{list_all, list_any}
use Rattle.std.proofs.lemmas.Bool.{false≢true}
use Rattle.design_core.specs.Asked.{HasPorts, has_parameters, number_at}
use Rattle.design_core.specs.Ports.{is_port, signal_at}
use Rattle.design_core.specs.Shape.{CellOf, DesignOf}
use Rattle.design_core.specs.Table.{ports_of, width_of}
use Rattle.design_core.specs.declared.parts.Port.{Port}
use Rattle.design_core.specs.declared.table.PortLine.{PortLine}
use Rattle.design_graph.specs.declared.item.Item.TheVariants.{Cell}
use Rattle.design_meaning.specs.Meaning.{IsCell}
use Rattle.design_check.specs.Faults.{IsFlat, Whole}
use Rattle.design_check.specs.declared.fault.FaultKind.TheVariants.{BadParameter, PortWidth}
use Rattle.design_check.proofs.Statements.{cases_same}

stable : (b : Bool) → ((b ≡ true → ⊥) → ⊥) → b ≡ true
stable true h = refl
stable false h = absurd (h (λ e. false≢true e))

stable-nil : {X : Type 0} (xs : List X) → ((xs ≡ [] → ⊥) → ⊥) → xs ≡ []
stable-nil [] h = refl
stable-nil (x ∷ xs) h = absurd (h (λ e. clash e))
  where
    clash : x ∷ xs ≡ [] → ⊥
    clash e = cc

stable-same : (m n : ℕ) → ((m ≡ n → ⊥) → ⊥) → m ≡ n
stable-same m n h = elim (cases_same m n) as (λ _. m ≡ n) [ inl same ↦ same | inr other ↦ absurd (h other) ]

pub ports-stable : (c : CellOf) → ((HasPorts c → ⊥) → ⊥) → HasPorts c
ports-stable c h = record {
  all = λ l asked. record {
    there = stable (list_any (λ (p : Port). is_port p.name l.name) c.ports) (λ no_port. h (λ ports. no_port (ports.all l asked).there));
    wide = stable-same (length (signal_at c.ports l.name)) (width_of (number_at c.parameters) l.width) (λ other. h (λ ports. other (ports.all l asked).wide));
  };
  only = stable (list_all (λ (p : Port). list_any (λ (l : PortLine). is_port p.name l.name) (ports_of c.kind)) c.ports) (λ more. h (λ ports. more ports.only));
  no_other = stable-nil c.foreign (λ more. h (λ ports. more ports.no_other));
}

module _ (d : DesignOf) (flat : IsFlat d) (i : ℕ) (c : CellOf) (at : IsCell d i c) where
  other-false : (b : Bool) → (b ≡ false → ⊥) → b ≡ true
  other-false true h = refl
  other-false false h = absurd (h refl)

  pub flat-parameters : has_parameters c.kind c.parameters ≡ true
  flat-parameters = other-false (has_parameters c.kind c.parameters) (λ e. flat BadParameter (Whole (Cell i)) (i, c, refl, at, e))

  pub flat-ports : HasPorts c
  flat-ports = ports-stable c (λ bad. flat PortWidth (Whole (Cell i)) (inl (i, c, refl, at, bad)))
