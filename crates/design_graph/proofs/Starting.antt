-- Start digits by nets.
use Rattle.std.proofs.Common.{◌≡◌, inl, inr, ℕ, ◌+◌, ◌<◌, ◌≤◌, ◌∙◌, List, [], ◌∷◌, ◌++◌, Bool, true, false, length, replicate, Option, Some, Contains, refl, ap, sym, subst, arith, length-append}
use Rattle.std.specs.Prelude.{slice_get}
use Rattle.std.proofs.lemmas.Bool.{cases_lt}
use Rattle.std.proofs.lemmas.Option.{slice_get_within}
use Rattle.digraph.proofs.Lists.{get-push-old, get-push-new}
use Rattle.design_core.specs.Shape.{CellOf, DesignOf, IsDeclared, IsDesign, IsWire}
use Rattle.design_core.specs.Asked.{output_of}
use Rattle.design_core.specs.Table.{role_of}
use Rattle.design_meaning.specs.Meaning.{IsCell, IsInit, Chain, is_register}
use Rattle.design_graph.specs.Starts.{IsRegisterOutput, IsRegisterStart}
use Rattle.design_graph.specs.Items.{IsDrivenOnce}
use Rattle.design_core.specs.Places.{place_of, places}
use Rattle.design_graph.specs.Starts.{IsStarts}
use Rattle.design_graph.specs.Edges.{Marks, IsPlaceIn, IsRegisterMarks, IsNets, IsDigitAt, IsDigitMarks, IsStartOf}
use Rattle.design_signals.specs.declared.sig_bit.SigBit.{SigBit}
use Rattle.design_signals.specs.declared.sig_bit.SigBit.TheVariants.{Wire}
use Rattle.design_core.proofs.Lists.{Contains-from_place, place-from_Contains}
use Rattle.design_core.proofs.Places.{place_of-same, place_of-within}
use Rattle.design_graph.proofs.MarkSets.{replicate-unmarked}
use Rattle.design_graph.proofs.Declared.{output-declared}
use Rattle.design_graph.proofs.Unique.{register-end}
use Rattle.std.proofs.lemmas.List.{length-replicate}
use Rattle.std.proofs.lemmas.List.Elements.{All-contains}

-- the start digits before a place
pub record StartsBefore (d : DesignOf) (starts : List (Option Bool)) (n : ℕ) : Type 0 where
  pub count : length starts ≡ n
  pub each : (a : SigBit) → IsDeclared d.wires d.free a → place_of d a < n → (s : Option Bool) × (slice_get starts (place_of d a) ≡ Some s) × IsStartOf d a s

pub StartsBefore-none : (d : DesignOf) → StartsBefore d [] 0
StartsBefore-none d = record { count = refl; each = λ a da lt. absurd (omega arith) }

pub StartsBefore-next : (d : DesignOf) (starts : List (Option Bool)) (n : ℕ) (s : Option Bool) → StartsBefore d starts n
    → ((a : SigBit) → IsDeclared d.wires d.free a → n ≡ place_of d a → IsStartOf d a s) → StartsBefore d (starts ++ s ∷ []) (n + 1)
StartsBefore-next d starts n s before here = record {
  count = omega (arith, length-append starts (s ∷ []), before.count);
  each = λ a da lt. elim (cases_lt (place_of d a) n) as (λ _. (t : Option Bool) × (slice_get (starts ++ s ∷ []) (place_of d a) ≡ Some t) × IsStartOf d a t) [
    | inl less ↦ let b = before.each a da less in (b.0, get-push-old starts s b.0 (place_of d a) b.1, b.2)
    | inr most ↦
        let e : n ≡ place_of d a = omega arith in
        let at : length starts ≡ place_of d a = before.count ∙ e in
        (s, subst (λ (p : ℕ). slice_get (starts ++ s ∷ []) p ≡ Some s) at (get-push-new starts s), here a da e)
  ];
}

module _ (d : DesignOf) (shape : IsDesign d) where
  pub IsRegisterMarks-built : (marks : List Bool) → Marks (replicate (places d) false) (λ p. (i : ℕ) × (c : CellOf) × IsCell d i c × (is_register (role_of c.kind) ≡ true) × IsPlaceIn d (output_of c) p) marks
      → IsRegisterMarks d marks
  IsRegisterMarks-built marks m = record {
    size = m.size ∙ length-replicate (places d) false;
    registers = λ a da. (
      λ h. elim (m.only (place_of d a) h) as (λ _. IsRegisterOutput d a) [
        | inl old ↦ absurd (replicate-unmarked (places d) (place_of d a) old)
        | inr q ↦
            let at = q.4 in
            let same : at.0 ≡ a = place_of-same d at.0 a (output-declared d shape q.0 q.1 at.0 q.2 at.1) da (sym at.2) in
            let k = place-from_Contains (output_of q.1) a (subst (λ (x : SigBit). Contains (output_of q.1) x) same at.1) in (q.0, k.0, (q.1, q.2, q.3, k.1))
      ],
      λ h. let r = h.2 in m.added (place_of d a) (h.0, r.0, r.1, r.2, (a, Contains-from_place (output_of r.0) h.1 a r.3, refl)),
    );
  }

  -- a bit that an attribute gives a digit is declared
  pub init-declared : (w b : ℕ) (x : Bool) → IsInit d w b x → IsDeclared d.wires d.free (Wire w b)
  init-declared w b x h =
      let wire : IsWire h.0 = All-contains IsWire d.wires h.0 shape.wires (Contains-from_place d.wires w h.0 h.2) in
      let size = All-contains (λ (digits : List (Option Bool)). length digits ≤ h.0.width) h.0.inits h.1 wire.1 h.3 in
      (h.0, h.2, omega (arith, slice_get_within h.1 b (Some x) h.4, size))

  pub IsDigitMarks-built : (leaders : List ℕ) (x : Bool) (marks : List Bool) → Marks (replicate (places d) false) (IsDigitAt d leaders x) marks → IsDigitMarks d leaders x marks
  IsDigitMarks-built leaders x marks m = record {
    size = m.size ∙ length-replicate (places d) false;
    digits = λ l. (
      λ h. elim (m.only l h) as (λ _. IsDigitAt d leaders x l) [ inl old ↦ absurd (replicate-unmarked (places d) l old) | inr q ↦ q ],
      λ q. m.added l q,
    );
  }

  module _ (leaders : List ℕ) (drivers : IsDrivenOnce d) (nets : IsNets d leaders) where
    -- a start digit of a register's bit is one of its net
    pub start-digit : (a : SigBit) (x : Bool) (l : ℕ) → IsDeclared d.wires d.free a → slice_get leaders (place_of d a) ≡ Some l → IsRegisterOutput d a → IsDigitAt d leaders x l → IsRegisterStart d a x
    start-digit a x l da at held h =
        let dw = init-declared h.0 h.1 x h.2 in
        let net = (nets.nets (Wire h.0 h.1) a dw da).0 (h.3 ∙ sym at) in
        let end = register-end d drivers net.1 a net.2 held net.4 in
        (held, (h.0, h.1, net.0, h.2, subst (λ (y : SigBit). Chain d net.0 (Wire h.0 h.1) y) (sym end) net.3))

    pub digit-start : (a : SigBit) (x : Bool) (l : ℕ) → IsDeclared d.wires d.free a → slice_get leaders (place_of d a) ≡ Some l → IsRegisterStart d a x → IsDigitAt d leaders x l
    digit-start a x l da at h =
        let s = h.1 in
        let dw = init-declared s.0 s.1 x s.3 in
        (s.0, s.1, s.3, (nets.nets (Wire s.0 s.1) a dw da).1 (s.2, 0, a, s.4, refl) ∙ at)

  module _ (leaders : List ℕ) (held digits : List Bool) (x : Bool) (drivers : IsDrivenOnce d) (nets : IsNets d leaders)
      (registers : IsRegisterMarks d held) (marks : IsDigitMarks d leaders x digits) where
    pub start-marked : (a : SigBit) (l : ℕ) → IsDeclared d.wires d.free a → slice_get leaders (place_of d a) ≡ Some l
        → (slice_get held (place_of d a) ≡ Some true) → (slice_get digits l ≡ Some true) → IsRegisterStart d a x
    start-marked a l da at h k = start-digit leaders drivers nets a x l da at ((registers.registers a da).0 h) ((marks.digits l).0 k)

    pub marked-held : (a : SigBit) → IsDeclared d.wires d.free a → IsRegisterStart d a x → slice_get held (place_of d a) ≡ Some true
    marked-held a da h = (registers.registers a da).1 h.0

    pub marked-digit : (a : SigBit) (l : ℕ) → IsDeclared d.wires d.free a → slice_get leaders (place_of d a) ≡ Some l → IsRegisterStart d a x → slice_get digits l ≡ Some true
    marked-digit a l da at h = (marks.digits l).1 (digit-start leaders drivers nets a x l da at h)

  pub IsStarts-built : (starts : List (Option Bool)) (n : ℕ) → places d ≤ n → n ≤ places d → StartsBefore d starts n → ((a : SigBit) → IsRegisterStart d a false → IsRegisterStart d a true → ⊥) → IsStarts d starts
  IsStarts-built starts n most least s conflicts = record {
    size = omega (arith, s.count);
    sound = λ a x da h.
        let e = s.each a da (omega (arith, place_of-within d a da)) in
        e.2.sound x (same e.0 (Some x) (sym e.1 ∙ h));
    complete = λ a x da h.
        let e = s.each a da (omega (arith, place_of-within d a da)) in
        e.1 ∙ ap (λ (o : Option Bool). Some o) (by a x e.0 e.2 h);
  }
    where
      same : (s t : Option Bool) → Some s ≡ Some t → s ≡ t
      same s t e = cc

      by : (a : SigBit) (x : Bool) (o : Option Bool) → IsStartOf d a o → IsRegisterStart d a x → o ≡ Some x
      by a false o i h = i.low h
      by a true o i h = i.high h (λ low. conflicts a low h)
