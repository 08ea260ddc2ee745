use Rattle.std.proofs.Common.{◌≡◌, ◌<◌, ◌↔◌, ◌∙◌, ◌++◌, ◌∷◌, [], ℕ, true, false, cond, List, Bool, Option, Some, None, length, get_or, refl, sym, subst, ap, arith, append_assoc}
use Rattle.std.specs.Prelude.{slice_get}
use Rattle.std.proofs.lemmas.Option.{slice_get-get_or}
use Rattle.design_core.specs.Asked.{output_of}
use Rattle.design_core.specs.Places.{place_of}
use Rattle.design_core.specs.Shape.{IsDeclared}
use Rattle.design_graph.proofs.Declared.{outputs-declared}
use Rattle.design_graph.proofs.EdgeSteps.{left-head, left-tail}
use Rattle.design_signals.specs.declared.sig_bit.SigBit.{SigBit}
use Rattle.design_lower.specs.Progress.{IsDigitEnd, IsDigitsOf}
use Rattle.design_lower.proofs.Ending.{digits-front, digits-none}
use Rattle.design_lower.proofs.starts.end_digits.Goals as goal

pub bits-init : goal.bits-init
bits-init c =
    let all = outputs-declared c.args.design.now.wires c.args.design.now.free c.args.cell.now c.requires.cell in
    let same = c.new-left.ensures ∙ c.output.ensures.bits in
    record {
      declared = rw same all;
      later = λ rest e.
          let P : List (Option Bool) → Type 0 = λ l. IsDigitsOf c.args.design.now c.args.digit (output_of c.args.cell.now) (l ++ rest) in
          subst P (sym c.new-digits.ensures.items) (rw same at e);
    }

pub bits-preserved : goal.bits-preserved
bits-preserved c =
    let d = c.args.design.now in
    let x = c.args.digit in
    let bit = c.in-Some.bit in
    let front = c.in-Some.ensures.some in
    let db = left-head (IsDeclared d.wires d.free) c.bits.left c.in-Some.bit c.next.new.self front c.bits.invariant.declared in
    let lt : c.place.result < length c.args.ends.now = omega (arith, c.place.ensures.within, c.requires.ends.size) in
    let here : Bool = get_or c.args.ends.now c.place.result false in
    let at : slice_get c.args.ends.now c.place.result ≡ Some (get_or c.args.ends.now c.place.result false) = slice_get-get_or c.args.ends.now c.place.result false lt in
    let place : slice_get c.args.ends.now (place_of c.args.design.now c.in-Some.bit) ≡ Some (get_or c.args.ends.now c.place.result false) =
    ap (λ (n : ℕ). slice_get c.args.ends.now n) (sym c.place.ensures.place) ∙ at in
    let end = c.requires.ends.ends bit db in
    let is : (get_or c.args.ends.now c.place.result false ≡ true) ↔ IsDigitEnd c.args.design.now c.args.digit c.in-Some.bit =
    (λ h. end.0 (place ∙ ap (λ (b : Bool). Some b) h), λ h. one (sym place ∙ end.1 h)) in
    record {
      declared = left-tail (IsDeclared d.wires d.free) c.bits.left c.in-Some.bit c.next.new.self front c.bits.invariant.declared;
      later = λ rest e.
          let P : List SigBit → Type 0 = λ l. IsDigitsOf c.args.design.now c.args.digit l (cond (get_or c.args.ends.now c.place.result false) (Some c.args.digit) None ∷ rest) in
          let whole = c.bits.invariant.later (cond here (Some x) None ∷ rest) (subst P (sym front) (digits-front d x bit c.next.new.self rest here is e)) in
          let Q : List (Option Bool) → Type 0 = λ l. IsDigitsOf c.args.design.now c.args.digit (output_of c.args.cell.now) l in
          let list : c.bits.digits.items ++ (cond (get_or c.args.ends.now c.place.result false) (Some c.args.digit) None ∷ rest) ≡ c.push.new.self.items ++ rest =
          sym (ap (λ (l : List (Option Bool)). l ++ rest) c.in_ok-push.ensures.items
          ∙ (append_assoc c.bits.digits.items (c.digit_if.result ∷ []) rest
          ∙ ap (λ (y : Option Bool). c.bits.digits.items ++ (y ∷ rest)) c.digit_if.ensures)) in
          subst Q list whole;
    }
  where
    one : {a b : Bool} → Some a ≡ Some b → a ≡ b
    one e = cc

pub returns : goal.returns
returns c =
    let none = digits-none c.args.design.now c.args.digit c.bits.left c.in_default.ensures.none.0 in
    let whole = c.bits.invariant.later [] none in
    let Q : List (Option Bool) → Type 0 = λ l. IsDigitsOf c.args.design.now c.args.digit (output_of c.args.cell.now) l in
    subst Q (nil c.bits.digits.items ∙ sym c.new.ensures) whole
  where
    nil : (l : List (Option Bool)) → l ++ [] ≡ l
    nil [] = refl
    nil (y ∷ l) = ap (λ (r : List (Option Bool)). y ∷ r) (nil l)
