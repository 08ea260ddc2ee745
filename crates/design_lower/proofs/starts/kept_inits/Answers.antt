use Rattle.std.proofs.Common.{◌≡◌, ◌↔◌, ◌∙◌, ◌++◌, ◌∷◌, [], ℕ, Bool, List, Option, Some, Contains, sym, subst, ap}
use Rattle.std.specs.Prelude.{slice_get}
use Rattle.design_core.specs.Asked.{output_of}
use Rattle.design_signals.specs.declared.sig_bit.SigBit.{SigBit}
use Rattle.design_lower.specs.Progress.{IsDigitEnd}
use Rattle.design_lower.proofs.Ending.{both-digits}
use Rattle.design_lower.proofs.starts.kept_inits.Goals as goal

pub returns-clause-digits : goal.returns-clause-digits
returns-clause-digits c =
    let d = c.args.design.now in
    let bits = output_of c.args.cell.now in
    let list : c.push-2.new.self.items ≡ c.in_ok-end_digits.field-0 ∷ c.in_ok-end_digits-2.field-0 ∷ [] =
    c.in_ok-push-2.ensures.items
    ∙ (ap (λ (l : List (List (Option Bool))). l ++ c.in_ok-end_digits-2.field-0 ∷ []) c.in_ok-push.ensures.items
    ∙ ap (λ (l : List (List (Option Bool))). (l ++ c.in_ok-end_digits.field-0 ∷ []) ++ c.in_ok-end_digits-2.field-0 ∷ []) c.new-inits.ensures.items) in
    let P : List (List (Option Bool)) → Type 0 = λ l. (k : ℕ) (x : Bool)
    → ((digits : List (Option Bool)) × Contains l digits × (slice_get digits k ≡ Some (Some x))) ↔ ((a : SigBit) × (slice_get (output_of c.args.cell.now) k ≡ Some a) × IsDigitEnd c.args.design.now x a) in
    subst P (sym list) (both-digits d bits c.in_ok-end_digits.field-0 c.in_ok-end_digits-2.field-0 c.in_ok-end_digits.ensures c.in_ok-end_digits-2.ensures)
