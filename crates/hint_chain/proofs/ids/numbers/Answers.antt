use Rattle.std.proofs.Common.{◌+◌, ◌∷◌, [], ◌∙◌, ap, length, arith, sym, inl, inr}
use Rattle.std.proofs.lemmas.Bool.{cases_eq}
use Rattle.std.proofs.lemmas.List.{length_push, get_or_push, get_or_append_left}
use Rattle.hint_chain.specs.Ids.{id_at}
use Rattle.hint_chain.proofs.ids.numbers.Goals as goal

pub loop-number-preserved : goal.loop-number-preserved
loop-number-preserved c =
    let i = c.loop-number.invariant in
    let xs = c.loop-number.numbers.items in
    let n = c.loop-number.number in
    let e = c.in_ok-push.ensures.items in
    record {
      sized = ap length e ∙ length_push xs (n + 1) ∙ ap (λ z. z + 1) i.sized;
      each = λ k h. elim (cases_eq k n) [
        | inl q ↦ ap (λ z. id_at z k) e ∙ get_or_push xs (n + 1) 0 k (i.sized ∙ sym q) ∙ ap (λ z. z + 1) (sym q)
        | inr d ↦ ap (λ z. id_at z k) e ∙ get_or_append_left xs ((n + 1) ∷ []) 0 k (omega (arith, h, d, i.sized)) ∙ i.each k (omega (arith, h, d))
      ];
    }
