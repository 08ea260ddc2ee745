use Rattle.std.proofs.Common.{◌≡◌, ◌+◌, ◌-◌, ◌<◌, ◌≤◌, ◌++◌, ◌∷◌, [], ℕ, suc, Bool, List, false, cond, ap, sym, subst, ◌∙◌, arith, length}
use Rattle.std.specs.Prelude.{slice_index_or}
use Rattle.std.proofs.lemmas.List.{length-append}
use Rattle.net_unroll.specs.Encoding.{number}
use Rattle.net_unroll.specs.Finishing.{HasNumbers}
use Rattle.net_unroll.proofs.Numbering.{number_few, number_step, numbers_more}
use Rattle.net_unroll.proofs.finishing.numbers_of.Goals as goal

pub loop-var-preserved : goal.loop-var-preserved
loop-var-preserved c =
    let f : ℕ → Bool = λ v. slice_index_or c.args.marks.now v false in
    let inv = c.loop-var.invariant in
    let from : 1 ≤ c.loop-var.var = c.loop-var.auto.var in
    let some : 0 < c.loop-var.var = omega arith in
    let step : number f c.loop-var.var ≡ c.counted-count.result =
    number_step f c.loop-var.var some ∙ ap (λ (n : ℕ). cond (f c.loop-var.var) (suc n) n) inv.count ∙ sym c.counted-count.ensures in
    let items : c.push-in-loop-var.new.self.items ≡ c.loop-var.numbers.items ++ c.counted-count.result ∷ [] = c.in_ok-push-2.ensures.items in
    let one = ap length items in
    let two = length-append c.loop-var.numbers.items (c.counted-count.result ∷ []) in
    let size = inv.size in
    let few = number_few f c.loop-var.var in
    record {
      size = omega arith;
      count = ap (number f) (let e : c.loop-var.var + 1 - 1 ≡ c.loop-var.var = omega arith in e) ∙ step;
      few = omega arith;
      numbers = subst (λ (ns : List ℕ). HasNumbers ns f) (sym items) (numbers_more c.loop-var.numbers.items f c.counted-count.result inv.numbers (ap (number f) inv.size ∙ step));
    }
