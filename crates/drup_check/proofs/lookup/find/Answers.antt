use Rattle.std.proofs.Common.{◌≡◌, ◌≢◌, ◌+◌, ℕ, List, sym, ◌∙◌, ap, subst, arith}
use Rattle.std.specs.Prelude.{Some, None, Option}
use Rattle.std.proofs.lemmas.Bool.{both_ways}
use Rattle.cnf_form.specs.Cnf.{LitOf}
use Rattle.unit_propagation.specs.Propagator.{slot_at}
use Rattle.drup_check.specs.Copies.{after}
use Rattle.drup_check.proofs.Chains.{step, after_end}
use Rattle.drup_check.proofs.lookup.find.Goals as goal

-- what is present is not the clause that is gone
other : (slots : List (Option (List LitOf))) (g k : ℕ) (d : List LitOf) → slot_at slots g ≡ None → slot_at slots k ≡ Some d → k ≢ g
other slots g k d gone there e = let f : None ≡ Some d = sym gone ∙ subst (λ n. slot_at slots n ≡ Some d) e there in cc

pub loop-at-preserved-then-is_gone : goal.loop-at-preserved-then-is_gone
loop-at-preserved-then-is_gone c =
    let i = c.loop-at.invariant in
    let u = c.unlink.ensures in
    let gone = c.is_gone.ensures.gone c.if-is_gone.true in
    let slots = c.args.core.now.slots in
    record {
      free = i.free;
      link = u.next ∙ sym c.next-at.ensures.next;
      falls = u.falls;
      keeps = record {
        each = λ h k d e s. u.keeps h k (other slots _ k d gone e) (i.keeps.each h k d e s);
        count = u.count ∙ i.keeps.count;
        places = u.places ∙ i.keeps.places;
      };
      rest = λ n k d e s q.
          let r = i.rest n k d e s q in
          let w = step c.loop-at.copies.nexts c.loop-at.at k r.0 r.1 (λ f. other slots _ k d gone s (sym f)) in
          u.ahead c.next-at.result w.0 k (other slots _ k d gone s) (ap (λ a. after c.loop-at.copies.nexts a w.0) c.next-at.ensures.next ∙ w.1);
    }

pub loop-at-preserved : goal.loop-at-preserved
loop-at-preserved c =
    let i = c.loop-at.invariant in
    let nexts = c.loop-at.copies.nexts in
    rw c.pass.ensures (record {
      free = c.is_copy.ensures.free;
      link = sym c.next-at.ensures.next;
      falls = i.falls;
      keeps = i.keeps;
      rest = λ n k d e s q.
          let r = i.rest n k d e s q in
          let w = step nexts c.loop-at.at k r.0 r.1 (λ f. both_ways _ c.if-is_copy.false (c.is_copy.ensures.no d (subst (λ z. slot_at c.args.core.now.slots z ≡ Some d) (sym f) s) q)) in
          (w.0, ap (λ a. after nexts a w.0) c.next-at.ensures.next ∙ w.1);
    })

pub returns-clause-none : goal.returns-clause-none
returns-clause-none c = λ n k d e s q.
    let i = c.loop-at.invariant in
    let nexts = c.loop-at.copies.nexts in
    let r = i.rest n k d e s q in
    let z : c.loop-at.at ≡ 0 = c.loop-at-test.false in
    let w : k + 1 ≡ 0 = sym r.1 ∙ ap (λ a. after nexts a r.0) z ∙ after_end nexts i.falls r.0 in
    absurd (omega (arith, w))
