use Rattle.std.proofs.Common.{◌≡◌, ◌++◌, ℕ, ap, sym, ◌∙◌, subst, arith}
use Rattle.pair_form.specs.Text.{bit_text, bits_text}
use Rattle.pair_form.specs.declared.pair.BitLits.{BitLits}
use Rattle.pair_reader.specs.Bits.{IsBit}
use Rattle.pair_reader.proofs.BitLines.{Left, lines_over, read_line}
use Rattle.pair_reader.proofs.lines.read_bits.Goals as goal

pub returns-then-line-len-clause-lines : goal.returns-then-line-len-clause-lines
returns-then-line-len-clause-lines c =
    λ p is v e. absurd
    (let front = c.in-Some.ensures.front in
    let r = read_line p c.loop-line.bits.items c.loop-line.rest.now front.0 (c.loop-line.invariant.left p is v e) front.1 in
    let t = c.in-Some.ensures.line r.number r.lits r.after (let a = r.above in omega arith) r.few (subst (λ (k : ℕ). IsBit k r.lits) v r.is) r.text in
    let a = r.above in
    omega (arith, t.0, c.len.ensures, c.if-line-len.true))

pub loop-line-preserved : goal.loop-line-preserved
loop-line-preserved c =
    record {
      few = omega (arith, c.in_ok-push_bit.ensures.number, c.in-Some.ensures.number);
      within = c.in_ok-push_bit.ensures.within c.args.vars c.loop-line.invariant.within c.in-Some.ensures.within;
      left = λ p is v e. (let front = c.in-Some.ensures.front in
          let r = read_line p c.loop-line.bits.items c.loop-line.rest.now front.0 (c.loop-line.invariant.left p is v e) front.1 in
          let t = c.in-Some.ensures.line r.number r.lits r.after (let a = r.above in omega arith) r.few (subst (λ (k : ℕ). IsBit k r.lits) v r.is) r.text in
          let text : bits_text 1 c.push_bit.new.bits.items ≡ bits_text 1 c.loop-line.bits.items ++ bit_text r.number r.lits =
          c.in_ok-push_bit.ensures.text ∙ ap (λ (n : ℕ). bits_text 1 c.loop-line.bits.items ++ bit_text n c.in-Some.line.lits) t.0 ∙ ap (λ (b : BitLits). bits_text 1 c.loop-line.bits.items ++ bit_text r.number b) t.1 in
          subst (Left p c.push_bit.new.bits.items) (sym t.2) (r.left c.push_bit.new.bits.items (c.in_ok-push_bit.ensures.number ∙ t.0) text));
    }

pub returns-clause-lines : goal.returns-clause-lines
returns-clause-lines c =
    λ p is v e. lines_over p c.loop-line.bits.items c.loop-line.rest.now (c.loop-line.invariant.left p is v e)
    (λ n b after some few within text. c.in_default.ensures.line n b after some few (subst (λ (k : ℕ). IsBit k b) v within) text)
