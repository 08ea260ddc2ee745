use Rattle.std.proofs.Common.{◌≡◌, ◌<◌, None, ◌+◌, ◌++◌, ◌∙◌, List, ℕ, ap, sym, subst, arith, length}
use Rattle.std.proofs.lemmas.List.{length_push}
use Rattle.pair_form.specs.Text.{bit_text, bits_text}
use Rattle.pair_reader.specs.Bits.{AreBits}
use Rattle.pair_reader.proofs.BitLines.{none_pushed, none_text, some_pushed, some_text}
use Rattle.pair_reader.proofs.lines.push_bit.Goals as goal

pub loop-bits-preserved : goal.loop-bits-preserved
loop-bits-preserved c =
    let w = c.loop-bits.invariant in
    let e = c.in_ok-push.ensures.items in
    let below : length c.push.new.self.items < c.args.number = omega (arith, ap length e, length_push c.loop-bits.bits.items None, c.len.ensures, c.loop-bits-test.true) in
    record {
      below = below;
      text = ap (bits_text 1) e ∙ none_text 1 c.loop-bits.bits.items ∙ w.text;
      within = λ vars a. subst (AreBits vars) (sym e) (none_pushed vars c.loop-bits.bits.items (w.within vars a));
    }

pub returns-clause-within : goal.returns-clause-within
returns-clause-within c =
    let w = c.loop-bits.invariant in
    λ vars a is. subst (AreBits vars) (sym c.in_ok-push-2.ensures.items) (some_pushed vars c.loop-bits.bits.items c.args.lits (w.within vars a) is)

pub returns-clause-text : goal.returns-clause-text
returns-clause-text c =
    let w = c.loop-bits.invariant in
    let n : 1 + length c.loop-bits.bits.items ≡ c.args.number = omega (arith, c.len.ensures, c.loop-bits-test.false) in
    ap (bits_text 1) c.in_ok-push-2.ensures.items ∙ some_text 1 c.args.number c.loop-bits.bits.items c.args.lits n ∙ ap (λ (t : List ℕ). t ++ bit_text c.args.number c.args.lits) w.text
