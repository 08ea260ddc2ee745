use Rattle.std.proofs.Common.{ap, sym, ◌∙◌, subst, arith}
use Rattle.btor_witness.specs.Machine.{ScanOf, visible, width_at, widths_at}
use Rattle.btor_witness.specs.Within.{AreBitsOf}
use Rattle.btor_witness.proofs.Sound.{visible_sound}
use Rattle.btor_witness.proofs.witnesses.Witnesses.see.Goals as goal

pub invariant_of-self-2 : goal.invariant_of-self-2
invariant_of-self-2 c =
    let ws = widths_at c.self.inside.reading.frames.shape c.self.inside.reading.spot in
    let scan = c.self.inside.scan in
    record {
      count = let k = c.self.invariant.count in omega arith;
      bits =
          subst (λ (s : ScanOf). AreBitsOf ws s.line s.bits)
          (sym (c.in_ok-visible.ensures.ok ∙ ap (λ o. visible scan o c.args.b) (c.width-width.ensures ∙ ap (width_at ws) c.number.ensures)))
          (visible_sound ws scan scan.line c.args.b c.self.invariant.bits);
    }
