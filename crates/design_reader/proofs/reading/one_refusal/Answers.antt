use Rattle.std.proofs.Common.{ap, ℕ}
use Rattle.design_reader.specs.declared.fault.ReadFaultKind.{ReadFaultKind}
use Rattle.design_reader.proofs.Wholes.{one_fault}
use Rattle.design_reader.proofs.reading.one_refusal.Goals as goal

pub returns : goal.returns
returns c = λ text a b j k f g.
    let same = one_fault text a b j k f g in
    (ap (λ (x : ℕ × ReadFaultKind). x.0) same, ap (λ (x : ℕ × ReadFaultKind). x.1) same)
