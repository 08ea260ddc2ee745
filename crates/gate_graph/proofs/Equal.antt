-- Gates that the derived `==` finds equal are equal.
use Rattle.std.proofs.Common.{rules, ◌≡◌, true, false, subst}
use Rattle.gate_graph.specs.declared.gate.Gate.{Gate}
use Rattle.gate_graph.specs.declared.gate.Gate.TheVariants.{And, Xor, Mux, Maj}
use Rattle.gate_graph.specs.contracts.gate.GatePartialEq.TheImpl.{eq-value}

pub exact : (a b : Gate) → eq-value.it a b ≡ true → a ≡ b
exact (And a b) (And d e) h = search rules
exact (And a b) (Xor d e) h = cc
exact (And a b) (Mux d e f) h = cc
exact (And a b) (Maj d e f) h = cc
exact (Xor a b) (And d e) h = cc
exact (Xor a b) (Xor d e) h = search rules
exact (Xor a b) (Mux d e f) h = cc
exact (Xor a b) (Maj d e f) h = cc
exact (Mux a b c) (And d e) h = cc
exact (Mux a b c) (Xor d e) h = cc
exact (Mux a b c) (Mux d e f) h = search rules
exact (Mux a b c) (Maj d e f) h = cc
exact (Maj a b c) (And d e) h = cc
exact (Maj a b c) (Xor d e) h = cc
exact (Maj a b c) (Mux d e f) h = cc
exact (Maj a b c) (Maj d e f) h = search rules

pub same : (a : Gate) → eq-value.it a a ≡ true
same (And a b) = search rules
same (Xor a b) = search rules
same (Mux a b c) = search rules
same (Maj a b c) = search rules

pub other : (a b : Gate) → eq-value.it a b ≡ false → a ≡ b → ⊥
other a b h e = let t : eq-value.it b b ≡ false = subst (λ (k : Gate). eq-value.it k b ≡ false) e h in let s = same b in cc
