use Rattle.std.proofs.Common.{◌≡◌, ◌⊎◌, ◌∙◌, inl, inr, subst, sym}
use Rattle.cert_judge.specs.declared.stream.Kind.{Kind}
use Rattle.cert_judge.specs.declared.stream.Kind.TheVariants.{Certificate, Witness, Invariant}
use Rattle.cert_judge.specs.declared.stream.StreamKind.{StreamKind}
use Rattle.sby_words.specs.Kinds.{IsKindNamed}
use Rattle.sby_top.proofs.KindLemmas.{named_otherwise, named_witness}
use Rattle.sby_top.proofs.put.is_witness_name.Goals as goal

other_kind : (kind : Kind) → ((x : StreamKind) × (kind ≡ Certificate x)) ⊎ (kind ≡ Invariant) → kind ≡ Witness → ⊥
other_kind kind (inl (x, is)) witness = let no : Certificate x ≡ Witness = sym is ∙ witness in cc
other_kind kind (inr is) witness = let no : Invariant ≡ Witness = sym is ∙ witness in cc

pub returns-in-Witness : goal.returns-in-Witness
returns-in-Witness c = sym (named_witness c.args.path.now (subst (λ (k : Kind). IsKindNamed c.args.path.now k) c.in-Witness.is c.stream_kind.ensures))

pub returns-in-Certificate : goal.returns-in-Certificate
returns-in-Certificate c = sym (named_otherwise c.args.path.now c.stream_kind.result c.stream_kind.ensures (other_kind c.stream_kind.result c.in-Certificate.is))
