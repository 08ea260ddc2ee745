-- Streams that are found to be certificates.
use Rattle.std.proofs.Common.{◌≡◌, ℕ, ◌≤◌, true, List, [], length, ap, inl, inr, subst, arith}
use Rattle.std.specs.Prelude.{Some}
use Rattle.pair_form.specs.Pair.{PairOf}
use Rattle.inv_stream.specs.Telling.{sayings}
use Rattle.inv_fate.specs.Fate.{BytesFate, Found, InvFateOf}
use Rattle.inv_fate.proofs.Finding.{head_found}
use Rattle.inv_fate.proofs.Sounding.{is_invariant}
use Rattle.inv_judge.specs.Claim.{fate_of}
use Rattle.inv_judge.specs.Judging.{IsOver, JudgeOf, pair_of}
use Rattle.inv_judge.specs.declared.outcome.InvOutcome.{InvOutcome}
use Rattle.inv_judge.specs.declared.outcome.InvOutcome.TheVariants as outcome
use Rattle.pdr_run.specs.Answer.{IsInvariantStream}

-- where all of a stream's bytes are taken, their number doesn't matter
pub invariant_stream : (p : PairOf) (stream : List ℕ) → BytesFate p true stream (Some Found) → IsInvariantStream p stream
invariant_stream p stream h = record {
  found = λ most room. record { within = λ _. inl h; beyond = λ past. absurd (omega (arith, past, room)) };
  invariant = let w = head_found p [] (sayings p.formula.vars true stream) h in (w.0, is_invariant p w.0 w.1);
}

pub found_whole : (p : PairOf) (stream : List ℕ) (most : ℕ) → length stream ≤ most → InvFateOf p stream most Found → BytesFate p true stream (Some Found)
found_whole p stream most fits fate = elim (fate.within fits) [ inl h ↦ h | inr w ↦ absurd (let e = w.1 in cc) ]

-- a judge found that a stream is one, of which it took as many bytes as there are
pub judged_stream : (p : PairOf) (stream : List ℕ) (j : JudgeOf) (o : InvOutcome) → pair_of j ≡ p → j.most ≡ length stream → IsOver j stream o → o ≡ outcome.Found → IsInvariantStream p stream
judged_stream p stream j o pair most over e =
    let fate = subst (InvFateOf (pair_of j) stream j.most) (ap fate_of e) over.fate in
    subst (λ (z : PairOf). IsInvariantStream z stream) pair (invariant_stream (pair_of j) stream (found_whole (pair_of j) stream j.most (omega (arith, most)) fate))
