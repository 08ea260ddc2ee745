use Rattle.std.proofs.Common.{List, ℕ, refl, subst, sym}
use Rattle.std.specs.Prelude.{IfOk, Result}
use Rattle.std.specs.declared.alloc.AllocError.{AllocError}
use Rattle.cert_judge.specs.declared.stream.BadCert.{BadCert}
use Rattle.judge.proofs.Joining.{certificate_again, certificate_ended, invariant_again, invariant_ended, witness_again, witness_ended}
use Rattle.judge.proofs.judging.Judge.end.Goals.{in-Certificate, in-Invariant, in-Witness}
use Rattle.judge.specs.Certificate as certificate
use Rattle.judge.specs.Inductive as invariant
use Rattle.judge.specs.Judging.{Ends, judge_of}
use Rattle.judge.specs.Reading as witness
use Rattle.judge.specs.declared.judging.Progress.{Progress}
use Rattle.judge.proofs.judging.Judge.end.Goals as goal

pub returns-clause-ends : goal.returns-clause-ends
returns-clause-ends c = λ bytes took. elim c.match-self.branch as (λ _. IfOk c.match-self.result (λ r. Ends c.args.self.now (judge_of c.match-self.self-inside.reader) bytes r)) [
  | in-Certificate w ↦ certificate_ended c.args.self.now c.self.inside.reader c.match-self.self-inside.reader c.match-self.result c.self.view_is bytes w.in-Certificate.judge w.end.new.self w.in-Certificate.is (rw w.self-inside-is refl)
      (subst (λ (told : Result (Result Progress BadCert) AllocError). (b : List ℕ) → certificate.Took w.in-Certificate.judge b → IfOk told (λ r. certificate.Ends w.in-Certificate.judge w.end.new.self b r)) (sym w.result-is) w.end.ensures.ends) took
  | in-Witness w ↦ witness_ended c.args.self.now c.self.inside.reader c.match-self.self-inside.reader c.match-self.result c.self.view_is bytes w.in-Witness.judge w.end-in-Witness.new.self w.in-Witness.is (rw w.self-inside-is refl)
      (subst (λ (told : Result (Result Progress BadCert) AllocError). (b : List ℕ) → witness.Took w.in-Witness.judge b → IfOk told (λ r. witness.Ends w.in-Witness.judge w.end-in-Witness.new.self b r)) (sym w.result-is) w.end-in-Witness.ensures.ends) took
  | in-Invariant w ↦ invariant_ended c.args.self.now c.self.inside.reader c.match-self.self-inside.reader c.match-self.result c.self.view_is bytes w.in-Invariant.judge w.end-in-Invariant.new.self w.in-Invariant.is (rw w.self-inside-is refl)
      (subst (λ (told : Result (Result Progress BadCert) AllocError). (b : List ℕ) → invariant.Took w.in-Invariant.judge b → IfOk told (λ r. invariant.Ends w.in-Invariant.judge w.end-in-Invariant.new.self b r)) (sym w.result-is) w.end-in-Invariant.ensures.ends) took
]

pub returns-clause-again : goal.returns-clause-again
returns-clause-again c = λ bytes took. elim c.match-self.branch as (λ _. IfOk c.match-self.result (λ r. Ends c.args.self.now (judge_of c.match-self.self-inside.reader) bytes r)) [
  | in-Certificate w ↦ certificate_again c.args.self.now c.self.inside.reader c.match-self.self-inside.reader c.match-self.result c.self.view_is bytes w.in-Certificate.judge w.end.new.self w.in-Certificate.is (rw w.self-inside-is refl)
      (subst (λ (told : Result (Result Progress BadCert) AllocError). (b : List ℕ) → certificate.TookAll w.in-Certificate.judge b → IfOk told (λ r. certificate.Ends w.in-Certificate.judge w.end.new.self b r)) (sym w.result-is) w.end.ensures.again) took
  | in-Witness w ↦ witness_again c.args.self.now c.self.inside.reader c.match-self.self-inside.reader c.match-self.result c.self.view_is bytes w.in-Witness.judge w.end-in-Witness.new.self w.in-Witness.is (rw w.self-inside-is refl)
      (subst (λ (told : Result (Result Progress BadCert) AllocError). (b : List ℕ) → witness.TookAll w.in-Witness.judge b → IfOk told (λ r. witness.Ends w.in-Witness.judge w.end-in-Witness.new.self b r)) (sym w.result-is) w.end-in-Witness.ensures.again) took
  | in-Invariant w ↦ invariant_again c.args.self.now c.self.inside.reader c.match-self.self-inside.reader c.match-self.result c.self.view_is bytes w.in-Invariant.judge w.end-in-Invariant.new.self w.in-Invariant.is (rw w.self-inside-is refl)
      (subst (λ (told : Result (Result Progress BadCert) AllocError). (b : List ℕ) → invariant.TookAll w.in-Invariant.judge b → IfOk told (λ r. invariant.Ends w.in-Invariant.judge w.end-in-Invariant.new.self b r)) (sym w.result-is) w.end-in-Invariant.ensures.again) took
]
