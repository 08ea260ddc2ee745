use Rattle.std.proofs.Common.{List, ℕ, ◌++◌, refl, subst, sym}
use Rattle.std.specs.Prelude.{IfOk, Result}
use Rattle.std.specs.declared.alloc.AllocError.{AllocError}
use Rattle.cert_judge.specs.declared.stream.BadCert.{BadCert}
use Rattle.judge.proofs.Joining.{certificate_fed, invariant_fed, witness_fed}
use Rattle.judge.proofs.judging.Judge.feed.Goals.{in-Certificate, in-Invariant, in-Witness}
use Rattle.judge.specs.Certificate as certificate
use Rattle.judge.specs.Inductive as invariant
use Rattle.judge.specs.Judging.{Feeds, judge_of}
use Rattle.judge.specs.Reading as witness
use Rattle.judge.specs.declared.judging.Progress.{Progress}
use Rattle.judge.proofs.judging.Judge.feed.Goals as goal

pub returns-clause-feeds : goal.returns-clause-feeds
returns-clause-feeds c = λ bytes took. elim c.match-self.branch as (λ _. IfOk c.match-self.result (λ r. Feeds c.args.self.now (judge_of c.match-self.self-inside.reader) (bytes ++ c.args.piece.now) r)) [
  | in-Certificate w ↦ certificate_fed c.args.self.now c.self.inside.reader c.match-self.self-inside.reader c.match-self.result c.self.view_is bytes w.in-Certificate.judge w.feed.new.self w.in-Certificate.is (rw w.self-inside-is refl) c.args.piece.now
      (subst (λ (told : Result (Result Progress BadCert) AllocError). (b : List ℕ) → certificate.Took w.in-Certificate.judge b → IfOk told (λ r. certificate.Feeds w.in-Certificate.judge w.feed.new.self (b ++ c.args.piece.now) r)) (sym w.result-is) w.feed.ensures.feeds) took
  | in-Witness w ↦ witness_fed c.args.self.now c.self.inside.reader c.match-self.self-inside.reader c.match-self.result c.self.view_is bytes w.in-Witness.judge w.feed-in-Witness.new.self w.in-Witness.is (rw w.self-inside-is refl) c.args.piece.now
      (subst (λ (told : Result (Result Progress BadCert) AllocError). (b : List ℕ) → witness.Took w.in-Witness.judge b → IfOk told (λ r. witness.Feeds w.in-Witness.judge w.feed-in-Witness.new.self (b ++ c.args.piece.now) r)) (sym w.result-is) w.feed-in-Witness.ensures.feeds) took
  | in-Invariant w ↦ invariant_fed c.args.self.now c.self.inside.reader c.match-self.self-inside.reader c.match-self.result c.self.view_is bytes w.in-Invariant.judge w.feed-in-Invariant.new.self w.in-Invariant.is (rw w.self-inside-is refl) c.args.piece.now
      (subst (λ (told : Result (Result Progress BadCert) AllocError). (b : List ℕ) → invariant.Took w.in-Invariant.judge b → IfOk told (λ r. invariant.Feeds w.in-Invariant.judge w.feed-in-Invariant.new.self (b ++ c.args.piece.now) r)) (sym w.result-is) w.feed-in-Invariant.ensures.feeds) took
]
