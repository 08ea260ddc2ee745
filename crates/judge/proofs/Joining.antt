-- The judge of any kind tells what that of its kind tells.
use Rattle.std.proofs.Common.{◌≡◌, List, ◌++◌, ℕ, ap, refl, subst, sym}
use Rattle.std.specs.Prelude.{IfOk, MatchOption, None, Option, Result, Ok, Err, Some}
use Rattle.std.specs.declared.alloc.AllocError.{AllocError}
use Rattle.cert_judge.specs.Fate.{Fate}
use Rattle.cert_judge.specs.Kinds.{IsFate as IsCertFate}
use Rattle.cert_judge.specs.declared.stream.BadCert.{BadCert}
use Rattle.cert_judge.specs.declared.stream.Kind.TheVariants as kind
use Rattle.cert_judge.specs.declared.stream.StreamKind.{StreamKind}
use Rattle.sby_terms.specs.declared.names.JobName.{JobName}
use Rattle.sby_terms.specs.declared.names.JobName.TheVariants.{Base, Step, Inv, Cover}
use Rattle.judge.proofs.Problems.{formula_file}
use Rattle.judge.specs.Answers.{fate_told}
use Rattle.judge.specs.Fates.{Serves}
use Rattle.judge.specs.Certificate as certificate
use Rattle.judge.specs.Judging.{Ends, Feeds, JudgeOf, Took, TookAll, judge_of}
use Rattle.judge.specs.Inductive as invariant
use Rattle.judge.specs.Reading as witness
use Rattle.judge.specs.declared.judging.Progress.{Progress}
use Rattle.judge.specs.declared.judging.Reader.{Reader}
use Rattle.judge.specs.declared.judging.Reader.TheVariants.{Certificate, Witness, Invariant}

-- certificates are judged for each job that has a formula, and for no other
pub told_served : (k : StreamKind) (job : JobName) → Serves (kind.Certificate k) job → job ≡ Inv → ⊥
told_served k (Base i) serves is = cc
told_served k Step serves is = cc
told_served k Inv serves is = serves
told_served k (Cover i) serves is = cc

-- invariants for Inv alone
pub inv_served : (job : JobName) → Serves kind.Invariant job → job ≡ Inv
inv_served (Base i) serves = absurd serves
inv_served Step serves = absurd serves
inv_served Inv serves = refl
inv_served (Cover i) serves = absurd serves

serves_told : (k : StreamKind) (job : JobName) → (job ≡ Inv → ⊥) → Serves (kind.Certificate k) job
serves_told k (Base i) told = tt
serves_told k Step told = tt
serves_told k Inv told = told refl
serves_told k (Cover i) told = tt

with_served : (o : Option Fate) (P : Fate → Type 0) (S : Type 0) → S → MatchOption o ⊥ P → MatchOption o ⊥ (λ f. S × P f)
with_served None P S s h = h
with_served (Some f) P S s h = (s, h)

certificate_feeds : (old new : certificate.JudgeOf) (bytes : List ℕ) (r : Result Progress BadCert) → certificate.Feeds old new bytes r → Feeds (judge_of (Certificate old)) (judge_of (Certificate new)) bytes r
certificate_feeds old new bytes r f = record {
  same = (f.same.0, f.same.1, f.same.2, ap kind.Certificate f.same.3);
  state = f.state;
  stands = λ reading. record { state = reading; taken = f.stands reading };
  over = λ over. record { state = over; taken = f.over over };
  finds = f.finds;
  run = f.run;
  fate = λ file is. (serves_told old.kind old.job f.told.1, f.fate file (formula_file old.asked old.job file f.told.1 is));
}

certificate_ends : (old new : certificate.JudgeOf) (bytes : List ℕ) (r : Result Progress BadCert) → certificate.Ends old new bytes r → Ends (judge_of (Certificate old)) (judge_of (Certificate new)) bytes r
certificate_ends old new bytes r f = record {
  same = (f.same.0, f.same.1, f.same.2, ap kind.Certificate f.same.3);
  state = f.state;
  over = λ over. record { state = over; taken = f.over over };
  finds = f.finds;
  run = f.run;
  fate = λ file is. with_served (fate_told r) (IsCertFate old.kind file bytes old.most) (Serves (kind.Certificate old.kind) old.job) (serves_told old.kind old.job f.told.1) (f.fate file (formula_file old.asked old.job file f.told.1 is));
}

witness_feeds : (old new : witness.ReaderOf) (bytes : List ℕ) (r : Result Progress BadCert) → witness.Feeds old new bytes r → Feeds (judge_of (Witness old)) (judge_of (Witness new)) bytes r
witness_feeds old new bytes r f = record {
  same = (f.same.0, f.same.1, f.same.2, refl);
  state = f.state;
  stands = λ reading. record { state = reading; taken = f.stands reading };
  over = λ over. record { state = over; taken = f.over over };
  finds = f.finds;
  run = f.run;
  fate = λ file is. f.fate;
}

witness_ends : (old new : witness.ReaderOf) (bytes : List ℕ) (r : Result Progress BadCert) → witness.Ends old new bytes r → Ends (judge_of (Witness old)) (judge_of (Witness new)) bytes r
witness_ends old new bytes r f = record {
  same = (f.same.0, f.same.1, f.same.2, refl);
  state = f.state;
  over = λ over. record { state = over; taken = f.over over };
  finds = f.finds;
  run = f.run;
  fate = λ file is. f.fate;
}

invariant_feeds : (old new : invariant.ReaderOf) (bytes : List ℕ) (r : Result Progress BadCert) → invariant.Feeds old new bytes r → Feeds (judge_of (Invariant old)) (judge_of (Invariant new)) bytes r
invariant_feeds old new bytes r f = record {
  same = (f.same.0, refl, f.same.1, refl);
  state = f.state;
  stands = λ reading. record { state = reading; taken = f.stands reading };
  over = λ over. record { state = over; taken = f.over over };
  finds = f.finds;
  run = f.run;
  fate = λ file is. f.fate;
}

invariant_ends : (old new : invariant.ReaderOf) (bytes : List ℕ) (r : Result Progress BadCert) → invariant.Ends old new bytes r → Ends (judge_of (Invariant old)) (judge_of (Invariant new)) bytes r
invariant_ends old new bytes r f = record {
  same = (f.same.0, refl, f.same.1, refl);
  state = f.state;
  over = λ over. record { state = over; taken = f.over over };
  finds = f.finds;
  run = f.run;
  fate = λ file is. f.fate;
}

-- what is told of one is told of the other
if_told : {P Q : Result Progress BadCert → Type 0} → ((r : Result Progress BadCert) → P r → Q r) → (told : Result (Result Progress BadCert) AllocError) → IfOk told P → IfOk told Q
if_told f (Ok r) h = f r h
if_told f (Err e) h = h

-- a judge that is one of certificates, of witnesses, or of invariants, before and after
module _ (self : JudgeOf) (reader next : Reader) (told : Result (Result Progress BadCert) AllocError) (view : judge_of reader ≡ self) (bytes : List ℕ) where
  module _ (old new : certificate.JudgeOf) (is : reader ≡ Certificate old) (becomes : next ≡ Certificate new) where
    as_certificate : self ≡ judge_of (Certificate old)
    as_certificate = rw (← view, is) refl

    pub certificate_fed : (piece : List ℕ) → ((b : List ℕ) → certificate.Took old b → IfOk told (λ r. certificate.Feeds old new (b ++ piece) r)) → Took self bytes → IfOk told (λ r. Feeds self (judge_of next) (bytes ++ piece) r)
    certificate_fed piece feeds took =
        let own : Took (judge_of (Certificate old)) bytes = subst (λ (j : JudgeOf). Took j bytes) as_certificate took in
        subst (λ (j : JudgeOf). IfOk told (λ r. Feeds j (judge_of next) (bytes ++ piece) r)) (sym as_certificate)
        (subst (λ (n : Reader). IfOk told (λ r. Feeds (judge_of (Certificate old)) (judge_of n) (bytes ++ piece) r)) (sym becomes)
        (if_told (λ r f. certificate_feeds old new (bytes ++ piece) r f) told (feeds bytes own.taken)))

    pub certificate_ended : ((b : List ℕ) → certificate.Took old b → IfOk told (λ r. certificate.Ends old new b r)) → Took self bytes → IfOk told (λ r. Ends self (judge_of next) bytes r)
    certificate_ended ends took =
        let own : Took (judge_of (Certificate old)) bytes = subst (λ (j : JudgeOf). Took j bytes) as_certificate took in
        subst (λ (j : JudgeOf). IfOk told (λ r. Ends j (judge_of next) bytes r)) (sym as_certificate)
        (subst (λ (n : Reader). IfOk told (λ r. Ends (judge_of (Certificate old)) (judge_of n) bytes r)) (sym becomes)
        (if_told (λ r f. certificate_ends old new bytes r f) told (ends bytes own.taken)))

    pub certificate_again : ((b : List ℕ) → certificate.TookAll old b → IfOk told (λ r. certificate.Ends old new b r)) → TookAll self bytes → IfOk told (λ r. Ends self (judge_of next) bytes r)
    certificate_again ends took =
        let own : TookAll (judge_of (Certificate old)) bytes = subst (λ (j : JudgeOf). TookAll j bytes) as_certificate took in
        subst (λ (j : JudgeOf). IfOk told (λ r. Ends j (judge_of next) bytes r)) (sym as_certificate)
        (subst (λ (n : Reader). IfOk told (λ r. Ends (judge_of (Certificate old)) (judge_of n) bytes r)) (sym becomes)
        (if_told (λ r f. certificate_ends old new bytes r f) told (ends bytes own.taken)))

  module _ (old new : witness.ReaderOf) (is : reader ≡ Witness old) (becomes : next ≡ Witness new) where
    as_witness : self ≡ judge_of (Witness old)
    as_witness = rw (← view, is) refl

    pub witness_fed : (piece : List ℕ) → ((b : List ℕ) → witness.Took old b → IfOk told (λ r. witness.Feeds old new (b ++ piece) r)) → Took self bytes → IfOk told (λ r. Feeds self (judge_of next) (bytes ++ piece) r)
    witness_fed piece feeds took =
        let own : Took (judge_of (Witness old)) bytes = subst (λ (j : JudgeOf). Took j bytes) as_witness took in
        subst (λ (j : JudgeOf). IfOk told (λ r. Feeds j (judge_of next) (bytes ++ piece) r)) (sym as_witness)
        (subst (λ (n : Reader). IfOk told (λ r. Feeds (judge_of (Witness old)) (judge_of n) (bytes ++ piece) r)) (sym becomes)
        (if_told (λ r f. witness_feeds old new (bytes ++ piece) r f) told (feeds bytes own.taken)))

    pub witness_ended : ((b : List ℕ) → witness.Took old b → IfOk told (λ r. witness.Ends old new b r)) → Took self bytes → IfOk told (λ r. Ends self (judge_of next) bytes r)
    witness_ended ends took =
        let own : Took (judge_of (Witness old)) bytes = subst (λ (j : JudgeOf). Took j bytes) as_witness took in
        subst (λ (j : JudgeOf). IfOk told (λ r. Ends j (judge_of next) bytes r)) (sym as_witness)
        (subst (λ (n : Reader). IfOk told (λ r. Ends (judge_of (Witness old)) (judge_of n) bytes r)) (sym becomes)
        (if_told (λ r f. witness_ends old new bytes r f) told (ends bytes own.taken)))

    pub witness_again : ((b : List ℕ) → witness.TookAll old b → IfOk told (λ r. witness.Ends old new b r)) → TookAll self bytes → IfOk told (λ r. Ends self (judge_of next) bytes r)
    witness_again ends took =
        let own : TookAll (judge_of (Witness old)) bytes = subst (λ (j : JudgeOf). TookAll j bytes) as_witness took in
        subst (λ (j : JudgeOf). IfOk told (λ r. Ends j (judge_of next) bytes r)) (sym as_witness)
        (subst (λ (n : Reader). IfOk told (λ r. Ends (judge_of (Witness old)) (judge_of n) bytes r)) (sym becomes)
        (if_told (λ r f. witness_ends old new bytes r f) told (ends bytes own.taken)))

  module _ (old new : invariant.ReaderOf) (is : reader ≡ Invariant old) (becomes : next ≡ Invariant new) where
    as_invariant : self ≡ judge_of (Invariant old)
    as_invariant = rw (← view, is) refl

    pub invariant_fed : (piece : List ℕ) → ((b : List ℕ) → invariant.Took old b → IfOk told (λ r. invariant.Feeds old new (b ++ piece) r)) → Took self bytes → IfOk told (λ r. Feeds self (judge_of next) (bytes ++ piece) r)
    invariant_fed piece feeds took =
        let own : Took (judge_of (Invariant old)) bytes = subst (λ (j : JudgeOf). Took j bytes) as_invariant took in
        subst (λ (j : JudgeOf). IfOk told (λ r. Feeds j (judge_of next) (bytes ++ piece) r)) (sym as_invariant)
        (subst (λ (n : Reader). IfOk told (λ r. Feeds (judge_of (Invariant old)) (judge_of n) (bytes ++ piece) r)) (sym becomes)
        (if_told (λ r f. invariant_feeds old new (bytes ++ piece) r f) told (feeds bytes own.taken)))

    pub invariant_ended : ((b : List ℕ) → invariant.Took old b → IfOk told (λ r. invariant.Ends old new b r)) → Took self bytes → IfOk told (λ r. Ends self (judge_of next) bytes r)
    invariant_ended ends took =
        let own : Took (judge_of (Invariant old)) bytes = subst (λ (j : JudgeOf). Took j bytes) as_invariant took in
        subst (λ (j : JudgeOf). IfOk told (λ r. Ends j (judge_of next) bytes r)) (sym as_invariant)
        (subst (λ (n : Reader). IfOk told (λ r. Ends (judge_of (Invariant old)) (judge_of n) bytes r)) (sym becomes)
        (if_told (λ r f. invariant_ends old new bytes r f) told (ends bytes own.taken)))

    pub invariant_again : ((b : List ℕ) → invariant.TookAll old b → IfOk told (λ r. invariant.Ends old new b r)) → TookAll self bytes → IfOk told (λ r. Ends self (judge_of next) bytes r)
    invariant_again ends took =
        let own : TookAll (judge_of (Invariant old)) bytes = subst (λ (j : JudgeOf). TookAll j bytes) as_invariant took in
        subst (λ (j : JudgeOf). IfOk told (λ r. Ends j (judge_of next) bytes r)) (sym as_invariant)
        (subst (λ (n : Reader). IfOk told (λ r. Ends (judge_of (Invariant old)) (judge_of n) bytes r)) (sym becomes)
        (if_told (λ r f. invariant_ends old new bytes r f) told (ends bytes own.taken)))
