-- What a call promises.
use Rattle.std.proofs.Common.{◌≡◌, ◌≢◌, ◌⊎◌, ℕ, ◌≤◌, ◌^◌, List, length, ap, refl, ◌∙◌, subst, inl, inr, arith}
use Rattle.std.specs.Prelude.{Option, Some}
use Rattle.cnf_form.specs.Cnf.{FormulaOf}
use Rattle.cnf_form.specs.Dimacs.{IsDimacs}
use Rattle.cnf_form.specs.Reading.{IsFault}
use Rattle.cnf_form.specs.declared.reader.DimacsFaultKind.{DimacsFaultKind}
use Rattle.pair_form.specs.Pair.{IsPair, IsSamePair, PairOf}
use Rattle.pair_form.specs.Text.{pair_text}
use Rattle.pair_reader.specs.Reading.{IsPairFault}
use Rattle.pair_reader.specs.declared.reader.PairFault.{PairFault}
use Rattle.pair_reader.specs.declared.reader.PairFault.TheVariants.{Dimacs, Lines}
use Rattle.sby_edge.specs.Files.{Store}
use Rattle.cdcl_words.specs.Asking.{AsksPlainly}
use Rattle.cdcl_run.specs.Answer.{budget_of}
use Rattle.cdcl_run.specs.Output.{grown}
use Rattle.cdcl_run.specs.Run.{IsOutOfMemory, IsUngot, World}
use Rattle.cdcl_run.proofs.Promise.{asked_plainly, told_content}
use Rattle.pdr_run.specs.Answer.{IsAnswer}
use Rattle.pdr_run.specs.Run.{Answers, Did, IsCutShort, IsDone, IsServed}
use Rattle.pdr_run.proofs.SamePairs.{answers_same}

-- exit statuses of answers
exit_of : (p : PairOf) (budget : ℕ) (stream : List ℕ) (exit : ℕ) → IsAnswer p budget stream exit → (exit ≢ 1) × (exit ≢ 32)
exit_of p budget stream exit (inl w) = (λ e. omega (arith, w.0, e), λ e. omega (arith, w.0, e))
exit_of p budget stream exit (inr (inl w)) = (λ e. omega (arith, w.0, e), λ e. omega (arith, w.0, e))
exit_of p budget stream exit (inr (inr w)) = (λ e. omega (arith, w.0, e), λ e. omega (arith, w.0, e))

-- DIMACS has no fault, and a pair's text is DIMACS, and of one pair
pub record Texts : Type 0 where
  pub decided : (bytes : List ℕ) (f : FormulaOf) (kind : DimacsFaultKind) (byte : ℕ) → IsDimacs bytes f → IsFault bytes kind byte → ⊥
  pub dimacs : (p : PairOf) → IsPair p → IsDimacs (pair_text p) p.formula
  pub one : (p q : PairOf) → IsPair p → IsPair q → pair_text p ≡ pair_text q → IsSamePair p q

module _ (texts : Texts) (before after : World) (words : List (List ℕ)) (exit : ℕ) (c : Option ℕ) (file : List ℕ) (store : Store) (p : PairOf) where
  -- memory ran out at once, the file couldn't be got, or there is an answer
  Comes : Type 0
  Comes = IsOutOfMemory before after exit ⊎ (IsUngot before after exit ⊎ Answers before after p (budget_of c) exit)

  faultless : (fault : PairFault) → IsPairFault (pair_text p) fault → IsPair p → ⊥
  faultless (Dimacs fault) w is = texts.decided (pair_text p) p.formula fault.kind fault.byte (texts.dimacs p is) w
  faultless Lines w is = w.2 p is refl

  served : (bytes : List ℕ) → bytes ≡ pair_text p → length (pair_text p) ≤ 2 ^ 32 → IsPair p → IsServed before after bytes (budget_of c) exit → Answers before after p (budget_of c) exit
  served bytes e short is (inl long) = absurd (omega (arith, long.0, short, ap length e))
  served bytes e short is (inr (inl (_, (fault, w, _, _)))) = absurd (faultless fault (subst (λ z. IsPairFault z fault) e w) is)
  served bytes e short is (inr (inr (_, (q, own, text, a)))) = answers_same q p (texts.one q p own is (text ∙ e)) before after (budget_of c) exit a

  module _ (d : Did before after words exit) (asks : AsksPlainly words c file) (told : before.told ≡ Some store) (has : store file ≡ Some (pair_text p)) (short : length (pair_text p) ≤ 2 ^ 32) (is : IsPair p) where
    done : IsDone before after c file exit → Comes
    unfolding Comes
    done (inl w) = inl w
    done (inr (inl w)) = inr (inl w)
    done (inr (inr (bytes, content, _, w))) = inr (inr (served bytes (told_content before.told store file bytes (pair_text p) told content has) short is w))

    did : Comes
    did = elim d.1 [
      | inl r ↦ absurd (r.none c file asks)
      | inr w ↦
          let s = asked_plainly words w.0 c w.1 file w.2 asks in
          done (subst (λ z. IsDone before after c z exit) s.1 (subst (λ z. IsDone before after z w.1 exit) s.0 w.3))
    ]

    pub kept : exit ≢ 1 → exit ≢ 32 → (stream : List ℕ) × (after.taken ≡ grown before.taken stream) × IsAnswer p (budget_of c) stream exit
    unfolding Comes
    kept n1 n32 = elim did [
      | inl w ↦ absurd (n32 w.exit_is)
      | inr (inl w) ↦ absurd (n1 w.exit_is)
      | inr (inr (inl w)) ↦ (w.0, w.1, w.3)
      | inr (inr (inr w)) ↦ absurd (n1 w.0)
    ]

    pub failed : exit ≡ 1 → IsCutShort before after p (budget_of c) ⊎ IsUngot before after exit
    unfolding Comes
    failed one = elim did [
      | inl w ↦ absurd (omega (arith, w.exit_is, one))
      | inr (inl w) ↦ inr w
      | inr (inr (inl w)) ↦ absurd ((exit_of p (budget_of c) w.0 exit w.3).0 one)
      | inr (inr (inr w)) ↦ inl w.1
    ]

    pub left : exit ≡ 32 → IsOutOfMemory before after exit
    unfolding Comes
    left out = elim did [
      | inl w ↦ w
      | inr (inl w) ↦ absurd (omega (arith, w.exit_is, out))
      | inr (inr (inl w)) ↦ absurd ((exit_of p (budget_of c) w.0 exit w.3).1 out)
      | inr (inr (inr w)) ↦ absurd (omega (arith, w.0, out))
    ]
