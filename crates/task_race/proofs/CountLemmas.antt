-- The counts of a yard over bays that come back.
use Rattle.std.proofs.Common.{◌≡◌, ℕ, ◌≤◌, inl, inr, List, [], ◌∷◌, map, refl, ap, subst, ◌∙◌, arith}
use Rattle.std.specs.Prelude.{Some, All, slice_get}
use Rattle.std.proofs.lemmas.List.Elements.{All-head, All-map, All-tail}
use Rattle.sby_edge.specs.Cause.{CountsOf, Rose}
use Rattle.task_race.specs.Bays.{AreLater, AreRisenBy, CameBack, HaveRisenFor, counts_at, none_failed}
use Rattle.task_race.proofs.PlaceLemmas.{each_of, first_or_later}

rose_later : (before between now : ℕ) → Rose before between → between ≤ now → Rose before now
rose_later before between now h k = omega (h, k, arith)

rose_earlier : (before between now : ℕ) → before ≤ between → Rose between now → Rose before now
rose_earlier before between now h k = omega (h, k, arith)

pub same_counts : (a b : CountsOf) → a.starts ≡ b.starts → a.reads ≡ b.reads → a.holds ≡ b.holds → a ≡ b
same_counts a b starts reads holds =
    ap (λ (n : ℕ). counts_at n a.reads a.holds) starts ∙ (ap (λ (n : ℕ). counts_at b.starts n a.holds) reads ∙ ap (λ (n : ℕ). counts_at b.starts b.reads n) holds)

-- no bay came back
pub none_back : (counts : CountsOf) → CameBack [] counts counts
none_back counts = record {
  later = record { starts = omega arith; reads = omega arith; holds = omega arith };
  rose = λ part among. absurd (omega (among.1, arith));
  stood = λ none. refl;
}

risen_first : (part before mid now : CountsOf) → AreLater before mid → AreRisenBy part mid now → HaveRisenFor part before now
risen_first part before mid now later risen = record {
  starts = λ some. rose_earlier before.starts mid.starts now.starts later.starts (risen.starts.rose some);
  reads = λ some. rose_earlier before.reads mid.reads now.reads later.reads (risen.reads.rose some);
  holds = λ some. rose_earlier before.holds mid.holds now.holds later.holds (risen.holds.rose some);
}

risen_before : (other part before mid now : CountsOf) → HaveRisenFor other before mid → AreRisenBy part mid now → HaveRisenFor other before now
risen_before other part before mid now were risen = record {
  starts = λ some. rose_later before.starts mid.starts now.starts (were.starts some) risen.starts.later;
  reads = λ some. rose_later before.reads mid.reads now.reads (were.reads some) risen.reads.later;
  holds = λ some. rose_later before.holds mid.holds now.holds (were.holds some) risen.holds.later;
}

-- one bay more came back
pub one_back : (part : CountsOf) (parts : List CountsOf) (before mid now : CountsOf) → CameBack parts before mid → AreRisenBy part mid now → CameBack (part ∷ parts) before now
one_back part parts before mid now back risen = record {
  later = record {
    starts = omega (back.later.starts, risen.starts.later, arith);
    reads = omega (back.later.reads, risen.reads.later, arith);
    holds = omega (back.later.holds, risen.holds.later, arith);
  };
  rose = λ other among. elim (first_or_later part other parts among) [
    | inl here ↦ subst (λ (p : CountsOf). HaveRisenFor p before now) here (risen_first part before mid now back.later risen)
    | inr rest ↦ risen_before other part before mid now (back.rose other rest) risen
  ];
  stood = λ none.
      let first = All-head (λ (p : CountsOf). p ≡ none_failed) part parts none in
      same_counts now mid (risen.starts.stood (ap (λ (p : CountsOf). p.starts) first)) (risen.reads.stood (ap (λ (p : CountsOf). p.reads) first))
      (risen.holds.stood (ap (λ (p : CountsOf). p.holds) first))
      ∙ back.stood (All-tail (λ (p : CountsOf). p ≡ none_failed) part parts none);
}

-- bays that are as they were made counted no failed call
pub all_fresh : {B : Type 0} (counts : B → CountsOf) (bays : List B) → ((lane : ℕ) (b : B) → slice_get bays lane ≡ Some b → counts b ≡ none_failed)
    → All (λ part. part ≡ none_failed) (map counts bays)
all_fresh {B} counts bays fresh = All-map (λ (part : CountsOf). part ≡ none_failed) counts bays (each_of (λ (b : B). counts b ≡ none_failed) bays fresh)
