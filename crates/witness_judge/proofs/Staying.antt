-- The fate of bytes stays.
use Rattle.std.proofs.Common.{◌≡◌, ℕ, Bool, true, false, List, [], ◌∷◌, ◌++◌, Some, None, ap, ◌∙◌, append_assoc, append-nil, inl, subst}
use Rattle.cert_judge.specs.Fate.{Fate}
use Rattle.cert_judge.proofs.Bounding.{at_end_by, stays_by}
use Rattle.btor_witness.specs.Grammar.{WitnessOf}
use Rattle.btor_witness.specs.Shape.{ShapeOf}
use Rattle.btor_witness.specs.Streams.{Holds, IsBadAt, IsCut, IsSeen, text_of}
use Rattle.btor_witness.specs.declared.spot.Seen.{Seen}
use Rattle.btor_witness.specs.declared.spot.Seen.TheVariants.{More, Whole, Unknown, EarlyEnd, BadWitness}
use Rattle.witness_judge.specs.Choosing.{AskedOf, shape_of}
use Rattle.witness_judge.specs.Fate.{BytesFate, IsWitnessFate, IsWitnessFateSoFar, SeenFate}

cut_more : (bytes more rest : List ℕ) (lines : List (List ℕ)) → IsCut bytes lines rest → IsCut (bytes ++ more) lines (rest ++ more)
cut_more bytes more rest lines c = record {
  are = ap (λ (bs : List ℕ). bs ++ more) c.are ∙ append_assoc (text_of lines) rest more;
  no_feed = c.no_feed;
}

holds_more : (shape : ShapeOf) (bytes more : List ℕ) (x : WitnessOf) → Holds shape bytes x → Holds shape (bytes ++ more) x
holds_more shape bytes more x (lines, rest, cut, is) = (lines, rest ++ more, cut_more bytes more rest lines cut, is)

bad_more : (shape : ShapeOf) (bytes more : List ℕ) (n : ℕ) → IsBadAt shape bytes n → IsBadAt shape (bytes ++ more) n
bad_more shape bytes more n b = record {
  lines = b.lines;
  line = b.line;
  rest = b.rest ++ more;
  cut = subst (λ (r : List ℕ). IsCut (bytes ++ more) b.lines r) (append_assoc b.line (10 ∷ b.rest) more) (cut_more bytes more (b.line ++ 10 ∷ b.rest) b.lines b.cut);
  no_feed = b.no_feed;
  place = b.place;
  begins = b.begins;
  none = b.none;
  past = b.past;
}

module _ (a : AskedOf) where
  seen_more : (bytes more : List ℕ) (fate : Fate) (seen : Seen) → IsSeen (shape_of a) bytes seen → SeenFate a false bytes seen (Some fate) → (ended : Bool) → BytesFate a ended (bytes ++ more) (Some fate)
  seen_more bytes more fate More h e ended = absurd (let g : Some fate ≡ None = e in cc)
  seen_more bytes more fate Whole h (x, played, holds, plays, e) false =
      let on = holds_more (shape_of a) bytes more x holds in
      (Whole, (x, on), (x, played, on, plays, e))
  seen_more bytes more fate Whole h (x, played, holds, plays, e) true =
      let on = holds_more (shape_of a) bytes more x holds in
      (Whole, (x, inl on), (x, played, inl on, plays, e))
  seen_more bytes more fate Unknown h e ended = absurd h
  seen_more bytes more fate (EarlyEnd n) h e ended = absurd h
  seen_more bytes more fate (BadWitness n) h e false = (BadWitness n, bad_more (shape_of a) bytes more n h, e)
  seen_more bytes more fate (BadWitness n) h e true = (BadWitness n, bad_more (shape_of a) bytes more n h, e)

  pub comes_more : (ended : Bool) (bytes more : List ℕ) (fate : Fate) → BytesFate a false bytes (Some fate) → BytesFate a ended (bytes ++ more) (Some fate)
  comes_more ended bytes more fate (seen, h, e) = seen_more bytes more fate seen h e ended

  comes_at_end : (bytes : List ℕ) (fate : Fate) → BytesFate a false bytes (Some fate) → BytesFate a true bytes (Some fate)
  comes_at_end bytes fate h = subst (λ (bs : List ℕ). BytesFate a true bs (Some fate)) (append-nil bytes) (comes_more true bytes [] fate h)

pub so_far_stays : (a : AskedOf) (bytes more : List ℕ) (most : ℕ) (fate : Fate) → IsWitnessFateSoFar a bytes most (Some fate) → IsWitnessFateSoFar a (bytes ++ more) most (Some fate)
so_far_stays a bytes more most fate h = stays_by (BytesFate a) most (comes_more a false) bytes more fate h

pub stays : (a : AskedOf) (bytes more : List ℕ) (most : ℕ) (fate : Fate) → IsWitnessFateSoFar a bytes most (Some fate) → IsWitnessFate a (bytes ++ more) most fate
stays a bytes more most fate h = at_end_by (BytesFate a) most (comes_at_end a) (bytes ++ more) fate (so_far_stays a bytes more most fate h)
