-- What a judge tells of bytes.
use Rattle.std.proofs.Common.{◌≡◌, ◌≢◌, ◌⊎◌, ℕ, ◌+◌, ◌-◌, ◌<◌, ◌≤◌, min, Bool, true, false, List, ◌++◌, length, take, Some, None, refl, sym, ap, ◌∙◌, subst, arith, inl, inr, length-append}
use Rattle.std.specs.Prelude.{IfOk, Result, Ok, Err}
use Rattle.std.specs.declared.alloc.AllocError.{AllocError}
use Rattle.std.proofs.lemmas.List.{take_all}
use Rattle.sby_bits.specs.Rows.{Row}
use Rattle.cert_judge.specs.Fate.{Bad as BadFate, Fate}
use Rattle.cert_judge.specs.declared.stream.CertKind.TheVariants.{TooLong}
use Rattle.cert_judge.proofs.Bounding.{sides, take_past}
use Rattle.btor_witness.specs.Found.{IsKept}
use Rattle.btor_witness.specs.Grammar.{IsWitness, WitnessOf}
use Rattle.btor_witness.specs.Machine.{StandsFor, WitnessesOf, after}
use Rattle.btor_witness.specs.Shape.{ShapeOf}
use Rattle.btor_witness.specs.Streams.{EndsWith, Holds, IsFate, IsSeen}
use Rattle.btor_witness.specs.declared.spot.Seen.{Seen}
use Rattle.btor_witness.specs.declared.spot.Seen.TheVariants.{More, Whole, Unknown, EarlyEnd, BadWitness}
use Rattle.btor_witness.proofs.Cutting.{stands_append}
use Rattle.witness_judge.specs.Choosing.{AskedOf, shape_of}
use Rattle.witness_judge.specs.Fate.{BytesFate, IsWitnessFate, IsWitnessFateSoFar}
use Rattle.witness_judge.specs.Judging.{Ends, Feeds, IsPlayedBy, JudgeOf, Took, fate_of}
use Rattle.witness_judge.specs.Settling.{HasChosen, Settles}
use Rattle.witness_judge.specs.declared.outcome.Outcome.{Outcome}
use Rattle.witness_judge.specs.declared.outcome.Outcome.TheVariants.{Played, Bad}

-- what the bytes are that were taken of a piece
taken_part : (piece : List ℕ) (room count : ℕ) → count ≡ min room (length piece) → take count piece ≡ take room piece
taken_part piece room count e =
    elim (sides (length piece) room) [
      | inl l ↦ let n : count ≡ length piece = omega arith in ap (λ (k : ℕ). take k piece) n ∙ take_all (length piece) piece (omega arith) ∙ sym (take_all room piece l)
      | inr l ↦ let n : count ≡ room = omega arith in ap (λ (k : ℕ). take k piece) n
    ]

pub cut_is : (bytes piece : List ℕ) (most taken count : ℕ) → taken ≡ length bytes → taken ≤ most → count ≡ min (most - taken) (length piece) → bytes ++ take count piece ≡ take most (bytes ++ piece)
cut_is bytes piece most taken count n l e =
    let room : count ≡ min (most - length bytes) (length piece) = omega arith in
    ap (λ (ps : List ℕ). bytes ++ ps) (taken_part piece (most - length bytes) count room) ∙ sym (take_past most bytes piece (omega arith))

module _ (a : AskedOf) (all : List ℕ) (most : ℕ) where
  -- the first bytes have a fate
  pub fate_in : (fate : Fate) → BytesFate a false (take most all) (Some fate) → IsWitnessFateSoFar a all most (Some fate)
  fate_in fate h = record {
    within = λ l. subst (λ (bs : List ℕ). BytesFate a false bs (Some fate)) (take_all most all l) h;
    beyond = λ _. inl (fate, h, refl);
  }

  -- they have none, and are all
  pub no_fate : length all ≤ most → BytesFate a false (take most all) None → IsWitnessFateSoFar a all most None
  no_fate l h = record {
    within = λ _. subst (λ (bs : List ℕ). BytesFate a false bs None) (take_all most all l) h;
    beyond = λ k. absurd (omega arith);
  }

  -- they have none, and there are more
  pub long_fate : most < length all → BytesFate a false (take most all) None → IsWitnessFateSoFar a all most (Some (BadFate TooLong most))
  long_fate l h = record { within = λ k. absurd (omega arith); beyond = λ _. inr (h, refl) }

module _ (a : AskedOf) (w : WitnessesOf) (bytes : List ℕ) where
  chosen_of : (x : WitnessOf) (lines : List (List ℕ)) → IsWitness (shape_of a) lines x → IsKept (shape_of a) a.sought.last x w → HasChosen a w x
  chosen_of x lines is kept = record { kept = kept; some = is.some; fits = is.fits }

  pub holds_chosen : ((x : WitnessOf) → Holds (shape_of a) bytes x → IsKept (shape_of a) a.sought.last x w) → (x : WitnessOf) → Holds (shape_of a) bytes x → HasChosen a w x
  holds_chosen kept x h = chosen_of x h.0 h.3 (kept x h)

  pub ends_chosen : ((x : WitnessOf) → Holds (shape_of a) bytes x ⊎ EndsWith (shape_of a) bytes x → IsKept (shape_of a) a.sought.last x w) → (x : WitnessOf) → Holds (shape_of a) bytes x ⊎ EndsWith (shape_of a) bytes x → HasChosen a w x
  ends_chosen kept x (inl h) = chosen_of x h.0 h.3 (kept x (inl h))
  ends_chosen kept x (inr h) = chosen_of x _ h.4 (kept x (inr h))

  pub some_chosen : (seen : Seen) → IsSeen (shape_of a) bytes seen → ((x : WitnessOf) → Holds (shape_of a) bytes x → HasChosen a w x) → seen ≡ Whole → (x : WitnessOf) × HasChosen a w x
  some_chosen seen h chosen e = let x = subst (λ (s : Seen). IsSeen (shape_of a) bytes s) e h in (x.0, chosen x.0 x.1)

  pub some_chosen_at_end : (seen : Seen) → IsFate (shape_of a) bytes seen → ((x : WitnessOf) → Holds (shape_of a) bytes x ⊎ EndsWith (shape_of a) bytes x → HasChosen a w x) → seen ≡ Whole → (x : WitnessOf) × HasChosen a w x
  some_chosen_at_end seen h chosen e = let x = subst (λ (s : Seen). IsFate (shape_of a) bytes s) e h in (x.0, chosen x.0 x.1)

  -- an outcome is the fate of the bytes
  abbrev Told : Bool → Outcome → Type 0
  Told ended o = BytesFate a ended bytes (Some (fate_of o)) × ((rows : List Row) → o ≡ Played rows → IsPlayedBy a ended bytes rows)

  no_run : (ended : Bool) (o other : Outcome) → o ≡ other → ((rows : List Row) → other ≡ Played rows → ⊥) → (rows : List Row) → o ≡ Played rows → IsPlayedBy a ended bytes rows
  no_run ended o other e n rows q = absurd (n rows (sym e ∙ q))

  pub settled : (seen : Seen) (o : Outcome) → seen ≢ More → IsSeen (shape_of a) bytes seen → ((x : WitnessOf) → Holds (shape_of a) bytes x → HasChosen a w x) → Settles a w seen o → Told false o
  settled More o n h chosen e = absurd (n refl)
  settled Whole o n h chosen e =
      let x = h.0 in
      let t = e x (chosen x h.1) in (
        (Whole, h, (x, fate_of o, h.1, t.fate, refl)),
        λ rows q. (x, h.1, t.run rows q),
      )
  settled Unknown o n h chosen e = absurd h
  settled (EarlyEnd k) o n h chosen e = absurd h
  settled (BadWitness k) o n h chosen e = ((BadWitness k, h, ap (λ (p : Outcome). Some (fate_of p)) e), no_run false o _ e (λ rows q. cc))

  pub settled_at_end : (seen : Seen) (o : Outcome) → IsFate (shape_of a) bytes seen → ((x : WitnessOf) → Holds (shape_of a) bytes x ⊎ EndsWith (shape_of a) bytes x → HasChosen a w x) → Settles a w seen o → Told true o
  settled_at_end More o h chosen e = absurd h
  settled_at_end Whole o h chosen e =
      let x = h.0 in
      let t = e x (chosen x h.1) in (
        (Whole, h, (x, fate_of o, h.1, t.fate, refl)),
        λ rows q. (x, h.1, t.run rows q),
      )
  settled_at_end Unknown o h chosen e = ((Unknown, h, ap (λ (p : Outcome). Some (fate_of p)) e), no_run true o _ e (λ rows q. cc))
  settled_at_end (EarlyEnd k) o h chosen e = ((EarlyEnd k, h, ap (λ (p : Outcome). Some (fate_of p)) e), no_run true o _ e (λ rows q. cc))
  settled_at_end (BadWitness k) o h chosen e = ((BadWitness k, h, ap (λ (p : Outcome). Some (fate_of p)) e), no_run true o _ e (λ rows q. cc))

  -- nothing is seen yet
  pub no_more : IsSeen (shape_of a) bytes More → BytesFate a false bytes None
  no_more h = (More, h, refl)

pub whole_fate : (a : AskedOf) (bytes : List ℕ) (most : ℕ) (fate : Fate) → length bytes ≤ most → BytesFate a true bytes (Some fate) → IsWitnessFate a bytes most fate
whole_fate a bytes most fate l h = record { within = λ _. inl h; beyond = λ k. absurd (omega arith) }

-- the reader of a judge that took bytes
pub reader_is : (j : JudgeOf) (bytes : List ℕ) (v : WitnessesOf) → Took j bytes → j.reader ≡ Some v → StandsFor (shape_of j.asked) j.asked.sought.last v bytes × (v.taken ≤ j.taken)
reader_is j bytes v t e =
    let same : t.reader.0 ≡ v = (let r = t.reader.1 in cc) in
    subst (λ (u : WitnessesOf). StandsFor (shape_of j.asked) j.asked.sought.last u bytes × (u.taken ≤ j.taken)) same (t.reader.2, t.reader.3)

-- a judge that took bytes takes a piece, of which this part is read
module _ (j : JudgeOf) (bytes : List ℕ) (t : Took j bytes) (v to : WitnessesOf) (is : j.reader ≡ Some v) (seen : Seen) (part : List ℕ)
    (exact : (shape : ShapeOf) (most : ℕ) (bs : List ℕ) → StandsFor shape most v bs → IsSeen shape (bs ++ part) seen)
    (found : (shape : ShapeOf) (most : ℕ) (bs : List ℕ) (x : WitnessOf) → StandsFor shape most v bs → Holds shape (bs ++ part) x → IsKept shape most x to) where
  stands : StandsFor (shape_of j.asked) j.asked.sought.last v bytes
  stands = (reader_is j bytes v t is).0

  seen_here : IsSeen (shape_of j.asked) (bytes ++ part) seen
  seen_here = exact (shape_of j.asked) j.asked.sought.last bytes stands

  chosen_here : (x : WitnessOf) → Holds (shape_of j.asked) (bytes ++ part) x → HasChosen j.asked to x
  chosen_here = holds_chosen j.asked to (bytes ++ part) (λ x h. found (shape_of j.asked) j.asked.sought.last bytes x stands h)

  pub feed_chosen : seen ≡ Whole → (x : WitnessOf) × HasChosen j.asked to x
  feed_chosen e = some_chosen j.asked to (bytes ++ part) seen seen_here chosen_here e

  module _ (piece : List ℕ) (count : ℕ) (counted : count ≡ min (j.most - j.taken) (length piece)) (cut : part ≡ take count piece) where
    first : bytes ++ part ≡ take j.most (bytes ++ piece)
    first = ap (λ (ps : List ℕ). bytes ++ ps) cut ∙ cut_is bytes piece j.most j.taken count t.taken t.within counted

    pub feed_settled : (new : JudgeOf) (o : Outcome) → seen ≢ More → Settles j.asked to seen o → Feeds j new (bytes ++ piece) (Some o)
    feed_settled new o n h =
        let s = settled j.asked to (bytes ++ part) seen o n seen_here chosen_here h in
        record {
          took = λ e. absurd (let q = e in cc);
          fate = fate_in j.asked (bytes ++ piece) j.most (fate_of o) (subst (λ (bs : List ℕ). BytesFate j.asked false bs (Some (fate_of o))) first s.0);
          played = λ rows e. subst (λ (bs : List ℕ). IsPlayedBy j.asked false bs rows) first (s.1 rows (let q = e in cc));
        }

    nothing : seen ≡ More → BytesFate j.asked false (take j.most (bytes ++ piece)) None
    nothing e = subst (λ (bs : List ℕ). BytesFate j.asked false bs None) first (no_more j.asked to (bytes ++ part) (subst (λ (s : Seen). IsSeen (shape_of j.asked) (bytes ++ part) s) e seen_here))

    pub feed_long : (new : JudgeOf) (o : Outcome) → seen ≡ More → count < length piece → o ≡ Bad (record { kind = TooLong; at = j.most }) → Feeds j new (bytes ++ piece) (Some o)
    feed_long new o e l is_bad =
        let n = length-append bytes piece in
        let b = t.taken in
        let w = t.within in
        let long : j.most < length (bytes ++ piece) = omega arith in
        record {
          took = λ q. absurd (let z = q in cc);
          fate = subst (λ (p : Outcome). IsWitnessFateSoFar j.asked (bytes ++ piece) j.most (Some (fate_of p))) (sym is_bad) (long_fate j.asked (bytes ++ piece) j.most long (nothing e));
          played = λ rows q. absurd (let z = q in cc);
        }

    abbrev pub fed : JudgeOf
    fed = record { asked = j.asked; most = j.most; taken = j.taken + count; reader = Some to }

    module _ (e : seen ≡ More) (l : length piece ≤ count) (on : to ≡ after v part) (few : to.taken ≤ v.taken + length part) where
      whole : part ≡ piece
      whole = cut ∙ take_all count piece l

      within : length (bytes ++ piece) ≤ j.most
      within = let n = length-append bytes piece in let b = t.taken in let w = t.within in omega arith

      pub feed_took : Took fed (bytes ++ piece)
      feed_took =
          let n = length-append bytes piece in
          let b = t.taken in
          let w = within in
          let f = (reader_is j bytes v t is).1 in
          let p = ap (λ (ps : List ℕ). length ps) whole in
          record {
            reader = (
              to,
              refl,
              subst (λ (u : WitnessesOf). StandsFor (shape_of j.asked) j.asked.sought.last u (bytes ++ piece)) (sym on)
                  (subst (λ (ps : List ℕ). StandsFor (shape_of j.asked) j.asked.sought.last (after v part) (bytes ++ ps)) whole (stands_append (shape_of j.asked) j.asked.sought.last v bytes part stands)),
              omega arith,
            );
            taken = omega arith;
            within = omega arith;
          }

      pub feed_more : Feeds j fed (bytes ++ piece) None
      feed_more = record {
        took = λ _. feed_took;
        fate = no_fate j.asked (bytes ++ piece) j.most within (nothing e);
        played = λ rows q. absurd (let z = q in cc);
      }

-- where the stream ends
module _ (j : JudgeOf) (bytes : List ℕ) (t : Took j bytes) (v : WitnessesOf) (is : j.reader ≡ Some v) (seen : Seen)
    (exact : (shape : ShapeOf) (most : ℕ) (bs : List ℕ) → StandsFor shape most v bs → IsFate shape bs seen)
    (found : (shape : ShapeOf) (most : ℕ) (bs : List ℕ) (x : WitnessOf) → StandsFor shape most v bs → Holds shape bs x ⊎ EndsWith shape bs x → IsKept shape most x v) where
  fate_here : IsFate (shape_of j.asked) bytes seen
  fate_here = exact (shape_of j.asked) j.asked.sought.last bytes (reader_is j bytes v t is).0

  kept_here : (x : WitnessOf) → Holds (shape_of j.asked) bytes x ⊎ EndsWith (shape_of j.asked) bytes x → HasChosen j.asked v x
  kept_here = ends_chosen j.asked v bytes (λ x h. found (shape_of j.asked) j.asked.sought.last bytes x (reader_is j bytes v t is).0 h)

  pub end_chosen : seen ≡ Whole → (x : WitnessOf) × HasChosen j.asked v x
  end_chosen e = some_chosen_at_end j.asked v bytes seen fate_here kept_here e

  pub end_settled : (r : Result Outcome AllocError) → IfOk r (Settles j.asked v seen) → IfOk r (Ends j bytes)
  end_settled (Err e) h = tt
  end_settled (Ok o) h =
      let s = settled_at_end j.asked v bytes seen o fate_here kept_here h in
      let b = t.taken in
      let w = t.within in
      record { fate = whole_fate j.asked bytes j.most (fate_of o) (omega arith) s.0; played = s.1 }
