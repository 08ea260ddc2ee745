-- The fate of a witness.
use Rattle.std.proofs.Common.{◌≡◌, ℕ, ◌-◌, ◌≤◌, List, length, map, sym, ap, ◌∙◌, subst, inr}
use Rattle.std.specs.Prelude.{All}
use Rattle.std.specs.List.{concat}
use Rattle.sby_bits.specs.Rows.{Row}
use Rattle.sby_terms.specs.declared.names.Answer.TheVariants.{Sat}
use Rattle.model_core.specs.Choices.{ChoicesOf, Plays}
use Rattle.model_play.specs.Packed.{rows_of}
use Rattle.model_play.specs.Playing.{cycles_of}
use Rattle.btor_emit.specs.Goals.{IsGoal}
use Rattle.btor_witness.specs.Grammar.{WitnessOf}
use Rattle.btor_witness.specs.Machine.{WitnessesOf}
use Rattle.witness_judge.specs.Choosing.{AskedOf, bit_for, choices_for}
use Rattle.witness_judge.specs.Judging.{IsPlayed, fate_of}
use Rattle.witness_judge.specs.Playing.{RunFate}
use Rattle.witness_judge.specs.Settling.{HasChosen, Tells}
use Rattle.witness_judge.specs.declared.outcome.Outcome.{Outcome}
use Rattle.witness_judge.specs.declared.outcome.Outcome.TheVariants.{Played}
use Rattle.witness_judge.proofs.Chosen.{kept_choices}
use Rattle.witness_judge.proofs.Finding.{length_choices, run_found}

module _ (a : AskedOf) (w : WitnessesOf) (x : WitnessOf) (chose : HasChosen a w x) where
  -- choices that are made of what is kept
  pub made_choices : (few : length x.frames ≤ a.sought.last) (c : ChoicesOf) (starts inputs : Row) (read : List ℕ) (cycles : ℕ)
      → c ≡ record { starts = starts; inputs = map (λ row. map (bit_for read row) a.model.inputs) (rows_of (length read) cycles inputs) }
      → starts ≡ w.reading.frames.starts → inputs ≡ w.reading.frames.inputs → read ≡ concat a.inputs → cycles ≡ w.reading.frames.count → c ≡ choices_for a x.frames
  made_choices few c starts inputs read cycles e s i r n =
      let make : Row → Row → List ℕ → ChoicesOf = λ bits rows places. record { starts = bits; inputs = map (λ row. map (bit_for places row) a.model.inputs) (rows_of (length places) cycles rows) } in
      e ∙ ap (λ (bits : Row). make bits inputs read) s ∙ ap (λ (rows : Row). make w.reading.frames.starts rows read) i ∙ ap (λ (places : List ℕ). make w.reading.frames.starts w.reading.frames.inputs places) r
      ∙ kept_choices a w x chose few cycles n

  -- the run of what the frames choose
  module _ (few : length x.frames ≤ a.sought.last) (c : ChoicesOf) (same : c ≡ choices_for a x.frames) (rows : List Row) (plays : Plays a.model c (cycles_of rows)) (cycles : length rows ≡ length c.inputs)
      (wide : All (λ row. length row ≡ a.model.size) rows) (bad : ℕ) (named : bad ≡ w.reading.bad) where
    long : length rows ≡ length x.frames
    long = cycles ∙ ap (λ (d : ChoicesOf). length d.inputs) same ∙ length_choices a x.frames

    run_plays : Plays a.model (choices_for a x.frames) (cycles_of rows)
    run_plays = subst (λ (d : ChoicesOf). Plays a.model d (cycles_of rows)) same plays

    comes : (o : Outcome) → RunFate a.model a.sought (length rows) (cycles_of rows) bad (fate_of o) → RunFate a.model a.sought (length x.frames) (cycles_of rows) x.bad (fate_of o)
    comes o r = subst (λ (n : ℕ). RunFate a.model a.sought n (cycles_of rows) x.bad (fate_of o)) long (subst (λ (k : ℕ). RunFate a.model a.sought (length rows) (cycles_of rows) k (fate_of o)) (named ∙ chose.kept.bad) r)

    played : (o : Outcome) → RunFate a.model a.sought (length rows) (cycles_of rows) bad (fate_of o) → ((rs : List Row) → o ≡ Played rs → rs ≡ rows) → (rs : List Row) → o ≡ Played rs → IsPlayed a x rs
    played o r own rs e =
        let found = run_found a.model a.sought (length rows) (cycles_of rows) bad Sat (subst (λ (p : Outcome). RunFate a.model a.sought (length rows) (cycles_of rows) bad (fate_of p)) e r) in
        let here : IsPlayed a x rows = record {
          plays = run_plays;
          cycles = long;
          wide = wide;
          few = subst (λ (n : ℕ). n ≤ a.sought.last) (sym long) few;
          assumed = found.1;
          reached = record { late = found.2.late; bad = subst (λ (k : ℕ). IsGoal a.model a.sought.goal (cycles_of rows (length rows - 1)) k) (named ∙ chose.kept.bad) found.2.bad };
        } in
        subst (λ (qs : List Row). IsPlayed a x qs) (sym (own rs e)) here

    pub tells_run : (o : Outcome) → RunFate a.model a.sought (length rows) (cycles_of rows) bad (fate_of o) → ((rs : List Row) → o ≡ Played rs → rs ≡ rows) → Tells a x o
    tells_run o r own = record { fate = inr (few, (cycles_of rows, run_plays, comes o r)); run = played o r own }
