-- Runs by their choices, as a player goes along them.
use Rattle.std.proofs.Common.{◌≡◌, ℕ, zero, suc, ◌<◌, List, [], ◌∷◌, ◌++◌, refl, sym, ap, ◌∙◌, subst, arith, length, drop, take}
use Rattle.std.specs.Prelude.{Contains}
use Rattle.std.proofs.lemmas.List.Elements.{All-nil, All-push}
use Rattle.std.proofs.lemmas.Option.{slice_get_within}
use Rattle.sby_bits.specs.Rows.{Row}
use Rattle.model_core.specs.Choices.{Agree, AreChoicesFor, ChoicesOf, Plays, open_states, start_row}
use Rattle.model_core.specs.Meaning.{Cycle, Frame, next_states, row_at}
use Rattle.model_core.specs.Served.{IsModel}
use Rattle.model_core.specs.Shape.{ModelOf, states}
use Rattle.model_core.proofs.Fitting.{length-row_at}
use Rattle.model_core.proofs.Frames.{frame_kept, open_source, row_kept, source_below}
use Rattle.model_core.proofs.Lists.{contains_left, contains_right, length-push, push-new, push-old}
use Rattle.model_core.proofs.Runs.{follows_row, next_same, row_follows, row_starts, run_cut, run_of, run_plays, runs_same, starts_row, turns_same}
use Rattle.model_play.specs.declared.player.Stage.{Stage}
use Rattle.model_play.specs.declared.player.Stage.TheVariants.{Begun, Stepped}
use Rattle.model_play.specs.Playing.{IsLast, IsPlaying, PlayerOf, cycle_of}

-- a list that was written to a Vec's slice
front : {A : Type 0} (new rest : List A) (n : ℕ) → n ≡ length new → take n (new ++ rest) ≡ new
front [] rest zero e = refl
front [] rest (suc n) e = absurd (omega arith)
front (x ∷ new) rest zero e = absurd (omega arith)
front {A = A} (x ∷ new) rest (suc n) e = ap (λ (xs : List A). x ∷ xs) (front new rest n (omega arith))

pub written_back : {A : Type 0} (new old : List A) (n : ℕ) → n ≡ length new → take n (new ++ drop (length new) old) ≡ new
written_back new old n e = front new (drop (length new) old) n e

module _ (m : ModelOf) (is : IsModel m) where
  states_inside : (p : ℕ) → Contains (states m) p → p < m.size
  states_inside p h = source_below m is p (open_source m is p (contains_left (states m) m.inputs p h))

  inputs_inside : (p : ℕ) → Contains m.inputs p → p < m.size
  inputs_inside p h = source_below m is p (open_source m is p (contains_right (states m) m.inputs p h))

  -- a run that is the same at all places has the same choices
  pub plays_kept : (c : ChoicesOf) (cs es : ℕ → Cycle) → ((t : ℕ) → t < length c.inputs → Agree m (cs t) (es t)) → Plays m c cs → Plays m c es
  plays_kept c cs es same p =
      let some = p.run.window.some in
      let w : length c.starts ≡ length (open_states m) = sym (ap (λ (row : Row). length row) p.starts) ∙ length-row_at (cs 0) (open_states m) in
      let first = row_starts m is (es 0) c.starts w (sym (row_kept m is (cs 0) (es 0) (same 0 some) (states m) states_inside) ∙ starts_row m is (cs 0) c.starts p.run.starts p.starts) in
      record {
        run = record {
          window = record {
            some = some;
            frames = λ t l. frame_kept m is (cs t) (es t) (same t l) (p.run.window.frames t l);
            follows = λ t l.
                row_follows m is (es t) (es (suc t))
                (sym (row_kept m is (cs (suc t)) (es (suc t)) (same (suc t) l) (states m) states_inside)
                ∙ follows_row m is (cs t) (cs (suc t)) (p.run.window.follows t l) ∙ next_same m is (cs t) (es t) (same t (omega arith)));
          };
          starts = first.0;
        };
        starts = first.1;
        inputs = λ t row e. sym (row_kept m is (cs t) (es t) (same t (slice_get_within c.inputs t row e)) m.inputs inputs_inside) ∙ p.inputs t row e;
      }

  -- a run without its last cycle
  pub plays_cut : (c : ChoicesOf) (y : Row) (cs : ℕ → Cycle) → 0 < length c.inputs → Plays m (record c { inputs = c.inputs ++ y ∷ [] }) cs → Plays m c cs
  plays_cut c y cs some p = record {
    run = run_cut m (length (c.inputs ++ y ∷ [])) (length c.inputs) cs some (let n = length-push c.inputs y in omega arith) p.run;
    starts = p.starts;
    inputs = λ t row e. p.inputs t row (push-old c.inputs y row t e);
  }

  -- a player begins
  pub playing_begun : (row starts held : Row) → length starts ≡ length (open_states m) → held ≡ start_row m.starts starts
      → IsPlaying (record { model = m; stage = Begun; row = row; held = held }) (record { starts = starts; inputs = [] })
  playing_begun row starts held w e = record {
    fits = record { starts = w; inputs = All-nil (λ (r : Row). length r ≡ length m.inputs) };
    begun = λ z. (refl, e);
    stepped = λ t z. absurd (omega arith);
  }

  -- and goes on
  module _ (stage : Stage) (row new held next : Row) (c : ChoicesOf) (y : Row) (frame : Frame m (cycle_of new)) (regs : row_at (cycle_of new) (states m) ≡ held) (ins : row_at (cycle_of new) m.inputs ≡ y)
      (nx : next ≡ next_states m (cycle_of new)) (wide : length y ≡ length m.inputs) (was : IsPlaying (record { model = m; stage = stage; row = row; held = held }) c) where
    abbrev more : ChoicesOf
    more = record c { inputs = c.inputs ++ y ∷ [] }

    more_fits : AreChoicesFor m more
    more_fits = record { starts = was.fits.starts; inputs = All-push (λ (r : Row). length r ≡ length m.inputs) c.inputs y was.fits.inputs wide }

    more_plays : Plays m more (run_of m is more)
    more_plays = let n = length-push c.inputs y in run_plays m is more more_fits (omega arith)

    last_states : (xs : List Row) → c.inputs ≡ xs → row_at (run_of m is more (length c.inputs)) (states m) ≡ held
    last_states [] e =
        let none : length c.inputs ≡ 0 = ap (λ (ys : List Row). length ys) e in
        ap (λ (t : ℕ). row_at (run_of m is more t) (states m)) none
        ∙ starts_row m is (run_of m is more 0) c.starts more_plays.run.starts more_plays.starts ∙ sym (was.begun e).1
    last_states (x ∷ xs) e =
        let t = length xs in
        let last : suc t ≡ length c.inputs = sym (ap (λ (ys : List Row). length ys) e) in
        let n = length-push c.inputs y in
        let s = was.stepped t last in
        let cut = plays_cut c y (run_of m is more) (omega arith) more_plays in
        let agree : Agree m (run_of m is more t) (cycle_of row) = λ p l. runs_same m is c (run_of m is more) s.2.0 cut s.2.1 t (omega arith) p l ∙ s.2.2 p l in
        ap (λ (k : ℕ). row_at (run_of m is more k) (states m)) (sym last)
        ∙ follows_row m is (run_of m is more t) (run_of m is more (suc t)) (more_plays.run.window.follows t (omega arith))
        ∙ next_same m is (run_of m is more t) (cycle_of row) agree ∙ sym s.1

    last_agrees : Agree m (run_of m is more (length c.inputs)) (cycle_of new)
    last_agrees =
        let n = length-push c.inputs y in
        turns_same m is (run_of m is more (length c.inputs)) (cycle_of new) (more_plays.run.window.frames (length c.inputs) (omega arith)) frame
        (last_states c.inputs refl ∙ sym regs) (more_plays.inputs (length c.inputs) y (push-new c.inputs y) ∙ sym ins)

    pub playing_stepped : IsPlaying (record { model = m; stage = Stepped; row = new; held = next }) more
    playing_stepped = record {
      fits = more_fits;
      begun = λ e. let z = ap (λ (ys : List Row). length ys) e in let n = length-push c.inputs y in absurd (omega arith);
      stepped = λ t e.
          let n = length-push c.inputs y in
          let here : length c.inputs ≡ t = omega arith in
          (refl, nx, (run_of m is more, more_plays, subst (λ (k : ℕ). Agree m (run_of m is more k) (cycle_of new)) here last_agrees));
    }

  -- the row is the last cycle of the one run
  pub playing_last : (p : PlayerOf) → p.model ≡ m → p.stage ≡ Stepped → (c : ChoicesOf) → IsPlaying p c → IsLast m c p.row
  playing_last p at stage c was = by c.inputs refl
    where
      by : (xs : List Row) → c.inputs ≡ xs → IsLast m c p.row
      by [] e = absurd (let z : Begun ≡ Stepped = sym (was.begun e).0 ∙ stage in cc)
      by (x ∷ xs) e =
          let last : suc (length xs) ≡ length c.inputs = sym (ap (λ (ys : List Row). length ys) e) in
          let s = subst (λ (z : ModelOf). (cs : ℕ → Cycle) × Plays z c cs × Agree z (cs (length xs)) (cycle_of p.row)) at (was.stepped (length xs) last).2 in
          record {
            some = (s.0, s.1);
            each = λ cs q t l k h.
                let here : length xs ≡ t = omega arith in
                runs_same m is c cs s.0 q s.1 t (omega arith) k h ∙ subst (λ (i : ℕ). s.0 i k ≡ cycle_of p.row k) here (s.2 k h);
          }
