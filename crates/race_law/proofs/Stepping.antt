-- Every step of a world keeps what is kept.
use Rattle.std.proofs.Common.{◌≡◌, ◌⊎◌, ℕ, ◌+◌, [], ◌∷◌, ◌++◌, Option, Some, None, sym, ◌∙◌, subst, arith}
use Rattle.race_core.specs.Report.{EventsOf}
use Rattle.race_core.specs.Parts.{Terms, reader_after, keeper_after, reader_from, keeper_from, reader_of, keeper_of, after_read, after_file, after_settle, RightReader, RightKeeper}
use Rattle.race_core.specs.Ends.{IsKilled}
use Rattle.race_law.specs.World.{Script, Meets, with_event, IsScript, IsQuiet, ends_job, read_bytes}
use Rattle.race_law.specs.Invariant.{FromScript, KeeperOk, LooksOk, WonOk, SeatInv}
use Rattle.race_core.specs.declared.event.LaneEvent.{LaneEvent}
use Rattle.race_core.specs.declared.event.LaneEvent.TheVariants as event
use Rattle.race_core.specs.declared.part.Reader.{Reader}
use Rattle.race_core.specs.declared.part.Reader.TheVariants as reader
use Rattle.race_core.specs.declared.part.Keeper.TheVariants as keeper
use Rattle.race_law.proofs.Lists.{reader_from-append, keeper_from-append, read_bytes-append}
use Rattle.race_law.proofs.Seats.{read-step, file-step, kill-step}
use Rattle.race_law.proofs.Keeping.{Grows, LookMeets, keeper-grows, looks-grow, won-grows, looks-append, keeper-step, killed-stays, read-won, file-won, want-won, settle-won, want-script, settle-script, meets-grows}

module _ {T : Type 0} (P : T → Type 0) (Q : Type 0) (script : Option (Script T)) (a : Terms T) (j : ℕ) (good : (s : Script T) → script ≡ Some s → IsScript P s) where
  pub seat-grows : (es : EventsOf T) (before after : ℕ → Option T) → Grows before after → SeatInv P Q script a j es before → SeatInv P Q script a j es after
  seat-grows es before after h o = record {
    from = o.from;
    keeper = keeper-grows (ends_job a) before after Q h (keeper_of a es) o.keeper;
    looks = looks-grow before after h es.keeper o.looks;
    won = won-grows before after h j (reader_of es) o.won;
    right_reader = o.right_reader;
    right_keeper = o.right_keeper;
  }

  -- one more event of the reader, by what it makes of the reader's part
  reader-seat : (es : EventsOf T) (e : LaneEvent T) (before after : ℕ → Option T) → Grows before after → SeatInv P Q script a j es before
      → FromScript P script (read_bytes es.reader + read_bytes (e ∷ [])) (IsKilled (keeper_of a es)) (reader_after e (reader_of es))
      → WonOk after j (reader_after e (reader_of es)) → RightReader (reader_from reader.Fresh (es.reader ++ e ∷ []))
      → SeatInv P Q script a j (record es { reader = es.reader ++ e ∷ [] }) after
  reader-seat es e before after h o f w right = record {
    from = subst (λ n. FromScript P script n (IsKilled (keeper_of a es)) (reader_from reader.Fresh (es.reader ++ e ∷ []))) (sym (read_bytes-append es.reader e))
        (subst (λ r. FromScript P script (read_bytes es.reader + read_bytes (e ∷ [])) (IsKilled (keeper_of a es)) r) (sym (reader_from-append reader.Fresh es.reader e)) f);
    keeper = keeper-grows (ends_job a) before after Q h (keeper_of a es) o.keeper;
    looks = looks-grow before after h es.keeper o.looks;
    won = subst (λ r. WonOk after j r) (sym (reader_from-append reader.Fresh es.reader e)) w;
    right_reader = right;
    right_keeper = o.right_keeper;
  }

  same-bytes : (n m : ℕ) (K : Type 0) (r : Reader T) → n ≡ m → FromScript P script n K r → FromScript P script m K r
  same-bytes n m K r e f = subst (λ x. FromScript P script x K r) e f

  -- one more event of the keeper
  keeper-seat : (es : EventsOf T) (e : LaneEvent T) (before after : ℕ → Option T) → Grows before after → SeatInv P Q script a j es before
      → LookMeets before e → LooksOk after (e ∷ []) → IsQuiet a e ⊎ Q → RightKeeper (keeper_from a keeper.Fresh (es.keeper ++ e ∷ []))
      → SeatInv P Q script a j (record es { keeper = es.keeper ++ e ∷ [] }) after
  keeper-seat es e before after h o m l q right =
      let right_after : RightKeeper (keeper_after a e (keeper_of a es)) = subst (λ k. RightKeeper k) (keeper_from-append a keeper.Fresh es.keeper e) right in
      record {
        from = kill-step P script (read_bytes es.reader) (IsKilled (keeper_of a es)) (IsKilled (keeper_from a keeper.Fresh (es.keeper ++ e ∷ [])))
            (λ killed. subst (λ k. IsKilled k) (sym (keeper_from-append a keeper.Fresh es.keeper e)) (killed-stays a e (keeper_of a es) right_after killed)) (reader_of es) o.from;
        keeper = keeper-grows (ends_job a) before after Q h (keeper_from a keeper.Fresh (es.keeper ++ e ∷ []))
            (subst (λ k. KeeperOk (ends_job a) before Q k) (sym (keeper_from-append a keeper.Fresh es.keeper e)) (keeper-step a before Q e (keeper_of a es) o.keeper m q));
        looks = looks-append after es.keeper e (looks-grow before after h es.keeper o.looks) l;
        won = won-grows before after h j (reader_of es) o.won;
        right_reader = o.right_reader;
        right_keeper = right;
      }

  look-stands : (c : ℕ) (known : Option T) (cells : ℕ → Option T) → known ≡ cells c → LooksOk cells (event.Look c known ∷ [])
  look-stands c None cells m = tt
  look-stands c (Some f) cells m = (sym m, tt)

  pub seat-step : (es : EventsOf T) (e : LaneEvent T) (before after : ℕ → Option T) → SeatInv P Q script a j es before
      → Meets script j es (keeper_of a es) e before after → IsQuiet a e ⊎ Q
      → RightReader (reader_of (with_event e es)) → RightKeeper (keeper_of a (with_event e es))
      → SeatInv P Q script a j (with_event e es) after
  seat-step es (event.Read n p) before after o m q rr rk =
      reader-seat es (event.Read n p) before after (meets-grows script j es (keeper_of a es) (event.Read n p) before after m) o
      (same-bytes (read_bytes es.reader + n) (read_bytes es.reader + (n + 0)) (IsKilled (keeper_of a es)) (after_read n p (reader_of es)) (omega arith)
      (read-step P script good (read_bytes es.reader) (keeper_of a es) n p (reader_of es) o.from m.0 (subst (λ r. RightReader r) (reader_from-append reader.Fresh es.reader (event.Read n p)) rr)))
      (read-won after j n p (reader_of es)) rr
  seat-step es (event.File n p) before after o m q rr rk =
      reader-seat es (event.File n p) before after (meets-grows script j es (keeper_of a es) (event.File n p) before after m) o
      (same-bytes (read_bytes es.reader) (read_bytes es.reader + 0) (IsKilled (keeper_of a es)) (after_file p (reader_of es)) (omega arith)
      (file-step P script good (read_bytes es.reader) (keeper_of a es) p (reader_of es) o.from m.0 (subst (λ r. RightReader r) (reader_from-append reader.Fresh es.reader (event.File n p)) rr)))
      (file-won after j p (reader_of es)) rr
  seat-step es (event.Settle won) before after o m q rr rk =
      reader-seat es (event.Settle won) before after (meets-grows script j es (keeper_of a es) (event.Settle won) before after m) o
      (same-bytes (read_bytes es.reader) (read_bytes es.reader + 0) (IsKilled (keeper_of a es)) (after_settle won (reader_of es)) (omega arith)
      (settle-script P script (read_bytes es.reader) (IsKilled (keeper_of a es)) won (reader_of es) o.from))
      (settle-won before after j won (reader_of es) m) rr
  seat-step es event.ReaderMemory before after o m q rr rk =
      reader-seat es event.ReaderMemory before after (meets-grows script j es (keeper_of a es) event.ReaderMemory before after m) o
      (want-script P script (read_bytes es.reader + 0) (IsKilled (keeper_of a es)) (reader_of es)) (want-won after j (reader_of es)) rr
  seat-step es (event.Look c known) before after o m q rr rk =
      keeper-seat es (event.Look c known) before after (meets-grows script j es (keeper_of a es) (event.Look c known) before after m) o m.0
      (look-stands c known after (m.0 ∙ sym (m.1 c))) q rk
  seat-step es e before after o m q rr rk = keeper-seat es e before after (meets-grows script j es (keeper_of a es) e before after m) o tt tt q rk
