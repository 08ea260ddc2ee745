-- Sharing an entry changes no part.
use Rattle.std.proofs.Common.{◌≡◌, ℕ, zero, suc, ◌+◌, ◌<◌, Bool, true, false, cond, nat_lt, ◌&&◌, List, [], ◌∷◌, Some, None, refl, arith}
use Rattle.std.specs.Prelude.{Option}
use Rattle.race_core.specs.Sharing.{entries, fits, read_more, share_read, share_turns, shared, with_event}
use Rattle.race_core.specs.Parts.{Terms, by_of, turns, reader_after, reader_from, keeper_after, keeper_from, place_after, place_from}
use Rattle.race_core.specs.declared.event.Judged.TheVariants as progress
use Rattle.race_core.specs.declared.event.LaneEvent.{LaneEvent}
use Rattle.race_core.specs.declared.event.LaneEvent.TheVariants as event
use Rattle.race_core.specs.declared.part.By.TheVariants as by
use Rattle.race_core.specs.declared.part.Reader.{Reader}
use Rattle.race_core.specs.declared.part.Reader.TheVariants as reader
use Rattle.race_core.specs.declared.part.Keeper.{Keeper}
use Rattle.race_core.specs.declared.part.Keeper.TheVariants as keeper
use Rattle.race_core.specs.declared.part.Place.{Place}
use borrow.Author.Tests.{ltb-true}

-- which entry two events share, if they do: reads judged More, or turns
data Shares {T : Type 0} : LaneEvent T → LaneEvent T → Option (LaneEvent T) → Type 0 where
  apart : (x e : LaneEvent T) → Shares x e None
  reads : (m n : ℕ) → Shares (read_more m) (read_more n) (share_read m n)
  turned : (m n : ℕ) → Shares (event.Turns m) (event.Turns n) (share_turns m n)

shares : {T : Type 0} (x e : LaneEvent T) → Shares x e (shared x e)
shares (event.Read m progress.More) (event.Read n progress.More) = reads m n
shares (event.Read m progress.More) (event.Read n (progress.Found v)) = apart _ _
shares (event.Read m progress.More) (event.Read n progress.Unknown) = apart _ _
shares (event.Read m progress.More) (event.Read n (progress.Bad number at)) = apart _ _
shares (event.Read m progress.More) (event.Read n progress.Failed) = apart _ _
shares (event.Read m progress.More) (event.Read n progress.Unjudged) = apart _ _
shares (event.Read m progress.More) (event.File n p) = apart _ _
shares (event.Read m progress.More) (event.Settle w) = apart _ _
shares (event.Read m progress.More) event.ReaderMemory = apart _ _
shares (event.Read m progress.More) (event.Turns n) = apart _ _
shares (event.Read m progress.More) (event.Poll p) = apart _ _
shares (event.Read m progress.More) (event.Clock t) = apart _ _
shares (event.Read m progress.More) (event.Look c s) = apart _ _
shares (event.Read m progress.More) event.Kill = apart _ _
shares (event.Read m progress.More) event.KeeperMemory = apart _ _
shares (event.Read m progress.More) event.Took = apart _ _
shares (event.Read m progress.More) event.Start = apart _ _
shares (event.Read m progress.More) event.Finish = apart _ _
shares (event.Read m progress.More) event.Gave = apart _ _
shares (event.Read m (progress.Found v)) e = apart _ _
shares (event.Read m progress.Unknown) e = apart _ _
shares (event.Read m (progress.Bad number at)) e = apart _ _
shares (event.Read m progress.Failed) e = apart _ _
shares (event.Read m progress.Unjudged) e = apart _ _
shares (event.File n p) e = apart _ _
shares (event.Settle w) e = apart _ _
shares event.ReaderMemory e = apart _ _
shares (event.Turns m) (event.Read n p) = apart _ _
shares (event.Turns m) (event.File n p) = apart _ _
shares (event.Turns m) (event.Settle w) = apart _ _
shares (event.Turns m) event.ReaderMemory = apart _ _
shares (event.Turns m) (event.Turns n) = turned m n
shares (event.Turns m) (event.Poll p) = apart _ _
shares (event.Turns m) (event.Clock t) = apart _ _
shares (event.Turns m) (event.Look c s) = apart _ _
shares (event.Turns m) event.Kill = apart _ _
shares (event.Turns m) event.KeeperMemory = apart _ _
shares (event.Turns m) event.Took = apart _ _
shares (event.Turns m) event.Start = apart _ _
shares (event.Turns m) event.Finish = apart _ _
shares (event.Turns m) event.Gave = apart _ _
shares (event.Poll p) e = apart _ _
shares (event.Clock t) e = apart _ _
shares (event.Look c s) e = apart _ _
shares event.Kill e = apart _ _
shares event.KeeperMemory e = apart _ _
shares event.Took e = apart _ _
shares event.Start e = apart _ _
shares event.Finish e = apart _ _
shares event.Gave e = apart _ _

-- some bytes are no close
by_some : (n : ℕ) → 0 < n → by_of n ≡ by.Bytes
by_some zero h = absurd (omega arith)
by_some (suc n) h = refl

-- two reads of some bytes, both judged More, are as one of all of them
reads_as_one : {T : Type 0} (m n : ℕ) (r : Reader T) → 0 < m → 0 < n → reader_after (read_more (m + n)) r ≡ reader_after (read_more n) (reader_after (read_more m) r)
reads_as_one {T} m n reader.Fresh h k = rw (by_some (m + n) (omega arith), by_some m h, by_some n k) refl
reads_as_one {T} m n reader.Reading h k = rw (by_some (m + n) (omega arith), by_some m h, by_some n k) refl
reads_as_one m n reader.Asking h k = refl
reads_as_one m n reader.Unjudged h k = refl
reads_as_one m n (reader.Holding v b) h k = refl
reads_as_one m n (reader.Found v b w) h k = refl
reads_as_one m n (reader.Unknown b) h k = refl
reads_as_one m n (reader.Bad number at b) h k = refl
reads_as_one m n reader.Failed h k = refl
reads_as_one m n reader.Short h k = refl
reads_as_one m n reader.Wrong h k = refl

reads_share : {T : Type 0} (m n : ℕ) (r : Reader T) (a b c : Bool) → (a ≡ true → 0 < m) → (b ≡ true → 0 < n)
    → reader_from r (entries (read_more m) (read_more n) (cond ((a && b) && c) (Some (read_more (m + n))) None)) ≡ reader_after (read_more n) (reader_after (read_more m) r)
reads_share m n r true true true h k = reads_as_one m n r (h refl) (k refl)
reads_share m n r true true false h k = refl
reads_share m n r true false c h k = refl
reads_share m n r false b c h k = refl

turns_share_reader : {T : Type 0} (m n : ℕ) (r : Reader T) (c : Bool)
    → reader_from r (entries (event.Turns m) (event.Turns n) (cond c (Some (event.Turns (m + n))) None)) ≡ reader_after (event.Turns n) (reader_after (event.Turns m) r)
turns_share_reader m n r true = refl
turns_share_reader m n r false = refl

share_reader : {T : Type 0} (r : Reader T) {x e : LaneEvent T} {both : Option (LaneEvent T)} → Shares x e both → reader_from r (entries x e both) ≡ reader_after e (reader_after x r)
share_reader r (apart x e) = refl
share_reader r (reads m n) = reads_share m n r (nat_lt 0 m) (nat_lt 0 n) (fits (m + n)) (λ t. ltb-true 0 m t) (λ t. ltb-true 0 n t)
share_reader r (turned m n) = turns_share_reader m n r (fits (m + n))

-- the reader's part after a list with one more event
pub reader_with : {T : Type 0} (r : Reader T) (e : LaneEvent T) (es : List (LaneEvent T)) → reader_from r (with_event e es) ≡ reader_after e (reader_from r es)
reader_with r e [] = refl
reader_with r e (x ∷ []) = share_reader r (shares x e)
reader_with r e (x ∷ y ∷ es) = reader_with (reader_after x r) e (y ∷ es)

-- a turn more is as one
turns_as_one : {T : Type 0} (k : Keeper T) → turns k ≡ turns (turns k)
turns_as_one keeper.Fresh = refl
turns_as_one keeper.Looked = refl
turns_as_one keeper.Turning = refl
turns_as_one (keeper.Due w) = refl
turns_as_one (keeper.Killed w) = refl
turns_as_one keeper.Wrong = refl

reads_share_keeper : {T : Type 0} (a : Terms T) (m n : ℕ) (k : Keeper T) (c : Bool)
    → keeper_from a k (entries (read_more m) (read_more n) (cond c (Some (read_more (m + n))) None)) ≡ keeper_after a (read_more n) (keeper_after a (read_more m) k)
reads_share_keeper a m n k true = refl
reads_share_keeper a m n k false = refl

turns_share : {T : Type 0} (a : Terms T) (m n : ℕ) (k : Keeper T) (c : Bool)
    → keeper_from a k (entries (event.Turns m) (event.Turns n) (cond c (Some (event.Turns (m + n))) None)) ≡ keeper_after a (event.Turns n) (keeper_after a (event.Turns m) k)
turns_share a m n k true = turns_as_one k
turns_share a m n k false = refl

share_keeper : {T : Type 0} (a : Terms T) (k : Keeper T) {x e : LaneEvent T} {both : Option (LaneEvent T)} → Shares x e both → keeper_from a k (entries x e both) ≡ keeper_after a e (keeper_after a x k)
share_keeper a k (apart x e) = refl
share_keeper a k (reads m n) = reads_share_keeper a m n k ((nat_lt 0 m && nat_lt 0 n) && fits (m + n))
share_keeper a k (turned m n) = turns_share a m n k (fits (m + n))

-- the keeper's part after a list with one more event
pub keeper_with : {T : Type 0} (a : Terms T) (k : Keeper T) (e : LaneEvent T) (es : List (LaneEvent T)) → keeper_from a k (with_event e es) ≡ keeper_after a e (keeper_from a k es)
keeper_with a k e [] = refl
keeper_with a k e (x ∷ []) = share_keeper a k (shares x e)
keeper_with a k e (x ∷ y ∷ es) = keeper_with a (keeper_after a x k) e (y ∷ es)

reads_share_place : (T : Type 0) (m n : ℕ) (p : Place) (c : Bool)
    → place_from {T = T} p (entries (read_more m) (read_more n) (cond c (Some (read_more (m + n))) None)) ≡ p
reads_share_place T m n p true = refl
reads_share_place T m n p false = refl

turns_share_place : (T : Type 0) (m n : ℕ) (p : Place) (c : Bool)
    → place_from {T = T} p (entries (event.Turns m) (event.Turns n) (cond c (Some (event.Turns (m + n))) None)) ≡ p
turns_share_place T m n p true = refl
turns_share_place T m n p false = refl

share_place : {T : Type 0} (p : Place) {x e : LaneEvent T} {both : Option (LaneEvent T)} → Shares x e both → place_from p (entries x e both) ≡ place_after e (place_after x p)
share_place p (apart x e) = refl
share_place p (reads m n) = reads_share_place _ m n p ((nat_lt 0 m && nat_lt 0 n) && fits (m + n))
share_place p (turned m n) = turns_share_place _ m n p (fits (m + n))

-- the place after a list with one more event
pub place_with : {T : Type 0} (p : Place) (e : LaneEvent T) (es : List (LaneEvent T)) → place_from p (with_event e es) ≡ place_after e (place_from p es)
place_with p e [] = refl
place_with p e (x ∷ []) = share_place p (shares x e)
place_with p e (x ∷ y ∷ es) = place_with (place_after x p) e (y ∷ es)
