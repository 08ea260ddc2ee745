-- The parts after one more event.
use Rattle.std.proofs.Common.{◌≡◌, ◌+◌, List, [], ◌∷◌, ◌++◌, refl, arith}
use Rattle.race_core.specs.Parts.{Terms, reader_after, keeper_after, reader_from, keeper_from}
use Rattle.race_law.specs.World.{read_bytes}
use Rattle.race_core.specs.declared.event.LaneEvent.{LaneEvent}
use Rattle.race_core.specs.declared.event.LaneEvent.TheVariants as event
use Rattle.race_core.specs.declared.part.Reader.{Reader}
use Rattle.race_core.specs.declared.part.Keeper.{Keeper}

pub reader_from-append : {T : Type 0} (r : Reader T) (es : List (LaneEvent T)) (e : LaneEvent T) → reader_from r (es ++ e ∷ []) ≡ reader_after e (reader_from r es)
reader_from-append r [] e = refl
reader_from-append r (x ∷ es) e = reader_from-append (reader_after x r) es e

pub keeper_from-append : {T : Type 0} (a : Terms T) (k : Keeper T) (es : List (LaneEvent T)) (e : LaneEvent T) → keeper_from a k (es ++ e ∷ []) ≡ keeper_after a e (keeper_from a k es)
keeper_from-append a k [] e = refl
keeper_from-append a k (x ∷ es) e = keeper_from-append a (keeper_after a x k) es e

pub read_bytes-append : {T : Type 0} (es : List (LaneEvent T)) (e : LaneEvent T) → read_bytes (es ++ e ∷ []) ≡ read_bytes es + read_bytes (e ∷ [])
read_bytes-append [] e = omega arith
read_bytes-append (event.Read n p ∷ es) e = let h = read_bytes-append es e in omega arith
read_bytes-append (x ∷ es) e = read_bytes-append es e
