-- A lane's bay with its seat under an allowance.
use Rattle.std.specs.Prelude.{◌≡◌, Bool, true, false, Option, IfSome}
use Rattle.jobs_pool.specs.Places.{PoolOf}

-- a bay; the pool of its places, where there is an allowance; whether a place is held; and whether a child was started and not finished
pub record BerthOf (L : Type 0) : Type 0 where
  pub bay : L
  pub pool : Option PoolOf
  pub holds : Bool
  pub stands : Bool

-- no place is held, and no child stands
abbrev pub IsIdle : {L : Type 0} → BerthOf L → Type 0
IsIdle b = (b.holds ≡ false) × (b.stands ≡ false)

-- a child may be started: none stands, and, where there is an allowance, a place is held
abbrev pub MayStart : {L : Type 0} → BerthOf L → Type 0
MayStart b = IfSome b.pool (λ _. b.holds ≡ true) × (b.stands ≡ false)

-- no place is held and no child stands, under the allowance of this pool, or none
abbrev pub IsFree : {L : Type 0} → Option PoolOf → BerthOf L → Type 0
IsFree pool b = (b.pool ≡ pool) × IsIdle b
