-- Bounds on groups.
use Rattle.std.proofs.Common.{ℕ, ◌*◌, ◌<◌, ◌≤◌, arith}
use Rattle.std.proofs.lemmas.Nat.{mul-le}

pub group_bound : (seven weight : ℕ) → seven < 128 → weight ≤ 268435456 → seven * weight ≤ 34091302912
group_bound seven weight h k = let e : seven ≤ 127 = omega (arith, h) in mul-le seven weight 127 268435456 e k
