-- What a draft keeps of its model.
use Rattle.std.specs.Prelude.{◌≡◌, ℕ, ◌<◌, ◌≤◌, ◌-◌, ◌^◌, List, length, slice_index}
use Rattle.btor_core.specs.Shape.{BtorOf}
use Rattle.btor_core.specs.Growth.{IsNumbered, sort_nid}

-- lines are numbered without a gap, and the table has each width's sort, 0 where there is none
pub record IsKept (m : BtorOf) (sorts : List ℕ) : Type 0 where
  pub numbered : IsNumbered m.lines
  pub limit : length m.lines < 2 ^ 32 - 1
  pub table : length sorts ≡ 4097
  pub entries : (w : ℕ) → 1 ≤ w → w ≤ 4096 → slice_index sorts w ≡ sort_nid m.lines w
