-- How far an answer is read.
use Rattle.std.specs.Prelude.{◌≡◌, ℕ, ◌+◌, ◌-◌, ◌<◌, ◌^◌, ◌==◌, List, ◌++◌, length, take, Bool, Option, None, Some, IfSome, option_map, if◌then◌else◌}
use Rattle.sby_edge.specs.Child.{PipeOf}
use Rattle.net_link.specs.Frame.{Stage, Sizing, Inside, Over, payload}

-- its stage: whether the answer is over, the bytes of a length that it has and how many these are, and how many bytes of a piece are left
abbrev pub stage_of : Bool → List ℕ → ℕ → ℕ → Stage
stage_of is_over head got left = if is_over then Over else (if left == 0 then Sizing (take got head) else Inside (left - 1))

-- Bytes were read, and the reader went from one stage to another: what it had to give is these bytes, and then what it has to give now.
abbrev pub Goes : Option (List ℕ) → Option (List ℕ) → Stage → Stage → List ℕ → Type 0
Goes None now old new given = now ≡ None
Goes (Some bytes) now old new given = (rest : List ℕ) × (now ≡ Some rest) × (payload old bytes ≡ given ++ payload new rest)

-- what a pipe at this stage tells, by the bytes that are left on its link: the place of its start, where it has one, how many bytes it gave, and
-- those left
abbrev pub piped : Option (List ℕ) → Stage → Option ℕ → ℕ → Option PipeOf
piped left stage None given = None
piped left stage (Some place) given = option_map (λ bytes. record { place = place; given = given; bytes = payload stage bytes; instead = None }) left

-- where there is a place, the link tells
abbrev pub IsPlaced : Option ℕ → Option (List ℕ) → Type 0
IsPlaced None left = Unit {0}
IsPlaced (Some place) None = ⊥
IsPlaced (Some place) (Some bytes) = Unit {0}

-- the bytes given and left are fewer than 2^64, where they are told
abbrev pub IsCounted : Option (List ℕ) → Stage → ℕ → Type 0
IsCounted left stage given = IfSome left (λ bytes. given + length (payload stage bytes) < 2 ^ 64)

-- what a pipe tells; what was written to its link; how many of its reads failed; and the link's count of faults
pub record NetPipeOf : Type 0 where
  pub told : Option PipeOf
  pub written : Option (List ℕ)
  pub faults : ℕ
  pub link_faults : ℕ
