-- A store of files: what each path has.
use Rattle.std.specs.Prelude.{◌≡◌, ℕ, ◌+◌, ◌<◌, ◌≤◌, List, length, take, drop, Option, Some, None, IfSome, Result, IsOk, IsErrOf, if◌then◌else◌}
use Rattle.std.specs.Str.{bytes_eq}
use Rattle.sby_edge.specs.declared.outside.Fail.{Fail}
use Rattle.sby_edge.specs.declared.outside.Fail.TheVariants.{Failed as FailFailed, Memory as FailMemory}
use Rattle.sby_edge.specs.declared.outside.Got.{Got}
use Rattle.sby_edge.specs.declared.outside.Got.TheVariants.{All, Long}

-- the content of each path that has one
abbrev pub Store : Type 0
Store = List ℕ → Option (List ℕ)

-- the store with this content at this path, and at every other path as it was
abbrev pub put_at : List ℕ → List ℕ → Store → Store
put_at path bytes store = λ other. if bytes_eq path other then Some bytes else store other

-- all of a content, or its first `most + 1` bytes exactly where it is longer than `most`
abbrev pub GotOf : List ℕ → ℕ → Got → Type 0
GotOf bytes most (All got) = (got.items ≡ bytes) × (length bytes ≤ most)
GotOf bytes most (Long got) = (got.items ≡ take (most + 1) bytes) × (most < length bytes)

-- what is got of a path; where it has nothing, nothing is
abbrev pub GotAt : Option (List ℕ) → ℕ → Got → Type 0
GotAt None most got = ⊥
GotAt (Some bytes) most got = GotOf bytes most got

-- what is got of a store, where it is told
abbrev pub GotFrom : Option Store → List ℕ → ℕ → Got → Type 0
GotFrom None path most got = Unit {0}
GotFrom (Some store) path most got = GotAt (store path) most got

-- the lengths, told or not
abbrev pub GotFits : ℕ → Got → Type 0
GotFits most (All got) = length got.items ≤ most
GotFits most (Long got) = length got.items ≡ most + 1

-- a piece of a content: its bytes from a place on, at most this many
abbrev pub PieceOf : List ℕ → ℕ → ℕ → List ℕ → Type 0
PieceOf bytes from most piece = piece ≡ take most (drop from bytes)

-- a piece of what a path has; where it has nothing, there is none
abbrev pub PieceAt : Option (List ℕ) → ℕ → ℕ → List ℕ → Type 0
PieceAt None from most piece = ⊥
PieceAt (Some bytes) from most piece = PieceOf bytes from most piece

-- a piece of what a store has, where it is told
abbrev pub PieceFrom : Option Store → List ℕ → ℕ → ℕ → List ℕ → Type 0
PieceFrom None path from most piece = Unit {0}
PieceFrom (Some store) path from most piece = PieceAt (store path) from most piece

-- The path at which a call last failed, where it is told: this one, if this call failed; else the one before.
pub record Blames {T : Type 0} (before now : Option (List ℕ)) (path : List ℕ) (result : Result T Fail) : Type 0 where
  pub failed : IsErrOf result FailFailed → IfSome now (λ blamed. blamed ≡ path)
  pub ok : IsOk result → now ≡ before
  pub memory : IsErrOf result FailMemory → now ≡ before
