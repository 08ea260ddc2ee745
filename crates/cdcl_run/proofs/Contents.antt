-- What is got of a file.
use Rattle.std.proofs.Common.{◌≡◌, ℕ, ◌<◌, ◌≤◌, List, length, refl, ap, sym, ◌∙◌, arith}
use Rattle.std.specs.Prelude.{Option, Some, None}
use Rattle.sby_edge.specs.Files.{Store, GotAt, GotFits, GotFrom}
use Rattle.sby_edge.specs.declared.outside.Got.{Got}
use Rattle.sby_edge.specs.declared.outside.Got.TheVariants.{All, Long}
use Rattle.cdcl_run.specs.Run.{IsContent}

abbrev pub AreAll : Got → List ℕ → Type 0
AreAll (All got) bytes = bytes ≡ got.items
AreAll (Long got) bytes = ⊥

abbrev pub IsLong : Got → Type 0
IsLong (All got) = ⊥
IsLong (Long got) = Unit {0}

all_at : (o : Option (List ℕ)) (most : ℕ) (got : Got) (bytes : List ℕ) → AreAll got bytes → GotAt o most got → o ≡ Some bytes
all_at None most got bytes a h = absurd h
all_at (Some b) most (All got) bytes a h = ap Some (sym (a ∙ h.0))
all_at (Some b) most (Long got) bytes a h = absurd a

pub content_all : (told : Option Store) (path : List ℕ) (most : ℕ) (got : Got) (bytes : List ℕ) → AreAll got bytes → GotFrom told path most got → IsContent told path bytes
content_all None path most got bytes a h = tt
content_all (Some store) path most got bytes a h = all_at (store path) most got bytes a h

pub fits_all : (most : ℕ) (got : Got) (bytes : List ℕ) → AreAll got bytes → GotFits most got → length bytes ≤ most
fits_all most (All got) bytes a h = omega (arith, h, ap length a)
fits_all most (Long got) bytes a h = absurd a

long_at : (o : Option (List ℕ)) (most : ℕ) (got : Got) → IsLong got → GotAt o most got → (bytes : List ℕ) × (o ≡ Some bytes) × (most < length bytes)
long_at None most got a h = absurd h
long_at (Some b) most (All got) a h = absurd a
long_at (Some b) most (Long got) a h = (b, refl, h.1)

pub content_long : (told : Option Store) (path : List ℕ) (most : ℕ) (got : Got) → IsLong got → GotFits most got → GotFrom told path most got → (bytes : List ℕ) × IsContent told path bytes × (most < length bytes)
content_long None path most (All got) a f h = absurd a
content_long None path most (Long got) a f h = (got.items, tt, omega (arith, f))
content_long (Some store) path most got a f h = long_at (store path) most got a h
