-- What contracts see of the forms in memory.
use Rattle.std.specs.Prelude.{◌≡◌, ◌<◌, length, ℕ, List, Option, map, string_bytes, refl}
use Rattle.std.specs.Ordering.{nat_cmp}
use Rattle.std.specs.Coded.{Coded, code_by, coded×, coded_ℕ, coded_list, coded_option}
use Rattle.std.specs.Cmp.Lexicographic.{slice_cmp}
use Rattle.std.specs.BTreeMap.{BTreeMap}
use Rattle.std.specs.FinMap as finite
use Rattle.std.specs.declared.string.String.{String}
use Rattle.std.specs.declared.vec.Vec.{Vec}
use Rattle.sby_edge.specs.Calls.{CallsOf}
use Rattle.sby_edge.specs.Files.{Store}

-- the content of each path
abbrev pub ContentsOf : Type 0
ContentsOf = finite.FinMap (slice_cmp nat_cmp) (List ℕ)

-- a store in memory: the content of each path, its calls, and the path at which one last failed, where it is kept
pub record FilesOf : Type 0 where
  pub contents : ContentsOf
  pub calls : CallsOf
  pub blamed : Option (List ℕ)

abbrev pub calls_code : Coded CallsOf
calls_code =
    code_by (List ℕ × (ℕ × ℕ)) (coded× (coded_list coded_ℕ) (coded× coded_ℕ coded_ℕ)) (λ c. (c.failing, (c.made, c.faults))) (λ p. record { failing = p.0; made = p.1.0; faults = p.1.1 }) (λ _. refl)

abbrev pub contents_code : Coded ContentsOf
contents_code = finite.code (coded_list coded_ℕ) (coded_list coded_ℕ)

abbrev pub files_code : Coded FilesOf
files_code =
    code_by (ContentsOf × (CallsOf × Option (List ℕ))) (coded× contents_code (coded× calls_code (coded_option (coded_list coded_ℕ)))) (λ f. (f.contents, (f.calls, f.blamed)))
    (λ p. record { contents = p.0; calls = p.1.0; blamed = p.1.1 }) (λ _. refl)

-- the contents of a map of texts to bytes
abbrev pub contents_of : {X Y : Type 0} → BTreeMap (String X) (Vec ℕ Y) → ContentsOf
contents_of m = finite.from_entries (map (λ e. (string_bytes e.0, e.1.items)) m.entries)

-- a sink in memory: the bytes taken, how many more it has room for, its calls, and how many bytes it had taken when one last failed
pub record SinkOf : Type 0 where
  pub taken : List ℕ
  pub room : ℕ
  pub calls : CallsOf
  pub ended : Option ℕ

-- no room is left for a piece that isn't empty
abbrev pub IsFull : ℕ → List ℕ → Type 0
IsFull room piece = (room ≡ 0) × (0 < length piece)

-- the store that contents are
abbrev pub store_of : ContentsOf → Store
store_of contents = λ path. finite.get contents path
