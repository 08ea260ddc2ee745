-- A list and its clone, seen alike.
use Rattle.std.proofs.Common.{◌≡◌, List, [], ◌∷◌, map, refl}
use Rattle.std.specs.List.{AllZip}

-- where f can't tell each element from its clone, it gives one list
pub map-clones : {X Y : Type 0} (f : X → Y) (R : X → X → Type 0) (xs ys : List X) → ((x y : X) → R x y → f y ≡ f x) → AllZip R xs ys → map f ys ≡ map f xs
map-clones f R [] [] same zip = refl
map-clones f R [] (y ∷ ys) same zip = absurd zip
map-clones f R (x ∷ xs) [] same zip = absurd zip
map-clones f R (x ∷ xs) (y ∷ ys) same zip =
    let head : f y ≡ f x = same x y zip.0 in
    let tail : map f ys ≡ map f xs = map-clones f R xs ys same zip.1 in
    cc
