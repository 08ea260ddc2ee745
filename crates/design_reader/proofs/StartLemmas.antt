-- Start digits.
use Rattle.std.proofs.Common.{ℕ, ◌<◌, ◌≤◌, Bool, Option, List, [], ◌∷◌, length, take, map, All, arith}
use Rattle.std.specs.Prelude.{reverse, unwrap_or}
use Rattle.std.proofs.lemmas.List.{length-map, length-take}
use Rattle.std.proofs.lemmas.List.Elements.{All-nil, All-cons}
use Rattle.design_core.specs.Shape.{IsWire}
use Rattle.rtlil_constant.specs.Constants.{Word}
use Rattle.design_reader.specs.Parts.{AttributesOf}
use Rattle.design_reader.specs.Grammar.{new_wire, start_digit, start_digits}
use Rattle.design_reader.specs.declared.spot.WireOptions.{WireOptions}

start_short : (width : ℕ) (digits : List ℕ) → length (start_digits width digits) ≤ width
start_short width digits = omega (arith, length-map (take width (reverse digits)) start_digit, length-take width (reverse digits))

starts_short : (width : ℕ) (inits : List (List ℕ)) → All (λ (digits : List (Option Bool)). length digits ≤ width) (map (λ (digits : List ℕ). start_digits width digits) inits)
starts_short width [] = All-nil (λ (digits : List (Option Bool)). length digits ≤ width)
starts_short width (digits ∷ inits) =
    All-cons (λ (x : List (Option Bool)). length x ≤ width) (start_digits width digits) (map (λ (x : List ℕ). start_digits width x) inits) (start_short width digits) (starts_short width inits)

pub new_wire_is : (name : Word) (a : AttributesOf) (o : WireOptions) → 0 < unwrap_or o.width 1 → IsWire (new_wire name a o)
new_wire_is name a o h = (h, starts_short (unwrap_or o.width 1) a.inits)
