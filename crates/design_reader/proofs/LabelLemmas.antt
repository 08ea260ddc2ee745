-- The names that the table of cells knows.
use Rattle.std.proofs.Common.{◌≡◌, ◌≢◌, true, false, List, [], ◌∷◌, Option, Some, None, bytes_eq, refl, sym, subst}
use Rattle.std.specs.Prelude.{IfSome, IfNone}
use Rattle.std.specs.List.{find}
use Rattle.std.proofs.lemmas.Slice.Eq.{bytes_eq-Decides}
use Rattle.rtlil_constant.specs.Constants.{Word}
use Rattle.design_core.specs.Names.{parameter_text, port_text}
use Rattle.design_core.specs.declared.names.PortName.{PortName}
use Rattle.design_core.specs.declared.names.PortName.TheVariants.{A, B, S, En, Y, Clk, D, Q, Srst, Arst}
use Rattle.design_core.specs.declared.names.ParameterName.{ParameterName}
use Rattle.design_core.specs.declared.names.ParameterName.TheVariants.{ASigned, AWidth, BSigned, BWidth, YWidth, Width, SWidth, Offset, ClkPolarity, EnPolarity, SrstPolarity, SrstValue, ArstPolarity, ArstValue}
use Rattle.design_reader.specs.Labels.{known_parameter, known_port, parameter_names, port_names}

other : (w name : Word) → w ≢ name → bytes_eq w name ≡ false
other w name h =
    elim (bytes_eq w name) as (λ v. bytes_eq w name ≡ v → v ≡ false) [
      | true ↦ λ e. absurd (h ((bytes_eq-Decides w name).0 e))
      | false ↦ λ e. refl
    ] refl

-- no item has this text
find_no : {X : Type 0} (text : X → Word) (xs : List X) (name : Word) → ((x : X) → text x ≢ name) → find (λ x. bytes_eq (text x) name) xs ≡ None
find_no text [] name h = refl
find_no text (x ∷ xs) name h = rw (other (text x) name (h x)) (find_no text xs name h)

port_at : (p : PortName) → known_port (port_text p) ≡ Some p
port_at A = refl
port_at B = refl
port_at S = refl
port_at En = refl
port_at Y = refl
port_at Clk = refl
port_at D = refl
port_at Q = refl
port_at Srst = refl
port_at Arst = refl

parameter_at : (p : ParameterName) → known_parameter (parameter_text p) ≡ Some p
parameter_at ASigned = refl
parameter_at AWidth = refl
parameter_at BSigned = refl
parameter_at BWidth = refl
parameter_at YWidth = refl
parameter_at Width = refl
parameter_at SWidth = refl
parameter_at Offset = refl
parameter_at ClkPolarity = refl
parameter_at EnPolarity = refl
parameter_at SrstPolarity = refl
parameter_at SrstValue = refl
parameter_at ArstPolarity = refl
parameter_at ArstValue = refl

pub port_is : (found : Option PortName) (name : Word) → IfSome found (λ p. port_text p ≡ name) → IfNone found ((p : PortName) → port_text p ≢ name) → found ≡ known_port name
port_is (Some p) name here none = subst (λ (w : Word). Some p ≡ known_port w) here (sym (port_at p))
port_is None name here none = sym (find_no port_text port_names name none)

pub parameter_is : (found : Option ParameterName) (name : Word) → IfSome found (λ p. parameter_text p ≡ name) → IfNone found ((p : ParameterName) → parameter_text p ≢ name) → found ≡ known_parameter name
parameter_is (Some p) name here none = subst (λ (w : Word). Some p ≡ known_parameter w) here (sym (parameter_at p))
parameter_is None name here none = sym (find_no parameter_text parameter_names name none)
