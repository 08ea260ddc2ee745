-- The names of ports and of parameters in a text.
use Rattle.std.specs.Prelude.{◌&&◌, not, List, [], ◌∷◌, slice_index, Option, bytes_eq}
use Rattle.std.specs.List.{find}
use Rattle.rtlil_lex.specs.Tokens.{begins_name, is_backslash}
use Rattle.rtlil_constant.specs.Constants.{Word}
use Rattle.design_core.specs.Names.{parameter_text, port_text}
use Rattle.design_core.specs.declared.names.PortName.{PortName}
use Rattle.design_core.specs.declared.names.PortName.TheVariants.{A, B, S, En, Y, Clk, D, Q, Srst, Arst}
use Rattle.design_core.specs.declared.names.ParameterName.{ParameterName}
use Rattle.design_core.specs.declared.names.ParameterName.TheVariants.{ASigned, AWidth, BSigned, BWidth, YWidth, Width, SWidth, Offset, ClkPolarity, EnPolarity, SrstPolarity, SrstValue, ArstPolarity, ArstValue}
use Rattle.std.specs.Prelude.{cond}

-- A port's or parameter's name in the design: without the first `\`, unless `\` or `$` stands after it, so that different
-- identifiers stay different.
abbrev pub bare : Word → Word
bare [] = []
bare (b ∷ name) = cond (is_backslash b && not (begins_name (slice_index name 0))) name (b ∷ name)

-- the ports and the parameters that some line of the table of cells names
abbrev pub port_names : List PortName
port_names = A ∷ B ∷ S ∷ En ∷ Y ∷ Clk ∷ D ∷ Q ∷ Srst ∷ Arst ∷ []

abbrev pub parameter_names : List ParameterName
parameter_names =
    ASigned ∷ AWidth ∷ BSigned ∷ BWidth ∷ YWidth ∷ Width ∷ SWidth ∷ Offset ∷ ClkPolarity ∷ EnPolarity ∷ SrstPolarity ∷ SrstValue ∷ ArstPolarity ∷ ArstValue ∷ []

-- the one of this name
abbrev pub known_port : Word → Option PortName
known_port name = find (λ p. bytes_eq (port_text p) name) port_names

abbrev pub known_parameter : Word → Option ParameterName
known_parameter name = find (λ p. bytes_eq (parameter_text p) name) parameter_names
