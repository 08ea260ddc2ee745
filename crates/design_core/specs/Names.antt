-- The names of ports and of parameters as they stand in a text, without the backslash.
use Rattle.std.specs.Prelude.{ℕ, List, codes}
use Rattle.design_core.specs.declared.names.PortName.{PortName}
use Rattle.design_core.specs.declared.names.PortName.TheVariants.{A, B, S, En, Y, Clk, D, Q, Srst, Arst}
use Rattle.design_core.specs.declared.names.ParameterName.{ParameterName}
use Rattle.design_core.specs.declared.names.ParameterName.TheVariants.{ASigned, AWidth, BSigned, BWidth, YWidth, Width, SWidth, Offset, ClkPolarity, EnPolarity, SrstPolarity, SrstValue, ArstPolarity, ArstValue}

abbrev pub port_text : PortName → List ℕ
port_text A = codes "A"
port_text B = codes "B"
port_text S = codes "S"
port_text En = codes "EN"
port_text Y = codes "Y"
port_text Clk = codes "CLK"
port_text D = codes "D"
port_text Q = codes "Q"
port_text Srst = codes "SRST"
port_text Arst = codes "ARST"

abbrev pub parameter_text : ParameterName → List ℕ
parameter_text ASigned = codes "A_SIGNED"
parameter_text AWidth = codes "A_WIDTH"
parameter_text BSigned = codes "B_SIGNED"
parameter_text BWidth = codes "B_WIDTH"
parameter_text YWidth = codes "Y_WIDTH"
parameter_text Width = codes "WIDTH"
parameter_text SWidth = codes "S_WIDTH"
parameter_text Offset = codes "OFFSET"
parameter_text ClkPolarity = codes "CLK_POLARITY"
parameter_text EnPolarity = codes "EN_POLARITY"
parameter_text SrstPolarity = codes "SRST_POLARITY"
parameter_text SrstValue = codes "SRST_VALUE"
parameter_text ArstPolarity = codes "ARST_POLARITY"
parameter_text ArstValue = codes "ARST_VALUE"
