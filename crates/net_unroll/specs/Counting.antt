-- How many variables an encoding can take, by counting alone.
use Rattle.std.specs.Prelude.{ℕ, ◌+◌, ◌*◌, length}
use Rattle.bit_net.specs.Net.{NetOf}

-- that which is true, the states, and for each cycle the inputs, the gates, and four gates that watch what is asked
abbrev pub most_made : NetOf → ℕ → ℕ
most_made n count = 1 + length n.states + count * (n.inputs + length n.gates + 4)
