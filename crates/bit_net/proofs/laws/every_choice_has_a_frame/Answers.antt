use Rattle.bit_net.proofs.Extending.{one_frame, some_frame}
use Rattle.bit_net.proofs.laws.every_choice_has_a_frame.Goals as goal

pub returns : goal.returns
returns c = record {
  some = λ n x net. some_frame n x net;
  one = λ n x y net f g same v p w. one_frame n x y net f g same v p w;
}
