-- What a served connection has.
use Rattle.std.specs.Prelude.{ℕ, List, [], ◌∷◌, Option, IfSome, codes, ◌++◌}
use Rattle.net_link.specs.Frame.{CanAsk, Framed, Pieces}

-- what is answered to bytes that are no request
abbrev pub fault_line : List ℕ
fault_line = codes "c fault: frame" ++ 10 ∷ []

-- the answer of one of these streams
abbrev pub IsAnswer : (List ℕ → Type 0) → List ℕ → Type 0
IsAnswer streams bytes = (stream : List ℕ) × streams stream × Pieces stream bytes

-- The bytes that came begin with a request, and the bytes written are the answer of a stream that may answer it, where they are told.
pub record IsServed (may_answer : ℕ → List ℕ → List ℕ → Type 0) (came written : Option (List ℕ)) : Type 0 where
  pub budget : ℕ
  pub job : List ℕ
  pub can_ask : CanAsk budget job
  pub asked : IfSome came (λ bytes. Framed bytes budget job)
  pub answered : IfSome written (IsAnswer (may_answer budget job))
