-- What is asked of an engine elsewhere.
use Rattle.std.specs.Prelude.{◌≡◌, ℕ, ◌<◌, ◌≤◌, ◌^◌, List, length, Option, None, Some, IfSome}
use Rattle.net_link.specs.Frame.{CanAsk, request}
use Rattle.net_lane.specs.Words.{AsksNet, budget_of}

-- how many bytes these are, or none: more than a job may have
abbrev pub IsCount : List ℕ → Option ℕ → Type 0
IsCount bytes (Some n) = (n ≡ length bytes) × (n ≤ 2 ^ 32)
IsCount bytes None = 2 ^ 32 < length bytes

-- the words name this address and this budget, a request can ask for the job within it, and the job has this many bytes
pub record AsksFor (words : List (List ℕ)) (job address : List ℕ) (budget count : ℕ) : Type 0 where
  pub conflicts : Option ℕ
  pub words_are : AsksNet words address conflicts
  pub budget_is : budget ≡ budget_of conflicts
  pub count_is : count ≡ length job
  pub can_ask : CanAsk budget job

-- the words name an address and a budget, and the request of the job within that budget was written, where the link tells
pub record IsAsked (words : List (List ℕ)) (job : List ℕ) (written : Option (List ℕ)) : Type 0 where
  pub address : List ℕ
  pub conflicts : Option ℕ
  pub words_are : AsksNet words address conflicts
  pub can_ask : CanAsk (budget_of conflicts) job
  pub request_is : IfSome written (λ bytes. bytes ≡ request (budget_of conflicts) job)

-- there is no request of the job as the words ask
abbrev pub Unasked : List (List ℕ) → List ℕ → Type 0
Unasked words job = (address : List ℕ) (conflicts : Option ℕ) → AsksNet words address conflicts → CanAsk (budget_of conflicts) job → ⊥
