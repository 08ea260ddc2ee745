-- A request on a connection to which nothing was written, and what no request asks.
use Rattle.std.proofs.Common.{◌≡◌, ℕ, ◌≤◌, ◌^◌, List, [], ◌++◌, Some, None, sym, ap, subst, arith}
use Rattle.std.specs.Prelude.{Option, IfSome}
use Rattle.net_link.specs.Frame.{CanAsk, request}
use Rattle.net_link.specs.Link.{Grew}
use Rattle.net_lane.specs.Words.{AsksNet, AsksOf, budget_of}
use Rattle.net_lane.specs.Asked.{AsksFor, IsAsked, IsCount, Unasked}

written_first : (a b : Option (List ℕ)) (bytes : List ℕ) → IfSome a (λ w. w ≡ []) → Grew a b bytes → IfSome b (λ w. w ≡ bytes)
written_first None b bytes e g = subst (λ (o : Option (List ℕ)). IfSome o (λ w. w ≡ bytes)) (sym g) tt
written_first (Some x) b bytes e g = subst (λ (o : Option (List ℕ)). IfSome o (λ w. w ≡ bytes)) (sym g) (ap (λ (l : List ℕ). l ++ bytes) e)

budget_fits : (words : List (List ℕ)) (address : List ℕ) (conflicts : Option ℕ) → AsksOf words address conflicts → (1 ≤ budget_of conflicts) × (budget_of conflicts ≤ 10 ^ 9)
budget_fits words address None w = (omega arith, omega arith)
budget_fits words address (Some n) w = (w.1, let h = w.2 in omega arith)

pub asks_for : (words : List (List ℕ)) (job address : List ℕ) (conflicts : Option ℕ) (budget count : ℕ) → AsksNet words address conflicts → IsCount job (Some count) → budget ≡ budget_of conflicts → AsksFor words job address budget count
asks_for words job address conflicts budget count w c is =
    let fits = budget_fits w.0 address conflicts w.2 in
    let low = fits.0 in
    let high = fits.1 in
    let n = c.0 in
    let h = c.1 in
    record {
      conflicts = conflicts;
      words_are = w;
      budget_is = is;
      count_is = c.0;
      can_ask = record { least = omega arith; most = omega arith; fits = omega arith };
    }

pub asked_so : (words : List (List ℕ)) (job address : List ℕ) (budget count : ℕ) (a b : Option (List ℕ)) → AsksFor words job address budget count → IfSome a (λ w. w ≡ []) → Grew a b (request budget job) → IsAsked words job b
asked_so words job address budget count a b asks e g = record {
  address = address;
  conflicts = asks.conflicts;
  words_are = asks.words_are;
  can_ask = subst (λ (n : ℕ). CanAsk n job) asks.budget_is asks.can_ask;
  request_is = written_first a b (request (budget_of asks.conflicts) job) e (subst (λ (n : ℕ). Grew a b (request n job)) asks.budget_is g);
}

-- a job that is too long
pub too_long : (words : List (List ℕ)) (job : List ℕ) → IsCount job None → Unasked words job
too_long words job long address conflicts w can = let h = can.fits in absurd (omega arith)

-- words that ask for nothing
pub other_words : (words : List (List ℕ)) (job : List ℕ) → ((address : List ℕ) (conflicts : Option ℕ) → AsksNet words address conflicts → ⊥) → Unasked words job
other_words words job others address conflicts w can = others address conflicts w
