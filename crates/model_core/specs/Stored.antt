-- How a model is kept: nodes and registers with the places of their rows one after the other in one list.
use Rattle.std.specs.Prelude.{◌≡◌, ℕ, ◌+◌, ◌≤◌, List, take, drop, length, All}
use Rattle.std.specs.List.{flat_map}
use Rattle.model_core.specs.Shape.{NodeOf, RegisterOf}
use Rattle.model_core.specs.declared.stored.StoredNode.{StoredNode}
use Rattle.model_core.specs.declared.stored.StoredRegister.{StoredRegister}

-- this many places from the first on
abbrev pub part : List ℕ → ℕ → ℕ → List ℕ
part places first count = take count (drop first places)

abbrev pub node_of : List ℕ → StoredNode → NodeOf
node_of places n = record {
  op = n.op;
  a = part places n.first n.a;
  b = part places (n.first + n.a) n.b;
  s = part places (n.first + n.a + n.b) n.s;
  y = part places (n.first + n.a + n.b + n.s) n.y;
}

abbrev pub register_of : List ℕ → List ℕ → StoredRegister → RegisterOf
register_of places states r = record {
  q = part states r.state r.width;
  d = part places r.first r.width;
  value = part places (r.first + r.width) r.width;
  enable = r.enable;
  reset = r.reset;
  reset_first = r.reset_first;
}

-- the rows stand inside the list
abbrev pub IsNodeInside : List ℕ → StoredNode → Type 0
IsNodeInside places n = n.first + n.a + n.b + n.s + n.y ≤ length places

abbrev pub IsRegisterInside : List ℕ → List ℕ → StoredRegister → Type 0
IsRegisterInside places states r = (r.first + r.width + r.width ≤ length places) × (r.state + r.width ≤ length states)

-- what is kept stands inside the lists, and the list of state bits is the registers' rows one after the other
pub record AreKept (places bits : List ℕ) (nodes : List StoredNode) (registers : List StoredRegister) : Type 0 where
  pub nodes_inside : All (IsNodeInside places) nodes
  pub registers_inside : All (IsRegisterInside places bits) registers
  pub all_bits : flat_map (λ r. part bits r.state r.width) registers ≡ bits
