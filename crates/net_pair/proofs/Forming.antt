-- The pair of a net is one: its literals are of its variables.
use Rattle.std.proofs.Common.{◌≡◌, ℕ, suc, ◌+◌, ◌*◌, ◌<◌, ◌≤◌, ◌^◌, true, List, [], ◌∷◌, Option, Some, None, length, refl, sym, ap, subst, arith, length-append}
use Rattle.std.specs.Prelude.{map}
use Rattle.std.specs.List.{flat_map}
use Rattle.std.proofs.lemmas.List.Concat.{flat_map-cons}
use Rattle.std.proofs.lemmas.List.Elements.{All-weaker}
use Rattle.std.proofs.Math.Nat.{le-max_left}
use Rattle.cnf_form.specs.Cnf.{ClauseWithin, FormulaOf, LitOf, LitWithin, Within}
use Rattle.gate_graph.specs.declared.gate.Gate.{Gate}
use Rattle.gate_graph.specs.declared.gate.Gate.TheVariants.{And, Xor, Mux, Maj}
use Rattle.gate_graph.specs.Folding.{clauses_of}
use Rattle.gate_graph.specs.Kept.{clauses_from, lit_of}
use Rattle.bit_net.specs.Net.{IsNet, NetOf, gate_var, vars}
use Rattle.bit_net.specs.Reaching.{entries, numbered}
use Rattle.bit_net.proofs.Extending.{get_less}
use Rattle.frame_gates.proofs.Lists.{length_map}
use Rattle.net_unroll.proofs.Stepping.{lits_up}
use Rattle.pair_form.specs.Pair.{IsPair}
use Rattle.pair_form.specs.declared.pair.BitLits.{BitLits}
use Rattle.pair_form.specs.declared.pair.Frame.{Frame}
use Rattle.pair_form.specs.declared.pair.Frame.TheVariants.{First, Second}
use Rattle.net_pair.specs.Pairing.{all_of, bad_by, before_gates, before_start, bit_by, both, digits, later, lit_at, made, now, pair_of, pair_vars, start_lit}
use Rattle.net_pair.proofs.Fixing.{all_within}
use Rattle.net_pair.proofs.Placing.{both_vars, lit_within, within_more}
use Rattle.net_pair.proofs.Seeing.{bit_state}

-- the literals of each cycle, of the start, and of what breaks are of variables of both
pub net_within : (n : NetOf) (t : Frame) (l : LitOf) → IsNet n → LitWithin (vars n) l → LitWithin (vars (both n)) (lit_at n t l)
net_within n t l net (lo, hi) = by t (lit_within n t (length n.gates) l net (omega arith) (lo, omega arith))
  where
    by : (u : Frame) → LitWithin (before_gates n u + length n.gates) (lit_at n u l) → LitWithin (vars (both n)) (lit_at n u l)
    by First w = let b = both_vars n in within_more (before_gates n First + length n.gates) (vars (both n)) (now n l) (omega arith) w
    by Second w = let b = both_vars n in within_more (before_gates n Second + length n.gates) (vars (both n)) (later n l) (omega arith) w

all_of_within : (m v : ℕ) (b : LitOf) (ls : List LitOf) → 0 < v → v + length ls ≤ suc m → LitWithin m b → LitWithin m (all_of v b ls)
all_of_within m v b [] some few w = w
all_of_within m v b (l ∷ ls) some few w = all_of_within m (suc v) (lit_of v true) ls (omega arith) (omega arith) (some, omega arith)

start_within : (n : NetOf) → LitWithin (vars (both n)) (start_lit n)
start_within n = let b = both_vars n in all_of_within (vars (both n)) (suc (before_start n)) (lit_of 1 true) (digits 0 n.states) (omega arith) (omega arith) (omega arith, omega arith)

bad_within : (n : NetOf) (o : Option LitOf) → IsNet n → ((l : LitOf) → o ≡ Some l → LitWithin (vars n) l) → LitWithin (vars (both n)) (bad_by n o)
bad_within n None net h = (omega arith, omega arith)
bad_within n (Some l) net h = net_within n First l net (h l refl)

-- a gate has six clauses at most
clauses_few : (v : ℕ) (gs : List Gate) → length (flat_map (λ (e : Gate × LitOf). clauses_of e.1 e.0) (numbered v gs)) ≤ 6 * length gs
clauses_few v [] = omega arith
clauses_few v (g ∷ gs) =
    let r = clauses_few (suc v) gs in
    let e = ap length (flat_map-cons (λ (d : Gate × LitOf). clauses_of d.1 d.0) (g, lit_of v true) (numbered (suc v) gs)) in
    let a = length-append (clauses_of (lit_of v true) g) (flat_map (λ (d : Gate × LitOf). clauses_of d.1 d.0) (numbered (suc v) gs)) in
    let o = one g in
    omega arith
  where
    one : (k : Gate) → length (clauses_of (lit_of v true) k) ≤ 6
    one (And a b) = omega arith
    one (Xor a b) = omega arith
    one (Mux s a b) = omega arith
    one (Maj a b c) = omega arith

clauses_up : (n m : ℕ) (F : List (List LitOf)) → n ≤ m → Within n F → Within m F
clauses_up n m F h w = All-weaker (ClauseWithin n) (ClauseWithin m) (λ c p. lits_up n m c h p) F w

pub is_pair : (n : NetOf) (bits : List (Option ℕ)) → IsNet n → made n bits ≤ 2 ^ 27 → IsPair (pair_of n bits)
is_pair n bits net few = record {
  vars = omega arith;
  count =
      let a = length-append (clauses_from (entries (both n))) ((now n n.assumed ∷ []) ∷ []) in
      let b = clauses_few (gate_var (both n) 0) (both n).gates in
      omega arith;
  clauses = clauses_up (vars (both n)) (pair_vars n bits) (pair_of n bits).formula.clauses up (all_within n bits net few);
  start = within_more (vars (both n)) (pair_vars n bits) (start_lit n) up (start_within n);
  next = within_more (vars (both n)) (pair_vars n bits) (later n n.assumed) up (net_within n Second n.assumed net net.assumed);
  bad = within_more (vars (both n)) (pair_vars n bits) (bad_by n n.asserted) up (bad_within n n.asserted net net.asserted);
  bits = let a = length_map (bit_by n) bits in omega arith;
  first = λ i b h.
      let (k, s, here, at, first, second) = bit_state n bits i b h in
      let l = get_less n.states k s at in
      subst (LitWithin (pair_vars n bits)) (sym first) (omega arith, omega arith);
  second = λ i b h.
      let (k, s, here, at, first, second) = bit_state n bits i b h in
      subst (LitWithin (pair_vars n bits)) (sym second) (within_more (vars (both n)) (pair_vars n bits) (now n s.next) up (net_within n First s.next net (net.next k s at)));
}
  where
    up : vars (both n) ≤ pair_vars n bits
    up = le-max_left (vars (both n)) (length bits)

pub is_pair_by : (n : NetOf) (bits : List (Option ℕ)) (f : FormulaOf) (start next bad : LitOf) (lits : List (Option BitLits)) → IsNet n → made n bits ≤ 2 ^ 27 →
    f ≡ (pair_of n bits).formula → start ≡ start_lit n → next ≡ later n n.assumed → bad ≡ bad_by n n.asserted → lits ≡ map (bit_by n) bits → IsPair (record { formula = f; start = start; next = next; bad = bad; bits = lits })
is_pair_by n bits f start next bad lits net few ef es en eb el = rw (ef, es, en, eb, el) (is_pair n bits net few)
