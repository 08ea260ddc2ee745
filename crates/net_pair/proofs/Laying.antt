-- Gates and literals that are put after others.
use Rattle.std.proofs.Common.{◌≡◌, ℕ, zero, suc, ◌+◌, ◌<◌, ◌≤◌, Bool, true, List, [], ◌∷◌, ◌++◌, Option, Some, None, length, take, get_or, map, refl, sym, ap, ◌∙◌, arith, length-append}
use Rattle.std.specs.List.{flat_map}
use Rattle.std.proofs.lemmas.List.{append_assoc, append-nil, length-take, map-append, take_more}
use Rattle.std.proofs.lemmas.List.Concat.{flat_map-cons}
use Rattle.cnf_form.specs.Cnf.{LitOf}
use Rattle.gate_graph.specs.declared.gate.Gate.{Gate}
use Rattle.gate_graph.specs.declared.gate.Gate.TheVariants.{And}
use Rattle.gate_graph.specs.Circuit.{GatesOf}
use Rattle.gate_graph.specs.Folding.{clauses_of}
use Rattle.gate_graph.specs.Kept.{circuit_with, lit_of}
use Rattle.bit_net.specs.Reaching.{numbered}
use Rattle.bit_net.specs.declared.node.State.{State}
use Rattle.net_pair.specs.Laying.{with_gates, with_inputs}
use Rattle.net_pair.specs.Pairing.{all_of, chain, digit_of, digits}

pub with_gates_vars : (g : GatesOf) (ks : List Gate) → (with_gates g ks).formula.vars ≡ g.formula.vars + length ks
with_gates_vars g [] = omega arith
with_gates_vars g (k ∷ ks) = let r = with_gates_vars (circuit_with g k) ks in omega arith

pub with_gates_more : (g : GatesOf) (ks js : List Gate) → with_gates g (ks ++ js) ≡ with_gates (with_gates g ks) js
with_gates_more g [] js = refl
with_gates_more g (k ∷ ks) js = with_gates_more (circuit_with g k) ks js

pub with_gates_clauses : (g : GatesOf) (ks : List Gate) (v : ℕ) → v ≡ suc g.formula.vars → (with_gates g ks).formula.clauses ≡ g.formula.clauses ++ flat_map (λ (e : Gate × LitOf). clauses_of e.1 e.0) (numbered v ks)
with_gates_clauses g [] v e = sym (append-nil g.formula.clauses)
with_gates_clauses g (k ∷ ks) v e =
    with_gates_clauses (circuit_with g k) ks (suc v) (omega arith)
    ∙ ap (λ (w : ℕ). (g.formula.clauses ++ clauses_of (lit_of w true) k) ++ flat_map (λ (d : Gate × LitOf). clauses_of d.1 d.0) (numbered (suc v) ks)) (let z : g.formula.vars + 1 ≡ v = omega arith in z)
    ∙ append_assoc g.formula.clauses (clauses_of (lit_of v true) k) (flat_map (λ (d : Gate × LitOf). clauses_of d.1 d.0) (numbered (suc v) ks))
    ∙ ap (λ (F : List (List LitOf)). g.formula.clauses ++ F) (sym (flat_map-cons (λ (d : Gate × LitOf). clauses_of d.1 d.0) (k, lit_of v true) (numbered (suc v) ks)))

pub with_inputs_vars : (g : GatesOf) (count : ℕ) → (with_inputs g count).formula.vars ≡ g.formula.vars + count
with_inputs_vars g zero = omega arith
with_inputs_vars g (suc count) = let r = with_inputs_vars g count in omega arith

pub with_inputs_clauses : (g : GatesOf) (count : ℕ) → (with_inputs g count).formula.clauses ≡ g.formula.clauses
with_inputs_clauses g zero = refl
with_inputs_clauses g (suc count) = with_inputs_clauses g count

pub chain_push : (v : ℕ) (b : LitOf) (ls : List LitOf) (l : LitOf) → chain v b (ls ++ l ∷ []) ≡ chain v b ls ++ And (all_of v b ls) l ∷ []
chain_push v b [] l = refl
chain_push v b (m ∷ ls) l = ap (λ (gs : List Gate). And b m ∷ gs) (chain_push (suc v) (lit_of v true) ls l)

pub all_of_push : (v : ℕ) (b : LitOf) (ls : List LitOf) (l : LitOf) → all_of v b (ls ++ l ∷ []) ≡ lit_of (v + length ls) true
all_of_push v b [] l = ap (λ (w : ℕ). lit_of w true) (let z : v ≡ v + 0 = omega arith in z)
all_of_push v b (m ∷ ls) l = all_of_push (suc v) (lit_of v true) ls l ∙ ap (λ (w : ℕ). lit_of w true) (let z : suc v + length ls ≡ v + suc (length ls) = omega arith in z)

pub chain_length : (v : ℕ) (b : LitOf) (ls : List LitOf) → length (chain v b ls) ≡ length ls
chain_length v b [] = refl
chain_length v b (l ∷ ls) = ap suc (chain_length (suc v) (lit_of v true) ls)

pub digits_push : (k : ℕ) (ss : List State) (s : State) → digits k (ss ++ s ∷ []) ≡ digits k ss ++ digit_of (k + length ss) s.start
digits_push k [] s = append-nil (digit_of k s.start) ∙ ap (λ (j : ℕ). digit_of j s.start) (let z : k ≡ k + 0 = omega arith in z)
digits_push k (t ∷ ss) s =
    ap (λ (ls : List LitOf). digit_of k t.start ++ ls) (digits_push (suc k) ss s ∙ ap (λ (j : ℕ). digits (suc k) ss ++ digit_of j s.start) (let z : suc k + length ss ≡ k + suc (length ss) = omega arith in z))
    ∙ sym (append_assoc (digit_of k t.start) (digits (suc k) ss) (digit_of (k + suc (length ss)) s.start))

digit_few : (k : ℕ) (d : Option Bool) → length (digit_of k d) ≤ 1
digit_few k None = omega arith
digit_few k (Some b) = omega arith

pub digits_few : (k : ℕ) (ss : List State) → length (digits k ss) ≤ length ss
digits_few k [] = omega arith
digits_few k (s ∷ ss) = let a = digit_few k s.start in let r = digits_few (suc k) ss in let e = length-append (digit_of k s.start) (digits (suc k) ss) in omega arith

-- one gate more
pub gates_step : (old mid new : GatesOf) (f : Gate → Gate) (gs : List Gate) (i : ℕ) (k : Gate) → i < length gs → k ≡ get_or gs i k → mid ≡ with_gates old (map f (take i gs)) → new ≡ circuit_with mid (f k) → new ≡ with_gates old (map f (take (i + 1) gs))
gates_step old mid new f gs i k l at there made =
    made ∙ ap (λ (g : GatesOf). circuit_with g (f k)) there ∙ sym (with_gates_more old (map f (take i gs)) (f k ∷ []))
    ∙ ap (with_gates old) (sym (map-append f (take i gs) (k ∷ [])) ∙ ap (map f) (sym (take_more gs i k l ∙ ap (λ (h : Gate). take i gs ++ h ∷ []) (sym at))))

-- one literal more of those that are all to be true
pub chain_step : (old mid new : GatesOf) (v : ℕ) (b : LitOf) (ls : List LitOf) (i : ℕ) (l : LitOf) (all : LitOf) → i < length ls → l ≡ get_or ls i l → mid ≡ with_gates old (chain v b (take i ls)) → all ≡ all_of v b (take i ls) →
    new ≡ circuit_with mid (And all l) → new ≡ with_gates old (chain v b (take (i + 1) ls))
chain_step old mid new v b ls i l all inside at there so_far made =
    made ∙ ap (λ (g : GatesOf). circuit_with g (And all l)) there ∙ ap (λ (a : LitOf). circuit_with (with_gates old (chain v b (take i ls))) (And a l)) so_far
    ∙ sym (with_gates_more old (chain v b (take i ls)) (And (all_of v b (take i ls)) l ∷ []))
    ∙ ap (with_gates old) (sym (chain_push v b (take i ls) l) ∙ ap (chain v b) (sym (take_more ls i l inside ∙ ap (λ (h : LitOf). take i ls ++ h ∷ []) (sym at))))

pub all_step : (v : ℕ) (b : LitOf) (ls : List LitOf) (i : ℕ) (l : LitOf) → i < length ls → l ≡ get_or ls i l → all_of v b (take (i + 1) ls) ≡ lit_of (v + i) true
all_step v b ls i l inside at =
    ap (all_of v b) (take_more ls i l inside ∙ ap (λ (h : LitOf). take i ls ++ h ∷ []) (sym at)) ∙ all_of_push v b (take i ls) l
    ∙ ap (λ (n : ℕ). lit_of (v + n) true) (let e = length-take i ls in let z : length (take i ls) ≡ i = omega arith in z)

pub digits_step : (ss : List State) (i : ℕ) (s : State) → i < length ss → s ≡ get_or ss i s → digits 0 (take (i + 1) ss) ≡ digits 0 (take i ss) ++ digit_of i s.start
digits_step ss i s inside at =
    ap (digits 0) (take_more ss i s inside ∙ ap (λ (h : State). take i ss ++ h ∷ []) (sym at)) ∙ digits_push 0 (take i ss) s
    ∙ ap (λ (n : ℕ). digits 0 (take i ss) ++ digit_of n s.start) (let e = length-take i ss in let z : 0 + length (take i ss) ≡ i = omega arith in z)

digit_length : (k : ℕ) (d : Option Bool) → length (digit_of k d) ≡ length (digit_of 0 d)
digit_length k None = refl
digit_length k (Some b) = refl

pub count_step : (ss : List State) (i : ℕ) (s : State) → i < length ss → s ≡ get_or ss i s → length (digits 0 (take (i + 1) ss)) ≡ length (digits 0 (take i ss)) + length (digit_of 0 s.start)
count_step ss i s inside at =
    ap length (digits_step ss i s inside at) ∙ length-append (digits 0 (take i ss)) (digit_of i s.start) ∙ ap (λ (n : ℕ). length (digits 0 (take i ss)) + n) (digit_length i s.start)
