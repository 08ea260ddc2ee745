-- What folding needs of bits.
use Rattle.std.proofs.Common.{◌≡◌, Bool, true, false, cond, not, ◌&&◌, refl}
use Rattle.gate_graph.specs.Folding.{xor, majority}

pub and_1 : (p q : Bool) → p ≡ false → p ≡ (p && q)
and_1 true true e0 = cc
and_1 true false e0 = cc
and_1 false true e0 = refl
and_1 false false e0 = refl

pub and_2 : (p q : Bool) → p ≡ true → q ≡ (p && q)
and_2 true true e0 = refl
and_2 true false e0 = refl
and_2 false true e0 = cc
and_2 false false e0 = cc

pub and_5 : (p q : Bool) → p ≡ q → p ≡ (p && q)
and_5 true true e0 = refl
and_5 true false e0 = cc
and_5 false true e0 = cc
and_5 false false e0 = refl

pub and_6 : (z p q : Bool) → z ≡ true → p ≡ not q → not z ≡ (p && q)
and_6 true true true e0 e1 = cc
and_6 true true false e0 e1 = refl
and_6 true false true e0 e1 = refl
and_6 true false false e0 e1 = cc
and_6 false true true e0 e1 = cc
and_6 false true false e0 e1 = cc
and_6 false false true e0 e1 = cc
and_6 false false false e0 e1 = cc

pub and_8 : (p q : Bool) → (q && p) ≡ (p && q)
and_8 true true = refl
and_8 true false = refl
and_8 false true = refl
and_8 false false = refl

pub xor_1 : (p q : Bool) → p ≡ false → q ≡ xor p q
xor_1 true true e0 = cc
xor_1 true false e0 = cc
xor_1 false true e0 = refl
xor_1 false false e0 = refl

pub xor_2 : (p q n : Bool) → n ≡ not q → p ≡ true → n ≡ xor p q
xor_2 true true true e0 e1 = cc
xor_2 true true false e0 e1 = refl
xor_2 true false true e0 e1 = refl
xor_2 true false false e0 e1 = cc
xor_2 false true true e0 e1 = cc
xor_2 false true false e0 e1 = cc
xor_2 false false true e0 e1 = cc
xor_2 false false false e0 e1 = cc

pub xor_5 : (z p q : Bool) → z ≡ true → p ≡ q → not z ≡ xor p q
xor_5 true true true e0 e1 = refl
xor_5 true true false e0 e1 = cc
xor_5 true false true e0 e1 = cc
xor_5 true false false e0 e1 = refl
xor_5 false true true e0 e1 = cc
xor_5 false true false e0 e1 = cc
xor_5 false false true e0 e1 = cc
xor_5 false false false e0 e1 = cc

pub xor_6 : (z p q : Bool) → z ≡ true → p ≡ not q → z ≡ xor p q
xor_6 true true true e0 e1 = cc
xor_6 true true false e0 e1 = refl
xor_6 true false true e0 e1 = refl
xor_6 true false false e0 e1 = cc
xor_6 false true true e0 e1 = cc
xor_6 false true false e0 e1 = cc
xor_6 false false true e0 e1 = cc
xor_6 false false false e0 e1 = cc

pub xor_7 : (m n p q : Bool) → xor (xor m n) (xor p q) ≡ xor (cond m (not p) p) (cond n (not q) q)
xor_7 true true true true = refl
xor_7 true true true false = refl
xor_7 true true false true = refl
xor_7 true true false false = refl
xor_7 true false true true = refl
xor_7 true false true false = refl
xor_7 true false false true = refl
xor_7 true false false false = refl
xor_7 false true true true = refl
xor_7 false true true false = refl
xor_7 false true false true = refl
xor_7 false true false false = refl
xor_7 false false true true = refl
xor_7 false false true false = refl
xor_7 false false false true = refl
xor_7 false false false false = refl

pub xor_8 : (p q : Bool) → xor q p ≡ xor p q
xor_8 true true = refl
xor_8 true false = refl
xor_8 false true = refl
xor_8 false false = refl

pub maj_1 : (p q r : Bool) → p ≡ q → p ≡ majority p q r
maj_1 true true true e0 = refl
maj_1 true true false e0 = refl
maj_1 true false true e0 = cc
maj_1 true false false e0 = cc
maj_1 false true true e0 = cc
maj_1 false true false e0 = cc
maj_1 false false true e0 = refl
maj_1 false false false e0 = refl

pub maj_2 : (p q r : Bool) → p ≡ r → p ≡ majority p q r
maj_2 true true true e0 = refl
maj_2 true true false e0 = cc
maj_2 true false true e0 = refl
maj_2 true false false e0 = cc
maj_2 false true true e0 = cc
maj_2 false true false e0 = refl
maj_2 false false true e0 = cc
maj_2 false false false e0 = refl

pub maj_3 : (p q r : Bool) → q ≡ r → q ≡ majority p q r
maj_3 true true true e0 = refl
maj_3 true true false e0 = cc
maj_3 true false true e0 = cc
maj_3 true false false e0 = refl
maj_3 false true true e0 = refl
maj_3 false true false e0 = cc
maj_3 false false true e0 = cc
maj_3 false false false e0 = refl

pub maj_4 : (p q r : Bool) → p ≡ not q → r ≡ majority p q r
maj_4 true true true e0 = cc
maj_4 true true false e0 = cc
maj_4 true false true e0 = refl
maj_4 true false false e0 = refl
maj_4 false true true e0 = refl
maj_4 false true false e0 = refl
maj_4 false false true e0 = cc
maj_4 false false false e0 = cc

pub maj_5 : (p q r : Bool) → p ≡ not r → q ≡ majority p q r
maj_5 true true true e0 = cc
maj_5 true true false e0 = refl
maj_5 true false true e0 = cc
maj_5 true false false e0 = refl
maj_5 false true true e0 = refl
maj_5 false true false e0 = cc
maj_5 false false true e0 = refl
maj_5 false false false e0 = cc

pub maj_6 : (p q r : Bool) → q ≡ not r → p ≡ majority p q r
maj_6 true true true e0 = cc
maj_6 true true false e0 = refl
maj_6 true false true e0 = refl
maj_6 true false false e0 = cc
maj_6 false true true e0 = cc
maj_6 false true false e0 = refl
maj_6 false false true e0 = refl
maj_6 false false false e0 = cc

pub maj_7 : (p q r : Bool) → p ≡ false → (q && r) ≡ majority p q r
maj_7 true true true e0 = cc
maj_7 true true false e0 = cc
maj_7 true false true e0 = cc
maj_7 true false false e0 = cc
maj_7 false true true e0 = refl
maj_7 false true false e0 = refl
maj_7 false false true e0 = refl
maj_7 false false false e0 = refl

pub maj_8 : (p q r : Bool) → p ≡ true → not (not q && not r) ≡ majority p q r
maj_8 true true true e0 = refl
maj_8 true true false e0 = refl
maj_8 true false true e0 = refl
maj_8 true false false e0 = refl
maj_8 false true true e0 = cc
maj_8 false true false e0 = cc
maj_8 false false true e0 = cc
maj_8 false false false e0 = cc

pub maj_9 : (p q r : Bool) → q ≡ false → (p && r) ≡ majority p q r
maj_9 true true true e0 = cc
maj_9 true true false e0 = cc
maj_9 true false true e0 = refl
maj_9 true false false e0 = refl
maj_9 false true true e0 = cc
maj_9 false true false e0 = cc
maj_9 false false true e0 = refl
maj_9 false false false e0 = refl

pub maj_10 : (p q r : Bool) → q ≡ true → not (not p && not r) ≡ majority p q r
maj_10 true true true e0 = refl
maj_10 true true false e0 = refl
maj_10 true false true e0 = cc
maj_10 true false false e0 = cc
maj_10 false true true e0 = refl
maj_10 false true false e0 = refl
maj_10 false false true e0 = cc
maj_10 false false false e0 = cc

pub maj_11 : (p q r : Bool) → r ≡ false → (p && q) ≡ majority p q r
maj_11 true true true e0 = cc
maj_11 true true false e0 = refl
maj_11 true false true e0 = cc
maj_11 true false false e0 = refl
maj_11 false true true e0 = cc
maj_11 false true false e0 = refl
maj_11 false false true e0 = cc
maj_11 false false false e0 = refl

pub maj_12 : (p q r : Bool) → r ≡ true → not (not p && not q) ≡ majority p q r
maj_12 true true true e0 = refl
maj_12 true true false e0 = cc
maj_12 true false true e0 = refl
maj_12 true false false e0 = cc
maj_12 false true true e0 = refl
maj_12 false true false e0 = cc
maj_12 false false true e0 = refl
maj_12 false false false e0 = cc

pub maj_acb : (p q r : Bool) → majority p r q ≡ majority p q r
maj_acb true true true = refl
maj_acb true true false = refl
maj_acb true false true = refl
maj_acb true false false = refl
maj_acb false true true = refl
maj_acb false true false = refl
maj_acb false false true = refl
maj_acb false false false = refl

pub maj_cab : (p q r : Bool) → majority r p q ≡ majority p q r
maj_cab true true true = refl
maj_cab true true false = refl
maj_cab true false true = refl
maj_cab true false false = refl
maj_cab false true true = refl
maj_cab false true false = refl
maj_cab false false true = refl
maj_cab false false false = refl

pub maj_bac : (p q r : Bool) → majority q p r ≡ majority p q r
maj_bac true true true = refl
maj_bac true true false = refl
maj_bac true false true = refl
maj_bac true false false = refl
maj_bac false true true = refl
maj_bac false true false = refl
maj_bac false false true = refl
maj_bac false false false = refl

pub maj_bca : (p q r : Bool) → majority q r p ≡ majority p q r
maj_bca true true true = refl
maj_bca true true false = refl
maj_bca true false true = refl
maj_bca true false false = refl
maj_bca false true true = refl
maj_bca false true false = refl
maj_bca false false true = refl
maj_bca false false false = refl

pub maj_cba : (p q r : Bool) → majority r q p ≡ majority p q r
maj_cba true true true = refl
maj_cba true true false = refl
maj_cba true false true = refl
maj_cba true false false = refl
maj_cba false true true = refl
maj_cba false true false = refl
maj_cba false false true = refl
maj_cba false false false = refl

pub maj_not : (p q r : Bool) → not (majority (not p) (not q) (not r)) ≡ majority p q r
maj_not true true true = refl
maj_not true true false = refl
maj_not true false true = refl
maj_not true false false = refl
maj_not false true true = refl
maj_not false true false = refl
maj_not false false true = refl
maj_not false false false = refl

pub mux_1 : (s a b : Bool) → s ≡ true → b ≡ cond s b a
mux_1 true true true e0 = refl
mux_1 true true false e0 = refl
mux_1 true false true e0 = refl
mux_1 true false false e0 = refl
mux_1 false true true e0 = cc
mux_1 false true false e0 = cc
mux_1 false false true e0 = cc
mux_1 false false false e0 = cc

pub mux_2 : (s a b : Bool) → s ≡ false → a ≡ cond s b a
mux_2 true true true e0 = cc
mux_2 true true false e0 = cc
mux_2 true false true e0 = cc
mux_2 true false false e0 = cc
mux_2 false true true e0 = refl
mux_2 false true false e0 = refl
mux_2 false false true e0 = refl
mux_2 false false false e0 = refl

pub mux_3 : (s a b : Bool) → a ≡ b → a ≡ cond s b a
mux_3 true true true e0 = refl
mux_3 true true false e0 = cc
mux_3 true false true e0 = cc
mux_3 true false false e0 = refl
mux_3 false true true e0 = refl
mux_3 false true false e0 = cc
mux_3 false false true e0 = cc
mux_3 false false false e0 = refl

pub mux_4 : (s a b : Bool) → a ≡ not b → xor s a ≡ cond s b a
mux_4 true true true e0 = cc
mux_4 true true false e0 = refl
mux_4 true false true e0 = refl
mux_4 true false false e0 = cc
mux_4 false true true e0 = cc
mux_4 false true false e0 = refl
mux_4 false false true e0 = refl
mux_4 false false false e0 = cc

pub mux_5 : (s a b : Bool) → a ≡ false → (s && b) ≡ cond s b a
mux_5 true true true e0 = cc
mux_5 true true false e0 = cc
mux_5 true false true e0 = refl
mux_5 true false false e0 = refl
mux_5 false true true e0 = cc
mux_5 false true false e0 = cc
mux_5 false false true e0 = refl
mux_5 false false false e0 = refl

pub mux_6 : (s a b : Bool) → a ≡ s → (s && b) ≡ cond s b a
mux_6 true true true e0 = refl
mux_6 true true false e0 = refl
mux_6 true false true e0 = cc
mux_6 true false false e0 = cc
mux_6 false true true e0 = cc
mux_6 false true false e0 = cc
mux_6 false false true e0 = refl
mux_6 false false false e0 = refl

pub mux_7 : (s a b : Bool) → a ≡ true → not (s && not b) ≡ cond s b a
mux_7 true true true e0 = refl
mux_7 true true false e0 = refl
mux_7 true false true e0 = cc
mux_7 true false false e0 = cc
mux_7 false true true e0 = refl
mux_7 false true false e0 = refl
mux_7 false false true e0 = cc
mux_7 false false false e0 = cc

pub mux_8 : (s a b : Bool) → a ≡ not s → not (s && not b) ≡ cond s b a
mux_8 true true true e0 = cc
mux_8 true true false e0 = cc
mux_8 true false true e0 = refl
mux_8 true false false e0 = refl
mux_8 false true true e0 = refl
mux_8 false true false e0 = refl
mux_8 false false true e0 = cc
mux_8 false false false e0 = cc

pub mux_9 : (s a b : Bool) → b ≡ false → (not s && a) ≡ cond s b a
mux_9 true true true e0 = cc
mux_9 true true false e0 = refl
mux_9 true false true e0 = cc
mux_9 true false false e0 = refl
mux_9 false true true e0 = cc
mux_9 false true false e0 = refl
mux_9 false false true e0 = cc
mux_9 false false false e0 = refl

pub mux_10 : (s a b : Bool) → b ≡ not s → (not s && a) ≡ cond s b a
mux_10 true true true e0 = cc
mux_10 true true false e0 = refl
mux_10 true false true e0 = cc
mux_10 true false false e0 = refl
mux_10 false true true e0 = refl
mux_10 false true false e0 = cc
mux_10 false false true e0 = refl
mux_10 false false false e0 = cc

pub mux_11 : (s a b : Bool) → b ≡ true → not (not s && not a) ≡ cond s b a
mux_11 true true true e0 = refl
mux_11 true true false e0 = cc
mux_11 true false true e0 = refl
mux_11 true false false e0 = cc
mux_11 false true true e0 = refl
mux_11 false true false e0 = cc
mux_11 false false true e0 = refl
mux_11 false false false e0 = cc

pub mux_12 : (s a b : Bool) → b ≡ s → not (not s && not a) ≡ cond s b a
mux_12 true true true e0 = refl
mux_12 true true false e0 = cc
mux_12 true false true e0 = refl
mux_12 true false false e0 = cc
mux_12 false true true e0 = cc
mux_12 false true false e0 = refl
mux_12 false false true e0 = cc
mux_12 false false false e0 = refl

pub mux_13 : (s a b : Bool) → cond (not s) a b ≡ cond s b a
mux_13 true true true = refl
mux_13 true true false = refl
mux_13 true false true = refl
mux_13 true false false = refl
mux_13 false true true = refl
mux_13 false true false = refl
mux_13 false false true = refl
mux_13 false false false = refl

pub mux_not : (s a b : Bool) → not (cond s (not b) (not a)) ≡ cond s b a
mux_not true true true = refl
mux_not true true false = refl
mux_not true false true = refl
mux_not true false false = refl
mux_not false true true = refl
mux_not false true false = refl
mux_not false false true = refl
mux_not false false false = refl
