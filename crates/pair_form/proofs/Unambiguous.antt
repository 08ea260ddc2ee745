-- A text is of one pair.
use Rattle.std.proofs.Common.{◌≡◌, ◌≢◌, ℕ, zero, suc, ◌+◌, ◌<◌, ◌^◌, Bool, true, false, cond, List, [], ◌∷◌, ◌++◌, Option, Some, None, length, refl, sym, ap, ◌∙◌, subst, arith, append_assoc, get_or}
use Rattle.std.specs.Prelude.{All, codes, decimal, slice_index_or}
use Rattle.std.specs.Str.Parse.{AllDigits}
use Rattle.std.specs.Char.{digit_value}
use Rattle.std.proofs.lemmas.Bool.Decides.{nat_tests}
use Rattle.std.proofs.lemmas.List.{append_cancel_left}
use Rattle.std.proofs.lemmas.Fmt.{decimal_is_IsNumeral}
use Rattle.std.proofs.lemmas.List.Elements.{All-cons, All-head, All-nil, All-tail}
use Rattle.cnf_form.specs.Cnf.{LitOf, LitWithin}
use Rattle.cnf_form.specs.Dimacs.{IsDimacs, dimacs_text, literal_text}
use Rattle.cnf_form.proofs.Reading.{IsDimacs-one, literal_one, number_one}
use Rattle.cnf_form.proofs.Writing.{decimal_is_IsNumber}
use Rattle.pair_form.specs.Pair.{PairOf, IsPair, IsSamePair}
use Rattle.pair_form.specs.Text.{bad_text, bit_text, bits_text, named_text, next_text, pair_text, start_text}
use Rattle.pair_form.specs.declared.pair.BitLits.{BitLits}
use Rattle.pair_form.proofs.Leading.{literal_clean, text_is_dimacs}

-- none of these bytes is the one that ends a word
abbrev Free : ℕ → List ℕ → Type 0
Free d t = All (λ (b : ℕ). b ≢ d) t

-- two texts up to a byte that isn't in them
parted : (d : ℕ) (s t r q : List ℕ) → Free d s → Free d t → s ++ d ∷ r ≡ t ++ d ∷ q → (s ≡ t) × (r ≡ q)
parted d [] [] r q f g e = (refl, cc)
parted d [] (c ∷ t) r q f g e = absurd (All-head (λ (b : ℕ). b ≢ d) c t g (let h : d ≡ c = cc in sym h))
parted d (b ∷ s) [] r q f g e = absurd (All-head (λ (b : ℕ). b ≢ d) b s f (let h : b ≡ d = cc in h))
parted d (b ∷ s) (c ∷ t) r q f g e =
    let h : b ≡ c = cc in
    let k : s ++ d ∷ r ≡ t ++ d ∷ q = cc in
    let w = parted d s t r q (All-tail (λ (b : ℕ). b ≢ d) b s f) (All-tail (λ (b : ℕ). b ≢ d) c t g) k in
    ((let u = w.0 in cc), w.1)

digit_no_space : (c : ℕ) → digit_value c < 10 → c ≢ 32
digit_no_space c h = grind (arith, nat_tests)

digits_free : (w : List ℕ) → AllDigits 10 w → Free 32 w
digits_free [] h = All-nil (λ (b : ℕ). b ≢ 32)
digits_free (c ∷ cs) h = All-cons (λ (b : ℕ). b ≢ 32) c cs (digit_no_space c h.0) (digits_free cs h.1)

decimal_free : (n : ℕ) → n < 2 ^ 64 → Free 32 (decimal n)
decimal_free n h = let d = (decimal_is_IsNumeral n h).0 in digits_free (decimal n) d.1

signed_free : (negated : Bool) (n : ℕ) → n < 2 ^ 64 → Free 32 (cond negated (45 ∷ decimal n) (decimal n))
signed_free true n h = All-cons (λ (b : ℕ). b ≢ 32) 45 (decimal n) (λ (e : 45 ≡ 32). omega arith) (decimal_free n h)
signed_free false n h = decimal_free n h

literal_same : (l m : LitOf) → 0 < l.var → 0 < m.var → l.var < 2 ^ 64 → m.var < 2 ^ 64 → literal_text l ≡ literal_text m → l ≡ m
literal_same l m a b p q e = literal_one (literal_text l) (literal_text m) l m (decimal l.var, decimal_is_IsNumber l.var p, a, refl) (decimal m.var, decimal_is_IsNumber m.var q, b, refl) e

decimal_same : (m n : ℕ) → m < 2 ^ 64 → n < 2 ^ 64 → decimal m ≡ decimal n → m ≡ n
decimal_same m n p q e = number_one (decimal m) (decimal n) m n (decimal_is_IsNumber m p) (decimal_is_IsNumber n q) e

-- a literal of a line
record IsSmall (l : LitOf) : Type 0 where
  some : 0 < l.var
  few : l.var < 2 ^ 64

named_same : (name : List ℕ) (l m : LitOf) (r q : List ℕ) → IsSmall l → IsSmall m → named_text name l ++ r ≡ named_text name m ++ q → (l ≡ m) × (r ≡ q)
named_same name l m r q a b e =
    let shape : (k : LitOf) (t : List ℕ) → named_text name k ++ t ≡ name ++ (literal_text k ++ 10 ∷ t) = λ k t. append_assoc name (literal_text k ++ 10 ∷ []) t ∙ ap (λ (z : List ℕ). name ++ z) (append_assoc (literal_text k) (10 ∷ []) t) in
    let w = parted 10 (literal_text l) (literal_text m) r q (literal_clean l a.few) (literal_clean m b.few)
    (append_cancel_left name (literal_text l ++ 10 ∷ r) (literal_text m ++ 10 ∷ q) (sym (shape l r) ∙ e ∙ shape m q)) in
    (literal_same l m a.some b.some a.few b.few w.0, w.1)

record AreSmallLits (b : BitLits) : Type 0 where
  first : IsSmall b.first
  second : IsSmall b.second

bit_shape : (n : ℕ) (b : BitLits) (r : List ℕ) → bit_text n b ++ r ≡ codes "c bit " ++ (decimal n ++ 32 ∷ (literal_text b.first ++ 32 ∷ (literal_text b.second ++ 10 ∷ r)))
bit_shape n b r =
    ap (λ (t : List ℕ). codes "c bit " ++ t)
    (append_assoc (decimal n) (32 ∷ (literal_text b.first ++ 32 ∷ (literal_text b.second ++ 10 ∷ []))) r
    ∙ ap (λ (t : List ℕ). decimal n ++ 32 ∷ t) (append_assoc (literal_text b.first) (32 ∷ (literal_text b.second ++ 10 ∷ [])) r
    ∙ ap (λ (t : List ℕ). literal_text b.first ++ 32 ∷ t) (append_assoc (literal_text b.second) (10 ∷ []) r)))

numbers_same : (m n : ℕ) (a b : BitLits) (r q : List ℕ) → m < 2 ^ 64 → n < 2 ^ 64 → bit_text m a ++ r ≡ bit_text n b ++ q
    → (m ≡ n) × (literal_text a.first ++ 32 ∷ (literal_text a.second ++ 10 ∷ r) ≡ literal_text b.first ++ 32 ∷ (literal_text b.second ++ 10 ∷ q))
numbers_same m n a b r q p s e =
    let w = parted 32 (decimal m) (decimal n) (literal_text a.first ++ 32 ∷ (literal_text a.second ++ 10 ∷ r)) (literal_text b.first ++ 32 ∷ (literal_text b.second ++ 10 ∷ q)) (decimal_free m p) (decimal_free n s)
    (append_cancel_left (codes "c bit ") _ _ (sym (bit_shape m a r) ∙ e ∙ bit_shape n b q)) in
    (decimal_same m n p s w.0, w.1)

lits_same : (a b : BitLits) (r q : List ℕ) → AreSmallLits a → AreSmallLits b → literal_text a.first ++ 32 ∷ (literal_text a.second ++ 10 ∷ r) ≡ literal_text b.first ++ 32 ∷ (literal_text b.second ++ 10 ∷ q)
    → (a.first ≡ b.first) × (a.second ≡ b.second) × (r ≡ q)
lits_same a b r q f g e =
    let w = parted 32 (literal_text a.first) (literal_text b.first) (literal_text a.second ++ 10 ∷ r) (literal_text b.second ++ 10 ∷ q)
    (signed_free a.first.negated a.first.var f.first.few) (signed_free b.first.negated b.first.var g.first.few) e in
    let v = parted 10 (literal_text a.second) (literal_text b.second) r q (literal_clean a.second f.second.few) (literal_clean b.second g.second.few) w.1 in
    (literal_same a.first b.first f.first.some g.first.some f.first.few g.first.few w.0, literal_same a.second b.second f.second.some g.second.some f.second.few g.second.few v.0, v.1)

-- what follows the lines of the bits
record Follows (t : List ℕ) : Type 0 where
  rest : List ℕ
  are : t ≡ codes "c s" ++ rest

apart : (r q : List ℕ) → codes "c s" ++ r ≡ codes "c b" ++ q → ⊥
apart r q h = omega (arith, ap (λ (z : List ℕ). get_or z 2 0) h)

third : (t q : List ℕ) → Follows t → t ≡ codes "c b" ++ q → ⊥
third t q f e = apart f.rest q (sym f.are ∙ e)

bit_third : (n : ℕ) (b : BitLits) (r : List ℕ) → (q : List ℕ) × (bit_text n b ++ r ≡ codes "c b" ++ q)
bit_third n b r = (codes "it " ++ (decimal n ++ 32 ∷ (literal_text b.first ++ 32 ∷ (literal_text b.second ++ 10 ∷ r))), bit_shape n b r)

never_bit : (t r : List ℕ) (n : ℕ) (b : BitLits) → Follows t → t ≡ bit_text n b ++ r → ⊥
never_bit t r n b f e = let q = bit_third n b r in third t q.0 f (e ∙ q.1)

abbrev Each : List (Option BitLits) → Type 0
Each [] = Unit {0}
Each (None ∷ bits) = Each bits
Each (Some b ∷ bits) = AreSmallLits b × Each bits

-- lines of later bits have other numbers
later_bits : (m n : ℕ) (bits : List (Option BitLits)) (t r : List ℕ) (b : BitLits) → n < m → m + length bits < 2 ^ 64 → Follows t → bits_text m bits ++ t ≡ bit_text n b ++ r → ⊥
later_bits m n [] t r b l h f e = never_bit t r n b f e
later_bits m n (None ∷ bits) t r b l h f e = later_bits (m + 1) n bits t r b (omega arith) (omega arith) f e
later_bits m n (Some a ∷ bits) t r b l h f e =
    let w = numbers_same m n a b (bits_text (m + 1) bits ++ t) r (omega arith) (omega arith) (sym (append_assoc (bit_text m a) (bits_text (m + 1) bits) t) ∙ e) in
    let k = w.0 in
    omega arith

abbrev Same : List (Option BitLits) → List (Option BitLits) → Type 0
Same xs ys = (k : ℕ) → slice_index_or xs k None ≡ slice_index_or ys k None

shift : (a b : Option BitLits) (xs ys : List (Option BitLits)) → a ≡ b → Same xs ys → Same (a ∷ xs) (b ∷ ys)
shift a b xs ys e h zero = e
shift a b xs ys e h (suc k) = h k

shift_left : (xs : List (Option BitLits)) → Same xs [] → Same (None ∷ xs) []
shift_left xs h zero = refl
shift_left xs h (suc k) = h k

shift_right : (ys : List (Option BitLits)) → Same [] ys → Same [] (None ∷ ys)
shift_right ys h zero = refl
shift_right ys h (suc k) = h k

bit_is : (a b : BitLits) → a.first ≡ b.first → a.second ≡ b.second → a ≡ b
bit_is a b e f = ap (λ (l : LitOf). let k : BitLits = record { first = l; second = a.second } in k) e ∙ ap (λ (l : LitOf). let k : BitLits = record { first = b.first; second = l } in k) f

bits_same : (n : ℕ) (xs ys : List (Option BitLits)) (t u : List ℕ) → n + length xs < 2 ^ 64 → n + length ys < 2 ^ 64 → Each xs → Each ys → Follows t → Follows u
    → bits_text n xs ++ t ≡ bits_text n ys ++ u → Same xs ys × (t ≡ u)
bits_same n [] [] t u h k f g p q e = ((λ i. refl), e)
bits_same n [] (None ∷ ys) t u h k f g p q e = let w = bits_same (n + 1) [] ys t u (omega arith) (omega arith) f g p q e in (shift_right ys w.0, w.1)
bits_same n [] (Some b ∷ ys) t u h k f g p q e = absurd (never_bit t (bits_text (n + 1) ys ++ u) n b p (e ∙ append_assoc (bit_text n b) (bits_text (n + 1) ys) u))
bits_same n (None ∷ xs) [] t u h k f g p q e = let w = bits_same (n + 1) xs [] t u (omega arith) (omega arith) f g p q e in (shift_left xs w.0, w.1)
bits_same n (Some a ∷ xs) [] t u h k f g p q e = absurd (never_bit u (bits_text (n + 1) xs ++ t) n a q (sym e ∙ append_assoc (bit_text n a) (bits_text (n + 1) xs) t))
bits_same n (None ∷ xs) (None ∷ ys) t u h k f g p q e = let w = bits_same (n + 1) xs ys t u (omega arith) (omega arith) f g p q e in (shift None None xs ys refl w.0, w.1)
bits_same n (None ∷ xs) (Some b ∷ ys) t u h k f g p q e =
    absurd (later_bits (n + 1) n xs t (bits_text (n + 1) ys ++ u) b (omega arith) (omega arith) p (e ∙ append_assoc (bit_text n b) (bits_text (n + 1) ys) u))
bits_same n (Some a ∷ xs) (None ∷ ys) t u h k f g p q e =
    absurd (later_bits (n + 1) n ys u (bits_text (n + 1) xs ++ t) a (omega arith) (omega arith) q (sym e ∙ append_assoc (bit_text n a) (bits_text (n + 1) xs) t))
bits_same n (Some a ∷ xs) (Some b ∷ ys) t u h k f g p q e =
    let w = numbers_same n n a b (bits_text (n + 1) xs ++ t) (bits_text (n + 1) ys ++ u) (omega arith) (omega arith)
    (sym (append_assoc (bit_text n a) (bits_text (n + 1) xs) t) ∙ e ∙ append_assoc (bit_text n b) (bits_text (n + 1) ys) u) in
    let v = lits_same a b (bits_text (n + 1) xs ++ t) (bits_text (n + 1) ys ++ u) f.0 g.0 w.1 in
    let r = bits_same (n + 1) xs ys t u (omega arith) (omega arith) f.1 g.1 p q v.2 in
    (shift (Some a) (Some b) xs ys (ap Some (bit_is a b v.0 v.1)) r.0, r.1)

each_from : (bits : List (Option BitLits)) → ((n : ℕ) (b : BitLits) → slice_index_or bits n None ≡ Some b → AreSmallLits b) → Each bits
each_from [] h = tt
each_from (None ∷ bits) h = each_from bits (λ n b e. h (suc n) b e)
each_from (Some b ∷ bits) h = (h 0 b refl, each_from bits (λ n b e. h (suc n) b e))

small : (p : PairOf) → IsPair p → (l : LitOf) → LitWithin p.formula.vars l → IsSmall l
small p is l w = record { some = w.0; few = let v = is.vars in let k = w.1 in omega arith }

each_small : (p : PairOf) → IsPair p → Each p.bits
each_small p is = each_from p.bits (λ n b e. record { first = small p is b.first (is.first n b e); second = small p is b.second (is.second n b e) })

start_follows : (p : PairOf) → Follows (start_text p)
start_follows p = record { rest = codes "tart " ++ ((literal_text p.start ++ 10 ∷ []) ++ next_text p); are = append_assoc (codes "c start ") (literal_text p.start ++ 10 ∷ []) (next_text p) }

pub one_pair : (p q : PairOf) → IsPair p → IsPair q → pair_text p ≡ pair_text q → IsSamePair p q
one_pair p q a b e =
    let l = a.bits in
    let m = b.bits in
    let w = bits_same 1 p.bits q.bits (start_text p) (start_text q) (omega arith) (omega arith) (each_small p a) (each_small q b) (start_follows p) (start_follows q) e in
    let s = named_same (codes "c start ") p.start q.start (next_text p) (next_text q) (small p a p.start a.start) (small q b q.start b.start) w.1 in
    let n = named_same (codes "c next ") p.next q.next (bad_text p) (bad_text q) (small p a p.next a.next) (small q b q.next b.next) s.1 in
    let d = named_same (codes "c bad ") p.bad q.bad (dimacs_text p.formula) (dimacs_text q.formula) (small p a p.bad a.bad) (small q b q.bad b.bad) n.1 in
    record {
      formula = IsDimacs-one (pair_text q) p.formula q.formula (subst (λ (t : List ℕ). IsDimacs t p.formula) e (text_is_dimacs p a)) (text_is_dimacs q b);
      start = s.0;
      next = n.0;
      bad = d.0;
      bits = w.0;
    }
