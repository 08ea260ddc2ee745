-- The lines of a pair's state bits.
use Rattle.std.proofs.Common.{◌≡◌, ◌⊎◌, ℕ, zero, suc, ◌+◌, ◌<◌, ◌≤◌, ◌^◌, List, [], ◌∷◌, ◌++◌, Option, Some, None, length, get_or, refl, sym, ap, ◌∙◌, subst, inl, inr, arith, append_assoc}
use Rattle.std.specs.Prelude.{codes, decimal, slice_index_or}
use Rattle.std.proofs.lemmas.List.{append-nil, append_cancel_left}
use Rattle.cnf_form.specs.Cnf.{LitOf}
use Rattle.cnf_form.specs.Dimacs.{literal_text}
use Rattle.pair_form.specs.Pair.{PairOf}
use Rattle.pair_form.specs.Text.{bit_text, bits_text, named_text, start_text}
use Rattle.pair_form.specs.declared.pair.BitLits.{BitLits}
use Rattle.pair_reader.specs.Bits.{AreBits, IsBit}

-- one more bit

push_each : (Q : BitLits → Type 0) (xs : List (Option BitLits)) (y : Option BitLits) → ((n : ℕ) (b : BitLits) → slice_index_or xs n None ≡ Some b → Q b) → ((b : BitLits) → y ≡ Some b → Q b)
    → (n : ℕ) (b : BitLits) → slice_index_or (xs ++ y ∷ []) n None ≡ Some b → Q b
push_each Q [] y h g zero b e = g b e
push_each Q [] y h g (suc n) b e = absurd (let z : None ≡ Some b = e in cc)
push_each Q (x ∷ xs) y h g zero b e = h 0 b e
push_each Q (x ∷ xs) y h g (suc n) b e = push_each Q xs y (λ k. h (suc k)) g n b e

pub none_pushed : (vars : ℕ) (bits : List (Option BitLits)) → AreBits vars bits → AreBits vars (bits ++ None ∷ [])
none_pushed vars bits a = record { each = push_each (IsBit vars) bits None a.each (λ b e. absurd (let z : None ≡ Some b = e in cc)) }

pub some_pushed : (vars : ℕ) (bits : List (Option BitLits)) (l : BitLits) → AreBits vars bits → IsBit vars l → AreBits vars (bits ++ Some l ∷ [])
some_pushed vars bits l a is = record { each = push_each (IsBit vars) bits (Some l) a.each (λ b e. let z : l ≡ b = cc in subst (IsBit vars) z is) }

pub none_text : (n : ℕ) (bits : List (Option BitLits)) → bits_text n (bits ++ None ∷ []) ≡ bits_text n bits
none_text n [] = refl
none_text n (None ∷ bits) = none_text (n + 1) bits
none_text n (Some b ∷ bits) = ap (λ (t : List ℕ). bit_text n b ++ t) (none_text (n + 1) bits)

pub some_text : (n number : ℕ) (bits : List (Option BitLits)) (l : BitLits) → n + length bits ≡ number → bits_text n (bits ++ Some l ∷ []) ≡ bits_text n bits ++ bit_text number l
some_text n number [] l e = append-nil (bit_text n l) ∙ ap (λ (k : ℕ). bit_text k l) (omega arith)
some_text n number (None ∷ bits) l e = some_text (n + 1) number bits l (omega arith)
some_text n number (Some b ∷ bits) l e = ap (λ (t : List ℕ). bit_text n b ++ t) (some_text (n + 1) number bits l (omega arith)) ∙ sym (append_assoc (bit_text n b) (bits_text (n + 1) bits) (bit_text number l))

-- the first line of bits that are counted from n
record FirstLine (vars n : ℕ) (more : List (Option BitLits)) : Type 0 where
  number : ℕ
  lits : BitLits
  later : List (Option BitLits)
  text : bits_text n more ≡ bit_text number lits ++ bits_text (number + 1) later
  above : n ≤ number
  few : number + 1 + length later ≡ n + length more
  is : IsBit vars lits
  are : AreBits vars later

first_later : (vars n : ℕ) (more : List (Option BitLits)) → FirstLine vars (n + 1) more → FirstLine vars n (None ∷ more)
first_later vars n more f = record { number = f.number; lits = f.lits; later = f.later; text = f.text; above = let a = f.above in omega arith; few = let k = f.few in omega arith; is = f.is; are = f.are }

first_line : (vars n : ℕ) (more : List (Option BitLits)) → AreBits vars more → (bits_text n more ≡ []) ⊎ FirstLine vars n more
first_line vars n [] a = inl refl
first_line vars n (None ∷ more) a = elim (first_line vars (n + 1) more (record { each = λ k. a.each (suc k) })) [
  | inl e ↦ inl e
  | inr f ↦ inr (first_later vars n more f)
]
first_line vars n (Some b ∷ more) a = inr (record { number = n; lits = b; later = more; text = refl; above = omega arith; few = omega arith; is = a.each 0 b refl; are = record { each = λ k. a.each (suc k) } })

-- What is still to be read of the lines of a pair's bits: those that were read come before.
pub record Left (p : PairOf) (bits : List (Option BitLits)) (rest : List ℕ) : Type 0 where
  pub more : List (Option BitLits)
  pub text : rest ≡ bits_text (length bits + 1) more ++ start_text p
  pub whole : bits_text 1 p.bits ≡ bits_text 1 bits ++ bits_text (length bits + 1) more
  pub few : length bits + length more ≤ 2 ^ 31
  pub are : AreBits p.formula.vars more

left_over : (p : PairOf) (bits : List (Option BitLits)) (rest : List ℕ) (left : Left p bits rest) → bits_text (length bits + 1) left.more ≡ [] → (bits_text 1 bits ≡ bits_text 1 p.bits) × (rest ≡ start_text p)
left_over p bits rest left e =
    (sym (left.whole ∙ ap (λ (t : List ℕ). bits_text 1 bits ++ t) e ∙ append-nil (bits_text 1 bits)), left.text ∙ ap (λ (t : List ℕ). t ++ start_text p) e)

line_at : (p : PairOf) (bits : List (Option BitLits)) (rest : List ℕ) (left : Left p bits rest) (f : FirstLine p.formula.vars (length bits + 1) left.more)
    → rest ≡ bit_text f.number f.lits ++ (bits_text (f.number + 1) f.later ++ start_text p)
line_at p bits rest left f = left.text ∙ ap (λ (t : List ℕ). t ++ start_text p) f.text ∙ append_assoc (bit_text f.number f.lits) (bits_text (f.number + 1) f.later) (start_text p)

-- all bits were read where no line of one follows
pub lines_over : (p : PairOf) (bits : List (Option BitLits)) (rest : List ℕ) → Left p bits rest
    → ((n : ℕ) (b : BitLits) (after : List ℕ) → 0 < n → n ≤ 2 ^ 31 → IsBit p.formula.vars b → rest ≡ bit_text n b ++ after → ⊥)
    → (bits_text 1 bits ≡ bits_text 1 p.bits) × (rest ≡ start_text p)
lines_over p bits rest left none =
    elim (first_line p.formula.vars (length bits + 1) left.more left.are) [
      | inl e ↦ left_over p bits rest left e
      | inr f ↦ absurd (none f.number f.lits (bits_text (f.number + 1) f.later ++ start_text p) (let a = f.above in omega arith) (let k = f.few in let m = left.few in omega arith) f.is (line_at p bits rest left f))
    ]

no_start : (p : PairOf) (after : List ℕ) → start_text p ≡ codes "c bit " ++ after → ⊥
no_start p after e = omega (arith, ap (λ (t : List ℕ). get_or t 2 0) e)

-- a line that is there
pub record ReadLine (p : PairOf) (bits : List (Option BitLits)) (rest : List ℕ) : Type 0 where
  pub number : ℕ
  pub lits : BitLits
  pub after : List ℕ
  pub above : length bits < number
  pub few : number ≤ 2 ^ 31
  pub is : IsBit p.formula.vars lits
  pub text : rest ≡ bit_text number lits ++ after
  pub left : (more : List (Option BitLits)) → length more ≡ number → bits_text 1 more ≡ bits_text 1 bits ++ bit_text number lits → Left p more after

line_left : (p : PairOf) (bits : List (Option BitLits)) (rest : List ℕ) (left : Left p bits rest) (f : FirstLine p.formula.vars (length bits + 1) left.more) (more : List (Option BitLits))
    → length more ≡ f.number → bits_text 1 more ≡ bits_text 1 bits ++ bit_text f.number f.lits → Left p more (bits_text (f.number + 1) f.later ++ start_text p)
line_left p bits rest left f more e t = record {
  more = f.later;
  text = ap (λ (k : ℕ). bits_text (k + 1) f.later ++ start_text p) (sym e);
  whole = left.whole ∙ ap (λ (u : List ℕ). bits_text 1 bits ++ u) f.text ∙ sym (append_assoc (bits_text 1 bits) (bit_text f.number f.lits) (bits_text (f.number + 1) f.later))
      ∙ ap (λ (u : List ℕ). u ++ bits_text (f.number + 1) f.later) (sym t) ∙ ap (λ (k : ℕ). bits_text 1 more ++ bits_text (k + 1) f.later) (sym e);
  few = let k = f.few in let m = left.few in omega arith;
  are = f.are;
}

pub read_line : (p : PairOf) (bits : List (Option BitLits)) (rest after : List ℕ) → Left p bits rest → rest ≡ codes "c bit " ++ after → ReadLine p bits rest
read_line p bits rest after left front =
    elim (first_line p.formula.vars (length bits + 1) left.more left.are) [
      | inl e ↦ absurd (no_start p after (sym (left_over p bits rest left e).1 ∙ front))
      | inr f ↦ record {
        number = f.number;
        lits = f.lits;
        after = bits_text (f.number + 1) f.later ++ start_text p;
        above = let a = f.above in omega arith;
        few = let k = f.few in let m = left.few in omega arith;
        is = f.is;
        text = line_at p bits rest left f;
        left = line_left p bits rest left f;
      }
    ]

-- a line as its parts
pub line_parts : (n : ℕ) (b : BitLits) (rest bytes line : List ℕ) → bytes ≡ codes "c bit " ++ line → bytes ≡ bit_text n b ++ rest
    → line ≡ decimal n ++ 32 ∷ (literal_text b.first ++ 32 ∷ (literal_text b.second ++ 10 ∷ rest))
line_parts n b rest bytes line f e =
    append_cancel_left (codes "c bit ") line (decimal n ++ 32 ∷ (literal_text b.first ++ 32 ∷ (literal_text b.second ++ 10 ∷ rest))) (sym f ∙ e ∙ simp append_assoc)

pub named_parts : (name : List ℕ) (l : LitOf) (rest bytes line : List ℕ) → bytes ≡ name ++ line → bytes ≡ named_text name l ++ rest → line ≡ literal_text l ++ 10 ∷ rest
named_parts name l rest bytes line f e = append_cancel_left name line (literal_text l ++ 10 ∷ rest) (sym f ∙ e ∙ simp append_assoc)
