-- The text of a pair, piece by piece.
use Rattle.std.proofs.Common.{◌≡◌, ℕ, zero, suc, ◌+◌, ◌-◌, ◌<◌, ◌≤◌, List, [], ◌∷◌, ◌++◌, Option, Some, None, refl, sym, ap, ◌∙◌, arith, length, length-append, take, drop, append_assoc, take-append-drop}
use Rattle.std.specs.Prelude.{slice_get}
use Rattle.std.proofs.lemmas.List.{drop-drop, drop_more, length-drop, length-take-le, take-append-le}
use Rattle.std.proofs.lemmas.Option.{get_or_from_slice_get, slice_get_within}
use Rattle.std.proofs.Math.ListN.{drop_of_length-le}
use Rattle.std.proofs.Math.Seq.{take-length}
use Rattle.cnf_form.specs.Cnf.{LitOf}
use Rattle.cnf_form.specs.Dimacs.{body_text, clause_text, header_text, literal_text}
use Rattle.pair_form.specs.Text.{bit_text, bits_text, clauses_text}
use Rattle.pair_form.specs.declared.pair.BitLits.{BitLits}

-- the first element of what is left
pub drop_here : {A : Type 0} (xs : List A) (i : ℕ) (x : A) → slice_get xs i ≡ Some x → drop i xs ≡ x ∷ drop (i + 1) xs
drop_here xs i x e = drop_more xs i x (slice_get_within xs i x e) ∙ ap (λ (y : _). y ∷ drop (i + 1) xs) (get_or_from_slice_get xs i x x e)

-- a state bit's line, or none
pub bit_on : (bits : List (Option BitLits)) (i : ℕ) (b : BitLits) (rest : List ℕ) → slice_get bits i ≡ Some (Some b) →
    bits_text (i + 1) (drop i bits) ++ rest ≡ bit_text (i + 1) b ++ (bits_text (i + 1 + 1) (drop (i + 1) bits) ++ rest)
bit_on bits i b rest e =
    ap (λ (bs : List (Option BitLits)). bits_text (i + 1) bs ++ rest) (drop_here bits i (Some b) e) ∙ append_assoc (bit_text (i + 1) b) (bits_text (i + 1 + 1) (drop (i + 1) bits)) rest

pub bit_off : (bits : List (Option BitLits)) (i : ℕ) → slice_get bits i ≡ Some None → bits_text (i + 1) (drop i bits) ≡ bits_text (i + 1 + 1) (drop (i + 1) bits)
bit_off bits i e = ap (bits_text (i + 1)) (drop_here bits i None e)

pub bits_over : (bits : List (Option BitLits)) (i : ℕ) → length bits ≤ i → bits_text (i + 1) (drop i bits) ≡ []
bits_over bits i l = ap (bits_text (i + 1)) (drop_of_length-le bits l)

-- a literal of a clause, or its end
pub literal_on : (F : List (List LitOf)) (c i : ℕ) (lits : List LitOf) (l : LitOf) → slice_get F c ≡ Some lits → slice_get lits i ≡ Some l →
    (literal_text l ++ 32 ∷ []) ++ clauses_text (drop c F) (i + 1) ≡ clauses_text (drop c F) i
literal_on F c i lits l e f =
    ap (λ (cs : List (List LitOf)). (literal_text l ++ 32 ∷ []) ++ clauses_text cs (i + 1)) (drop_here F c lits e)
    ∙ append_assoc (literal_text l) (32 ∷ []) (clause_text (drop (i + 1) lits) ++ body_text (drop (c + 1) F))
    ∙ sym (append_assoc (literal_text l) (32 ∷ clause_text (drop (i + 1) lits)) (body_text (drop (c + 1) F)))
    ∙ ap (λ (ls : List LitOf). clause_text ls ++ body_text (drop (c + 1) F)) (sym (drop_here lits i l f))
    ∙ sym (ap (λ (cs : List (List LitOf)). clauses_text cs i) (drop_here F c lits e))

from_first : (F : List (List LitOf)) → clauses_text F 0 ≡ body_text F
from_first [] = refl
from_first (c ∷ F) = refl

pub clause_over : (F : List (List LitOf)) (c i : ℕ) (lits : List LitOf) → slice_get F c ≡ Some lits → length lits ≤ i →
    (48 ∷ 10 ∷ []) ++ clauses_text (drop (c + 1) F) 0 ≡ clauses_text (drop c F) i
clause_over F c i lits e l =
    ap (λ (t : List ℕ). 48 ∷ 10 ∷ t) (from_first (drop (c + 1) F))
    ∙ ap (λ (ls : List LitOf). clause_text ls ++ body_text (drop (c + 1) F)) (sym (drop_of_length-le lits l))
    ∙ sym (ap (λ (cs : List (List LitOf)). clauses_text cs i) (drop_here F c lits e))

pub header_on : (v n : ℕ) (F : List (List LitOf)) (rest : List ℕ) → rest ≡ clauses_text (drop 0 F) 0 → n ≡ length F → header_text v n ++ rest ≡ header_text v (length F) ++ body_text F
header_on v n F rest e m = ap (λ (t : List ℕ). header_text v n ++ t) (e ∙ from_first F) ∙ ap (λ (k : ℕ). header_text v k ++ body_text F) m

-- all that is left of a slice
pub slice_left : (xs : List ℕ) (k : ℕ) → take (length xs - k) (drop k xs) ≡ drop k xs
slice_left xs k = ap (λ (n : ℕ). take n (drop k xs)) (sym (length-drop k xs)) ∙ take-length (drop k xs)

pub some_after : (xs ys bytes : List ℕ) (b : ℕ) → bytes ≡ xs ++ b ∷ ys → 0 < length bytes
some_after xs ys bytes b e = let n = ap length e in let m = length-append xs (b ∷ ys) in omega arith

-- what a piece gives
pub given_text : (bytes rest buffer : List ℕ) (given count : ℕ) → count ≤ length (drop given bytes) → drop given bytes ++ rest ≡ take count (take count (drop given bytes) ++ drop count buffer) ++ (drop (given + count) bytes ++ rest)
given_text bytes rest buffer given count l =
    let front : List ℕ = take count (drop given bytes) in
    let long : count ≤ length (take count (drop given bytes)) = let n = length-take-le count (drop given bytes) l in omega arith in
    ap (λ (xs : List ℕ). xs ++ rest) (sym (take-append-drop count (drop given bytes)))
    ∙ append_assoc front (drop count (drop given bytes)) rest
    ∙ ap (λ (xs : List ℕ). front ++ (xs ++ rest)) (drop-drop count given bytes)
    ∙ ap (λ (xs : List ℕ). xs ++ (drop (given + count) bytes ++ rest)) (sym (take-append-le count front (drop count buffer) long ∙ take_all count front (let n = length-take-le count (drop given bytes) l in n)))
  where
    take_all : (k : ℕ) (xs : List ℕ) → length xs ≡ k → take k xs ≡ xs
    take_all k xs e = ap (λ (n : ℕ). take n xs) (sym e) ∙ take-length xs

pub clause_here : (F : List (List LitOf)) (i : ℕ) → i < length F → (c : List LitOf) × (slice_get F i ≡ Some c) × (0 ≤ length c)
clause_here [] i l = absurd (omega arith)
clause_here (c ∷ F) zero l = (c, refl, omega arith)
clause_here (c ∷ F) (suc i) l = clause_here F i (omega arith)
