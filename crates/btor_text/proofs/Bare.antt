-- What lines say has no width and no place of bits.
use Rattle.std.proofs.Common.{◌≡◌, Bool, true, false, cond, List, Option, Some, None, ℕ, refl}
use Rattle.std.specs.Prelude.{codes, bytes_eq}
use Rattle.btor_core.specs.declared.line.Unary.{Unary}
use Rattle.btor_core.specs.declared.line.Binary.{Binary}
use Rattle.btor_core.specs.declared.line.Node.TheVariants as node
use Rattle.btor_core.specs.declared.line.Body.{Body}
use Rattle.btor_core.specs.declared.line.Body.TheVariants as body
use Rattle.btor_text.specs.Reading.{bare, binary_of, binary_words, body_said, const_words, five_words, four_words, is_bits, is_empty, number_of, sort_words, three_words, two_words, unary_of, unary_words, value_body, with_four, with_one, with_three, with_two}

abbrev pub AreBare : Option Body → Type 0
AreBare None = Unit {0}
AreBare (Some b) = bare b ≡ b

chosen : (t : Bool) (x y : Option Body) → AreBare x → AreBare y → AreBare (cond t x y)
chosen true x y h g = h
chosen false x y h g = g

one : (f : ℕ → Option Body) (a : Option ℕ) → ((x : ℕ) → AreBare (f x)) → AreBare (with_one f a)
one f None h = tt
one f (Some x) h = h x

two : (f : ℕ → ℕ → Option Body) (a b : Option ℕ) → ((x y : ℕ) → AreBare (f x y)) → AreBare (with_two f a b)
two f None b h = tt
two f (Some x) b h = one (f x) b (h x)

three : (f : ℕ → ℕ → ℕ → Option Body) (a b c : Option ℕ) → ((x y z : ℕ) → AreBare (f x y z)) → AreBare (with_three f a b c)
three f None b c h = tt
three f (Some x) b c h = two (f x) b c (h x)

four : (f : ℕ → ℕ → ℕ → ℕ → Option Body) (a b c d : Option ℕ) → ((x y z u : ℕ) → AreBare (f x y z u)) → AreBare (with_four f a b c d)
four f None b c d h = tt
four f (Some x) b c d h = three (f x) b c d (h x)

two_bare : (k : List ℕ) (a : ℕ) → AreBare (two_words k a)
two_bare k a =
    chosen (bytes_eq k (codes "bad")) _ _ refl (chosen (bytes_eq k (codes "constraint")) _ _ refl (chosen (bytes_eq k (codes "input")) _ _ refl
    (chosen (bytes_eq k (codes "state")) _ _ refl (chosen (bytes_eq k (codes "zero")) _ _ refl (chosen (bytes_eq k (codes "one")) _ _ refl (chosen (bytes_eq k (codes "ones")) _ _ refl tt))))))

sort_bare : (a b : List ℕ) → AreBare (sort_words a b)
sort_bare a b = chosen (bytes_eq a (codes "bitvec")) _ _ (one (λ w. Some (body.Sort w)) (number_of b) (λ x. refl)) tt

const_bare : (a b : List ℕ) → AreBare (const_words a b)
const_bare a b = chosen (is_bits b) _ _ (one (λ s. value_body s (node.Const 0)) (number_of a) (λ x. refl)) tt

unary_bare : (k : Option Unary) (a b : List ℕ) → AreBare (unary_words k a b)
unary_bare None a b = tt
unary_bare (Some k) a b = two (λ s x. value_body s (node.Unary k x)) (number_of a) (number_of b) (λ x y. refl)

three_bare : (k a b : List ℕ) → AreBare (three_words k a b)
three_bare k a b =
    chosen (bytes_eq k (codes "sort")) _ _ (sort_bare a b) (chosen (bytes_eq k (codes "const")) _ _ (const_bare a b)
    (chosen (bytes_eq k (codes "input")) _ _ (one (λ s. value_body s node.Input) (number_of a) (λ x. refl))
    (chosen (bytes_eq k (codes "state")) _ _ (one (λ s. value_body s node.State) (number_of a) (λ x. refl)) (unary_bare (unary_of k) a b))))

binary_bare : (k : Option Binary) (a b c : ℕ) → AreBare (binary_words k a b c)
binary_bare None a b c = tt
binary_bare (Some k) a b c = refl

four_bare : (k : List ℕ) (a b c : ℕ) → AreBare (four_words k a b c)
four_bare k a b c =
    chosen (bytes_eq k (codes "init")) _ _ refl (chosen (bytes_eq k (codes "next")) _ _ refl
    (chosen (bytes_eq k (codes "uext")) _ _ refl (chosen (bytes_eq k (codes "sext")) _ _ refl (binary_bare (binary_of k) a b c))))

five_bare : (k : List ℕ) (a b c d : ℕ) → AreBare (five_words k a b c d)
five_bare k a b c d = chosen (bytes_eq k (codes "slice")) _ _ refl (chosen (bytes_eq k (codes "ite")) _ _ refl tt)

said_bare : (k a b c d more : List ℕ) → AreBare (body_said k a b c d more)
said_bare k a b c d more =
    chosen (is_empty b) _ _ (one (two_words k) (number_of a) (two_bare k)) (chosen (is_empty c) _ _ (three_bare k a b)
    (chosen (is_empty d) _ _ (three (four_words k) (number_of a) (number_of b) (number_of c) (four_bare k))
    (chosen (is_empty more) _ _ (four (five_words k) (number_of a) (number_of b) (number_of c) (number_of d) (five_bare k)) tt)))

pub body_bare : (k a b c d more : List ℕ) (x : Body) → body_said k a b c d more ≡ Some x → bare x ≡ x
body_bare k a b c d more x e = let h = said_bare k a b c d more in (rw e at h)
