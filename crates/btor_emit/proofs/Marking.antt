-- Marks, one after the other.
use Rattle.std.proofs.Common.{◌≡◌, ◌⊎◌, ◌≢◌, inl, inr, ℕ, zero, suc, ◌+◌, ◌<◌, ◌≤◌, Bool, true, false, List, [], ◌∷◌, ◌++◌, Some, None, length, get_or, set, refl, sym, ap, subst, ◌∙◌, arith}
use Rattle.std.specs.Prelude.{◌↔◌, Contains, replicate, slice_get}
use Rattle.std.proofs.lemmas.Bool.{cases_eq, cases_lt}
use Rattle.std.proofs.lemmas.List.{length-replicate, length-set}
use Rattle.std.proofs.lemmas.Option.{slice_get_within}
use Rattle.btor_emit.specs.Marks.{HasMarkedCopy, IsMarked, IsNodeMarked, IsOfStatement, Marks}
use Rattle.btor_emit.specs.Reads.{IsCopiedBy, IsRead, IsRegisterRead, IsStatementRead, register_reads}
use Rattle.model_core.specs.Served.{IsModel}
use Rattle.model_core.specs.Shape.{ModelOf, NodeOf, RegisterOf, reads}
use Rattle.model_core.specs.declared.model.Control.{Control}
use Rattle.model_core.specs.declared.model.Statement.{Statement}
use Rattle.model_core.specs.declared.op.Op.{Op}
use Rattle.model_core.specs.declared.op.Op.TheVariants as op
use Rattle.model_core.proofs.Lists.{contained_at, contains_either, contains_left, contains_right, place_of_contained}
use Rattle.model_core.proofs.Writing.{fresh}
use Rattle.btor_emit.proofs.Noding.{earlier, reads_apart}

set_here : (xs : List Bool) (x : ℕ) → x < length xs → IsMarked (set xs x true) x
set_here [] x l = absurd (omega arith)
set_here (y ∷ xs) zero l = refl
set_here (y ∷ xs) (suc x) l = set_here xs x (omega arith)

set_else : (xs : List Bool) (x p : ℕ) → (p ≡ x → ⊥) → get_or (set xs x true) p false ≡ get_or xs p false
set_else [] x p n = refl
set_else (y ∷ xs) zero zero n = absurd (n refl)
set_else (y ∷ xs) zero (suc p) n = refl
set_else (y ∷ xs) (suc x) zero n = refl
set_else (y ∷ xs) (suc x) (suc p) n = set_else xs x p (λ e. n (ap suc e))

-- one place
pub marked_one : (old new : List Bool) (x : ℕ) → x < length old → new ≡ set old x true → Marks old new (λ p. p ≡ x)
marked_one old new x l e = subst (λ (ms : List Bool). Marks old ms (λ p. p ≡ x)) (sym e) (record { size = length-set old x true; each = λ p. by p (cases_eq p x) })
  where
    by : (p : ℕ) → (p ≡ x) ⊎ (p ≢ x) → IsMarked (set old x true) p ↔ (IsMarked old p ⊎ (p ≡ x))
    by p (inl q) = ((λ h. inr q), (λ h. subst (λ (k : ℕ). IsMarked (set old x true) k) (sym q) (set_here old x l)))
    by p (inr n) = ((λ h. inl (sym (set_else old x p n) ∙ h)), (λ h. elim h as (λ _. IsMarked (set old x true) p) [ inl a ↦ set_else old x p n ∙ a | inr a ↦ absurd (n a) ]))

pub marked_none : (marks : List Bool) (P : ℕ → Type 0) → ((p : ℕ) → P p → IsMarked marks p) → Marks marks marks P
marked_none marks P is = record { size = refl; each = λ p. ((λ h. inl h), (λ h. elim h as (λ _. IsMarked marks p) [ inl a ↦ a | inr a ↦ is p a ])) }

pub marked_as : (old new : List Bool) (P Q : ℕ → Type 0) → ((p : ℕ) → P p → Q p) → ((p : ℕ) → Q p → P p) → Marks old new P → Marks old new Q
marked_as old new P Q to from m = record {
  size = m.size;
  each = λ p. (
    (λ h. elim ((m.each p).0 h) as (λ _. IsMarked old p ⊎ Q p) [ inl a ↦ inl a | inr a ↦ inr (to p a) ]),
    (λ h. (m.each p).1 (elim h as (λ _. IsMarked old p ⊎ P p) [ inl a ↦ inl a | inr a ↦ inr (from p a) ])),
  );
}

pub marked_then : (a b c : List Bool) (P Q R : ℕ → Type 0) → ((p : ℕ) → R p → P p ⊎ Q p) → ((p : ℕ) → P p ⊎ Q p → R p) → Marks a b P → Marks b c Q → Marks a c R
marked_then a b c P Q R from to m n = record {
  size = n.size ∙ m.size;
  each = λ p. (
    (λ h.
        elim ((n.each p).0 h) as (λ _. IsMarked a p ⊎ R p) [
          | inl x ↦ elim ((m.each p).0 x) as (λ _. IsMarked a p ⊎ R p) [ inl y ↦ inl y | inr y ↦ inr (to p (inl y)) ]
          | inr x ↦ inr (to p (inr x))
        ]),
    (λ h.
        elim h as (λ _. IsMarked c p) [
          | inl x ↦ (n.each p).1 (inl ((m.each p).1 (inl x)))
          | inr x ↦ elim (from p x) as (λ _. IsMarked c p) [ inl y ↦ (n.each p).1 (inl ((m.each p).1 (inr y))) | inr y ↦ (n.each p).1 (inr y) ]
        ]),
  );
}

-- one of the first n of a list has it
abbrev pub IsAmong : {A : Type 0} → List A → ℕ → (A → ℕ → Type 0) → ℕ → Type 0
IsAmong {A} xs n P p = (k : ℕ) × (x : A) × (k < n) × (slice_get xs k ≡ Some x) × P x p

pub among_none : {A : Type 0} (xs : List A) (P : A → ℕ → Type 0) (marks : List Bool) → Marks marks marks (IsAmong xs 0 P)
among_none xs P marks = marked_none marks (IsAmong xs 0 P) (λ p h. absurd (let l = h.2 in omega arith))

pub among_more : {A : Type 0} (xs : List A) (P : A → ℕ → Type 0) (a b c : List Bool) (i : ℕ) (x : A) → slice_get xs i ≡ Some x → Marks a b (IsAmong xs i P) → Marks b c (P x) → Marks a c (IsAmong xs (i + 1) P)
among_more {A = A} xs P a b c i x at m n = marked_then a b c (IsAmong xs i P) (P x) (IsAmong xs (i + 1) P) from to m n
  where
    from : (p : ℕ) → IsAmong xs (i + 1) P p → IsAmong xs i P p ⊎ P x p
    from p (k, y, l, there, h) = elim (cases_lt k i) as (λ _. IsAmong xs i P p ⊎ P x p) [
      | inl under ↦ inl (k, y, under, there, h)
      | inr over ↦
          let z : k ≡ i = omega arith in
          let e : Some y ≡ Some x = sym there ∙ ap (λ (w : ℕ). slice_get xs w) z ∙ at in
          let same : y ≡ x = cc in
          inr (subst (λ (w : A). P w p) same h)
    ]

    to : (p : ℕ) → IsAmong xs i P p ⊎ P x p → IsAmong xs (i + 1) P p
    to p (inl (k, y, l, there, h)) = (k, y, omega arith, there, h)
    to p (inr h) = (i, x, omega arith, at, h)

pub among_all : {A : Type 0} (xs : List A) (P : A → ℕ → Type 0) (Q : ℕ → Type 0) (a b : List Bool) (n : ℕ) → n ≡ length xs → ((p k : ℕ) (x : A) → slice_get xs k ≡ Some x → P x p → Q p) → ((p : ℕ) → Q p → (k : ℕ) × (x : A) × (slice_get xs k ≡ Some x) × P x p) → Marks a b (IsAmong xs n P) → Marks a b Q
among_all xs P Q a b n e to from m = marked_as a b (IsAmong xs n P) Q (λ p h. to p h.0 h.1 h.3 h.4) (λ p q. let f = from p q in (f.0, f.1, (let l = slice_get_within xs f.0 f.1 f.2 in omega arith), f.2, f.3)) m

-- what was marked so far, from the last node on to this one
pub record AreMarked (m : ModelOf) (marks : List Bool) (i : ℕ) : Type 0 where
  pub size : length marks ≡ m.size
  pub sound : (p : ℕ) → IsMarked marks p → IsRead m p
  pub registers : (p : ℕ) → IsRegisterRead m p → IsMarked marks p
  pub statements : (p : ℕ) → IsStatementRead m p → IsMarked marks p
  pub nodes : (p j : ℕ) (n : NodeOf) → i ≤ j → slice_get m.nodes j ≡ Some n → (n.op ≡ op.Copy → ⊥) → Contains (reads n) p → IsMarked marks p
  pub copies : (p q j k : ℕ) (n : NodeOf) → i ≤ j → slice_get m.nodes j ≡ Some n → n.op ≡ op.Copy → slice_get n.a k ≡ Some p → slice_get n.y k ≡ Some q → IsMarked marks q → IsMarked marks p

pub marked_nodes : (m : ModelOf) → IsModel m → (old new : List Bool) (i : ℕ) (n : NodeOf) → slice_get m.nodes i ≡ Some n → AreMarked m old (i + 1) → Marks old new (IsNodeMarked old n) → AreMarked m new i
marked_nodes m is old new i n at before marks = record {
  size = marks.size ∙ before.size;
  sound = λ p h. elim ((marks.each p).0 h) as (λ _. IsRead m p) [ inl a ↦ before.sound p a | inr a ↦ read p a ];
  registers = λ p h. kept p (before.registers p h);
  statements = λ p h. kept p (before.statements p h);
  nodes = λ p j k l there other c.
      elim (cases_lt i j) as (λ _. IsMarked new p) [
        | inl after ↦ kept p (before.nodes p j k (omega arith) there other c)
        | inr here ↦
            let e : k ≡ n = same j k (omega arith) there in
            (marks.each p).1 (inr (inr (subst (λ (w : NodeOf). w.op ≡ op.Copy → ⊥) e other, subst (λ (w : NodeOf). Contains (reads w) p) e c)))
      ];
  copies = λ p q j x k l there copy a y h.
      elim (cases_lt i j) as (λ _. IsMarked new p) [
        | inl after ↦ elim ((marks.each q).0 h) as (λ _. IsMarked new p) [
          | inl b ↦ kept p (before.copies p q j x k (omega arith) there copy a y b)
          | inr b ↦ absurd (fresh m is j k q there (earlier m is j k there i q (omega arith) (is.order i n at q (in_reads q b))) (contained_at k.y q x y))
        ]
        | inr here ↦
            let e : k ≡ n = same j k (omega arith) there in
            elim ((marks.each q).0 h) as (λ _. IsMarked new p) [
              | inl b ↦ (marks.each p).1 (inr (inl (subst (λ (w : NodeOf). w.op ≡ op.Copy) e copy, (x, q, subst (λ (w : NodeOf). slice_get w.a x ≡ Some p) e a, subst (λ (w : NodeOf). slice_get w.y x ≡ Some q) e y, b))))
              | inr b ↦ absurd (reads_apart m is i n at q (contained_at n.y q x (subst (λ (w : NodeOf). slice_get w.y x ≡ Some q) e y)) (in_reads q b))
            ]
      ];
}
  where
    kept : (p : ℕ) → IsMarked old p → IsMarked new p
    kept p h = (marks.each p).1 (inl h)

    same : (j : ℕ) (k : NodeOf) → j ≡ i → slice_get m.nodes j ≡ Some k → k ≡ n
    same j k z there = let e : Some k ≡ Some n = sym there ∙ ap (λ (w : ℕ). slice_get m.nodes w) z ∙ at in cc

    in_reads : (q : ℕ) → IsNodeMarked old n q → Contains (reads n) q
    in_reads q (inl (copy, (k, r, a, y, h))) = contains_left n.a (n.b ++ n.s) q (contained_at n.a q k a)
    in_reads q (inr (other, h)) = h

    read : (p : ℕ) → IsNodeMarked old n p → IsRead m p
    read p (inl (copy, (k, q, a, y, h))) = let r = before.sound q h in (suc r.0, r.1, (q, (i, k, n, at, copy, a, y), r.2), r.3)
    read p (inr (other, h)) = (0, p, refl, inl (i, n, at, other, h))

-- all that is read is marked at the end
pub marked_read : (m : ModelOf) (marks : List Bool) → AreMarked m marks 0 → (p : ℕ) → IsRead m p → IsMarked marks p
marked_read m marks is p (k, q, chain, used) = by k p chain
  where
    last : IsMarked marks q
    last = elim used as (λ _. IsMarked marks q) [
      | inl a ↦ is.nodes q a.0 a.1 (omega arith) a.2 a.3 a.4
      | inr b ↦ elim b as (λ _. IsMarked marks q) [ inl a ↦ is.registers q a | inr a ↦ is.statements q a ]
    ]

    by : (n p : ℕ) → IsCopiedBy m n p q → IsMarked marks p
    by zero p e = subst (λ (x : ℕ). IsMarked marks x) (sym e) last
    by (suc n) p (r, c, rest) = is.copies p r c.0 c.1 c.2 (omega arith) c.3 c.4 c.5 c.6 (by n r rest)

-- one of the first n places of a list, whose copy was marked
abbrev pub IsCopyTo : List Bool → List ℕ → List ℕ → ℕ → ℕ → Type 0
IsCopyTo old places copies n p = (k q : ℕ) × (k < n) × (slice_get places k ≡ Some p) × (slice_get copies k ≡ Some q) × IsMarked old q

pub copied_none : (old : List Bool) (places copies : List ℕ) → Marks old old (IsCopyTo old places copies 0)
copied_none old places copies = marked_none old (IsCopyTo old places copies 0) (λ p h. absurd (let l = h.2 in omega arith))

pub copied_more : (old mid new : List Bool) (places copies : List ℕ) (i x y : ℕ) → slice_get places i ≡ Some x → slice_get copies i ≡ Some y → ((p : ℕ) → Contains copies p → Contains places p → ⊥) → Marks old mid (IsCopyTo old places copies i) → Marks mid new (λ p. (p ≡ x) × IsMarked mid y)
    → Marks old new (IsCopyTo old places copies (i + 1))
copied_more old mid new places copies i x y at there apart m n = marked_then old mid new (IsCopyTo old places copies i) (λ p. (p ≡ x) × IsMarked mid y) (IsCopyTo old places copies (i + 1)) from to m n
  where
    from : (p : ℕ) → IsCopyTo old places copies (i + 1) p → IsCopyTo old places copies i p ⊎ ((p ≡ x) × IsMarked mid y)
    from p (k, q, l, a, b, h) = elim (cases_lt k i) as (λ _. IsCopyTo old places copies i p ⊎ ((p ≡ x) × IsMarked mid y)) [
      | inl under ↦ inl (k, q, under, a, b, h)
      | inr over ↦
          let z : k ≡ i = omega arith in
          let e : Some p ≡ Some x = sym a ∙ ap (λ (w : ℕ). slice_get places w) z ∙ at in
          let f : Some q ≡ Some y = sym b ∙ ap (λ (w : ℕ). slice_get copies w) z ∙ there in
          let same : p ≡ x = cc in
          let copy : q ≡ y = cc in
          inr (same, (m.each y).1 (inl (subst (λ (w : ℕ). IsMarked old w) copy h)))
    ]

    to : (p : ℕ) → IsCopyTo old places copies i p ⊎ ((p ≡ x) × IsMarked mid y) → IsCopyTo old places copies (i + 1) p
    to p (inl (k, q, l, a, b, h)) = (k, q, omega arith, a, b, h)
    to p (inr (e, h)) = (
      i,
      y,
      omega arith,
      subst (λ (w : ℕ). slice_get places i ≡ Some w) (sym e) at,
      there,
      (elim ((m.each y).0 h) as (λ _. IsMarked old y) [ inl a ↦ a | inr a ↦ absurd (apart y (contained_at copies y i there) (contained_at places y a.0 a.3)) ]),
    )

pub copied_all : (old new : List Bool) (places copies : List ℕ) (n : ℕ) → n ≡ length places → Marks old new (IsCopyTo old places copies n) → Marks old new (HasMarkedCopy old places copies)
copied_all old new places copies n e m = marked_as old new (IsCopyTo old places copies n) (HasMarkedCopy old places copies) (λ p h. (h.0, h.1, h.3, h.4, h.5)) (λ p h. (h.0, h.1, (let l = slice_get_within places h.0 p h.2 in omega arith), h.2, h.3, h.4)) m

-- a place that is marked where a copy is
pub marked_if : (old new : List Bool) (x y : ℕ) → IsMarked old y → Marks old new (λ p. p ≡ x) → Marks old new (λ p. (p ≡ x) × IsMarked old y)
marked_if old new x y h m = marked_as old new (λ p. p ≡ x) (λ p. (p ≡ x) × IsMarked old y) (λ p e. (e, h)) (λ p e. e.0) m

-- what statements read, and the first i registers
pub record AreUsed (m : ModelOf) (marks : List Bool) (i : ℕ) : Type 0 where
  pub size : length marks ≡ m.size
  pub sound : (p : ℕ) → IsMarked marks p → IsRead m p
  pub statements : (p : ℕ) → IsStatementRead m p → IsMarked marks p
  pub registers : (p j : ℕ) (r : RegisterOf) → j < i → slice_get m.registers j ≡ Some r → Contains (register_reads r) p → IsMarked marks p

pub no_mark : (n p : ℕ) → IsMarked (replicate n false) p → ⊥
no_mark zero p h = absurd (let e : false ≡ true = h in cc)
no_mark (suc n) zero h = absurd (let e : false ≡ true = h in cc)
no_mark (suc n) (suc p) h = no_mark n p h

pub used_none : (m : ModelOf) (a0 a1 a2 a3 : List Bool) → a0 ≡ replicate m.size false → Marks a0 a1 (IsOfStatement m.asserts) → Marks a1 a2 (IsOfStatement m.assumes) → Marks a2 a3 (IsOfStatement m.covers) → AreUsed m a3 0
used_none m a0 a1 a2 a3 e x y z = record {
  size = z.size ∙ y.size ∙ x.size ∙ ap (λ (ms : List Bool). length ms) e ∙ length-replicate m.size false;
  sound = λ p h. (0, p, refl, inr (inr (statement p h)));
  statements = λ p h. marked p h;
  registers = λ p j r l at c. absurd (omega arith);
}
  where
    all : List Statement
    all = m.asserts ++ (m.assumes ++ m.covers)

    statement : (p : ℕ) → IsMarked a3 p → IsStatementRead m p
    statement p h =
        elim ((z.each p).0 h) as (λ _. IsStatementRead m p) [
          | inr c ↦ (c.0, contains_right m.asserts (m.assumes ++ m.covers) c.0 (contains_right m.assumes m.covers c.0 c.1), c.2)
          | inl b ↦ elim ((y.each p).0 b) as (λ _. IsStatementRead m p) [
            | inr c ↦ (c.0, contains_right m.asserts (m.assumes ++ m.covers) c.0 (contains_left m.assumes m.covers c.0 c.1), c.2)
            | inl d ↦ elim ((x.each p).0 d) as (λ _. IsStatementRead m p) [
              | inr c ↦ (c.0, contains_left m.asserts (m.assumes ++ m.covers) c.0 c.1, c.2)
              | inl f ↦ absurd (no_mark m.size p (subst (λ (ms : List Bool). IsMarked ms p) e f))
            ]
          ]
        ]

    marked : (p : ℕ) → IsStatementRead m p → IsMarked a3 p
    marked p (s, c, h) =
        elim (contains_either m.asserts (m.assumes ++ m.covers) s c) as (λ _. IsMarked a3 p) [
          | inl a ↦ (z.each p).1 (inl ((y.each p).1 (inl ((x.each p).1 (inr (s, a, h))))))
          | inr b ↦ elim (contains_either m.assumes m.covers s b) as (λ _. IsMarked a3 p) [
            | inl a ↦ (z.each p).1 (inl ((y.each p).1 (inr (s, a, h))))
            | inr a ↦ (z.each p).1 (inr (s, a, h))
          ]
        ]

pub used_more : (m : ModelOf) (old new : List Bool) (i : ℕ) (r : RegisterOf) → slice_get m.registers i ≡ Some r → AreUsed m old i → Marks old new (Contains (register_reads r)) → AreUsed m new (i + 1)
used_more m old new i r at before marks = record {
  size = marks.size ∙ before.size;
  sound = λ p h. elim ((marks.each p).0 h) as (λ _. IsRead m p) [ inl a ↦ before.sound p a | inr a ↦ (0, p, refl, inr (inl (r, contained_at m.registers r i at, a))) ];
  statements = λ p h. (marks.each p).1 (inl (before.statements p h));
  registers = λ p j u l there c.
      elim (cases_lt j i) as (λ _. IsMarked new p) [
        | inl under ↦ (marks.each p).1 (inl (before.registers p j u under there c))
        | inr over ↦
            let z : j ≡ i = omega arith in
            let e : Some u ≡ Some r = sym there ∙ ap (λ (w : ℕ). slice_get m.registers w) z ∙ at in
            let same : u ≡ r = cc in
            (marks.each p).1 (inr (subst (λ (w : RegisterOf). Contains (register_reads w) p) same c))
      ];
}

pub used_all : (m : ModelOf) (marks : List Bool) (i n : ℕ) → i ≡ length m.registers → n ≡ length m.nodes → AreUsed m marks i → AreMarked m marks n
used_all m marks i n e f u = record {
  size = u.size;
  sound = u.sound;
  registers = λ p h. let at = place_of_contained m.registers h.0 h.1 in u.registers p at.0 h.0 (let l = slice_get_within m.registers at.0 h.0 at.1 in omega arith) at.1 h.2;
  statements = u.statements;
  nodes = λ p j k l at other c. absurd (let b = slice_get_within m.nodes j k at in omega arith);
  copies = λ p q j x k l at copy a y h. absurd (let b = slice_get_within m.nodes j k at in omega arith);
}

-- marks of a register and of a node
abbrev RowMarks : List ℕ → List ℕ → ℕ → Type 0
RowMarks d v p = Contains d p ⊎ Contains v p

abbrev RestMarks : List ℕ → List ℕ → ℕ → ℕ → Type 0
RestMarks d v e p = RowMarks d v p ⊎ (p ≡ e)

pub register_marked : (r : RegisterOf) (a0 a1 a2 a3 a4 : List Bool) (d v : List ℕ) (e s : Control) → d ≡ r.d → v ≡ r.value → e ≡ r.enable → s ≡ r.reset → Marks a0 a1 (Contains d) → Marks a1 a2 (Contains v) → Marks a2 a3 (λ p. p ≡ e.place) → Marks a3 a4 (λ p. p ≡ s.place)
    → Marks a0 a4 (Contains (register_reads r))
register_marked r a0 a1 a2 a3 a4 d v e s ed ev ee es md mv me ms =
    marked_then a0 a3 a4 (RestMarks d v e.place) (λ p. p ≡ s.place) (Contains (register_reads r)) from to
    (marked_then a0 a2 a3 (RowMarks d v) (λ p. p ≡ e.place) (RestMarks d v e.place) (λ p h. h) (λ p h. h) (marked_then a0 a1 a2 (Contains d) (Contains v) (RowMarks d v) (λ p h. h) (λ p h. h) md mv) me) ms
  where
    controls : List ℕ
    controls = r.enable.place ∷ r.reset.place ∷ []

    from : (p : ℕ) → Contains (register_reads r) p → RestMarks d v e.place p ⊎ (p ≡ s.place)
    from p c =
        elim (contains_either r.d (r.value ++ controls) p c) as (λ _. RestMarks d v e.place p ⊎ (p ≡ s.place)) [
          | inl a ↦ inl (inl (inl (subst (λ (ps : List ℕ). Contains ps p) (sym ed) a)))
          | inr b ↦ elim (contains_either r.value controls p b) as (λ _. RestMarks d v e.place p ⊎ (p ≡ s.place)) [
            | inl a ↦ inl (inl (inr (subst (λ (ps : List ℕ). Contains ps p) (sym ev) a)))
            | inr k ↦ let at = place_of_contained controls p k in control at.0 at.1
          ]
        ]
      where
        control : (k : ℕ) → slice_get controls k ≡ Some p → RestMarks d v e.place p ⊎ (p ≡ s.place)
        control zero h = let x : r.enable.place ≡ p = cc in inl (inr (sym x ∙ sym (ap (λ (z : Control). z.place) ee)))
        control (suc zero) h = let x : r.reset.place ≡ p = cc in inr (sym x ∙ sym (ap (λ (z : Control). z.place) es))
        control (suc (suc k)) h = absurd (let n : None ≡ Some p = h in cc)

    to : (p : ℕ) → RestMarks d v e.place p ⊎ (p ≡ s.place) → Contains (register_reads r) p
    to p (inl (inl (inl a))) = contains_left r.d (r.value ++ controls) p (subst (λ (ps : List ℕ). Contains ps p) ed a)
    to p (inl (inl (inr a))) = contains_right r.d (r.value ++ controls) p (contains_left r.value controls p (subst (λ (ps : List ℕ). Contains ps p) ev a))
    to p (inl (inr a)) = contains_right r.d (r.value ++ controls) p (contains_right r.value controls p (contained_at controls p 0 (ap Some (sym (a ∙ ap (λ (z : Control). z.place) ee)))))
    to p (inr a) = contains_right r.d (r.value ++ controls) p (contains_right r.value controls p (contained_at controls p 1 (ap Some (sym (a ∙ ap (λ (z : Control). z.place) es)))))

pub copy_marked : (old new : List Bool) (n : NodeOf) (o : Op) (a y : List ℕ) → o ≡ n.op → o ≡ op.Copy → a ≡ n.a → y ≡ n.y → Marks old new (HasMarkedCopy old a y) → Marks old new (IsNodeMarked old n)
copy_marked old new n o a y eo copy ea ey m =
    marked_as old new (HasMarkedCopy old n.a n.y) (IsNodeMarked old n) (λ p h. inl (is, h)) (λ p h. elim h as (λ _. HasMarkedCopy old n.a n.y p) [ inl x ↦ x.1 | inr x ↦ absurd (x.0 is) ])
    (subst (λ (qs : List ℕ). Marks old new (HasMarkedCopy old n.a qs)) ey (subst (λ (ps : List ℕ). Marks old new (HasMarkedCopy old ps y)) ea m))
  where
    is : n.op ≡ op.Copy
    is = sym eo ∙ copy

pub other_marked : (a0 a1 a2 a3 : List Bool) (n : NodeOf) (o : Op) (a b s : List ℕ) → o ≡ n.op → (o ≡ op.Copy → ⊥) → a ≡ n.a → b ≡ n.b → s ≡ n.s → Marks a0 a1 (Contains a) → Marks a1 a2 (Contains b) → Marks a2 a3 (Contains s) → Marks a0 a3 (IsNodeMarked a0 n)
other_marked a0 a1 a2 a3 n o a b s eo other ea eb es ma mb ms =
    marked_then a0 a2 a3 (λ p. Contains a p ⊎ Contains b p) (Contains s) (IsNodeMarked a0 n) from to (marked_then a0 a1 a2 (Contains a) (Contains b) (λ p. Contains a p ⊎ Contains b p) (λ p h. h) (λ p h. h) ma mb) ms
  where
    not_copy : n.op ≡ op.Copy → ⊥
    not_copy e = other (eo ∙ e)

    from : (p : ℕ) → IsNodeMarked a0 n p → (Contains a p ⊎ Contains b p) ⊎ Contains s p
    from p (inl h) = absurd (not_copy h.0)
    from p (inr h) =
        elim (contains_either n.a (n.b ++ n.s) p h.1) as (λ _. (Contains a p ⊎ Contains b p) ⊎ Contains s p) [
          | inl x ↦ inl (inl (subst (λ (ps : List ℕ). Contains ps p) (sym ea) x))
          | inr x ↦ elim (contains_either n.b n.s p x) as (λ _. (Contains a p ⊎ Contains b p) ⊎ Contains s p) [
            | inl y ↦ inl (inr (subst (λ (ps : List ℕ). Contains ps p) (sym eb) y))
            | inr y ↦ inr (subst (λ (ps : List ℕ). Contains ps p) (sym es) y)
          ]
        ]

    to : (p : ℕ) → (Contains a p ⊎ Contains b p) ⊎ Contains s p → IsNodeMarked a0 n p
    to p (inl (inl x)) = inr (not_copy, contains_left n.a (n.b ++ n.s) p (subst (λ (ps : List ℕ). Contains ps p) ea x))
    to p (inl (inr x)) = inr (not_copy, contains_right n.a (n.b ++ n.s) p (contains_left n.b n.s p (subst (λ (ps : List ℕ). Contains ps p) eb x)))
    to p (inr x) = inr (not_copy, contains_right n.a (n.b ++ n.s) p (contains_right n.b n.s p (subst (λ (ps : List ℕ). Contains ps p) es x)))
