-- Bits that are driven, taken one after the other in file order.
use Rattle.std.proofs.Common.{◌≡◌, ◌⊎◌, ◌↔◌, inl, inr, ℕ, zero, suc, ◌+◌, ◌<◌, ◌≤◌, Bool, true, false, List, [], ◌∷◌, drop, length, get_or, set, replicate, Some, All, refl, ap, sym, subst, ◌∙◌, arith}
use Rattle.std.specs.Prelude.{slice_get}
use Rattle.std.proofs.lemmas.Bool.{cases_lt}
use Rattle.std.proofs.lemmas.Option.{slice_get_within, slice_get-get_or, get_or_from_slice_get}
use Rattle.digraph.proofs.Lists.{get-at}
use Rattle.design_core.specs.Asked.{output_of}
use Rattle.design_core.specs.Places.{place_of, places}
use Rattle.design_core.specs.Shape.{DesignOf, IsDeclared, IsDesign}
use Rattle.design_core.proofs.Lists.{one_at, Contains-from_place, place-from_Contains}
use Rattle.design_core.proofs.Places.{place_of-same}
use Rattle.design_signals.specs.declared.sig_bit.SigBit.{SigBit}
use Rattle.design_graph.specs.Edges.{Marks, IsPlaceIn}
use Rattle.design_graph.specs.Items.{IsItem, Precedes, DrivesBit, IsDrivenWrongly, IsDrivenOnce, IsFirstWrong, IsFirstBad, IsBadAt, IsInput, IsNoWire, IsCut, IsNext, IsPassed}
use Rattle.design_graph.specs.declared.item.Item.{Item}
use Rattle.design_graph.specs.declared.item.Item.TheVariants.{Cell, Connect}
use Rattle.design_graph.proofs.Declared.{left-declared, output-declared}
use Rattle.design_graph.proofs.MarkSets.{Before, Before-next, Before-end, Before-start, Marks-as, Marks-set, replicate-unmarked}
use Rattle.design_graph.proofs.Unique.{drives-item}

-- what is left of a list from a place on
front : {X : Type 0} (xs : List X) (i : ℕ) (x : X) (rest : List X) → drop i xs ≡ x ∷ rest → (slice_get xs i ≡ Some x) × (drop (suc i) xs ≡ rest)
front [] zero x rest e = absurd cc
front [] (suc i) x rest e = absurd cc
front (y ∷ xs) zero x rest e = let same : y ≡ x = cc in let tail : xs ≡ rest = cc in (ap (λ z. Some z) same, tail)
front (y ∷ xs) (suc i) x rest e = front xs i x rest e

pub drop-front : {X : Type 0} (xs : List X) (i : ℕ) (x : X) (rest : List X) → drop i xs ≡ x ∷ rest → (slice_get xs i ≡ Some x) × (drop (i + 1) xs ≡ rest)
drop-front xs i x rest e =
    let f = front xs i x rest e in
    let n : suc i ≡ i + 1 = omega arith in
    (f.0, subst (λ (k : ℕ). drop k xs ≡ rest) n f.1)

pub drop-nothing : {X : Type 0} (xs : List X) (i : ℕ) → drop i xs ≡ [] → length xs ≤ i
drop-nothing [] i e = omega arith
drop-nothing (y ∷ xs) zero e = absurd cc
drop-nothing (y ∷ xs) (suc i) e = let rest = drop-nothing xs i e in omega (arith, rest)

pub drives-declared : (d : DesignOf) → IsDesign d → (e : Item) (k : ℕ) (a : SigBit) → DrivesBit d e k a → IsDeclared d.wires d.free a
drives-declared d shape (Cell i) k a h = output-declared d shape i h.0 a h.1 (Contains-from_place (output_of h.0) k a h.2)
drives-declared d shape (Connect i) k a h = left-declared d shape i k h.0 a h.1 h.2

-- ---- what comes next in the file

pub cut-start : (d : DesignOf) → IsCut d 0 0
cut-start d = record {
  cells_there = omega arith;
  connects_there = omega arith;
  behind = λ k j le at. omega arith;
  before = λ k j lt at. absurd (omega (arith, lt));
}

module _ (d : DesignOf) (cells connects : ℕ) (cut : IsCut d cells connects) where
  pub passed-precedes : (e f : Item) → IsNext d cells connects e → IsItem d f → IsPassed cells connects f → Precedes d f e
  passed-precedes (Cell i) (Cell l) n is h = omega (arith, n.0, h)
  passed-precedes (Cell i) (Connect k) n is h = let b = cut.before k is.0 h is.1 in (is.0, is.1, omega (arith, n.0, b))
  passed-precedes (Connect i) (Cell l) n is h =
      let there : i < length d.connects = omega (arith, n.0, n.1.connects_there) in
      let j = get-at d.connects i there in
      let b = cut.behind i j.0 (omega (arith, n.0)) j.1 in
      (j.0, j.1, omega (arith, b, h))
  passed-precedes (Connect i) (Connect k) n is h = omega (arith, n.0, h)

  pub precedes-passed : (e f : Item) → IsNext d cells connects e → Precedes d f e → IsPassed cells connects f
  precedes-passed (Cell i) (Cell l) n h = omega (arith, n.0, h)
  precedes-passed (Cell i) (Connect k) n h = elim (cases_lt k connects) as (λ _. k < connects) [
    | inl less ↦ less
    | inr most ↦ let b = n.1.behind k h.0 most h.1 in absurd (omega (arith, b, h.2, n.0))
  ]
  precedes-passed (Connect i) (Cell l) n h = let b = n.1.before i h.0 (omega (arith, n.0)) h.1 in omega (arith, b, h.2)
  precedes-passed (Connect i) (Connect k) n h = omega (arith, n.0, h)

pub next-there : (d : DesignOf) (cells connects : ℕ) (e : Item) → IsNext d cells connects e → IsItem d e
next-there d cells connects (Cell i) n = get-at d.cells i (omega (arith, n.0, n.1.cells_there))
next-there d cells connects (Connect k) n = get-at d.connects k (omega (arith, n.0, n.1.connects_there))

-- the cut, and what has passed, after the next item
module _ (d : DesignOf) (cells connects i : ℕ) where
  pub cell-cut : IsNext d cells connects (Cell i) → IsCut d (i + 1) connects
  cell-cut n = subst (λ (k : ℕ). IsCut d (k + 1) connects) (sym n.0) n.1

  pub connect-cut : IsNext d cells connects (Connect i) → IsCut d cells (i + 1)
  connect-cut n = subst (λ (k : ℕ). IsCut d cells (k + 1)) (sym n.0) n.1

pub cell-kept : (cells connects i : ℕ) (f : Item) → i ≡ cells → IsPassed cells connects f → IsPassed (i + 1) connects f
cell-kept cells connects i (Cell l) e h = omega (arith, e, h)
cell-kept cells connects i (Connect l) e h = h

pub connect-kept : (cells connects i : ℕ) (f : Item) → i ≡ connects → IsPassed cells connects f → IsPassed cells (i + 1) f
connect-kept cells connects i (Cell l) e h = h
connect-kept cells connects i (Connect l) e h = omega (arith, e, h)

-- what has passed once the next item has
pub passed-cell : (cells connects i : ℕ) (f : Item) → i ≡ cells → IsPassed (i + 1) connects f → IsPassed cells connects f ⊎ (f ≡ Cell i)
passed-cell cells connects i (Cell l) e h = elim (cases_lt l cells) as (λ _. (l < cells) ⊎ (Cell l ≡ Cell i)) [ inl less ↦ inl less | inr most ↦ inr (ap (λ (n : ℕ). Cell n) (omega arith)) ]
passed-cell cells connects i (Connect k) e h = inl h

pub passed-connect : (cells connects i : ℕ) (f : Item) → i ≡ connects → IsPassed cells (i + 1) f → IsPassed cells connects f ⊎ (f ≡ Connect i)
passed-connect cells connects i (Connect l) e h = elim (cases_lt l connects) as (λ _. (l < connects) ⊎ (Connect l ≡ Connect i)) [ inl less ↦ inl less | inr most ↦ inr (ap (λ (n : ℕ). Connect n) (omega arith)) ]
passed-connect cells connects i (Cell k) e h = inl h

-- the cells and connects that have passed drive nothing wrongly, and what they drive is marked
pub record IsWalked (d : DesignOf) (cells connects : ℕ) (taken : List Bool) : Type 0 where
  pub cut : IsCut d cells connects
  pub size : length taken ≡ places d
  pub marked : (a : SigBit) → IsDeclared d.wires d.free a → slice_get taken (place_of d a) ≡ Some true → (f : Item) × (l : ℕ) × IsPassed cells connects f × DrivesBit d f l a
  pub marks : (f : Item) (l : ℕ) (a : SigBit) → IsPassed cells connects f → DrivesBit d f l a → slice_get taken (place_of d a) ≡ Some true
  pub well : (f : Item) (l : ℕ) → IsPassed cells connects f → IsDrivenWrongly d f l → ⊥

none-passed : (f : Item) → IsPassed 0 0 f → ⊥
none-passed (Cell i) h = omega arith
none-passed (Connect i) h = omega arith

pub walked-start : (d : DesignOf) (n : ℕ) → n ≡ places d → (taken : List Bool) → taken ≡ replicate n false → length taken ≡ n → IsWalked d 0 0 taken
walked-start d n e taken is size = record {
  cut = cut-start d;
  size = size ∙ e;
  marked = λ a da h. absurd (replicate-unmarked n (place_of d a) (sym (ap (λ (l : List Bool). slice_get l (place_of d a)) is) ∙ h));
  marks = λ f l a p h. absurd (none-passed f p);
  well = λ f l p h. absurd (none-passed f p);
}

module _ (d : DesignOf) (shape : IsDesign d) (cells connects : ℕ) (taken : List Bool) (w : IsWalked d cells connects taken) (e : Item) (next : IsNext d cells connects e)
    (bits : List SigBit) (drives : (k : ℕ) (a : SigBit) → (slice_get bits k ≡ Some a) ↔ DrivesBit d e k a) where
  pub item-there : (k : ℕ) (a : SigBit) → slice_get bits k ≡ Some a → IsDeclared d.wires d.free a
  item-there k a h = drives-declared d shape e k a ((drives k a).0 h)

  pub bits-declared : All (IsDeclared d.wires d.free) bits
  bits-declared = λ k x lt. item-there k (get_or bits k x) (slice_get-get_or bits k x lt)

  pub wrong-bad : (k : ℕ) → IsDrivenWrongly d e k → IsBadAt d taken bits k
  wrong-bad k (a, h, inr other) = (a, (drives k a).1 h, inr (inr other))
  wrong-bad k (a, h, inl before) = elim before.3 as (λ _. IsBadAt d taken bits k) [
    | inl item ↦ (a, (drives k a).1 h, inl (w.marks before.0 before.1 a (precedes-passed d cells connects w.cut e before.0 next item) before.2))
    | inr same ↦
        let own : DrivesBit d e before.1 a = subst (λ (f : Item). DrivesBit d f before.1 a) same.0 before.2 in
        (a, (drives k a).1 h, inr (inl (before.1, same.1, (drives before.1 a).1 own)))
  ]

  pub bad-wrong : (k : ℕ) → IsBadAt d taken bits k → IsDrivenWrongly d e k
  bad-wrong k (a, h, inr (inr other)) = (a, (drives k a).0 h, inr other)
  bad-wrong k (a, h, inr (inl before)) = (a, (drives k a).0 h, inl (e, before.0, (drives before.0 a).0 before.2, inr (refl, before.1)))
  bad-wrong k (a, h, inl mark) =
      let m = w.marked a (item-there k a h) mark in
      (a, (drives k a).0 h, inl (m.0, m.1, m.3, inl (passed-precedes d cells connects w.cut e m.0 next (drives-item d m.0 m.1 a m.3) m.2)))

  pub first-wrong : (a : SigBit) → IsFirstBad d taken bits a → IsFirstWrong d e a
  first-wrong a b = record {
    place = b.0;
    drives = (drives b.0 a).0 b.1;
    wrong = bad-wrong b.0 b.2;
    first = λ f l before wrong. elim before as (λ _. ⊥) [
      | inl item ↦ w.well f l (precedes-passed d cells connects w.cut e f next item) wrong
      | inr same ↦ b.3 l same.1 (wrong-bad l (subst (λ (g : Item). IsDrivenWrongly d g l) same.0 wrong))
    ];
  }

  module _ (new : List Bool) (none : (k : ℕ) → IsBadAt d taken bits k → ⊥) (m : Marks taken (IsPlaceIn d bits) new) (x y : ℕ) (cut : IsCut d x y)
      (old : (f : Item) → IsPassed cells connects f → IsPassed x y f) (more : (f : Item) → IsPassed x y f → IsPassed cells connects f ⊎ (f ≡ e)) (own : IsPassed x y e) where
    pub walked-next : IsWalked d x y new
    walked-next = record {
      cut = cut;
      size = m.size ∙ w.size;
      marked = λ a da h. elim (m.only (place_of d a) h) as (λ _. (f : Item) × (l : ℕ) × IsPassed x y f × DrivesBit d f l a) [
        | inl before ↦ let b = w.marked a da before in (b.0, b.1, old b.0 b.2, b.3)
        | inr here ↦
            let k = place-from_Contains bits here.0 here.1 in
            let same : here.0 ≡ a = place_of-same d here.0 a (item-there k.0 here.0 k.1) da (sym here.2) in
            (e, k.0, own, subst (λ (b : SigBit). DrivesBit d e k.0 b) same ((drives k.0 here.0).0 k.1))
      ];
      marks = λ f l a p h. elim (more f p) as (λ _. slice_get new (place_of d a) ≡ Some true) [
        | inl before ↦ m.kept (place_of d a) (w.marks f l a before h)
        | inr same ↦ m.added (place_of d a) (a, Contains-from_place bits l a ((drives l a).1 (subst (λ (g : Item). DrivesBit d g l a) same h)), refl)
      ];
      well = λ f l p wrong. elim (more f p) as (λ _. ⊥) [
        | inl before ↦ w.well f l before wrong
        | inr same ↦ none l (wrong-bad l (subst (λ (g : Item). IsDrivenWrongly d g l) same wrong))
      ];
    }

pub walked-all : (d : DesignOf) (cells connects : ℕ) (taken : List Bool) → IsWalked d cells connects taken → ((e : Item) → IsItem d e → IsPassed cells connects e) → IsDrivenOnce d
walked-all d cells connects taken w all e k wrong = w.well e k (all e (drives-item d e k wrong.0 wrong.1)) wrong

-- ---- the bits of one item

-- the first i bits are taken, and none of them had to be left
pub record IsTaken (d : DesignOf) (old : List Bool) (bits : List SigBit) (i : ℕ) (new : List Bool) : Type 0 where
  pub marks : Marks old (Before bits (λ k a p. p ≡ place_of d a) i) new
  pub well : (l : ℕ) → l < i → IsBadAt d old bits l → ⊥

pub taken-start : (d : DesignOf) (old : List Bool) (bits : List SigBit) → IsTaken d old bits 0 old
taken-start d old bits = record { marks = Before-start bits (λ k a p. p ≡ place_of d a) old; well = λ l lt. absurd (omega (arith, lt)) }

module _ (d : DesignOf) (old : List Bool) (bits : List SigBit) (declared : All (IsDeclared d.wires d.free) bits) (i : ℕ) (taken : List Bool) (t : IsTaken d old bits i taken)
    (a : SigBit) (at : slice_get bits i ≡ Some a) where
  pub bit-declared : (k : ℕ) (b : SigBit) → slice_get bits k ≡ Some b → IsDeclared d.wires d.free b
  bit-declared k b h = subst (λ (x : SigBit). IsDeclared d.wires d.free x) (get_or_from_slice_get bits k b b h) (declared k b (slice_get_within bits k b h))

  -- a place that is taken now was taken before, or by one of the bits before
  pub bad-marked : slice_get taken (place_of d a) ≡ Some true → IsBadAt d old bits i
  bad-marked h = elim (t.marks.only (place_of d a) h) as (λ _. IsBadAt d old bits i) [
    | inl before ↦ (a, at, inl before)
    | inr here ↦
        let same : here.1 ≡ a = place_of-same d here.1 a (bit-declared here.0 here.1 here.3) (bit-declared i a at) (sym here.4) in
        (a, at, inr (inl (here.0, here.2, subst (λ (b : SigBit). slice_get bits here.0 ≡ Some b) same here.3)))
  ]

  pub bad-other : IsInput d a ⊎ IsNoWire a → IsBadAt d old bits i
  bad-other h = (a, at, inr (inr h))

  pub first-bad : IsBadAt d old bits i → IsFirstBad d old bits a
  first-bad b = (i, at, b, t.well)

  pub taken-next : (slice_get taken (place_of d a) ≡ Some true → ⊥) → ((IsInput d a ⊎ IsNoWire a) → ⊥) → (p : ℕ) → p ≡ place_of d a → p < length taken → IsTaken d old bits (i + 1) (set taken p true)
  taken-next free other p e lt = record {
    marks = Before-next bits (λ k b q. q ≡ place_of d b) old taken (set taken p true) i a at t.marks
        (Marks-as taken (set taken p true) (λ q. q ≡ p) (λ q. q ≡ place_of d a) (Marks-set taken p lt) (λ q h. h ∙ e) (λ q h. h ∙ sym e));
    well = λ l less bad. elim (cases_lt l i) as (λ _. ⊥) [
      | inl before ↦ t.well l before bad
      | inr most ↦ let same : l ≡ i = omega arith in here (subst (λ (n : ℕ). IsBadAt d old bits n) same bad)
    ];
  }
    where
      here : IsBadAt d old bits i → ⊥
      here (b, bt, inl mark) = free (t.marks.kept (place_of d a) (subst (λ (x : SigBit). slice_get old (place_of d x) ≡ Some true) (one_at bits i b a bt at) mark))
      here (b, bt, inr (inl before)) =
          free (t.marks.added (place_of d a) (before.0, a, before.1, subst (λ (x : SigBit). slice_get bits before.0 ≡ Some x) (one_at bits i b a bt at) before.2, refl))
      here (b, bt, inr (inr bad)) = other (subst (λ (x : SigBit). IsInput d x ⊎ IsNoWire x) (one_at bits i b a bt at) bad)

pub taken-all : (d : DesignOf) (old : List Bool) (bits : List SigBit) (i : ℕ) (taken : List Bool) → IsTaken d old bits i taken → length bits ≤ i
    → ((k : ℕ) → IsBadAt d old bits k → ⊥) × Marks old (IsPlaceIn d bits) taken
taken-all d old bits i taken t most = (
  λ k bad. t.well k (omega (arith, slice_get_within bits k bad.0 bad.1, most)) bad,
  Before-end bits (λ k a p. p ≡ place_of d a) old taken i (IsPlaceIn d bits) most t.marks
      (λ k a p at h. (a, Contains-from_place bits k a at, h)) (λ p h. let k = place-from_Contains bits h.0 h.1 in (k.0, h.0, k.1, h.2)),
)
