-- What is claimed of a lowered design's runs is claimed of the design's.
use Rattle.std.proofs.Common.{◌≡◌, inl, inr, ℕ, zero, suc, Bool, true, false, cond, not, ◌||◌, List, [], ◌∷◌, ◌++◌, length, set, Some, IsTrue, refl, ap, sym, subst, ◌∙◌}
use Rattle.std.specs.Prelude.{slice_get}
use Rattle.std.specs.List.{filter}
use Rattle.std.proofs.lemmas.List.Elements.{filter-append}
use Rattle.cell_table.specs.declared.kind.Kind.{Kind}
use Rattle.cell_table.specs.declared.kind.Kind.TheVariants.{Adff, Adffe, Sdff, Sdffe, Mux}
use Rattle.design_core.specs.Cells.{Ports, is_set}
use Rattle.design_core.specs.Shape.{CellOf, DesignOf}
use Rattle.design_core.specs.declared.names.PortName.TheVariants.{A, En}
use Rattle.design_meaning.specs.Claims.{NoBreak, NoReach, ReachRun, Shows}
use Rattle.design_meaning.specs.Meaning.{Valuation, Assumed, Broken, IsCell, Reached, asserts, assumes, covers, is_assert, is_assume, is_cover, ports_in}
use Rattle.design_lower.specs.Lowering.{FitsReset, LowersSome, register, shown, with_lowered}
use Rattle.design_lower.specs.Seen.{IsSeen}
use Rattle.design_lower.proofs.Alike.{IsWired, cell-wired, ports-alike}
use Rattle.design_lower.proofs.Cells.{enabled-form, form-of, plain-form}
use Rattle.design_lower.proofs.Running.{runs-from, runs-to}

-- ---- the statements stay as they are

filter-set : {X : Type 0} (test : X → Bool) (xs : List X) (i : ℕ) (x y : X) → slice_get xs i ≡ Some x → test x ≡ false → test y ≡ false → filter test (set xs i y) ≡ filter test xs
filter-set test [] i x y h f g = refl
filter-set test (z ∷ xs) zero x y h f g =
    let same : x ≡ z = cc in
    let old : test z ≡ false = ap test (sym same) ∙ f in
    ap (λ (b : Bool). cond b (y ∷ filter test xs) (filter test xs)) g ∙ sym (ap (λ (b : Bool). cond b (z ∷ filter test xs) (filter test xs)) old)
filter-set {X = X} test (z ∷ xs) (suc i) x y h f g = ap (λ (r : List X). cond (test z) (z ∷ r) r) (filter-set test xs i x y h f g)

filter-past : {X : Type 0} (test : X → Bool) (x : X) (xs : List X) → test x ≡ false → filter test (x ∷ xs) ≡ filter test xs
filter-past test x xs h = ap (λ (b : Bool). cond b (x ∷ filter test xs) (filter test xs)) h

append-none : {X : Type 0} (xs ys : List X) → ys ≡ [] → xs ++ ys ≡ xs
append-none {X = X} xs ys e = ap (λ (r : List X). xs ++ r) e ∙ by xs
  where
    by : (zs : List X) → zs ++ [] ≡ zs
    by [] = refl
    by (z ∷ zs) = ap (λ (r : List X). z ∷ r) (by zs)

-- a test that no type passes that lowering takes away or brings in
pub record IsApart (test : Kind → Bool) : Type 0 where
  pub plain : test Adff ≡ false
  pub enabled : test Adffe ≡ false
  pub register : test Sdff ≡ false
  pub held : test Sdffe ≡ false
  pub shown : test Mux ≡ false

module _ (test : Kind → Bool) (apart : IsApart test) where
  lowered-statements : (d : DesignOf) (i : ℕ) (c : CellOf) → IsCell d i c → FitsReset c → (wire : _) → filter (λ (x : CellOf). test x.kind) (with_lowered d i c wire).cells ≡ filter (λ (x : CellOf). test x.kind) d.cells
  lowered-statements d i c at fits wire =
      let f : CellOf → Bool = λ x. test x.kind in
      let r : CellOf = register (length d.wires) c in
      let old : test c.kind ≡ false = elim (form-of c fits) as (λ _. test c.kind ≡ false) [ inl plain ↦ ap test plain.0 ∙ apart.plain | inr enabled ↦ ap test enabled.0 ∙ apart.enabled ] in
      let new : test (register (length d.wires) c).kind ≡ false = elim (form-of c fits) as (λ _. test (register (length d.wires) c).kind ≡ false) [
        | inl plain ↦ ap (λ (x : CellOf). test x.kind) (plain-form (length d.wires) c plain.1) ∙ apart.register
        | inr enabled ↦ ap (λ (x : CellOf). test x.kind) (enabled-form (length d.wires) c enabled.1) ∙ apart.held
      ] in
      filter-append f (set d.cells i r) (shown (length d.wires) c ∷ [])
      ∙ (append-none (filter f (set d.cells i r)) (filter f (shown (length d.wires) c ∷ [])) (filter-past f (shown (length d.wires) c) [] apart.shown)
      ∙ filter-set f d.cells i c r at old new)

  pub same-statements : (n : ℕ) (d e : DesignOf) → LowersSome n d e → filter (λ (x : CellOf). test x.kind) e.cells ≡ filter (λ (x : CellOf). test x.kind) d.cells
  same-statements zero d e same = ap (λ (x : DesignOf). filter (λ (y : CellOf). test y.kind) x.cells) (sym same)
  same-statements (suc n) d e steps =
      let s = steps.1 in
      same-statements n steps.0 e steps.2
      ∙ (ap (λ (x : DesignOf). filter (λ (y : CellOf). test y.kind) x.cells) s.lowered ∙ lowered-statements d s.place s.cell s.there s.fits s.wire)

pub from-filter : {X : Type 0} (test : X → Bool) (xs : List X) (k : ℕ) (x : X) → slice_get (filter test xs) k ≡ Some x → (i : ℕ) × (slice_get xs i ≡ Some x)
from-filter test [] k x h = absurd cc
from-filter {X = X} test (y ∷ xs) k x h = by (test y) h (λ j g. let r = from-filter test xs j x g in (suc r.0, r.1))
  where
    first : (j : ℕ) → slice_get (y ∷ filter test xs) j ≡ Some x → ((n : ℕ) → slice_get (filter test xs) n ≡ Some x → (i : ℕ) × (slice_get (y ∷ xs) i ≡ Some x)) → (i : ℕ) × (slice_get (y ∷ xs) i ≡ Some x)
    first zero g later = (0, g)
    first (suc j) g later = later j g

    by : (b : Bool) → slice_get (cond b (y ∷ filter test xs) (filter test xs)) k ≡ Some x → ((n : ℕ) → slice_get (filter test xs) n ≡ Some x → (i : ℕ) × (slice_get (y ∷ xs) i ≡ Some x))
        → (i : ℕ) × (slice_get (y ∷ xs) i ≡ Some x)
    by true g later = first k g later
    by false g later = later k g

assert-apart : IsApart is_assert
assert-apart = record { plain = refl; enabled = refl; register = refl; held = refl; shown = refl }

assume-apart : IsApart is_assume
assume-apart = record { plain = refl; enabled = refl; register = refl; held = refl; shown = refl }

cover-apart : IsApart is_cover
cover-apart = record { plain = refl; enabled = refl; register = refl; held = refl; shown = refl }

-- ---- claims

module _ (count : ℕ) (d e : DesignOf) (wired : IsWired d) (steps : LowersSome count d e) where
  module _ (v w : Valuation) (seen : IsSeen d e v w) where
    same-ports : (test : CellOf → Bool) (k : ℕ) (c : CellOf) → slice_get (filter test d.cells) k ≡ Some c → ports_in v c ≡ ports_in w c
    same-ports test k c h = let r = from-filter test d.cells k c h in ports-alike d.wires d.free v w seen.bits c (cell-wired d wired r.0 c r.1)

    assumed-from : Assumed e w → Assumed d v
    assumed-from a k c at =
        let there : slice_get (assumes e) k ≡ Some c = ap (λ (l : List CellOf). slice_get l k) (same-statements is_assume assume-apart count d e steps) ∙ at in
        subst (λ (q : Ports). IsTrue (not (is_set (q En)) || is_set (q A))) (sym (same-ports (λ (x : CellOf). is_assume x.kind) k c at)) (a k c there)

    assumed-to : Assumed d v → Assumed e w
    assumed-to a k c at =
        let there : slice_get (assumes d) k ≡ Some c = ap (λ (l : List CellOf). slice_get l k) (sym (same-statements is_assume assume-apart count d e steps)) ∙ at in
        subst (λ (q : Ports). IsTrue (not (is_set (q En)) || is_set (q A))) (same-ports (λ (x : CellOf). is_assume x.kind) k c there) (a k c there)

    broken-from : (a : ℕ) → Broken e w a → Broken d v a
    broken-from a b =
        let there : slice_get (asserts d) a ≡ Some b.0 = ap (λ (l : List CellOf). slice_get l a) (sym (same-statements is_assert assert-apart count d e steps)) ∙ b.1 in
        let ports = sym (same-ports (λ (x : CellOf). is_assert x.kind) a b.0 there) in
        (b.0, there, subst (λ (q : Ports). is_set (q En) ≡ true) ports b.2, subst (λ (q : Ports). is_set (q A) ≡ false) ports b.3)

    broken-to : (a : ℕ) → Broken d v a → Broken e w a
    broken-to a b =
        let there : slice_get (asserts e) a ≡ Some b.0 = ap (λ (l : List CellOf). slice_get l a) (same-statements is_assert assert-apart count d e steps) ∙ b.1 in
        let ports = same-ports (λ (x : CellOf). is_assert x.kind) a b.0 b.1 in
        (b.0, there, subst (λ (q : Ports). is_set (q En) ≡ true) ports b.2, subst (λ (q : Ports). is_set (q A) ≡ false) ports b.3)

    reached-from : (k : ℕ) → Reached e w k → Reached d v k
    reached-from k b =
        let there : slice_get (covers d) k ≡ Some b.0 = ap (λ (l : List CellOf). slice_get l k) (sym (same-statements is_cover cover-apart count d e steps)) ∙ b.1 in
        let ports = sym (same-ports (λ (x : CellOf). is_cover x.kind) k b.0 there) in
        (b.0, there, subst (λ (q : Ports). is_set (q En) ≡ true) ports b.2, subst (λ (q : Ports). is_set (q A) ≡ true) ports b.3)

    reached-to : (k : ℕ) → Reached d v k → Reached e w k
    reached-to k b =
        let there : slice_get (covers e) k ≡ Some b.0 = ap (λ (l : List CellOf). slice_get l k) (same-statements is_cover cover-apart count d e steps) ∙ b.1 in
        let ports = same-ports (λ (x : CellOf). is_cover x.kind) k b.0 b.1 in
        (b.0, there, subst (λ (q : Ports). is_set (q En) ≡ true) ports b.2, subst (λ (q : Ports). is_set (q A) ≡ true) ports b.3)

  pub shows-from : (n : ℕ) (ws : ℕ → Valuation) (a : ℕ) → Shows e n ws a → (vs : ℕ → Valuation) × Shows d n vs a
  shows-from n ws a s =
      let r = runs-from count d e wired steps n ws s.run in
      (r.0, record { run = r.1; assumed = λ t lt. assumed-from (r.0 t) (ws t) (r.2 t) (s.assumed t lt); last = λ t h. broken-from (r.0 t) (ws t) (r.2 t) a (s.last t h) })

  pub shows-to : (n : ℕ) (vs : ℕ → Valuation) (a : ℕ) → Shows d n vs a → (ws : ℕ → Valuation) × Shows e n ws a
  shows-to n vs a s =
      let r = runs-to count d e wired steps n vs s.run in
      (r.0, record { run = r.1; assumed = λ t lt. assumed-to (vs t) (r.0 t) (r.2 t) (s.assumed t lt); last = λ t h. broken-to (vs t) (r.0 t) (r.2 t) a (s.last t h) })

  pub reach-from : (n k : ℕ) (ws : ℕ → Valuation) → ReachRun e n ws k → (vs : ℕ → Valuation) × ReachRun d n vs k
  reach-from n k ws s =
      let r = runs-from count d e wired steps n ws s.run in
      (r.0, record { run = r.1; assumed = λ t lt. assumed-from (r.0 t) (ws t) (r.2 t) (s.assumed t lt); last = λ t h. reached-from (r.0 t) (ws t) (r.2 t) k (s.last t h) })

  pub reach-to : (n k : ℕ) (vs : ℕ → Valuation) → ReachRun d n vs k → (ws : ℕ → Valuation) × ReachRun e n ws k
  reach-to n k vs s =
      let r = runs-to count d e wired steps n vs s.run in
      (r.0, record { run = r.1; assumed = λ t lt. assumed-to (vs t) (r.0 t) (r.2 t) (s.assumed t lt); last = λ t h. reached-to (vs t) (r.0 t) (r.2 t) k (s.last t h) })

  pub break-to : (k n : ℕ) → NoBreak d k n → NoBreak e k n
  break-to k n h m ws a lt le s = let r = shows-from m ws a s in h m r.0 a lt le r.1

  pub break-from : (k n : ℕ) → NoBreak e k n → NoBreak d k n
  break-from k n h m vs a lt le s = let r = shows-to m vs a s in h m r.0 a lt le r.1

  pub unreached-to : (n k : ℕ) → NoReach d n k → NoReach e n k
  unreached-to n k h m ws le s = let r = reach-from m k ws s in h m r.0 le r.1

  pub unreached-from : (n k : ℕ) → NoReach e n k → NoReach d n k
  unreached-from n k h m vs le s = let r = reach-to m k vs s in h m r.0 le r.1
