-- The search before its first node, and after its last.
use Rattle.std.proofs.Common.{◌≡◌, ℕ, zero, suc, ◌<◌, Bool, true, false, List, [], Some, refl, sym, ◌∙◌, arith, length, replicate}
use Rattle.std.specs.Prelude.{slice_get}
use Rattle.std.proofs.lemmas.List.{length-replicate}
use Rattle.std.proofs.lemmas.Option.{get_or_from_slice_get}
use Rattle.digraph.specs.Graph.{Graph, HasEdge, Reaches, IsOnCycle, IsSorted}
use Rattle.digraph.specs.Search.{State, IsDone, Led}
use Rattle.digraph.specs.declared.search.Mark.{Mark}
use Rattle.digraph.specs.declared.search.Mark.TheVariants.{New, Open, Done}
use Rattle.digraph.proofs.Lists.{get-below, get-at}

replicate-only : {A : Type 0} (n k : ℕ) (x y : A) → slice_get (replicate n x) k ≡ Some y → x ≡ y
replicate-only zero k x y h = cc
replicate-only (suc n) zero x y h = cc
replicate-only (suc n) (suc k) x y h = replicate-only n k x y h

replicate-at : {A : Type 0} (n k : ℕ) (x : A) → k < n → slice_get (replicate n x) k ≡ Some x
replicate-at zero k x lt = absurd (omega arith)
replicate-at (suc n) zero x lt = refl
replicate-at (suc n) (suc k) x lt = replicate-at n k x (omega arith)

pub State-none : (g : Graph) → State g (replicate (length g) New) (replicate (length g) 0) [] [] [] [] (replicate (length g) false)
State-none g = record {
  marks_size = length-replicate (length g) New;
  cursors_size = length-replicate (length g) 0;
  cyclic_size = length-replicate (length g) false;
  opened = λ a p h. absurd (let e : New ≡ Open p = replicate-only (length g) a New (Open p) h in cc);
  stacked = λ p a h. absurd (cc);
  finished = λ a i h. absurd (let e : New ≡ Done i = replicate-only (length g) a New (Done i) h in cc);
  ordered = λ i a h. absurd (cc);
  fresh = λ a h. replicate-at (length g) a 0 (omega (arith, get-below (replicate (length g) New) a New h, length-replicate (length g) New));
  bounded = λ j x h. absurd (cc);
  rising = λ j k x y lt h i. absurd (cc);
  covered = λ p a h. absurd (cc);
  on_path = λ k a h. absurd (cc);
  path_rises = λ k l a b p q lt h i. absurd (cc);
  forward = λ p q a b le h i. absurd (cc);
  back = λ p q a b le h i. absurd (cc);
  scanned = λ a p m k b h. absurd (let e : New ≡ Open p = replicate-only (length g) a New (Open p) h in cc);
  awaits = λ a p h. absurd (let e : New ≡ Open p = replicate-only (length g) a New (Open p) h in cc);
  closed = λ a i b h. absurd (let e : New ≡ Done i = replicate-only (length g) a New (Done i) h in cc);
  earlier = λ a i b j h. absurd (let e : New ≡ Done i = replicate-only (length g) a New (Done i) h in cc);
  on_cycle = λ a i h. absurd (let e : New ≡ Done i = replicate-only (length g) a New (Done i) h in cc);
  on_none = λ a i h. absurd (let e : New ≡ Done i = replicate-only (length g) a New (Done i) h in cc);
}

pub none-done : (n a i : ℕ) → slice_get (replicate n New) a ≡ Some (Done i) → ⊥
none-done n a i h = let e : New ≡ Done i = replicate-only n a New (Done i) h in cc

module _ (g : Graph) (marks : List Mark) (cursors stack bounds order : List ℕ) (cyclic : List Bool) (s : State g marks cursors stack bounds [] order cyclic) where
  -- no node is open where the path is empty
  pub no-stack : (p a : ℕ) → slice_get stack p ≡ Some a → ⊥
  no-stack p a h = let c = s.covered p a h in let b = s.bounded c.0 c.1 c.2 in let at = b.3 in absurd (cc)

  pub no-leads : (w : ℕ) → (p a : ℕ) → slice_get stack p ≡ Some a → Reaches g a w
  no-leads w p a h = absurd (no-stack p a h)

  module _ (leaders : List ℕ) (l : Led g marks leaders) (seen : (a : ℕ) → a < length g → slice_get marks a ≡ Some New → ⊥) where
    done-by : (a : ℕ) (m : Mark) → a < length g → slice_get marks a ≡ Some m → IsDone marks a
    done-by a New lt h = absurd (seen a lt h)
    done-by a (Open p) lt h = absurd (no-stack p a (s.opened a p h))
    done-by a (Done i) lt h = (i, h)

    all-done : (a : ℕ) → a < length g → IsDone marks a
    all-done a lt = let m = get-at marks a (omega (arith, s.marks_size)) in done-by a m.0 lt m.1

    node : (k a : ℕ) → slice_get order k ≡ Some a → a < length g
    node k a h = omega (arith, get-below marks a (Done k) (s.ordered k a h), s.marks_size)

    flag : (a : ℕ) → a < length g → (b : Bool) × (slice_get cyclic a ≡ Some b)
    flag a lt = get-at cyclic a (omega (arith, s.cyclic_size))

    by-flag : (a i : ℕ) (b : Bool) → slice_get marks a ≡ Some (Done i) → slice_get cyclic a ≡ Some b → IsOnCycle g a → slice_get cyclic a ≡ Some true
    by-flag a i true h k cycle = k
    by-flag a i false h k cycle = absurd (s.on_none a i h k cycle)

    earlier-by : (k l a b : ℕ) (f : Bool) → slice_get cyclic a ≡ Some f → slice_get order k ≡ Some a → slice_get order l ≡ Some b → HasEdge g a b → (IsOnCycle g a → ⊥) → l < k
    earlier-by k l a b true is h i e none = absurd (none (s.on_cycle a k (s.ordered k a h) is))
    earlier-by k l a b false is h i e none = s.earlier a k b l (s.ordered k a h) is e (s.ordered l b i)

    same-place : (k l : ℕ) → Some (Done k) ≡ Some (Done l) → k ≡ l
    same-place k l e = cc

    leader : (a : ℕ) → a < length g → (m : ℕ) × (slice_get leaders a ≡ Some m)
    leader a lt = get-at leaders a (omega (arith, l.size))

    both : (a b : ℕ) → a < length g → b < length g → slice_get leaders a ≡ slice_get leaders b → Reaches g a b × Reaches g b a
    both a b la lb e =
        let da = all-done a la in
        let db = all-done b lb in
        let m = leader a la in
        (l.led a da.0 b db.0 m.0 da.1 db.1 m.1 (sym e ∙ m.1), l.led b db.0 a da.0 m.0 db.1 da.1 (sym e ∙ m.1) m.1)

    pub IsSorted-end : IsSorted g order cyclic leaders
    IsSorted-end = record {
      nodes = node;
      all = λ a lt. let d = all-done a lt in let at = s.finished a d.0 d.1 in (d.0, get-below order d.0 a at, get_or_from_slice_get order d.0 a a at);
      once = λ k l a h i. same-place k l (sym (s.ordered k a h) ∙ s.ordered l a i);
      marked = s.cyclic_size;
      cycles = λ a lt. let d = all-done a lt in let b = flag a lt in (λ h. s.on_cycle a d.0 d.1 h, λ cycle. by-flag a d.0 b.0 d.1 b.1 cycle);
      earlier = λ k n a b h i e none. let f = flag a (node k a h) in earlier-by k n a b f.0 f.1 h i e none;
      led = l.size;
      led_within = λ a m h.
          let d = all-done a (omega (arith, get-below leaders a m h, l.size)) in
          let e = l.leader_done a d.0 m d.1 h in
          omega (arith, get-below marks m (Done e.0) e.1, s.marks_size);
      led_own = λ a m h. let d = all-done a (omega (arith, get-below leaders a m h, l.size)) in l.own a d.0 m d.1 h;
      parts = λ a b la lb. (both a b la lb, λ r. let da = all-done a la in let db = all-done b lb in l.one a da.0 b db.0 da.1 db.1 r.0 r.1);
    }
