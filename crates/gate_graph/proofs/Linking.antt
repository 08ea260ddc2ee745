-- Entries of a table are linked, found and taken back.
use Rattle.std.proofs.Common.{◌≡◌, ◌⊎◌, inl, inr, ℕ, zero, suc, ◌+◌, ◌<◌, ◌≤◌, ◌≢◌, List, [], ◌∷◌, ◌++◌, Some, length, get_or, set, take, replicate, refl, sym, ap, subst, ◌∙◌, arith}
use Rattle.std.specs.Prelude.{Contains, slice_get}
use Rattle.std.proofs.lemmas.Bool.{cases_eq, cases_lt}
use Rattle.std.proofs.lemmas.List.{length-append}
use Rattle.std.proofs.lemmas.Option.{get_or_from_slice_get, slice_get-get_or, slice_get_read, slice_get_within}
use Rattle.cnf_form.specs.Cnf.{LitOf}
use Rattle.gate_graph.specs.declared.gate.Gate.{Gate}
use Rattle.gate_graph.specs.Places.{AreLinked, HasPlaces, IsLink, IsTable, place_of}

set_at : {A : Type 0} (xs : List A) (x : ℕ) (v : A) → x < length xs → slice_get (set xs x v) x ≡ Some v
set_at [] x v l = absurd (omega arith)
set_at (y ∷ xs) zero v l = refl
set_at (y ∷ xs) (suc x) v l = set_at xs x v (omega arith)

set_beside : {A : Type 0} (xs : List A) (x p : ℕ) (v : A) → (p ≡ x → ⊥) → slice_get (set xs x v) p ≡ slice_get xs p
set_beside [] x p v n = refl
set_beside (y ∷ xs) zero zero v n = absurd (n refl)
set_beside (y ∷ xs) zero (suc p) v n = refl
set_beside (y ∷ xs) (suc x) zero v n = refl
set_beside (y ∷ xs) (suc x) (suc p) v n = set_beside xs x p v (λ e. n (ap suc e))

-- what is written at a place is there
written : (xs : List ℕ) (x p v m : ℕ) → x < length xs → p ≡ x → slice_get (set xs x v) p ≡ Some m → m ≡ v
written xs x p v m h e at = let s : slice_get (set xs x v) p ≡ Some v = subst (λ (q : ℕ). slice_get (set xs x v) q ≡ Some v) (sym e) (set_at xs x v h) in cc

same_gate : (entries : List (Gate × LitOf)) (n i : ℕ) (k j : Gate) (l m : LitOf) → i ≡ n → slice_get entries n ≡ Some (k, l) → slice_get entries i ≡ Some (j, m) → k ≡ j
same_gate entries n i k j l m e a b =
    let c : slice_get entries n ≡ Some (j, m) = subst (λ (q : ℕ). slice_get entries q ≡ Some (j, m)) e b in
    let p : (let x : Gate × LitOf = (k, l) in x) ≡ (j, m) = cc in
    ap (λ (x : Gate × LitOf). x.0) p

last_or_less : (i n : ℕ) → i < n + 1 → (i < n) ⊎ (i ≡ n)
last_or_less i n h = elim (cases_lt i n) as (λ _. (i < n) ⊎ (i ≡ n)) [ inl x ↦ inl x | inr x ↦ inr (omega arith) ]

module _ (place : Gate → ℕ) where
  -- lists that have the same first entries
  module _ (xs ys : List (Gate × LitOf)) (n : ℕ) (same : (i : ℕ) → i < n → slice_get ys i ≡ slice_get xs i) where
    link_front : (m p link : ℕ) → m ≤ n → IsLink place xs m p link → IsLink place ys m p link
    link_front m p link h old = record {
      below = old.below;
      last = λ i k l b e f. old.last i k l b (sym (same i (omega arith)) ∙ e) f;
      same = λ i k l s e. let b = old.below in old.same i k l s (sym (same i (omega arith)) ∙ e);
    }

    pub linked_front : (heads links : List ℕ) → AreLinked place heads links xs n → AreLinked place heads links ys n
    linked_front heads links old = record {
      at_heads = λ p link at. link_front n p link (omega arith) (old.at_heads p link at);
      at_links = λ i link k l h e at. link_front i (place k) link (omega arith) (old.at_links i link k l h (sym (same i h) ∙ e) at);
    }

  pub linked_none : (count : ℕ) (links : List ℕ) (entries : List (Gate × LitOf)) → AreLinked place (replicate count 0) links entries 0
  linked_none count links entries = record {
    at_heads = λ p link at. let e = zero_at count p link at in record {
      below = omega arith;
      last = λ i k l h. absurd (omega arith);
      same = λ i k l s. absurd (omega arith);
    };
    at_links = λ i link k l h. absurd (omega arith);
  }
    where
      zero_at : (count p link : ℕ) → slice_get (replicate count 0) p ≡ Some link → link ≡ 0
      zero_at zero p link h = absurd cc
      zero_at (suc n) zero link h = cc
      zero_at (suc n) (suc p) link h = zero_at n p link h

  module _ (heads links : List ℕ) (entries : List (Gate × LitOf)) (n : ℕ) (k : Gate) (l : LitOf) (link : ℕ) (inside : place k < length heads) (at : slice_get entries n ≡ Some (k, l)) where
    -- one more entry: it is the last at its place, and the one before it is the one that was
    pub linked_next : n < length links → slice_get heads (place k) ≡ Some link → AreLinked place heads links entries n → AreLinked place (set heads (place k) (n + 1)) (set links n link) entries (n + 1)
    linked_next long head old = record { at_heads = λ p m h. by_place p m h (cases_eq p (place k)); at_links = λ i m j o h e f. by_number i m j o e f (last_or_less i n h) }
      where
        by_place : (p m : ℕ) → slice_get (set heads (place k) (n + 1)) p ≡ Some m → (p ≡ place k) ⊎ (p ≢ place k) → IsLink place entries (n + 1) p m
        by_place p m h (inl q) =
            let e = written heads (place k) p (n + 1) m inside q h in
            record {
              below = omega arith;
              last = λ i j o b f g. omega arith;
              same = λ i j o s f. ap place (sym (same_gate entries n i k j l o (omega arith) at f)) ∙ sym q;
            }
        by_place p m h (inr ne) =
            let was = old.at_heads p m (sym (set_beside heads (place k) p (n + 1) ne) ∙ h) in
            let b = was.below in
            record {
              below = omega arith;
              last = λ i j o c f g. elim (last_or_less i n c) as (λ _. i < m) [
                | inl x ↦ was.last i j o x f g
                | inr x ↦ absurd (ne (sym g ∙ ap place (sym (same_gate entries n i k j l o x at f))))
              ];
              same = was.same;
            }

        by_number : (i m : ℕ) (j : Gate) (o : LitOf) → slice_get entries i ≡ Some (j, o) → slice_get (set links n link) i ≡ Some m → (i < n) ⊎ (i ≡ n) → IsLink place entries i (place j) m
        by_number i m j o e f (inl x) = old.at_links i m j o x e (sym (set_beside links n i link (λ q. absurd (omega arith))) ∙ f)
        by_number i m j o e f (inr x) =
            let v = written links n i link m long x f in
            let s = same_gate entries n i k j l o x at e in
            rw (x, v, sym s) (old.at_heads (place k) link head)

-- the entries that have the gate stand before the link, and what the link names has its place
pub record IsAhead (place : Gate → ℕ) (entries : List (Gate × LitOf)) (k : Gate) (link : ℕ) : Type 0 where
  pub below : link ≤ length entries
  pub all : (i : ℕ) (l : LitOf) → slice_get entries i ≡ Some (k, l) → i < link
  pub same : (i : ℕ) (j : Gate) (l : LitOf) → suc i ≡ link → slice_get entries i ≡ Some (j, l) → place j ≡ place k

pub ahead_first : (place : Gate → ℕ) (entries : List (Gate × LitOf)) (k : Gate) (link : ℕ) → IsLink place entries (length entries) (place k) link → IsAhead place entries k link
ahead_first place entries k link first = record {
  below = first.below;
  all = λ i l e. first.last i k l (slice_get_within entries i (k, l) e) e refl;
  same = first.same;
}

pub ahead_next : (place : Gate → ℕ) (entries : List (Gate × LitOf)) (k j : Gate) (l : LitOf) (number link next : ℕ) → suc number ≡ link → slice_get entries number ≡ Some (j, l) → (j ≡ k → ⊥) →
    IsLink place entries number (place j) next → IsAhead place entries k link → IsAhead place entries k next
ahead_next place entries k j l number link next is at other chain before =
    let b = before.below in
    let c = chain.below in
    let same : place j ≡ place k = before.same number j l is at in
    record {
      below = omega arith;
      all = λ i m e. let h = before.all i m e in elim (last_or_less i number (omega arith)) as (λ _. i < next) [
        | inl x ↦ chain.last i k m x e (sym same)
        | inr x ↦ absurd (other (same_gate entries number i j k l m x at e))
      ];
      same = λ i o m s e. chain.same i o m s e ∙ same;
    }

pub ahead_none : (place : Gate → ℕ) (entries : List (Gate × LitOf)) (k : Gate) (link : ℕ) → link ≡ 0 → IsAhead place entries k link → (l : LitOf) → Contains entries (k, l) → ⊥
ahead_none place entries k link e before l c =
    let h = before.all c.0 l (slice_get-get_or entries c.0 (k, l) c.1 ∙ ap Some c.2) in
    absurd (omega arith)

pub contained_at : (entries : List (Gate × LitOf)) (e : Gate × LitOf) (k : ℕ) → slice_get entries k ≡ Some e → Contains entries e
contained_at entries e k at = (k, slice_get_within entries k e at, get_or_from_slice_get entries k e e at)

pub take_front : {A : Type 0} (xs rest : List A) (n : ℕ) → n ≡ length xs → take n (xs ++ rest) ≡ xs
take_front [] rest zero e = refl
take_front [] rest (suc n) e = absurd (omega arith)
take_front (x ∷ xs) rest zero e = absurd (omega arith)
take_front (x ∷ xs) rest (suc n) e = ap (λ (zs : List _). x ∷ zs) (take_front xs rest n (omega arith))

push_before : {A : Type 0} (xs : List A) (x : A) (i : ℕ) → i < length xs → slice_get (xs ++ x ∷ []) i ≡ slice_get xs i
push_before [] x i h = absurd (omega arith)
push_before (y ∷ xs) x zero h = refl
push_before (y ∷ xs) x (suc i) h = push_before xs x i (omega arith)

push_at : {A : Type 0} (xs : List A) (x : A) → slice_get (xs ++ x ∷ []) (length xs) ≡ Some x
push_at [] x = refl
push_at (y ∷ xs) x = push_at xs x

linked_more : (place : Gate → ℕ) (heads links : List ℕ) (entries : List (Gate × LitOf)) (link n : ℕ) → n ≤ length links → AreLinked place heads links entries n → AreLinked place heads (links ++ link ∷ []) entries n
linked_more place heads links entries link n long old = record {
  at_heads = old.at_heads;
  at_links = λ i m k l h e at. old.at_links i m k l h e (sym (push_before links link i (omega arith)) ∙ at);
}

module _ (heads links : List ℕ) (entries : List (Gate × LitOf)) (table : IsTable heads links entries) where
  -- the link at an entry
  pub chain_at : (number next : ℕ) (e : Gate × LitOf) → number < length entries → slice_get entries number ≡ Some e → next ≡ get_or links number next →
      IsLink (place_of (length heads)) entries number (place_of (length heads) e.0) next
  chain_at number next e h at is =
      let m = table.places.many in
      table.linked.at_links number next e.0 e.1 h at (slice_get_read links (length links) number next refl (omega arith) is)

  -- a link more than there are entries
  pub table_more : (link : ℕ) → IsTable heads (links ++ link ∷ []) entries
  table_more link =
      let n = length-append links (link ∷ []) in
      let m = table.places.many in
      record {
        places = record { some = table.places.some; few = table.places.few; room = table.places.room; many = omega arith };
        linked = linked_more (place_of (length heads)) heads links entries link (length entries) m table.linked;
      }

  pub table_push : (hs ls : List ℕ) (k : Gate) (l : LitOf) → HasPlaces hs ls (length entries + 1) → length hs ≡ length heads →
      ((es : List (Gate × LitOf)) (m : LitOf) → slice_get es (length entries) ≡ Some (k, m) → AreLinked (place_of (length heads)) heads links es (length entries)
      → AreLinked (place_of (length heads)) hs ls es (length entries + 1)) → IsTable hs ls (entries ++ (k, l) ∷ [])
  table_push hs ls k l places size step =
      let es : List (Gate × LitOf) = entries ++ (k, l) ∷ [] in
      let n : length es ≡ length entries + 1 = length-append entries ((k, l) ∷ []) in
      let before = linked_front (place_of (length heads)) entries es (length entries) (push_before entries (k, l)) heads links table.linked in
      record {
        places = rw n places;
        linked = rw (n, size) (step es l (push_at entries (k, l)) before);
      }
