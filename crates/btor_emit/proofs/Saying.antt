-- Lines that say something of a cycle.
use Rattle.std.proofs.Common.{◌≡◌, inl, inr, ℕ, zero, suc, ◌+◌, ◌<◌, ◌≤◌, Bool, List, [], ◌∷◌, ◌++◌, Some, None, length, take, drop, refl, sym, ap, subst, ◌∙◌, arith, append_assoc, length-append, get_or}
use Rattle.std.specs.Prelude.{slice_get, All}
use Rattle.std.proofs.lemmas.List.{append-nil, take_more}
use Rattle.std.proofs.lemmas.List.Elements.{All-cons, All-nil}
use Rattle.std.proofs.lemmas.Option.{slice_get_within, slice_get-get_or}
use Rattle.btor_core.specs.Fits.{IsBtor}
use Rattle.btor_core.specs.Growth.{with_body}
use Rattle.btor_core.specs.Meaning.{Holds, Values}
use Rattle.btor_core.specs.Shape.{BtorOf, bads, constraints, inits, nexts, open_words}
use Rattle.btor_core.specs.declared.line.Body.{Body}
use Rattle.btor_core.specs.declared.line.Body.TheVariants as body
use Rattle.btor_core.specs.declared.line.Line.{Line}
use Rattle.btor_core.specs.declared.line.Word.{Word}
use Rattle.btor_core.proofs.Choosing.{front_holds}
use Rattle.btor_core.proofs.Growing.{bads_body, constraints_body, grows_body, grows_on, grows_same, inits_body, nexts_body, open_body}
use Rattle.btor_emit.specs.Nodes.{IsReady}
use Rattle.btor_emit.specs.Said.{AreSaid, Says, is_broken, is_held, is_reached}
use Rattle.btor_emit.specs.Table.{AreSeats, Puts, Table, cycle_of}
use Rattle.btor_emit.proofs.Leaves.{seats_grow}
use Rattle.model_core.specs.Meaning.{Cycle}
use Rattle.model_core.specs.Shape.{IsStatement}
use Rattle.model_core.specs.declared.model.Statement.{Statement}
use Rattle.model_core.proofs.Lists.{all_at, push-either}

-- one place that stands in the table
pub ready_one : (m : BtorOf) (t : Table) (p : ℕ) → IsBtor m → AreSeats m t → p < length t → IsReady m t (p ∷ [])
ready_one m t p btor seats inside = record { btor = btor; seats = seats; inside = All-cons (λ (q : ℕ). q < length t) p [] inside (All-nil (λ (q : ℕ). q < length t)); width = (omega arith, omega arith) }

module _ (m0 m1 : BtorOf) (t0 t1 : Table) (a : Word) (bit : Values → Bool) (put : Puts m0 m1 t0 t1 a 1 12 (λ vs. bit vs ∷ [])) where
  abbrev add : Body → BtorOf
  add b = with_body m1 b

  -- a line of neither a word nor a state's, whose number one list gains
  line_says : (of other : List Line → List ℕ) (b : Body) → open_words (add b).lines ≡ open_words m1.lines → inits (add b).lines ≡ inits m1.lines → nexts (add b).lines ≡ nexts m1.lines
      → of (add b).lines ≡ of m0.lines ++ a.nid ∷ [] → other (add b).lines ≡ other m0.lines → IsBtor (add b) → Says of other m0 (add b) t0 t1 bit
  line_says of other b opened begun next more kept btor =
      let s = put.turns.adds in
      let g = grows_body m1 b in
      let m2 : BtorOf = with_body m1 b in
      record {
        n = a.nid;
        only = record {
          btor = btor;
          grows = grows_on m0 m1 m2 s.grows g;
          opened = opened ∙ s.opened;
          inits = begun ∙ s.lists.inits;
          nexts = next ∙ s.lists.nexts;
          more = more;
          kept = kept;
          size = put.turns.size;
          seats = seats_grow m1 m2 t1 btor g put.turns.seats;
          same = λ vs h p. put.turns.same vs (front_holds m1 m2 s.btor g vs h) p;
          few = (let f = s.few in let k = length-append m1.lines (record { nid = suc (length m1.lines); body = b } ∷ []) in omega arith);
        };
        holds = λ vs h. s.holds vs (front_holds m1 m2 s.btor g vs h);
      }

  pub says_constraint : (m2 : BtorOf) → m2 ≡ with_body m1 (body.Constraint a.nid) → IsBtor m2 → Says constraints bads m0 m2 t0 t1 bit
  says_constraint m2 e btor =
      let b : Body = body.Constraint a.nid in
      let lists = put.turns.adds.lists in
      subst (λ (m : BtorOf). Says constraints bads m0 m t0 t1 bit) (sym e)
      (line_says constraints bads b (open_body m1 b ∙ append-nil (open_words m1.lines)) (inits_body m1 b ∙ append-nil (inits m1.lines)) (nexts_body m1 b ∙ append-nil (nexts m1.lines))
      (constraints_body m1 b ∙ ap (λ (ns : List ℕ). ns ++ a.nid ∷ []) lists.constraints) (bads_body m1 b ∙ append-nil (bads m1.lines) ∙ lists.bads) (subst IsBtor e btor))

  pub says_bad : (m2 : BtorOf) → m2 ≡ with_body m1 (body.Bad a.nid) → IsBtor m2 → Says bads constraints m0 m2 t0 t1 bit
  says_bad m2 e btor =
      let b : Body = body.Bad a.nid in
      let lists = put.turns.adds.lists in
      subst (λ (m : BtorOf). Says bads constraints m0 m t0 t1 bit) (sym e)
      (line_says bads constraints b (open_body m1 b ∙ append-nil (open_words m1.lines)) (inits_body m1 b ∙ append-nil (inits m1.lines)) (nexts_body m1 b ∙ append-nil (nexts m1.lines))
      (bads_body m1 b ∙ ap (λ (ns : List ℕ). ns ++ a.nid ∷ []) lists.bads) (constraints_body m1 b ∙ append-nil (constraints m1.lines) ∙ lists.constraints) (subst IsBtor e btor))

abbrev pub no_statement : Statement
no_statement = record { a = 0; en = 0 }

module _ (of other : List Line → List ℕ) (holds : Cycle → Statement → Bool) where
  pub said_none : (m : BtorOf) (t : Table) → IsBtor m → AreSeats m t → AreSaid of other m m t t [] holds
  said_none m t btor seats = record {
    said = [];
    only = record {
      btor = btor;
      grows = grows_same m;
      opened = refl;
      inits = refl;
      nexts = refl;
      more = sym (append-nil (of m.lines));
      kept = refl;
      size = refl;
      seats = seats;
      same = λ vs h p. refl;
      few = omega arith;
    };
    long = refl;
    each = λ k n s at. absurd (let c : None ≡ Some s = at in cc);
  }

  pub said_more : (m0 m1 m2 : BtorOf) (t0 t1 t2 : Table) (ss now : List Statement) (s : Statement) → now ≡ ss ++ s ∷ [] → AreSaid of other m0 m1 t0 t1 ss holds → Says of other m1 m2 t1 t2 (λ vs. holds (cycle_of t1 vs) s) → ((c d : Cycle) → ((p : ℕ) → d p ≡ c p) → holds d s ≡ holds c s)
      → AreSaid of other m0 m2 t0 t2 now holds
  said_more m0 m1 m2 t0 t1 t2 ss now s e old new local =
      let o = old.only in
      let n = new.only in
      let back : (vs : Values) → Holds m2 vs → Holds m1 vs = λ vs h. front_holds m1 m2 o.btor n.grows vs h in
      let one : length now ≡ length ss + 1 = ap (λ (us : List Statement). length us) e ∙ length-append ss (s ∷ []) in
      record {
        said = old.said ++ new.n ∷ [];
        only = record {
          btor = n.btor;
          grows = grows_on m0 m1 m2 o.grows n.grows;
          opened = n.opened ∙ o.opened;
          inits = n.inits ∙ o.inits;
          nexts = n.nexts ∙ o.nexts;
          more = n.more ∙ ap (λ (ns : List ℕ). ns ++ new.n ∷ []) o.more ∙ append_assoc (of m0.lines) old.said (new.n ∷ []);
          kept = n.kept ∙ o.kept;
          size = n.size ∙ o.size;
          seats = n.seats;
          same = λ vs h p. n.same vs h p ∙ o.same vs (back vs h) p;
          few = (let f = o.few in let g = n.few in omega arith);
        };
        long = length-append old.said (new.n ∷ []) ∙ (let l = old.long in omega arith);
        each = λ k v u at there vs h.
            let x = push-either ss s u k (subst (λ (us : List Statement). slice_get us k ≡ Some u) e at) in
            let y = push-either old.said new.n v k there in
            elim x as (λ _. vs v ≡ holds (cycle_of t0 vs) u ∷ []) [
              | inl a ↦ elim y as (λ _. vs v ≡ holds (cycle_of t0 vs) u ∷ []) [
                | inl b ↦ old.each k v u a b vs (back vs h)
                | inr b ↦ absurd (let l = slice_get_within ss k u a in let w = old.long in let z = b.0 in omega arith)
              ]
              | inr a ↦ elim y as (λ _. vs v ≡ holds (cycle_of t0 vs) u ∷ []) [
                | inl b ↦ absurd (let l = slice_get_within old.said k v b in let w = old.long in let z = a.0 in omega arith)
                | inr b ↦ ap vs b.1 ∙ new.holds vs h ∙ ap (λ (x : Bool). x ∷ []) (local (cycle_of t0 vs) (cycle_of t1 vs) (λ p. o.same vs (back vs h) p) ∙ ap (λ (w : Statement). holds (cycle_of t0 vs) w) (sym a.1))
              ]
            ];
      }

  -- the statements before place k are said, and that at k can be
  module _ (m0 m1 : BtorOf) (t0 t1 : Table) (ss : List Statement) (k : ℕ) (l : k < length ss) (old : AreSaid of other m0 m1 t0 t1 (take k ss) holds) where
    pub ready_next : All (IsStatement (length t0)) ss → IsReady m1 t1 ((get_or ss k no_statement).a ∷ []) × IsReady m1 t1 ((get_or ss k no_statement).en ∷ [])
    ready_next inside =
        let s = get_or ss k no_statement in
        let w = all_at (IsStatement (length t0)) ss k s inside (slice_get-get_or ss k no_statement l) in
        let a = w.0 in
        let en = w.1 in
        let o = old.only in
        let z = o.size in
        (ready_one m1 t1 s.a o.btor o.seats (omega arith), ready_one m1 t1 s.en o.btor o.seats (omega arith))

    pub said_next : (m2 : BtorOf) (t2 : Table) → Says of other m1 m2 t1 t2 (λ vs. holds (cycle_of t1 vs) (get_or ss k no_statement)) → ((c d : Cycle) → ((p : ℕ) → d p ≡ c p) → holds d (get_or ss k no_statement) ≡ holds c (get_or ss k no_statement))
        → AreSaid of other m0 m2 t0 t2 (take (k + 1) ss) holds
    said_next m2 t2 new local = said_more m0 m1 m2 t0 t1 t2 (take k ss) (take (k + 1) ss) (get_or ss k no_statement) (take_more ss k no_statement l) old new local

pub local_held : (c d : Cycle) (s : Statement) → ((p : ℕ) → d p ≡ c p) → is_held d s ≡ is_held c s
local_held c d s h = rw (h s.a, h s.en) refl

pub local_broken : (c d : Cycle) (s : Statement) → ((p : ℕ) → d p ≡ c p) → is_broken d s ≡ is_broken c s
local_broken c d s h = rw (h s.a, h s.en) refl

pub local_reached : (c d : Cycle) (s : Statement) → ((p : ℕ) → d p ≡ c p) → is_reached d s ≡ is_reached c s
local_reached c d s h = rw (h s.a, h s.en) refl

-- one element from a place on
pub one_from : (xs : List Statement) (k : ℕ) (x : Statement) → slice_get xs k ≡ Some x → take 1 (drop k xs) ≡ x ∷ []
one_from [] k x h = absurd (let c : None ≡ Some x = h in cc)
one_from (y ∷ xs) zero x h = let e : y ≡ x = cc in ap (λ (z : Statement). z ∷ []) e
one_from (y ∷ xs) (suc k) x h = one_from xs k x h

pub none_from : (xs : List Statement) (k : ℕ) → length xs ≤ k → take 1 (drop k xs) ≡ []
none_from [] zero l = refl
none_from [] (suc k) l = refl
none_from (y ∷ xs) zero l = absurd (omega arith)
none_from (y ∷ xs) (suc k) l = none_from xs k (omega arith)
