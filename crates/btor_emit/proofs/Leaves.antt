-- States and inputs, as lines that were added.
use Rattle.std.proofs.Common.{◌≡◌, ℕ, suc, ◌+◌, ◌<◌, ◌≤◌, ◌≢◌, true, false, cond, eqb, List, [], ◌∷◌, ◌++◌, length, get_or, refl, sym, ap, subst, ◌∙◌, inl, inr, arith, length-append}
use Rattle.std.proofs.lemmas.List.{append-nil}
use Rattle.std.proofs.lemmas.List.Elements.{All-nil}
use Rattle.sby_bits.specs.Rows.{Row}
use Rattle.btor_core.specs.Fits.{IsBtor, IsUntied, IsWidth, MayStart}
use Rattle.btor_core.specs.Growth.{Grows, IsNumbered, Pushed, sort_nid, with_body, with_sort, with_value}
use Rattle.btor_core.specs.Shape.{BtorOf, TieOf, at_nid, inits, nexts, constraints, bads, open_nodes_of, open_words, state_at, state_node_width, state_width, value_width, width_at}
use Rattle.btor_core.specs.declared.line.Body.{Body}
use Rattle.btor_core.specs.declared.line.Body.TheVariants as body
use Rattle.btor_core.specs.declared.line.Line.{Line}
use Rattle.btor_core.specs.declared.line.Node.{Node}
use Rattle.btor_core.specs.declared.line.Node.TheVariants as node
use Rattle.btor_core.specs.declared.line.Word.{Word}
use Rattle.btor_core.proofs.Choosing.{front_holds}
use Rattle.btor_core.proofs.Fitting.{width_stays}
use Rattle.btor_core.proofs.Growing.{bads_body, constraints_body, grows_body, grows_on, inits_body, nexts_body, open_body}
use Rattle.btor_core.proofs.Numbering.{numbered_sort, numbers_below}
use Rattle.btor_core.proofs.Reading.{at_below, at_new, same_nid}
use Rattle.btor_words.specs.Emitting.{Emits, IsWord}
use Rattle.btor_words.proofs.Emitting.{has_value}
use Rattle.btor_emit.specs.Emitting.{IsOpened, IsStarted}
use Rattle.btor_emit.specs.Table.{AreSeats, IsSeat, Table}
use Rattle.btor_emit.specs.declared.table.Seat.{Seat}
use Rattle.btor_emit.specs.declared.table.Seat.TheVariants.{Bit, Digit}

-- what is read of a value's line stays
pub reads_stay : (read : Body → ℕ) (xs ys : List Line) (k : ℕ) → 1 ≤ width_at xs k → at_nid read (xs ++ ys) k ≡ at_nid read xs k
reads_stay read [] ys k h = absurd (omega arith)
reads_stay read (x ∷ xs) ys k h =
    elim (same_nid x.nid k) as (λ _. at_nid read ((x ∷ xs) ++ ys) k ≡ at_nid read (x ∷ xs) k) [
      | inl p ↦ rw p.1 refl
      | inr p ↦ let old : 1 ≤ width_at xs k = rw p at h in rw p (reads_stay read xs ys k old)
    ]

pub state_width_stays : (m n : BtorOf) (a : Word) → Grows m n → IsWord m a → state_at n.lines a.nid ≡ state_at m.lines a.nid
state_width_stays m n a g w = ap (λ (ls : List Line). state_at ls a.nid) g.lines ∙ reads_stay state_width m.lines g.more a.nid (let e = w.width in let s = w.size.0 in omega arith)

-- which line it is
kind_of : (m n : BtorOf) (w : ℕ) (x : Node) (a : Word) → IsNumbered m.lines → n ≡ with_value m w x → a.nid ≡ length n.lines → state_at n.lines a.nid ≡ state_node_width w x
kind_of m n w x a numbered is nid =
    let s : BtorOf = with_sort m w in
    let l : Line = record { nid = suc (length s.lines); body = body.Value (sort_nid s.lines w) w x } in
    let long : length n.lines ≡ suc (length s.lines) = ap (λ (z : BtorOf). length z.lines) is ∙ length-append s.lines (l ∷ []) ∙ (let q : length s.lines + 1 ≡ suc (length s.lines) = omega arith in q) in
    ap (λ (z : BtorOf). state_at z.lines a.nid) is ∙ ap (λ (k : ℕ). state_at (s.lines ++ l ∷ []) k) (nid ∙ long) ∙ at_new state_width s.lines [] l (numbers_below s.lines (numbered_sort m w numbered))

-- one sort and one value at most
sort_few : (m : BtorOf) (w : ℕ) → (length m.lines ≤ length (with_sort m w).lines) × (length (with_sort m w).lines ≤ length m.lines + 1)
sort_few m w =
    elim (eqb (sort_nid m.lines w) 0) as (λ b. (length m.lines ≤ length (cond b (with_body m (body.Sort w)) m).lines) × (length (cond b (with_body m (body.Sort w)) m).lines ≤ length m.lines + 1)) [
      | true ↦ (let a = length-append m.lines (record { nid = suc (length m.lines); body = body.Sort w } ∷ []) in (omega arith, omega arith))
      | false ↦ (omega arith, omega arith)
    ]

value_few : (m n : BtorOf) (w : ℕ) (x : Node) → n ≡ with_value m w x → (length m.lines < length n.lines) × (length n.lines ≤ length m.lines + 2)
value_few m n w x is =
    let s : BtorOf = with_sort m w in
    let f = sort_few m w in
    let low = f.0 in
    let high = f.1 in
    let long : length n.lines ≡ length s.lines + 1 = ap (λ (z : BtorOf). length z.lines) is ∙ length-append s.lines (record { nid = suc (length s.lines); body = body.Value (sort_nid s.lines w) w x } ∷ []) in
    (omega arith, omega arith)

pub opened_one : (m n : BtorOf) (w : ℕ) (x : Node) (a : Word) → IsNumbered m.lines → IsBtor n → IsWidth w → n ≡ with_value m w x → a ≡ record { nid = length n.lines; width = w } → Pushed m n w x a → open_nodes_of a.nid w x ≡ record { nid = a.nid; width = w } ∷ []
    → IsOpened m n a w x []
opened_one m n w x a numbered btor width is name p leaf =
    let same : record { nid = a.nid; width = w } ≡ a = ap (λ (k : ℕ). record { nid = a.nid; width = k }) (sym p.size) in
    record {
      btor = btor;
      grows = p.grows;
      opened = p.opened ∙ ap (λ (ws : List Word). open_words m.lines ++ ws) (leaf ∙ ap (λ (b : Word). b ∷ []) same);
      inits = p.lists.inits ∙ sym (append-nil (inits m.lines));
      nexts = p.lists.nexts;
      constraints = p.lists.constraints;
      bads = p.lists.bads;
      word = record { btor = btor; size = subst IsWidth (sym p.size) width; width = p.width ∙ sym p.size };
      size = p.size;
      kind = kind_of m n w x a numbered is (ap (λ (b : Word). b.nid) name);
      later = (let f = (value_few m n w x is).0 in let nid : a.nid ≡ length n.lines = ap (λ (b : Word). b.nid) name in omega arith);
      few = (value_few m n w x is).1;
    }

-- words and seats stay as lines are added
pub word_grows : (m n : BtorOf) (a : Word) → IsBtor n → Grows m n → IsWord m a → IsWord n a
word_grows m n a btor g w = record { btor = btor; size = w.size; width = width_stays m n g a.nid (has_value w) ∙ w.width }

seat_grows : (m n : BtorOf) (s : Seat) → IsBtor n → Grows m n → IsSeat m s → IsSeat n s
seat_grows m n (Digit x) btor g is = is
seat_grows m n (Bit w i) btor g is = (word_grows m n w btor g is.0, is.1)

pub seats_grow : (m n : BtorOf) (table : Table) → IsBtor n → Grows m n → AreSeats m table → AreSeats n table
seats_grow m n table btor g seats i d l = seat_grows m n (get_or table i d) btor g (seats i d l)

-- a value's number is at most as many as there are lines
pub word_below : (m : BtorOf) (a : Word) → IsNumbered m.lines → IsWord m a → a.nid ≤ length m.lines
word_below m a numbered w = (let b = at_below value_width m.lines a.nid (suc (length m.lines)) (numbers_below m.lines numbered) (has_value w) in omega arith)

-- a state that starts with these bits
started_by : (m0 m1 m2 : BtorOf) (value word : Word) (bits : Row) (s : ℕ) → Emits m0 m1 value (length bits) 2 (λ vs. bits) → IsOpened m1 m2 word (length bits) node.State [] → IsBtor (with_body m2 (body.Init s word.nid value.nid))
    → IsStarted m0 (with_body m2 (body.Init s word.nid value.nid)) word bits
started_by m0 m1 m2 value word bits s e o btor =
    let b : Body = body.Init s word.nid value.nid in
    let m3 : BtorOf = with_body m2 b in
    let g : Grows m2 m3 = grows_body m2 b in
    let whole : Grows m0 m3 = grows_on m0 m2 m3 (grows_on m0 m1 m2 e.adds.grows o.grows) g in (
      value.nid,
      record {
        btor = btor;
        grows = whole;
        opened = open_body m2 b ∙ append-nil (open_words m2.lines) ∙ o.opened ∙ ap (λ (ws : List Word). ws ++ word ∷ []) e.adds.opened;
        inits = inits_body m2 b ∙ ap (λ (ts : List TieOf). ts ++ record { state = word.nid; value = value.nid } ∷ []) (o.inits ∙ append-nil (inits m1.lines) ∙ e.adds.lists.inits);
        nexts = nexts_body m2 b ∙ append-nil (nexts m2.lines) ∙ o.nexts ∙ e.adds.lists.nexts;
        constraints = constraints_body m2 b ∙ append-nil (constraints m2.lines) ∙ o.constraints ∙ e.adds.lists.constraints;
        bads = bads_body m2 b ∙ append-nil (bads m2.lines) ∙ o.bads ∙ e.adds.lists.bads;
        word = word_grows m2 m3 word btor g o.word;
        size = o.size;
        kind = state_width_stays m2 m3 word g o.word ∙ o.kind;
        later = (let l = o.later in let more = e.adds.grows.lines in let longer : length m1.lines ≡ length m0.lines + length e.adds.grows.more = ap (λ (ls : List Line). length ls) more ∙ length-append m0.lines e.adds.grows.more in omega arith);
        few = (let f = o.few in let h = e.adds.few in let k = length-append m2.lines (record { nid = suc (length m2.lines); body = b } ∷ []) in omega arith);
      },
      (λ vs h. e.adds.holds vs (front_holds m1 m3 e.adds.btor (grows_on m1 m2 m3 o.grows g) vs h)),
    )

pub started_one : (m0 m1 m2 m3 : BtorOf) (value word : Word) (bits : Row) (s : ℕ) → Emits m0 m1 value (length bits) 2 (λ vs. bits) → IsOpened m1 m2 word (length bits) node.State [] → IsBtor m3 → m3 ≡ with_body m2 (body.Init s word.nid value.nid) → IsStarted m0 m3 word bits
started_one m0 m1 m2 m3 value word bits s e o btor is = subst (λ (m : BtorOf). IsStarted m0 m word bits) (sym is) (started_by m0 m1 m2 value word bits s e o (subst IsBtor is btor))

-- the state may start so
pub may_start : (m0 m1 m2 : BtorOf) (value word : Word) (bits : Row) → Emits m0 m1 value (length bits) 2 (λ vs. bits) → IsOpened m1 m2 word (length bits) node.State [] → ((k : ℕ) → length m0.lines < k → IsUntied (inits m0.lines) k) → nexts m0.lines ≡ [] → MayStart m2.lines word value
may_start m0 m1 m2 value word bits e o untied first =
    let longer : length m1.lines ≡ length m0.lines + length e.adds.grows.more = ap (λ (ls : List Line). length ls) e.adds.grows.lines ∙ length-append m0.lines e.adds.grows.more in
    let none : nexts m2.lines ≡ [] = o.nexts ∙ e.adds.lists.nexts ∙ first in
    let old : inits m0.lines ≡ inits m2.lines = sym (o.inits ∙ append-nil (inits m1.lines) ∙ e.adds.lists.inits) in
    record {
      some = o.word.size.0;
      state = o.kind ∙ sym o.size;
      value = width_stays m1 m2 o.grows value.nid (has_value e.word) ∙ e.word.width ∙ e.size ∙ sym o.size;
      first = subst (λ (ts : List TieOf). IsUntied ts word.nid) old (untied word.nid (let l = o.later in omega arith));
      early = subst (λ (ts : List TieOf). IsUntied ts word.nid) (sym none) (All-nil (λ (t : TieOf). t.state ≢ word.nid));
    }
