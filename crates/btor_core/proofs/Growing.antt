-- Models as they grow: their lists, and what an added value says.
use Rattle.std.proofs.Common.{arith, length-append, ◌≡◌, ℕ, suc, ◌<◌, ◌≤◌, Bool, true, false, cond, eqb, take, drop, List, [], ◌∷◌, ◌++◌, refl, sym, ap, ◌∙◌, subst, length, append_assoc}
use Rattle.std.specs.Prelude.{All}
use Rattle.std.specs.List.{flat_map}
use Rattle.std.proofs.lemmas.List.{append-nil}
use Rattle.std.proofs.Math.Seq.{drop-append_seam, take-length}
use Rattle.std.proofs.lemmas.Grind.{flat_map-append}
use Rattle.btor_core.specs.declared.line.Word.{Word}
use Rattle.btor_core.specs.declared.line.Node.{Node}
use Rattle.btor_core.specs.declared.line.Node.TheVariants as node
use Rattle.btor_core.specs.declared.line.Body.{Body}
use Rattle.btor_core.specs.declared.line.Body.TheVariants as body
use Rattle.btor_core.specs.declared.line.Line.{Line}
use Rattle.btor_core.specs.Shape.{BtorOf, constant_node_width, bads, bads_of, constraints, constraints_of, inits, inits_of, nexts, nexts_of, open_nodes_of, open_words, open_words_of, sort_at, value_width, width_at}
use Rattle.btor_core.specs.Meaning.{Values, LineHolds, NodeHolds}
use Rattle.btor_core.specs.Fits.{NodeFits, ValueFits, IsWidth, IsBtor}
use Rattle.btor_core.specs.Growth.{Grows, IsNumbered, KeepsLists, Pushed, PushedBits, sort_nid, with_bits, with_body, with_constant, with_sort, with_value}
use Rattle.btor_core.proofs.Cuts.{all_at}
use Rattle.btor_core.proofs.Fitting.{no_constant, node_later}
use Rattle.btor_core.proofs.Numbering.{numbers_below, numbered_sort, sort_found, sort_some}
use Rattle.btor_core.proofs.Reading.{at_new}

-- a word by its parts
abbrev pub same_word : ℕ → ℕ → Word
same_word k w = record { nid = k; width = w }

pub grows_same : (m : BtorOf) → Grows m m
grows_same m = record { more = []; bits = []; lines = sym (append-nil m.lines); constants = sym (append-nil m.constants) }

pub keeps_same : (m : BtorOf) → KeepsLists m m
keeps_same m = record { inits = refl; nexts = refl; constraints = refl; bads = refl }

pub grows_bits : (m : BtorOf) (s : ℕ) (bits : List Bool) → Grows m (with_bits m s bits)
grows_bits m s bits = record { more = record { nid = suc (length m.lines); body = body.Value s (length bits) (node.Const (length m.constants)) } ∷ []; bits = bits; lines = refl; constants = refl }

pub grows_body : (m : BtorOf) (b : Body) → Grows m (with_body m b)
grows_body m b = record { more = record { nid = suc (length m.lines); body = b } ∷ []; bits = []; lines = refl; constants = sym (append-nil m.constants) }

pub grows_on : (a b c : BtorOf) → Grows a b → Grows b c → Grows a c
grows_on a b c g h = record {
  more = g.more ++ h.more;
  bits = g.bits ++ h.bits;
  lines = h.lines ∙ ap (λ (ls : List Line). ls ++ h.more) g.lines ∙ append_assoc a.lines g.more h.more;
  constants = h.constants ∙ ap (λ (cs : List Bool). cs ++ h.bits) g.constants ∙ append_assoc a.constants g.bits h.bits;
}

pub keeps_on : (a b c : BtorOf) → KeepsLists a b → KeepsLists b c → KeepsLists a c
keeps_on a b c g h = record { inits = h.inits ∙ g.inits; nexts = h.nexts ∙ g.nexts; constraints = h.constraints ∙ g.constraints; bads = h.bads ∙ g.bads }

-- a line adds to a list what it says
listed : {A : Type 0} (f : Line → List A) (xs : List Line) (l : Line) → flat_map f (xs ++ l ∷ []) ≡ flat_map f xs ++ f l
listed f xs l = flat_map-append f xs (l ∷ []) ∙ ap (λ ys. flat_map f xs ++ ys) (append-nil (f l))

unlisted : {A : Type 0} (f : Line → List A) (xs : List Line) (l : Line) → f l ≡ [] → flat_map f (xs ++ l ∷ []) ≡ flat_map f xs
unlisted f xs l e = listed f xs l ∙ ap (λ ys. flat_map f xs ++ ys) e ∙ append-nil (flat_map f xs)

pub inits_body : (m : BtorOf) (b : Body) → inits (with_body m b).lines ≡ inits m.lines ++ inits_of b
inits_body m b = listed (λ l. inits_of l.body) m.lines (record { nid = suc (length m.lines); body = b })

pub nexts_body : (m : BtorOf) (b : Body) → nexts (with_body m b).lines ≡ nexts m.lines ++ nexts_of b
nexts_body m b = listed (λ l. nexts_of l.body) m.lines (record { nid = suc (length m.lines); body = b })

pub constraints_body : (m : BtorOf) (b : Body) → constraints (with_body m b).lines ≡ constraints m.lines ++ constraints_of b
constraints_body m b = listed (λ l. constraints_of l.body) m.lines (record { nid = suc (length m.lines); body = b })

pub bads_body : (m : BtorOf) (b : Body) → bads (with_body m b).lines ≡ bads m.lines ++ bads_of b
bads_body m b = listed (λ l. bads_of l.body) m.lines (record { nid = suc (length m.lines); body = b })

pub open_body : (m : BtorOf) (b : Body) → open_words (with_body m b).lines ≡ open_words m.lines ++ open_words_of (suc (length m.lines)) b
open_body m b = listed (λ l. open_words_of l.nid l.body) m.lines (record { nid = suc (length m.lines); body = b })

-- the lines of sorts and of values say nothing of states, constraints and bads
sort_line_keeps : (m : BtorOf) (w : ℕ) → KeepsLists m (with_body m (body.Sort w))
sort_line_keeps m w =
    let b : Body = body.Sort w in
    record { inits = inits_body m b ∙ append-nil (inits m.lines); nexts = nexts_body m b ∙ append-nil (nexts m.lines); constraints = constraints_body m b ∙ append-nil (constraints m.lines); bads = bads_body m b ∙ append-nil (bads m.lines) }

value_line_keeps : (m : BtorOf) (s w : ℕ) (n : Node) → KeepsLists m (with_body m (body.Value s w n))
value_line_keeps m s w n =
    let b : Body = body.Value s w n in
    record { inits = inits_body m b ∙ append-nil (inits m.lines); nexts = nexts_body m b ∙ append-nil (nexts m.lines); constraints = constraints_body m b ∙ append-nil (constraints m.lines); bads = bads_body m b ∙ append-nil (bads m.lines) }

sort_grows : (m : BtorOf) (w : ℕ) → Grows m (with_sort m w)
sort_grows m w = elim (eqb (sort_nid m.lines w) 0) as (λ b. Grows m (cond b (with_body m (body.Sort w)) m)) [ true ↦ grows_body m (body.Sort w) | false ↦ grows_same m ]

sort_keeps : (m : BtorOf) (w : ℕ) → KeepsLists m (with_sort m w)
sort_keeps m w = elim (eqb (sort_nid m.lines w) 0) as (λ b. KeepsLists m (cond b (with_body m (body.Sort w)) m)) [ true ↦ sort_line_keeps m w | false ↦ keeps_same m ]

sort_opens : (m : BtorOf) (w : ℕ) → open_words (with_sort m w).lines ≡ open_words m.lines
sort_opens m w =
    elim (eqb (sort_nid m.lines w) 0) as (λ b. open_words (cond b (with_body m (body.Sort w)) m).lines ≡ open_words m.lines) [
      | true ↦ open_body m (body.Sort w) ∙ append-nil (open_words m.lines)
      | false ↦ refl
    ]

pub sort_constants : (m : BtorOf) (w : ℕ) → (with_sort m w).constants ≡ m.constants
sort_constants m w = elim (eqb (sort_nid m.lines w) 0) as (λ b. (cond b (with_body m (body.Sort w)) m).constants ≡ m.constants) [ true ↦ refl | false ↦ refl ]

pub sort_memory : (m n : BtorOf) (w : ℕ) → n ≡ with_sort m w → Grows m n × KeepsLists m n
sort_memory m n w e = rw e (sort_grows m w, sort_keeps m w)

pub node_sorted : (m : BtorOf) (w v : ℕ) (n : Node) → 1 ≤ v → constant_node_width v n ≡ 0 → NodeFits m.constants m.lines v n → NodeFits (with_sort m w).constants (with_sort m w).lines v n
node_sorted m w v n some plain h =
    elim (eqb (sort_nid m.lines w) 0) as (λ b. NodeFits (cond b (with_body m (body.Sort w)) m).constants (cond b (with_body m (body.Sort w)) m).lines v n) [
      | true ↦ node_later m.constants m.lines (record { nid = suc (length m.lines); body = body.Sort w } ∷ []) v n some plain h
      | false ↦ h
    ]

-- a value fits after its sort
pub value_fits : (m p : BtorOf) (s w : ℕ) (n : Node) → p ≡ with_sort m w → s ≡ sort_nid p.lines w → IsBtor m → IsBtor p → IsNumbered m.lines → IsWidth w → NodeFits m.constants m.lines w n → ValueFits p.constants p.lines s w n
value_fits m p s w n e k old btor numbered width fits =
    let some : 1 ≤ sort_nid p.lines w = rw e (sort_some m w numbered) in
    record {
      width = width;
      sort = subst (λ (j : ℕ). sort_at p.lines j ≡ w) (sym k) (sort_found p w btor some);
      node = rw e (node_sorted m w w n width.0 (no_constant m.constants m.lines w n old.table width.0 fits) fits);
    }

pub pushed : (m : BtorOf) (w : ℕ) (n : Node) (a : Word) → IsNumbered m.lines → a.nid ≡ suc (length (with_sort m w).lines) → a.width ≡ w → Pushed m (with_value m w n) w n a
pushed m w n a numbered nid size =
    let s : BtorOf = with_sort m w in
    let b : Body = body.Value (sort_nid s.lines w) w n in
    let l : Line = record { nid = suc (length s.lines); body = b } in
    let rises : All (λ (k : Line). k.nid < l.nid) s.lines = numbers_below s.lines (numbered_sort m w numbered) in
    let P : Values → ℕ → Type 0 = λ vs k. NodeHolds s.constants vs w (vs k) n in
    record {
      grows = grows_on m s (with_body s b) (sort_grows m w) (grows_body s b);
      lists = keeps_on m s (with_body s b) (sort_keeps m w) (value_line_keeps s (sort_nid s.lines w) w n);
      opened = open_body s b ∙ ap (λ (ws : List Word). ws ++ open_nodes_of l.nid w n) (sort_opens m w) ∙ ap (λ (k : ℕ). open_words m.lines ++ open_nodes_of k w n) (sym nid);
      size = size;
      width = ap (λ (k : ℕ). width_at (s.lines ++ l ∷ []) k) nid ∙ at_new value_width s.lines [] l rises;
      holds = λ vs h. subst (λ (k : ℕ). P vs k) (sym nid) (all_at (LineHolds s.constants vs) (s.lines ++ l ∷ []) s.lines [] l refl h);
    }

pub sort_fits : (m p : BtorOf) (s w : ℕ) → p ≡ with_sort m w → s ≡ sort_nid p.lines w → IsBtor p → IsNumbered m.lines → sort_at p.lines s ≡ w
sort_fits m p s w e k btor numbered =
    let some : 1 ≤ sort_nid p.lines w = rw e (sort_some m w numbered) in
    subst (λ (j : ℕ). sort_at p.lines j ≡ w) (sym k) (sort_found p w btor some)

-- a constant's bits are read where they were put
constant_read : (cs bits : List Bool) → take (length bits) (drop (length cs) (cs ++ bits)) ≡ bits
constant_read cs bits = ap (λ (bs : List Bool). take (length bits) bs) (drop-append_seam cs bits) ∙ take-length bits

pub pushed_bits : (m : BtorOf) (bits : List Bool) (a : Word) → IsNumbered m.lines → a.nid ≡ suc (length (with_sort m (length bits)).lines) → a.width ≡ length bits → PushedBits m (with_constant m bits) bits a
pushed_bits m bits a numbered nid size =
    let w : ℕ = length bits in
    let s : BtorOf = with_sort m w in
    let n : ℕ = sort_nid s.lines w in
    let b : Body = body.Value n w (node.Const (length s.constants)) in
    let l : Line = record { nid = suc (length s.lines); body = b } in
    let all : BtorOf = with_bits s n bits in
    let rises : All (λ (k : Line). k.nid < l.nid) s.lines = numbers_below s.lines (numbered_sort m w numbered) in
    let keeps : KeepsLists s all = let k = value_line_keeps s n w (node.Const (length s.constants)) in record { inits = k.inits; nexts = k.nexts; constraints = k.constraints; bads = k.bads } in
    record {
      grows = grows_on m s all (sort_grows m w) (grows_bits s n bits);
      lists = keeps_on m s all (sort_keeps m w) keeps;
      opened = open_body s b ∙ append-nil (open_words s.lines) ∙ sort_opens m w;
      size = size;
      width = ap (λ (k : ℕ). width_at (s.lines ++ l ∷ []) k) nid ∙ at_new value_width s.lines [] l rises;
      holds = λ vs h. ap (λ (k : ℕ). vs k) nid ∙ all_at (LineHolds all.constants vs) all.lines s.lines [] l refl h ∙ constant_read s.constants bits;
    }

-- the last line's number is how many lines there are
pub last_word : (m : BtorOf) (ls : List Line) (l : Line) (k w : ℕ) → m.lines ≡ ls ++ l ∷ [] → k ≡ suc (length ls) → same_word k w ≡ same_word (length m.lines) w
last_word m ls l k w e n =
    let long : length m.lines ≡ suc (length ls) = ap (λ (xs : List Line). length xs) e ∙ (let a = length-append ls (l ∷ []) in omega arith) in
    ap (λ (j : ℕ). same_word j w) (n ∙ sym long)
