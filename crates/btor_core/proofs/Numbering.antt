-- How a draft's lines are numbered, and its table of sorts.
use Rattle.std.proofs.Common.{◌≡◌, ℕ, suc, ◌+◌, ◌<◌, ◌≤◌, ◌-◌, ◌^◌, Bool, true, false, cond, eqb, get_or, List, [], ◌∷◌, ◌++◌, refl, sym, ap, ◌∙◌, inl, inr, subst, arith, length, length-append}
use Rattle.std.specs.Prelude.{All, ◌≢◌, replicate}
use Rattle.std.proofs.Common.{set, length-set}
use Rattle.std.proofs.lemmas.Bool.{false≢true}
use Rattle.std.proofs.lemmas.List.{get_or-replicate, get_or-set_other, length-replicate}
use Rattle.std.proofs.lemmas.Grind.{get_or-set_at}
use Rattle.std.proofs.lemmas.List.Elements.{All-head, All-tail}
use Rattle.std.proofs.lemmas.Bool.Decides.{nat_tests}
use Rattle.btor_core.specs.declared.line.Body.{Body}
use Rattle.btor_core.specs.declared.line.Body.TheVariants as body
use Rattle.btor_core.specs.declared.line.Line.{Line}
use Rattle.btor_core.specs.declared.line.Word.{Word}
use Rattle.btor_core.specs.declared.line.Node.{Node}
use Rattle.btor_core.specs.declared.line.Node.TheVariants as node
use Rattle.btor_core.specs.Shape.{BtorOf, at_nid, sort_at, sort_width, state_at, state_node_width, state_width}
use Rattle.btor_core.specs.Growth.{IsNumbered, sort_nid, with_body, with_sort}
use Rattle.btor_core.specs.Kept.{IsKept}
use Rattle.btor_core.specs.Fits.{BodyFits, InitFits, IsBtor, IsWidth, LineFits, MayGoOn, MayStart, NextFits, ValueFits}
use Rattle.btor_core.proofs.Cuts.{all_cuts, cut_front, push_cut}
use Rattle.btor_core.proofs.Reading.{at_new, same_nid}

pub none_numbered : IsNumbered []
none_numbered [] more l e = absurd (cc)
none_numbered (b ∷ before) more l e = absurd (cc)

pub numbered_push : (lines : List Line) (x : Line) → IsNumbered lines → x.nid ≡ suc (length lines) → IsNumbered (lines ++ x ∷ [])
numbered_push lines x h n before more l e =
    elim (push_cut lines x before more l e) as (λ _. l.nid ≡ suc (length before)) [
      | inl p ↦ ap (λ (y : Line). y.nid) p.last ∙ n ∙ ap (λ (ys : List Line). suc (length ys)) (sym p.all)
      | inr p ↦ h before p.rest l p.cut
    ]

-- numbers are at most as many as there are lines
pub numbers_below : (lines : List Line) → IsNumbered lines → All (λ k. k.nid < suc (length lines)) lines
numbers_below lines h = all_cuts (λ (k : Line). k.nid < suc (length lines)) [] lines (λ b m l e.
    let n : l.nid ≡ suc (length b) = h b m l e in
    let whole : length lines ≡ length b + suc (length m) = ap (λ (ys : List Line). length ys) e ∙ length-append b (l ∷ m) in
    omega arith)

-- numbers are at least 1
numbers_some : (lines : List Line) → IsNumbered lines → All (λ k. 1 ≤ k.nid) lines
numbers_some lines h = all_cuts (λ (k : Line). 1 ≤ k.nid) [] lines (λ b m l e. let n : l.nid ≡ suc (length b) = h b m l e in omega arith)

-- a sort's number is that of the first, or of the line that was added
sort_push : (lines : List Line) (x : Line) (w : ℕ) → All (λ k. 1 ≤ k.nid) lines → sort_nid (lines ++ x ∷ []) w ≡ cond (eqb (sort_nid lines w) 0) (cond (eqb (sort_width x.body) w) x.nid 0) (sort_nid lines w)
sort_push [] x w some = refl
sort_push (l ∷ lines) x w some =
    elim (eqb (sort_width l.body) w) as (λ b. cond b l.nid (sort_nid (lines ++ x ∷ []) w) ≡ cond (eqb (cond b l.nid (sort_nid lines w)) 0) (cond (eqb (sort_width x.body) w) x.nid 0) (cond b l.nid (sort_nid lines w))) [
      | true ↦ let h : 1 ≤ l.nid = All-head (λ (k : Line). 1 ≤ k.nid) l lines some in let e : eqb l.nid 0 ≡ false = grind (arith, nat_tests) in rw e refl
      | false ↦ sort_push lines x w (All-tail (λ (k : Line). 1 ≤ k.nid) l lines some)
    ]

sort_plain : (lines : List Line) (x : Line) (w : ℕ) → 1 ≤ w → All (λ k. 1 ≤ k.nid) lines → sort_width x.body ≡ 0 → sort_nid (lines ++ x ∷ []) w ≡ sort_nid lines w
sort_plain lines x w some_w some e =
    let t : eqb (sort_width x.body) w ≡ false = grind (arith, nat_tests) in
    let p = sort_push lines x w some in
    p ∙ rw t (elim (same_nid (sort_nid lines w) 0) as (λ _. cond (eqb (sort_nid lines w) 0) 0 (sort_nid lines w) ≡ sort_nid lines w) [
      | inl q ↦ rw q.1 (sym q.0)
      | inr q ↦ rw q refl
    ])

sort_other : (lines : List Line) (x : Line) (w v : ℕ) → v ≢ w → All (λ k. 1 ≤ k.nid) lines → sort_width x.body ≡ w → sort_nid (lines ++ x ∷ []) v ≡ sort_nid lines v
sort_other lines x w v other some e =
    let t : eqb (sort_width x.body) v ≡ false = grind (arith, nat_tests) in
    let p = sort_push lines x v some in
    p ∙ rw t (elim (same_nid (sort_nid lines v) 0) as (λ _. cond (eqb (sort_nid lines v) 0) 0 (sort_nid lines v) ≡ sort_nid lines v) [
      | inl q ↦ rw q.1 (sym q.0)
      | inr q ↦ rw q refl
    ])

pub sort_new : (lines : List Line) (x : Line) (w : ℕ) → IsNumbered lines → sort_nid lines w ≡ 0 → sort_width x.body ≡ w → sort_nid (lines ++ x ∷ []) w ≡ x.nid
sort_new lines x w n none e =
    let t : eqb (sort_width x.body) w ≡ true = grind (arith, nat_tests) in
    sort_push lines x w (numbers_some lines n) ∙ rw (none, t) refl

-- where a sort's number isn't 0 some line with it is that sort
record IsFound (lines : List Line) (w : ℕ) : Type 0 where
  before : List Line
  more : List Line
  line : Line
  cut : lines ≡ before ++ line ∷ more
  nid : line.nid ≡ sort_nid lines w
  sort : sort_width line.body ≡ w

found : (lines : List Line) (w : ℕ) → 1 ≤ sort_nid lines w → IsFound lines w
found [] w h = absurd (omega arith)
found (l ∷ lines) w h =
    elim (same_nid (sort_width l.body) w) as (λ _. IsFound (l ∷ lines) w) [
      | inl p ↦ record { before = []; more = lines; line = l; cut = refl; nid = rw p.1 refl; sort = p.0 }
      | inr p ↦
          let f : IsFound lines w = found lines w (rw p at h) in
          record { before = l ∷ f.before; more = f.more; line = f.line; cut = ap (λ (ls : List Line). l ∷ ls) f.cut; nid = f.nid ∙ rw p refl; sort = f.sort }
    ]

pub sort_found : (m : BtorOf) (w : ℕ) → IsBtor m → 1 ≤ sort_nid m.lines w → sort_at m.lines (sort_nid m.lines w) ≡ w
sort_found m w h some =
    let f : IsFound m.lines w = found m.lines w some in
    let fits : LineFits m.constants f.before f.line = h.each f.before f.more f.line f.cut in
    let there : sort_at (f.before ++ f.line ∷ f.more) f.line.nid ≡ sort_width f.line.body = at_new sort_width f.before f.more f.line fits.rises in
    let P : List Line → ℕ → Type 0 = λ ls k. sort_at ls k ≡ w in
    subst (λ (k : ℕ). P m.lines k) f.nid (subst (λ (ls : List Line). P ls f.line.nid) (sym f.cut) (there ∙ f.sort))

pub line_fits : (m : BtorOf) (ks : List ℕ) (b : Body) (k : ℕ) → IsKept m ks → suc (length m.lines) < 2 ^ 32 - 1 → k ≡ suc (length m.lines) → BodyFits m.constants m.lines b → LineFits m.constants m.lines (record { nid = k; body = b })
line_fits m ks b k h room e fits = record {
  some = omega arith;
  limit = omega arith;
  rises = subst (λ (n : ℕ). All (λ (l : Line). l.nid < n) m.lines) (sym e) (numbers_below m.lines h.numbered);
  body = fits;
}

pub kept_none : (n : ℕ) → n ≡ 4097 → IsKept (record { lines = []; constants = [] }) (replicate n 0)
kept_none n e = record {
  numbered = none_numbered;
  limit = omega arith;
  table = length-replicate {A = ℕ} n 0 ∙ e;
  entries = λ w h b. get_or-replicate {A = ℕ} n w 0 0 (omega arith);
}

length_one : (lines : List Line) (x : Line) → length (lines ++ x ∷ []) ≡ suc (length lines)
length_one lines x = let e = length-append lines (x ∷ []) in omega arith

pub kept_body : (m : BtorOf) (ks : List ℕ) (cs : List Bool) (b : Body) (k : ℕ) → IsKept m ks → suc (length m.lines) < 2 ^ 32 - 1 → k ≡ suc (length m.lines) → sort_width b ≡ 0 → IsKept (record { lines = m.lines ++ record { nid = k; body = b } ∷ []; constants = cs }) ks
kept_body m ks cs b k h room e plain =
    let x : Line = record { nid = k; body = b } in
    record {
      numbered = numbered_push m.lines x h.numbered e;
      limit = (let e = length_one m.lines x in omega arith);
      table = h.table;
      entries = λ w some most. h.entries w some most ∙ sym (sort_plain m.lines x w some (numbers_some m.lines h.numbered) plain);
    }

pub kept_sort : (m : BtorOf) (ks : List ℕ) (w k : ℕ) → IsKept m ks → suc (length m.lines) < 2 ^ 32 - 1 → k ≡ suc (length m.lines) → 1 ≤ w → w ≤ 4096 → sort_nid m.lines w ≡ 0
    → IsKept (record { lines = m.lines ++ record { nid = k; body = body.Sort w } ∷ []; constants = m.constants }) (set ks w k)
kept_sort m ks w k h room e some most none =
    let x : Line = record { nid = k; body = body.Sort w } in
    record {
      numbered = numbered_push m.lines x h.numbered e;
      limit = (let e = length_one m.lines x in omega arith);
      table = length-set ks w k ∙ h.table;
      entries = λ v v_some v_most.
          elim (same_nid v w) as (λ _. get_or (set ks w k) v 0 ≡ sort_nid (m.lines ++ x ∷ []) v) [
            | inl p ↦
                let there : get_or (set ks w k) v 0 ≡ k = get_or-set_at ks w v k 0 p.0 (let t = h.table in omega arith) in
                let P : ℕ → Type 0 = λ u. k ≡ sort_nid (m.lines ++ x ∷ []) u in
                there ∙ subst P (sym p.0) (sym (sort_new m.lines x w h.numbered none refl))
            | inr p ↦
                let other : v ≢ w = λ e. false≢true (sym p ∙ rw e (let t : eqb w w ≡ true = grind (arith, nat_tests) in t)) in
                get_or-set_other ks w v k 0 other ∙ h.entries v v_some v_most ∙ sym (sort_other m.lines x w v other (numbers_some m.lines h.numbered) refl)
          ];
    }

-- a sort that was added, if there was none, has a number
pub sort_some : (m : BtorOf) (w : ℕ) → IsNumbered m.lines → 1 ≤ sort_nid (with_sort m w).lines w
sort_some m w h =
    elim (same_nid (sort_nid m.lines w) 0) as (λ _. 1 ≤ sort_nid (with_sort m w).lines w) [
      | inl p ↦
          let x : Line = record { nid = suc (length m.lines); body = body.Sort w } in
          let e : sort_nid (m.lines ++ x ∷ []) w ≡ suc (length m.lines) = sort_new m.lines x w h p.0 refl in
          let more : 1 ≤ sort_nid (m.lines ++ x ∷ []) w = omega arith in
          rw p.1 more
      | inr p ↦ let some : 1 ≤ sort_nid m.lines w = grind (arith, nat_tests) in rw p some
    ]

-- numbers go on without a gap
pub numbered_body : (m : BtorOf) (b : Body) → IsNumbered m.lines → IsNumbered (with_body m b).lines
numbered_body m b h = numbered_push m.lines (record { nid = suc (length m.lines); body = b }) h refl

pub numbered_sort : (m : BtorOf) (w : ℕ) → IsNumbered m.lines → IsNumbered (with_sort m w).lines
numbered_sort m w h =
    elim (eqb (sort_nid m.lines w) 0) as (λ b. IsNumbered (cond b (with_body m (body.Sort w)) m).lines) [
      | true ↦ numbered_body m (body.Sort w) h
      | false ↦ h
    ]

-- the line of which something is read by a number
record IsRead (read : Body → ℕ) (lines : List Line) (k : ℕ) : Type 0 where
  before : List Line
  more : List Line
  line : Line
  cut : lines ≡ before ++ line ∷ more
  reads : read line.body ≡ at_nid read lines k

read_line : (read : Body → ℕ) (lines : List Line) (k : ℕ) → 1 ≤ at_nid read lines k → IsRead read lines k
read_line read [] k h = absurd (omega arith)
read_line read (l ∷ lines) k h =
    elim (same_nid l.nid k) as (λ _. IsRead read (l ∷ lines) k) [
      | inl p ↦ record { before = []; more = lines; line = l; cut = refl; reads = rw p.1 refl }
      | inr p ↦
          let r : IsRead read lines k = read_line read lines k (rw p at h) in
          record { before = l ∷ r.before; more = r.more; line = r.line; cut = ap (λ (ls : List Line). l ∷ ls) r.cut; reads = r.reads ∙ rw p refl }
    ]

-- a sort's line gives its width a number
sort_there : (before more : List Line) (l : Line) (w : ℕ) → sort_width l.body ≡ w → All (λ k. 1 ≤ k.nid) (before ++ l ∷ more) → 1 ≤ sort_nid (before ++ l ∷ more) w
sort_there [] more l w e some =
    let t : eqb (sort_width l.body) w ≡ true = grind (arith, nat_tests) in
    let h : 1 ≤ l.nid = All-head (λ (k : Line). 1 ≤ k.nid) l more some in
    rw t h
sort_there (x ∷ before) more l w e some =
    let h : 1 ≤ x.nid = All-head (λ (k : Line). 1 ≤ k.nid) x (before ++ l ∷ more) some in
    let rest : 1 ≤ sort_nid (before ++ l ∷ more) w = sort_there before more l w e (All-tail (λ (k : Line). 1 ≤ k.nid) x (before ++ l ∷ more) some) in
    elim (eqb (sort_width x.body) w) as (λ b. 1 ≤ cond b x.nid (sort_nid (before ++ l ∷ more) w)) [ true ↦ h | false ↦ rest ]

-- a state's width is one, and has a sort
pub record HasSort (m : BtorOf) (w : ℕ) : Type 0 where
  pub width : IsWidth w
  pub sort : sort_at m.lines (sort_nid m.lines w) ≡ w

value_has_sort : (m : BtorOf) (before more : List Line) (l : Line) (s w : ℕ) (n : Node) → IsBtor m → m.lines ≡ before ++ l ∷ more → ValueFits m.constants before s w n → HasSort m w
value_has_sort m before more l s w n btor e fits =
    let wide : 1 ≤ sort_at before s = let f = fits.sort in let some = fits.width.0 in omega arith in
    let r : IsRead sort_width before s = read_line sort_width before s wide in
    let cut : m.lines ≡ r.before ++ r.line ∷ (r.more ++ l ∷ more) = e ∙ cut_front before (l ∷ more) r.before r.more r.line r.cut in
    let some : All (λ (k : Line). 1 ≤ k.nid) m.lines = all_cuts (λ (k : Line). 1 ≤ k.nid) [] m.lines (λ b x y c. (btor.each b x y c).some) in
    let there : 1 ≤ sort_nid m.lines w = rw cut (sort_there r.before (r.more ++ l ∷ more) r.line w (r.reads ∙ fits.sort) (subst (λ (ls : List Line). All (λ (k : Line). 1 ≤ k.nid) ls) cut some)) in
    record { width = fits.width; sort = sort_found m w btor there }

node_has_sort : (m : BtorOf) (before more : List Line) (l : Line) (s w : ℕ) (n : Node) → IsBtor m → m.lines ≡ before ++ l ∷ more → ValueFits m.constants before s w n → 1 ≤ state_node_width w n → HasSort m (state_node_width w n)
node_has_sort m before more l s w node.Input btor e fits some = absurd (omega arith)
node_has_sort m before more l s w node.State btor e fits some = value_has_sort m before more l s w node.State btor e fits
node_has_sort m before more l s w (node.Const start) btor e fits some = absurd (omega arith)
node_has_sort m before more l s w node.Zero btor e fits some = absurd (omega arith)
node_has_sort m before more l s w node.One btor e fits some = absurd (omega arith)
node_has_sort m before more l s w node.Ones btor e fits some = absurd (omega arith)
node_has_sort m before more l s w (node.Unary k a) btor e fits some = absurd (omega arith)
node_has_sort m before more l s w (node.Binary k a b) btor e fits some = absurd (omega arith)
node_has_sort m before more l s w (node.Slice a upper lower) btor e fits some = absurd (omega arith)
node_has_sort m before more l s w (node.Uext a by) btor e fits some = absurd (omega arith)
node_has_sort m before more l s w (node.Sext a by) btor e fits some = absurd (omega arith)
node_has_sort m before more l s w (node.Ite t a b) btor e fits some = absurd (omega arith)

body_has_sort : (m : BtorOf) (before more : List Line) (l : Line) (b : Body) → IsBtor m → m.lines ≡ before ++ l ∷ more → BodyFits m.constants before b → 1 ≤ state_width b → HasSort m (state_width b)
body_has_sort m before more l (body.Sort w) btor e fits some = absurd (omega arith)
body_has_sort m before more l (body.Value s w n) btor e fits some = node_has_sort m before more l s w n btor e fits some
body_has_sort m before more l (body.Init s q v) btor e fits some = absurd (omega arith)
body_has_sort m before more l (body.Next s q v) btor e fits some = absurd (omega arith)
body_has_sort m before more l (body.Bad n) btor e fits some = absurd (omega arith)
body_has_sort m before more l (body.Constraint n) btor e fits some = absurd (omega arith)

pub state_has_sort : (m : BtorOf) (q w : ℕ) → IsBtor m → 1 ≤ w → state_at m.lines q ≡ w → HasSort m w
state_has_sort m q w btor some e =
    let r : IsRead state_width m.lines q = read_line state_width m.lines q (subst (λ (v : ℕ). 1 ≤ v) (sym e) some) in
    let reads : state_width r.line.body ≡ w = r.reads ∙ e in
    subst (λ (v : ℕ). HasSort m v) reads (body_has_sort m r.before r.more r.line r.line.body btor r.cut (btor.each r.before r.more r.line r.cut).body (subst (λ (v : ℕ). 1 ≤ v) (sym reads) some))

pub may_start : (m : BtorOf) (q v : Word) → IsBtor m → MayStart m.lines q v → InitFits m.lines (sort_nid m.lines q.width) q.nid v.nid
may_start m q v btor h =
    let s : HasSort m q.width = state_has_sort m q.nid q.width btor h.some h.state in
    record { fits = record { sort = rw s.sort h.some; state = h.state ∙ sym s.sort; value = h.value ∙ sym s.sort }; first = h.first; early = h.early }

pub may_go_on : (m : BtorOf) (q v : Word) → IsBtor m → MayGoOn m.lines q v → NextFits m.lines (sort_nid m.lines q.width) q.nid v.nid
may_go_on m q v btor h =
    let s : HasSort m q.width = state_has_sort m q.nid q.width btor h.some h.state in
    record { fits = record { sort = rw s.sort h.some; state = h.state ∙ sym s.sort; value = h.value ∙ sym s.sort }; first = h.first }
