-- What fits goes on fitting as lines and constants are added.
use Rattle.std.proofs.Common.{◌≡◌, ℕ, ◌+◌, ◌<◌, ◌≤◌, ◌-◌, ◌^◌, Bool, List, [], ◌∷◌, ◌++◌, refl, sym, ◌∙◌, inl, inr, length, subst, arith, length-append}
use Rattle.std.specs.Prelude.{All}
use Rattle.std.proofs.lemmas.List.{append-nil}
use Rattle.std.proofs.lemmas.List.Sums.{sum_by-append}
use Rattle.btor_core.specs.declared.line.Node.{Node}
use Rattle.btor_core.specs.declared.line.Node.TheVariants as node
use Rattle.btor_core.specs.declared.line.Line.{Line}
use Rattle.btor_core.specs.declared.line.Body.{Body}
use Rattle.btor_core.specs.declared.line.Body.TheVariants as body
use Rattle.btor_core.specs.Shape.{BtorOf, constant_bits, constant_node_width, constant_width, sort_at, sort_width, state_at, state_width, value_width, width_at}
use Rattle.btor_core.specs.Growth.{Grows}
use Rattle.btor_core.specs.Fits.{BodyFits, HasValue, IsWidth, IsBtor, LineFits, NodeFits}
use Rattle.btor_core.proofs.Cuts.{push_cut}
use Rattle.btor_core.proofs.Reading.{at_kept}

-- operands' widths are the same after more lines
width_kept : (xs ys : List Line) (a : ℕ) → HasValue xs a → width_at (xs ++ ys) a ≡ width_at xs a
width_kept xs ys a h = at_kept value_width xs ys a h

-- a node that is no constant fits after more lines
pub node_later : (constants : List Bool) (xs ys : List Line) (w : ℕ) (n : Node) → 1 ≤ w → constant_node_width w n ≡ 0 → NodeFits constants xs w n → NodeFits constants (xs ++ ys) w n
node_later constants xs ys w node.Input some plain h = tt
node_later constants xs ys w node.State some plain h = tt
node_later constants xs ys w (node.Const start) some plain h = absurd (omega arith)
node_later constants xs ys w node.Zero some plain h = tt
node_later constants xs ys w node.One some plain h = tt
node_later constants xs ys w node.Ones some plain h = tt
node_later constants xs ys w (node.Unary k a) some plain h = rw (width_kept xs ys a h.0) h
node_later constants xs ys w (node.Binary k a b) some plain h = rw (width_kept xs ys a h.0, width_kept xs ys b h.1) h
node_later constants xs ys w (node.Slice a upper lower) some plain h = rw (width_kept xs ys a h.0) h
node_later constants xs ys w (node.Uext a by) some plain h = rw (width_kept xs ys a h.0) h
node_later constants xs ys w (node.Sext a by) some plain h = rw (width_kept xs ys a h.0) h
node_later constants xs ys w (node.Ite s a b) some plain h = rw (width_kept xs ys s h.0, width_kept xs ys a h.1, width_kept xs ys b h.2) h

-- where all bits of the table are taken there is none for a constant more
pub no_constant : (constants : List Bool) (lines : List Line) (w : ℕ) (n : Node) → length constants ≡ constant_bits lines → 1 ≤ w → NodeFits constants lines w n → constant_node_width w n ≡ 0
no_constant constants lines w node.Input e some h = refl
no_constant constants lines w node.State e some h = refl
no_constant constants lines w (node.Const start) e some h = omega arith
no_constant constants lines w node.Zero e some h = refl
no_constant constants lines w node.One e some h = refl
no_constant constants lines w node.Ones e some h = refl
no_constant constants lines w (node.Unary k a) e some h = refl
no_constant constants lines w (node.Binary k a b) e some h = refl
no_constant constants lines w (node.Slice a upper lower) e some h = refl
no_constant constants lines w (node.Uext a by) e some h = refl
no_constant constants lines w (node.Sext a by) e some h = refl
no_constant constants lines w (node.Ite s a b) e some h = refl

body_no_constant : (constants : List Bool) (lines : List Line) (b : Body) → length constants ≡ constant_bits lines → BodyFits constants lines b → constant_width b ≡ 0
body_no_constant constants lines (body.Sort w) e h = refl
body_no_constant constants lines (body.Value s w n) e h = no_constant constants lines w n e h.width.0 h.node
body_no_constant constants lines (body.Init s q v) e h = refl
body_no_constant constants lines (body.Next s q v) e h = refl
body_no_constant constants lines (body.Bad n) e h = refl
body_no_constant constants lines (body.Constraint n) e h = refl

bits_push : (lines : List Line) (x : Line) → constant_bits (lines ++ x ∷ []) ≡ constant_bits lines + constant_width x.body
bits_push lines x = let e = sum_by-append (λ (l : Line). constant_width l.body) lines (x ∷ []) in omega arith

module _ (constants bits : List Bool) where
  pub node_more : (xs : List Line) (w : ℕ) (n : Node) → NodeFits constants xs w n → NodeFits (constants ++ bits) xs w n
  node_more xs w node.Input h = tt
  node_more xs w node.State h = tt
  node_more xs w (node.Const start) h = let e = length-append constants bits in (h.0, omega arith)
  node_more xs w node.Zero h = tt
  node_more xs w node.One h = tt
  node_more xs w node.Ones h = tt
  node_more xs w (node.Unary k a) h = h
  node_more xs w (node.Binary k a b) h = h
  node_more xs w (node.Slice a upper lower) h = h
  node_more xs w (node.Uext a by) h = h
  node_more xs w (node.Sext a by) h = h
  node_more xs w (node.Ite s a b) h = h

  body_more : (xs : List Line) (b : Body) → BodyFits constants xs b → BodyFits (constants ++ bits) xs b
  body_more xs (body.Sort w) h = h
  body_more xs (body.Value s w n) h = record { width = h.width; sort = h.sort; node = node_more xs w n h.node }
  body_more xs (body.Init s q v) h = h
  body_more xs (body.Next s q v) h = h
  body_more xs (body.Bad n) h = h
  body_more xs (body.Constraint n) h = h

  line_more : (xs : List Line) (l : Line) → LineFits constants xs l → LineFits (constants ++ bits) xs l
  line_more xs l h = record { some = h.some; limit = h.limit; rises = h.rises; body = body_more xs l.body h.body }

-- a line that fits may be added, with its bits if it is a constant's
cuts_push : (constants bits : List Bool) (lines : List Line) (x : Line) → IsBtor (record { lines = lines; constants = constants }) → LineFits (constants ++ bits) lines x → (before more : List Line) (l : Line) → lines ++ x ∷ [] ≡ before ++ l ∷ more
    → LineFits (constants ++ bits) before l
cuts_push constants bits lines x h fits before more l e =
    elim (push_cut lines x before more l e) as (λ _. LineFits (constants ++ bits) before l) [
      | inl p ↦
          let P : List Line → Line → Type 0 = λ b y. LineFits (constants ++ bits) b y in
          subst (λ (y : Line). P before y) (sym p.last) (subst (λ (b : List Line). P b x) (sym p.all) fits)
      | inr p ↦ line_more constants bits before l (h.each before p.rest l p.cut)
    ]

pub btor_push : (constants : List Bool) (lines : List Line) (x : Line) → IsBtor (record { lines = lines; constants = constants }) → LineFits constants lines x → IsBtor (record { lines = lines ++ x ∷ []; constants = constants })
btor_push constants lines x h fits = record {
  each = λ before more l e.
      let P : List Bool → Type 0 = λ cs. LineFits cs before l in
      subst P (append-nil constants) (cuts_push constants [] lines x h (subst (λ (cs : List Bool). LineFits cs lines x) (sym (append-nil constants)) fits) before more l e);
  table = (let none = body_no_constant constants lines x.body h.table fits.body in let e = bits_push lines x in let t = h.table in omega arith);
}

pub btor_push_constant : (constants bits : List Bool) (lines : List Line) (k s w start : ℕ) → IsBtor (record { lines = lines; constants = constants }) → 1 ≤ k → k < 2 ^ 32 - 1 → All (λ l. l.nid < k) lines → w ≡ length bits → IsWidth w → sort_at lines s ≡ w → start ≡ length constants
    → IsBtor (record { lines = lines ++ record { nid = k; body = body.Value s w (node.Const start) } ∷ []; constants = constants ++ bits })
btor_push_constant constants bits lines k s w start h some limit rises e width sort from =
    let x : Line = record { nid = k; body = body.Value s w (node.Const start) } in
    let long = length-append constants bits in
    let place : NodeFits (constants ++ bits) lines w (node.Const start) = (from ∙ h.table, omega arith) in
    record {
      each = cuts_push constants bits lines x h (record { some = some; limit = limit; rises = rises; body = record { width = width; sort = sort; node = place } });
      table = (let b = bits_push lines x in let t = h.table in omega arith);
    }

pub width_stays : (m n : BtorOf) → Grows m n → (k : ℕ) → HasValue m.lines k → width_at n.lines k ≡ width_at m.lines k
width_stays m n g k h = rw g.lines (width_kept m.lines g.more k h)

pub sort_stays : (m n : BtorOf) → Grows m n → (k w : ℕ) → sort_at m.lines k ≡ w → 1 ≤ w → sort_at n.lines k ≡ w
sort_stays m n g k w e some = rw g.lines (at_kept sort_width m.lines g.more k (subst (λ (v : ℕ). 1 ≤ v) (sym e) some) ∙ e)

pub state_stays : (m n : BtorOf) → Grows m n → (k w : ℕ) → state_at m.lines k ≡ w → 1 ≤ w → state_at n.lines k ≡ w
state_stays m n g k w e some = rw g.lines (at_kept state_width m.lines g.more k (subst (λ (v : ℕ). 1 ≤ v) (sym e) some) ∙ e)

pub node_grown : (m n : BtorOf) → Grows m n → (w : ℕ) (x : Node) → 1 ≤ w → constant_node_width w x ≡ 0 → NodeFits m.constants m.lines w x → NodeFits n.constants n.lines w x
node_grown m n g w x some plain h = rw (g.lines, g.constants) (node_more m.constants g.bits (m.lines ++ g.more) w x (node_later m.constants m.lines g.more w x some plain h))
