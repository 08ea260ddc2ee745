-- The numbers of a model's lines are of 32 bits.
use Rattle.std.proofs.Common.{◌≡◌, ℕ, ◌-◌, ◌<◌, ◌≤◌, ◌^◌, Bool, List, ◌∷◌, ◌++◌, length, drop, ap, ◌∙◌, arith, length-take, length-drop}
use Rattle.std.specs.Prelude.{All}
use Rattle.std.specs.List.{AllByRecursion}
use Rattle.btor_core.specs.declared.line.Node.{Node}
use Rattle.btor_core.specs.declared.line.Node.TheVariants as node
use Rattle.btor_core.specs.declared.line.Body.{Body}
use Rattle.btor_core.specs.declared.line.Body.TheVariants as body
use Rattle.btor_core.specs.declared.line.Line.{Line}
use Rattle.btor_core.specs.Shape.{BtorOf, at_nid, sort_width, state_width, value_width, width_at}
use Rattle.btor_core.specs.Fits.{BodyFits, HasValue, IsBtor, LineFits, NodeFits, TieFits}
use Rattle.btor_core.proofs.Reading.{at_below, at_kept}
use Rattle.btor_core.proofs.Rows.{each_value}
use Rattle.btor_text.specs.Grammar.{Part, bits, body_bits, body_parts, key, line_parts, node_bits, node_parts, number}

-- a number of 32 bits, bits of which there is one at least
abbrev pub IsSmall : Part → Type 0
IsSmall (key k) = Unit {0}
IsSmall (number n) = n < 2 ^ 32
IsSmall (bits bs) = 0 < length bs

-- values of lines before are at most 4096 bits wide
pub widths_small : (m : BtorOf) (before more : List Line) → IsBtor m → m.lines ≡ before ++ more → (a : ℕ) → HasValue before a → width_at before a ≤ 4096
widths_small m before more h e a some =
    let kept : width_at (before ++ more) a ≡ width_at before a = at_kept value_width before more a some in
    let whole : width_at m.lines a ≡ width_at before a = ap (λ (ls : List Line). width_at ls a) e ∙ kept in
    let all : width_at m.lines a ≤ 4096 = each_value m (λ k w. w ≤ 4096) (λ b r k s w n c f g. f.width.1) h a (omega arith) in
    omega arith

module _ (before : List Line) (k : ℕ) (rises : All (λ l. l.nid < k) before) (limit : k < 2 ^ 32 - 1) where
  read_small : (read : Body → ℕ) (a : ℕ) → 1 ≤ at_nid read before a → a < 2 ^ 32
  read_small read a h = let b : a < k = at_below read before a k rises h in omega arith

  value_small : (a : ℕ) → HasValue before a → a < 2 ^ 32
  value_small a h = read_small value_width a h

  node_small : (constants : List Bool) (s w : ℕ) (n : Node) → ((a : ℕ) → HasValue before a → width_at before a ≤ 4096) → 1 ≤ w → w ≤ 4096 → s < 2 ^ 32 → NodeFits constants before w n → AllByRecursion IsSmall (node_parts (node_bits constants w n) s n)
  node_small constants s w node.Input wide some most sort f = (tt, (sort, tt))
  node_small constants s w node.State wide some most sort f = (tt, (sort, tt))
  node_small constants s w (node.Const start) wide some most sort f = (tt, (sort, ((let d = length-drop start constants in let t = length-take w (drop start constants) in let g = f.1 in omega arith), tt)))
  node_small constants s w node.Zero wide some most sort f = (tt, (sort, tt))
  node_small constants s w node.One wide some most sort f = (tt, (sort, tt))
  node_small constants s w node.Ones wide some most sort f = (tt, (sort, tt))
  node_small constants s w (node.Unary o a) wide some most sort f = (tt, (sort, (value_small a f.0, tt)))
  node_small constants s w (node.Binary o a b) wide some most sort f = (tt, (sort, (value_small a f.0, (value_small b f.1, tt))))
  node_small constants s w (node.Slice a upper lower) wide some most sort f = let u = wide a f.0 in let g = f.1 in (tt, (sort, (value_small a f.0, (omega arith, (omega arith, tt)))))
  node_small constants s w (node.Uext a by) wide some most sort f = (tt, (sort, (value_small a f.0, ((let g = f.1 in omega arith), tt))))
  node_small constants s w (node.Sext a by) wide some most sort f = (tt, (sort, (value_small a f.0, ((let g = f.1 in omega arith), tt))))
  node_small constants s w (node.Ite t a b) wide some most sort f = (tt, (sort, (value_small t f.0, (value_small a f.1, (value_small b f.2, tt)))))

  tie_small : (s q v : ℕ) → TieFits before s q v → (s < 2 ^ 32) × (q < 2 ^ 32) × (v < 2 ^ 32)
  tie_small s q v f =
      let a = f.sort in
      let b = f.state in
      let c = f.value in
      (read_small sort_width s f.sort, read_small state_width q (omega arith), read_small value_width v (omega arith))

  body_small : (constants : List Bool) (b : Body) → ((a : ℕ) → HasValue before a → width_at before a ≤ 4096) → BodyFits constants before b → AllByRecursion IsSmall (body_parts (body_bits constants b) b)
  body_small constants (body.Sort w) wide f = (tt, (tt, ((let g = f.1 in omega arith), tt)))
  body_small constants (body.Value s w n) wide f = node_small constants s w n wide f.width.0 f.width.1 (read_small sort_width s (let g = f.sort in let h = f.width.0 in omega arith)) f.node
  body_small constants (body.Init s q v) wide f = let t = tie_small s q v f.fits in (tt, (t.0, (t.1, (t.2, tt))))
  body_small constants (body.Next s q v) wide f = let t = tie_small s q v f.fits in (tt, (t.0, (t.1, (t.2, tt))))
  body_small constants (body.Bad n) wide f = (tt, (value_small n (omega arith), tt))
  body_small constants (body.Constraint n) wide f = (tt, (value_small n (omega arith), tt))

-- each number of a model's line is of 32 bits
pub line_small : (m : BtorOf) (before more : List Line) (l : Line) → IsBtor m → m.lines ≡ before ++ l ∷ more → AllByRecursion IsSmall (line_parts m.constants l)
line_small m before more l h e =
    let f : LineFits m.constants before l = h.each before more l e in
    ((let g = f.limit in omega arith), body_small before l.nid f.rises f.limit m.constants l.body (widths_small m before (l ∷ more) h e) f.body)
