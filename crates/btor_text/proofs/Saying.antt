-- What lines say, and the lines that say it.
use Rattle.std.proofs.Common.{◌≡◌, ℕ, Bool, List, [], ◌++◌, length, take, drop, refl, sym, ap, ◌∙◌, subst}
use Rattle.std.proofs.Math.Seq.{take-length, drop-append_seam}
use Rattle.btor_core.specs.declared.line.Node.{Node}
use Rattle.btor_core.specs.declared.line.Node.TheVariants as node
use Rattle.btor_core.specs.declared.line.Body.{Body}
use Rattle.btor_core.specs.declared.line.Body.TheVariants as body
use Rattle.btor_core.specs.declared.line.Line.{Line}
use Rattle.btor_core.specs.Shape.{BtorOf, sort_at}
use Rattle.btor_text.specs.Grammar.{Spells, body_bits, node_bits}
use Rattle.btor_text.specs.Reading.{SaidOf, bare, bare_node, body_digits, line_said, node_digits}
use Rattle.btor_text.specs.Refusals.{Matches, Says}
use Rattle.btor_text.specs.Steps.{fill, fill_node}

bare_node_filled : (p : ℕ) (n : Node) → bare_node (fill_node p n) ≡ bare_node n
bare_node_filled p node.Input = refl
bare_node_filled p node.State = refl
bare_node_filled p (node.Const start) = refl
bare_node_filled p node.Zero = refl
bare_node_filled p node.One = refl
bare_node_filled p node.Ones = refl
bare_node_filled p (node.Unary k a) = refl
bare_node_filled p (node.Binary k a b) = refl
bare_node_filled p (node.Slice a upper lower) = refl
bare_node_filled p (node.Uext a by) = refl
bare_node_filled p (node.Sext a by) = refl
bare_node_filled p (node.Ite t a b) = refl

bare_filled : (f : ℕ → ℕ) (p : ℕ) (b : Body) → bare (fill f p b) ≡ bare b
bare_filled f p (body.Sort w) = refl
bare_filled f p (body.Value s w n) = ap (λ (o : Node). body.Value s 0 o) (bare_node_filled p n)
bare_filled f p (body.Init s q v) = refl
bare_filled f p (body.Next s q v) = refl
bare_filled f p (body.Bad n) = refl
bare_filled f p (body.Constraint n) = refl

bare_node_bare : (n : Node) → bare_node (bare_node n) ≡ bare_node n
bare_node_bare node.Input = refl
bare_node_bare node.State = refl
bare_node_bare (node.Const start) = refl
bare_node_bare node.Zero = refl
bare_node_bare node.One = refl
bare_node_bare node.Ones = refl
bare_node_bare (node.Unary k a) = refl
bare_node_bare (node.Binary k a b) = refl
bare_node_bare (node.Slice a upper lower) = refl
bare_node_bare (node.Uext a by) = refl
bare_node_bare (node.Sext a by) = refl
bare_node_bare (node.Ite t a b) = refl

bare_bare : (b : Body) → bare (bare b) ≡ bare b
bare_bare (body.Sort w) = refl
bare_bare (body.Value s w n) = ap (λ (o : Node). body.Value s 0 o) (bare_node_bare n)
bare_bare (body.Init s q v) = refl
bare_bare (body.Next s q v) = refl
bare_bare (body.Bad n) = refl
bare_bare (body.Constraint n) = refl

-- bits that a constant brings are found at its place
found_bits : (cs bits : List Bool) (w p : ℕ) → p ≡ length cs → w ≡ length bits → take w (drop p (cs ++ bits)) ≡ bits
found_bits cs bits w p e f = rw (e, f) (ap (λ (bs : List Bool). take (length bits) bs) (drop-append_seam cs bits) ∙ take-length bits)

-- a constant has as many bits as its sort
abbrev pub HasWidth : (ℕ → ℕ) → List Bool → Body → Type 0
HasWidth f bits b = (s w k : ℕ) → b ≡ body.Value s w (node.Const k) → f s ≡ length bits

node_filled_bits : (cs bits ds : List Bool) (w p : ℕ) (n : Node) → p ≡ length cs → bits ≡ node_digits n ds → ((k : ℕ) → n ≡ node.Const k → w ≡ length bits) → node_bits (cs ++ bits) w (fill_node p n) ≡ bits
node_filled_bits cs bits ds w p node.Input e d h = sym d
node_filled_bits cs bits ds w p node.State e d h = sym d
node_filled_bits cs bits ds w p (node.Const start) e d h = found_bits cs bits w p e (h start refl)
node_filled_bits cs bits ds w p node.Zero e d h = sym d
node_filled_bits cs bits ds w p node.One e d h = sym d
node_filled_bits cs bits ds w p node.Ones e d h = sym d
node_filled_bits cs bits ds w p (node.Unary k a) e d h = sym d
node_filled_bits cs bits ds w p (node.Binary k a b) e d h = sym d
node_filled_bits cs bits ds w p (node.Slice a upper lower) e d h = sym d
node_filled_bits cs bits ds w p (node.Uext a by) e d h = sym d
node_filled_bits cs bits ds w p (node.Sext a by) e d h = sym d
node_filled_bits cs bits ds w p (node.Ite t a b) e d h = sym d

filled_bits : (cs bits ds : List Bool) (f : ℕ → ℕ) (p : ℕ) (b : Body) → p ≡ length cs → bits ≡ body_digits b ds → HasWidth f bits b → body_bits (cs ++ bits) (fill f p b) ≡ bits
filled_bits cs bits ds f p (body.Sort w) e d h = sym d
filled_bits cs bits ds f p (body.Value s w n) e d h = node_filled_bits cs bits ds (f s) p n e d (λ k is. h s w k (ap (λ (o : Node). body.Value s w o) is))
filled_bits cs bits ds f p (body.Init s q v) e d h = sym d
filled_bits cs bits ds f p (body.Next s q v) e d h = sym d
filled_bits cs bits ds f p (body.Bad n) e d h = sym d
filled_bits cs bits ds f p (body.Constraint n) e d h = sym d

-- the line that is filled in says what was said
pub filled_says : (cs : List Bool) (x : SaidOf) (f : ℕ → ℕ) (p : ℕ) (ds : List Bool) → bare x.body ≡ x.body → p ≡ length cs → x.bits ≡ body_digits x.body ds → HasWidth f x.bits x.body
    → line_said (cs ++ x.bits) (record { nid = x.nid; body = fill f p x.body }) ≡ x
filled_says cs x f p ds e place d h =
    let P : Body → List Bool → SaidOf = λ b bs. record { nid = x.nid; body = b; bits = bs } in
    ap (λ (b : Body). P b (body_bits (cs ++ x.bits) (fill f p x.body))) (bare_filled f p x.body ∙ e) ∙ ap (λ (bs : List Bool). P x.body bs) (filled_bits cs x.bits ds f p x.body place d h)

matched_width : (m : BtorOf) (x : SaidOf) (b : Body) → x.body ≡ b → Matches x.bits m.lines x.body → Matches x.bits m.lines b
matched_width m x b e h = subst (λ (c : Body). Matches x.bits m.lines c) e h

pub matches_width : (m : BtorOf) (x : SaidOf) → Matches x.bits m.lines x.body → HasWidth (sort_at m.lines) x.bits x.body
matches_width m x h s w k e = sym (matched_width m x (body.Value s w (node.Const k)) e h)

node_digits_bits : (constants : List Bool) (w : ℕ) (n : Node) → node_bits constants w n ≡ node_digits (bare_node n) (node_bits constants w n)
node_digits_bits constants w node.Input = refl
node_digits_bits constants w node.State = refl
node_digits_bits constants w (node.Const start) = refl
node_digits_bits constants w node.Zero = refl
node_digits_bits constants w node.One = refl
node_digits_bits constants w node.Ones = refl
node_digits_bits constants w (node.Unary k a) = refl
node_digits_bits constants w (node.Binary k a b) = refl
node_digits_bits constants w (node.Slice a upper lower) = refl
node_digits_bits constants w (node.Uext a by) = refl
node_digits_bits constants w (node.Sext a by) = refl
node_digits_bits constants w (node.Ite t a b) = refl

digits_bits : (constants : List Bool) (b : Body) → body_bits constants b ≡ body_digits (bare b) (body_bits constants b)
digits_bits constants (body.Sort w) = refl
digits_bits constants (body.Value s w n) = node_digits_bits constants w n
digits_bits constants (body.Init s q v) = refl
digits_bits constants (body.Next s q v) = refl
digits_bits constants (body.Bad n) = refl
digits_bits constants (body.Constraint n) = refl

pub says_bare : (words : List (List ℕ)) (x : SaidOf) → Says words x → bare x.body ≡ x.body
says_bare words x h = subst (λ (y : SaidOf). bare y.body ≡ y.body) h.3 (bare_bare h.1.body)

pub says_digits : (words : List (List ℕ)) (x : SaidOf) → Says words x → x.bits ≡ body_digits x.body x.bits
says_digits words x h = subst (λ (y : SaidOf). y.bits ≡ body_digits y.body y.bits) h.3 (digits_bits h.0 h.1.body)

-- words that say this are those of a line
pub says : (words : List (List ℕ)) (x : SaidOf) (ds : List Bool) → bare x.body ≡ x.body → x.bits ≡ body_digits x.body ds
    → ((constants : List Bool) (l : Line) → line_said constants l ≡ x → Spells constants words l) → Says words x
says words x ds e d spelt =
    let l : Line = record { nid = x.nid; body = fill (λ s. length x.bits) 0 x.body } in
    let said : line_said x.bits l ≡ x = filled_says [] x (λ s. length x.bits) 0 ds e refl d (λ s w k is. refl) in
    (x.bits, l, spelt x.bits l said, said)
