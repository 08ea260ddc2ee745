-- Bytes are the text of one model.
use Rattle.std.proofs.Common.{◌≡◌, ℕ, ◌+◌, Bool, List, [], ◌∷◌, ◌++◌, Option, Some, take, drop, refl, sym, ap, ◌∙◌, subst, arith, append_assoc}
use Rattle.std.specs.Prelude.{map}
use Rattle.std.specs.List.{AllByRecursion, AllZip, flat_map}
use Rattle.std.proofs.lemmas.List.{append-nil}
use Rattle.std.proofs.lemmas.List.Sums.{sum_by-append}
use Rattle.std.proofs.lemmas.Grind.{flat_map-append}
use Rattle.std.proofs.Math.Seq.{take-add, take-length}
use Rattle.btor_core.specs.declared.line.Node.{Node}
use Rattle.btor_core.specs.declared.line.Node.TheVariants as node
use Rattle.btor_core.specs.declared.line.Body.{Body}
use Rattle.btor_core.specs.declared.line.Body.TheVariants as body
use Rattle.btor_core.specs.declared.line.Line.{Line}
use Rattle.btor_core.specs.Shape.{BtorOf, constant_bits, constant_node_width, constant_width, sort_at}
use Rattle.btor_core.specs.Fits.{BodyFits, IsBtor, NodeFits}
use Rattle.btor_text.specs.Grammar.{AreLines, IsText, Spells, all_words, body_bits, lines_of, node_bits}
use Rattle.btor_text.specs.Reading.{SaidOf, bare, bare_node, line_said}
use Rattle.btor_text.specs.Steps.{fill, fill_node}
use Rattle.btor_text.proofs.Back.{AreSome, all_some, lines_read}

node_filled : (constants : List Bool) (before : List Line) (w : ℕ) (n : Node) → NodeFits constants before w n → fill_node (constant_bits before) (bare_node n) ≡ n
node_filled constants before w node.Input f = refl
node_filled constants before w node.State f = refl
node_filled constants before w (node.Const start) f = ap (λ (p : ℕ). node.Const p) (sym f.0)
node_filled constants before w node.Zero f = refl
node_filled constants before w node.One f = refl
node_filled constants before w node.Ones f = refl
node_filled constants before w (node.Unary k a) f = refl
node_filled constants before w (node.Binary k a b) f = refl
node_filled constants before w (node.Slice a upper lower) f = refl
node_filled constants before w (node.Uext a by) f = refl
node_filled constants before w (node.Sext a by) f = refl
node_filled constants before w (node.Ite t a b) f = refl

filled : (constants : List Bool) (before : List Line) (b : Body) → BodyFits constants before b → fill (sort_at before) (constant_bits before) (bare b) ≡ b
filled constants before (body.Sort w) f = refl
filled constants before (body.Value s w n) f = ap (λ (v : ℕ). body.Value s v (fill_node (constant_bits before) (bare_node n))) f.sort ∙ ap (λ (x : Node). body.Value s w x) (node_filled constants before w n f.node)
filled constants before (body.Init s q v) f = refl
filled constants before (body.Next s q v) f = refl
filled constants before (body.Bad n) f = refl
filled constants before (body.Constraint n) f = refl

same_line : (l k : Line) → l.nid ≡ k.nid → l.body ≡ k.body → l ≡ k
same_line l k e f =
    let P : ℕ → Body → Line = λ n b. record { nid = n; body = b } in
    ap (λ (n : ℕ). P n l.body) e ∙ ap (λ (b : Body). P k.nid b) f

-- of two models that say the same all lines are the same
module _ (m n : BtorOf) (fits : IsBtor m) (others : IsBtor n) where
  lines_same : (before xs ys zs : List Line) → m.lines ≡ before ++ xs → n.lines ≡ before ++ (ys ++ zs) → map (line_said m.constants) xs ≡ map (line_said n.constants) ys → xs ≡ ys
  lines_same before [] [] zs e f h = refl
  lines_same before [] (y ∷ ys) zs e f h = absurd (cc)
  lines_same before (x ∷ xs) [] zs e f h = absurd (cc)
  lines_same before (x ∷ xs) (y ∷ ys) zs e f h =
      let one : line_said m.constants x ≡ line_said n.constants y = cc in
      let rest : map (line_said m.constants) xs ≡ map (line_said n.constants) ys = cc in
      let number : x.nid ≡ y.nid = ap (λ (s : SaidOf). s.nid) one in
      let bare_same : bare x.body ≡ bare y.body = ap (λ (s : SaidOf). s.body) one in
      let p : ℕ = constant_bits before in
      let body_same : x.body ≡ y.body =
      sym (filled m.constants before x.body (fits.each before xs x e).body) ∙ ap (λ (b : Body). fill (sort_at before) p b) bare_same ∙ filled n.constants before y.body (others.each before (ys ++ zs) y f).body in
      let line : x ≡ y = same_line x y number body_same in
      let cut : m.lines ≡ (before ++ x ∷ []) ++ xs = e ∙ sym (append_assoc before (x ∷ []) xs) in
      let other : n.lines ≡ (before ++ x ∷ []) ++ (ys ++ zs) = f ∙ ap (λ (l : Line). before ++ l ∷ (ys ++ zs)) (sym line) ∙ sym (append_assoc before (x ∷ []) (ys ++ zs)) in
      let tail : xs ≡ ys = lines_same (before ++ x ∷ []) xs ys zs cut other rest in
      ap (λ (l : Line). l ∷ xs) line ∙ ap (λ (ls : List Line). y ∷ ls) tail

-- a line's bits are the next of the table
node_next : (constants : List Bool) (before : List Line) (w : ℕ) (n : Node) → NodeFits constants before w n → node_bits constants w n ≡ take (constant_node_width w n) (drop (constant_bits before) constants)
node_next constants before w node.Input f = refl
node_next constants before w node.State f = refl
node_next constants before w (node.Const start) f = ap (λ (p : ℕ). take w (drop p constants)) f.0
node_next constants before w node.Zero f = refl
node_next constants before w node.One f = refl
node_next constants before w node.Ones f = refl
node_next constants before w (node.Unary k a) f = refl
node_next constants before w (node.Binary k a b) f = refl
node_next constants before w (node.Slice a upper lower) f = refl
node_next constants before w (node.Uext a by) f = refl
node_next constants before w (node.Sext a by) f = refl
node_next constants before w (node.Ite t a b) f = refl

body_next : (constants : List Bool) (before : List Line) (b : Body) → BodyFits constants before b → body_bits constants b ≡ take (constant_width b) (drop (constant_bits before) constants)
body_next constants before (body.Sort w) f = refl
body_next constants before (body.Value s w n) f = node_next constants before w n f.node
body_next constants before (body.Init s q v) f = refl
body_next constants before (body.Next s q v) f = refl
body_next constants before (body.Bad n) f = refl
body_next constants before (body.Constraint n) f = refl

take_both : (xs : List Bool) (p w : ℕ) → take p xs ++ take w (drop p xs) ≡ take (p + w) xs
take_both xs p w = sym (take-add p w xs)

abbrev bits_of : List Bool → List Line → List Bool
bits_of constants lines = flat_map (λ l. body_bits constants l.body) lines

module _ (m : BtorOf) (fits : IsBtor m) where
  bits_from : (before rest : List Line) → m.lines ≡ before ++ rest → bits_of m.constants before ≡ take (constant_bits before) m.constants → bits_of m.constants (before ++ rest) ≡ take (constant_bits (before ++ rest)) m.constants
  bits_from before [] e h = ap (λ (ls : List Line). bits_of m.constants ls) (append-nil before) ∙ h ∙ ap (λ (ls : List Line). take (constant_bits ls) m.constants) (sym (append-nil before))
  bits_from before (l ∷ rest) e h =
      let cut : m.lines ≡ (before ++ l ∷ []) ++ rest = e ∙ sym (append_assoc before (l ∷ []) rest) in
      let w : ℕ = constant_width l.body in
      let total : constant_bits before + w ≡ constant_bits (before ++ l ∷ []) = let s = sum_by-append (λ (k : Line). constant_width k.body) before (l ∷ []) in omega arith in
      let here : bits_of m.constants (before ++ l ∷ []) ≡ take (constant_bits (before ++ l ∷ [])) m.constants =
      flat_map-append (λ (k : Line). body_bits m.constants k.body) before (l ∷ []) ∙ ap (λ (bs : List Bool). bits_of m.constants before ++ bs) (append-nil (body_bits m.constants l.body))
      ∙ ap (λ (bs : List Bool). bs ++ body_bits m.constants l.body) h ∙ ap (λ (bs : List Bool). take (constant_bits before) m.constants ++ bs) (body_next m.constants before l.body (fits.each before rest l e).body)
      ∙ take_both m.constants (constant_bits before) w ∙ ap (λ (n : ℕ). take n m.constants) total in
      let all = bits_from (before ++ l ∷ []) rest cut here in
      subst (λ (ls : List Line). bits_of m.constants ls ≡ take (constant_bits ls) m.constants) (append_assoc before (l ∷ []) rest) all

  bits_all : bits_of m.constants m.lines ≡ m.constants
  bits_all = bits_from [] m.lines refl refl ∙ ap (λ (n : ℕ). take n m.constants) (sym fits.table) ∙ take-length m.constants

bits_said : (constants : List Bool) (lines : List Line) → bits_of constants lines ≡ flat_map (λ s. s.bits) (map (line_said constants) lines)
bits_said constants [] = refl
bits_said constants (l ∷ lines) = ap (λ (bs : List Bool). body_bits constants l.body ++ bs) (bits_said constants lines)

somes : (xs ys : List SaidOf) → map (λ s. Some s) xs ≡ map (λ s. Some s) ys → xs ≡ ys
somes [] [] e = refl
somes [] (y ∷ ys) e = absurd (cc)
somes (x ∷ xs) [] e = absurd (cc)
somes (x ∷ xs) (y ∷ ys) e =
    let head : Some x ≡ Some y = cc in
    let one : x ≡ y = cc in
    let tail : map (λ (s : SaidOf). Some s) xs ≡ map (λ (s : SaidOf). Some s) ys = cc in
    let rest = somes xs ys tail in
    cc

said_lines : (constants : List Bool) (lines : List Line) → map (λ l. Some (line_said constants l)) lines ≡ map (λ s. Some s) (map (line_said constants) lines)
said_lines constants [] = refl
said_lines constants (l ∷ lines) = ap (λ (os : List (Option SaidOf)). Some (line_said constants l) ∷ os) (said_lines constants lines)

same_said : (cs ds : List Bool) (wss : List (List (List ℕ))) (xs ys : List Line) → AllByRecursion AreSome wss → AllZip (Spells cs) wss xs → AllZip (Spells ds) wss ys → map (line_said cs) xs ≡ map (line_said ds) ys
same_said cs ds wss xs ys some s t =
    somes (map (line_said cs) xs) (map (line_said ds) ys) (sym (said_lines cs xs) ∙ sym (lines_read cs wss xs some s) ∙ lines_read ds wss ys some t ∙ said_lines ds ys)

-- lines that are read as a model's are the first of each other model that goes on with the same
pub same_front : (m n : BtorOf) (wss : List (List (List ℕ))) (xs ys : List Line) → IsBtor m → IsBtor n → AllByRecursion AreSome wss → n.lines ≡ xs ++ ys → AllZip (Spells m.constants) wss m.lines → AllZip (Spells n.constants) wss xs → m.lines ≡ xs
same_front m n wss xs ys fits others some cut s t = lines_same m n fits others [] m.lines xs ys refl cut (same_said m.constants n.constants wss m.lines xs some s t)

pub models_same : (texts : List (List ℕ)) (m n : BtorOf) → IsBtor m → IsBtor n → AreLines texts m → AreLines texts n → m ≡ n
models_same texts m n fits others s t =
    let same = same_said m.constants n.constants (all_words texts) m.lines n.lines (all_some texts) s t in
    let lines : m.lines ≡ n.lines = same_front m n (all_words texts) n.lines [] fits others (all_some texts) (sym (append-nil n.lines)) s t in
    let constants : m.constants ≡ n.constants =
    sym (bits_all m fits) ∙ bits_said m.constants m.lines ∙ ap (λ (ss : List SaidOf). flat_map (λ s. s.bits) ss) same ∙ sym (bits_said n.constants n.lines) ∙ bits_all n others in
    let P : List Line → List Bool → BtorOf = λ ls cs. record { lines = ls; constants = cs } in
    ap (λ (ls : List Line). P ls m.constants) lines ∙ ap (λ (cs : List Bool). P n.lines cs) constants

pub one_model : (bytes : List ℕ) (m n : BtorOf) → IsBtor m → IsBtor n → IsText bytes m → IsText bytes n → m ≡ n
one_model bytes m n fits others s t = models_same (lines_of bytes) m n fits others s t
