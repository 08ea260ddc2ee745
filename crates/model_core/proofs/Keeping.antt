-- What is kept stays as it was where the lists grow.
use Rattle.std.proofs.Common.{◌≡◌, ℕ, ◌+◌, ◌≤◌, List, [], ◌∷◌, ◌++◌, map, refl, sym, ap, ◌∙◌, arith, length, length-append, length-drop, take, drop, append_assoc, subst}
use Rattle.std.specs.Prelude.{Bool, All}
use Rattle.std.specs.List.{flat_map}
use Rattle.std.proofs.lemmas.List.{append-nil, drop-append-le, map-append, take-append-le}
use Rattle.std.proofs.lemmas.List.Elements.{All-head, All-push, All-tail}
use Rattle.std.proofs.lemmas.List.Folds.{flat_map-map}
use Rattle.std.proofs.lemmas.Grind.{flat_map-append}
use Rattle.std.proofs.Math.Seq.{drop-append_seam, take-append_seam}
use Rattle.model_core.specs.Shape.{NodeOf, RegisterOf}
use Rattle.model_core.specs.Stored.{AreKept, IsNodeInside, IsRegisterInside, node_of, part, register_of}
use Rattle.model_core.specs.declared.model.Control.{Control}
use Rattle.model_core.specs.declared.op.Op.{Op}
use Rattle.model_core.specs.declared.stored.StoredNode.{StoredNode}
use Rattle.model_core.specs.declared.stored.StoredRegister.{StoredRegister}

part_more : (xs ys : List ℕ) (first count : ℕ) → first + count ≤ length xs → part (xs ++ ys) first count ≡ part xs first count
part_more xs ys first count h =
    ap (take count) (drop-append-le first xs ys (omega arith)) ∙ take-append-le count (drop first xs) ys (omega (arith, length-drop first xs))

part_at : (before it after xs : List ℕ) (first count : ℕ) → xs ≡ before ++ (it ++ after) → first ≡ length before → count ≡ length it → part xs first count ≡ it
part_at before it after xs first count e f g =
    rw (e, f, g) (ap (take (length it)) (drop-append_seam before (it ++ after)) ∙ take-append_seam it after)

-- a node that is added after the others
pub node_new : (op : Op) (old a b s y places : List ℕ) → places ≡ (((old ++ a) ++ b) ++ s) ++ y
    → node_of places (record { op = op; first = length old; a = length a; b = length b; s = length s; y = length y }) ≡ record { op = op; a = a; b = b; s = s; y = y }
node_new op old a b s y places e =
    let la = length-append old a in
    let lb = length-append (old ++ a) b in
    let ls = length-append ((old ++ a) ++ b) s in
    let ra = part_at old a (b ++ (s ++ y)) places (length old) (length a) (e ∙ simp append_assoc) refl refl in
    let rb = part_at (old ++ a) b (s ++ y) places (length old + length a) (length b) (e ∙ simp append_assoc) (omega arith) refl in
    let rs = part_at ((old ++ a) ++ b) s y places (length old + length a + length b) (length s) (e ∙ simp append_assoc) (omega arith) refl in
    let ry = part_at (((old ++ a) ++ b) ++ s) y [] places (length old + length a + length b + length s) (length y) (e ∙ ap (λ (z : List ℕ). (((old ++ a) ++ b) ++ s) ++ z) (sym (append-nil y))) (omega arith) refl in
    rw (ra, rb, rs, ry) refl

node_more : (places more : List ℕ) (n : StoredNode) → IsNodeInside places n → node_of (places ++ more) n ≡ node_of places n
node_more places more n h =
    let ra = part_more places more n.first n.a (omega arith) in
    let rb = part_more places more (n.first + n.a) n.b (omega arith) in
    let rs = part_more places more (n.first + n.a + n.b) n.s (omega arith) in
    let ry = part_more places more (n.first + n.a + n.b + n.s) n.y (omega arith) in
    rw (ra, rb, rs, ry) refl

pub nodes_more : (places more : List ℕ) (nodes : List StoredNode) → All (IsNodeInside places) nodes → map (node_of (places ++ more)) nodes ≡ map (node_of places) nodes
nodes_more places more [] h = refl
nodes_more places more (n ∷ nodes) h =
    let head = node_more places more n (All-head (IsNodeInside places) n nodes h) in
    let tail = nodes_more places more nodes (All-tail (IsNodeInside places) n nodes h) in
    cc

-- a register that is added after the others
pub register_new : (enable reset : Control) (first : Bool) (old bits q d value places states : List ℕ) → length d ≡ length q → length value ≡ length q → places ≡ (old ++ d) ++ value → states ≡ bits ++ q
    → register_of places states (record { first = length old; state = length bits; width = length q; enable = enable; reset = reset; reset_first = first })
    ≡ record { q = q; d = d; value = value; enable = enable; reset = reset; reset_first = first }
register_new enable reset first old bits q d value places states ed ev e f =
    let ld = length-append old d in
    let rq = part_at bits q [] states (length bits) (length q) (f ∙ ap (λ (z : List ℕ). bits ++ z) (sym (append-nil q))) refl refl in
    let rd = part_at old d value places (length old) (length q) (e ∙ simp append_assoc) refl (sym ed) in
    let rv = part_at (old ++ d) value [] places (length old + length q) (length q) (e ∙ ap (λ (z : List ℕ). (old ++ d) ++ z) (sym (append-nil value))) (omega arith) (sym ev) in
    rw (rq, rd, rv) refl

register_more : (places more states bits : List ℕ) (r : StoredRegister) → IsRegisterInside places states r → register_of (places ++ more) (states ++ bits) r ≡ register_of places states r
register_more places more states bits r h =
    let hp = h.0 in
    let hs = h.1 in
    let rq = part_more states bits r.state r.width (omega arith) in
    let rd = part_more places more r.first r.width (omega arith) in
    let rv = part_more places more (r.first + r.width) r.width (omega arith) in
    rw (rq, rd, rv) refl

pub registers_more : (places more states bits : List ℕ) (registers : List StoredRegister) → All (IsRegisterInside places states) registers
    → map (register_of (places ++ more) (states ++ bits)) registers ≡ map (register_of places states) registers
registers_more places more states bits [] h = refl
registers_more places more states bits (r ∷ registers) h =
    let head = register_more places more states bits r (All-head (IsRegisterInside places states) r registers h) in
    let tail = registers_more places more states bits registers (All-tail (IsRegisterInside places states) r registers h) in
    cc

pub pushed_node : (op : Op) (old a b s y places : List ℕ) (first na nb ns ny : ℕ) (nodes now : List StoredNode) → places ≡ (((old ++ a) ++ b) ++ s) ++ y → first ≡ length old
    → na ≡ length a → nb ≡ length b → ns ≡ length s → ny ≡ length y
    → now ≡ nodes ++ record { op = op; first = first; a = na; b = nb; s = ns; y = ny } ∷ [] → All (IsNodeInside old) nodes
    → map (node_of places) now ≡ map (node_of old) nodes ++ record { op = op; a = a; b = b; s = s; y = y } ∷ []
pushed_node op old a b s y places first na nb ns ny nodes now e ef ea eb es ey en h =
    let new = node_new op old a b s y places e in
    let grown : places ≡ old ++ (a ++ (b ++ (s ++ y))) = e ∙ simp append_assoc in
    let more = nodes_more old (a ++ (b ++ (s ++ y))) nodes h in
    rw (en, ef, ea, eb, es, ey, map-append (node_of places) nodes (record { op = op; first = length old; a = length a; b = length b; s = length s; y = length y } ∷ []), new)
    (rw grown (ap (λ (ns : List NodeOf). ns ++ record { op = op; a = a; b = b; s = s; y = y } ∷ []) more))

pub registers_stay : (old a b s y places states : List ℕ) (registers : List StoredRegister) → places ≡ (((old ++ a) ++ b) ++ s) ++ y → All (IsRegisterInside old states) registers
    → map (register_of places states) registers ≡ map (register_of old states) registers
registers_stay old a b s y places states registers e h =
    let grown : places ≡ old ++ (a ++ (b ++ (s ++ y))) = e ∙ simp append_assoc in
    let more = registers_more old (a ++ (b ++ (s ++ y))) states [] registers h in
    rw grown (ap (λ (bits : List ℕ). map (register_of (old ++ (a ++ (b ++ (s ++ y)))) bits) registers) (sym (append-nil states)) ∙ more)

pub pushed_register : (enable reset : Control) (first : Bool) (old bits q d value places states : List ℕ) (at bit width : ℕ) (registers now : List StoredRegister)
    → length d ≡ length q → length value ≡ length q → places ≡ (old ++ d) ++ value → states ≡ bits ++ q → at ≡ length old → bit ≡ length bits → width ≡ length q
    → now ≡ registers ++ record { first = at; state = bit; width = width; enable = enable; reset = reset; reset_first = first } ∷ [] → All (IsRegisterInside old bits) registers
    → map (register_of places states) now ≡ map (register_of old bits) registers ++ record { q = q; d = d; value = value; enable = enable; reset = reset; reset_first = first } ∷ []
pushed_register enable reset first old bits q d value places states at bit width registers now ed ev e f ea eb ew en h =
    let new = register_new enable reset first old bits q d value places states ed ev e f in
    let grown : places ≡ old ++ (d ++ value) = e ∙ simp append_assoc in
    let more = registers_more old (d ++ value) bits q registers h in
    rw (en, ea, eb, ew, map-append (register_of places states) registers (record { first = length old; state = length bits; width = length q; enable = enable; reset = reset; reset_first = first } ∷ []), new)
    (rw (grown, f) (ap (λ (rs : List RegisterOf). rs ++ record { q = q; d = d; value = value; enable = enable; reset = reset; reset_first = first } ∷ []) more))

pub nodes_stay : (old d value places : List ℕ) (nodes : List StoredNode) → places ≡ (old ++ d) ++ value → All (IsNodeInside old) nodes → map (node_of places) nodes ≡ map (node_of old) nodes
nodes_stay old d value places nodes e h =
    let grown : places ≡ old ++ (d ++ value) = e ∙ simp append_assoc in
    rw grown (nodes_more old (d ++ value) nodes h)

-- what is kept with the register that is added
pub kept_register : (enable reset : Control) (first : Bool) (old bits q d value places states : List ℕ) (at bit width : ℕ) (nodes : List StoredNode) (registers now : List StoredRegister)
    → length d ≡ length q → length value ≡ length q → places ≡ (old ++ d) ++ value → states ≡ bits ++ q → at ≡ length old → bit ≡ length bits → width ≡ length q
    → now ≡ registers ++ record { first = at; state = bit; width = width; enable = enable; reset = reset; reset_first = first } ∷ [] → AreKept old bits nodes registers
    → AreKept places states nodes now
kept_register enable reset first old bits q d value places states at bit width nodes registers now ed ev e f ea eb ew en k =
    let le : length places ≡ length old + length d + length value = ap length e ∙ omega (arith, length-append (old ++ d) value, length-append old d) in
    let ls : length states ≡ length bits + length q = ap length f ∙ length-append bits q in
    record {
      nodes_inside = λ i n l. let h = k.nodes_inside i n l in omega arith;
      registers_inside = subst (All (IsRegisterInside places states)) (sym en)
          (All-push (IsRegisterInside places states) registers _ (λ i r l. let h = k.registers_inside i r l in let hp = h.0 in let hs = h.1 in (omega arith, omega arith)) (omega arith, omega arith));
      all_bits = rows now
          ∙ ap (flat_map (λ (r : RegisterOf). r.q)) (pushed_register enable reset first old bits q d value places states at bit width registers now ed ev e f ea eb ew en k.registers_inside)
          ∙ flat_map-append (λ (r : RegisterOf). r.q) (map (register_of old bits) registers) (record { q = q; d = d; value = value; enable = enable; reset = reset; reset_first = first } ∷ [])
          ∙ ap (λ (xs : List ℕ). xs ++ (q ++ [])) (sym (before registers) ∙ k.all_bits)
          ∙ ap (λ (xs : List ℕ). bits ++ xs) (append-nil q) ∙ sym f;
    }
  where
    rows : (rs : List StoredRegister) → flat_map (λ (r : StoredRegister). part states r.state r.width) rs ≡ flat_map (λ (r : RegisterOf). r.q) (map (register_of places states) rs)
    rows rs = sym (flat_map-map (λ (r : RegisterOf). r.q) (register_of places states) rs)

    before : (rs : List StoredRegister) → flat_map (λ (r : StoredRegister). part bits r.state r.width) rs ≡ flat_map (λ (r : RegisterOf). r.q) (map (register_of old bits) rs)
    before rs = sym (flat_map-map (λ (r : RegisterOf). r.q) (register_of old bits) rs)

-- the state bits of the registers that are kept
pub kept_states : (places bits : List ℕ) (registers : List StoredRegister) → flat_map (λ (r : StoredRegister). part bits r.state r.width) registers ≡ bits
    → flat_map (λ (r : RegisterOf). r.q) (map (register_of places bits) registers) ≡ bits
kept_states places bits registers e = flat_map-map (λ (r : RegisterOf). r.q) (register_of places bits) registers ∙ e
