-- A text that is refused is no model's, and it is refused at one line for one reason.
use Rattle.std.proofs.Common.{◌≡◌, ◌⊎◌, ℕ, suc, ◌+◌, ◌<◌, ◌≤◌, ◌^◌, Bool, List, [], ◌∷◌, ◌++◌, Some, Ok, Err, length, take, drop, refl, sym, ap, ◌∙◌, subst, inl, inr, arith, length-take, length-drop}
use Rattle.std.specs.Prelude.{◌↔◌, IfErr, IfOk}
use Rattle.std.specs.List.{AllZip}
use Rattle.std.specs.declared.result.Result.{Result}
use Rattle.btor_core.specs.declared.line.Node.{Node}
use Rattle.btor_core.specs.declared.line.Node.TheVariants as node
use Rattle.btor_core.specs.declared.line.Body.{Body}
use Rattle.btor_core.specs.declared.line.Body.TheVariants as body
use Rattle.btor_core.specs.declared.line.Line.{Line}
use Rattle.btor_core.specs.Shape.{BtorOf, constant_node_width, constant_width}
use Rattle.btor_core.specs.Fits.{BodyFits, IsBtor, LineFits, NodeFits}
use Rattle.btor_text.specs.Grammar.{AreLines, Spells, all_words, body_bits, line_words, lines_of, node_bits, put_words, uncommented}
use Rattle.btor_text.specs.Reading.{SaidOf, bare, bare_node, line_said}
use Rattle.btor_text.specs.Refusals.{BodyHasRoom, HasRoom, IsFault, IsKnown, IsModel, IsRefused, Matches, MayFollow, MayStand, NodeHasRoom, NodeKnown, NodeMatches, Refuses, Says}
use Rattle.btor_text.specs.declared.reading.BtorFault.{BtorFault}
use Rattle.btor_text.specs.declared.reading.BtorKind.{BtorKind}
use Rattle.btor_text.specs.declared.reading.BtorKind.TheVariants as kind
use Rattle.btor_text.proofs.Back.{AreSome, all_some, words_some}
use Rattle.btor_text.proofs.Growing.{ReadsTo, all_words_append, says_one}
use Rattle.btor_text.proofs.OneModel.{models_same, same_front}

node_known : (cs : List Bool) (before : List Line) (w : ℕ) (n : Node) → NodeFits cs before w n → NodeKnown before (bare_node n)
node_known cs before w node.Input f = tt
node_known cs before w node.State f = tt
node_known cs before w (node.Const start) f = tt
node_known cs before w node.Zero f = tt
node_known cs before w node.One f = tt
node_known cs before w node.Ones f = tt
node_known cs before w (node.Unary k a) f = f.0
node_known cs before w (node.Binary k a b) f = (f.0, f.1)
node_known cs before w (node.Slice a upper lower) f = f.0
node_known cs before w (node.Uext a by) f = f.0
node_known cs before w (node.Sext a by) f = f.0
node_known cs before w (node.Ite t a b) f = (f.0, f.1, f.2)

bits_long : (cs : List Bool) (w p : ℕ) → p + w ≤ length cs → length (take w (drop p cs)) ≡ w
bits_long cs w p h = let d = length-drop p cs in let t = length-take w (drop p cs) in omega arith

node_matches : (cs : List Bool) (before : List Line) (w : ℕ) (n : Node) → NodeFits cs before w n → NodeMatches (node_bits cs w n) before w (bare_node n)
node_matches cs before w node.Input f = tt
node_matches cs before w node.State f = tt
node_matches cs before w (node.Const start) f = bits_long cs w start f.1
node_matches cs before w node.Zero f = tt
node_matches cs before w node.One f = tt
node_matches cs before w node.Ones f = tt
node_matches cs before w (node.Unary k a) f = f.1
node_matches cs before w (node.Binary k a b) f = f.2
node_matches cs before w (node.Slice a upper lower) f = f.1
node_matches cs before w (node.Uext a by) f = f.1
node_matches cs before w (node.Sext a by) f = f.1
node_matches cs before w (node.Ite t a b) f = f.3

node_room : (cs : List Bool) (w : ℕ) (n : Node) → (1 ≤ constant_node_width w n → length cs < 2 ^ 32) → 1 ≤ w → NodeHasRoom cs (bare_node n)
node_room cs w node.Input h some = tt
node_room cs w node.State h some = tt
node_room cs w (node.Const start) h some = h some
node_room cs w node.Zero h some = tt
node_room cs w node.One h some = tt
node_room cs w node.Ones h some = tt
node_room cs w (node.Unary k a) h some = tt
node_room cs w (node.Binary k a b) h some = tt
node_room cs w (node.Slice a upper lower) h some = tt
node_room cs w (node.Uext a by) h some = tt
node_room cs w (node.Sext a by) h some = tt
node_room cs w (node.Ite t a b) h some = tt

body_stands : (cs : List Bool) (before : List Line) (b : Body) → BodyFits cs before b → MayStand before (bare b)
body_stands cs before (body.Sort w) f = f.0
body_stands cs before (body.Value s w n) f = tt
body_stands cs before (body.Init s q v) f = (f.first, f.early)
body_stands cs before (body.Next s q v) f = f.first
body_stands cs before (body.Bad n) f = tt
body_stands cs before (body.Constraint n) f = tt

body_known : (cs : List Bool) (before : List Line) (b : Body) → BodyFits cs before b → IsKnown before (bare b)
body_known cs before (body.Sort w) f = tt
body_known cs before (body.Value s w n) f = ((let e = f.sort in let g = f.width.0 in omega arith), node_known cs before w n f.node)
body_known cs before (body.Init s q v) f = let a = f.fits.sort in let b = f.fits.state in let c = f.fits.value in (a, (omega arith), (omega arith))
body_known cs before (body.Next s q v) f = let a = f.fits.sort in let b = f.fits.state in let c = f.fits.value in (a, (omega arith), (omega arith))
body_known cs before (body.Bad n) f = omega arith
body_known cs before (body.Constraint n) f = omega arith

body_matches : (cs : List Bool) (before : List Line) (b : Body) → BodyFits cs before b → Matches (body_bits cs b) before (bare b)
body_matches cs before (body.Sort w) f = tt
body_matches cs before (body.Value s w n) f = subst (λ (v : ℕ). NodeMatches (node_bits cs w n) before v (bare_node n)) (sym f.sort) (node_matches cs before w n f.node)
body_matches cs before (body.Init s q v) f = (f.fits.state, f.fits.value)
body_matches cs before (body.Next s q v) f = (f.fits.state, f.fits.value)
body_matches cs before (body.Bad n) f = f
body_matches cs before (body.Constraint n) f = f

body_room : (cs ds : List Bool) (before : List Line) (b : Body) → (1 ≤ constant_width b → length ds < 2 ^ 32) → BodyFits cs before b → BodyHasRoom ds (bare b)
body_room cs ds before (body.Sort w) h f = f.1
body_room cs ds before (body.Value s w n) h f = node_room ds w n h f.width.0
body_room cs ds before (body.Init s q v) h f = tt
body_room cs ds before (body.Next s q v) h f = tt
body_room cs ds before (body.Bad n) h f = tt
body_room cs ds before (body.Constraint n) h f = tt

-- a line that fits says what may follow
may_follow : (m : BtorOf) (cs : List Bool) (l : Line) → LineFits cs m.lines l → (1 ≤ constant_width l.body → length m.constants < 2 ^ 32) → MayFollow m (line_said cs l)
may_follow m cs l f room = record {
  placed = record { some = f.some; rises = f.rises; body = body_stands cs m.lines l.body f.body };
  known = body_known cs m.lines l.body f.body;
  widths = body_matches cs m.lines l.body f.body;
  within = record { nid = f.limit; body = body_room cs m.constants m.lines l.body room f.body };
}

refuses_none : (m : BtorOf) (x : SaidOf) (k : BtorKind) → MayFollow m x → Refuses m x k → ⊥
refuses_none m x kind.Syntax f r = r f.placed
refuses_none m x kind.UnknownNid f r = r.1 f.known
refuses_none m x kind.Sort f r = r.2 f.widths
refuses_none m x kind.Limit f r = r.3 f.within

refuses_one : (m : BtorOf) (x : SaidOf) (k j : BtorKind) → Refuses m x k → Refuses m x j → k ≡ j
refuses_one m x kind.Syntax kind.Syntax r s = refl
refuses_one m x kind.Syntax kind.UnknownNid r s = absurd (r s.0)
refuses_one m x kind.Syntax kind.Sort r s = absurd (r s.0)
refuses_one m x kind.Syntax kind.Limit r s = absurd (r s.0)
refuses_one m x kind.UnknownNid kind.Syntax r s = absurd (s r.0)
refuses_one m x kind.UnknownNid kind.UnknownNid r s = refl
refuses_one m x kind.UnknownNid kind.Sort r s = absurd (r.1 s.1)
refuses_one m x kind.UnknownNid kind.Limit r s = absurd (r.1 s.1)
refuses_one m x kind.Sort kind.Syntax r s = absurd (s r.0)
refuses_one m x kind.Sort kind.UnknownNid r s = absurd (s.1 r.1)
refuses_one m x kind.Sort kind.Sort r s = refl
refuses_one m x kind.Sort kind.Limit r s = absurd (r.2 s.2)
refuses_one m x kind.Limit kind.Syntax r s = absurd (s r.0)
refuses_one m x kind.Limit kind.UnknownNid r s = absurd (s.1 r.1)
refuses_one m x kind.Limit kind.Sort r s = absurd (s.2 r.2)
refuses_one m x kind.Limit kind.Limit r s = refl

-- words say one thing
pub says_same : (words : List (List ℕ)) (x y : SaidOf) → AreSome words → Says words x → Says words y → x ≡ y
says_same words x y some s t = let e : Some x ≡ Some y = sym (says_one words x some s) ∙ says_one words y some t in cc

module _ (m : BtorOf) (words : List (List ℕ)) (some : AreSome words) where
  refused_at : (x : SaidOf) (k : BtorKind) → Says words x → IsRefused m words k → Refuses m x k
  refused_at x kind.Syntax say r = r.1 x say
  refused_at x kind.UnknownNid say r = subst (λ (y : SaidOf). Refuses m y kind.UnknownNid) (says_same words r.0 x some r.1 say) r.2
  refused_at x kind.Sort say r = subst (λ (y : SaidOf). Refuses m y kind.Sort) (says_same words r.0 x some r.1 say) r.2
  refused_at x kind.Limit say r = subst (λ (y : SaidOf). Refuses m y kind.Limit) (says_same words r.0 x some r.1 say) r.2

  kinds_same : (k j : BtorKind) → IsRefused m words k → IsRefused m words j → k ≡ j
  kinds_same kind.Syntax kind.Syntax r s = refl
  kinds_same kind.Syntax kind.UnknownNid r s = refuses_one m s.0 kind.Syntax kind.UnknownNid (refused_at s.0 kind.Syntax s.1 r) s.2
  kinds_same kind.Syntax kind.Sort r s = refuses_one m s.0 kind.Syntax kind.Sort (refused_at s.0 kind.Syntax s.1 r) s.2
  kinds_same kind.Syntax kind.Limit r s = refuses_one m s.0 kind.Syntax kind.Limit (refused_at s.0 kind.Syntax s.1 r) s.2
  kinds_same kind.UnknownNid j r s = refuses_one m r.0 kind.UnknownNid j r.2 (refused_at r.0 j r.1 s)
  kinds_same kind.Sort j r s = refuses_one m r.0 kind.Sort j r.2 (refused_at r.0 j r.1 s)
  kinds_same kind.Limit j r s = refuses_one m r.0 kind.Limit j r.2 (refused_at r.0 j r.1 s)

says_nothing : (x : SaidOf) → Says [] x → ⊥
says_nothing x h = let e = says_one [] x tt h in absurd (cc)

no_words : (m : BtorOf) (k : BtorKind) → IsRefused m [] k → ⊥
no_words m kind.Syntax r = r.0 refl
no_words m kind.UnknownNid r = says_nothing r.0 r.1
no_words m kind.Sort r = says_nothing r.0 r.1
no_words m kind.Limit r = says_nothing r.0 r.1

record IsCut (cs : List Bool) (wss uss : List (List (List ℕ))) (ls : List Line) : Type 0 where
  xs : List Line
  ys : List Line
  cut : ls ≡ xs ++ ys
  front : AllZip (Spells cs) wss xs
  back : AllZip (Spells cs) uss ys

cut_lines : (cs : List Bool) (wss uss : List (List (List ℕ))) (ls : List Line) → AllZip (Spells cs) (wss ++ uss) ls → IsCut cs wss uss ls
cut_lines cs [] uss ls h = record { xs = []; ys = ls; cut = refl; front = tt; back = h }
cut_lines cs (w ∷ wss) uss [] h = absurd h
cut_lines cs (w ∷ wss) uss (l ∷ ls) h =
    let c = cut_lines cs wss uss ls h.1 in
    record { xs = l ∷ c.xs; ys = c.ys; cut = ap (λ (ks : List Line). l ∷ ks) c.cut; front = (h.0, c.front); back = c.back }

module _ (before : List (List ℕ)) (m n : BtorOf) (r : ReadsTo before m) (fits : IsBtor n) (room : HasRoom n.lines) where
  -- words after a model's lines that are refused go on in no model's text
  words_stop : (words : List (List ℕ)) (uss : List (List (List ℕ))) (k : BtorKind) → AreSome words → IsRefused m words k → AllZip (Spells n.constants) (all_words before ++ put_words words uss) n.lines → ⊥
  words_stop [] uss k some bad h = no_words m k bad
  words_stop (w ∷ words) uss k some bad h =
      let c = cut_lines n.constants (all_words before) ((w ∷ words) ∷ uss) n.lines h in
      let same : m.lines ≡ c.xs = same_front m n (all_words before) c.xs c.ys r.btor fits (all_some before) c.cut r.text c.front in
      next c.xs c.ys c.cut same c.back
    where
      next : (xs ys : List Line) → n.lines ≡ xs ++ ys → m.lines ≡ xs → AllZip (Spells n.constants) ((w ∷ words) ∷ uss) ys → ⊥
      next xs [] cut same back = back
      next xs (l ∷ ys) cut same back =
          let there : n.lines ≡ m.lines ++ l ∷ ys = cut ∙ ap (λ (ls : List Line). ls ++ l ∷ ys) (sym same) in
          let line : LineFits n.constants m.lines l = fits.each m.lines ys l there in
          let small : 1 ≤ constant_width l.body → length m.constants < 2 ^ 32 = λ wide. let a = room m.lines ys l there wide in let t = r.btor.table in omega arith in
          let x : SaidOf = line_said n.constants l in
          let say : Says (w ∷ words) x = (n.constants, l, back.0, refl) in
          refuses_none m x k (may_follow m n.constants l line small) (refused_at m (w ∷ words) some x k say bad)

  pub stops : (line : List ℕ) (more : List (List ℕ)) (k : BtorKind) → IsRefused m (line_words line) k → AreLines (before ++ line ∷ more) n → ⊥
  stops line more k bad h =
      words_stop (line_words line) (all_words more) k (words_some (uncommented line)) bad (subst (λ (wss : List (List (List ℕ))). AllZip (Spells n.constants) wss n.lines) (all_words_append before (line ∷ more)) h)

pub fault_no_model : (bytes : List ℕ) (f : BtorFault) (n : BtorOf) → IsFault bytes f → IsModel bytes n → ⊥
fault_no_model bytes f n h r =
    stops h.before h.model n (record { btor = h.btor; room = h.room; text = h.text }) r.btor r.room h.line h.more f.kind h.refused (subst (λ (ts : List (List ℕ)). AreLines ts n) h.cut r.text)

abbrev Cuts : List (List ℕ) → List (List ℕ) → List ℕ → List ℕ → Type 0
Cuts xs ys a b = ((xs ≡ ys) × (a ≡ b)) ⊎ (((z : List (List ℕ)) × (ys ≡ xs ++ a ∷ z)) ⊎ ((z : List (List ℕ)) × (xs ≡ ys ++ b ∷ z)))

longer : (x y : List ℕ) (xs ys : List (List ℕ)) (a b : List ℕ) → x ≡ y → Cuts xs ys a b → Cuts (x ∷ xs) (y ∷ ys) a b
longer x y xs ys a b e (inl h) = inl ((let f = h.0 in cc), h.1)
longer x y xs ys a b e (inr (inl h)) = inr (inl (h.0, (let f = h.1 in cc)))
longer x y xs ys a b e (inr (inr h)) = inr (inr (h.0, (let f = h.1 in cc)))

cuts : (xs more ys rest : List (List ℕ)) (a b : List ℕ) → xs ++ a ∷ more ≡ ys ++ b ∷ rest → Cuts xs ys a b
cuts [] more [] rest a b e = inl (refl, cc)
cuts [] more (y ∷ ys) rest a b e = inr (inl (ys, (let h : y ≡ a = cc in cc)))
cuts (x ∷ xs) more [] rest a b e = inr (inr (xs, (let h : x ≡ b = cc in cc)))
cuts (x ∷ xs) more (y ∷ ys) rest a b e =
    let head : x ≡ y = cc in
    let tail : xs ++ a ∷ more ≡ ys ++ b ∷ rest = cc in
    longer x y xs ys a b head (cuts xs more ys rest a b tail)

same_fault : (f g : BtorFault) → f.line ≡ g.line → f.kind ≡ g.kind → f ≡ g
same_fault f g e h =
    let P : ℕ → BtorKind → BtorFault = λ n k. record { line = n; kind = k } in
    ap (λ (n : ℕ). P n f.kind) e ∙ ap (λ (k : BtorKind). P g.line k) h

pub faults_same : (bytes : List ℕ) (f g : BtorFault) → IsFault bytes f → IsFault bytes g → f ≡ g
faults_same bytes f g h i =
    elim (cuts h.before h.more i.before i.more h.line i.line (sym h.cut ∙ i.cut)) as (λ _. f ≡ g) [
      | inl e ↦
          let text : AreLines i.before h.model = subst (λ (ts : List (List ℕ)). AreLines ts h.model) e.0 h.text in
          let model : h.model ≡ i.model = models_same i.before h.model i.model h.btor i.btor text i.text in
          let refused : IsRefused i.model (line_words h.line) f.kind = subst (λ (m : BtorOf). IsRefused m (line_words h.line) f.kind) model h.refused in
          let there : IsRefused i.model (line_words i.line) f.kind = subst (λ (t : List ℕ). IsRefused i.model (line_words t) f.kind) e.1 refused in
          same_fault f g (h.place ∙ ap (λ (ts : List (List ℕ)). suc (length ts)) e.0 ∙ sym i.place) (kinds_same i.model (line_words i.line) (words_some (uncommented i.line)) f.kind g.kind there i.refused)
      | inr (inl e) ↦
          absurd (stops h.before h.model i.model (record { btor = h.btor; room = h.room; text = h.text }) i.btor i.room h.line e.0 f.kind h.refused (subst (λ (ts : List (List ℕ)). AreLines ts i.model) e.1 i.text))
      | inr (inr e) ↦
          absurd (stops i.before i.model h.model (record { btor = i.btor; room = i.room; text = i.text }) h.btor h.room i.line e.0 g.kind i.refused (subst (λ (ts : List (List ℕ)). AreLines ts h.model) e.1 h.text))
    ]

module _ (bytes : List ℕ) where
  pub model_exact : (r : Result BtorOf BtorFault) → IfOk r (IsModel bytes) → IfErr r (IsFault bytes) → (m : BtorOf) → (r ≡ Ok m) ↔ IsModel bytes m
  model_exact (Ok n) h g m =
      ((λ e. let same : n ≡ m = cc in subst (λ (k : BtorOf). IsModel bytes k) same h), (λ i. ap (λ (k : BtorOf). Ok k) (models_same (lines_of bytes) n m h.btor i.btor h.text i.text)))
  model_exact (Err f) h g m = ((λ e. absurd (cc)), (λ i. absurd (fault_no_model bytes f m g i)))

  pub fault_exact : (r : Result BtorOf BtorFault) → IfOk r (IsModel bytes) → IfErr r (IsFault bytes) → (f : BtorFault) → (r ≡ Err f) ↔ IsFault bytes f
  fault_exact (Ok n) h g f = ((λ e. absurd (cc)), (λ i. absurd (fault_no_model bytes f n i h)))
  fault_exact (Err k) h g f =
      ((λ e. let same : k ≡ f = cc in subst (λ (j : BtorFault). IsFault bytes j) same g), (λ i. ap (λ (j : BtorFault). Err j) (faults_same bytes k f g i)))
