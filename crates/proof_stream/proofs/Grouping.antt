-- Groups are read as what they are.
use Rattle.std.proofs.Common.{◌≡◌, ◌⊎◌, ℕ, ◌+◌, ◌*◌, ◌≤◌, Bool, true, false, ◌&&◌, ◌||◌, leb, List, [], ◌∷◌, ◌++◌, length, refl, ap, sym, ◌∙◌, inl, inr, arith, append_assoc, subst, length-append}
use Rattle.std.proofs.lemmas.Bool.{le-leb, leb-true}
use Rattle.std.proofs.lemmas.List.{append-nil}
use Rattle.cert_stream.specs.declared.mode.ParseFaultKind.TheVariants.{LineTooLong}
use Rattle.cert_stream.proofs.Digits.{both_true}
use Rattle.proof_stream.specs.Numbers.{Goes, Whole, Unfit, groups_read, is_literal, may_go_on, seven, with_group}
use Rattle.proof_stream.specs.Spelling.{AreGroups, groups_value}
use Rattle.proof_stream.specs.Grouping.{BeginsLiteral, IsLiteral, IsRead}
use Rattle.proof_stream.proofs.Binaries.{step_by}
use Rattle.proof_stream.proofs.Spelling.{Weighed, goes_now, weighed}

-- a group follows each byte
abbrev AreMore : List ℕ → Type 0
AreMore [] = Unit {0}
AreMore (b ∷ bs) = (leb 128 b ≡ true) × AreMore bs

more_snoc : (p : List ℕ) (b : ℕ) → AreMore p → leb 128 b ≡ true → AreMore (p ++ b ∷ [])
more_snoc [] b h t = (t, tt)
more_snoc (c ∷ p) b (k, h) t = (k, more_snoc p b h t)

groups_snoc : (p : List ℕ) (b : ℕ) → AreMore p → leb 128 b ≡ false → AreGroups (p ++ b ∷ [])
groups_snoc [] b h t = t
groups_snoc (c ∷ []) b (k, h) t = (k, t)
groups_snoc (c ∷ d ∷ p) b (k, h) t = (k, groups_snoc (d ∷ p) b h t)

-- the groups after such bytes
groups_after : (p : List ℕ) (b : ℕ) (q : List ℕ) → AreMore p → AreGroups (p ++ b ∷ q) → AreGroups (b ∷ q)
groups_after [] b q h g = g
groups_after (c ∷ []) b q h (k, g) = g
groups_after (c ∷ d ∷ p) b q (k, h) (i, g) = groups_after (d ∷ p) b q h g

last_alone : (b : ℕ) (q : List ℕ) → leb 128 b ≡ false → AreGroups (b ∷ q) → q ≡ []
last_alone b [] f g = refl
last_alone b (c ∷ q) f (t, g) = absurd (let k : true ≡ false = sym t ∙ f in cc)

-- the weight after them
abbrev scale : ℕ → List ℕ → ℕ
scale w [] = w
scale w (b ∷ bs) = scale (128 * w) bs

scale_snoc : (w : ℕ) (p : List ℕ) (b : ℕ) → scale w (p ++ b ∷ []) ≡ 128 * scale w p
scale_snoc w [] b = refl
scale_snoc w (c ∷ p) b = scale_snoc (128 * w) p b

scale_grows : (w : ℕ) (p : List ℕ) → w ≤ scale w p
scale_grows w [] = omega arith
scale_grows w (b ∷ bs) = let k = scale_grows (128 * w) bs in omega (arith, k)

value_append : (w : ℕ) (p q : List ℕ) → groups_value w (p ++ q) ≡ groups_value w p + groups_value (scale w p) q
value_append w [] q = omega arith
value_append w (b ∷ p) q = let k = value_append (128 * w) p q in omega (arith, k)

weighed_after : (w : ℕ) (p : List ℕ) (b : ℕ) (q : List ℕ) → Weighed w (p ++ b ∷ q) → Weighed (scale w p) (b ∷ q)
weighed_after w [] b q h = h
weighed_after w (c ∷ []) b q h = h.1
weighed_after w (c ∷ d ∷ p) b q h = weighed_after (128 * w) (d ∷ p) b q h.1

four : (p : List ℕ) → scale 1 p ≤ 268435456 → length p ≤ 4
four [] l = omega arith
four (a ∷ []) l = omega arith
four (a ∷ b ∷ []) l = omega arith
four (a ∷ b ∷ c ∷ []) l = omega arith
four (a ∷ b ∷ c ∷ d ∷ []) l = omega arith
four (a ∷ b ∷ c ∷ d ∷ e ∷ p) l = absurd (let k = scale_grows 34359738368 p in omega (arith, k, l))

either : (a b : Bool) → (a || b) ≡ true → (a ≡ true) ⊎ (b ≡ true)
either true b e = inl refl
either false b e = inr e

module _ (vars : ℕ) where
  literal_bounds : (n : ℕ) → is_literal vars n ≡ true → (2 ≤ n) × (n ≤ 2 * vars + 1)
  literal_bounds n t = let k = both_true (leb 2 n) (leb n (2 * vars + 1)) t in (leb-true 2 n k.0, leb-true n (2 * vars + 1) k.1)

  bounds_literal : (n : ℕ) → 2 ≤ n → n ≤ 2 * vars + 1 → is_literal vars n ≡ true
  bounds_literal n l h = let e = le-leb 2 n l in let f = le-leb n (2 * vars + 1) h in rw (e, f) refl

  -- bytes after which a literal goes on begin one
  module _ (p : List ℕ) (h : AreMore p) where
    ended_by : (b : ℕ) → leb 128 b ≡ false → scale 1 p ≤ 268435456 → is_literal vars (groups_value 1 p + seven b * scale 1 p) ≡ true → IsLiteral vars (p ++ b ∷ []) (groups_value 1 p + seven b * scale 1 p)
    ended_by b f l t =
        let k = literal_bounds (groups_value 1 p + seven b * scale 1 p) t in
        let v = value_append 1 p (b ∷ []) in
        let n = length-append p (b ∷ []) in
        let m = four p l in
        ((groups_snoc p b h f, omega (arith, n, m), omega (arith, v)), k.0, k.1)

    goes_begins : may_go_on vars (groups_value 1 p) (scale 1 p) ≡ true → 2 ≤ scale 1 p → BeginsLiteral vars p
    goes_begins t two =
        let k = both_true (leb (scale 1 p) 268435456) (is_literal vars (groups_value 1 p) || (leb (groups_value 1 p) 1 && leb (groups_value 1 p + scale 1 p) (2 * vars + 1))) t in
        let l = leb-true (scale 1 p) 268435456 k.0 in
        elim (either (is_literal vars (groups_value 1 p)) (leb (groups_value 1 p) 1 && leb (groups_value 1 p + scale 1 p) (2 * vars + 1)) k.1) [
          | inl i ↦ let e : groups_value 1 p ≡ groups_value 1 p + seven 0 * scale 1 p = omega arith in
              (0 ∷ [], groups_value 1 p + seven 0 * scale 1 p, ended_by 0 refl l (subst (λ z. is_literal vars z ≡ true) e i))
          | inr i ↦
              let m = both_true (leb (groups_value 1 p) 1) (leb (groups_value 1 p + scale 1 p) (2 * vars + 1)) i in
              let u = leb-true (groups_value 1 p + scale 1 p) (2 * vars + 1) m.1 in
              (1 ∷ [], groups_value 1 p + seven 1 * scale 1 p, ended_by 1 refl l (bounds_literal (groups_value 1 p + seven 1 * scale 1 p) (omega (arith, two)) (omega (arith, u))))
        ]

  module _ (full : Bool) where
    -- how reading stands after the groups p
    record Stands (p : List ℕ) (v w : ℕ) : Type 0 where
      pub more : AreMore p
      pub value : v ≡ groups_value 1 p
      pub weight : w ≡ scale 1 p
      pub fits : (p ≡ []) ⊎ ((full ≡ false) × (may_go_on vars v w ≡ true) × (2 ≤ w))
      pub small : w ≤ 268435456

    -- a literal that begins with more groups, one of which is b
    module _ (p : List ℕ) (v w b : ℕ) (bs : List ℕ) (s : Stands p v w) where
      abbrev now : ℕ
      now = with_group v w b

      value_now : now ≡ groups_value 1 p + seven b * scale 1 p
      value_now = ap (λ z. z + seven b * w) s.value ∙ ap (λ z. groups_value 1 p + seven b * z) s.weight

      stands_next : leb 128 b ≡ true → may_go_on vars now (128 * w) ≡ true → full ≡ false → Stands (p ++ b ∷ []) now (128 * w)
      stands_next t g f =
          let k = both_true (leb (128 * w) 268435456) (is_literal vars now || (leb now 1 && leb (now + 128 * w) (2 * vars + 1))) g in
          let e = value_append 1 p (b ∷ []) in
          let u = scale_snoc 1 p b in
          let grows = scale_grows 1 p in
          record {
            more = more_snoc p b s.more t;
            value = value_now ∙ omega (arith, e);
            weight = ap (λ z. 128 * z) s.weight ∙ sym u;
            fits = inr (f, g, omega (arith, grows, s.weight));
            small = leb-true (128 * w) 268435456 k.0;
          }

      module _ (rest : List ℕ) (n : ℕ) (lit : IsLiteral vars (p ++ b ∷ rest) n) where
        value_all : now + groups_value (128 * w) rest ≡ n
        value_all =
            let e = value_append 1 p (b ∷ rest) in
            let f : groups_value (128 * w) rest ≡ groups_value (128 * scale 1 p) rest = ap (λ z. groups_value (128 * z) rest) s.weight in
            omega (arith, value_now, e, f, lit.0.2)

        behind : AreGroups (b ∷ rest)
        behind = groups_after p b rest s.more lit.0.0

        then_goes : leb 128 b ≡ true → (rest : List ℕ) → AreGroups (b ∷ rest) → Weighed w (b ∷ rest) → now + groups_value (128 * w) rest ≡ n → may_go_on vars now (128 * w) ≡ true
        then_goes t [] g h e = absurd (let k : true ≡ false = sym t ∙ g in cc)
        then_goes t (c ∷ q) g h e = goes_now vars n lit.1 lit.2 now (128 * w) (c ∷ q) h.0 e

        must_go : leb 128 b ≡ true → may_go_on vars now (128 * w) ≡ true
        must_go t = then_goes t rest behind (subst (λ z. Weighed z (b ∷ rest)) (sym s.weight) (weighed_after 1 p b rest (weighed (p ++ b ∷ rest) lit.0.1))) value_all

        must_end : leb 128 b ≡ false → is_literal vars now ≡ true
        must_end f =
            let e = last_alone b rest f behind in
            let g : groups_value (128 * w) rest ≡ 0 = ap (groups_value (128 * w)) e in
            bounds_literal now (omega (arith, g, value_all, lit.1)) (omega (arith, g, value_all, lit.2))

      none_goes : leb 128 b ≡ true → may_go_on vars now (128 * w) ≡ false → BeginsLiteral vars (p ++ b ∷ bs) → ⊥
      none_goes t f (more, n, lit) = let k = must_go (bs ++ more) n (subst (λ z. IsLiteral vars z n) (append_assoc p (b ∷ bs) more) lit) t in let q : true ≡ false = sym k ∙ f in cc

      none_ends : leb 128 b ≡ false → is_literal vars now ≡ false → BeginsLiteral vars (p ++ b ∷ bs) → ⊥
      none_ends t f (more, n, lit) = let k = must_end (bs ++ more) n (subst (λ z. IsLiteral vars z n) (append_assoc p (b ∷ bs) more) lit) t in let q : true ≡ false = sym k ∙ f in cc

      whole_now : leb 128 b ≡ false → is_literal vars now ≡ true → IsLiteral vars (p ++ b ∷ []) now
      whole_now t g = subst (IsLiteral vars (p ++ b ∷ [])) (sym value_now) (ended_by p s.more b t (let l = s.small in omega (arith, l, s.weight)) (subst (λ z. is_literal vars z ≡ true) value_now g))

      -- a full line: b is the first byte
      first_full : full ≡ true → p ≡ []
      first_full f = elim s.fits [ inl e ↦ e | inr (g, h, two) ↦ absurd (let q : true ≡ false = sym f ∙ g in cc) ]

      too_long : full ≡ true → BeginsLiteral vars (p ++ b ∷ []) → IsRead vars full (p ++ b ∷ bs) (Unfit LineTooLong)
      too_long f k = let e = first_full f in (f, b, bs, ap (λ z. z ++ b ∷ bs) e, subst (λ z. BeginsLiteral vars (z ++ b ∷ [])) e k)

      begins_more : leb 128 b ≡ true → may_go_on vars now (128 * w) ≡ true → BeginsLiteral vars (p ++ b ∷ [])
      begins_more t g =
          let e = value_append 1 p (b ∷ []) in
          let u = scale_snoc 1 p b in
          let grows = scale_grows 1 p in
          let x : now ≡ groups_value 1 (p ++ b ∷ []) = value_now ∙ omega (arith, e) in
          let y : 128 * w ≡ scale 1 (p ++ b ∷ []) = ap (λ z. 128 * z) s.weight ∙ sym u in
          goes_begins (p ++ b ∷ []) (more_snoc p b s.more t) (subst (λ z. may_go_on vars z (scale 1 (p ++ b ∷ [])) ≡ true) x (subst (λ z. may_go_on vars now z ≡ true) y g)) (omega (arith, grows, u))

      begins_whole : leb 128 b ≡ false → is_literal vars now ≡ true → BeginsLiteral vars (p ++ b ∷ [])
      begins_whole t g = ([], now, subst (λ z. IsLiteral vars z now) (sym (append-nil (p ++ b ∷ []))) (whole_now t g))

      step_is : (again : leb 128 b ≡ true → may_go_on vars now (128 * w) ≡ true → full ≡ false → IsRead vars full (p ++ b ∷ bs) (groups_read vars full now (128 * w) bs)) → (x y z : Bool) → leb 128 b ≡ x → may_go_on vars now (128 * w) ≡ y
          → is_literal vars now ≡ z → (u : Bool) → full ≡ u
          → IsRead vars full (p ++ b ∷ bs) (elim (step_by x y z u now (128 * w)) [ Goes c d ↦ groups_read vars full c d bs | Whole n ↦ Whole n | Unfit kind ↦ Unfit kind ])
      step_is again true true z e f g true h = too_long h (begins_more e f)
      step_is again true true z e f g false h = again e f h
      step_is again true false z e f g u h = none_goes e f
      step_is again false y true e f g true h = too_long h (begins_whole e g)
      step_is again false y true e f g false h = (h, p ++ b ∷ [], bs, sym (append_assoc p (b ∷ []) bs), whole_now e g)
      step_is again false y false e f g u h = none_ends e g

    reads : (bs p : List ℕ) (v w : ℕ) → Stands p v w → IsRead vars full (p ++ bs) (groups_read vars full v w bs)
    reads [] p v w s =
        elim s.fits [
          | inl e ↦ inl (ap (λ z. z ++ []) e)
          | inr (f, g, two) ↦ inr (f, subst (BeginsLiteral vars) (sym (append-nil p)) (goes_begins p s.more (subst (λ z. may_go_on vars z (scale 1 p) ≡ true) s.value (subst (λ z. may_go_on vars v z ≡ true) s.weight g)) (let t = two in omega (arith, t, s.weight))))
        ]
    reads (b ∷ bs) p v w s =
        step_is p v w b bs s
        (λ t g f. subst (λ z. IsRead vars full z (groups_read vars full (with_group v w b) (128 * w) bs)) (append_assoc p (b ∷ []) bs) (reads bs (p ++ b ∷ []) (with_group v w b) (128 * w) (stands_next p v w b bs s t g f)))
        (leb 128 b) (may_go_on vars (with_group v w b) (128 * w)) (is_literal vars (with_group v w b)) refl refl refl full refl

pub groups_are : (vars : ℕ) (full : Bool) (bytes : List ℕ) → IsRead vars full bytes (groups_read vars full 0 1 bytes)
groups_are vars full bytes = reads vars full bytes [] 0 1 (record { more = tt; value = refl; weight = refl; fits = inl refl; small = omega arith })
