-- What bytes hand on, one after the other.
use Rattle.std.proofs.Common.{◌≡◌, ℕ, zero, suc, ◌+◌, ◌-◌, ◌<◌, ◌≤◌, Bool, List, [], ◌∷◌, ◌++◌, length, take, drop, get_or, refl, ap, sym, ◌∙◌, arith, subst, append_assoc}
use Rattle.std.proofs.lemmas.List.{append-nil, take_rest}
use Rattle.cert_stream.specs.Text.{NoFeed}
use Rattle.cert_judge.specs.Judging.{JudgeOf, HasTaken as StreamHasTaken, outcome_of}
use Rattle.cert_judge.specs.OutputJudging.{Gave, Goes, OutputOf}
use Rattle.cert_judge.specs.Spots.{IsWithin, given, given_by, next_spot, spot_after, values_after, next_values}
use Rattle.cert_judge.specs.declared.spot.Spot.{Spot}
use Rattle.cert_judge.specs.declared.spot.AmidSpot.TheVariants.{Start as LineStart, Held as HeldHead, Within as InLine, Spelled, Whole, Passed}
use Rattle.cert_judge.specs.declared.spot.Spot.TheVariants.{Start, Held, Within, Amid}

-- bytes after others
pub spot_append : (spot : Spot) (a b : List ℕ) → spot_after spot (a ++ b) ≡ spot_after (spot_after spot a) b
spot_append spot [] b = refl
spot_append spot (x ∷ a) b = spot_append (next_spot spot x) a b

pub values_append : (spot : Spot) (values : Bool) (a b : List ℕ) → values_after spot values (a ++ b) ≡ values_after (spot_after spot a) (values_after spot values a) b
values_append spot values [] b = refl
values_append spot values (x ∷ a) b = values_append (next_spot spot x) (next_values spot values x) a b

pub given_append : (spot : Spot) (a b : List ℕ) → given spot (a ++ b) ≡ given spot a ++ given (spot_after spot a) b
given_append spot [] b = refl
given_append spot (x ∷ a) b = ap (λ z. given_by spot x ++ z) (given_append (next_spot spot x) a b) ∙ sym (append_assoc (given_by spot x) (given (next_spot spot x) a) (given (spot_after (next_spot spot x) a) b))

-- bytes within a line that is handed on as it is
within_given : (spot : Spot) (t : List ℕ) → IsWithin spot → NoFeed t → (given spot t ≡ t) × (spot_after spot t ≡ spot) × ((values : Bool) → values_after spot values t ≡ values)
within_given spot [] i h = (refl, refl, λ values. refl)
within_given Start (b ∷ bs) i h = absurd i
within_given (Held head) (b ∷ bs) i h = absurd i
within_given Within (b ∷ bs) i (f, h) =
    let w = within_given Within bs tt h in
    rw f (ap (λ z. b ∷ z) w.0, w.1, w.2)
within_given (Amid LineStart) (b ∷ bs) i h = absurd i
within_given (Amid (HeldHead head)) (b ∷ bs) i h = absurd i
within_given (Amid InLine) (b ∷ bs) i (f, h) =
    let w = within_given (Amid InLine) bs tt h in
    rw f (ap (λ z. b ∷ z) w.0, w.1, w.2)
within_given (Amid (Spelled n)) (b ∷ bs) i h = absurd i
within_given (Amid Whole) (b ∷ bs) i h = absurd i
within_given (Amid Passed) (b ∷ bs) i h = absurd i

abbrev pub output : {S : Type 0} → JudgeOf S → Spot → Bool → OutputOf S
output j spot values = record { judge = j; spot = spot; values = values }

pub goes_within : {S : Type 0} (j k : JudgeOf S) (spot : Spot) (values : Bool) (t : List ℕ) → IsWithin spot → NoFeed t → Gave j t k → Goes (output j spot values) t (output k spot values)
goes_within j k spot values t i h g =
    let w = within_given spot t i h in
    record { gave = subst (λ z. Gave j z k) (sym w.0) g; spot = sym w.1; values = sym (w.2 values) }

-- nothing
pub gave_nothing : {S : Type 0} (j : JudgeOf S) → Gave j [] j
gave_nothing j = record {
  same = record { formula = refl; kind = refl; most = refl };
  stands = λ text s. subst (StreamHasTaken j) (sym (append-nil text)) s;
  again = λ o w e. refl;
  wanting = λ w. w;
}

-- one piece and then another
gave_append : {S : Type 0} (j k l : JudgeOf S) (a b : List ℕ) → Gave j a k → Gave k b l → Gave j (a ++ b) l
gave_append {S} j k l a b g h = record {
  same = record { formula = h.same.formula ∙ g.same.formula; kind = h.same.kind ∙ g.same.kind; most = h.same.most ∙ g.same.most };
  stands = λ text s. subst (StreamHasTaken l) (append_assoc text a b) (h.stands (text ++ a) (g.stands text s));
  again = λ o w e.
      let i : k ≡ j = g.again o w e in
      h.again o (ap (λ (z : JudgeOf S). z.wanting) i ∙ w) (ap outcome_of i ∙ e) ∙ i;
  wanting = λ w. h.wanting (g.wanting w);
}

pub goes_append : {S : Type 0} (x y z : OutputOf S) (a b : List ℕ) → Goes x a y → Goes y b z → Goes x (a ++ b) z
goes_append x y z a b g h = record {
  gave = subst (λ t. Gave x.judge t z.judge) (ap (λ s. given x.spot a ++ given s b) g.spot ∙ sym (given_append x.spot a b)) (gave_append x.judge y.judge z.judge (given x.spot a) (given y.spot b) g.gave h.gave);
  spot = h.spot ∙ ap (λ s. spot_after s b) g.spot ∙ sym (spot_append x.spot a b);
  values = h.values ∙ ap (λ s. values_after s y.values b) g.spot ∙ ap (λ v. values_after (spot_after x.spot a) v b) g.values ∙ sym (values_append x.spot x.values a b);
}

-- this many bytes of a piece more
take_add : (xs : List ℕ) (i n : ℕ) → take i xs ++ take n (drop i xs) ≡ take (i + n) xs
take_add xs zero n = let k : n ≡ 0 + n = omega arith in ap (λ m. take m xs) k
take_add [] (suc i) zero = let k : suc i ≡ suc i + 0 = omega arith in ap (λ m. take m []) k
take_add [] (suc i) (suc n) = let k : suc (i + suc n) ≡ suc i + suc n = omega arith in ap (λ m. take m []) k
take_add (x ∷ xs) (suc i) n = let k : suc (i + n) ≡ suc i + n = omega arith in ap (λ z. x ∷ z) (take_add xs i n) ∙ ap (λ m. take m (x ∷ xs)) k

take_next : (xs : List ℕ) (i : ℕ) → i < length xs → take i xs ++ get_or xs i 0 ∷ [] ≡ take (i + 1) xs
take_next [] i l = absurd (omega (arith, l))
take_next (x ∷ xs) zero l = refl
take_next (x ∷ xs) (suc i) l = let k : suc (i + 1) ≡ suc i + 1 = omega arith in ap (λ z. x ∷ z) (take_next xs i (omega (arith, l))) ∙ ap (λ m. take m (x ∷ xs)) k

take_whole : (xs : List ℕ) (i : ℕ) → length xs ≤ i → take i xs ≡ xs
take_whole [] zero l = refl
take_whole [] (suc i) l = refl
take_whole (x ∷ xs) zero l = absurd (omega (arith, l))
take_whole (x ∷ xs) (suc i) l = ap (λ z. x ∷ z) (take_whole xs i (omega (arith, l)))

module _ {S : Type 0} (x y z : OutputOf S) (piece : List ℕ) (i : ℕ) (g : Goes x (take i piece) y) where
  goes_more : (n : ℕ) → Goes y (take n (drop i piece)) z → Goes x (take (i + n) piece) z
  goes_more n h = subst (λ t. Goes x t z) (take_add piece i n) (goes_append x y z (take i piece) (take n (drop i piece)) g h)

  pub goes_rest : (n : ℕ) → Goes y (take n (take (length piece - i) (drop i piece))) z → Goes x (take (i + n) piece) z
  goes_rest n h = goes_more n (subst (λ t. Goes y (take n t) z) (take_rest piece i) h)

  pub goes_next : i < length piece → Goes y (get_or piece i 0 ∷ []) z → Goes x (take (i + 1) piece) z
  goes_next l h = subst (λ t. Goes x t z) (take_next piece i l) (goes_append x y z (take i piece) (get_or piece i 0 ∷ []) g h)
