-- Fates: for good, one, and none missing.
use Rattle.std.proofs.Common.{◌≡◌, ◌≢◌, ◌⊎◌, ℕ, List, [], ◌∷◌, ◌++◌, Some, None, refl, inl, inr, sym, ◌∙◌}
use Rattle.std.specs.Prelude.{Option}
use Rattle.cnf_form.specs.Cnf.{LitOf, IsAdmitted}
use Rattle.pair_form.specs.Pair.{PairOf}
use Rattle.cert_judge.proofs.Deletions.{Alike, alike_itself, alike_admitted, admitted_alike, alike_more, alike_deleted, some_deletion}
use Rattle.cert_stream.specs.Telling.{IsClause, IsDelete, IsValue, IsValuesEnd, IsUnknown, IsFault as IsParseFault}
use Rattle.inv_stream.specs.Machine.{InvSaying, IsFault, IsNext, Says}
use Rattle.inv_stream.specs.declared.mode.Part.{Part}
use Rattle.inv_stream.specs.declared.mode.Part.TheVariants.{Head, Inv, Start, Step, Safe}
use Rattle.inv_fate.specs.Fate.{AreAdmitted, ClauseFate, StreamFate, SayingsFate, InvFate, IsOverBits, NextFate, after, opened, owed}
use Rattle.inv_fate.proofs.Finding.{Clauses}
use Rattle.inv_fate.proofs.Sounding.{empty_or_not}

module _ (p : PairOf) where
  next_more : (part : Part) (I F : Clauses) (place : ℕ) (R S : Type 0) (fate : Option InvFate) → (R → S) → NextFate p part I F place R fate → NextFate p part I F place S fate
  next_more Head I F place R S fate more h = more h
  next_more Inv I F place R S fate more h = more h
  next_more Start I F place R S fate more (inl (a, h)) = inl (a, more h)
  next_more Start I F place R S fate more (inr h) = inr h
  next_more Step I F place R S fate more (inl (a, h)) = inl (a, more h)
  next_more Step I F place R S fate more (inr h) = inr h
  next_more Safe I F place R S fate more h = h

  clause_more : (part : Part) (F : Clauses) (c : List LitOf) (place : ℕ) (L M R S : Type 0) (fate : Option InvFate) → (L → M) → (R → S) →
      ClauseFate p part F c place L R fate → ClauseFate p part F c place M S fate
  clause_more Head F c place L M R S fate list join h = h
  clause_more Inv F c place L M R S fate list join (inl (o, h)) = inl (o, list h)
  clause_more Inv F c place L M R S fate list join (inr h) = inr h
  clause_more Start F c place L M R S fate list join (inl (a, h)) = inl (a, join h)
  clause_more Start F c place L M R S fate list join (inr h) = inr h
  clause_more Step F c place L M R S fate list join (inl (a, h)) = inl (a, join h)
  clause_more Step F c place L M R S fate list join (inr h) = inr h
  clause_more Safe F c place L M R S fate list join (inl h) = inl h
  clause_more Safe F c place L M R S fate list join (inr (inl (a, n, h))) = inr (inl (a, n, join h))
  clause_more Safe F c place L M R S fate list join (inr (inr h)) = inr (inr h)

  pub comes_more : (part : Part) (I F : Clauses) (ss more : List InvSaying) (fate : InvFate) → SayingsFate p part I F ss (Some fate) → SayingsFate p part I F (ss ++ more) (Some fate)
  comes_more part I F [] more fate h = cc
  comes_more part I F (IsNext place ∷ ss) more fate h =
      next_more part I F place _ _ (Some fate) (comes_more (after part) I (opened p (after part) I) ss more fate) h
  comes_more part I F (Says (IsClause c place) ∷ ss) more fate h =
      clause_more part F c place _ _ _ _ (Some fate) (comes_more part (I ++ c ∷ []) F ss more fate) (comes_more part I (F ++ c ∷ []) ss more fate) h
  comes_more part I F (Says (IsDelete c) ∷ ss) more fate (G, d, h) = (G, d, comes_more part I G ss more fate h)
  comes_more part I F (Says (IsValue l) ∷ ss) more fate h = comes_more part I F ss more fate h
  comes_more part I F (Says IsValuesEnd ∷ ss) more fate h = comes_more part I F ss more fate h
  comes_more part I F (Says IsUnknown ∷ ss) more fate h = h
  comes_more part I F (Says (IsParseFault f) ∷ ss) more fate h = h
  comes_more part I F (IsFault f ∷ ss) more fate h = h

  all_alike : (F G cs : Clauses) → Alike F G → AreAdmitted F cs → AreAdmitted G cs
  all_alike F G cs w a c k = alike_admitted F G c w (a c k)

  alike_all : (F G cs : Clauses) → Alike F G → AreAdmitted G cs → AreAdmitted F cs
  alike_all F G cs w a c k = admitted_alike F G c w (a c k)

  -- of what one part owes
  owed_once : (F G cs : Clauses) (R S : Type 0) (x y bad : Option InvFate) → Alike F G → (R → S → x ≡ y) →
      ((AreAdmitted F cs × R) ⊎ ((AreAdmitted F cs → ⊥) × (x ≡ bad))) → ((AreAdmitted G cs × S) ⊎ ((AreAdmitted G cs → ⊥) × (y ≡ bad))) → x ≡ y
  owed_once F G cs R S x y bad w once (inl (a, h)) (inl (b, k)) = once h k
  owed_once F G cs R S x y bad w once (inl (a, h)) (inr (b, k)) = absurd (b (all_alike F G cs w a))
  owed_once F G cs R S x y bad w once (inr (a, h)) (inl (b, k)) = absurd (a (alike_all F G cs w b))
  owed_once F G cs R S x y bad w once (inr (a, h)) (inr (b, k)) = h ∙ sym k

  next_once : (part : Part) (I F G : Clauses) (place : ℕ) (R S : Type 0) (x y : Option InvFate) → Alike F G → (R → S → x ≡ y) →
      NextFate p part I F place R x → NextFate p part I G place S y → x ≡ y
  next_once Head I F G place R S x y w once h k = once h k
  next_once Inv I F G place R S x y w once h k = once h k
  next_once Start I F G place R S x y w once h k = owed_once F G (owed p Start I) R S x y _ w once h k
  next_once Step I F G place R S x y w once h k = owed_once F G (owed p Step I) R S x y _ w once h k
  next_once Safe I F G place R S x y w once h k = h ∙ sym k

  proof_once : (F G : Clauses) (c : List LitOf) (R S : Type 0) (x y bad : Option InvFate) → Alike F G → (R → S → x ≡ y) →
      ((IsAdmitted F c × R) ⊎ ((IsAdmitted F c → ⊥) × (x ≡ bad))) → ((IsAdmitted G c × S) ⊎ ((IsAdmitted G c → ⊥) × (y ≡ bad))) → x ≡ y
  proof_once F G c R S x y bad w once (inl (a, h)) (inl (b, k)) = once h k
  proof_once F G c R S x y bad w once (inl (a, h)) (inr (b, k)) = absurd (b (alike_admitted F G c w a))
  proof_once F G c R S x y bad w once (inr (a, h)) (inl (b, k)) = absurd (a (admitted_alike F G c w b))
  proof_once F G c R S x y bad w once (inr (a, h)) (inr (b, k)) = h ∙ sym k

  last_once : (F G : Clauses) (c : List LitOf) (R S : Type 0) (x y good bad : Option InvFate) → Alike F G → (R → S → x ≡ y) →
      ((IsAdmitted F c × (c ≡ []) × (x ≡ good)) ⊎ (IsAdmitted F c × (c ≢ []) × R) ⊎ ((IsAdmitted F c → ⊥) × (x ≡ bad))) →
      ((IsAdmitted G c × (c ≡ []) × (y ≡ good)) ⊎ (IsAdmitted G c × (c ≢ []) × S) ⊎ ((IsAdmitted G c → ⊥) × (y ≡ bad))) → x ≡ y
  last_once F G c R S x y good bad w once (inl (a, e, h)) (inl (b, f, k)) = h ∙ sym k
  last_once F G c R S x y good bad w once (inl (a, e, h)) (inr (inl (b, f, k))) = absurd (f e)
  last_once F G c R S x y good bad w once (inl (a, e, h)) (inr (inr (b, k))) = absurd (b (alike_admitted F G c w a))
  last_once F G c R S x y good bad w once (inr (inl (a, e, h))) (inl (b, f, k)) = absurd (e f)
  last_once F G c R S x y good bad w once (inr (inl (a, e, h))) (inr (inl (b, f, k))) = once h k
  last_once F G c R S x y good bad w once (inr (inl (a, e, h))) (inr (inr (b, k))) = absurd (b (alike_admitted F G c w a))
  last_once F G c R S x y good bad w once (inr (inr (a, h))) (inl (b, f, k)) = absurd (a (admitted_alike F G c w b))
  last_once F G c R S x y good bad w once (inr (inr (a, h))) (inr (inl (b, f, k))) = absurd (a (admitted_alike F G c w b))
  last_once F G c R S x y good bad w once (inr (inr (a, h))) (inr (inr (b, k))) = h ∙ sym k

  bits_once : (c : List LitOf) (L M : Type 0) (x y bad : Option InvFate) → (L → M → x ≡ y) →
      ((IsOverBits p c × L) ⊎ ((IsOverBits p c → ⊥) × (x ≡ bad))) → ((IsOverBits p c × M) ⊎ ((IsOverBits p c → ⊥) × (y ≡ bad))) → x ≡ y
  bits_once c L M x y bad once (inl (a, h)) (inl (b, k)) = once h k
  bits_once c L M x y bad once (inl (a, h)) (inr (b, k)) = absurd (b a)
  bits_once c L M x y bad once (inr (a, h)) (inl (b, k)) = absurd (a b)
  bits_once c L M x y bad once (inr (a, h)) (inr (b, k)) = h ∙ sym k

  clause_once : (part : Part) (F G : Clauses) (c : List LitOf) (place : ℕ) (L M R S : Type 0) (x y : Option InvFate) → Alike F G → (L → M → x ≡ y) → (R → S → x ≡ y) →
      ClauseFate p part F c place L R x → ClauseFate p part G c place M S y → x ≡ y
  clause_once Head F G c place L M R S x y w list join h k = h ∙ sym k
  clause_once Inv F G c place L M R S x y w list join h k = bits_once c L M x y _ list h k
  clause_once Start F G c place L M R S x y w list join h k = proof_once F G c R S x y _ w join h k
  clause_once Step F G c place L M R S x y w list join h k = proof_once F G c R S x y _ w join h k
  clause_once Safe F G c place L M R S x y w list join h k = last_once F G c R S x y _ _ w join h k

  comes_alike : (part : Part) (I F G : Clauses) (ss : List InvSaying) (x y : Option InvFate) → Alike F G → SayingsFate p part I F ss x → SayingsFate p part I G ss y → x ≡ y
  comes_alike part I F G [] x y w h k = h ∙ sym k
  comes_alike part I F G (IsNext place ∷ ss) x y w h k =
      next_once part I F G place _ _ x y w
      (comes_alike (after part) I (opened p (after part) I) (opened p (after part) I) ss x y (alike_itself (opened p (after part) I))) h k
  comes_alike part I F G (Says (IsClause c place) ∷ ss) x y w h k =
      clause_once part F G c place _ _ _ _ x y w (comes_alike part (I ++ c ∷ []) F G ss x y w)
      (comes_alike part I (F ++ c ∷ []) (G ++ c ∷ []) ss x y (alike_more F G c w)) h k
  comes_alike part I F G (Says (IsDelete c) ∷ ss) x y w (H, d, h) (K, e, k) = comes_alike part I H K ss x y (alike_deleted F G H K c w d e) h k
  comes_alike part I F G (Says (IsValue l) ∷ ss) x y w h k = comes_alike part I F G ss x y w h k
  comes_alike part I F G (Says IsValuesEnd ∷ ss) x y w h k = comes_alike part I F G ss x y w h k
  comes_alike part I F G (Says IsUnknown ∷ ss) x y w h k = h ∙ sym k
  comes_alike part I F G (Says (IsParseFault f) ∷ ss) x y w h k = h ∙ sym k
  comes_alike part I F G (IsFault f ∷ ss) x y w h k = h ∙ sym k

  pub comes_once : (ss : List InvSaying) (x y : Option InvFate) → StreamFate p ss x → StreamFate p ss y → x ≡ y
  comes_once ss x y h k = comes_alike Head [] [] [] ss x y (alike_itself []) h k

  -- what refutes that a list of sayings has a fate
  abbrev Nowhere : Part → Clauses → Clauses → List InvSaying → Type 0
  Nowhere part I F ss = (x : Option InvFate) → SayingsFate p part I F ss x → ⊥

  proof_somewhere : (F : Clauses) (c : List LitOf) (bad : Option InvFate) (R : Option InvFate → Type 0) → (((x : Option InvFate) → R x → ⊥) → ⊥) →
      ((x : Option InvFate) → ((IsAdmitted F c × R x) ⊎ ((IsAdmitted F c → ⊥) × (x ≡ bad))) → ⊥) → ⊥
  proof_somewhere F c bad R some k = k bad (inr ((λ a. some (λ x h. k x (inl (a, h)))), refl))

  bits_somewhere : (c : List LitOf) (bad : Option InvFate) (R : Option InvFate → Type 0) → (((x : Option InvFate) → R x → ⊥) → ⊥) →
      ((x : Option InvFate) → ((IsOverBits p c × R x) ⊎ ((IsOverBits p c → ⊥) × (x ≡ bad))) → ⊥) → ⊥
  bits_somewhere c bad R some k = k bad (inr ((λ a. some (λ x h. k x (inl (a, h)))), refl))

  owed_somewhere : (F cs : Clauses) (bad : Option InvFate) (R : Option InvFate → Type 0) → (((x : Option InvFate) → R x → ⊥) → ⊥) →
      ((x : Option InvFate) → ((AreAdmitted F cs × R x) ⊎ ((AreAdmitted F cs → ⊥) × (x ≡ bad))) → ⊥) → ⊥
  owed_somewhere F cs bad R some k = k bad (inr ((λ a. some (λ x h. k x (inl (a, h)))), refl))

  last_somewhere : (F : Clauses) (c : List LitOf) (good bad : Option InvFate) (R : Option InvFate → Type 0) → (((x : Option InvFate) → R x → ⊥) → ⊥) →
      ((x : Option InvFate) → ((IsAdmitted F c × (c ≡ []) × (x ≡ good)) ⊎ (IsAdmitted F c × (c ≢ []) × R x) ⊎ ((IsAdmitted F c → ⊥) × (x ≡ bad))) → ⊥) → ⊥
  last_somewhere F c good bad R some k =
      k bad (inr (inr ((λ a. elim (empty_or_not c) [ inl e ↦ k good (inl (a, e, refl)) | inr n ↦ some (λ x h. k x (inr (inl (a, n, h)))) ]), refl)))

  pub comes_somewhere : (part : Part) (I F : Clauses) (ss : List InvSaying) → Nowhere part I F ss → ⊥
  comes_somewhere part I F [] k = k None refl
  comes_somewhere Head I F (IsNext place ∷ ss) k = comes_somewhere Inv I (opened p Inv I) ss k
  comes_somewhere Inv I F (IsNext place ∷ ss) k = comes_somewhere Start I (opened p Start I) ss k
  comes_somewhere Start I F (IsNext place ∷ ss) k =
      owed_somewhere F (owed p Start I) _ (SayingsFate p Step I (opened p Step I) ss) (comes_somewhere Step I (opened p Step I) ss) k
  comes_somewhere Step I F (IsNext place ∷ ss) k =
      owed_somewhere F (owed p Step I) _ (SayingsFate p Safe I (opened p Safe I) ss) (comes_somewhere Safe I (opened p Safe I) ss) k
  comes_somewhere Safe I F (IsNext place ∷ ss) k = k _ refl
  comes_somewhere Head I F (Says (IsClause c place) ∷ ss) k = k _ refl
  comes_somewhere Inv I F (Says (IsClause c place) ∷ ss) k = bits_somewhere c _ (SayingsFate p Inv (I ++ c ∷ []) F ss) (comes_somewhere Inv (I ++ c ∷ []) F ss) k
  comes_somewhere Start I F (Says (IsClause c place) ∷ ss) k =
      proof_somewhere F c _ (SayingsFate p Start I (F ++ c ∷ []) ss) (comes_somewhere Start I (F ++ c ∷ []) ss) k
  comes_somewhere Step I F (Says (IsClause c place) ∷ ss) k =
      proof_somewhere F c _ (SayingsFate p Step I (F ++ c ∷ []) ss) (comes_somewhere Step I (F ++ c ∷ []) ss) k
  comes_somewhere Safe I F (Says (IsClause c place) ∷ ss) k =
      last_somewhere F c _ _ (SayingsFate p Safe I (F ++ c ∷ []) ss) (comes_somewhere Safe I (F ++ c ∷ []) ss) k
  comes_somewhere part I F (Says (IsDelete c) ∷ ss) k = some_deletion F c (λ G d. comes_somewhere part I G ss (λ x h. k x (G, d, h)))
  comes_somewhere part I F (Says (IsValue l) ∷ ss) k = comes_somewhere part I F ss k
  comes_somewhere part I F (Says IsValuesEnd ∷ ss) k = comes_somewhere part I F ss k
  comes_somewhere part I F (Says IsUnknown ∷ ss) k = k _ refl
  comes_somewhere part I F (Says (IsParseFault f) ∷ ss) k = k _ refl
  comes_somewhere part I F (IsFault f ∷ ss) k = k _ refl
