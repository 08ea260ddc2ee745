-- The paths of jobs' files differ as the files do.
use Rattle.std.proofs.Common.{◌≡◌, ℕ, ◌<◌, ◌^◌, ◌==◌, Bool, true, false, List, [], ◌∷◌, ◌++◌, refl, sym, ap, ◌∙◌, eqb-true, arith}
use Rattle.std.specs.Prelude.{codes}
use Rattle.std.specs.Fmt.{decimal}
use Rattle.std.proofs.lemmas.Fmt.{decimal_injective}
use Rattle.std.proofs.lemmas.List.{append_cancel_left, append_cancel_right}
use Rattle.sby_terms.specs.Path.{job_path, job_text, path_text}
use Rattle.sby_terms.specs.declared.names.JobName.{JobName}
use Rattle.sby_terms.specs.declared.names.JobName.TheVariants.{Base, Step, Inv, Cover}
use Rattle.task_race.specs.Words.{btor_path, btor_file}
use Rattle.sby_top.specs.Served.{Btor, Formula, JobFile}
use Rattle.sby_top.proofs.KindLemmas.{last_but_one, last_but_one_of}

-- a job as a task of this many slices has it
unfoldable pub IsNumbered : ℕ → JobName → Type 0
IsNumbered slices (Base i) = (slices ≡ 1 → i ≡ 0) × (i < 2 ^ 64)
IsNumbered slices Step = Unit {0}
IsNumbered slices Inv = Unit {0}
IsNumbered slices (Cover k) = k < 2 ^ 64

first : List ℕ → ℕ
first [] = 0
first (x ∷ xs) = x

base_first : (slices i : ℕ) (one : Bool) → (slices == 1) ≡ one → first (job_text slices (Base i)) ≡ 98
unfolding first job_text
base_first slices i true is = rw is refl
base_first slices i false is = rw is refl

base_many : (slices i : ℕ) → (slices == 1) ≡ false → job_text slices (Base i) ≡ codes "base" ++ decimal i
unfolding job_text
base_many slices i is = rw is refl

base_same : (slices i j : ℕ) (one : Bool) → (slices == 1) ≡ one → IsNumbered slices (Base i) → IsNumbered slices (Base j) → job_text slices (Base i) ≡ job_text slices (Base j) → i ≡ j
unfolding IsNumbered
base_same slices i j true is a b same = let one = eqb-true slices 1 is in a.0 one ∙ sym (b.0 one)
base_same slices i j false is a b same =
    decimal_injective i j a.1 b.1 (append_cancel_left (codes "base") (decimal i) (decimal j) (sym (base_many slices i is) ∙ (same ∙ base_many slices j is)))

apart : (m n : ℕ) (xs ys : List ℕ) → first xs ≡ m → first ys ≡ n → m < n → xs ≡ ys → ⊥
apart m n xs ys hx hy lt same = let both : m ≡ n = sym hx ∙ (ap (λ (l : List ℕ). first l) same ∙ hy) in omega (arith, both, lt)

text_same : (slices : ℕ) (a b : JobName) → IsNumbered slices a → IsNumbered slices b → job_text slices a ≡ job_text slices b → a ≡ b
unfolding IsNumbered first job_text
text_same slices (Base i) (Base j) ha hb same = ap Base (base_same slices i j (slices == 1) refl ha hb same)
text_same slices (Base i) Step ha hb same = absurd (apart 98 115 (job_text slices (Base i)) (job_text slices Step) (base_first slices i (slices == 1) refl) refl (omega arith) same)
text_same slices (Base i) Inv ha hb same = absurd (apart 98 105 (job_text slices (Base i)) (job_text slices Inv) (base_first slices i (slices == 1) refl) refl (omega arith) same)
text_same slices (Base i) (Cover k) ha hb same = absurd (apart 98 99 (job_text slices (Base i)) (job_text slices (Cover k)) (base_first slices i (slices == 1) refl) refl (omega arith) same)
text_same slices Step (Base j) ha hb same = absurd (apart 98 115 (job_text slices (Base j)) (job_text slices Step) (base_first slices j (slices == 1) refl) refl (omega arith) (sym same))
text_same slices Step Step ha hb same = refl
text_same slices Step Inv ha hb same = absurd (apart 105 115 (job_text slices Inv) (job_text slices Step) refl refl (omega arith) (sym same))
text_same slices Inv (Base j) ha hb same = absurd (apart 98 105 (job_text slices (Base j)) (job_text slices Inv) (base_first slices j (slices == 1) refl) refl (omega arith) (sym same))
text_same slices Inv Step ha hb same = absurd (apart 105 115 (job_text slices Inv) (job_text slices Step) refl refl (omega arith) same)
text_same slices Inv Inv ha hb same = refl
text_same slices Inv (Cover k) ha hb same = absurd (apart 99 105 (job_text slices (Cover k)) (job_text slices Inv) refl refl (omega arith) (sym same))
text_same slices Step (Cover k) ha hb same = absurd (apart 99 115 (job_text slices (Cover k)) (job_text slices Step) refl refl (omega arith) (sym same))
text_same slices (Cover k) (Base j) ha hb same = absurd (apart 98 99 (job_text slices (Base j)) (job_text slices (Cover k)) (base_first slices j (slices == 1) refl) refl (omega arith) (sym same))
text_same slices (Cover k) Step ha hb same = absurd (apart 99 115 (job_text slices (Cover k)) (job_text slices Step) refl refl (omega arith) same)
text_same slices (Cover k) Inv ha hb same = absurd (apart 99 105 (job_text slices (Cover k)) (job_text slices Inv) refl refl (omega arith) same)
text_same slices (Cover k) (Cover j) ha hb same = ap Cover (decimal_injective k j ha hb (append_cancel_left (codes "cover") (decimal k) (decimal j) same))

-- one path, one job
pub path_same : (folder : List ℕ) (slices : ℕ) (a b : JobName) → IsNumbered slices a → IsNumbered slices b → job_path folder slices a ≡ job_path folder slices b → a ≡ b
unfolding path_text
path_same folder slices a b ha hb same =
    text_same slices a b ha hb (append_cancel_left (folder ++ codes "/model/") (job_text slices a) (job_text slices b)
    (append_cancel_right ((folder ++ codes "/model/") ++ job_text slices a) ((folder ++ codes "/model/") ++ job_text slices b) (codes ".cnf") same))

-- no model is put where a job's formula is
pub btor_apart : (folder : List ℕ) (slices : ℕ) (a b : JobName) → btor_path folder slices a ≡ job_path folder slices b → ⊥
unfolding path_text btor_file
btor_apart folder slices a b same =
    let btor : last_but_one (btor_path folder slices a) ≡ 111 = last_but_one_of ((folder ++ codes "/model/") ++ job_text slices a) 46 98 (codes "tor") in
    let cnf : last_but_one (job_path folder slices b) ≡ 110 = last_but_one_of ((folder ++ codes "/model/") ++ job_text slices b) 46 99 (codes "nf") in
    let no : ◌≡◌ {A = ℕ} 111 110 = sym btor ∙ (ap last_but_one same ∙ cnf) in absurd (omega (arith, no))

pub btor_same : (folder : List ℕ) (slices : ℕ) (a b : JobName) → IsNumbered slices a → IsNumbered slices b → btor_path folder slices a ≡ btor_path folder slices b → a ≡ b
unfolding btor_file
btor_same folder slices a b ha hb same =
    text_same slices a b ha hb (append_cancel_left (folder ++ codes "/model/") (job_text slices a) (job_text slices b)
    (append_cancel_right ((folder ++ codes "/model/") ++ job_text slices a) ((folder ++ codes "/model/") ++ job_text slices b) (codes ".btor") same))

-- the jobs of files are such
abbrev pub IsNumberedFile : ℕ → JobFile → Type 0
IsNumberedFile slices (Formula job) = IsNumbered slices job
IsNumberedFile slices (Btor job) = IsNumbered slices job

abbrev pub AllNumbered : ℕ → List JobFile → Type 0
AllNumbered slices [] = Unit {0}
AllNumbered slices (f ∷ files) = IsNumberedFile slices f × AllNumbered slices files
