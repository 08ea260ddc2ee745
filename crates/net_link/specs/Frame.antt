-- How a job is asked of an engine over a connection, and how the engine answers.
use Rattle.std.specs.Prelude.{◌≡◌, ℕ, zero, suc, ◌-◌, ◌≤◌, ◌^◌, ◌==◌, nat_lt, ◌||◌, if◌then◌else◌, List, [], ◌∷◌, ◌++◌, length}
use Rattle.std.specs.Int.{w32, w64, to_be_bytes, from_be_bytes}

-- the first bytes of a request: SBYJOB1 and a line feed
abbrev pub first_bytes : List ℕ
first_bytes = 83 ∷ 66 ∷ 89 ∷ 74 ∷ 79 ∷ 66 ∷ 49 ∷ 10 ∷ []

-- a request: the first bytes, the budget and the job's length as 8 bytes each, highest first, and the job's bytes
abbrev pub request : ℕ → List ℕ → List ℕ
request budget job = first_bytes ++ (to_be_bytes w64 budget ++ (to_be_bytes w64 (length job) ++ job))

-- a budget from 1 to 10^9 conflicts, and a job of at most 2^32 bytes
pub record CanAsk (budget : ℕ) (job : List ℕ) : Type 0 where
  pub least : 1 ≤ budget
  pub most : budget ≤ 10 ^ 9
  pub fits : length job ≤ 2 ^ 32

-- the bytes begin with such a request
pub record Framed (bytes : List ℕ) (budget : ℕ) (job : List ℕ) : Type 0 where
  pub rest : List ℕ
  pub bytes_are : bytes ≡ request budget job ++ rest
  pub can_ask : CanAsk budget job

-- the bytes begin with no request
abbrev pub Unframed : List ℕ → Type 0
Unframed bytes = (budget : ℕ) (job : List ℕ) → Framed bytes budget job → ⊥

-- a piece with its length before it, as 4 bytes, highest first
abbrev pub framed : List ℕ → List ℕ
framed piece = to_be_bytes w32 (length piece) ++ piece

-- the mark of an answer's end: a length of 0
abbrev pub mark : List ℕ
mark = to_be_bytes w32 0

-- pieces of 65,536 bytes each
abbrev pub AreFull : List (List ℕ) → Type 0
AreFull [] = Unit {0}
AreFull (p ∷ ps) = (length p ≡ 65536) × AreFull ps

-- the bytes of pieces, one after the other
abbrev pub joined : List (List ℕ) → List ℕ
joined [] = []
joined (p ∷ ps) = p ++ joined ps

-- the same with each piece's length before it
abbrev pub all_framed : List (List ℕ) → List ℕ
all_framed [] = []
all_framed (p ∷ ps) = framed p ++ all_framed ps

-- the last piece, where it isn't empty, and the mark
abbrev pub ending : List ℕ → List ℕ
ending [] = mark
ending (b ∷ bs) = framed (b ∷ bs) ++ mark

-- an answer: the stream in pieces, each but the last of 65,536 bytes and none empty, then the mark
pub record Pieces (stream bytes : List ℕ) : Type 0 where
  pub whole : List (List ℕ)
  pub last : List ℕ
  pub full : AreFull whole
  pub fits : length last ≤ 65536
  pub stream_is : stream ≡ joined whole ++ last
  pub bytes_are : bytes ≡ all_framed whole ++ ending last

-- where a reader of an answer is: it has some bytes of a length, fewer than 4; or n bytes of a piece follow the next one; or the
-- answer is over
pub data Stage : Type 0 where
  Sizing : List ℕ → Stage
  Inside : ℕ → Stage
  Over : Stage

-- after a whole length: the mark and a length above 65,536 end the answer
abbrev pub sized : ℕ → Stage
sized n = if (n == 0) || nat_lt 65536 n then Over else Inside (n - 1)

-- after these bytes of a length
abbrev pub sizing : List ℕ → Stage
sizing bytes = if length bytes == 4 then sized (from_be_bytes w32 bytes) else Sizing bytes

-- the bytes of an answer's pieces, up to the mark, a length above 65,536 or the end, whichever is first
abbrev pub payload : Stage → List ℕ → List ℕ
payload stage [] = []
payload (Sizing bytes) (b ∷ bs) = payload (sizing (bytes ++ b ∷ [])) bs
payload (Inside zero) (b ∷ bs) = b ∷ payload (Sizing []) bs
payload (Inside (suc n)) (b ∷ bs) = b ∷ payload (Inside n) bs
payload Over (b ∷ bs) = []
