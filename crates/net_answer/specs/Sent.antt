-- What the writer of an answer has sent.
use Rattle.std.specs.Prelude.{◌≡◌, ◌⊎◌, ℕ, ◌+◌, ◌-◌, ◌<◌, List, [], ◌++◌, length, take, drop, Option, None, Some, IfSome, option_map}
use Rattle.net_link.specs.Frame.{AreFull, Sizing, all_framed, framed, mark, payload, Pieces}
use Rattle.net_link.specs.Link.{Grew}

-- more of a text was written: `sent` bytes of it had been, now `sent_now` have
abbrev pub Sends : Option (List ℕ) → Option (List ℕ) → List ℕ → ℕ → ℕ → Type 0
Sends before now text sent sent_now = (more : List ℕ) × Grew before now more × (take sent_now text ≡ take sent text ++ more)

-- the last piece was sent, where it isn't empty, of which `sent` bytes had been, and after it the mark
abbrev pub Ends : Option (List ℕ) → Option (List ℕ) → List ℕ → ℕ → Type 0
Ends before now body sent =
    ((length body ≡ 0) × Grew before now mark)
    ⊎ ((0 < length body) × ((middle : Option (List ℕ)) × Sends before middle (framed body) sent (4 + length body) × Grew middle now mark))

-- On the link are whole pieces, and then `sent` bytes of the next one, which was begun only if it is whole.
pub record Stands (written body : List ℕ) (sent : ℕ) : Type 0 where
  pub pieces : List (List ℕ)
  pub full : AreFull pieces
  pub written_is : written ≡ all_framed pieces ++ take sent (framed body)
  pub begun : 0 < sent → length body ≡ 65536

-- the stream so far, where the link tells: what its reader has got, and what isn't sent yet
abbrev pub answered : Option (List ℕ) → List ℕ → ℕ → Option (List ℕ)
answered written body sent = option_map (λ w. payload (Sizing []) w ++ drop (sent - 4) body) written

-- the same, where the link tells
abbrev pub HoldsSo : Option (List ℕ) → List ℕ → ℕ → Type 0
HoldsSo written body sent = IfSome written (λ w. Stands w body sent)

-- the stream so far, where the link tells, how many bytes of it the next piece has, and the link's count of faults
pub record AnswerOf : Type 0 where
  pub told : Option (List ℕ)
  pub waits : ℕ
  pub faults : ℕ

-- the link has an answer of this stream, where it tells
abbrev pub IsAnswered : Option (List ℕ) → Option (List ℕ) → Type 0
IsAnswered None written = written ≡ None
IsAnswered (Some stream) written = (bytes : List ℕ) × Pieces stream bytes × (written ≡ Some bytes)
