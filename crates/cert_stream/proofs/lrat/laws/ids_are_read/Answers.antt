use Rattle.std.proofs.Common.{◌≡◌, ℕ, Bool, false, List, Some, inl, inr}
use Rattle.cert_stream.specs.Text.{id_of}
use Rattle.cert_stream.specs.Scan.{Reads, scan_by}
use Rattle.cert_stream.specs.LratMachine.{hint}
use Rattle.cert_stream.specs.LratScan.{part_next}
use Rattle.cert_stream.specs.declared.lrat.mode.IdList.{IdList}
use Rattle.cert_stream.specs.declared.lrat.mode.IdPart.TheVariants.{Gap, Digits}
use Rattle.cert_stream.proofs.LratIds.{id_back, own_back, own_read, word_is}
use Rattle.cert_stream.proofs.lrat.laws.ids_are_read.Goals as goal

read : (kind : IdList) (full : Bool) (place : ℕ) (text : List ℕ) (n : ℕ) → scan_by (part_next kind full place) Gap text ≡ Reads (Digits (hint n false place)) → id_of text ≡ Some n
read kind full place text n e = elim (word_is kind full place text (Digits (hint n false place)) e).2 [ inl h ↦ h.1 | inr h ↦ absurd (let q = h.0 in cc) ]

pub returns-clause-own : goal.returns-clause-own
returns-clause-own c = λ text n f. (own_read text n f, own_back text n)

pub returns-clause-list : goal.returns-clause-list
returns-clause-list c = λ kind full place text n f. (read kind full place text n, id_back kind full place text n f)
