use Rattle.std.proofs.Common.{◌≡◌, ◌∙◌, ℕ, List, sym, ap, suc, drop, take}
use Rattle.std.specs.List.{position_or_len}
use Rattle.btor_text.specs.Grammar.{is_feed, uncommented}
use Rattle.btor_text.proofs.Scanning.{comment_cut, text_cut}
use Rattle.btor_text.proofs.scan.next_line.Goals as goal

pub returns-clause-cut : goal.returns-clause-cut
returns-clause-cut c =
    let text = c.args.text.now in
    let rest : c.after.result.now ≡ drop (suc (position_or_len is_feed text)) text = c.after.ensures ∙ ap (λ (n : ℕ). drop (suc n) text) c.to_feed-end.ensures.place in
    rw rest (text_cut text c.requires)

pub returns-clause-first : goal.returns-clause-first
returns-clause-first c =
    let text = c.args.text.now in
    let line = c.split_at.result.0.now in
    let first : line ≡ take (position_or_len is_feed text) text = c.split_at.ensures.front ∙ ap (λ (n : ℕ). take n text) c.to_feed-end.ensures.place in
    c.split_at-2.ensures.front ∙ ap (λ (n : ℕ). take n line) c.to_comment.ensures.place ∙ sym (comment_cut line) ∙ ap (λ (t : List ℕ). uncommented t) first
