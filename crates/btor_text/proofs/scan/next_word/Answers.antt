use Rattle.std.proofs.Common.{◌≡◌, ◌∙◌, ℕ, List, not, sym, ap, subst, drop, take}
use Rattle.std.specs.List.{position_or_len}
use Rattle.btor_text.specs.Grammar.{is_blank, words_of}
use Rattle.btor_text.specs.Reading.{cons_word}
use Rattle.btor_text.proofs.Scanning.{Begins, no_word, stops_there, word_cut, words_visible}
use Rattle.btor_text.proofs.scan.next_word.Goals as goal

pub returns : goal.returns
returns c =
    let text = c.args.text.now in
    let v = c.split_at.result.1.now in
    let visible : v ≡ drop (position_or_len (λ b. not (is_blank b)) text) text = c.split_at.ensures.back ∙ ap (λ (n : ℕ). drop n text) c.to_visible.ensures.place in
    let begins : Begins (λ b. not (not (is_blank b))) v = subst (λ (t : List ℕ). Begins (λ b. not (not (is_blank b))) t) (sym visible) (stops_there (λ b. not (is_blank b)) text) in
    let front : c.split_at-2.result.0.now ≡ take (position_or_len is_blank v) v = c.split_at-2.ensures.front ∙ ap (λ (n : ℕ). take n v) c.to_blank.ensures.place in
    let back : c.split_at-2.result.1.now ≡ drop (position_or_len is_blank v) v = c.split_at-2.ensures.back ∙ ap (λ (n : ℕ). drop n v) c.to_blank.ensures.place in
    let whole : words_of text ≡ words_of v = words_visible text ∙ ap (λ (t : List ℕ). words_of t) (sym visible) in
    record {
      word = whole ∙ word_cut v begins ∙ ap (λ (t : List ℕ). cons_word t (words_of (drop (position_or_len is_blank v) v))) (sym front) ∙ ap (λ (t : List ℕ). cons_word c.split_at-2.result.0.now (words_of t)) (sym back);
      none = λ e. whole ∙ no_word v begins (sym front ∙ e);
    }
