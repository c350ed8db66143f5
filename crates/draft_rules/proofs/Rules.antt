-- The rules of a draft that is gathered, and their words.
--     Ruled              how many there are, and that the words after the procedures' are theirs
--     gathered_rules     so it is
use mathlib.Core.Path.{◌≡◌, sym, ap, subst, ◌∙◌}
use mathlib.Core.Bool.{true}
use mathlib.Core.List.{List}
use Prim.Native.Nat.{ℕ, ◌+◌, ◌-◌, ◌^◌, ◌<◌, ◌≤◌}
use native.Mathlib.Omega.{arith}
use lib.ListN.{length, get_or, drop, length-drop, length-map, get_or-map}
use lib.Seq.{get_or-drop}
use Rattle.words.specs.Word.{words, word_at}
use Rattle.words.proofs.Words.{words_length}
use Rattle.format.specs.Format.{is_rule, rule_of}
use Rattle.format.specs.Decode.{sizes}
use Rattle.check_verdicts.specs.Verdict.{Accepted}
use Rattle.check_faults.proofs.Accepted.{rules_formed}
use Rattle.check_score.proofs.Lawful.{accepted_faultless}
use Rattle.encoding.specs.Encode.{rule_word}
use Rattle.encoding.proofs.ReadWords.{rule_again}
use Rattle.draft_format.specs.DraftFile.{as_whens, draft_verdict, decode_draft}
use Rattle.draft_format.proofs.AsWhens.{as_whens_length}
use Rattle.draft_format.proofs.Draft.{words_kept, sizes_as_whens, accepted_whole}
use Rattle.draft_gathering.specs.declared.Counts.{Counts}
use Rattle.draft_gathering.specs.Gathered.{Gathered}

-- word j from a word on is that of rule j
abbrev WordsFrom : List ℕ → ℕ → Type 0
WordsFrom s from = (j : ℕ) → from + j < length (words s) → word_at s (from + j) < 2 ^ 32 → word_at s (from + j) ≡ rule_word (get_or (decode_draft s).rules j (rule_of 0))

pub record Ruled (s : List ℕ) (from count : ℕ) : Type 0 where
  pub whole : from ≤ count
  pub few : count ≤ 1346
  pub words_are : count ≡ length (words s)
  pub rules_are : length (decode_draft s).rules ≡ count - from
  pub their_words : WordsFrom s from

module _ (s : List ℕ) where
  abbrev rules_from : ℕ
  rules_from = 2 + (sizes s).agents + (sizes s).procedures

  rules_many : length (decode_draft s).rules ≡ length (words s) - rules_from
  unfolding decode_draft
  rules_many = length-map (drop rules_from (words s)) rule_of ∙ length-drop rules_from (words s)

  module _ (e : draft_verdict s ≡ Accepted) where
    rule_formed : (k : ℕ) → rules_from ≤ k → k < length (words s) → is_rule (word_at s k) ≡ true
    rule_formed k from h =
        let same = sizes_as_whens s in
        subst (λ w. is_rule w ≡ true) (words_kept s k (λ a b. omega arith))
        (rules_formed (as_whens s) (accepted_faultless (as_whens s) e) k
        (omega (arith, ap (λ z. z.agents) same, ap (λ z. z.procedures) same))
        (omega (arith, words_length (as_whens s), words_length s, as_whens_length s)))

    rule_words_lem : WordsFrom s rules_from
    unfolding decode_draft
    rule_words_lem j h small = sym
        (ap rule_word (get_or-map rule_of (drop rules_from (words s)) j 0 ∙ ap rule_of (get_or-drop rules_from (words s) j 0))
        ∙ rule_again (word_at s (rules_from + j)) small (rule_formed (rules_from + j) (omega arith) h))

    accepted_rules : Ruled s rules_from (length (words s))
    accepted_rules =
        let whole = accepted_whole s e in
        record {
          whole = whole.enough;
          few = omega (arith, whole.most, whole.fours);
          words_are = omega arith;
          rules_are = rules_many;
          their_words = rule_words_lem;
        }

pub gathered_rules : {s : List ℕ} {n : Counts} {table sets : List (List ℕ)} → Gathered s n table sets → Ruled s (2 + n.agents + n.procedures) n.words
gathered_rules {s} g = rw (g.agents_are, g.procedures_are, g.words_are) (accepted_rules s g.accepted)
