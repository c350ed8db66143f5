-- The plain score of an accepted draft, as bytes, and how a translation ends.
--     rule_formed, rules_formed     a rule that bytes stand for has no premise or two
--     accepted_short                an accepted score has room in the bytes that are lent for one
--     plain_written                 the bytes of a plain score that fits are accepted, and stand for that score
--     plain_short                   so there is room for them
--     Outcome                       how a translation ends, by what holds of the draft and of the buffer
--     outcome                       it ends in no other way
use mathlib.Core.Path.{◌≡◌, refl, ap}
use mathlib.Core.Bool.{true, false, not}
use mathlib.Core.List.{List}
use mathlib.Core.Logic.{inl, inr}
use Prim.Native.Nat.{ℕ, ◌+◌, ◌<◌, ◌≤◌}
use borrow.Author.Tests.{eqb-true, eqb-false, not-true, not-false}
use lib.Dec.{eqb}
use lib.ListN.{length, drop}
use Rattle.laws.proofs.Booleans.{by_test}
use Rattle.laws.proofs.Sets.{Within, on_map}
use Rattle.words.specs.Word.{field, words}
use Rattle.format.specs.Limits.{most_bytes}
use Rattle.format.specs.Format.{is_fact, rule_of}
use Rattle.format.specs.Decode.{sizes, decode}
use Rattle.std.proofs.Common.{Err}
use Rattle.check_verdicts.specs.declared.Fault.{Fault}
use Rattle.check_verdicts.specs.Verdict.{Accepted}
use Rattle.check_verdicts.specs.Verdicts.{verdict_number}
use Rattle.check_verdicts.proofs.Verdicts.{both_accepted, accepted_only}
use Rattle.check_faults.specs.Faults.{length_verdict}
use Rattle.check_faults.proofs.Accepted.{length_accepted}
use Rattle.check_score.specs.Check.{verdict}
use Rattle.refusals.proofs.ByVerdict.{by_fault}
use Rattle.draft_plain.specs.Plain.{plain_of, fits}
use Rattle.refusals.specs.Refused.{Turned, Lengths, Large}
use Rattle.draft_plain.proofs.PlainLawful.{plain_lawful, plain_formed}
use Rattle.encoding.specs.Encode.{RuleFormed, score_bytes}
use Rattle.encoding.proofs.DecodesBack as encoding
use Rattle.draft_format.specs.DraftFile.{draft_verdict, decode_draft}
use Rattle.draft_format.proofs.Draft.{accepted_lawful_draft}
use Rattle.draft_call.specs.TranslateCall.{Exit, kept, written, exit}

rule_formed : (w : ℕ) → RuleFormed (rule_of w)
rule_formed w = by_test (λ l. RuleFormed (record { premises = l; conclusion = field w 0 8 })) (is_fact w) (λ e. inl refl) (λ e. inr (field w 8 8, field w 16 8, refl))

rules_formed : (s : List ℕ) → Within RuleFormed (decode_draft s).rules
unfolding decode_draft
rules_formed s = on_map RuleFormed rule_of (drop (2 + (sizes s).agents + (sizes s).procedures) (words s)) (λ w m. rule_formed w)

accepted_short : (s : List ℕ) → verdict s ≡ Accepted → length s ≤ most_bytes
unfolding verdict
accepted_short s e = (length_accepted (length s) (ap verdict_number (both_accepted (length_verdict (length s)) _ e).0)).2

module _ (draft : List ℕ) (bytes : Within (λ b. b < 256) draft) (accepted : draft_verdict draft ≡ Accepted) (fit : fits (plain_of (decode_draft draft)) ≡ true) where
  pub plain_written : (verdict (score_bytes (plain_of (decode_draft draft))) ≡ Accepted) × (decode (score_bytes (plain_of (decode_draft draft))) ≡ plain_of (decode_draft draft))
  plain_written =
      let d = decode_draft draft in
      encoding.decodes_back (plain_of d) (plain_lawful d (accepted_lawful_draft draft bytes accepted) fit) (plain_formed d (rules_formed draft))

  pub plain_short : length (score_bytes (plain_of (decode_draft draft))) ≤ most_bytes
  plain_short = accepted_short (score_bytes (plain_of (decode_draft draft))) plain_written.0

pub data Outcome (draft before : List ℕ) : Exit → Type 0 where
  turned : (f : Fault) → draft_verdict draft ≡ Err f → Outcome draft before (kept before (Turned f))
  lengths : draft_verdict draft ≡ Accepted → (length before ≡ most_bytes → ⊥) → Outcome draft before (kept before Lengths)
  large : draft_verdict draft ≡ Accepted → length before ≡ most_bytes → fits (plain_of (decode_draft draft)) ≡ false → Outcome draft before (kept before Large)
  writes : draft_verdict draft ≡ Accepted → length before ≡ most_bytes → fits (plain_of (decode_draft draft)) ≡ true → Outcome draft before (written before (plain_of (decode_draft draft)))

pub outcome : (draft before : List ℕ) → Outcome draft before (exit draft before)
unfolding exit
outcome draft before =
    by_fault (Outcome draft before) (draft_verdict draft) turned
    (λ passed. let accepted = accepted_only (draft_verdict draft) passed in
    by_test (Outcome draft before) (not (eqb (length before) most_bytes)) (λ e. lengths accepted (eqb-false (length before) most_bytes (not-true (eqb (length before) most_bytes) e)))
    (λ right. let long = eqb-true (length before) most_bytes (not-false (eqb (length before) most_bytes) right) in
    by_test (Outcome draft before) (fits (plain_of (decode_draft draft))) (λ e. writes accepted long e) (λ e. large accepted long e)))
