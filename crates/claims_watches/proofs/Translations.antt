-- Calls of score_translate, as their caller sees them.
--     Wrote              the buffer begins with the draft's plain score, and the answer says how long that is
--     Ended              a call was refused by 1 to 8, or by 16, and left all as it was, or it wrote
--     ended              there is nothing else
--     translated_wrote   a call that answers 0 wrote
--     draft_lawful       its draft is lawful
--     plain_is           the bytes that it wrote are the plain score's
--     plain_accepted, plain_decoded     so they are accepted, and stand for it
--     taken_known        the first instants of a list over a draft's tokens
use mathlib.Core.Path.{◌≡◌, refl, sym, ap, ap₂, subst, ◌∙◌}
use mathlib.Core.Bool.{true, false}
use mathlib.Core.List.Memᴰ
use mathlib.Core.List.{List, ◌++◌, Memᴰ}
use Prim.Native.Nat.{ℕ}
use native.Mathlib.Omega.{arith}
use lib.ListN.{length, take, drop, take-append-drop}
use lib.Seq.{take_at}
use Rattle.format.specs.Limits.{most_bytes}
use Rattle.format.specs.Decode.{decode}
use Rattle.std.proofs.Common.{Err}
use Rattle.check_verdicts.specs.Verdict.{Accepted}
use Rattle.check_verdicts.specs.Verdicts.{verdict_number, verdict_value}
use Rattle.check_verdicts.proofs.Verdicts.{number_few}
use Rattle.check_score.specs.Check.{verdict}
use Rattle.refusals.specs.declared.Refusal.{Refusal}
use Rattle.draft_language.specs.Draft.{Draft, LawfulDraft}
use Rattle.draft_language.specs.Chain.{InputsKnown}
use Rattle.draft_plain.specs.Plain.{plain_of, fits}
use Rattle.encoding.specs.Encode.{score_bytes}
use Rattle.draft_format.specs.DraftFile.{draft_verdict, decode_draft}
use Rattle.draft_format.proofs.Draft.{accepted_lawful_draft}
use Rattle.draft_call.specs.TranslateCall.{Exit, exit}
use Rattle.draft_call.proofs.Plain.{plain_written, Outcome, turned, lengths, large, writes, outcome}
use Rattle.score_answer.specs.Answer.{number_of, value_of, number_in, value_in}
use Rattle.score_answer.specs.Replies.{of_translation}
use Rattle.score_answer.proofs.Replies.{reply_number}
use Rattle.score_answer.proofs.Refusals.{refusal_numbered}
use Rattle.score.specs.ScoreTranslate.{ScoreTranslate}
use Rattle.score.proofs.ScoreTranslate.{bytes_below, read}
use Rattle.claims_watches.specs.Translations.{plain_in, Translated}

pub record Wrote (draft before after : List ℕ) (answer : ℕ) : Type 0 where
  pub accepted : draft_verdict draft ≡ Accepted
  pub fit : fits (plain_of (decode_draft draft)) ≡ true
  pub number : number_in answer ≡ 0
  pub value : value_in answer ≡ length (score_bytes (plain_of (decode_draft draft)))
  pub plain : after ≡ score_bytes (plain_of (decode_draft draft)) ++ drop (length (score_bytes (plain_of (decode_draft draft)))) before

pub data Ended (draft before after : List ℕ) (answer : ℕ) : Type 0 where
  refused : (number_in answer ≡ 0 → ⊥) → (number_in answer ≡ 16 → ⊥) → (draft_verdict draft ≡ Accepted → length before ≡ most_bytes → ⊥) → after ≡ before → Ended draft before after answer
  over : fits (plain_of (decode_draft draft)) ≡ false → number_in answer ≡ 16 → after ≡ before → Ended draft before after answer
  wrote : Wrote draft before after answer → Ended draft before after answer

module _ {draft before after : List ℕ} {answer : ℕ} (c : ScoreTranslate draft before after answer) where
  number_is : (e : Exit) → exit draft before ≡ e → number_in answer ≡ number_of (of_translation e.reply)
  number_is e q = (read draft before after answer c).number ∙ ap (λ x. number_of (of_translation x.reply)) q

  value_is : (e : Exit) → exit draft before ≡ e → value_in answer ≡ value_of (of_translation e.reply)
  value_is e q = (read draft before after answer c).value ∙ ap (λ x. value_of (of_translation x.reply)) q

  plain_left : (e : Exit) → exit draft before ≡ e → after ≡ e.plain
  plain_left e q = c.written ∙ ap (λ x. x.plain) q

  pub ended : Ended draft before after answer
  ended = go (exit draft before) refl (outcome draft before)
    where
      go : (e : Exit) → exit draft before ≡ e → Outcome draft before e → Ended draft before after answer
      go e q (turned f t) =
          let is : number_in answer ≡ verdict_number (Err f) = number_is e q ∙ reply_number (verdict_number (Err f)) (verdict_value (Err f)) in
          refused (λ z. refusal_numbered (Refusal.Score f) (sym (number_is e q) ∙ z)) (λ z. omega (arith, number_few (Err f))) (λ a l. cc) (plain_left e q)
      go e q (lengths a n) = let is : number_in answer ≡ 8 = number_is e q in refused (λ z. omega arith) (λ z. omega arith) (λ b l. n l) (plain_left e q)
      go e q (large a l f) = over f (number_is e q) (plain_left e q)
      go e q (writes a l f) = wrote (record { accepted = a; fit = f; number = number_is e q; value = value_is e q; plain = plain_left e q })

module _ {draft before after : List ℕ} {answer : ℕ} (t : Translated draft before after answer) where
  pub translated_wrote : Wrote draft before after answer
  translated_wrote = go (ended t.called)
    where
      go : Ended draft before after answer → Wrote draft before after answer
      go (refused not-zero not-sixteen fault kept) = absurd (not-zero t.accepted)
      go (over unfit number kept) = absurd (omega (arith, t.accepted))
      go (wrote w) = w

  pub draft_lawful : LawfulDraft (decode_draft draft)
  draft_lawful = accepted_lawful_draft draft (bytes_below draft t.called.lent) translated_wrote.accepted

  pub plain_is : plain_in after answer ≡ score_bytes (plain_of (decode_draft draft))
  plain_is =
      let plain = score_bytes (plain_of (decode_draft draft)) in
      ap₂ take translated_wrote.value translated_wrote.plain ∙ take_at plain (drop (length plain) before) (length plain) refl

  plain_read : (verdict (score_bytes (plain_of (decode_draft draft))) ≡ Accepted) × (decode (score_bytes (plain_of (decode_draft draft))) ≡ plain_of (decode_draft draft))
  plain_read = plain_written draft (bytes_below draft t.called.lent) translated_wrote.accepted translated_wrote.fit

  pub plain_accepted : verdict (plain_in after answer) ≡ Accepted
  plain_accepted = ap verdict plain_is ∙ plain_read.0

  pub plain_decoded : decode (plain_in after answer) ≡ plain_of (decode_draft draft)
  plain_decoded = ap decode plain_is ∙ plain_read.1

pub taken_known : (d : Draft) (n : ℕ) (instants : List (List ℕ)) → InputsKnown d.tokens instants → InputsKnown d.tokens (take n instants)
taken_known d n instants known inputs m = known inputs (subst (λ l. Memᴰ inputs l) (take-append-drop n instants) (Memᴰ.append_left (drop n instants) m))
