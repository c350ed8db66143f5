-- What follows from the theorems on translations, for a rigger.
--     refusal_keeps        a call that does not answer 0 leaves the buffer as it was
--     past_kept            one that does leaves the bytes past the plain score as they were
--     same_bytes           a draft translated twice, into whatever buffers, gives the same bytes
--     check_accepts        score_check accepts a translation
--     one_journal          a draft shows one journal, in whatever order it is reduced
--     journal_stands       the journal of a run of a translation from its start is accepted for the translation
use mathlib.Core.Path.{◌≡◌, sym, ap, ◌∙◌}
use mathlib.Core.List.{List}
use Prim.Native.Nat.{ℕ}
use lib.ListN.{length, drop}
use lib.Seq.{drop_at}
use Rattle.format.specs.Decode.{decode}
use Rattle.check_verdicts.specs.Verdicts.{verdict_number}
use Rattle.bits.specs.Bits.{bytes_of}
use Rattle.lent.specs.Lengths.{scratch_bytes}
use Rattle.lent.specs.States.{start_bytes}
use Rattle.journal_run.specs.RunCall.{Lent}
use Rattle.draft_language.specs.Chain.{InputsKnown, Journal}
use Rattle.draft_plain.specs.Plain.{plain_of}
use Rattle.encoding.specs.Encode.{score_bytes}
use Rattle.draft_format.specs.DraftFile.{decode_draft}
use Rattle.score_answer.specs.Answer.{number_in, value_in}
use Rattle.score.specs.CheckCall.{CheckCall}
use Rattle.score.specs.ScoreRun.{ScoreRun}
use Rattle.score.specs.ScoreJournalCheck.{ScoreJournalCheck}
use Rattle.score.specs.ScoreTranslate.{ScoreTranslate}
use Rattle.score.proofs.CheckCall.{read}
use Rattle.claims_demands.specs.Calls.{written}
use Rattle.claims_demands.specs.JournalExact.{start_history}
use Rattle.claims_demands.proofs.JournalExact.{runs_accepted}
use Rattle.claims_watches.specs.Translations.{plain_in, Translated}
use Rattle.claims_watches.proofs.Translations.{Ended, refused, over, wrote, ended, translated_wrote, plain_is}
use Rattle.claims_watches.proofs.TranslationExact.{translation_exact}

pub refusal_keeps : (draft before after : List ℕ) (answer : ℕ) → ScoreTranslate draft before after answer → (number_in answer ≡ 0 → ⊥) → after ≡ before
refusal_keeps draft before after answer c n = go (ended c)
  where
    go : Ended draft before after answer → after ≡ before
    go (refused not-zero not-sixteen fault kept) = kept
    go (over unfit number kept) = kept
    go (wrote w) = absurd (n w.number)

module _ (draft before after : List ℕ) (answer : ℕ) (t : Translated draft before after answer) where
  pub past_kept : drop (value_in answer) after ≡ drop (value_in answer) before
  past_kept =
      let w = translated_wrote t in
      let plain = score_bytes (plain_of (decode_draft draft)) in
      ap (drop (value_in answer)) w.plain ∙ drop_at plain (drop (length plain) before) (value_in answer) (sym w.value) ∙ ap (λ n. drop n before) (sym w.value)

  pub same_bytes : (before' after' : List ℕ) (answer' : ℕ) → Translated draft before' after' answer' → plain_in after answer ≡ plain_in after' answer'
  same_bytes before' after' answer' t' = plain_is t ∙ sym (plain_is t')

  pub check_accepts : (checked : ℕ) → CheckCall (plain_in after answer) checked → number_in checked ≡ 0
  check_accepts checked c = (read (plain_in after answer) checked c).0 ∙ ap verdict_number (translation_exact draft before after answer t).0

  pub one_journal : (instants : List (List ℕ)) (words words' : List ℕ) → InputsKnown (decode_draft draft).tokens instants →
      Journal (decode_draft draft) instants words → Journal (decode_draft draft) instants words' → words ≡ words'
  one_journal instants words words' known j j' = let shows = ((translation_exact draft before after answer t).1 instants known).0 in shows words j ∙ sym (shows words' j')

  pub journal_stands : (inputs scratch scratch' : List ℕ) (lent left : Lent) (ran checked : ℕ) → lent.state ≡ start_bytes (decode (plain_in after answer)) →
      ScoreRun (plain_in after answer) inputs lent left ran → length scratch ≡ scratch_bytes →
      ScoreJournalCheck (plain_in after answer) (bytes_of (start_history (plain_in after answer) inputs (written ran))) scratch scratch' checked →
      (number_in checked ≡ 0) × (value_in checked ≡ written ran)
  journal_stands inputs scratch scratch' lent left ran checked at c long d =
      (runs_accepted (plain_in after answer) inputs lent left ran (ap verdict_number (translation_exact draft before after answer t).0) at c).1 scratch scratch' checked long d
