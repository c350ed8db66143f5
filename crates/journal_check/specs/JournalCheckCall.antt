-- What a journal check does with what it is lent: numbers 1 to 8, 12, 13, then instant by instant 11 and 14, from the
-- start state.
--     Exit                 what the scratch holds afterwards, and the reply
--     left                 an exit
--     checked              the instants, from the start state
--     exit                 the whole call
--     JournalCheckCall     its contract
use Rattle.std.specs.Prelude.{◌≡◌, true, cond, not, List, ℕ, eqb, length}
use Rattle.words.specs.Word.{words}
use Rattle.format.specs.Decode.{sizes, decode}
use Rattle.check_verdicts.specs.Verdicts.{by_verdict}
use Rattle.check_score.specs.Check.{verdict}
use Rattle.lent.specs.Lengths.{scratch_bytes, no_scratch}
use Rattle.lent.specs.States.{start_bytes}
use Rattle.journal_form.specs.Form.{form_of}
use Rattle.journal_instants.specs.Instants.{instants_in}
use Rattle.journal_step.specs.Reply.{Reply}
use Rattle.refusals.specs.Refused.{Turned, Lengths}
use Rattle.journal_step.specs.ByForm.{by_form}
use Rattle.journal_check.specs.Check.{check_from}

pub record Exit : Type 0 where
  pub scratch : List ℕ
  pub reply : Reply

abbrev pub left : List ℕ → Reply → Exit
left scratch r = record { scratch = scratch; reply = r }

abbrev pub checked : List ℕ → List ℕ → Reply
checked score journal = check_from score (start_bytes (decode score)) 0 (instants_in (words journal))

unfoldable pub exit : List ℕ → List ℕ → List ℕ → Exit
exit score journal scratch =
    by_verdict (verdict score) (λ f. left scratch (Turned f))
    (cond (not (eqb (length scratch) scratch_bytes)) (left scratch Lengths)
    (by_form (form_of true (sizes score).tokens journal) (left scratch)
    (left no_scratch (checked score journal))))

-- the call's contract: over the score, the journal, the scratch before and after, and the reply
pub record JournalCheckCall (score journal before after : List ℕ) (reply : Reply) : Type 0 where
  pub exits : ◌≡◌ {A = Exit} (record { scratch = after; reply = reply }) (exit score journal before)
