-- A translation plays as its draft.
--     shows                the draft's chains show the plain score's history, and there is one
--     runs                 so a run of the plain score writes the draft's journal
--     checks               and the draft's journals are accepted for the plain score
--     translation_exact    the theorem
use mathlib.Core.Path.{refl, sym, ap, ◌∙◌}
use mathlib.Core.List.{List, ◌++◌}
use Prim.Native.Nat.{ℕ, ◌*◌, ◌≤◌}
use native.Mathlib.Omega.{arith}
use lib.ListN.{length, take, drop}
use Rattle.format.specs.Decode.{decode}
use Rattle.check_verdicts.specs.Verdicts.{verdict_number}
use Rattle.bits.specs.Bits.{bytes_of}
use Rattle.journal_instants.specs.Instants.{input_lists}
use Rattle.journal_words.proofs.Rising.{rising_within}
use Rattle.draft_plain.proofs.Carrying.{plain_carries}
use Rattle.draft_plain.proofs.Exact.{exact}
use Rattle.draft_format.specs.DraftFile.{decode_draft}
use Rattle.claims_demands.specs.Calls.{written}
use Rattle.claims_demands.proofs.JournalExact.{exactly, runs_accepted}
use Rattle.claims_watches.specs.Translations.{plain_in, Translated}
use Rattle.claims_watches.specs.TranslationExact.{ShowsTheDraft, RunsAsTheDraft, ChecksAsTheDraft, TranslationExact}
use Rattle.claims_watches.proofs.Translations.{translated_wrote, draft_lawful, plain_accepted, plain_decoded, taken_known}

module _ {draft before after : List ℕ} {answer : ℕ} (t : Translated draft before after answer) where
  shows : ShowsTheDraft draft (plain_in after answer)
  shows instants known = rw (plain_decoded t) (exact (decode_draft draft) instants (draft_lawful t) (translated_wrote t).fit known)

  runs : RunsAsTheDraft draft (plain_in after answer)
  runs inputs lent left ran at c known words j =
      (runs_accepted (plain_in after answer) inputs lent left ran (ap verdict_number (plain_accepted t)) at c).0
      ∙ ap (λ w. bytes_of w ++ drop (4 * length w) lent.journal) (sym ((shows (take (written ran) (input_lists inputs)) (taken_known (decode_draft draft) (written ran) (input_lists inputs) known)).0 words j))

  tokens_more : (decode_draft draft).tokens ≤ (decode (plain_in after answer)).tokens
  tokens_more = rw (plain_decoded t) (plain_carries (decode_draft draft) (draft_lawful t) (translated_wrote t).fit).tokens_more

  checks : ChecksAsTheDraft draft (plain_in after answer)
  checks instants words scratch left checked known rising few j long c =
      (exactly (plain_in after answer) (bytes_of words) scratch left checked (length instants) (ap verdict_number (plain_accepted t)) long c).1
      (record {
        inputs = instants;
        rising = λ l m. rising_within (rising l m) (λ u k. omega (arith, known l m u k, tokens_more));
        instants = refl;
        is = ap bytes_of ((shows instants known).0 words j);
      })
      few

pub translation_exact : TranslationExact
translation_exact draft before after answer t = (plain_accepted t, shows t, runs t, checks t)
