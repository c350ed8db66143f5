-- Where no watch token is ever in the store, the acts play as if nobody watched them.
--     never_in             no watch token is in the store of a quiet end of the draft's chain either
--     plays_unwatched      so the plain score's history is that of the draft with every watch read as its body
--     never_stopped        and that is what a run writes: the theorem
use mathlib.Core.Path.{◌≡◌, ap, subst, ◌∙◌}
use mathlib.Core.Bool.{true}
use mathlib.Core.List.{List, [], ◌∷◌, ◌++◌}
use Prim.Native.Nat.{ℕ, ◌*◌}
use lib.ListN.{length, take, drop}
use Rattle.laws.proofs.Sets.{on_cons, same_refl}
use Rattle.tcc.specs.Score as plain
use Rattle.tcc.specs.Instant.{start_state}
use Rattle.format.specs.Decode.{decode}
use Rattle.check_verdicts.specs.Verdicts.{verdict_number}
use Rattle.bits.specs.Bits.{bytes_of}
use Rattle.journal_instants.specs.Instants.{input_lists}
use Rattle.journal_words.specs.History.{history}
use Rattle.draft_language.specs.Draft.{Draft, LawfulDraft}
use Rattle.draft_language.specs.Order.{End, aborted, left}
use Rattle.draft_language.specs.Chain.{InputsKnown, Chain, start_copies}
use Rattle.draft_language.specs.Unwatched.{NeverIn}
use Rattle.draft_language.proofs.Absent.{chain_without}
use Rattle.draft_language.proofs.Unwatched.{unwatched_shown}
use Rattle.draft_plain.specs.Plain.{plain_of, fits}
use Rattle.draft_plain.proofs.Carrying.{place_of, Standing, plain_carries, start_standing, plain_start}
use Rattle.draft_language.proofs.Carries.{OkEnd}
use Rattle.draft_plain.proofs.Asked.{Member}
use Rattle.draft_format.specs.DraftFile.{decode_draft}
use Rattle.claims_demands.specs.Calls.{written}
use Rattle.claims_demands.proofs.JournalExact.{runs_accepted}
use Rattle.claims_watches.specs.Translations.{plain_in, Translated}
use Rattle.claims_watches.specs.NeverStopped.{NeverWatched, unwatched_history, NeverStopped}
use Rattle.claims_watches.proofs.Translations.{translated_wrote, draft_lawful, plain_accepted, plain_decoded, taken_known}
use Rattle.claims_watches.proofs.TranslationExact.{translation_exact}

all_ok : (d : Draft) (e : End) → OkEnd d (plain_of d) (Member d) (λ s. Unit {0}) (Standing d) (place_of d) e
all_ok d aborted = tt
all_ok d (left l s) = tt

never_in : (d : Draft) → LawfulDraft d → fits (plain_of d) ≡ true → {instants : List (List ℕ)} {ends : List End} → InputsKnown d.tokens instants →
    Chain d (start_copies d) instants ends → NeverWatched d (plain_of d) instants → NeverIn d ends
never_in d law fit known chain never l s m t watches =
    chain_without (plain_carries d law fit) t chain (plain.root_of (plain_of d) 0 ∷ []) (λ e k. all_ok d e) known
    (on_cons {P = λ c. Standing d c.agent c.under} (start_standing d) (λ c k. elim k [ ])) (rw (plain_start d law fit) (same_refl _))
    (λ a k. never a k t watches) (left l s) m

module _ {draft before after : List ℕ} {answer : ℕ} (t : Translated draft before after answer) where
  plays_unwatched : (instants : List (List ℕ)) → InputsKnown (decode_draft draft).tokens instants → NeverWatched (decode_draft draft) (decode (plain_in after answer)) instants →
      history (decode (plain_in after answer)) (start_state (decode (plain_in after answer))) instants ≡ unwatched_history draft instants
  plays_unwatched instants known never =
      let d = decode_draft draft in
      let j = ((translation_exact draft before after answer t).1 instants known).1 in
      j.shows
      ∙ unwatched_shown d instants j.ends (draft_lawful t) known j.chain
      (never_in d (draft_lawful t) (translated_wrote t).fit known j.chain (subst (λ sc. NeverWatched d sc instants) (plain_decoded t) never))

pub never_stopped : NeverStopped
never_stopped draft before after answer t = (
  plays_unwatched t,
  λ inputs lent left ran at c known never.
      (runs_accepted (plain_in after answer) inputs lent left ran (ap verdict_number (plain_accepted t)) at c).0
      ∙ ap (λ w. bytes_of w ++ drop (4 * length w) lent.journal) (plays_unwatched t (take (written ran) (input_lists inputs)) (taken_known (decode_draft draft) (written ran) (input_lists inputs) known) never),
)
