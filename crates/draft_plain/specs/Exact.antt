-- The plain score plays as the draft is defined to: "every finished chain of draft orders shows exactly the history of the
-- plain score, and there is one, up to and past an abort".
--     Exact            the claim, over the definitions
use Rattle.std.specs.Prelude.{◌≡◌, true, List, ℕ}
use Rattle.tcc.specs.Instant.{start_state}
use Rattle.journal_words.specs.History.{history}
use Rattle.draft_language.specs.Draft.{Draft, LawfulDraft}
use Rattle.draft_language.specs.Chain.{InputsKnown, Journal}
use Rattle.draft_plain.specs.Plain.{plain_of, fits}

abbrev pub plain_history : Draft → List (List ℕ) → List ℕ
plain_history d instants = history (plain_of d) (start_state (plain_of d)) instants

abbrev pub Exact : Type 0
Exact =
    (d : Draft) (instants : List (List ℕ)) → LawfulDraft d → fits (plain_of d) ≡ true → InputsKnown d.tokens instants →
    ((words : List ℕ) → Journal d instants words → words ≡ plain_history d instants) × Journal d instants (plain_history d instants)
