-- Histories of a score, and of the one with a fact more.
--     entry_told         the same answers have the same words
--     history_told       so has a history in which every unaborted answer's store has the token
--     is_history         and its journal is the other score's too
use mathlib.Core.Path.{◌≡◌, refl, ap, ap₂, subst, ◌∙◌}
use mathlib.Core.List.Memᴰ
use mathlib.Core.List.{List, [], ◌∷◌, ◌++◌}
use Prim.Native.Nat.{ℕ}
use Rattle.laws.proofs.Sets.{Within, same_refl}
use Rattle.tcc.specs.Score.{Score}
use Rattle.tcc.specs.Lawful.{Lawful}
use Rattle.tcc.specs.Instant.{Answer, State, start_state, answer, after, answers}
use Rattle.tcc.proofs.SameAnswer.{SameAnswer, answer_trans}
use Rattle.bits.specs.Bits.{bytes_of}
use Rattle.lent.specs.States.{SameState}
use Rattle.lent.proofs.SameState.{state_refl, answer_same, after_same}
use Rattle.journal_instants.specs.Instants.{input_lists}
use Rattle.journal_words.specs.History.{instant_words, entry, history, RisingBelow, IsHistory}
use Rattle.journal_words.proofs.Histories.{entry_same, history_inputs}
use Rattle.claims_facts.proofs.OneMore.{OneMore}
use Rattle.claims_facts.proofs.Told.{Told, answer_told, output_kept, start_kept, tokens_kept}

module _ {t : ℕ} {sc sc' : Score} (x : OneMore t sc sc') where
  entry_told : (inputs : List ℕ) {a b : Answer} → SameAnswer a b → entry sc inputs a ≡ entry sc' inputs b
  entry_told inputs {b = b} same = entry_same sc inputs same ∙ ap (instant_words b.status inputs) (output_kept x b.status b.store)

  history_told : (l : List (List ℕ)) (st st' : State) → SameState st st' → Within (Told t) (answers sc st l) → history sc st l ≡ history sc' st' l
  unfolding history answers
  history_told [] st st' h told = refl
  history_told (inputs ∷ more) st st' h told =
      let a = answer sc st inputs in
      let b = answer sc' st' inputs in
      let same : SameAnswer a b = answer_trans (answer_told x st inputs (told a (Memᴰ.head refl))) (answer_same sc' st st' h (same_refl inputs)) in
      ap₂ ◌++◌ (entry_told inputs same) (history_told more (after a) (after b) (after_same a b same) (λ c m. told c (Memᴰ.tail m)))

  pub is_history : Lawful sc → {journal : List ℕ} {n : ℕ} → IsHistory sc (start_state sc) journal n → Within (Told t) (answers sc (start_state sc) (input_lists journal)) → IsHistory sc' (start_state sc') journal n
  is_history law h told =
      let start = start_state sc in
      let own = ap input_lists h.is ∙ history_inputs sc law start h.inputs h.rising in
      let starts = subst (SameState start) (start_kept x) (state_refl start) in
      record {
        inputs = h.inputs;
        rising = λ l m. subst (λ n. RisingBelow n l) (tokens_kept x) (h.rising l m);
        instants = h.instants;
        is = h.is ∙ ap bytes_of (history_told h.inputs start (start_state sc') starts (subst (λ l. Within (Told t) (answers sc start l)) own told));
      }
