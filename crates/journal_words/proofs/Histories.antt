-- The journal of a history.
--     entry_same         the same answers have the same words
--     entry_formed, entry_inputs     the words of an instant are well formed and give its inputs back
--     entries            the words of each instant of a history
--     history_joined     one after the other they are the history
--     history_good       its bytes have a good form
--     history_words      its words are the words of its bytes
--     history_instants   the instants in them are its entries
--     history_inputs     and their inputs its own
use mathlib.Core.Path.{◌≡◌, refl, ap, ap₂, subst⁻¹, ◌∙◌}
use mathlib.Core.Bool.{true}
use mathlib.Core.List.{List, [], ◌∷◌, ◌++◌, map, flatten, Memᴰ}
use Prim.Native.Nat.{ℕ}
use Rattle.laws.proofs.Booleans.{true_is_false}
use Rattle.laws.proofs.Sets.{Within, on_cons}
use Rattle.tcc.specs.Score.{Score}
use Rattle.tcc.specs.Lawful.{Lawful}
use Rattle.tcc.specs.Instant.{Answer, State, output, answer, after}
use Rattle.tcc.proofs.SameAnswer.{SameAnswer}
use Rattle.tcc.proofs.Output.{output_same}
use Rattle.tcc.proofs.Status.{answer_status}
use Rattle.words.specs.Word.{words}
use Rattle.bits.specs.Bits.{bytes_of}
use Rattle.journal_form.specs.Form.{Good, form_of}
use Rattle.journal_instants.specs.Instants.{instants_in, inputs_in, input_lists}
use Rattle.journal_words.specs.History.{instant_words, entry, history, RisingBelow}
use Rattle.journal_words.proofs.Rising.{output_rising}
use Rattle.journal_words.proofs.Forms.{WellFormed}
use Rattle.journal_words.proofs.Formed.{words_inputs, words_formed, formed_words, formed_good, formed_instants}

pub entry_same : (sc : Score) (inputs : List ℕ) {a b : Answer} → SameAnswer a b → entry sc inputs a ≡ entry sc inputs b
entry_same sc inputs {a} {b} same = ap₂ (λ s o. instant_words s inputs o) same.status (ap (λ s. output sc s a.store) same.status ∙ output_same sc b.status same.store)

unfoldable pub entries : Score → State → List (List ℕ) → List (List ℕ)
entries sc st [] = []
entries sc st (inputs ∷ more) = entry sc inputs (answer sc st inputs) ∷ entries sc (after (answer sc st inputs)) more

pub history_joined : (sc : Score) (st : State) (inputs : List (List ℕ)) → history sc st inputs ≡ flatten (entries sc st inputs)
unfolding history flatten entries
history_joined sc st [] = refl
history_joined sc st (inputs ∷ more) = ap (λ l. entry sc inputs (answer sc st inputs) ++ l) (history_joined sc (after (answer sc st inputs)) more)

module _ (sc : Score) (law : Lawful sc) where
  module _ (st : State) (inputs : List ℕ) (rising : RisingBelow sc.tokens inputs) where
    outputs : (a : Answer) → RisingBelow sc.tokens (output sc a.status a.store)
    outputs a = output_rising sc a.status a.store law.ports_ordered law.ports_known

    pub entry_formed : WellFormed true sc.tokens (entry sc inputs (answer sc st inputs))
    entry_formed =
        let a = answer sc st inputs in
        let h = answer_status sc st inputs in
        words_formed sc.tokens law.tokens_at_most a.status inputs (output sc a.status a.store) h rising (outputs a) true h (λ e. absurd (true_is_false refl e))

    pub entry_inputs : inputs_in (entry sc inputs (answer sc st inputs)) ≡ inputs
    entry_inputs =
        let a = answer sc st inputs in
        words_inputs sc.tokens law.tokens_at_most a.status inputs (output sc a.status a.store) (answer_status sc st inputs) rising (outputs a)

  entries_formed : (st : State) (inputs : List (List ℕ)) → Within (RisingBelow sc.tokens) inputs → Within (WellFormed true sc.tokens) (entries sc st inputs)
  unfolding entries
  entries_formed st [] h = λ x m. elim m [ ]
  entries_formed st (inputs ∷ more) h = on_cons (entry_formed st inputs (h inputs (Memᴰ.head refl))) (entries_formed (after (answer sc st inputs)) more (λ x m. h x (Memᴰ.tail m)))

  entries_inputs : (st : State) (inputs : List (List ℕ)) → Within (RisingBelow sc.tokens) inputs → map inputs_in (entries sc st inputs) ≡ inputs
  unfolding entries
  entries_inputs st [] h = refl
  entries_inputs st (inputs ∷ more) h = ap₂ ◌∷◌ (entry_inputs st inputs (h inputs (Memᴰ.head refl))) (entries_inputs (after (answer sc st inputs)) more (λ x m. h x (Memᴰ.tail m)))

  module _ (st : State) (inputs : List (List ℕ)) (rising : (l : List ℕ) → Memᴰ l inputs → RisingBelow sc.tokens l) where
    pub history_good : form_of true sc.tokens (bytes_of (history sc st inputs)) ≡ Good
    history_good = subst⁻¹ (λ ws. form_of true sc.tokens (bytes_of ws) ≡ Good) (history_joined sc st inputs) (formed_good true sc.tokens law.tokens_at_most (entries sc st inputs) (entries_formed st inputs rising))

    pub history_words : words (bytes_of (history sc st inputs)) ≡ history sc st inputs
    history_words = subst⁻¹ (λ ws. words (bytes_of ws) ≡ ws) (history_joined sc st inputs) (formed_words true sc.tokens law.tokens_at_most (entries sc st inputs) (entries_formed st inputs rising))

    pub history_instants : instants_in (words (bytes_of (history sc st inputs))) ≡ entries sc st inputs
    history_instants = subst⁻¹ (λ ws. instants_in (words (bytes_of ws)) ≡ entries sc st inputs) (history_joined sc st inputs) (formed_instants true sc.tokens law.tokens_at_most (entries sc st inputs) (entries_formed st inputs rising))

    pub history_inputs : input_lists (bytes_of (history sc st inputs)) ≡ inputs
    unfolding input_lists
    history_inputs = ap (map inputs_in) history_instants ∙ entries_inputs st inputs rising
