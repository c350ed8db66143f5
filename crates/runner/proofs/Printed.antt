-- The words before the first zero of a buffer that was clear are those that the run wrote.
use mathlib.Core.Path.{◌≡◌, refl, ap, ap₂, ◌∙◌}
use mathlib.Core.List.Memᴰ
use mathlib.Core.List.{List, [], ◌∷◌, ◌++◌}
use Prim.Native.Nat.{ℕ, zero, suc, ◌*◌, ◌/◌, ◌%◌, ◌^◌}
use native.Mathlib.Omega.{arith}
use borrow.Author.Tests.{ne_eqb}
use lib.ListN.{length, take, drop, replicate}
use Rattle.laws.proofs.Sets.{Within, on_cons, on_append, on_map}
use Rattle.tcc.specs.Score.{Score}
use Rattle.tcc.specs.Instant.{State, output, answer, after, start_state}
use Rattle.words.specs.Word.{joined, words}
use Rattle.format.specs.Decode.{decode}
use Rattle.bits.specs.Bits.{bytes_of}
use Rattle.journal_instants.specs.Instants.{input_lists}
use Rattle.journal_words.specs.History.{input_word, output_word, instant_words, history}
use Rattle.journal_words.proofs.Histories.{history_words}
use Rattle.claims_demands.specs.Calls.{written}
use Rattle.claims_demands.specs.JournalExact.{start_history}
use Rattle.claims_demands.proofs.Accepted.{lawful}
use Rattle.claims_demands.proofs.Runs.{Ended, refused, ran, run_ended, taken_rises}
use Rattle.claims_demands.proofs.JournalRuns.{run_writes}
use Rattle.runner_text.specs.Shown.{shown}
use Rattle.runner_run.specs.Played.{from_start}
use Rattle.runner.specs.Printed.{Printed}

-- zeros

abbrev zeros : ℕ → List ℕ
zeros n = replicate n 0

drop_zeros : (k n : ℕ) → (m : ℕ) × (drop k (zeros n) ≡ zeros m)
drop_zeros zero n = (n, refl)
drop_zeros (suc k) zero = (zero, refl)
drop_zeros (suc k) (suc n) = drop_zeros k n

zeros_shown : (n : ℕ) → shown (words (zeros n)) ≡ []
unfolding words
zeros_shown zero = refl
zeros_shown (suc zero) = refl
zeros_shown (suc (suc zero)) = refl
zeros_shown (suc (suc (suc zero))) = refl
zeros_shown (suc (suc (suc (suc n)))) = refl

-- words that are not zero, and zeros after them

words_append : (ws l : List ℕ) → words (bytes_of ws ++ l) ≡ words (bytes_of ws) ++ words l
unfolding words bytes_of
words_append [] l = refl
words_append (w ∷ ws) l = ap (λ x. joined (w % 2 ^ 8) (w / 2 ^ 8 % 2 ^ 8) (w / 2 ^ 16 % 2 ^ 8) (w / 2 ^ 24 % 2 ^ 8) ∷ x) (words_append ws l)

abbrev NotZero : ℕ → Type 0
NotZero w = w ≡ 0 → ⊥

all_shown : (ws l : List ℕ) → Within NotZero ws → shown l ≡ [] → shown (ws ++ l) ≡ ws
all_shown [] l h z = z
all_shown (w ∷ ws) l h z = rw (ne_eqb w 0 (h w (Memᴰ.head refl)), all_shown ws l (λ x m. h x (Memᴰ.tail m)) z)

-- no word of a journal is zero

entry_not_zero : (status : ℕ) (inputs outputs : List ℕ) → Within NotZero (instant_words status inputs outputs)
unfolding instant_words
entry_not_zero status inputs outputs =
    on_cons {P = NotZero} (λ e. omega arith)
    (on_append _ (on_map NotZero input_word inputs (λ t m e. omega arith)) (on_map NotZero output_word outputs (λ t m e. omega arith)))

history_not_zero : (sc : Score) (st : State) (lists : List (List ℕ)) → Within NotZero (history sc st lists)
unfolding history
history_not_zero sc st [] = λ x m. elim m [ ]
history_not_zero sc st (inputs ∷ more) =
    let a = answer sc st inputs in
    on_append _ (entry_not_zero a.status inputs (output sc a.status a.store)) (history_not_zero sc (after a) more)

pub printed : Printed
unfolding history
printed score inputs left room number p = go (run_ended p.ran)
  where
    go : Ended score inputs (from_start score (replicate room 0)) p.left p.answer → shown (words left) ≡ start_history score inputs (written p.answer)
    go (refused n e) = rw (n, p.journal_is, e) (zeros_shown room)
    go (ran f n e) =
        let h = start_history score inputs (written p.answer) in
        let rest = drop_zeros (4 * length h) room in
        let lists = take (written p.answer) (input_lists inputs) in
        ap (λ l. shown (words l)) (p.journal_is ∙ run_writes score inputs (from_start score (zeros room)) p.left p.answer p.ran f.accepted refl)
        ∙ ap shown
        (words_append h (drop (4 * length h) (zeros room))
        ∙ ap₂ ◌++◌ (history_words (decode score) (lawful score f.accepted) (start_state (decode score)) lists (taken_rises p.ran)) (ap words rest.1))
        ∙ all_shown h (words (zeros rest.0)) (history_not_zero (decode score) (start_state (decode score)) lists) (zeros_shown rest.0)
