-- Journal checks from a state, held against the history that the definition gives.
--     same_itself, same_equal     words are the same as themselves and as no others
--     check_entries      a journal check accepts the words of each instant of a history that ends at the last number or before
--     check_exact        and nothing else
use mathlib.Core.Path.{◌≡◌, refl, ap, ap₂, ◌∙◌}
use mathlib.Core.Bool.{Bool, true, false, cond, not, ◌&&◌}
use mathlib.Core.List.Memᴰ
use mathlib.Core.List.{List, [], ◌∷◌, map}
use Prim.Native.Nat.{ℕ, suc, ◌+◌, ◌≤◌}
use native.Mathlib.Omega.{arith}
use borrow.Author.Tests.{eqb-true, eqb-false, eq-eqb, ne_eqb, not-true}
use lib.Dec.{eqb}
use lib.ListN.{length}
use Rattle.laws.proofs.Booleans.{true_is_false, and_both, both_and}
use Rattle.laws.proofs.Sets.{Within}
use Rattle.tcc.specs.Lawful.{Lawful}
use Rattle.tcc.specs.Instant.{Answer, State, answer, after}
use Rattle.format.specs.Decode.{sizes, decode}
use Rattle.lent.specs.States.{instant_number, next_bytes, last_number, at_last}
use Rattle.lent.proofs.Numbered.{next_number}
use Rattle.journal_instants.specs.Instants.{inputs_in}
use Rattle.journal_words.specs.History.{entry, RisingBelow}
use Rattle.journal_words.proofs.Histories.{entry_inputs, entries}
use Rattle.journal_step.specs.Reply.{Reply}
use Rattle.refusals.specs.Refused.{Differs}
use Rattle.journal_step.specs.Reply.{Accepted}
use Rattle.journal_step.specs.AnswerIn.{answer_in}
use Rattle.journal_step.proofs.Stands.{Stands, instant_entry, instant_stands, instant_lawful}
use Rattle.journal_check.specs.Check.{same, check_from}

pub same_itself : (ws : List ℕ) → same ws ws ≡ true
same_itself [] = refl
same_itself (w ∷ ws) = both_and (eq-eqb w w refl) (same_itself ws)

pub same_equal : (vs ws : List ℕ) → same vs ws ≡ true → vs ≡ ws
same_equal [] [] e = refl
same_equal [] (w ∷ ws) e = absurd (true_is_false e refl)
same_equal (v ∷ vs) [] e = absurd (true_is_false e refl)
same_equal (v ∷ vs) (w ∷ ws) e = let b = and_both (eqb v w) (same vs ws) e in ap₂ ◌∷◌ (eqb-true v w b.0) (same_equal vs ws b.1)

module _ (score : List ℕ) (law : Lawful (decode score)) (counted : length (decode score).agents ≡ (sizes score).agents) where
  pub check_entries : (lists : List (List ℕ)) → Within (RisingBelow (decode score).tokens) lists → (state : List ℕ) (st : State) → Stands score law counted state st → (read : ℕ) →
      instant_number state + length lists ≤ last_number → check_from score state read (entries (decode score) st lists) ≡ Accepted (read + length lists)
  unfolding check_from entries
  check_entries [] rising state st stands read room = ap Accepted (omega arith)
  check_entries (inputs ∷ more) rising state st stands read room =
      let h = rising inputs (Memᴰ.head refl) in
      let b = answer (decode score) st inputs in
      let a = answer_in score state inputs in
      let rest = check_entries more (λ l m. rising l (Memᴰ.tail m)) (next_bytes state a) (after b) (instant_stands score law counted stands inputs h) (suc read) (omega (arith, next_number state a (omega arith))) in
      rw (entry_inputs (decode score) law st inputs h, instant_lawful score law counted stands inputs h, ne_eqb (instant_number state) last_number (λ e. omega arith), instant_entry score law counted stands inputs, same_itself (entry (decode score) inputs b))
      (rest ∙ ap Accepted (omega arith))

  pub check_exact : (instants : List (List ℕ)) → Within (λ ws. RisingBelow (decode score).tokens (inputs_in ws)) instants → (state : List ℕ) (st : State) → Stands score law counted state st → (read n : ℕ) →
      instant_number state ≤ last_number → check_from score state read instants ≡ Accepted n →
      (instants ≡ entries (decode score) st (map inputs_in instants)) × (read + length instants ≡ n) × (instant_number state + length instants ≤ last_number)
  unfolding check_from entries
  check_exact [] rising state st stands read n few = λ e. (refl, let z : read ≡ n = cc in omega arith, omega arith)
  check_exact (ws ∷ more) rising state st stands read n few =
      let h = rising ws (Memᴰ.head refl) in
      rw (instant_lawful score law counted stands (inputs_in ws) h)
      (go (not (at_last state) && same ws (entry (decode score) (inputs_in ws) a)) refl
      (check_exact more (λ l m. rising l (Memᴰ.tail m)) (next_bytes state a) (after (answer (decode score) st (inputs_in ws))) (instant_stands score law counted stands (inputs_in ws) h) (suc read) n))
    where
      a : Answer
      a = answer_in score state (inputs_in ws)

      later : Reply
      later = check_from score (next_bytes state a) (suc read) more

      go : (b : Bool) → (not (at_last state) && same ws (entry (decode score) (inputs_in ws) a)) ≡ b →
          (instant_number (next_bytes state a) ≤ last_number → later ≡ Accepted n →
          (more ≡ entries (decode score) (after (answer (decode score) st (inputs_in ws))) (map inputs_in more)) × (suc read + length more ≡ n) × (instant_number (next_bytes state a) + length more ≤ last_number)) →
          cond b later (Differs read) ≡ Accepted n →
          (ws ∷ more ≡ entries (decode score) st (inputs_in ws ∷ map inputs_in more)) × (read + suc (length more) ≡ n) × (instant_number state + suc (length more) ≤ last_number)
      go true e rest g =
          let b = and_both (not (at_last state)) (same ws (entry (decode score) (inputs_in ws) a)) e in
          let below : instant_number state ≡ last_number → ⊥ = eqb-false (instant_number state) last_number (not-true (at_last state) b.0) in
          let next = next_number state a (omega arith) in
          let r = rest (omega arith) g in
          (ap₂ ◌∷◌ (same_equal ws _ b.1 ∙ instant_entry score law counted stands (inputs_in ws)) r.0, omega (arith, r.1), omega (arith, r.2))
      go false e rest g = absurd (let z : ◌≡◌ {A = ℕ} 0 1 = cc in omega arith)
