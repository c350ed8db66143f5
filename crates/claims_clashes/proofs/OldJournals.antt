-- How the journal check answers what a run wrote before.
--     entries_before     the words of each instant
--     kept               where none clashes, they are those of today
--     entry_other        those of a clash are not: they have the lowest port
--     stopped            so the check stops at the first clash
--     old_journals       the theorem
use mathlib.Core.Path.{◌≡◌, refl, sym, ap, ap₂, subst, ◌∙◌}
use mathlib.Core.Bool.{Bool, true, false}
use mathlib.Core.List.Memᴰ
use mathlib.Core.List.{List, [], ◌∷◌, ◌++◌, flatten, Memᴰ}
use Prim.Native.Nat.{ℕ, suc, ◌+◌, ◌≤◌}
use native.Mathlib.Omega.{arith}
use borrow.Author.Tests.{ne_eqb}
use lib.ListN.{length}
use Rattle.laws.proofs.Booleans.{true_is_false}
use Rattle.laws.proofs.Sets.{Within, on_cons}
use Rattle.tcc.specs.Score.{Score}
use Rattle.tcc.specs.Lawful.{Lawful}
use Rattle.tcc.specs.Instant.{Answer, State, output, start_state, answer, after, answers}
use Rattle.tcc.proofs.Output.{output_clash, output_else, output_has}
use Rattle.tcc.proofs.Unaborted.{unaborted, all_stored}
use Rattle.tcc.proofs.Status.{answer_status}
use Rattle.words.specs.Word.{words}
use Rattle.format.specs.Decode.{sizes, decode}
use Rattle.format.proofs.Decode.{decode_tokens}
use Rattle.check_verdicts.specs.Verdicts.{verdict_number}
use Rattle.check_score.specs.Check as check
use Rattle.bits.specs.Bits.{bytes_of}
use Rattle.lent.specs.Lengths.{scratch_bytes, no_scratch}
use Rattle.lent.specs.States.{instant_number, start_bytes, next_bytes, last_number}
use Rattle.lent.proofs.Numbered.{number_round, next_number}
use Rattle.journal_form.specs.Form.{Good, form_of}
use Rattle.journal_instants.specs.Instants.{instants_in, inputs_in, tokens_of}
use Rattle.journal_words.specs.History.{instant_words, entry, history, RisingBelow}
use Rattle.journal_words.proofs.Rising.{output_rising}
use Rattle.journal_words.proofs.Forms.{WellFormed}
use Rattle.journal_words.proofs.Formed.{words_inputs, words_outputs, words_formed, formed_good, formed_instants}
use Rattle.refusals.specs.Refused.{Differs}
use Rattle.journal_step.specs.AnswerIn.{answer_in}
use Rattle.journal_step.specs.ByForm.{by_form}
use Rattle.journal_step.proofs.Stands.{Stands, instant_entry, instant_stands, instant_lawful}
use Rattle.journal_check.specs.Check.{same, check_from}
use Rattle.journal_check.specs.JournalCheckCall.{left, checked, exit}
use Rattle.journal_check.proofs.Exact.{same_itself, same_equal}
use Rattle.score_answer.specs.Answer.{number_of, value_of}
use Rattle.score_answer.specs.Replies.{of_run_reply}
use Rattle.score.proofs.ScoreJournalCheck.{read}
use Rattle.claims_demands.proofs.Accepted.{lawful, agents_counted}
use Rattle.claims_demands.proofs.JournalChecks.{start_stands, check_reply}
use Rattle.claims_demands.proofs.JournalExact.{exactly}
use Rattle.claims_clashes.specs.OldJournals.{output_before, history_before, Unclashed, OldJournals}

abbrev entry_before : Score → List ℕ → Answer → List ℕ
entry_before sc inputs a = instant_words a.status inputs (output_before sc a.store)

unfoldable entries_before : Score → State → List (List ℕ) → List (List ℕ)
entries_before sc st [] = []
entries_before sc st (inputs ∷ more) = entry_before sc inputs (answer sc st inputs) ∷ entries_before sc (after (answer sc st inputs)) more

joined : (sc : Score) (st : State) (lists : List (List ℕ)) → history_before sc st lists ≡ flatten (entries_before sc st lists)
unfolding history_before flatten entries_before
joined sc st [] = refl
joined sc st (inputs ∷ more) = ap (λ l. entry_before sc inputs (answer sc st inputs) ++ l) (joined sc (after (answer sc st inputs)) more)

entry_kept : (sc : Score) (inputs : List ℕ) (a : Answer) → (a.status ≡ 1 → ⊥) → entry_before sc inputs a ≡ entry sc inputs a
entry_kept sc inputs a n = ap (instant_words a.status inputs) (sym (output_else sc a.status a.store n))

kept : (sc : Score) (st : State) (lists : List (List ℕ)) → Unclashed (answers sc st lists) → history_before sc st lists ≡ history sc st lists
unfolding history_before history answers
kept sc st [] n = refl
kept sc st (inputs ∷ more) n =
    ap₂ ◌++◌ (entry_kept sc inputs (answer sc st inputs) (n (answer sc st inputs) (Memᴰ.head refl))) (kept sc (after (answer sc st inputs)) more (λ a m. n a (Memᴰ.tail m)))

module _ (sc : Score) (law : Lawful sc) where
  -- what went to the ports is what goes there at status 0
  rises : (store : List ℕ) → RisingBelow sc.tokens (output_before sc store)
  rises store = subst (RisingBelow sc.tokens) (output_else sc 0 store (λ e. omega (arith, e))) (output_rising sc 0 store law.ports_ordered law.ports_known)

  module _ (st : State) (inputs : List ℕ) (rising : RisingBelow sc.tokens inputs) where
    abbrev a : Answer
    a = answer sc st inputs

    entry_formed : WellFormed true sc.tokens (entry_before sc inputs a)
    entry_formed =
        let h = answer_status sc st inputs in
        words_formed sc.tokens law.tokens_at_most a.status inputs (output_before sc a.store) h rising (rises a.store) true h (λ e. absurd (true_is_false refl e))

    entry_inputs : inputs_in (entry_before sc inputs a) ≡ inputs
    entry_inputs = words_inputs sc.tokens law.tokens_at_most a.status inputs (output_before sc a.store) (answer_status sc st inputs) rising (rises a.store)

    lowest_sent : a.status ≡ 1 → Memᴰ sc.lowest_port (output_before sc a.store)
    lowest_sent e =
        let held = all_stored (unaborted sc st inputs (λ two. omega (arith, e, two))) e sc.lowest_port (omega (arith, law.ports_ordered, law.ports_known)) in
        subst (Memᴰ sc.lowest_port) (output_else sc 0 a.store (λ z. omega (arith, z)))
        (output_has sc 0 (record { no_clash = λ z. omega (arith, z); low = omega arith; high = law.ports_ordered; held = held }))

    entry_other : a.status ≡ 1 → entry_before sc inputs a ≡ entry sc inputs a → ⊥
    entry_other e equal =
        let h = answer_status sc st inputs in
        let before = words_outputs sc.tokens law.tokens_at_most a.status inputs (output_before sc a.store) h rising (rises a.store) in
        let now = words_outputs sc.tokens law.tokens_at_most a.status inputs (output sc a.status a.store) h rising (output_rising sc a.status a.store law.ports_ordered law.ports_known) in
        let none : output_before sc a.store ≡ [] = sym before ∙ ap (tokens_of 14) equal ∙ now ∙ ap (λ n. output sc n a.store) e ∙ output_clash sc a.store in
        Memᴰ.not-nil (subst (Memᴰ sc.lowest_port) none (lowest_sent e))

    same_other : a.status ≡ 1 → same (entry_before sc inputs a) (entry sc inputs a) ≡ false
    same_other e = go (same (entry_before sc inputs a) (entry sc inputs a)) refl
      where
        go : (b : Bool) → same (entry_before sc inputs a) (entry sc inputs a) ≡ b → same (entry_before sc inputs a) (entry sc inputs a) ≡ false
        go true h = absurd (entry_other e (same_equal _ _ h))
        go false h = h

  entries_formed : (st : State) (lists : List (List ℕ)) → Within (RisingBelow sc.tokens) lists → Within (WellFormed true sc.tokens) (entries_before sc st lists)
  unfolding entries_before
  entries_formed st [] h = λ x m. elim m [ ]
  entries_formed st (inputs ∷ more) h = on_cons (entry_formed st inputs (h inputs (Memᴰ.head refl))) (entries_formed (after (answer sc st inputs)) more (λ x m. h x (Memᴰ.tail m)))

module _ (score : List ℕ) (law : Lawful (decode score)) (counted : length (decode score).agents ≡ (sizes score).agents) where
  stopped : (lists : List (List ℕ)) → Within (RisingBelow (decode score).tokens) lists → (state : List ℕ) (st : State) → Stands score law counted state st → (read : ℕ) → instant_number state + length lists ≤ last_number →
      (earlier later : List Answer) (a : Answer) → answers (decode score) st lists ≡ earlier ++ a ∷ later → Unclashed earlier → a.status ≡ 1 →
      check_from score state read (entries_before (decode score) st lists) ≡ Differs (read + length earlier)
  unfolding check_from entries_before answers
  stopped [] rising state st stands read few [] later a e n one = absurd (let z : ◌≡◌ {A = ℕ} 0 1 = cc in omega arith)
  stopped [] rising state st stands read few (b ∷ earlier) later a e n one = absurd (let z : ◌≡◌ {A = ℕ} 0 1 = cc in omega arith)
  stopped (inputs ∷ more) rising state st stands read few [] later a e n one =
      let h = rising inputs (Memᴰ.head refl) in
      let here : answer (decode score) st inputs ≡ a = cc in
      rw (entry_inputs (decode score) law st inputs h, instant_lawful score law counted stands inputs h, ne_eqb (instant_number state) last_number (λ z. omega arith), instant_entry score law counted stands inputs, same_other (decode score) law st inputs h (ap (λ x. x.status) here ∙ one))
      (ap Differs (omega arith))
  stopped (inputs ∷ more) rising state st stands read few (b ∷ earlier) later a e n one =
      let h = rising inputs (Memᴰ.head refl) in
      let now = answer (decode score) st inputs in
      let here : now ≡ b = cc in
      let as-run : same (entry_before (decode score) inputs now) (entry (decode score) inputs now) ≡ true =
      ap (λ ws. same ws (entry (decode score) inputs now)) (entry_kept (decode score) inputs now (λ x. n b (Memᴰ.head refl) (sym (ap (λ y. y.status) here) ∙ x))) ∙ same_itself (entry (decode score) inputs now) in
      let rest = stopped more (λ l m. rising l (Memᴰ.tail m)) (next_bytes state (answer_in score state inputs)) (after now) (instant_stands score law counted stands inputs h) (suc read)
      (omega (arith, next_number state (answer_in score state inputs) (omega arith))) earlier later a (cc) (λ x m. n x (Memᴰ.tail m)) one in
      rw (entry_inputs (decode score) law st inputs h, instant_lawful score law counted stands inputs h, ne_eqb (instant_number state) last_number (λ z. omega arith), instant_entry score law counted stands inputs, as-run)
      (rest ∙ ap Differs (omega arith))

module _ (score before : List ℕ) (lists : List (List ℕ)) (accepted : verdict_number (check.verdict score) ≡ 0) (long : length before ≡ scratch_bytes)
    (rising : (l : List ℕ) → Memᴰ l lists → RisingBelow (decode score).tokens l) (few : length lists ≤ last_number) where
  abbrev sc : Score
  sc = decode score

  abbrev st : State
  st = start_state sc

  abbrev journal : List ℕ
  journal = bytes_of (history_before sc st lists)

  abbrev law : Lawful sc
  law = lawful score accepted

  formed : Within (WellFormed true sc.tokens) (entries_before sc st lists)
  formed = entries_formed sc law st lists rising

  good : form_of true (sizes score).tokens journal ≡ Good
  good = ap₂ (λ t ws. form_of true t (bytes_of ws)) (sym (decode_tokens score)) (joined sc st lists) ∙ formed_good true sc.tokens law.tokens_at_most (entries_before sc st lists) formed

  instants : instants_in (words journal) ≡ entries_before sc st lists
  instants = ap (λ ws. instants_in (words (bytes_of ws))) (joined sc st lists) ∙ formed_instants true sc.tokens law.tokens_at_most (entries_before sc st lists) formed

  turned_down : (earlier later : List Answer) (a : Answer) → answers sc st lists ≡ earlier ++ a ∷ later → Unclashed earlier → a.status ≡ 1 → (exit score journal before).reply ≡ Differs (length earlier)
  turned_down earlier later a e n one =
      check_reply score accepted journal before long
      ∙ ap (λ f. (by_form f (left before) (left no_scratch (checked score journal))).reply) good
      ∙ ap (check_from score (start_bytes sc) 0) instants
      ∙ stopped score law (agents_counted score accepted) lists rising (start_bytes sc) st (start_stands score accepted) 0 (omega (arith, number_round st 0 (omega arith))) earlier later a e n one
      ∙ ap Differs (omega arith)

pub old_journals : OldJournals
old_journals score before after answer lists accepted long rising few c =
    let start = start_state (decode score) in
    let old = bytes_of (history_before (decode score) start lists) in
    let found = read score old before after answer c in (
      λ n.
          let is = kept (decode score) start lists n in
          let x = (exactly score old before after answer (length lists) accepted long c).1 (record { inputs = lists; rising = rising; instants = refl; is = ap bytes_of is }) few in
          (is, x.0, x.1),
      λ earlier later a e n one.
          let x = turned_down score before lists accepted long rising few earlier later a e n one in
          (found.number ∙ ap (λ r. number_of (of_run_reply r)) x, found.value ∙ ap (λ r. value_of (of_run_reply r)) x),
    )
