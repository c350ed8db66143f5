-- One instant, with a standing fact and without.
--     Told               where an answer is not aborted, its store has the token
--     awake_rules, settled_rules, output_rules     who is left awake, what settles an answer and the output rest on no rule
--     closed_rules       closed marks are closed under any other rules that they follow
--     closed_fewer       so marks closed with the fact are closed without it
--     closed_more        and marks closed without it that hold the token are closed with it
--     sound_more         what is reached without the fact is reached with it
--     settled_more       so an instant without a live abort, whose store has the token, has the same answer with the fact
--     instant_told       and one with a live abort; state_told, in any state
--     answer_told, output_kept, start_kept, tokens_kept     so of scores that are the same but for the fact
use mathlib.Core.Path.{◌≡◌, refl, sym, ap, subst, subst₂, ◌∙◌}
use mathlib.Core.List.{List, [], ◌∷◌, ◌++◌, Memᴰ}
use Prim.Native.Nat.{ℕ}
use Rattle.laws.specs.Sets.{Same}
use Rattle.laws.proofs.Sets.{on_cons, on_append, same_refl}
use Rattle.tcc.specs.Closure.{Rule}
use Rattle.tcc.specs.Score.{Score, agent_at}
use Rattle.tcc.specs.Instant.{live, held, leaves, left_awake, Answer, aborted_answer, instant, output, State, running, aborted, start_state, answer}
use Rattle.tcc.specs.FixedPoint.{Closed, Sound, Marked, Settled}
use Rattle.tcc.specs.declared.Agent.TheVariants.{Abort}
use Rattle.tcc.proofs.Closure.{Follows}
use Rattle.tcc.proofs.FixedPoint.{Reached, reached_least, reach, settles, aborts}
use Rattle.tcc.proofs.Output.{output_agrees}
use Rattle.tcc.proofs.SameAnswer.{SameAnswer, answer_refl, both_settled, lives, store, marks_closed, marks_sound, abort_cases, own_aborting, own_settling}
use Rattle.claims_facts.proofs.Word.{fact}
use Rattle.claims_facts.proofs.OneMore.{with_rules, OneMore}

abbrev pub Told : ℕ → Answer → Type 0
Told t a = (a.status ≡ 2 → ⊥) → Memᴰ t a.store

module _ (sc : Score) (rules : List (Rule ℕ)) where
  awake_rules : (store lives : List ℕ) → left_awake (with_rules sc rules) store lives ≡ left_awake sc store lives
  awake_rules store [] = refl
  awake_rules store (i ∷ lives) = ap (λ l. leaves store (agent_at sc i) ++ l) (awake_rules store lives)

  settled_rules : {lives store : List ℕ} {a : Answer} → Settled (with_rules sc rules) lives store a → Settled sc lives store a
  settled_rules {lives} {store} {a} s = record {
    unaborted = s.unaborted;
    clash = s.clash;
    no_clash = s.no_clash;
    same_store = s.same_store;
    same_reduced = s.same_reduced;
    same_awake = subst (λ l. Same l a.awake) (awake_rules store lives) s.same_awake;
  }

  closed_rules : (others : List (Rule ℕ)) {agents inputs : List ℕ} {Live Held : ℕ → Type 0} → Closed (with_rules sc rules) agents inputs Live Held → Follows Held others → Closed (with_rules sc others) agents inputs Live Held
  closed_rules others c follows = record {
    begins = c.begins;
    told = c.told;
    tells = c.tells;
    splits = c.splits;
    calls = c.calls;
    awaits = c.awaits;
    rules = follows;
    clash = c.clash;
  }

  output_rules : (status : ℕ) (store : List ℕ) → output (with_rules sc rules) status store ≡ output sc status store
  output_rules status store = output_agrees (with_rules sc rules) sc refl refl status store store (λ t m. refl)

module _ (sc : Score) (before rest : List (Rule ℕ)) (t : ℕ) where
  abbrev without : Score
  without = with_rules sc (before ++ rest)

  abbrev with_fact : Score
  with_fact = with_rules sc (before ++ fact t ∷ rest)

  module _ (agents inputs : List ℕ) where
    closed_fewer : {Live Held : ℕ → Type 0} → Closed with_fact agents inputs Live Held → Closed without agents inputs Live Held
    closed_fewer c = closed_rules sc (before ++ fact t ∷ rest) (before ++ rest) c
        (on_append before (λ r m. c.rules r (mathlib.Core.List.Memᴰ.append_left (fact t ∷ rest) m)) (λ r m. c.rules r (mathlib.Core.List.Memᴰ.append_right before (mathlib.Core.List.Memᴰ.tail m))))

    closed_more : {Live Held : ℕ → Type 0} → Held t → Closed without agents inputs Live Held → Closed with_fact agents inputs Live Held
    closed_more h c = closed_rules sc (before ++ rest) (before ++ fact t ∷ rest) c
        (on_append before (λ r m. c.rules r (mathlib.Core.List.Memᴰ.append_left rest m)) (on_cons (λ premises. h) (λ r m. c.rules r (mathlib.Core.List.Memᴰ.append_right before m))))

    abbrev reached_lives : List ℕ
    reached_lives = lives without agents inputs

    abbrev reached_store : List ℕ
    reached_store = store without agents inputs

    sound_more : Sound with_fact agents inputs (Marked reached_lives) (Marked reached_store)
    sound_more =
        let sound = marks_sound without agents inputs (same_refl agents) (same_refl inputs) in
        let least = reached_least without agents inputs (λ i. Reached with_fact agents inputs (live i)) (λ u. Reached with_fact agents inputs (held u)) (closed_fewer (reach with_fact agents inputs)) in
        record { lives = λ i m. least (live i) (sound.lives i m); holds = λ u m. least (held u) (sound.holds u m) }

    settled_more : Told t (instant without agents inputs) → ((i : ℕ) → Memᴰ i reached_lives → agent_at sc i ≡ Abort → ⊥) → SameAnswer (instant without agents inputs) (instant with_fact agents inputs)
    settled_more told none =
        let a = own_settling without agents inputs none in
        let h : Memᴰ t reached_store = (a.same_store t).1 (told a.unaborted) in
        let b = settles with_fact agents inputs reached_lives reached_store sound_more (closed_more h (marks_closed without agents inputs)) none in
        both_settled sc reached_lives reached_store (instant without agents inputs) (instant with_fact agents inputs) (settled_rules sc (before ++ rest) a) (settled_rules sc (before ++ fact t ∷ rest) b)

    instant_told : Told t (instant without agents inputs) → SameAnswer (instant without agents inputs) (instant with_fact agents inputs)
    instant_told told = abort_cases without agents inputs
        (λ i m a. rw (own_aborting without agents inputs i m a, aborts with_fact agents inputs reached_lives reached_store sound_more i m a) (answer_refl aborted_answer))
        (settled_more told)

  state_told : (st : State) (inputs : List ℕ) → Told t (answer without st inputs) → SameAnswer (answer without st inputs) (answer with_fact st inputs)
  unfolding answer
  state_told (running agents) inputs told = instant_told agents inputs told
  state_told aborted inputs told = answer_refl aborted_answer

module _ {t : ℕ} {sc sc' : Score} (x : OneMore t sc sc') where
  pub answer_told : (st : State) (inputs : List ℕ) → Told t (answer sc st inputs) → SameAnswer (answer sc st inputs) (answer sc' st inputs)
  answer_told st inputs =
      subst₂ (λ a b. Told t (answer a st inputs) → SameAnswer (answer a st inputs) (answer b st inputs)) (sym x.without) (sym x.with_fact) (state_told sc x.before x.rest t st inputs)

  pub output_kept : (status : ℕ) (store : List ℕ) → output sc status store ≡ output sc' status store
  output_kept status store = sym (ap (λ s. output s status store) x.with_fact ∙ output_rules sc (x.before ++ fact t ∷ x.rest) status store)

  pub start_kept : start_state sc ≡ start_state sc'
  start_kept = ap start_state (sym x.with_fact)

  pub tokens_kept : sc.tokens ≡ sc'.tokens
  tokens_kept = ap (λ s. s.tokens) (sym x.with_fact)
