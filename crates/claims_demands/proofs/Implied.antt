-- What follows from the statement of demand 3 alone. Each takes `Determinacy` as a hypothesis, and nothing that proves it.
--     two_copies           the second instant, after a start with two copies of each agent
--     refused_between      an answered instant call, a refused one, and an answered one
--     stopped_run          a run stopped by 15, then an answered instant call
--     broken_off           an order that breaks off at a later instant is no longer than its weight
--     told_last            an order that tells an input token last ends as any other, with that token in the store
--     any_agents           the first state may have any set of agents
--     unreached_next       a `next` awake there, which no procedure need reach, leaves its body awake
use mathlib.Core.Path.{◌≡◌, refl, sym, ap, subst, ◌∙◌}
use mathlib.Core.List.Memᴰ
use mathlib.Core.List.{List, [], ◌∷◌, ◌++◌, map, Memᴰ}
use mathlib.Core.Logic.{⊎_elim}
use Prim.Native.Nat.{ℕ, ◌<◌, ◌≤◌}
use native.Mathlib.Omega.{arith}
use lib.ListN.{length, take}
use Rattle.laws.specs.Sets.{Same}
use Rattle.laws.proofs.Sets.{map_member, same_refl, same_sym, same_trans}
use Rattle.tcc.specs.Score.{Score, agent_at}
use Rattle.tcc.specs.Store.{Closes}
use Rattle.tcc.specs.Order.{Item, agent, input, left, Order, Quiet, wakes, awake_next, start}
use Rattle.tcc.specs.Weight.{IsWeight, total}
use Rattle.tcc.specs.Instant.{running}
use Rattle.tcc.specs.Chain.{Chain, none, then}
use Rattle.tcc.specs.declared.Agent.TheVariants.{Next}
use Rattle.tcc.proofs.Order.{Done, order_ran}
use Rattle.format.specs.Decode.{decode}
use Rattle.lent.specs.States.{agents_in, numbered, LawfulState}
use Rattle.lent.proofs.Numbered.{numbered_round}
use Rattle.lent.proofs.SameState.{state_running}
use Rattle.lent_maps.specs.Maps.{tokens_in}
use Rattle.instant_call.specs.InstantCall.{Lent}
use Rattle.journal_instants.specs.Instants.{input_lists}
use Rattle.journal_run.specs.RunCall.{Lent as RunLent}
use Rattle.score_answer.specs.Answer.{number_in, value_in}
use Rattle.score.specs.ScoreInstant.{ScoreInstant}
use Rattle.score.specs.ScoreRun.{ScoreRun}
use Rattle.claims_demands.specs.Calls.{Call, instant, run, InTurn, Answered, answered_by, written, Plays, Answers, one, refused, those}
use Rattle.claims_demands.specs.Calls as calls
use Rattle.claims_demands.specs.Determinacy.{Running, QuietLike, AtInstant, Determinacy}

twice_same : (l : List ℕ) → Same (l ++ l) l
twice_same l x = (λ m. ⊎_elim (λ (k : Memᴰ x l). k) (λ (k : Memᴰ x l). k) (Memᴰ.append_cases l m), λ m. Memᴰ.append_left l m)

plays_inputs : {score s last : List ℕ} {lists : List (List ℕ)} {played : List Answered} → Plays score s lists played last → map (λ p. p.inputs) played ≡ lists
plays_inputs calls.Plays.none = refl
plays_inputs (calls.Plays.then {inputs = inputs} at c n x) = ap (λ l. inputs ∷ l) (plays_inputs x)

module _ (sc : Score) (i b : ℕ) (is : agent_at sc i ≡ Next b) where
  next_wakes : (l : List Item) → Memᴰ (agent i) l → Memᴰ b (awake_next sc l)
  next_wakes [] m = elim m [ ]
  next_wakes (agent j ∷ l) m = ⊎_elim
      (λ (e : agent i ≡ agent j). let same : i ≡ j = cc in Memᴰ.append_left _ (subst (λ a. Memᴰ b (wakes a)) (sym is ∙ ap (agent_at sc) same) (Memᴰ.head refl)))
      (λ (k : Memᴰ (agent i) l). Memᴰ.append_right (wakes (agent_at sc j)) (next_wakes l k)) (Memᴰ.cases_cons m)
  next_wakes (input t ∷ l) m = ⊎_elim (λ (e : agent i ≡ input t). absurd (let z : ◌≡◌ {A = ℕ} 0 1 = cc in omega arith)) (λ (k : Memᴰ (agent i) l). next_wakes l k) (Memᴰ.cases_cons m)

  next_stays : (agents inputs : List ℕ) {s s' : List ℕ} {steps l : List Item} → Memᴰ i agents → Order sc (start agents inputs) s steps (left l s') → Memᴰ (agent i) l
  next_stays agents inputs {s' = s'} {steps = steps} {l = l} m o =
      let ran = order_ran o in
      ⊎_elim (λ (k : Memᴰ (agent i) steps). let z : ⊥ = subst (Done sc (steps ++ l) s') is (ran.did (agent i) k) in absurd z) (λ (k : Memᴰ (agent i) l). k)
      (Memᴰ.append_cases steps (ran.sees (agent i) (Memᴰ.append_left _ (map_member agent m))))

all_below : (agents : List ℕ) → ((i : ℕ) → Memᴰ i agents → i < 1024) → LawfulState 1024 (running agents)
unfolding LawfulState
all_below agents h = h

module _ (d : Determinacy) (score : List ℕ) (w : ℕ → ℕ) (is : IsWeight (decode score) w) where
  module _ {first last : List ℕ} {made : List Call} (runs : Running first) (turn : InTurn score first made last) where
    -- "The first order starts with one or more copies of each agent"; "each later one with the multiset that a finished
    -- order of the instant before left awake"
    pub two_copies : (p q : Answered) (more : List Answered) → Answers score made (p ∷ q ∷ more) →
        {s s' : List ℕ} {steps l : List Item} → Closes (decode score) [] s → Order (decode score) (start (agents_in first ++ agents_in first) p.inputs) s steps (left l s') → Quiet (decode score) l s' →
        AtInstant (decode score) w (awake_next (decode score) l) q
    two_copies p q more answers c o quiet = (d score w first last made (p ∷ q ∷ more) runs is turn answers).orders (p ∷ []) more q refl (agents_in first ++ agents_in first) _ (twice_same (agents_in first)) (then c o quiet none)

    -- "An order may break off anywhere"; "Its weight is summed over all copies and input tokens that it starts with"
    pub broken_off : (q p : Answered) (earlier later : List Answered) → Answers score made (q ∷ earlier ++ p ∷ later) →
        {awake : List ℕ} → Chain (decode score) (agents_in first) (map (λ r. r.inputs) (q ∷ earlier)) awake →
        {s s' : List ℕ} {steps l : List Item} → Closes (decode score) [] s → Order (decode score) (start awake p.inputs) s steps (left l s') →
        length steps ≤ total w awake p.inputs
    broken_off q p earlier later answers chain c o = ((d score w first last made (q ∷ earlier ++ p ∷ later) runs is turn answers).orders (q ∷ earlier) later p refl (agents_in first) _ (same_refl (agents_in first)) chain).bounded _ _ _ c o

    -- "Each step picks any one copy": an input's tell may wait until all else is reduced
    pub told_last : (p : Answered) (more : List Answered) → Answers score made (p ∷ more) →
        {t : ℕ} {s s' : List ℕ} (steps : List Item) {l : List Item} → Closes (decode score) [] s → Order (decode score) (start (agents_in first) p.inputs) s (steps ++ (input t ∷ [])) (left l s') → Quiet (decode score) l s' →
        QuietLike (decode score) l s' p × Memᴰ t (tokens_in p.store)
    told_last p more answers {t} {s} {s'} steps {l} c o quiet =
        let like : QuietLike (decode score) l s' p = ((d score w first last made (p ∷ more) runs is turn answers).orders [] more p refl (agents_in first) _ (same_refl (agents_in first)) none).ends s _ (left l s') c o quiet in
        (like, (like.store t).0 ((order_ran o).did (input t) (Memᴰ.append_right steps (Memᴰ.head refl))))

    -- "Any set of the score's agents is a lawful state": a `next` that no procedure reaches is no less awake
    pub unreached_next : (p : Answered) (more : List Answered) → Answers score made (p ∷ more) →
        (i b : ℕ) → Memᴰ i (agents_in first) → agent_at (decode score) i ≡ Next b →
        {s s' : List ℕ} {steps l : List Item} → Closes (decode score) [] s → Order (decode score) (start (agents_in first) p.inputs) s steps (left l s') → Quiet (decode score) l s' →
        Memᴰ b (agents_in p.after)
    unreached_next p more answers i b m e {s} {s'} {steps} {l} c o quiet =
        let like : QuietLike (decode score) l s' p = ((d score w first last made (p ∷ more) runs is turn answers).orders [] more p refl (agents_in first) _ (same_refl (agents_in first)) none).ends s steps (left l s') c o quiet in
        (like.awake b).0 (next_wakes (decode score) i b e l (next_stays (decode score) i b e (agents_in first) p.inputs m o))

  -- so an order may start with copies of any set of agents
  pub any_agents : (n : ℕ) (agents last : List ℕ) (made : List Call) → ((i : ℕ) → Memᴰ i agents → i < 1024) → InTurn score (numbered (running agents) n) made last →
      (p : Answered) (more : List Answered) → Answers score made (p ∷ more) → (copies : List ℕ) → Same copies agents → AtInstant (decode score) w copies p
  any_agents n agents last made within turn p more answers copies same =
      let first = numbered (running agents) n in
      let back = state_running first agents (numbered_round (running agents) n (all_below agents within)) in
      (d score w first last made (p ∷ more) back.0 is turn answers).orders [] more p refl copies copies (same_trans same (same_sym back.1)) none

  -- "each later one with the multiset that a finished order of the instant before left awake, whatever refused calls lie between"
  pub refused_between : (input₁ input₂ input₃ : List ℕ) (before₁ after₁ before₂ after₂ before₃ after₃ : Lent) (a₁ a₂ a₃ : ℕ) →
      ScoreInstant score input₁ before₁ after₁ a₁ → ScoreInstant score input₂ before₂ after₂ a₂ → ScoreInstant score input₃ before₃ after₃ a₃ →
      number_in a₁ ≡ 0 → (number_in a₂ ≡ 0 → ⊥) → number_in a₃ ≡ 0 → before₂.state ≡ after₁.state → before₃.state ≡ after₂.state → Running before₁.state →
      {s s' : List ℕ} {steps l : List Item} → Closes (decode score) [] s → Order (decode score) (start (agents_in before₁.state) (tokens_in input₁)) s steps (left l s') → Quiet (decode score) l s' →
      AtInstant (decode score) w (awake_next (decode score) l) (answered_by (tokens_in input₃) before₃ after₃ a₃)
  refused_between input₁ input₂ input₃ before₁ after₁ before₂ after₂ before₃ after₃ a₁ a₂ a₃ c₁ c₂ c₃ n₁ n₂ n₃ e₂ e₃ runs c o quiet =
      let p = answered_by (tokens_in input₁) before₁ after₁ a₁ in
      let q = answered_by (tokens_in input₃) before₃ after₃ a₃ in
      let made = instant input₁ before₁ after₁ a₁ ∷ instant input₂ before₂ after₂ a₂ ∷ instant input₃ before₃ after₃ a₃ ∷ [] in
      let turn : InTurn score before₁.state made after₃.state = calls.InTurn.then c₁ refl (calls.InTurn.then c₂ e₂ (calls.InTurn.then c₃ e₃ calls.InTurn.none)) in
      let answers : Answers score made (p ∷ q ∷ []) = one n₁ (refused n₂ (one n₃ calls.Answers.none)) in
      (d score w before₁.state after₃.state made (p ∷ q ∷ []) runs is turn answers).orders (p ∷ []) [] q refl (agents_in before₁.state) _ (same_refl (agents_in before₁.state)) (then c o quiet none)

  -- "for a run those that it wrote, also where it was then stopped": it leaves the state after them, and the orders of the
  -- instant call start with what theirs left awake
  pub stopped_run : (inputs given last : List ℕ) (before after : RunLent) (before' after' : Lent) (a a' : ℕ) (played : List Answered) →
      ScoreRun score inputs before after a → number_in a ≡ 15 → ScoreInstant score given before' after' a' → number_in a' ≡ 0 → before'.state ≡ after.state → Running before.state →
      Plays score before.state (take (value_in a) (input_lists inputs)) played last →
      (before'.state ≡ last) × ((awake : List ℕ) → Chain (decode score) (agents_in before.state) (take (value_in a) (input_lists inputs)) awake → AtInstant (decode score) w awake (answered_by (tokens_in given) before' after' a'))
  stopped_run inputs given last before after before' after' a a' played c full c' n' e runs plays =
      let q = answered_by (tokens_in given) before' after' a' in
      let made = run inputs before after a ∷ instant given before' after' a' ∷ [] in
      let wrote : written a ≡ value_in a = rw full in
      let plays' : Plays score before.state (take (written a) (input_lists inputs)) played last = rw wrote plays in
      let claim = d score w before.state after'.state made (played ++ q ∷ []) runs is (calls.InTurn.then c refl (calls.InTurn.then c' e calls.InTurn.none)) (those plays' (one n' calls.Answers.none)) in (
        e ∙ (claim.runs inputs before after a (Memᴰ.head refl) played last plays').state,
        λ awake chain. claim.orders played [] q refl (agents_in before.state) awake (same_refl (agents_in before.state)) (rw (plays_inputs plays) chain),
      )
