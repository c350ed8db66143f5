-- Two finished, unaborted orders from one multiset have the same length and leave the same multiset awake. Under the
-- store that they end with, every agent has a worth: one unit for each reduction that it will come to, and the worth
-- of each body that it will leave awake. A step takes one unit, and what is left at the end is worth its awake bodies.
--     worth               the right-hand sides, given the worth of the agents, of a unit and of a body awake
--     worth_agrees        they look at nothing but what the agent needs
--     worth_within        the equations unfolded
--     step_worth          a step takes one unit
--     stuck_worth         what is left is worth its awake bodies
--     order_worth         what an order starts with is worth its steps and the bodies that it leaves awake
--     orders_agree        so two orders that end with the same store agree in any such worth
--     end_store           and they do: the store is the instant's
--     same_copies         the theorem
use mathlib.Core.Path.{◌≡◌, refl, sym, ap, ◌∙◌}
use mathlib.Core.Bool.{Bool, true, false, cond}
use mathlib.Core.List.Memᴰ
use mathlib.Core.List.{List, [], ◌∷◌, ◌++◌}
use Prim.Native.Nat.{ℕ, zero, suc, ◌+◌, ◌<◌}
use native.Mathlib.Omega.{arith}
use lib.ListN.{length}
use lib.Dec.{eqb}
use Rattle.laws.specs.Sets.{Same, has}
use Rattle.laws.proofs.Sets.{Within, Among, member_has, not_has, same_refl, same_sym, same_trans}
use Rattle.tcc.specs.Score.{Score, agent_at, root_of}
use Rattle.tcc.specs.Lawful.{Lawful}
use Rattle.tcc.specs.Store.{Closes}
use Rattle.tcc.specs.Order.{Item, agent, input, Step, skip, tell, input_tell, parallel, call, when, unless, left, Order, stop, step, Quiet, wakes, awake_next, start}
use Rattle.tcc.specs.Instant.{instant}
use Rattle.tcc.specs.WeightBound.{ItemsBelow}
use Rattle.tcc.specs.SameCopies.{copies_of, SameCopies}
use Rattle.tcc.specs.declared.Agent.{Agent}
use Rattle.tcc.specs.declared.Agent.TheVariants.{Skip, Abort, Tell, Parallel, When, Next, Unless, Call}
use Rattle.tcc.proofs.Order.{pick_member, order_ran, Stuck}
use Rattle.tcc.proofs.Multiset.{summed, summed_none, summed_one, pick_summed, step_below, start_below}
use Rattle.tcc.proofs.Confluence.{confluence}
use Rattle.tcc.proofs.Rank.{needs, deep, unfolded_solves}
use Rattle.tcc.proofs.Moves.{ItemStuck, quiet_items}

abbrev worth : Score → List ℕ → ℕ → (ℕ → ℕ) → (ℕ → ℕ) → Agent → ℕ
worth sc store unit kept v Skip = unit
worth sc store unit kept v Abort = unit
worth sc store unit kept v (Tell t) = unit
worth sc store unit kept v (Parallel a b) = unit + v a + v b
worth sc store unit kept v (When t b) = cond (has t store) (unit + v b) 0
worth sc store unit kept v (Next b) = kept b
worth sc store unit kept v (Unless t b) = cond (has t store) unit (kept b)
worth sc store unit kept v (Call p) = unit + v (root_of sc p)

worth_agrees : (sc : Score) (store : List ℕ) (unit : ℕ) (kept v w : ℕ → ℕ) (a : Agent) → Within (λ b. v b ≡ w b) (needs sc a) → worth sc store unit kept v a ≡ worth sc store unit kept w a
worth_agrees sc store unit kept v w Skip h = refl
worth_agrees sc store unit kept v w Abort h = refl
worth_agrees sc store unit kept v w (Tell t) h = refl
worth_agrees sc store unit kept v w (Parallel a b) h = omega (arith, h a (Memᴰ.head refl), h b (Memᴰ.tail (Memᴰ.head refl)))
worth_agrees sc store unit kept v w (When t b) h = ap (λ n. cond (has t store) (unit + n) 0) (h b (Memᴰ.head refl))
worth_agrees sc store unit kept v w (Next b) h = refl
worth_agrees sc store unit kept v w (Unless t b) h = refl
worth_agrees sc store unit kept v w (Call p) h = omega (arith, h (root_of sc p) (Memᴰ.head refl))

abbrev worth_within : Score → List ℕ → ℕ → (ℕ → ℕ) → ℕ → ℕ → ℕ
worth_within sc store unit kept zero i = 0
worth_within sc store unit kept (suc n) i = worth sc store unit kept (worth_within sc store unit kept n) (agent_at sc i)

abbrev item_worth : ℕ → (ℕ → ℕ) → Item → ℕ
item_worth unit v (agent i) = v i
item_worth unit v (input t) = unit

-- v solves the equations
module _ (sc : Score) (law : Lawful sc) (store : List ℕ) (unit : ℕ) (kept v : ℕ → ℕ) (solves : (i : ℕ) → i < length sc.agents → v i ≡ worth sc store unit kept v (agent_at sc i)) where
  worth_at : {i : ℕ} {a : Agent} → i < length sc.agents → agent_at sc i ≡ a → v i ≡ worth sc store unit kept v a
  worth_at {i} h e = solves i h ∙ ap (worth sc store unit kept v) e

  step_worth : {x : Item} {l k : List Item} {s s' : List ℕ} → Step sc x l s k s' → Among s store → ItemsBelow sc l → summed (item_worth unit v) l ≡ unit + summed (item_worth unit v) k
  step_worth (skip {i = i} p e) held below = omega (arith, pick_summed (item_worth unit v) p, worth_at (below i (pick_member p)) e)
  step_worth (tell {i = i} p e c) held below = omega (arith, pick_summed (item_worth unit v) p, worth_at (below i (pick_member p)) e)
  step_worth (input_tell p c) held below = omega (arith, pick_summed (item_worth unit v) p)
  step_worth (parallel {i = i} p e) held below = omega (arith, pick_summed (item_worth unit v) p, worth_at (below i (pick_member p)) e)
  step_worth (call {i = i} p e) held below = omega (arith, pick_summed (item_worth unit v) p, worth_at (below i (pick_member p)) e)
  step_worth (when {i = i} {t = t} p e m) held below = omega (arith, pick_summed (item_worth unit v) p, rw (member_has (held t m)) at (worth_at (below i (pick_member p)) e))
  step_worth (unless {i = i} {t = t} p e m) held below = omega (arith, pick_summed (item_worth unit v) p, rw (member_has (held t m)) at (worth_at (below i (pick_member p)) e))

  -- the store s that a multiset is stuck in holds no less
  agent_stuck_worth : {s : List ℕ} → Among store s → (a : Agent) → Stuck s a → (rest : List ℕ) → worth sc store unit kept v a + summed kept rest ≡ summed kept (wakes a ++ rest)
  agent_stuck_worth held Skip h rest = absurd h
  agent_stuck_worth held Abort h rest = absurd h
  agent_stuck_worth held (Tell t) h rest = absurd h
  agent_stuck_worth held (Parallel a b) h rest = absurd h
  agent_stuck_worth held (When t b) h rest = rw (not_has (λ m. h (held t m))) (omega arith)
  agent_stuck_worth held (Next b) h rest = refl
  agent_stuck_worth held (Unless t b) h rest = rw (not_has (λ m. h (held t m)))
  agent_stuck_worth held (Call p) h rest = absurd h

  stuck_worth : {s : List ℕ} → Among store s → (l : List Item) → Within (ItemStuck sc s) l → ItemsBelow sc l → summed (item_worth unit v) l ≡ summed kept (awake_next sc l)
  stuck_worth held [] all below = refl
  stuck_worth held (agent i ∷ l) all below = omega (arith, agent_stuck_worth held (agent_at sc i) (all (agent i) (Memᴰ.head refl)) (awake_next sc l), solves i (below i (Memᴰ.head refl)), stuck_worth held l (λ x m. all x (Memᴰ.tail m)) (λ j m. below j (Memᴰ.tail m)))
  stuck_worth held (input t ∷ l) all below = absurd (all (input t) (Memᴰ.head refl))

  order_worth : {l k steps : List Item} {s s' : List ℕ} → Order sc l s steps (left k s') → Same store s' → Quiet sc k s' → ItemsBelow sc l → summed (item_worth unit v) l ≡ summed (λ x. unit) steps + summed kept (awake_next sc k)
  order_worth {s = s} (stop {l = l}) same quiet below = omega (arith, stuck_worth (λ t. (same t).0) l (quiet_items sc s quiet) below)
  order_worth (step d o) same quiet below = omega (arith, step_worth d (λ t m. (same t).1 ((order_ran (step d o)).grown.grows t m)) below, order_worth o same quiet (step_below sc law d below))

module _ (sc : Score) (law : Lawful sc) {l k₁ k₂ steps₁ steps₂ : List Item} {s s₁ s₂ : List ℕ} (below : ItemsBelow sc l) (same : Same s₁ s₂) (o₁ : Order sc l s steps₁ (left k₁ s₁)) (q₁ : Quiet sc k₁ s₁) (o₂ : Order sc l s steps₂ (left k₂ s₂)) (q₂ : Quiet sc k₂ s₂) where
  orders_agree : (unit : ℕ) (kept : ℕ → ℕ) → summed (λ x. unit) steps₁ + summed kept (awake_next sc k₁) ≡ summed (λ x. unit) steps₂ + summed kept (awake_next sc k₂)
  orders_agree unit kept =
      let v : ℕ → ℕ = worth_within sc s₁ unit kept (deep sc) in
      let solves : (i : ℕ) → i < length sc.agents → v i ≡ worth sc s₁ unit kept v (agent_at sc i) = unfolded_solves sc law (worth sc s₁ unit kept) (worth_agrees sc s₁ unit kept) (worth_within sc s₁ unit kept) (λ n i. refl) in
      sym (order_worth sc law s₁ unit kept v solves o₁ (same_refl s₁) q₁ below) ∙ order_worth sc law s₁ unit kept v solves o₂ same q₂ below

kept_copies : (n : ℕ) (l : List ℕ) → summed (λ b. cond (eqb n b) 1 0) l ≡ copies_of n l
kept_copies n [] = refl
kept_copies n (b ∷ l) = go (eqb n b) (kept_copies n l)
  where
    go : (c : Bool) → summed (λ b. cond (eqb n b) 1 0) l ≡ copies_of n l → cond c 1 0 + summed (λ b. cond (eqb n b) 1 0) l ≡ cond c (suc (copies_of n l)) (copies_of n l)
    go true e = omega arith
    go false e = omega arith

-- the store that a finished, unaborted order ends with is the instant's
end_store : (sc : Score) (agents inputs : List ℕ) {s s' : List ℕ} {steps l : List Item} → Closes sc [] s → Order sc (start agents inputs) s steps (left l s') → Quiet sc l s' → Same s' (instant sc agents inputs).store
end_store sc agents inputs {s} {s'} {steps} {l} c o quiet = (confluence sc agents agents inputs s steps (left l s') (same_refl agents) c o quiet).store

pub same_copies : SameCopies
same_copies sc agents inputs s s₁ s₂ steps₁ l₁ steps₂ l₂ law below c o₁ q₁ o₂ q₂ =
    let same : Same s₁ s₂ = same_trans (end_store sc agents inputs c o₁ q₁) (same_sym (end_store sc agents inputs c o₂ q₂)) in
    let agree = orders_agree sc law (start_below sc agents inputs below) same o₁ q₁ o₂ q₂ in (
      omega (arith, agree 1 (λ b. 0), summed_one steps₁, summed_one steps₂, summed_none (awake_next sc l₁), summed_none (awake_next sc l₂)),
      λ i. omega (arith, agree 0 (λ b. cond (eqb i b) 1 0), summed_none steps₁, summed_none steps₂, kept_copies i (awake_next sc l₁), kept_copies i (awake_next sc l₂)),
    )
