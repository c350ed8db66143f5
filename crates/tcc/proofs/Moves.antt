-- Which copies can be reduced, decided.
--     ItemStuck                   no reduction applies to a copy, the store being what it is
--     Moves                       a multiset has a step, or an abort
--     copy_moves                  a multiset moves, or a copy in it is stuck
--     moves_or_stuck              a multiset moves, or all its copies are stuck
--     stuck_quiet, quiet_items    quiet if and only if all are stuck
use mathlib.Core.Path.{◌≡◌, refl, subst}
use mathlib.Core.Bool.{Bool, true, false}
use mathlib.Core.List.{List, [], ◌∷◌, Memᴰ}
use mathlib.Core.Logic.{◌⊎◌, inl, inr}
use Prim.Native.Nat.{ℕ}
use Rattle.laws.specs.Sets.{has}
use Rattle.laws.proofs.Booleans.{true_is_false}
use Rattle.laws.proofs.Sets.{Within, Among, on_cons, has_member, member_has}
use Rattle.tcc.specs.Score.{Score, agent_at}
use Rattle.tcc.specs.Order.{Item, agent, input, Pick, Step, skip, tell, input_tell, parallel, call, when, unless, Quiet}
use Rattle.tcc.specs.declared.Agent.{Agent}
use Rattle.tcc.specs.declared.Agent.TheVariants.{Skip, Abort, Tell, Parallel, When, Next, Unless, Call}
use Rattle.tcc.proofs.Store.{closure_exact}
use Rattle.tcc.proofs.Order.{pick_member, member_pick, step_picks, Stuck, quiet_stuck, quiet_inputs}

abbrev pub ItemStuck : Score → List ℕ → Item → Type 0
ItemStuck sc s (agent i) = Stuck s (agent_at sc i)
ItemStuck sc s (input t) = ⊥

pub data Moves (sc : Score) (l : List Item) (s : List ℕ) : Type 0 where
  steps : {x : Item} {k : List Item} {s' : List ℕ} → Step sc x l s k s' → Moves sc l s
  aborts : {i : ℕ} {k : List Item} → Pick (agent i) l k → agent_at sc i ≡ Abort → Moves sc l s

module _ (sc : Score) (s : List ℕ) (l : List Item) where
  -- a copy that a token sets free
  token_moves : (t : ℕ) → (Memᴰ t s → Moves sc l s) → Moves sc l s ⊎ (Memᴰ t s → ⊥)
  token_moves t f = go (has t s) refl
    where
      go : (b : Bool) → has t s ≡ b → Moves sc l s ⊎ (Memᴰ t s → ⊥)
      go true e = inl (f (has_member t s e))
      go false e = inr (λ m. true_is_false (member_has m) e)

  agent_moves : (i : ℕ) (a : Agent) → agent_at sc i ≡ a → {k : List Item} → Pick (agent i) l k → Moves sc l s ⊎ Stuck s a
  agent_moves i Skip e p = inl (steps (skip p e))
  agent_moves i Abort e p = inl (aborts p e)
  agent_moves i (Tell t) e p = inl (steps (tell p e (closure_exact sc (t ∷ s))))
  agent_moves i (Parallel a b) e p = inl (steps (parallel p e))
  agent_moves i (When t b) e p = token_moves t (λ m. steps (when p e m))
  agent_moves i (Next b) e p = inr tt
  agent_moves i (Unless t b) e p = token_moves t (λ m. steps (unless p e m))
  agent_moves i (Call q) e p = inl (steps (call p e))

  copy_moves : (x : Item) → Memᴰ x l → Moves sc l s ⊎ ItemStuck sc s x
  copy_moves (agent i) m = agent_moves i (agent_at sc i) refl (member_pick m).1
  copy_moves (input t) m = inl (steps (input_tell (member_pick m).1 (closure_exact sc (t ∷ s))))

  moves_or_stuck_in : (part : List Item) → Among part l → Moves sc l s ⊎ Within (ItemStuck sc s) part
  moves_or_stuck_in [] h = inr (λ x m. elim m [ ])
  moves_or_stuck_in (y ∷ part) h = go (copy_moves y (h y (Memᴰ.head refl))) (moves_or_stuck_in part (λ x m. h x (Memᴰ.tail m)))
    where
      go : Moves sc l s ⊎ ItemStuck sc s y → Moves sc l s ⊎ Within (ItemStuck sc s) part → Moves sc l s ⊎ Within (ItemStuck sc s) (y ∷ part)
      go (inl move) rest = inl move
      go (inr n) (inl move) = inl move
      go (inr n) (inr all) = inr (on_cons n all)

  pub moves_or_stuck : Moves sc l s ⊎ Within (ItemStuck sc s) l
  moves_or_stuck = moves_or_stuck_in l (λ x m. m)

module _ (sc : Score) (s : List ℕ) where
  stuck_step : {x : Item} {l k : List Item} {s' : List ℕ} → Step sc x l s k s' → ItemStuck sc s x → ⊥
  stuck_step (skip p e) h = subst (Stuck s) e h
  stuck_step (tell p e c) h = subst (Stuck s) e h
  stuck_step (input_tell p c) h = h
  stuck_step (parallel p e) h = subst (Stuck s) e h
  stuck_step (call p e) h = subst (Stuck s) e h
  stuck_step (when p e m) h = subst (Stuck s) e h m
  stuck_step (unless p e m) h = subst (Stuck s) e h m

  pub stuck_quiet : {l : List Item} → Within (ItemStuck sc s) l → Quiet sc l s
  stuck_quiet all = record {
    no_step = λ x k s' d. stuck_step d (all x (step_picks d));
    no_abort = λ i k p e. subst (Stuck s) e (all (agent i) (pick_member p));
  }

  pub quiet_items : {l : List Item} → Quiet sc l s → Within (ItemStuck sc s) l
  quiet_items {l} quiet (agent i) m = quiet_stuck sc l s quiet i (agent_at sc i) m refl
  quiet_items {l} quiet (input t) m = quiet_inputs sc l s quiet t m
