-- The steps of a draft's orders: what a step picks and leaves, and which copies can be reduced.
--     pick_member, pick_left, member_pick     the copy picked and the copies left are the multiset
--     pick_summed                  a picked copy's number is part of the sum
--     step_picks                   a step reduces a copy of the multiset
--     DraftStuck, ItemStuck        no reduction applies to an agent as written, to a copy, the store being what it is
--     Moves                        a multiset has a step, or an abort
--     token_moves, written_moves, copy_moves     a multiset moves, or a copy in it is stuck
--     moves_or_stuck_in, moves_or_stuck          a multiset moves, or all its copies are stuck
--     stuck_step, stuck_quiet, quiet_items       quiet if and only if all are stuck
use mathlib.Core.Path.{◌≡◌, refl, subst}
use mathlib.Core.Bool.{Bool, true, false}
use mathlib.Core.List.{List, [], ◌∷◌, Memᴰ}
use mathlib.Core.Logic.{◌⊎◌, inl, inr}
use Prim.Native.Nat.{ℕ, ◌+◌}
use native.Mathlib.Omega.{arith}
use Rattle.laws.specs.Sets.{has}
use Rattle.laws.proofs.Booleans.{true_is_false}
use Rattle.laws.proofs.Sets.{Within, Among, on_cons, has_member, member_has}
use Rattle.tcc.specs.declared.Agent.TheVariants.{Skip, Abort, Tell, Parallel, When, Next, Unless, Call}
use Rattle.tcc.proofs.Multiset.{summed}
use Rattle.tcc.proofs.Order.{Stuck}
use Rattle.tcc.proofs.Store.{closure_exact}
use Rattle.draft_language.specs.Draft.{Draft, draft_agent_at, whens}
use Rattle.draft_language.specs.Order.{Item, copy, input, Pick, here, there, Step, skip, tell, input_tell, parallel, call, when, unless, watch, Quiet}
use Rattle.draft_language.specs.declared.DraftAgent.{DraftAgent}
use Rattle.draft_language.specs.declared.DraftAgent.TheVariants.{Plain, Watch}

pub pick_member : {x : Item} {l k : List Item} → Pick x l k → Memᴰ x l
pick_member here = Memᴰ.head refl
pick_member (there p) = Memᴰ.tail (pick_member p)

pub pick_left : {x : Item} {l k : List Item} → Pick x l k → Among k l
pick_left here y m = Memᴰ.tail m
pick_left (there {y = z} {l = l} p) y m = on_cons {P = λ w. Memᴰ w (z ∷ l)} (Memᴰ.head refl) (λ w m'. Memᴰ.tail (pick_left p w m')) y m

pub member_pick : {x : Item} {l : List Item} → Memᴰ x l → (k : List Item) × Pick x l k
member_pick {x} (Memᴰ.head {x = y} {xs = l} e) = (l, subst (λ z. Pick x (z ∷ l) l) e here)
member_pick {x} (Memᴰ.tail {x = y} {xs = l} m) = let p = member_pick m in (y ∷ p.0, there p.1)

pub pick_summed : (f : Item → ℕ) {x : Item} {l k : List Item} → Pick x l k → summed f l ≡ f x + summed f k
pick_summed f here = refl
pick_summed f (there p) = omega (arith, pick_summed f p)

pub step_picks : {d : Draft} {x : Item} {l k : List Item} {s s' : List ℕ} → Step d x l s k s' → Memᴰ x l
step_picks (skip p e) = pick_member p
step_picks (tell p e c) = pick_member p
step_picks (input_tell p c) = pick_member p
step_picks (parallel p e) = pick_member p
step_picks (call p e) = pick_member p
step_picks (when p e m) = pick_member p
step_picks (unless p e m) = pick_member p
step_picks (watch p e) = pick_member p

abbrev pub DraftStuck : List ℕ → DraftAgent → Type 0
DraftStuck s (Plain a) = Stuck s a
DraftStuck s (Watch t b) = ⊥

abbrev pub ItemStuck : Draft → List ℕ → Item → Type 0
ItemStuck d s (copy i set) = DraftStuck s (draft_agent_at d i)
ItemStuck d s (input t) = ⊥

pub data Moves (d : Draft) (l : List Item) (s : List ℕ) : Type 0 where
  steps : {x : Item} {k : List Item} {s' : List ℕ} → Step d x l s k s' → Moves d l s
  aborts : {i : ℕ} {set : List ℕ} {k : List Item} → Pick (copy i set) l k → draft_agent_at d i ≡ Plain Abort → Moves d l s

module _ (d : Draft) (s : List ℕ) (l : List Item) where
  -- a copy that a token sets free
  token_moves : (t : ℕ) → (Memᴰ t s → Moves d l s) → Moves d l s ⊎ (Memᴰ t s → ⊥)
  token_moves t f = go (has t s) refl
    where
      go : (b : Bool) → has t s ≡ b → Moves d l s ⊎ (Memᴰ t s → ⊥)
      go true e = inl (f (has_member t s e))
      go false e = inr (λ m. true_is_false (member_has m) e)

  written_moves : (i : ℕ) (set : List ℕ) (x : DraftAgent) → draft_agent_at d i ≡ x → {k : List Item} → Pick (copy i set) l k → Moves d l s ⊎ DraftStuck s x
  written_moves i set (Plain Skip) e p = inl (steps (skip p e))
  written_moves i set (Plain Abort) e p = inl (aborts p e)
  written_moves i set (Plain (Tell t)) e p = inl (steps (tell p e (closure_exact (whens d) _)))
  written_moves i set (Plain (Parallel a b)) e p = inl (steps (parallel p e))
  written_moves i set (Plain (When t b)) e p = token_moves t (λ m. steps (when p e m))
  written_moves i set (Plain (Next b)) e p = inr tt
  written_moves i set (Plain (Unless t b)) e p = token_moves t (λ m. steps (unless p e m))
  written_moves i set (Plain (Call q)) e p = inl (steps (call p e))
  written_moves i set (Watch t b) e p = inl (steps (watch p e))

  copy_moves : (x : Item) → Memᴰ x l → Moves d l s ⊎ ItemStuck d s x
  copy_moves (copy i set) m = written_moves i set (draft_agent_at d i) refl (member_pick m).1
  copy_moves (input t) m = inl (steps (input_tell (member_pick m).1 (closure_exact (whens d) _)))

  moves_or_stuck_in : (part : List Item) → Among part l → Moves d l s ⊎ Within (ItemStuck d s) part
  moves_or_stuck_in [] h = inr (λ x m. elim m [ ])
  moves_or_stuck_in (y ∷ part) h = go (copy_moves y (h y (Memᴰ.head refl))) (moves_or_stuck_in part (λ x m. h x (Memᴰ.tail m)))
    where
      go : Moves d l s ⊎ ItemStuck d s y → Moves d l s ⊎ Within (ItemStuck d s) part → Moves d l s ⊎ Within (ItemStuck d s) (y ∷ part)
      go (inl move) rest = inl move
      go (inr n) (inl move) = inl move
      go (inr n) (inr all) = inr (on_cons n all)

  pub moves_or_stuck : Moves d l s ⊎ Within (ItemStuck d s) l
  moves_or_stuck = moves_or_stuck_in l (λ x m. m)

module _ (d : Draft) (s : List ℕ) where
  stuck_step : {x : Item} {l k : List Item} {s' : List ℕ} → Step d x l s k s' → ItemStuck d s x → ⊥
  stuck_step (skip p e) h = subst (DraftStuck s) e h
  stuck_step (tell p e c) h = subst (DraftStuck s) e h
  stuck_step (input_tell p c) h = h
  stuck_step (parallel p e) h = subst (DraftStuck s) e h
  stuck_step (call p e) h = subst (DraftStuck s) e h
  stuck_step (when p e m) h = subst (DraftStuck s) e h m
  stuck_step (unless p e m) h = subst (DraftStuck s) e h m
  stuck_step (watch p e) h = subst (DraftStuck s) e h

  pub stuck_quiet : {l : List Item} → Within (ItemStuck d s) l → Quiet d l s
  stuck_quiet all = record {
    no_step = λ x k s' st. stuck_step st (all x (step_picks st));
    no_abort = λ i set k p e. subst (DraftStuck s) e (all _ (pick_member p));
  }

  pub quiet_items : {l : List Item} → Quiet d l s → Within (ItemStuck d s) l
  quiet_items {l} quiet = go (moves_or_stuck d s l)
    where
      go : Moves d l s ⊎ Within (ItemStuck d s) l → Within (ItemStuck d s) l
      go (inl (steps st)) = absurd (quiet.no_step _ _ _ st)
      go (inl (aborts p e)) = absurd (quiet.no_abort _ _ _ p e)
      go (inr all) = all
