-- What the orders of an instant touch and bring about.
--     pick_member, pick_left, pick_covers, member_pick     the copy picked and the copies left are the multiset
--     step_picks                    a step reduces a copy of the multiset
--     Grown, step_grown             the store only grows, and stays closed
--     Done, ItemDone                what is so once a copy is reduced, of the copies seen and the store at the end
--     done_more, item_done_more     it stays so as more is seen
--     step_does, step_covers        a step does so for the copy that it picks, and loses no other
--     Ran, order_ran                so does an unaborted order
--     Touched, step_within, order_within     what an order touches holds in all closed marks
--     order_aborts                  an aborted order reduced an abort
--     Stuck, quiet_stuck, quiet_inputs       what is so of a copy that stays when the instant is quiet
--     done_leaves, stuck_leaves, done_reducible, stuck_reducible     what the instant says of either
--     agents_in, agents_in_lem, in_agents    the agents of a multiset
use mathlib.Core.Path.{◌≡◌, refl, sym, subst}
use mathlib.Core.Bool.{true, false}
use mathlib.Core.List.Memᴰ
use mathlib.Core.List.{List, [], ◌∷◌, ◌++◌, Memᴰ}
use mathlib.Core.Logic.{⊎_elim}
use Prim.Native.Nat.{ℕ}
use native.Mathlib.Omega.{arith}
use Rattle.laws.proofs.Sets.{Within, Among, member_has, not_has, on_cons}
use Rattle.tcc.specs.Score.{Score, agent_at, root_of}
use Rattle.tcc.specs.Store.{Closes, store_rules}
use Rattle.tcc.specs.Order.{Item, agent, input, Pick, here, there, Step, skip, tell, input_tell, parallel, call, when, unless, End, aborted, left, Order, stop, step, abort, Quiet, wakes}
use Rattle.tcc.specs.Instant.{leaves, reducible}
use Rattle.tcc.specs.FixedPoint.{Closed, Marked}
use Rattle.tcc.specs.declared.Agent.{Agent}
use Rattle.tcc.specs.declared.Agent.TheVariants.{Skip, Abort, Tell, Parallel, When, Next, Unless, Call}
use Rattle.tcc.proofs.Closure.{Follows}
use Rattle.tcc.proofs.Store.{store_follows, closes_above, closes_follows, closes_least, closure_exact}

pub pick_member : {x : Item} {l k : List Item} → Pick x l k → Memᴰ x l
pick_member here = Memᴰ.head refl
pick_member (there p) = Memᴰ.tail (pick_member p)

pub pick_left : {x : Item} {l k : List Item} → Pick x l k → Among k l
pick_left here y m = Memᴰ.tail m
pick_left (there {y = z} {l = l} {k = k} p) y m = on_cons {P = λ w. Memᴰ w (z ∷ l)} (Memᴰ.head refl) (λ w m'. Memᴰ.tail (pick_left p w m')) y m

pub pick_covers : {x : Item} {P : Item → Type 0} {l k : List Item} → Pick x l k → P x → Within P k → Within P l
pick_covers here mx rest = on_cons mx rest
pick_covers (there p) mx rest = on_cons (rest _ (Memᴰ.head refl)) (pick_covers p mx (λ y m. rest y (Memᴰ.tail m)))

pub member_pick : {x : Item} {l : List Item} → Memᴰ x l → (k : List Item) × Pick x l k
member_pick {x} (Memᴰ.head {x = y} {xs = l} e) = (l, subst (λ z. Pick x (z ∷ l) l) e here)
member_pick {x} (Memᴰ.tail {x = y} {xs = l} m) = let p = member_pick m in (y ∷ p.0, there p.1)

pub step_picks : {sc : Score} {x : Item} {l k : List Item} {s s' : List ℕ} → Step sc x l s k s' → Memᴰ x l
step_picks (skip p e) = pick_member p
step_picks (tell p e c) = pick_member p
step_picks (input_tell p c) = pick_member p
step_picks (parallel p e) = pick_member p
step_picks (call p e) = pick_member p
step_picks (when p e h) = pick_member p
step_picks (unless p e h) = pick_member p

-- the store after, of the store before
pub record Grown (sc : Score) (s s' : List ℕ) : Type 0 where
  pub follows : Follows (Marked s) (store_rules sc) → Follows (Marked s') (store_rules sc)
  pub grows : Among s s'

grown_same : {sc : Score} {s : List ℕ} → Grown sc s s
grown_same = record { follows = λ h. h; grows = λ t m. m }

grown_told : {sc : Score} {t : ℕ} {s s' : List ℕ} → Closes sc (t ∷ s) s' → Grown sc s s'
grown_told {sc} {t} {s} {s'} c = record { follows = λ h. closes_follows sc (t ∷ s) s' c; grows = λ u m. closes_above sc (t ∷ s) s' c u (Memᴰ.tail m) }

pub step_grown : {sc : Score} {x : Item} {l k : List Item} {s s' : List ℕ} → Step sc x l s k s' → Grown sc s s'
step_grown (skip p e) = grown_same
step_grown (tell p e c) = grown_told c
step_grown (input_tell p c) = grown_told c
step_grown (parallel p e) = grown_same
step_grown (call p e) = grown_same
step_grown (when p e h) = grown_same
step_grown (unless p e h) = grown_same

-- what is so once an agent is reduced, of the copies seen and the store at the end
abbrev pub Done : Score → List Item → List ℕ → Agent → Type 0
Done sc seen s Skip = Unit {0}
Done sc seen s Abort = ⊥
Done sc seen s (Tell t) = Memᴰ t s
Done sc seen s (Parallel a b) = Memᴰ (agent a) seen × Memᴰ (agent b) seen
Done sc seen s (When t b) = Memᴰ t s × Memᴰ (agent b) seen
Done sc seen s (Next b) = ⊥
Done sc seen s (Unless t b) = Memᴰ t s
Done sc seen s (Call p) = Memᴰ (agent (root_of sc p)) seen

abbrev pub ItemDone : Score → List Item → List ℕ → Item → Type 0
ItemDone sc seen s (agent i) = Done sc seen s (agent_at sc i)
ItemDone sc seen s (input t) = Memᴰ t s

pub done_more : (sc : Score) (s : List ℕ) {seen seen' : List Item} → Among seen seen' → (a : Agent) → Done sc seen s a → Done sc seen' s a
done_more sc s more Skip d = d
done_more sc s more Abort d = d
done_more sc s more (Tell t) d = d
done_more sc s more (Parallel a b) d = (more _ d.0, more _ d.1)
done_more sc s more (When t b) d = (d.0, more _ d.1)
done_more sc s more (Next b) d = d
done_more sc s more (Unless t b) d = d
done_more sc s more (Call p) d = more _ d

pub item_done_more : (sc : Score) (s : List ℕ) {seen seen' : List Item} → Among seen seen' → (x : Item) → ItemDone sc seen s x → ItemDone sc seen' s x
item_done_more sc s more (agent i) d = done_more sc s more (agent_at sc i) d
item_done_more sc s more (input t) d = d

pub step_does : {sc : Score} {x : Item} {l k : List Item} {s s' : List ℕ} → Step sc x l s k s' → (seen : List Item) (end : List ℕ) → Among k seen → Among s' end → ItemDone sc seen end x
step_does {sc} (skip p e) seen end hk hs = subst (Done sc seen end) (sym e) tt
step_does {sc} (tell {t = t} {s = s} {s' = s'} p e c) seen end hk hs = subst (Done sc seen end) (sym e) (hs t (closes_above sc (t ∷ s) s' c t (Memᴰ.head refl)))
step_does {sc} (input_tell {t = t} {s = s} {s' = s'} p c) seen end hk hs = hs t (closes_above sc (t ∷ s) s' c t (Memᴰ.head refl))
step_does {sc} (parallel p e) seen end hk hs = subst (Done sc seen end) (sym e) (hk _ (Memᴰ.head refl), hk _ (Memᴰ.tail (Memᴰ.head refl)))
step_does {sc} (call p e) seen end hk hs = subst (Done sc seen end) (sym e) (hk _ (Memᴰ.head refl))
step_does {sc} (when p e h) seen end hk hs = subst (Done sc seen end) (sym e) (hs _ h, hk _ (Memᴰ.head refl))
step_does {sc} (unless p e h) seen end hk hs = subst (Done sc seen end) (sym e) (hs _ h)

pub step_covers : {sc : Score} {x : Item} {P : Item → Type 0} {l k : List Item} {s s' : List ℕ} → Step sc x l s k s' → P x → Within P k → Within P l
step_covers (skip p e) px rest = pick_covers p px rest
step_covers (tell p e c) px rest = pick_covers p px rest
step_covers (input_tell p c) px rest = pick_covers p px rest
step_covers (parallel p e) px rest = pick_covers p px (λ y m. rest y (Memᴰ.tail (Memᴰ.tail m)))
step_covers (call p e) px rest = pick_covers p px (λ y m. rest y (Memᴰ.tail m))
step_covers (when p e h) px rest = pick_covers p px (λ y m. rest y (Memᴰ.tail m))
step_covers (unless p e h) px rest = pick_covers p px rest

-- an unaborted order
pub record Ran (sc : Score) (l : List Item) (s : List ℕ) (steps k : List Item) (s' : List ℕ) : Type 0 where
  pub did : Within (ItemDone sc (steps ++ k) s') steps
  pub sees : Among l (steps ++ k)
  pub grown : Grown sc s s'

pub order_ran : {sc : Score} {l steps k : List Item} {s s' : List ℕ} → Order sc l s steps (left k s') → Ran sc l s steps k s'
order_ran stop = record { did = λ y m. elim m [ ]; sees = λ y m. m; grown = grown_same }
order_ran {sc} (step st rest) = let ran = order_ran rest in let now = step_grown st in record {
  did = on_cons (step_does st _ _ (λ y m. Memᴰ.tail (ran.sees y m)) ran.grown.grows) (λ y m. item_done_more sc _ (λ z k. Memᴰ.tail k) y (ran.did y m));
  sees = step_covers st (Memᴰ.head refl) (λ y m. Memᴰ.tail (ran.sees y m));
  grown = record { follows = λ h. ran.grown.follows (now.follows h); grows = λ t m. ran.grown.grows t (now.grows t m) };
}

-- marks as a property of items: an input token's tell counts as its token
abbrev pub Touched : (ℕ → Type 0) → (ℕ → Type 0) → Item → Type 0
Touched Live Held (agent i) = Live i
Touched Live Held (input t) = Held t

abbrev pub EndWithin : (ℕ → Type 0) → (ℕ → Type 0) → End → Type 0
EndWithin Live Held aborted = Unit {0}
EndWithin Live Held (left l s) = Within (Touched Live Held) l × Within Held s

module _ (sc : Score) (agents inputs : List ℕ) (Live Held : ℕ → Type 0) (closed : Closed sc agents inputs Live Held) where
  store_within : (t : ℕ) (s s' : List ℕ) → Held t → Within Held s → Closes sc (t ∷ s) s' → Within Held s'
  store_within t s s' h hs closes = closes_least sc (t ∷ s) Held s' closes (store_follows sc closed.rules closed.clash) (on_cons h hs)

  pub step_within : {x : Item} {l k : List Item} {s s' : List ℕ} → Step sc x l s k s' → Within (Touched Live Held) l → Within Held s → Within (Touched Live Held) k × Within Held s'
  step_within (skip p e) hl hs = (λ y m. hl y (pick_left p y m), hs)
  step_within (tell {i = i} {t = t} p e c) hl hs = (λ y m. hl y (pick_left p y m), store_within t _ _ (closed.tells i t (hl (agent i) (pick_member p)) e) hs c)
  step_within (input_tell {t = t} p c) hl hs = (λ y m. hl y (pick_left p y m), store_within t _ _ (hl (input t) (pick_member p)) hs c)
  step_within (parallel {i = i} {a = a} {b = b} p e) hl hs = let halves = closed.splits i a b (hl (agent i) (pick_member p)) e in (on_cons halves.0 (on_cons halves.1 (λ y m. hl y (pick_left p y m))), hs)
  step_within (call {i = i} {p = q} p e) hl hs = (on_cons (closed.calls i q (hl (agent i) (pick_member p)) e) (λ y m. hl y (pick_left p y m)), hs)
  step_within (when {i = i} {t = t} {b = b} p e h) hl hs = (on_cons (closed.awaits i t b (hl (agent i) (pick_member p)) e (hs t h)) (λ y m. hl y (pick_left p y m)), hs)
  step_within (unless p e h) hl hs = (λ y m. hl y (pick_left p y m), hs)

  pub order_within : {l steps : List Item} {s : List ℕ} {e : End} → Order sc l s steps e → Within (Touched Live Held) l → Within Held s → Within (Touched Live Held) steps × EndWithin Live Held e
  order_within stop hl hs = (λ y m. elim m [ ], (hl, hs))
  order_within (step st rest) hl hs = let next = step_within st hl hs in let more = order_within rest next.0 next.1 in (on_cons (hl _ (step_picks st)) more.0, more.1)
  order_within (abort p e) hl hs = (on_cons (hl _ (pick_member p)) (λ y m. elim m [ ]), tt)

pub order_aborts : {sc : Score} {l steps : List Item} {s : List ℕ} → Order sc l s steps aborted → (i : ℕ) × Memᴰ (agent i) steps × (agent_at sc i ≡ Abort)
order_aborts (step st rest) = let x = order_aborts rest in (x.0, Memᴰ.tail x.1, x.2)
order_aborts (abort {i = i} p e) = (i, Memᴰ.head refl, e)

-- what is so of a copy of an agent that stays when the instant is quiet
abbrev pub Stuck : List ℕ → Agent → Type 0
Stuck s Skip = ⊥
Stuck s Abort = ⊥
Stuck s (Tell t) = ⊥
Stuck s (Parallel a b) = ⊥
Stuck s (When t b) = Memᴰ t s → ⊥
Stuck s (Next b) = Unit {0}
Stuck s (Unless t b) = Memᴰ t s → ⊥
Stuck s (Call p) = ⊥

module _ (sc : Score) (l : List Item) (s : List ℕ) (quiet : Quiet sc l s) where
  pub quiet_stuck : (i : ℕ) (a : Agent) → Memᴰ (agent i) l → agent_at sc i ≡ a → Stuck s a
  quiet_stuck i Skip m e = let p = member_pick m in quiet.no_step _ _ _ (skip p.1 e)
  quiet_stuck i Abort m e = let p = member_pick m in quiet.no_abort _ _ p.1 e
  quiet_stuck i (Tell t) m e = let p = member_pick m in quiet.no_step _ _ _ (tell p.1 e (closure_exact sc (t ∷ s)))
  quiet_stuck i (Parallel a b) m e = let p = member_pick m in quiet.no_step _ _ _ (parallel p.1 e)
  quiet_stuck i (When t b) m e = let p = member_pick m in λ h. quiet.no_step _ _ _ (when p.1 e h)
  quiet_stuck i (Next b) m e = tt
  quiet_stuck i (Unless t b) m e = let p = member_pick m in λ h. quiet.no_step _ _ _ (unless p.1 e h)
  quiet_stuck i (Call q) m e = let p = member_pick m in quiet.no_step _ _ _ (call p.1 e)

  pub quiet_inputs : (t : ℕ) → Memᴰ (input t) l → ⊥
  quiet_inputs t m = let p = member_pick m in quiet.no_step _ _ _ (input_tell p.1 (closure_exact sc (t ∷ s)))

pub done_leaves : (sc : Score) (seen : List Item) (s : List ℕ) (a : Agent) → Done sc seen s a → leaves s a ≡ []
done_leaves sc seen s Skip d = refl
done_leaves sc seen s Abort d = refl
done_leaves sc seen s (Tell t) d = refl
done_leaves sc seen s (Parallel a b) d = refl
done_leaves sc seen s (When t b) d = refl
done_leaves sc seen s (Next b) d = absurd d
done_leaves sc seen s (Unless t b) d = rw (member_has d)
done_leaves sc seen s (Call p) d = refl

pub stuck_leaves : (s : List ℕ) (a : Agent) → Stuck s a → leaves s a ≡ wakes a
stuck_leaves s Skip d = refl
stuck_leaves s Abort d = refl
stuck_leaves s (Tell t) d = refl
stuck_leaves s (Parallel a b) d = refl
stuck_leaves s (When t b) d = refl
stuck_leaves s (Next b) d = refl
stuck_leaves s (Unless t b) d = rw (not_has d)
stuck_leaves s (Call p) d = refl

pub done_reducible : (sc : Score) (seen : List Item) (s : List ℕ) (a : Agent) → Done sc seen s a → reducible s a ≡ true
done_reducible sc seen s Skip d = refl
done_reducible sc seen s Abort d = refl
done_reducible sc seen s (Tell t) d = refl
done_reducible sc seen s (Parallel a b) d = refl
done_reducible sc seen s (When t b) d = member_has d.0
done_reducible sc seen s (Next b) d = absurd d
done_reducible sc seen s (Unless t b) d = member_has d
done_reducible sc seen s (Call p) d = refl

pub stuck_reducible : (s : List ℕ) (a : Agent) → Stuck s a → reducible s a ≡ false
stuck_reducible s Skip d = absurd d
stuck_reducible s Abort d = absurd d
stuck_reducible s (Tell t) d = absurd d
stuck_reducible s (Parallel a b) d = absurd d
stuck_reducible s (When t b) d = not_has d
stuck_reducible s (Next b) d = refl
stuck_reducible s (Unless t b) d = not_has d
stuck_reducible s (Call p) d = absurd d

abbrev pub agents_in : List Item → List ℕ
agents_in [] = []
agents_in (agent i ∷ l) = i ∷ agents_in l
agents_in (input t ∷ l) = agents_in l

pub agents_in_lem : (l : List Item) {i : ℕ} → Memᴰ i (agents_in l) → Memᴰ (agent i) l
agents_in_lem [] m = elim m [ ]
agents_in_lem (agent j ∷ l) m = on_cons {P = λ k. Memᴰ (agent k) (agent j ∷ l)} (Memᴰ.head refl) (λ k m'. Memᴰ.tail (agents_in_lem l m')) _ m
agents_in_lem (input t ∷ l) m = Memᴰ.tail (agents_in_lem l m)

pub in_agents : (l : List Item) {i : ℕ} → Memᴰ (agent i) l → Memᴰ i (agents_in l)
in_agents [] m = elim m [ ]
in_agents (agent j ∷ l) {i} m = ⊎_elim (λ (e : agent i ≡ agent j). let p : i ≡ j = cc in Memᴰ.head p) (λ (k : Memᴰ (agent i) l). Memᴰ.tail (in_agents l k)) (Memᴰ.cases_cons m)
in_agents (input t ∷ l) {i} m = ⊎_elim (λ (e : agent i ≡ input t). absurd (let z : ◌≡◌ {A = ℕ} 0 1 = cc in omega arith)) (λ (k : Memᴰ (agent i) l). in_agents l k) (Memᴰ.cases_cons m)
