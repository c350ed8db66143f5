-- Whatever order is taken, a finished instant ends as the one that computes.
--     stuck_awake                            where every copy stays, what the instant leaves awake is what the copies do
--     touched_reached                        what an order touches lies in the least fixed point
--     aborted_ends                           an aborted order is an aborted instant
--     end_sound, end_closed, end_settled     the agents and tokens of a quiet order are sound and closed marks, so the instant's
--     end_awake, end_reduced, reduced_end    so are the agents awake and those reduced
--     confluence, reduced                    so its end and its agents reduced are the instant's
use mathlib.Core.Path.{◌≡◌, refl, sym, ap₂, subst}
use mathlib.Core.List.Memᴰ
use mathlib.Core.List.{List, [], ◌∷◌, ◌++◌, map, Memᴰ}
use mathlib.Core.Logic.{◌⊎◌, inl, inr, ⊎_elim}
use Prim.Native.Nat.{ℕ, ◌<◌}
use lib.ListN.{length}
use Rattle.laws.specs.Sets.{Same, below, has}
use Rattle.laws.proofs.Booleans.{true_is_false, and_both, both_and}
use Rattle.laws.proofs.Sets.{Within, has_member, member_has, on_append, on_map, on_keep, keep_kept, map_member, lt_below, same_sym, same_trans}
use Rattle.tcc.specs.Score.{Score, agent_at}
use Rattle.tcc.specs.Store.{Closes}
use Rattle.tcc.specs.Order.{Item, agent, input, End, aborted, left, Order, Quiet, awake_next, start}
use Rattle.tcc.specs.Instant.{live, held, left_awake, reducible, reduced_of, aborted_answer, instant}
use Rattle.tcc.specs.FixedPoint.{Closed, Sound, Marked, Settled}
use Rattle.tcc.specs.Confluence.{QuietAs, Confluence, Reduced}
use Rattle.tcc.specs.declared.Agent.{Agent}
use Rattle.tcc.specs.declared.Agent.TheVariants.{Abort, Tell, Parallel, When, Call}
use Rattle.tcc.proofs.Store.{store_follows, follows_rules, follows_clash, closes_follows, closes_least}
use Rattle.tcc.proofs.FixedPoint.{Reached, reach, awake_member, member_awake, settles, aborts}
use Rattle.tcc.proofs.Order.{Touched, EndWithin, order_within, order_aborts, Done, Ran, order_ran, Stuck, quiet_stuck, quiet_inputs, done_leaves, stuck_leaves, done_reducible, stuck_reducible, agents_in, agents_in_lem, in_agents}

-- where every copy stays, each next and unless leaves its body
stuck_awake : (sc : Score) (s : List ℕ) (l : List Item) → ((i : ℕ) → Memᴰ (agent i) l → Stuck s (agent_at sc i)) → left_awake sc s (agents_in l) ≡ awake_next sc l
stuck_awake sc s [] h = refl
stuck_awake sc s (agent j ∷ l) h = ap₂ ◌++◌ (stuck_leaves s (agent_at sc j) (h j (Memᴰ.head refl))) (stuck_awake sc s l (λ i m. h i (Memᴰ.tail m)))
stuck_awake sc s (input t ∷ l) h = stuck_awake sc s l (λ i m. h i (Memᴰ.tail m))

module _ (sc : Score) (agents copies inputs s : List ℕ) (same : Same copies agents) (starts : Closes sc [] s) where
  abbrev ItemReached : Item → Type 0
  ItemReached = Touched (λ i. Reached sc agents inputs (live i)) (λ t. Reached sc agents inputs (held t))

  -- what an order touches is reached
  touched_reached : {steps : List Item} {e : End} → Order sc (start copies inputs) s steps e → Within ItemReached steps × EndWithin (λ i. Reached sc agents inputs (live i)) (λ t. Reached sc agents inputs (held t)) e
  touched_reached o = let closed = reach sc agents inputs in order_within sc agents inputs (λ i. Reached sc agents inputs (live i)) (λ t. Reached sc agents inputs (held t)) closed o
      (on_append (map agent copies) (on_map ItemReached agent copies (λ i m. closed.begins i ((same i).0 m))) (on_map ItemReached input inputs closed.told))
      (closes_least sc [] (λ t. Reached sc agents inputs (held t)) s starts (store_follows sc closed.rules closed.clash) (λ t m. elim m [ ]))

  aborted_ends : (steps : List Item) → Order sc (start copies inputs) s steps aborted → instant sc agents inputs ≡ aborted_answer
  aborted_ends steps o =
      let sound : Sound sc agents inputs (Marked (agents_in steps)) (Marked []) = record { lives = λ i m. (touched_reached o).0 (agent i) (agents_in_lem steps m); holds = λ t m. elim m [ ] } in
      let x = order_aborts o in
      aborts sc agents inputs (agents_in steps) [] sound x.0 (in_agents steps x.1) x.2

  module _ (s' : List ℕ) (steps l : List Item) (order : Order sc (start copies inputs) s steps (left l s')) (quiet : Quiet sc l s') where
    lives : List ℕ
    lives = agents_in (steps ++ l)

    ran : Ran sc (start copies inputs) s steps l s'
    ran = order_ran order

    -- each agent seen was reduced, or stays
    seen_cases : {i : ℕ} → Memᴰ i lives → Memᴰ (agent i) steps ⊎ Memᴰ (agent i) l
    unfolding lives
    seen_cases m = Memᴰ.append_cases steps (agents_in_lem (steps ++ l) m)

    split : (i : ℕ) (a : Agent) → Memᴰ i lives → agent_at sc i ≡ a → Done sc (steps ++ l) s' a ⊎ Stuck s' a
    split i a m e = ⊎_elim
        (λ (k : Memᴰ (agent i) steps). inl (subst (Done sc (steps ++ l) s') e (ran.did (agent i) k)))
        (λ (k : Memᴰ (agent i) l). inr (quiet_stuck sc l s' quiet i a k e)) (seen_cases m)

    end_sound : Sound sc agents inputs (Marked lives) (Marked s')
    unfolding lives
    end_sound = record {
      lives = λ i m. on_append steps (touched_reached order).0 (touched_reached order).1.0 (agent i) (agents_in_lem (steps ++ l) m);
      holds = (touched_reached order).1.1;
    }

    end_closed : Closed sc agents inputs (Marked lives) (Marked s')
    unfolding lives
    end_closed = record {
      begins = λ i m. in_agents (steps ++ l) (ran.sees (agent i) (Memᴰ.append_left _ (map_member agent ((same i).1 m))));
      told = λ t m. ⊎_elim
          (λ (k : Memᴰ (input t) steps). ran.did (input t) k)
          (λ (k : Memᴰ (input t) l). absurd (quiet_inputs sc l s' quiet t k))
          (Memᴰ.append_cases steps (ran.sees (input t) (Memᴰ.append_right (map agent copies) (map_member input m))));
      tells = λ i t m e. ⊎_elim (λ (d : Memᴰ t s'). d) (λ (z : ⊥). absurd z) (split i (Tell t) m e);
      splits = λ i a b m e. ⊎_elim (λ (d : Done sc (steps ++ l) s' (Parallel a b)). (in_agents (steps ++ l) d.0, in_agents (steps ++ l) d.1)) (λ (z : ⊥). absurd z) (split i (Parallel a b) m e);
      calls = λ i p m e. ⊎_elim (λ (d : Done sc (steps ++ l) s' (Call p)). in_agents (steps ++ l) d) (λ (z : ⊥). absurd z) (split i (Call p) m e);
      awaits = λ i t b m e h. ⊎_elim (λ (d : Done sc (steps ++ l) s' (When t b)). in_agents (steps ++ l) d.1) (λ (z : Stuck s' (When t b)). absurd (z h)) (split i (When t b) m e);
      rules = follows_rules sc (ran.grown.follows (closes_follows sc [] s starts));
      clash = follows_clash sc (ran.grown.follows (closes_follows sc [] s starts));
    }

    end_settled : Settled sc lives s' (instant sc agents inputs)
    end_settled = settles sc agents inputs lives s' end_sound end_closed (λ i m e. ⊎_elim (λ (z : ⊥). z) (λ (z : ⊥). z) (split i Abort m e))

    end_awake : Same (left_awake sc s' lives) (awake_next sc l)
    unfolding lives
    end_awake b = (
      λ m. let x = awake_member sc s' lives m in subst (Memᴰ b) awake_left (⊎_elim
          (λ (k : Memᴰ (agent x.0) steps). let z : Memᴰ b [] = subst (Memᴰ b) (done_leaves sc (steps ++ l) s' (agent_at sc x.0) (ran.did (agent x.0) k)) x.2 in elim z [ ])
          (λ (k : Memᴰ (agent x.0) l). member_awake sc s' (in_agents l k) x.2) (seen_cases x.1)),
      λ m. let x = awake_member sc s' (agents_in l) (subst (Memᴰ b) (sym awake_left) m) in member_awake sc s' (in_agents (steps ++ l) (Memᴰ.append_right steps (agents_in_lem l x.1))) x.2,
    )
      where
        awake_left : left_awake sc s' (agents_in l) ≡ awake_next sc l
        awake_left = stuck_awake sc s' l (λ i m. quiet_stuck sc l s' quiet i (agent_at sc i) m refl)

    end_quiet : QuietAs sc l s' (instant sc agents inputs)
    end_quiet = let settled = end_settled in record {
      unaborted = settled.unaborted;
      store = settled.same_store;
      clash = settled.clash;
      no_clash = settled.no_clash;
      awake = same_trans (same_sym end_awake) settled.same_awake;
    }

    end_reduced : (i : ℕ) → i < length sc.agents → Memᴰ (agent i) steps → Memᴰ i (reduced_of sc s' lives)
    unfolding lives
    end_reduced i known m = keep_kept _ (lt_below (length sc.agents) known)
        (both_and (member_has (in_agents (steps ++ l) (Memᴰ.append_left l m))) (done_reducible sc (steps ++ l) s' (agent_at sc i) (ran.did (agent i) m)))

    reduced_end : Within (λ i. Memᴰ (agent i) steps) (reduced_of sc s' lives)
    reduced_end = on_keep _ (below (length sc.agents)) (λ i m e. let both = and_both (has i lives) (reducible s' (agent_at sc i)) e in ⊎_elim
        (λ (k : Memᴰ (agent i) steps). k)
        (λ (k : Memᴰ (agent i) l). absurd (true_is_false both.1 (stuck_reducible s' (agent_at sc i) (quiet_stuck sc l s' quiet i (agent_at sc i) k refl))))
        (seen_cases (has_member i lives both.0)))

pub confluence : Confluence
confluence sc agents copies inputs s steps aborted same starts order finished = aborted_ends sc agents copies inputs s same starts steps order
confluence sc agents copies inputs s steps (left l s') same starts order finished = end_quiet sc agents copies inputs s same starts s' steps l order finished

pub reduced : Reduced
reduced sc agents copies inputs s s' steps l same starts order quiet i known =
    let e = (end_settled sc agents copies inputs s same starts s' steps l order quiet).same_reduced in (
      λ m. subst (Memᴰ i) e (end_reduced sc agents copies inputs s same starts s' steps l order quiet i known m),
      λ m. reduced_end sc agents copies inputs s same starts s' steps l order quiet i (subst (Memᴰ i) (sym e) m),
    )
