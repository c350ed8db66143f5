-- Laws of the sets that the agents of a plain score ask for, and of the tokens that they are asked by.
--     asked_rising                   the asked sets rise
--     asked_listed, on_asked         they are the sets of several tokens that the agents of the pairs ask for
--     asked_none                     where no agent asks for a set of several, there are none
--     asked_token_below              the token that is asked for is one of the plain score's
--     with_holds                     a token is in a set that it was added to
--     none_several, one_several      no token, and one, are not several
--     asked_one                      a set of one token is asked for by it
--     asks_known                     whoever asks for a set knows its tokens
--     asked_known                    so the tokens of the asked sets are the draft's
use mathlib.Core.Path.{◌≡◌, refl, sym, ap, ap₂, subst, subst⁻¹, ◌∙◌}
use mathlib.Core.Bool.{Bool, true, false, cond, ◌||◌, or-false}
use mathlib.Core.List.Memᴰ
use mathlib.Core.List.{List, [], ◌∷◌, ◌++◌, Memᴰ}
use mathlib.Core.Logic.{⊎_elim}
use Prim.Native.Nat.{ℕ, ◌+◌, ◌<◌}
use native.Mathlib.Omega.{arith}
use lib.Dec.{eqb, ltb}
use lib.ListN.{length, get_or}
use borrow.Author.Tests.{eqb-true, eq-eqb}
use Rattle.laws.specs.Sets.{Same, below, keep}
use Rattle.laws.specs.Rising.{Rising, none, one}
use Rattle.laws.proofs.Booleans.{by_test}
use Rattle.laws.proofs.Sets.{Within, on_cons, on_append, on_keep, keep_kept, keep_none}
use Rattle.laws.proofs.Rising.{rising_unique}
use Rattle.tcc.specs.declared.Agent.{Agent}
use Rattle.tcc.specs.declared.Agent.TheVariants.{Skip, Abort, Tell, Parallel, When, Next, Unless, Call}
use Rattle.draft_language.specs.Draft.{Draft, draft_agent_at, as_when, LawfulDraft}
use Rattle.draft_language.specs.declared.DraftAgent.TheVariants.{Plain}
use Rattle.draft_pairs.specs.TokenSets.{holds, with, members, several}
use Rattle.draft_pairs.specs.Pairs.{insert_all, number_in, set_in, index_of}
use Rattle.draft_plain.specs.Places.{places, agent_places}
use Rattle.draft_plain.specs.Plain.{asks_for, agent_in, all_asked, asked_sets, asked_token}
use Rattle.draft_pairs.proofs.TokenSets.{holds_with, holds_none, member_holds, holds_member, members_rising}
use Rattle.draft_plain.specs.Led.{Led}
use Rattle.draft_plain.proofs.Places.{led_known}
use Rattle.draft_plain.proofs.PlainPairs.{written_tokens, led_agent, agent_led}
use Rattle.draft_pairs.proofs.Rising.{insert_all_rising, insert_all_member, member_insert_all, index_below}

module _ (d : Draft) where
  pub asked_rising : (agents : List ℕ) → Rising (asked_sets d agents)
  unfolding asked_sets
  asked_rising agents = insert_all_rising (all_asked d agents) [] none

  all_listed : {k set : ℕ} {agents : List ℕ} → Memᴰ k agents → Memᴰ set (asks_for (set_in k) (agent_in d k)) → several set ≡ true → Memᴰ set (all_asked d agents)
  all_listed {set = set} (Memᴰ.head {xs = agents} e) m h = Memᴰ.append_left (all_asked d agents) (keep_kept several (subst (λ k. Memᴰ set (asks_for (set_in k) (agent_in d k))) e m) h)
  all_listed (Memᴰ.tail {x = j} n) m h = Memᴰ.append_right (keep several (asks_for (set_in j) (agent_in d j))) (all_listed n m h)

  pub asked_listed : {k set : ℕ} {agents : List ℕ} → Memᴰ k agents → Memᴰ set (asks_for (set_in k) (agent_in d k)) → several set ≡ true → Memᴰ set (asked_sets d agents)
  unfolding asked_sets
  asked_listed {set = set} {agents = agents} n m h = (member_insert_all (all_asked d agents) []).0 set (all_listed n m h)

  module _ (P : ℕ → Type 0) where
    on_all : (agents : List ℕ) → Within (λ k. Within (λ set. several set ≡ true → P set) (asks_for (set_in k) (agent_in d k))) agents → Within P (all_asked d agents)
    on_all [] h = λ set m. elim m [ ]
    on_all (k ∷ agents) h = on_append (keep several (asks_for (set_in k) (agent_in d k))) (on_keep several (asks_for (set_in k) (agent_in d k)) (h k (Memᴰ.head refl))) (on_all agents (λ j m. h j (Memᴰ.tail m)))

    pub on_asked : (agents : List ℕ) → Within (λ k. Within (λ set. several set ≡ true → P set) (asks_for (set_in k) (agent_in d k))) agents → Within P (asked_sets d agents)
    unfolding asked_sets
    on_asked agents h set m = ⊎_elim (λ n. on_all agents h set n) (λ (n : Memᴰ set []). elim n [ ]) (insert_all_member (all_asked d agents) [] m)

  all_none : (agents : List ℕ) → Within (λ k. Within (λ set. several set ≡ false) (asks_for (set_in k) (agent_in d k))) agents → all_asked d agents ≡ []
  all_none [] h = refl
  all_none (k ∷ agents) h = ap₂ ◌++◌ (keep_none several (asks_for (set_in k) (agent_in d k)) (h k (Memᴰ.head refl))) (all_none agents (λ j m. h j (Memᴰ.tail m)))

  pub asked_none : (agents : List ℕ) → Within (λ k. Within (λ set. several set ≡ false) (asks_for (set_in k) (agent_in d k))) agents → asked_sets d agents ≡ []
  unfolding asked_sets
  asked_none agents h = ap (λ sets. insert_all sets []) (all_none agents h)

first_member : (l : List ℕ) → (l ≡ [] → ⊥) → Memᴰ (get_or l 0 0) l
first_member [] h = absurd (h refl)
first_member (x ∷ l) h = Memᴰ.head refl

pub asked_token_below : (tokens : ℕ) (sets : List ℕ) (set : ℕ) → (several set ≡ true → Memᴰ set sets) → ((t : ℕ) → holds set t ≡ true → t < tokens) → (members set ≡ [] → ⊥) → asked_token tokens sets set < tokens + length sets
unfolding asked_token
asked_token_below tokens sets set listed known some = by_test (λ u. u < tokens + length sets) (several set) (λ e. omega (arith, index_below set sets (listed e))) (λ e. omega (arith, known (get_or (members set) 0 0) (member_holds set (first_member (members set) some)).1))

pub with_holds : (t set : ℕ) → holds (with t set) t ≡ true
with_holds t set = holds_with t t set ∙ ap (λ b. b || holds set t) (eq-eqb t t refl)

members_empty : members 0 ≡ []
unfolding members
members_empty = keep_none (λ t. holds 0 t) (below 256) (λ t m. holds_none t)

one_holds : (t u : ℕ) → holds (with t 0) u ≡ true → u ≡ t
one_holds t u e = eqb-true u t (sym (or-false (eqb u t)) ∙ ap (λ b. eqb u t || b) (sym (holds_none u)) ∙ sym (holds_with t u 0) ∙ e)

members_one : (t : ℕ) → t < 256 → members (with t 0) ≡ t ∷ []
members_one t h = rising_unique (members_rising (with t 0)) one same
  where
    same : Same (members (with t 0)) (t ∷ [])
    same u = (λ m. Memᴰ.head (one_holds t u (member_holds (with t 0) m).1), λ m. Memᴰ.cast (Memᴰ.eq_of_singleton m) (holds_member (with t 0) h (with_holds t 0)))

pub none_several : several 0 ≡ false
none_several = ap (λ l. ltb 1 (length l)) members_empty

pub one_several : (t : ℕ) → t < 256 → several (with t 0) ≡ false
one_several t h = ap (λ l. ltb 1 (length l)) (members_one t h)

pub asked_one : (tokens t : ℕ) (sets : List ℕ) → t < 256 → asked_token tokens sets (with t 0) ≡ t
unfolding asked_token
asked_one tokens t sets h = ap₂ (λ b l. cond b (tokens + index_of (with t 0) sets) (get_or l 0 0)) (one_several t h) (members_one t h)

with_known : (tokens t set : ℕ) → t < tokens → ((u : ℕ) → holds set u ≡ true → u < tokens) → (u : ℕ) → holds (with t set) u ≡ true → u < tokens
with_known tokens t set h known u e = go (eqb u t) refl (sym (holds_with t u set) ∙ e)
  where
    go : (b : Bool) → eqb u t ≡ b → (b || holds set u) ≡ true → u < tokens
    go true q e' = subst⁻¹ (λ v. v < tokens) (eqb-true u t q) h
    go false q e' = known u e'

module _ (d : Draft) (law : LawfulDraft d) (k : ℕ) (led : Led d k) where
  pub asks_known : {a : Agent} → draft_agent_at d (number_in k) ≡ Plain a → Within (λ set. (t : ℕ) → holds set t ≡ true → t < d.tokens) (asks_for (set_in k) a)
  asks_known {a = Skip} e = λ set m. elim m [ ]
  asks_known {a = Abort} e = λ set m. elim m [ ]
  asks_known {a = Tell t} e = λ set m. elim m [ ]
  asks_known {a = Parallel x y} e = λ set m. elim m [ ]
  asks_known {a = When t b} e = λ set m. elim m [ ]
  asks_known {a = Next b} e = on_cons (led_known d law k led).tokens_known (λ set m. elim m [ ])
  asks_known {a = Unless t b} e = on_cons (with_known d.tokens t (set_in k) (written_tokens d law (number_in k) e t (Memᴰ.head refl)) (led_known d law k led).tokens_known) (λ set m. elim m [ ])
  asks_known {a = Call p} e = λ set m. elim m [ ]

pub asked_known : (d : Draft) → LawfulDraft d → Within (λ set. (t : ℕ) → holds set t ≡ true → t < d.tokens) (asked_sets d (agent_places (places d)))
asked_known d law = on_asked d (λ set. (t : ℕ) → holds set t ≡ true → t < d.tokens) (agent_places (places d)) each
  where
    each : (k : ℕ) → Memᴰ k (agent_places (places d)) → Within (λ set. several set ≡ true → (t : ℕ) → holds set t ≡ true → t < d.tokens) (asks_for (set_in k) (agent_in d k))
    each k m set n h =
        let (led, low) = agent_led d m in
        let known = led_agent d law led low in
        asks_known d law k led known.is_written set (subst (λ a. Memᴰ set (asks_for (set_in k) a)) (ap as_when known.is_written) n)
