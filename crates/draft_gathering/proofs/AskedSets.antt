-- Laws of the sets that the agents of a draft ask for.
--     inserted                   what was inserted into nothing is a member of what was inserted
--     insert_all_more            one number more is inserted last
--     all_asked_more             what one pair more asks for comes last
--     asked_kept, asked_step     it is the set asked for, where that has two tokens or more
--     asks_nothing               an agent that is no next and no unless asks for none
--     asked_more, asked_same     so one pair more adds its set to the asked sets, or nothing
--     on_only                    what holds of 0 and of the members of a list holds of its only entry
--     asked_tokens               the tokens of the set that an agent asks for are the draft's
--     token_new, token_own       the token of a set of two or more; of a smaller one
use mathlib.Core.Path.{◌≡◌, refl, sym, ap, subst, subst⁻¹, ◌∙◌}
use mathlib.Core.Bool.{Bool, true, false, cond}
use mathlib.Core.List.Memᴰ
use mathlib.Core.List.{List, [], ◌∷◌, ◌++◌, append-nil, append_assoc, Memᴰ}
use mathlib.Core.Logic.{⊎_elim}
use Prim.Native.Nat.{ℕ, ◌+◌, ◌<◌}
use lib.ListN.{get_or}
use Rattle.laws.specs.Sets.{keep}
use Rattle.laws.specs.Rising.{Rising, none}
use Rattle.laws.proofs.Booleans.{true_is_false, cond_true, cond_false}
use Rattle.laws.proofs.Sets.{Within, Among}
use Rattle.laws.proofs.Rising.{rising_unique}
use Rattle.tcc.specs.declared.Agent.{Agent}
use Rattle.tcc.specs.declared.Agent.TheVariants.{Skip, Abort, Tell, Parallel, When, Next, Unless, Call}
use Rattle.draft_language.specs.Draft.{Draft, draft_agent_at, as_when, LawfulDraft}
use Rattle.draft_language.specs.declared.DraftAgent.{DraftAgent}
use Rattle.draft_language.specs.declared.DraftAgent.TheVariants.{Plain}
use Rattle.draft_pairs.specs.TokenSets.{holds, members, several}
use Rattle.draft_pairs.specs.Pairs.{number_in, set_in, insert, insert_all, index_of}
use Rattle.draft_pairs.proofs.TokenSets.{holds_none}
use Rattle.draft_pairs.proofs.Rising.{insert_rising, insert_member, member_insert, insert_kept, insert_all_rising, insert_all_member, member_insert_all}
use Rattle.draft_table.specs.Tables.{Placed}
use Rattle.draft_table.proofs.Tables.{placed_index}
use Rattle.draft_plain.specs.Led.{Led}
use Rattle.draft_plain.specs.Plain.{asks_for, agent_in, all_asked, asked_sets, asked_token}
use Rattle.draft_plain.proofs.Places.{KnownAgent}
use Rattle.draft_plain.proofs.AskedLaws.{none_several, asks_known}
use Rattle.draft_gathering.specs.Asking.{asked_by}

-- ---- one pair more

inserted : (l : List ℕ) {m : ℕ} → Memᴰ m (insert_all l []) → Memᴰ m l
inserted l {m} x = ⊎_elim (λ (y : Memᴰ m l). y) (λ (y : Memᴰ m []). absurd (Memᴰ.not-nil y)) (insert_all_member l [] x)

insert_all_more : (ks : List ℕ) (x : ℕ) → insert_all (ks ++ (x ∷ [])) [] ≡ insert x (insert_all ks [])
insert_all_more ks x = rising_unique (insert_all_rising more [] none) (insert_rising x (insert_all ks []) (insert_all_rising ks [] none)) (λ m. (to m, from m))
  where
    more : List ℕ
    more = ks ++ (x ∷ [])

    to : Among (insert_all more []) (insert x (insert_all ks []))
    to m y = ⊎_elim (λ (z : Memᴰ m ks). insert_kept x (insert_all ks []) m ((member_insert_all ks []).0 m z))
        (λ (z : Memᴰ m (x ∷ [])). subst⁻¹ (λ n. Memᴰ n (insert x (insert_all ks []))) (Memᴰ.eq_of_singleton z) (member_insert x (insert_all ks [])))
        (Memᴰ.append_cases ks (inserted more y))

    from : Among (insert x (insert_all ks [])) (insert_all more [])
    from m y = (member_insert_all more []).0 m (⊎_elim (λ (e : m ≡ x). Memᴰ.append_right ks (Memᴰ.head e)) (λ z. Memᴰ.append_left (x ∷ []) (inserted ks z)) (insert_member x (insert_all ks []) y))

all_asked_more : (d : Draft) (ks : List ℕ) (k : ℕ) → all_asked d (ks ++ (k ∷ [])) ≡ all_asked d ks ++ keep several (asks_for (set_in k) (agent_in d k))
all_asked_more d [] k = append-nil (keep several (asks_for (set_in k) (agent_in d k)))
all_asked_more d (m ∷ ks) k =
    let first = keep several (asks_for (set_in m) (agent_in d m)) in
    ap (λ l. first ++ l) (all_asked_more d ks k) ∙ sym (append_assoc first (all_asked d ks) (keep several (asks_for (set_in k) (agent_in d k))))

-- the only entry of a list that has one or none
abbrev only : List ℕ → ℕ
only l = get_or l 0 0

asked_kept : (set : ℕ) (a : Agent) → keep several (asks_for set a) ≡ cond (several (only (asks_for set a))) (only (asks_for set a) ∷ []) []
asked_kept set Skip = cond_false (0 ∷ []) none_several refl
asked_kept set Abort = cond_false (0 ∷ []) none_several refl
asked_kept set (Tell t) = cond_false (0 ∷ []) none_several refl
asked_kept set (Parallel a b) = cond_false (0 ∷ []) none_several refl
asked_kept set (When t b) = cond_false (0 ∷ []) none_several refl
asked_kept set (Next b) = refl
asked_kept set (Unless t b) = refl
asked_kept set (Call p) = cond_false (0 ∷ []) none_several refl

pub asks_nothing : (set : ℕ) (a : Agent) → ((b : ℕ) → a ≡ Next b → ⊥) → ((t b : ℕ) → a ≡ Unless t b → ⊥) → asked_by set (Plain a) ≡ 0
asks_nothing set Skip next unless = refl
asks_nothing set Abort next unless = refl
asks_nothing set (Tell t) next unless = refl
asks_nothing set (Parallel a b) next unless = refl
asks_nothing set (When t b) next unless = refl
asks_nothing set (Next b) next unless = absurd (next b refl)
asks_nothing set (Unless t b) next unless = absurd (unless t b refl)
asks_nothing set (Call p) next unless = refl

module _ (d : Draft) (ks : List ℕ) (k : ℕ) {w : DraftAgent} (is : draft_agent_at d (number_in k) ≡ w) where
  abbrev asked : ℕ
  asked = asked_by (set_in k) w

  asked_step : {b : Bool} → several asked ≡ b → all_asked d (ks ++ (k ∷ [])) ≡ all_asked d ks ++ cond b (asked ∷ []) []
  asked_step e =
      all_asked_more d ks k
      ∙ ap (λ l. all_asked d ks ++ l) (ap (λ v. keep several (asks_for (set_in k) (as_when v))) is ∙ asked_kept (set_in k) (as_when w) ∙ ap (λ c. cond c (asked ∷ []) []) e)

  pub asked_more : several asked ≡ true → asked_sets d (ks ++ (k ∷ [])) ≡ insert asked (asked_sets d ks)
  unfolding asked_sets
  asked_more e = ap (λ l. insert_all l []) (asked_step e) ∙ insert_all_more (all_asked d ks) asked

  pub asked_same : several asked ≡ false → asked_sets d (ks ++ (k ∷ [])) ≡ asked_sets d ks
  unfolding asked_sets
  asked_same e = ap (λ l. insert_all l []) (asked_step e ∙ append-nil (all_asked d ks))

-- ---- the tokens of an asked set

on_only : {P : ℕ → Type 0} (l : List ℕ) → P 0 → Within P l → P (only l)
on_only [] p h = p
on_only (x ∷ l) p h = h x (Memᴰ.head refl)

pub asked_tokens : (d : Draft) → LawfulDraft d → (k : ℕ) → Led d k → KnownAgent d k → {w : DraftAgent} → draft_agent_at d (number_in k) ≡ w → (t : ℕ) → holds (asked_by (set_in k) w) t ≡ true → t < d.tokens
asked_tokens d law k led known is =
    subst (λ w. (t : ℕ) → holds (asked_by (set_in k) w) t ≡ true → t < d.tokens) (sym known.is_written ∙ is)
    (on_only {P = λ set. (t : ℕ) → holds set t ≡ true → t < d.tokens} (asks_for (set_in k) known.written)
    (λ t h. absurd (true_is_false h (holds_none t))) (asks_known d law k led known.is_written))

-- ---- the token of a set

-- where a set is placed among the asked ones as a pair of number 0
pub token_new : (tokens : ℕ) {sets : List ℕ} {set key at : ℕ} → Rising sets → Placed sets key at → key ≡ set → several set ≡ true → Memᴰ set sets → tokens + at ≡ asked_token tokens sets set
unfolding asked_token
token_new tokens {sets} {set} {at = at} rises placed is many m =
    cond_true (get_or (members set) 0 0) many (ap (λ n. tokens + n) (sym (placed_index rises (subst (λ k. Placed sets k at) is placed) m)))

pub token_own : (tokens : ℕ) (sets : List ℕ) (set : ℕ) → several set ≡ false → get_or (members set) 0 0 ≡ asked_token tokens sets set
unfolding asked_token
token_own tokens sets set few = cond_false (tokens + index_of set sets) few refl
