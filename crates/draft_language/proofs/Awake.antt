-- What is watched, and what is awake next.
--     watched_some, some_watched     a set is watched if and only if a token of it is in the store
--     none_watched                   so it is not where none is
--     Wakes                          what an agent still there wakes: the body of a next or of an unless
--     nothing, on_wakes, on_awake    what holds of each such body under a set that is not watched holds of all that is awake
--                                    next
use mathlib.Core.Path.{◌≡◌, refl}
use mathlib.Core.Bool.{true, false, cond, not-eq-not}
use mathlib.Core.List.{List, [], ◌∷◌, Memᴰ}
use Prim.Native.Nat.{ℕ}
use Rattle.laws.specs.Sets.{has}
use Rattle.laws.proofs.Booleans.{by_test}
use Rattle.laws.proofs.Sets.{Within, on_cons, on_append, any_some, some_any, has_member, member_has}
use Rattle.tcc.specs.declared.Agent.TheVariants.{Skip, Abort, Tell, Parallel, When, Next, Unless, Call}
use Rattle.draft_language.specs.Draft.{Draft, draft_agent_at}
use Rattle.draft_language.specs.Order.{Copy, Item, copy, input, watched, wakes, awake_next}
use Rattle.draft_language.specs.declared.DraftAgent.{DraftAgent}
use Rattle.draft_language.specs.declared.DraftAgent.TheVariants.{Plain, Watch}

pub watched_some : {s set : List ℕ} → watched s set ≡ true → (t : ℕ) × Memᴰ t set × Memᴰ t s
watched_some {s} {set} e = let (t, at, held) = any_some (λ t. has t s) set e in (t, at, has_member t s held)

pub some_watched : {s set : List ℕ} {t : ℕ} → Memᴰ t set → Memᴰ t s → watched s set ≡ true
some_watched {s} at held = some_any (λ t. has t s) at (member_has held)

pub none_watched : {s set : List ℕ} → ((t : ℕ) → Memᴰ t set → Memᴰ t s → ⊥) → watched s set ≡ false
none_watched h = (not-eq-not {b = false}).0 (λ e. let (t, at, held) = watched_some e in h t at held)

pub data Wakes (x : DraftAgent) (b : ℕ) : Type 0 where
  by_next : x ≡ Plain (Next b) → Wakes x b
  by_unless : {t : ℕ} → x ≡ Plain (Unless t b) → Wakes x b

module _ (P : Copy → Type 0) where
  nothing : Within P []
  nothing c m = elim m [ ]

  on_wakes : (set : List ℕ) (x : DraftAgent) → ((b : ℕ) → Wakes x b → P (record { agent = b; under = set })) → Within P (wakes set x)
  on_wakes set (Plain Skip) h = nothing
  on_wakes set (Plain Abort) h = nothing
  on_wakes set (Plain (Tell t)) h = nothing
  on_wakes set (Plain (Parallel a b)) h = nothing
  on_wakes set (Plain (When t b)) h = nothing
  on_wakes set (Plain (Next b)) h = on_cons (h b (by_next refl)) nothing
  on_wakes set (Plain (Unless t b)) h = on_cons (h b (by_unless refl)) nothing
  on_wakes set (Plain (Call p)) h = nothing
  on_wakes set (Watch t b) h = nothing

  pub on_awake : (d : Draft) (s : List ℕ) (l : List Item) → ((i : ℕ) (set : List ℕ) → Memᴰ (copy i set) l → watched s set ≡ false → (b : ℕ) → Wakes (draft_agent_at d i) b → P (record { agent = b; under = set })) → Within P (awake_next d s l)
  on_awake d s [] h = nothing
  on_awake d s (copy i set ∷ l) h =
      on_append (cond (watched s set) [] (wakes set (draft_agent_at d i)))
      (by_test (Within P) (watched s set) (λ e. nothing) (λ e. on_wakes set (draft_agent_at d i) (h i set (Memᴰ.head refl) e)))
      (on_awake d s l (λ j under m. h j under (Memᴰ.tail m)))
  on_awake d s (input t ∷ l) h = on_awake d s l (λ j under m. h j under (Memᴰ.tail m))
