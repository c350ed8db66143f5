-- The start state: the root of procedure 0.
--     root_known       the root is an agent of the score
--     started          the state as flags
--     start_lawful     is lawful
--     start_bytes_lem  its bytes stand for a state that is written as the same bytes
use mathlib.Core.Path.{◌≡◌, sym, ap, ◌∙◌}
use mathlib.Core.Bool.{Bool, true, false}
use mathlib.Core.List.Memᴰ
use mathlib.Core.List.{List, [], ◌∷◌, Memᴰ}
use mathlib.Core.Logic.{⊎_elim}
use Prim.Native.Nat.{ℕ, ◌<◌, ◌≤◌}
use native.Mathlib.Omega.{arith}
use lib.ListN.{set, replicate, length-set, length-replicate}
use Rattle.laws.proofs.Sets.{on_cons}
use Rattle.tcc.specs.Score.{root_of}
use Rattle.tcc.specs.Instant.{running, start_state}
use Rattle.format.specs.Decode.{sizes, decode}
use Rattle.format.specs.Playable.{Playable}
use Rattle.format.proofs.Decode.{playable_agents, sizes_few}
use Rattle.flags.specs.Flags.{set_of, flags_of}
use Rattle.flags.proofs.Flags.{set_here, set_cases, set_of_none, flags_settled}
use Rattle.lent.specs.States.{state_of, as_bytes, numbered, start_bytes, LawfulState}
use Rattle.lent.proofs.Round.{state_round, lawful_bytes, faultless_lawful}
use Rattle.lent.proofs.Numbered.{numbered_same}
use Rattle.instant_state.specs.Standing.{state_in}
use Rattle.journal_step.proofs.Steps.{same_running}

one_flag : (n t : ℕ) → t < n → set (replicate n false) t true ≡ flags_of n (t ∷ [])
one_flag n t lt = flags_settled n (t ∷ []) (set (replicate n false) t true) (length-set (replicate n false) t true ∙ length-replicate n false) (λ i h. (to i, on_cons {P = λ j. Memᴰ j (set_of (set (replicate n false) t true))} (set_here (replicate n false) t (omega (arith, length-replicate n false))) (λ j m. absurd (Memᴰ.not-nil m)) i))
  where
    to : (i : ℕ) → Memᴰ i (set_of (set (replicate n false) t true)) → Memᴰ i (t ∷ [])
    to i m = ⊎_elim (λ (e : i ≡ t). Memᴰ.head e) (λ (k : Memᴰ i (set_of (replicate n false))). absurd (Memᴰ.not-nil (rw (set_of_none n) at k))) (set_cases (replicate n false) t m)

module _ (score : List ℕ) (p : Playable score) where
  abbrev root : ℕ
  root = root_of (decode score) 0

  pub root_known : root < (sizes score).agents
  root_known = omega (arith, p.lawful.roots_known 0 p.lawful.some_roots, playable_agents score p)

  root_lawful : (n : ℕ) → (sizes score).agents ≤ n → LawfulState n (start_state (decode score))
  unfolding LawfulState
  root_lawful n le = on_cons {P = λ i. i < n} (omega (arith, root_known)) (λ i m. absurd (Memᴰ.not-nil m))

  pub started : {flags : List Bool} → flags ≡ set (replicate 1024 false) root true → state_in (record { running = true; awake = flags }) ≡ state_of (as_bytes (start_state (decode score)))
  unfolding state_in
  started e =
      ap (λ l. running (set_of l)) (e ∙ one_flag 1024 root (omega (arith, root_known, (sizes_few score).1)))
      ∙ sym (same_running (as_bytes (start_state (decode score))) (root ∷ []) (state_round (start_state (decode score)) (root_lawful 1024 (sizes_few score).1)))

  pub start_lawful : LawfulState (sizes score).agents (state_of (as_bytes (start_state (decode score))))
  start_lawful = faultless_lawful (sizes score).agents (as_bytes (start_state (decode score))) (lawful_bytes (sizes score).agents (sizes_few score).1 (start_state (decode score)) (root_lawful (sizes score).agents (omega arith)))

  pub start_bytes_lem : numbered (state_of (as_bytes (start_state (decode score)))) 0 ≡ start_bytes (decode score)
  start_bytes_lem = numbered_same _ (start_state (decode score)) 0 (state_round (start_state (decode score)) (root_lawful 1024 (sizes_few score).1))
