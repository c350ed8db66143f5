-- The live agents, read from agent 0 on.
--     flagged_length, flagged_kept, flagged_here, flagged_cases     what flagging adds
--     read_none            no agent is read
--     read_by, read_more   agent i is read: it is not live; it is, and leaves its body
--     read_beyond          there are no more agents
--     read_free, read_awake     all are read: none aborts, and the bodies left are awake
--     abort_found          a live agent is an abort
use mathlib.Core.Path.{◌≡◌, refl, sym, ap, subst, subst⁻¹, ◌∙◌}
use mathlib.Core.Bool.{Bool, true, false, cond}
use mathlib.Core.List.Memᴰ
use mathlib.Core.List.{List, [], ◌∷◌, Memᴰ}
use mathlib.Core.Logic.{◌⊎◌, inl, inr, ⊎_elim, by_cases}
use Prim.Native.Nat.{ℕ, ◌+◌, ◌<◌, ◌≤◌}
use native.Mathlib.Decide.{dec_lt, ℕ_discrete}
use native.Mathlib.Nat.{not-suc-le-zero}
use native.Mathlib.Omega.{arith}
use lib.ListN.{length, set, replicate, length-set, length-replicate, get_or-eq_default}
use Rattle.laws.specs.Sets.{any, has}
use Rattle.laws.proofs.Booleans.{true_is_false}
use Rattle.laws.proofs.Sets.{Within, any_some, some_any}
use Rattle.tcc.specs.Score.{Score, agent_at, parts_of}
use Rattle.tcc.specs.Instant.{is_abort, leaves, left_awake}
use Rattle.tcc.specs.Lawful.{Lawful}
use Rattle.tcc.specs.declared.Agent.{Agent}
use Rattle.tcc.specs.declared.Agent.TheVariants.{Skip, Abort, Tell, Parallel, When, Next, Unless, Call}
use Rattle.tcc.proofs.FixedPoint.{awake_member, member_awake}
use Rattle.flags.specs.Flags.{set_of, flags_of}
use Rattle.flags.proofs.Flags.{set_kept, set_here, set_cases, set_of_none, flags_settled}
use Rattle.instant_end.specs.Ended.{flagged, Read}

pub flagged_length : (l : List ℕ) (flags : List Bool) → length (flagged l flags) ≡ length flags
flagged_length [] flags = refl
flagged_length (b ∷ l) flags = flagged_length l (set flags b true) ∙ length-set flags b true

flagged_kept : (l : List ℕ) (flags : List Bool) {x : ℕ} → Memᴰ x (set_of flags) → Memᴰ x (set_of (flagged l flags))
flagged_kept [] flags m = m
flagged_kept (b ∷ l) flags m = flagged_kept l (set flags b true) (set_kept flags b m)

flagged_here : (l : List ℕ) (flags : List Bool) → Within (λ b. b < length flags) l → {x : ℕ} → Memᴰ x l → Memᴰ x (set_of (flagged l flags))
flagged_here [] flags few {x = x} m = elim m [ ]
flagged_here (b ∷ l) flags few {x} m = ⊎_elim
    (λ (e : x ≡ b). subst⁻¹ (λ n. Memᴰ n (set_of (flagged (b ∷ l) flags))) e (flagged_kept l (set flags b true) (set_here flags b (few b (Memᴰ.head refl)))))
    (λ (k : Memᴰ x l). flagged_here l (set flags b true) (λ y n. omega (arith, few y (Memᴰ.tail n), length-set flags b true)) k)
    (Memᴰ.cases_cons m)

flagged_cases : (l : List ℕ) (flags : List Bool) {x : ℕ} → Memᴰ x (set_of (flagged l flags)) → Memᴰ x l ⊎ Memᴰ x (set_of flags)
flagged_cases [] flags m = inr m
flagged_cases (b ∷ l) flags {x} m = ⊎_elim
    (λ (k : Memᴰ x l). inl (Memᴰ.tail k))
    (λ (k : Memᴰ x (set_of (set flags b true))). ⊎_elim (λ (e : x ≡ b). inl (Memᴰ.head e)) (λ (n : Memᴰ x (set_of flags)). inr n) (set_cases flags b k))
    (flagged_cases l (set flags b true) m)

-- the body that an agent leaves is a part of it
leaves_part : (held : List ℕ) (a : Agent) {b : ℕ} → Memᴰ b (leaves held a) → Memᴰ b (parts_of a)
leaves_part held Skip m = absurd (elim m [ ])
leaves_part held Abort m = absurd (elim m [ ])
leaves_part held (Tell t) m = absurd (elim m [ ])
leaves_part held (Parallel a c) m = absurd (elim m [ ])
leaves_part held (When t c) m = absurd (elim m [ ])
leaves_part held (Next c) m = m
leaves_part held (Unless t c) {b} m = go (has t held) m
  where
    go : (x : Bool) → Memᴰ b (cond x [] (c ∷ [])) → Memᴰ b (c ∷ [])
    go true m = absurd (elim m [ ])
    go false m = m
leaves_part held (Call p) m = absurd (elim m [ ])

module _ (sc : Score) (live held : List ℕ) where
  pub read_none : Read sc live held 0 (replicate 1024 false)
  read_none = record {
    long = length-replicate 1024 false;
    free = λ j lt m. absurd (not-suc-le-zero lt);
    sound = λ b m. absurd (elim (subst (λ l. Memᴰ b l) (set_of_none 1024) m) [ ]);
    whole = λ j b lt m left. absurd (not-suc-le-zero lt);
  }

  pub abort_found : (i : ℕ) → Memᴰ i live → is_abort (agent_at sc i) ≡ true → any (λ j. is_abort (agent_at sc j)) live ≡ true
  abort_found i m e = some_any (λ j. is_abort (agent_at sc j)) m e

  module _ {i : ℕ} {awake : List Bool} (r : Read sc live held i awake) where
    -- agent i, with the flags after it
    step : (awake' : List Bool) → length awake' ≡ 1024 → (Memᴰ i live → is_abort (agent_at sc i) ≡ false) →
        ((b : ℕ) → Memᴰ b (set_of awake) → Memᴰ b (set_of awake')) →
        ((b : ℕ) → Memᴰ b (set_of awake') → Memᴰ b (left_awake sc held live)) →
        ((b : ℕ) → Memᴰ i live → Memᴰ b (leaves held (agent_at sc i)) → Memᴰ b (set_of awake')) → Read sc live held (i + 1) awake'
    step awake' long free keeps sound whole = record {
      long = long;
      free = λ j lt m. go_free j lt m (ℕ_discrete j i);
      sound = sound;
      whole = λ j b lt m left. go_whole j b lt m left (ℕ_discrete j i);
    }
      where
        go_free : (j : ℕ) → j < i + 1 → Memᴰ j live → Dec (j ≡ i) → is_abort (agent_at sc j) ≡ false
        go_free j lt m (yes e) = subst⁻¹ (λ n. is_abort (agent_at sc n) ≡ false) e (free (subst (λ n. Memᴰ n live) e m))
        go_free j lt m (no d) = r.free j (omega arith) m

        go_whole : (j b : ℕ) → j < i + 1 → Memᴰ j live → Memᴰ b (leaves held (agent_at sc j)) → Dec (j ≡ i) → Memᴰ b (set_of awake')
        go_whole j b lt m left (yes e) = whole b (subst (λ n. Memᴰ n live) e m) (subst (λ n. Memᴰ b (leaves held (agent_at sc n))) e left)
        go_whole j b lt m left (no d) = keeps b (r.whole j b (omega arith) m left)

    pub read_by : (Memᴰ i live → ⊥) → Read sc live held (i + 1) awake
    read_by out = step awake r.long (λ m. absurd (out m)) (λ b m. m) r.sound (λ b m left. absurd (out m))

    pub read_more : Lawful sc → i < 1024 → Memᴰ i live → is_abort (agent_at sc i) ≡ false → Read sc live held (i + 1) (flagged (leaves held (agent_at sc i)) awake)
    read_more lawful few here no_Abort =
        let bodies = leaves held (agent_at sc i) in
        step (flagged bodies awake) (flagged_length bodies awake ∙ r.long) (λ m. no_Abort) (λ b m. flagged_kept bodies awake m)
        (λ b m. ⊎_elim (λ (k : Memᴰ b bodies). member_awake sc held here k) (λ (k : Memᴰ b (set_of awake)). r.sound b k) (flagged_cases bodies awake m))
        (λ b m left. flagged_here bodies awake (λ x k. omega (arith, lawful.parts_lower i x (leaves_part held (agent_at sc i) k), r.long)) left)

    pub read_beyond : (m : ℕ) → length sc.agents ≤ i → Read sc live held m awake
    read_beyond m all = record {
      long = r.long;
      free = λ j lt k. by_cases (dec_lt j i) (λ l. r.free j l k) (λ g. ap is_abort (none j (omega arith)));
      sound = r.sound;
      whole = λ j b lt k left. by_cases (dec_lt j i) (λ l. r.whole j b l k left) (λ g. absurd (elim (subst (λ a. Memᴰ b (leaves held a)) (none j (omega arith)) left) [ ]));
    }
      where
        none : (j : ℕ) → length sc.agents ≤ j → agent_at sc j ≡ Skip
        none j h = get_or-eq_default sc.agents Skip h

    module _ (all : length sc.agents ≤ i) where
      pub read_free : false ≡ any (λ j. is_abort (agent_at sc j)) live
      read_free = go (any (λ j. is_abort (agent_at sc j)) live) refl
        where
          go : (b : Bool) → any (λ j. is_abort (agent_at sc j)) live ≡ b → false ≡ any (λ j. is_abort (agent_at sc j)) live
          go true e = let x = any_some (λ j. is_abort (agent_at sc j)) live e in absurd (true_is_false x.2 ((read_beyond (x.0 + 1) all).free x.0 (omega arith) x.1))
          go false e = sym e

      pub read_awake : awake ≡ flags_of 1024 (left_awake sc held live)
      read_awake = flags_settled 1024 (left_awake sc held live) awake r.long
          (λ b lt. (r.sound b, λ m. let x = awake_member sc held live m in (read_beyond (x.0 + 1) all).whole x.0 b (omega arith) x.1 x.2))
