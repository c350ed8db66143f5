-- `write_unnumbered`: by whether the score is running.
use mathlib.Core.Path.{◌≡◌, refl, sym, ap, subst, ◌∙◌}
use mathlib.Core.Bool.{Bool, true, false, cond}
use mathlib.Core.List.{List, [], ◌∷◌, ◌++◌}
use Prim.Native.Nat.{ℕ, ◌<◌, ◌≤◌}
use borrow.Author.Rules.{rules}
use native.Mathlib.Omega.{arith}
use lib.ListN.{get_or, drop, replicate}
use Rattle.tcc.specs.Instant.{running, aborted}
use Rattle.flags.specs.Flags.{set_of}
use Rattle.flags.proofs.Flags.{flag_member, set_of_none}
use Rattle.instant_engine.proofs.Outcomes.{flags_none}
use Rattle.bits.specs.Bits.{bytes_of}
use Rattle.lent.specs.Lengths.{unnumbered_bytes}
use Rattle.lent.specs.States.{running_word, aborted_word, agent_words, as_bytes, LawfulState}
use Rattle.instant_state.specs.declared.Standing.{Standing}
use Rattle.instant_state.specs.Standing.{state_in}
use Rattle.instant_state.proofs.Inside.{flags_known}
use Rattle.instant_state.proofs.write_unnumbered.Statement.{statement}
use Rattle.instant_state.proofs.write_unnumbered.Tie as tie

module _ (s : Standing) (rest t : List ℕ) where
  running_bytes : s.running ≡ true → t ≡ bytes_of (running_word ∷ agent_words (set_of s.awake)) ++ rest → t ≡ as_bytes (state_in s) ++ rest
  unfolding state_in as_bytes
  running_bytes e p = p ∙ sym (ap (λ b. as_bytes (cond b (running (set_of s.awake)) aborted) ++ rest) e)

  aborted_bytes : s.running ≡ false → t ≡ bytes_of (aborted_word ∷ agent_words (set_of (replicate 1024 false))) ++ rest → t ≡ as_bytes (state_in s) ++ rest
  unfolding state_in as_bytes
  aborted_bytes e p =
      p
      ∙ ap (λ l. bytes_of (aborted_word ∷ agent_words l) ++ rest) (set_of_none 1024)
      ∙ sym (ap (λ b. as_bytes (cond b (running (set_of s.awake)) aborted) ++ rest) e)

awake_known : (n : ℕ) (s : Standing) → s.running ≡ true → LawfulState n (state_in s) → (i : ℕ) → n ≤ i → get_or s.awake i false ≡ false
unfolding state_in LawfulState
awake_known n s e l i h = go (get_or s.awake i false) refl
  where
    known : LawfulState n (running (set_of s.awake))
    known = subst (λ b. LawfulState n (cond b (running (set_of s.awake)) aborted)) e l

    go : (b : Bool) → get_or s.awake i false ≡ b → get_or s.awake i false ≡ false
    go true f = absurd (let k : i < n = known i (flag_member s.awake f) in omega arith)
    go false f = f

none_known : (i : ℕ) → get_or (replicate 1024 false) i false ≡ false
none_known i = ap (λ l. get_or l i false) (flags_none 1024) ∙ flags_known 1024 0 [] (λ j m. elim m [ ]) i (omega arith)

write_unnumbered_requires : tie.Need-write_unnumbered-requires
write_unnumbered_requires c κs =
    let b = c in
    (b.requires.0, awake_known b.args.agents b.args.standing c.if-standing.true b.requires.1)

same_length : tie.Need-shape_of-state-then-standing
same_length c = search rules

returns : tie.Need-returns-then-standing
returns c =
    let a = c.args in
    let t = c.write_unnumbered in
    running_bytes a.standing (drop unnumbered_bytes a.state.now) t.new.state c.if-standing.true t.ensures

write_unnumbered_requires_2 : tie.Need-write_unnumbered-requires-2
write_unnumbered_requires_2 c κs = (c.requires.0, λ i h. none_known i)

same_length_2 : tie.Need-shape_of-state
same_length_2 c = search rules

returns_2 : tie.Need-returns
returns_2 c =
    let a = c.args in
    let t = c.write_unnumbered-2 in
    aborted_bytes a.standing (drop unnumbered_bytes a.state.now) t.new.state c.if-standing.false t.ensures

pub write_unnumbered_spec : {M : Type 1} → statement M
write_unnumbered_spec =
    tie.close (tie.spec write_unnumbered_requires same_length returns write_unnumbered_requires_2 same_length_2 returns_2)
