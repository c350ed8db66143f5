-- What the fate of a live agent says of it, and of its bit.
--     Says, fate_says      whether it is an abort, and whether it is reduced
--     bit_live, bit_by     its bit, if it is live and if it is not
--     word_set, word_unset     one bit more in a word
use mathlib.Core.Path.{◌≡◌, refl, sym, ap, ap₂, subst, ◌∙◌}
use mathlib.Core.Bool.{Bool, true, false, cond, ◌&&◌}
use mathlib.Core.List.{List, Memᴰ}
use Prim.Native.Nat.{ℕ, ◌+◌, ◌*◌, ◌%◌, ◌^◌, ◌<◌}
use mir.Val.{bool_byte}
use lib.Bits.{bit_or}
use lib.ListN.{length}
use Rattle.laws.specs.Sets.{has}
use Rattle.laws.proofs.Sets.{member_has, not_has}
use Rattle.tcc.specs.Score.{Score, agent_at}
use Rattle.tcc.specs.Instant.{is_abort, reducible, reduced_of}
use Rattle.tcc.specs.declared.Agent.{Agent}
use Rattle.bits.specs.Bits.{bits_value}
use Rattle.bits.proofs.Bits.{bits_value_or, bits_value_skip}
use Rattle.instant_end.specs.declared.Fate.{Fate}
use Rattle.instant_end.specs.declared.Fate.TheVariants.{Aborts, Reduced, Stays}
use Rattle.instant_end.specs.Ended.{fate_of}
use Rattle.instant_end.proofs.Reduced.{reduced_has}

abbrev pub Says : Fate → Bool → Bool → Type 0
Says Aborts abort reduced = abort ≡ true
Says Reduced abort reduced = (abort ≡ false) × (reduced ≡ true)
Says Stays abort reduced = (abort ≡ false) × (reduced ≡ false)

pub fate_says : (held : List ℕ) (a : Agent) (fate : Fate) → fate_of held a ≡ fate → Says fate (is_abort a) (reducible held a)
fate_says held a fate e = subst (λ f. Says f (is_abort a) (reducible held a)) e (by_both (is_abort a) (reducible held a))
  where
    by_both : (b c : Bool) → Says (cond b Aborts (cond c Reduced Stays)) b c
    by_both true c = refl
    by_both false true = (refl, refl)
    by_both false false = (refl, refl)

module _ (sc : Score) (live held : List ℕ) (i : ℕ) (known : i < length sc.agents) where
  pub bit_live : Memᴰ i live → {b : Bool} → reducible held (agent_at sc i) ≡ b → has i (reduced_of sc held live) ≡ b
  bit_live m e = reduced_has sc live held i known ∙ ap₂ ◌&&◌ (member_has m) e

  pub bit_by : (Memᴰ i live → ⊥) → has i (reduced_of sc held live) ≡ false
  bit_by out = reduced_has sc live held i known ∙ ap (λ b. b && reducible held (agent_at sc i)) (not_has out)

module _ (f : ℕ → Bool) (j w : ℕ) (e : w ≡ bits_value f j) where
  pub word_set : j < 32 → f j ≡ true → bit_or w (1 * 2 ^ j % 2 ^ 32) ≡ bits_value f (j + 1)
  word_set h p = ap₂ (λ x b. bit_or x (bool_byte b * 2 ^ j % 2 ^ 32)) e (sym p) ∙ bits_value_or f j h

  pub word_unset : f j ≡ false → w ≡ bits_value f (j + 1)
  word_unset p = e ∙ sym (bits_value_skip f j p)
