-- The words of an instant against a status and flags of outputs.
--     formed_wide      words formed at T tokens are formed at 256
--     some_word        and there is one
--     status_differs   they are not those of another status
--     outputs_decide   and of the same status they are those of the outputs that they say
use mathlib.Core.Path.{◌≡◌, refl, sym, ap, ap₂, subst⁻¹, ◌∙◌}
use mathlib.Core.Bool.{Bool, false}
use mathlib.Core.List.{List}
use Prim.Native.Nat.{ℕ, ◌<◌, ◌≤◌}
use native.Mathlib.Omega.{arith}
use lib.ListN.{length, get_or}
use Rattle.std.specs.Bool.{Decides}
use Rattle.std.proofs.lemmas.Bool.Decides.{same_from_decides, Decides-like}
use Rattle.laws.proofs.Booleans.{true_is_false}
use Rattle.words.specs.Word.{field}
use Rattle.flags.specs.Flags.{set_of, flags_of}
use Rattle.flags.proofs.Flags.{flags_settled}
use Rattle.journal_form.specs.Form.{status_in}
use Rattle.journal_instants.specs.Instants.{tokens_of, inputs_in}
use Rattle.journal_words.specs.History.{instant_words, RisingBelow}
use Rattle.journal_words.specs.Formed.{Formed}
use Rattle.journal_words.proofs.Rising.{rising_within, rising_set, flags_rising}
use Rattle.journal_words.proofs.Formed.{words_outputs}
use Rattle.journal_check.specs.Check.{same}
use Rattle.journal_check.proofs.Exact.{same_itself, same_equal}

pub formed_wide : (T : ℕ) {ws : List ℕ} → T ≤ 256 → Formed T ws → Formed 256 ws
formed_wide T few f = record {
  is = f.is;
  inputs = rising_within f.inputs (λ t m. let h : t < T = f.inputs.below t m in omega arith);
  outputs = rising_within f.outputs (λ t m. let h : t < T = f.outputs.below t m in omega arith);
}

pub some_word : {ws : List ℕ} → Formed 256 ws → 0 < length ws
unfolding instant_words
some_word f = subst⁻¹ (λ l. 0 < length l) f.is (omega arith)

status_back : (s : ℕ) (inputs outputs : List ℕ) → s < 3 → status_in (get_or (instant_words s inputs outputs) 0 0) ≡ s
unfolding instant_words field
status_back s inputs outputs h = omega arith

module _ (ws : List ℕ) (f : Formed 256 ws) (status : ℕ) (small : status < 3) (out : List Bool) (long : length out ≡ 256) where
  abbrev written : List ℕ
  written = instant_words status (inputs_in ws) (set_of out)

  out_rising : RisingBelow 256 (set_of out)
  out_rising = rising_within (flags_rising out) (λ t m. let h : t < length out = (flags_rising out).below t m in omega arith)

  -- what equal words have in common
  status_same : ws ≡ written → status_in (get_or ws 0 0) ≡ status
  status_same e = ap (λ l. status_in (get_or l 0 0)) e ∙ status_back status (inputs_in ws) (set_of out) small

  outputs_same : ws ≡ written → flags_of 256 (tokens_of 14 ws) ≡ out
  outputs_same e =
      ap (λ l. flags_of 256 (tokens_of 14 l)) e
      ∙ ap (flags_of 256) (words_outputs 256 (omega arith) status (inputs_in ws) (set_of out) small f.inputs out_rising)
      ∙ sym (flags_settled 256 (set_of out) out long (λ i h. (λ m. m, λ m. m)))

  words_same : status_in (get_or ws 0 0) ≡ status → flags_of 256 (tokens_of 14 ws) ≡ out → ws ≡ written
  words_same s o = f.is ∙ ap₂ (λ x l. instant_words x (inputs_in ws) l) s (sym (rising_set 256 256 (tokens_of 14 ws) (omega arith) f.outputs) ∙ ap set_of o)

  same_is : Decides (same ws written) (ws ≡ written)
  same_is = (same_equal ws written, λ e. ap (same ws) (sym e) ∙ same_itself ws)

  pub status_differs : (status_in (get_or ws 0 0) ≡ status → ⊥) → same ws written ≡ false
  status_differs ne = sym (same_from_decides false (same ws written) (λ e. absurd (true_is_false e refl), λ e. absurd (ne (status_same e))) same_is)

  pub outputs_decide : status_in (get_or ws 0 0) ≡ status → {said : Bool} → Decides said (flags_of 256 (tokens_of 14 ws) ≡ out) → said ≡ same ws written
  outputs_decide s {said} d = same_from_decides said (same ws written) (Decides-like said (words_same s) outputs_same d) same_is
