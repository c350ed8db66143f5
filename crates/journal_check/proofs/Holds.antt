-- One instant of a journal, from flags to the definition.
--     held_unlawful, held_differs, accepts     the instant that its inputs give, held against its words
use mathlib.Core.Path.{◌≡◌, sym, ap, subst, ◌∙◌}
use mathlib.Core.Bool.{Bool, true, false, not}
use mathlib.Core.List.{List}
use Prim.Native.Nat.{ℕ}
use borrow.Author.Tests.{not-true, not-false}
use Rattle.std.specs.Prelude.{Err}
use Rattle.tcc.specs.Instant.{State, Answer, answer}
use Rattle.format.specs.Decode.{decode}
use Rattle.format.specs.Playable.{Playable}
use Rattle.flags.specs.Flags.{set_of}
use Rattle.journal_instants.specs.Instants.{inputs_in}
use Rattle.journal_words.specs.History.{instant_words, entry}
use Rattle.journal_step.specs.declared.Step.{Step}
use Rattle.journal_step.specs.Stepped.{Stepped}
use Rattle.journal_step.proofs.FromStanding.{words_are}
use Rattle.journal_check.specs.declared.Mismatch.TheVariants.{Unlawful, Differs}
use Rattle.journal_check.specs.Check.{same}
use Rattle.journal_check.specs.Held.{Accepts, Held}

module _ (score : List ℕ) (p : Playable score) (st : State) (ws : List ℕ) (told : List Bool) (set : set_of told ≡ inputs_in ws)
    (s : Step) (is : Stepped score (answer (decode score) st (set_of told)) s) where
  abbrev now : Answer
  now = answer (decode score) st (inputs_in ws)

  abbrev written : List ℕ
  written = instant_words s.status (inputs_in ws) (set_of s.out)

  stepped : Stepped score now s
  stepped = subst (λ l. Stepped score (answer (decode score) st l) s) set is

  same_so : same ws written ≡ same ws (entry (decode score) (inputs_in ws) now)
  same_so = ap (same ws) (words_are score p st (inputs_in ws) stepped)

  pub held_unlawful : s.unlawful ≡ true → Held score now ws (Err Unlawful)
  held_unlawful u = sym stepped.unlawful_is ∙ u

  pub held_differs : s.unlawful ≡ false → {d : Bool} → d ≡ not (same ws written) → d ≡ true → Held score now ws (Err Differs)
  held_differs u so d = (sym stepped.unlawful_is ∙ u, sym same_so ∙ not-true _ (sym so ∙ d))

  pub accepts : s.unlawful ≡ false → {d : Bool} → d ≡ not (same ws written) → d ≡ false → Accepts score now ws s.standing
  accepts u so d = record {
    faultless = sym stepped.unlawful_is ∙ u;
    same_words = sym same_so ∙ not-false _ (sym so ∙ d);
    stands = stepped.stands;
    lawful = stepped.lawful;
  }
