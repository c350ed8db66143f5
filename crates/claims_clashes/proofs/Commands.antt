-- What an answered instant commands.
--     no_tokens          a map of no tokens has no bit set
--     held_settled       a store that has a token is that of an instant that did not abort
--     clashed_store      at status 1 the store has exactly the tokens below T
--     commands           the claim for one answered instant
--     silent             at status 1 its journal shows no output
use mathlib.Core.Path.{◌≡◌, refl, sym, ap, subst, ◌∙◌}
use mathlib.Core.List.{List, [], Memᴰ}
use Prim.Native.Nat.{ℕ}
use native.Mathlib.Omega.{arith}
use lib.ListN.{replicate}
use Rattle.laws.specs.Sets.{Same, below, has}
use Rattle.laws.proofs.Sets.{keep_agrees, has_same, same_sym, below_lt, lt_below}
use Rattle.tcc.specs.Score.{Score}
use Rattle.tcc.specs.Instant.{Answer, ports, output}
use Rattle.tcc.proofs.Output.{output_clash, output_else}
use Rattle.tcc.proofs.Unaborted.{Unaborted, unaborted, all_stored}
use Rattle.format.specs.Decode.{decode}
use Rattle.bits.specs.Bits.{bits_value}
use Rattle.lent.specs.Lengths.{map_bytes}
use Rattle.lent.specs.States.{state_of}
use Rattle.lent_maps.specs.Maps.{tokens_in, map_of}
use Rattle.lent_maps.proofs.Round.{map_of_same}
use Rattle.claims_demands.specs.Calls.{Answered}
use Rattle.claims_demands.proofs.Accepted.{given}
use Rattle.claims_demands.proofs.Instants.{IsInstant, instant_inside, sent_back}
use Rattle.claims_demands.proofs.Ends.{store_back}
use Rattle.claims_clashes.specs.NothingInAClash.{Commands}

no_tokens : map_of [] ≡ replicate map_bytes 0
unfolding map_of bits_value
no_tokens = refl

module _ {score : List ℕ} {p : Answered} (h : IsInstant score p) where
  abbrev sc : Score
  sc = decode score

  abbrev a : Answer
  a = given score p.before p.inputs

  status_is : p.status ≡ a.status
  status_is = ap (λ q. q.status) h.is

  settled : (a.status ≡ 2 → ⊥) → Unaborted sc a
  settled = unaborted sc (state_of p.before) p.inputs

  pub held_settled : {t : ℕ} → Memᴰ t a.store → Unaborted sc a
  held_settled {t} m = settled (λ e. let z : Memᴰ t [] = subst (λ x. Memᴰ t x.store) ((instant_inside h).aborted_whole e) m in elim z [ ])

  clashed_store : a.status ≡ 1 → Same a.store (below sc.tokens)
  clashed_store e t = (
    λ m. lt_below sc.tokens ((instant_inside h).tokens t m),
    λ m. all_stored (settled (λ two. omega (arith, e, two))) e t (below_lt sc.tokens t m),
  )

  pub commands : Commands sc p
  commands = record {
    clash = λ m. let k = (store_back h 0).0 m in status_is ∙ (held_settled k).clash k;
    nothing = λ e. sent ∙ ap (λ n. map_of (output sc n a.store)) (sym status_is ∙ e) ∙ ap map_of (output_clash sc a.store) ∙ no_tokens;
    shown = λ e. ap (λ q. q.store) h.is ∙ map_of_same (clashed_store (sym status_is ∙ e));
    otherwise = λ n. sent ∙ ap map_of (output_else sc a.status a.store (λ e. n (status_is ∙ e)) ∙ keep_agrees (λ t. has t a.store) (λ t. has t (tokens_in p.store)) (ports sc) (λ t m. has_same t (same_sym (store_back h))));
  }
    where
      sent : p.output ≡ map_of (output sc a.status a.store)
      sent = ap (λ q. q.output) h.is

  pub silent : p.status ≡ 1 → tokens_in p.output ≡ []
  silent e = sent_back h ∙ ap (λ n. output sc n a.store) (sym status_is ∙ e) ∙ output_clash sc a.store
