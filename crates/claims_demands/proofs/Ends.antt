-- The end of an order, held against the bytes of an answered instant.
--     ends_same            an end that agrees with an answer agrees with any answer that is the same
--     quiet_status         the status by the store, as a number
--     leaves               an end that agrees with the definition's answer gives the instant's bytes
--     store_back           the store map has the tokens of the definition's store
--     ends_like            so such an end is read off the bytes
--     from_aborted         from an aborted state nothing is reduced
use mathlib.Core.Path.{◌≡◌, refl, sym, ap, subst, subst⁻¹, ◌∙◌}
use mathlib.Core.Bool.{Bool, true, false, cond}
use mathlib.Core.List.{List, [], Memᴰ}
use Prim.Native.Nat.{ℕ, suc, ◌<◌}
use native.Mathlib.Omega.{arith}
use borrow.Author.Tests.{lt-ltb, ne_eqb}
use lib.Dec.{ltb}
use Rattle.laws.specs.Sets.{Same, has}
use Rattle.laws.proofs.Booleans.{true_is_false}
use Rattle.laws.proofs.Sets.{Within, has_member, member_has, on_keep, keep_kept, same_sym, same_trans}
use Rattle.tcc.specs.Score.{Score}
use Rattle.tcc.specs.Order.{Item, End, aborted, left, awake_next}
use Rattle.tcc.specs.Instant.{Answer, aborted_answer, output, running, answer, after}
use Rattle.tcc.proofs.Output.{output_same, output_none}
use Rattle.tcc.specs.Instant as state
use Rattle.tcc.specs.Confluence.{QuietAs, EndsAs}
use Rattle.tcc.proofs.SameAnswer.{SameAnswer}
use Rattle.format.specs.Decode.{decode}
use Rattle.lent.specs.States.{state_of, instant_number, numbered, next_bytes, SameState}
use Rattle.lent.proofs.Numbered.{numbered_same}
use Rattle.lent.proofs.SameState.{state_running, state_aborted}
use Rattle.lent_maps.specs.Maps.{tokens_in, map_of}
use Rattle.lent_maps.proofs.Round.{map_of_same, map_round}
use Rattle.journal_words.proofs.Rising.{none_rising, rising_map}
use Rattle.claims_demands.specs.Calls.{Answered}
use Rattle.claims_demands.specs.Determinacy.{EndsLike}
use Rattle.claims_demands.specs.Operational.{Holds, Leaves}
use Rattle.claims_demands.proofs.Accepted.{given, lawful}
use Rattle.claims_demands.proofs.Instants.{IsInstant, instant_inside, after_round}

pub ends_same : (sc : Score) (e : End) {a b : Answer} → SameAnswer a b → (a.status ≡ 2 → a ≡ aborted_answer) → EndsAs sc e b → EndsAs sc e a
ends_same sc aborted same whole h = whole (same.status ∙ ap (λ x. x.status) h)
ends_same sc (left l s) same whole h = record {
  unaborted = λ e. h.unaborted (sym same.status ∙ e);
  store = same_trans h.store (same_sym same.store);
  clash = λ m. same.status ∙ h.clash m;
  no_clash = λ n. same.status ∙ h.no_clash n;
  awake = same_trans h.awake (same_sym same.awake);
}

quiet_status : {sc : Score} {l : List Item} {s : List ℕ} {a : Answer} → QuietAs sc l s a → a.status ≡ cond (has 0 s) 1 0
quiet_status {s = s} {a = a} q = go (has 0 s) refl
  where
    go : (b : Bool) → has 0 s ≡ b → a.status ≡ cond b 1 0
    go true e = q.clash (has_member 0 s e)
    go false e = q.no_clash (λ m. true_is_false (member_has m) e)

quiet_after : {sc : Score} {l : List Item} {s : List ℕ} {a : Answer} → QuietAs sc l s a → after a ≡ running a.awake
quiet_after {a = a} q = rw (ne_eqb a.status 2 q.unaborted)

-- the tokens of a map of tokens below 256
map_back : (l : List ℕ) → Within (λ t. t < 256) l → Same (tokens_in (map_of l)) l
map_back l within = same_trans (map_round l) (λ t. (
  λ m. on_keep {P = λ u. Memᴰ u l} (λ u. ltb u 256) l (λ u k p. k) t m,
  λ m. keep_kept (λ u. ltb u 256) m (lt-ltb t 256 (within t m)),
))

module _ {score : List ℕ} {p : Answered} (h : IsInstant score p) where
  abbrev now : Answer
  now = given score p.before p.inputs

  aborted_holds : now ≡ aborted_answer → Holds p 2 (map_of []) (map_of []) (numbered state.aborted (suc (instant_number p.before)))
  aborted_holds e = record {
    status_is = ap (λ q. q.status) h.is ∙ ap (λ a. a.status) e;
    store_is = ap (λ q. q.store) h.is ∙ ap (λ a. map_of a.store) e;
    output_is = ap (λ q. q.output) h.is ∙ ap (λ a. map_of (output (decode score) a.status a.store)) e ∙ ap map_of (output_none (decode score) 2);
    after_is = ap (λ q. q.after) h.is ∙ ap (next_bytes p.before) e;
  }

  pub leaves : (e : End) → EndsAs (decode score) e now → Leaves (decode score) e p
  unfolding SameState
  leaves aborted e = aborted_holds e
  leaves (left l s) q = record {
    status_is = ap (λ r. r.status) h.is ∙ quiet_status q;
    store_is = ap (λ r. r.store) h.is ∙ map_of_same (same_sym q.store);
    output_is = ap (λ r. r.output) h.is ∙ ap (λ n. map_of (output (decode score) n now.store)) (quiet_status q) ∙ ap map_of (output_same (decode score) (cond (has 0 s) 1 0) (same_sym q.store));
    after_is = ap (λ r. r.after) h.is ∙ ap (λ st. numbered st (suc (instant_number p.before))) (quiet_after q) ∙ numbered_same (running now.awake) (running (awake_next (decode score) l)) (suc (instant_number p.before)) (same_sym q.awake);
  }

  pub store_back : Same (tokens_in p.store) now.store
  store_back =
      let few = (lawful score h.accepted).tokens_at_most in
      subst⁻¹ (λ (r : Answered). Same (tokens_in r.store) now.store) h.is (map_back now.store (λ t m. omega (arith, (instant_inside h).tokens t m)))

  pub ends_like : (e : End) → EndsAs (decode score) e now → EndsLike (decode score) e p
  ends_like aborted e = let holds = aborted_holds e in record {
    status = holds.status_is;
    no_store = ap tokens_in holds.store_is ∙ rising_map 0 [] (omega arith) none_rising;
    is_aborted = state_aborted (state_of p.after) (subst (λ a. SameState (state_of p.after) (after a)) e (after_round h));
  }
  ends_like (left l s) q =
      let runs = state_running p.after now.awake (subst (λ st. SameState (state_of p.after) st) (quiet_after q) (after_round h)) in
      let status : p.status ≡ now.status = ap (λ r. r.status) h.is in
      record {
        store = same_trans q.store (same_sym store_back);
        clash = λ m. status ∙ q.clash m;
        no_clash = λ n. status ∙ q.no_clash n;
        is_running = runs.0;
        awake = same_trans q.awake (same_sym runs.1);
      }

  pub from_aborted : state_of p.before ≡ state.aborted → Holds p 2 (map_of []) (map_of []) (numbered state.aborted (suc (instant_number p.before)))
  unfolding answer
  from_aborted e = aborted_holds (ap (λ st. answer (decode score) st p.inputs) e)
