-- Standing facts at each answered instant.
--     fact_follows       each fact is in the closure of nothing
--     quiet_nothing      where there are no copies, nothing can be reduced
--     holds_facts        so at an answered instant
--     facts_hold         the theorem
use mathlib.Core.Path.{◌≡◌, refl, sym, ap, subst, subst⁻¹, subst₂, ◌∙◌}
use mathlib.Core.List.{List, [], Memᴰ}
use Prim.Native.Nat.{ℕ}
use native.Mathlib.Omega.{arith}
use Rattle.laws.proofs.Sets.{Among}
use Rattle.tcc.specs.Closure.{Rule}
use Rattle.tcc.specs.Score.{Score}
use Rattle.tcc.specs.Store.{by_rule, closure}
use Rattle.tcc.specs.Order.{Item, Pick, Step, skip, tell, input_tell, parallel, call, when, unless, left, Order, stop, Quiet, start}
use Rattle.tcc.specs.Order as order
use Rattle.tcc.proofs.Store.{closure_exact}
use Rattle.tcc.proofs.Output.{output_has}
use Rattle.tcc.proofs.Unaborted.{Unaborted, unaborted}
use Rattle.format.specs.Decode.{decode}
use Rattle.lent.specs.States.{state_of}
use Rattle.claims_demands.specs.Calls.{Answered}
use Rattle.claims_demands.proofs.Accepted.{given}
use Rattle.claims_demands.proofs.Instants.{IsInstant, instant_inside, sent_back}
use Rattle.claims_demands.proofs.Linked.{linked_each}
use Rattle.claims_demands.proofs.Calls.{linked}
use Rattle.claims_demands.proofs.Ends.{leaves, store_back}
use Rattle.claims_demands.proofs.Rules.{by_the_rules}
use Rattle.claims_facts.specs.FactsHold.{HoldsFacts, FactsHold}

module _ (sc : Score) where
  fact_follows : (r : Rule ℕ) → Memᴰ r sc.rules → r.premises ≡ [] → Memᴰ r.conclusion (closure sc [])
  fact_follows r m e = (closure_exact sc [] r.conclusion).1 (by_rule r m (λ p k. let z : Memᴰ p [] = subst (Memᴰ p) e k in elim z [ ]) refl)

  none_picked : {x : Item} {k : List Item} → Pick x [] k → ⊥
  none_picked p = elim p [ ]

  no_step : (x : Item) (k : List Item) (s s' : List ℕ) → Step sc x [] s k s' → ⊥
  no_step x k s s' (skip p e) = none_picked p
  no_step x k s s' (tell p e c) = none_picked p
  no_step x k s s' (input_tell p c) = none_picked p
  no_step x k s s' (parallel p e) = none_picked p
  no_step x k s s' (call p e) = none_picked p
  no_step x k s s' (when p e m) = none_picked p
  no_step x k s s' (unless p e m) = none_picked p

  quiet_nothing : (s : List ℕ) → Quiet sc [] s
  quiet_nothing s = record { no_step = λ x k s'. no_step x k s s'; no_abort = λ i k p e. none_picked p }

module _ {score : List ℕ} {p : Answered} (h : IsInstant score p) where
  status_is : p.status ≡ (given score p.before p.inputs).status
  status_is = ap (λ q. q.status) h.is

  now : (p.status ≡ 2 → ⊥) → Unaborted (decode score) (given score p.before p.inputs)
  now n = unaborted (decode score) (state_of p.before) p.inputs (λ e. n (status_is ∙ e))

  facts : (p.status ≡ 2 → ⊥) → Among (closure (decode score) []) (given score p.before p.inputs).store
  facts n = (now n).follows [] (λ t m. elim m [ ])

  holds_facts : HoldsFacts (decode score) p
  holds_facts =
      let sc = decode score in
      let s = closure sc [] in
      record {
        fact = λ n r m e. (store_back h r.conclusion).1 (facts n r.conclusion (fact_follows sc r m e));
        stored = λ n t m. (store_back h t).1 (facts n t m);
        sent = λ quiet t m low high. subst⁻¹ (Memᴰ t) (sent_back h)
            (output_has sc _ (record { no_clash = λ e. omega (arith, quiet, status_is, e); low = low; high = high; held = facts (λ e. omega (arith, quiet, e)) t m }));
        clash = λ n m. status_is ∙ (now n).clash (facts n 0 m);
        alone = λ runs none no-inputs. (by_the_rules h).every runs s [] (left [] s) (closure_exact sc [])
            (subst₂ (λ agents inputs. Order sc (start agents inputs) s [] (left [] s)) (sym none) (sym no-inputs) stop) (quiet_nothing sc s);
        none = λ e. leaves h order.aborted ((instant_inside h).aborted_whole (sym status_is ∙ e));
      }

pub facts_hold : FactsHold
facts_hold score first last calls answered turn answers p m = holds_facts (linked_each (linked turn answers) p m)
