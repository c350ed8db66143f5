-- The chains of a draft show the history of the plain score.
--     start_beside         the multisets and the stores that an instant starts with
--     old_has              the two stores pass the same tests of the draft's tokens
--     output_carried, status_carried, quiet_shown     so a quiet instant shows the same
--     aborted_shown        so do the instants from an abort on
--     chain_shown, carried_over     so does a chain: the theorem
use mathlib.Core.Path.{◌≡◌, refl, sym, ap, ap₂, ◌∙◌}
use mathlib.Core.Bool.{Bool, true, false}
use mathlib.Core.List.Memᴰ
use mathlib.Core.List.{List, [], ◌∷◌, ◌++◌, map}
use Prim.Native.Nat.{ℕ, ◌<◌}
use native.Mathlib.Omega.{arith}
use Rattle.laws.specs.Sets.{Same, has}
use Rattle.laws.proofs.Booleans.{true_is_false, by_test}
use Rattle.laws.proofs.Sets.{Within, on_append, on_map, has_member, member_has, not_has, has_same, same_trans}
use Rattle.tcc.specs.Score.{Score}
use Rattle.tcc.specs.Store.{Closes, closure}
use Rattle.tcc.specs.Instant.{Answer, output, running, instant, answer}
use Rattle.tcc.specs.Instant as state
use Rattle.tcc.specs.Order as plain
use Rattle.tcc.specs.Confluence.{QuietAs}
use Rattle.tcc.proofs.Store.{closure_exact}
use Rattle.tcc.proofs.Confluence.{confluence}
use Rattle.tcc.proofs.Chain.{after_running}
use Rattle.tcc.proofs.Output.{ports_between, output_none, output_agrees}
use Rattle.journal_words.specs.History.{instant_words, entry, history}
use Rattle.draft_language.specs.Draft.{Draft, whens}
use Rattle.draft_language.specs.Order.{Copy, Item, copy, input, End, aborted, left, start}
use Rattle.draft_language.specs.Chain.{InputsKnown, Chain, none, then, aborts, store_status, shown_at, shown}
use Rattle.draft_language.proofs.Carries.{Extends, Carries, OkEnds, StandingAll, places_of, CarriedOver}
use Rattle.draft_language.proofs.Matching.{matches_start}
use Rattle.draft_language.proofs.Stores.{start_extends}
use Rattle.draft_language.proofs.Orders.{ItemStands, Beside, order_leads}
use Rattle.draft_language.proofs.Ends.{quiet_ends}

module _ {d : Draft} {sc : Score} {Member : ℕ → ℕ → Type 0} {Ok : List ℕ → Type 0} {Standing : ℕ → List ℕ → Type 0} {place : ℕ → List ℕ → ℕ} (carries : Carries d sc Member Ok Standing place) where
  pub start_beside : {copies : List Copy} {inputs s : List ℕ} → Closes (whens d) [] s → StandingAll d sc Member Ok Standing place copies → Within (λ t. t < d.tokens) inputs → Beside carries (start copies inputs) s (plain.start (places_of place copies) inputs) (closure sc [])
  start_beside {copies} {inputs} closes stands known = record {
    matches = matches_start place copies inputs;
    extends = start_extends carries closes;
    stands = on_append (map (λ c. copy c.agent c.under) copies) (on_map (ItemStands carries) _ copies stands) (on_map (ItemStands carries) input inputs known);
  }

  module _ {s p : List ℕ} (extends : Extends d Member s p) where
    old_has : (t : ℕ) → t < d.tokens → has t s ≡ has t p
    old_has t known = go (has t s) refl
      where
        go : (b : Bool) → has t s ≡ b → has t s ≡ has t p
        go true e = e ∙ sym (member_has (extends.old t (has_member t s e)))
        go false e = e ∙ sym (not_has (λ m. true_is_false (member_has (extends.back t known m)) e))

    output_carried : (status : ℕ) {store : List ℕ} → Same p store → output (whens d) status s ≡ output sc status store
    output_carried status {store} same =
        output_agrees (whens d) sc (sym carries.same_lowest) (sym carries.same_highest) status s store
        (λ t m. old_has t (omega (arith, (ports_between (whens d) t m).1, carries.lawful.ports_known)) ∙ has_same t same)

    status_carried : {k : List plain.Item} {a : Answer} → QuietAs sc k p a → store_status s ≡ a.status
    status_carried {a = a} q = by_test (λ n. n ≡ a.status) (has 0 s)
        (λ e. sym (q.clash (extends.old 0 (has_member 0 s e))))
        (λ e. sym (q.no_clash (λ m. true_is_false (member_has (extends.back 0 carries.lawful.some_tokens m)) e)))

    quiet_shown : (inputs : List ℕ) (l : List Item) {k : List plain.Item} {a : Answer} → QuietAs sc k p a → shown_at d inputs (left l s) ≡ entry sc inputs a
    unfolding shown_at
    quiet_shown inputs l {a = a} q = rw (status_carried q) (ap (instant_words a.status inputs) (output_carried a.status q.store))

  aborted_shown : (rest : List (List ℕ)) → shown d rest (map (λ later. aborted) rest) ≡ history sc state.aborted rest
  unfolding shown shown_at history answer
  aborted_shown [] = refl
  aborted_shown (inputs ∷ rest) = ap₂ ◌++◌ (ap (instant_words 2 inputs) (sym (output_none sc 2))) (aborted_shown rest)

  chain_shown : {copies : List Copy} {instants : List (List ℕ)} {ends : List End} → Chain d copies instants ends → (agents : List ℕ) →
      OkEnds d sc Member Ok Standing place ends → InputsKnown d.tokens instants → StandingAll d sc Member Ok Standing place copies →
      Same (places_of place copies) agents → shown d instants ends ≡ history sc (running agents) instants
  unfolding shown history answer
  chain_shown none agents ok known stands same = refl
  chain_shown (then {copies = copies} {inputs = inputs} {s' = s'} {rest = more} {l = l} closes order quiet rest) agents ok known stands same =
      let ended = quiet_ends carries (order_leads carries order (start_beside closes stands (known inputs (Memᴰ.head refl)))) quiet (ok (left l s') (Memᴰ.head refl)) in
      let q = confluence sc agents (places_of place copies) inputs (closure sc []) ended.steps (plain.left ended.items ended.store) same (closure_exact sc []) ended.order ended.quiet in
      ap₂ ◌++◌ (quiet_shown ended.extends inputs l q)
      (chain_shown rest (instant sc agents inputs).awake (λ e m. ok e (Memᴰ.tail m)) (λ x m. known x (Memᴰ.tail m)) ended.stands (same_trans ended.awake q.awake)
      ∙ ap (λ st. history sc st more) (sym (after_running (instant sc agents inputs) q.unaborted)))
  chain_shown (aborts {copies = copies} {inputs = inputs} {rest = more} closes order) agents ok known stands same =
      let ended = order_leads carries order (start_beside closes stands (known inputs (Memᴰ.head refl))) in
      let e = confluence sc agents (places_of place copies) inputs (closure sc []) ended.0 plain.aborted same (closure_exact sc []) ended.1 tt in
      rw e (aborted_shown (inputs ∷ more))

pub carried_over : (d : Draft) (sc : Score) (Member : ℕ → ℕ → Type 0) (Ok : List ℕ → Type 0) (Standing : ℕ → List ℕ → Type 0) (place : ℕ → List ℕ → ℕ) → CarriedOver d sc Member Ok Standing place
carried_over d sc Member Ok Standing place carries copies agents instants ends chain ok known stands same = chain_shown carries chain agents ok known stands same
