-- An order of a draft, carried over step by step to an order of the plain score.
--     ItemStands           a copy stands under its set; the token of an input is one of the draft's
--     Beside               a multiset and a store of the draft beside a multiset and a store of the plain score
--     Leads                the plain score goes on to what is beside the draft's multiset and store
--     does                 what a copy's plain agent is, by what its agent is
--     picked, beside_more, beside_told     a copy is picked, comes in, tells
--     by_step, step_leads  a step is carried over to a step, that of a watch to none
--     EndLeads, leads_on, order_leads     so an order is carried over to an order, an aborted one to an aborted one
use mathlib.Core.Path.{◌≡◌, refl, subst}
use mathlib.Core.List.Memᴰ
use mathlib.Core.List.{List, ◌∷◌}
use Prim.Native.Nat.{ℕ, ◌<◌}
use Rattle.laws.proofs.Sets.{Within, on_cons}
use Rattle.tcc.specs.Score.{Score}
use Rattle.tcc.specs.Store.{Closes, closure}
use Rattle.tcc.specs.Order as plain
use Rattle.tcc.proofs.Store.{closure_exact}
use Rattle.draft_language.specs.Draft.{Draft, draft_agent_at, whens}
use Rattle.draft_language.specs.Order.{Item, copy, input, Pick, Step, skip, tell, input_tell, parallel, call, when, unless, watch, End, aborted, left, Order, stop, step, abort}
use Rattle.draft_language.specs.declared.DraftAgent.{DraftAgent}
use Rattle.draft_language.proofs.Carries.{Extends, Carried, Carries}
use Rattle.draft_language.proofs.Whens.{token_known}
use Rattle.draft_language.proofs.Steps.{pick_member, pick_left}
use Rattle.draft_language.proofs.Matching.{carry, Matches, one, matches_pick}
use Rattle.draft_language.proofs.Stores.{told_extends}

module _ {d : Draft} {sc : Score} {Member : ℕ → ℕ → Type 0} {Ok : List ℕ → Type 0} {Standing : ℕ → List ℕ → Type 0} {place : ℕ → List ℕ → ℕ} (carries : Carries d sc Member Ok Standing place) where
  abbrev pub ItemStands : Item → Type 0
  ItemStands (copy i set) = Standing i set
  ItemStands (input t) = t < d.tokens

  pub record Beside (l : List Item) (s : List ℕ) (l' : List plain.Item) (p : List ℕ) : Type 0 where
    pub matches : Matches place l l'
    pub extends : Extends d Member s p
    pub stands : Within ItemStands l

  pub record Leads (l : List Item) (s : List ℕ) (from : List plain.Item) (p : List ℕ) : Type 0 where
    pub items : List plain.Item
    pub store : List ℕ
    pub beside : Beside l s items store
    pub goes : {more : List plain.Item} {e : plain.End} → plain.Order sc items store more e → (steps : List plain.Item) × plain.Order sc from p steps e

  pub does : (i : ℕ) (set : List ℕ) {w : DraftAgent} → Standing i set → draft_agent_at d i ≡ w → Carried d sc Member Ok Standing place i set w
  does i set stands e = subst (Carried d sc Member Ok Standing place i set) e (carries.carried i set stands)

  picked : {x : Item} {l k : List Item} {l' : List plain.Item} {s p : List ℕ} → Pick x l k → Beside l s l' p → (k' : List plain.Item) × plain.Pick (carry place x) l' k' × ItemStands x × Beside k s k' p
  picked {x} p b =
      let m = matches_pick place p b.matches in
      (m.0, m.1, b.stands x (pick_member p), record { matches = m.2; extends = b.extends; stands = λ y at. b.stands y (pick_left p y at) })

  beside_more : {x : Item} {k : List Item} {k' : List plain.Item} {s p : List ℕ} → ItemStands x → Beside k s k' p → Beside (x ∷ k) s (carry place x ∷ k') p
  beside_more h b = record { matches = one plain.here b.matches; extends = b.extends; stands = on_cons h b.stands }

  beside_told : {t : ℕ} {k : List Item} {k' : List plain.Item} {s s' p : List ℕ} → t < d.tokens → Closes (whens d) (t ∷ s) s' → Beside k s k' p → Beside k s' k' (closure sc (t ∷ p))
  beside_told known c b = record { matches = b.matches; extends = told_extends carries known b.extends c; stands = b.stands }

  by_step : {x : plain.Item} {k : List Item} {l' k' : List plain.Item} {s p p' : List ℕ} → plain.Step sc x l' p k' p' → Beside k s k' p' → Leads k s l' p
  by_step st b = record { items = _; store = _; beside = b; goes = λ o. (_, plain.step st o) }

  step_leads : {x : Item} {l k : List Item} {l' : List plain.Item} {s s' p : List ℕ} → Step d x l s k s' → Beside l s l' p → Leads k s' l' p
  step_leads (skip {i = i} {set = set} p e) b =
      let (k, q, h, c) = picked p b in
      by_step (plain.skip q (does i set h e)) c
  step_leads (tell {i = i} {t = t} {set = set} p e closes) b =
      let (k, q, h, c) = picked p b in
      by_step (plain.tell q (does i set h e) (closure_exact sc (t ∷ _))) (beside_told (token_known d carries.lawful i e t (Memᴰ.head refl)) closes c)
  step_leads (input_tell p closes) b =
      let (k, q, h, c) = picked p b in
      by_step (plain.input_tell q (closure_exact sc _)) (beside_told h closes c)
  step_leads (parallel {i = i} {set = set} p e) b =
      let (k, q, h, c) = picked p b in
      let (is, one-half, other) = does i set h e in
      by_step (plain.parallel q is) (beside_more one-half (beside_more other c))
  step_leads {l' = l'} {p = now} (call {i = i} {set = set} p e) b =
      let (k, q, h, c) = picked p b in
      let (r, is, root, body) = does i set h e in
      by_step (subst (λ j. plain.Step sc (plain.agent (place i set)) l' now (plain.agent j ∷ k) now) root (plain.call q is)) (beside_more body c)
  step_leads (when {i = i} {t = t} {set = set} p e m) b =
      let (k, q, h, c) = picked p b in
      let (is, body) = does i set h e in
      by_step (plain.when q is (b.extends.old t m)) (beside_more body c)
  step_leads (unless {i = i} {set = set} p e m) b =
      let (k, q, h, c) = picked p b in
      let (u, is, asked, asks, body) = does i set h e in
      by_step (plain.unless q is (asked _ _ b.extends m)) c
  step_leads {l' = l'} (watch {i = i} {set = set} p e) b =
      let (k, q, h, c) = picked p b in
      let (is, body) = does i set h e in
      record {
        items = l';
        store = _;
        beside = record { matches = one (subst (λ j. plain.Pick (plain.agent j) l' k) is q) c.matches; extends = c.extends; stands = on_cons body c.stands };
        goes = λ o. (_, o);
      }

  abbrev pub EndLeads : End → List plain.Item → List ℕ → Type 0
  EndLeads aborted l' p = (steps : List plain.Item) × plain.Order sc l' p steps plain.aborted
  EndLeads (left k s) l' p = Leads k s l' p

  leads_on : {l : List Item} {l' : List plain.Item} {s p : List ℕ} (x : Leads l s l' p) (e : End) → EndLeads e x.items x.store → EndLeads e l' p
  leads_on x aborted y = x.goes y.1
  leads_on x (left k s) y = record { items = y.items; store = y.store; beside = y.beside; goes = λ o. x.goes (y.goes o).1 }

  pub order_leads : {l steps : List Item} {l' : List plain.Item} {s p : List ℕ} {e : End} → Order d l s steps e → Beside l s l' p → EndLeads e l' p
  order_leads {l' = l'} {p = p} stop b = record { items = l'; store = p; beside = b; goes = λ o. (_, o) }
  order_leads {e = e} (step st o) b = let x = step_leads st b in leads_on x e (order_leads o x.beside)
  order_leads (abort {i = i} p e) b =
      let (k, q, h, c) = picked p b in
      (_, plain.abort q (does i _ h e))
