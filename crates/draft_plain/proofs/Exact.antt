-- Exact: every chain of a draft shows the plain score's history, and there is one.
--     ends_ok, copies_standing, copies_below      what the chains from a draft's start have
--     chain_shows     every chain from a draft's start shows the plain score's history
--     exact           the theorem
use mathlib.Core.Path.{◌≡◌, sym, ◌∙◌, subst}
use mathlib.Core.Bool.{true}
use mathlib.Core.List.{List, [], ◌∷◌}
use Prim.Native.Nat.{ℕ, ◌<◌}
use lib.ListN.{length, length-map}
use Rattle.laws.specs.Sets.{Same}
use Rattle.laws.proofs.Sets.{on_cons, same_refl}
use Rattle.tcc.specs.Score as plain
use Rattle.draft_language.specs.Draft.{Draft, root_of, as_when, LawfulDraft}
use Rattle.draft_language.specs.Order.{End, aborted, left}
use Rattle.draft_language.specs.Chain.{InputsKnown, Chain, start_copies, shown}
use Rattle.draft_language.specs.WeightBound.{CopiesBelow}
use Rattle.draft_language.proofs.Carries.{OkEnd, StandingAll}
use Rattle.draft_language.proofs.Carried.{carried_over}
use Rattle.draft_language.proofs.ChainExists.{chain_exists}
use Rattle.draft_plain.specs.Plain.{plain_of, fits}
use Rattle.draft_plain.specs.Exact.{plain_history, Exact}
use Rattle.draft_plain.proofs.Asked.{Member}
use Rattle.draft_plain.proofs.Carrying.{Standing, place_of, plain_carries, start_standing, plain_start}

module _ (d : Draft) where
  ends_ok : (e : End) → OkEnd d (plain_of d) (Member d) (λ s. Unit {0}) (Standing d) (place_of d) e
  ends_ok aborted = tt
  ends_ok (left l s) = tt

  copies_standing : StandingAll d (plain_of d) (Member d) (λ s. Unit {0}) (Standing d) (place_of d) (start_copies d)
  copies_standing = on_cons {P = λ c. Standing d c.agent c.under} (start_standing d) (λ c m. elim m [ ])

  copies_below : LawfulDraft d → CopiesBelow d (start_copies d)
  copies_below law = on_cons {P = λ c. c.agent < length d.agents} (subst (λ n. root_of d 0 < n) (length-map d.agents as_when) (law.roots_known 0 law.some_roots)) (λ c m. elim m [ ])

module _ (d : Draft) (instants : List (List ℕ)) (law : LawfulDraft d) (fit : fits (plain_of d) ≡ true) (known : InputsKnown d.tokens instants) where
  chain_shows : (ends : List End) → Chain d (start_copies d) instants ends → shown d instants ends ≡ plain_history d instants
  chain_shows ends c = carried_over d (plain_of d) (Member d) (λ s. Unit {0}) (Standing d) (place_of d) (plain_carries d law fit) (start_copies d) (plain.root_of (plain_of d) 0 ∷ []) instants ends c (λ e m. ends_ok d e) known (copies_standing d) same
    where
      same : Same (place_of d (root_of d 0) [] ∷ []) (plain.root_of (plain_of d) 0 ∷ [])
      same = subst (λ i. Same (place_of d (root_of d 0) [] ∷ []) (i ∷ [])) (sym (plain_start d law fit)) (same_refl _)

pub exact : Exact
exact d instants law fit known =
    let (ends, c) = chain_exists d law (start_copies d) (copies_below d law) instants in
    (λ words j. j.shows ∙ chain_shows d instants law fit known j.ends j.chain, record { ends = ends; chain = c; shows = sym (chain_shows d instants law fit known ends c) })
