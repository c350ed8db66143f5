-- The store of a plain score beside the draft's.
--     Given                what is so of a token that the plain score derives: an old one derives in the draft, a new one has a
--                          member that does
--     given_old, given_new, given_rules, given_clash, given_follows
--                          it is closed under the rules and the clash of the plain score
--     derived_old          what derives in the draft derives in the plain score
--     stores_extend        so the plain store extends the draft's, where what is given to it does
--     start_extends        where an instant starts
--     told_extends         where a token is told
use mathlib.Core.Path.{◌≡◌, refl}
use mathlib.Core.List.{List, [], ◌∷◌, Memᴰ}
use mathlib.Core.Logic.{◌⊎◌, inl, inr}
use Prim.Native.Nat.{ℕ, ◌<◌, ◌≤◌}
use native.Mathlib.Omega.{arith}
use Rattle.laws.proofs.Sets.{Within, Among, on_cons}
use Rattle.tcc.specs.Closure.{Rule}
use Rattle.tcc.specs.Score.{Score}
use Rattle.tcc.specs.Store.{Derived, told, by_rule, by_clash, Closes, store_rules, closure}
use Rattle.tcc.proofs.Closure.{Passes, Follows}
use Rattle.tcc.proofs.Store.{store_follows, derived_least, closure_exact}
use Rattle.draft_language.specs.Draft.{Draft, whens}
use Rattle.draft_language.proofs.Carries.{Extends, member_rule, Carries}

module _ {d : Draft} {sc : Score} {Member : ℕ → ℕ → Type 0} {Ok : List ℕ → Type 0} {Standing : ℕ → List ℕ → Type 0} {place : ℕ → List ℕ → ℕ} (carries : Carries d sc Member Ok Standing place) where
  module _ (g : List ℕ) where
    abbrev Given : ℕ → Type 0
    Given t = (t < d.tokens → Derived (whens d) g t) × (d.tokens ≤ t → (m : ℕ) × Member t m × Derived (whens d) g m)

    given_old : (r : Rule ℕ) → Memᴰ r d.rules → Passes Given r
    given_old r m h = (
      λ l. by_rule r m (λ t k. (h t k).0 (carries.lawful.premises_known r t m k)) refl,
      λ n. absurd (omega (arith, carries.lawful.conclusions_known r m)),
    )

    given_new : (u m : ℕ) → Member u m → Passes Given (member_rule u m)
    given_new u m is h = (
      λ l. absurd (omega (arith, carries.members_new u m is)),
      λ n. (m, is, (h m (Memᴰ.head refl)).0 (carries.members_old u m is)),
    )

    given_rules : Follows Given sc.rules
    given_rules r m = go (carries.no_others r m)
      where
        go : Memᴰ r d.rules ⊎ ((u : ℕ) × (n : ℕ) × Member u n × (r ≡ member_rule u n)) → Passes Given r
        go (inl old) = given_old r old
        go (inr x) = rw x.3 (given_new x.0 x.1 x.2)

    given_clash : (t : ℕ) → Given 0 → t < sc.tokens → Given t
    given_clash t z h =
        let clash = z.0 carries.lawful.some_tokens in (
          λ l. by_clash clash l,
          λ n. let x = carries.some_member t n h in (x.0, x.1, by_clash clash (carries.members_old t x.0 x.1)),
        )

    given_follows : Follows Given (store_rules sc)
    given_follows = store_follows sc given_rules given_clash

    module _ (g' : List ℕ) (few : Among g g') where
      derived_old : (t : ℕ) → Derived (whens d) g t → Derived sc g' t
      derived_old = derived_least (whens d) g (Derived sc g')
          (store_follows (whens d) (λ r m h. by_rule r (carries.old_rules r m) h refl) (λ t z l. by_clash z (omega (arith, carries.tokens_more))))
          (λ t m. told (few t m))

      stores_extend : {s p : List ℕ} → Within Given g' → Closes (whens d) g s → Closes sc g' p → Extends d Member s p
      stores_extend {s} {p} given holds closes = record {
        old = λ t m. (closes t).1 (derived_old t ((holds t).0 m));
        back = λ t l m. (holds t).1 ((given_derived t m).0 l);
        new = λ u m is k. let x : Derived sc g' m = derived_old m ((holds m).0 k) in
            (closes u).1 (by_rule (member_rule u m) (carries.new_rules u m is) (on_cons x (on_cons x (λ t n. elim n [ ]))) refl);
        from_new = λ u n m. let x = (given_derived u m).1 n in (x.0, x.1, (holds x.0).1 x.2);
      }
        where
          given_derived : Within Given p
          given_derived t m = derived_least sc g' Given given_follows given t ((closes t).0 m)

  pub start_extends : {s : List ℕ} → Closes (whens d) [] s → Extends d Member s (closure sc [])
  start_extends holds = stores_extend [] [] (λ t m. m) (λ t m. elim m [ ]) holds (closure_exact sc [])

  pub told_extends : {t : ℕ} {s s' p : List ℕ} → t < d.tokens → Extends d Member s p → Closes (whens d) (t ∷ s) s' → Extends d Member s' (closure sc (t ∷ p))
  told_extends {t} {s} {s'} {p} known extends holds = stores_extend (t ∷ s) (t ∷ p)
      (on_cons (Memᴰ.head refl) (λ u m. Memᴰ.tail (extends.old u m)))
      (on_cons (λ l. told (Memᴰ.head refl), λ n. absurd (omega arith))
      (λ u m. (λ l. told (Memᴰ.tail (extends.back u l m)), λ n. let x = extends.from_new u n m in (x.0, x.1, told (Memᴰ.tail x.2)))))
      holds (closure_exact sc (t ∷ p))
