-- `bits::any_from`: the rest has the flags from `from` on.
use Rattle.std.proofs.Common.{◌≡◌, ◌∙◌, sym, ap, ap₂, ℕ, ◌+◌, ◌≤◌, Bool, true, false, length, get_or, leb, List, arith, suc}
use mathlib.Core.Bool.{◌&&◌, ◌||◌, and-false}
use lib.ListN.{get_or-eq_default}
use borrow.Author.Tests.{lt-leb, le-leb}
use Rattle.std.proofs.lemmas.Grind.{common_steps}
use Rattle.laws.specs.Sets.{any, below}
use Rattle.laws.proofs.Any.{any_more, any_none, any_keep, any_beyond}
use Rattle.flags.specs.Flags.{set_of}
use Rattle.bits.proofs.any_from.Goals as goal

-- the flags from `from` on
module _ (from : ℕ) (flags : List Bool) where
  abbrev flagged : ℕ → Bool
  flagged n = leb from n && get_or flags n false

  none_below : (n : ℕ) → n ≤ from → any flagged (below n) ≡ false
  none_below n h = any_none flagged n (λ j l. ap (λ b. b && get_or flags j false) (lt-leb from j (omega arith)))

  all_below : (n : ℕ) → length flags ≤ n → any flagged (below n) ≡ any (λ i. leb from i) (set_of flags)
  unfolding set_of
  all_below n h =
      any_beyond flagged (length flags) n h (λ j l. ap (λ b. leb from j && b) (get_or-eq_default flags false l) ∙ and-false (leb from j))
      ∙ sym (any_keep (λ i. leb from i) (λ i. get_or flags i false) (below (length flags)))

pub loop-flag-init : goal.loop-flag-init
loop-flag-init c = sym (none_below c.args.from c.args.flags.now (c.args.from + 0) (omega arith))

pub loop-flag-preserved : goal.loop-flag-preserved
loop-flag-preserved c = let a = c.args in
    let i = c.loop-flag.flag-index in
    let g : ℕ → Bool = flagged a.from a.flags.now in
    let rest = c.in-Some.ensures.lookup.0.2 in
    let flag : get_or c.in-Some.rest.now i false ≡ get_or a.flags.now (a.from + i) false = grind (arith, common_steps, rest) in
    let next : a.from + (i + 1) ≡ suc (a.from + i) = omega arith in
    let counts : leb a.from (a.from + i) ≡ true = le-leb a.from (a.from + i) (omega arith) in
    ap₂ ◌||◌ c.loop-flag.invariant (flag ∙ ap (λ b. b && get_or a.flags.now (a.from + i) false) (sym counts))
    ∙ sym (ap (λ n. any g (below n)) next ∙ any_more g (a.from + i))

pub returns-after-loop-flag : goal.returns-after-loop-flag
returns-after-loop-flag c = let a = c.args in
    c.loop-flag.invariant ∙ all_below a.from a.flags.now (a.from + c.loop-flag.flag-index) (omega (arith, c.in-Some.ensures.lookup.0.3))

pub returns-in_default : goal.returns-in_default
returns-in_default c = let a = c.args in
    sym (none_below a.from a.flags.now a.from (omega arith)) ∙ all_below a.from a.flags.now a.from (omega (arith, c.in_default.ensures.lookup.0))
