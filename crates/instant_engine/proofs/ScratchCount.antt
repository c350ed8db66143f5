-- The count is the number of bits set before they are cleared.
--     aborts_so        marks with a live abort: the instant aborts
--     settled_so       marks without: it ends as they say
--     scratch_count    by the one and the other
use mathlib.Core.Path.{◌≡◌, sym, ap, ◌∙◌}
use mathlib.Core.Bool.{Bool, true, false}
use mathlib.Core.List.{List}
use Prim.Native.Nat.{ℕ}
use lib.ListN.{length}
use Rattle.std.specs.Prelude.{None, Some}
use Rattle.laws.specs.Sets.{any}
use Rattle.laws.proofs.Booleans.{true_is_false}
use Rattle.laws.proofs.Sets.{any_some, some_any}
use Rattle.tcc.specs.Score.{Score, agent_at}
use Rattle.tcc.specs.Instant.{is_abort, count, aborted_answer, instant}
use Rattle.tcc.specs.FixedPoint.{Settled}
use Rattle.tcc.proofs.FixedPoint.{is_abort_lem, aborts, settles}
use Rattle.instant_engine.specs.Marks.{Fixed}
use Rattle.instant_engine.specs.ScratchCount.{ScratchCount}

module _ (sc : Score) (agents inputs live held : List ℕ) (fixed : Fixed sc agents inputs live held) where
  abbrev Aborting : Bool
  Aborting = any (λ i. is_abort (agent_at sc i)) live

  pub aborts_so : true ≡ Aborting → instant sc agents inputs ≡ aborted_answer
  aborts_so e =
      let x = any_some (λ i. is_abort (agent_at sc i)) live (sym e) in
      aborts sc agents inputs live held fixed.sound x.0 x.1 (is_abort_lem (agent_at sc x.0) x.2)

  pub settled_so : false ≡ Aborting → Settled sc live held (instant sc agents inputs)
  settled_so none = settles sc agents inputs live held fixed.sound fixed.closed
      (λ i m e. true_is_false (some_any (λ j. is_abort (agent_at sc j)) m (ap is_abort e)) (sym none))

pub scratch_count : ScratchCount
scratch_count sc agents inputs live held marked cleared None number fixed ended tallied =
    let z = aborts_so sc agents inputs live held fixed ended.aborted in
    record {
      bits = λ other. absurd (other (ap (λ a. a.status) z));
      counted = λ other. absurd (other (ap (λ a. a.status) z));
      aborted = λ two. ap count z;
      zero = tallied.cleared;
    }
scratch_count sc agents inputs live held marked cleared (Some awake) number fixed ended tallied =
    let s = settled_so sc agents inputs live held fixed ended.aborted in
    record {
      bits = λ other. ended.reduced ∙ s.same_reduced;
      counted = λ other. tallied.counted ∙ ap length (ended.reduced ∙ s.same_reduced);
      aborted = λ two. absurd (s.unaborted two);
      zero = tallied.cleared;
    }
