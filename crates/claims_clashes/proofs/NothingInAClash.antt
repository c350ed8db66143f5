-- Nothing to the drives in a clash.
--     clash_shown                 the words of a run one of whose instants clashes
--     at_the_call, at_the_run     of an accepted instant call, and of each instant of a run
--     nothing_in_a_clash          both: the theorem
use mathlib.Core.Path.{◌≡◌, sym, ap, ap₂, ◌∙◌}
use mathlib.Core.List.{List, [], ◌∷◌, ◌++◌, append_assoc}
use Prim.Native.Nat.{◌*◌}
use lib.ListN.{length, drop}
use Rattle.bits.specs.Bits.{bytes_of}
use Rattle.lent_maps.specs.Maps.{tokens_in}
use Rattle.journal_words.specs.History.{instant_words}
use Rattle.claims_demands.specs.Calls.{Answered}
use Rattle.claims_demands.specs.Determinacy.{shown_by}
use Rattle.claims_demands.proofs.Instants.{accepted_instant}
use Rattle.claims_demands.proofs.Linked.{linked_split}
use Rattle.claims_demands.proofs.Played.{plays_linked}
use Rattle.claims_demands.proofs.Runs.{taken_rises, run_shown}
use Rattle.claims_clashes.specs.NothingInAClash.{clashed_words, AtTheCall, AtTheRun, NothingInAClash}
use Rattle.claims_clashes.proofs.Commands.{commands, silent}

clash_shown : (earlier later : List Answered) (p : Answered) → p.status ≡ 1 → tokens_in p.output ≡ [] → shown_by (earlier ++ p ∷ later) ≡ clashed_words earlier p later
clash_shown [] later p e none = ap₂ (λ n l. instant_words n p.inputs l ++ shown_by later) e none
clash_shown (q ∷ earlier) later p e none =
    let ws = instant_words q.status q.inputs (tokens_in q.output) in
    let clashed = instant_words 1 p.inputs [] in
    ap (λ l. ws ++ l) (clash_shown earlier later p e none)
    ∙ sym (append_assoc ws (shown_by earlier ++ clashed) (shown_by later))
    ∙ ap (λ l. l ++ shown_by later) (sym (append_assoc ws (shown_by earlier) clashed))

at_the_call : AtTheCall
at_the_call score input before after answer c accepted = commands (accepted_instant c accepted)

at_the_run : AtTheRun
at_the_run score inputs before after answer c earlier later p last plays =
    let h = (linked_split earlier later p (plays_linked score (taken_rises c) plays)).0 in (
      commands h,
      λ m.
          let e = (commands h).clash m in
          (run_shown c plays).journal ∙ ap (λ ws. bytes_of ws ++ drop (4 * length ws) before.journal) (clash_shown earlier later p e (silent h e)),
    )

pub nothing_in_a_clash : NothingInAClash
nothing_in_a_clash = (at_the_call, at_the_run)
