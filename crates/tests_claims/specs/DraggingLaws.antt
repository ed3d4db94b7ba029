-- The decider of the program of Dragging makes its changes by acts,
-- so it keeps the laws of deciders.
-- These are terms, since a decider gives its laws as ghost items. Support of tests, as Dragging is.
use Rattle.std.specs.Prelude.{◌≡◌, ◌∷◌, [], pos, Bool, true, false, if◌then◌else◌}
use Rattle.std.specs.declared.option.Option.TheVariants.{None}
use Rattle.std.specs.declared.result.Result.{Result}
use Rattle.std.specs.declared.result.Result.TheVariants.{Ok, Err}
use Rattle.std.proofs.Common.{ap, subst}
use Rattle.amoebot_state.specs.declared.bot.Port.{Port}
use Rattle.amoebot_state.specs.declared.verdict.Failure.{Failure}
use Rattle.amoebot_state.specs.declared.verdict.Moved.TheVariants as moved
use Rattle.amoebot_state.specs.declared.verdict.Verdict.TheVariants as verdict
use Rattle.amoebot_state.specs.Ports.{is_contracted}
use Rattle.amoebot_state.specs.Configs.{Config, bot_of}
use Rattle.amoebot_state.specs.Zones.{Shown, shown_alone}
use Rattle.amoebot_state.specs.Steps.{IsLawful}
use Rattle.model_ops.specs.declared.peer.Peer.{Peer}
use Rattle.model_ops.specs.Operations.{and_then, connected, peer, pull, write}
use Rattle.model_ops.specs.Reaches.{Acts}
use Rattle.model_ops.specs.Deciders.{DecidesByActs}
use Rattle.model_ops.proofs.ActsDecide.{acts_keep_decider_laws}
use Rattle.model_ops.proofs.Decided.{MadeByActs, made}
use Rattle.tests_claims.specs.Dragging.{drag, note, by_peer, by_link, dragging_shown}

-- the Pull alone, and the write alone
abbrev pub pulling : Port → Acts
pulling p = record { writes = []; guard = true; moved = moved.Pull p }

abbrev pub noting : Acts
noting =
    record { writes = record { port = None; var = 0; value = pos 1 } ∷ []; guard = true; moved = moved.None }

-- acts with one write and no movement perform that write
pub performs_note : (r : Result Config Failure) (d : Config)
    → r ≡ Ok d → and_then (and_then r (λ e. Ok e)) (λ e. Ok e) ≡ Ok d
performs_note r d e =
    ap (λ (x : Result Config Failure). and_then (and_then x (λ (e : Config). Ok e)) (λ (e : Config). Ok e)) e

drag_made : (p : Port) (s : Shown) → MadeByActs s (drag p (shown_alone s) s.bot)
drag_made p s = made s 0 (moved.Pull p) (pulling p) (pull (shown_alone s) s.bot p) (λ d e. e)

note_made : (s : Shown) → MadeByActs s (note (shown_alone s) s.bot)
note_made s =
    let r = write (shown_alone s) s.bot None 0 (pos 1) in
    made s 1 moved.None noting r (performs_note r)

by_peer_made : (p : Port) (s : Shown) (r : Result Peer Failure)
    → MadeByActs s (by_peer p (shown_alone s) s.bot r)
by_peer_made p s (Err f) = tt
by_peer_made p s (Ok seen) = chosen seen.expanded
  where
    chosen : (t : Bool)
        → MadeByActs s (if t then note (shown_alone s) s.bot else drag p (shown_alone s) s.bot)
    chosen true = note_made s
    chosen false = drag_made p s

by_link_made : (p : Port) (s : Shown) (r : Result Bool Failure)
    → MadeByActs s (by_link p (shown_alone s) s.bot r)
by_link_made p s (Err f) = tt
by_link_made p s (Ok true) = by_peer_made p s (peer (shown_alone s) s.bot p)
by_link_made p s (Ok false) = note_made s

dragging_made : (p : Port) (s : Shown) → MadeByActs s (dragging_shown p s)
dragging_made p s = chosen (is_contracted (bot_of (shown_alone s) s.bot))
  where
    chosen : (t : Bool)
        → MadeByActs s
        (if t then verdict.Idle else by_link p (shown_alone s) s.bot (connected (shown_alone s) s.bot p))
    chosen true = tt
    chosen false = by_link_made p s (connected (shown_alone s) s.bot p)

pub dragging_decides_by_acts : (p : Port) → DecidesByActs (dragging_shown p)
dragging_decides_by_acts p s change is e = subst (MadeByActs s) e (dragging_made p s)

pub dragging_is_lawful : (p : Port) → IsLawful (dragging_shown p)
dragging_is_lawful p = acts_keep_decider_laws (dragging_shown p) (dragging_decides_by_acts p)
