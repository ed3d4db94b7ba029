-- What a run leaves of a configuration: its area, its maxima and its ids; and that the lists' amoebots are there.
use Rattle.std.proofs.Common.{ℕ, ◌*◌, ◌%◌, ◌<◌, ◌≤◌, List, [], ◌∷◌, length, ap, sym, refl, subst, ◌∙◌, arith}
use Rattle.std.specs.Prelude.{IsSome}
use Rattle.amoebot_state.specs.declared.verdict.Entry.{Entry}
use Rattle.amoebot_state.specs.declared.verdict.Verdict.{Verdict}
use Rattle.amoebot_state.specs.Configs.{Config, IsValid, bot_at}
use Rattle.amoebot_state.specs.Zones.{Shown}
use Rattle.amoebot_state.specs.Patches.{HasSameIds}
use Rattle.amoebot_state.specs.Steps.{Step, Run}
use Rattle.amoebot_state.proofs.Occupants.{there_below}
use Rattle.claim_core.specs.Turns.{list_of}
use Rattle.claim_core.specs.Machine.{Setup, bot}
use Rattle.claim_core.specs.Soundness.{IsSetup}

-- a valid configuration that differs in its amoebots at most, and has the same ids
pub record IsFramed (old new : Config) : Type 0 where
  pub valid : IsValid new
  pub same : HasSameIds old new

-- it is so of itself
pub framed_first : (old : Config) → IsValid old → IsFramed old old
framed_first old valid = record { valid = valid; same = record { rest = refl; size = refl; ids = λ i. refl } }

module _ (f : Shown → Verdict) (old : Config) where
  -- a step leaves such a configuration
  pub framed_step : (mid new : Config) (e : Entry) → IsFramed old mid → Step f mid e new → IsFramed old new
  framed_step mid new e framed step =
      let is = step.patched in
      record {
        valid = is.valid;
        same = record {
          rest = is.same.rest ∙ ap (λ (c : Config). let d : Config = record c { bots = new.bots } in d) framed.same.rest;
          size = is.same.size ∙ framed.same.size;
          ids = λ i. is.same.ids i ∙ framed.same.ids i;
        };
      }

  -- and so does a run from one
  pub framed_on : (mid new : Config) (es : List Entry) → IsFramed old mid → Run f mid es new → IsFramed old new
  framed_on mid new [] framed run = subst (λ (c : Config). IsFramed old c) (sym run) framed
  framed_on mid new (e ∷ es) framed (next, step, run) = framed_on next new es (framed_step mid next e framed step) run

-- from a valid one a run leaves such a configuration of it
pub run_framed : (f : Shown → Verdict) (old new : Config) (es : List Entry) → IsValid old → Run f old es new → IsFramed old new
run_framed f old new es valid run = framed_on f old old new es (framed_first old valid) run

module _ (g : Setup) (ok : IsSetup g) (c t : ℕ) (known : c < length g.lists.ids) where
  -- the amoebot of a turn is there
  pub own_there : IsSome (bot_at g.world (bot g c t))
  own_there =
      let ids = list_of g.lists c in
      let some : 0 < length ids = (ok.lists.each c [] known).some in
      ok.bots c [] known (t % length ids) 0 (omega (arith))

  pub own_stays : (new : Config) → IsFramed g.world new → IsSome (bot_at new (bot g c t))
  own_stays new framed = framed.same.ids (bot g c t) ∙ own_there

  -- and its number is small
  pub own_small : bot g c t < 4096
  own_small = omega (arith, ok.few, there_below g.world (bot g c t) own_there)

-- so are the numbers of turns
product_bound : (n m k : ℕ) → 0 < n → n * m ≤ k → m ≤ k
product_bound n m k some le = grind arith

pub turn_small : (g : Setup) → IsSetup g → (c t : ℕ) → c < length g.lists.ids → t < g.lists.turns → t < 65536
turn_small g ok c t known lt =
    let few = product_bound (length g.lists.ids) g.lists.turns 65536 (omega arith) ok.lists.few.in_all in
    omega arith
